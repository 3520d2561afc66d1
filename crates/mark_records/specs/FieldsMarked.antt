-- The marks of what a record names, field by field as the program goes. No promise needs this file; what is marked stands in the crate marking.
use Rattle.std.specs.Prelude.{List, [], ◌∷◌, ℕ, suc, set}
use Rattle.record.specs.Record.{pick}
use Rattle.naming.specs.Naming.{is_nothing, record_named}
use Rattle.naming.specs.declared.Named.{Named}

module _ (symbols rows clauses : List ℕ) where
  -- A field with the number n, and some fields, of which the first is field i.
  abbrev pub field_marked : Named → ℕ → List ℕ → List ℕ
  field_marked what n marks = pick (is_nothing what) marks (set marks (record_named symbols rows clauses what n) 1)

  abbrev pub fields_marked : (ℕ → Named) → ℕ → List ℕ → List ℕ → List ℕ
  fields_marked named i [] marks = marks
  fields_marked named i (f ∷ fs) marks = fields_marked named (suc i) fs (field_marked (named i) f marks)
