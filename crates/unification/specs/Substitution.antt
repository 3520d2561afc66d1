-- Bindings as one substitution, composed in the order in which they were made.
use Rattle.std.specs.Prelude.{List, [], ◌∷◌, ℕ}
use Rattle.record.specs.Record.{pick}
use Rattle.unification.specs.Environment.{Binding}
use Rattle.unification.specs.Row.{Variable, same, written_out}
use Rattle.unification.specs.Term.{Term, var, apply}

-- The substitution of t for x.
abbrev pub single : Variable → Term Variable → Variable → Term Variable
single x t y = pick (same y x) t (var y)

-- σ with more bindings, the newest first: a new binding's expression is written out by what was found before it, and put into that.
abbrev pub composed : (ℕ → Term ℕ) → (Variable → Term Variable) → List Binding → Variable → Term Variable
composed term σ [] y = σ y
composed term σ (b ∷ bs) y = apply (single b.0 (written_out term (composed term σ bs) b.1)) (composed term σ bs y)
