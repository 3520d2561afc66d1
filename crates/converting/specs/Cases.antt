-- Document 02, Q-11: two short files, record for record, each way.
use Rattle.std.specs.Prelude.{◌≡◌, List, [], ◌∷◌, ℕ}
use Rattle.std.proofs.Math.Option.{none}
use Rattle.record.specs.Record.{Record, with_days}
use Rattle.converting.specs.Converting.{to_new_records, to_old_records}

-- A record of the old form.
abbrev pub plain : ℕ → ℕ → List ℕ → Record
plain kind count fields = record { kind = kind; count = count; fields = fields; days = none }

-- A symbol; a row; an input clause; and a factor, which is a clause.
abbrev pub symbol_record : Record
symbol_record = plain 1 0 (0 ∷ 0 ∷ 0 ∷ 0 ∷ 0 ∷ 0 ∷ 0 ∷ [])

abbrev pub row_record : Record
row_record = plain 3 0 (0 ∷ 0 ∷ 0 ∷ 0 ∷ 0 ∷ 0 ∷ 0 ∷ [])

abbrev pub input_record : Record
input_record = plain 4 2 (1 ∷ 1 ∷ 0 ∷ 0 ∷ 0 ∷ 0 ∷ 0 ∷ [])

abbrev pub factor_record : Record
factor_record = plain 6 0 (0 ∷ 1 ∷ 2 ∷ 0 ∷ 0 ∷ 0 ∷ 0 ∷ [])

-- The window of a clause, as a record of kind 8.
abbrev pub window : ℕ → ℕ → ℕ → Record
window clause first last = plain 8 0 (clause ∷ first ∷ last ∷ 0 ∷ 0 ∷ 0 ∷ 0 ∷ [])

-- Clauses 0, 2 and 3 are input clauses, and 1 is a step's. Clause 0 is dated three times, clause 3 one time, and clause 2 not at all.
abbrev pub old_ones : List Record
old_ones =
    symbol_record ∷ row_record ∷ input_record ∷ window 0 5 9 ∷ window 0 6 8 ∷ factor_record ∷ input_record ∷ input_record ∷ window 3 20 30 ∷ window 0 7 7 ∷ []

-- The last window supersedes, wherever it stands; no window is always.
abbrev pub new_ones : List Record
new_ones =
    with_days symbol_record 0 0
    ∷ with_days row_record 0 0
    ∷ with_days input_record 7 7
    ∷ with_days factor_record 0 0
    ∷ with_days input_record 0 65535
    ∷ with_days input_record 20 30
    ∷ []

-- Back again each window stands straight after its clause, and clause 2 has none.
abbrev pub old_again : List Record
old_again = symbol_record ∷ row_record ∷ input_record ∷ window 0 7 7 ∷ factor_record ∷ input_record ∷ input_record ∷ window 3 20 30 ∷ []

pub record CasesHold : Type 0 where
  pub to_new : to_new_records old_ones ≡ new_ones
  pub to_old : to_old_records new_ones ≡ old_again
  pub new_again : to_new_records old_again ≡ new_ones
  -- A window that says always in so many words is not written back.
  pub always_written : to_new_records (input_record ∷ window 0 0 65535 ∷ []) ≡ with_days input_record 0 65535 ∷ []
  pub always_back : to_old_records (with_days input_record 0 65535 ∷ []) ≡ input_record ∷ []
