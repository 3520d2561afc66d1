-- Document 02, Q-12: a file trimmed to what its accepted clause uses, on its records. Both files are of the old form.
use Rattle.std.specs.Prelude.{Bool, false, ◌&&◌, ◌||◌, not, List, [], ◌∷◌, ◌++◌, map, ℕ, zero, suc, ◌+◌, eqb, take, drop}
use Rattle.std.proofs.Math.Option.{Option, none, some}
use Rattle.record.specs.Bytes.{file_bytes}
use Rattle.record.specs.Record.{pick, old_file, Record, records, otherKind, Kind, symbolKind, variableKind, applicationKind, inputKind, resolveKind, factorKind, severalKind, windowKind, field_a, field_b, field_c}
use Rattle.derivation.specs.Derivation.{literal_of, Derivation}
use Rattle.derivation.specs.Stored.{literal_number}
use Rattle.renumbering.specs.Renumbering.{Renumbering, renumbered_row_literal}
use Rattle.verdict.specs.Force.{uses_in_force}
use Rattle.verdict.specs.Refusal.{kind_of_record, argument_rows}
use Rattle.verdict.specs.State.{State, derivations, clause_of, earliest_of}
use Rattle.verdict.specs.Step.{state_of}
use Rattle.verdict.specs.Verdict.{first_empty, ending}
use Rattle.trimming.specs.Kept.{Kept, kept_for}

-- ── Numbers close up ──

-- How many numbers below n are kept: the number that n gets, if it is kept.
abbrev pub kept_below : (ℕ → Bool) → ℕ → ℕ
kept_below kept zero = 0
kept_below kept (suc n) = pick (kept n) 1 0 + kept_below kept n

-- A repeated row is replaced by the earliest.
abbrev pub closed_up : State → Kept → Renumbering
closed_up S K = record { symbol = λ s. kept_below K.symbol s; row = λ r. kept_below K.row (earliest_of S r); clause = λ n. kept_below K.clause n }

-- The fields of a record. Variable numbers, literal numbers and days stay, and unused fields stay zero.
abbrev pub closed_fields : Renumbering → Kind → Record → List ℕ
closed_fields N applicationKind r = N.symbol (field_a r) ∷ (map N.row (argument_rows r) ++ drop (1 + r.count) r.fields)
closed_fields N inputKind r = map (λ m. literal_number (renumbered_row_literal N (literal_of m))) (take r.count r.fields) ++ drop r.count r.fields
closed_fields N resolveKind r = N.clause (field_a r) ∷ field_b r ∷ N.clause (field_c r) ∷ drop 3 r.fields
closed_fields N severalKind r = N.clause (field_a r) ∷ field_b r ∷ N.clause (field_c r) ∷ drop 3 r.fields
closed_fields N factorKind r = N.clause (field_a r) ∷ drop 1 r.fields
closed_fields N windowKind r = N.clause (field_a r) ∷ drop 1 r.fields
closed_fields N symbolKind r = r.fields
closed_fields N variableKind r = r.fields
closed_fields N otherKind r = r.fields

abbrev pub closed_record : Renumbering → Record → Record
closed_record N r = record { kind = r.kind; count = r.count; fields = closed_fields N (kind_of_record r) r; days = r.days }

-- ── Records that are kept ──

-- The numbers that the next symbol, row and clause have; and after a record.
pub record Next : Type 0 where
  pub symbol : ℕ
  pub row : ℕ
  pub clause : ℕ

abbrev pub first_numbers : Next
first_numbers = record { symbol = 0; row = 0; clause = 0 }

abbrev pub next_symbol : Next → Next
next_symbol n = record { symbol = suc n.symbol; row = n.row; clause = n.clause }

abbrev pub next_row : Next → Next
next_row n = record { symbol = n.symbol; row = suc n.row; clause = n.clause }

abbrev pub next_clause : Next → Next
next_clause n = record { symbol = n.symbol; row = n.row; clause = suc n.clause }

abbrev pub next_after : Next → Kind → Next
next_after n symbolKind = next_symbol n
next_after n variableKind = next_row n
next_after n applicationKind = next_row n
next_after n inputKind = next_clause n
next_after n resolveKind = next_clause n
next_after n severalKind = next_clause n
next_after n factorKind = next_clause n
next_after n windowKind = n
next_after n otherKind = n

-- One of some records is a window of clause n.
abbrev pub is_window_of : ℕ → Kind → Record → Bool
is_window_of n windowKind r = eqb (field_a r) n
is_window_of n symbolKind r = false
is_window_of n variableKind r = false
is_window_of n applicationKind r = false
is_window_of n inputKind r = false
is_window_of n resolveKind r = false
is_window_of n severalKind r = false
is_window_of n factorKind r = false
is_window_of n otherKind r = false

abbrev pub dated_in : List Record → ℕ → Bool
dated_in [] n = false
dated_in (r ∷ rs) n = is_window_of n (kind_of_record r) r || dated_in rs n

-- A record is kept if what it declares is kept; a window, if its clause is kept and no later window supersedes it.
abbrev pub is_kept : Kept → Next → Kind → Record → List Record → Bool
is_kept K n symbolKind r later = K.symbol n.symbol
is_kept K n variableKind r later = K.row n.row
is_kept K n applicationKind r later = K.row n.row
is_kept K n inputKind r later = K.clause n.clause
is_kept K n resolveKind r later = K.clause n.clause
is_kept K n severalKind r later = K.clause n.clause
is_kept K n factorKind r later = K.clause n.clause
is_kept K n windowKind r later = K.clause (field_a r) && not (dated_in later (field_a r))
is_kept K n otherKind r later = false

-- Records in their order, of which the first has these numbers: the kept ones, with numbers closed up.
abbrev pub trimmed_from : Kept → Renumbering → Next → List Record → List Record
trimmed_from K N n [] = []
trimmed_from K N n (r ∷ rs) =
    pick (is_kept K n (kind_of_record r) r rs) (closed_record N r ∷ trimmed_from K N (next_after n (kind_of_record r)) rs) (trimmed_from K N (next_after n (kind_of_record r)) rs)

-- ── A file on a day ──

-- The clause that a state is accepted with, if it is.
abbrev pub accepted_clause : ℕ → State → Option Derivation
accepted_clause day S = elim (first_empty (uses_in_force S day) (derivations S)) [ none ↦ none | some n ↦ clause_of S n ]

abbrev pub trimmed_for : State → Option Derivation → List Record → List Record
trimmed_for S none rs = []
trimmed_for S (some c) rs = trimmed_from (kept_for S c) (closed_up S (kept_for S c)) first_numbers rs

abbrev pub trimmed_records : ℕ → List ℕ → List Record
trimmed_records day file = trimmed_for (state_of (ending (old_file file))) (accepted_clause day (state_of (ending (old_file file)))) (records (old_file file))

unfoldable pub trimmed_file : ℕ → List ℕ → List ℕ
trimmed_file day file = file_bytes (trimmed_records day file)
