-- Document 02, Q-2: a repeated row is the earliest equal one, and what that leaves as it was.
use mathlib.Core.Path.{◌≡◌, refl, sym, ap, ap₂, ◌∙◌}
use mathlib.Core.Bool.{true}
use mathlib.Core.Option.{some}
use mathlib.Core.List.{[]}
use Prim.Native.Nat.{ℕ, ◌+◌, ◌<◌}
use lib.ListN.{length, take}
use Rattle.record.specs.Record.{pick, File, records}
use Rattle.record.proofs.Records.{records_shaped}
use Rattle.unification.specs.Repeated.{IsEarliest}
use Rattle.unification.specs.Row.{Expression, Variable}
use Rattle.derivation.specs.Derivation.{Derivation, lookup}
use Rattle.derivation.proofs.Known.{KnownRows, known_lookup}
use Rattle.unification.specs.Term.{Term}
use Rattle.unification.proofs.Repeats.{earliest_same, same_earliest}
use Rattle.verdict.specs.Refusal.{badLength, shortTable}
use Rattle.demands.specs.Repeats.{written_rows, number_term, term_by_numbers, NoRepeats, reading_as_written, replaced_file, RepeatedRows}
use Rattle.verdict.specs.State.{State, empty_state, rows_of, derivations, clause_of, row_of, earliest_of}
use Rattle.verdict.specs.Step.{read, Ending, all_stand}
use Rattle.verdict.specs.Verdict.{Lengths, fitting_length, fitting, long_enough, ending, untouched, read_to, reading}
use Rattle.demands.proofs.Replacing.{replaced_length, replaced_ending}
use Rattle.demands.proofs.Inversions.{entry_each}
use Rattle.demands.proofs.Reading.{whole_records, read_ok, start_ok, shaped_take}
use Rattle.demands.proofs.Shared.{shared_start, shared_arguments}
use Rattle.demands.proofs.Standing.{StateOk, order_of}
use Rattle.demands.proofs.Unrepeated.{read_as_written_lem}
use Rattle.demands.proofs.WrittenRows.{number_law, equal_terms, ReadSame, no_rows, read_same}

-- Over a state that reading comes to.
module _ (file : File) (k : ℕ) (S : State) (q : read empty_state 0 (take k (records file)) ≡ all_stand S) where
  abbrev written : ℕ → Term ℕ
  written = term_by_numbers (written_rows (take k (records file)))

  there : ReadSame S (written_rows (take k (records file)))
  there = read_same empty_state 0 (take k (records file)) [] S (record { shared = shared_start; same = no_rows }) q

  same_term_lem : (p r : ℕ) → p < length (rows_of S) → r < length (rows_of S) → earliest_of S p ≡ earliest_of S r → written p ≡ written r
  same_term_lem p r l m e =
      let law = number_law (rows_of S) there.shared.rows_shared in
      sym (there.same.terms p) ∙ law p l ∙ ap (number_term (term_by_numbers (rows_of S))) (same_earliest (rows_of S) p r l m e) ∙ sym (law r m) ∙ there.same.terms r

  same_row_lem : (p r : ℕ) → p < length (rows_of S) → r < length (rows_of S) → written p ≡ written r → earliest_of S p ≡ earliest_of S r
  same_row_lem p r l m e =
      earliest_same (rows_of S) p r l m (equal_terms (rows_of S) there.shared.rows_shared p r l m (there.same.terms p ∙ e ∙ sym (there.same.terms r)))

  -- Over earliest rows all along, so over those that are looked up.
  ok : StateOk (0 + length (take k (records file))) S
  ok = rw q at (read_ok 0 empty_state 0 (take k (records file)) (shaped_take k (records file) (records_shaped file)) start_ok)

  bindings_earliest_lem : (n : ℕ) (c : Derivation) → clause_of S n ≡ some c → (x : Variable) (e : Expression) → lookup c x ≡ some e → IsEarliest (rows_of S) x.0 × IsEarliest (rows_of S) e.0
  bindings_earliest_lem n c p =
      let H = there.shared in
      known_lookup (IsEarliest (rows_of S)) (row_of S) (row_of S) (λ r l. refl) (λ r s xs w E. shared_arguments (rows_of S) H.rows_shared r s xs w E.there)
      c (order_of (0 + length (take k (records file))) S ok n c p).valid (entry_each (KnownRows (IsEarliest (rows_of S))) (derivations S) H.clauses_shared n c p)

-- What becomes of a file, where its reading comes to one ending.
unrepeated : (file : File) → NoRepeats (records file) → (lengths : Lengths) → reading file lengths ≡ reading_as_written file lengths
unfolding ending
unrepeated file n lengths =
    ap (λ (e : Ending). pick (fitting file) (pick (long_enough lengths) (read_to e) (untouched shortTable)) (untouched badLength)) (read_as_written_lem empty_state 0 (records file) n)

replacing : (file : File) → fitting file ≡ true → (lengths : Lengths) → reading (replaced_file file) lengths ≡ reading file lengths
replacing file f lengths =
    let whole = whole_records file.form file.bytes f in
    ap₂ (λ (n : ℕ) (e : Ending). pick (fitting_length file.form n) (pick (long_enough lengths) (read_to e) (untouched shortTable)) (untouched badLength)) (replaced_length file whole) (replaced_ending file)

pub repeats_shown : (file : File) → RepeatedRows file
repeats_shown file = record {
  as_many = λ k S q. (there file k S q).same.same_length;
  as_written = λ k S q. (there file k S q).same.terms;
  same_term = λ k S q p r l m e. same_term_lem file k S q p r l m e;
  same_row = λ k S q p r l m e. same_row_lem file k S q p r l m e;
  bindings_earliest = λ k S q n c p x e l. bindings_earliest_lem file k S q n c p x e l;
  unrepeated = unrepeated file;
  replacing = replacing file;
}
