-- The bytes that the program writes for a file that is accepted on a day are those of the trimmed file.
use mathlib.Core.Path.{◌≡◌, sym, ap, ◌∙◌}
use mathlib.Core.Option.{Option, none, some}
use mathlib.Core.List.{List, map}
use Prim.Native.Nat.{ℕ, ◌≤◌, ◌<◌}
use lib.ListN.{length, get_or, set}
use Rattle.record.specs.Bytes.{file_bytes, Bytes}
use Rattle.record.specs.Record.{old_file, Record, record_count, records}
use Rattle.derivation.specs.Derivation.{Derivation}
use Rattle.derivation.specs.Stored.{record_cell}
use Rattle.raising.specs.Wrapped.{wrapped}
use Rattle.verdict.specs.Force.{uses_in_force}
use Rattle.verdict.specs.State.{State, derivations, clause_of}
use Rattle.verdict.specs.Step.{all_stand, state_of}
use Rattle.verdict.specs.Verdict.{first_empty, ending, Stands}
use Rattle.demands.proofs.Acceptance.{first_lowest}
use Rattle.trimming.specs.Trimming.{first_numbers, accepted_clause, trimmed_for, trimmed_records, trimmed_file}
use Rattle.marking.specs.Marking.{marked_down, dated_down, marked_records}
use Rattle.marking.proofs.KeptRecords.{TablesAre}
use Rattle.marking.proofs.MarkedFile.{marked_trimmed, trimmed_wrapped}

-- The clause that a file is accepted with is there.
accepted_there : (day : ℕ) (S : State) (n : ℕ) → first_empty (uses_in_force S day) (derivations S) ≡ some n → (c : Derivation) × (clause_of S n ≡ some c)
accepted_there day S n e = let L = first_lowest (uses_in_force S day) (derivations S) n e in (L.clause, L.is_clause)

accepted_is : (day : ℕ) (S : State) (n : ℕ) (c : Derivation) → first_empty (uses_in_force S day) (derivations S) ≡ some n → clause_of S n ≡ some c → accepted_clause day S ≡ some c
accepted_is day S n c e q = ap (λ (o : Option ℕ). elim o [ none ↦ none | some m ↦ clause_of S m ]) e ∙ q

trimmed_of : (day : ℕ) (file : List ℕ) (S : State) (o : Option Derivation) → ending (old_file file) ≡ all_stand S → accepted_clause day S ≡ o → trimmed_records day file ≡ trimmed_for S o (records (old_file file))
trimmed_of day file S o r e =
    let s = ap state_of r in
    ap (λ (T : State). trimmed_for T (accepted_clause day T) (records (old_file file))) s ∙ ap (λ (p : Option Derivation). trimmed_for S p (records (old_file file))) e

pub written_trimmed : (day : ℕ) (file : List ℕ) (S : State) → Bytes file → Stands (old_file file) S → (n : ℕ) → first_empty (uses_in_force S day) (derivations S) ≡ some n
    → (Y R C : List ℕ) → TablesAre S Y R C → (M D : List ℕ) → 4096 ≤ length M → ((j : ℕ) → j < 4096 → get_or M j 0 ≡ 0) → 4096 ≤ length D
    → file_bytes (map wrapped (marked_records Y R C (dated_down Y R C (old_file file) (record_count (old_file file)) (marked_down Y R C (old_file file) (record_count (old_file file)) (set M (record_cell C n) 1))) D first_numbers 0 (records (old_file file)))) ≡ trimmed_file day file
unfolding trimmed_file
written_trimmed day file S b st n e Y R C G M D long zeros room =
    let z = accepted_there day S n e in
    ap (λ (rs : List Record). file_bytes (map wrapped rs)) (marked_trimmed file S st Y R C G n z.0 z.1 M D long zeros room)
    ∙ ap file_bytes (trimmed_wrapped S (some z.0) file b ∙ sym (trimmed_of day file S (some z.0) st.reads (accepted_is day S n z.0 e z.1)))
