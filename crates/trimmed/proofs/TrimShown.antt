-- What is shown of the trimmed file of an accepted one, all together.
use mathlib.Core.Path.{◌≡◌, sym, ap, ◌∙◌, subst}
use mathlib.Core.Option.{some}
use mathlib.Core.List.{List, []}
use Prim.Native.Nat.{ℕ, ◌/◌, ◌%◌, ◌≤◌}
use native.Mathlib.Omega.{arith}
use lib.ListN.{length}
use Rattle.record.specs.Bytes.{Bytes, file_bytes}
use Rattle.record.specs.Record.{old_file, Record, records}
use Rattle.record.specs.declared.Form.TheVariants.{Old}
use Rattle.record.proofs.Bytes.{file_bytes_lem}
use Rattle.record.proofs.Records.{records_length}
use Rattle.derivation.specs.Derivation.{Derivation}
use Rattle.renumbering.proofs.Renumbered.{renumbered_derivation}
use Rattle.demands.proofs.Demanded.{long_enough_lem, stands_check}
use Rattle.demands.proofs.Reading.{stands_ok, whole_records}
use Rattle.demands.proofs.Standing.{StateOk}
use Rattle.verdict.specs.Force.{uses_in_force}
use Rattle.verdict.specs.State.{State, derivations, clause_of}
use Rattle.verdict.specs.Verdict.{Answer, first_empty, standing, Stands}
use Rattle.trimming.specs.Kept.{kept_for}
use Rattle.trimming.specs.Promised.{Trimmed}
use Rattle.trimming.specs.Trimming.{closed_up, first_numbers, trimmed_for, trimmed_file}
use Rattle.trimmed.proofs.Keeping.{below_less}
use Rattle.trimmed.proofs.KeptLaws.{Ordered, stands_ordered}
use Rattle.trimmed.proofs.KeptNeeded.{list_needed, needed_listed}
use Rattle.trimmed.proofs.KeptRecords.{kept_list, list_records, list_rising}
use Rattle.trimmed.proofs.Related.{Trims}
use Rattle.trimmed.proofs.TrimmedAgain.{trimmed_again}
use Rattle.trimmed.proofs.TrimmedClauses.{clause_count, clause_left, clause_from, same_clause_lem, same_arity, same_instances_lem, first_there}
use Rattle.trimmed.proofs.TrimmedFits.{trimmed_fits}
use Rattle.trimmed.proofs.TrimmedStands.{left, relates, records_are, trimmed_length, trimmed_fewer, stands_again}
use Rattle.trimmed.proofs.UsedShown.{clause_used_kept, clause_kept_used, symbol_used_kept}

module _ (day : ℕ) (file : List ℕ) (S : State) (st : Stands (old_file file) S) (a : ℕ) (c : Derivation) (first : first_empty (uses_in_force S day) (derivations S) ≡ some a) (is_clause : clause_of S a ≡ some c) where
  abbrev T : State
  T = left day file S st a c first is_clause

  O : Ordered S
  O = stands_ordered (old_file file) S st

  ok : StateOk 4096 S
  ok = stands_ok (old_file file) S st

  R : Trims S (kept_for S c) S (left day file S st a c first is_clause) []
  R = relates day file S st a c first is_clause

  bytes_there : Bytes file → Bytes (trimmed_file day file)
  unfolding trimmed_file
  bytes_there b = subst (λ (rs : List Record). Bytes (file_bytes rs)) (sym (records_are day file S st a c first is_clause)) (file_bytes_lem Old (trimmed_for S (some c) (records (old_file file))) (trimmed_fits S (some c) file b))

  not_longer_lem : length (trimmed_file day file) ≤ length file
  not_longer_lem =
      let n : length (records (old_file file)) ≡ length file / 16 = records_length (old_file file) in
      let w : length file % 16 ≡ 0 = whole_records Old file st.fits in
      omega (arith, trimmed_length day file S st a c first is_clause, trimmed_fewer (kept_for S c) (closed_up S (kept_for S c)) (records (old_file file)) first_numbers)

  pub trimmed_file_lem : Trimmed day file S a c
  trimmed_file_lem = record {
    numbers = closed_up S (kept_for S c);
    left = T;
    clauses_in_order = λ i j u v l. below_less (kept_for S c).clause i j l (clause_used_kept S O ok a c is_clause i u);
    symbols_in_order = λ s t u v l. below_less (kept_for S c).symbol s t l (symbol_used_kept S O ok a c is_clause s u);
    arities_kept = λ s u. same_arity S T O ok a c is_clause R s (symbol_used_kept S O ok a c is_clause s u);
    kept = kept_list (kept_for S c) file;
    kept_in_order = list_rising (kept_for S c) file;
    kept_needed = list_needed file S st a c is_clause;
    needed_kept = needed_listed file S st a c is_clause;
    are_records = records_are day file S st a c first is_clause ∙ list_records (kept_for S c) (closed_up S (kept_for S c)) file;
    stands = stands_again day file S st a c first is_clause;
    accepted_again = λ tables h.
        ap (λ (x : Answer). x.verdict) (stands_check day (old_file (trimmed_file day file)) tables T (stands_again day file S st a c first is_clause) (long_enough_lem (old_file (trimmed_file day file)) tables h))
        ∙ ap standing (first_there S T O ok a c is_clause R day first);
    is_last = sym (clause_count S T O ok a c is_clause R);
    clauses = λ m d u q.
        let k = clause_used_kept S O ok a c is_clause m u in
        (renumbered_derivation (closed_up S (kept_for S c)) d, clause_left S T O ok a c is_clause R m d k q, same_clause_lem S T O ok a c is_clause R m d k q);
    only_clauses = λ i l.
        let f = clause_from S T O ok a c is_clause R i l in
        (f.0, clause_kept_used S O ok a c is_clause f.0 f.1, f.3);
    same_instances = same_instances_lem S T O ok a c is_clause R;
    again = trimmed_again day file S st a c first is_clause;
    bytes = bytes_there;
    not_longer = not_longer_lem;
  }
