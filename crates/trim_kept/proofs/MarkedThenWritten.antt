-- One step after another.
use mathlib.Core.Path.{◌≡◌, ap, ap₂, ◌∙◌, subst}
use mathlib.Core.List.{List, map}
use Prim.Native.Nat.{ℕ, ◌*◌, ◌<◌}
use native.Mathlib.Omega.{arith}
use lib.ListN.{get_or, set}
use Rattle.record.specs.Bytes.{file_bytes}
use Rattle.record.specs.Record.{old_file, record_count, records}
use Rattle.trimming.specs.Trimming.{first_numbers}
use Rattle.marking.specs.Marking.{marked_down, dated_down, marked_records}
use Rattle.tables.specs.Cells.{cleared_part}
use Rattle.raising.specs.Wrapped.{wrapped}
use Rattle.placing.specs.Placing.{Written}
use Rattle.write_trimmed.specs.Writing.{Trimmable}
use Rattle.write_trimmed.proofs.GoingOn.{marked_short}
use Rattle.trim_kept.specs.KeptRecords.{first_marks, kept_marks, kept_records}

pub first_marked : (clauses : List ℕ) (n : ℕ) (marks between after : List ℕ) {k : ℕ} → between ≡ cleared_part 0 4096 marks → k ≡ get_or clauses (5 * n) 0 → after ≡ set between k 1 → after ≡ first_marks clauses n marks
first_marked clauses n marks between after p e q = q ∙ ap₂ (λ (l : List ℕ) (x : ℕ). set l x 1) p e

module _ (symbols rows clauses file : List ℕ) (n : ℕ) (marks : List ℕ) where
  pub all_marked : {first used after : List ℕ} → first ≡ first_marks clauses n marks → used ≡ marked_down symbols rows clauses (old_file file) (record_count (old_file file)) first
      → after ≡ dated_down symbols rows clauses (old_file file) (record_count (old_file file)) used → after ≡ kept_marks symbols rows clauses file n marks
  all_marked p q r =
      r ∙ ap (dated_down symbols rows clauses (old_file file) (record_count (old_file file))) (q ∙ ap (marked_down symbols rows clauses (old_file file) (record_count (old_file file))) p)

  pub kept_written : {kept : List ℕ} (numbers before left : List ℕ) (end : ℕ) → kept ≡ kept_marks symbols rows clauses file n marks
      → Written (file_bytes (map wrapped (marked_records symbols rows clauses kept numbers first_numbers 0 (records (old_file file))))) before left end
      → Written (file_bytes (map wrapped (kept_records symbols rows clauses file n marks numbers))) before left end
  kept_written numbers before left end p w =
      subst (λ (m : List ℕ). Written (file_bytes (map wrapped (marked_records symbols rows clauses m numbers first_numbers 0 (records (old_file file))))) before left end) p w

-- What is written is no longer than the file may be.
pub end_short : (symbols rows clauses file : List ℕ) (n : ℕ) (marks numbers output left : List ℕ) (end : ℕ) → Trimmable file output → Written (file_bytes (map wrapped (kept_records symbols rows clauses file n marks numbers))) output left end → end < 65537
end_short symbols rows clauses file n marks numbers output left end t w = omega (arith, w.ends, marked_short symbols rows clauses (kept_marks symbols rows clauses file n marks) file numbers t.short)
