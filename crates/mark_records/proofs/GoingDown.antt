-- All records from the last to the first: what is left to do comes to the same as the whole; and the marks and the windows as such a way down.
use mathlib.Core.Path.{◌≡◌, refl, ap, ◌∙◌}
use mathlib.Core.List.{List}
use Prim.Native.Nat.{ℕ, zero, suc, ◌-◌, ◌≤◌, ◌<◌}
use native.Mathlib.Omega.{arith}
use Rattle.record.specs.Record.{File, Record, old_file, record_at, record_part, decoded}
use Rattle.marking.specs.Marking.{marked_by, marked_down, dated_by, dated_down}
use Rattle.mark_records.specs.Down.{down}

module _ (step : Record → ℕ → List ℕ → List ℕ) (file : List ℕ) where
  pub down_none : (k : ℕ) (marks whole : List ℕ) → k ≤ 0 → down step (old_file file) k marks ≡ whole → marks ≡ whole
  unfolding down
  down_none zero marks whole h same = same
  down_none (suc k) marks whole h same = absurd (omega arith)

  pub down_more : (k : ℕ) (marks whole : List ℕ) → 0 < k → down step (old_file file) k marks ≡ whole
      → {part after : List ℕ} → part ≡ record_part (old_file file) (k - 1) → after ≡ step (decoded part) (k - 1) marks
      → down step (old_file file) (k - 1) after ≡ whole
  unfolding down
  down_more zero marks whole h same p q = absurd (omega arith)
  down_more (suc k) marks whole h same {part} {after} p q =
      let z : suc k - 1 ≡ k = omega arith in
      ap (down step (old_file file) (suc k - 1)) (q ∙ ap (λ (l : List ℕ). step (decoded l) (suc k - 1) marks) p)
      ∙ ap (λ (j : ℕ). down step (old_file file) j (step (decoded (record_part (old_file file) j)) j marks)) z
      ∙ same

module _ (symbols rows clauses : List ℕ) (file : File) where
  pub marked_same : (k : ℕ) (marks : List ℕ) → down (marked_by symbols rows clauses) file k marks ≡ marked_down symbols rows clauses file k marks
  unfolding down marked_down
  marked_same zero marks = refl
  marked_same (suc k) marks = marked_same k (marked_by symbols rows clauses (record_at file k) k marks)

  pub dated_same : (k : ℕ) (marks : List ℕ) → down (dated_by symbols rows clauses) file k marks ≡ dated_down symbols rows clauses file k marks
  unfolding down dated_down
  dated_same zero marks = refl
  dated_same (suc k) marks = dated_same k (dated_by symbols rows clauses (record_at file k) k marks)
