-- Document 02, Q-1: what the comparison of outlines before unification changes, and what it does not. That a clash of outlines has no unifier is in
-- demand 2 (b), which speaks of every 10.
use Rattle.std.specs.Prelude.{◌≡◌, ◌⊎◌, true, List, [], ◌∷◌, ℕ, ◌<◌}
use Rattle.record.specs.Record.{Record}
use Rattle.unification.specs.Outlines.{RowPair, outlines_clash, Compares, ClashAt}
use Rattle.demands.specs.Conditions.{OneOf, OutlinesClash}
use Rattle.verdict.specs.Refusal.{Reason, reason_number}
use Rattle.verdict.specs.State.{State, row_of}
use Rattle.verdict.specs.Step.{stands, refused, step, step_without_outlines}

-- All of it is for every state and record, also such as no file leads to.
pub record OutlinesBeforeUnification : Type 0 where
  -- No step that stood is affected: what stood stands and leaves the same state.
  pub stood_stands : (S T : State) (k : ℕ) (r : Record) → step_without_outlines S k r ≡ stands T → step S k r ≡ stands T
  -- What was refused is refused for the same reason, but for 11, 12 and 13 with outlines that clash; 0 is in no table: it is that following
  -- does not end, to which no file comes;
  pub refused_alike : (S : State) (k : ℕ) (r : Record) (reason : Reason) → step_without_outlines S k r ≡ refused reason → 0 < reason_number reason
      → ¬ (OneOf (reason_number reason) (11 ∷ 12 ∷ 13 ∷ []) × OutlinesClash S r) → step S k r ≡ refused reason
  -- and that gives 10 now.
  pub clash_first : (S : State) (k : ℕ) (r : Record) (reason : Reason) → step_without_outlines S k r ≡ refused reason
      → OneOf (reason_number reason) (11 ∷ 12 ∷ 13 ∷ []) → OutlinesClash S r → (now : Reason) × (step S k r ≡ refused now) × (reason_number now ≡ 10)
  -- No clash is overlooked: where some position clashes, a clash is found, or 4,096 pairs are taken up and one more would begin.
  pub found_or_spent : (S : State) (r q : ℕ) (path : List ℕ) → ClashAt (row_of S) r q path
      → (outlines_clash (row_of S) r q ≡ true) ⊎ ((p : RowPair) × (ps : List RowPair) × Compares (row_of S) 4096 ((r, q) ∷ []) (p ∷ ps))
