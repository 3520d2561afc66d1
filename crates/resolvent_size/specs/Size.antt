-- The size of a resolvent by the cells of its parents, l and r: its literals, without one of l and m of r, and its maximum index, within document 01's
-- limits or past one of them.
use Rattle.std.specs.Prelude.{List, ℕ, ◌+◌, ◌-◌, ◌≤◌, leb, Option, Some, None}
use Rattle.record.specs.Record.{pick}
use Rattle.derivation.specs.Stored.{literals_cell, index_cell}
use Rattle.resolvent_size.specs.declared.Size.{Size}

-- The literals that go are there, and the sums are small.
pub record Sizeable (C : List ℕ) (l r m : ℕ) : Type 0 where
  pub there : 1 + m ≤ literals_cell C l + literals_cell C r
  pub few : literals_cell C l + literals_cell C r ≤ 256
  pub low : index_cell C l + index_cell C r ≤ 8192

abbrev pub sized : ℕ → ℕ → Option Size
sized n i = Some (record { literals = n; maximum = i })

abbrev pub size_within : ℕ → ℕ → Option Size
size_within n i = pick (leb n 128) (pick (leb i 4096) (sized n i) None) None

abbrev pub size_of : List ℕ → ℕ → ℕ → ℕ → Option Size
size_of C l r m = size_within ((literals_cell C l + literals_cell C r) - 1 - m) (index_cell C l + index_cell C r)
