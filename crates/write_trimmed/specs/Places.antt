-- The place that the program has reached, and the place after a record. No promise needs this file.
use Rattle.std.specs.Prelude.{◌≡◌, ◌+◌, ◌≤◌}
use Rattle.record.specs.Record.{Kind}
use Rattle.trimming.specs.Trimming.{Next, next_after}
use Rattle.write_trimmed.specs.declared.numbering.Place.{Place}

-- The numbers that the next symbol, row and clause get.
abbrev pub next_of : Place → Next
next_of p = record { symbol = p.symbol; row = p.row; clause = p.clause }

-- All numbers can still grow.
pub record Growing (p : Place) : Type 0 where
  pub at : p.at ≤ 65536
  pub symbol : p.symbol ≤ 4096
  pub row : p.row ≤ 4096
  pub clause : p.clause ≤ 4096

-- Behind the sixteen bytes of a record of a kind, with the numbers after it.
pub record After (p : Place) (kind : Kind) (q : Place) : Type 0 where
  pub at : q.at ≡ p.at + 16
  pub next : next_of q ≡ next_after (next_of p) kind
