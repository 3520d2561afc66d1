use native.Mathlib.Omega.{arith}
use Rattle.text.proofs.Positions.{wrote_byte, dropped_byte}
use Rattle.text.proofs.put_byte.Goals as goal

pub returns-then-at-lt131072 : goal.returns-then-at-lt131072
returns-then-at-lt131072 c =
    wrote_byte _ _ _ (omega arith)

pub returns-else-at-lt131072 : goal.returns-else-at-lt131072
returns-else-at-lt131072 c =
    dropped_byte _ _ _ (omega arith)
