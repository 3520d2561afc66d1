use Prim.Native.Nat.{◌*◌}
use native.Mathlib.Omega.{arith}
use Rattle.shifting.proofs.Placing.{reached_first, next_writable, reached_more, reached_end}
use Rattle.raising.proofs.Raising.{tail_lent}
use Rattle.shifting.proofs.record_writing.write_second.Goals as goal

pub loop-k-init : goal.loop-k-init
loop-k-init c =
    reached_first _ _ _ _ _ _ c.requires

pub write_next-next-requires : goal.write_next-next-requires
write_next-next-requires c =
    next_writable c.args.second.now c.args.symbols c.args.rows c.args.clauses c.args.output.now c.args.at c.requires c.loop-k.output c.loop-k.k c.loop-k.next c.loop-k.s c.loop-k.invariant c.loop-k-test.true (tail_lent (16 * c.loop-k.k) c.args.second.now)

pub symbols_after-s-requires : goal.symbols_after-s-requires
symbols_after-s-requires c =
    omega (arith, c.loop-k.invariant.few, c.loop-k-test.true, c.requires.few)

pub loop-k-preserved : goal.loop-k-preserved
loop-k-preserved c =
    reached_more c.args.second.now c.args.symbols c.args.rows c.args.clauses c.args.output.now c.args.at c.requires c.loop-k.output c.loop-k.k c.loop-k.next c.loop-k.s c.loop-k.invariant c.loop-k-test.true (tail_lent (16 * c.loop-k.k) c.args.second.now) c.write_next-next.ensures c.symbols_after-s.ensures

pub returns : goal.returns
returns c =
    reached_end _ _ _ _ _ _ c.requires _ _ _ _ c.loop-k.invariant c.loop-k-test.false
