use native.Mathlib.Omega.{arith}
use Rattle.convert_old.proofs.OldWritten.{old_first, few_clauses, next_writable, old_more, old_end}
use Rattle.convert_old.proofs.record_writing.write_old.Goals as goal

pub loop-k-init : goal.loop-k-init
loop-k-init c =
    old_first c.args.file.now c.args.output.now c.requires

pub write_next-next-requires : goal.write_next-next-requires
write_next-next-requires c =
    let s = c.args in
    let l = c.loop-k in
    next_writable s.file.now s.output.now c.requires l.invariant (omega (arith, c.record_count-count.ensures, c.loop-k-test.true)) c.record_part-part.ensures

pub clauses_after-n-requires : goal.clauses_after-n-requires
clauses_after-n-requires c =
    let s = c.args in
    let l = c.loop-k in
    omega (arith, few_clauses s.file.now s.output.now c.requires l.invariant (omega (arith, c.record_count-count.ensures, c.loop-k-test.true)) c.record_part-part.ensures)

pub loop-k-preserved : goal.loop-k-preserved
loop-k-preserved c =
    let s = c.args in
    let l = c.loop-k in
    old_more s.file.now s.output.now c.requires l.invariant (omega (arith, c.record_count-count.ensures, c.loop-k-test.true)) c.record_part-part.ensures c.write_next-next.ensures c.clauses_after-n.ensures

pub returns : goal.returns
returns c =
    let s = c.args in
    let l = c.loop-k in
    old_end s.file.now s.output.now c.requires l.invariant (omega (arith, c.record_count-count.ensures, c.loop-k-test.false))
