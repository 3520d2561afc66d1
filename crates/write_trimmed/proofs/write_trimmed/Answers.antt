use native.Mathlib.Omega.{arith}
use Rattle.write_trimmed.proofs.GoingOn.{going_first, still_writable, going_more, going_end}
use Rattle.write_trimmed.proofs.write_trimmed.Goals as goal

pub loop-k-init : goal.loop-k-init
loop-k-init c =
    going_first c.args.symbols.now c.args.rows.now c.args.clauses.now c.args.marks.now c.args.file.now c.args.numbers.now c.args.output.now c.requires

pub write_marked-place-requires : goal.write_marked-place-requires
write_marked-place-requires c =
    still_writable c.args.symbols.now c.args.rows.now c.args.clauses.now c.args.marks.now c.args.file.now c.args.numbers.now c.args.output.now c.requires c.loop-k.invariant (omega (arith, c.record_count-count.ensures, c.loop-k-test.true))

pub loop-k-preserved : goal.loop-k-preserved
loop-k-preserved c =
    going_more c.args.symbols.now c.args.rows.now c.args.clauses.now c.args.marks.now c.args.file.now c.args.numbers.now c.args.output.now c.requires c.loop-k.invariant (omega (arith, c.record_count-count.ensures, c.loop-k-test.true)) c.record_part-part.ensures c.write_marked-place.ensures

pub returns : goal.returns
returns c =
    going_end c.args.symbols.now c.args.rows.now c.args.clauses.now c.args.marks.now c.args.file.now c.args.numbers.now c.args.output.now c.requires c.loop-k.invariant (omega (arith, c.record_count-count.ensures, c.loop-k-test.false))
