use mathlib.Core.Path.{refl}
use native.Mathlib.Omega.{arith}
use Rattle.record.specs.Record.{old_file, decoded}
use Rattle.convert_new.specs.NewFile.{is_kept}
use Rattle.placing.proofs.Counting.{at_most_one, one_counted, all_counted}
use Rattle.convert_new.proofs.Counted.{all_kept}
use Rattle.convert_new.proofs.new_count.Goals as goal

pub loop-k-init : goal.loop-k-init
loop-k-init c =
    (omega arith, refl)

pub overflow_add-n : goal.overflow_add-n
overflow_add-n c =
    omega (arith, c.loop-k.invariant.0, c.loop-k-test.true, c.record_count-count.type_inv, c.kept-n.ensures, at_most_one (is_kept (decoded c.record_part.result.now)))

pub loop-k-preserved : goal.loop-k-preserved
loop-k-preserved c =
    let l = c.loop-k in
    (omega (arith, c.loop-k.invariant.0, c.kept-n.ensures, at_most_one (is_kept (decoded c.record_part.result.now))), one_counted (old_file c.args.file.now) is_kept 0 l.k l.n l.invariant.1 (omega (arith, c.record_count-count.ensures, c.loop-k-test.true)) c.record_part.ensures c.kept-n.ensures)

pub returns : goal.returns
returns c =
    all_kept c.args.file.now (all_counted (old_file c.args.file.now) is_kept 0 c.loop-k.k c.loop-k.n c.loop-k.invariant.1 (omega (arith, c.record_count-count.ensures, c.loop-k-test.false)))
