use native.Mathlib.Omega.{arith}
use Rattle.record.specs.Record.{in_form}
use Rattle.flagging.proofs.FlagSteps.{clauses_more, record_more, at_most_one}
use Rattle.flagging.proofs.put_windows.Goals as goal

pub overflow_add-c : goal.overflow_add-c
overflow_add-c c =
    omega (arith, at_most_one (in_form c.args.form c.args.file.now) _ c.record_part-part.ensures c.clauses_of-c.ensures)

pub loop-k-preserved : goal.loop-k-preserved
loop-k-preserved c = record {
  below = omega (arith, at_most_one (in_form c.args.form c.args.file.now) _ c.record_part-part.ensures c.clauses_of-c.ensures);
  clauses = clauses_more _ _ c.record_part-part.ensures (omega arith) c.loop-k.invariant.clauses c.clauses_of-c.ensures;
  flags = record_more _ _ c.record_part-part.ensures _ _ c.loop-k.invariant.clauses c.loop-k.invariant.flags c.put_days.ensures;
}
