-- Every line fits into the buffer.
use mathlib.Core.Path.{sym, subst}
use Rattle.std.proofs.Common.{arith, ℕ, ◌<◌}
use lib.Seq.{length-take-le}
use Rattle.numbering.proofs.Keeping.{room_kept}
use Rattle.units.proofs.UnitSizes.{end_inside}
use Rattle.units.proofs.UnitWriting.{after_again}
use Rattle.line_printing.proofs.write_lines.Goals as goal

pub write_unit-end-requires : goal.write_unit-end-requires
write_unit-end-requires g c = record {
  after = after_again c.requires.after c.loop-n.invariant.values;
  inside = subst (λ (k : ℕ). c.loop-n.n < k) c.unit_count-count.ensures c.loop-n-test.true;
  text = c.loop-n.invariant.text;
  numbers = room_kept c.args.naming _ _ _ _ c.loop-n.auto.cells c.loop-n.auto.order c.requires.numbers;
}

pub slice_bounds-text-end : goal.slice_bounds-text-end
slice_bounds-text-end g c =
    omega (arith, end_inside (after_again c.requires.after c.loop-n.invariant.values) c.write_unit-end.ensures, c.write_unit-end.ensures.sized.text)

pub slice_bounds-write_all-end : goal.slice_bounds-write_all-end
slice_bounds-write_all-end g c =
    let within = end_inside (after_again c.requires.after c.loop-n.invariant.values) c.write_unit-end.ensures in
    sym (length-take-le _ _ (omega (arith, within, c.write_unit-end.ensures.sized.text)))
