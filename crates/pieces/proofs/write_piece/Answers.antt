use mathlib.Core.Path.{refl, subst}
use Prim.Native.Nat.{ℕ, ◌<◌}
use native.Mathlib.Omega.{arith}
use lib.ListN.{length-replicate}
use Rattle.units.proofs.UnitSizes.{end_inside}
use Rattle.pieces.proofs.PieceWriting.{written_none, written_all, written_stopped, written_more}
use Rattle.units.proofs.UnitWriting.{after_again}
use Rattle.numbering.proofs.Keeping.{room_kept}
use Rattle.pieces.proofs.write_piece.Goals as goal

pub loop-n-init : goal.loop-n-init
loop-n-init c =
    record { values = c.requires.after.checked.values; text = length-replicate {A = ℕ} 131072 0; written = written_none c.args.naming }

pub write_unit-end-requires : goal.write_unit-end-requires
write_unit-end-requires c =
    let l = c.loop-n in
    record { after = after_again c.requires.after l.invariant.values; inside = subst (λ (k : ℕ). l.n < k) c.unit_count-n-end.ensures c.loop-n-test.true; text = l.invariant.text; numbers = room_kept c.args.naming c.args.cells.now c.args.order.now l.cells l.order l.auto.cells l.auto.order c.requires.numbers }

pub overflow_sub-output : goal.overflow_sub-output
overflow_sub-output c =
    omega (arith, (c.loop-n.invariant.written c.requires.after).low)

pub returns-then-output-written : goal.returns-then-output-written
returns-then-output-written c =
    let l = c.loop-n in
    written_stopped _ l.invariant.written l.invariant.values (subst (λ (k : ℕ). l.n < k) c.unit_count-n-end.ensures c.loop-n-test.true) c.write_unit-end.ensures (omega (arith, c.if-output-written.true)) _ refl c.stopped.ensures

pub copy_text-requires : goal.copy_text-requires
copy_text-requires c =
    (end_inside (after_again c.requires.after c.loop-n.invariant.values) c.write_unit-end.ensures, omega (arith, c.if-output-written.false, (c.loop-n.invariant.written c.requires.after).low))

pub overflow_add-written : goal.overflow_add-written
overflow_add-written c =
    omega (arith, c.if-output-written.false, (c.loop-n.invariant.written c.requires.after).low)

pub loop-n-preserved : goal.loop-n-preserved
loop-n-preserved c =
    let l = c.loop-n in
    let w = c.write_unit-end.ensures in
    record {
      values = w.sized.values;
      text = w.sized.text;
      written = written_more _ l.invariant.written l.invariant.values (subst (λ (k : ℕ). l.n < k) c.unit_count-n-end.ensures c.loop-n-test.true) w (omega (arith, c.if-output-written.false)) c.copy_text.ensures;
    }

pub returns : goal.returns
returns c =
    let l = c.loop-n in
    written_all _ l.invariant.written l.invariant.values (omega (arith, c.unit_count-n-end.ensures, c.loop-n-test.false)) _ refl refl
