use mathlib.Core.Path.{refl, sym}
use Prim.Native.Nat.{ℕ}
use native.Mathlib.Omega.{arith}
use lib.ListN.{length-replicate}
use lib.Seq.{length-take-le}
use Rattle.numbering.proofs.Keeping.{room_kept}
use Rattle.units.proofs.UnitWriting.{after_again}
use Rattle.digests.proofs.DigestLaws.{after_none, after_more, after_all, short, onwards, never_short, last_piece_lem}
use Rattle.digests.proofs.digest_of.Goals as goal

pub loop-next-init : goal.loop-next-init
loop-next-init c = record {
  values = c.requires.after.checked.values;
  output = length-replicate {A = ℕ} 131072 0;
  bound = omega arith;
  few = omega arith;
  taken = after_none c.args.naming;
}

pub write_piece-piece-requires : goal.write_piece-piece-requires
write_piece-piece-requires c =
    let l = c.loop-next.invariant in
    record { after = after_again c.requires.after l.values; numbers = room_kept c.args.naming c.args.cells.now c.args.order.now c.loop-next.cells c.loop-next.order c.loop-next.auto.cells c.loop-next.auto.order c.requires.numbers }

pub slice_bounds-output-end : goal.slice_bounds-output-end
slice_bounds-output-end c =
    let l = c.loop-next.invariant in
    omega (arith, short l.values l.output c.write_piece-piece.ensures c.requires.after c.output-in-loop-next-1.given, c.output-in-loop-next-1.given)

pub slice_bounds-with_bytes-end : goal.slice_bounds-with_bytes-end
slice_bounds-with_bytes-end c =
    let l = c.loop-next.invariant in
    sym (length-take-le _ _ (omega (arith, short l.values l.output c.write_piece-piece.ensures c.requires.after c.output-in-loop-next-1.given, c.output-in-loop-next-1.given)))

pub overflow_add-length : goal.overflow_add-length
overflow_add-length c =
    let l = c.loop-next.invariant in
    let s = short l.values l.output c.write_piece-piece.ensures c.requires.after c.output-in-loop-next-1.given in
    omega (arith, l.few, l.bound)

pub returns-in_default : goal.returns-in_default
returns-in_default c =
    let l = c.loop-next.invariant in
    let written = c.write_piece-piece.ensures in
    after_all l.values l.output written l.taken c.with_bytes-hash.ensures (last_piece_lem _ (λ m. c.in_default.not-GoOn m) (λ m q. never_short l.values l.output written c.requires.after m q)) _ refl refl

pub loop-next-smaller : goal.loop-next-smaller
loop-next-smaller c =
    let l = c.loop-next.invariant in
    let later = onwards l.values l.output c.write_piece-piece.ensures c.requires.after _ c.in-GoOn.is in
    omega (arith, l.bound)

pub loop-next-preserved : goal.loop-next-preserved
loop-next-preserved c =
    let l = c.loop-next.invariant in
    let written = c.write_piece-piece.ensures in
    let later = onwards l.values l.output written c.requires.after _ c.in-GoOn.is in
    let s = short l.values l.output written c.requires.after c.output-in-loop-next-1.given in
    record {
      values = written.values;
      output = c.output-in-loop-next-1.given;
      bound = omega arith;
      few = omega (arith, l.few);
      taken = after_more l.values l.output written l.taken c.with_bytes-hash.ensures _ c.in-GoOn.is;
    }
