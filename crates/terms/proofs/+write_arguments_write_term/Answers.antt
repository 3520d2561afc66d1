use mathlib.Core.Path.{◌≡◌, ◌∙◌}
use native.Mathlib.Omega.{arith}
use Rattle.terms.proofs.TermTexts.{leaves_less, term_too_many, term_variable, term_application, followable, name_ready, arguments_ready}
use Rattle.terms.proofs.ArgumentTexts.{scan_start, scan_end, scan_broke, scan_next, argument_ready}
use Rattle.terms.proofs.+write_arguments_write_term.Goals as goal

pub write_term-returns-then-from-eq0 : goal.write_term-returns-then-from-eq0
write_term-returns-then-from-eq0 t c =
    (term_too_many _ _ c.args.values.now c.args.text.now c.args.cells.now c.args.order.now _ _ _ _ c.if-from-eq0.true, tt, c.requires.sized)

pub write_term-follow-x-requires : goal.write_term-follow-x-requires
write_term-follow-x-requires t c =
    followable c.requires

pub write_term-put_name-place-requires : goal.write_term-put_name-place-requires
write_term-put_name-place-requires t c =
    name_ready c.requires c.if-from-eq0.false _ _ c.follow-x.ensures.0 _ _ c.in-Variable.is

pub write_term-write_arguments-requires : goal.write_term-write_arguments-requires
write_term-write_arguments-requires t c =
    (omega (arith, c.decreases, c.if-from-eq0.false), arguments_ready c.requires _ _ c.put_lettered.ensures.kept.room _ c.follow-x.ensures.0 _ _ c.in-Application.is)

pub write_term-returns-in-Variable : goal.write_term-returns-in-Variable
write_term-returns-in-Variable t c =
    (term_variable _ _ _ _ _ _ _ _ _ _ c.if-from-eq0.false _ _ c.follow-x.ensures.0 _ _ c.in-Variable.is _ _ _ _ c.put_name-place.ensures, (omega (arith, c.if-from-eq0.false), omega (arith, c.if-from-eq0.false, c.put_name-place.ensures.most)), record { nodes = c.requires.sized.nodes; values = c.follow-x.ensures.1; text = c.put_name-place.ensures.room ∙ c.requires.sized.text })

pub write_term-returns-in-Application : goal.write_term-returns-in-Application
write_term-returns-in-Application t c =
    (term_application _ _ _ _ _ _ _ _ _ _ c.if-from-eq0.false _ _ c.follow-x.ensures.0 _ _ c.in-Application.is _ c.part_of-symbol.ensures _ _ c.put_lettered.ensures _ _ _ _ _ c.write_arguments.ensures.0, leaves_less _ _ _ c.write_arguments.result (omega (arith, c.if-from-eq0.false)) c.write_arguments.ensures.1, c.write_arguments.ensures.2)

pub write_arguments-loop-n-init : goal.write_arguments-loop-n-init
write_arguments-loop-n-init t c =
    record { sized = c.requires.whole.sized; fewer = omega arith; few = omega arith; scanned = scan_start _ _ _ _ _ _ _ _ _ _ _ _ (omega (arith, c.arity_of-arity.ensures.0)) }

pub write_arguments-write_term-requires : goal.write_arguments-write_term-requires
write_arguments-write_term-requires t c =
    let l = c.loop-n in
    (omega (arith, c.decreases, l.invariant.fewer), argument_ready c.requires l.invariant.scanned (omega (arith, c.arity_of-arity.ensures.0, c.loop-n-test.true)) (omega arith) (omega (arith, c.arity_of-arity.ensures.0, c.loop-n-test.true)) l.invariant.few _ (c.put_byte-done.ensures.kept.room ∙ l.invariant.sized.text) _ c.part_of-a.ensures)

pub write_arguments-returns-in_err-done : goal.write_arguments-returns-in_err-done
write_arguments-returns-in_err-done t c =
    let l = c.loop-n in
    rw c.from_residual.ensures (scan_broke _ _ _ _ _ _ _ _ _ _ _ _ _ _ _ _ _ _ _ _ l.invariant.scanned (omega (arith, c.arity_of-arity.ensures.0, c.loop-n-test.true)) (omega arith) (omega (arith, c.arity_of-arity.ensures.0, c.loop-n-test.true)) _ c.mark.ensures _ _ c.put_byte-done.ensures _ c.part_of-a.ensures _ _ _ _ c.in_err-done.ensures.0, tt, c.write_term.ensures.2)

pub write_arguments-loop-n-preserved : goal.write_arguments-loop-n-preserved
write_arguments-loop-n-preserved t c =
    let l = c.loop-n in
    let w = c.in_ok-done in
    record {
      sized = c.write_term.ensures.2;
      fewer = omega (arith, w.ensures.1.0, l.invariant.fewer);
      few = omega (arith, w.ensures.1.1, l.invariant.few);
      scanned = scan_next _ _ _ _ _ _ _ _ _ _ _ _ _ _ _ _ _ _ _ _ l.invariant.scanned (omega (arith, c.arity_of-arity.ensures.0, c.loop-n-test.true)) (omega arith) (omega (arith, c.arity_of-arity.ensures.0, c.loop-n-test.true)) _ c.mark.ensures _ _ c.put_byte-done.ensures _ c.part_of-a.ensures _ _ _ _ w.done _ (omega arith) w.ensures.0;
    }

pub write_arguments-returns : goal.write_arguments-returns
write_arguments-returns t c =
    let l = c.loop-n in
    let all : c.arity_of-arity.result ≡ l.n = omega (arith, c.loop-n-test.false) in
    (scan_end _ _ _ _ _ _ _ _ _ _ _ _ _ _ _ _ _ _ _ _ l.invariant.scanned (omega (arith, c.arity_of-arity.ensures.0)) _ _ (rw all at c.put_closing-done.ensures), (l.invariant.fewer, l.invariant.few), record { nodes = l.invariant.sized.nodes; values = l.invariant.sized.values; text = c.put_closing-done.ensures.kept.room ∙ l.invariant.sized.text })
