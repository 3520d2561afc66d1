use native.Mathlib.Omega.{arith}
use mathlib.Core.Path.{sym, ◌∙◌}
use Rattle.outlines.proofs.Walk.{pair_spent, pair_same, pair_left_variable, pair_right_variable, pair_clash, pair_opened, arguments_first, arguments_next, arguments_clash, arguments_agree}
use Rattle.outlines.proofs.+compare_arguments_compare_pair.Goals as goal

pub compare_arguments-loop-n-init : goal.compare_arguments-loop-n-init
compare_arguments-loop-n-init t c =
    arguments_first _ _ _ _ _

pub compare_arguments-returns-in_err-left : goal.compare_arguments-returns-in_err-left
compare_arguments-returns-in_err-left t c =
    rw c.from_residual.ensures (arguments_clash _ _ _ _ _ _ c.loop-n.n c.loop-n.invariant c.loop-n-test.true _ _ c.part_of-a.ensures c.part_of-b.ensures _ c.compare_pair.ensures c.common_arity-most.ensures.0 c.in_err-left.was)

pub compare_arguments-loop-n-preserved : goal.compare_arguments-loop-n-preserved
compare_arguments-loop-n-preserved t c =
    arguments_next _ _ _ _ _ _ c.loop-n.n c.loop-n.invariant c.loop-n-test.true _ _ c.part_of-a.ensures c.part_of-b.ensures _ c.compare_pair.ensures _ c.in_ok-left.was

pub compare_arguments-returns : goal.compare_arguments-returns
compare_arguments-returns t c =
    arguments_agree _ _ _ _ _ _ _ c.loop-n.invariant (omega (arith, c.loop-n-test.false)) c.common_arity-most.ensures.0

pub compare_pair-returns-then-pairs-eq0 : goal.compare_pair-returns-then-pairs-eq0
compare_pair-returns-then-pairs-eq0 t c =
    pair_spent _ _ _ _ c.if-pairs-eq0.true

pub compare_pair-returns-then-r-q : goal.compare_pair-returns-then-r-q
compare_pair-returns-then-r-q t c =
    pair_same _ _ _ _ c.if-pairs-eq0.false c.if-r-q.true

pub compare_pair-returns-then-is_variable : goal.compare_pair-returns-then-is_variable
compare_pair-returns-then-is_variable t c =
    pair_left_variable _ _ _ _ c.if-pairs-eq0.false c.if-r-q.false (sym c.is_variable.ensures ∙ c.if-is_variable.true)

pub compare_pair-returns-then-is_variable-2 : goal.compare_pair-returns-then-is_variable-2
compare_pair-returns-then-is_variable-2 t c =
    pair_right_variable _ _ _ _ c.if-pairs-eq0.false c.if-r-q.false (sym c.is_variable.ensures ∙ c.if-is_variable.false) (sym c.is_variable-2.ensures ∙ c.if-is_variable-2.true)

pub compare_pair-returns-then-part_of : goal.compare_pair-returns-then-part_of
compare_pair-returns-then-part_of t c =
    pair_clash _ _ _ _ c.if-pairs-eq0.false c.if-r-q.false (sym c.is_variable.ensures ∙ c.if-is_variable.false) (sym c.is_variable-2.ensures ∙ c.if-is_variable-2.false) (λ e. c.if-part_of.true (c.part_of.ensures ∙ e ∙ sym c.part_of-2.ensures))

pub compare_pair-returns : goal.compare_pair-returns
compare_pair-returns t c =
    pair_opened _ _ _ _ _ c.if-pairs-eq0.false c.if-r-q.false (sym c.is_variable.ensures ∙ c.if-is_variable.false) (sym c.is_variable-2.ensures ∙ c.if-is_variable-2.false) (sym c.part_of.ensures ∙ c.if-part_of.false ∙ c.part_of-2.ensures) c.compare_arguments.ensures
