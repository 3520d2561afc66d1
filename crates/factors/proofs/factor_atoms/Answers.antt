use mathlib.Core.Path.{ap}
use lib.ListN.{length}
use Rattle.inference.proofs.StepEnds.{finishing}
use Rattle.inference.proofs.StepNamed.{factoring, factor_literals_lem, factor_clashes, factor_ended}
use Rattle.inference.proofs.StepLaws.{nodes_room}
use Rattle.factors.proofs.factor_atoms.Goals as goal

pub returns-then-outlines_clash : goal.returns-then-outlines_clash
returns-then-outlines_clash c =
    λ R. factor_clashes R _ c.outlines_clash.ensures c.if-outlines_clash.true

pub overflow_sub-literals : goal.overflow_sub-literals
overflow_sub-literals c =
    factor_literals_lem c.requires _ c.literals_cell-literals.ensures

pub unify_factor-u-requires : goal.unify_factor-u-requires
unify_factor-u-requires c =
    factoring c.requires

pub finish_step-requires : goal.finish_step-requires
finish_step-requires c =
    finishing c.requires.step _ _ _ c.unify_factor-u.ensures.unified_tables _ (ap length c.requires.numbers)

pub returns : goal.returns
returns c =
    λ R. factor_ended R _ c.literals_cell-literals.ensures _ c.outlines_clash.ensures c.if-outlines_clash.false _ c.index_cell-index.ensures _ _ _ c.unify_factor-u.ensures.atom_named_value c.unify_factor-u.ensures.unified_tables _ _ _ _ c.finish_step.ensures
