use Rattle.inference.proofs.StepLaws.{factor_clear, factor_load, factor_ready, factor_unified}
use Rattle.step_unify.proofs.unify_factor.Goals as goal

pub clear-requires : goal.clear-requires
clear-requires c =
    (factor_clear c.requires _ c.index_cell.ensures).1

pub load-requires : goal.load-requires
load-requires c =
    factor_load c.requires _ c.clear.ensures.values_len_2

pub unify_literals-requires : goal.unify_literals-requires
unify_literals-requires c =
    factor_ready c.requires _ c.index_cell.ensures _ _ c.clear.ensures.cleared c.load.ensures

pub returns : goal.returns
returns c =
    record { atom_named_value = (factor_unified {k = c.args.k} {n = c.args.counts} {y = c.args.deleted} _ c.index_cell.ensures _ _ _ _ _ c.clear.ensures.cleared c.load.ensures c.unify_literals.ensures).0; unified_tables = (factor_unified {k = c.args.k} {n = c.args.counts} {y = c.args.deleted} _ c.index_cell.ensures _ _ _ _ _ c.clear.ensures.cleared c.load.ensures c.unify_literals.ensures).1 }
