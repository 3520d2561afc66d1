use native.Mathlib.Omega.{arith}
use Rattle.inference.proofs.StepLaws.{resolve_top, resolve_clear, resolve_load, resolve_load_right, resolve_ready, resolve_unified}
use Rattle.step_unify.proofs.unify_resolve.Goals as goal

pub overflow_add-top : goal.overflow_add-top
overflow_add-top c =
    omega (arith, resolve_top c.requires _ _ c.index_cell-raised.ensures c.index_cell.ensures)

pub clear-requires : goal.clear-requires
clear-requires c =
    (resolve_clear c.requires _ _ c.index_cell-raised.ensures c.index_cell.ensures).1

pub load-requires : goal.load-requires
load-requires c =
    resolve_load c.requires _ c.clear.ensures.values_len_2

pub load-requires-2 : goal.load-requires-2
load-requires-2 c =
    resolve_load_right c.requires _ c.index_cell-raised.ensures _ c.load.ensures.room

pub unify_with_each-requires : goal.unify_with_each-requires
unify_with_each-requires c =
    resolve_ready c.requires c.index_cell-raised.result _ c.index_cell-raised.result (omega arith) c.index_cell-raised.ensures c.index_cell.ensures _ _ _ c.clear.ensures.cleared c.load.ensures c.load-2.ensures

pub returns : goal.returns
returns c =
    record { rights_named_value = (resolve_unified {k = c.args.k} {n = c.args.counts} _ _ c.index_cell-raised.ensures c.index_cell.ensures _ _ _ _ _ _ c.clear.ensures.cleared c.load.ensures c.load-2.ensures c.unify_with_each.ensures).0; unified_tables = (resolve_unified {k = c.args.k} {n = c.args.counts} _ _ c.index_cell-raised.ensures c.index_cell.ensures _ _ _ _ _ _ c.clear.ensures.cleared c.load.ensures c.load-2.ensures c.unify_with_each.ensures).1 }
