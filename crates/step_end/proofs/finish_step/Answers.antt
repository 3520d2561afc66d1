use native.Mathlib.Omega.{arith}
use Rattle.inference.proofs.StepLaws.{finish_up, finish_done, finish_refused}
use Rattle.step_end.proofs.finish_step.Goals as goal

pub overflow_sub-left : goal.overflow_sub-left
overflow_sub-left c =
    let p = finish_up _ _ _ c.in-Ok.is c.requires.up_to in omega arith

pub returns-in-Ok : goal.returns-in-Ok
returns-in-Ok c =
    finish_done _ _ _ _ _ _ _ _ _ _ _ _ c.in-Ok.is c.put_clause.ensures c.put_cells.ensures.nodes_after

pub returns-in-Err : goal.returns-in-Err
returns-in-Err c =
    finish_refused _ _ _ _ _ _ _ _ _ _ _ c.in-Err.is c.clear.ensures
