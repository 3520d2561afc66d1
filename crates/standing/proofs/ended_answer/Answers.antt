use Rattle.answer.proofs.AnswerLaws.{all_numbers, refused_numbers}
use Rattle.standing.proofs.ended_answer.Goals as goal

pub returns-in-Ok : goal.returns-in-Ok
returns-in-Ok c =
    all_numbers _ _ _ _ _ _ _ _ c.in-Ok.is c.standing.ensures c.with_counts.ensures

pub returns-in-Err : goal.returns-in-Err
returns-in-Err c =
    refused_numbers _ _ _ _ _ _ _ c.in-Err.is c.number.ensures c.with_counts-in-Err.ensures
