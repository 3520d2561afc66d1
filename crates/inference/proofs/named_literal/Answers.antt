use Rattle.inference.proofs.StepTests.{named_clause, named_there, named_missing}
use Rattle.inference.proofs.named_literal.Goals as goal

pub literal-requires : goal.literal-requires
literal-requires c =
    named_clause c.requires _ c.if-c-count.true

pub returns-then-c-count : goal.returns-then-c-count
returns-then-c-count c =
    named_there _ _ c.if-c-count.true _ c.literal.ensures

pub returns-else-c-count : goal.returns-else-c-count
returns-else-c-count c =
    named_missing _ _ c.if-c-count.false
