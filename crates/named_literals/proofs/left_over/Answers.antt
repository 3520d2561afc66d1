-- The code makes the tests of the definition.
use borrow.Author.Tests.{eq-eqb, ne_eqb, le-leb, lt-leb}
use Rattle.named_literals.specs.Named.{left_over}
use Rattle.named_literals.proofs.left_over.Goals as goal

pub returns-then-a-eq0 : goal.returns-then-a-eq0
unfolding left_over
returns-then-a-eq0 c =
    rw (eq-eqb _ _ c.if-a-eq0.true)

pub returns-then-a-count : goal.returns-then-a-count
unfolding left_over
returns-then-a-count c =
    rw (ne_eqb _ _ c.if-a-eq0.false, le-leb _ _ c.if-a-count.true)

pub returns-else-a-count : goal.returns-else-a-count
unfolding left_over
returns-else-a-count c =
    rw (ne_eqb _ _ c.if-a-eq0.false, lt-leb _ _ c.if-a-count.false)
