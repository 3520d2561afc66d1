-- The code makes the tests of the definition.
use borrow.Author.Tests.{eq-eqb, ne_eqb, lt-ltb, le-ltb}
use Rattle.named_literals.specs.Named.{passed}
use Rattle.named_literals.proofs.passed_over.Goals as goal

pub returns-then-a-eq0 : goal.returns-then-a-eq0
unfolding passed
returns-then-a-eq0 c =
    rw (eq-eqb _ _ c.if-a-eq0.true)

pub overflow_add-result : goal.overflow_add-result
unfolding passed
overflow_add-result c =
    record { fits = rw (ne_eqb c.args.a 0 c.if-a-eq0.false, le-ltb c.args.n c.args.a c.if-n-a.false) at c.requires }

pub returns-then-n-a : goal.returns-then-n-a
unfolding passed
returns-then-n-a c =
    rw (ne_eqb _ _ c.if-a-eq0.false, lt-ltb _ _ c.if-n-a.true)

pub returns-else-n-a : goal.returns-else-n-a
unfolding passed
returns-else-n-a c =
    rw (ne_eqb _ _ c.if-a-eq0.false, le-ltb _ _ c.if-n-a.false)
