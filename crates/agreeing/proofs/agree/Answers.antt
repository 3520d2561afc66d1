use Rattle.agreeing.proofs.AgreeSteps.{disagree_here, agree_on, agree_all}
use Rattle.agreeing.proofs.agree.Goals as goal

pub returns-then-not-agree_at : goal.returns-then-not-agree_at
returns-then-not-agree_at c =
    disagree_here _ _ _ 64 _ c.image.ensures c.image-in-loop-v.ensures c.agree_at.ensures c.loop-v-test.true c.loop-v.invariant c.if-not-agree_at.true

pub loop-v-preserved : goal.loop-v-preserved
loop-v-preserved c =
    agree_on _ _ _ 64 _ c.image.ensures c.image-in-loop-v.ensures c.agree_at.ensures c.loop-v-test.true c.loop-v.invariant c.if-not-agree_at.false

pub returns : goal.returns
returns c =
    agree_all c.args.notes.now c.args.p c.args.q 64 _ c.loop-v-test.false c.loop-v.invariant
