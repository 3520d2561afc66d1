use Rattle.std.proofs.Common.{rules}
use mathlib.Core.Path.{refl}
use native.Mathlib.Omega.{arith}
use Rattle.collecting.specs.Literals.{listed}
use Rattle.line_texts.proofs.LineTexts.{literals_start, literals_end, literals_next, numbered_listed, collected_literals, listed_ready, numbered_ready}
use Rattle.collected_literals.proofs.write_collected_literals.Goals as goal

pub loop-n-init : goal.loop-n-init
loop-n-init c =
    (c.requires.sized, literals_start _ _ _ _ _ _ _ _ _ _, omega arith, refl, refl)

pub write_listed-p-requires : goal.write_listed-p-requires
unfolding listed
write_listed-p-requires c =
    let l = c.loop-n in
    let X = c.collect-count.ensures in
    let more = c.loop-n-test.true in
    listed_ready X _ (omega arith) (omega (arith, more)) (numbered_ready c.requires l.invariant.1 (collected_literals X) more l.invariant.2 l.invariant.0)

pub loop-n-preserved : goal.loop-n-preserved
unfolding listed
loop-n-preserved c =
    let l = c.loop-n in
    (c.write_listed-p.ensures.2, literals_next _ _ _ _ _ _ _ _ _ _ _ _ _ _ l.end l.numbered l.n _ l.invariant.1 (collected_literals c.collect-count.ensures) c.loop-n-test.true _ _ _ _ _ (numbered_listed c.collect-count.ensures _ (omega arith) (omega (arith, c.loop-n-test.true)) _ _ _ _ _ _ _ _ _ _ _ _ _ c.write_listed-p.ensures.0), omega (arith, c.write_listed-p.ensures.1), search rules, search rules)

pub returns : goal.returns
returns c =
    let l = c.loop-n in
    (literals_end _ _ _ _ _ _ _ _ _ _ _ _ _ _ l.end l.numbered l.n _ l.invariant.1 (collected_literals c.collect-count.ensures) (omega (arith, c.loop-n-test.false)) _ refl refl, l.invariant.0)
