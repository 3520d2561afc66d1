use Rattle.std.proofs.Common.{rules}
use mathlib.Core.Path.{refl}
use native.Mathlib.Omega.{arith}
use Rattle.line_texts.proofs.LineTexts.{literals_start, literals_end, literals_next, numbered_ready, cell_literals}
use Rattle.found_literals.proofs.write_found_literals.Goals as goal

pub loop-n-init : goal.loop-n-init
loop-n-init c =
    (c.requires.sized, literals_start _ _ _ _ _ _ _ _ _ _, omega arith, refl, refl)

pub write_numbered-p-requires : goal.write_numbered-p-requires
write_numbered-p-requires c =
    let l = c.loop-n in
    numbered_ready c.requires l.invariant.1 (cell_literals c.literals_cell-count.ensures) c.loop-n-test.true l.invariant.2 l.invariant.0

pub loop-n-preserved : goal.loop-n-preserved
loop-n-preserved c =
    let l = c.loop-n in
    (c.write_numbered-p.ensures.2, literals_next _ _ _ _ _ _ _ _ _ _ _ _ _ _ l.end l.numbered l.n _ l.invariant.1 (cell_literals c.literals_cell-count.ensures) c.loop-n-test.true _ _ _ _ _ c.write_numbered-p.ensures.0, omega (arith, c.write_numbered-p.ensures.1), search rules, search rules)

pub returns : goal.returns
returns c =
    let l = c.loop-n in
    (literals_end _ _ _ _ _ _ _ _ _ _ _ _ _ _ l.end l.numbered l.n _ l.invariant.1 (cell_literals c.literals_cell-count.ensures) (omega arith) _ refl refl, l.invariant.0)
