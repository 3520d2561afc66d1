use mathlib.Core.Path.{◌≡◌}
use lib.ListN.{length-set}
use native.Mathlib.Omega.{arith}
use Rattle.collecting.proofs.ListedLiterals.{placed_there}
use Rattle.collecting.proofs.CollectedLiterals.{fields_none, fields_more, input_room, input_collected}
use Rattle.collecting.proofs.literals.collect_input.Goals as goal

pub loop-n-init : goal.loop-n-init
loop-n-init c =
    fields_none _ _ _ _ _ c.told-list

pub loop-n-preserved : goal.loop-n-preserved
loop-n-preserved c =
    let x = input_room c.requires.collectable c.requires.c_value c.literals_cell-count.ensures in
    fields_more c.loop-n.invariant c.part_of.ensures (length-set _ _ _) (placed_there _ _ _ (omega (arith, c.loop-n.invariant.room, x.1)))

pub returns : goal.returns
returns c =
    let all : c.literals_cell-count.result ≡ c.loop-n.n = omega arith in
    rw all (input_collected c.requires.collectable c.requires.c_value c.literals_cell-count.ensures (omega arith) c.loop-n.invariant)
