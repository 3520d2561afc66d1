use Rattle.close_up.proofs.SixteenPlaced.{pair_placed}
use Rattle.close_up.proofs.put_fields.Goals as goal

pub put_pair-requires : goal.put_pair-requires
put_pair-requires c =
    c.requires.room

pub returns : goal.returns
returns c =
    pair_placed c.args.at c.args.output.now c.closed_field-first.ensures c.closed_field-second.ensures c.put_pair.ensures
