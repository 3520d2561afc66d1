-- The literal found is the one with the number.
use Rattle.line_texts.proofs.LineTexts.{literal_there, numbered_found, found_ready}
use Rattle.found_literals.proofs.write_numbered.Goals as goal

pub unwrap-l-requires : goal.unwrap-l-requires
unwrap-l-requires c =
    literal_there _ _ _ _ _ _ _ _ _ c.args.at _ _ _ c.literal.ensures c.requires

pub write_literal-requires : goal.write_literal-requires
write_literal-requires c =
    found_ready _ _ _ _ _ _ _ _ _ c.args.at _ _ _ c.literal.ensures _ c.unwrap-l.ensures c.requires

pub returns : goal.returns
returns c =
    (numbered_found _ _ _ _ _ _ _ _ _ _ _ _ _ c.literal.ensures _ c.unwrap-l.ensures _ _ _ _ _ c.write_literal.ensures.0, c.write_literal.ensures.1, c.write_literal.ensures.2)
