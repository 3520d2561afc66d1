use mathlib.Core.Path.{refl, ◌∙◌}
use native.Mathlib.Omega.{arith}
use Rattle.literal_text.proofs.LiteralTexts.{literal_done, literal_over, numbered_few}
use Rattle.terms.proofs.TermTexts.{ready_then}
use Rattle.literal_text.proofs.write_literal.Goals as goal

pub write_term-written-requires : goal.write_term-written-requires
write_term-written-requires c =
    ready_then c.requires _ (c.put_byte-atom.ensures.kept.room ∙ c.put_byte-after.ensures.kept.room)

pub returns-in-Some : goal.returns-in-Some
returns-in-Some c =
    (literal_done _ _ _ _ _ _ _ _ _ _ _ _ _ _ _ _ c.args.positive _ _ c.put_byte-after.ensures c.sign.ensures c.put_byte-atom.ensures _ c.write_term-written.ensures.0 _ c.in-Some.is, numbered_few _ c.in-Some.is c.write_term-written.ensures.1, c.write_term-written.ensures.2)

pub returns-in-None : goal.returns-in-None
returns-in-None c =
    let z = c.write_term-written.ensures.2 in
    (literal_over _ _ _ _ _ _ _ _ _ _ _ _ _ _ _ _ c.args.positive _ _ c.put_byte-after.ensures c.sign.ensures c.put_byte-atom.ensures _ c.write_term-written.ensures.0 c.in-None.is _ _ c.put_byte.ensures refl, omega arith, record { nodes = z.nodes; values = z.values; text = c.put_byte.ensures.kept.room ∙ z.text })
