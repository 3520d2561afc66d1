use mathlib.Core.Path.{◌∙◌}
use native.Mathlib.Omega.{arith}
use Rattle.line_texts.proofs.LineTexts.{line_clear, line_load, line_literals, line_written}
use Rattle.lines.proofs.line.write_line.Goals as goal

pub clear-requires : goal.clear-requires
clear-requires c =
    let h = line_clear c.requires _ c.index_cell-top.ensures in
    omega (arith, h.1)

pub load-requires : goal.load-requires
load-requires c =
    line_load c.requires _ (omega arith)

pub write_literals-last-requires : goal.write_literals-last-requires
write_literals-last-requires c =
    line_literals c.requires _ c.index_cell-top.ensures _ _ c.clear.ensures.cleared c.load.ensures _
    (c.put_decimal-first.ensures.kept.room ∙ c.put_byte-index.ensures.kept.room ∙ c.put_decimal-blank.ensures.kept.room ∙ c.requires.text)

pub returns : goal.returns
returns c =
    line_written _ _ _ _ _ _ _ _ _ _ _ _ c.index_cell-top.ensures _ _ _ c.clear.ensures.cleared c.load.ensures _ _ c.put_decimal-blank.ensures _ _ c.put_byte-index.ensures _ _ c.put_decimal-first.ensures _ _ _ _ c.write_literals-last.ensures.0 c.write_literals-last.ensures.1 _ _ c.put_byte.ensures c.requires
