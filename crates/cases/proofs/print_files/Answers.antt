-- Each file lies within the pack, behind the one before it.
use mathlib.Core.Path.{sym, ◌∙◌}
use Rattle.std.proofs.Common.{arith}
use Rattle.pack.proofs.PackLaws.{inside}
use Rattle.cases.proofs.print_files.Goals as goal

pub slice_bounds-entry_outcome-count : goal.slice_bounds-entry_outcome-count
slice_bounds-entry_outcome-count g c =
    (inside (sym c.entry_at.ensures ∙ c.in-Some.is)).ordered

pub slice_bounds-entry_outcome-start : goal.slice_bounds-entry_outcome-start
slice_bounds-entry_outcome-start g c =
    let i = inside (sym c.entry_at.ensures ∙ c.in-Some.is) in
    omega (arith, i.ordered, i.ends)

pub slice_bounds-entry_outcome-end : goal.slice_bounds-entry_outcome-end
slice_bounds-entry_outcome-end g c =
    let i = inside (sym c.entry_at.ensures ∙ c.in-Some.is) in
    omega (arith, i.ordered, i.ends)

pub loop-file-smaller : goal.loop-file-smaller
loop-file-smaller g c =
    let i = inside (sym c.entry_at.ensures ∙ c.in-Some.is) in
    omega (arith, i.begins, i.ordered, i.ends)

pub loop-file-preserved : goal.loop-file-preserved
loop-file-preserved g c =
    let i = inside (sym c.entry_at.ensures ∙ c.in-Some.is) in
    (i.ends, omega (arith, i.begins, i.ordered))
