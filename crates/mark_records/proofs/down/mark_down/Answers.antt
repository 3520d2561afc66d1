use mathlib.Core.Path.{◌∙◌}
use borrow.Author.Rules.{rules}
use Rattle.record.specs.Record.{old_file, record_count}
use Rattle.marking.specs.Marking.{marked_by}
use Rattle.mark_records.proofs.GoingDown.{marked_same}
use Rattle.mark_records.proofs.down.mark_down.Goals as goal

pub returns : goal.returns
returns c =
    let s = c.args in
    c.go_down.ensures (marked_by s.symbols.now s.rows.now s.clauses.now) (λ part k before after p. search rules)
    ∙ marked_same s.symbols.now s.rows.now s.clauses.now (old_file s.file.now) (record_count (old_file s.file.now)) s.marks.now
