use mathlib.Core.Path.{◌∙◌}
use Rattle.record.specs.Record.{old_file, record_count}
use Rattle.marking.specs.Marking.{dated_by}
use Rattle.mark_records.proofs.GoingDown.{dated_same}
use Rattle.mark_records.proofs.down.mark_windows.Goals as goal

pub returns : goal.returns
returns c =
    let s = c.args in
    λ symbols rows. c.go_down.ensures (dated_by symbols rows s.clauses.now) (λ part k before after p. p symbols rows)
    ∙ dated_same symbols rows s.clauses.now (old_file s.file.now) (record_count (old_file s.file.now)) s.marks.now
