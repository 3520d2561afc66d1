use mathlib.Core.Path.{subst}
use Rattle.record.specs.Record.{in_form}
use Rattle.record.specs.declared.Form.{Form}
use Rattle.rewriting.specs.Rewritten.{Convertible}
use Rattle.rewriting.proofs.RoomLooked.{told_form}
use Rattle.rewriting.proofs.rewrite.Goals as goal

pub rewrite_old-requires : goal.rewrite_old-requires
rewrite_old-requires c =
    subst (λ (f : Form). Convertible (in_form f c.args.file.now) c.args.output.now) c.in-Old.is c.requires

pub rewrite_new-requires : goal.rewrite_new-requires
rewrite_new-requires c =
    subst (λ (f : Form). Convertible (in_form f c.args.file.now) c.args.output.now) c.in-New.is c.requires

pub returns-in-Old : goal.returns-in-Old
returns-in-Old c =
    told_form c.args.file.now c.args.output.now c.in-Old.is c.rewrite_old.ensures

pub returns-in-New : goal.returns-in-New
returns-in-New c =
    told_form c.args.file.now c.args.output.now c.in-New.is c.rewrite_new.ensures
