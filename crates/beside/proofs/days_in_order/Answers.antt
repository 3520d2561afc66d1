use mathlib.Core.Path.{sym, ap, ap₂, ◌∙◌}
use lib.Dec.{leb}
use Rattle.record.specs.Record.{decoded_in}
use Rattle.verdict.specs.Refusal.{in_order}
use Rattle.record.specs.declared.Form.{Form}
use Rattle.beside.proofs.days_in_order.Goals as goal

pub returns-in-New : goal.returns-in-New
returns-in-New c =
    ap₂ leb c.field.ensures c.field-in-New.ensures ∙ sym (ap (λ (f : Form). in_order (decoded_in f c.args.part.now).days) c.in-New.is)
