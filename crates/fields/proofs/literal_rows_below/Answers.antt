-- The chain goes over the literals, and asks of each whether its row is below the limit.
use Rattle.std.proofs.Common.{◌/◌, take, ltb, ◌∙◌, rules, tests}
use Rattle.std.proofs.lemmas.Iterator.{YieldsList-from_slice, YieldsList-from_take}
use Rattle.std.proofs.lemmas.Iterator.Search.{all_from_yields_List}
use Rattle.record.specs.Record.{count_of, fields_of}
use Rattle.fields.proofs.FieldLaws.{literal_rows_all}
use Rattle.fields.proofs.literal_rows_below.Goals as goal

pub returns : goal.returns
returns c =
    let limit = c.args.limit in
    let n = count_of c.args.part.now in
    let fields = fields_of c.args.part.now in
    all_from_yields_List (λ l. ltb (l / 2) limit) _ _ _ c.all.ensures.ran (YieldsList-from_take n (YieldsList-from_slice fields cc) cc) (λ x b q k. search (rules, tests)) ∙ literal_rows_all limit (take n fields)
