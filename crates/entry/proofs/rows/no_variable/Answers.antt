-- The chain goes over the literals, and asks of each whether its row is none of a variable.
use Rattle.std.proofs.Common.{◌/◌, take, not, ◌∙◌, rules, tests}
use Rattle.std.proofs.lemmas.Iterator.{YieldsList-from_slice, YieldsList-from_take}
use Rattle.std.proofs.lemmas.Iterator.Search.{all_from_yields_List}
use Rattle.record.specs.Record.{count_of, fields_of}
use Rattle.unification.specs.Nodes.{is_variable}
use Rattle.entry.specs.Program.{earliest_node}
use Rattle.entry.proofs.NodeLaws.{no_variable_all}
use Rattle.entry.proofs.rows.no_variable.Goals as goal

pub returns : goal.returns
returns c =
    let N = c.args.nodes.now in
    let n = count_of c.args.part.now in
    let fields = fields_of c.args.part.now in
    all_from_yields_List (λ l. not (is_variable N (earliest_node N (l / 2)))) _ _ _ c.all.ensures.ran (YieldsList-from_take n (YieldsList-from_slice fields cc) cc) (λ x b q k. search (rules, tests)) ∙ no_variable_all N (take n fields)
