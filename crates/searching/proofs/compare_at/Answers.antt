use Rattle.searching.proofs.SearchSteps.{past_first, second_ended, past_second, past_both, other_symbol_lem}
use Rattle.searching.proofs.compare_at.Goals as goal

pub returns-then-kind-ne1 : goal.returns-then-kind-ne1
returns-then-kind-ne1 c =
    past_first _ _ _ _ c.requires c.record_part-mine.ensures c.kind.ensures c.if-kind-ne1.true

pub returns-then-second-j : goal.returns-then-second-j
returns-then-second-j c =
    second_ended _ _ _ _ c.requires c.record_part-mine.ensures c.kind.ensures c.if-second-j.true

pub returns-then-kind-ne1-2 : goal.returns-then-kind-ne1-2
returns-then-kind-ne1-2 c =
    past_second _ _ _ _ c.requires c.record_part-mine.ensures c.kind.ensures c.if-kind-ne1.false c.if-second-j.false c.record_part-theirs.ensures c.kind-2.ensures c.if-kind-ne1-2.true

pub returns-then-count : goal.returns-then-count
returns-then-count c =
    past_both _ _ _ _ c.requires c.record_part-mine.ensures c.kind.ensures c.if-kind-ne1.false c.if-second-j.false c.record_part-theirs.ensures c.kind-2.ensures c.if-kind-ne1-2.false c.count.ensures c.count-2.ensures c.if-count.true

pub returns : goal.returns
returns c =
    other_symbol_lem _ _ _ _ c.requires c.record_part-mine.ensures c.kind.ensures c.if-kind-ne1.false c.if-second-j.false c.record_part-theirs.ensures c.kind-2.ensures c.if-kind-ne1-2.false c.count.ensures c.count-2.ensures c.if-count.false
