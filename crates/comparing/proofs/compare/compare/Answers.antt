use Rattle.std.proofs.Common.{refl}
use Rattle.comparing.proofs.CompareSteps.{not_standing, not_input_left, not_input_right, choose_ready, both_input}
use Rattle.comparing.proofs.compare.compare.Goals as goal
use Rattle.comparing.proofs.compare.compare.Goals.{then-not-is_input-via-then-not-is_input, then-not-is_input-via-else-not-is_input+then-not-is_input-2}

pub returns-then-not-stands : goal.returns-then-not-stands
returns-then-not-stands c =
    let s = c.args in
    not_standing s.clauses.now s.nodes.now s.origins.now s.a s.c s.d _ refl _ c.stands.ensures c.if-not-stands.true

pub returns-then-not-is_input : goal.returns-then-not-is_input
returns-then-not-is_input c =
    let s = c.args in
    elim c.then-not-is_input.branch [
      | then-not-is_input-via-then-not-is_input w ↦ not_input_left s.clauses.now s.nodes.now s.origins.now s.a s.c s.d _ _ c.stands.ensures c.if-not-stands.false refl _ c.is_input.ensures w.if-not-is_input.true
      | then-not-is_input-via-else-not-is_input+then-not-is_input-2 w ↦ not_input_right s.clauses.now s.nodes.now s.origins.now s.a s.c s.d _ _ c.stands.ensures c.if-not-stands.false refl _ w.is_input-else-not-is_input.ensures w.if-not-is_input-2.true
    ]

pub choose-requires : goal.choose-requires
choose-requires c =
    let s = c.args in
    choose_ready s.clauses.now s.nodes.now s.origins.now s.a s.c s.d _ c.stands.ensures c.if-not-stands.false c.requires _ c.is_input.ensures c.if-not-is_input.false _ c.is_input-else-not-is_input.ensures c.if-not-is_input-2.false _ _ c.literals_cell.ensures c.literals_cell-2.ensures

pub returns : goal.returns
returns c =
    let s = c.args in
    both_input s.clauses.now s.nodes.now s.origins.now s.a s.c s.d _ _ c.stands.ensures c.if-not-stands.false _ c.is_input.ensures c.if-not-is_input.false _ c.is_input-else-not-is_input.ensures c.if-not-is_input-2.false _ _ c.literals_cell.ensures c.literals_cell-2.ensures c.choose.ensures
