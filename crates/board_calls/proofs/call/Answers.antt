use mathlib.Core.Path.{refl}
use Rattle.record.specs.Record.{old_file}
use Rattle.board_calls.proofs.CallSteps.{inside, too_short, no_input_lem, already, gone_through}
use Rattle.board_calls.proofs.call.Goals as goal

pub returns-then-board-lt4097 : goal.returns-then-board-lt4097
returns-then-board-lt4097 c =
    too_short (old_file c.args.file.now) c.args.clauses.now c.args.board.now c.args.n c.args.present c.if-board-lt4097.true

pub returns-then-not-is_input : goal.returns-then-not-is_input
returns-then-not-is_input c =
    no_input_lem (old_file c.args.file.now) c.args.clauses.now c.args.board.now c.args.n c.args.present c.if-board-lt4097.false c.is_input.ensures (c.if-not-is_input.true)

pub returns-then-stands_cell-present : goal.returns-then-stands_cell-present
returns-then-stands_cell-present c =
    already (old_file c.args.file.now) c.args.clauses.now c.args.board.now c.args.n c.args.present c.if-board-lt4097.false c.is_input.ensures (c.if-not-is_input.false) c.cell.ensures c.stands_cell.ensures refl c.if-stands_cell-present.true

pub change-requires : goal.change-requires
change-requires c =
    inside (old_file c.args.file.now) c.args.clauses.now c.args.board.now c.args.n c.is_input.ensures (c.if-not-is_input.false)

pub returns : goal.returns
returns c =
    gone_through (old_file c.args.file.now) c.args.clauses.now c.args.board.now c.args.n c.args.present c.if-board-lt4097.false c.is_input.ensures (c.if-not-is_input.false) c.cell.ensures c.stands_cell.ensures refl c.if-stands_cell-present.false c.change.ensures _ c.lowest_answer.ensures
