use Rattle.close_up.proofs.ClosedFields.{nothing_closed, symbol_closed, row_closed, clause_closed, literal_closed}
use borrow.Author.Rules.{rules}
use Rattle.close_up.proofs.closed_number.Goals as goal

pub returns-in-Nothing : goal.returns-in-Nothing
returns-in-Nothing c =
    nothing_closed c.args.symbols.now c.args.rows.now c.args.clauses.now c.args.numbers.now c.args.what c.args.n c.record_named-k.ensures c.cell-new.ensures c.in-Nothing.is (search rules)

pub returns-in-Symbol : goal.returns-in-Symbol
returns-in-Symbol c =
    symbol_closed c.args.symbols.now c.args.rows.now c.args.clauses.now c.args.numbers.now c.args.what c.args.n c.record_named-k.ensures c.cell-new.ensures c.in-Symbol.is (search rules)

pub returns-in-Row : goal.returns-in-Row
returns-in-Row c =
    row_closed c.args.symbols.now c.args.rows.now c.args.clauses.now c.args.numbers.now c.args.what c.args.n c.record_named-k.ensures c.cell-new.ensures c.in-Row.is (search rules)

pub returns-in-Literal : goal.returns-in-Literal
returns-in-Literal c =
    rw (c.from.ensures, c.from-in-Literal.ensures) (literal_closed c.args.symbols.now c.args.rows.now c.args.clauses.now c.args.numbers.now c.args.what c.args.n c.record_named-k.ensures c.cell-new.ensures c.in-Literal.is)

pub returns-in-Clause : goal.returns-in-Clause
returns-in-Clause c =
    clause_closed c.args.symbols.now c.args.rows.now c.args.clauses.now c.args.numbers.now c.args.what c.args.n c.record_named-k.ensures c.cell-new.ensures c.in-Clause.is (search rules)
