-- What is left of the fields marks the same as all of them.
use mathlib.Core.Path.{◌≡◌}
use Rattle.mark_records.proofs.MarkedFields.{left_to_mark}
use Rattle.mark_records.proofs.mark_fields.Given as goal

abbrev pub invariant-loop-i : goal.invariant-loop-i
invariant-loop-i l = left_to_mark l.symbols l.rows l.clauses l.part l.initial.marks l.i l.marks ≡ left_to_mark l.symbols l.rows l.clauses l.part l.initial.marks 0 l.initial.marks
