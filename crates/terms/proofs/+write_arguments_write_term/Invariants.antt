use Prim.Native.Nat.{◌≤◌, ◌+◌, ◌-◌, ◌*◌}
use Rattle.unification.specs.Nodes.{node_arity}
use Rattle.terms.specs.Writing.{Sized}
use Rattle.terms.proofs.ArgumentTexts.{Scanned}
use Rattle.terms.proofs.+write_arguments_write_term.Given as goal

abbrev pub decreases-write_arguments : goal.decreases-write_arguments
decreases-write_arguments l = 2 * l.from.left + 1

abbrev pub decreases-write_term : goal.decreases-write_term
decreases-write_term l = 2 * l.from.left

-- What was written before argument n, from 0, and those left make the text of all.
abbrev pub invariant-write_arguments-loop-n : goal.invariant-write_arguments-loop-n
invariant-write_arguments-loop-n l = record {
  sized : Sized l.nodes l.values l.text;
  fewer : l.done.left ≤ l.fn.from.left;
  few : l.done.place.count + l.done.left ≤ l.fn.from.place.count + l.fn.from.left;
  scanned : Scanned l.naming l.nodes l.initial.values l.values l.initial.text l.text l.initial.cells l.cells l.initial.order l.order l.fn.from.place.count l.fn.from.place.end l.r l.k l.fn.from.left l.done.place.end (l.n + 1) (node_arity l.nodes l.r - l.n) l.done.left l.done.place.count;
}
