-- After n literals, what was written and the literals that are left make the text of all.
use mathlib.Core.Path.{◌≡◌}
use Prim.Native.Nat.{◌*◌, ◌≤◌}
use lib.ListN.{length}
use Rattle.terms.specs.Writing.{Sized}
use Rattle.line_texts.proofs.LineTexts.{WritesSoFar}
use Rattle.found_literals.proofs.write_found_literals.Given as goal

abbrev pub invariant-loop-n : goal.invariant-loop-n
invariant-loop-n l = Sized l.nodes l.values l.text × WritesSoFar l.naming l.origins l.clauses l.nodes l.initial.values l.values l.initial.text l.text l.initial.cells l.cells l.initial.order l.order l.at l.c l.end l.numbered l.n × (l.numbered ≤ 64 * l.n) × (length l.cells ≡ length l.initial.cells) × (length l.order ≡ length l.initial.order)
