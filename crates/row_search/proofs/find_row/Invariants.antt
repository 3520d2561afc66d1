-- Every row below n that has the cells is on the rest of the chain.
use mathlib.Core.List.{◌∷◌}
use Rattle.distinct.proofs.Searching.{Sought}
use Rattle.row_search.proofs.find_row.Given as goal

abbrev pub invariant-loop : goal.invariant-loop
invariant-loop l = Sought l.nodes l.n l.links (l.code ∷ l.numbers) l.c
