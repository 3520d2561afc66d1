-- A parent's number is smaller, so the measure is the clause's number. Each way out is one law of `Putting`.
use Rattle.loading.proofs.+load_clause.Given as goal

abbrev pub decreases-load_clause : goal.decreases-load_clause
decreases-load_clause l = l.c
