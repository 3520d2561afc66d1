-- Document 02, Q-10: the variables of a clause numbered from 0 by first printed appearance, without index; what `~` hides is not numbered.
use Rattle.std.specs.Prelude.{Bool, List, [], ◌∷◌, ◌++◌, ℕ, suc, leb, ltb, length}
use Rattle.record.specs.Record.{pick}
use Rattle.unification.specs.Row.{Variable, same}
use Rattle.unification.specs.Term.{Term, Terms, var, app, nil, cons, occurrences}
use Rattle.derivation.specs.Written.{Clause, written}
use Rattle.verdict.specs.State.{term_of}
use Rattle.verdict.specs.Text.{decimal, literals_text}
use Rattle.verdict.specs.Readout.{LineWriter, line_with}

-- How many variables of a list stand before a variable: all of them before one that is not in it.
abbrev pub position : List Variable → Variable → ℕ
position [] x = 0
position (y ∷ ys) x = pick (same y x) 0 (suc (position ys x))

-- A variable that is not in the list yet comes to its end.
abbrev pub noted : List Variable → Variable → List Variable
noted seen x = pick (ltb (position seen x) (length seen)) seen (seen ++ (x ∷ []))

-- The variables seen before a term, and then its own, in the order in which they appear first.
abbrev mutual
  pub appearing : List Variable → Term Variable → List Variable
  appearing seen (var x) = noted seen x
  appearing seen (app s ts) = all_appearing seen ts

  pub all_appearing : List Variable → Terms Variable → List Variable
  all_appearing seen nil = seen
  all_appearing seen (cons t ts) = all_appearing (appearing seen t) ts

-- The same for a literal: one that is printed as `~` shows none.
abbrev pub shown : List Variable → Bool × Term Variable → List Variable
shown seen l = pick (leb (occurrences l.1) 64) (appearing seen l.1) seen

-- The same for the literals of a clause.
abbrev pub all_shown : List Variable → Clause → List Variable
all_shown seen [] = seen
all_shown seen (l ∷ ls) = all_shown (shown seen l) ls

-- A variable's name in the second readout: how many others appear before it.
abbrev pub number_in : List Variable → Variable → List ℕ
number_in seen x = decimal (position seen x)

-- The literals of a clause and its line in the second readout.
abbrev pub canonical_text : Clause → List ℕ
canonical_text ls = literals_text (number_in (all_shown [] ls)) ls

abbrev pub canonical_line : LineWriter
canonical_line S n c = line_with (canonical_text (written (term_of S) c)) n c
