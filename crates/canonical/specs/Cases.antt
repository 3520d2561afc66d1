-- Document 02, Q-10: the literals of two clauses in the second readout, written out.
use Rattle.std.specs.Prelude.{◌≡◌, true, false, [], ◌∷◌, ℕ}
use Rattle.unification.specs.Row.{Variable}
use Rattle.unification.specs.Term.{Term, var, app, nil, cons}
use Rattle.derivation.specs.Written.{Clause}
use Rattle.verdict.specs.Cases.{text_bytes}
use Rattle.verdict.specs.Edges.{nested}
use Rattle.appearance.specs.Appearance.{canonical_text}

-- A symbol's number and two variables.
abbrev pub of_two : ℕ → Variable → Variable → Term Variable
of_two s x y = app s (cons (var x) (cons (var y) nil))

-- The first literal has 65 occurrences and is hidden, and the variable of row 0 in it takes no number: that of row 1 is printed first and gets 0. The third
-- literal has the two in the other order.
abbrev pub hidden_first : Clause
hidden_first = (false, nested 64) ∷ (true, of_two 0 (1, 1) (0, 1)) ∷ (false, of_two 1 (0, 1) (1, 1)) ∷ []

-- One row at the indices 2 and 1 is two variables.
abbrev pub two_indices : Clause
two_indices = (true, of_two 0 (0, 2) (0, 1)) ∷ (false, of_two 1 (0, 1) (0, 2)) ∷ []

pub record CanonicalCasesHold : Type 0 where
  pub hidden : canonical_text hidden_first ≡ text_bytes " -~ +s0(v0,v1) -s1(v1,v0)"
  pub indices : canonical_text two_indices ≡ text_bytes " +s0(v0,v1) -s1(v1,v0)"
