-- Document 01, "The readout": the text of a literal, as bytes.
use Rattle.std.specs.Prelude.{Bool, true, false, List, [], ◌∷◌, ◌++◌, ℕ, zero, suc, ◌+◌, ◌/◌, ◌%◌, leb, ltb}
use Rattle.record.specs.Record.{pick}
use Rattle.unification.specs.Row.{variable, Row, application, Variable}
use Rattle.unification.specs.Term.{Term, Terms, var, app, nil, cons, occurrences}

-- A number in decimal; five digits are enough for 16 bits.
abbrev pub digits : ℕ → ℕ → List ℕ → List ℕ
digits zero n rest = rest
digits (suc k) n rest = pick (ltb n 10) ((48 + n) ∷ rest) (digits k (n / 10) ((48 + n % 10) ∷ rest))

abbrev pub decimal : ℕ → List ℕ
decimal n = digits 5 n []

-- The number of the variable in a row.
abbrev pub variable_number : Row → ℕ
variable_number (variable v) = v
variable_number (application s xs) = 0

-- The sign of a literal: `+` or `-`.
abbrev pub sign_text : Bool → ℕ
sign_text true = 43
sign_text false = 45

-- How the readout of document 01 names a variable: its number, a dot and its index.
abbrev pub number_and_index : (ℕ → Row) → Variable → List ℕ
number_and_index row x = decimal (variable_number (row x.0)) ++ (46 ∷ decimal x.1)

-- A term, over how variables are named: `v` and the variable's name; or `s`, number, and arguments in parentheses, with commas and no blanks.
module _ {X : Type 0} (name : X → List ℕ) where
  abbrev mutual
    pub term_text : Term X → List ℕ
    term_text (var x) = 118 ∷ name x
    term_text (app s ts) = 115 ∷ (decimal s ++ arguments_text ts)

    pub arguments_text : Terms X → List ℕ
    arguments_text nil = []
    arguments_text (cons t ts) = 40 ∷ (term_text t ++ further_text ts)

    pub further_text : Terms X → List ℕ
    further_text nil = 41 ∷ []
    further_text (cons t ts) = 44 ∷ (term_text t ++ further_text ts)

  -- A literal's text is defined on its value: its sign, and its atom; or `~` for one with more than 64 occurrences.
  abbrev pub literal_text : Bool × Term X → List ℕ
  literal_text l = sign_text l.0 ∷ pick (leb (occurrences l.1) 64) (term_text l.1) (126 ∷ [])

  abbrev pub literals_text : List (Bool × Term X) → List ℕ
  literals_text [] = []
  literals_text (l ∷ ls) = 32 ∷ (literal_text l ++ literals_text ls)
