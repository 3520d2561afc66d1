-- Document 02, Q-10: two clauses with the same literals in the same order, up to a one-to-one renaming of variables, print the same literals, and any two
-- that print the same without `~` are so related.
use Rattle.std.specs.Prelude.{◌≡◌, Bool, true, false, ◌⊎◌, List, [], ◌∷◌, ◌++◌, map, ℕ, suc, ◌≤◌, ◌<◌, eqb, leb}
use Rattle.std.proofs.Math.Option.{some}
use Rattle.record.specs.Record.{pick, File}
use Rattle.unification.specs.Row.{Variable}
use Rattle.unification.specs.Term.{Term, Terms, var, app, nil, cons, apply, occurrences}
use Rattle.derivation.specs.Derivation.{Derivation}
use Rattle.derivation.specs.Written.{Clause, written}
use Rattle.verdict.specs.State.{clause_of, row_of, term_of}
use Rattle.verdict.specs.Text.{decimal, number_and_index, term_text, literals_text}
use Rattle.verdict.specs.Verdict.{Lengths, reading, state_given}
use Rattle.appearance.specs.Appearance.{canonical_text}
use Rattle.demands.specs.Conditions.{OneOf}

-- ── Renaming, on terms written out ──

-- The variable occurs in a term, in one of several, in a literal of a clause.
abbrev mutual
  pub OccursIn : Variable → Term Variable → Type 0
  OccursIn x (var y) = x ≡ y
  OccursIn x (app s ts) = OccursInSome x ts

  pub OccursInSome : Variable → Terms Variable → Type 0
  OccursInSome x nil = ⊥
  OccursInSome x (cons t ts) = OccursIn x t ⊎ OccursInSome x ts

abbrev pub OccursInClause : Variable → Clause → Type 0
OccursInClause x [] = ⊥
OccursInClause x (l ∷ ls) = OccursIn x l.1 ⊎ OccursInClause x ls

-- A literal with its variables renamed, and one with a number for each variable.
abbrev pub renamed_literal : (Variable → Variable) → Bool × Term Variable → Bool × Term Variable
renamed_literal f l = (l.0, apply (λ x. var (f x)) l.1)

abbrev pub numbered_literal : (Variable → ℕ) → Bool × Term Variable → Bool × Term ℕ
numbered_literal number l = (l.0, apply (λ x. var (number x)) l.1)

-- The same literals in the same order up to a renaming that is one-to-one on the clause's variables. Textbooks call such clauses variants.
pub record SameUpToRenaming (ls ms : Clause) : Type 0 where
  pub renaming : Variable → Variable
  pub one_to_one : (x y : Variable) → OccursInClause x ls → OccursInClause y ls → renaming x ≡ renaming y → x ≡ y
  pub same : map (renamed_literal renaming) ls ≡ ms

-- ── Texts ──

-- A `~`, byte 126, is in a text.
abbrev pub has_tilde : List ℕ → Bool
has_tilde [] = false
has_tilde (b ∷ bs) = pick (eqb b 126) true (has_tilde bs)

-- Every literal of a clause has at most 64 occurrences, so that it is printed in full.
abbrev pub AllPrinted : Clause → Type 0
AllPrinted [] = Unit {0}
AllPrinted (l ∷ ls) = (occurrences l.1 ≤ 64) × AllPrinted ls

-- Every number in a term, of a symbol or a variable, has at most five digits.
abbrev mutual
  pub FiveDigits : Term ℕ → Type 0
  FiveDigits (var n) = n < 100000
  FiveDigits (app s ts) = (s < 100000) × AllFiveDigits ts

  pub AllFiveDigits : Terms ℕ → Type 0
  AllFiveDigits nil = Unit {0}
  AllFiveDigits (cons t ts) = FiveDigits t × AllFiveDigits ts

abbrev pub FiveDigitLiterals : List (Bool × Term ℕ) → Type 0
FiveDigitLiterals [] = Unit {0}
FiveDigitLiterals (l ∷ ls) = FiveDigits l.1 × FiveDigitLiterals ls

-- A text can be read back in one way only: terms with numbers for variables, and lists of literals without `~`, that have the same text are the same.
pub record ReadInOneWay : Type 0 where
  pub term : (t u : Term ℕ) → FiveDigits t → FiveDigits u → term_text decimal t ≡ term_text decimal u → t ≡ u
  pub clause : (ls ms : List (Bool × Term ℕ)) → FiveDigitLiterals ls → FiveDigitLiterals ms → literals_text decimal ls ≡ literals_text decimal ms
      → has_tilde (literals_text decimal ls) ≡ false → ls ≡ ms

-- ── Numbers by first printed appearance ──

-- The variables of a term as they are printed, from left to right; and those of a clause, without what `~` hides.
abbrev mutual
  pub printed_of : Term Variable → List Variable
  printed_of (var x) = x ∷ []
  printed_of (app s ts) = all_printed_of ts

  pub all_printed_of : Terms Variable → List Variable
  all_printed_of nil = []
  all_printed_of (cons t ts) = printed_of t ++ all_printed_of ts

abbrev pub printed_variables : Clause → List Variable
printed_variables [] = []
printed_variables (l ∷ ls) = pick (leb (occurrences l.1) 64) (printed_of l.1) [] ++ printed_variables ls

-- What is printed is the clause with a number for each variable. Different variables that are printed have different numbers, and before a number's first appearance stands the
-- number below it: so they are numbered from 0 on, as they appear, and no number is taken by what is not printed.
pub record NumberedByAppearance (ls : Clause) : Type 0 where
  pub number : Variable → ℕ
  pub text : canonical_text ls ≡ literals_text decimal (map (numbered_literal number) ls)
  pub different : (x y : Variable) → OneOf x (printed_variables ls) → OneOf y (printed_variables ls) → number x ≡ number y → x ≡ y
  pub in_order : (front back : List Variable) (x : Variable) (n : ℕ) → printed_variables ls ≡ front ++ (x ∷ back) → number x ≡ suc n → (y : Variable) × OneOf y front × (number y ≡ n)

-- ── What is shown ──

-- ls are the literals of a clause that a readout of the file lists.
pub record Listed (file : File) (lengths : Lengths) (ls : Clause) : Type 0 where
  pub number : ℕ
  pub clause : Derivation
  pub is_clause : clause_of (state_given (reading file lengths)) number ≡ some clause
  pub is_written : written (term_of (state_given (reading file lengths))) clause ≡ ls

-- Two clauses, of one file or of two.
pub record SameClauseSameLine : Type 0 where
  pub same_text : (ls ms : Clause) → SameUpToRenaming ls ms → canonical_text ls ≡ canonical_text ms
  pub related : (file other : File) (lengths otherLengths : Lengths) (ls ms : Clause) → Listed file lengths ls → Listed other otherLengths ms
      → canonical_text ls ≡ canonical_text ms → has_tilde (canonical_text ls) ≡ false → SameUpToRenaming ls ms
  -- There is no `~` where, and only where, every literal has at most 64 occurrences.
  pub tilde : (ls : Clause) → (has_tilde (canonical_text ls) ≡ false → AllPrinted ls) × (AllPrinted ls → has_tilde (canonical_text ls) ≡ false)
  pub read_in_one_way : ReadInOneWay
  pub numbered : (ls : Clause) → NumberedByAppearance ls
  -- Variables of a clause are told apart as the first readout tells them apart, by number and index: no variable of a clause gets two numbers because two rows declare it.
  pub one_variable : (file : File) (lengths : Lengths) (ls : Clause) → Listed file lengths ls → (x y : Variable) → OccursInClause x ls → OccursInClause y ls
      → number_and_index (row_of (state_given (reading file lengths))) x ≡ number_and_index (row_of (state_given (reading file lengths))) y → x ≡ y
