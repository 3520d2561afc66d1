-- The contracts of the functions that write terms and literals into the buffer. What their text is stands in `Text` of the crate verdict; this file only
-- says how the parts of the program fit together. Of it `Sized` stands in the contract of `write_unit`.
use Rattle.std.specs.Prelude.{◌≡◌, false, List, [], ◌∷◌, ℕ, ◌+◌, ◌≤◌, ◌<◌, eqb, length, Option, Some, None}
use Rattle.record.specs.Record.{pick}
use Rattle.unification.specs.Environment.{Environment}
use Rattle.unification.specs.Nodes.{is_variable, node_arity, HasRow, arguments_from, node_row}
use Rattle.unification.specs.Row.{Row, Expression, Variable, argument_terms, row_term, written_out}
use Rattle.unification.specs.Term.{Term, Terms, apply_all, occurrences, all_occurrences}
use Rattle.unification.specs.ValueArray.{InStep, Models}
use Rattle.derivation.specs.Written.{WritesOut}
use Rattle.verdict.specs.Text.{term_text, arguments_text}
use Rattle.appearance.specs.Appearance.{appearing, all_appearing}
use Rattle.text.specs.Buffer.{KeptBefore, Wrote}
use Rattle.numbering.specs.Numbering.{name_of, Numbered}
use Rattle.appearance.specs.Growing.{Longer}
use Rattle.numbering.specs.declared.Naming.{Naming}
use Rattle.terms.specs.declared.Written.{Written}

-- The node table, the array of values and the buffer have their lengths.
pub record Sized (N A T : List ℕ) : Type 0 where
  pub nodes : length N ≡ 32768
  pub values : length A ≡ 524416
  pub text : length T ≡ 131072

-- The first argument has a parenthesis before it and every other one a comma. After the last one comes a parenthesis; where the
-- next argument would still be the first, there is none.
abbrev pub mark_before : ℕ → ℕ
mark_before n = pick (eqb n 1) 40 44

abbrev pub closing_text : ℕ → List ℕ
closing_text n = pick (eqb n 1) [] (41 ∷ [])

-- What it takes to write an expression out: the array stands for ρ, the expression is in the step, the node table holds the rows,
-- `term` has their terms, and σ gives every variable its value in ρ.
pub record Writable (N : List ℕ) (top : ℕ) (A : List ℕ) (ρ : Environment) (row : ℕ → Row) (term : ℕ → Term ℕ) (σ : Variable → Term Variable) (e : Expression) : Type 0 where
  pub models : Models N top A ρ
  pub in_step : InStep N top e
  pub rows : (r : ℕ) → HasRow N r → node_row N r ≡ row r
  pub terms : (r : ℕ) → term r ≡ row_term term r (row r)
  pub values : WritesOut term ρ σ

-- What writing an expression out asks: the tables and the buffer at their full size; some environment, rows, terms and values with which it can be written out;
-- numbers for some variables, where they are numbered; and room for as many more as occurrences may be written.
pub record WritingReady (naming : Naming) (N A T K L : List ℕ) (count : ℕ) (e : Expression) (left : ℕ) : Type 0 where
  pub sized : Sized N A T
  pub top : ℕ
  pub environment : Environment
  pub row : ℕ → Row
  pub term : ℕ → Term ℕ
  pub value : Variable → Term Variable
  pub writable : Writable N top A environment row term value e
  pub seen : List Variable
  pub numbered : Numbered naming N K L count seen
  pub room : count + left ≤ 8192

-- The same for the arguments of row r at index k, which is an application.
pub record WritingArgumentsReady (naming : Naming) (N A T K L : List ℕ) (count r k left : ℕ) : Type 0 where
  pub whole : WritingReady naming N A T K L count (r, k) left
  pub application : is_variable N r ≡ false

-- A text, over how variables are named, with so many occurrences, of which at most `left` may be written: it was written, in every line that goes on from the
-- variables seen after it, what is left was lowered by the occurrences, and these variables have numbers; or it has more, the buffer is kept up to where it would
-- have begun, and the variables seen before it have their numbers.
abbrev pub Came : Naming → List ℕ → (ℕ → Row) → List ℕ → List ℕ → List ℕ → List ℕ → ℕ → ℕ → ℕ → ((Variable → List ℕ) → List ℕ) → ℕ → List Variable → List Variable → Option Written → Type 0
Came naming N row T T' K L count at left text size seen after (Some w) =
    (size + w.left ≡ left) × Numbered naming N K L w.place.count after × ((all : List Variable) → Longer after all → Wrote T T' at w.place.end (text (name_of naming row all)))
Came naming N row T T' K L count at left text size seen after None = (left < size) × Numbered naming N K L count seen × KeptBefore T T' at

-- What came of it, and the array still stands for ρ.
pub record Writing (naming : Naming) (N : List ℕ) (top : ℕ) (A : List ℕ) (ρ : Environment) (row : ℕ → Row) (T T' K L : List ℕ) (count at left : ℕ) (text : (Variable → List ℕ) → List ℕ) (size : ℕ) (seen after : List Variable) (w : Option Written) : Type 0 where
  pub models : Models N top A ρ
  pub came : Came naming N row T T' K L count at left text size seen after w

-- An expression, written out as a term.
abbrev pub WritesTerm : Naming → List ℕ → List ℕ → List ℕ → List ℕ → List ℕ → List ℕ → List ℕ → List ℕ → List ℕ → ℕ → ℕ → Expression → ℕ → Option Written → Type 0
WritesTerm naming N A A' T T' K K' L L' count at e left w =
    (top : ℕ) (ρ : Environment) (row : ℕ → Row) (term : ℕ → Term ℕ) (σ : Variable → Term Variable) → Writable N top A ρ row term σ e
    → (seen : List Variable) → Numbered naming N K L count seen
    → Writing naming N top A' ρ row T T' K' L' count at left (λ name. term_text name (written_out term σ e)) (occurrences (written_out term σ e)) seen (appearing seen (written_out term σ e)) w

-- The arguments of row r at index k: m of them from argument n on, written out.
abbrev pub arguments_out : List ℕ → (ℕ → Term ℕ) → (Variable → Term Variable) → ℕ → ℕ → ℕ → ℕ → Terms Variable
arguments_out N term σ r k m n = apply_all (λ v. σ (v, k)) (argument_terms term (arguments_from N r m n))

abbrev pub WritesArguments : Naming → List ℕ → List ℕ → List ℕ → List ℕ → List ℕ → List ℕ → List ℕ → List ℕ → List ℕ → ℕ → ℕ → ℕ → ℕ → ℕ → Option Written → Type 0
WritesArguments naming N A A' T T' K K' L L' count at r k left w =
    (top : ℕ) (ρ : Environment) (row : ℕ → Row) (term : ℕ → Term ℕ) (σ : Variable → Term Variable) → Writable N top A ρ row term σ (r, k) → is_variable N r ≡ false
    → (seen : List Variable) → Numbered naming N K L count seen
    → Writing naming N top A' ρ row T T' K' L' count at left (λ name. arguments_text name (arguments_out N term σ r k (node_arity N r) 1)) (all_occurrences (arguments_out N term σ r k (node_arity N r) 1)) seen (all_appearing seen (arguments_out N term σ r k (node_arity N r) 1)) w

-- Less is left than before, or no more than before; and no more variables were numbered than occurrences were written.
abbrev pub FewerOccurrencesLeft : ℕ → ℕ → Option Written → Type 0
FewerOccurrencesLeft left count (Some w) = (w.left < left) × (w.place.count + w.left ≤ count + left)
FewerOccurrencesLeft left count None = Unit {0}

abbrev pub NoMoreOccurrencesLeft : ℕ → ℕ → Option Written → Type 0
NoMoreOccurrencesLeft left count (Some w) = (w.left ≤ left) × (w.place.count + w.left ≤ count + left)
NoMoreOccurrencesLeft left count None = Unit {0}
