-- The symbols of a clause that is written out are those of its rows, so their numbers have at most five digits.
use mathlib.Core.Path.{◌≡◌}
use mathlib.Core.Bool.{Bool, true, false}
use mathlib.Core.Option.{Option, some}
use mathlib.Core.List.{List, [], ◌∷◌, map}
use Prim.Native.Nat.{ℕ, ◌-◌, ◌<◌}
use native.Mathlib.Omega.{arith}
use lib.Dec.{eqb, leb}
use lib.ListN.{length}
use Rattle.record.specs.Record.{pick}
use Rattle.unification.specs.Environment.{Binding}
use Rattle.unification.specs.Row.{variable, Row, application, Expression, Variable, same, argument_terms, row_term, term_at, written_out}
use Rattle.unification.specs.Substitution.{single, composed}
use Rattle.unification.specs.Term.{Term, Terms, var, app, nil, cons, apply, apply_all}
use Rattle.unification.proofs.Lists.{Each}
use Rattle.unification.proofs.Rows.{RowOk, RowsOk}
use Rattle.derivation.specs.Derivation.{input, Literal, Derivation, resolve, factor, maximum_index}
use Rattle.derivation.specs.Written.{renamed, joined_substitution, substitution, written_literal}
use Rattle.canonical.specs.SameClause.{FiveDigits, AllFiveDigits, FiveDigitLiterals}
use Rattle.canonical.proofs.Relabelling.{relabelled}

-- Every symbol's number has at most five digits.
abbrev mutual
  pub SmallSymbols : {X : Type 0} → Term X → Type 0
  SmallSymbols (var x) = Unit {0}
  SmallSymbols (app s ts) = (s < 100000) × AllSmallSymbols ts

  pub AllSmallSymbols : {X : Type 0} → Terms X → Type 0
  AllSmallSymbols nil = Unit {0}
  AllSmallSymbols (cons t ts) = SmallSymbols t × AllSmallSymbols ts

-- A substitution brings in its own symbols only.
module _ {X Y : Type 0} (γ : X → Term Y) (h : (x : X) → SmallSymbols (γ x)) where
  mutual
    symbols_apply : (t : Term X) → SmallSymbols t → SmallSymbols (apply γ t)
    symbols_apply (var x) k = h x
    symbols_apply (app s ts) k = (k.0, symbols_apply_all ts k.1)

    symbols_apply_all : (ts : Terms X) → AllSmallSymbols ts → AllSmallSymbols (apply_all γ ts)
    symbols_apply_all nil k = tt
    symbols_apply_all (cons t ts) k = (symbols_apply t k.0, symbols_apply_all ts k.1)

-- ── Rows ──
module _ (ar : ℕ → Option ℕ) (few : (s n : ℕ) → ar s ≡ some n → s < 100000) where
  arguments_symbols : (before : ℕ → Term ℕ) → ((r : ℕ) → SmallSymbols (before r)) → (xs : List ℕ) → AllSmallSymbols (argument_terms before xs)
  arguments_symbols before h [] = tt
  arguments_symbols before h (x ∷ xs) = (h x, arguments_symbols before h xs)

  row_symbols : (before : ℕ → Term ℕ) → ((r : ℕ) → SmallSymbols (before r)) → (ws : List Row) (r : ℕ) (w : Row) → RowOk ar ws w → SmallSymbols (row_term before r w)
  row_symbols before h ws r (variable v) k = tt
  row_symbols before h ws r (application s xs) k = (few s (length xs) k.0, arguments_symbols before h xs)

  pub term_symbols : (ws : List Row) → RowsOk ar ws → (r : ℕ) → SmallSymbols (term_at ws r)
  term_symbols [] h r = (omega arith, tt)
  term_symbols (w ∷ ws) h r = try (eqb r (length ws)) (λ q. term_symbols ws h.1 q)
    where
      try : (b : Bool) → ((q : ℕ) → SmallSymbols (term_at ws q)) → SmallSymbols (pick b (row_term (term_at ws) r w) (term_at ws r))
      try true ih = row_symbols (term_at ws) ih ws r w h.0
      try false ih = ih r

-- ── Clauses ──
module _ (term : ℕ → Term ℕ) (small : (r : ℕ) → SmallSymbols (term r)) where
  written_symbols : (σ : Variable → Term Variable) → ((x : Variable) → SmallSymbols (σ x)) → (e : Expression) → SmallSymbols (written_out term σ e)
  written_symbols σ h e = symbols_apply (λ v. σ (v, e.1)) (λ v. h (v, e.1)) (term e.0) (small e.0)

  single_symbols : (x : Variable) (t : Term Variable) → SmallSymbols t → (y : Variable) → SmallSymbols (single x t y)
  single_symbols x t h y = try (same y x)
    where
      try : (b : Bool) → SmallSymbols (pick b t (var y))
      try true = h
      try false = tt

  composed_symbols : (σ : Variable → Term Variable) → ((x : Variable) → SmallSymbols (σ x)) → (bs : List Binding) (x : Variable) → SmallSymbols (composed term σ bs x)
  composed_symbols σ h [] x = h x
  composed_symbols σ h (b ∷ bs) x =
      symbols_apply (single b.0 (written_out term (composed term σ bs) b.1))
      (single_symbols b.0 (written_out term (composed term σ bs) b.1) (written_symbols (composed term σ bs) (λ y. composed_symbols σ h bs y) b.1))
      (composed term σ bs x) (composed_symbols σ h bs x)

  joined_symbols : (m : ℕ) (σ τ : Variable → Term Variable) → ((x : Variable) → SmallSymbols (σ x)) → ((x : Variable) → SmallSymbols (τ x)) → (x : Variable) → SmallSymbols (joined_substitution m σ τ x)
  joined_symbols m σ τ h k x = try (leb x.1 m)
    where
      try : (b : Bool) → SmallSymbols (pick b (σ x) (apply (renamed m) (τ (x.0, x.1 - m))))
      try true = h x
      try false = symbols_apply (renamed m) (λ y. tt) (τ (x.0, x.1 - m)) (k (x.0, x.1 - m))

  substitution_symbols : (c : Derivation) (x : Variable) → SmallSymbols (substitution term c x)
  substitution_symbols (input number ls) x = tt
  substitution_symbols (resolve number l a r ns bs) x =
      composed_symbols (joined_substitution (maximum_index l) (substitution term l) (substitution term r))
      (joined_symbols (maximum_index l) (substitution term l) (substitution term r) (λ y. substitution_symbols l y) (λ y. substitution_symbols r y)) bs x
  substitution_symbols (factor number c a b bs) x = composed_symbols (substitution term c) (λ y. substitution_symbols c y) bs x

  pub clause_symbols : (c : Derivation) (ls : List Literal) → Each (λ (l : Bool × Term Variable). SmallSymbols l.1) (map (written_literal term (substitution term c)) ls)
  clause_symbols c [] = tt
  clause_symbols c (l ∷ ls) = (written_symbols (substitution term c) (λ x. substitution_symbols c x) l.1, clause_symbols c ls)

-- ── With numbers for variables ──
module _ {X : Type 0} (number : X → ℕ) (small : (x : X) → number x < 100000) where
  mutual
    five_digits : (t : Term X) → SmallSymbols t → FiveDigits (apply (λ x. var (number x)) t)
    five_digits (var x) h = small x
    five_digits (app s ts) h = (h.0, all_five_digits ts h.1)

    all_five_digits : (ts : Terms X) → AllSmallSymbols ts → AllFiveDigits (apply_all (λ x. var (number x)) ts)
    all_five_digits nil h = tt
    all_five_digits (cons t ts) h = (five_digits t h.0, all_five_digits ts h.1)

  pub five_digit_literals : (ls : List (Bool × Term X)) → Each (λ (l : Bool × Term X). SmallSymbols l.1) ls → FiveDigitLiterals (map (relabelled number) ls)
  five_digit_literals [] h = tt
  five_digit_literals (l ∷ ls) h = (five_digits l.1 h.0, five_digit_literals ls h.1)
