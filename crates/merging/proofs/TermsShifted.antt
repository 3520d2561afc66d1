-- The rows and the input clauses of shifted records, written out: those of the records themselves, behind the rows of the first file.
use mathlib.Core.Path.{◌≡◌, refl, sym, ap, ap₂, ◌∙◌}
use mathlib.Core.Bool.{Bool, true, false, ◌&&◌}
use mathlib.Core.List.{List, [], ◌∷◌, map}
use Prim.Native.Nat.{ℕ, suc, ◌+◌}
use native.Mathlib.Nat.{suc-add}
use lib.Dec.{eqb, ltb}
use lib.ListN.{length, get_or}
use Rattle.record.specs.Record.{pick, Record, otherKind, Kind, symbolKind, variableKind, applicationKind, inputKind, resolveKind, factorKind, severalKind, windowKind, field_a}
use Rattle.record.proofs.Records.{Shaped}
use Rattle.record.specs.Sorts.{is_symbol, unless}
use Rattle.unification.specs.Row.{variable, Row, application, argument_terms}
use Rattle.unification.specs.Term.{Term, app, cons}
use Rattle.unification.proofs.Tests.{both_true}
use Rattle.derivation.specs.Derivation.{RowLiteral, input_literals}
use Rattle.verdict.specs.Refusal.{kind_of_record, argument_rows}
use Rattle.demands.specs.Repeats.{with_written, written_after, term_by_numbers, number_term}
use Rattle.demands.proofs.RangeTests.{of_kind_lem, equal, kind_at}
use Rattle.merging.specs.Merging.{shifted, symbols_after, without_symbols}
use Rattle.merging.proofs.Beside.{eqb_raised}
use Rattle.merging.proofs.ClausesRead.{literals_by, input_clauses}
use Rattle.merging.proofs.Shifts.{shifted_variable, shifted_arguments, shifted_head, raised_literal, shifted_literals}

-- The rows us have, m further on, the terms of the rows vs.
pub record Further (m : ℕ) (us vs : List Row) : Type 0 where
  pub many : length us ≡ length vs + m
  pub terms : (q : ℕ) → term_by_numbers us (q + m) ≡ term_by_numbers vs q

-- The first row is past those of the first file: nothing there yet.
module _ (m c : ℕ) where
  abbrev moved : Record → Record
  moved r = shifted m c r

  one_further : (us vs : List Row) → Further m us vs → (w u : Row) → number_term (term_by_numbers us) w ≡ number_term (term_by_numbers vs) u → Further m (w ∷ us) (u ∷ vs)
  one_further us vs F w u e = record {
    many = ap suc F.many ∙ sym (suc-add (length vs) m);
    terms = λ q. ap (λ (n : ℕ). pick (eqb (q + m) n) (number_term (term_by_numbers us) w) (term_by_numbers us (q + m))) F.many
        ∙ ap (λ (b : Bool). pick b (number_term (term_by_numbers us) w) (term_by_numbers us (q + m))) (eqb_raised q (length vs) m)
        ∙ ap₂ (pick (eqb q (length vs))) e (F.terms q);
  }

  arguments_further : (us vs : List Row) → Further m us vs → (xs : List ℕ) → argument_terms (term_by_numbers us) (map (λ x. x + m) xs) ≡ argument_terms (term_by_numbers vs) xs
  arguments_further us vs F [] = refl
  arguments_further us vs F (x ∷ xs) = ap₂ cons (F.terms x) (arguments_further us vs F xs)

  with_further : (us vs : List Row) → Further m us vs → (r : Record) → length r.fields ≡ 7 → (kind : Kind) → kind_of_record r ≡ kind → Further m (with_written us kind (shifted m c r)) (with_written vs kind r)
  with_further us vs F r h variableKind e =
      one_further us vs F (variable (field_a (moved r))) (variable (field_a r)) (ap (λ (fs : List ℕ). number_term (term_by_numbers vs) (variable (get_or fs 0 0))) (shifted_variable m c r (of_kind_lem r variableKind e)))
  with_further us vs F r h applicationKind e =
      let n = of_kind_lem r applicationKind e in
      one_further us vs F (application (field_a (moved r)) (argument_rows (moved r))) (application (field_a r) (argument_rows r))
      (ap₂ (λ (s : ℕ) (xs : List ℕ). app s (argument_terms (term_by_numbers us) xs)) (shifted_head m c r n h) (shifted_arguments m c r n) ∙ ap (app (field_a r)) (arguments_further us vs F (argument_rows r)))
  with_further us vs F r h symbolKind e = F
  with_further us vs F r h inputKind e = F
  with_further us vs F r h resolveKind e = F
  with_further us vs F r h severalKind e = F
  with_further us vs F r h factorKind e = F
  with_further us vs F r h windowKind e = F
  with_further us vs F r h otherKind e = F

  -- A symbol record declares no row.
  no_row : (vs : List Row) (r : Record) → is_symbol r ≡ true → with_written vs (kind_of_record r) r ≡ vs
  no_row vs r z = ap (λ (kind : Kind). with_written vs kind r) (kind_at r 1 (equal r.kind 1 z) refl)

  pub all_further : (n s : ℕ) (us vs : List Row) (rs : List Record) → Shaped rs → Further m us vs → Further m (written_after us (map (λ r. shifted m c r) (without_symbols n s rs))) (written_after vs rs)
  all_further n s us vs [] h F = F
  all_further n s us vs (r ∷ rs) h F = try (is_symbol r && ltb s n) refl (λ xs ys G. all_further n (symbols_after s r) xs ys rs h.1 G)
    where
      try : (b : Bool) → (is_symbol r && ltb s n) ≡ b
          → ((xs ys : List Row) → Further m xs ys → Further m (written_after xs (map moved (without_symbols n (symbols_after s r) rs))) (written_after ys rs))
          → Further m (written_after us (map moved (unless b r (without_symbols n (symbols_after s r) rs)))) (written_after (with_written vs (kind_of_record r) r) rs)
      try true e ih = ih us (with_written vs (kind_of_record r) r) (record { many = F.many ∙ ap (λ (ws : List Row). length ws + m) (sym (no_row vs r (both_true (is_symbol r) (ltb s n) e).0)); terms = λ q. F.terms q ∙ ap (λ (ws : List Row). term_by_numbers ws q) (sym (no_row vs r (both_true (is_symbol r) (ltb s n) e).0)) })
      try false e ih = ih (with_written us (kind_of_record r) (moved r)) (with_written vs (kind_of_record r) r) (with_further us vs F r h.0 (kind_of_record r) refl)

  -- ── Input clauses ──
  module _ (term other : ℕ → Term ℕ) (same : (q : ℕ) → term (q + m) ≡ other q) where
    literals_same : (r : Record) (ls : List RowLiteral) → literals_by term (map (raised_literal m c r) ls) ≡ literals_by other ls
    literals_same r [] = refl
    literals_same r (l ∷ ls) = ap₂ (λ (t : Term ℕ) (ms : List (Bool × Term ℕ)). (l.0, t) ∷ ms) (same l.1) (literals_same r ls)

    clause_same : (r : Record) (xs ys : List (List (Bool × Term ℕ))) → xs ≡ ys → (b : Bool) → eqb r.kind 4 ≡ b
        → ◌≡◌ {A = List (List (Bool × Term ℕ))} (elim b [ true ↦ literals_by term (input_literals (moved r)) ∷ xs | false ↦ xs ]) (elim b [ true ↦ literals_by other (input_literals r) ∷ ys | false ↦ ys ])
    clause_same r xs ys e true z =
        ap₂ (λ (x : List (Bool × Term ℕ)) (zs : List (List (Bool × Term ℕ))). x ∷ zs) (ap (literals_by term) (shifted_literals m c r (equal r.kind 4 z)) ∙ literals_same r (input_literals r)) e
    clause_same r xs ys e false z = e

    -- A symbol record is no clause.
    no_clause_lem : (r : Record) (xs : List (List (Bool × Term ℕ))) → is_symbol r ≡ true → ◌≡◌ {A = List (List (Bool × Term ℕ))} xs (elim (eqb r.kind 4) [ true ↦ literals_by other (input_literals r) ∷ xs | false ↦ xs ])
    no_clause_lem r xs z = ap (λ (n : ℕ). elim (eqb n 4) [ true ↦ literals_by other (input_literals r) ∷ xs | false ↦ xs ]) (sym (equal r.kind 1 z))

    pub clauses_shifted : (n s : ℕ) (rs : List Record) → input_clauses term (map (λ r. shifted m c r) (without_symbols n s rs)) ≡ input_clauses other rs
    clauses_shifted n s [] = refl
    clauses_shifted n s (r ∷ rs) = try (is_symbol r && ltb s n) refl (clauses_shifted n (symbols_after s r) rs)
      where
        try : (b : Bool) → (is_symbol r && ltb s n) ≡ b → input_clauses term (map moved (without_symbols n (symbols_after s r) rs)) ≡ input_clauses other rs
            → input_clauses term (map moved (unless b r (without_symbols n (symbols_after s r) rs))) ≡ input_clauses other (r ∷ rs)
        try true e ih = ih ∙ no_clause_lem r (input_clauses other rs) (both_true (is_symbol r) (ltb s n) e).0
        try false e ih = clause_same r (input_clauses term (map moved (without_symbols n (symbols_after s r) rs))) (input_clauses other rs) ih (eqb r.kind 4) refl
