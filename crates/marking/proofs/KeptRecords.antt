-- The records of what is kept: they name records of what is kept, and each, but that of the accepted clause, is named by a later one.
use mathlib.Core.Path.{◌≡◌, refl, sym, ap, ◌∙◌, subst}
use mathlib.Core.Logic.{◌⊎◌, inl, inr}
use mathlib.Core.Bool.{Bool, true, false, ◌&&◌}
use mathlib.Core.Option.{some}
use mathlib.Core.List.{List, [], ◌∷◌, map}
use Prim.Native.Nat.{ℕ, ◌<◌}
use native.Mathlib.Omega.{arith}
use lib.Dec.{ltb}
use borrow.Author.Tests.{ltb-true, lt-ltb}
use lib.ListN.{get_or}
use Rattle.record.specs.Record.{File, Record, record_at, record_count, otherKind, Kind, symbolKind, variableKind, applicationKind, inputKind, resolveKind, factorKind, severalKind, windowKind, field_a, field_c}
use Rattle.unification.specs.Repeated.{IsEarliest}
use Rattle.unification.specs.Row.{application, row_at}
use Rattle.unification.proofs.Lists.{Each, each_map}
use Rattle.unification.proofs.Repeats.{earliest_itself}
use Rattle.unification.proofs.Tests.{both_true, some_injective, true_not_false}
use Rattle.derivation.specs.Derivation.{input, RowLiteral, input_literals, Derivation, resolve, factor, clause_number}
use Rattle.derivation.specs.Stored.{record_cell}
use Rattle.verdict.specs.Refusal.{argument_rows}
use Rattle.verdict.specs.State.{State, entry, rows_of, derivations, clause_of, earliest_of}
use Rattle.verdict.specs.Step.{new_literals}
use Rattle.demands.specs.Conditions.{OneOf}
use Rattle.demands.proofs.Inversions.{entry_below, entry_some}
use Rattle.demands.proofs.Sources.{number_of}
use Rattle.demands.proofs.Standing.{StateOk}
use Rattle.trimming.specs.Kept.{Kept, kept_for}
use Rattle.trimming.specs.Trimming.{Next}
use Rattle.trimmed.proofs.Closed.{KeptClosed}
use Rattle.trimmed.proofs.KeptLaws.{Ordered, Parent, left_parent, right_parent, factored_parent, ForChild, ForLiteral, kept_closed, clause_kept_for, row_kept_for, symbol_kept_for}
use Rattle.trimmed.proofs.Reaching.{Argument, SymbolOf, each_one}
use Rattle.marking.specs.Marking.{named}
use Rattle.marking.proofs.Told.{symbol_records, row_records, clause_records, rows_counted, clauses_counted, numbers_at, kind_at, Before, Told, ResolveTold, on_earliest}
use Rattle.marking.proofs.ToldFiles.{FileTold, RowKind, ClauseKind}

-- The cells of the tables, by the records of a state.
pub record TablesAre (S : State) (Y R C : List ℕ) : Type 0 where
  pub symbol_cell : (s j : ℕ) → entry (symbol_records S) s ≡ some j → get_or Y s 0 ≡ j
  pub row_cell : (q j : ℕ) → entry (row_records S) q ≡ some j → get_or R q 0 ≡ j
  pub clause_cell : (m j : ℕ) → entry (clause_records S) m ≡ some j → record_cell C m ≡ j

-- What a record declares is kept. A window declares nothing.
abbrev pub own : Kept → Next → Kind → Bool
own K n symbolKind = K.symbol n.symbol
own K n variableKind = K.row n.row
own K n applicationKind = K.row n.row
own K n inputKind = K.clause n.clause
own K n resolveKind = K.clause n.clause
own K n severalKind = K.clause n.clause
own K n factorKind = K.clause n.clause
own K n windowKind = false
own K n otherKind = false

pub own_row : (K : Kept) (n : Next) (kind : Kind) → RowKind kind → own K n kind ≡ K.row n.row
own_row K n variableKind h = refl
own_row K n applicationKind h = refl
own_row K n symbolKind h = absurd h
own_row K n inputKind h = absurd h
own_row K n resolveKind h = absurd h
own_row K n severalKind h = absurd h
own_row K n factorKind h = absurd h
own_row K n windowKind h = absurd h
own_row K n otherKind h = absurd h

pub own_clause : (K : Kept) (n : Next) (kind : Kind) → ClauseKind kind → own K n kind ≡ K.clause n.clause
own_clause K n inputKind h = refl
own_clause K n resolveKind h = refl
own_clause K n severalKind h = refl
own_clause K n factorKind h = refl
own_clause K n symbolKind h = absurd h
own_clause K n variableKind h = absurd h
own_clause K n applicationKind h = absurd h
own_clause K n windowKind h = absurd h
own_clause K n otherKind h = absurd h

abbrev pub kept_record : File → Kept → ℕ → Bool
kept_record F K j = ltb j (record_count F) && own K (numbers_at F j) (kind_at F j)

-- The numbers of a clause's parents.
abbrev parents_of : Derivation → List ℕ
parents_of (input number ls) = []
parents_of (resolve number l a r ns bs) = clause_number l ∷ clause_number r ∷ []
parents_of (factor number d a b bs) = clause_number d ∷ []

parent_of : {y x : Derivation} → Parent y x → OneOf (clause_number x) (parents_of y)
parent_of left_parent = inl refl
parent_of right_parent = inr (inl refl)
parent_of factored_parent = inl refl

-- ── Lists ──
module _ {A B : Type 0} (f : A → B) where
  pub each_unmap : (P : B → Type 0) (xs : List A) → Each P (map f xs) → Each (λ x. P (f x)) xs
  each_unmap P [] h = tt
  each_unmap P (x ∷ xs) h = (h.0, each_unmap P xs h.1)

  one_unmap : (xs : List A) (b : B) → OneOf b (map f xs) → (a : A) × OneOf a xs × (f a ≡ b)
  one_unmap [] b o = absurd o
  one_unmap (x ∷ xs) b (inl e) = (x, inl refl, sym e)
  one_unmap (x ∷ xs) b (inr o) = let z = one_unmap xs b o in (z.0, inr z.1, z.2)

  one_map : (xs : List A) (a : A) (b : B) → OneOf a xs → b ≡ f a → OneOf b (map f xs)
  one_map [] a b o e = absurd o
  one_map (x ∷ xs) a b (inl z) e = inl (e ∙ ap f z)
  one_map (x ∷ xs) a b (inr o) e = inr (one_map xs a b o e)

pub each_both : {A : Type 0} (P Q : A → Type 0) (xs : List A) → Each P xs → Each Q xs → Each (λ x. P x × Q x) xs
each_both P Q [] h k = tt
each_both P Q (x ∷ xs) h k = ((h.0, k.0), each_both P Q xs h.1 k.1)

-- ── A file ──
module _ (F : File) (S : State) (H : FileTold F (record_count F) S) (Y R C : List ℕ) (G : TablesAre S Y R C) where
  -- The record of a repeated row is that of the earliest equal one.
  pub shared_record : (a j : ℕ) → entry (row_records S) a ≡ some j → IsEarliest (rows_of S) (earliest_of S a) → entry (row_records S) (earliest_of S a) ≡ some j
  shared_record a j e E =
      let z = H.row_is a j e in
      by (kind_at F j) z.1 (subst (λ (q : ℕ). IsEarliest (rows_of S) q) (sym z.2) E) (H.told j z.0) z.2
    where
      by : (kind : Kind) → RowKind kind → IsEarliest (rows_of S) (numbers_at F j).row → Told S j (numbers_at F j) kind (record_at F j) → (numbers_at F j).row ≡ earliest_of S a → entry (row_records S) (earliest_of S a) ≡ some j
      by variableKind k E t q = ap (entry (row_records S)) (sym q) ∙ t.2 E
      by applicationKind k E t q = ap (entry (row_records S)) (sym q) ∙ t.0.2 E
      by symbolKind k E t q = absurd k
      by inputKind k E t q = absurd k
      by resolveKind k E t q = absurd k
      by severalKind k E t q = absurd k
      by factorKind k E t q = absurd k
      by windowKind k E t q = absurd k
      by otherKind k E t q = absurd k

  -- What a record names, by the tables.
  argument_named : (i : ℕ) (n : Next) (kind : Kind) (r : Record) → RowKind kind → Told S i n kind r → (s : ℕ) (xs : List ℕ) → row_at (rows_of S) n.row ≡ application s xs → (q j : ℕ) → OneOf q xs → IsEarliest (rows_of S) q → entry (row_records S) q ≡ some j → (j < i) × OneOf j (named Y R C kind r)
  argument_named i n variableKind r k t s xs e q j o E z = absurd (let w = sym t.0 ∙ e in let y : ◌≡◌ {A = ℕ} 0 1 = cc in omega arith)
  argument_named i n applicationKind r k t s xs e q j o E z =
      let w = sym e ∙ t.0.0 in
      let same : xs ≡ map (earliest_of S) (argument_rows r) = cc in
      let f = one_unmap (earliest_of S) (argument_rows r) q (subst (OneOf q) same o) in
      let b = each_one (Before (row_records S) i) (argument_rows r) t.2 f.0 f.1 in
      let x = shared_record f.0 b.0 b.1 (subst (IsEarliest (rows_of S)) (sym f.2) E) in
      let y : b.0 ≡ j = some_injective (sym x ∙ ap (entry (row_records S)) f.2 ∙ z) in
      (subst (λ (u : ℕ). u < i) y b.2, inr (one_map (λ a. get_or R a 0) (argument_rows r) f.0 j f.1 (sym y ∙ sym (G.row_cell f.0 b.0 b.1))))
  argument_named i n symbolKind r k t s xs e q j o E z = absurd k
  argument_named i n inputKind r k t s xs e q j o E z = absurd k
  argument_named i n resolveKind r k t s xs e q j o E z = absurd k
  argument_named i n severalKind r k t s xs e q j o E z = absurd k
  argument_named i n factorKind r k t s xs e q j o E z = absurd k
  argument_named i n windowKind r k t s xs e q j o E z = absurd k
  argument_named i n otherKind r k t s xs e q j o E z = absurd k

  symbol_named : (i : ℕ) (n : Next) (kind : Kind) (r : Record) → RowKind kind → Told S i n kind r → (s : ℕ) (xs : List ℕ) → row_at (rows_of S) n.row ≡ application s xs → (j : ℕ) → entry (symbol_records S) s ≡ some j → (j < i) × OneOf j (named Y R C kind r)
  symbol_named i n variableKind r k t s xs e j z = absurd (let w = sym t.0 ∙ e in let y : ◌≡◌ {A = ℕ} 0 1 = cc in omega arith)
  symbol_named i n applicationKind r k t s xs e j z =
      let w = sym e ∙ t.0.0 in
      let same : s ≡ field_a r = cc in
      let b = t.1 in
      let y : b.0 ≡ j = some_injective (sym b.1 ∙ ap (entry (symbol_records S)) (sym same) ∙ z) in
      (subst (λ (u : ℕ). u < i) y b.2, inl (sym y ∙ sym (G.symbol_cell (field_a r) b.0 b.1)))
  symbol_named i n symbolKind r k t s xs e j z = absurd k
  symbol_named i n inputKind r k t s xs e j z = absurd k
  symbol_named i n resolveKind r k t s xs e j z = absurd k
  symbol_named i n severalKind r k t s xs e j z = absurd k
  symbol_named i n factorKind r k t s xs e j z = absurd k
  symbol_named i n windowKind r k t s xs e j z = absurd k
  symbol_named i n otherKind r k t s xs e j z = absurd k

  no_input_lem : {A : Type 0} (m number : ℕ) (d : Derivation) (ls : List RowLiteral) (t : clause_of S m ≡ some d) → clause_of S m ≡ some (input number ls) → (¬ (d ≡ input number ls)) → A
  no_input_lem m number d ls t e f = absurd (f (some_injective (sym t ∙ e)))

  literal_named_lem : (i : ℕ) (n : Next) (kind : Kind) (r : Record) → ClauseKind kind → Told S i n kind r → (number : ℕ) (ls : List RowLiteral) → clause_of S n.clause ≡ some (input number ls) → (l : RowLiteral) (j : ℕ) → OneOf l ls → IsEarliest (rows_of S) l.1 → entry (row_records S) l.1 ≡ some j → (j < i) × OneOf j (named Y R C kind r)
  literal_named_lem i n inputKind r k t number ls e l j o E z =
      let w = sym e ∙ t.0.0 in
      let same : ls ≡ new_literals S r = cc in
      let f = one_unmap (on_earliest S) (input_literals r) l (subst (OneOf l) same o) in
      let row : earliest_of S f.0.1 ≡ l.1 = ap (λ (x : RowLiteral). x.1) f.2 in
      let b = each_one (λ (x : RowLiteral). Before (row_records S) i x.1) (input_literals r) t.1 f.0 f.1 in
      let x = shared_record f.0.1 b.0 b.1 (subst (IsEarliest (rows_of S)) (sym row) E) in
      let y : b.0 ≡ j = some_injective (sym x ∙ ap (entry (row_records S)) row ∙ z) in
      (subst (λ (u : ℕ). u < i) y b.2, one_map (λ (x : RowLiteral). get_or R x.1 0) (input_literals r) f.0 j f.1 (sym y ∙ sym (G.row_cell f.0.1 b.0 b.1)))
  literal_named_lem i n resolveKind r k t number ls e l j o E z = no_input_lem n.clause number (resolve n.clause t.left t.literal t.right t.literals t.bindings) ls t.is_told.0 e (λ w. let y : ◌≡◌ {A = ℕ} 0 1 = cc in omega arith)
  literal_named_lem i n severalKind r k t number ls e l j o E z = no_input_lem n.clause number (resolve n.clause t.left t.literal t.right t.literals t.bindings) ls t.is_told.0 e (λ w. let y : ◌≡◌ {A = ℕ} 0 1 = cc in omega arith)
  literal_named_lem i n factorKind r k t number ls e l j o E z = no_input_lem n.clause number (factor n.clause t.parent t.kept t.deleted t.bindings) ls t.is_told.0 e (λ w. let y : ◌≡◌ {A = ℕ} 0 1 = cc in omega arith)
  literal_named_lem i n symbolKind r k t number ls e l j o E z = absurd k
  literal_named_lem i n variableKind r k t number ls e l j o E z = absurd k
  literal_named_lem i n applicationKind r k t number ls e l j o E z = absurd k
  literal_named_lem i n windowKind r k t number ls e l j o E z = absurd k
  literal_named_lem i n otherKind r k t number ls e l j o E z = absurd k

  -- A clause that a step names.
  clause_of_lem : (i m j a : ℕ) → m ≡ a → Before (clause_records S) i a → entry (clause_records S) m ≡ some j → (j < i) × (j ≡ record_cell C a)
  clause_of_lem i m j a e b z =
      let y : b.0 ≡ j = some_injective (sym b.1 ∙ ap (entry (clause_records S)) (sym e) ∙ z) in
      (subst (λ (u : ℕ). u < i) y b.2, sym y ∙ sym (G.clause_cell a b.0 b.1))

  resolve_named_lem : (i m : ℕ) (r : Record) → ResolveTold S i m r → (d : Derivation) → clause_of S m ≡ some d → (p j : ℕ) → OneOf p (parents_of d) → entry (clause_records S) p ≡ some j → (j < i) × OneOf j (record_cell C (field_a r) ∷ record_cell C (field_c r) ∷ [])
  resolve_named_lem i m r t d e p j o z = which (subst (λ (x : Derivation). OneOf p (parents_of x)) (some_injective (sym e ∙ t.is_told.0)) o)
    where
      which : OneOf p (clause_number t.left ∷ clause_number t.right ∷ []) → (j < i) × OneOf j (record_cell C (field_a r) ∷ record_cell C (field_c r) ∷ [])
      which (inl q) = let x = clause_of_lem i p j (field_a r) (q ∙ t.is_left) t.left_before z in (x.0, inl x.1)
      which (inr (inl q)) = let x = clause_of_lem i p j (field_c r) (q ∙ t.is_right) t.right_before z in (x.0, inr (inl x.1))
      which (inr (inr q)) = absurd q

  parent_named : (i : ℕ) (n : Next) (kind : Kind) (r : Record) → ClauseKind kind → Told S i n kind r → (d : Derivation) → clause_of S n.clause ≡ some d → (p j : ℕ) → OneOf p (parents_of d) → entry (clause_records S) p ≡ some j → (j < i) × OneOf j (named Y R C kind r)
  parent_named i n inputKind r k t d e p j o z = absurd (subst (λ (x : Derivation). OneOf p (parents_of x)) (some_injective (sym e ∙ t.0.0)) o)
  parent_named i n resolveKind r k t d e p j o z = resolve_named_lem i n.clause r t d e p j o z
  parent_named i n severalKind r k t d e p j o z = resolve_named_lem i n.clause r t d e p j o z
  parent_named i n factorKind r k t d e p j o z = which (subst (λ (x : Derivation). OneOf p (parents_of x)) (some_injective (sym e ∙ t.is_told.0)) o)
    where
      which : OneOf p (clause_number t.parent ∷ []) → (j < i) × OneOf j (record_cell C (field_a r) ∷ [])
      which (inl q) = let x = clause_of_lem i p j (field_a r) (q ∙ t.is_parent) t.parent_before z in (x.0, inl x.1)
      which (inr q) = absurd q
  parent_named i n symbolKind r k t d e p j o z = absurd k
  parent_named i n variableKind r k t d e p j o z = absurd k
  parent_named i n applicationKind r k t d e p j o z = absurd k
  parent_named i n windowKind r k t d e p j o z = absurd k
  parent_named i n otherKind r k t d e p j o z = absurd k

  -- ── What is kept ──
  module _ (K : Kept) where
    pub is_kept_lem : (j : ℕ) → j < record_count F → own K (numbers_at F j) (kind_at F j) ≡ true → kept_record F K j ≡ true
    is_kept_lem j l e = ap (λ (b : Bool). b && own K (numbers_at F j) (kind_at F j)) (lt-ltb j (record_count F) l) ∙ e

    pub kept_is : (j : ℕ) → kept_record F K j ≡ true → (j < record_count F) × (own K (numbers_at F j) (kind_at F j) ≡ true)
    kept_is j h = let z = both_true (ltb j (record_count F)) (own K (numbers_at F j) (kind_at F j)) h in (ltb-true j (record_count F) z.0, z.1)

    symbol_kept : (s j : ℕ) → K.symbol s ≡ true → entry (symbol_records S) s ≡ some j → kept_record F K j ≡ true
    symbol_kept s j h e = let z = H.symbol_is s j e in is_kept_lem j z.0 (ap (own K (numbers_at F j)) z.1 ∙ ap K.symbol z.2 ∙ h)

    row_kept : (q j : ℕ) → K.row (earliest_of S q) ≡ true → entry (row_records S) q ≡ some j → kept_record F K j ≡ true
    row_kept q j h e = let z = H.row_is q j e in is_kept_lem j z.0 (own_row K (numbers_at F j) (kind_at F j) z.1 ∙ ap K.row z.2 ∙ h)

    pub clause_record : (m j : ℕ) → entry (clause_records S) m ≡ some j → own K (numbers_at F j) (kind_at F j) ≡ K.clause m
    clause_record m j e = let z = H.clause_is m j e in own_clause K (numbers_at F j) (kind_at F j) z.1 ∙ ap K.clause z.2

    clause_kept_lem : (m j : ℕ) → K.clause m ≡ true → entry (clause_records S) m ≡ some j → kept_record F K j ≡ true
    clause_kept_lem m j h e = is_kept_lem j (H.clause_is m j e).0 (clause_record m j e ∙ h)

    -- A kept record's names are kept.
    module _ (D : KeptClosed S K) where
      abbrev Marked : ℕ → Type 0
      Marked j = kept_record F K j ≡ true

      row_marked : (i a : ℕ) → K.row (earliest_of S a) ≡ true → Before (row_records S) i a → kept_record F K (get_or R a 0) ≡ true
      row_marked i a h b = subst Marked (sym (G.row_cell a b.0 b.1)) (row_kept a b.0 h b.1)

      clause_marked : (i m : ℕ) → K.clause m ≡ true → Before (clause_records S) i m → kept_record F K (record_cell C m) ≡ true
      clause_marked i m h b = subst Marked (sym (G.clause_cell m b.0 b.1)) (clause_kept_lem m b.0 h b.1)

      -- By what a record tells, with what is kept of what it names.
      pub arguments_kept : (i : ℕ) (n : Next) (r : Record) → Told S i n applicationKind r → K.row n.row ≡ true → Each (λ a. (K.row (earliest_of S a) ≡ true) × Before (row_records S) i a) (argument_rows r)
      arguments_kept i n r t h =
          each_both (λ a. K.row (earliest_of S a) ≡ true) (Before (row_records S) i) (argument_rows r)
          (each_unmap (earliest_of S) (λ a. K.row a ≡ true) (argument_rows r) (D.arguments n.row (field_a r) (map (earliest_of S) (argument_rows r)) h t.0.0)) t.2

      pub literals_kept : (i : ℕ) (n : Next) (r : Record) → Told S i n inputKind r → K.clause n.clause ≡ true → Each (λ (l : RowLiteral). (K.row (earliest_of S l.1) ≡ true) × Before (row_records S) i l.1) (input_literals r)
      literals_kept i n r t h =
          each_both (λ (l : RowLiteral). K.row (earliest_of S l.1) ≡ true) (λ (l : RowLiteral). Before (row_records S) i l.1) (input_literals r)
          (each_unmap (on_earliest S) (λ (l : RowLiteral). K.row l.1 ≡ true) (input_literals r) (D.inputs n.clause n.clause (new_literals S r) h t.0.0)) t.1

      pub left_kept : (i m : ℕ) (r : Record) → ResolveTold S i m r → K.clause m ≡ true → K.clause (field_a r) ≡ true
      left_kept i m r t h = ap K.clause (sym t.is_left) ∙ D.lefts m m t.literal t.left t.right t.literals t.bindings h t.is_told.0

      pub right_kept : (i m : ℕ) (r : Record) → ResolveTold S i m r → K.clause m ≡ true → K.clause (field_c r) ≡ true
      right_kept i m r t h = ap K.clause (sym t.is_right) ∙ D.rights m m t.literal t.left t.right t.literals t.bindings h t.is_told.0

      pub factored_kept : (i : ℕ) (n : Next) (r : Record) → Told S i n factorKind r → K.clause n.clause ≡ true → K.clause (field_a r) ≡ true
      factored_kept i n r t h = ap K.clause (sym t.is_parent) ∙ D.factored n.clause n.clause t.kept t.deleted t.parent t.bindings h t.is_told.0

      names_kept : (i : ℕ) (n : Next) (kind : Kind) (r : Record) → Told S i n kind r → own K n kind ≡ true → Each (λ j. kept_record F K j ≡ true) (named Y R C kind r)
      names_kept i n symbolKind r t h = tt
      names_kept i n variableKind r t h = tt
      names_kept i n applicationKind r t h = (
        subst Marked (sym (G.symbol_cell (field_a r) t.1.0 t.1.1)) (symbol_kept (field_a r) t.1.0 (D.symbols n.row (field_a r) (map (earliest_of S) (argument_rows r)) h t.0.0) t.1.1),
        each_map (λ a. (K.row (earliest_of S a) ≡ true) × Before (row_records S) i a) Marked (λ a. get_or R a 0) (λ a z. row_marked i a z.0 z.1) (argument_rows r) (arguments_kept i n r t h),
      )
      names_kept i n inputKind r t h = each_map (λ (l : RowLiteral). (K.row (earliest_of S l.1) ≡ true) × Before (row_records S) i l.1) Marked (λ (l : RowLiteral). get_or R l.1 0) (λ l z. row_marked i l.1 z.0 z.1) (input_literals r) (literals_kept i n r t h)
      names_kept i n resolveKind r t h = (clause_marked i (field_a r) (left_kept i n.clause r t h) t.left_before, (clause_marked i (field_c r) (right_kept i n.clause r t h) t.right_before, tt))
      names_kept i n severalKind r t h = (clause_marked i (field_a r) (left_kept i n.clause r t h) t.left_before, (clause_marked i (field_c r) (right_kept i n.clause r t h) t.right_before, tt))
      names_kept i n factorKind r t h = (clause_marked i (field_a r) (factored_kept i n r t h) t.parent_before, tt)
      names_kept i n windowKind r t h = absurd (true_not_false h refl)
      names_kept i n otherKind r t h = absurd t

      pub names_closed : (i : ℕ) → kept_record F K i ≡ true → Each (λ j. kept_record F K j ≡ true) (named Y R C (kind_at F i) (record_at F i))
      names_closed i h = let z = kept_is i h in names_kept i (numbers_at F i) (kind_at F i) (record_at F i) (H.told i z.0) z.1

      -- The record of a kept row, and of a kept clause.
      row_at_lem : (q : ℕ) → K.row q ≡ true → (i : ℕ) × (i < record_count F) × RowKind (kind_at F i) × ((numbers_at F i).row ≡ q) × (kept_record F K i ≡ true)
      row_at_lem q h =
          let E = D.earliest q h in
          let z = entry_some (row_records S) q (omega (arith, E.there, rows_counted S)) in
          let x = H.row_is q z.0 z.1 in
          let y = earliest_itself (rows_of S) q E in
          (z.0, x.0, x.1, x.2 ∙ y, row_kept q z.0 (ap K.row y ∙ h) z.1)

      clause_at : (m : ℕ) (d : Derivation) → K.clause m ≡ true → clause_of S m ≡ some d → (i : ℕ) × (i < record_count F) × ClauseKind (kind_at F i) × ((numbers_at F i).clause ≡ m) × (kept_record F K i ≡ true)
      clause_at m d h e =
          let z = entry_some (clause_records S) m (omega (arith, entry_below (derivations S) m d e, clauses_counted S)) in
          let x = H.clause_is m z.0 z.1 in
          (z.0, x.0, x.1, x.2, clause_kept_lem m z.0 h z.1)

  -- ── Kept for what is accepted ──
  module _ (O : Ordered S) (ok : StateOk 4096 S) (n : ℕ) (c : Derivation) (at : clause_of S n ≡ some c) where
    abbrev Kc : Kept
    Kc = kept_for S c

    abbrev Later : ℕ → Type 0
    Later j = (i : ℕ) × (j < i) × (kept_record F (kept_for S c) i ≡ true) × OneOf j (named Y R C (kind_at F i) (record_at F i))

    closed : KeptClosed S (kept_for S c)
    closed = kept_closed S O ok n c at

    symbol_later : (s j : ℕ) → entry (symbol_records S) s ≡ some j → SymbolOf (rows_of S) (kept_for S c).row s → Later j
    symbol_later s j e A =
        let z = row_at_lem Kc closed A.row A.is_tested in
        let x = symbol_named z.0 (numbers_at F z.0) (kind_at F z.0) (record_at F z.0) z.2 (H.told z.0 z.1) s A.arguments (ap (row_at (rows_of S)) z.3 ∙ A.is_row) j e in
        (z.0, x.0, z.4, x.1)

    row_later : (q j : ℕ) → (kept_for S c).row q ≡ true → entry (row_records S) q ≡ some j → ForLiteral S (kept_for S c) q ⊎ Argument (rows_of S) (kept_for S c).row q → Later j
    row_later q j h e (inl A) =
        let z = clause_at Kc closed A.clause (input A.clause A.inputs) A.clause_kept A.is_clause in
        let row = A.is_row in
        let x = literal_named_lem z.0 (numbers_at F z.0) (kind_at F z.0) (record_at F z.0) z.2 (H.told z.0 z.1) A.clause A.inputs (ap (clause_of S) z.3 ∙ A.is_clause) A.literal j A.is_literal (subst (IsEarliest (rows_of S)) (sym row) (closed.earliest q h)) (ap (entry (row_records S)) row ∙ e) in
        (z.0, x.0, z.4, x.1)
    row_later q j h e (inr A) =
        let z = row_at_lem Kc closed A.row A.is_reached in
        let x = argument_named z.0 (numbers_at F z.0) (kind_at F z.0) (record_at F z.0) z.2 (H.told z.0 z.1) A.symbol A.arguments (ap (row_at (rows_of S)) z.3 ∙ A.is_row) q j A.is_argument (closed.earliest q h) e in
        (z.0, x.0, z.4, x.1)

    clause_later : (m j : ℕ) → entry (clause_records S) m ≡ some j → (m ≡ clause_number c) ⊎ ForChild S (kept_for S c) m → (j ≡ record_cell C n) ⊎ Later j
    clause_later m j e (inl z) = inl (sym (G.clause_cell m j e) ∙ ap (record_cell C) (z ∙ number_of (derivations S) O.sourced n c at))
    clause_later m j e (inr A) =
        let z = clause_at Kc closed (clause_number A.child) A.child A.child_kept A.child_stands in
        let x = parent_named z.0 (numbers_at F z.0) (kind_at F z.0) (record_at F z.0) z.2 (H.told z.0 z.1) A.child (ap (clause_of S) z.3 ∙ A.child_stands) m j (subst (λ (p : ℕ). OneOf p (parents_of A.child)) A.is_number (parent_of A.is_parent)) e in
        inr (z.0, x.0, z.4, x.1)

    later : (j : ℕ) (nn : Next) (kind : Kind) (r : Record) → Told S j nn kind r → own (kept_for S c) nn kind ≡ true → (j ≡ record_cell C n) ⊎ Later j
    later j nn symbolKind r t h = inr (symbol_later nn.symbol j t (symbol_kept_for S O ok n c at nn.symbol h))
    later j nn variableKind r t h = inr (row_later nn.row j h (t.2 (closed.earliest nn.row h)) (row_kept_for S O ok n c at nn.row h))
    later j nn applicationKind r t h = inr (row_later nn.row j h (t.0.2 (closed.earliest nn.row h)) (row_kept_for S O ok n c at nn.row h))
    later j nn inputKind r t h = clause_later nn.clause j t.0.1 (clause_kept_for S O ok n c at nn.clause h)
    later j nn resolveKind r t h = clause_later nn.clause j t.is_told.1 (clause_kept_for S O ok n c at nn.clause h)
    later j nn severalKind r t h = clause_later nn.clause j t.is_told.1 (clause_kept_for S O ok n c at nn.clause h)
    later j nn factorKind r t h = clause_later nn.clause j t.is_told.1 (clause_kept_for S O ok n c at nn.clause h)
    later j nn windowKind r t h = absurd (true_not_false h refl)
    later j nn otherKind r t h = absurd t

    pub kept_later : (j : ℕ) → kept_record F (kept_for S c) j ≡ true → (j ≡ record_cell C n) ⊎ ((i : ℕ) × (j < i) × (kept_record F (kept_for S c) i ≡ true) × OneOf j (named Y R C (kind_at F i) (record_at F i)))
    kept_later j h = let z = kept_is Kc j h in later j (numbers_at F j) (kind_at F j) (record_at F j) (H.told j z.0) z.1

    -- The record of the accepted clause is kept.
    pub top_kept : (kept_for S c).clause n ≡ true → kept_record F (kept_for S c) (record_cell C n) ≡ true
    top_kept h =
        let z = entry_some (clause_records S) n (omega (arith, entry_below (derivations S) n c at, clauses_counted S)) in
        subst (λ (j : ℕ). kept_record F Kc j ≡ true) (sym (G.clause_cell n z.0 z.1)) (clause_kept_lem Kc n z.0 h z.1)
