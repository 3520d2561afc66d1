-- A choice fits in the table of pairs exactly if it works with some substitution: substitutions for the literals agree exactly if they agree two by two.
use mathlib.Core.Path.{◌≡◌, refl, sym, ap, ap₂, ◌∙◌, subst}
use mathlib.Core.Logic.{◌⊎◌, inl, inr}
use mathlib.Core.Bool.{Bool, true, false, ◌&&◌}
use mathlib.Core.Option.{some}
use mathlib.Core.List.{List, [], ◌∷◌}
use Prim.Native.Nat.{ℕ, zero, suc, ◌+◌, ◌-◌, ◌*◌, ◌/◌, ◌%◌, ◌≤◌, ◌<◌}
use native.Mathlib.Omega.{arith}
use lib.Dec.{eqb, leb, ltb, le→leb, lt→ltb}
use lib.ListN.{length, get_or, set, length-set}
use lib.Seq.{get_or-set_same, get_or-set_other}
use borrow.Author.Tests.{eqb-true, eqb-false, eq-eqb}
use Rattle.record.specs.Record.{pick}
use Rattle.unification.specs.Nodes.{part, HasRow}
use Rattle.unification.specs.Term.{Term, var}
use Rattle.unification.proofs.Tests.{from_t, both_true, some_not_none, some_injective}
use Rattle.derivation.specs.Derivation.{RowLiteral, literal_of, numbered}
use Rattle.demands.proofs.ExistenceTests.{numbered_within}
use Rattle.coverings.specs.Choosing.{numbers_from}
use Rattle.coverings.specs.Covering.{Substitution, Turns, Works, NotAfter}
use Rattle.matching.specs.Pairs.{is_pair, left_number, right_number, Pairs, agree_at, agree_from, go_together, table_filled}
use Rattle.matching.specs.Searching.{pair_chosen, fits_from, searched}
use Rattle.coverings.proofs.Earliest.{NotAfterFrom, FitFrom, Came, search_came}
use Rattle.coverings.proofs.PairLaws.{together, AllCame}
use Rattle.coverings.proofs.Solutions.{TermsOf}
use Rattle.coverings.proofs.Taking.{same_or_not}

-- ── The tests of the table ──

agree_each : (W : List ℕ) (p q m v : ℕ) → agree_from W p q m v ≡ true → (u : ℕ) → v ≤ u → u < v + m → agree_at (get_or W (64 * p + u) 0) (get_or W (64 * q + u) 0) ≡ true
agree_each W p q zero v h u a b = absurd (omega arith)
agree_each W p q (suc m) v h u a b = try (same_or_not u v) (both_true (agree_at (get_or W (64 * p + v) 0) (get_or W (64 * q + v) 0)) (agree_from W p q m (suc v)) h) (λ g c. agree_each W p q m (suc v) g u c (omega arith))
  where
    try : (u ≡ v) ⊎ ¬ (u ≡ v) → (agree_at (get_or W (64 * p + v) 0) (get_or W (64 * q + v) 0) ≡ true) × (agree_from W p q m (suc v) ≡ true)
        → (agree_from W p q m (suc v) ≡ true → suc v ≤ u → agree_at (get_or W (64 * p + u) 0) (get_or W (64 * q + u) 0) ≡ true) → agree_at (get_or W (64 * p + u) 0) (get_or W (64 * q + u) 0) ≡ true
    try (inl e) g ih = subst (λ (z : ℕ). agree_at (get_or W (64 * p + z) 0) (get_or W (64 * q + z) 0) ≡ true) (sym e) g.0
    try (inr n) g ih = ih g.1 (omega arith)

each_agree : (W : List ℕ) (p q m v : ℕ) → ((u : ℕ) → v ≤ u → u < v + m → agree_at (get_or W (64 * p + u) 0) (get_or W (64 * q + u) 0) ≡ true) → agree_from W p q m v ≡ true
each_agree W p q zero v h = refl
each_agree W p q (suc m) v h = together (agree_at (get_or W (64 * p + v) 0) (get_or W (64 * q + v) 0)) (agree_from W p q m (suc v)) (h v (omega arith) (omega arith)) (each_agree W p q m (suc v) (λ u a b. h u (omega arith) (omega arith)))

-- Two images agree if they are one row, or one of them is none.
agree_one : (a b w x : ℕ) → a ≡ suc w → b ≡ suc x → agree_at a b ≡ true → w ≡ x
agree_one a b w x p q h = try (eqb a 0) refl (eqb b 0) refl h
  where
    try : (t : Bool) → eqb a 0 ≡ t → (u : Bool) → eqb b 0 ≡ u → pick t true (pick u true (eqb a b)) ≡ true → w ≡ x
    try true e u f g = let z = eqb-true a 0 e in absurd (omega arith)
    try false e true f g = let z = eqb-true b 0 f in absurd (omega arith)
    try false e false f g = let z = eqb-true a b g in omega arith

one_agree : (a b : ℕ) → ((w x : ℕ) → a ≡ suc w → b ≡ suc x → w ≡ x) → agree_at a b ≡ true
one_agree a b h = try (eqb a 0) refl (eqb b 0) refl
  where
    full : (a b : ℕ) → ¬ (a ≡ 0) → ¬ (b ≡ 0) → ((w x : ℕ) → a ≡ suc w → b ≡ suc x → w ≡ x) → a ≡ b
    full zero b m n k = absurd (m refl)
    full (suc w) zero m n k = absurd (n refl)
    full (suc w) (suc x) m n k = ap suc (k w x refl refl)

    try : (t : Bool) → eqb a 0 ≡ t → (u : Bool) → eqb b 0 ≡ u → pick t true (pick u true (eqb a b)) ≡ true
    try true e u f = refl
    try false e true f = refl
    try false e false f = eq-eqb a b (full a b (eqb-false a 0 e) (eqb-false b 0 f) h)

fits_each : (T : List Bool) (X : List ℕ) (i m j : ℕ) → fits_from T X i m j ≡ true → (u : ℕ) → j ≤ u → u < j + m → get_or T (64 * pair_chosen X u + pair_chosen X i) false ≡ true
fits_each T X i zero j h u a b = absurd (omega arith)
fits_each T X i (suc m) j h u a b = try (same_or_not u j) (both_true (get_or T (64 * pair_chosen X j + pair_chosen X i) false) (fits_from T X i m (suc j)) h) (λ g c. fits_each T X i m (suc j) g u c (omega arith))
  where
    try : (u ≡ j) ⊎ ¬ (u ≡ j) → (get_or T (64 * pair_chosen X j + pair_chosen X i) false ≡ true) × (fits_from T X i m (suc j) ≡ true)
        → (fits_from T X i m (suc j) ≡ true → suc j ≤ u → get_or T (64 * pair_chosen X u + pair_chosen X i) false ≡ true) → get_or T (64 * pair_chosen X u + pair_chosen X i) false ≡ true
    try (inl e) g ih = subst (λ (z : ℕ). get_or T (64 * pair_chosen X z + pair_chosen X i) false ≡ true) (sym e) g.0
    try (inr n) g ih = ih g.1 (omega arith)

each_fits : (T : List Bool) (X : List ℕ) (i m j : ℕ) → ((u : ℕ) → j ≤ u → u < j + m → get_or T (64 * pair_chosen X u + pair_chosen X i) false ≡ true) → fits_from T X i m j ≡ true
each_fits T X i zero j h = refl
each_fits T X i (suc m) j h = together (get_or T (64 * pair_chosen X j + pair_chosen X i) false) (fits_from T X i m (suc j)) (h j (omega arith) (omega arith)) (each_fits T X i m (suc j) (λ u a b. h u (omega arith) (omega arith)))

-- The table has for every two pairs whether they go together.
pub table_length : (F : List Bool) (W : List ℕ) (k : ℕ) (T : List Bool) → length (table_filled F W k T) ≡ length T
unfolding table_filled
table_length F W zero T = refl
table_length F W (suc x) T = length-set (table_filled F W x T) x (go_together F W (x / 64) (x % 64)) ∙ table_length F W x T

pub table_cell : (F : List Bool) (W : List ℕ) (k : ℕ) (T : List Bool) → k ≤ length T → (x : ℕ) → x < k → get_or (table_filled F W k T) x false ≡ go_together F W (x / 64) (x % 64)
unfolding table_filled
table_cell F W zero T l x b = absurd (omega arith)
table_cell F W (suc k) T l x b = try (same_or_not x k) (λ c. table_cell F W k T (omega arith) x c)
  where
    try : (x ≡ k) ⊎ ¬ (x ≡ k) → (x < k → get_or (table_filled F W k T) x false ≡ go_together F W (x / 64) (x % 64))
        → get_or (set (table_filled F W k T) k (go_together F W (k / 64) (k % 64))) x false ≡ go_together F W (x / 64) (x % 64)
    try (inl e) ih =
        ap (λ (z : ℕ). get_or (set (table_filled F W k T) k (go_together F W (k / 64) (k % 64))) z false) e
        ∙ get_or-set_same (table_filled F W k T) k (go_together F W (k / 64) (k % 64)) false (omega (arith, table_length F W k T))
        ∙ ap (λ (z : ℕ). go_together F W (z / 64) (z % 64)) (sym e)
    try (inr n) ih = get_or-set_other (table_filled F W k T) k x (go_together F W (k / 64) (k % 64)) false n ∙ ih (omega arith)

-- ── Choices as lists ──

pub numbers_length : (X : List ℕ) (i k : ℕ) → length (numbers_from X i k) ≡ k
numbers_length X i zero = refl
numbers_length X i (suc k) = ap suc (numbers_length X (suc i) k)

numbers_at_lem : (X : List ℕ) (i k j : ℕ) → j < k → get_or (numbers_from X i k) j 0 ≡ get_or X (i + j) 0
numbers_at_lem X i zero j l = absurd (omega arith)
numbers_at_lem X i (suc k) zero l = let z : i ≡ i + 0 = omega arith in ap (λ (n : ℕ). get_or X n 0) z
numbers_at_lem X i (suc k) (suc j) l = let z : suc i + j ≡ i + suc j = omega arith in numbers_at_lem X (suc i) k j (omega arith) ∙ ap (λ (n : ℕ). get_or X n 0) z

numbers_tail : (x : ℕ) (xs : List ℕ) (i k : ℕ) → numbers_from (x ∷ xs) (suc i) k ≡ numbers_from xs i k
numbers_tail x xs i zero = refl
numbers_tail x xs i (suc k) = ap (λ (ys : List ℕ). get_or xs i 0 ∷ ys) (numbers_tail x xs (suc i) k)

numbers_all : (xs : List ℕ) → numbers_from xs 0 (length xs) ≡ xs
numbers_all [] = refl
numbers_all (x ∷ xs) = ap (λ (ys : List ℕ). x ∷ ys) (numbers_tail x xs 0 (length xs) ∙ numbers_all xs)

not_after : (i k : ℕ) (Y Z : List ℕ) → NotAfterFrom i k Y Z → NotAfter (numbers_from Y i k) (numbers_from Z i k)
not_after i zero Y Z h = tt
not_after i (suc k) Y Z (inl l) = inl l
not_after i (suc k) Y Z (inr p) = inr (p.0, not_after (suc i) k Y Z p.1)

-- The literals that a choice works with.
module _ (term : ℕ → Term ℕ) (σ : Substitution) (D : List RowLiteral) where
  abbrev GoesTo : RowLiteral → ℕ → Type 0
  GoesTo l n = (m : RowLiteral) × (numbered D n ≡ some m) × Turns term σ l m

  works_length : (C : List RowLiteral) (ns : List ℕ) → Works term σ C D ns → length ns ≡ length C
  works_length [] [] h = refl
  works_length [] (n ∷ ns) h = absurd h
  works_length (l ∷ C) [] h = absurd h
  works_length (l ∷ C) (n ∷ ns) h = ap suc (works_length C ns h.1)

  works_at : (C : List RowLiteral) (ns : List ℕ) → Works term σ C D ns → (i : ℕ) (l : RowLiteral) → numbered C (suc i) ≡ some l → GoesTo l (get_or ns i 0)
  works_at [] ns h i l q = absurd (some_not_none refl q)
  works_at (x ∷ C) [] h i l q = absurd h
  works_at (x ∷ C) (n ∷ ns) h zero l q = subst (λ (y : RowLiteral). GoesTo y n) (some_injective q) h.0
  works_at (x ∷ C) (n ∷ ns) h (suc i) l q = works_at C ns h.1 i l q

  works_make : (C : List RowLiteral) (ns : List ℕ) → length ns ≡ length C → ((i : ℕ) (l : RowLiteral) → numbered C (suc i) ≡ some l → GoesTo l (get_or ns i 0)) → Works term σ C D ns
  works_make [] [] e h = tt
  works_make [] (n ∷ ns) e h = absurd (let z : ◌≡◌ {A = ℕ} (suc (length ns)) 0 = e in omega arith)
  works_make (l ∷ C) [] e h = absurd (let z : ◌≡◌ {A = ℕ} 0 (suc (length C)) = e in omega arith)
  works_make (l ∷ C) (n ∷ ns) e h = (h 0 l refl, works_make C ns (let z : ◌≡◌ {A = ℕ} (suc (length ns)) (suc (length C)) = e in omega arith) (λ i m q. h (suc i) m q))

-- A list of literals as the numbers x has them.
pub record LiteralsAs (x : ℕ → ℕ) (k : ℕ) (C : List RowLiteral) : Type 0 where
  pub long : length C ≡ k
  pub at : (i : ℕ) → i < k → numbered C (suc i) ≡ some (literal_of (x i))

-- ── Choices that fit, and choices that work ──

module _ (N O : List ℕ) (term : ℕ → Term ℕ) (H : TermsOf N term) (c d lefts rights : ℕ) (rows_left : (i : ℕ) → i < lefts → HasRow N (part O c i / 2)) (rowsRight : (i : ℕ) → i < rights → HasRow N (part O d i / 2))
    (fewC : lefts ≤ 7) (fewD : rights ≤ 7) (P : Pairs) (A : AllCame N O term H c d lefts rights rows_left rowsRight 64 P)
    (T : List Bool) (cell : (x : ℕ) → x < 4096 → get_or T x false ≡ go_together P.found P.notes (x / 64) (x % 64)) where
  abbrev F : List Bool
  F = P.found

  abbrev W : List ℕ
  W = P.notes

  -- σ turns the literals of pair p.
  abbrev TurnsPair : Substitution → ℕ → Type 0
  TurnsPair σ p = Turns term σ (literal_of (left_number O c p)) (literal_of (right_number O d p))

  together_cell : (p q : ℕ) → p < 64 → q < 64 → get_or T (64 * p + q) false ≡ go_together F W p q
  together_cell p q l m =
      let a : (64 * p + q) / 64 ≡ p = omega arith in
      let b : (64 * p + q) % 64 ≡ q = omega arith in
      cell (64 * p + q) (omega arith) ∙ ap₂ (go_together F W) a b

  -- What it is to go together.
  pub record Together (p q : ℕ) : Type 0 where
    pub first : get_or P.found p false ≡ true
    pub second : get_or P.found q false ≡ true
    pub agree : (v w x : ℕ) → v < 64 → get_or P.notes (64 * p + v) 0 ≡ suc w → get_or P.notes (64 * q + v) 0 ≡ suc x → w ≡ x

  cell_together : (p q : ℕ) → p < 64 → q < 64 → get_or T (64 * p + q) false ≡ true → Together p q
  cell_together p q l m h =
      let g : go_together F W p q ≡ true = sym (together_cell p q l m) ∙ h in
      let a = both_true (get_or F p false) (get_or F q false && agree_from W p q 64 0) g in
      let b = both_true (get_or F q false) (agree_from W p q 64 0) a.1 in
      record { first = a.0; second = b.0; agree = λ v w x k e f. agree_one (get_or W (64 * p + v) 0) (get_or W (64 * q + v) 0) w x e f (agree_each W p q 64 0 b.1 v (omega arith) (omega arith)) }

  together_is : (p q : ℕ) → p < 64 → q < 64 → Together p q → get_or T (64 * p + q) false ≡ true
  together_is p q l m G =
      together_cell p q l m
      ∙ together (get_or F p false) (get_or F q false && agree_from W p q 64 0) G.first (together (get_or F q false) (agree_from W p q 64 0) G.second
      (each_agree W p q 64 0 (λ u a b. one_agree (get_or W (64 * p + u) 0) (get_or W (64 * q + u) 0) (λ w x e f. G.agree u w x (omega arith) e f))))

  -- The image noted for a variable, or what it had.
  abbrev note_or : ℕ → Term ℕ → Term ℕ
  note_or zero t = t
  note_or (suc w) t = term w

  -- The substitution of the first k numbers of a choice: a variable gets the last image noted.
  abbrev chosen_value : List ℕ → ℕ → Substitution
  chosen_value Z zero v = var v
  chosen_value Z (suc k) v = note_or (get_or P.notes (64 * pair_chosen Z k + v) 0) (chosen_value Z k v)

  module _ (Z : List ℕ) (fit : FitFrom T rights 0 lefts Z) where
    small : (i : ℕ) → i < lefts → pair_chosen Z i < 64
    small i l = let f = fit i (omega arith) (omega arith) in let a = f.1 in omega arith

    chosen_together : (i j : ℕ) → i < lefts → j ≤ i → Together (pair_chosen Z j) (pair_chosen Z i)
    chosen_together i j l b = cell_together (pair_chosen Z j) (pair_chosen Z i) (small j (omega arith)) (small i l) (fits_each T Z i (suc i) 0 (fit i (omega arith) (omega arith)).2 j (omega arith) (omega arith))

    value_noted : (k : ℕ) → k ≤ lefts → (i : ℕ) → i < k → (v w : ℕ) → v < 64 → get_or P.notes (64 * pair_chosen Z i + v) 0 ≡ suc w → chosen_value Z k v ≡ term w
    value_noted zero b i l v w m e = absurd (omega arith)
    value_noted (suc k) b i l v w m e = try (get_or P.notes (64 * pair_chosen Z k + v) 0) refl (same_or_not i k) (λ c. value_noted k (omega arith) i c v w m e)
      where
        try : (n : ℕ) → get_or P.notes (64 * pair_chosen Z k + v) 0 ≡ n → (i ≡ k) ⊎ ¬ (i ≡ k) → (i < k → chosen_value Z k v ≡ term w) → note_or n (chosen_value Z k v) ≡ term w
        try zero q (inl s) ih = let z : ◌≡◌ {A = ℕ} 0 (suc w) = sym q ∙ ap (λ (x : ℕ). get_or P.notes (64 * pair_chosen Z x + v) 0) (sym s) ∙ e in absurd (omega arith)
        try zero q (inr n) ih = ih (omega arith)
        try (suc x) q s ih = ap term (sym ((chosen_together k i (omega arith) (omega arith)).agree v w x m e q))

    -- It turns every literal of C into the one chosen for it.
    pub fit_turns : (i : ℕ) → i < lefts → TurnsPair (chosen_value Z lefts) (pair_chosen Z i)
    fit_turns i l =
        (A.came (pair_chosen Z i) (small i l) (small i l)).back (chosen_together i i l (omega arith)).first (chosen_value Z lefts)
        (λ z w e v m q. value_noted lefts (omega arith) i l v w m (ap (λ (a : ℕ). get_or P.notes a 0) (sym q) ∙ e))

  -- Conversely, numbers whose pairs one substitution turns fit.
  module _ (σ : Substitution) (Z : List ℕ) (turn : (i : ℕ) → i < lefts → (1 ≤ get_or Z i 0) × (get_or Z i 0 ≤ rights) × TurnsPair σ (pair_chosen Z i)) where
    low : (i : ℕ) → i < lefts → pair_chosen Z i < 64
    low i l = let a = (turn i l).1 in omega arith

    is_pair_lem : (i : ℕ) → i < lefts → is_pair lefts rights (pair_chosen Z i) ≡ true
    is_pair_lem i l =
        let t = turn i l in
        let a = t.0 in
        let b = t.1 in
        let e : (8 * i + get_or Z i 0) / 8 ≡ i = omega arith in
        let f : (8 * i + get_or Z i 0) % 8 ≡ get_or Z i 0 = omega arith in
        together (ltb (pair_chosen Z i / 8) lefts) (leb 1 (pair_chosen Z i % 8) && leb (pair_chosen Z i % 8) rights)
        (ap (λ (n : ℕ). ltb n lefts) e ∙ from_t (ltb i lefts) (lt→ltb i lefts l))
        (together (leb 1 (pair_chosen Z i % 8)) (leb (pair_chosen Z i % 8) rights) (ap (λ (n : ℕ). leb 1 n) f ∙ from_t (leb 1 (get_or Z i 0)) (le→leb 1 (get_or Z i 0) a)) (ap (λ (n : ℕ). leb n rights) f ∙ from_t (leb (get_or Z i 0) rights) (le→leb (get_or Z i 0) rights b)))

    is_found : (i : ℕ) → i < lefts → get_or P.found (pair_chosen Z i) false ≡ true
    is_found i l = try (get_or P.found (pair_chosen Z i) false) refl
      where
        try : (b : Bool) → get_or P.found (pair_chosen Z i) false ≡ b → b ≡ true
        try true q = refl
        try false q = absurd ((A.came (pair_chosen Z i) (low i l) (low i l)).clash q (is_pair_lem i l) σ (turn i l).2)

    noted_at : (i : ℕ) → i < lefts → (v w : ℕ) → v < 64 → get_or P.notes (64 * pair_chosen Z i + v) 0 ≡ suc w → σ v ≡ term w
    noted_at i l v w m e = (A.came (pair_chosen Z i) (low i l) (low i l)).forth (is_found i l) σ (turn i l).2 (64 * pair_chosen Z i + v) w e v m refl

    pub turns_fit : FitFrom T rights 0 lefts Z
    turns_fit i a b = (
      (turn i (omega arith)).0,
      (turn i (omega arith)).1,
      each_fits T Z i (suc i) 0 (λ j c e. together_is (pair_chosen Z j) (pair_chosen Z i) (low j (omega arith)) (low i (omega arith)) (record {
        first = is_found j (omega arith);
        second = is_found i (omega arith);
        agree = λ v w x m f g. H.one_row w x (A.there (64 * pair_chosen Z j + v) w f) (A.there (64 * pair_chosen Z i + v) x g) (sym (noted_at j (omega arith) v w m f) ∙ noted_at i (omega arith) v x m g);
      })),
    )

  -- ── In the clauses' own literals ──
  module _ (C D : List RowLiteral) (isC : LiteralsAs (part O c) lefts C) (isD : LiteralsAs (part O d) rights D) where
    left_of_lem : (i n : ℕ) → n ≤ 7 → left_number O c (8 * i + n) ≡ part O c i
    left_of_lem i n l = let e : (8 * i + n) / 8 ≡ i = omega arith in ap (part O c) e

    right_of_lem : (i n : ℕ) → n ≤ 7 → right_number O d (8 * i + n) ≡ part O d (n - 1)
    right_of_lem i n l = let e : (8 * i + n) % 8 - 1 ≡ n - 1 = omega arith in ap (part O d) e

    pub fit_works : (Z : List ℕ) → FitFrom T rights 0 lefts Z → Works term (chosen_value Z lefts) C D (numbers_from Z 0 lefts)
    fit_works Z fit = works_make term (chosen_value Z lefts) D C (numbers_from Z 0 lefts) (numbers_length Z 0 lefts ∙ sym isC.long) goes
      where
        goes : (i : ℕ) (l : RowLiteral) → numbered C (suc i) ≡ some l → (m : RowLiteral) × (numbered D (get_or (numbers_from Z 0 lefts) i 0) ≡ some m) × Turns term (chosen_value Z lefts) l m
        goes i l q =
            let b : i < lefts = let a = numbered_within C (suc i) l q in omega (arith, isC.long) in
            let f = fit i (omega arith) (omega arith) in
            let a = f.0 in
            let k = f.1 in
            let e : suc (get_or Z i 0 - 1) ≡ get_or Z i 0 = omega arith in
            let z : 0 + i ≡ i = omega arith in
            let n : get_or (numbers_from Z 0 lefts) i 0 ≡ get_or Z i 0 = numbers_at_lem Z 0 lefts i b ∙ ap (λ (y : ℕ). get_or Z y 0) z in
            let x : literal_of (left_number O c (pair_chosen Z i)) ≡ l = ap literal_of (left_of_lem i (get_or Z i 0) (omega arith)) ∙ some_injective (sym (isC.at i b) ∙ q) in (
              literal_of (right_number O d (pair_chosen Z i)),
              ap (numbered D) (n ∙ sym e) ∙ isD.at (get_or Z i 0 - 1) (omega arith) ∙ ap (λ (y : ℕ). some (literal_of y)) (sym (right_of_lem i (get_or Z i 0) (omega arith))),
              subst (λ (y : RowLiteral). Turns term (chosen_value Z lefts) y (literal_of (right_number O d (pair_chosen Z i)))) x (fit_turns Z fit i b),
            )

    pub works_fit : (σ : Substitution) (ns : List ℕ) → Works term σ C D ns → FitFrom T rights 0 lefts ns
    works_fit σ ns h = turns_fit σ ns turn
      where
        turn : (i : ℕ) → i < lefts → (1 ≤ get_or ns i 0) × (get_or ns i 0 ≤ rights) × TurnsPair σ (pair_chosen ns i)
        turn i b =
            let g = works_at term σ D C ns h i (literal_of (part O c i)) (isC.at i b) in
            let k = numbered_within D (get_or ns i 0) g.0 g.1 in
            let a = k.0 in
            let u : get_or ns i 0 ≤ rights = omega (arith, k.1, isD.long) in
            let e : suc (get_or ns i 0 - 1) ≡ get_or ns i 0 = omega arith in
            let m : literal_of (part O d (get_or ns i 0 - 1)) ≡ g.0 = some_injective (sym (isD.at (get_or ns i 0 - 1) (omega arith)) ∙ ap (numbered D) e ∙ g.1) in (
              a,
              u,
              subst (λ (y : RowLiteral). Turns term σ (literal_of (left_number O c (pair_chosen ns i))) y) (sym m ∙ ap literal_of (sym (right_of_lem i (get_or ns i 0) (omega arith))))
                  (subst (λ (y : RowLiteral). Turns term σ y g.0) (ap literal_of (sym (left_of_lem i (get_or ns i 0) (omega arith)))) g.2),
            )

    -- The values of the substitution are terms of rows, or variables left alone: what is good of these is good of it.
    module _ (Good : Term ℕ → Type 0) (goodVariable : (v : ℕ) → Good (var v)) (goodRow : (w : ℕ) → HasRow N w → Good (term w)) where
      chosen_good : (Z : List ℕ) (k v : ℕ) → Good (chosen_value Z k v)
      chosen_good Z zero v = goodVariable v
      chosen_good Z (suc k) v = try (get_or P.notes (64 * pair_chosen Z k + v) 0) refl (chosen_good Z k v)
        where
          try : (n : ℕ) → get_or P.notes (64 * pair_chosen Z k + v) 0 ≡ n → Good (chosen_value Z k v) → Good (note_or n (chosen_value Z k v))
          try zero q ih = ih
          try (suc w) q ih = goodRow w (A.there (64 * pair_chosen Z k + v) w q)

      -- What the search decides.
      pub record Decided (R : Bool × List ℕ) : Type 0 where
        pub works : R.0 ≡ true → (σ : Substitution) × Works term σ C D (numbers_from R.1 0 lefts) × ((v : ℕ) → Good (σ v))
        pub least : R.0 ≡ true → (τ : Substitution) (ms : List ℕ) → Works term τ C D ms → NotAfter (numbers_from R.1 0 lefts) ms
        pub none : R.0 ≡ false → (τ : Substitution) (ms : List ℕ) → Works term τ C D ms → ⊥

      pub decided : (X : List ℕ) → 0 + lefts ≤ length X → Decided (searched T rights lefts 0 X)
      decided X l = from (searched T rights lefts 0 X) (search_came T rights lefts 0 X l)
        where
          from : (R : Bool × List ℕ) → Came T rights lefts 0 X R → Decided R
          from R K = record {
            works = λ t. (chosen_value R.1 lefts, fit_works R.1 (K.fitting t), chosen_good R.1 lefts);
            least = λ t τ ms h. subst (NotAfter (numbers_from R.1 0 lefts)) (ap (numbers_from ms 0) (sym (works_length term τ D C ms h ∙ isC.long)) ∙ numbers_all ms)
                (not_after 0 lefts R.1 ms (K.least t ms (λ j b. absurd (omega arith)) (works_fit τ ms h)));
            none = λ t τ ms h. K.none t ms (λ j b. absurd (omega arith)) (works_fit τ ms h);
          }
