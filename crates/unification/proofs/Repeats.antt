-- Equal rows and the earliest of them: the tests say what they are for.
use mathlib.Core.Path.{◌≡◌, refl, sym, ap, ap₂, ◌∙◌, subst}
use mathlib.Core.Logic.{◌⊎◌, inl, inr}
use mathlib.Core.Bool.{Bool, true, false}
use mathlib.Core.Option.{Option, none, some}
use mathlib.Core.List.{List, [], ◌∷◌, map}
use Prim.Native.Nat.{ℕ, ◌≤◌, ◌<◌}
use native.Mathlib.Omega.{arith}
use lib.Dec.{eqb, ltb, eqb→eq, eqb_refl, lt→ltb, ltb→lt}
use lib.ListN.{length}
use Rattle.record.specs.Record.{pick}
use Rattle.unification.specs.Repeated.{equal_lists, equal_rows, or_else, earliest_equal, or_same, earliest_row, IsEarliest}
use Rattle.unification.specs.Row.{variable, Row, application, row_at}
use Rattle.unification.proofs.Lists.{Each}
use Rattle.unification.proofs.Rows.{eqb_below, below_other}
use Rattle.unification.proofs.Tests.{to_t, from_t, both_true, true_not_false, some_not_none, some_injective}

equal_number : (a b : ℕ) → eqb a b ≡ true → a ≡ b
equal_number a b q = eqb→eq a b (to_t (eqb a b) q)

pub itself : (a : ℕ) → eqb a a ≡ true
itself a = from_t (eqb a a) (eqb_refl a)

-- ── Equality of rows ──
pub lists_equal : (xs ys : List ℕ) → equal_lists xs ys ≡ true → xs ≡ ys
lists_equal [] [] q = refl
lists_equal [] (y ∷ ys) q = absurd (true_not_false q refl)
lists_equal (x ∷ xs) [] q = absurd (true_not_false q refl)
lists_equal (x ∷ xs) (y ∷ ys) q =
    let p = both_true (eqb x y) (equal_lists xs ys) q in
    ap₂ (λ (z : ℕ) (zs : List ℕ). z ∷ zs) (equal_number x y p.0) (lists_equal xs ys p.1)

pub list_itself : (xs : List ℕ) → equal_lists xs xs ≡ true
list_itself [] = refl
list_itself (x ∷ xs) = rw (itself x) (list_itself xs)

pub rows_equal : (w u : Row) → equal_rows w u ≡ true → w ≡ u
rows_equal (variable v) (variable w) q = ap variable (equal_number v w q)
rows_equal (variable v) (application t ys) q = absurd (true_not_false q refl)
rows_equal (application s xs) (variable w) q = absurd (true_not_false q refl)
rows_equal (application s xs) (application t ys) q =
    let p = both_true (eqb s t) (equal_lists xs ys) q in
    ap₂ application (equal_number s t p.0) (lists_equal xs ys p.1)

pub row_itself : (w : Row) → equal_rows w w ≡ true
row_itself (variable v) = itself v
row_itself (application s xs) = rw (itself s) (list_itself xs)

-- ── Rows of a longer list ──
pub row_old : (w : Row) (ws : List Row) (r : ℕ) → r < length ws → row_at (w ∷ ws) r ≡ row_at ws r
row_old w ws r l = rw (eqb_below r (length ws) l)

pub row_new : (w : Row) (ws : List Row) → row_at (w ∷ ws) (length ws) ≡ w
row_new w ws = rw (itself (length ws))

pub earliest_more : (w : Row) (ws : List Row) (r : ℕ) → IsEarliest ws r → IsEarliest (w ∷ ws) r
earliest_more w ws r E = record {
  there = let l = E.there in omega arith;
  first = λ q l e. E.first q l (sym (row_old w ws q (let m = E.there in omega arith)) ∙ e ∙ row_old w ws r E.there);
}

pub earliest_new : (w : Row) (ws : List Row) → ((q : ℕ) → q < length ws → ¬ (row_at ws q ≡ w)) → IsEarliest (w ∷ ws) (length ws)
earliest_new w ws n = record { there = omega arith; first = λ q l e. n q l (sym (row_old w ws q l) ∙ e ∙ row_new w ws) }

-- ── The earliest equal row ──
pub record FoundEqual (w : Row) (ws : List Row) (q : ℕ) : Type 0 where
  pub earliest : IsEarliest ws q
  pub equals : row_at ws q ≡ w

pub earliest_none : (w : Row) (ws : List Row) → earliest_equal w ws ≡ none → (q : ℕ) → q < length ws → ¬ (row_at ws q ≡ w)
earliest_none w [] e q l z = absurd (omega arith)
earliest_none w (u ∷ us) e q l z = try (earliest_equal w us) refl e (λ h m y. earliest_none w us h q m y)
  where
    at : (b : Bool) → eqb q (length us) ≡ b → equal_rows u w ≡ false → (q < length us → ¬ (row_at us q ≡ w)) → pick b u (row_at us q) ≡ w → ⊥
    at true p d ih y = true_not_false (ap (λ (x : Row). equal_rows x w) y ∙ row_itself w) d
    at false p d ih y = ih (below_other q (length us) p l) y

    last : (b : Bool) → equal_rows u w ≡ b → ◌≡◌ {A = Option ℕ} (pick b (some (length us)) none) none → (q < length us → ¬ (row_at us q ≡ w)) → ⊥
    last true d y ih = some_not_none y refl
    last false d y ih = at (eqb q (length us)) refl d ih z

    try : (o : Option ℕ) → earliest_equal w us ≡ o → ◌≡◌ {A = Option ℕ} (or_else o (pick (equal_rows u w) (some (length us)) none)) none → (earliest_equal w us ≡ none → q < length us → ¬ (row_at us q ≡ w)) → ⊥
    try none h y ih = last (equal_rows u w) refl y (ih h)
    try (some n) h y ih = some_not_none y refl

pub earliest_found : (w : Row) (ws : List Row) (q : ℕ) → earliest_equal w ws ≡ some q → FoundEqual w ws q
earliest_found w [] q e = absurd (some_not_none refl e)
earliest_found w (u ∷ us) q e = try (earliest_equal w us) refl e (λ h. earliest_found w us q h)
  where
    older : FoundEqual w us q → FoundEqual w (u ∷ us) q
    older F = record { earliest = earliest_more u us q F.earliest; equals = row_old u us q F.earliest.there ∙ F.equals }

    newest : (b : Bool) → equal_rows u w ≡ b → earliest_equal w us ≡ none → ◌≡◌ {A = Option ℕ} (pick b (some (length us)) none) (some q) → FoundEqual w (u ∷ us) q
    newest true d h y =
        let same : u ≡ w = rows_equal u w d in
        subst (FoundEqual w (u ∷ us)) (some_injective y) (record { earliest = earliest_new u us (λ p l z. earliest_none w us h p l (z ∙ same)); equals = row_new u us ∙ same })
    newest false d h y = absurd (some_not_none refl y)

    try : (o : Option ℕ) → earliest_equal w us ≡ o → ◌≡◌ {A = Option ℕ} (or_else o (pick (equal_rows u w) (some (length us)) none)) (some q) → (earliest_equal w us ≡ some q → FoundEqual w us q) → FoundEqual w (u ∷ us) q
    try none h y ih = newest (equal_rows u w) refl h y
    try (some n) h y ih = older (ih (h ∙ y))

-- Of rows that are there.
module _ (ws : List Row) where
  earliest_there : (r : ℕ) → r < length ws → earliest_row ws r ≡ or_same r (earliest_equal (row_at ws r) ws)
  earliest_there r l = ap (λ (b : Bool). pick b (or_same r (earliest_equal (row_at ws r) ws)) r) (from_t (ltb r (length ws)) (lt→ltb r (length ws) l))

  pub earliest_equal_lem : (r : ℕ) → r < length ws → FoundEqual (row_at ws r) ws (earliest_row ws r)
  earliest_equal_lem r l = subst (FoundEqual (row_at ws r) ws) (sym (earliest_there r l)) (try (earliest_equal (row_at ws r) ws) refl)
    where
      try : (o : Option ℕ) → earliest_equal (row_at ws r) ws ≡ o → FoundEqual (row_at ws r) ws (or_same r o)
      try none e = absurd (earliest_none (row_at ws r) ws e r l refl)
      try (some q) e = earliest_found (row_at ws r) ws q e

  pub one_earliest : (r q : ℕ) → IsEarliest ws r → IsEarliest ws q → row_at ws r ≡ row_at ws q → r ≡ q
  one_earliest r q R Q e =
      let a : ¬ (r < q) = λ l. Q.first r l e in
      let b : ¬ (q < r) = λ l. R.first q l (sym e) in
      omega arith

  pub earliest_itself : (r : ℕ) → IsEarliest ws r → earliest_row ws r ≡ r
  earliest_itself r E = let F = earliest_equal_lem r E.there in one_earliest (earliest_row ws r) r F.earliest E F.equals

  -- Equal rows have one earliest row, and rows with one earliest row are equal.
  pub earliest_same : (r q : ℕ) → r < length ws → q < length ws → row_at ws r ≡ row_at ws q → earliest_row ws r ≡ earliest_row ws q
  earliest_same r q l m e =
      let R = earliest_equal_lem r l in
      let Q = earliest_equal_lem q m in
      one_earliest (earliest_row ws r) (earliest_row ws q) R.earliest Q.earliest (R.equals ∙ e ∙ sym Q.equals)

  pub same_earliest : (r q : ℕ) → r < length ws → q < length ws → earliest_row ws r ≡ earliest_row ws q → row_at ws r ≡ row_at ws q
  same_earliest r q l m e = sym (earliest_equal_lem r l).equals ∙ ap (row_at ws) e ∙ (earliest_equal_lem q m).equals

  -- A row is an earliest one, or its earliest equal row is another.
  pub earliest_or_not : (r : ℕ) → r < length ws → IsEarliest ws r ⊎ ¬ (earliest_row ws r ≡ r)
  earliest_or_not r l = try (eqb (earliest_row ws r) r) refl
    where
      try : (b : Bool) → eqb (earliest_row ws r) r ≡ b → IsEarliest ws r ⊎ ¬ (earliest_row ws r ≡ r)
      try true q = inl (subst (IsEarliest ws) (equal_number (earliest_row ws r) r q) (earliest_equal_lem r l).earliest)
      try false q = inr (λ e. true_not_false (ap (λ (x : ℕ). eqb x r) e ∙ itself r) q)

  pub all_earliest : (xs : List ℕ) → Each (λ r. r < length ws) xs → Each (IsEarliest ws) (map (earliest_row ws) xs)
  all_earliest [] h = tt
  all_earliest (x ∷ xs) h = ((earliest_equal_lem x h.0).earliest, all_earliest xs h.1)

  pub earliest_absent : (r : ℕ) → length ws ≤ r → earliest_row ws r ≡ r
  earliest_absent r l = ap (λ (b : Bool). pick b (or_same r (earliest_equal (row_at ws r) ws)) r) (absent (ltb r (length ws)) refl)
    where
      absent : (b : Bool) → ltb r (length ws) ≡ b → b ≡ false
      absent true q = let z : r < length ws = ltb→lt r (length ws) (to_t (ltb r (length ws)) q) in absurd (omega arith)
      absent false q = refl

-- In a longer list an old row has the same earliest equal row.
pub earliest_old : (w : Row) (ws : List Row) (r : ℕ) → r < length ws → earliest_row (w ∷ ws) r ≡ earliest_row ws r
earliest_old w ws r l =
    let A = earliest_equal_lem (w ∷ ws) r (omega arith) in
    let B = earliest_equal_lem ws r l in
    one_earliest (w ∷ ws) (earliest_row (w ∷ ws) r) (earliest_row ws r) A.earliest (earliest_more w ws (earliest_row ws r) B.earliest)
    (A.equals ∙ row_old w ws r l ∙ sym B.equals ∙ sym (row_old w ws (earliest_row ws r) B.earliest.there))

pub earliest_shorter : (w : Row) (ws : List Row) (r : ℕ) → r < length ws → IsEarliest (w ∷ ws) r → IsEarliest ws r
earliest_shorter w ws r l E = record { there = l; first = λ q m e. E.first q m (row_old w ws q (omega arith) ∙ e ∙ sym (row_old w ws r l)) }
