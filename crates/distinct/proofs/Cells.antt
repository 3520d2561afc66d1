-- The eight cells of a row: read one by one, compared, and hashed.
use mathlib.Core.Path.{◌≡◌, refl, sym, ap, ap₂, ◌∙◌, subst}
use mathlib.Core.Bool.{Bool, true, false}
use mathlib.Core.List.{List, [], ◌∷◌}
use Prim.Native.Nat.{ℕ, zero, suc, ◌+◌, ◌-◌, ◌*◌, ◌/◌, ◌%◌, ◌≤◌, ◌<◌}
use native.Mathlib.Nat.{add-zero, div-add-mod, mod-lt}
use native.Mathlib.Numerals.{add-one}
use native.Mathlib.Omega.{arith}
use lib.Dec.{eqb}
use lib.ListN.{length, get_or, take, drop, drop_of_length-le}
use lib.Seq.{drop-cons, get_or-take, get_or-drop, ext_get_or}
use borrow.Author.Tests.{eqb-true, eq-eqb, ne_eqb}
use Rattle.unification.specs.Nodes.{HasRow, has_row}
use Rattle.unification.specs.Repeated.{equal_lists}
use Rattle.unification.proofs.Tests.{both_true, true_not_false}
use Rattle.distinct.specs.Rows.{node_at}
use Rattle.distinct.specs.Index.{bucket_of}

-- The test of two lists says whether they are the same.
pub equal_lists_lem : (xs ys : List ℕ) → equal_lists xs ys ≡ true → xs ≡ ys
equal_lists_lem [] [] h = refl
equal_lists_lem [] (y ∷ ys) h = absurd (true_not_false h refl)
equal_lists_lem (x ∷ xs) [] h = absurd (true_not_false h refl)
equal_lists_lem (x ∷ xs) (y ∷ ys) h =
    let p = both_true (eqb x y) (equal_lists xs ys) h in
    ap₂ (λ (z : ℕ) (zs : List ℕ). z ∷ zs) (eqb-true x y p.0) (equal_lists_lem xs ys p.1)

same_list : (xs : List ℕ) → equal_lists xs xs ≡ true
same_list [] = refl
same_list (x ∷ xs) = rw (eq-eqb x x refl) (same_list xs)

pub lists_equal : (xs ys : List ℕ) → xs ≡ ys → equal_lists xs ys ≡ true
lists_equal xs ys e = subst (λ (zs : List ℕ). equal_lists xs zs ≡ true) e (same_list xs)

pub lists_differ : (xs ys : List ℕ) → ¬ (xs ≡ ys) → equal_lists xs ys ≡ false
lists_differ xs ys d = try (equal_lists xs ys) refl
  where
    try : (b : Bool) → equal_lists xs ys ≡ b → equal_lists xs ys ≡ false
    try true q = absurd (d (equal_lists_lem xs ys q))
    try false q = q

-- The first of a row's cells.
pub first_cell_lem : (N : List ℕ) (r : ℕ) → get_or (node_at N r) 0 0 ≡ get_or N (8 * r) 0
first_cell_lem N r = get_or-take 8 (drop (8 * r) N) 0 0 (omega arith) ∙ get_or-drop (8 * r) N 0 0 ∙ ap (λ (i : ℕ). get_or N i 0) (add-zero (8 * r))

-- A row is listed by its cells alone.
pub listed_cells : (N : List ℕ) (r : ℕ) (cells : List ℕ) → node_at N r ≡ cells → 0 < get_or cells 0 0 → HasRow N r
listed_cells N r cells e h = has_row (subst (λ (n : ℕ). 0 < n) (ap (λ (l : List ℕ). get_or l 0 0) (sym e) ∙ first_cell_lem N r) h)

pub cells_listed : (N : List ℕ) (r : ℕ) (cells : List ℕ) → node_at N r ≡ cells → HasRow N r → 0 < get_or cells 0 0
cells_listed N r cells e (has_row h) = subst (λ (n : ℕ). 0 < n) (sym (first_cell_lem N r) ∙ ap (λ (l : List ℕ). get_or l 0 0) e) h

-- The seven numbers of a row whose cells start at `at`, from number i on.
abbrev pub numbers_from : List ℕ → ℕ → ℕ → List ℕ
numbers_from N at i = take (7 - i) (drop (at + 1 + i) N)

-- The eight cells of a row: its code, and seven numbers.
module _ (N : List ℕ) (at : ℕ) (room : at + 8 ≤ length N) where
  code_first : take 8 (drop at N) ≡ get_or N at 0 ∷ numbers_from N at 0
  code_first =
      let e : at + 1 + 0 ≡ suc at = omega arith in
      rw (e, drop-cons N at 0 (omega arith))

  number_next : (i : ℕ) → i < 7 → numbers_from N at i ≡ get_or N (at + 1 + i) 0 ∷ numbers_from N at (i + 1)
  number_next i h =
      let e : 7 - i ≡ suc (7 - (i + 1)) = omega arith in
      let d : at + 1 + (i + 1) ≡ suc (at + 1 + i) = omega arith in
      rw (e, d, drop-cons N (at + 1 + i) 0 (omega arith))

  module _ (code : ℕ) (numbers : List ℕ) (seven : length numbers ≡ 7) where
    numbers_next_lem : (i : ℕ) → i < 7 → drop i numbers ≡ get_or numbers i 0 ∷ drop (i + 1) numbers
    numbers_next_lem i h = rw (add-one i, drop-cons numbers i 0 (omega arith))

    pub code_differs : (get_or N at 0 ≡ code → ⊥) → equal_lists (take 8 (drop at N)) (code ∷ numbers) ≡ false
    code_differs z = rw (code_first, ne_eqb (get_or N at 0) code z)

    pub code_same : get_or N at 0 ≡ code → equal_lists (take 8 (drop at N)) (code ∷ numbers) ≡ equal_lists (numbers_from N at 0) (drop 0 numbers)
    code_same z = rw (code_first, eq-eqb (get_or N at 0) code z)

    pub number_differs : (i : ℕ) → i < 7 → (get_or N (at + 1 + i) 0 ≡ get_or numbers i 0 → ⊥) → equal_lists (numbers_from N at i) (drop i numbers) ≡ false
    number_differs i h z = rw (number_next i h, numbers_next_lem i h, ne_eqb (get_or N (at + 1 + i) 0) (get_or numbers i 0) z)

    pub number_same : (i : ℕ) → i < 7 → get_or N (at + 1 + i) 0 ≡ get_or numbers i 0 → equal_lists (numbers_from N at i) (drop i numbers) ≡ equal_lists (numbers_from N at (i + 1)) (drop (i + 1) numbers)
    number_same i h z = rw (number_next i h, numbers_next_lem i h, eq-eqb (get_or N (at + 1 + i) 0) (get_or numbers i 0) z)

    pub numbers_end : (i : ℕ) → i ≤ 7 → 7 ≤ i → equal_lists (numbers_from N at i) (drop i numbers) ≡ true
    numbers_end i h l =
        let e : 7 - i ≡ 0 = omega arith in
        let d : length numbers ≤ i = omega arith in
        rw (e, drop_of_length-le numbers d)

-- Seven numbers, one by one.
seven_numbers : (xs : List ℕ) → length xs ≡ 7 → get_or xs 0 0 ∷ get_or xs 1 0 ∷ get_or xs 2 0 ∷ get_or xs 3 0 ∷ get_or xs 4 0 ∷ get_or xs 5 0 ∷ get_or xs 6 0 ∷ [] ≡ xs
seven_numbers xs l = ext_get_or 0 (get_or xs 0 0 ∷ get_or xs 1 0 ∷ get_or xs 2 0 ∷ get_or xs 3 0 ∷ get_or xs 4 0 ∷ get_or xs 5 0 ∷ get_or xs 6 0 ∷ []) xs (sym l) at
  where
    at : (i : ℕ) → i < 7 → get_or (get_or xs 0 0 ∷ get_or xs 1 0 ∷ get_or xs 2 0 ∷ get_or xs 3 0 ∷ get_or xs 4 0 ∷ get_or xs 5 0 ∷ get_or xs 6 0 ∷ []) i 0 ≡ get_or xs i 0
    at zero h = refl
    at (suc zero) h = refl
    at (suc (suc zero)) h = refl
    at (suc (suc (suc zero))) h = refl
    at (suc (suc (suc (suc zero)))) h = refl
    at (suc (suc (suc (suc (suc zero))))) h = refl
    at (suc (suc (suc (suc (suc (suc zero)))))) h = refl
    at (suc (suc (suc (suc (suc (suc (suc i))))))) h = absurd (omega arith)

-- The sum as the program adds it up.
pub bucket_sum : (a b c d e f g h : ℕ) → (a * 4031196873 + b * 2649911597 + c * 2656104757 + d * 3283478129 + (e * 3947238811 + f * 3153260809 + g * 2745936943 + h * 4180041711)) % 4294967296 / 1048576 ≡ bucket_of (a ∷ b ∷ c ∷ d ∷ e ∷ f ∷ g ∷ h ∷ [])
unfolding bucket_of
bucket_sum a b c d e f g h = ap (λ (n : ℕ). n % 4294967296 / 1048576) (omega arith)

pub bucket_room : (n : ℕ) → n % 4294967296 / 1048576 < 4096
bucket_room n =
    let p = div-add-mod (n % 4294967296) 1048576 in
    let q : n % 4294967296 < 4294967296 = mod-lt n (omega arith) in
    omega arith

-- The bucket of cells that are sought, read one by one.
pub sought_bucket : (code : ℕ) (ns : List ℕ) → length ns ≡ 7 → {k : ℕ} → k ≡ bucket_of (code ∷ get_or ns 0 0 ∷ get_or ns 1 0 ∷ get_or ns 2 0 ∷ get_or ns 3 0 ∷ get_or ns 4 0 ∷ get_or ns 5 0 ∷ get_or ns 6 0 ∷ []) → k ≡ bucket_of (code ∷ ns)
sought_bucket code ns l e = e ∙ ap (λ (xs : List ℕ). bucket_of (code ∷ xs)) (seven_numbers ns l)
