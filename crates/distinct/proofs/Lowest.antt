-- The lowest row that has given cells.
use mathlib.Core.Path.{◌≡◌, refl, sym, ap, ap₂, ◌∙◌}
use mathlib.Core.Bool.{Bool, true, false}
use mathlib.Core.Option.{Option, none, some}
use mathlib.Core.List.{List}
use Prim.Native.Nat.{ℕ, zero, suc, ◌+◌, ◌≤◌, ◌<◌}
use native.Mathlib.Omega.{arith}
use lib.Dec.{eqb}
use borrow.Author.Tests.{eqb-true, eqb-false}
use Rattle.std.specs.Prelude.{Some, None}
use Rattle.std.specs.Prelude.{Option as Answer}
use Rattle.record.specs.Answered.{answered}
use Rattle.record.specs.Record.{pick}
use Rattle.unification.specs.Repeated.{equal_lists, or_else}
use Rattle.unification.proofs.Tests.{true_not_false, some_not_none, some_injective}
use Rattle.distinct.specs.Rows.{node_at, row_with_cells}
use Rattle.distinct.proofs.Cells.{equal_lists_lem, lists_equal, lists_differ}

-- No row has the cells.
pub none_has : (N : List ℕ) (n : ℕ) (cells : List ℕ) → ((q : ℕ) → q < n → ¬ (node_at N q ≡ cells)) → row_with_cells N n cells ≡ none
unfolding row_with_cells
none_has N zero cells h = refl
none_has N (suc n) cells h =
    ap₂ or_else (none_has N n cells (λ q l. h q (omega arith))) (ap (λ (b : Bool). pick {A = Option ℕ} b (some n) none) (lists_differ (node_at N n) cells (h n (omega arith))))

-- One row has them.
pub one_has : (N : List ℕ) (n : ℕ) (cells : List ℕ) (r : ℕ) → r < n → node_at N r ≡ cells → ((q : ℕ) → q < n → node_at N q ≡ cells → q ≡ r) → row_with_cells N n cells ≡ some r
unfolding row_with_cells
one_has N zero cells r l e u = absurd (omega arith)
one_has N (suc n) cells r l e u = try (eqb r n) refl (λ m. one_has N n cells r m e (λ q k. u q (omega arith)))
  where
    try : (b : Bool) → eqb r n ≡ b → (r < n → row_with_cells N n cells ≡ some r) → or_else (row_with_cells N n cells) (pick (equal_lists (node_at N n) cells) (some n) none) ≡ some r
    try true q ih =
        let z : r ≡ n = eqb-true r n q in
        ap₂ or_else (none_has N n cells (λ p k x. let y = u p (omega arith) x in omega arith)) (ap (λ (b : Bool). pick {A = Option ℕ} b (some n) none) (lists_equal (node_at N n) cells (ap (node_at N) (sym z) ∙ e)))
        ∙ ap some (sym z)
    try false q ih = let d : ¬ (r ≡ n) = eqb-false r n q in ap (λ (o : Option ℕ). or_else o (pick (equal_lists (node_at N n) cells) (some n) none)) (ih (omega arith))

-- Going up from row 0: the next row does not have the cells, or it is the lowest that has.
none_more : (N : List ℕ) (n : ℕ) (cells : List ℕ) → row_with_cells N n cells ≡ none → equal_lists (node_at N n) cells ≡ false → row_with_cells N (suc n) cells ≡ none
unfolding row_with_cells
none_more N n cells e f = ap₂ or_else e (ap (λ (b : Bool). pick {A = Option ℕ} b (some n) none) f)

pub none_yet : (N : List ℕ) (n : ℕ) (cells : List ℕ) → row_with_cells N n cells ≡ none → equal_lists (node_at N n) cells ≡ false → row_with_cells N (n + 1) cells ≡ none
none_yet N n cells e f = let z : n + 1 ≡ suc n = omega arith in ap (λ (m : ℕ). row_with_cells N m cells) z ∙ none_more N n cells e f

pub first_has : (N : List ℕ) (n : ℕ) (cells : List ℕ) (r : ℕ) → r < n → row_with_cells N r cells ≡ none → equal_lists (node_at N r) cells ≡ true → row_with_cells N n cells ≡ some r
unfolding row_with_cells
first_has N zero cells r l e f = absurd (omega arith)
first_has N (suc n) cells r l e f = try (eqb r n) refl (λ m. first_has N n cells r m e f)
  where
    try : (b : Bool) → eqb r n ≡ b → (r < n → row_with_cells N n cells ≡ some r) → or_else (row_with_cells N n cells) (pick (equal_lists (node_at N n) cells) (some n) none) ≡ some r
    try true q ih =
        let z : r ≡ n = eqb-true r n q in
        ap₂ or_else (ap (λ (m : ℕ). row_with_cells N m cells) (sym z) ∙ e) (ap (λ (b : Bool). pick {A = Option ℕ} b (some n) none) (ap (λ (m : ℕ). equal_lists (node_at N m) cells) (sym z) ∙ f))
        ∙ ap some (sym z)
    try false q ih = let d : ¬ (r ≡ n) = eqb-false r n q in ap (λ (o : Option ℕ). or_else o (pick (equal_lists (node_at N n) cells) (some n) none)) (ih (omega arith))

pub none_at_all : (N : List ℕ) (n : ℕ) (cells : List ℕ) (r : ℕ) → r ≤ n → n ≤ r → row_with_cells N r cells ≡ none → None ≡ answered (row_with_cells N n cells)
none_at_all N n cells r l m e = let z : n ≡ r = omega arith in sym (ap answered (ap (λ (m : ℕ). row_with_cells N m cells) z ∙ e))

-- What an answer says of the rows.
pub no_row : (N : List ℕ) (n : ℕ) (cells : List ℕ) → row_with_cells N n cells ≡ none → (q : ℕ) → q < n → ¬ (node_at N q ≡ cells)
unfolding row_with_cells
no_row N zero cells h q l e = omega arith
no_row N (suc n) cells h q l e = try (row_with_cells N n cells) refl (equal_lists (node_at N n) cells) refl h (λ z m. no_row N n cells z q m e)
  where
    try : (o : Option ℕ) → row_with_cells N n cells ≡ o → (b : Bool) → equal_lists (node_at N n) cells ≡ b → or_else o (pick b (some n) none) ≡ none → (row_with_cells N n cells ≡ none → q < n → ⊥) → ⊥
    try (some r) x b y z ih = some_not_none z refl
    try none x true y z ih = some_not_none z refl
    try none x false y z ih = split (eqb q n) refl
      where
        split : (b : Bool) → eqb q n ≡ b → ⊥
        split true w = true_not_false (lists_equal (node_at N n) cells (ap (node_at N) (sym (eqb-true q n w)) ∙ e)) y
        split false w = let d : ¬ (q ≡ n) = eqb-false q n w in ih x (omega arith)

pub a_row : (N : List ℕ) (n : ℕ) (cells : List ℕ) (r : ℕ) → row_with_cells N n cells ≡ some r → (r < n) × (node_at N r ≡ cells)
unfolding row_with_cells
a_row N zero cells r h = absurd (some_not_none refl h)
a_row N (suc n) cells r h = try (row_with_cells N n cells) refl (equal_lists (node_at N n) cells) refl h (λ z. a_row N n cells r z)
  where
    try : (o : Option ℕ) → row_with_cells N n cells ≡ o → (b : Bool) → equal_lists (node_at N n) cells ≡ b → or_else o (pick b (some n) none) ≡ some r → (row_with_cells N n cells ≡ some r → (r < n) × (node_at N r ≡ cells)) → (r < suc n) × (node_at N r ≡ cells)
    try (some q) x b y z ih = let k = ih (x ∙ z) in let l : r < n = k.0 in (omega arith, k.1)
    try none x true y z ih =
        let e : n ≡ r = some_injective z in
        (omega arith, ap (node_at N) (sym e) ∙ equal_lists_lem (node_at N n) cells y)
    try none x false y z ih = absurd (some_not_none refl z)

-- From the answer of a search back to the row.
pub found_nowhere : (o : Option ℕ) {f : Answer ℕ} → f ≡ answered o → f ≡ None → o ≡ none
found_nowhere none p q = refl
found_nowhere (some r) p q = absurd (let z : ◌≡◌ {A = ℕ} 0 1 = cc in omega arith)

pub found_at : (o : Option ℕ) {f : Answer ℕ} (r : ℕ) → f ≡ answered o → f ≡ Some r → o ≡ some r
found_at none r p q = absurd (let z : ◌≡◌ {A = ℕ} 0 1 = cc in omega arith)
found_at (some q) r p e = cc
