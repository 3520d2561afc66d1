-- Marks from the last record down: where what is kept is closed, and is named by something later that is kept, the marked records are the kept ones.
use mathlib.Core.Path.{◌≡◌, refl, sym, ◌∙◌, subst}
use mathlib.Core.Logic.{◌⊎◌, inl, inr}
use mathlib.Core.Bool.{Bool, true, false}
use mathlib.Core.List.{List, [], ◌∷◌}
use Prim.Native.Nat.{ℕ, zero, suc, ◌≤◌, ◌<◌}
use native.Mathlib.Omega.{arith}
use lib.Dec.{eqb}
use lib.ListN.{length, get_or, set, length-set}
use lib.Seq.{get_or-set_same, get_or-set_other}
use Rattle.record.specs.Record.{pick, File, record_at}
use Rattle.unification.proofs.Lists.{Each}
use Rattle.unification.proofs.Tests.{true_not_false}
use Rattle.demands.specs.Conditions.{OneOf}
use Rattle.demands.proofs.RangeTests.{equal, unequal}
use Rattle.marking.specs.Marking.{named, marked, marked_by, marked_down}
use Rattle.marking.proofs.Told.{kind_at}

module _ (Y R C : List ℕ) where
  marked_length : (ks M : List ℕ) → length (marked Y R C M ks) ≡ length M
  marked_length [] M = refl
  marked_length (k ∷ ks) M = marked_length ks (set M k 1) ∙ length-set M k 1

  set_one : (M : List ℕ) (k j : ℕ) → j < length M → get_or M j 0 ≡ 1 → get_or (set M k 1) j 0 ≡ 1
  set_one M k j l e = try (eqb j k) refl
    where
      try : (b : Bool) → eqb j k ≡ b → get_or (set M k 1) j 0 ≡ 1
      try true q = let z = equal j k q in subst (λ (i : ℕ). get_or (set M i 1) j 0 ≡ 1) z (get_or-set_same M j 1 0 l)
      try false q = get_or-set_other M k j 1 0 (unequal j k q) ∙ e

  marked_one : (ks M : List ℕ) (j : ℕ) → j < length M → get_or M j 0 ≡ 1 → get_or (marked Y R C M ks) j 0 ≡ 1
  marked_one [] M j l e = e
  marked_one (k ∷ ks) M j l e = marked_one ks (set M k 1) j (let z = length-set M k 1 in omega arith) (set_one M k j l e)

  marked_named : (ks M : List ℕ) (j : ℕ) → j < length M → OneOf j ks → get_or (marked Y R C M ks) j 0 ≡ 1
  marked_named [] M j l o = absurd o
  marked_named (k ∷ ks) M j l (inl e) = marked_one ks (set M k 1) j (let z = length-set M k 1 in omega arith) (subst (λ (i : ℕ). get_or (set M i 1) j 0 ≡ 1) e (get_or-set_same M j 1 0 l))
  marked_named (k ∷ ks) M j l (inr o) = marked_named ks (set M k 1) j (let z = length-set M k 1 in omega arith) o

module _ (Y R C : List ℕ) (F : File) (kept : ℕ → Bool) (top count : ℕ) (few : count ≤ 4096)
    (inside : (j : ℕ) → kept j ≡ true → j < count)
    (first : kept top ≡ true)
    (closed : (i : ℕ) → kept i ≡ true → Each (λ j. kept j ≡ true) (named Y R C (kind_at F i) (record_at F i)))
    (kept_for : (j : ℕ) → kept j ≡ true → (j ≡ top) ⊎ ((i : ℕ) × (j < i) × (kept i ≡ true) × OneOf j (named Y R C (kind_at F i) (record_at F i)))) where
  -- What a cell may have; and after the records from k on, every kept record that one of those names is marked.
  abbrev Cell : List ℕ → ℕ → Type 0
  Cell M j = (get_or M j 0 ≡ 0) ⊎ ((get_or M j 0 ≡ 1) × (kept j ≡ true))

  abbrev NamedFrom : ℕ → ℕ → Type 0
  NamedFrom k j = (j ≡ top) ⊎ ((i : ℕ) × (k ≤ i) × (kept i ≡ true) × OneOf j (named Y R C (kind_at F i) (record_at F i)))

  record Marks (k : ℕ) (M : List ℕ) : Type 0 where
    long : 4096 ≤ length M
    cells : (j : ℕ) → j < 4096 → Cell M j
    whole : (j : ℕ) → kept j ≡ true → NamedFrom k j → get_or M j 0 ≡ 1

  set_cell : (M : List ℕ) (k j : ℕ) → j < length M → kept k ≡ true → Cell M j → Cell (set M k 1) j
  set_cell M k j l h c = try (eqb j k) refl
    where
      other : get_or (set M k 1) j 0 ≡ get_or M j 0 → Cell M j → Cell (set M k 1) j
      other e (inl z) = inl (e ∙ z)
      other e (inr z) = inr (e ∙ z.0, z.1)

      try : (b : Bool) → eqb j k ≡ b → Cell (set M k 1) j
      try true q = let z = equal j k q in inr (subst (λ (i : ℕ). get_or (set M i 1) j 0 ≡ 1) z (get_or-set_same M j 1 0 l), subst (λ (i : ℕ). kept i ≡ true) (sym z) h)
      try false q = other (get_or-set_other M k j 1 0 (unequal j k q)) c

  marked_cell : (ks M : List ℕ) (j : ℕ) → j < length M → Each (λ i. kept i ≡ true) ks → Cell M j → Cell (marked Y R C M ks) j
  marked_cell [] M j l h c = c
  marked_cell (k ∷ ks) M j l h c = marked_cell ks (set M k 1) j (let z = length-set M k 1 in omega arith) h.1 (set_cell M k j l h.0 c)

  -- A kept record is marked before it is visited.
  ready : (k : ℕ) (M : List ℕ) → Marks (suc k) M → kept k ≡ true → get_or M k 0 ≡ 1
  ready k M H h = H.whole k h (try (kept_for k h))
    where
      try : (k ≡ top) ⊎ ((i : ℕ) × (k < i) × (kept i ≡ true) × OneOf k (named Y R C (kind_at F i) (record_at F i))) → NamedFrom (suc k) k
      try (inl e) = inl e
      try (inr z) = inr (z.0, (let l = z.1 in omega arith), z.2, z.3)

  visited : (k : ℕ) (M : List ℕ) → k < count → Marks (suc k) M → Marks k (marked_by Y R C (record_at F k) k M)
  visited k M l H = try (eqb (get_or M k 0) 0) refl
    where
      room : (j : ℕ) → j < count → j < length M
      room j m = let z = H.long in omega arith

      -- A record that is not kept names nothing.
      later : get_or M k 0 ≡ 0 → (j : ℕ) → NamedFrom k j → NamedFrom (suc k) j
      later e j (inl z) = inl z
      later e j (inr z) = inr (z.0, not_here z.0 z.1 z.2, z.2, z.3)
        where
          not_here : (i : ℕ) → k ≤ i → kept i ≡ true → suc k ≤ i
          not_here i m h =
              let d : ¬ (k ≡ i) = λ y. (let w = ready k M H (subst (λ (x : ℕ). kept x ≡ true) (sym y) h) in omega arith) in
              omega arith

      here : kept k ≡ true → (j : ℕ) → kept j ≡ true → NamedFrom k j → get_or (marked Y R C M (named Y R C (kind_at F k) (record_at F k))) j 0 ≡ 1
      here h j w (inl z) = marked_one Y R C (named Y R C (kind_at F k) (record_at F k)) M j (room j (inside j w)) (H.whole j w (inl z))
      here h j w (inr z) = split (eqb z.0 k) refl
        where
          split : (b : Bool) → eqb z.0 k ≡ b → get_or (marked Y R C M (named Y R C (kind_at F k) (record_at F k))) j 0 ≡ 1
          split true e = marked_named Y R C (named Y R C (kind_at F k) (record_at F k)) M j (room j (inside j w)) (subst (λ (i : ℕ). OneOf j (named Y R C (kind_at F i) (record_at F i))) (equal z.0 k e) z.3)
          split false e =
              let d = unequal z.0 k e in
              let m : suc k ≤ z.0 = (let y = z.1 in omega arith) in
              marked_one Y R C (named Y R C (kind_at F k) (record_at F k)) M j (room j (inside j w)) (H.whole j w (inr (z.0, m, z.2, z.3)))

      is_kept : eqb (get_or M k 0) 0 ≡ false → Cell M k → kept k ≡ true
      is_kept e (inl z) = absurd (unequal (get_or M k 0) 0 e z)
      is_kept e (inr z) = z.1

      try : (b : Bool) → eqb (get_or M k 0) 0 ≡ b → Marks k (pick b M (marked Y R C M (named Y R C (kind_at F k) (record_at F k))))
      try true e = record { long = H.long; cells = H.cells; whole = λ j w z. H.whole j w (later (equal (get_or M k 0) 0 e) j z) }
      try false e =
          let h = is_kept e (H.cells k (omega arith)) in
          let L = H.long in
          record {
            long = (let z = marked_length Y R C (named Y R C (kind_at F k) (record_at F k)) M in omega arith);
            cells = λ j m. marked_cell (named Y R C (kind_at F k) (record_at F k)) M j (omega arith) (closed k h) (H.cells j m);
            whole = λ j w z. here h j w z;
          }

  down : (k : ℕ) (M : List ℕ) → k ≤ count → Marks k M → Marks 0 (marked_down Y R C F k M)
  unfolding marked_down
  down zero M l H = H
  down (suc k) M l H = down k (marked_by Y R C (record_at F k) k M) (omega arith) (visited k M (omega arith) H)

  start : (M : List ℕ) → 4096 ≤ length M → ((j : ℕ) → j < 4096 → get_or M j 0 ≡ 0) → Marks count (set M top 1)
  start M l z =
      let t = inside top first in
      record {
        long = (let y = length-set M top 1 in omega arith);
        cells = λ j m. set_cell M top j (omega arith) first (inl (z j m));
        whole = λ j w n. only j w n;
      }
    where
      only : (j : ℕ) → kept j ≡ true → NamedFrom count j → get_or (set M top 1) j 0 ≡ 1
      only j w (inl e) = let t = inside j w in subst (λ (i : ℕ). get_or (set M i 1) j 0 ≡ 1) e (get_or-set_same M j 1 0 (omega arith))
      only j w (inr n) = let t = inside n.0 n.2 in let y = n.1 in absurd (omega arith)

  pub marks_kept : (M : List ℕ) → 4096 ≤ length M → ((j : ℕ) → j < 4096 → get_or M j 0 ≡ 0) → (j : ℕ) → j < 4096 → get_or (marked_down Y R C F count (set M top 1)) j 0 ≡ pick (kept j) 1 0
  marks_kept M l z j m = let H = down count (set M top 1) (omega arith) (start M l z) in try (kept j) refl (H.cells j m) (H.whole j)
    where
      try : (b : Bool) → kept j ≡ b → Cell (marked_down Y R C F count (set M top 1)) j → (kept j ≡ true → NamedFrom 0 j → get_or (marked_down Y R C F count (set M top 1)) j 0 ≡ 1) → get_or (marked_down Y R C F count (set M top 1)) j 0 ≡ pick b 1 0
      try true e c w = w e (from_start (kept_for j e))
        where
          from_start : (j ≡ top) ⊎ ((i : ℕ) × (j < i) × (kept i ≡ true) × OneOf j (named Y R C (kind_at F i) (record_at F i))) → NamedFrom 0 j
          from_start (inl q) = inl q
          from_start (inr q) = inr (q.0, omega arith, q.2, q.3)
      try false e (inl c) w = c
      try false e (inr c) w = absurd (true_not_false c.1 e)

  pub marks_long : (M : List ℕ) → 4096 ≤ length M → ((j : ℕ) → j < 4096 → get_or M j 0 ≡ 0) → 4096 ≤ length (marked_down Y R C F count (set M top 1))
  marks_long M l z = (down count (set M top 1) (omega arith) (start M l z)).long
