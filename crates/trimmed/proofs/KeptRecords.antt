-- The numbers of the records that are kept, in their order; and the records of a trimmed file are those, with numbers closed up.
use mathlib.Core.Path.{◌≡◌, refl, sym, ap, ap₂, ◌∙◌, subst}
use mathlib.Core.Logic.{inl, inr}
use mathlib.Core.Bool.{Bool, true, false}
use mathlib.Core.List.{List, [], ◌∷◌, map}
use Prim.Native.Nat.{ℕ, zero, suc, ◌+◌, ◌≤◌, ◌<◌}
use native.Mathlib.Omega.{arith}
use lib.ListN.{length, take, drop, length-drop}
use Rattle.record.specs.Record.{pick, old_file, Record, record_at, record_count, records}
use Rattle.record.proofs.Records.{records_length, record_numbered}
use Rattle.derivation.specs.Derivation.{StrictlyRising}
use Rattle.renumbering.specs.Renumbering.{Renumbering}
use Rattle.verdict.specs.Refusal.{kind_of_record}
use Rattle.demands.specs.Conditions.{OneOf}
use Rattle.trimming.specs.Kept.{Kept}
use Rattle.trimming.specs.Trimming.{Next, first_numbers, next_after, is_kept, closed_record, trimmed_from}

-- ── The list ──

-- The numbers of the kept ones of some records, the first of which is record k.
abbrev pub kept_from : Kept → Next → ℕ → List Record → List ℕ
kept_from K n k [] = []
kept_from K n k (r ∷ rs) = pick (is_kept K n (kind_of_record r) r rs) (k ∷ kept_from K (next_after n (kind_of_record r)) (suc k) rs) (kept_from K (next_after n (kind_of_record r)) (suc k) rs)

abbrev pub kept_list : Kept → List ℕ → List ℕ
kept_list K file = kept_from K first_numbers 0 (records (old_file file))

rising_more : (k : ℕ) (xs : List ℕ) → StrictlyRising xs → ((j : ℕ) → OneOf j xs → k < j) → StrictlyRising (k ∷ xs)
rising_more k [] h l = tt
rising_more k (x ∷ xs) h l = (l x (inl refl), h)

-- The numbers that the next ones have after some records.
abbrev pub next_at : Next → List Record → Next
next_at n [] = n
next_at n (r ∷ rs) = next_at (next_after n (kind_of_record r)) rs

module _ (K : Kept) where
  at_least : (n : Next) (k : ℕ) (rs : List Record) (j : ℕ) → OneOf j (kept_from K n k rs) → k ≤ j
  at_least n k [] j o = absurd o
  at_least n k (r ∷ rs) j o = try (is_kept K n (kind_of_record r) r rs) o (at_least (next_after n (kind_of_record r)) (suc k) rs j)
    where
      try : (b : Bool) → OneOf j (pick b (k ∷ kept_from K (next_after n (kind_of_record r)) (suc k) rs) (kept_from K (next_after n (kind_of_record r)) (suc k) rs)) → (OneOf j (kept_from K (next_after n (kind_of_record r)) (suc k) rs) → suc k ≤ j) → k ≤ j
      try true (inl e) ih = omega arith
      try true (inr p) ih = let z = ih p in omega arith
      try false p ih = let z = ih p in omega arith

  kept_rising : (n : Next) (k : ℕ) (rs : List Record) → StrictlyRising (kept_from K n k rs)
  kept_rising n k [] = tt
  kept_rising n k (r ∷ rs) = try (is_kept K n (kind_of_record r) r rs) (kept_rising (next_after n (kind_of_record r)) (suc k) rs)
    where
      try : (b : Bool) → StrictlyRising (kept_from K (next_after n (kind_of_record r)) (suc k) rs) → StrictlyRising (pick b (k ∷ kept_from K (next_after n (kind_of_record r)) (suc k) rs) (kept_from K (next_after n (kind_of_record r)) (suc k) rs))
      try true ih = rising_more k (kept_from K (next_after n (kind_of_record r)) (suc k) rs) ih (λ j o. let z = at_least (next_after n (kind_of_record r)) (suc k) rs j o in omega arith)
      try false ih = ih

  -- ── What the list has ──
  pub record KeptAt (n : Next) (rs : List Record) (i : ℕ) : Type 0 where
    pub here : Record
    pub after : List Record
    pub is : drop i rs ≡ here ∷ after
    pub kept : is_kept K (next_at n (take i rs)) (kind_of_record here) here after ≡ true

  pub kept_at : (n : Next) (k : ℕ) (rs : List Record) (j : ℕ) → OneOf j (kept_from K n k rs) → (i : ℕ) × (j ≡ k + i) × KeptAt n rs i
  kept_at n k [] j o = absurd o
  kept_at n k (r ∷ rs) j o = try (is_kept K n (kind_of_record r) r rs) refl o (kept_at (next_after n (kind_of_record r)) (suc k) rs j)
    where
      later : (i : ℕ) × (j ≡ suc k + i) × KeptAt (next_after n (kind_of_record r)) rs i → (i : ℕ) × (j ≡ k + i) × KeptAt n (r ∷ rs) i
      later (i, e, A) = (suc i, omega arith, record { here = A.here; after = A.after; is = A.is; kept = A.kept })

      try : (b : Bool) → is_kept K n (kind_of_record r) r rs ≡ b → OneOf j (pick b (k ∷ kept_from K (next_after n (kind_of_record r)) (suc k) rs) (kept_from K (next_after n (kind_of_record r)) (suc k) rs))
          → (OneOf j (kept_from K (next_after n (kind_of_record r)) (suc k) rs) → (i : ℕ) × (j ≡ suc k + i) × KeptAt (next_after n (kind_of_record r)) rs i) → (i : ℕ) × (j ≡ k + i) × KeptAt n (r ∷ rs) i
      try true q (inl e) ih = (0, omega arith, record { here = r; after = rs; is = refl; kept = q })
      try true q (inr p) ih = later (ih p)
      try false q p ih = later (ih p)

  pub at_kept : (n : Next) (k : ℕ) (rs : List Record) (i : ℕ) (r : Record) (after : List Record) → drop i rs ≡ r ∷ after → is_kept K (next_at n (take i rs)) (kind_of_record r) r after ≡ true → OneOf (k + i) (kept_from K n k rs)
  at_kept n k [] i r after d h = absurd (no_more i d)
    where
      no_more : (i : ℕ) → drop i [] ≡ r ∷ after → ⊥
      no_more zero e = let z : ◌≡◌ {A = ℕ} 0 (suc (length after)) = ap length e in omega arith
      no_more (suc i) e = let z : ◌≡◌ {A = ℕ} 0 (suc (length after)) = ap length e in omega arith
  at_kept n k (s ∷ rs) zero r after d h =
      let e : s ≡ r = cc in
      let f : rs ≡ after = cc in
      let q : is_kept K n (kind_of_record s) s rs ≡ true = ap₂ (λ (x : Record) (xs : List Record). is_kept K n (kind_of_record x) x xs) e f ∙ h in
      subst (λ (b : Bool). OneOf (k + 0) (pick b (k ∷ kept_from K (next_after n (kind_of_record s)) (suc k) rs) (kept_from K (next_after n (kind_of_record s)) (suc k) rs))) (sym q) (inl (omega arith))
  at_kept n k (s ∷ rs) (suc i) r after d h = try (is_kept K n (kind_of_record s) s rs) (at_kept (next_after n (kind_of_record s)) (suc k) rs i r after d h)
    where
      try : (b : Bool) → OneOf (suc k + i) (kept_from K (next_after n (kind_of_record s)) (suc k) rs) → OneOf (k + suc i) (pick b (k ∷ kept_from K (next_after n (kind_of_record s)) (suc k) rs) (kept_from K (next_after n (kind_of_record s)) (suc k) rs))
      try true o = inr (subst (λ (x : ℕ). OneOf x (kept_from K (next_after n (kind_of_record s)) (suc k) rs)) (let z : suc k + i ≡ k + suc i = omega arith in z) o)
      try false o = subst (λ (x : ℕ). OneOf x (kept_from K (next_after n (kind_of_record s)) (suc k) rs)) (let z : suc k + i ≡ k + suc i = omega arith in z) o

  -- ── The records ──
  module _ (N : Renumbering) (file : List ℕ) where
    abbrev all : List Record
    all = records (old_file file)

    abbrev closed_at : ℕ → Record
    closed_at k = closed_record N (record_at (old_file file) k)

    -- Records from record k on.
    record From (k : ℕ) (rs : List Record) : Type 0 where
      is : drop k (records (old_file file)) ≡ rs

    there : (k : ℕ) (r : Record) (rs : List Record) → From k (r ∷ rs) → (record_at (old_file file) k ≡ r) × From (suc k) rs
    there k r rs F =
        let e = F.is in
        let l : k < record_count (old_file file) = omega (arith, ap length e, length-drop k (records (old_file file)), records_length (old_file file)) in
        let d : record_at (old_file file) k ∷ drop (suc k) (records (old_file file)) ≡ r ∷ rs = sym (record_numbered (old_file file) k l) ∙ e in
        (head d, record { is = tail d })
      where
        head : {x y : Record} {xs ys : List Record} → x ∷ xs ≡ y ∷ ys → x ≡ y
        head e = cc

        tail : {x y : Record} {xs ys : List Record} → x ∷ xs ≡ y ∷ ys → xs ≡ ys
        tail e = cc

    are_records_lem : (n : Next) (k : ℕ) (rs : List Record) → From k rs → trimmed_from K N n rs ≡ map closed_at (kept_from K n k rs)
    are_records_lem n k [] F = refl
    are_records_lem n k (r ∷ rs) F =
        let t = there k r rs F in
        try (is_kept K n (kind_of_record r) r rs) t.0 (are_records_lem (next_after n (kind_of_record r)) (suc k) rs t.1)
      where
        try : (b : Bool) → record_at (old_file file) k ≡ r → trimmed_from K N (next_after n (kind_of_record r)) rs ≡ map closed_at (kept_from K (next_after n (kind_of_record r)) (suc k) rs)
            → pick b (closed_record N r ∷ trimmed_from K N (next_after n (kind_of_record r)) rs) (trimmed_from K N (next_after n (kind_of_record r)) rs)
            ≡ map closed_at (pick b (k ∷ kept_from K (next_after n (kind_of_record r)) (suc k) rs) (kept_from K (next_after n (kind_of_record r)) (suc k) rs))
        try true e ih = ap₂ (λ (x : Record) (xs : List Record). closed_record N x ∷ xs) (sym e) ih
        try false e ih = ih

    pub list_records : trimmed_from K N first_numbers (records (old_file file)) ≡ map (λ k. closed_record N (record_at (old_file file) k)) (kept_list K file)
    list_records = are_records_lem first_numbers 0 (records (old_file file)) (record { is = refl })

  pub list_rising : (file : List ℕ) → StrictlyRising (kept_list K file)
  list_rising file = kept_rising first_numbers 0 (records (old_file file))
