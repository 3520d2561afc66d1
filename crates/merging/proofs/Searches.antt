-- The searches for a step and for a symbol that differs find the first, and nothing only if there is none; symbol lists that begin one another.
use mathlib.Core.Path.{◌≡◌, refl, sym, ap, ap₂, ◌∙◌, subst}
use mathlib.Core.Logic.{◌⊎◌, inl, inr}
use mathlib.Core.Bool.{Bool, true, false, ◌&&◌}
use mathlib.Core.Option.{Option, none, some}
use mathlib.Core.List.{List, [], ◌∷◌, ◌++◌}
use Prim.Native.Nat.{ℕ, zero, suc, ◌+◌, ◌<◌}
use native.Mathlib.Nat.{add-zero, add-suc, suc-add}
use native.Mathlib.Omega.{arith}
use lib.Dec.{eqb, leb, ltb, eqb_refl, ltb→lt}
use lib.ListN.{length, get_or, take, drop}
use Rattle.record.specs.Record.{pick, old_file, Record, records}
use Rattle.record.specs.Sorts.{is_symbol, is_step, how_many}
use Rattle.unification.proofs.Tests.{to_t, from_t, both_true, true_not_false, some_not_none, some_injective}
use Rattle.demands.specs.Conditions.{OneOf}
use Rattle.demands.proofs.RangeTests.{equal, unequal, at_most, not_under}
use Rattle.merging.specs.Answer.{first_where, symbol_list, first_other}
use Rattle.merging.specs.Promised.{FirstStep, OtherSymbol, FirstOtherSymbol, Begins}

nothing_there_lem : {r : Record} {after : List Record} (j : ℕ) → drop {A = Record} j [] ≡ r ∷ after → ⊥
nothing_there_lem zero e = let z : ◌≡◌ {A = ℕ} 0 1 = cc in omega arith
nothing_there_lem (suc j) e = let z : ◌≡◌ {A = ℕ} 0 1 = cc in omega arith

same_head_lem : {p q : Record} {ps qs : List Record} → p ∷ ps ≡ q ∷ qs → p ≡ q
same_head_lem e = cc

-- Two numbers, neither before the other, are one.
neither_before : (k j : ℕ) → ¬ (k < j) → ¬ (j < k) → k ≡ j
neither_before k j a b = try (ltb k j) refl (ltb j k) refl
  where
    try : (x : Bool) → ltb k j ≡ x → (y : Bool) → ltb j k ≡ y → k ≡ j
    try true p y q = absurd (a (ltb→lt k j (to_t (ltb k j) p)))
    try false p true q = absurd (b (ltb→lt j k (to_t (ltb j k) q)))
    try false p false q = let l = not_under k j p in let m = not_under j k q in omega arith

-- ── The first record of a sort ──
module _ (sort : Record → Bool) where
  record FoundAt (rs : List Record) (p : ℕ) : Type 0 where
    found : Record
    rest : List Record
    here : drop p rs ≡ found ∷ rest
    is_sort : sort found ≡ true
    none_before : (j : ℕ) (r : Record) (after : List Record) → j < p → drop j rs ≡ r ∷ after → sort r ≡ false

  where_found : (k n : ℕ) (rs : List Record) → first_where sort k rs ≡ some n → (p : ℕ) × (n ≡ k + p) × FoundAt rs p
  where_found k n [] q = absurd (some_not_none refl q)
  where_found k n (r ∷ rs) q = try (sort r) refl q (where_found (suc k) n rs)
    where
      later : sort r ≡ false → (p : ℕ) × (n ≡ suc k + p) × FoundAt rs p → (p : ℕ) × (n ≡ k + p) × FoundAt (r ∷ rs) p
      later e (p, z, F) = (suc p, z ∙ suc-add k p ∙ sym (add-suc k p), record { found = F.found; rest = F.rest; here = F.here; is_sort = F.is_sort; none_before = before })
        where
          before : (j : ℕ) (x : Record) (after : List Record) → j < suc p → drop j (r ∷ rs) ≡ x ∷ after → sort x ≡ false
          before zero x after l w = ap sort (sym (same_head_lem w)) ∙ e
          before (suc j) x after l w = F.none_before j x after (omega arith) w

      try : (b : Bool) → sort r ≡ b → ◌≡◌ {A = Option ℕ} (elim b [ true ↦ some k | false ↦ first_where sort (suc k) rs ]) (some n)
          → (first_where sort (suc k) rs ≡ some n → (p : ℕ) × (n ≡ suc k + p) × FoundAt rs p) → (p : ℕ) × (n ≡ k + p) × FoundAt (r ∷ rs) p
      try true e z ih = (0, sym (some_injective z) ∙ sym (add-zero k), record { found = r; rest = rs; here = refl; is_sort = e; none_before = λ j x after l w. absurd (omega arith) })
      try false e z ih = later e (ih z)

  where_none : (k : ℕ) (rs : List Record) → first_where sort k rs ≡ none → (j : ℕ) (r : Record) (after : List Record) → drop j rs ≡ r ∷ after → sort r ≡ false
  where_none k [] q j r after w = absurd (nothing_there_lem j w)
  where_none k (x ∷ rs) q j r after w = try (sort x) refl q (where_none (suc k) rs) j w
    where
      try : (b : Bool) → sort x ≡ b → ◌≡◌ {A = Option ℕ} (elim b [ true ↦ some k | false ↦ first_where sort (suc k) rs ]) none
          → (first_where sort (suc k) rs ≡ none → (j : ℕ) (r : Record) (after : List Record) → drop j rs ≡ r ∷ after → sort r ≡ false) → (j : ℕ) → drop j (x ∷ rs) ≡ r ∷ after → sort r ≡ false
      try true e z ih j w = absurd (some_not_none z refl)
      try false e z ih zero w = ap sort (sym (same_head_lem w)) ∙ e
      try false e z ih (suc j) w = ih z j r after w

-- ── Steps ──
step_kind : (r : Record) → is_step r ≡ true → OneOf r.kind (5 ∷ 6 ∷ 7 ∷ [])
step_kind r q = try (eqb r.kind 5) refl (eqb r.kind 6) refl
  where
    try : (a : Bool) → eqb r.kind 5 ≡ a → (b : Bool) → eqb r.kind 6 ≡ b → OneOf r.kind (5 ∷ 6 ∷ 7 ∷ [])
    try true e b f = inl (equal r.kind 5 e)
    try false e true f = inr (inl (equal r.kind 6 f))
    try false e false f =
        let t = both_true (leb 5 r.kind) (leb r.kind 7) q in
        let l = at_most 5 r.kind t.0 in
        let m = at_most r.kind 7 t.1 in
        let x = unequal r.kind 5 e in
        let y = unequal r.kind 6 f in
        inr (inr (inl (omega arith)))

kind_step : (r : Record) → OneOf r.kind (5 ∷ 6 ∷ 7 ∷ []) → is_step r ≡ true
kind_step r (inl e) = ap (λ (n : ℕ). leb 5 n && leb n 7) e
kind_step r (inr (inl e)) = ap (λ (n : ℕ). leb 5 n && leb n 7) e
kind_step r (inr (inr (inl e))) = ap (λ (n : ℕ). leb 5 n && leb n 7) e
kind_step r (inr (inr (inr e))) = absurd e

module _ (file : List ℕ) where
  pub step_found : (k : ℕ) → first_where is_step 0 (records (old_file file)) ≡ some k → FirstStep file k
  step_found k q = from (where_found is_step 0 k (records (old_file file)) q)
    where
      from : (p : ℕ) × (k ≡ 0 + p) × FoundAt is_step (records (old_file file)) p → FirstStep file k
      from (p, e, F) = subst (FirstStep file) (let z : p ≡ k = omega arith in z) (record {
        step_record = F.found;
        here = record { after = F.rest; here = F.here };
        is_kind = step_kind F.found F.is_sort;
        none_before = λ j r l R o. true_not_false (kind_step r o) (F.none_before j r R.after l R.here);
      })

  pub no_step : first_where is_step 0 (records (old_file file)) ≡ none → (k : ℕ) → ¬ FirstStep file k
  no_step q k F = true_not_false (kind_step F.step_record F.is_kind) (where_none is_step 0 (records (old_file file)) q k F.step_record F.here.after F.here.here)

  one_step : (k j : ℕ) → FirstStep file k → FirstStep file j → k ≡ j
  one_step k j F G = neither_before k j (λ l. G.none_before k F.step_record l F.here F.is_kind) (λ l. F.none_before j G.step_record l G.here G.is_kind)

  pub step_searched : (k : ℕ) → FirstStep file k → first_where is_step 0 (records (old_file file)) ≡ some k
  step_searched k F = try (first_where is_step 0 (records (old_file file))) refl
    where
      try : (o : Option ℕ) → first_where is_step 0 (records (old_file file)) ≡ o → o ≡ some k
      try none q = absurd (no_step q k F)
      try (some j) q = ap some (one_step j k (step_found j q) F)

-- ── Symbols that differ ──

-- A record of the list is a symbol whose number the arities have, with another arity.
record Differs (A : List ℕ) (rs : List Record) (p : ℕ) : Type 0 where
  symbol : Record
  rest : List Record
  here : drop p rs ≡ symbol ∷ rest
  is_kind : symbol.kind ≡ 1
  in_first : how_many is_symbol (take p rs) < length A
  differs : ¬ (get_or A (how_many is_symbol (take p rs)) 0 ≡ symbol.count)

module _ (a : ℕ) (A : List ℕ) (r : Record) (rs : List Record) where
  -- Past a record that is no symbol, and past one that is.
  kept_number : is_symbol r ≡ false → (p : ℕ) → how_many is_symbol (take (suc p) (r ∷ rs)) ≡ how_many is_symbol (take p rs)
  kept_number z p = ap (λ (b : Bool). pick b 1 0 + how_many is_symbol (take p rs)) z ∙ omega arith

  next_number : is_symbol r ≡ true → (p : ℕ) → how_many is_symbol (take (suc p) (r ∷ rs)) ≡ suc (how_many is_symbol (take p rs))
  next_number z p = ap (λ (b : Bool). pick b 1 0 + how_many is_symbol (take p rs)) z ∙ omega arith

  over_other : is_symbol r ≡ false → (p : ℕ) → Differs (a ∷ A) rs p → Differs (a ∷ A) (r ∷ rs) (suc p)
  over_other z p D = record {
    symbol = D.symbol;
    rest = D.rest;
    here = D.here;
    is_kind = D.is_kind;
    in_first = subst (λ (n : ℕ). n < suc (length A)) (sym (kept_number z p)) D.in_first;
    differs = λ e. D.differs (ap (λ (n : ℕ). get_or (a ∷ A) n 0) (sym (kept_number z p)) ∙ e);
  }

  back_other : is_symbol r ≡ false → (p : ℕ) → Differs (a ∷ A) (r ∷ rs) p → (j : ℕ) × (p ≡ suc j) × Differs (a ∷ A) rs j
  back_other z zero D = absurd (true_not_false (ap (λ (x : Record). eqb x.kind 1) (same_head_lem D.here) ∙ ap (λ (n : ℕ). eqb n 1) D.is_kind) z)
  back_other z (suc j) D = (
    j,
    refl,
    record {
      symbol = D.symbol;
      rest = D.rest;
      here = D.here;
      is_kind = D.is_kind;
      in_first = subst (λ (n : ℕ). n < suc (length A)) (kept_number z j) D.in_first;
      differs = λ e. D.differs (ap (λ (n : ℕ). get_or (a ∷ A) n 0) (kept_number z j) ∙ e);
    },
  )

  over_symbol : is_symbol r ≡ true → (p : ℕ) → Differs A rs p → Differs (a ∷ A) (r ∷ rs) (suc p)
  over_symbol z p D = record {
    symbol = D.symbol;
    rest = D.rest;
    here = D.here;
    is_kind = D.is_kind;
    in_first = let n = next_number z p in let l = D.in_first in omega arith;
    differs = λ e. D.differs (ap (λ (n : ℕ). get_or (a ∷ A) n 0) (sym (next_number z p)) ∙ e);
  }

  back_symbol : is_symbol r ≡ true → a ≡ r.count → (p : ℕ) → Differs (a ∷ A) (r ∷ rs) p → (j : ℕ) × (p ≡ suc j) × Differs A rs j
  back_symbol z e zero D = absurd (D.differs (e ∙ ap (λ (x : Record). x.count) (same_head_lem D.here)))
  back_symbol z e (suc j) D = (
    j,
    refl,
    record {
      symbol = D.symbol;
      rest = D.rest;
      here = D.here;
      is_kind = D.is_kind;
      in_first = let n = next_number z j in let l = D.in_first in omega arith;
      differs = λ w. D.differs (ap (λ (n : ℕ). get_or (a ∷ A) n 0) (next_number z j) ∙ w);
    },
  )

other_none : (A : List ℕ) (k : ℕ) (rs : List Record) → first_other A k rs ≡ none → (p : ℕ) → ¬ Differs A rs p
other_none [] k rs q p D = let l = D.in_first in omega arith
other_none (a ∷ A) k [] q p D = nothing_there_lem p D.here
other_none (a ∷ A) k (r ∷ rs) q p D = try (is_symbol r) refl (eqb a r.count) refl q (other_none (a ∷ A) (suc k) rs) (other_none A (suc k) rs)
  where
    past : (j : ℕ) × (p ≡ suc j) × Differs (a ∷ A) rs j → ((j : ℕ) → ¬ Differs (a ∷ A) rs j) → ⊥
    past (j, e, E) h = h j E

    past_symbol : (j : ℕ) × (p ≡ suc j) × Differs A rs j → ((j : ℕ) → ¬ Differs A rs j) → ⊥
    past_symbol (j, e, E) h = h j E

    try : (b : Bool) → is_symbol r ≡ b → (c : Bool) → eqb a r.count ≡ c
        → ◌≡◌ {A = Option ℕ} (elim b [ true ↦ elim c [ true ↦ first_other A (suc k) rs | false ↦ some k ] | false ↦ first_other (a ∷ A) (suc k) rs ]) none
        → (first_other (a ∷ A) (suc k) rs ≡ none → (j : ℕ) → ¬ Differs (a ∷ A) rs j) → (first_other A (suc k) rs ≡ none → (j : ℕ) → ¬ Differs A rs j) → ⊥
    try false z c e w ih jh = past (back_other a A r rs z p D) (ih w)
    try true z true e w ih jh = past_symbol (back_symbol a A r rs z (equal a r.count e) p D) (jh w)
    try true z false e w ih jh = some_not_none w refl

record FirstDiffers (A : List ℕ) (rs : List Record) (p : ℕ) : Type 0 where
  here : Differs A rs p
  none_before : (j : ℕ) → j < p → ¬ Differs A rs j

other_found : (A : List ℕ) (k n : ℕ) (rs : List Record) → first_other A k rs ≡ some n → (p : ℕ) × (n ≡ k + p) × FirstDiffers A rs p
other_found [] k n rs q = absurd (some_not_none refl q)
other_found (a ∷ A) k n [] q = absurd (some_not_none refl q)
other_found (a ∷ A) k n (r ∷ rs) q = try (is_symbol r) refl (eqb a r.count) refl q (other_found (a ∷ A) (suc k) n rs) (other_found A (suc k) n rs)
  where
    later : is_symbol r ≡ false → (p : ℕ) × (n ≡ suc k + p) × FirstDiffers (a ∷ A) rs p → (p : ℕ) × (n ≡ k + p) × FirstDiffers (a ∷ A) (r ∷ rs) p
    later z (p, e, F) = (suc p, e ∙ suc-add k p ∙ sym (add-suc k p), record { here = over_other a A r rs z p F.here; none_before = λ j l D. before j l (back_other a A r rs z j D) })
      where
        before : (j : ℕ) → j < suc p → (i : ℕ) × (j ≡ suc i) × Differs (a ∷ A) rs i → ⊥
        before j l (i, w, E) = F.none_before i (omega arith) E

    later_symbol : is_symbol r ≡ true → a ≡ r.count → (p : ℕ) × (n ≡ suc k + p) × FirstDiffers A rs p → (p : ℕ) × (n ≡ k + p) × FirstDiffers (a ∷ A) (r ∷ rs) p
    later_symbol z y (p, e, F) = (suc p, e ∙ suc-add k p ∙ sym (add-suc k p), record { here = over_symbol a A r rs z p F.here; none_before = λ j l D. before j l (back_symbol a A r rs z y j D) })
      where
        before : (j : ℕ) → j < suc p → (i : ℕ) × (j ≡ suc i) × Differs A rs i → ⊥
        before j l (i, w, E) = F.none_before i (omega arith) E

    at_once : is_symbol r ≡ true → eqb a r.count ≡ false → FirstDiffers (a ∷ A) (r ∷ rs) 0
    at_once z e = record {
      here = record { symbol = r; rest = rs; here = refl; is_kind = equal r.kind 1 z; in_first = omega arith; differs = unequal a r.count e };
      none_before = λ j l D. omega arith;
    }

    try : (b : Bool) → is_symbol r ≡ b → (c : Bool) → eqb a r.count ≡ c
        → ◌≡◌ {A = Option ℕ} (elim b [ true ↦ elim c [ true ↦ first_other A (suc k) rs | false ↦ some k ] | false ↦ first_other (a ∷ A) (suc k) rs ]) (some n)
        → (first_other (a ∷ A) (suc k) rs ≡ some n → (p : ℕ) × (n ≡ suc k + p) × FirstDiffers (a ∷ A) rs p)
        → (first_other A (suc k) rs ≡ some n → (p : ℕ) × (n ≡ suc k + p) × FirstDiffers A rs p) → (p : ℕ) × (n ≡ k + p) × FirstDiffers (a ∷ A) (r ∷ rs) p
    try false z c e w ih jh = later z (ih w)
    try true z true e w ih jh = later_symbol z (equal a r.count e) (jh w)
    try true z false e w ih jh = (0, sym (some_injective w) ∙ sym (add-zero k), at_once z e)

-- ── Lists that begin one another ──

-- Two lists agree as far as both go.
abbrev pub Alike : List ℕ → List ℕ → Type 0
Alike [] ys = Unit {0}
Alike (x ∷ xs) [] = Unit {0}
Alike (x ∷ xs) (y ∷ ys) = (x ≡ y) × Alike xs ys

pub alike_begin : (xs ys : List ℕ) → Alike xs ys → Begins xs ys ⊎ Begins ys xs
alike_begin [] ys h = inl (ys, refl)
alike_begin (x ∷ xs) [] h = inr (x ∷ xs, refl)
alike_begin (x ∷ xs) (y ∷ ys) h = more (alike_begin xs ys h.1)
  where
    more : Begins xs ys ⊎ Begins ys xs → Begins (x ∷ xs) (y ∷ ys) ⊎ Begins (y ∷ ys) (x ∷ xs)
    more (inl (zs, e)) = inl (zs, ap₂ (λ (a : ℕ) (l : List ℕ). a ∷ l) (sym h.0) e)
    more (inr (zs, e)) = inr (zs, ap₂ (λ (a : ℕ) (l : List ℕ). a ∷ l) h.0 e)

begin_alike : (xs zs : List ℕ) → Alike xs (xs ++ zs)
begin_alike [] zs = tt
begin_alike (x ∷ xs) zs = (refl, begin_alike xs zs)

alike_sym : (xs ys : List ℕ) → Alike xs ys → Alike ys xs
alike_sym [] [] h = tt
alike_sym [] (y ∷ ys) h = tt
alike_sym (x ∷ xs) [] h = tt
alike_sym (x ∷ xs) (y ∷ ys) h = (sym h.0, alike_sym xs ys h.1)

begins_alike : (xs ys : List ℕ) → Begins xs ys ⊎ Begins ys xs → Alike xs ys
begins_alike xs ys (inl (zs, e)) = subst (Alike xs) (sym e) (begin_alike xs zs)
begins_alike xs ys (inr (zs, e)) = alike_sym ys xs (subst (Alike ys) (sym e) (begin_alike ys zs))

-- Symbol lists agree exactly if no symbol differs.
pub none_alike : (A : List ℕ) (k : ℕ) (rs : List Record) → first_other A k rs ≡ none → Alike A (symbol_list rs)
none_alike [] k rs q = tt
none_alike (a ∷ A) k [] q = tt
none_alike (a ∷ A) k (r ∷ rs) q = try (is_symbol r) (eqb a r.count) refl q (none_alike (a ∷ A) (suc k) rs) (none_alike A (suc k) rs)
  where
    try : (b c : Bool) → eqb a r.count ≡ c
        → ◌≡◌ {A = Option ℕ} (elim b [ true ↦ elim c [ true ↦ first_other A (suc k) rs | false ↦ some k ] | false ↦ first_other (a ∷ A) (suc k) rs ]) none
        → (first_other (a ∷ A) (suc k) rs ≡ none → Alike (a ∷ A) (symbol_list rs)) → (first_other A (suc k) rs ≡ none → Alike A (symbol_list rs))
        → Alike (a ∷ A) (elim b [ true ↦ r.count ∷ symbol_list rs | false ↦ symbol_list rs ])
    try false c e w ih jh = ih w
    try true true e w ih jh = (equal a r.count e, jh w)
    try true false e w ih jh = absurd (some_not_none w refl)

alike_none : (A : List ℕ) (k : ℕ) (rs : List Record) → Alike A (symbol_list rs) → first_other A k rs ≡ none
alike_none [] k rs h = refl
alike_none (a ∷ A) k [] h = refl
alike_none (a ∷ A) k (r ∷ rs) h = try (is_symbol r) h (alike_none (a ∷ A) (suc k) rs) (alike_none A (suc k) rs)
  where
    equals : a ≡ r.count → eqb a r.count ≡ true
    equals e = subst (λ (n : ℕ). eqb a n ≡ true) e (from_t (eqb a a) (eqb_refl a))

    try : (b : Bool) → Alike (a ∷ A) (elim b [ true ↦ r.count ∷ symbol_list rs | false ↦ symbol_list rs ]) → (Alike (a ∷ A) (symbol_list rs) → first_other (a ∷ A) (suc k) rs ≡ none) → (Alike A (symbol_list rs) → first_other A (suc k) rs ≡ none)
        → ◌≡◌ {A = Option ℕ} (elim b [ true ↦ elim (eqb a r.count) [ true ↦ first_other A (suc k) rs | false ↦ some k ] | false ↦ first_other (a ∷ A) (suc k) rs ]) none
    try true h ih jh = ap (λ (c : Bool). elim c [ true ↦ first_other A (suc k) rs | false ↦ some k ]) (equals h.0) ∙ jh h.1
    try false h ih jh = ih h

module _ (first second : List ℕ) where
  of_differs : (p : ℕ) → Differs (symbol_list (records (old_file first))) (records (old_file second)) p → OtherSymbol first second p
  of_differs p D = record { symbol = D.symbol; here = record { after = D.rest; here = D.here }; is_kind = D.is_kind; in_first = D.in_first; differs = D.differs }

  to_differs : (p : ℕ) → OtherSymbol first second p → Differs (symbol_list (records (old_file first))) (records (old_file second)) p
  to_differs p O = record { symbol = O.symbol; rest = O.here.after; here = O.here.here; is_kind = O.is_kind; in_first = O.in_first; differs = O.differs }

  pub other_there_lem : (k : ℕ) → first_other (symbol_list (records (old_file first))) 0 (records (old_file second)) ≡ some k → FirstOtherSymbol first second k
  other_there_lem k q = from (other_found (symbol_list (records (old_file first))) 0 k (records (old_file second)) q)
    where
      from : (p : ℕ) × (k ≡ 0 + p) × FirstDiffers (symbol_list (records (old_file first))) (records (old_file second)) p → FirstOtherSymbol first second k
      from (p, e, F) = subst (FirstOtherSymbol first second) (let z : p ≡ k = omega arith in z) (record { differing = of_differs p F.here; none_before = λ j l O. F.none_before j l (to_differs j O) })

  pub no_other : first_other (symbol_list (records (old_file first))) 0 (records (old_file second)) ≡ none → (k : ℕ) → ¬ OtherSymbol first second k
  no_other q k O = other_none (symbol_list (records (old_file first))) 0 (records (old_file second)) q k (to_differs k O)

  one_other : (k j : ℕ) → FirstOtherSymbol first second k → FirstOtherSymbol first second j → k ≡ j
  one_other k j F G = neither_before k j (λ l. G.none_before k l F.differing) (λ l. F.none_before j l G.differing)

  pub other_searched : (k : ℕ) → FirstOtherSymbol first second k → first_other (symbol_list (records (old_file first))) 0 (records (old_file second)) ≡ some k
  other_searched k F = try (first_other (symbol_list (records (old_file first))) 0 (records (old_file second))) refl
    where
      try : (o : Option ℕ) → first_other (symbol_list (records (old_file first))) 0 (records (old_file second)) ≡ o → o ≡ some k
      try none q = absurd (no_other q k F.differing)
      try (some j) q = ap some (one_other j k (other_there_lem j q) F)

  pub neither_begins_lem : (k : ℕ) → OtherSymbol first second k → (Begins (symbol_list (records (old_file first))) (symbol_list (records (old_file second))) ⊎ Begins (symbol_list (records (old_file second))) (symbol_list (records (old_file first)))) → ⊥
  neither_begins_lem k O h = no_other (alike_none (symbol_list (records (old_file first))) 0 (records (old_file second)) (begins_alike (symbol_list (records (old_file first))) (symbol_list (records (old_file second))) h)) k O

  pub some_other : ¬ Begins (symbol_list (records (old_file first))) (symbol_list (records (old_file second))) → ¬ Begins (symbol_list (records (old_file second))) (symbol_list (records (old_file first))) → (k : ℕ) × OtherSymbol first second k
  some_other a b = try (first_other (symbol_list (records (old_file first))) 0 (records (old_file second))) refl
    where
      either : Begins (symbol_list (records (old_file first))) (symbol_list (records (old_file second))) ⊎ Begins (symbol_list (records (old_file second))) (symbol_list (records (old_file first))) → (k : ℕ) × OtherSymbol first second k
      either (inl h) = absurd (a h)
      either (inr h) = absurd (b h)

      try : (o : Option ℕ) → first_other (symbol_list (records (old_file first))) 0 (records (old_file second)) ≡ o → (k : ℕ) × OtherSymbol first second k
      try none q = either (alike_begin (symbol_list (records (old_file first))) (symbol_list (records (old_file second))) (none_alike (symbol_list (records (old_file first))) 0 (records (old_file second)) q))
      try (some k) q = (k, (other_there_lem k q).differing)
