-- Which clauses are in force, by the windows of a state and by the records of the file: they agree.
use mathlib.Core.Path.{◌≡◌, refl, sym, ap, ap₂, ◌∙◌, subst}
use mathlib.Core.Logic.{inl, inr}
use mathlib.Core.Bool.{Bool, true, false, ◌&&◌}
use mathlib.Core.Option.{Option, none, some}
use mathlib.Core.List.{List, [], ◌∷◌}
use Prim.Native.Nat.{ℕ, zero, suc, ◌+◌, ◌≤◌, ◌<◌}
use native.Mathlib.Nat.{zero-add}
use native.Mathlib.Omega.{arith}
use lib.Dec.{eqb, leb, ltb, eqb_refl, ltb→lt}
use lib.ListN.{take, drop}
use borrow.Author.Tests.{le-leb}
use Rattle.record.specs.Record.{pick, File, Record, records}
use Rattle.unification.proofs.Tests.{to_t, from_t, both_true, some_injective, some_not_none}
use Rattle.derivation.specs.Derivation.{Derivation, Use, uses}
use Rattle.demands.specs.Conditions.{OneOf}
use Rattle.demands.specs.Demands.{clauses_of, clauses_in, DatesAt, DaysOf, InForce, always, on_day, UsesInForce}
use Rattle.verdict.specs.Force.{window_of, within, in_force, all_in_force, uses_in_force}
use Rattle.verdict.specs.State.{State, Window}
use Rattle.verdict.specs.Verdict.{Stands}
use Rattle.demands.proofs.Dating.{window_on, window_given, with_given, dates_given, given_dates, windows_after, stands_windows}
use Rattle.demands.proofs.RangeTests.{not_true, equal, unequal, at_most, not_under}

-- ── The record that has the days of a clause ──

-- The window that record j of some records gives, where n clauses stand before them.
abbrev given_at : ℕ → List Record → ℕ → Record → Option Window
given_at n rs j q = window_given (n + clauses_in (take j rs)) q

abbrev NoneFor : ℕ → List Record → ℕ → Type 0
NoneFor n rs c = (j : ℕ) (q : Record) (after : List Record) (w : Window) → drop j rs ≡ q ∷ after → given_at n rs j q ≡ some w → ¬ (w.clause ≡ c)

abbrev LaterNone : ℕ → List Record → ℕ → ℕ → Type 0
LaterNone n rs k c = (j : ℕ) (q : Record) (after : List Record) (w : Window) → k < j → drop j rs ≡ q ∷ after → given_at n rs j q ≡ some w → ¬ (w.clause ≡ c)

data Found (n : ℕ) (rs : List Record) (ws : List Window) (c : ℕ) : Type 0 where
  at : (k : ℕ) (r : Record) (after : List Record) (w : Window) → drop k rs ≡ r ∷ after → given_at n rs k r ≡ some w → w.clause ≡ c → LaterNone n rs k c
      → window_of (windows_after n ws rs) c ≡ some w → Found n rs ws c
  absent : NoneFor n rs c → window_of (windows_after n ws rs) c ≡ window_of ws c → Found n rs ws c

nothing_there_lem : {r : Record} {after : List Record} (j : ℕ) → drop {A = Record} j [] ≡ r ∷ after → ⊥
nothing_there_lem zero e = let z : ◌≡◌ {A = ℕ} 0 1 = cc in omega arith
nothing_there_lem (suc j) e = let z : ◌≡◌ {A = ℕ} 0 1 = cc in omega arith

same_head_lem : {p q : Record} {ps qs : List Record} → p ∷ ps ≡ q ∷ qs → p ≡ q
same_head_lem e = cc

window_new : (ws : List Window) (w : Window) (c : ℕ) → w.clause ≡ c → window_of (w ∷ ws) c ≡ some w
window_new ws w c f =
    ap (λ (b : Bool). pick b (some w) (window_of ws c)) (subst (λ (m : ℕ). eqb w.clause m ≡ true) f (from_t (eqb w.clause w.clause) (eqb_refl w.clause)))

window_other : (ws : List Window) (w : Window) (c : ℕ) → ¬ (w.clause ≡ c) → window_of (w ∷ ws) c ≡ window_of ws c
window_other ws w c f = ap (λ (b : Bool). pick b (some w) (window_of ws c)) (not_true (eqb w.clause c) (λ t. f (equal w.clause c t)))

find : (n : ℕ) (rs : List Record) (ws : List Window) (c : ℕ) → Found n rs ws c
find n [] ws c = absent (λ j q after w e z. absurd (nothing_there_lem j e)) refl
find n (r ∷ rs) ws c = try (find (n + clauses_of r) rs (with_given ws (window_given n r)) c)
  where
    -- The clauses before a record, counted from the first record and from the one after it.
    first_given : (q : Record) → given_at n (r ∷ rs) 0 q ≡ window_given n q
    first_given q = let z : n + 0 ≡ n = omega arith in ap (λ (m : ℕ). window_given m q) z

    next_given : (j : ℕ) (q : Record) → given_at n (r ∷ rs) (suc j) q ≡ given_at (n + clauses_of r) rs j q
    next_given j q = let z : n + (clauses_of r + clauses_in (take j rs)) ≡ n + clauses_of r + clauses_in (take j rs) = omega arith in ap (λ (m : ℕ). window_given m q) z

    -- No later record is for c.
    none_more : ((w : Window) → window_given n r ≡ some w → ¬ (w.clause ≡ c)) → NoneFor (n + clauses_of r) rs c → NoneFor n (r ∷ rs) c
    none_more h missing zero q after w e z = let s = same_head_lem e in h w (ap (window_given n) s ∙ sym (first_given q) ∙ z)
    none_more h missing (suc j) q after w e z = missing j q after w e (sym (next_given j q) ∙ z)

    later : NoneFor (n + clauses_of r) rs c → LaterNone n (r ∷ rs) 0 c
    later missing zero q after w l e z = absurd (omega arith)
    later missing (suc j) q after w l e z = missing j q after w e (sym (next_given j q) ∙ z)

    later_more : (k : ℕ) → LaterNone (n + clauses_of r) rs k c → LaterNone n (r ∷ rs) (suc k) c
    later_more k missing zero q after w l e z = absurd (omega arith)
    later_more k missing (suc j) q after w l e z = missing j q after w (omega arith) e (sym (next_given j q) ∙ z)

    here : NoneFor (n + clauses_of r) rs c → window_of (windows_after n ws (r ∷ rs)) c ≡ window_of (with_given ws (window_given n r)) c → (o : Option Window) → window_given n r ≡ o → Found n (r ∷ rs) ws c
    here missing e none p = absent (none_more (λ w z. absurd (some_not_none p z)) missing) (e ∙ ap (λ (x : Option Window). window_of (with_given ws x) c) p)
    here missing e (some w) p = by (eqb w.clause c) refl
      where
        by : (b : Bool) → eqb w.clause c ≡ b → Found n (r ∷ rs) ws c
        by true q =
            let f = equal w.clause c q in
            at 0 r rs w refl (first_given r ∙ p) f (later missing) (e ∙ ap (λ (x : Option Window). window_of (with_given ws x) c) p ∙ window_new ws w c f)
        by false q =
            let f = unequal w.clause c q in
            absent (none_more (λ v z g. f (ap (λ (x : Window). x.clause) (some_injective (sym p ∙ z)) ∙ g)) missing)
            (e ∙ ap (λ (x : Option Window). window_of (with_given ws x) c) p ∙ window_other ws w c f)

    try : Found (n + clauses_of r) rs (with_given ws (window_given n r)) c → Found n (r ∷ rs) ws c
    try (at k q after w e z f missing g) = at (suc k) q after w e (next_given k q ∙ z) f (later_more k missing) g
    try (absent missing e) = here missing e (window_given n r) refl

-- ── In force, by the windows and by the records ──
module _ (file : File) (S : State) (st : Stands file S) (day : ℕ) where
  window_by : (n : ℕ) (o : Option Window) → window_of (windows_after 0 [] (records file)) n ≡ o → in_force S.windows day n ≡ within day o
  window_by n o e = ap (λ (ws : List Window). within day (window_of ws n)) (stands_windows file S st) ∙ ap (within day) e

  from_start : (k : ℕ) (q : Record) → given_at 0 (records file) k q ≡ window_given (clauses_in (take k (records file))) q
  from_start k q = ap (λ (m : ℕ). window_given m q) (zero-add (clauses_in (take k (records file))))

  -- A record of the file that dates a clause, and the window that it gives.
  dated_at : (k : ℕ) (r : Record) (after : List Record) (w : Window) → drop k (records file) ≡ r ∷ after → given_at 0 (records file) k r ≡ some w → DatesAt file k r w.clause w.first w.last
  dated_at k r after w e z = (record { after = after; here = e }, given_dates (clauses_in (take k (records file))) r w (sym (from_start k r) ∙ z))

  given_at_lem : {k n first last : ℕ} {r : Record} → DatesAt file k r n first last → given_at 0 (records file) k r ≡ some (window_on n first last)
  given_at_lem {k} {r = r} D = from_start k r ∙ dates_given D.1

  -- The days that were found are those of the clause.
  days_found : (k : ℕ) (r : Record) (after : List Record) (w : Window) (n : ℕ) → drop k (records file) ≡ r ∷ after → given_at 0 (records file) k r ≡ some w → w.clause ≡ n
      → LaterNone 0 (records file) k n → DaysOf file n k w.first w.last
  days_found k r after w n e z f missing = record {
    dating = r;
    dates = rw f at (dated_at k r after w e z);
    none_later = λ j q a b l D. missing j q D.0.after (window_on n a b) l D.0.here (given_at_lem D) refl;
  }

  pub in_force_lem : (n : ℕ) → in_force S.windows day n ≡ true → InForce file day n
  in_force_lem n q = try (find 0 (records file) [] n)
    where
      try : Found 0 (records file) [] n → InForce file day n
      try (at k r after w e z f missing g) =
          let b = both_true (leb w.first day) (leb day w.last) (sym (window_by n (some w) g) ∙ q) in
          on_day (days_found k r after w n e z f missing) (at_most w.first day b.0) (at_most day w.last b.1)
      try (absent missing g) = always (λ k r a b D. missing k r D.0.after (window_on n a b) D.0.here (given_at_lem D) refl)

  -- Two records that both have the days of a clause give it the same days.
  same_days : {n k j : ℕ} {f l a b : ℕ} → DaysOf file n k f l → DaysOf file n j a b → window_on n f l ≡ window_on n a b
  same_days {n} {k} {j} {f} {l} {a} {b} D E = try (ltb k j) refl (ltb j k) refl
    where
      try : (x : Bool) → ltb k j ≡ x → (y : Bool) → ltb j k ≡ y → window_on n f l ≡ window_on n a b
      try true p y s = absurd (D.none_later j E.dating a b (ltb→lt k j (to_t (ltb k j) p)) E.dates)
      try false p true s = absurd (E.none_later k D.dating f l (ltb→lt j k (to_t (ltb j k) s)) D.dates)
      try false p false s =
          let c = not_under k j p in
          let d = not_under j k s in
          let e : k ≡ j = omega arith in
          let r = same_head_lem (sym D.dates.0.here ∙ ap (λ (i : ℕ). drop i (records file)) e ∙ E.dates.0.here) in
          some_injective (sym (given_at_lem D.dates) ∙ ap₂ (given_at 0 (records file)) e r ∙ given_at_lem E.dates)

  pub of_in_force : (n : ℕ) → InForce file day n → in_force S.windows day n ≡ true
  of_in_force n F = try (find 0 (records file) [] n) F
    where
      within_days : (w : Window) → w.first ≤ day → day ≤ w.last → within day (some w) ≡ true
      within_days w b c = ap₂ ◌&&◌ (le-leb w.first day b) (le-leb day w.last c)

      try : Found 0 (records file) [] n → InForce file day n → in_force S.windows day n ≡ true
      try (absent missing g) (always h) = window_by n none g
      try (absent missing g) (on_day {k} {first} {last} D b c) = absurd (missing k D.dating D.dates.0.after (window_on n first last) D.dates.0.here (given_at_lem D.dates) refl)
      try (at k r after w e z f missing g) (always h) = let D = days_found k r after w n e z f missing in absurd (h k D.dating w.first w.last D.dates)
      try (at k r after w e z f missing g) (on_day {k = j} {first = x} {last = y} D b c) =
          let s = same_days (days_found k r after w n e z f missing) D in
          let u : w.first ≤ day = let p = ap (λ (v : Window). v.first) s in omega arith in
          let v : day ≤ w.last = let p = ap (λ (v : Window). v.last) s in omega arith in
          window_by n (some w) g ∙ within_days w u v

  all_in_force_lem : (us : List Use) → all_in_force S.windows day us ≡ true → (u : Use) → OneOf u us → InForce file day u.0
  all_in_force_lem [] q u o = absurd o
  all_in_force_lem (v ∷ us) q u (inl e) = in_force_lem u.0 (ap (λ (x : Use). in_force S.windows day x.0) e ∙ (both_true (in_force S.windows day v.0) (all_in_force S.windows day us) q).0)
  all_in_force_lem (v ∷ us) q u (inr o) = all_in_force_lem us (both_true (in_force S.windows day v.0) (all_in_force S.windows day us) q).1 u o

  of_all_in_force : (us : List Use) → ((u : Use) → OneOf u us → InForce file day u.0) → all_in_force S.windows day us ≡ true
  of_all_in_force [] h = refl
  of_all_in_force (u ∷ us) h = ap₂ ◌&&◌ (of_in_force u.0 (h u (inl refl))) (of_all_in_force us (λ v o. h v (inr o)))

  pub uses_in_force_lem : (c : Derivation) → uses_in_force S day c ≡ true → UsesInForce file day c
  uses_in_force_lem c q = all_in_force_lem (uses c) q

  pub of_uses_in_force : (c : Derivation) → UsesInForce file day c → uses_in_force S day c ≡ true
  of_uses_in_force c h = of_all_in_force (uses c) h
