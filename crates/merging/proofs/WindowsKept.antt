-- The windows of two files, put together: each clause has those of its own file.
use mathlib.Core.Path.{◌≡◌, refl, sym, ap, ◌∙◌, subst}
use mathlib.Core.Bool.{Bool, true, false, ◌&&◌}
use mathlib.Core.Option.{Option, none, some}
use mathlib.Core.List.{List, [], ◌∷◌, ◌++◌, map}
use Prim.Native.Nat.{ℕ, suc, ◌+◌, ◌≤◌, ◌<◌}
use native.Mathlib.Omega.{arith}
use lib.Dec.{eqb, leb}
use lib.ListN.{length, length-map}
use Rattle.record.specs.Record.{pick, File, Record, Kind, windowKind, field_a}
use Rattle.unification.proofs.Lists.{Each, each_more}
use Rattle.demands.specs.Conditions.{IsWindow}
use Rattle.demands.specs.Demands.{Adds, adds_symbol, adds_variable, adds_application, adds_input, adds_resolvent, adds_factor, adds_window}
use Rattle.unification.proofs.Tests.{true_not_false}
use Rattle.derivation.specs.Derivation.{Derivation}
use Rattle.verdict.specs.Force.{window_of, within}
use Rattle.verdict.specs.Refusal.{kind_of_record, is_input}
use Rattle.verdict.specs.State.{State, Window, windows_with, derivations, next_clause, clause_of}
use Rattle.verdict.specs.Step.{stands, step}
use Rattle.verdict.specs.Verdict.{Stands}
use Rattle.demands.proofs.Added.{step_adds}
use Rattle.demands.proofs.Inversions.{entry_below, step_stands, tests_passed, Passed}
use Rattle.demands.proofs.RangeTests.{not_true, equal, window_kind}
use Rattle.merging.specs.Promised.{window_days, days_in}
use Rattle.merging.proofs.Beside.{eqb_raised, raised_window}
use Rattle.merging.proofs.ReadKeeps.{stands_keeps}

-- ── Windows are for clauses that are there ──
abbrev WindowsThere : State → Type 0
WindowsThere S = Each (λ (w : Window). w.clause < length S.clauses) S.windows

there_more : (n m : ℕ) (ws : List Window) → n ≤ m → Each (λ (w : Window). w.clause < n) ws → Each (λ (w : Window). w.clause < m) ws
there_more n m ws l h = each_more (λ (w : Window). w.clause < n) (λ (w : Window). w.clause < m) (λ w k. omega arith) ws h

module _ (S : State) (k : ℕ) (r : Record) (T : State) (H : WindowsThere S) (seven : length r.fields ≡ 7) (q : step S k r ≡ stands T) where
  -- The clause of a window that stands is there.
  clause_there : IsWindow r → field_a r < length S.clauses
  clause_there e = found (clause_of S (field_a r)) refl passed.there
    where
      passed : Passed S windowKind r
      passed = subst (λ (x : Kind). Passed S x r) (window_kind r e) (tests_passed S (kind_of_record r) r (step_stands S k r T q).0)

      found : (o : Option Derivation) → clause_of S (field_a r) ≡ o → is_input o ≡ true → field_a r < length S.clauses
      found none p z = absurd (true_not_false z refl)
      found (some d) p z = let l = entry_below (derivations S) (field_a r) d p in let m = length-map S.clauses (λ (c : ℕ × Derivation). c.1) in omega arith

  same : (U : State) → T ≡ U → U.windows ≡ S.windows → length S.clauses ≤ length U.clauses → WindowsThere T
  same U e w l = subst WindowsThere (sym e) (subst (λ (ws : List Window). Each (λ (x : Window). x.clause < length U.clauses) ws) (sym w) (there_more (length S.clauses) (length U.clauses) S.windows l H))

  -- The days beside an input clause are for that clause.
  dated : (days : Option (ℕ × ℕ)) → Each (λ (w : Window). w.clause < suc (length S.clauses)) (windows_with (next_clause S) days S.windows)
  dated none = there_more (length S.clauses) (suc (length S.clauses)) S.windows (omega arith) H
  dated (some d) = (let m = length-map S.clauses (λ (c : ℕ × Derivation). c.1) in omega arith, there_more (length S.clauses) (suc (length S.clauses)) S.windows (omega arith) H)

  by : Adds S k r T → WindowsThere T
  by (adds_symbol e p) = same _ p refl (omega arith)
  by (adds_variable e j p) = same _ p refl (omega arith)
  by (adds_application e l h j p) = same _ p refl (omega arith)
  by (adds_input e l h p) = subst WindowsThere (sym p) (dated r.days)
  by (adds_resolvent R G p) = same _ p refl (omega arith)
  by (adds_factor F G p) = same _ p refl (omega arith)
  by (adds_window e p) = subst WindowsThere (sym p) (clause_there e, H)

  step_there : WindowsThere T
  step_there = by (step_adds S k r T seven q)

pub stands_there : (file : File) (S : State) → Stands file S → Each (λ (w : Window). w.clause < length S.clauses) S.windows
stands_there file S st = stands_keeps WindowsThere (λ U k r T h q H. step_there U k r T H h q) file S st tt

-- ── The window of a clause in two lists put together ──
joined_none : (xs ys : List Window) (n : ℕ) → window_of xs n ≡ none → window_of (xs ++ ys) n ≡ window_of ys n
joined_none [] ys n e = refl
joined_none (x ∷ xs) ys n e = try (eqb x.clause n) refl e (joined_none xs ys n)
  where
    try : (b : Bool) → eqb x.clause n ≡ b → pick b (some x) (window_of xs n) ≡ none → (window_of xs n ≡ none → window_of (xs ++ ys) n ≡ window_of ys n) → pick b (some x) (window_of (xs ++ ys) n) ≡ window_of ys n
    try true p z ih = absurd (some_is_none z)
      where
        some_is_none : {w : Window} → ◌≡◌ {A = Option Window} (some w) none → ⊥
        some_is_none z = let y : ◌≡◌ {A = ℕ} 0 1 = cc in omega arith
    try false p z ih = ih z

-- No window of the list is for clause n.
none_for : (ws : List Window) (n : ℕ) → Each (λ (w : Window). ¬ (w.clause ≡ n)) ws → window_of ws n ≡ none
none_for [] n h = refl
none_for (w ∷ ws) n h = ap (λ (b : Bool). pick b (some w) (window_of ws n)) (not_true (eqb w.clause n) (λ t. h.0 (equal w.clause n t))) ∙ none_for ws n h.1

raised_past : (c n : ℕ) → n < c → (ws : List Window) → Each (λ (w : Window). ¬ (w.clause ≡ n)) (map (raised_window c) ws)
raised_past c n l [] = tt
raised_past c n l (w ∷ ws) = ((λ e. omega arith), raised_past c n l ws)

before_end : (c n : ℕ) (ws : List Window) → Each (λ (w : Window). w.clause < c) ws → Each (λ (w : Window). ¬ (w.clause ≡ c + n)) ws
before_end c n ws h = each_more (λ (w : Window). w.clause < c) (λ (w : Window). ¬ (w.clause ≡ c + n)) (λ w k e. omega arith) ws h

raised_days : (c n : ℕ) (ws us : List Window) → window_of us (c + n) ≡ none → window_days (window_of (map (raised_window c) ws ++ us) (c + n)) ≡ window_days (window_of ws n)
raised_days c n [] us h = ap window_days h
raised_days c n (w ∷ ws) us h = try (eqb (w.clause + c) (c + n)) (eqb w.clause n) same (raised_days c n ws us h)
  where
    same : eqb (w.clause + c) (c + n) ≡ eqb w.clause n
    same = let e : c + n ≡ n + c = omega arith in ap (eqb (w.clause + c)) e ∙ eqb_raised w.clause n c

    try : (a b : Bool) → a ≡ b → window_days (window_of (map (raised_window c) ws ++ us) (c + n)) ≡ window_days (window_of ws n)
        → window_days (pick a (some (raised_window c w)) (window_of (map (raised_window c) ws ++ us) (c + n))) ≡ window_days (pick b (some w) (window_of ws n))
    try true true e ih = refl
    try false false e ih = ih
    try true false e ih = absurd (true_not_false refl e)
    try false true e ih = absurd (true_not_false refl (sym e))

module _ (S T M : State) (W : M.windows ≡ map (raised_window (length S.clauses)) T.windows ++ S.windows) (there : Each (λ (w : Window). w.clause < length S.clauses) S.windows) where
  pub days_first : (n : ℕ) → n < length S.clauses → days_in M n ≡ days_in S n
  days_first n l =
      ap (λ (ws : List Window). window_days (window_of ws n)) W
      ∙ ap window_days (joined_none (map (raised_window (length S.clauses)) T.windows) S.windows n (none_for (map (raised_window (length S.clauses)) T.windows) n (raised_past (length S.clauses) n l T.windows)))

  pub days_second : (n : ℕ) → days_in M (length S.clauses + n) ≡ days_in T n
  days_second n =
      ap (λ (ws : List Window). window_days (window_of ws (length S.clauses + n))) W
      ∙ raised_days (length S.clauses) n T.windows S.windows (none_for S.windows (length S.clauses + n) (before_end (length S.clauses) n S.windows there))

-- A clause is in force by its days alone.
pub within_days : (day : ℕ) (o p : Option Window) → window_days o ≡ window_days p → within day o ≡ within day p
within_days day o p e = days o ∙ ap by e ∙ sym (days p)
  where
    by : Option (ℕ × ℕ) → Bool
    by none = true
    by (some x) = leb x.0 day && leb day x.1

    days : (o : Option Window) → within day o ≡ by (window_days o)
    days none = refl
    days (some w) = refl
