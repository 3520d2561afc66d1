-- T4: following ends in time.
use mathlib.Core.Path.{◌≡◌, refl, sym, ap, ◌∙◌, subst}
use mathlib.Core.Logic.{inl, inr}
use mathlib.Core.Bool.{Bool, true, false}
use mathlib.Core.Option.{Option, none, some}
use mathlib.Core.List.{List}
use Prim.Native.Nat.{ℕ, zero, suc, ◌+◌, ◌-◌, ◌≤◌, ◌<◌}
use native.Mathlib.Nat.{add-suc, suc-add, zero-add}
use native.Mathlib.Omega.{arith}
use lib.ListN.{length}
use Rattle.record.specs.Record.{pick}
use Rattle.unification.specs.Environment.{follow, Binding, Environment, extend, unbound, link, View, applied, Ends, view_variable, view_row, onward}
use Rattle.unification.specs.Row.{variable, Row, application, Expression, Variable, same}
use Rattle.unification.specs.Unification.{endless, clash, occurs, overwork, full, Outcome, unified, failed, Pair, Task, unifying, testing, Turn, arguments, run}
use Rattle.unification.proofs.Generality.{IsVar}
use Rattle.unification.proofs.Meaning.{expression_of, Ended, follow_unb, follow_appl, with}
use Rattle.unification.proofs.Ranges.{KeptArguments, KeptTask, KeptEnd, kept_turn}
use Rattle.unification.proofs.Tests.{same_eq, some_not_none}
use Rattle.unification.proofs.Turns.{Seen, Goes, m_full, m_bind, m_more, Move, m_finished, m_same, m_left, m_right, m_args, m_clash, m_endless, m_occurs, m_other, m_into, m_endless_test, seen_ends, After, runs, after_both}

module _ (row_ok : ℕ → Type 0) (row : ℕ → Row) where
  -- following ends within n, from each expression whose row is row_ok
  abbrev pub Short : ℕ → Environment → Type 0
  Short n ρ = (e : Expression) → row_ok e.0 → Ends (follow row n ρ e)

  -- single more unit
  short_more : (n : ℕ) (ρ : Environment) (e : Expression) → Ends (follow row n ρ e) → Ends (follow row (suc n) ρ e)
  short_more zero ρ e h = try (view_row (row e.0) ρ e) h
    where
      try : (w : View) → Ends w → Ends (onward (λ d. follow row zero ρ d) w)
      try (unbound v d) k = tt
      try (applied s xs d) k = tt
      try (link d) k = absurd k
  short_more (suc n) ρ e h = try (λ d k. short_more n ρ d k) (view_row (row e.0) ρ e) h
    where
      try : ((d : Expression) → Ends (follow row n ρ d) → Ends (follow row (suc n) ρ d)) → (w : View) → Ends (onward (λ d. follow row n ρ d) w) → Ends (onward (λ d. follow row (suc n) ρ d) w)
      try ih (unbound v d) k = tt
      try ih (applied s xs d) k = tt
      try ih (link d) k = ih d k

  short_add : (k n : ℕ) (ρ : Environment) → Short n ρ → Short (k + n) ρ
  short_add zero n ρ h = rw zero-add h
  short_add (suc k) n ρ h = rw suc-add (λ e o. short_more (k + n) ρ e (short_add k n ρ h e o))

  pub short_le : (n m : ℕ) (ρ : Environment) → n ≤ m → Short n ρ → Short m ρ
  short_le n m ρ l h =
      let q : (m - n) + n ≡ m = omega arith in
      subst (λ (k : ℕ). Short k ρ) q (short_add (m - n) n ρ h)

  -- what x is to be extend to: followed, and not x
  abbrev pub Firm : Environment → Variable → Expression → Type 0
  Firm ρ x e = (w : View) × (expression_of w ≡ e) × Ended row ρ w × Ends w × ¬ IsVar x w

  module _ (ρ : Environment) (x : Variable) (e : Expression) (f : ρ x ≡ none) where
    firm_follow : (w : View) → Ended row ρ w → Ends w → ¬ IsVar x w → (n : ℕ) → Ends (follow row n (with ρ x e) (expression_of w))
    firm_follow (unbound v d) h k q n = rw (follow_unb row n (with ρ x e) v d h.0 (try (same d x) refl)) tt
      where
        try : (b : Bool) → same d x ≡ b → pick b (some e) (ρ d) ≡ none
        try true p = absurd (q (same_eq d x p))
        try false p = h.1
    firm_follow (applied s xs d) h k q n = rw (follow_appl row n (with ρ x e) s xs d h) tt
    firm_follow (link d) h k q n = absurd k

    abbrev shift_view : View → View
    shift_view (unbound v d) = pick (same d x) (link e) (unbound v d)
    shift_view (applied s xs d) = applied s xs d
    shift_view (link d) = link d

    peek_with : (d : Expression) (w : Row) → view_row w (with ρ x e) d ≡ shift_view (view_row w ρ d)
    peek_with d (application s xs) = refl
    peek_with d (variable v) = try (same d x) refl (ρ d) refl
      where
        try : (b : Bool) → same d x ≡ b → (o : Option Expression) → ρ d ≡ o → view_variable (pick b (some e) o) v d ≡ shift_view (view_variable o v d)
        try true p none q = rw p
        try false p none q = rw p
        try true p (some c) q = absurd (some_not_none (ap ρ (same_eq d x p) ∙ f) q)
        try false p (some c) q = refl

    module _ (F : Firm ρ x e) where
      firm_e : (n : ℕ) → Ends (follow row n (with ρ x e) e)
      firm_e n = subst (λ (d : Expression). Ends (follow row n (with ρ x e) d)) F.1 (firm_follow F.0 F.2 F.3 F.4 n)

      short_ext : (n : ℕ) (d : Expression) → Ends (follow row n ρ d) → Ends (follow row (suc n) (with ρ x e) d)
      short_ext zero d h = subst (λ (w : View). Ends (onward (λ c. follow row zero (with ρ x e) c) w)) (sym (peek_with d (row d.0))) (try (view_row (row d.0) ρ d) h)
        where
          last : (v : ℕ) (c : Expression) (b : Bool) → Ends (onward (λ d. follow row zero (with ρ x e) d) (pick b (link e) (unbound v c)))
          last v c true = firm_e zero
          last v c false = tt

          try : (w : View) → Ends w → Ends (onward (λ d. follow row zero (with ρ x e) d) (shift_view w))
          try (unbound v c) k = last v c (same c x)
          try (applied s xs c) k = tt
          try (link c) k = absurd k
      short_ext (suc n) d h = subst (λ (w : View). Ends (onward (λ c. follow row (suc n) (with ρ x e) c) w)) (sym (peek_with d (row d.0))) (try (λ c k. short_ext n c k) (view_row (row d.0) ρ d) h)
        where
          last : (v : ℕ) (c : Expression) (b : Bool) → Ends (onward (λ d. follow row (suc n) (with ρ x e) d) (pick b (link e) (unbound v c)))
          last v c true = firm_e (suc n)
          last v c false = tt

          try : ((c : Expression) → Ends (follow row n ρ c) → Ends (follow row (suc n) (with ρ x e) c)) → (w : View) → Ends (onward (λ d. follow row n ρ d) w) → Ends (onward (λ d. follow row (suc n) (with ρ x e) d) (shift_view w))
          try ih (unbound v c) k = last v c (same c x)
          try ih (applied s xs c) k = tt
          try ih (link c) k = ih c k

  pub short_with : (n : ℕ) (ρ : Environment) (x : Variable) (e : Expression) → ρ x ≡ none → Firm ρ x e → Short n ρ → Short (suc n) (with ρ x e)
  short_with n ρ x e f F h d o = short_ext ρ x e f F n d (h d o)

module _ (row_ok : ℕ → Type 0) (variableOk : Variable → Type 0) (row : ℕ → Row) (varok : (e : Expression) (v : ℕ) → row e.0 ≡ variable v → row_ok e.0 → variableOk e) (argok : (e : Expression) (s : ℕ) (xs : List ℕ) → row e.0 ≡ application s xs → row_ok e.0 → KeptArguments variableOk (λ e. row_ok e.0) xs e.1)
    (links : ℕ) (isFull : List Binding → Bool) (base : Environment) (k : ℕ) (room : (bs : List Binding) → isFull bs ≡ false → k + length bs < links) where
  abbrev Fits : List Binding → Type 0
  Fits bs = Short row_ok row (k + length bs) (extend base bs) × (k + length bs ≤ links)

  abbrev pub ChainTask : Task → Type 0
  ChainTask (unifying bs ps) = Fits bs
  ChainTask (testing bs x e o os ps) = Fits bs × (extend base bs x ≡ none) × Firm row_ok row (extend base bs) x e

  abbrev pub ChainEnd : Outcome → Type 0
  ChainEnd (unified bs n) = Fits bs
  ChainEnd (failed clash) = Unit {0}
  ChainEnd (failed occurs) = Unit {0}
  ChainEnd (failed overwork) = Unit {0}
  ChainEnd (failed full) = Unit {0}
  ChainEnd (failed endless) = ⊥

  never_on : (bs : List Binding) (o d : Expression) → row_ok o.0 → Fits bs → Seen row links isFull base bs o (link d) → ⊥
  never_on bs o d l h q = rw q at (short_le row_ok row (k + length bs) links (extend base bs) h.1 h.0 o l)

  chain_goes : (bs : List Binding) (x : Variable) (e : Expression) (ps : List Pair) (os : List Expression) (t : Turn) → Goes row links isFull base bs x e ps os t → Fits bs → extend base bs x ≡ none → Firm row_ok row (extend base bs) x e → After row links isFull base ChainTask ChainEnd t
  chain_goes bs x e ps os t (m_full q) h f F = tt
  chain_goes bs x e ps os t (m_bind q) h f F = rw add-suc (short_with row_ok row (k + length bs) (extend base bs) x e f F h.0, room bs q)
  chain_goes bs x e ps os t m_more h f F = (h, f, F)

  firm_left : (bs : List Binding) (v : ℕ) (e : Expression) (w : View) → Ended row (extend base bs) (unbound v e) → Ended row (extend base bs) w → Ends w → ¬ (e ≡ expression_of w) → Firm row_ok row (extend base bs) e (expression_of w)
  firm_left bs v e (unbound w d) h g n q = (unbound w d, refl, g, n, λ z. q (sym z))
  firm_left bs v e (applied s xs d) h g n q = (applied s xs d, refl, g, n, λ z. z)
  firm_left bs v e (link d) h g n q = absurd n

  abbrev pub Low : Task → Type 0
  Low s = KeptTask variableOk (λ e. row_ok e.0) row varok argok links isFull base s

  abbrev LowRes : Outcome → Type 0
  LowRes r = KeptEnd variableOk (λ e. row_ok e.0) row varok argok links isFull base r

  chain_turn : (s : Task) (t : Turn) → Move row links isFull base s t → Low s → ChainTask s → After row links isFull base ChainTask ChainEnd t
  chain_turn s t m_finished κ h = λ n. h
  chain_turn s t (m_same v w f g q) κ h = h
  chain_turn s t (m_left {bs} {p} v e w f g n q) κ h =
      let a = seen_ends row links isFull base bs p.0 (unbound v e) f in
      (h, a.1, firm_left bs v e w a (seen_ends row links isFull base bs p.1 w g) n q)
  chain_turn s t (m_right {bs} {p} u xs e w d f g) κ h =
      (h, (seen_ends row links isFull base bs p.1 (unbound w d) g).1, (applied u xs e, refl, seen_ends row links isFull base bs p.0 (applied u xs e) f, tt, λ z. z))
  chain_turn s t (m_args u xs e ys d f g) κ h = h
  chain_turn s t (m_clash u xs e w ys d f g q) κ h = tt
  chain_turn s t (m_endless {bs} {p} o d f (inl z)) κ h = never_on bs o d (rw z κ.1.0) h f
  chain_turn s t (m_endless {bs} {p} o d f (inr z)) κ h = never_on bs o d (rw z κ.1.1) h f
  chain_turn s t (m_occurs v d f q) κ h = tt
  chain_turn s t (m_other {bs} {x} {e} {o} {os} {ps} v d f n m) κ h = chain_goes bs x e ps os t m h.0 h.1 h.2
  chain_turn s t (m_into {bs} {x} {e} {o} {os} {ps} u xs d f m) κ h = chain_goes bs x e ps (arguments xs d.1 os) t m h.0 h.1 h.2
  chain_turn s t (m_endless_test {bs} {x} {e} {o} d f) κ h = never_on bs o d κ.3.0 h.0 f

  pub chain_run : (n : ℕ) (s : Task) → Low s → ChainTask s → ChainEnd (run row links isFull base n s)
  chain_run n s κ h = runs row links isFull base (λ s. Low s × ChainTask s) ChainEnd
      (λ s t m a. after_both row links isFull base Low LowRes ChainTask ChainEnd t (kept_turn variableOk (λ e. row_ok e.0) row varok argok links isFull base s t m a.0) (chain_turn s t m a.0 a.1)) tt n s (κ, h)
