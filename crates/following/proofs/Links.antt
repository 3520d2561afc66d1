-- What is reached over links of an environment: following from there ends on the same, and sooner.
use mathlib.Core.Path.{◌≡◌, refl, sym, ap, ◌∙◌, subst}
use mathlib.Core.Bool.{true}
use mathlib.Core.Option.{some}
use mathlib.Core.List.{List}
use Prim.Native.Nat.{ℕ, zero, suc}
use Rattle.unification.specs.Environment.{follow, Environment, unbound, link, View, applied, Ends, view_variable, view_row, onward}
use Rattle.unification.specs.Nodes.{is_variable, part, node_row_if, node_row}
use Rattle.unification.specs.Row.{Row, Expression}
use Rattle.unification.specs.ValueArray.{InStep, Onward, one_link, more_links}

pub onward_trans : {N : List ℕ} {ρ : Environment} {e d c : Expression} → Onward N ρ e d → Onward N ρ d c → Onward N ρ e c
onward_trans (one_link v p) q = more_links v p q
onward_trans (more_links v p o) q = more_links v p (onward_trans o q)

pub onward_in_step : {N : List ℕ} {top : ℕ} {ρ : Environment} {e d : Expression} → ((e d : Expression) → ρ e ≡ some d → InStep N top e → InStep N top d) → Onward N ρ e d → InStep N top e → InStep N top d
onward_in_step k (one_link v p) g = k _ _ p g
onward_in_step k (more_links v p o) g = onward_in_step k o (k _ _ p g)

-- A link is taken.
follow_link : (N : List ℕ) (ρ : Environment) (e d : Expression) → is_variable N e.0 ≡ true → ρ e ≡ some d → view_row (node_row N e.0) ρ e ≡ link d
follow_link N ρ e d v p = ap (λ b. view_row (node_row_if N e.0 b) ρ e) v ∙ ap (λ o. view_variable o (part N e.0 0) e) p

follow_more : (N : List ℕ) (ρ : Environment) (n : ℕ) (e d : Expression) → is_variable N e.0 ≡ true → ρ e ≡ some d → follow (node_row N) (suc n) ρ e ≡ follow (node_row N) n ρ d
follow_more N ρ n e d v p = ap (λ (w : View). onward (λ c. follow (node_row N) n ρ c) w) (follow_link N ρ e d v p)

stable : (row : ℕ → Row) (ρ : Environment) (n : ℕ) (e : Expression) → Ends (follow row n ρ e) → follow row (suc n) ρ e ≡ follow row n ρ e
stable row ρ zero e h = try (view_row (row e.0) ρ e) h
  where
    try : (w : View) → Ends w → onward (λ d. follow row zero ρ d) w ≡ w
    try (unbound v d) k = refl
    try (applied s xs d) k = refl
    try (link d) k = absurd k
stable row ρ (suc n) e h = try (λ d k. stable row ρ n d k) (view_row (row e.0) ρ e) h
  where
    try : ((d : Expression) → Ends (follow row n ρ d) → follow row (suc n) ρ d ≡ follow row n ρ d) → (w : View) → Ends (onward (λ d. follow row n ρ d) w) → onward (λ d. follow row (suc n) ρ d) w ≡ onward (λ d. follow row n ρ d) w
    try ih (unbound v d) k = refl
    try ih (applied s xs d) k = refl
    try ih (link d) k = ih d k

one_link_lem : (N : List ℕ) (ρ : Environment) (n : ℕ) (e d : Expression) → Ends (follow (node_row N) n ρ e) → is_variable N e.0 ≡ true → ρ e ≡ some d → follow (node_row N) n ρ e ≡ follow (node_row N) n ρ d
one_link_lem N ρ n e d h v p = sym (stable (node_row N) ρ n e h) ∙ follow_more N ρ n e d v p

pub onward_follow : (N : List ℕ) (ρ : Environment) (n : ℕ) {e d : Expression} → Onward N ρ e d → Ends (follow (node_row N) n ρ e) → follow (node_row N) n ρ e ≡ follow (node_row N) n ρ d
onward_follow N ρ n {e} {d} (one_link v p) h = one_link_lem N ρ n e d h v p
onward_follow N ρ n {e} {d} (more_links {d = c} v p o) h =
    let q = one_link_lem N ρ n e c h v p in
    q ∙ onward_follow N ρ n o (rw q at h)

-- A chain ends in fewer than n links.
abbrev pub EndsIn : List ℕ → Environment → ℕ → Expression → Type 0
EndsIn N ρ zero e = ⊥
EndsIn N ρ (suc n) e = Ends (follow (node_row N) n ρ e)

ends_link : (N : List ℕ) (ρ : Environment) (n : ℕ) (e d : Expression) → is_variable N e.0 ≡ true → ρ e ≡ some d → EndsIn N ρ (suc n) e → EndsIn N ρ n d
ends_link N ρ zero e d v p h = rw (follow_link N ρ e d v p) at h
ends_link N ρ (suc n) e d v p h = rw (follow_more N ρ n e d v p) at h

ends_more : (N : List ℕ) (ρ : Environment) (n : ℕ) (e : Expression) → EndsIn N ρ n e → EndsIn N ρ (suc n) e
ends_more N ρ zero e h = absurd h
ends_more N ρ (suc n) e h = subst Ends (sym (stable (node_row N) ρ n e h)) h

pub ends_onward : (N : List ℕ) (ρ : Environment) (n : ℕ) {e d : Expression} → Onward N ρ e d → EndsIn N ρ (suc n) e → EndsIn N ρ n d
ends_onward N ρ n {e} {d} (one_link v p) h = ends_link N ρ n e d v p h
ends_onward N ρ zero {e} {d} (more_links {d = c} v p o) h = absurd (ends_link N ρ zero e c v p h)
ends_onward N ρ (suc n) {e} {d} (more_links {d = c} v p o) h = ends_more N ρ n d (ends_onward N ρ n o (ends_link N ρ (suc n) e c v p h))
