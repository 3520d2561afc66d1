-- Following an expression commutes with a renumbering of rows and symbols, and what it ends on is inside; so do environments with more bindings.
use mathlib.Core.Path.{◌≡◌, refl, ap, ◌∙◌, subst}
use mathlib.Core.Bool.{Bool, true, false}
use mathlib.Core.Option.{Option, none, some}
use mathlib.Core.List.{List, [], ◌∷◌, map}
use Prim.Native.Nat.{ℕ, zero, suc}
use Rattle.record.specs.Record.{pick}
use Rattle.unification.specs.Environment.{follow, Binding, Environment, extend, unbound, link, View, applied, view_variable, view_row, onward}
use Rattle.unification.specs.Row.{variable, Row, application, Expression, Variable, same}
use Rattle.unification.proofs.Tests.{some_injective}
use Rattle.unification.proofs.Lists.{Each}
use Rattle.renumbering.proofs.Inside.{Renumbers, InsideBinding, renumbered_answer, RenumbersEnvironment}
use Rattle.renumbering.specs.Renumbering.{Renumbering}
use Rattle.renumbering.proofs.Renumbered.{renumbered_row, renumbered_expression, renumbered_binding}
use Rattle.renumbering.proofs.EqualNumbers.{same_renumbered}

abbrev pub renumbered_view : Renumbering → View → View
renumbered_view N (unbound v e) = unbound v (renumbered_expression N e)
renumbered_view N (applied s xs e) = applied (N.symbol s) (map N.row xs) (renumbered_expression N e)
renumbered_view N (link e) = link (renumbered_expression N e)

-- The view's expression is inside, and an application's argument rows and symbol are.
abbrev pub InsideView : (ℕ → Type 0) → (ℕ → Type 0) → View → Type 0
InsideView rowInside symbolInside (unbound v e) = rowInside e.0
InsideView rowInside symbolInside (applied s xs e) = rowInside e.0 × Each rowInside xs × symbolInside s
InsideView rowInside symbolInside (link e) = rowInside e.0

-- A row's argument rows and symbol are inside.
abbrev pub InsideRow : (ℕ → Type 0) → (ℕ → Type 0) → Row → Type 0
InsideRow rowInside symbolInside (variable v) = Unit {0}
InsideRow rowInside symbolInside (application s xs) = Each rowInside xs × symbolInside s

pub row_inside : {N : Renumbering} {I P : ℕ → Type 0} {row row' : ℕ → Row} → Renumbers N I P row row' → (r : ℕ) → I r → InsideRow I P (row r)
row_inside {I = I} {P = P} {row = row} R r i = try (row r) refl
  where
    try : (w : Row) → row r ≡ w → InsideRow I P w
    try (variable v) q = tt
    try (application s xs) q = (R.arguments r s xs i q, R.symbols r s xs i q)

-- ── One row, then following ──
module _ {N : Renumbering} {I P : ℕ → Type 0} {row row' : ℕ → Row} (R : Renumbers N I P row row') {ρ ρ' : Environment} (E : RenumbersEnvironment N I ρ ρ') where
  variable_renumbered : (o : Option Expression) (v : ℕ) (e : Expression) → view_variable (renumbered_answer N o) v (renumbered_expression N e) ≡ renumbered_view N (view_variable o v e)
  variable_renumbered none v e = refl
  variable_renumbered (some d) v e = refl

  row_renumbered : (w : Row) (e : Expression) → I e.0 → view_row (renumbered_row N w) ρ' (renumbered_expression N e) ≡ renumbered_view N (view_row w ρ e)
  row_renumbered (variable v) e i = ap (λ (o : Option Expression). view_variable o v (renumbered_expression N e)) (E.answers e i) ∙ variable_renumbered (ρ e) v e
  row_renumbered (application s xs) e i = refl

  view_renumbered : (e : Expression) → I e.0 → view_row (row' (N.row e.0)) ρ' (renumbered_expression N e) ≡ renumbered_view N (view_row (row e.0) ρ e)
  view_renumbered e i = ap (λ (w : Row). view_row w ρ' (renumbered_expression N e)) (R.rows e.0 i) ∙ row_renumbered (row e.0) e i

  view_inside : (e : Expression) → I e.0 → InsideView I P (view_row (row e.0) ρ e)
  view_inside e i = try (row e.0) (row_inside R e.0 i)
    where
      bound : (v : ℕ) (o : Option Expression) → ρ e ≡ o → InsideView I P (view_variable o v e)
      bound v none q = i
      bound v (some d) q = E.stays e d i q

      try : (w : Row) → InsideRow I P w → InsideView I P (view_row w ρ e)
      try (variable v) h = bound v (ρ e) refl
      try (application s xs) h = (i, h.0, h.1)

  pub follow_inside : (n : ℕ) (e : Expression) → I e.0 → InsideView I P (follow row n ρ e)
  follow_inside zero e i = view_inside e i
  follow_inside (suc n) e i = try (λ d j. follow_inside n d j) (view_row (row e.0) ρ e) (view_inside e i)
    where
      try : ((d : Expression) → I d.0 → InsideView I P (follow row n ρ d)) → (w : View) → InsideView I P w → InsideView I P (onward (λ d. follow row n ρ d) w)
      try ih (unbound v d) h = h
      try ih (applied s xs d) h = h
      try ih (link d) h = ih d h

  pub follow_renumbered : (n : ℕ) (e : Expression) → I e.0 → follow row' n ρ' (renumbered_expression N e) ≡ renumbered_view N (follow row n ρ e)
  follow_renumbered zero e i = view_renumbered e i
  follow_renumbered (suc n) e i = ap (onward (λ d. follow row' n ρ' d)) (view_renumbered e i) ∙ try (λ d j. follow_renumbered n d j) (view_row (row e.0) ρ e) (view_inside e i)
    where
      try : ((d : Expression) → I d.0 → follow row' n ρ' (renumbered_expression N d) ≡ renumbered_view N (follow row n ρ d)) → (w : View) → InsideView I P w
          → onward (λ d. follow row' n ρ' d) (renumbered_view N w) ≡ renumbered_view N (onward (λ d. follow row n ρ d) w)
      try ih (unbound v d) h = refl
      try ih (applied s xs d) h = refl
      try ih (link d) h = ih d h

-- ── More bindings ──
module _ {N : Renumbering} {I : ℕ → Type 0} (one : (r q : ℕ) → I r → I q → N.row r ≡ N.row q → r ≡ q) {ρ ρ' : Environment} (E : RenumbersEnvironment N I ρ ρ') where
  extend_answers : (bs : List Binding) → Each (InsideBinding I) bs → (x : Variable) → I x.0 → extend ρ' (map (renumbered_binding N) bs) (renumbered_expression N x) ≡ renumbered_answer N (extend ρ bs x)
  extend_answers [] h x i = E.answers x i
  extend_answers (b ∷ bs) h x i =
      ap (λ (c : Bool). pick c (some (renumbered_expression N b.1)) (extend ρ' (map (renumbered_binding N) bs) (renumbered_expression N x))) (same_renumbered N x b.0 (one x.0 b.0.0 i h.0.0))
      ∙ try (same x b.0) (extend_answers bs h.1 x i)
    where
      try : (c : Bool) → extend ρ' (map (renumbered_binding N) bs) (renumbered_expression N x) ≡ renumbered_answer N (extend ρ bs x)
          → pick c (some (renumbered_expression N b.1)) (extend ρ' (map (renumbered_binding N) bs) (renumbered_expression N x)) ≡ renumbered_answer N (pick c (some b.1) (extend ρ bs x))
      try true ih = refl
      try false ih = ih

  extend_stays : (bs : List Binding) → Each (InsideBinding I) bs → (x : Variable) (e : Expression) → I x.0 → extend ρ bs x ≡ some e → I e.0
  extend_stays [] h x e i q = E.stays x e i q
  extend_stays (b ∷ bs) h x e i q = try (same x b.0) (λ p. extend_stays bs h.1 x e i p) q
    where
      try : (c : Bool) → (extend ρ bs x ≡ some e → I e.0) → pick c (some b.1) (extend ρ bs x) ≡ some e → I e.0
      try true ih p = subst (λ (d : Expression). I d.0) (some_injective p) h.0.1
      try false ih p = ih p

  pub extend_renumbered : (bs : List Binding) → Each (InsideBinding I) bs → RenumbersEnvironment N I (extend ρ bs) (extend ρ' (map (renumbered_binding N) bs))
  extend_renumbered bs h = record { answers = λ x i. extend_answers bs h x i; stays = λ x e i q. extend_stays bs h x e i q }
