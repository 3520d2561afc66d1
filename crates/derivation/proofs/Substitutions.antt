-- A clause's substitution gives every variable its value there.
use mathlib.Core.Path.{◌≡◌, refl, sym, ap, ◌∙◌, subst}
use mathlib.Core.Bool.{Bool, true, false}
use mathlib.Core.Option.{Option, none, some}
use mathlib.Core.List.{List, [], ◌∷◌}
use Prim.Native.Nat.{ℕ, ◌+◌, ◌-◌, ◌≤◌, ◌<◌}
use native.Mathlib.Omega.{arith}
use lib.Dec.{leb, leb→le}
use Rattle.unification.specs.Environment.{Binding, Environment, extend, Respects}
use Rattle.unification.specs.Row.{Row, Expression, Variable, row_term, written_out}
use Rattle.unification.specs.Substitution.{composed}
use Rattle.unification.specs.Term.{Term, var, apply, Variables}
use Rattle.unification.specs.Unification.{most_work, most_links, unified, Pair, unifying, no_room}
use Rattle.unification.proofs.Ranges.{IndicesKept, IndicesKeptPairs}
use Rattle.unification.proofs.Solved.{Solved}
use Rattle.unification.proofs.SolvedRun.{SolvedEnd, solved_run}
use Rattle.unification.proofs.Terms.{apply_ext, apply_apply, variables_more, variables_apply}
use Rattle.unification.proofs.Tests.{to_t, some_not_none, some_injective}
use Rattle.derivation.specs.Derivation.{literals, input, Derivation, resolve, factor, raise, pairs_with, maximum_index, raise_answer, joined, lookup}
use Rattle.derivation.specs.Written.{substitution, renamed, joined_substitution}
use Rattle.derivation.proofs.Literals.{In, each_numbered, LiteralIn, literals_in_lem, leb_true, leb_false, leb_false_lt, joined_left, joined_right}
use Rattle.derivation.proofs.Validity.{Unified, Valid, kept_joined, resolve_in, lookup_in, respects_left, respects_right}

module _ (m : ℕ) where
  -- An index is the left parent's, or raised from the right one's.
  sides {ℓ} : (P : Variable → Type ℓ) → ((x : Variable) → x.1 ≤ m → P x) → ((v i : ℕ) → 1 ≤ i → P (v, m + i)) → (x : Variable) → P x
  sides P f g x = try (leb x.1 m) refl
    where
      try : (b : Bool) → leb x.1 m ≡ b → P x
      try true q = f x (leb→le x.1 m (to_t (leb x.1 m) q))
      try false q =
          let l : m < x.1 = leb_false_lt x.1 m q in
          let r : m + (x.1 - m) ≡ x.1 = omega arith in
          subst (λ (i : ℕ). P (x.0, i)) r (g x.0 (x.1 - m) (omega arith))

module _ (term : ℕ → Term ℕ) (m n : ℕ) (ρ ρ' : Environment) (kl : IndicesKept (In m) ρ) (kr : IndicesKept (In n) ρ') (σ τ : Variable → Term Variable) (S : Solved (In m) term ρ σ) (T : Solved (In n) term ρ' τ) where
  abbrev both : Variable → Term Variable
  both = joined_substitution m σ τ

  both_left : (x : Variable) → x.1 ≤ m → both x ≡ σ x
  both_left x h = rw (leb_true x.1 m h)

  both_right : (v i : ℕ) → 1 ≤ i → both (v, m + i) ≡ apply (renamed m) (τ (v, i))
  both_right v i h =
      let q : m + i - m ≡ i = omega arith in
      rw (leb_false (m + i) m (omega arith), q)

  pub written_left : (e : Expression) → e.1 ≤ m → written_out term (joined_substitution m σ τ) e ≡ written_out term σ e
  written_left e h = apply_ext (term e.0) (λ v. both_left (v, e.1) h)

  pub written_right : (e : Expression) → 1 ≤ e.1 → written_out term (joined_substitution m σ τ) (raise m e) ≡ apply (renamed m) (written_out term τ e)
  written_right e h = apply_ext (term e.0) (λ v. both_right v e.1 h) ∙ sym (apply_apply (renamed m) (λ v. τ (v, e.1)) (term e.0))

  respects_both : (x : Variable) (e : Expression) → joined m ρ ρ' x ≡ some e → both x ≡ written_out term both e
  respects_both = sides m (λ (x : Variable). (e : Expression) → joined m ρ ρ' x ≡ some e → both x ≡ written_out term both e) left right
    where
      left : (x : Variable) → x.1 ≤ m → (e : Expression) → joined m ρ ρ' x ≡ some e → both x ≡ written_out term both e
      left x h e p =
          let q : ρ x ≡ some e = sym (joined_left m ρ ρ' x h) ∙ p in
          both_left x h ∙ S.respects x e q ∙ sym (written_left e (kl x e q).1.1)

      right : (v i : ℕ) → 1 ≤ i → (e : Expression) → joined m ρ ρ' (v, m + i) ≡ some e → both (v, m + i) ≡ written_out term both e
      right v i h e p = try (ρ' (v, i)) refl (sym (joined_right m ρ ρ' v i h) ∙ p)
        where
          try : (o : Option Expression) → ρ' (v, i) ≡ o → raise_answer m o ≡ some e → both (v, m + i) ≡ written_out term both e
          try none q r = absurd (some_not_none refl r)
          try (some d) q r = both_right v i h ∙ ap (apply (renamed m)) (T.respects (v, i) d q) ∙ sym (written_right d (kr (v, i) d q).1.0) ∙ ap (written_out term both) (some_injective r)

  lowered_none : (o : Option Expression) → raise_answer m o ≡ none → o ≡ none
  lowered_none none r = refl
  lowered_none (some d) r = absurd (some_not_none r refl)

  free_both : (x : Variable) → joined m ρ ρ' x ≡ none → both x ≡ var x
  free_both = sides m (λ (x : Variable). joined m ρ ρ' x ≡ none → both x ≡ var x)
      (λ x h p. both_left x h ∙ S.free x (sym (joined_left m ρ ρ' x h) ∙ p))
      (λ v i h p. both_right v i h ∙ ap (apply (renamed m)) (T.free (v, i) (lowered_none (ρ' (v, i)) (sym (joined_right m ρ ρ' v i h) ∙ p))))

  factors_both : {Y : Type 0} (γ : Variable → Term Y) → Respects term γ (joined m ρ ρ') → (x : Variable) → apply γ (both x) ≡ γ x
  factors_both γ R = sides m (λ (x : Variable). apply γ (both x) ≡ γ x)
      (λ x h. ap (apply γ) (both_left x h) ∙ S.factors γ (respects_left term γ m n ρ ρ' R kl) x)
      (λ v i h. ap (apply γ) (both_right v i h) ∙ apply_apply γ (renamed m) (τ (v, i)) ∙ T.factors (λ y. γ (raise m y)) (respects_right term γ m n ρ ρ' R kr) (v, i))

  abbrev Unbound : Variable → Type 0
  Unbound y = In (m + n) y.1 × (joined m ρ ρ' y ≡ none)

  unbound_left : (y : Variable) → In m y.1 × (ρ y ≡ none) → Unbound y
  unbound_left y p = (let h = p.0 in omega arith, joined_left m ρ ρ' y p.0.1 ∙ p.1)

  unbound_right : (y : Variable) → In n y.1 × (ρ' y ≡ none) → Variables Unbound (renamed m y)
  unbound_right y p = (let h = p.0 in omega arith, joined_right m ρ ρ' y.0 y.1 p.0.0 ∙ ap (raise_answer m) p.1)

  unbound_both : (x : Variable) → In (m + n) x.1 → Variables Unbound (both x)
  unbound_both = sides m (λ (x : Variable). In (m + n) x.1 → Variables Unbound (both x))
      (λ x h o. rw (both_left x h) (variables_more (λ y. In m y.1 × (ρ y ≡ none)) Unbound unbound_left (σ x) (S.unbound_only x (o.0, h))))
      (λ v i h o. rw (both_right v i h) (variables_apply Unbound (renamed m) (τ (v, i)) (variables_more (λ y. In n y.1 × (ρ' y ≡ none)) (λ y. Variables Unbound (renamed m y)) unbound_right (τ (v, i)) (T.unbound_only (v, i) (omega arith)))))

  pub solved_joined : Solved (In (m + n)) term (joined m ρ ρ') (joined_substitution m σ τ)
  solved_joined = record { respects = respects_both; free = free_both; factors = factors_both; unbound_only = unbound_both }

pub solved_none : (good : ℕ → Type 0) (term : ℕ → Term ℕ) (ρ : Environment) → ((x : Variable) → ρ x ≡ none) → Solved good term ρ var
solved_none good term ρ h = record {
  respects = λ x e p. absurd (some_not_none (h x) p);
  free = λ x p. refl;
  factors = λ γ R x. refl;
  unbound_only = λ x o. (o, h x);
}

module _ (row : ℕ → Row) (term : ℕ → Term ℕ) (termLaw : (r : ℕ) → term r ≡ row_term term r (row r)) where
  pub unified_solved : (good : ℕ → Type 0) (base : Environment) (ps : List Pair) (bs : List Binding) → Unified row base ps bs → IndicesKept good base → IndicesKeptPairs good ps
      → (σ : Variable → Term Variable) → Solved good term base σ → Solved good term (extend base bs) (composed term σ bs)
  unified_solved good base ps bs u h κ σ S =
      let k : SolvedEnd good row most_links (no_room u.0) base term termLaw σ (unified bs u.1) = rw u.2 at (solved_run good row most_links (no_room u.0) base term termLaw σ most_work (unifying [] ps) (h, κ) S) in
      k

  pub lookup_solved : (c : Derivation) → Valid row c → Solved (In (maximum_index c)) term (lookup c) (substitution term c)
  lookup_solved (input number ls) K = solved_none (In 1) term (lookup (input number ls)) (λ x. refl)
  lookup_solved (resolve number l a r ns bs) K =
      let c = K.2 in
      let kl = lookup_in row l K.0 in
      let kr = lookup_in row r K.1 in
      unified_solved (In (maximum_index l + maximum_index r)) (joined (maximum_index l) (lookup l) (lookup r)) (pairs_with (maximum_index l) c.1 c.2) bs c.6
      (kept_joined (maximum_index l) (maximum_index r) (lookup l) (lookup r) kl kr) (resolve_in l r a ns c.0 c.1 c.2 c.3 c.4)
      (joined_substitution (maximum_index l) (substitution term l) (substitution term r))
      (solved_joined term (maximum_index l) (maximum_index r) (lookup l) (lookup r) kl kr (substitution term l) (substitution term r) (lookup_solved l K.0) (lookup_solved r K.1))
  lookup_solved (factor number t a b bs) K =
      let c = K.1 in
      unified_solved (In (maximum_index t)) (lookup t) ((c.1, c.2) ∷ []) bs c.6 (lookup_in row t K.0)
      (each_numbered (LiteralIn (maximum_index t)) (literals t) a (c.0, c.1) c.3 (literals_in_lem t), each_numbered (LiteralIn (maximum_index t)) (literals t) b (c.0, c.2) c.4 (literals_in_lem t), tt)
      (substitution term t) (lookup_solved t K.0)
