-- Derivations over rows of which P holds, such as those that are there: they stay valid, and what is looked up stays over such rows, while rows are added.
use mathlib.Core.Path.{◌≡◌, refl, sym, ◌∙◌, subst}
use mathlib.Core.Bool.{Bool, true, false, not}
use mathlib.Core.Option.{Option, none, some}
use mathlib.Core.List.{List, [], ◌∷◌, map}
use Prim.Native.Nat.{ℕ, ◌-◌, ◌<◌}
use lib.Dec.{leb}
use Rattle.record.specs.Record.{pick}
use Rattle.unification.specs.Environment.{Binding, Environment, extend}
use Rattle.unification.specs.Row.{variable, Row, application, Expression}
use Rattle.unification.specs.Unification.{most_work, most_links, unified, Pair, unifying, no_room}
use Rattle.unification.proofs.Lists.{Each, each_append, each_map, each_more}
use Rattle.unification.proofs.Ranges.{Kept, KeptPairs, KeptArguments, KeptEnd, kept_run}
use Rattle.unification.proofs.Stability.{run_agree}
use Rattle.unification.proofs.Tests.{some_not_none, some_injective}
use Rattle.derivation.specs.Derivation.{literals, input, Literal, RowLiteral, Derivation, resolve, factor, numbered, without, numbered_all, without_all, pairs_with, raise_literal, maximum_index, raise_answer, joined, lookup, uses, Use}
use Rattle.derivation.proofs.Literals.{each_numbered, each_without, each_numbered_all, each_without_all}
use Rattle.derivation.proofs.Validity.{Unified, Valid, signed, each_signed, pairs_kept}

-- The rows below n.
abbrev pub Under : ℕ → ℕ → Type 0
Under n r = r < n

-- P holds of the rows of the input clauses.
abbrev pub KnownRows : (ℕ → Type 0) → Derivation → Type 0
KnownRows P (input number ls) = Each (λ (l : RowLiteral). P l.1) ls
KnownRows P (resolve number l a r ns bs) = KnownRows P l × KnownRows P r
KnownRows P (factor number c a b bs) = KnownRows P c

abbrev pub Known : (ℕ → Type 0) → Expression → Type 0
Known P e = P e.0

abbrev pub KnownLiteral : (ℕ → Type 0) → Literal → Type 0
KnownLiteral P l = Known P l.1

-- All bindings of an environment are between expressions over such rows.
abbrev pub KnownEnvironment : (ℕ → Type 0) → Environment → Type 0
KnownEnvironment P ρ = Kept (Known P) (Known P) ρ

module _ (P : ℕ → Type 0) where
  pub known_literals : (c : Derivation) → KnownRows P c → Each (KnownLiteral P) (literals c)
  known_literals (input number ls) h = each_map (λ (l : RowLiteral). P l.1) (KnownLiteral P) (λ l. (l.0, (l.1, 1))) (λ l k. k) ls h
  known_literals (resolve number l a r ns bs) h =
      each_append (KnownLiteral P) (without (literals l) a) (map (raise_literal (maximum_index l)) (without_all (literals r) ns))
      (each_without (KnownLiteral P) (literals l) a (known_literals l h.0))
      (each_map (KnownLiteral P) (KnownLiteral P) (raise_literal (maximum_index l)) (λ l k. k) (without_all (literals r) ns) (each_without_all (KnownLiteral P) (literals r) ns (known_literals r h.1)))
  known_literals (factor number c a b bs) h = each_without (KnownLiteral P) (literals c) b (known_literals c h)

  pub known_numbered : (c : Derivation) → KnownRows P c → (n : ℕ) (l : Literal) → numbered (literals c) n ≡ some l → Known P l.1
  known_numbered c h n l q = each_numbered (KnownLiteral P) (literals c) n l q (known_literals c h)

  -- The pairs of a resolve are over such rows.
  pub known_pairs : (l r : Derivation) (a : ℕ) (ns : List ℕ) (s : Bool) (e : Expression) (ds : List Expression) → KnownRows P l → KnownRows P r → numbered (literals l) a ≡ some (s, e) → numbered_all (literals r) ns ≡ some (signed (not s) ds)
      → KeptPairs (Known P) (Known P) (pairs_with (maximum_index l) e ds)
  known_pairs l r a ns s e ds h k p q =
      pairs_kept (Known P) (Known P) (maximum_index l) e ds (known_numbered l h a (s, e) p)
      (each_signed (KnownLiteral P) (not s) ds (each_numbered_all (KnownLiteral P) (literals r) ns (signed (not s) ds) q (known_literals r k)))

  pub known_joined : (m : ℕ) (ρ ρ' : Environment) → KnownEnvironment P ρ → KnownEnvironment P ρ' → KnownEnvironment P (joined m ρ ρ')
  known_joined m ρ ρ' h k x e p = try (leb x.1 m) p
    where
      up_to : (o : Option Expression) → ρ' (x.0, x.1 - m) ≡ o → raise_answer m o ≡ some e → Known P x × Known P e
      up_to none q r = absurd (some_not_none refl r)
      up_to (some d) q r = ((k (x.0, x.1 - m) d q).0, subst (λ (y : Expression). P y.0) (some_injective r) (k (x.0, x.1 - m) d q).1)

      try : (b : Bool) → pick b (ρ x) (raise_answer m (ρ' (x.0, x.1 - m))) ≡ some e → Known P x × Known P e
      try true r = h x e r
      try false r = up_to (ρ' (x.0, x.1 - m)) refl r

  -- Two tables that agree on such rows, whose arguments are such rows too.
  module _ (row row' : ℕ → Row) (agree : (r : ℕ) → P r → row r ≡ row' r) (below : (r s : ℕ) (xs : List ℕ) → row r ≡ application s xs → P r → Each P xs) where
    all_known : (xs : List ℕ) (i : ℕ) → Each P xs → KeptArguments (Known P) (Known P) xs i
    all_known [] i h = tt
    all_known (a ∷ xs) i h = (h.0, all_known xs i h.1)

    pub known_variable : (e : Expression) (v : ℕ) → row e.0 ≡ variable v → Known P e → Known P e
    known_variable e v q h = h

    pub known_arguments : (e : Expression) (s : ℕ) (xs : List ℕ) → row e.0 ≡ application s xs → Known P e → KeptArguments (Known P) (Known P) xs e.1
    known_arguments e s xs q h = all_known xs e.1 (below e.0 s xs q h)

    unified_known : (base : Environment) (ps : List Pair) (bs : List Binding) → Unified row base ps bs → KnownEnvironment P base → KeptPairs (Known P) (Known P) ps → KnownEnvironment P (extend base bs)
    unified_known base ps bs u h κ =
        let k : KeptEnd (Known P) (Known P) row known_variable known_arguments most_links (no_room u.0) base (unified bs u.1) = rw u.2 at (kept_run (Known P) (Known P) row known_variable known_arguments most_links (no_room u.0) base most_work (unifying [] ps) (h, κ)) in
        k

    pub known_lookup : (c : Derivation) → Valid row c → KnownRows P c → KnownEnvironment P (lookup c)
    known_lookup (input number ls) K h = λ x e p. absurd (some_not_none refl p)
    known_lookup (resolve number l a r ns bs) K h =
        let c = K.2 in
        unified_known (joined (maximum_index l) (lookup l) (lookup r)) (pairs_with (maximum_index l) c.1 c.2) bs c.6 (known_joined (maximum_index l) (lookup l) (lookup r) (known_lookup l K.0 h.0) (known_lookup r K.1 h.1))
        (known_pairs l r a ns c.0 c.1 c.2 h.0 h.1 c.3 c.4)
    known_lookup (factor number t a b bs) K h =
        let c = K.1 in
        unified_known (lookup t) ((c.1, c.2) ∷ []) bs c.6 (known_lookup t K.0 h) (known_numbered t h a (c.0, c.1) c.3, known_numbered t h b (c.0, c.2) c.4, tt)

    unified_stable : (base : Environment) (ps : List Pair) (bs : List Binding) → Unified row base ps bs → KnownEnvironment P base → KeptPairs (Known P) (Known P) ps → Unified row' base ps bs
    unified_stable base ps bs u h κ = (u.0, u.1, sym (run_agree (Known P) (Known P) row row' (λ e l. agree e.0 l) known_variable known_arguments most_links (no_room u.0) base most_work (unifying [] ps) (h, κ)) ∙ u.2)

    pub valid_stable : (c : Derivation) → KnownRows P c → Valid row c → Valid row' c
    valid_stable (input number ls) h K = tt
    valid_stable (resolve number l a r ns bs) h K =
        let c = K.2 in (
          valid_stable l h.0 K.0,
          valid_stable r h.1 K.1,
          (
            c.0,
            c.1,
            c.2,
            c.3,
            c.4,
            c.5,
            unified_stable (joined (maximum_index l) (lookup l) (lookup r)) (pairs_with (maximum_index l) c.1 c.2) bs c.6 (known_joined (maximum_index l) (lookup l) (lookup r) (known_lookup l K.0 h.0) (known_lookup r K.1 h.1))
                (known_pairs l r a ns c.0 c.1 c.2 h.0 h.1 c.3 c.4),
          ),
        )
    valid_stable (factor number t a b bs) h K =
        let c = K.1 in (
          valid_stable t h K.0,
          (
            c.0,
            c.1,
            c.2,
            c.3,
            c.4,
            c.5,
            unified_stable (lookup t) ((c.1, c.2) ∷ []) bs c.6 (known_lookup t K.0 h) (known_numbered t h a (c.0, c.1) c.3, known_numbered t h b (c.0, c.2) c.4, tt),
          ),
        )

pub known_more : (P Q : ℕ → Type 0) → ((r : ℕ) → P r → Q r) → (c : Derivation) → KnownRows P c → KnownRows Q c
known_more P Q f (input number ls) h = each_more (λ (x : RowLiteral). P x.1) (λ (x : RowLiteral). Q x.1) (λ x k. f x.1 k) ls h
known_more P Q f (resolve number x a y ns bs) h = (known_more P Q f x h.0, known_more P Q f y h.1)
known_more P Q f (factor number c a b bs) h = known_more P Q f c h

-- The uses of a derivation are over such rows.
pub known_uses : (P : ℕ → Type 0) (c : Derivation) → KnownRows P c → Each (λ (u : Use). Each (λ (l : RowLiteral). P l.1) u.1) (uses c)
known_uses P (input number ls) h = (h, tt)
known_uses P (resolve number l a r ns bs) h = each_append (λ (u : Use). Each (λ (l : RowLiteral). P l.1) u.1) (uses l) (uses r) (known_uses P l h.0) (known_uses P r h.1)
known_uses P (factor number c a b bs) h = known_uses P c h
