-- A clause follows from its uses: where all instances are true under an assignment, so is the clause.
use mathlib.Core.Path.{◌≡◌, refl, sym, ap, ◌∙◌, subst}
use mathlib.Core.Logic.{◌⊎◌, inl, inr}
use mathlib.Core.Bool.{Bool, true, false, not}
use mathlib.Core.Option.{some}
use mathlib.Core.List.{List, [], ◌∷◌, ◌++◌, map}
use Prim.Native.Nat.{ℕ, zero, suc, ◌+◌}
use native.Mathlib.Nat.{add-zero, add-suc, suc-add, add_comm}
use lib.ListN.{length}
use Rattle.unification.specs.Environment.{Binding, Environment, extend, Respects}
use Rattle.unification.specs.Row.{Row, application, Expression, Variable, row_term, written_out}
use Rattle.unification.specs.Term.{Term}
use Rattle.unification.specs.Unification.{most_work, most_links, unified, Pair, unifying, no_room}
use Rattle.unification.proofs.Soundness.{AllEqual, BackEnd, back_run}
use Rattle.unification.proofs.Tests.{true_not_false, some_not_none, some_injective}
use Rattle.derivation.specs.Derivation.{literals, input, Literal, RowLiteral, Derivation, resolve, factor, numbered, without, numbered_all, without_all, StrictlyRising, raise, pairs_with, raise_literal, placed, maximum_index, joined, lookup, uses, Use}
use Rattle.derivation.specs.Ground.{instances, Ground, instance_at, Assignment, SomeTrue, AllTrue}
use Rattle.derivation.proofs.Literals.{numbered_cons, first_stays, rising_tail, uses_length}
use Rattle.derivation.proofs.Validity.{Unified, Valid, signed, lookup_in, respects_left, respects_right}

module _ (term : ℕ → Term ℕ) (A : Assignment) where
  -- A literal, and some literal of a list, is true where γ gives the variables' values.
  abbrev Holds : (Variable → Ground) → Literal → Type 0
  Holds γ l = A (written_out term γ l.1) ≡ l.0

  abbrev pub SomeHolds : (Variable → Ground) → List Literal → Type 0
  SomeHolds γ [] = ⊥
  SomeHolds γ (l ∷ ls) = Holds γ l ⊎ SomeHolds γ ls

  abbrev raised_values : ℕ → (Variable → Ground) → Variable → Ground
  raised_values m γ x = γ (raise m x)

  holds_left : (γ : Variable → Ground) (xs ys : List Literal) → SomeHolds γ xs → SomeHolds γ (xs ++ ys)
  holds_left γ [] ys h = absurd h
  holds_left γ (x ∷ xs) ys (inl h) = inl h
  holds_left γ (x ∷ xs) ys (inr h) = inr (holds_left γ xs ys h)

  holds_right : (γ : Variable → Ground) (xs ys : List Literal) → SomeHolds γ ys → SomeHolds γ (xs ++ ys)
  holds_right γ [] ys h = h
  holds_right γ (x ∷ xs) ys h = inr (holds_right γ xs ys h)

  holds_raised : (γ : Variable → Ground) (m : ℕ) (ls : List Literal) → SomeHolds (raised_values m γ) ls → SomeHolds γ (map (raise_literal m) ls)
  holds_raised γ m [] h = h
  holds_raised γ m (l ∷ ls) (inl h) = inl h
  holds_raised γ m (l ∷ ls) (inr h) = inr (holds_raised γ m ls h)

  holds_without : (γ : Variable → Ground) (ls : List Literal) (k : ℕ) (l : Literal) → numbered ls k ≡ some l → SomeHolds γ ls → Holds γ l ⊎ SomeHolds γ (without ls k)
  holds_without γ [] k l q h = absurd h
  holds_without γ (x ∷ ls) zero l q h = inr h
  holds_without γ (x ∷ ls) (suc zero) l q (inl h) = inl (subst (Holds γ) (some_injective q) h)
  holds_without γ (x ∷ ls) (suc zero) l q (inr h) = inr h
  holds_without γ (x ∷ ls) (suc (suc k)) l q (inl h) = inr (inl h)
  holds_without γ (x ∷ ls) (suc (suc k)) l q (inr h) = push (holds_without γ ls (suc k) l q h)
    where
      push : Holds γ l ⊎ SomeHolds γ (without ls (suc k)) → Holds γ l ⊎ SomeHolds γ (x ∷ without ls (suc k))
      push (inl g) = inl g
      push (inr g) = inr (inr g)

  holds_numbered : (γ : Variable → Ground) (ls : List Literal) (k : ℕ) (l : Literal) → numbered ls k ≡ some l → Holds γ l → SomeHolds γ ls
  holds_numbered γ [] k l q h = absurd (some_not_none refl q)
  holds_numbered γ (x ∷ ls) zero l q h = absurd (some_not_none refl q)
  holds_numbered γ (x ∷ ls) (suc zero) l q h = inl (subst (Holds γ) (sym (some_injective q)) h)
  holds_numbered γ (x ∷ ls) (suc (suc k)) l q h = inr (holds_numbered γ ls (suc k) l q h)

  -- Another literal than the one deleted stays.
  holds_kept : (γ : Variable → Ground) (ls : List Literal) (a b : ℕ) (l : Literal) → numbered ls a ≡ some l → ¬ (a ≡ b) → Holds γ l → SomeHolds γ (without ls b)
  holds_kept γ [] a b l q n h = absurd (some_not_none refl q)
  holds_kept γ (x ∷ ls) a zero l q n h = holds_numbered γ (x ∷ ls) a l q h
  holds_kept γ (x ∷ ls) zero (suc zero) l q n h = absurd (some_not_none refl q)
  holds_kept γ (x ∷ ls) (suc zero) (suc zero) l q n h = absurd (n refl)
  holds_kept γ (x ∷ ls) (suc (suc a)) (suc zero) l q n h = holds_numbered γ ls (suc a) l q h
  holds_kept γ (x ∷ ls) zero (suc (suc b)) l q n h = absurd (some_not_none refl q)
  holds_kept γ (x ∷ ls) (suc zero) (suc (suc b)) l q n h = inl (subst (Holds γ) (sym (some_injective q)) h)
  holds_kept γ (x ∷ ls) (suc (suc a)) (suc (suc b)) l q n h = inr (holds_kept γ ls (suc a) (suc b) l q (λ z. n (ap suc z)) h)

  -- Instances of a resolvent's uses are the left parent's, then the right one's with indices raised.
  instances_split : (γ : Variable → Ground) (k : ℕ) (us vs : List Use) → AllTrue A (instances term γ k (us ++ vs)) → AllTrue A (instances term γ k us) × AllTrue A (instances term γ (k + length us) vs)
  instances_split γ k [] vs h = (tt, rw add-zero h)
  instances_split γ k (u ∷ us) vs h =
      let r = instances_split γ (suc k) us vs h.1 in
      ((h.0, r.0), rw (add-suc, ← suc-add) r.1)

  some_raised : (γ : Variable → Ground) (m k : ℕ) (u : List RowLiteral) → SomeTrue A (instance_at term γ (m + k) u) → SomeTrue A (instance_at term (raised_values m γ) k u)
  some_raised γ m k [] h = h
  some_raised γ m k (l ∷ u) (inl h) = inl h
  some_raised γ m k (l ∷ u) (inr h) = inr (some_raised γ m k u h)

  instances_raised : (γ : Variable → Ground) (m k : ℕ) (us : List Use) → AllTrue A (instances term γ (m + k) us) → AllTrue A (instances term (raised_values m γ) k us)
  instances_raised γ m k [] h = tt
  instances_raised γ m k (u ∷ us) h = (some_raised γ m k u.1 h.0, instances_raised γ m (suc k) us (rw add-suc h.1))

  holds_instance : (γ : Variable → Ground) (u : List RowLiteral) → SomeTrue A (instance_at term γ 1 u) → SomeHolds γ (placed 1 u)
  holds_instance γ [] h = h
  holds_instance γ (l ∷ u) (inl h) = inl h
  holds_instance γ (l ∷ u) (inr h) = inr (holds_instance γ u h)

  opposite : (b c : Bool) → b ≡ c → b ≡ not c → ⊥
  opposite true true p q = true_not_false refl q
  opposite true false p q = true_not_false refl p
  opposite false true p q = true_not_false p refl
  opposite false false p q = true_not_false q refl

  -- Several literals taken out: one of them holds, or one that is left.
  holds_without_all : (γ : Variable → Ground) (ls : List Literal) (ns : List ℕ) (ms : List Literal) → StrictlyRising ns → numbered_all ls ns ≡ some ms → SomeHolds γ ls → SomeHolds γ ms ⊎ SomeHolds γ (without_all ls ns)
  holds_without_all γ ls [] ms h q x = inr x
  holds_without_all γ ls (n ∷ ns) ms h q x = let z = numbered_cons ls n ns ms q in try z.0 z.1 z.2 z.4 (holds_without_all γ ls ns z.1 (rising_tail n ns h) z.3 x)
    where
      last : (y : Literal) (zs : List Literal) → y ∷ zs ≡ ms → Holds γ y ⊎ SomeHolds γ (without (without_all ls ns) n) → SomeHolds γ ms ⊎ SomeHolds γ (without (without_all ls ns) n)
      last y zs e (inl g) = inl (subst (SomeHolds γ) e (inl g))
      last y zs e (inr g) = inr g

      try : (y : Literal) (zs : List Literal) → numbered ls n ≡ some y → y ∷ zs ≡ ms → SomeHolds γ zs ⊎ SomeHolds γ (without_all ls ns) → SomeHolds γ ms ⊎ SomeHolds γ (without (without_all ls ns) n)
      try y zs p e (inl g) = inl (subst (SomeHolds γ) e (inr g))
      try y zs p e (inr g) = last y zs e (holds_without γ (without_all ls ns) n y (first_stays ls n ns h ∙ p) g)

  -- The left literal and a right one do not both hold where γ makes their atoms equal.
  not_both : (γ : Variable → Ground) (m : ℕ) (s : Bool) (e : Expression) (ds : List Expression) → AllEqual term γ (pairs_with m e ds) → Holds γ (s, e) → SomeHolds (raised_values m γ) (signed (not s) ds) → ⊥
  not_both γ m s e [] r x y = y
  not_both γ m s e (d ∷ ds) r x (inl y) = opposite (A (written_out term γ e)) s x (ap A r.0 ∙ y)
  not_both γ m s e (d ∷ ds) r x (inr y) = not_both γ m s e ds r.1 x y

  holds_resolvent : (γ : Variable → Ground) (m : ℕ) (xs ys : List Literal) (a : ℕ) (ns : List ℕ) (s : Bool) (e : Expression) (ds : List Expression) → numbered xs a ≡ some (s, e) → numbered_all ys ns ≡ some (signed (not s) ds) → StrictlyRising ns
      → AllEqual term γ (pairs_with m e ds) → SomeHolds γ xs → SomeHolds (raised_values m γ) ys → SomeHolds γ (without xs a ++ map (raise_literal m) (without_all ys ns))
  holds_resolvent γ m xs ys a ns s e ds p q rise r h k = try (holds_without γ xs a (s, e) p h) (holds_without_all (raised_values m γ) ys ns (signed (not s) ds) rise q k)
    where
      try : Holds γ (s, e) ⊎ SomeHolds γ (without xs a) → SomeHolds (raised_values m γ) (signed (not s) ds) ⊎ SomeHolds (raised_values m γ) (without_all ys ns) → SomeHolds γ (without xs a ++ map (raise_literal m) (without_all ys ns))
      try (inr x) y = holds_left γ (without xs a) (map (raise_literal m) (without_all ys ns)) x
      try (inl x) (inr y) = holds_right γ (without xs a) (map (raise_literal m) (without_all ys ns)) (holds_raised γ m (without_all ys ns) y)
      try (inl x) (inl y) = absurd (not_both γ m s e ds r x y)

  holds_factor : (γ : Variable → Ground) (ls : List Literal) (a b : ℕ) (s : Bool) (e d : Expression) → numbered ls a ≡ some (s, e) → numbered ls b ≡ some (s, d) → ¬ (a ≡ b) → written_out term γ e ≡ written_out term γ d
      → SomeHolds γ ls → SomeHolds γ (without ls b)
  holds_factor γ ls a b s e d p q n r h = try (holds_without γ ls b (s, d) q h)
    where
      try : Holds γ (s, d) ⊎ SomeHolds γ (without ls b) → SomeHolds γ (without ls b)
      try (inr x) = x
      try (inl x) = holds_kept γ ls a b (s, e) p n (ap A r ∙ x)

module _ (row : ℕ → Row) (term : ℕ → Term ℕ) (termLaw : (r : ℕ) → term r ≡ row_term term r (row r))
    (arities : (r q s : ℕ) (xs ys : List ℕ) → row r ≡ application s xs → row q ≡ application s ys → length xs ≡ length ys) where
  -- What respects a step's bindings respects those before, and makes the two atoms of every pair equal.
  pub unified_sound : {Y : Type 0} (γ : Variable → Term Y) (base : Environment) (ps : List Pair) (bs : List Binding) → Unified row base ps bs → Respects term γ (extend base bs) → Respects term γ base × AllEqual term γ ps
  unified_sound γ base ps bs u R =
      let k : BackEnd row most_links (no_room u.0) base term termLaw arities γ (unifying [] ps) (unified bs u.1) = rw u.2 at (back_run row most_links (no_room u.0) base term termLaw arities γ most_work (unifying [] ps) tt) in
      k R

  module _ (A : Assignment) where
    pub sound : (c : Derivation) → Valid row c → (γ : Variable → Ground) → Respects term γ (lookup c) → AllTrue A (instances term γ 1 (uses c)) → SomeHolds term A γ (literals c)
    sound (input number ls) K γ R h = holds_instance term A γ ls h.0
    sound (resolve number l a r ns bs) K γ R h =
        let c = K.2 in
        let u = unified_sound γ (joined (maximum_index l) (lookup l) (lookup r)) (pairs_with (maximum_index l) c.1 c.2) bs c.6 R in
        let w = instances_split term A γ 1 (uses l) (uses r) h in
        let v : AllTrue A (instances term γ (maximum_index l + 1) (uses r)) = rw (← uses_length l, add_comm) w.1 in
        holds_resolvent term A γ (maximum_index l) (literals l) (literals r) a ns c.0 c.1 c.2 c.3 c.4 c.5 u.1
        (sound l K.0 γ (respects_left term γ (maximum_index l) (maximum_index r) (lookup l) (lookup r) u.0 (lookup_in row l K.0)) w.0)
        (sound r K.1 (raised_values term A (maximum_index l) γ) (respects_right term γ (maximum_index l) (maximum_index r) (lookup l) (lookup r) u.0 (lookup_in row r K.1)) (instances_raised term A γ (maximum_index l) 1 (uses r) v))
    sound (factor number t a b bs) K γ R h =
        let c = K.1 in
        let u = unified_sound γ (lookup t) ((c.1, c.2) ∷ []) bs c.6 R in
        holds_factor term A γ (literals t) a b c.0 c.1 c.2 c.3 c.4 c.5 u.1.0 (sound t K.0 γ u.0 h)
