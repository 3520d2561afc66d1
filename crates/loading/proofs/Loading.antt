-- What the array holds after bindings are put into it: the environment of the clause, moved up by the offset, over what it held before.
use mathlib.Core.Path.{◌≡◌, refl, sym, ap, ap₂, ◌∙◌}
use mathlib.Core.Bool.{Bool, true, false, ◌&&◌}
use mathlib.Core.Option.{Option, none, some}
use mathlib.Core.List.{List, [], ◌∷◌}
use Prim.Native.Nat.{ℕ, suc, ◌+◌, ◌-◌, ◌≤◌, ◌<◌}
use native.Mathlib.Omega.{arith}
use lib.Dec.{eqb, leb}
use lib.ListN.{length}
use Rattle.record.specs.Record.{pick}
use Rattle.unification.specs.Environment.{Binding, Environment, extend}
use Rattle.unification.specs.Nodes.{is_variable, NodesOk}
use Rattle.unification.specs.Repeated.{or_else}
use Rattle.unification.specs.Row.{Expression, Variable, same}
use Rattle.unification.specs.ValueArray.{slot, put, InStep}
use Rattle.unification.proofs.Tests.{same_eq, same_refl, some_not_none}
use Rattle.following.proofs.Writing.{slot_eq, put_cell, put_index, put_cell_other, put_index_other, length_put}
use Rattle.derivation.specs.Derivation.{input, Derivation, resolve, factor, maximum_index, raise_answer, joined, lookup}
use Rattle.loading.specs.Loaded.{held_value, read_cell, above, within, put_clause, AllFree, BindingsIn}
use Rattle.putting.specs.Putting.{put_bindings, BindingIn, AllIn}
use native.Mathlib.Numerals.{add-one}
use borrow.Author.Tests.{le-leb, lt-leb, leb-true, leb-false, eqb-true, eqb-false, eq-eqb, ne_eqb}

else_assoc : (p q r : Option Expression) → or_else (or_else p q) r ≡ or_else p (or_else q r)
else_assoc none q r = refl
else_assoc (some e) q r = refl

raise_else : (o : ℕ) (p q : Option Expression) → raise_answer o (or_else p q) ≡ or_else (raise_answer o p) (raise_answer o q)
raise_else o none q = refl
raise_else o (some e) q = refl

raise_raise : (o m : ℕ) (p : Option Expression) → raise_answer o (raise_answer m p) ≡ raise_answer (o + m) p
raise_raise o m none = refl
raise_raise o m (some e) = let z : o + (m + e.1) ≡ (o + m) + e.1 = omega arith in ap (λ (k : ℕ). some (e.0, k)) z

abbrev nothing : Environment
nothing x = none

-- Bindings come before the environment that they extend.
extend_else : (ρ : Environment) (bs : List Binding) (y : Variable) → extend ρ bs y ≡ or_else (extend nothing bs y) (ρ y)
extend_else ρ [] y = refl
extend_else ρ (b ∷ bs) y = try (same y b.0) (extend_else ρ bs y)
  where
    try : (s : Bool) → extend ρ bs y ≡ or_else (extend nothing bs y) (ρ y) → pick s (some b.1) (extend ρ bs y) ≡ or_else (pick s (some b.1) (extend nothing bs y)) (ρ y)
    try true h = refl
    try false h = h

same_apart : (x y : Variable) → (x ≡ y → ⊥) → same x y ≡ false
same_apart x y n = try (same x y) refl
  where
    try : (b : Bool) → same x y ≡ b → b ≡ false
    try true q = absurd (n (same_eq x y q))
    try false q = refl

-- A variable lowered by o is the one bound exactly where the binding, raised by o, is of the variable.
shift_same : (o : ℕ) (x b : Variable) → o < x.1 → same x (b.0, o + b.1) ≡ same (x.0, x.1 - o) b
shift_same o x b l = ap (λ (s : Bool). eqb x.0 b.0 && s) (try (eqb (x.1 - o) b.1) refl)
  where
    try : (s : Bool) → eqb (x.1 - o) b.1 ≡ s → eqb x.1 (o + b.1) ≡ s
    try true q = let z = eqb-true (x.1 - o) b.1 q in eq-eqb x.1 (o + b.1) (omega arith)
    try false q = ne_eqb x.1 (o + b.1) (λ z. eqb-false (x.1 - o) b.1 q (omega arith))

above_nothing : (o : ℕ) (x : Variable) → above o nothing x ≡ none
above_nothing o x = try (leb x.1 o)
  where
    try : (b : Bool) → pick b none (raise_answer o none) ≡ none
    try true = refl
    try false = refl

within_nothing : (o m : ℕ) (x : Variable) → within o m nothing x ≡ none
within_nothing o m x = try (leb x.1 (o + m)) (leb x.1 o)
  where
    try : (a b : Bool) → pick a (pick b none (raise_answer o none)) none ≡ none
    try true true = refl
    try true false = refl
    try false b = refl

module _ (N : List ℕ) (T : NodesOk N) where
  -- One value written.
  read_put : (A : List ℕ) → length A ≡ 524416 → (p : Variable) → InStep N 4096 p → is_variable N p.0 ≡ true → (t j : ℕ) (x : Variable) → InStep N 4096 x → is_variable N x.0 ≡ true
      → read_cell N (put A (slot N p.0 p.1) (suc t) j) x ≡ pick (same x p) (some (t, j)) (read_cell N A x)
  read_put A room p gp vp t j x gx vx = try (eqb (slot N x.0 x.1) (slot N p.0 p.1)) refl
    where
      try : (b : Bool) → eqb (slot N x.0 x.1) (slot N p.0 p.1) ≡ b → read_cell N (put A (slot N p.0 p.1) (suc t) j) x ≡ pick (same x p) (some (t, j)) (read_cell N A x)
      try true q =
          let e = slot_eq N 4096 T (omega arith) p gp vp x gx vx (eqb-true _ _ q) in
          ap (λ (u : Variable). read_cell N (put A (slot N p.0 p.1) (suc t) j) u) e
          ∙ ap₂ held_value (put_cell N 4096 T (omega arith) p gp vp A room (suc t) j) (put_index N 4096 T (omega arith) p gp vp A room (suc t) j)
          ∙ sym (rw (ap (λ (u : Variable). same u p) e ∙ same_refl p))
      try false q =
          let d = eqb-false (slot N x.0 x.1) (slot N p.0 p.1) q in
          ap₂ held_value (put_cell_other N 4096 T (omega arith) p gp vp A (suc t) j x d) (put_index_other N 4096 T (omega arith) p gp vp A (suc t) j x d)
          ∙ sym (rw (same_apart x p (λ e. d (ap (λ (u : Variable). slot N u.0 u.1) e))))

  pub length_bindings : (o : ℕ) (bs : List Binding) (A : List ℕ) → length (put_bindings N o bs A) ≡ length A
  length_bindings o [] A = refl
  length_bindings o (b ∷ bs) A = length_put (put_bindings N o bs A) (slot N b.0.0 (o + b.0.1)) (b.1.0 + 1) (o + b.1.1) ∙ length_bindings o bs A

  pub length_clause : (d : Derivation) (o : ℕ) (A : List ℕ) → length (put_clause N o d A) ≡ length A
  length_clause (input number ls) o A = refl
  length_clause (resolve number l a r ns bs) o A =
      length_clause r (o + maximum_index l) (put_clause N o l (put_bindings N o bs A)) ∙ length_clause l o (put_bindings N o bs A) ∙ length_bindings o bs A
  length_clause (factor number d a b bs) o A = length_clause d o (put_bindings N o bs A) ∙ length_bindings o bs A

  -- One binding more.
  one_read : (o m : ℕ) (b : Binding) → BindingIn N m b → (bs : List Binding) (x : Variable) (p q : Option Expression) → (c : Bool) → leb x.1 o ≡ c
      → p ≡ or_else (pick c none (raise_answer o (extend nothing bs (x.0, x.1 - o)))) q
      → pick (same x (b.0.0, o + b.0.1)) (some (b.1.0, o + b.1.1)) p ≡ or_else (pick c none (raise_answer o (extend nothing (b ∷ bs) (x.0, x.1 - o)))) q
  one_read o m b K bs x p q true h e =
      let l = leb-true x.1 o h in
      let n = K.bound.low in
      rw (same_apart x (b.0.0, o + b.0.1) (λ z. let y = ap (λ (u : Variable). u.1) z in omega arith)) e
  one_read o m b K bs x p q false h e = rw (shift_same o x b.0 (leb-false x.1 o h)) (try (same (x.0, x.1 - o) b.0) e)
    where
      try : (s : Bool) → p ≡ or_else (raise_answer o (extend nothing bs (x.0, x.1 - o))) q
          → pick s (some (b.1.0, o + b.1.1)) p ≡ or_else (raise_answer o (pick s (some b.1) (extend nothing bs (x.0, x.1 - o)))) q
      try true e = refl
      try false e = e

  -- A clause's own bindings.
  bindings_read : (o m : ℕ) → o + m ≤ 4096 → (bs : List Binding) → AllIn N m bs → (A : List ℕ) → length A ≡ 524416 → (x : Variable) → InStep N 4096 x → is_variable N x.0 ≡ true
      → read_cell N (put_bindings N o bs A) x ≡ or_else (above o (extend nothing bs) x) (read_cell N A x)
  bindings_read o m fits [] K A room x g v = sym (ap (λ (q : Option Expression). or_else q (read_cell N A x)) (above_nothing o x))
  bindings_read o m fits (b ∷ bs) K A room x g v =
      let B = K.0 in
      let low = B.bound.low in
      let high = B.bound.high in
      let z : b.1.0 + 1 ≡ suc b.1.0 = add-one b.1.0 in
      ap (λ (t : ℕ). read_cell N (put (put_bindings N o bs A) (slot N b.0.0 (o + b.0.1)) t (o + b.1.1)) x) z
      ∙ read_put (put_bindings N o bs A) (length_bindings o bs A ∙ room) (b.0.0, o + b.0.1) (record { row = B.bound.row; low = omega arith; high = omega arith }) B.of_variable b.1.0 (o + b.1.1) x g v
      ∙ one_read o m b B bs x (read_cell N (put_bindings N o bs A) x) (read_cell N A x) (leb x.1 o) refl (bindings_read o m fits bs K.1 A room x g v)

-- Own bindings do not go past the maximum index.
own_in : (N : List ℕ) (m : ℕ) (r i : ℕ) → m < i → (bs : List Binding) → AllIn N m bs → extend nothing bs (r, i) ≡ none
own_in N m r i l [] K = refl
own_in N m r i l (b ∷ bs) K =
    let h = K.0.bound.high in
    rw (same_apart (r, i) b.0 (λ z. let y = ap (λ (u : Variable). u.1) z in omega arith)) (own_in N m r i l bs K.1)

-- Own bindings over the parents' are the clause's.
combine : (o m : ℕ) (ρ : Environment) (own : List Binding) (x : Variable) (R : Option Expression) → (o + m < x.1 → extend nothing own (x.0, x.1 - o) ≡ none)
    → or_else (above o (extend nothing own) x) (or_else (within o m ρ x) R) ≡ or_else (within o m (extend ρ own) x) R
combine o m ρ own x R out = try (leb x.1 (o + m)) refl (leb x.1 o)
  where
    try : (a : Bool) → leb x.1 (o + m) ≡ a → (b : Bool)
        → or_else (pick b none (raise_answer o (extend nothing own (x.0, x.1 - o)))) (or_else (pick a (pick b none (raise_answer o (ρ (x.0, x.1 - o)))) none) R)
        ≡ or_else (pick a (pick b none (raise_answer o (extend ρ own (x.0, x.1 - o)))) none) R
    try true q true = refl
    try true q false =
        sym (else_assoc (raise_answer o (extend nothing own (x.0, x.1 - o))) (raise_answer o (ρ (x.0, x.1 - o))) R)
        ∙ ap (λ (p : Option Expression). or_else p R) (sym (raise_else o (extend nothing own (x.0, x.1 - o)) (ρ (x.0, x.1 - o))) ∙ ap (raise_answer o) (sym (extend_else ρ own (x.0, x.1 - o))))
    try false q true = refl
    try false q false = rw (out (leb-false x.1 (o + m) q))

-- A variable that the clause binds is free in its parents.
own_free : (ρ : Environment) (bs : List Binding) → AllFree ρ bs → (y : Variable) (e : Expression) → extend nothing bs y ≡ some e → ρ y ≡ none
own_free ρ [] K y e p = absurd (some_not_none refl p)
own_free ρ (b ∷ bs) K y e p = try (same y b.0) refl (λ r. own_free ρ bs K.1 y e r) p
  where
    try : (s : Bool) → same y b.0 ≡ s → (extend nothing bs y ≡ some e → ρ y ≡ none) → pick s (some b.1) (extend nothing bs y) ≡ some e → ρ y ≡ none
    try true q more r = ap ρ (same_eq y b.0 q) ∙ K.0
    try false q more r = more r

-- So it does not matter which is put first.
own_first : (o m : ℕ) (ρ : Environment) (own : List Binding) → AllFree ρ own → (x : Variable) (R : Option Expression)
    → or_else (within o m ρ x) (or_else (above o (extend nothing own) x) R) ≡ or_else (above o (extend nothing own) x) (or_else (within o m ρ x) R)
own_first o m ρ own K x R = try (leb x.1 (o + m)) (leb x.1 o) (extend nothing own (x.0, x.1 - o)) refl
  where
    try : (a b : Bool) (q : Option Expression) → extend nothing own (x.0, x.1 - o) ≡ q
        → or_else (pick a (pick b none (raise_answer o (ρ (x.0, x.1 - o)))) none) (or_else (pick b none (raise_answer o q)) R)
        ≡ or_else (pick b none (raise_answer o q)) (or_else (pick a (pick b none (raise_answer o (ρ (x.0, x.1 - o)))) none) R)
    try false true q p = refl
    try false false q p = refl
    try true true q p = refl
    try true false none p = refl
    try true false (some e) p = rw (own_free ρ own K (x.0, x.1 - o) e p)

-- A right parent over a left one is both as one.
pub within_joined : (o m n : ℕ) (ρ ρ' : Environment) (x : Variable) (R : Option Expression)
    → or_else (within (o + m) n ρ' x) (or_else (within o m ρ x) R) ≡ or_else (within o (m + n) (joined m ρ ρ') x) R
within_joined o m n ρ ρ' x R = try (leb x.1 o) refl (leb x.1 (o + m)) refl (leb x.1 (o + (m + n))) refl
  where
    try : (a : Bool) → leb x.1 o ≡ a → (b : Bool) → leb x.1 (o + m) ≡ b → (c : Bool) → leb x.1 (o + (m + n)) ≡ c
        → or_else (within (o + m) n ρ' x) (or_else (within o m ρ x) R) ≡ or_else (within o (m + n) (joined m ρ ρ') x) R
    try true p b q c r =
        let l = leb-true x.1 o p in
        rw (p, le-leb x.1 (o + m) (omega arith), le-leb x.1 (o + m + n) (omega arith), le-leb x.1 (o + (m + n)) (omega arith))
    try false p true q c r =
        let g = leb-false x.1 o p in
        let l = leb-true x.1 (o + m) q in
        rw (p, q, le-leb x.1 (o + m + n) (omega arith), le-leb x.1 (o + (m + n)) (omega arith), le-leb (x.1 - o) m (omega arith))
    try false p false q true r =
        let g = leb-false x.1 (o + m) q in
        let l = leb-true x.1 (o + (m + n)) r in
        let z : x.1 - (o + m) ≡ x.1 - o - m = omega arith in
        rw (p, q, r, le-leb x.1 (o + m + n) (omega arith), lt-leb (x.1 - o) m (omega arith))
        (ap (λ (u : Option Expression). or_else u R) (ap (λ (k : ℕ). raise_answer (o + m) (ρ' (x.0, k))) z ∙ sym (raise_raise o m (ρ' (x.0, x.1 - o - m)))))
    try false p false q false r =
        let g = leb-false x.1 (o + (m + n)) r in
        rw (p, q, r, lt-leb x.1 (o + m + n) (omega arith))

-- What a variable reads after all bindings of a derivation are put into the array.
module _ (N : List ℕ) (T : NodesOk N) where
  pub clause_read : (d : Derivation) → BindingsIn N d → (o : ℕ) → o + maximum_index d ≤ 4096 → (A : List ℕ) → length A ≡ 524416 → (x : Variable) → InStep N 4096 x → is_variable N x.0 ≡ true
      → read_cell N (put_clause N o d A) x ≡ or_else (within o (maximum_index d) (lookup d) x) (read_cell N A x)
  clause_read (input number ls) K o fits A room x g v = sym (ap (λ (q : Option Expression). or_else q (read_cell N A x)) (within_nothing o 1 x))
  clause_read (resolve number l a r ns bs) K o fits A room x g v =
      let m = maximum_index l in
      let n = maximum_index r in
      let both = joined m (lookup l) (lookup r) in
      let room₁ : length (put_bindings N o bs A) ≡ 524416 = length_bindings N T o bs A ∙ room in
      let room₂ : length (put_clause N o l (put_bindings N o bs A)) ≡ 524416 = length_clause N T l o (put_bindings N o bs A) ∙ room₁ in
      clause_read r K.1 (o + m) (omega arith) (put_clause N o l (put_bindings N o bs A)) room₂ x g v
      ∙ ap (or_else (within (o + m) n (lookup r) x)) (clause_read l K.0 o (omega arith) (put_bindings N o bs A) room₁ x g v)
      ∙ within_joined o m n (lookup l) (lookup r) x (read_cell N (put_bindings N o bs A) x)
      ∙ ap (or_else (within o (m + n) both x)) (bindings_read N T o (m + n) fits bs K.2 A room x g v)
      ∙ own_first o (m + n) both bs K.3 x (read_cell N A x)
      ∙ combine o (m + n) both bs x (read_cell N A x) (λ h. own_in N (m + n) x.0 (x.1 - o) (omega arith) bs K.2)
  clause_read (factor number d a b bs) K o fits A room x g v =
      let m = maximum_index d in
      clause_read d K.0 o fits (put_bindings N o bs A) (length_bindings N T o bs A ∙ room) x g v
      ∙ ap (or_else (within o m (lookup d) x)) (bindings_read N T o m fits bs K.1 A room x g v)
      ∙ own_first o m (lookup d) bs K.2 x (read_cell N A x)
      ∙ combine o m (lookup d) bs x (read_cell N A x) (λ h. own_in N m x.0 (x.1 - o) (omega arith) bs K.1)
