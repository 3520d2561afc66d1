-- The lowest empty clause, and what its cells in the table of clauses are.
use mathlib.Core.Path.{◌≡◌, refl, sym, ap, ◌∙◌, subst}
use mathlib.Core.Bool.{Bool, true, false, ◌&&◌}
use mathlib.Core.Option.{Option, none, some}
use mathlib.Core.List.{List, [], ◌∷◌, ◌++◌, map}
use Prim.Native.Nat.{ℕ, ◌+◌, ◌*◌, ◌<◌}
use native.Mathlib.Omega.{arith}
use lib.Dec.{eqb, eqb→eq}
use lib.ListN.{length, get_or, length-append, length-map, get_or-append}
use lib.Seq.{get_or-append-add}
use Rattle.record.specs.Record.{pick}
use Rattle.unification.proofs.Rows.{eqb_below}
use Rattle.unification.proofs.Tests.{to_t, both_true, true_not_false, some_not_none, some_injective}
use Rattle.derivation.specs.Derivation.{literals, Derivation, maximum_index}
use Rattle.verdict.specs.State.{entry}
use Rattle.verdict.specs.Tables.{cells_of_clause, clause_cells, bindings_of}
use Rattle.verdict.specs.Verdict.{is_empty, first_empty}
use Rattle.demands.proofs.Inversions.{entry_below, entry_more, entry_new}

empty_list : {A : Type 0} (xs : List A) → is_empty xs ≡ true → xs ≡ []
empty_list [] q = refl
empty_list (x ∷ xs) q = absurd (true_not_false q refl)

is_empty_lem : {A : Type 0} (xs : List A) → xs ≡ [] → is_empty xs ≡ true
is_empty_lem xs q = rw q

entry_old : {A : Type 0} (x : A) (xs : List A) (i : ℕ) (a : A) → i < length xs → entry (x ∷ xs) i ≡ some a → entry xs i ≡ some a
entry_old x xs i a l q = rw (eqb_below i (length xs) l) at q

-- Clause n of a list passes the test and is empty, and none before it is both.
pub record Lowest (test : Derivation → Bool) (cs : List Derivation) (n : ℕ) : Type 0 where
  pub clause : Derivation
  pub is_clause : entry cs n ≡ some clause
  pub passes : test clause ≡ true
  pub empty : literals clause ≡ []
  pub lowest : (i : ℕ) (c : Derivation) → i < n → entry cs i ≡ some c → test c ≡ true → ¬ (literals c ≡ [])

module _ (test : Derivation → Bool) where
  abbrev Counts : Derivation → Type 0
  Counts c = (test c ≡ true) × (literals c ≡ [])

  counted : (c : Derivation) → (test c && is_empty (literals c)) ≡ true → (test c ≡ true) × (literals c ≡ [])
  counted c q =
      let p = both_true (test c) (is_empty (literals c)) q in
      (p.0, empty_list (literals c) p.1)

  counts : (c : Derivation) → (test c ≡ true) × (literals c ≡ []) → (test c && is_empty (literals c)) ≡ true
  counts c h = rw h.0 (is_empty_lem (literals c) h.1)

  -- No clause that passes the test is empty.
  pub none_empty : (cs : List Derivation) → first_empty test cs ≡ none → (i : ℕ) (c : Derivation) → entry cs i ≡ some c → test c ≡ true → ¬ (literals c ≡ [])
  none_empty [] q i c e t = absurd (some_not_none refl e)
  none_empty (d ∷ cs) q i c e t = try (first_empty test cs) refl q (λ z y. none_empty cs z i c y t)
    where
      here : (b : Bool) → (test d && is_empty (literals d)) ≡ b → pick b (some (length cs)) none ≡ none → (entry cs i ≡ some c → ¬ (literals c ≡ [])) → ¬ (literals c ≡ [])
      here true p r k z = absurd (some_not_none r refl)
      here false p r k z = which (eqb i (length cs)) e k
        where
          which : (b : Bool) → pick b (some d) (entry cs i) ≡ some c → (entry cs i ≡ some c → ¬ (literals c ≡ [])) → ⊥
          which true y k = true_not_false (counts d (subst Counts (sym (some_injective y)) (t, z))) p
          which false y k = k y z

      try : (o : Option ℕ) → first_empty test cs ≡ o → ◌≡◌ {A = Option ℕ} (elim o [ some n ↦ some n | none ↦ pick (test d && is_empty (literals d)) (some (length cs)) none ]) none → (first_empty test cs ≡ none → entry cs i ≡ some c → ¬ (literals c ≡ [])) → ¬ (literals c ≡ [])
      try (some n) p r k = absurd (some_not_none r refl)
      try none p r k = here (test d && is_empty (literals d)) refl r (k p)

  pub first_lowest : (cs : List Derivation) (n : ℕ) → first_empty test cs ≡ some n → Lowest test cs n
  first_lowest [] n q = absurd (some_not_none refl q)
  first_lowest (d ∷ cs) n q = try (first_empty test cs) refl q (λ p. first_lowest cs n p)
    where
      last : (b : Bool) → (test d && is_empty (literals d)) ≡ b → first_empty test cs ≡ none → pick b (some (length cs)) none ≡ some n → Lowest test (d ∷ cs) n
      last true p f r = subst (Lowest test (d ∷ cs)) (some_injective r)
          (record { clause = d; is_clause = entry_new d cs; passes = (counted d p).0; empty = (counted d p).1; lowest = λ i c l e. none_empty cs f i c (entry_old d cs i c l e) })
      last false p f r = absurd (some_not_none refl r)

      older : Lowest test cs n → Lowest test (d ∷ cs) n
      older L =
          let z : n < length cs = entry_below cs n L.clause L.is_clause in
          record { clause = L.clause; is_clause = entry_more d cs n L.clause L.is_clause; passes = L.passes; empty = L.empty; lowest = λ i c l e. L.lowest i c l (entry_old d cs i c (omega arith) e) }

      try : (o : Option ℕ) → first_empty test cs ≡ o → elim o [ some n ↦ some n | none ↦ pick (test d && is_empty (literals d)) (some (length cs)) none ] ≡ some n → (first_empty test cs ≡ some n → Lowest test cs n) → Lowest test (d ∷ cs) n
      try (some m) p r k = older (k (p ∙ r))
      try none p r k = last (test d && is_empty (literals d)) refl p r

  pub some_first : (cs : List Derivation) (i : ℕ) (c : Derivation) → entry cs i ≡ some c → test c ≡ true → literals c ≡ [] → (n : ℕ) × (first_empty test cs ≡ some n)
  some_first cs i c e t q = try (first_empty test cs) refl
    where
      try : (o : Option ℕ) → first_empty test cs ≡ o → (n : ℕ) × (first_empty test cs ≡ some n)
      try none p = absurd (none_empty cs p i c e t q)
      try (some n) p = (n, p)

-- The table of clauses has five cells a clause; the third is the maximum index.
pub cells_length : (cs : List (ℕ × Derivation)) → length (clause_cells cs) ≡ 5 * length cs
cells_length [] = refl
cells_length (c ∷ cs) =
    let ih = cells_length cs in
    length-append (clause_cells cs) (cells_of_clause c.0 (bindings_of (map (λ (d : ℕ × Derivation). d.1) cs)) c.1) ∙ omega (arith, ih)

pub index_cell_lem : (cs : List (ℕ × Derivation)) (n : ℕ) (c : Derivation) → entry (map (λ (d : ℕ × Derivation). d.1) cs) n ≡ some c → get_or (clause_cells cs) (5 * n + 2) 0 ≡ maximum_index c
index_cell_lem [] n c q = absurd (some_not_none refl q)
index_cell_lem (d ∷ cs) n c q = try (eqb n (length (map (λ (d : ℕ × Derivation). d.1) cs))) refl q (λ p. index_cell_lem cs n c p)
  where
    five : List ℕ
    five = cells_of_clause d.0 (bindings_of (map (λ (d : ℕ × Derivation). d.1) cs)) d.1

    same_length_lem : length (map (λ (d : ℕ × Derivation). d.1) cs) ≡ length cs
    same_length_lem = length-map cs (λ (d : ℕ × Derivation). d.1)

    new : n ≡ length cs → d.1 ≡ c → get_or (clause_cells cs ++ five) (5 * n + 2) 0 ≡ maximum_index c
    new e p =
        let l : 5 * n + 2 ≡ length (clause_cells cs) + 2 = omega (arith, cells_length cs) in
        ap (λ (i : ℕ). get_or (clause_cells cs ++ five) i 0) l ∙ get_or-append-add (clause_cells cs) five 2 0 ∙ ap maximum_index p

    old : n < length cs → get_or (clause_cells cs) (5 * n + 2) 0 ≡ maximum_index c → get_or (clause_cells cs ++ five) (5 * n + 2) 0 ≡ maximum_index c
    old l p = get_or-append (clause_cells cs) five 0 (5 * n + 2) (omega (arith, cells_length cs)) ∙ p

    try : (b : Bool) → eqb n (length (map (λ (d : ℕ × Derivation). d.1) cs)) ≡ b → pick b (some d.1) (entry (map (λ (d : ℕ × Derivation). d.1) cs) n) ≡ some c → (entry (map (λ (d : ℕ × Derivation). d.1) cs) n ≡ some c → get_or (clause_cells cs) (5 * n + 2) 0 ≡ maximum_index c) → get_or (clause_cells cs ++ five) (5 * n + 2) 0 ≡ maximum_index c
    try true p r k = new (eqb→eq n (length (map (λ (d : ℕ × Derivation). d.1) cs)) (to_t (eqb n (length (map (λ (d : ℕ × Derivation). d.1) cs))) p) ∙ same_length_lem) (some_injective r)
    try false p r k =
        let z = entry_below (map (λ (d : ℕ × Derivation). d.1) cs) n c r in
        old (omega (arith, z, same_length_lem)) (k r)
