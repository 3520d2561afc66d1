-- The number that a variable's cell holds counts if the list has the cell there, and then it is the variable's position; else the variable is new and comes to the end.
use mathlib.Core.Path.{◌≡◌, refl, sym, ap, ◌∙◌, subst}
use mathlib.Core.Bool.{Bool, true, false}
use mathlib.Core.List.{List, [], ◌∷◌, ◌++◌}
use Prim.Native.Nat.{ℕ, suc, ◌+◌, ◌≤◌, ◌<◌}
use native.Mathlib.Omega.{arith}
use lib.Dec.{eqb, ltb}
use lib.ListN.{length, get_or, set, length-set, length-append}
use lib.Seq.{get_or-set_same, get_or-set_other}
use borrow.Author.Tests.{eqb-true, eqb-false, eq-eqb, ne_eqb, ltb-true, lt-ltb}
use Rattle.record.specs.Record.{pick}
use Rattle.unification.specs.Nodes.{part, NodesOk}
use Rattle.unification.specs.Row.{Variable, same}
use Rattle.unification.proofs.Tests.{same_eq, same_refl, true_not_false}
use Rattle.appearance.specs.Appearance.{position, noted}
use Rattle.numbering.specs.Numbering.{number_cell, Numberable, NumberAt, NumbersFrom, Numbers, has_number, count_after, NumberReady, TakesNumber}
use Rattle.appearance.proofs.Positions.{noted_old, noted_new}

-- The cell of a variable is its own, and inside the array.
module _ {N : List ℕ} (T : NodesOk N) {x : Variable} (X : Numberable N x) where
  pub cell_inside : number_cell N x < 262208
  cell_inside = let p = T.number x.0 X.row X.variable in let h = X.index in omega arith

  cell_own : {y : Variable} → Numberable N y → number_cell N y ≡ number_cell N x → y ≡ x
  cell_own {y} Y h =
      let a = T.number x.0 X.row X.variable in
      let b = T.number y.0 Y.row Y.variable in
      let p : part N y.0 0 ≡ part N x.0 0 = omega arith in
      let q : y.1 ≡ x.1 = omega arith in
      let o = T.once y.0 x.0 Y.row X.row Y.variable X.variable p in
      λ i. (o i, q i)

  module _ (K L : List ℕ) (n : ℕ) (held : n ≡ get_or K (number_cell N x) 0) where
    -- The list has the cell at the number that the cell holds.
    position_found : (i : ℕ) (seen : List Variable) → NumbersFrom N K L i seen → i ≤ n → n < i + length seen → get_or L n 0 ≡ number_cell N x → i + position seen x ≡ n
    position_found i [] E low high q = absurd (omega arith)
    position_found i (y ∷ ys) E low high q = try (same y x) refl (λ l h. position_found (suc i) ys E.1 l h q)
      where
        try : (b : Bool) → same y x ≡ b → (suc i ≤ n → n < suc i + length ys → suc i + position ys x ≡ n) → i + pick b 0 (suc (position ys x)) ≡ n
        try true p ih = let z : i ≡ n = sym E.0.cell ∙ ap (λ (v : Variable). get_or K (number_cell N v) 0) (same_eq y x p) ∙ sym held in omega arith
        try false p ih = further (eqb n i) refl
          where
            further : (b : Bool) → eqb n i ≡ b → i + suc (position ys x) ≡ n
            further true z =
                let e = eqb-true n i z in
                let c : number_cell N y ≡ number_cell N x = sym E.0.listed ∙ ap (λ (k : ℕ). get_or L k 0) (sym e) ∙ q in
                absurd (true_not_false (ap (λ (v : Variable). same v x) (cell_own E.0.numberable c) ∙ same_refl x) p)
            further false z =
                let d = eqb-false n i z in
                let z' = ih (omega arith) (omega arith) in
                omega arith

    -- It has not: the variable has no number.
    position_none : (i : ℕ) (seen : List Variable) → NumbersFrom N K L i seen → (i ≤ n → n < i + length seen → get_or L n 0 ≡ number_cell N x → ⊥) → position seen x ≡ length seen
    position_none i [] E differs = refl
    position_none i (y ∷ ys) E differs = try (same y x) refl (λ k. position_none (suc i) ys E.1 k)
      where
        try : (b : Bool) → same y x ≡ b → ((suc i ≤ n → n < suc i + length ys → get_or L n 0 ≡ number_cell N x → ⊥) → position ys x ≡ length ys) → pick b 0 (suc (position ys x)) ≡ suc (length ys)
        try true p ih =
            let z : i ≡ n = sym E.0.cell ∙ ap (λ (v : Variable). get_or K (number_cell N v) 0) (same_eq y x p) ∙ sym held in
            absurd (differs (omega arith) (omega arith) (ap (λ (k : ℕ). get_or L k 0) (sym z) ∙ E.0.listed ∙ ap (number_cell N) (same_eq y x p)))
        try false p ih = ap suc (ih (λ low high q. differs (omega arith) (omega arith) q))

  -- A new variable takes the next number.
  numbers_more : (K L : List ℕ) → length K ≡ 262208 → (i : ℕ) (seen : List Variable) → i + length seen < length L → NumbersFrom N K L i seen → length seen ≤ position seen x
      → NumbersFrom N (set K (number_cell N x) (i + length seen)) (set L (i + length seen) (number_cell N x)) i (seen ++ (x ∷ []))
  numbers_more K L roomK i [] roomL E new =
      let e : i + 0 ≡ i = omega arith in
      let l = cell_inside in (
        record {
          numberable = X;
          cell = get_or-set_same K (number_cell N x) (i + 0) 0 (omega arith) ∙ e;
          listed = ap (λ (k : ℕ). get_or (set L (i + 0) (number_cell N x)) k 0) (sym e) ∙ get_or-set_same L (i + 0) (number_cell N x) 0 (omega arith);
        },
        tt,
      )
  numbers_more K L roomK i (y ∷ ys) roomL E new = try (same y x) refl new (λ r k. numbers_more K L roomK (suc i) ys r E.1 k)
    where
      try : (b : Bool) → same y x ≡ b → suc (length ys) ≤ pick b 0 (suc (position ys x))
          → (suc i + length ys < length L → length ys ≤ position ys x → NumbersFrom N (set K (number_cell N x) (suc i + length ys)) (set L (suc i + length ys) (number_cell N x)) (suc i) (ys ++ (x ∷ [])))
          → NumberAt N (set K (number_cell N x) (i + suc (length ys))) (set L (i + suc (length ys)) (number_cell N x)) i y × NumbersFrom N (set K (number_cell N x) (i + suc (length ys))) (set L (i + suc (length ys)) (number_cell N x)) (suc i) (ys ++ (x ∷ []))
      try true p h ih = absurd (omega arith)
      try false p h ih =
          let other : number_cell N y ≡ number_cell N x → ⊥ = λ c. true_not_false (ap (λ (v : Variable). same v x) (cell_own E.0.numberable c) ∙ same_refl x) p in
          let e : suc i + length ys ≡ i + suc (length ys) = omega arith in (
            record {
              numberable = E.0.numberable;
              cell = get_or-set_other K (number_cell N x) (number_cell N y) (i + suc (length ys)) 0 other ∙ E.0.cell;
              listed = get_or-set_other L (i + suc (length ys)) i (number_cell N x) 0 (λ z. omega arith) ∙ E.0.listed;
            },
            subst (λ (m : ℕ). NumbersFrom N (set K (number_cell N x) m) (set L m (number_cell N x)) (suc i) (ys ++ (x ∷ []))) e (ih (omega arith) (omega arith)),
          )

-- The two ways out.
module _ {N K L : List ℕ} {count : ℕ} {x : Variable} (R : NumberReady N K L count x) (cell n : ℕ) (c : cell ≡ number_cell N x) (held : n ≡ get_or K cell 0) where
  holds : n ≡ get_or K (number_cell N x) 0
  holds = held ∙ ap (λ (k : ℕ). get_or K k 0) c

  pub number_found : has_number L count n cell ≡ true → TakesNumber N K K L L count x n
  number_found q seen G = try (ltb n count) refl q
    where
      try : (b : Bool) → ltb n count ≡ b → pick b (eqb (get_or L n 0) cell) false ≡ true → (n ≡ position seen x) × Numbers N K L (count_after count n) (noted seen x)
      try true p e =
          let h = ltb-true n count p in
          let z = position_found R.table R.numberable K L n holds 0 seen G.each (omega arith) (omega (arith, G.counted)) (eqb-true (get_or L n 0) cell e ∙ c) in
          let same_count : count_after count n ≡ count = ap (λ (b : Bool). pick b (suc count) count) (ne_eqb n count (λ d. omega arith)) in
          let old : noted seen x ≡ seen = noted_old seen x (omega (arith, z, G.counted)) in
          (omega (arith, z), record { room = G.room; counted = same_count ∙ G.counted ∙ ap length (sym old); each = subst (NumbersFrom N K L 0) (sym old) G.each })
      try false p e = absurd (true_not_false e refl)

  pub number_new : has_number L count n cell ≡ false → TakesNumber N K (set K cell count) L (set L count cell) count x count
  number_new q seen G =
      let none = position_none R.table R.numberable K L n holds 0 seen G.each differs in
      let new : noted seen x ≡ seen ++ (x ∷ []) = noted_new seen x (omega (arith, none)) in
      let one_more : count_after count count ≡ suc count = ap (λ (b : Bool). pick b (suc count) count) (eq-eqb count count refl) in
      let m : 0 + length seen ≡ count = omega (arith, G.counted) in
      let each = numbers_more R.table R.numberable K L G.room.cells 0 seen (omega (arith, G.room.list, R.room, m)) G.each (omega (arith, none)) in (
        omega (arith, none, G.counted),
        record {
          room = record { cells = length-set K cell count ∙ G.room.cells; list = length-set L count cell ∙ G.room.list };
          counted = one_more ∙ (let z : suc count ≡ length (seen ++ (x ∷ [])) = omega (arith, length-append seen (x ∷ []), m) in z) ∙ ap length (sym new);
          each = subst (NumbersFrom N (set K cell count) (set L count cell) 0) (sym new) (subst (λ (k : ℕ). NumbersFrom N (set K k count) (set L count k) 0 (seen ++ (x ∷ []))) (sym c) (subst (λ (k : ℕ). NumbersFrom N (set K (number_cell N x) k) (set L k (number_cell N x)) 0 (seen ++ (x ∷ []))) m each));
        },
      )
    where
      differs : 0 ≤ n → n < 0 + length seen → get_or L n 0 ≡ number_cell N x → ⊥
      differs low high e = true_not_false (ap (λ (b : Bool). pick b (eqb (get_or L n 0) cell) false) (lt-ltb n count (omega (arith, high, G.counted))) ∙ eq-eqb (get_or L n 0) cell (e ∙ sym c)) q
