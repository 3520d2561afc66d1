-- Right literals looked up one after another.
use mathlib.Core.Path.{◌≡◌, refl, sym, ap, ap₂, ◌∙◌}
use mathlib.Core.Bool.{Bool, true, false, ◌&&◌, not, beq}
use mathlib.Core.Option.{Option, none, some}
use mathlib.Core.List.{List, [], ◌∷◌, ◌++◌}
use Prim.Native.Nat.{ℕ, zero, suc, ◌+◌, ◌*◌, ◌≤◌, ◌<◌}
use native.Mathlib.Omega.{arith}
use lib.ListN.{length, get_or, set, take, drop, length-set, length-drop, length-map}
use lib.Seq.{get_or-set_same, get_or-set_other, get_or-drop}
use Rattle.unification.specs.Listed.{listed_at, listed_from}
use Rattle.unification.specs.Row.{Expression}
use Rattle.unification.proofs.Lists.{map_append}
use Rattle.unification.proofs.Tests.{some_not_none, some_injective}
use Rattle.derivation.specs.Derivation.{literals, Literal, Derivation, numbered, numbered_all}
use Rattle.derivation.specs.Stored.{Stored}
use Rattle.derivation.proofs.Literals.{numbered_cons, numbered_all_cons}
use Rattle.named_literals.specs.Named.{fields_of_literal, named_literal}
use Rattle.verdict.specs.Refusal.{literals_in, equal_signs, all_opposite}
use Rattle.verdict.specs.State.{derivations, clause_of}
use Rattle.verdict.specs.Step.{atoms}
use Rattle.demands.proofs.Inversions.{entry_none, entry_some}
use Rattle.inference.specs.Rights.{AtomListed, rights_answer, RightsNamed}
use Rattle.inference.specs.Stepping.{ClausesStored}
use Rattle.inference.proofs.StepTests.{equal_signs-beq}
use Rattle.named_literals.specs.declared.NamedLiteral.{NamedLiteral}
use Rattle.std.specs.Prelude.{Some, None}
use Rattle.std.specs.Prelude as std

-- Two cells written are one more expression listed.
module _ (L : List ℕ) (j row index : ℕ) (long : length L ≡ 8) (inside : j < 4) where
  abbrev L' : List ℕ
  L' = set (set L (2 * j) row) (2 * j + 1) index

  others : (i : ℕ) → i < j → listed_at (set (set L (2 * j) row) (2 * j + 1) index) i ≡ listed_at L i
  others i l = ap₂ (λ (a b : ℕ). (a, b))
      (get_or-set_other (set L (2 * j) row) (2 * j + 1) (2 * i) index 0 (λ e. omega arith) ∙ get_or-set_other L (2 * j) (2 * i) row 0 (λ e. omega arith))
      (get_or-set_other (set L (2 * j) row) (2 * j + 1) (2 * i + 1) index 0 (λ e. omega arith) ∙ get_or-set_other L (2 * j) (2 * i + 1) row 0 (λ e. omega arith))

  this : listed_at (set (set L (2 * j) row) (2 * j + 1) index) j ≡ (row, index)
  this = ap₂ (λ (a b : ℕ). (a, b))
      (get_or-set_other (set L (2 * j) row) (2 * j + 1) (2 * j) index 0 (λ e. omega arith) ∙ get_or-set_same L (2 * j) row 0 (omega arith))
      (get_or-set_same (set L (2 * j) row) (2 * j + 1) index 0 (omega (arith, length-set L (2 * j) row)))

  up_to : (i n : ℕ) → i + n ≡ j → listed_from (set (set L (2 * j) row) (2 * j + 1) index) i (suc n) ≡ listed_from L i n ++ ((row, index) ∷ [])
  up_to i zero e = let z : i ≡ j = omega arith in ap (λ (a : Expression). a ∷ []) (ap (listed_at (set (set L (2 * j) row) (2 * j + 1) index)) z ∙ this)
  up_to i (suc n) e = ap₂ (λ (a : Expression) (as' : List Expression). a ∷ as') (others i (omega arith)) (up_to (suc i) n (omega arith))

  pub atom_listed : AtomListed L (set (set L (2 * j) row) (2 * j + 1) index) j (row, index)
  atom_listed = record { added = let z : j + 1 ≡ suc j = omega arith in ap (listed_from (set (set L (2 * j) row) (2 * j + 1) index) 0) z ∙ up_to 0 j (omega arith) }

-- One more sign.
pub opposite_more : (s : Bool) (ms : List Literal) (l : Literal) → (all_opposite s ms && not (equal_signs s l.0)) ≡ all_opposite s (ms ++ (l ∷ []))
opposite_more s [] l = one (not (equal_signs s l.0))
  where
    one : (b : Bool) → (true && b) ≡ (b && true)
    one true = refl
    one false = refl
opposite_more s (m ∷ ms) l = together (not (equal_signs s m.0)) (all_opposite s ms) (not (equal_signs s l.0)) ∙ ap (λ (b : Bool). not (equal_signs s m.0) && b) (opposite_more s ms l)
  where
    together : (a b c : Bool) → ((a && b) && c) ≡ (a && (b && c))
    together true b c = refl
    together false b c = refl

-- One more number.
numbered_more : {A : Type 0} (xs : List A) (ns : List ℕ) (n : ℕ) (ys : List A) (y : A) → numbered_all xs ns ≡ some ys → numbered xs n ≡ some y → numbered_all xs (ns ++ (n ∷ [])) ≡ some (ys ++ (y ∷ []))
numbered_more xs [] n ys y p q = numbered_all_cons xs n [] y [] q refl ∙ ap (λ (zs : List _). some (zs ++ (y ∷ []))) (some_injective p)
numbered_more xs (k ∷ ns) n ys y p q =
    let z = numbered_cons xs k ns ys p in
    numbered_all_cons xs k (ns ++ (n ∷ [])) z.0 (z.1 ++ (y ∷ [])) z.2 (numbered_more xs ns n z.1 y z.3 q) ∙ ap (λ (zs : List _). some (zs ++ (y ∷ []))) z.4

numbered_lacks : {A : Type 0} (xs : List A) (ns ms : List ℕ) (n : ℕ) → numbered xs n ≡ none → numbered_all xs (ns ++ (n ∷ ms)) ≡ none
numbered_lacks {A} xs [] ms n q = ap (λ (o : Option A). elim o [ none ↦ none | some l ↦ elim (numbered_all xs ms) [ none ↦ none | some ls ↦ some (l ∷ ls) ] ]) q
numbered_lacks {A} xs (k ∷ ns) ms n q = try (numbered xs k) (numbered_lacks xs ns ms n q)
  where
    try : (o : Option A) → numbered_all xs (ns ++ (n ∷ ms)) ≡ none → ◌≡◌ {A = Option (List A)} (elim o [ none ↦ none | some l ↦ elim (numbered_all xs (ns ++ (n ∷ ms))) [ none ↦ none | some ls ↦ some (l ∷ ls) ] ]) none
    try none e = refl
    try (some l) e = ap (λ (p : Option (List A)). elim p [ none ↦ none | some ls ↦ some (l ∷ ls) ]) e

take_more : (xs : List ℕ) (j : ℕ) → j < length xs → take (suc j) xs ≡ take j xs ++ (get_or xs j 0 ∷ [])
take_more [] j l = absurd (omega arith)
take_more (x ∷ xs) zero l = refl
take_more (x ∷ xs) (suc j) l = ap (λ (ys : List ℕ). x ∷ ys) (take_more xs j (omega arith))

take_at : (xs : List ℕ) (j n : ℕ) → j < n → j < length xs → (rest : List ℕ) × (take n xs ≡ take j xs ++ (get_or xs j 0 ∷ rest))
take_at [] j n l k = absurd (omega arith)
take_at (x ∷ xs) zero zero l k = absurd (omega arith)
take_at (x ∷ xs) zero (suc n) l k = (take n xs, refl)
take_at (x ∷ xs) (suc j) zero l k = absurd (omega arith)
take_at (x ∷ xs) (suc j) (suc n) l k = let t = take_at xs j n (omega arith) (omega arith) in (t.0, ap (λ (ys : List ℕ). x ∷ ys) t.1)

-- The first j right literals exist and are listed, and their signs are known.
pub record SoFar (O C : List ℕ) (c : ℕ) (numbers L : List ℕ) (s opposite : Bool) (j : ℕ) : Type 0 where
  pub room : length L ≡ 8
  pub literals' : (B : List ℕ) (d : Derivation) → Stored O C B c d → (ms : List Literal) × (numbered_all (literals d) (take j (drop 3 numbers)) ≡ some ms) × (listed_from L 0 j ≡ atoms ms) × (opposite ≡ all_opposite s ms)

pub so_far_none : {O C : List ℕ} {c : ℕ} {numbers L : List ℕ} {s : Bool} → length L ≡ 8 → SoFar O C c numbers L s true 0
so_far_none r = record { room = r; literals' = λ B d t. ([], refl, refl, refl) }

module _ {O C : List ℕ} {c : ℕ} {numbers L : List ℕ} {s opposite : Bool} {j : ℕ} (seven : length numbers ≡ 7) (few : j < 4) (H : SoFar O C c numbers L s opposite j)
    (l : std.Option NamedLiteral) (q : ℕ) (pq : q ≡ get_or numbers (3 + j) 0) (looked : (B : List ℕ) (d : Derivation) → Stored O C B c d → l ≡ named_literal (numbered (literals d) q)) where
  inside : j < length (drop 3 numbers)
  inside = rw length-drop (omega (arith, seven))

  number_is : q ≡ get_or (drop 3 numbers) j 0
  number_is = pq ∙ sym (get_or-drop 3 numbers j 0)

  found_is : (x : NamedLiteral) → l ≡ Some x → (o : Option Literal) → l ≡ named_literal o → o ≡ some (x.positive, (x.row, x.index))
  found_is x e none p = absurd (let z : ◌≡◌ {A = ℕ} 0 1 = cc in omega arith)
  found_is x e (some m) p = let f : fields_of_literal m ≡ x = cc in ap (λ (y : NamedLiteral). some (y.positive, (y.row, y.index))) f

  pub so_far_more : (x : NamedLiteral) → l ≡ Some x → (L₁ : List ℕ) → length L₁ ≡ 8 → AtomListed L L₁ j (x.row, x.index) → SoFar O C c numbers L₁ s (opposite && not (beq s x.positive)) (j + 1)
  so_far_more x e L₁ room W = record {
    room = room;
    literals' = λ B d t.
        let h = H.literals' B d t in
        let m : Literal = (x.positive, (x.row, x.index)) in
        let f = found_is x e (numbered (literals d) q) (looked B d t) in (
          h.0 ++ (m ∷ []),
          ap (numbered_all (literals d)) ((let z : j + 1 ≡ suc j = omega arith in ap (λ (i : ℕ). take i (drop 3 numbers)) z) ∙ take_more (drop 3 numbers) j inside) ∙ numbered_more (literals d) (take j (drop 3 numbers)) (get_or (drop 3 numbers) j 0) h.0 m h.1 (ap (numbered (literals d)) (sym number_is) ∙ f),
          W.added ∙ ap (λ (es : List Expression). es ++ ((x.row, x.index) ∷ [])) h.2 ∙ sym (map_append (λ (m : Literal). m.1) h.0 (m ∷ [])),
          ap₂ (λ (b v : Bool). b && not v) h.3 (sym (equal_signs-beq s x.positive)) ∙ opposite_more s h.0 m,
        );
  }

  absent_is : l ≡ None → (o : Option Literal) → l ≡ named_literal o → o ≡ none
  absent_is e none p = refl
  absent_is e (some m) p = absurd (let z : ◌≡◌ {A = ℕ} 0 1 = cc in omega arith)

  pub right_missing : {count : ℕ} → c ≡ get_or numbers 2 0 → c < count → (n : ℕ) → j < n → l ≡ None → RightsNamed O C count numbers n s L None
  right_missing {count} pc there n less e = record { room = H.room; answer = λ R. sym (ap (rights_answer s) (lacks R)); listed = λ R y p. absurd (some_not_none (lacks R) p) }
    where
      lacks : (R : ClausesStored O C count) → literals_in (take n (drop 3 numbers)) (clause_of R.state (get_or numbers 2 0)) ≡ none
      lacks R =
          let d = entry_some (derivations R.state) c (omega (arith, R.size, length-map R.state.clauses (λ (x : ℕ × Derivation). x.1))) in
          let x = absent_is e (numbered (literals d.0) q) (looked R.bindings d.0 (R.stored c d.0 d.1)) in
          let t = take_at (drop 3 numbers) j n less inside in
          let y = ap (numbered_all (literals d.0)) t.1 ∙ numbered_lacks (literals d.0) (take j (drop 3 numbers)) t.0 (get_or (drop 3 numbers) j 0) (ap (numbered (literals d.0)) (sym number_is) ∙ x) in
          ap (literals_in (take n (drop 3 numbers))) (ap (clause_of R.state) (sym pc) ∙ d.1) ∙ ap (λ (o : Option (List Literal)). elim o [ some ls ↦ some (d.0, ls) | none ↦ none ]) y

-- The clause does not exist.
pub clause_missing : {O C : List ℕ} {count c : ℕ} {numbers L : List ℕ} {s : Bool} → length L ≡ 8 → c ≡ get_or numbers 2 0 → count ≤ c → (n : ℕ) → RightsNamed O C count numbers n s L None
clause_missing {O} {C} {count} {c} {numbers} {L} {s} r pc past n = record { room = r; answer = λ R. sym (ap (rights_answer s) (lacks R)); listed = λ R y p. absurd (some_not_none (lacks R) p) }
  where
    lacks : (R : ClausesStored O C count) → literals_in (take n (drop 3 numbers)) (clause_of R.state (get_or numbers 2 0)) ≡ none
    lacks R = ap (literals_in (take n (drop 3 numbers))) (ap (clause_of R.state) (sym pc) ∙ entry_none (derivations R.state) c (omega (arith, R.size, length-map R.state.clauses (λ (x : ℕ × Derivation). x.1))))

-- All of them exist.
pub rights_listed : {O C : List ℕ} {count c : ℕ} {numbers L : List ℕ} {s opposite : Bool} {j n : ℕ} → SoFar O C c numbers L s opposite j → j ≡ n → c ≡ get_or numbers 2 0 → c < count → RightsNamed O C count numbers n s L (Some opposite)
rights_listed {O} {C} {count} {c} {numbers} {L} {s} {opposite} {j} {n} H same pc there = record {
  room = H.room;
  answer = λ R. let w = these R in ap Some w.4 ∙ sym (ap (rights_answer s) w.2);
  listed = λ R y p. let w = these R in w.3 ∙ ap (λ (z : Derivation × List Literal). atoms z.1) (some_injective (sym w.2 ∙ p));
}
  where
    these : (R : ClausesStored O C count) → (d : Derivation) × (ms : List Literal) × (literals_in (take n (drop 3 numbers)) (clause_of R.state (get_or numbers 2 0)) ≡ some (d, ms)) × (listed_from L 0 n ≡ atoms ms) × (opposite ≡ all_opposite s ms)
    these R =
        let d = entry_some (derivations R.state) c (omega (arith, R.size, length-map R.state.clauses (λ (x : ℕ × Derivation). x.1))) in
        let h = H.literals' R.bindings d.0 (R.stored c d.0 d.1) in (
          d.0,
          h.0,
          ap (literals_in (take n (drop 3 numbers))) (ap (clause_of R.state) (sym pc) ∙ d.1) ∙ ap (λ (o : Option (List Literal)). elim o [ some ls ↦ some (d.0, ls) | none ↦ none ]) (ap (λ (i : ℕ). numbered_all (literals d.0) (take i (drop 3 numbers))) (sym same) ∙ h.1),
          ap (listed_from L 0) (sym same) ∙ h.2,
          h.3,
        )
