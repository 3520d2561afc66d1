-- The pairs of literals: which match, by which substitutions, and which two go together.
use mathlib.Core.Path.{◌≡◌, refl, sym, ap, ◌∙◌, subst}
use mathlib.Core.Logic.{◌⊎◌, inl, inr}
use mathlib.Core.Bool.{Bool, true, false, ◌&&◌}
use mathlib.Core.List.{List}
use Prim.Native.Nat.{ℕ, zero, suc, ◌+◌, ◌-◌, ◌*◌, ◌/◌, ◌%◌, ◌≤◌, ◌<◌}
use native.Mathlib.Omega.{arith}
use lib.Dec.{eqb, leb, ltb, leb→le, ltb→lt}
use lib.ListN.{length, get_or, set, length-set}
use lib.Seq.{get_or-set_same, get_or-set_other}
use borrow.Author.Tests.{eqb-true, eqb-false, eq-eqb}
use Rattle.record.specs.Record.{pick}
use Rattle.unification.specs.Nodes.{part, HasRow}
use Rattle.unification.specs.Term.{Term}
use Rattle.unification.proofs.Tests.{to_t, both_true, true_not_false}
use Rattle.derivation.specs.Derivation.{literal_of}
use Rattle.coverings.specs.Covering.{Substitution, Turns}
use Rattle.images.specs.Matching.{atoms_matched}
use Rattle.matching.specs.Pairs.{is_pair, left_number, right_number, numbers_matched, pair_matched, Pairs, found_pair, pairs_matched}
use Rattle.coverings.proofs.Solutions.{TermsOf, Noted, AtomsCame, atoms_came}
use Rattle.coverings.proofs.Taking.{same_or_not, Holds}

-- Tests as what they are for.
pub together : (a b : Bool) → a ≡ true → b ≡ true → (a && b) ≡ true
together a b p q = rw (p, q) refl

module _ (N O : List ℕ) (term : ℕ → Term ℕ) (H : TermsOf N term) (c d lefts rights : ℕ) (rows_left : (i : ℕ) → i < lefts → HasRow N (part O c i / 2)) (rowsRight : (i : ℕ) → i < rights → HasRow N (part O d i / 2)) where
  -- The literals of a pair, and that σ turns the one into the other.
  abbrev pub PairTurns : Substitution → ℕ → Type 0
  PairTurns σ p = Turns term σ (literal_of (left_number O c p)) (literal_of (right_number O d p))

  pub room : (p : ℕ) → p < 64 → 64 * p + 64 ≤ 4096
  room p l = omega arith

  -- What the notes 𝓛 say of pair p, b being whether it is matched.
  pub record PairCame (p : ℕ) (l : p < 64) (b : Bool) (W : List ℕ) : Type 0 where
    pub is_one : b ≡ true → is_pair lefts rights p ≡ true
    pub forth : b ≡ true → (σ : Substitution) → PairTurns σ p → Noted N term H (64 * p) (room p l) σ W
    pub back : b ≡ true → (σ : Substitution) → Noted N term H (64 * p) (room p l) σ W → PairTurns σ p
    pub clash : b ≡ false → is_pair lefts rights p ≡ true → (σ : Substitution) → PairTurns σ p → ⊥

  -- It goes by the pair's own cells.
  noted_same : (p : ℕ) (l : p < 64) (σ : Substitution) (W U : List ℕ) → ((z : ℕ) → 64 * p ≤ z → z < 64 * p + 64 → get_or W z 0 ≡ get_or U z 0) → Noted N term H (64 * p) (room p l) σ W → Noted N term H (64 * p) (room p l) σ U
  noted_same p l σ W U s h z w e v k q = h z w (s z (omega arith) (omega arith) ∙ e) v k q

  came_same : (p : ℕ) (l : p < 64) (b : Bool) (W U : List ℕ) → ((z : ℕ) → 64 * p ≤ z → z < 64 * p + 64 → get_or W z 0 ≡ get_or U z 0) → PairCame p l b W → PairCame p l b U
  came_same p l b W U s A = record {
    is_one = A.is_one;
    forth = λ t σ q. noted_same p l σ W U s (A.forth t σ q);
    back = λ t σ q. A.back t σ (noted_same p l σ U W (λ z a k. sym (s z a k)) q);
    clash = A.clash;
  }

  -- ── One pair ──

  -- Signs are equal exactly if the numbers leave the same remainder.
  half_signs : (x z : ℕ) → eqb (x % 2) (z % 2) ≡ true → (literal_of x).0 ≡ (literal_of z).0
  half_signs x z q = ap (λ (n : ℕ). eqb n 1) (eqb-true (x % 2) (z % 2) q)

  signs_half : (x z : ℕ) → (literal_of x).0 ≡ (literal_of z).0 → eqb (x % 2) (z % 2) ≡ true
  signs_half x z q = try (eqb (x % 2) 1) refl
    where
      try : (b : Bool) → eqb (x % 2) 1 ≡ b → eqb (x % 2) (z % 2) ≡ true
      try true e = eq-eqb (x % 2) (z % 2) (eqb-true (x % 2) 1 e ∙ sym (eqb-true (z % 2) 1 (sym q ∙ e)))
      try false e = let a = eqb-false (x % 2) 1 e in let b = eqb-false (z % 2) 1 (sym q ∙ e) in eq-eqb (x % 2) (z % 2) (omega arith)

  pub record OneCame (p : ℕ) (l : p < 64) (W : List ℕ) (R : Bool × List ℕ) : Type 0 where
    pub long : length R.1 ≡ 4096
    pub there : Holds (λ z w. HasRow N w) R.1
    pub kept : (z : ℕ) → (z < 64 * p) ⊎ (64 * p + 64 ≤ z) → get_or R.1 z 0 ≡ get_or W z 0
    pub came : PairCame p l R.0 R.1

  module _ (p : ℕ) (l : p < 64) (W : List ℕ) (long : length W ≡ 4096) (there : Holds (λ z w. HasRow N w) W) (fresh : (v : ℕ) → v < 64 → get_or W (64 * p + v) 0 ≡ 0) where
    nothing : ((b : Bool) → b ≡ false → is_pair lefts rights p ≡ true → (σ : Substitution) → PairTurns σ p → ⊥) → OneCame p l W (false, W)
    nothing k = record {
      long = long;
      there = there;
      kept = λ z o. refl;
      came = record { is_one = λ t. absurd (true_not_false t refl); forth = λ t. absurd (true_not_false t refl); back = λ t. absurd (true_not_false t refl); clash = λ t. k false t };
    }

    numbers_came : is_pair lefts rights p ≡ true → HasRow N (left_number O c p / 2) → HasRow N (right_number O d p / 2) → OneCame p l W (numbers_matched N p (left_number O c p) (right_number O d p) W)
    numbers_came one hx hz = try (eqb (left_number O c p % 2) (right_number O d p % 2)) refl
      where
        atoms : (R : Bool × List ℕ) → AtomsCame N term H (64 * p) (room p l) (left_number O c p / 2) (right_number O d p / 2) W R → eqb (left_number O c p % 2) (right_number O d p % 2) ≡ true → OneCame p l W R
        atoms R A q = record {
          long = A.long;
          there = A.there;
          kept = A.kept;
          came = record { is_one = λ t. one; forth = λ t σ k. A.forth t σ k.1; back = λ t σ k. (half_signs (left_number O c p) (right_number O d p) q, A.back t σ k); clash = λ t _ σ k. A.clash t σ k.1 };
        }

        try : (b : Bool) → eqb (left_number O c p % 2) (right_number O d p % 2) ≡ b → OneCame p l W (pick b (atoms_matched N (64 * p) (left_number O c p / 2) (right_number O d p / 2) W) (false, W))
        try true q = atoms (atoms_matched N (64 * p) (left_number O c p / 2) (right_number O d p / 2) W) (atoms_came N term H (64 * p) (room p l) (left_number O c p / 2) (right_number O d p / 2) hx hz W long there fresh) q
        try false q = nothing (λ b t _ σ k. true_not_false (signs_half (left_number O c p) (right_number O d p) k.0) q)

    pair_came : OneCame p l W (pair_matched N O c d lefts rights p W)
    pair_came = try (is_pair lefts rights p) refl
      where
        try : (b : Bool) → is_pair lefts rights p ≡ b → OneCame p l W (pick b (numbers_matched N p (left_number O c p) (right_number O d p) W) (false, W))
        try true q =
            let a = both_true (ltb (p / 8) lefts) (leb 1 (p % 8) && leb (p % 8) rights) q in
            let b = both_true (leb 1 (p % 8)) (leb (p % 8) rights) a.1 in
            let x = ltb→lt (p / 8) lefts (to_t (ltb (p / 8) lefts) a.0) in
            let y = leb→le 1 (p % 8) (to_t (leb 1 (p % 8)) b.0) in
            let z = leb→le (p % 8) rights (to_t (leb (p % 8) rights) b.1) in
            numbers_came q (rows_left (p / 8) x) (rowsRight (p % 8 - 1) (omega arith))
        try false q = nothing (λ b t o. absurd (true_not_false o q))

  -- ── All pairs ──

  pub record AllCame (k : ℕ) (P : Pairs) : Type 0 where
    pub found_long : length P.found ≡ 64
    pub notes_long : length P.notes ≡ 4096
    pub there : Holds (λ z w. HasRow N w) P.notes
    pub clear : (z : ℕ) → 64 * k ≤ z → get_or P.notes z 0 ≡ 0
    pub came : (p : ℕ) (l : p < 64) → p < k → PairCame p l (get_or P.found p false) P.notes

  pub pairs_came : (k : ℕ) → k ≤ 64 → (P : Pairs) → AllCame 0 P → AllCame k (pairs_matched N O c d lefts rights k P)
  unfolding pairs_matched
  pairs_came zero b P A = A
  pairs_came (suc k) b P A = next (pairs_matched N O c d lefts rights k P) (pairs_came k (omega arith) P A)
    where
      next : (Q : Pairs) → AllCame k Q → AllCame (suc k) (found_pair k Q.found (pair_matched N O c d lefts rights k Q.notes))
      next Q B = with' (pair_matched N O c d lefts rights k Q.notes) (pair_came k (omega arith) Q.notes B.notes_long B.there (λ v l. B.clear (64 * k + v) (omega arith)))
        where
          with' : (R : Bool × List ℕ) → OneCame k (omega arith) Q.notes R → AllCame (suc k) (found_pair k Q.found R)
          with' R C = record {
            found_long = length-set Q.found k R.0 ∙ B.found_long;
            notes_long = C.long;
            there = C.there;
            clear = λ z l. C.kept z (inr (omega arith)) ∙ B.clear z (omega arith);
            came = λ p l m. each p l m (same_or_not p k);
          }
            where
              each : (p : ℕ) (l : p < 64) → p < suc k → (p ≡ k) ⊎ ¬ (p ≡ k) → PairCame p l (get_or (set Q.found k R.0) p false) R.1
              each p l m (inl q) =
                  let e : get_or (set Q.found k R.0) p false ≡ R.0 = ap (λ (z : ℕ). get_or (set Q.found k R.0) z false) q ∙ get_or-set_same Q.found k R.0 false (omega (arith, B.found_long)) in
                  subst (λ (z : Bool). PairCame p l z R.1) (sym e) (moved p q l)
                where
                  moved : (p : ℕ) → p ≡ k → (l : p < 64) → PairCame p l R.0 R.1
                  moved p q l = record {
                    is_one = λ t. rw q (C.came.is_one t);
                    forth = λ t σ s. rw q (C.came.forth t σ (rw q at s));
                    back = λ t σ s. rw q (C.came.back t σ (rw q at s));
                    clash = λ t o σ s. C.came.clash t (rw q at o) σ (rw q at s);
                  }
              each p l m (inr n) =
                  let e : get_or Q.found p false ≡ get_or (set Q.found k R.0) p false = sym (get_or-set_other Q.found k p R.0 false n) in
                  subst (λ (z : Bool). PairCame p l z R.1) e (came_same p l (get_or Q.found p false) Q.notes R.1 (λ z a u. sym (C.kept z (inl (omega arith)))) (B.came p l (omega arith)))
