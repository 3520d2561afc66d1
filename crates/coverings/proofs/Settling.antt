-- What a comparison of the literals of two clauses decides, and the answer that is due by it.
use mathlib.Core.Path.{◌≡◌, refl, sym, ap, ap₂, ◌∙◌, subst}
use mathlib.Core.Bool.{Bool, true, false}
use mathlib.Core.Option.{Option, some}
use mathlib.Core.List.{List, ◌∷◌, ◌++◌}
use Prim.Native.Nat.{ℕ, zero, suc, ◌+◌, ◌-◌, ◌/◌, ◌≤◌, ◌<◌}
use native.Mathlib.Omega.{arith}
use lib.ListN.{length, get_or, replicate, length-replicate}
use Rattle.record.specs.Record.{File}
use Rattle.unification.specs.Nodes.{part, HasRow}
use Rattle.unification.specs.Term.{Term, var}
use Rattle.derivation.specs.Derivation.{input, RowLiteral, Derivation}
use Rattle.verdict.specs.State.{arity_of, State, clause_of}
use Rattle.verdict.specs.Tables.{Tables}
use Rattle.verdict.specs.Verdict.{Stands}
use Rattle.verdict.proofs.Endings.{ending_stands}
use Rattle.coverings.specs.Answering.{Answer, covers, covers_not, refused_with, ten_numbers, Comparable, term_in, AnswerPromised}
use Rattle.coverings.specs.Choosing.{numbers_from, comparison_numbers, comparison_from, comparison}
use Rattle.coverings.specs.Covering.{Substitution, Works, NotAfter}
use Rattle.matching.specs.Pairs.{Pairs, pairs_matched, table_filled}
use Rattle.matching.specs.Searching.{searched}
use Rattle.coverings.proofs.Choices.{numbers_length, LiteralsAs, table_cell, decided}
use Rattle.coverings.proofs.Earliest.{search_came}
use Rattle.coverings.proofs.PairLaws.{AllCame, pairs_came}
use Rattle.coverings.proofs.Solutions.{TermsOf}
use Rattle.entry.proofs.NodeTable.{zeros_read}
use Rattle.coverings.proofs.Truth.{Formed, covered_true}
use Rattle.coverings.proofs.OneAnswer.{not_refused_yes, not_refused_no}

-- ── The seven numbers ──

zeros_from : (X : List ℕ) (i m : ℕ) → ((j : ℕ) → i ≤ j → get_or X j 0 ≡ 0) → numbers_from X i m ≡ replicate m 0
zeros_from X i zero h = refl
zeros_from X i (suc m) h = ap₂ (λ (x : ℕ) (xs : List ℕ). x ∷ xs) (h i (omega arith)) (zeros_from X (suc i) m (λ j l. h j (omega arith)))

-- Numbers up to k, and zeros after them.
numbers_padded : (X : List ℕ) (i k m : ℕ) → ((j : ℕ) → i + k ≤ j → get_or X j 0 ≡ 0) → numbers_from X i (k + m) ≡ numbers_from X i k ++ replicate m 0
numbers_padded X i zero m h = let z : 0 + m ≡ m = omega arith in ap (numbers_from X i) z ∙ zeros_from X i m (λ j l. h j (omega arith))
numbers_padded X i (suc k) m h = let z : suc k + m ≡ suc (k + m) = omega arith in ap (numbers_from X i) z ∙ ap (λ (xs : List ℕ). get_or X i 0 ∷ xs) (numbers_padded X (suc i) k m (λ j l. h j (omega arith)))

-- The answer that the search has come to.
abbrev pub answer_from : ℕ → Bool × List ℕ → Answer
answer_from k (true, X) = covers (numbers_from X 0 k)
answer_from k (false, X) = covers_not

pub numbers_of_lem : (k : ℕ) → k ≤ 7 → (R : Bool × List ℕ) → ((j : ℕ) → k ≤ j → get_or R.1 j 0 ≡ 0) → comparison_numbers R ≡ ten_numbers (answer_from k R)
numbers_of_lem k l (true, X) h =
    let e : 7 ≡ k + (7 - k) = omega arith in
    ap (λ (xs : List ℕ). 1 ∷ 0 ∷ 0 ∷ xs)
    (ap (numbers_from X 0) e ∙ numbers_padded X 0 k (7 - k) (λ j b. h j (omega arith)) ∙ ap (λ (m : ℕ). numbers_from X 0 k ++ replicate (7 - m) 0) (sym (numbers_length X 0 k)))
numbers_of_lem k l (false, X) h = refl

-- ── Two clauses with their literals ──

module _ (N O : List ℕ) (term : ℕ → Term ℕ) (H : TermsOf N term) (c d lefts rights : ℕ) (rows_left : (i : ℕ) → i < lefts → HasRow N (part O c i / 2)) (rowsRight : (i : ℕ) → i < rights → HasRow N (part O d i / 2))
    (fewC : lefts ≤ 7) (fewD : rights ≤ 7) (C D : List RowLiteral) (isC : LiteralsAs (part O c) lefts C) (isD : LiteralsAs (part O d) rights D)
    (Good : Term ℕ → Type 0) (goodVariable : (v : ℕ) → Good (var v)) (goodRow : (w : ℕ) → HasRow N w → Good (term w)) where
  -- What a comparison decides.
  pub record Settled (R : Bool × List ℕ) : Type 0 where
    pub works : R.0 ≡ true → (σ : Substitution) × Works term σ C D (numbers_from R.1 0 lefts) × ((v : ℕ) → Good (σ v))
    pub least : R.0 ≡ true → (τ : Substitution) (ms : List ℕ) → Works term τ C D ms → NotAfter (numbers_from R.1 0 lefts) ms
    pub none : R.0 ≡ false → (τ : Substitution) (ms : List ℕ) → Works term τ C D ms → ⊥
    pub past : (j : ℕ) → lefts ≤ j → get_or R.1 j 0 ≡ 0

  none_yet : (F : List Bool) (W : List ℕ) → length F ≡ 64 → length W ≡ 4096 → ((z : ℕ) → get_or W z 0 ≡ 0) → AllCame N O term H c d lefts rights rows_left rowsRight 0 (record { found = F; notes = W })
  none_yet F W l m h = record {
    found_long = l;
    notes_long = m;
    there = λ z w e. let q : ◌≡◌ {A = ℕ} 0 (suc w) = sym (h z) ∙ e in absurd (omega arith);
    clear = λ z b. h z;
    came = λ p b k. absurd (omega arith);
  }

  settled_from : (F : List Bool) (W : List ℕ) (T : List Bool) (X : List ℕ) → length F ≡ 64 → length W ≡ 4096 → ((z : ℕ) → get_or W z 0 ≡ 0) → length T ≡ 4096 → length X ≡ 8 → ((z : ℕ) → get_or X z 0 ≡ 0) → Settled (comparison_from N O c d lefts rights F W T X)
  settled_from F W T X l m h t x z = with_pairs (pairs_matched N O c d lefts rights 64 (record { found = F; notes = W })) (pairs_came N O term H c d lefts rights rows_left rowsRight 64 (omega arith) (record { found = F; notes = W }) (none_yet F W l m h))
    where
      with_pairs : (P : Pairs) → AllCame N O term H c d lefts rights rows_left rowsRight 64 P → Settled (searched (table_filled P.found P.notes 4096 T) rights lefts 0 X)
      with_pairs P A =
          let G = decided N O term H c d lefts rights rows_left rowsRight fewC fewD P A (table_filled P.found P.notes 4096 T) (λ y b. table_cell P.found P.notes 4096 T (omega arith) y b) C D isC isD Good goodVariable goodRow X (omega arith) in
          record {
            works = G.works;
            least = G.least;
            none = G.none;
            past = λ j b. sym ((search_came (table_filled P.found P.notes 4096 T) rights lefts 0 X (omega arith)).past j (omega arith)) ∙ z j;
          }

  pub settled : Settled (comparison N O c d lefts rights)
  unfolding comparison
  settled = settled_from (replicate 64 false) (replicate 4096 0) (replicate 4096 false) (replicate 8 0) (length-replicate {A = Bool} 64 false) (length-replicate {A = ℕ} 4096 0) (zeros_read 4096) (length-replicate {A = Bool} 4096 false) (length-replicate {A = ℕ} 8 0) (zeros_read 8)

-- ── The answer that is due ──

-- Nothing to compare: the answer is the refusal.
pub nothing_due : (file : File) (before : Tables) (c d : ℕ) → ((S : State) (C D : List RowLiteral) → ¬ Comparable file before c d S C D) → AnswerPromised file before c d (refused_with 15 0)
nothing_due file before c d h = record {
  refused_if = λ k. refl;
  refused_only = λ n k e. h;
  yes_if = λ S C D K. absurd (h S C D K);
  yes_only = λ S C D K. absurd (h S C D K);
  earliest = λ S C D K. absurd (h S C D K);
  no_if = λ S C D K. absurd (h S C D K);
  no_only = λ S C D K. absurd (h S C D K);
  truth = λ S C D K. absurd (h S C D K);
}

input_parts : {i j : ℕ} {ls ms : List RowLiteral} → ◌≡◌ {A = Option Derivation} (some (input i ls)) (some (input j ms)) → ls ≡ ms
input_parts e = cc

covers_parts : {ns ms : List ℕ} → covers ns ≡ covers ms → ns ≡ ms
covers_parts e = cc

not_covers : {ns : List ℕ} → covers_not ≡ covers ns → ⊥
not_covers e = let z : ◌≡◌ {A = ℕ} 0 1 = cc in omega arith

-- What is due of one comparison is due of the file: there is one state and one list of literals for each clause.
module _ (file : File) (before : Tables) (c d : ℕ) (S : State) (C D : List RowLiteral) (K : Comparable file before c d S C D) where
  one_state : (T : State) → Stands file T → T ≡ S
  one_state T st = ending_stands (sym st.reads ∙ K.stands.reads)

  one_left : (T : State) (E G : List RowLiteral) → Comparable file before c d T E G → E ≡ C
  one_left T E G L = input_parts (sym L.is_left ∙ ap (λ (U : State). clause_of U c) (one_state T L.stands) ∙ K.is_left)

  one_right : (T : State) (E G : List RowLiteral) → Comparable file before c d T E G → G ≡ D
  one_right T E G L = input_parts (sym L.is_right ∙ ap (λ (U : State). clause_of U d) (one_state T L.stands) ∙ K.is_right)

  -- Works in one comparison, works in the other.
  carried : (T : State) (E G : List RowLiteral) → Comparable file before c d T E G → (σ : Substitution) (ns : List ℕ) → Works (term_in T) σ E G ns → Works (term_in S) σ C D ns
  carried T E G L σ ns h =
      subst (λ (X : List RowLiteral). Works (term_in S) σ C X ns) (one_right T E G L)
      (subst (λ (X : List RowLiteral). Works (term_in S) σ X G ns) (one_left T E G L)
      (subst (λ (U : State). Works (term_in U) σ E G ns) (one_state T L.stands) h))

  back : (T : State) (E G : List RowLiteral) → Comparable file before c d T E G → (σ : Substitution) (ns : List ℕ) → Works (term_in S) σ C D ns → Works (term_in T) σ E G ns
  back T E G L σ ns h =
      subst (λ (U : State). Works (term_in U) σ E G ns) (sym (one_state T L.stands))
      (subst (λ (X : List RowLiteral). Works (term_in S) σ X G ns) (sym (one_left T E G L))
      (subst (λ (X : List RowLiteral). Works (term_in S) σ C X ns) (sym (one_right T E G L)) h))

  pub yes_due : (ns : List ℕ) → (σ : Substitution) × Works (term_in S) σ C D ns × ((v : ℕ) → Formed (arity_of S) (σ v)) → ((τ : Substitution) (ms : List ℕ) → Works (term_in S) τ C D ms → NotAfter ns ms) → AnswerPromised file before c d (covers ns)
  yes_due ns w least = record {
    refused_if = λ h. absurd (h S C D K);
    refused_only = λ n k e. absurd (not_refused_yes e);
    yes_if = λ T E G L σ ms h. (ns, refl);
    yes_only = λ T E G L ms e. (w.0, back T E G L w.0 ms (subst (Works (term_in S) w.0 C D) (covers_parts e) w.1));
    earliest = λ T E G L ms e σ ks h. subst (λ (xs : List ℕ). NotAfter xs ks) (covers_parts e) (least σ ks (carried T E G L σ ks h));
    no_if = λ T E G L h. absurd (h w.0 ns (back T E G L w.0 ns w.1));
    no_only = λ T E G L e. absurd (not_covers (sym e));
    truth = λ T E G L ms e A all. covered_true (term_in T) A (arity_of T) w.0 E G ns (back T E G L w.0 ns w.1) (subst (λ (U : State). (v : ℕ) → Formed (arity_of U) (w.0 v)) (sym (one_state T L.stands)) w.2) all;
  }

  pub no_due : ((τ : Substitution) (ms : List ℕ) → Works (term_in S) τ C D ms → ⊥) → AnswerPromised file before c d covers_not
  no_due dead = record {
    refused_if = λ h. absurd (h S C D K);
    refused_only = λ n k e. absurd (not_refused_no e);
    yes_if = λ T E G L σ ms h. absurd (dead σ ms (carried T E G L σ ms h));
    yes_only = λ T E G L ms e. absurd (not_covers e);
    earliest = λ T E G L ms e. absurd (not_covers e);
    no_if = λ T E G L h. refl;
    no_only = λ T E G L e σ ms h. dead σ ms (carried T E G L σ ms h);
    truth = λ T E G L ms e. absurd (not_covers e);
  }
