-- One pass down the rows solves one equation between terms: the substitutions that turn atom c into atom d are exactly those that give each variable
-- its noted image, or there is none.
use mathlib.Core.Path.{◌≡◌, refl, sym, ap, ap₂, ◌∙◌, subst}
use mathlib.Core.Logic.{◌⊎◌, inl, inr}
use mathlib.Core.Bool.{Bool, true, false}
use mathlib.Core.List.{List}
use Prim.Native.Nat.{ℕ, zero, suc, ◌+◌, ◌-◌, ◌*◌, ◌≤◌, ◌<◌}
use native.Mathlib.Omega.{arith}
use lib.Dec.{eqb, eqb_refl}
use lib.ListN.{length, get_or, set, replicate, length-replicate}
use borrow.Author.Tests.{eqb-true, eqb-false}
use Rattle.record.specs.Record.{pick}
use Rattle.unification.specs.Nodes.{is_variable, part, node_arity, HasRow, has_row, arguments_from, NodesOk}
use Rattle.unification.specs.Row.{argument_terms}
use Rattle.unification.specs.Term.{Term, Terms, var, app, nil, cons, apply, apply_all}
use Rattle.unification.proofs.Tests.{from_t, both_true, true_not_false}
use Rattle.coverings.specs.Covering.{Substitution}
use Rattle.images.specs.Matching.{and_then, imaged, same_head, arguments_imaged, Images, with_notes, with_rows, row_matched, if_imaged, rows_matched, notes_of, atoms_matched}
use Rattle.entry.proofs.NodeTable.{zeros_read}
use Rattle.coverings.proofs.Taking.{same_or_not, Holds, Taken, taken}

-- The node table N has the rows whose terms, over variable numbers, `term` gives: rows name earlier rows, and equal terms are equal rows.
pub record TermsOf (N : List ℕ) (term : ℕ → Term ℕ) : Type 0 where
  pub nodes : NodesOk N
  pub of_variable : (r : ℕ) → HasRow N r → is_variable N r ≡ true → term r ≡ var (part N r 0)
  pub of_application : (r : ℕ) → HasRow N r → is_variable N r ≡ false → term r ≡ app (part N r 0) (argument_terms term (arguments_from N r (node_arity N r) 1))
  pub earlier : (r n : ℕ) → HasRow N r → is_variable N r ≡ false → n < node_arity N r → part N r (suc n) < r
  pub one_row : (r q : ℕ) → HasRow N r → HasRow N q → term r ≡ term q → r ≡ q

module _ (N : List ℕ) (term : ℕ → Term ℕ) (H : TermsOf N term) (base : ℕ) (room : base + 64 ≤ 4096) where
  -- σ turns row x into row y.
  abbrev pub Equation : Substitution → ℕ → ℕ → Type 0
  Equation σ x y = apply σ (term x) ≡ term y

  -- It does so for every row below k that has an image.
  abbrev pub Below : ℕ → Substitution → ℕ → ℕ → Type 0
  Below k σ x y = x < k → apply σ (term x) ≡ term y

  -- A cell of the notes is that of a variable, and σ gives it the row.
  abbrev pub Note : Substitution → ℕ → ℕ → Type 0
  Note σ z w = (v : ℕ) → v < 64 → z ≡ base + v → σ v ≡ term w

  abbrev pub Noted : Substitution → List ℕ → Type 0
  Noted σ W = Holds (Note σ) W

  one_note : (σ : Substitution) (v y : ℕ) → v < 64 → HasRow N y → (w : ℕ) → HasRow N w → Note σ (base + v) w → Note σ (base + v) y → w ≡ y
  one_note σ v y l hy w hw p q = H.one_row w y hw hy (sym (p v l refl) ∙ q v l refl)

  one_image : (k : ℕ) (σ : Substitution) (x y : ℕ) → x < k → HasRow N y → (w : ℕ) → HasRow N w → Below k σ x w → Below k σ x y → w ≡ y
  one_image k σ x y l hy w hw p q = H.one_row w y hw hy (sym (p l) ∙ q l)

  -- What images and notes must be like while rows are gone through.
  pub record Fit (X : Images) : Type 0 where
    pub rows_long : length X.0 ≡ 4096
    pub notes_long : length X.1 ≡ 4096
    pub rows_there : Holds (λ x y. HasRow N x × HasRow N y) X.0
    pub notes_there : Holds (λ z w. HasRow N w) X.1

  -- The equations that are left: of rows below k, and of the notes.
  abbrev pub Left : ℕ → Substitution → Images → Type 0
  Left k σ X = Holds (Below k σ) X.0 × Holds (Note σ) X.1

  -- What came of matching: cells of other pairs are as they were; where it went well the equations Q are those that are left below k; else they have no
  -- solution.
  pub record Came (k : ℕ) (X : Images) (Q : Substitution → Type 0) (R : Bool × Images) : Type 0 where
    pub fit : Fit R.1
    pub kept : (z : ℕ) → (z < base) ⊎ (base + 64 ≤ z) → get_or R.1.1 z 0 ≡ get_or X.1 z 0
    pub forth : R.0 ≡ true → (σ : Substitution) → Q σ → Left k σ R.1
    pub back : R.0 ≡ true → (σ : Substitution) → Left k σ R.1 → Q σ
    pub clash : R.0 ≡ false → (σ : Substitution) → Q σ → ⊥

  -- ── The arguments of two applications ──

  -- σ turns m arguments of row r from part n on into those of row y.
  abbrev ArgumentsTurn : Substitution → ℕ → ℕ → ℕ → ℕ → Type 0
  ArgumentsTurn σ r y zero n = Unit {0}
  ArgumentsTurn σ r y (suc m) n = Equation σ (part N r n) (part N y n) × ArgumentsTurn σ r y m (suc n)

  pub record ArgumentsCame (k r y m n : ℕ) (M : List ℕ) (R : Bool × List ℕ) : Type 0 where
    pub long : length R.1 ≡ 4096
    pub there : Holds (λ x z. HasRow N x × HasRow N z) R.1
    pub forth : R.0 ≡ true → (σ : Substitution) → Holds (Below k σ) M → ArgumentsTurn σ r y m n → Holds (Below k σ) R.1
    pub back : R.0 ≡ true → (σ : Substitution) → Holds (Below k σ) R.1 → Holds (Below k σ) M × ArgumentsTurn σ r y m n
    pub clash : R.0 ≡ false → (σ : Substitution) → Holds (Below k σ) M → ArgumentsTurn σ r y m n → ⊥

  -- m arguments from part n on are there, and below k those of r.
  abbrev ArgumentsThere : ℕ → ℕ → ℕ → ℕ → ℕ → Type 0
  ArgumentsThere k r y zero n = Unit {0}
  ArgumentsThere k r y (suc m) n = (HasRow N (part N r n) × (part N r n < k) × HasRow N (part N y n)) × ArgumentsThere k r y m (suc n)

  arguments_came : (k r y m n : ℕ) → ArgumentsThere k r y m n → (M : List ℕ) → length M ≡ 4096 → Holds (λ x z. HasRow N x × HasRow N z) M → ArgumentsCame k r y m n M (arguments_imaged N r y m n M)
  arguments_came k r y zero n T M l h = record { long = l; there = h; forth = λ b σ p q. p; back = λ b σ p. (p, tt); clash = λ b σ p q. true_not_false refl b }
  arguments_came k r y (suc m) n T M l h =
      try (imaged M (part N r n) (part N y n)) (taken (λ w. HasRow N w) (Below k) M (part N r n) (part N y n) inside T.0.2 (λ x z e. (h x z e).1) (λ σ w hw. one_image k σ (part N r n) (part N y n) T.0.1 T.0.2 w hw)) places
      (λ X lX hX. arguments_came k r y m (suc n) T.1 X lX hX)
    where
      inside : part N r n < length M
      inside = let a = H.nodes.room (part N r n) T.0.0 in omega arith

      places : (x z : ℕ) → get_or (imaged M (part N r n) (part N y n)).1 x 0 ≡ suc z → HasRow N x
      places x z e = which (same_or_not x (part N r n))
        where
          which : (x ≡ part N r n) ⊎ ¬ (x ≡ part N r n) → HasRow N x
          which (inl q) = subst (HasRow N) (sym q) T.0.0
          which (inr q) = (h x z (sym ((taken (λ w. HasRow N w) (Below k) M (part N r n) (part N y n) inside T.0.2 (λ x z e. (h x z e).1) (λ σ w hw. one_image k σ (part N r n) (part N y n) T.0.1 T.0.2 w hw)).others x q) ∙ e)).0

      try : (R : Bool × List ℕ) → Taken (λ w. HasRow N w) (Below k) M (part N r n) (part N y n) R → ((x z : ℕ) → get_or R.1 x 0 ≡ suc z → HasRow N x)
          → ((X : List ℕ) → length X ≡ 4096 → Holds (λ x z. HasRow N x × HasRow N z) X → ArgumentsCame k r y m (suc n) X (arguments_imaged N r y m (suc n) X))
          → ArgumentsCame k r y (suc m) n M (and_then R (λ X. arguments_imaged N r y m (suc n) X))
      try (false, X) K P ih = record {
        long = K.long ∙ l;
        there = λ x z e. (P x z e, K.there x z e);
        forth = λ b. absurd (true_not_false b refl);
        back = λ b. absurd (true_not_false b refl);
        clash = λ b σ p q. K.clash refl σ p (λ _. q.0);
      }
      try (true, X) K P ih =
          let A = ih X (K.long ∙ l) (λ x z e. (P x z e, K.there x z e)) in
          record {
            long = A.long;
            there = A.there;
            forth = λ b σ p q. A.forth b σ (K.forth refl σ p (λ _. q.0)) q.1;
            back = λ b σ p. let a = A.back b σ p in let c = K.back refl σ a.0 in (c.0, (c.1 T.0.1, a.1));
            clash = λ b σ p q. A.clash b σ (K.forth refl σ p (λ _. q.0)) q.1;
          }

  -- Terms of arguments turn exactly if the arguments do.
  arguments_turn : (σ : Substitution) (r y m n : ℕ) → ArgumentsTurn σ r y m n → apply_all σ (argument_terms term (arguments_from N r m n)) ≡ argument_terms term (arguments_from N y m n)
  arguments_turn σ r y zero n h = refl
  arguments_turn σ r y (suc m) n h = ap₂ cons h.0 (arguments_turn σ r y m (suc n) h.1)

  cons_parts : {t u : Term ℕ} {ts us : Terms ℕ} → cons t ts ≡ cons u us → (t ≡ u) × (ts ≡ us)
  cons_parts {t} {u} {ts} {us} e = (ap (λ (x : Terms ℕ). elim x [ nil ↦ t | cons a as' ↦ a ]) e, ap (λ (x : Terms ℕ). elim x [ nil ↦ ts | cons a as' ↦ as' ]) e)

  turn_arguments : (σ : Substitution) (r y m n : ℕ) → apply_all σ (argument_terms term (arguments_from N r m n)) ≡ argument_terms term (arguments_from N y m n) → ArgumentsTurn σ r y m n
  turn_arguments σ r y zero n e = tt
  turn_arguments σ r y (suc m) n e = let c = cons_parts e in (c.0, turn_arguments σ r y m (suc n) c.1)

  app_parts : {s t : ℕ} {ts us : Terms ℕ} → app s ts ≡ app t us → (s ≡ t) × (ts ≡ us)
  app_parts {s} {t} {ts} {us} e = (ap (λ (x : Term ℕ). elim x [ var v ↦ s | app a as' ↦ a ]) e, ap (λ (x : Term ℕ). elim x [ var v ↦ ts | app a as' ↦ as' ]) e)

  not_both : {v s : ℕ} {ts : Terms ℕ} → app s ts ≡ var v → ⊥
  not_both e = let z : ◌≡◌ {A = ℕ} 0 1 = ap (λ (x : Term ℕ). elim x [ var v ↦ 1 | app a as' ↦ 0 ]) e in omega arith

  -- ── One row and its image ──

  arity_code : (r : ℕ) → HasRow N r → is_variable N r ≡ false → get_or N (8 * r) 0 ≡ 2 + node_arity N r
  unfolding is_variable node_arity
  arity_code r (has_row p) v = let n = eqb-false (get_or N (8 * r) 0) 1 v in omega arith

  -- Two rows with one head, the first an application: so is the second, with as many arguments.
  head_variable : (r y : ℕ) → is_variable N r ≡ false → get_or N (8 * r) 0 ≡ get_or N (8 * y) 0 → is_variable N y ≡ false
  unfolding is_variable
  head_variable r y v e = ap (λ (n : ℕ). eqb n 1) (sym e) ∙ v

  head_arity : (r y : ℕ) → get_or N (8 * r) 0 ≡ get_or N (8 * y) 0 → node_arity N r ≡ node_arity N y
  unfolding node_arity
  head_arity r y e = ap (λ (n : ℕ). n - 2) e

  head_same : (r y : ℕ) → get_or N (8 * r) 0 ≡ get_or N (8 * y) 0 → part N r 0 ≡ part N y 0 → same_head N r y ≡ true
  head_same r y e q = rw (e, q, from_t (eqb (get_or N (8 * y) 0) (get_or N (8 * y) 0)) (eqb_refl (get_or N (8 * y) 0)), from_t (eqb (part N y 0) (part N y 0)) (eqb_refl (part N y 0))) refl

  arguments_there_lem : (r y : ℕ) → HasRow N r → HasRow N y → is_variable N r ≡ false → is_variable N y ≡ false → node_arity N r ≡ node_arity N y → (m n : ℕ) → n + m ≡ node_arity N r → ArgumentsThere r r y m (suc n)
  arguments_there_lem r y hr hy vr vy e zero n q = tt
  arguments_there_lem r y hr hy vr vy e (suc m) n q = ((H.nodes.arguments r n hr vr (omega arith), H.earlier r n hr vr (omega arith), H.nodes.arguments y n hy vy (omega arith)), arguments_there_lem r y hr hy vr vy e m (suc n) (omega arith))

  module _ (r y : ℕ) (hr : HasRow N r) (hy : HasRow N y) (X : Images) (F : Fit X) where
    -- The equations before row r is matched.
    abbrev Before : Substitution → Type 0
    Before σ = Left r σ X × Equation σ r y

    variable_came : is_variable N r ≡ true → Came r X Before (with_notes X.0 (imaged X.1 (base + part N r 0) y))
    variable_came v = try (imaged X.1 (base + part N r 0) y) (taken (λ w. HasRow N w) Note X.1 (base + part N r 0) y (omega (arith, low, F.notes_long)) hy F.notes_there (λ σ w hw. one_note σ (part N r 0) y low hy w hw))
      where
        low : part N r 0 < 64
        low = H.nodes.number r hr v

        note : (σ : Substitution) → Equation σ r y → Note σ (base + part N r 0) y
        note σ e u l q = let s : part N r 0 ≡ u = omega arith in ap σ (sym s) ∙ ap (apply σ) (sym (H.of_variable r hr v)) ∙ e

        equation : (σ : Substitution) → Note σ (base + part N r 0) y → Equation σ r y
        equation σ k = ap (apply σ) (H.of_variable r hr v) ∙ k (part N r 0) low refl

        try : (R : Bool × List ℕ) → Taken (λ w. HasRow N w) Note X.1 (base + part N r 0) y R → Came r X Before (with_notes X.0 R)
        try (b, W) K = record {
          fit = record { rows_long = F.rows_long; notes_long = K.long ∙ F.notes_long; rows_there = F.rows_there; notes_there = K.there };
          kept = λ z o. K.others z (outside z o);
          forth = λ t σ q. (q.0.0, K.forth t σ q.0.1 (note σ q.1));
          back = λ t σ q. let k = K.back t σ q.1 in ((q.0, k.0), equation σ k.1);
          clash = λ t σ q. K.clash t σ q.0.1 (note σ q.1);
        }
          where
            outside : (z : ℕ) → (z < base) ⊎ (base + 64 ≤ z) → ¬ (z ≡ base + part N r 0)
            outside z (inl l) e = omega (arith, low)
            outside z (inr l) e = omega (arith, low)

    application_came : is_variable N r ≡ false → same_head N r y ≡ true → Came r X Before (with_rows X.1 (arguments_imaged N r y (node_arity N r) 1 X.0))
    application_came v h = try (arguments_imaged N r y (node_arity N r) 1 X.0) (arguments_came r r y (node_arity N r) 1 (arguments_there_lem r y hr hy v vy (head_arity r y codes) (node_arity N r) 0 (omega arith)) X.0 F.rows_long F.rows_there)
      where
        parts : (eqb (get_or N (8 * r) 0) (get_or N (8 * y) 0) ≡ true) × (eqb (part N r 0) (part N y 0) ≡ true)
        parts = both_true (eqb (get_or N (8 * r) 0) (get_or N (8 * y) 0)) (eqb (part N r 0) (part N y 0)) h

        codes : get_or N (8 * r) 0 ≡ get_or N (8 * y) 0
        codes = eqb-true (get_or N (8 * r) 0) (get_or N (8 * y) 0) parts.0

        symbols : part N r 0 ≡ part N y 0
        symbols = eqb-true (part N r 0) (part N y 0) parts.1

        vy : is_variable N y ≡ false
        vy = head_variable r y v codes

        right : term y ≡ app (part N r 0) (argument_terms term (arguments_from N y (node_arity N r) 1))
        right = H.of_application y hy vy ∙ ap₂ (λ (s m : ℕ). app s (argument_terms term (arguments_from N y m 1))) (sym symbols) (sym (head_arity r y codes))

        turned : (σ : Substitution) → Equation σ r y → ArgumentsTurn σ r y (node_arity N r) 1
        turned σ e = turn_arguments σ r y (node_arity N r) 1 (app_parts (sym (ap (apply σ) (H.of_application r hr v)) ∙ e ∙ right)).1

        equation : (σ : Substitution) → ArgumentsTurn σ r y (node_arity N r) 1 → Equation σ r y
        equation σ a = ap (apply σ) (H.of_application r hr v) ∙ ap (app (part N r 0)) (arguments_turn σ r y (node_arity N r) 1 a) ∙ sym right

        try : (R : Bool × List ℕ) → ArgumentsCame r r y (node_arity N r) 1 X.0 R → Came r X Before (with_rows X.1 R)
        try (b, M) K = record {
          fit = record { rows_long = K.long; notes_long = F.notes_long; rows_there = K.there; notes_there = F.notes_there };
          kept = λ z o. refl;
          forth = λ t σ q. (K.forth t σ q.0.0 (turned σ q.1), q.0.1);
          back = λ t σ q. let k = K.back t σ q.0 in ((k.0, q.1), equation σ k.1);
          clash = λ t σ q. K.clash t σ q.0.0 (turned σ q.1);
        }

    -- Where the heads differ, no substitution turns one row into the other.
    no_turn_lem : is_variable N r ≡ false → same_head N r y ≡ false → (σ : Substitution) → Equation σ r y → ⊥
    no_turn_lem v h σ e = try (is_variable N y) refl
      where
        left : apply σ (term r) ≡ app (part N r 0) (apply_all σ (argument_terms term (arguments_from N r (node_arity N r) 1)))
        left = ap (apply σ) (H.of_application r hr v)

        try : (b : Bool) → is_variable N y ≡ b → ⊥
        try true w = not_both (sym left ∙ e ∙ H.of_variable y hy w)
        try false w =
            let s = (app_parts (sym left ∙ e ∙ H.of_application y hy w)).0 in
            let a = H.nodes.alike r y hr hy v w s in
            true_not_false (head_same r y (arity_code r hr v ∙ ap (λ (n : ℕ). 2 + n) a ∙ sym (arity_code y hy w)) s) h

    row_came : Came r X Before (row_matched N base r y X)
    row_came = try (is_variable N r) refl (same_head N r y) refl
      where
        try : (b : Bool) → is_variable N r ≡ b → (d : Bool) → same_head N r y ≡ d
            → Came r X Before (pick b (with_notes X.0 (imaged X.1 (base + part N r 0) y)) (pick d (with_rows X.1 (arguments_imaged N r y (node_arity N r) 1 X.0)) (false, X)))
        try true v d h = variable_came v
        try false v true h = application_came v h
        try false v false h = record {
          fit = F;
          kept = λ z o. refl;
          forth = λ t. absurd (true_not_false t refl);
          back = λ t. absurd (true_not_false t refl);
          clash = λ t σ q. no_turn_lem v h σ q.1;
        }

  -- ── All rows ──

  fewer : (r : ℕ) (σ : Substitution) (M : List ℕ) → Holds (Below (suc r) σ) M → Holds (Below r σ) M
  fewer r σ M h x y e l = h x y e (omega arith)

  with_last : (r : ℕ) (σ : Substitution) (M : List ℕ) → Holds (Below r σ) M → ((y : ℕ) → get_or M r 0 ≡ suc y → Equation σ r y) → Holds (Below (suc r) σ) M
  with_last r σ M h last x y e l = try (same_or_not x r)
    where
      try : (x ≡ r) ⊎ ¬ (x ≡ r) → Equation σ x y
      try (inl q) = subst (λ (z : ℕ). Equation σ z y) (sym q) (last y (ap (λ (z : ℕ). get_or M z 0) (sym q) ∙ e))
      try (inr n) = h x y e (omega arith)

  rows_came : (k : ℕ) (X : Images) → Fit X → Came 0 X (λ σ. Left k σ X) (rows_matched N base k X)
  rows_came zero X F = record { fit = F; kept = λ z o. refl; forth = λ t σ q. q; back = λ t σ q. q; clash = λ t. absurd (true_not_false refl t) }
  rows_came (suc r) X F = try (get_or X.0 r 0) refl (λ Y G. rows_came r Y G)
    where
      go : (y : ℕ) → get_or X.0 r 0 ≡ suc y → (R : Bool × Images) → Came r X (λ σ. Left r σ X × Equation σ r y) R → ((Y : Images) → Fit Y → Came 0 Y (λ σ. Left r σ Y) (rows_matched N base r Y))
          → Came 0 X (λ σ. Left (suc r) σ X) (and_then R (λ Y. rows_matched N base r Y))
      go y q (false, Y) K ih = record {
        fit = K.fit;
        kept = K.kept;
        forth = λ t. absurd (true_not_false t refl);
        back = λ t. absurd (true_not_false t refl);
        clash = λ t σ p. K.clash refl σ ((fewer r σ X.0 p.0, p.1), p.0 r y q (omega arith));
      }
      go y q (true, Y) K ih =
          let A = ih Y K.fit in
          record {
            fit = A.fit;
            kept = λ z o. A.kept z o ∙ K.kept z o;
            forth = λ t σ p. A.forth t σ (K.forth refl σ ((fewer r σ X.0 p.0, p.1), p.0 r y q (omega arith)));
            back = λ t σ p.
                let a = K.back refl σ (A.back t σ p) in
                (with_last r σ X.0 a.0.0 (λ w e. let s : y ≡ w = omega arith in subst (Equation σ r) s a.1), a.0.1);
            clash = λ t σ p. A.clash t σ (K.forth refl σ ((fewer r σ X.0 p.0, p.1), p.0 r y q (omega arith)));
          }

      try : (n : ℕ) → get_or X.0 r 0 ≡ n → ((Y : Images) → Fit Y → Came 0 Y (λ σ. Left r σ Y) (rows_matched N base r Y))
          → Came 0 X (λ σ. Left (suc r) σ X) (and_then (if_imaged N base r n X) (λ Y. rows_matched N base r Y))
      try zero q ih =
          let A = ih X F in
          record {
            fit = A.fit;
            kept = A.kept;
            forth = λ t σ p. A.forth t σ (fewer r σ X.0 p.0, p.1);
            back = λ t σ p. let a = A.back t σ p in (with_last r σ X.0 a.0 (λ w e. let z : ◌≡◌ {A = ℕ} 0 (suc w) = sym q ∙ e in absurd (omega arith)), a.1);
            clash = λ t σ p. A.clash t σ (fewer r σ X.0 p.0, p.1);
          }
      try (suc y) q ih = let h = F.rows_there r y q in go y q (row_matched N base r y X) (row_came r y h.0 h.1 X F) ih

  -- ── Two atoms ──

  pub record AtomsCame (c d : ℕ) (W : List ℕ) (R : Bool × List ℕ) : Type 0 where
    pub long : length R.1 ≡ 4096
    pub there : Holds (λ z w. HasRow N w) R.1
    pub kept : (z : ℕ) → (z < base) ⊎ (base + 64 ≤ z) → get_or R.1 z 0 ≡ get_or W z 0
    -- Where they match, the substitutions that turn c into d are exactly those that give each variable what is noted.
    pub forth : R.0 ≡ true → (σ : Substitution) → Equation σ c d → Noted σ R.1
    pub back : R.0 ≡ true → (σ : Substitution) → Noted σ R.1 → Equation σ c d
    -- Else there is none.
    pub clash : R.0 ≡ false → (σ : Substitution) → Equation σ c d → ⊥

  imaged_free : (X : List ℕ) (x y : ℕ) → get_or X x 0 ≡ 0 → imaged X x y ≡ (true, set X x (suc y))
  imaged_free X x y q = rw q refl

  module _ (c d : ℕ) (hc : HasRow N c) (hd : HasRow N d) (W : List ℕ) (long : length W ≡ 4096) (there : Holds (λ z w. HasRow N w) W) (fresh : (v : ℕ) → v < 64 → get_or W (base + v) 0 ≡ 0) where
    from_none : (Z : List ℕ) → length Z ≡ 4096 → ((x : ℕ) → get_or Z x 0 ≡ 0) → AtomsCame c d W (notes_of (rows_matched N base (suc c) ((imaged Z c d).1, W)))
    from_none Z l z = try (rows_matched N base (suc c) ((imaged Z c d).1, W)) (rows_came (suc c) ((imaged Z c d).1, W) fit)
      where
        empty : (E : ℕ → ℕ → Type 0) → Holds E Z
        empty E x y e = let q : ◌≡◌ {A = ℕ} 0 (suc y) = sym (z x) ∙ e in absurd (omega arith)

        inside : c < length Z
        inside = let a = H.nodes.room c hc in omega arith

        one : (σ : Substitution) (w : ℕ) → HasRow N w → Below (suc c) σ c w → Below (suc c) σ c d → w ≡ d
        one σ w hw = one_image (suc c) σ c d (omega arith) hd w hw

        K : Taken (λ w. HasRow N w) (Below (suc c)) Z c d (imaged Z c d)
        K = taken (λ w. HasRow N w) (Below (suc c)) Z c d inside hd (empty (λ x w. HasRow N w)) one

        well : (imaged Z c d).0 ≡ true
        well = ap (λ (R : Bool × List ℕ). R.0) (imaged_free Z c d (z c))

        places : (x y : ℕ) → get_or (imaged Z c d).1 x 0 ≡ suc y → HasRow N x
        places x y e = which (same_or_not x c)
          where
            which : (x ≡ c) ⊎ ¬ (x ≡ c) → HasRow N x
            which (inl q) = subst (HasRow N) (sym q) hc
            which (inr n) = let q : ◌≡◌ {A = ℕ} 0 (suc y) = sym (z x) ∙ sym (K.others x n) ∙ e in absurd (omega arith)

        fit : Fit ((imaged Z c d).1, W)
        fit = record { rows_long = K.long ∙ l; notes_long = long; rows_there = λ x y e. (places x y e, K.there x y e); notes_there = there }

        no_notes : (σ : Substitution) → Noted σ W
        no_notes σ x w e v lv q = let s : ◌≡◌ {A = ℕ} 0 (suc w) = sym (fresh v lv) ∙ ap (λ (a : ℕ). get_or W a 0) (sym q) ∙ e in absurd (omega arith)

        start : (σ : Substitution) → Equation σ c d → Left (suc c) σ ((imaged Z c d).1, W)
        start σ e = (K.forth well σ (empty (Below (suc c) σ)) (λ _. e), no_notes σ)

        try : (R : Bool × Images) → Came 0 ((imaged Z c d).1, W) (λ σ. Left (suc c) σ ((imaged Z c d).1, W)) R → AtomsCame c d W (notes_of R)
        try (b, Y) A = record {
          long = A.fit.notes_long;
          there = A.fit.notes_there;
          kept = A.kept;
          forth = λ t σ e. (A.forth t σ (start σ e)).1;
          back = λ t σ n. (K.back well σ (A.back t σ ((λ x y e m. absurd (omega arith)), n)).0).1 (omega arith);
          clash = λ t σ e. A.clash t σ (start σ e);
        }

    pub atoms_came : AtomsCame c d W (atoms_matched N base c d W)
    atoms_came = from_none (replicate 4096 0) (length-replicate {A = ℕ} 4096 0) (zeros_read 4096)
