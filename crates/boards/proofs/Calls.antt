-- Calls on a board: what becomes of it, and the answers.
use mathlib.Core.Path.{◌≡◌, refl, sym, ap, ap₂, ◌∙◌}
use mathlib.Core.Logic.{◌⊎◌, inl, inr}
use mathlib.Core.Bool.{Bool, true, false, ◌&&◌, beq}
use mathlib.Core.Option.{Option, none, some}
use mathlib.Core.List.{List, [], ◌∷◌}
use Prim.Native.Nat.{ℕ, zero, suc, ◌+◌, ◌-◌, ◌*◌, ◌%◌, ◌≤◌, ◌<◌}
use native.Mathlib.Omega.{arith}
use lib.Dec.{eqb, ltb, eqb_refl, ltb→lt}
use lib.ListN.{length, get_or, set, length-set}
use lib.Seq.{get_or-set_same, get_or-set_other, ext_get_or}
use borrow.Author.Tests.{eq-eqb, ne_eqb, lt-ltb, le-ltb}
use Rattle.record.specs.Record.{pick, File, kind_of}
use Rattle.unification.proofs.Lists.{Each, each_append, each_more}
use Rattle.unification.proofs.Tests.{to_t, from_t, both_true, true_not_false, some_not_none}
use Rattle.derivation.specs.Derivation.{Derivation, literals, input, resolve, factor, clause_number, Use, uses, Literal}
use Rattle.demands.specs.Conditions.{OneOf}
use Rattle.verdict.specs.Force.{uses_in_force}
use Rattle.verdict.specs.Refusal.{is_input}
use Rattle.verdict.specs.State.{State, entry, derivations, clause_of}
use Rattle.verdict.specs.Verdict.{is_empty}
use Rattle.demands.proofs.Acceptance.{first_lowest, some_first}
use Rattle.demands.proofs.Inversions.{entry_below, entry_some, entry_none, not_below}
use Rattle.demands.proofs.RangeTests.{not_true, equal}
use Rattle.demands.proofs.Sources.{SourceOf, earlier, source_of, number_of}
use Rattle.boards.specs.Board.{Presence, changed, all_stand, stands_with, answer_afresh, answered, refused_with, Call, after_call, after_calls, answer_to_call}
use Rattle.boards.specs.Cells.{last_child, cell_with, child_cell, is_clause_cell, force_cell, stands_cell, clause_cell, board_of, record_of_clause, answers, lowest_answer, is_input_cell, with_cell, refusal, board_after, call_answer}
use Rattle.boards.specs.Promised.{board_after_calls}
use Rattle.boards.proofs.Parents.{Recorded, Kept, with_record_lem}
use Rattle.boards.proofs.Passing.{force_of, stands_of, child_of, clause_of_lem, child_below, board_cell, past_cell, no_cell, board_length, recorded, older, cell_child, pass_right}

-- ── Presence ──
pub changed_other : (P : Presence) (n : ℕ) (b : Bool) (m : ℕ) → ¬ (m ≡ n) → changed P n b m ≡ P m
changed_other P n b m h = ap (λ (x : Bool). pick x b (P m)) (not_true (eqb m n) (λ t. h (equal m n t)))

changed_own : (P : Presence) (n : ℕ) (b : Bool) → changed P n b n ≡ b
changed_own P n b = ap (λ (x : Bool). pick x b (P n)) (from_t (eqb n n) (eqb_refl n))

pub unused_same : (P Q : Presence) (us : List Use) → Each (λ (u : Use). P u.0 ≡ Q u.0) us → all_stand P us ≡ all_stand Q us
unused_same P Q [] h = refl
unused_same P Q (u ∷ us) h = ap₂ ◌&&◌ h.0 (unused_same P Q us h.1)

pub all_uses : (P : Use → Type 0) (us : List Use) → ((u : Use) → OneOf u us → P u) → Each P us
all_uses P [] h = tt
all_uses P (u ∷ us) h = (h u (inl refl), all_uses P us (λ v o. h v (inr o)))

pub present_all : (P : Presence) (us : List Use) → all_stand P us ≡ true → (u : Use) → OneOf u us → P u.0 ≡ true
present_all P [] q u o = absurd o
present_all P (v ∷ us) q u (inl e) = ap (λ (x : Use). P x.0) e ∙ (both_true (P v.0) (all_stand P us) q).0
present_all P (v ∷ us) q u (inr o) = present_all P us (both_true (P v.0) (all_stand P us) q).1 u o

pub all_present_lem : (P : Presence) (us : List Use) → ((u : Use) → OneOf u us → P u.0 ≡ true) → all_stand P us ≡ true
all_present_lem P [] h = refl
all_present_lem P (u ∷ us) h = ap₂ ◌&&◌ (h u (inl refl)) (all_present_lem P us (λ v o. h v (inr o)))

-- ── The lowest answer ──
module _ (C B : List ℕ) where
  answer_found : (k m n : ℕ) → m ≤ n → n < m + k → ((i : ℕ) → m ≤ i → i < n → answers C B i ≡ false) → answers C B n ≡ true → lowest_answer C B k m ≡ some n
  answer_found zero m n a b h t = absurd (omega arith)
  answer_found (suc k) m n a b h t = try (ltb m n) refl (λ l. answer_found k (suc m) n l (omega arith) (λ i x y. h i (omega arith) y) t)
    where
      try : (x : Bool) → ltb m n ≡ x → (suc m ≤ n → lowest_answer C B k (suc m) ≡ some n) → lowest_answer C B (suc k) m ≡ some n
      try true q ih = let l = ltb→lt m n (to_t (ltb m n) q) in ap (λ (x : Bool). elim x [ true ↦ some m | false ↦ lowest_answer C B k (suc m) ]) (h m (omega arith) l) ∙ ih l
      try false q ih =
          let l = not_below m n q in
          let e : m ≡ n = omega arith in
          ap (λ (x : Bool). elim x [ true ↦ some m | false ↦ lowest_answer C B k (suc m) ]) (ap (answers C B) e ∙ t) ∙ ap some e

  answer_none : (k m : ℕ) → ((i : ℕ) → m ≤ i → i < m + k → answers C B i ≡ false) → lowest_answer C B k m ≡ none
  answer_none zero m h = refl
  answer_none (suc k) m h = ap (λ (x : Bool). elim x [ true ↦ some m | false ↦ lowest_answer C B k (suc m) ]) (h m (omega arith) (omega arith)) ∙ answer_none k (suc m) (λ i a b. h i (omega arith) (omega arith))

seven_cell : (r : ℕ) (f s : Bool) → eqb (cell_with r f s % 8) 7 ≡ (f && s)
seven_cell r true true = eq-eqb ((8 * r + 7) % 8) 7 (omega arith)
seven_cell r true false = ne_eqb ((8 * r + 6) % 8) 7 (λ q. omega arith)
seven_cell r false true = ne_eqb ((8 * r + 5) % 8) 7 (λ q. omega arith)
seven_cell r false false = ne_eqb ((8 * r + 4) % 8) 7 (λ q. omega arith)

empty_cell : (ls : List Literal) → eqb (length ls) 0 ≡ is_empty ls
empty_cell [] = refl
empty_cell (l ∷ ls) = not_true (eqb (suc (length ls)) 0) (λ t. let z = equal (suc (length ls)) 0 t in omega arith)

empty_true : (ls : List Literal) → is_empty ls ≡ true → ls ≡ []
empty_true [] q = refl
empty_true (l ∷ ls) q = absurd (true_not_false q refl)

-- ── A board of a state ──
module _ (day : ℕ) (S : State) (board : List ℕ) (few : length (derivations S) ≤ 4096) (long : 4097 ≤ length board) (F : File) (C : List ℕ) (H : Kept F S)
    (records-in : (n k : ℕ) (c : Derivation) → entry S.clauses n ≡ some (k, c) → get_or C (5 * n) 0 ≡ k)
    (literals_in_lem : (n k : ℕ) (c : Derivation) → entry S.clauses n ≡ some (k, c) → get_or C (5 * n + 1) 0 ≡ length (literals c)) where
  abbrev board_with : Presence → List ℕ
  board_with P = board_of day S P board

  -- The uses of a clause have no larger numbers.
  uses_below : (k n : ℕ) (c : Derivation) → n < k → clause_of S n ≡ some c → Each (λ (u : Use). u.0 ≤ n) (uses c)
  uses_below zero n c l q = absurd (omega arith)
  uses_below (suc k) n c l q = by c q (source_of (derivations S) H.sourced n c q) (λ m d x p. uses_below k m d x p)
    where
      raised : (m : ℕ) (us : List Use) → m < n → Each (λ (u : Use). u.0 ≤ m) us → Each (λ (u : Use). u.0 ≤ n) us
      raised m us x h = each_more (λ (u : Use). u.0 ≤ m) (λ (u : Use). u.0 ≤ n) (λ u y. omega arith) us h

      by : (d : Derivation) → clause_of S n ≡ some d → SourceOf (earlier (derivations S) n) d → ((m : ℕ) (e : Derivation) → m < k → clause_of S m ≡ some e → Each (λ (u : Use). u.0 ≤ m) (uses e)) → Each (λ (u : Use). u.0 ≤ n) (uses d)
      by (input number ls) p s ih = (let e = number_of (derivations S) H.sourced n (input number ls) p in omega arith, tt)
      by (resolve number a i b ns bs) p s ih =
          let x = older day S board few long F C H records-in n (clause_number a) (resolve number a i b ns bs) a p s.1 in
          let y = older day S board few long F C H records-in n (clause_number b) (resolve number a i b ns bs) b p s.2 in
          each_append (λ (u : Use). u.0 ≤ n) (uses a) (uses b) (raised (clause_number a) (uses a) x.0 (ih (clause_number a) a (let z = x.0 in omega arith) x.1)) (raised (clause_number b) (uses b) y.0 (ih (clause_number b) b (let z = y.0 in omega arith) y.1))
      by (factor number d a b bs) p s ih =
          let x = older day S board few long F C H records-in n (clause_number d) (factor number d a b bs) d p s.1 in
          raised (clause_number d) (uses d) x.0 (ih (clause_number d) d (let z = x.0 in omega arith) x.1)

  -- Equal presences of the input clauses have equal boards, and a clause's cell goes by its own uses alone.
  pub cell_same : (P Q : Presence) (m : ℕ) (c : Derivation) → clause_of S m ≡ some c → Each (λ (u : Use). P u.0 ≡ Q u.0) (uses c) → get_or (board_of day S P board) m 0 ≡ get_or (board_of day S Q board) m 0
  cell_same P Q m c q h = board_cell day S board few long P m c q ∙ ap (cell_with (last_child (derivations S) (clause_number c)) (uses_in_force S day c)) (unused_same P Q (uses c) h) ∙ sym (board_cell day S board few long Q m c q)

  -- The cells before the clause of a call.
  before_same : (P : Presence) (n : ℕ) (b : Bool) (i : ℕ) → i < n → n < length (derivations S) → get_or (board_of day S P board) i 0 ≡ get_or (board_of day S (changed P n b) board) i 0
  before_same P n b i l m =
      let s = entry_some (derivations S) i (omega arith) in
      cell_same P (changed P n b) i s.0 s.1 (each_more (λ (u : Use). u.0 ≤ i) (λ (u : Use). P u.0 ≡ changed P n b u.0) (λ u x. sym (changed_other P n b u.0 (λ e. omega arith))) (uses s.0) (uses_below (suc i) i s.0 (omega arith) s.1))

  -- ── A call that goes through ──
  module _ (P : Presence) (n : ℕ) (b : Bool) (c : Derivation) (q : clause_of S n ≡ some c) (i : is_input (some c) ≡ true) where
    there : n < length (derivations S)
    there = entry_below (derivations S) n c q

    own_stands : (Q : Presence) → stands_with Q c ≡ Q n
    own_stands Q = by c q i
      where
        by : (d : Derivation) → clause_of S n ≡ some d → is_input (some d) ≡ true → stands_with Q d ≡ Q n
        by (input number ls) p t = and_true (Q number) ∙ ap Q (number_of (derivations S) H.sourced n (input number ls) p)
          where
            and_true : (x : Bool) → (x && true) ≡ x
            and_true true = refl
            and_true false = refl
        by (resolve number l a r ns bs) p t = absurd (true_not_false refl (sym t))
        by (factor number d a x bs) p t = absurd (true_not_false refl (sym t))

    abbrev own₁ : ℕ
    own₁ = cell_with (child_cell (get_or (board_of day S P board) n 0)) (force_cell (get_or (board_of day S P board) n 0)) b

    changed_cell : cell_with (child_cell (get_or (board_of day S P board) n 0)) (force_cell (get_or (board_of day S P board) n 0)) b ≡ clause_cell day S (changed P n b) c
    changed_cell =
        let r = last_child (derivations S) (clause_number c) in
        ap (λ (x : ℕ). cell_with (child_cell x) (force_cell x) b) (board_cell day S board few long P n c q)
        ∙ ap (λ (x : ℕ). cell_with x (force_cell (clause_cell day S P c)) b) (child_of r (uses_in_force S day c) (stands_with P c))
        ∙ ap₂ (cell_with r) (force_of r (uses_in_force S day c) (stands_with P c)) (sym (changed_own P n b) ∙ sym (own_stands (changed P n b)))

    pub call_goes : with_cell F C (board_of day S P board) n b ≡ board_of day S (changed P n b) board
    call_goes =
        let l = there in
        let z = cell_child day S board few long F C H records-in P n c q in
        let y = child_below (derivations S) n (omega arith) in
        pass_right day S board few long F C H records-in P (changed P n b) (4095 - n) (suc n) (child_cell (get_or (board_of day S P board) n 0)) (set (board_of day S P board) n own₁) (omega arith)
        (length-set (board_of day S P board) n own₁ ∙ board_length day S board few long P)
        (λ j x. sym (changed_other P n b j (λ e. omega arith))) (omega arith) reach before from
      where
        inside : n < length (board_of day S P board)
        inside = let e = board_length day S board few long P in let l = there in omega arith

        reach : (j : ℕ) → j < suc n → (get_or (board_of day S P board) j 0 ≡ get_or (board_of day S (changed P n b) board) j 0) ⊎ (last_child (derivations S) j ≤ child_cell (get_or (board_of day S P board) n 0))
        reach j x = try (ltb j n) refl
          where
            try : (y : Bool) → ltb j n ≡ y → (get_or (board_of day S P board) j 0 ≡ get_or (board_of day S (changed P n b) board) j 0) ⊎ (last_child (derivations S) j ≤ child_cell (get_or (board_of day S P board) n 0))
            try true p = inl (before_same P n b j (ltb→lt j n (to_t (ltb j n) p)) there)
            try false p =
                let z = not_below j n p in
                let e : j ≡ n = omega arith in
                let w : last_child (derivations S) j ≡ child_cell (get_or (board_of day S P board) n 0) = ap (last_child (derivations S)) e ∙ sym (cell_child day S board few long F C H records-in P n c q) in
                inr (omega arith)

        before : (j : ℕ) → j < suc n → get_or (set (board_of day S P board) n own₁) j 0 ≡ get_or (board_of day S (changed P n b) board) j 0
        before j x = try (ltb j n) refl
          where
            try : (y : Bool) → ltb j n ≡ y → get_or (set (board_of day S P board) n own₁) j 0 ≡ get_or (board_of day S (changed P n b) board) j 0
            try true p = let z = ltb→lt j n (to_t (ltb j n) p) in get_or-set_other (board_of day S P board) n j own₁ 0 (λ e. omega arith) ∙ before_same P n b j z there
            try false p =
                let z = not_below j n p in
                let e : j ≡ n = omega arith in
                ap (λ (m : ℕ). get_or (set (board_of day S P board) n own₁) m 0) e ∙ get_or-set_same (board_of day S P board) n own₁ 0 inside ∙ changed_cell
                ∙ sym (board_cell day S board few long (changed P n b) n c q) ∙ ap (λ (m : ℕ). get_or (board_of day S (changed P n b) board) m 0) (sym e)

        from : (j : ℕ) → suc n ≤ j → get_or (set (board_of day S P board) n own₁) j 0 ≡ get_or (board_of day S P board) j 0
        from j x = get_or-set_other (board_of day S P board) n j own₁ 0 (λ e. omega arith)

  -- ── The answer ──
  module _ (Q : Presence) where
    clause_answers : (n : ℕ) (c : Derivation) → clause_of S n ≡ some c → answers C (board_of day S Q board) n ≡ ((uses_in_force S day c && stands_with Q c) && is_empty (literals c))
    clause_answers n c q =
        let w = with_record_lem S.clauses n c q in
        ap₂ ◌&&◌ (ap (λ (x : ℕ). eqb (x % 8) 7) (board_cell day S board few long Q n c q) ∙ seven_cell (last_child (derivations S) (clause_number c)) (uses_in_force S day c) (stands_with Q c)) (ap (λ (x : ℕ). eqb x 0) (literals_in_lem n w.0 c w.1) ∙ empty_cell (literals c))

    none_answers : (n : ℕ) → length (derivations S) ≤ n → n < 4096 → answers C (board_of day S Q board) n ≡ false
    none_answers n l m = ap (λ (x : ℕ). eqb (x % 8) 7 && eqb (get_or C (5 * n + 1) 0) 0) (no_cell day S board few long Q n l m)

    not_answering : (n : ℕ) → n < 4096 → ((c : Derivation) → clause_of S n ≡ some c → (uses_in_force S day c && stands_with Q c) ≡ true → ¬ (literals c ≡ [])) → answers C (board_of day S Q board) n ≡ false
    not_answering n m h = try (ltb n (length (derivations S))) refl
      where
        try : (b : Bool) → ltb n (length (derivations S)) ≡ b → answers C (board_of day S Q board) n ≡ false
        try true q =
            let s = entry_some (derivations S) n (ltb→lt n (length (derivations S)) (to_t (ltb n (length (derivations S))) q)) in
            not_true (answers C (board_of day S Q board) n) (λ t.
            let z = both_true (uses_in_force S day s.0 && stands_with Q s.0) (is_empty (literals s.0)) (sym (clause_answers n s.0 s.1) ∙ t) in
            h s.0 s.1 z.0 (empty_true (literals s.0) z.1))
        try false q = none_answers n (not_below n (length (derivations S)) q) m

    pub answer_afresh_lem : lowest_answer C (board_of day S Q board) 4096 0 ≡ answer_afresh day S Q
    answer_afresh_lem = try (answer_afresh day S Q) refl
      where
        try : (o : Option ℕ) → answer_afresh day S Q ≡ o → lowest_answer C (board_of day S Q board) 4096 0 ≡ o
        try none e =
            answer_none C (board_of day S Q board) 4096 0
            (λ i a b. not_answering i (omega arith) (λ c q t l. some_not_none e (some_first (λ d. uses_in_force S day d && stands_with Q d) (derivations S) i c q t l).1))
        try (some n) e =
            let L = first_lowest (λ d. uses_in_force S day d && stands_with Q d) (derivations S) n e in
            let l = entry_below (derivations S) n L.clause L.is_clause in
            answer_found C (board_of day S Q board) 4096 0 n (omega arith) (omega arith) (λ i a b. not_answering i (omega arith) (λ c q t z. L.lowest i c b q t z))
            (clause_answers n L.clause L.is_clause ∙ ap₂ ◌&&◌ L.passes (ap is_empty L.empty))

  -- ── Refusals ──
  input_cell : (P : Presence) (n : ℕ) → is_input_cell F C (board_of day S P board) n ≡ is_input (clause_of S n)
  input_cell P n = try (ltb n (length (derivations S))) refl
    where
      kind : (c : Derivation) → Recorded (record_of_clause F C n) c → eqb (kind_of (record_of_clause F C n)) 4 ≡ is_input (some c)
      kind (input number ls) R = ap (λ (x : ℕ). eqb x 4) R
      kind (resolve number l a r ns bs) R = which R.0
        where
          which : (kind_of (record_of_clause F C n) ≡ 5) ⊎ (kind_of (record_of_clause F C n) ≡ 7) → eqb (kind_of (record_of_clause F C n)) 4 ≡ false
          which (inl e) = ap (λ (x : ℕ). eqb x 4) e
          which (inr e) = ap (λ (x : ℕ). eqb x 4) e
      kind (factor number d a b bs) R = ap (λ (x : ℕ). eqb x 4) R.0

      past : length (derivations S) ≤ n → (b : Bool) → ltb n 4096 ≡ b → is_input_cell F C (board_of day S P board) n ≡ false
      past h true q = ap₂ (λ (x : Bool) (y : ℕ). x && (is_clause_cell y && eqb (kind_of (record_of_clause F C n)) 4)) q (no_cell day S board few long P n h (ltb→lt n 4096 (to_t (ltb n 4096) q)))
      past h false q = ap (λ (x : Bool). x && (is_clause_cell (get_or (board_of day S P board) n 0) && eqb (kind_of (record_of_clause F C n)) 4)) q

      try : (b : Bool) → ltb n (length (derivations S)) ≡ b → is_input_cell F C (board_of day S P board) n ≡ is_input (clause_of S n)
      try true q =
          let l = ltb→lt n (length (derivations S)) (to_t (ltb n (length (derivations S))) q) in
          let s = entry_some (derivations S) n l in
          ap₂ (λ (x : Bool) (y : Bool). x && (y && eqb (kind_of (record_of_clause F C n)) 4)) (lt-ltb n 4096 (omega arith)) (ap is_clause_cell (board_cell day S board few long P n s.0 s.1) ∙ clause_of_lem (last_child (derivations S) (clause_number s.0)) (uses_in_force S day s.0) (stands_with P s.0))
          ∙ kind s.0 (recorded day S board few long F C H records-in n s.0 s.1) ∙ ap is_input (sym s.1)
      try false q = let h = not_below n (length (derivations S)) q in past h (ltb n 4096) refl ∙ ap is_input (sym (entry_none (derivations S) n h))

  long_board : (P : Presence) → ltb (length (board_of day S P board)) 4097 ≡ false
  long_board P = le-ltb (length (board_of day S P board)) 4097 (let e = board_length day S board few long P in omega arith)

  input_found : (n : ℕ) → is_input (clause_of S n) ≡ true → (c : Derivation) × (clause_of S n ≡ some c)
  input_found n i = by (clause_of S n) refl i
    where
      by : (o : Option Derivation) → clause_of S n ≡ o → is_input o ≡ true → (c : Derivation) × (clause_of S n ≡ some c)
      by none e t = absurd (true_not_false t refl)
      by (some c) e t = (c, e)

  module _ (P : Presence) (n : ℕ) (b : Bool) where
    pub refused_20 : is_input (clause_of S n) ≡ false → refusal F C (board_of day S P board) n b ≡ some 20
    refused_20 i =
        ap₂ (λ (x y : Bool). pick x (some 2) (pick y (pick (beq (stands_cell (get_or (board_of day S P board) n 0)) b) (some 21) none) (some 20))) (long_board P) (input_cell P n ∙ i)

    by_condition : is_input (clause_of S n) ≡ true → refusal F C (board_of day S P board) n b ≡ pick (beq (P n) b) (some 21) none
    by_condition i =
        let f = input_found n i in
        let z : stands_cell (get_or (board_of day S P board) n 0) ≡ P n =
        ap stands_cell (board_cell day S board few long P n f.0 f.1) ∙ stands_of (last_child (derivations S) (clause_number f.0)) (uses_in_force S day f.0) (stands_with P f.0) ∙ own_stands P n b f.0 f.1 (sym (ap is_input f.1) ∙ i) P
        in
        ap₂ (λ (x y : Bool). pick x (some 2) (pick y (pick (beq (stands_cell (get_or (board_of day S P board) n 0)) b) (some 21) none) (some 20))) (long_board P) (input_cell P n ∙ i)
        ∙ ap (λ (x : Bool). pick (beq x b) (some 21) none) z

  same_true : (a : Bool) → beq a a ≡ true
  same_true true = refl
  same_true false = refl

  same_false : (a b : Bool) → ¬ (a ≡ b) → beq a b ≡ false
  same_false true true h = absurd (h refl)
  same_false true false h = refl
  same_false false true h = refl
  same_false false false h = absurd (h refl)

  pub refused_21 : (P : Presence) (n : ℕ) (b : Bool) → is_input (clause_of S n) ≡ true → P n ≡ b → refusal F C (board_of day S P board) n b ≡ some 21
  refused_21 P n b i e = by_condition P n b i ∙ ap (λ (x : Bool). pick (beq (P n) x) (some 21) none) (sym e) ∙ ap (λ (x : Bool). pick x (some 21) none) (same_true (P n))

  pub not_refused_lem : (P : Presence) (n : ℕ) (b : Bool) → is_input (clause_of S n) ≡ true → ¬ (P n ≡ b) → refusal F C (board_of day S P board) n b ≡ none
  not_refused_lem P n b i h = by_condition P n b i ∙ ap (λ (x : Bool). pick x (some 21) none) (same_false (P n) b h)

  pub goes_through : (P : Presence) (n : ℕ) (b : Bool) → is_input (clause_of S n) ≡ true → with_cell F C (board_of day S P board) n b ≡ board_of day S (changed P n b) board
  goes_through P n b i = let f = input_found n i in call_goes P n b f.0 f.1 (sym (ap is_input f.1) ∙ i)

  -- A presence that is the same for every number has the same board.
  same_presence : (P Q : Presence) → ((n : ℕ) → P n ≡ Q n) → board_of day S P board ≡ board_of day S Q board
  same_presence P Q h = ap (λ (X : Presence). board_of day S X board) (λ i n. h n i)

  already_so : (P : Presence) (n : ℕ) (b : Bool) → P n ≡ b → (m : ℕ) → P m ≡ changed P n b m
  already_so P n b e m = try (eqb m n) refl
    where
      try : (x : Bool) → eqb m n ≡ x → P m ≡ pick x b (P m)
      try true q = ap P (equal m n q) ∙ e
      try false q = refl

  bool_equal : (a b : Bool) → (a ≡ b) ⊎ ¬ (a ≡ b)
  bool_equal true true = inl refl
  bool_equal true false = inr (λ e. true_not_false refl e)
  bool_equal false true = inr (λ e. true_not_false e refl)
  bool_equal false false = inl refl

  -- One call, whatever it is.
  pub board_called : (P : Presence) (call : Call) → board_after F C (board_of day S P board) call.clause call.present ≡ board_of day S (after_call S P call) board
  unfolding board_after
  board_called P call = try (is_input (clause_of S call.clause)) refl (bool_equal (P call.clause) call.present)
    where
      by : (o : Option ℕ) → refusal F C (board_of day S P board) call.clause call.present ≡ o → board_after F C (board_of day S P board) call.clause call.present ≡ elim o [ some number ↦ board_of day S P board | none ↦ with_cell F C (board_of day S P board) call.clause call.present ]
      by o e = ap (λ (x : Option ℕ). elim x [ some number ↦ board_of day S P board | none ↦ with_cell F C (board_of day S P board) call.clause call.present ]) e

      try : (b : Bool) → is_input (clause_of S call.clause) ≡ b → (P call.clause ≡ call.present) ⊎ ¬ (P call.clause ≡ call.present)
          → board_after F C (board_of day S P board) call.clause call.present ≡ board_of day S (pick b (changed P call.clause call.present) P) board
      try false i d = by (some 20) (refused_20 P call.clause call.present i)
      try true i (inl e) = by (some 21) (refused_21 P call.clause call.present i e) ∙ same_presence P (changed P call.clause call.present) (already_so P call.clause call.present e)
      try true i (inr h) = by none (not_refused_lem P call.clause call.present i h) ∙ goes_through P call.clause call.present i

  pub boards_called : (P : Presence) (calls : List Call) → board_after_calls F C (board_of day S P board) calls ≡ board_of day S (after_calls S P calls) board
  boards_called P [] = refl
  boards_called P (call ∷ calls) = ap (λ (B : List ℕ). board_after_calls F C B calls) (board_called P call) ∙ boards_called (after_call S P call) calls

  pub answer_by : (B : List ℕ) (n : ℕ) (b : Bool) (o : Option ℕ) → refusal F C B n b ≡ o → call_answer F C B n b ≡ elim o [ some number ↦ refused_with number 0 | none ↦ answered (lowest_answer C (with_cell F C B n b) 4096 0) ]
  unfolding call_answer
  answer_by B n b o e = ap (λ (x : Option ℕ). elim x [ some number ↦ refused_with number 0 | none ↦ answered (lowest_answer C (with_cell F C B n b) 4096 0) ]) e

  -- The answer to one call is the one worked out afresh.
  pub call_answered : (P : Presence) (call : Call) → call_answer F C (board_of day S P board) call.clause call.present ≡ answer_to_call day S P call
  call_answered P call = try (is_input (clause_of S call.clause)) refl (beq (P call.clause) call.present) refl
    where
      try : (x : Bool) → is_input (clause_of S call.clause) ≡ x → (y : Bool) → beq (P call.clause) call.present ≡ y
          → call_answer F C (board_of day S P board) call.clause call.present
          ≡ pick x (pick y (refused_with 21 0) (answered (answer_afresh day S (changed P call.clause call.present)))) (refused_with 20 0)
      try false i y s = answer_by (board_of day S P board) call.clause call.present (some 20) (refused_20 P call.clause call.present i)
      try true i true s = answer_by (board_of day S P board) call.clause call.present (some 21) (by_condition P call.clause call.present i ∙ ap (λ (x : Bool). pick x (some 21) none) s)
      try true i false s =
          answer_by (board_of day S P board) call.clause call.present none (by_condition P call.clause call.present i ∙ ap (λ (x : Bool). pick x (some 21) none) s)
          ∙ ap (λ (B : List ℕ). answered (lowest_answer C B 4096 0)) (goes_through P call.clause call.present i)
          ∙ ap answered (answer_afresh_lem (changed P call.clause call.present))

  -- Every use of a clause is an input clause, so that boards go by the presence of these alone.
  pub same_inputs : (P Q : Presence) → ((n : ℕ) → is_input (clause_of S n) ≡ true → P n ≡ Q n) → ((m : ℕ) (c : Derivation) → clause_of S m ≡ some c → Each (λ (u : Use). is_input (clause_of S u.0) ≡ true) (uses c)) → board_of day S P board ≡ board_of day S Q board
  same_inputs P Q h inputs =
      ext_get_or 0 (board_of day S P board) (board_of day S Q board) (board_length day S board few long P ∙ sym (board_length day S board few long Q)) (λ i l. try i (ltb i (length (derivations S))) refl)
    where
      try : (i : ℕ) (b : Bool) → ltb i (length (derivations S)) ≡ b → get_or (board_of day S P board) i 0 ≡ get_or (board_of day S Q board) i 0
      try i true q =
          let s = entry_some (derivations S) i (ltb→lt i (length (derivations S)) (to_t (ltb i (length (derivations S))) q)) in
          cell_same P Q i s.0 s.1 (each_more (λ (u : Use). is_input (clause_of S u.0) ≡ true) (λ (u : Use). P u.0 ≡ Q u.0) (λ u t. h u.0 t) (uses s.0) (inputs i s.0 s.1))
      try i false q = past_cell day S board few long P Q i (not_below i (length (derivations S)) q)
