-- A call on the cells of a board changes them to those of the presence after it.
use mathlib.Core.Path.{◌≡◌, refl, sym, ap, ap₂, ◌∙◌, subst}
use mathlib.Core.Logic.{◌⊎◌, inl, inr}
use mathlib.Core.Bool.{Bool, true, false, ◌&&◌, ◌||◌, and_assoc, and_self, or-true}
use mathlib.Core.Option.{some}
use mathlib.Core.List.{List, [], ◌∷◌, ◌++◌, map}
use Prim.Native.Nat.{ℕ, zero, suc, ◌+◌, ◌-◌, ◌*◌, ◌/◌, ◌%◌, ◌≤◌, ◌<◌}
use native.Mathlib.Omega.{arith}
use lib.Dec.{eqb, leb, ltb, eqb_refl, ltb→lt}
use lib.ListN.{length, get_or, set, drop, replicate, length-append, length-map, length-reverse, length-replicate, length-drop, length-set, get_or-replicate, get_or-append}
use lib.Seq.{get_or-append-add, get_or-set_same, get_or-set_other, ext_get_or}
use borrow.Author.Tests.{eq-eqb, ne_eqb, le-leb, leb-true, leb-false}
use Rattle.record.specs.Record.{pick, File, record_part, kind_of, field_of}
use Rattle.unification.proofs.Tests.{to_t, from_t, some_not_none, some_injective}
use Rattle.derivation.specs.Derivation.{Derivation, input, resolve, factor, clause_number, Use, uses}
use Rattle.verdict.specs.Force.{uses_in_force}
use Rattle.verdict.specs.State.{State, entry, derivations, clause_of}
use Rattle.demands.proofs.Inversions.{entry_below, entry_more, entry_some, entry_each, not_below}
use Rattle.demands.proofs.RangeTests.{equal}
use Rattle.demands.proofs.Sources.{SourceOf, earlier, source_of, earlier_length, number_of}
use Rattle.demands.proofs.TableCells.{reversed_at}
use Rattle.force.proofs.FlagLaws.{all_joined}
use Rattle.boards.specs.Board.{Presence, all_stand, stands_with}
use Rattle.boards.specs.Cells.{has_parent, last_child, cell_with, child_cell, is_clause_cell, force_cell, stands_cell, clause_cell, clause_cells, board_of, record_of_clause, from_parents, cell_by_kind, new_cell, larger, last_after, passed}
use Rattle.boards.proofs.Parents.{Recorded, Kept, with_record_lem}

-- ── Cells and their parts ──
pub force_of : (r : ℕ) (f s : Bool) → force_cell (cell_with r f s) ≡ f
force_of r true true = eq-eqb ((8 * r + 7) / 2 % 2) 1 (omega arith)
force_of r true false = eq-eqb ((8 * r + 6) / 2 % 2) 1 (omega arith)
force_of r false true = ne_eqb ((8 * r + 5) / 2 % 2) 1 (λ q. omega arith)
force_of r false false = ne_eqb ((8 * r + 4) / 2 % 2) 1 (λ q. omega arith)

pub stands_of : (r : ℕ) (f s : Bool) → stands_cell (cell_with r f s) ≡ s
stands_of r true true = eq-eqb ((8 * r + 7) % 2) 1 (omega arith)
stands_of r true false = ne_eqb ((8 * r + 6) % 2) 1 (λ q. omega arith)
stands_of r false true = eq-eqb ((8 * r + 5) % 2) 1 (omega arith)
stands_of r false false = ne_eqb ((8 * r + 4) % 2) 1 (λ q. omega arith)

pub child_of : (r : ℕ) (f s : Bool) → child_cell (cell_with r f s) ≡ r
child_of r true true = omega arith
child_of r true false = omega arith
child_of r false true = omega arith
child_of r false false = omega arith

pub clause_of_lem : (r : ℕ) (f s : Bool) → is_clause_cell (cell_with r f s) ≡ true
clause_of_lem r true true = le-leb 4 (8 * r + 7) (omega arith)
clause_of_lem r true false = le-leb 4 (8 * r + 6) (omega arith)
clause_of_lem r false true = le-leb 4 (8 * r + 5) (omega arith)
clause_of_lem r false false = le-leb 4 (8 * r + 4) (omega arith)

from_both : (x r : ℕ) (f s : Bool) (q : ℕ) (g t : Bool) → from_parents x (cell_with r f s) (cell_with q g t) ≡ cell_with (child_cell x) (f && g) (s && t)
from_both x r f s q g t = λ i. cell_with (child_cell x) (force_of r f s i && force_of q g t i) (stands_of r f s i && stands_of q g t i)

-- ── Last children ──
-- A clause comes no later than the last child of its parent.
pub child_later : (cs : List Derivation) (i p : ℕ) (c : Derivation) → entry cs i ≡ some c → has_parent c p ≡ true → i ≤ last_child cs p
child_later [] i p c q t = absurd (some_not_none refl q)
child_later (k ∷ ks) i p c q t = try (eqb i (length ks)) refl q (λ e. child_later ks i p c e t)
  where
    later : (b : Bool) → i < length ks → i ≤ last_child ks p → i ≤ pick b (length ks) (last_child ks p)
    later true l h = omega arith
    later false l h = h

    try : (b : Bool) → eqb i (length ks) ≡ b → pick b (some k) (entry ks i) ≡ some c → (entry ks i ≡ some c → i ≤ last_child ks p) → i ≤ last_child (k ∷ ks) p
    try true e q ih =
        let z : has_parent k p ≡ true = ap (λ (d : Derivation). has_parent d p) (some_injective q) ∙ t in
        let w : last_child (k ∷ ks) p ≡ length ks = ap (λ (b : Bool). pick b (length ks) (last_child ks p)) z in
        let y = equal i (length ks) e in
        omega arith
    try false e q ih = later (has_parent k p) (entry_below ks i c q) (ih q)

-- The last child is a clause.
pub child_below : (cs : List Derivation) (p : ℕ) → 0 < length cs → last_child cs p < length cs
child_below [] p l = absurd (omega arith)
child_below (k ∷ ks) p l = try (has_parent k p) (ltb 0 (length ks)) refl (child_below ks p)
  where
    none_yet : (ds : List Derivation) → length ds ≤ 0 → last_child ds p ≡ 0
    none_yet [] h = refl
    none_yet (d ∷ ds) h = absurd (omega arith)

    try : (b x : Bool) → ltb 0 (length ks) ≡ x → (0 < length ks → last_child ks p < length ks) → pick b (length ks) (last_child ks p) < suc (length ks)
    try true x e ih = omega arith
    try false true e ih = let h = ih (ltb→lt 0 (length ks) (to_t (ltb 0 (length ks)) e)) in omega arith
    try false false e ih = let h = none_yet ks (not_below 0 (length ks) e) in omega arith

-- ── Uses of clauses ──
stand_joined : (P : Presence) (us vs : List Use) → all_stand P (us ++ vs) ≡ (all_stand P us && all_stand P vs)
stand_joined P [] vs = refl
stand_joined P (u ∷ us) vs = ap (λ (b : Bool). P u.0 && b) (stand_joined P us vs) ∙ sym (and_assoc (P u.0) (all_stand P us) (all_stand P vs))

-- A clause among the earlier ones is at its number.
earlier_entry : (cs : List Derivation) (n m : ℕ) (c : Derivation) → entry (earlier cs n) m ≡ some c → entry cs m ≡ some c
earlier_entry [] n m c q = q
earlier_entry (d ∷ cs) n m c q = try (eqb n (length cs)) q (earlier_entry cs n m c)
  where
    try : (b : Bool) → entry (pick b cs (earlier cs n)) m ≡ some c → (entry (earlier cs n) m ≡ some c → entry cs m ≡ some c) → entry (d ∷ cs) m ≡ some c
    try true p ih = entry_more d cs m c p
    try false p ih = entry_more d cs m c (ih p)

-- ── The board of a state, cell by cell ──
module _ (day : ℕ) (S : State) (board : List ℕ) (few : length (derivations S) ≤ 4096) (long : 4097 ≤ length board) where
  cells_many : (P : Presence) → length (clause_cells day S P) ≡ length (derivations S)
  cells_many P = length-reverse (map (clause_cell day S P) (derivations S)) ∙ length-map (derivations S) (clause_cell day S P)

  abbrev after : List ℕ
  after = replicate (4096 - length (derivations S)) 0 ++ (day ∷ drop 4097 board)

  pub board_cell : (P : Presence) (n : ℕ) (c : Derivation) → clause_of S n ≡ some c → get_or (board_of day S P board) n 0 ≡ clause_cell day S P c
  board_cell P n c q =
      let l = entry_below (derivations S) n c q in
      let m = cells_many P in
      get_or-append (clause_cells day S P) after 0 n (omega arith) ∙ reversed_at (clause_cell day S P) (derivations S) n c q

  -- Past the clauses the presence does not come in.
  pub past_cell : (P Q : Presence) (n : ℕ) → length (derivations S) ≤ n → get_or (board_of day S P board) n 0 ≡ get_or (board_of day S Q board) n 0
  past_cell P Q n l =
      let a = cells_many P in
      let b = cells_many Q in
      let x : n ≡ length (clause_cells day S P) + (n - length (derivations S)) = omega arith in
      let y : length (clause_cells day S Q) + (n - length (derivations S)) ≡ n = omega arith in
      ap (λ (i : ℕ). get_or (board_of day S P board) i 0) x
      ∙ get_or-append-add (clause_cells day S P) after (n - length (derivations S)) 0
      ∙ sym (get_or-append-add (clause_cells day S Q) after (n - length (derivations S)) 0)
      ∙ ap (λ (i : ℕ). get_or (board_of day S Q board) i 0) y

  pub no_cell : (P : Presence) (n : ℕ) → length (derivations S) ≤ n → n < 4096 → get_or (board_of day S P board) n 0 ≡ 0
  no_cell P n l m =
      let a = cells_many P in
      let x : n ≡ length (clause_cells day S P) + (n - length (derivations S)) = omega arith in
      let r = length-replicate {A = ℕ} (4096 - length (derivations S)) 0 in
      ap (λ (i : ℕ). get_or (board_of day S P board) i 0) x
      ∙ get_or-append-add (clause_cells day S P) after (n - length (derivations S)) 0
      ∙ get_or-append (replicate (4096 - length (derivations S)) 0) (day ∷ drop 4097 board) 0 (n - length (derivations S)) (omega arith)
      ∙ get_or-replicate (4096 - length (derivations S)) (n - length (derivations S)) 0 0 (omega arith)

  -- From cell 4,096 on there are the day and what was there.
  pub tail_cell : (P : Presence) (j : ℕ) → get_or (board_of day S P board) (4096 + j) 0 ≡ get_or (day ∷ drop 4097 board) j 0
  tail_cell P j =
      let a = cells_many P in
      let r = length-replicate {A = ℕ} (4096 - length (derivations S)) 0 in
      let x : 4096 + j ≡ length (clause_cells day S P) + (length (replicate {A = ℕ} (4096 - length (derivations S)) 0) + j) = omega arith in
      ap (λ (i : ℕ). get_or (board_of day S P board) i 0) x
      ∙ get_or-append-add (clause_cells day S P) after (length (replicate {A = ℕ} (4096 - length (derivations S)) 0) + j) 0
      ∙ get_or-append-add (replicate (4096 - length (derivations S)) 0) (day ∷ drop 4097 board) j 0

  pub board_length : (P : Presence) → length (board_of day S P board) ≡ length board
  board_length P =
      let a = cells_many P in
      let b = length-append (clause_cells day S P) after in
      let c = length-append (replicate (4096 - length (derivations S)) 0) (day ∷ drop 4097 board) in
      let d = length-replicate {A = ℕ} (4096 - length (derivations S)) 0 in
      let e = length-drop 4097 board in
      omega arith

  -- ── The pass ──
  module _ (F : File) (C : List ℕ) (H : Kept F S) (records-in : (n k : ℕ) (c : Derivation) → entry S.clauses n ≡ some (k, c) → get_or C (5 * n) 0 ≡ k) where
    pub recorded : (n : ℕ) (c : Derivation) → clause_of S n ≡ some c → Recorded (record_of_clause F C n) c
    recorded n c q =
        let w = with_record_lem S.clauses n c q in
        subst (λ (k : ℕ). Recorded (record_part F k) c) (sym (records-in n w.0 c w.1)) (entry_each (λ (x : ℕ × Derivation). Recorded (record_part F x.0) x.1) S.clauses H.recorded n (w.0, c) w.1)

    -- A parent is an earlier clause, at its number.
    pub older : (n m : ℕ) (c d : Derivation) → clause_of S n ≡ some c → entry (earlier (derivations S) n) m ≡ some d → (m < n) × (clause_of S m ≡ some d)
    older n m c d p q = (let l = entry_below (earlier (derivations S) n) m d q in let e = earlier_length (derivations S) n c p in omega arith, earlier_entry (derivations S) n m d q)

    -- The cell of a clause from cells of its parents that are right for Q, and its own, which is right for P.
    right_cell : (P Q : Presence) (B : List ℕ) (m : ℕ) (c : Derivation) → clause_of S m ≡ some c → ((i : ℕ) → i < m → has_parent c i ≡ true → get_or B i 0 ≡ get_or (board_of day S Q board) i 0) → get_or B m 0 ≡ get_or (board_of day S P board) m 0 → P m ≡ Q m
        → new_cell F C B m ≡ clause_cell day S Q c
    unfolding new_cell
    right_cell P Q B m c q before own e = by c q (recorded m c q) (source_of (derivations S) H.sourced m c q) before
      where
        kind_is : (n : ℕ) → kind_of (record_of_clause F C m) ≡ n → cell_by_kind (record_of_clause F C m) B m ≡ pick (eqb n 4) (get_or B m 0) (from_parents (get_or B m 0) (get_or B (field_of (record_of_clause F C m) 0) 0) (get_or B (pick (eqb n 6) (field_of (record_of_clause F C m) 0) (field_of (record_of_clause F C m) 2)) 0))
        kind_is n k = ap (λ (x : ℕ). pick (eqb x 4) (get_or B m 0) (from_parents (get_or B m 0) (get_or B (field_of (record_of_clause F C m) 0) 0) (get_or B (pick (eqb x 6) (field_of (record_of_clause F C m) 0) (field_of (record_of_clause F C m) 2)) 0))) k

        own_child : (d : Derivation) → clause_of S m ≡ some d → child_cell (get_or B m 0) ≡ last_child (derivations S) (clause_number d)
        own_child d p = ap child_cell (own ∙ board_cell P m d p) ∙ child_of (last_child (derivations S) (clause_number d)) (uses_in_force S day d) (stands_with P d)

        parent : (i n : ℕ) (d : Derivation) → n ≡ i → get_or B i 0 ≡ get_or (board_of day S Q board) i 0 → clause_of S i ≡ some d → get_or B n 0 ≡ clause_cell day S Q d
        parent i n d z l p = ap (λ (x : ℕ). get_or B x 0) z ∙ l ∙ board_cell Q i d p

        self : (n : ℕ) → eqb n n ≡ true
        self n = from_t (eqb n n) (eqb_refl n)

        by : (d : Derivation) → clause_of S m ≡ some d → Recorded (record_of_clause F C m) d → SourceOf (earlier (derivations S) m) d
            → ((i : ℕ) → i < m → has_parent d i ≡ true → get_or B i 0 ≡ get_or (board_of day S Q board) i 0) → cell_by_kind (record_of_clause F C m) B m ≡ clause_cell day S Q d
        by (input number ls) p R s right =
            let n : number ≡ m = number_of (derivations S) H.sourced m (input number ls) p in
            kind_is 4 R ∙ own ∙ board_cell P m (input number ls) p ∙ ap (λ (b : Bool). cell_with (last_child (derivations S) number) (uses_in_force S day (input number ls)) (b && true)) (ap P n ∙ e ∙ ap Q (sym n))
        by (resolve number l a r ns bs) p R s right =
            let x = older m (clause_number l) (resolve number l a r ns bs) l p s.1 in
            let y = older m (clause_number r) (resolve number l a r ns bs) r p s.2 in
            let u = right (clause_number l) x.0 (ap (λ (b : Bool). b || eqb (clause_number l) (clause_number r)) (self (clause_number l))) in
            let v = right (clause_number r) y.0 (ap (λ (b : Bool). eqb (clause_number r) (clause_number l) || b) (self (clause_number r)) ∙ or-true (eqb (clause_number r) (clause_number l))) in
            which R.0
            ∙ ap₂ (from_parents (get_or B m 0)) (parent (clause_number l) (field_of (record_of_clause F C m) 0) l R.1 u x.1) (parent (clause_number r) (field_of (record_of_clause F C m) 2) r R.2 v y.1)
            ∙ from_both (get_or B m 0) (last_child (derivations S) (clause_number l)) (uses_in_force S day l) (stands_with Q l) (last_child (derivations S) (clause_number r)) (uses_in_force S day r) (stands_with Q r)
            ∙ ap (λ (x : ℕ). cell_with x (uses_in_force S day l && uses_in_force S day r) (stands_with Q l && stands_with Q r)) (own_child (resolve number l a r ns bs) p)
            ∙ ap₂ (cell_with (last_child (derivations S) number)) (sym (all_joined S.windows day (uses l) (uses r))) (sym (stand_joined Q (uses l) (uses r)))
          where
            which : (kind_of (record_of_clause F C m) ≡ 5) ⊎ (kind_of (record_of_clause F C m) ≡ 7) → cell_by_kind (record_of_clause F C m) B m ≡ from_parents (get_or B m 0) (get_or B (field_of (record_of_clause F C m) 0) 0) (get_or B (field_of (record_of_clause F C m) 2) 0)
            which (inl k) = kind_is 5 k
            which (inr k) = kind_is 7 k
        by (factor number d a b bs) p R s right =
            let x = older m (clause_number d) (factor number d a b bs) d p s.1 in
            let w = parent (clause_number d) (field_of (record_of_clause F C m) 0) d R.1 (right (clause_number d) x.0 (self (clause_number d))) x.1 in
            kind_is 6 R.0 ∙ ap₂ (from_parents (get_or B m 0)) w w
            ∙ from_both (get_or B m 0) (last_child (derivations S) (clause_number d)) (uses_in_force S day d) (stands_with Q d) (last_child (derivations S) (clause_number d)) (uses_in_force S day d) (stands_with Q d)
            ∙ ap (λ (x : ℕ). cell_with x (uses_in_force S day d && uses_in_force S day d) (stands_with Q d && stands_with Q d)) (own_child (factor number d a b bs) p)
            ∙ ap₂ (cell_with (last_child (derivations S) number)) (and_self (uses_in_force S day d)) (and_self (stands_with Q d))

    -- The last child of a clause, by its cell.
    pub cell_child : (P : Presence) (m : ℕ) (c : Derivation) → clause_of S m ≡ some c → child_cell (get_or (board_of day S P board) m 0) ≡ last_child (derivations S) m
    cell_child P m c q =
        ap child_cell (board_cell P m c q) ∙ child_of (last_child (derivations S) (clause_number c)) (uses_in_force S day c) (stands_with P c)
        ∙ ap (last_child (derivations S)) (number_of (derivations S) H.sourced m c q)

    -- Where all clauses before m that differ have their last child before m, none from m on differs.
    module _ (P Q : Presence) (m last : ℕ) (same : (i : ℕ) → m ≤ i → P i ≡ Q i) (behind : last < m)
        (reach : (i : ℕ) → i < m → (get_or (board_of day S P board) i 0 ≡ get_or (board_of day S Q board) i 0) ⊎ (last_child (derivations S) i ≤ last)) where
      quiet : (k i : ℕ) → i < k → m ≤ i → get_or (board_of day S P board) i 0 ≡ get_or (board_of day S Q board) i 0
      quiet zero i l h = absurd (omega arith)
      quiet (suc k) i l h = try (ltb i (length (derivations S))) refl (λ p x y. quiet k p x y)
        where
          parents : (c : Derivation) → clause_of S i ≡ some c → ((p : ℕ) → p < k → m ≤ p → get_or (board_of day S P board) p 0 ≡ get_or (board_of day S Q board) p 0)
              → (p : ℕ) → p < i → has_parent c p ≡ true → get_or (board_of day S P board) p 0 ≡ get_or (board_of day S Q board) p 0
          parents c q ih p x t = side (ltb p m) refl
            where
              reached : (get_or (board_of day S P board) p 0 ≡ get_or (board_of day S Q board) p 0) ⊎ (last_child (derivations S) p ≤ last) → get_or (board_of day S P board) p 0 ≡ get_or (board_of day S Q board) p 0
              reached (inl z) = z
              reached (inr z) = let w = child_later (derivations S) i p c q t in absurd (omega arith)

              side : (b : Bool) → ltb p m ≡ b → get_or (board_of day S P board) p 0 ≡ get_or (board_of day S Q board) p 0
              side true z = reached (reach p (ltb→lt p m (to_t (ltb p m) z)))
              side false z = ih p (omega arith) (not_below p m z)

          try : (b : Bool) → ltb i (length (derivations S)) ≡ b → ((p : ℕ) → p < k → m ≤ p → get_or (board_of day S P board) p 0 ≡ get_or (board_of day S Q board) p 0) → get_or (board_of day S P board) i 0 ≡ get_or (board_of day S Q board) i 0
          try true q ih =
              let s = entry_some (derivations S) i (ltb→lt i (length (derivations S)) (to_t (ltb i (length (derivations S))) q)) in
              board_cell P i s.0 s.1
              ∙ sym (right_cell P P (board_of day S P board) i s.0 s.1 (λ p x t. refl) refl refl)
              ∙ right_cell P Q (board_of day S P board) i s.0 s.1 (parents s.0 s.1 ih) refl (same i h)
              ∙ sym (board_cell Q i s.0 s.1)
          try false q ih = past_cell P Q i (not_below i (length (derivations S)) q)

    larger_left : (a b : ℕ) → a ≤ larger a b
    larger_left a b = try (ltb a b) refl
      where
        try : (x : Bool) → ltb a b ≡ x → a ≤ pick x b a
        try true q = let l = ltb→lt a b (to_t (ltb a b) q) in omega arith
        try false q = omega arith

    larger_right : (a b : ℕ) → b ≤ larger a b
    larger_right a b = try (ltb a b) refl
      where
        try : (x : Bool) → ltb a b ≡ x → b ≤ pick x b a
        try true q = omega arith
        try false q = not_below a b q

    larger_below : (a b n : ℕ) → a < n → b < n → larger a b < n
    larger_below a b n l m = try (ltb a b)
      where
        try : (x : Bool) → pick x b a < n
        try true = m
        try false = l

    -- A pass from m on, where the cells before m are right for Q already and those from m on for P, and no clause before m that differs has a later child than `last`.
    pub pass_right : (P Q : Presence) (k m last : ℕ) (B : List ℕ) → k + m ≡ 4096 → length B ≡ length board → ((i : ℕ) → m ≤ i → P i ≡ Q i) → last < length (derivations S)
        → ((i : ℕ) → i < m → (get_or (board_of day S P board) i 0 ≡ get_or (board_of day S Q board) i 0) ⊎ (last_child (derivations S) i ≤ last))
        → ((i : ℕ) → i < m → get_or B i 0 ≡ get_or (board_of day S Q board) i 0) → ((i : ℕ) → m ≤ i → get_or B i 0 ≡ get_or (board_of day S P board) i 0) → passed F C k m last B ≡ board_of day S Q board
    pass_right P Q zero m last B e l same low reach before from =
        ext_get_or 0 B (board_of day S Q board) (l ∙ sym (board_length Q)) (λ i x. try i (ltb i m) refl)
      where
        try : (i : ℕ) (b : Bool) → ltb i m ≡ b → get_or B i 0 ≡ get_or (board_of day S Q board) i 0
        try i true q = before i (ltb→lt i m (to_t (ltb i m) q))
        try i false q = let j = not_below i m q in from i j ∙ past_cell P Q i (omega arith)
    pass_right P Q (suc k) m last B e l same low reach before from =
        ends (leb m last) refl (λ y a B' b c d. pass_right P Q k (suc m) y B' (omega arith) b (λ i x. same i (omega arith)) a.0 a.1 c d)
      where
        Onward : Type 0
        Onward =
            (y : ℕ) → (y < length (derivations S)) × ((i : ℕ) → i < suc m → (get_or (board_of day S P board) i 0 ≡ get_or (board_of day S Q board) i 0) ⊎ (last_child (derivations S) i ≤ y)) → (B' : List ℕ) → length B' ≡ length board
            → ((i : ℕ) → i < suc m → get_or B' i 0 ≡ get_or (board_of day S Q board) i 0) → ((i : ℕ) → suc m ≤ i → get_or B' i 0 ≡ get_or (board_of day S P board) i 0) → passed F C k (suc m) y B' ≡ board_of day S Q board

        next : (c : Derivation) → clause_of S m ≡ some c → Onward → passed F C k (suc m) (last_after last (get_or B m 0) (new_cell F C B m)) (set B m (new_cell F C B m)) ≡ board_of day S Q board
        next c q ih = ih (last_after last (get_or B m 0) (new_cell F C B m)) (below (eqb (get_or B m 0) (new_cell F C B m)), reached) (set B m (new_cell F C B m)) (length-set B m (new_cell F C B m) ∙ l) earlier_cells later_cells
          where
            inside : m < length B
            inside = let x = few in let y = entry_below (derivations S) m c q in omega arith

            right : new_cell F C B m ≡ get_or (board_of day S Q board) m 0
            right = right_cell P Q B m c q (λ i x t. before i x) (from m (omega arith)) (same m (omega arith)) ∙ sym (board_cell Q m c q)

            own : child_cell (get_or B m 0) ≡ last_child (derivations S) m
            own = ap child_cell (from m (omega arith)) ∙ cell_child P m c q

            below : (b : Bool) → pick b last (larger last (child_cell (get_or B m 0))) < length (derivations S)
            below true = low
            below false =
                let x = child_below (derivations S) m (omega arith) in
                larger_below last (child_cell (get_or B m 0)) (length (derivations S)) low (let z = own in omega arith)

            still : (i : ℕ) (b : Bool) → last_child (derivations S) i ≤ last → last_child (derivations S) i ≤ pick b last (larger last (child_cell (get_or B m 0)))
            still i true h = h
            still i false h = let x = larger_left last (child_cell (get_or B m 0)) in omega arith

            moved : (b : Bool) → eqb (get_or B m 0) (new_cell F C B m) ≡ b → (get_or (board_of day S P board) m 0 ≡ get_or (board_of day S Q board) m 0) ⊎ (last_child (derivations S) m ≤ pick b last (larger last (child_cell (get_or B m 0))))
            moved true z = inl (sym (from m (omega arith)) ∙ equal (get_or B m 0) (new_cell F C B m) z ∙ right)
            moved false z = inr (let x = larger_right last (child_cell (get_or B m 0)) in let y = own in omega arith)

            reached : (i : ℕ) → i < suc m → (get_or (board_of day S P board) i 0 ≡ get_or (board_of day S Q board) i 0) ⊎ (last_child (derivations S) i ≤ last_after last (get_or B m 0) (new_cell F C B m))
            reached i x = try (ltb i m) refl
              where
                old : (get_or (board_of day S P board) i 0 ≡ get_or (board_of day S Q board) i 0) ⊎ (last_child (derivations S) i ≤ last) → (get_or (board_of day S P board) i 0 ≡ get_or (board_of day S Q board) i 0) ⊎ (last_child (derivations S) i ≤ last_after last (get_or B m 0) (new_cell F C B m))
                old (inl z) = inl z
                old (inr z) = inr (still i (eqb (get_or B m 0) (new_cell F C B m)) z)

                try : (b : Bool) → ltb i m ≡ b → (get_or (board_of day S P board) i 0 ≡ get_or (board_of day S Q board) i 0) ⊎ (last_child (derivations S) i ≤ last_after last (get_or B m 0) (new_cell F C B m))
                try true p = old (reach i (ltb→lt i m (to_t (ltb i m) p)))
                try false p =
                    let y = not_below i m p in
                    let z : m ≡ i = omega arith in
                    subst (λ (j : ℕ). (get_or (board_of day S P board) j 0 ≡ get_or (board_of day S Q board) j 0) ⊎ (last_child (derivations S) j ≤ last_after last (get_or B m 0) (new_cell F C B m))) z (moved (eqb (get_or B m 0) (new_cell F C B m)) refl)

            earlier_cells : (i : ℕ) → i < suc m → get_or (set B m (new_cell F C B m)) i 0 ≡ get_or (board_of day S Q board) i 0
            earlier_cells i x = try (ltb i m) refl
              where
                try : (b : Bool) → ltb i m ≡ b → get_or (set B m (new_cell F C B m)) i 0 ≡ get_or (board_of day S Q board) i 0
                try true p = let y = ltb→lt i m (to_t (ltb i m) p) in get_or-set_other B m i (new_cell F C B m) 0 (λ z. omega arith) ∙ before i y
                try false p =
                    let y = not_below i m p in
                    let z : i ≡ m = omega arith in
                    ap (λ (j : ℕ). get_or (set B m (new_cell F C B m)) j 0) z ∙ get_or-set_same B m (new_cell F C B m) 0 inside ∙ right ∙ ap (λ (j : ℕ). get_or (board_of day S Q board) j 0) (sym z)

            later_cells : (i : ℕ) → suc m ≤ i → get_or (set B m (new_cell F C B m)) i 0 ≡ get_or (board_of day S P board) i 0
            later_cells i x = get_or-set_other B m i (new_cell F C B m) 0 (λ z. omega arith) ∙ from i (omega arith)

        ends : (b : Bool) → leb m last ≡ b → Onward → passed F C (suc k) m last B ≡ board_of day S Q board
        ends true q ih =
            let x = leb-true m last q in
            let s = entry_some (derivations S) m (omega arith) in
            ap (λ (b : Bool). elim b [ true ↦ passed F C k (suc m) (last_after last (get_or B m 0) (new_cell F C B m)) (set B m (new_cell F C B m)) | false ↦ B ]) q ∙ next s.0 s.1 ih
        ends false q ih =
            ap (λ (b : Bool). elim b [ true ↦ passed F C k (suc m) (last_after last (get_or B m 0) (new_cell F C B m)) (set B m (new_cell F C B m)) | false ↦ B ]) q
            ∙ ext_get_or 0 B (board_of day S Q board) (l ∙ sym (board_length Q)) (λ i x. try i (ltb i m) refl)
          where
            behind : last < m
            behind = leb-false m last q

            try : (i : ℕ) (b : Bool) → ltb i m ≡ b → get_or B i 0 ≡ get_or (board_of day S Q board) i 0
            try i true z = before i (ltb→lt i m (to_t (ltb i m) z))
            try i false z = let j = not_below i m z in from i j ∙ quiet P Q m last same behind reach (suc i) i (omega arith) j
