-- The cells that the program fills are those of the board of all input clauses present.
use mathlib.Core.Path.{◌≡◌, refl, sym, ap, ap₂, ◌∙◌, subst}
use mathlib.Core.Logic.{◌⊎◌, inl, inr}
use mathlib.Core.Bool.{Bool, true, false, ◌||◌}
use mathlib.Core.Option.{some}
use mathlib.Core.List.{List, [], ◌∷◌}
use Prim.Native.Nat.{ℕ, zero, suc, ◌+◌, ◌-◌, ◌*◌, ◌%◌, ◌≤◌, ◌<◌}
use native.Mathlib.Omega.{arith}
use lib.Dec.{eqb, ltb, ltb→lt}
use lib.ListN.{length, get_or, set, drop, replicate, length-append, length-replicate, length-drop, length-set, get_or-replicate, get_or-append}
use lib.Seq.{get_or-append-add, get_or-drop, get_or-set_same, get_or-set_other, ext_get_or}
use borrow.Author.Tests.{ne_eqb}
use Rattle.record.specs.Record.{pick, File, kind_of, field_of}
use Rattle.unification.proofs.Tests.{to_t}
use Rattle.derivation.specs.Derivation.{Derivation, input, resolve, factor, clause_number, Use, uses}
use Rattle.tables.specs.Cells.{cleared_part}
use Rattle.verdict.specs.Force.{uses_in_force}
use Rattle.verdict.specs.State.{State, entry, derivations, clause_of}
use Rattle.demands.proofs.Inversions.{entry_below, entry_more, entry_new, entry_some, not_below}
use Rattle.demands.proofs.RangeTests.{equal, unequal}
use Rattle.demands.proofs.Sources.{earlier, source_of, number_of, SourceOf}
use Rattle.boards.specs.Board.{all_present, all_stand}
use Rattle.boards.specs.Cells.{has_parent, last_child, cell_with, board_of, record_of_clause}
use Rattle.boards.proofs.Parents.{Recorded, Kept}
use Rattle.boards.proofs.Passing.{board_cell, no_cell, tail_cell, board_length, recorded, older}
use Rattle.board_opening.specs.Filling.{first_cell, cells_put, with_child, child_by_kind, child_put, children_put, filled_board}
use Rattle.board_opening.proofs.FillSteps.{cells_length, child_length, children_length}

-- ── The cells of clauses ──
pub put_cell : (L : List ℕ) (n : ℕ) (B : List ℕ) (i : ℕ) → i < n → n ≤ length B → get_or (cells_put L n B) i 0 ≡ first_cell L i
put_cell L zero B i l m = absurd (omega arith)
put_cell L (suc n) B i l m = try (ltb i n) refl (λ x. put_cell L n B i x (omega arith))
  where
    try : (b : Bool) → ltb i n ≡ b → (i < n → get_or (cells_put L n B) i 0 ≡ first_cell L i) → get_or (set (cells_put L n B) n (first_cell L n)) i 0 ≡ first_cell L i
    try true q ih = let x = ltb→lt i n (to_t (ltb i n) q) in get_or-set_other (cells_put L n B) n i (first_cell L n) 0 (λ z. omega arith) ∙ ih x
    try false q ih =
        let x = not_below i n q in
        let z : i ≡ n = omega arith in
        let y = cells_length L n B in
        ap (λ (j : ℕ). get_or (set (cells_put L n B) n (first_cell L n)) j 0) z ∙ get_or-set_same (cells_put L n B) n (first_cell L n) 0 (omega arith) ∙ ap (first_cell L) (sym z)

past_put : (L : List ℕ) (n : ℕ) (B : List ℕ) (i : ℕ) → n ≤ i → get_or (cells_put L n B) i 0 ≡ get_or B i 0
past_put L zero B i l = refl
past_put L (suc n) B i l = get_or-set_other (cells_put L n B) n i (first_cell L n) 0 (λ z. omega arith) ∙ past_put L n B i (omega arith)

-- ── Last children ──
child_cell_lem : (B : List ℕ) (p n q : ℕ) → q < length B → get_or (with_child B p n) q 0 ≡ pick (eqb q p) (8 * n + get_or B q 0 % 8) (get_or B q 0)
unfolding with_child
child_cell_lem B p n q l = try (eqb q p) refl
  where
    try : (b : Bool) → eqb q p ≡ b → get_or (set B p (8 * n + get_or B p 0 % 8)) q 0 ≡ pick b (8 * n + get_or B q 0 % 8) (get_or B q 0)
    try true e =
        let z = equal q p e in
        ap (λ (j : ℕ). get_or (set B j (8 * n + get_or B j 0 % 8)) q 0) (sym z) ∙ get_or-set_same B q (8 * n + get_or B q 0 % 8) 0 l
    try false e = get_or-set_other B p q (8 * n + get_or B p 0 % 8) 0 (λ z. unequal q p e z)

-- Written twice is written once.
twice : (n x : ℕ) (a b : Bool) → pick b (8 * n + pick a (8 * n + x % 8) x % 8) (pick a (8 * n + x % 8) x) ≡ pick (a || b) (8 * n + x % 8) x
twice n x true true = omega arith
twice n x true false = refl
twice n x false true = refl
twice n x false false = refl

module _ (F : File) (C : List ℕ) where
  parents_cell : (B : List ℕ) (n : ℕ) (c : Derivation) → Recorded (record_of_clause F C n) c → (q : ℕ) → q < length B → get_or (child_put F C n B) q 0 ≡ pick (has_parent c q) (8 * n + get_or B q 0 % 8) (get_or B q 0)
  unfolding child_put
  parents_cell B n c R q l = by c R
    where
      kind_is : (k : ℕ) → kind_of (record_of_clause F C n) ≡ k → child_by_kind (record_of_clause F C n) n B ≡ pick (eqb k 4) B (pick (eqb k 6) (with_child B (field_of (record_of_clause F C n) 0) n) (with_child (with_child B (field_of (record_of_clause F C n) 0) n) (field_of (record_of_clause F C n) 2) n))
      kind_is k e = ap (λ (x : ℕ). pick (eqb x 4) B (pick (eqb x 6) (with_child B (field_of (record_of_clause F C n) 0) n) (with_child (with_child B (field_of (record_of_clause F C n) 0) n) (field_of (record_of_clause F C n) 2) n))) e

      both : (a b : ℕ) → get_or (with_child (with_child B a n) b n) q 0 ≡ pick (eqb q a || eqb q b) (8 * n + get_or B q 0 % 8) (get_or B q 0)
      both a b =
          child_cell_lem (with_child B a n) b n q (let z = child_length B a n in omega arith)
          ∙ ap (λ (x : ℕ). pick (eqb q b) (8 * n + x % 8) x) (child_cell_lem B a n q l) ∙ twice n (get_or B q 0) (eqb q a) (eqb q b)

      by : (d : Derivation) → Recorded (record_of_clause F C n) d → get_or (child_by_kind (record_of_clause F C n) n B) q 0 ≡ pick (has_parent d q) (8 * n + get_or B q 0 % 8) (get_or B q 0)
      by (input number ls) r = ap (λ (X : List ℕ). get_or X q 0) (kind_is 4 r)
      by (resolve number x a y ns bs) r =
          ap (λ (X : List ℕ). get_or X q 0) (which r.0) ∙ both (field_of (record_of_clause F C n) 0) (field_of (record_of_clause F C n) 2)
          ∙ ap₂ (λ (i j : ℕ). pick (eqb q i || eqb q j) (8 * n + get_or B q 0 % 8) (get_or B q 0)) r.1 r.2
        where
          which : (kind_of (record_of_clause F C n) ≡ 5) ⊎ (kind_of (record_of_clause F C n) ≡ 7) → child_by_kind (record_of_clause F C n) n B ≡ with_child (with_child B (field_of (record_of_clause F C n) 0) n) (field_of (record_of_clause F C n) 2) n
          which (inl e) = kind_is 5 e
          which (inr e) = kind_is 7 e
      by (factor number x a b bs) r =
          ap (λ (X : List ℕ). get_or X q 0) (kind_is 6 r.0) ∙ child_cell_lem B (field_of (record_of_clause F C n) 0) n q l ∙ ap (λ (i : ℕ). pick (eqb q i) (8 * n + get_or B q 0 % 8) (get_or B q 0)) r.1

  -- After all clauses of a list each cell has its last child in the list,
  children_cell : (cs : List Derivation) → ((i : ℕ) (c : Derivation) → entry cs i ≡ some c → Recorded (record_of_clause F C i) c) → (B : List ℕ) (q : ℕ) → q < length B → get_or B q 0 < 8
      → get_or (children_put F C (length cs) B) q 0 ≡ 8 * last_child cs q + get_or B q 0
  children_cell [] R B q l m = omega arith
  children_cell (c ∷ cs) R B q l m =
      let ih = children_cell cs (λ i d p. R i d (entry_more c cs i d p)) B q l m in
      let n = children_length F C (length cs) B in
      parents_cell (children_put F C (length cs) B) (length cs) c (R (length cs) c (entry_new c cs)) q (omega arith)
      ∙ ap (λ (x : ℕ). pick (has_parent c q) (8 * length cs + x % 8) x) ih ∙ try (has_parent c q)
    where
      try : (b : Bool) → pick b (8 * length cs + (8 * last_child cs q + get_or B q 0) % 8) (8 * last_child cs q + get_or B q 0) ≡ 8 * pick b (length cs) (last_child cs q) + get_or B q 0
      try true = omega arith
      try false = refl

  -- and a cell of no parent is as it was.
  untouched_cell : (cs : List Derivation) → ((i : ℕ) (c : Derivation) → entry cs i ≡ some c → Recorded (record_of_clause F C i) c) → (B : List ℕ) (q : ℕ) → q < length B
      → ((i : ℕ) (c : Derivation) → entry cs i ≡ some c → has_parent c q ≡ false) → get_or (children_put F C (length cs) B) q 0 ≡ get_or B q 0
  untouched_cell [] R B q l h = refl
  untouched_cell (c ∷ cs) R B q l h =
      let n = children_length F C (length cs) B in
      let x = children_put F C (length cs) B in
      parents_cell x (length cs) c (R (length cs) c (entry_new c cs)) q (omega arith)
      ∙ ap (λ (b : Bool). pick b (8 * length cs + get_or x q 0 % 8) (get_or x q 0)) (h (length cs) c (entry_new c cs))
      ∙ untouched_cell cs (λ i d p. R i d (entry_more c cs i d p)) B q l (λ i d p. h i d (entry_more c cs i d p))

-- ── Every clause stands ──
pub all_stand_lem : (us : List Use) → all_stand all_present us ≡ true
all_stand_lem [] = refl
all_stand_lem (u ∷ us) = all_stand_lem us

first_of : (f : Bool) {x : ℕ} → x ≡ pick f 1 0 → pick (eqb x 1) 7 5 ≡ 4 + pick f 2 0 + 1
first_of true e = ap (λ (y : ℕ). pick (eqb y 1) 7 5) e
first_of false e = ap (λ (y : ℕ). pick (eqb y 1) 7 5) e

small : (L : List ℕ) (i : ℕ) → first_cell L i < 8
unfolding first_cell
small L i = try (eqb (get_or L i 0) 1)
  where
    try : (b : Bool) → pick b 7 5 < 8
    try true = omega arith
    try false = omega arith

-- ── The board ──
module _ (day : ℕ) (S : State) (board : List ℕ) (few : length (derivations S) ≤ 4096) (long : 4097 ≤ length board) (F : File) (C L : List ℕ) (H : Kept F S)
    (records-in : (n k : ℕ) (c : Derivation) → entry S.clauses n ≡ some (k, c) → get_or C (5 * n) 0 ≡ k)
    (flags : (n : ℕ) (c : Derivation) → clause_of S n ≡ some c → get_or L n 0 ≡ pick (uses_in_force S day c) 1 0) where
  abbrev cleared : List ℕ
  cleared = cleared_part 0 4096 board

  abbrev dated : List ℕ
  dated = set (cleared_part 0 4096 board) 4096 day

  abbrev celled : List ℕ
  celled = cells_put L (length (derivations S)) (set (cleared_part 0 4096 board) 4096 day)

  clear_length : length (cleared_part 0 4096 board) ≡ length board
  clear_length =
      let a = length-append (replicate {A = ℕ} 4096 0) (drop 4096 board) in
      let b = length-replicate {A = ℕ} 4096 0 in
      let c = length-drop 4096 board in
      omega arith

  dated_length : length (set (cleared_part 0 4096 board) 4096 day) ≡ length board
  dated_length = length-set (cleared_part 0 4096 board) 4096 day ∙ clear_length

  celled_length : length (cells_put L (length (derivations S)) (set (cleared_part 0 4096 board) 4096 day)) ≡ length board
  celled_length = cells_length L (length (derivations S)) (set (cleared_part 0 4096 board) 4096 day) ∙ dated_length

  record_of_lem : (i : ℕ) (c : Derivation) → entry (derivations S) i ≡ some c → Recorded (record_of_clause F C i) c
  record_of_lem i c q = recorded day S board few long F C H records-in i c q

  -- Parents are clauses.
  no_parent : (q : ℕ) → length (derivations S) ≤ q → (i : ℕ) (c : Derivation) → entry (derivations S) i ≡ some c → has_parent c q ≡ false
  no_parent q l i c e = by c e (source_of (derivations S) H.sourced i c e)
    where
      below : i < length (derivations S)
      below = entry_below (derivations S) i c e

      by : (d : Derivation) → entry (derivations S) i ≡ some d → SourceOf (earlier (derivations S) i) d → has_parent d q ≡ false
      by (input number ls) p s = refl
      by (resolve number x a y ns bs) p s =
          let u = older day S board few long F C H records-in i (clause_number x) (resolve number x a y ns bs) x p s.1 in
          let v = older day S board few long F C H records-in i (clause_number y) (resolve number x a y ns bs) y p s.2 in
          let w = below in
          let m = u.0 in
          let n = v.0 in
          ap₂ ◌||◌ (ne_eqb q (clause_number x) (λ z. omega arith)) (ne_eqb q (clause_number y) (λ z. omega arith))
      by (factor number x a b bs) p s =
          let u = older day S board few long F C H records-in i (clause_number x) (factor number x a b bs) x p s.1 in
          let w = below in
          let m = u.0 in
          ne_eqb q (clause_number x) (λ z. omega arith)

  clause_here : (i : ℕ) (c : Derivation) → clause_of S i ≡ some c → get_or (children_put F C (length (derivations S)) celled) i 0 ≡ get_or (board_of day S all_present board) i 0
  unfolding first_cell
  clause_here i c q =
      let l = entry_below (derivations S) i c q in
      let n = celled_length in
      let d = dated_length in
      let cell = put_cell L (length (derivations S)) dated i l (omega arith) in
      let s = small L i in
      let number = number_of (derivations S) H.sourced i c q in
      children_cell F C (derivations S) record_of_lem celled i (omega arith) (subst (λ (x : ℕ). x < 8) (sym cell) s)
      ∙ ap₂ (λ (m x : ℕ). 8 * last_child (derivations S) m + x) (sym number) (cell ∙ first_of (uses_in_force S day c) (flags i c q))
      ∙ ap (cell_with (last_child (derivations S) (clause_number c)) (uses_in_force S day c)) (sym (all_stand_lem (uses c)))
      ∙ sym (board_cell day S board few long all_present i c q)

  past_here : (i : ℕ) → length (derivations S) ≤ i → i < length board → get_or (children_put F C (length (derivations S)) celled) i 0 ≡ get_or dated i 0
  past_here i l m =
      let n = celled_length in
      untouched_cell F C (derivations S) record_of_lem celled i (omega arith) (no_parent i l)
      ∙ past_put L (length (derivations S)) dated i l

  zero_here : (i : ℕ) → i < 4096 → get_or dated i 0 ≡ 0
  zero_here i l =
      let r = length-replicate {A = ℕ} 4096 0 in
      get_or-set_other (cleared_part 0 4096 board) 4096 i day 0 (λ z. omega arith)
      ∙ get_or-append (replicate 4096 0) (drop 4096 board) 0 i (omega arith) ∙ get_or-replicate 4096 i 0 0 l

  day_here : get_or dated (4096 + 0) 0 ≡ day
  day_here = let n = clear_length in get_or-set_same (cleared_part 0 4096 board) 4096 day 0 (omega arith)

  rest_here : (j : ℕ) → get_or dated (4096 + suc j) 0 ≡ get_or (drop 4097 board) j 0
  rest_here j =
      let r = length-replicate {A = ℕ} 4096 0 in
      let x : 4096 + suc j ≡ length (replicate {A = ℕ} 4096 0) + suc j = omega arith in
      let y : 4096 + suc j ≡ 4097 + j = omega arith in
      get_or-set_other (cleared_part 0 4096 board) 4096 (4096 + suc j) day 0 (λ z. omega arith)
      ∙ ap (λ (i : ℕ). get_or (cleared_part 0 4096 board) i 0) x
      ∙ get_or-append-add (replicate 4096 0) (drop 4096 board) (suc j) 0
      ∙ get_or-drop 4096 board (suc j) 0 ∙ ap (λ (i : ℕ). get_or board i 0) y ∙ sym (get_or-drop 4097 board j 0)

  tail_here : (j : ℕ) → get_or dated (4096 + j) 0 ≡ get_or (board_of day S all_present board) (4096 + j) 0
  tail_here zero = day_here ∙ sym (tail_cell day S board few long all_present zero)
  tail_here (suc j) = rest_here j ∙ sym (tail_cell day S board few long all_present (suc j))

  pub opened_board : filled_board day F C L (length (derivations S)) board ≡ board_of day S all_present board
  unfolding filled_board
  opened_board =
      ext_get_or 0 (children_put F C (length (derivations S)) celled) (board_of day S all_present board) (same_length_lem ∙ sym (board_length day S board few long all_present)) (λ i l. try i (let n = same_length_lem in omega arith) (ltb i (length (derivations S))) refl (ltb i 4096) refl)
    where
      same_length_lem : length (children_put F C (length (derivations S)) celled) ≡ length board
      same_length_lem = children_length F C (length (derivations S)) celled ∙ celled_length

      try : (i : ℕ) → i < length board → (a : Bool) → ltb i (length (derivations S)) ≡ a → (b : Bool) → ltb i 4096 ≡ b
          → get_or (children_put F C (length (derivations S)) celled) i 0 ≡ get_or (board_of day S all_present board) i 0
      try i l true p b q =
          let s = entry_some (derivations S) i (ltb→lt i (length (derivations S)) (to_t (ltb i (length (derivations S))) p)) in
          clause_here i s.0 s.1
      try i l false p true q =
          let x = not_below i (length (derivations S)) p in
          let y = ltb→lt i 4096 (to_t (ltb i 4096) q) in
          past_here i x l ∙ zero_here i y ∙ sym (no_cell day S board few long all_present i x y)
      try i l false p false q =
          let x = not_below i (length (derivations S)) p in
          let y = not_below i 4096 q in
          let z : i ≡ 4096 + (i - 4096) = omega arith in
          past_here i x l ∙ ap (λ (k : ℕ). get_or dated k 0) z ∙ tail_here (i - 4096) ∙ ap (λ (k : ℕ). get_or (board_of day S all_present board) k 0) (sym z)
