-- The node table of a state: eight cells a row, and zeros after. Its rows are the state's, and it is in order.
use mathlib.Core.Path.{◌≡◌, refl, sym, ap, ap₂, ◌∙◌, subst}
use mathlib.Core.Logic.{◌⊎◌, inl, inr}
use mathlib.Core.Bool.{Bool, true, false}
use mathlib.Core.Option.{Option, none, some}
use mathlib.Core.List.{List, [], ◌∷◌, ◌++◌}
use Prim.Native.Nat.{ℕ, zero, suc, ◌+◌, ◌-◌, ◌*◌, ◌≤◌, ◌<◌}
use native.Mathlib.Nat.{add-zero}
use native.Mathlib.Omega.{arith}
use lib.Dec.{eqb, leb, eqb→eq, leb→le}
use lib.ListN.{length, get_or, replicate, length-append, length-replicate, get_or-append}
use lib.Seq.{get_or-append-add}
use borrow.Author.Tests.{eq-eqb, ne_eqb}
use Rattle.record.specs.Record.{pick}
use Rattle.unification.specs.Nodes.{is_variable, part, node_arity, HasRow, has_row, arguments_from, node_row, node_row_if, NodesOk}
use Rattle.unification.specs.Repeated.{earliest_equal, earliest_row, IsEarliest}
use Rattle.unification.specs.Row.{variable, Row, application, no_symbol, row_at}
use Rattle.unification.proofs.Lists.{Each}
use Rattle.unification.proofs.Repeats.{row_old, row_new, earliest_more, earliest_new, earliest_none, earliest_found, earliest_equal_lem, one_earliest, earliest_itself, earliest_or_not, earliest_old, earliest_shorter}
use Rattle.unification.proofs.Rows.{RowsOk, row_arities}
use Rattle.unification.proofs.Tests.{to_t}
use Rattle.derivation.proofs.Literals.{leb_false_lt}
use Rattle.entry.specs.Program.{repeat_cells, earliest_node}
use Rattle.entry.specs.Progress.{cells_of_row, cells_after, node_list, node_table_of}
use Rattle.demands.proofs.Advance.{RowFits}
use Rattle.demands.proofs.Inversions.{not_equal}
use Rattle.demands.proofs.Shared.{SharedRows, shared_arguments}

abbrev pub NodeTable : List Row → List ℕ → Type 0
NodeTable ws N = N ≡ node_table_of ws

pub eight : (w : Row) → RowFits w → length (cells_of_row w) ≡ 8
eight (variable v) h = refl
eight (application s xs) h =
    let p : length (xs ++ replicate (6 - length xs) 0) ≡ length xs + (6 - length xs) = length-append xs (replicate (6 - length xs) 0) ∙ ap (λ (n : ℕ). length xs + n) (length-replicate (6 - length xs) 0) in
    omega (arith, p)

eight_after : (ws : List Row) (w : Row) → RowFits w → length (cells_after ws w) ≡ 8
eight_after ws w h = try (earliest_equal w ws)
  where
    try : (o : Option ℕ) → length {A = ℕ} (elim o [ none ↦ cells_of_row w | some q ↦ repeat_cells q ]) ≡ 8
    try none = eight w h
    try (some q) = refl

pub node_length : (ws : List Row) → Each RowFits ws → length (node_list ws) ≡ 8 * length ws
node_length [] h = refl
node_length (w ∷ ws) h =
    let a = node_length ws h.1 in
    let b = eight_after ws w h.0 in
    length-append (node_list ws) (cells_after ws w) ∙ omega (arith, a, b)

-- The cells of row r.
abbrev cells_at : List Row → ℕ → List ℕ
cells_at [] r = []
cells_at (w ∷ ws) r = pick (eqb r (length ws)) (cells_after ws w) (cells_at ws r)

list_cell : (ws : List Row) → Each RowFits ws → (r i : ℕ) → r < length ws → i < 8 → get_or (node_list ws) (8 * r + i) 0 ≡ get_or (cells_at ws r) i 0
list_cell [] h r i l k = absurd (omega arith)
list_cell (w ∷ ws) h r i l k = try (eqb r (length ws)) refl (λ m. list_cell ws h.1 r i m k)
  where
    try : (b : Bool) → eqb r (length ws) ≡ b → (r < length ws → get_or (node_list ws) (8 * r + i) 0 ≡ get_or (cells_at ws r) i 0) → get_or (node_list ws ++ cells_after ws w) (8 * r + i) 0 ≡ get_or (pick b (cells_after ws w) (cells_at ws r)) i 0
    try true q ih =
        let e : r ≡ length ws = eqb→eq r (length ws) (to_t (eqb r (length ws)) q) in
        let z : 8 * r + i ≡ length (node_list ws) + i = omega (arith, node_length ws h.1) in
        ap (λ (n : ℕ). get_or (node_list ws ++ cells_after ws w) n 0) z ∙ get_or-append-add (node_list ws) (cells_after ws w) i 0
    try false q ih =
        let n : ¬ (r ≡ length ws) = not_equal r (length ws) (rw q) in
        get_or-append (node_list ws) (cells_after ws w) 0 (8 * r + i) (omega (arith, node_length ws h.1)) ∙ ih (omega arith)

-- An earliest row has its own cells, and a repeat the number of the earliest row.
newest_cells : (w : Row) (ws : List Row) → IsEarliest (w ∷ ws) (length ws) → cells_after ws w ≡ cells_of_row w
newest_cells w ws E = try (earliest_equal w ws) refl
  where
    try : (o : Option ℕ) → earliest_equal w ws ≡ o → elim o [ none ↦ cells_of_row w | some q ↦ repeat_cells q ] ≡ cells_of_row w
    try none q = refl
    try (some p) q =
        let F = earliest_found w ws p q in
        absurd (E.first p F.earliest.there (row_old w ws p F.earliest.there ∙ F.equals ∙ sym (row_new w ws)))

cells_earliest : (ws : List Row) (r : ℕ) → IsEarliest ws r → cells_at ws r ≡ cells_of_row (row_at ws r)
cells_earliest [] r E = let l = E.there in absurd (omega arith)
cells_earliest (w ∷ ws) r E = try (eqb r (length ws)) refl (λ l. cells_earliest ws r (earliest_shorter w ws r l E))
  where
    try : (b : Bool) → eqb r (length ws) ≡ b → (r < length ws → cells_at ws r ≡ cells_of_row (row_at ws r)) → pick b (cells_after ws w) (cells_at ws r) ≡ cells_of_row (pick b w (row_at ws r))
    try true q ih = newest_cells w ws (subst (IsEarliest (w ∷ ws)) (eqb→eq r (length ws) (to_t (eqb r (length ws)) q)) E)
    try false q ih =
        let n : ¬ (r ≡ length ws) = not_equal r (length ws) (rw q) in
        let l = E.there in
        ih (omega arith)

newest_repeat : (w : Row) (ws : List Row) → ¬ (earliest_row (w ∷ ws) (length ws) ≡ length ws) → cells_after ws w ≡ repeat_cells (earliest_row (w ∷ ws) (length ws))
newest_repeat w ws n = try (earliest_equal w ws) refl
  where
    try : (o : Option ℕ) → earliest_equal w ws ≡ o → elim o [ none ↦ cells_of_row w | some q ↦ repeat_cells q ] ≡ repeat_cells (earliest_row (w ∷ ws) (length ws))
    try none q = absurd (n (earliest_itself (w ∷ ws) (length ws) (earliest_new w ws (earliest_none w ws q))))
    try (some p) q =
        let F = earliest_found w ws p q in
        let A = earliest_equal_lem (w ∷ ws) (length ws) (omega arith) in
        ap repeat_cells (one_earliest (w ∷ ws) p (earliest_row (w ∷ ws) (length ws)) (earliest_more w ws p F.earliest) A.earliest (row_old w ws p F.earliest.there ∙ F.equals ∙ sym (row_new w ws) ∙ sym A.equals))

cells_repeat : (ws : List Row) (r : ℕ) → r < length ws → ¬ (earliest_row ws r ≡ r) → cells_at ws r ≡ repeat_cells (earliest_row ws r)
cells_repeat [] r l n = absurd (omega arith)
cells_repeat (w ∷ ws) r l n = try (eqb r (length ws)) refl (λ m. cells_repeat ws r m (λ e. n (earliest_old w ws r m ∙ e)) ∙ ap repeat_cells (sym (earliest_old w ws r m)))
  where
    try : (b : Bool) → eqb r (length ws) ≡ b → (r < length ws → cells_at ws r ≡ repeat_cells (earliest_row (w ∷ ws) r)) → pick b (cells_after ws w) (cells_at ws r) ≡ repeat_cells (earliest_row (w ∷ ws) r)
    try true q ih =
        let e : r ≡ length ws = eqb→eq r (length ws) (to_t (eqb r (length ws)) q) in
        newest_repeat w ws (λ z. n (ap (earliest_row (w ∷ ws)) e ∙ z ∙ sym e)) ∙ ap (λ (x : ℕ). repeat_cells (earliest_row (w ∷ ws) x)) (sym e)
    try false q ih =
        let m : ¬ (r ≡ length ws) = not_equal r (length ws) (rw q) in
        ih (omega arith)

pub zeros_read : (n i : ℕ) → ◌≡◌ {A = ℕ} (get_or (replicate n 0) i 0) 0
zeros_read zero i = refl
zeros_read (suc n) zero = refl
zeros_read (suc n) (suc i) = zeros_read n i

module _ (ws : List Row) (fit : Each RowFits ws) (N : List ℕ) (table : NodeTable ws N) where
  table_cell : (r i : ℕ) → r < length ws → i < 8 → get_or N (8 * r + i) 0 ≡ get_or (cells_at ws r) i 0
  table_cell r i l k =
      ap (λ (A : List ℕ). get_or A (8 * r + i) 0) table
      ∙ get_or-append (node_list ws) (replicate (32768 - 8 * length ws) 0) 0 (8 * r + i) (omega (arith, node_length ws fit)) ∙ list_cell ws fit r i l k

  pub node_cell : (r i : ℕ) → IsEarliest ws r → i < 8 → get_or N (8 * r + i) 0 ≡ get_or (cells_of_row (row_at ws r)) i 0
  node_cell r i E k = table_cell r i E.there k ∙ ap (λ (cells : List ℕ). get_or cells i 0) (cells_earliest ws r E)

  pub repeat_cell : (r i : ℕ) → r < length ws → ¬ (earliest_row ws r ≡ r) → i < 8 → get_or N (8 * r + i) 0 ≡ get_or (repeat_cells (earliest_row ws r)) i 0
  repeat_cell r i l n k = table_cell r i l k ∙ ap (λ (cells : List ℕ). get_or cells i 0) (cells_repeat ws r l n)

  pub no_cell : (r i : ℕ) → length ws ≤ r → get_or N (8 * r + i) 0 ≡ 0
  no_cell r i l =
      let z : 8 * r + i ≡ length (node_list ws) + (8 * r + i - length (node_list ws)) = omega (arith, node_length ws fit) in
      ap (λ (A : List ℕ). get_or A (8 * r + i) 0) table ∙ ap (λ (n : ℕ). get_or (node_list ws ++ replicate (32768 - 8 * length ws) 0) n 0) z
      ∙ get_or-append-add (node_list ws) (replicate (32768 - 8 * length ws) 0) (8 * r + i - length (node_list ws)) 0 ∙ zeros_read (32768 - 8 * length ws) (8 * r + i - length (node_list ws))

  pub no_node : (r : ℕ) → length ws ≤ r → get_or N (8 * r) 0 ≡ 0
  no_node r l = rw add-zero at (no_cell r 0 l)

  first_cell_lem : (r : ℕ) → IsEarliest ws r → get_or N (8 * r) 0 ≡ get_or (cells_of_row (row_at ws r)) 0 0
  first_cell_lem r l = rw add-zero at (node_cell r 0 l (omega arith))

  part_cell : (r n : ℕ) → IsEarliest ws r → n < 7 → part N r n ≡ get_or (cells_of_row (row_at ws r)) (suc n) 0
  unfolding part
  part_cell r n l k =
      let z : 8 * r + 1 + n ≡ 8 * r + suc n = omega arith in
      ap (λ (i : ℕ). get_or N i 0) z ∙ node_cell r (suc n) l (omega arith)

  arguments_read : (r : ℕ) (xs : List ℕ) (n : ℕ) → ((j : ℕ) → j < length xs → part N r (n + j) ≡ get_or xs j 0) → arguments_from N r (length xs) n ≡ xs
  arguments_read r [] n f = refl
  arguments_read r (x ∷ xs) n f =
      ap₂ (λ (y : ℕ) (l : List ℕ). y ∷ l) (rw add-zero at (f 0 (omega arith)))
      (arguments_read r xs (suc n) (λ j l. let z : suc n + j ≡ n + suc j = omega arith in ap (part N r) z ∙ f (suc j) (omega arith)))

  -- A row by its first cell.
  row_from : (r : ℕ) → IsEarliest ws r → (w : Row) → row_at ws r ≡ w → RowFits w → node_row N r ≡ w
  unfolding is_variable node_arity
  row_from r l (variable v) q h =
      let c : get_or N (8 * r) 0 ≡ 1 = first_cell_lem r l ∙ ap (λ (x : Row). get_or (cells_of_row x) 0 0) q in
      let p : part N r 0 ≡ v = part_cell r 0 l (omega arith) ∙ ap (λ (x : Row). get_or (cells_of_row x) 1 0) q in
      ap (λ (b : Bool). node_row_if N r b) (eq-eqb (get_or N (8 * r) 0) 1 c) ∙ ap variable p
  row_from r l (application s xs) q h =
      let c : get_or N (8 * r) 0 ≡ 2 + length xs = first_cell_lem r l ∙ ap (λ (x : Row). get_or (cells_of_row x) 0 0) q in
      let p : part N r 0 ≡ s = part_cell r 0 l (omega arith) ∙ ap (λ (x : Row). get_or (cells_of_row x) 1 0) q in
      let m : node_arity N r ≡ length xs = omega (arith, c) in
      let e : arguments_from N r (length xs) 1 ≡ xs = arguments_read r xs 1 (λ j k.
      let z : 1 + j ≡ suc j = omega arith in
      ap (part N r) z ∙ part_cell r (suc j) l (omega arith) ∙ ap (λ (x : Row). get_or (cells_of_row x) (suc (suc j)) 0) q ∙ get_or-append xs (replicate (6 - length xs) 0) 0 j k) in
      ap (λ (b : Bool). node_row_if N r b) (ne_eqb (get_or N (8 * r) 0) 1 (λ z. omega arith))
      ∙ ap₂ application p (ap (λ (n : ℕ). arguments_from N r n 1) m ∙ e)

  pub fits_at : (us : List Row) → Each RowFits us → (r : ℕ) → r < length us → RowFits (row_at us r)
  fits_at [] h r l = absurd (omega arith)
  fits_at (u ∷ us) h r l = try (eqb r (length us)) refl (λ m. fits_at us h.1 r m)
    where
      try : (b : Bool) → eqb r (length us) ≡ b → (r < length us → RowFits (row_at us r)) → RowFits (pick b u (row_at us r))
      try true q ih = h.0
      try false q ih = let n : ¬ (r ≡ length us) = not_equal r (length us) (rw q) in ih (omega arith)

  pub node_row_lem : (r : ℕ) → IsEarliest ws r → node_row N r ≡ row_at ws r
  node_row_lem r E = row_from r E (row_at ws r) refl (fits_at ws fit r E.there)

  pub has_row_lem : (r : ℕ) → IsEarliest ws r → HasRow N r
  has_row_lem r l = has_row (rw (first_cell_lem r l) (positive (row_at ws r)))
    where
      positive : (w : Row) → 0 < get_or (cells_of_row w) 0 0
      positive (variable v) = omega arith
      positive (application s xs) = omega arith

  -- The rows that the table has are the earliest ones.
  pub row_there_of : (r : ℕ) → HasRow N r → IsEarliest ws r
  row_there_of r (has_row p) = try (leb (length ws) r) refl
    where
      kind : r < length ws → IsEarliest ws r ⊎ ¬ (earliest_row ws r ≡ r) → IsEarliest ws r
      kind l (inl E) = E
      kind l (inr n) = let z : get_or N (8 * r) 0 ≡ 0 = rw add-zero at (repeat_cell r 0 l n (omega arith)) in absurd (omega arith)

      try : (b : Bool) → leb (length ws) r ≡ b → IsEarliest ws r
      try true q = let z = no_node r (leb→le (length ws) r (to_t (leb (length ws) r) q)) in absurd (omega arith)
      try false q = let l = leb_false_lt (length ws) r q in kind l (earliest_or_not ws r l)

  -- What a row is taken as: its own number, or what its cells say.
  pub taken_as : (r : ℕ) → r < length ws → earliest_node N r ≡ earliest_row ws r
  unfolding part
  taken_as r l = try (earliest_or_not ws r l)
    where
      try : IsEarliest ws r ⊎ ¬ (earliest_row ws r ≡ r) → earliest_node N r ≡ earliest_row ws r
      try (inl E) = ap (λ (b : Bool). pick b (part N r 0) r) (ne_eqb (get_or N (8 * r) 0) 0 (λ z. positive (has_row_lem r E) z)) ∙ sym (earliest_itself ws r E)
        where
          positive : HasRow N r → ¬ (get_or N (8 * r) 0 ≡ 0)
          positive (has_row p) z = omega arith
      try (inr n) =
          let z : 8 * r + 1 + 0 ≡ 8 * r + 1 = omega arith in
          ap (λ (b : Bool). pick b (part N r 0) r) (eq-eqb (get_or N (8 * r) 0) 0 (rw add-zero at (repeat_cell r 0 l n (omega arith))))
          ∙ ap (λ (i : ℕ). get_or N i 0) z ∙ repeat_cell r 1 l n (omega arith)

  -- A row without a code says nothing, or a row that is there.
  pub few_repeats : length ws ≤ 4096 → (r : ℕ) → get_or N (8 * r) 0 ≡ 0 → part N r 0 < 4096
  unfolding part
  few_repeats few r z = try (leb (length ws) r) refl
    where
      at : 8 * r + 1 + 0 ≡ 8 * r + 1
      at = omega arith

      kind : r < length ws → IsEarliest ws r ⊎ ¬ (earliest_row ws r ≡ r) → get_or N (8 * r + 1 + 0) 0 < 4096
      kind l (inl E) = let p = has_row_lem r E in absurd (positive p)
        where
          positive : HasRow N r → ⊥
          positive (has_row p) = omega arith
      kind l (inr n) = let e = (earliest_equal_lem ws r l).earliest.there in rw (at, repeat_cell r 1 l n (omega arith)) (omega arith)

      try : (b : Bool) → leb (length ws) r ≡ b → get_or N (8 * r + 1 + 0) 0 < 4096
      try true q = rw (at, no_cell r 1 (leb→le (length ws) r (to_t (leb (length ws) r) q))) (omega arith)
      try false q = let l = leb_false_lt (length ws) r q in kind l (earliest_or_not ws r l)

  pub variable_row_lem : (r : ℕ) → IsEarliest ws r → is_variable N r ≡ true → row_at ws r ≡ variable (part N r 0)
  variable_row_lem r l v = sym (node_row_lem r l) ∙ ap (λ (b : Bool). node_row_if N r b) v

  pub application_row_lem : (r : ℕ) → IsEarliest ws r → is_variable N r ≡ false → row_at ws r ≡ application (part N r 0) (arguments_from N r (node_arity N r) 1)
  application_row_lem r l v = sym (node_row_lem r l) ∙ ap (λ (b : Bool). node_row_if N r b) v

  from_length : (r n m : ℕ) → length (arguments_from N r m n) ≡ m
  from_length r n zero = refl
  from_length r n (suc m) = ap suc (from_length r (suc n) m)

  pub argument_at : (r n m k : ℕ) → k < m → (P : ℕ → Type 0) → Each P (arguments_from N r m n) → P (part N r (n + k))
  argument_at r n zero k l P h = absurd (omega arith)
  argument_at r n (suc m) zero l P h = rw add-zero h.0
  argument_at r n (suc m) (suc k) l P h = let z : n + suc k ≡ suc n + k = omega arith in rw z (argument_at r (suc n) m k (omega arith) P h.1)

  pub nodes_ok : (arity : ℕ → Option ℕ) → arity no_symbol ≡ none → RowsOk arity ws → SharedRows ws → length ws ≤ 4096 → NodesOk N
  nodes_ok arity none' R H few = record {
    room = λ r h. let l = (row_there_of r h).there in omega arith;
    number = λ r h v. subst RowFits (variable_row_lem r (row_there_of r h) v) (fits_at ws fit r (row_there_of r h).there);
    once = λ r q h k v w e. one_earliest ws r q (row_there_of r h) (row_there_of q k) (variable_row_lem r (row_there_of r h) v ∙ ap variable e ∙ sym (variable_row_lem q (row_there_of q k) w));
    arguments = λ r n h v l.
        let E = row_there_of r h in
        let b : Each (IsEarliest ws) (arguments_from N r (node_arity N r) 1) = shared_arguments ws H r (part N r 0) (arguments_from N r (node_arity N r) 1) (application_row_lem r E v) E.there in
        has_row_lem (part N r (suc n)) (let z : 1 + n ≡ suc n = omega arith in rw z at (argument_at r 1 (node_arity N r) n l (IsEarliest ws) b));
    alike = λ r q h k v w e.
        sym (from_length r 1 (node_arity N r))
        ∙ row_arities arity none' ws R r q (part N q 0) (arguments_from N r (node_arity N r) 1) (arguments_from N q (node_arity N q) 1) (application_row_lem r (row_there_of r h) v ∙ ap (λ (s : ℕ). application s (arguments_from N r (node_arity N r) 1)) e) (application_row_lem q (row_there_of q k) w)
        ∙ from_length q 1 (node_arity N q);
  }
