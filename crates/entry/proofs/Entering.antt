-- The tests and writes of the program on its tables are those of the state.
use mathlib.Core.Path.{◌≡◌, refl, sym, ap, ap₂, ◌∙◌}
use mathlib.Core.Bool.{Bool, true, false, ◌&&◌, not, and-true, and-false}
use mathlib.Core.Option.{Option, none, some}
use mathlib.Core.List.{List, [], ◌∷◌, ◌++◌, append_assoc, map}
use Prim.Native.Nat.{ℕ, zero, suc, ◌+◌, ◌-◌, ◌*◌, ◌/◌, ◌%◌, ◌≤◌, ◌<◌}
use native.Mathlib.Nat.{suc-add, zero-add, suc_inj}
use native.Mathlib.Omega.{arith}
use lib.Dec.{eqb, leb, eqb→eq, leb→le}
use lib.ListN.{length, get_or, take, drop, replicate, length-append, length-drop, length-map, length-replicate, take-append-drop}
use lib.Seq.{ext_get_or, get_or-take, get_or-drop, length-take-le, take_at, drop-append-add, drop-drop}
use borrow.Author.Tests.{eq-eqb, ne_eqb, eqb-true, eqb-false}
use Rattle.record.specs.Record.{pick, count_of, field_of, fields_of, decoded, variableKind, applicationKind, inputKind}
use Rattle.unification.specs.Nodes.{is_variable, part}
use Rattle.unification.specs.Repeated.{equal_lists, equal_rows, earliest_equal, earliest_row, IsEarliest}
use Rattle.unification.specs.Row.{variable, Row, application, row_at}
use Rattle.unification.proofs.Lists.{Each, map_append}
use Rattle.unification.proofs.Repeats.{list_itself, rows_equal, FoundEqual, earliest_none, earliest_found, earliest_equal_lem, one_earliest}
use Rattle.unification.proofs.Tests.{to_t, both_true}
use Rattle.derivation.specs.Derivation.{input, RowLiteral, literal_of, input_literals, Derivation}
use Rattle.derivation.specs.Stored.{literal_number, cells_of_origin, origin_list, origin_table_of}
use Rattle.distinct.specs.Rows.{node_at, with_node, row_with_cells}
use Rattle.distinct.proofs.Cells.{lists_equal, listed_cells}
use Rattle.distinct.proofs.Lowest.{none_has, one_has}
use Rattle.entry.specs.Program.{earliest_node, taken_arguments, taken_literal, taken_literals, RowsReady, no_variable}
use Rattle.entry.specs.Progress.{cells_of_row, cells_after, node_list, node_table_of}
use Rattle.verdict.specs.Refusal.{zeros, in_range, argument_rows, is_application, all_applications}
use Rattle.derivation.proofs.Literals.{leb_false_lt}
use Rattle.demands.proofs.Advance.{RowFits}
use Rattle.demands.proofs.Inversions.{not_equal}
use Rattle.demands.proofs.Sources.{Sourced}
use Rattle.demands.proofs.Tabled.{origin_length}
use Rattle.entry.proofs.NodeTable.{eight, NodeTable, node_length, node_cell, no_cell, no_node, fits_at, row_there_of, taken_as, few_repeats, variable_row_lem, application_row_lem}

-- Equal rows have equal cells.
lists_longer : (xs ys zs : List ℕ) → length xs ≡ length ys → equal_lists (xs ++ zs) (ys ++ zs) ≡ equal_lists xs ys
lists_longer [] [] zs l = list_itself zs
lists_longer [] (y ∷ ys) zs l = absurd (omega arith)
lists_longer (x ∷ xs) [] zs l = absurd (omega arith)
lists_longer (x ∷ xs) (y ∷ ys) zs l = ap (λ (b : Bool). eqb x y && b) (lists_longer xs ys zs (suc_inj l))

lists_differ : (xs ys : List ℕ) → ¬ (length xs ≡ length ys) → equal_lists xs ys ≡ false
lists_differ [] [] n = absurd (n refl)
lists_differ [] (y ∷ ys) n = refl
lists_differ (x ∷ xs) [] n = refl
lists_differ (x ∷ xs) (y ∷ ys) n = ap (λ (b : Bool). eqb x y && b) (lists_differ xs ys (λ z. n (ap suc z))) ∙ and-false (eqb x y)

pub equal_cells : (u w : Row) → equal_lists (cells_of_row u) (cells_of_row w) ≡ equal_rows u w
equal_cells (variable v) (variable w) = and-true (eqb v w)
equal_cells (variable v) (application t ys) = rw (ne_eqb 1 (2 + length ys) (λ z. omega arith))
equal_cells (application s xs) (variable w) = rw (ne_eqb (2 + length xs) 1 (λ z. omega arith))
equal_cells (application s xs) (application t ys) = try (eqb (length xs) (length ys)) refl
  where
    try : (b : Bool) → eqb (length xs) (length ys) ≡ b → equal_lists (cells_of_row (application s xs)) (cells_of_row (application t ys)) ≡ (eqb s t && equal_lists xs ys)
    try true q =
        let l : length xs ≡ length ys = eqb→eq (length xs) (length ys) (to_t (eqb (length xs) (length ys)) q) in
        let m : replicate {A = ℕ} (6 - length ys) 0 ≡ replicate (6 - length xs) 0 = ap (λ (n : ℕ). replicate {A = ℕ} (6 - n) 0) (sym l) in
        ap (λ (b : Bool). b && (eqb s t && equal_lists (xs ++ replicate (6 - length xs) 0) (ys ++ replicate (6 - length ys) 0))) (eq-eqb (2 + length xs) (2 + length ys) (omega arith))
        ∙ ap (λ (r : List ℕ). eqb s t && equal_lists (xs ++ replicate (6 - length xs) 0) (ys ++ r)) m
        ∙ ap (λ (b : Bool). eqb s t && b) (lists_longer xs ys (replicate (6 - length xs) 0) l)
    try false q =
        let n : ¬ (length xs ≡ length ys) = not_equal (length xs) (length ys) (rw q) in
        ap (λ (b : Bool). b && (eqb s t && equal_lists (xs ++ replicate (6 - length xs) 0) (ys ++ replicate (6 - length ys) 0))) (ne_eqb (2 + length xs) (2 + length ys) (λ z. n (omega arith)))
        ∙ sym (ap (λ (b : Bool). eqb s t && b) (lists_differ xs ys n) ∙ and-false (eqb s t))

-- Eight cells more, in a table that has n times eight and zeros after them.
cells_written : (L : List ℕ) (n : ℕ) → length L ≡ 8 * n → n < 4096 → (T : List ℕ) → T ≡ L ++ replicate (32768 - 8 * n) 0 → (cells : List ℕ) → with_node T n cells ≡ (L ++ cells) ++ replicate (32768 - 8 * suc n) 0
cells_written L n size l T table cells =
    ap₂ (λ (x y : List ℕ). x ++ (cells ++ y)) (ap (take (8 * n)) table ∙ take_at L (replicate (32768 - 8 * n) 0) (8 * n) size) rest
    ∙ sym (append_assoc L cells (replicate (32768 - 8 * suc n) 0))
  where
    zeros_more : (n m : ℕ) → replicate {A = ℕ} (n + m) 0 ≡ replicate n 0 ++ replicate m 0
    zeros_more zero m = ap (λ (k : ℕ). replicate {A = ℕ} k 0) (zero-add m)
    zeros_more (suc n) m = ap (λ (k : ℕ). replicate {A = ℕ} k 0) (suc-add n m) ∙ ap (λ (r : List ℕ). 0 ∷ r) (zeros_more n m)

    rest : drop (8 * n + 8) T ≡ replicate (32768 - 8 * suc n) 0
    rest =
        let z : 32768 - 8 * n ≡ 8 + (32768 - 8 * suc n) = omega arith in
        let y : 8 * n + 8 ≡ length L + 8 = omega arith in
        ap₂ drop y table ∙ drop-append-add L (replicate (32768 - 8 * n) 0) 8 ∙ ap (λ (k : ℕ). drop 8 (replicate {A = ℕ} k 0)) z
        ∙ ap (drop 8) (zeros_more 8 (32768 - 8 * suc n))

-- The cells of a record's row.
pub zero_list : (ns : List ℕ) → zeros ns ≡ true → ns ≡ replicate (length ns) 0
zero_list [] q = refl
zero_list (n ∷ ns) q =
    let p = both_true (eqb n 0) (zeros ns) q in
    ap₂ (λ (x : ℕ) (r : List ℕ). x ∷ r) (eqb→eq n 0 (to_t (eqb n 0) p.0)) (zero_list ns p.1)

pub variable_cells : (part : List ℕ) → in_range variableKind (decoded part) ≡ true → 1 ∷ fields_of part ≡ cells_of_row (variable (field_of part 0))
variable_cells part q =
    let c = both_true (eqb (count_of part) 0 && leb (field_of part 0) 63) (zeros (drop 1 (fields_of part))) q in
    ap (λ (r : List ℕ). 1 ∷ field_of part 0 ∷ r) (zero_list (drop 1 (fields_of part)) c.1)

-- The fields of an application after its arguments are zero.
arguments_zeros : (part : List ℕ) (n : ℕ) → n ≤ 6 → zeros (drop (1 + n) (fields_of part)) ≡ true → drop 1 (fields_of part) ≡ take n (drop 1 (fields_of part)) ++ replicate (6 - n) 0
arguments_zeros part n l z =
    let d : drop (1 + n) (fields_of part) ≡ drop n (drop 1 (fields_of part)) = sym (drop-drop n 1 (fields_of part)) in
    let e : drop n (drop 1 (fields_of part)) ≡ replicate (length (drop n (drop 1 (fields_of part)))) 0 = zero_list (drop n (drop 1 (fields_of part))) (ap zeros (sym d) ∙ z) in
    let m : length (drop n (drop 1 (fields_of part))) ≡ 6 - n = length-drop n (drop 1 (fields_of part)) in
    sym (take-append-drop n (drop 1 (fields_of part))) ∙ ap (λ (r : List ℕ). take n (drop 1 (fields_of part)) ++ r) (e ∙ ap (λ (k : ℕ). replicate {A = ℕ} k 0) m)

module _ (ws : List Row) (fit : Each RowFits ws) (few : length ws ≤ 4096) (N : List ℕ) (table : NodeTable ws N) where
  pub node_table_length : length N ≡ 32768
  node_table_length =
      ap length table ∙ length-append (node_list ws) (replicate (32768 - 8 * length ws) 0) ∙ ap₂ ◌+◌ (node_length ws fit) (length-replicate {A = ℕ} (32768 - 8 * length ws) 0) ∙ omega arith

  pub node_at_lem : (r : ℕ) → IsEarliest ws r → node_at N r ≡ cells_of_row (row_at ws r)
  node_at_lem r E = ext_get_or 0 (node_at N r) (cells_of_row (row_at ws r)) (taken ∙ sym (eight (row_at ws r) (fits_at ws fit N table ws fit r E.there)))
      (λ i h. get_or-take 8 (drop (8 * r) N) i 0 (omega (arith, taken)) ∙ get_or-drop (8 * r) N i 0 ∙ node_cell ws fit N table r i E (omega (arith, taken)))
    where
      l : r < length ws
      l = E.there

      taken : length (node_at N r) ≡ 8
      taken = length-take-le 8 (drop (8 * r) N) (rw (length-drop (8 * r) N) (omega (arith, node_table_length, l)))

  -- A row of the table that has the cells of w is the earliest that equals w.
  with_cells : (w : Row) (q : ℕ) → node_at N q ≡ cells_of_row w → FoundEqual w ws q
  with_cells w q e =
      let E = row_there_of ws fit N table q (listed_cells N q (cells_of_row w) e (positive w)) in
      record { earliest = E; equals = rows_equal (row_at ws q) w (sym (equal_cells (row_at ws q) w) ∙ lists_equal (cells_of_row (row_at ws q)) (cells_of_row w) (sym (node_at_lem q E) ∙ e)) }
    where
      positive : (w : Row) → 0 < get_or (cells_of_row w) 0 0
      positive (variable v) = omega arith
      positive (application s xs) = omega arith

  pub row_found_lem : (w : Row) (cells : List ℕ) → cells ≡ cells_of_row w → row_with_cells N (length ws) cells ≡ earliest_equal w ws
  row_found_lem w cells e = ap (row_with_cells N (length ws)) e ∙ try (earliest_equal w ws) refl
    where
      try : (o : Option ℕ) → earliest_equal w ws ≡ o → row_with_cells N (length ws) (cells_of_row w) ≡ o
      try none q = none_has N (length ws) (cells_of_row w) (λ r l z. earliest_none w ws q r l (with_cells w r z).equals)
      try (some r) q =
          let F = earliest_found w ws r q in
          one_has N (length ws) (cells_of_row w) r F.earliest.there (node_at_lem r F.earliest ∙ ap cells_of_row F.equals)
          (λ p l z. let G = with_cells w p z in one_earliest ws p r G.earliest F.earliest (G.equals ∙ sym F.equals))

  variable_test : (r : ℕ) → IsEarliest ws r → not (is_variable N r) ≡ is_application (row_at ws r)
  variable_test r E = try (is_variable N r) refl
    where
      try : (b : Bool) → is_variable N r ≡ b → not b ≡ is_application (row_at ws r)
      try true q = sym (ap is_application (variable_row_lem ws fit N table r E q))
      try false q = sym (ap is_application (application_row_lem ws fit N table r E q))

  pub variable_tests : (ls : List RowLiteral) → Each (λ (l : RowLiteral). l.1 < length ws) ls → no_variable N ls ≡ all_applications (row_at ws) ls
  variable_tests [] h = refl
  variable_tests (l ∷ ls) h =
      let F = earliest_equal_lem ws l.1 h.0 in
      ap₂ ◌&&◌ (ap (λ (r : ℕ). not (is_variable N r)) (taken_as ws fit N table l.1 h.0) ∙ variable_test (earliest_row ws l.1) F.earliest ∙ ap is_application F.equals) (variable_tests ls h.1)

  pub rows_ready : RowsReady N
  rows_ready = record { room = node_table_length; repeats = few_repeats ws fit N table few }

  -- Row 0 is no repeat.
  zero_taken : earliest_node N 0 ≡ 0
  unfolding part
  zero_taken = try (leb (length ws) 0) refl
    where
      least : (q : ℕ) → IsEarliest ws q → row_at ws q ≡ row_at ws 0 → 0 < length ws → q ≡ 0
      least zero E e l = refl
      least (suc q) E e l = absurd (E.first 0 (omega arith) (sym e))

      try : (b : Bool) → leb (length ws) 0 ≡ b → earliest_node N 0 ≡ 0
      try true q =
          let l = leb→le (length ws) 0 (to_t (leb (length ws) 0) q) in
          ap₂ (λ (c : ℕ) (p : ℕ). pick (eqb c 0) p 0) (no_node ws fit N table 0 l) (no_cell ws fit N table 0 1 l)
      try false q =
          let l : 0 < length ws = leb_false_lt (length ws) 0 q in
          let F = earliest_equal_lem ws 0 l in
          taken_as ws fit N table 0 l ∙ least (earliest_row ws 0) F.earliest F.equals l

  taken_each : (xs : List ℕ) → Each (λ r. r < length ws) xs → map (earliest_node N) xs ≡ map (earliest_row ws) xs
  taken_each [] h = refl
  taken_each (x ∷ xs) h = ap₂ (λ (y : ℕ) (ys : List ℕ). y ∷ ys) (taken_as ws fit N table x h.0) (taken_each xs h.1)

  mapped_zeros : (f : ℕ → ℕ) → f 0 ≡ 0 → (n : ℕ) → map f (replicate n 0) ≡ replicate n 0
  mapped_zeros f z zero = refl
  mapped_zeros f z (suc n) = ap₂ (λ (y : ℕ) (ys : List ℕ). y ∷ ys) z (mapped_zeros f z n)

  -- The cells of an application's record, its arguments taken as earliest rows.
  pub application_cells : (part : List ℕ) → in_range applicationKind (decoded part) ≡ true → Each (λ r. r < length ws) (argument_rows (decoded part))
      → (2 + count_of part) ∷ taken_arguments N (fields_of part) ≡ cells_of_row (application (field_of part 0) (map (earliest_row ws) (argument_rows (decoded part))))
  application_cells part q h =
      let c = both_true (leb (count_of part) 6) (zeros (drop (1 + count_of part) (fields_of part))) q in
      let l = leb→le (count_of part) 6 (to_t (leb (count_of part) 6) c.0) in
      let xs = argument_rows (decoded part) in
      let len : length (map (earliest_row ws) (argument_rows (decoded part))) ≡ count_of part = length-map xs (earliest_row ws) ∙ length-take-le (count_of part) (drop 1 (fields_of part)) l in
      let f = arguments_zeros part (count_of part) l c.1 in
      ap₂ (λ (k : ℕ) (r : List ℕ). k ∷ field_of part 0 ∷ r) (ap (λ (k : ℕ). 2 + k) (sym len))
      (ap (map (earliest_node N)) f ∙ map_append (earliest_node N) xs (replicate (6 - count_of part) 0)
      ∙ ap₂ (λ (x y : List ℕ). x ++ y) (taken_each xs h) (mapped_zeros (earliest_node N) zero_taken (6 - count_of part) ∙ ap (λ (k : ℕ). replicate {A = ℕ} (6 - k) 0) (sym len)))

  -- The cells of an input clause's record, the rows of its literals taken so.
  literals_taken : (ns : List ℕ) → Each (λ (l : RowLiteral). l.1 < length ws) (map literal_of ns) → map (taken_literal N) ns ≡ map literal_number (map (λ (l : RowLiteral). (l.0, earliest_row ws l.1)) (map literal_of ns))
  literals_taken [] h = refl
  literals_taken (n ∷ ns) h = ap₂ (λ (y : ℕ) (ys : List ℕ). y ∷ ys) (ap₂ (λ (r b : ℕ). 2 * r + b) (taken_as ws fit N table (n / 2) h.0) (sign n)) (literals_taken ns h.1)
    where
      sign : (n : ℕ) → n % 2 ≡ pick (eqb (n % 2) 1) 1 0
      sign n = try (eqb (n % 2) 1) refl
        where
          try : (b : Bool) → eqb (n % 2) 1 ≡ b → n % 2 ≡ pick b 1 0
          try true q = eqb-true (n % 2) 1 q
          try false q = let e = eqb-false (n % 2) 1 q in omega arith

  pub input_cells : (part : List ℕ) (number : ℕ) → in_range inputKind (decoded part) ≡ true → Each (λ (l : RowLiteral). l.1 < length ws) (input_literals (decoded part))
      → 1 ∷ taken_literals N (fields_of part) ≡ cells_of_origin (input number (map (λ (l : RowLiteral). (l.0, earliest_row ws l.1)) (input_literals (decoded part))))
  input_cells part number q h =
      let c = both_true (leb (count_of part) 7) (zeros (drop (count_of part) (fields_of part))) q in
      let l : count_of part ≤ 7 = leb→le (count_of part) 7 (to_t (leb (count_of part) 7) c.0) in
      let ns = take (count_of part) (fields_of part) in
      let taken : length (take (count_of part) (fields_of part)) ≡ count_of part = length-take-le (count_of part) (fields_of part) l in
      let len : length {A = RowLiteral} (map (λ (x : RowLiteral). (x.0, earliest_row ws x.1)) (input_literals (decoded part))) ≡ count_of part =
      length-map (input_literals (decoded part)) (λ (x : RowLiteral). (x.0, earliest_row ws x.1)) ∙ length-map (take (count_of part) (fields_of part)) literal_of ∙ taken in
      let e : drop (count_of part) (fields_of part) ≡ replicate (7 - count_of part) 0 = zero_list (drop (count_of part) (fields_of part)) c.1 ∙ ap (λ (k : ℕ). replicate {A = ℕ} k 0) (length-drop (count_of part) (fields_of part)) in
      let f : fields_of part ≡ take (count_of part) (fields_of part) ++ replicate (7 - count_of part) 0 = sym (take-append-drop (count_of part) (fields_of part)) ∙ ap (λ (r : List ℕ). take (count_of part) (fields_of part) ++ r) e in
      ap (λ (r : List ℕ). 1 ∷ r)
      (ap (map (taken_literal N)) f ∙ map_append (taken_literal N) ns (replicate (7 - count_of part) 0)
      ∙ ap₂ (λ (x y : List ℕ). x ++ y) (literals_taken ns h) (mapped_zeros (taken_literal N) (ap (λ (r : ℕ). 2 * r + 0) zero_taken) (7 - count_of part) ∙ ap (λ (k : ℕ). replicate {A = ℕ} (7 - k) 0) (sym len)))

  -- A row more.
  pub row_written : (w : Row) (cells : List ℕ) → cells ≡ cells_after ws w → length ws < 4096 → with_node N (length ws) cells ≡ node_table_of (w ∷ ws)
  row_written w cells e l = ap (with_node N (length ws)) e ∙ cells_written (node_list ws) (length ws) (node_length ws fit) l N table (cells_after ws w)

-- A clause more.
module _ (ds : List Derivation) (H : Sourced ds) (O : List ℕ) (table : O ≡ origin_table_of ds) where
  pub clause_written : (d : Derivation) (cells : List ℕ) → cells ≡ cells_of_origin d → length ds < 4096 → with_node O (length ds) cells ≡ origin_table_of (d ∷ ds)
  clause_written d cells e l = ap (with_node O (length ds)) e ∙ cells_written (origin_list ds) (length ds) (origin_length ds H) l O table (cells_of_origin d)

pub origin_table_length : (ds : List Derivation) → Sourced ds → length ds ≤ 4096 → (O : List ℕ) → O ≡ origin_table_of ds → length O ≡ 32768
origin_table_length ds H few O table =
    ap length table ∙ length-append (origin_list ds) (replicate (32768 - 8 * length ds) 0) ∙ ap₂ ◌+◌ (origin_length ds H) (length-replicate {A = ℕ} (32768 - 8 * length ds) 0) ∙ omega arith
