-- A shifted record: its arguments, literals and window are those of the record, raised; its other fields are as they were.
use mathlib.Core.Path.{◌≡◌, refl, sym, ap, ap₂, ◌∙◌}
use mathlib.Core.Bool.{Bool, ◌&&◌}
use mathlib.Core.List.{List, [], ◌∷◌, map}
use Prim.Native.Nat.{ℕ, zero, suc, ◌+◌, ◌*◌, ◌/◌, ◌%◌, ◌≤◌, ◌<◌}
use native.Mathlib.Nat.{add-zero, add-suc, suc-add}
use native.Mathlib.Omega.{arith}
use lib.Dec.{eqb, leb, ltb}
use lib.ListN.{length, get_or, take, drop}
use borrow.Author.Tests.{le-leb, lt-leb, lt-ltb, le-ltb}
use Rattle.record.specs.Record.{pick, Record, field_a}
use Rattle.derivation.specs.Derivation.{RowLiteral, literal_of, input_literals}
use Rattle.verdict.specs.Refusal.{argument_rows}
use Rattle.demands.proofs.RangeTests.{not_true, equal}
use Rattle.merging.specs.Merging.{raised_by, raised_from, shifted}

-- ── Numbers of a list raised ──
module _ (by : ℕ → ℕ) where
  raised_none : (i : ℕ) (xs : List ℕ) → ((j : ℕ) → by (i + j) ≡ 0) → raised_from by i xs ≡ xs
  raised_none i [] h = refl
  raised_none i (x ∷ xs) h =
      let z : x + by i ≡ x = let e = h 0 in let a : i + 0 ≡ i = add-zero i in let q : by i ≡ 0 = ap by (sym a) ∙ e in omega arith in
      ap₂ (λ (a : ℕ) (l : List ℕ). a ∷ l) z (raised_none (suc i) xs (λ j. ap by (suc-add i j ∙ sym (add-suc i j)) ∙ h (suc j)))

  -- The first n by d.
  raised_first : (d i n : ℕ) (xs : List ℕ) → ((j : ℕ) → j < n → by (i + j) ≡ d) → take n (raised_from by i xs) ≡ map (λ x. x + d) (take n xs)
  raised_first d i zero xs h = refl
  raised_first d i (suc n) [] h = refl
  raised_first d i (suc n) (x ∷ xs) h =
      ap₂ (λ (a : ℕ) (l : List ℕ). (x + a) ∷ l) (ap by (sym (add-zero i)) ∙ h 0 (omega arith)) (raised_first d (suc i) n xs (λ j l. ap by (suc-add i j ∙ sym (add-suc i j)) ∙ h (suc j) (omega arith)))

  -- Those after the first n not at all.
  raised_rest : (i n : ℕ) (xs : List ℕ) → ((j : ℕ) → n ≤ j → by (i + j) ≡ 0) → drop n (raised_from by i xs) ≡ drop n xs
  raised_rest i zero xs h = raised_none i xs (λ j. h j (omega arith))
  raised_rest i (suc n) [] h = refl
  raised_rest i (suc n) (x ∷ xs) h = raised_rest (suc i) n xs (λ j l. ap by (suc-add i j ∙ sym (add-suc i j)) ∙ h (suc j) (omega arith))

  raised_tail : (i : ℕ) (xs : List ℕ) → drop 1 (raised_from by i xs) ≡ raised_from by (suc i) (drop 1 xs)
  raised_tail i [] = refl
  raised_tail i (x ∷ xs) = refl

  raised_at : (i j : ℕ) (xs : List ℕ) → j < length xs → get_or (raised_from by i xs) j 0 ≡ get_or xs j 0 + by (i + j)
  raised_at i j [] l = absurd (omega arith)
  raised_at i zero (x ∷ xs) l = ap (λ (a : ℕ). x + by a) (sym (add-zero i))
  raised_at i (suc j) (x ∷ xs) l = raised_at (suc i) j xs (omega arith) ∙ ap (λ (a : ℕ). get_or xs j 0 + by a) (suc-add i j ∙ sym (add-suc i j))

  pub raised_most : (i j : ℕ) (xs : List ℕ) → get_or (raised_from by i xs) j 0 ≤ get_or xs j 0 + by (i + j)
  raised_most i j [] = omega arith
  raised_most i zero (x ∷ xs) = let e : x + by i ≡ x + by (i + 0) = ap (λ (a : ℕ). x + by a) (sym (add-zero i)) in omega arith
  raised_most i (suc j) (x ∷ xs) = let e : get_or xs j 0 + by (suc i + j) ≡ get_or xs j 0 + by (i + suc j) = ap (λ (a : ℕ). get_or xs j 0 + by a) (suc-add i j ∙ sym (add-suc i j)) in let l = raised_most (suc i) j xs in omega arith

  pub raised_length : (i : ℕ) (xs : List ℕ) → length (raised_from by i xs) ≡ length xs
  raised_length i [] = refl
  raised_length i (x ∷ xs) = ap suc (raised_length (suc i) xs)

-- ── A record, by its kind's number ──
module _ (rows clauses : ℕ) (r : Record) where
  -- What a kind of number n raises.
  abbrev pub raised_of : ℕ → ℕ → ℕ
  raised_of n i =
      pick (eqb n 3) (pick (leb 1 i && leb i r.count) rows 0)
      (pick (eqb n 4) (pick (ltb i r.count) (2 * rows) 0)
      (pick (eqb n 8) (pick (eqb i 0) clauses 0) 0))

  pub raised_by_lem : (n : ℕ) → r.kind ≡ n → (i : ℕ) → raised_by rows clauses r i ≡ raised_of n i
  raised_by_lem n e i = ap (λ (m : ℕ). raised_of m i) e

  fields_of_lem : (n : ℕ) → r.kind ≡ n → (shifted rows clauses r).fields ≡ raised_from (raised_of n) 0 r.fields
  fields_of_lem n e = ap (λ (m : ℕ). raised_from (raised_of m) 0 r.fields) e

  -- A symbol or a variable is as it was.
  pub fields_same : (n : ℕ) → r.kind ≡ n → ((i : ℕ) → raised_of n i ≡ 0) → (shifted rows clauses r).fields ≡ r.fields
  fields_same n e h = fields_of_lem n e ∙ raised_none (raised_of n) 0 r.fields (λ j. h (0 + j))

  pub shifted_symbol : r.kind ≡ 1 → (shifted rows clauses r).fields ≡ r.fields
  shifted_symbol e = fields_same 1 e (λ i. refl)

  pub shifted_variable : r.kind ≡ 2 → (shifted rows clauses r).fields ≡ r.fields
  shifted_variable e = fields_same 2 e (λ i. refl)

  -- An application: its symbol stays, its arguments are raised, and the fields after them stay.
  argument_by : (i : ℕ) → 1 ≤ i → i ≤ r.count → raised_of 3 i ≡ rows
  argument_by i a b = ap₂ (λ (p q : Bool). pick (p && q) rows 0) (le-leb 1 i a) (le-leb i r.count b)

  past_arguments : (i : ℕ) → r.count < i → raised_of 3 i ≡ 0
  past_arguments i l = ap₂ (λ (p q : Bool). pick (p && q) rows 0) (le-leb 1 i (omega arith)) (lt-leb i r.count l)

  pub shifted_arguments : r.kind ≡ 3 → argument_rows (shifted rows clauses r) ≡ map (λ x. x + rows) (argument_rows r)
  shifted_arguments e =
      ap (λ (l : List ℕ). take r.count (drop 1 l)) (fields_of_lem 3 e)
      ∙ ap (take r.count) (raised_tail (raised_of 3) 0 r.fields)
      ∙ raised_first (raised_of 3) rows 1 r.count (drop 1 r.fields) (λ j l. argument_by (1 + j) (omega arith) (omega arith))

  pub shifted_after : r.kind ≡ 3 → drop (1 + r.count) (shifted rows clauses r).fields ≡ drop (1 + r.count) r.fields
  shifted_after e =
      ap (drop (1 + r.count)) (fields_of_lem 3 e)
      ∙ raised_rest (raised_of 3) 0 (1 + r.count) r.fields (λ j l. past_arguments (0 + j) (omega arith))

  pub shifted_head : r.kind ≡ 3 → length r.fields ≡ 7 → field_a (shifted rows clauses r) ≡ field_a r
  shifted_head e h = ap (λ (l : List ℕ). get_or l 0 0) (fields_of_lem 3 e) ∙ raised_at (raised_of 3) 0 0 r.fields (omega arith) ∙ add-zero (field_a r)

  -- An input clause: its literals are raised, and the fields after them stay.
  literal_by : (i : ℕ) → i < r.count → raised_of 4 i ≡ 2 * rows
  literal_by i l = ap (λ (p : Bool). pick p (2 * rows) 0) (lt-ltb i r.count l)

  past_literals : (i : ℕ) → r.count ≤ i → raised_of 4 i ≡ 0
  past_literals i l = ap (λ (p : Bool). pick p (2 * rows) 0) (le-ltb i r.count l)

  abbrev pub raised_literal : RowLiteral → RowLiteral
  raised_literal l = (l.0, l.1 + rows)

  literal_raised : (n : ℕ) → literal_of (n + 2 * rows) ≡ raised_literal (literal_of n)
  literal_raised n =
      let sign : (n + 2 * rows) % 2 ≡ n % 2 = omega arith in
      let row : (n + 2 * rows) / 2 ≡ n / 2 + rows = omega arith in
      ap₂ (λ (a b : ℕ). (eqb a 1, b)) sign row

  literals_raised : (ns : List ℕ) → map literal_of (map (λ n. n + 2 * rows) ns) ≡ map raised_literal (map literal_of ns)
  literals_raised [] = refl
  literals_raised (n ∷ ns) = ap₂ (λ (l : RowLiteral) (ls : List RowLiteral). l ∷ ls) (literal_raised n) (literals_raised ns)

  pub shifted_literals : r.kind ≡ 4 → input_literals (shifted rows clauses r) ≡ map raised_literal (input_literals r)
  shifted_literals e =
      ap (λ (l : List ℕ). map literal_of (take r.count l)) (fields_of_lem 4 e)
      ∙ ap (map literal_of) (raised_first (raised_of 4) (2 * rows) 0 r.count r.fields (λ j l. literal_by (0 + j) (omega arith)))
      ∙ literals_raised (take r.count r.fields)

  pub shifted_past : r.kind ≡ 4 → drop r.count (shifted rows clauses r).fields ≡ drop r.count r.fields
  shifted_past e = ap (drop r.count) (fields_of_lem 4 e) ∙ raised_rest (raised_of 4) 0 r.count r.fields (λ j l. past_literals (0 + j) (omega arith))

  -- A window: its clause is raised, its days stay.
  not_first : (i : ℕ) → 1 ≤ i → raised_of 8 i ≡ 0
  not_first i l = ap (λ (b : Bool). pick b clauses 0) (not_true (eqb i 0) (λ t. let z = equal i 0 t in omega arith))

  pub shifted_clause : r.kind ≡ 8 → length r.fields ≡ 7 → field_a (shifted rows clauses r) ≡ field_a r + clauses
  shifted_clause e h = ap (λ (l : List ℕ). get_or l 0 0) (fields_of_lem 8 e) ∙ raised_at (raised_of 8) 0 0 r.fields (omega arith)

  pub shifted_day : (i : ℕ) → 1 ≤ i → i < 7 → r.kind ≡ 8 → length r.fields ≡ 7 → get_or (shifted rows clauses r).fields i 0 ≡ get_or r.fields i 0
  shifted_day i a b e h = ap (λ (l : List ℕ). get_or l i 0) (fields_of_lem 8 e) ∙ raised_at (raised_of 8) 0 i r.fields (omega arith) ∙ ap (λ (n : ℕ). get_or r.fields i 0 + n) (not_first (0 + i) (omega arith)) ∙ add-zero (get_or r.fields i 0)

  pub shifted_unused : r.kind ≡ 8 → drop 3 (shifted rows clauses r).fields ≡ drop 3 r.fields
  shifted_unused e = ap (drop 3) (fields_of_lem 8 e) ∙ raised_rest (raised_of 8) 0 3 r.fields (λ j l. not_first (0 + j) (omega arith))

  pub shifted_seven : length r.fields ≡ 7 → length (shifted rows clauses r).fields ≡ 7
  shifted_seven h = raised_length (raised_by rows clauses r) 0 r.fields ∙ h
