-- Sixteen bytes hold every shifted record of a file that stands.
use mathlib.Core.Path.{◌≡◌, refl, sym, ap, ◌∙◌, subst}
use mathlib.Core.Bool.{Bool, true, false, ◌&&◌}
use mathlib.Core.Option.{Option, none, some}
use mathlib.Core.List.{List, [], ◌∷◌, map}
use Prim.Native.Nat.{ℕ, zero, suc, ◌+◌, ◌-◌, ◌*◌, ◌/◌, ◌≤◌, ◌<◌}
use native.Mathlib.Omega.{arith}
use lib.Dec.{eqb, leb, ltb, ltb→lt}
use lib.ListN.{length, get_or, take, drop, length-map, length-take, length-drop}
use lib.Seq.{get_or-take, get_or-drop}
use Rattle.record.specs.Bytes.{Fits, AllFit, Bytes}
use Rattle.record.specs.Record.{pick, old_file, Record, records, otherKind, Kind, symbolKind, variableKind, applicationKind, inputKind, resolveKind, factorKind, severalKind, windowKind, field_a}
use Rattle.record.specs.declared.Form.TheVariants.{Old}
use Rattle.record.proofs.Bytes.{fits_shaped, records_fit}
use Rattle.unification.specs.Row.{Row}
use Rattle.unification.proofs.Lists.{Each}
use Rattle.unification.proofs.Rows.{Below}
use Rattle.unification.proofs.Tests.{to_t, both_true, true_not_false}
use Rattle.derivation.specs.Derivation.{RowLiteral, literal_of, input_literals, Derivation}
use Rattle.verdict.specs.Refusal.{kind_of_record, is_input, has_arity, all_below, zeros, argument_rows}
use Rattle.verdict.specs.State.{State, empty_state, rows_of, derivations, arity_of, clause_of}
use Rattle.verdict.specs.Step.{stands, refused, Result, step, read, all_stand, refused_at}
use Rattle.verdict.specs.Verdict.{ending, Stands}
use Rattle.demands.proofs.Inversions.{step_stands, tests_passed, Passed, all_below_lem, rows_below, entry_below}
use Rattle.demands.proofs.RangeTests.{of_kind_lem, equal, at_most, fields_of_lem}
use Rattle.verdict.proofs.Endings.{stands_not_refused}
use Rattle.merging.specs.Merging.{raised_by, shifted}
use Rattle.merging.proofs.Counting.{read_counted}
use Rattle.merging.proofs.Shifts.{raised_most, raised_of, raised_by_lem, shifted_seven}

-- ── Elements of lists ──
below_at : (n : ℕ) (xs : List ℕ) → Below n xs → (j : ℕ) → j < length xs → get_or xs j 0 < n
below_at n [] h j l = absurd (omega arith)
below_at n (x ∷ xs) h zero l = h.0
below_at n (x ∷ xs) h (suc j) l = below_at n xs h.1 j (omega arith)

literal_at : (n : ℕ) (xs : List ℕ) → Each (λ (l : RowLiteral). l.1 < n) (map literal_of xs) → (j : ℕ) → j < length xs → get_or xs j 0 / 2 < n
literal_at n [] h j l = absurd (omega arith)
literal_at n (x ∷ xs) h zero l = h.0
literal_at n (x ∷ xs) h (suc j) l = literal_at n xs h.1 j (omega arith)

-- ── One record ──
module _ (rows clauses : ℕ) (fewRows : rows ≤ 4096) (fewClauses : clauses ≤ 4096) (S : State) (k : ℕ) (r : Record) (T : State) (S-rows : length (rows_of S) ≤ 4096) (S-clauses : length (derivations S) ≤ 4096) (F : Fits Old r) where
  abbrev Small : ℕ → Type 0
  Small i = get_or r.fields i 0 + raised_by rows clauses r i < 65536

  -- A field that is not raised.
  as_it_was : (n i : ℕ) → r.kind ≡ n → raised_of rows clauses r n i ≡ 0 → Small i
  as_it_was n i e z = let a = raised_by_lem rows clauses r n e i in let b = F.fields_bits i in omega arith

  argument_small : r.kind ≡ 3 → Passed S applicationKind r → (i : ℕ) → Small i
  argument_small e a i = try (leb 1 i && leb i r.count) refl
    where
      count : r.count ≤ 6
      count = at_most r.count 6 (both_true (leb r.count 6) (zeros (drop (1 + r.count) r.fields)) (fields_of_lem r applicationKind a.ranged)).0

      argument : 1 ≤ i → i ≤ r.count → get_or r.fields i 0 < length (rows_of S)
      argument l m =
          let t = both_true (has_arity r.count (arity_of S (field_a r))) (all_below (length (rows_of S)) (argument_rows r)) a.there in
          let s = F.seven_fields in
          let d = length-drop 1 r.fields in
          let w : length (argument_rows r) ≡ r.count = simp length-take (omega (arith, s, d, count)) in
          let z : 1 + (i - 1) ≡ i = omega arith in
          let g : get_or (argument_rows r) (i - 1) 0 ≡ get_or r.fields i 0 = get_or-take r.count (drop 1 r.fields) (i - 1) 0 (omega arith) ∙ get_or-drop 1 r.fields (i - 1) 0 ∙ ap (λ (n : ℕ). get_or r.fields n 0) z in
          subst (λ (x : ℕ). x < length (rows_of S)) g (below_at (length (rows_of S)) (argument_rows r) (all_below_lem (length (rows_of S)) (argument_rows r) t.1) (i - 1) (omega arith))

      try : (b : Bool) → (leb 1 i && leb i r.count) ≡ b → Small i
      try true q =
          let t = both_true (leb 1 i) (leb i r.count) q in
          let n = raised_by_lem rows clauses r 3 e i ∙ ap (λ (b : Bool). pick b rows 0) q in
          let l = argument (at_most 1 i t.0) (at_most i r.count t.1) in
          omega arith
      try false q = as_it_was 3 i e (ap (λ (b : Bool). pick b rows 0) q)

  literal_small : r.kind ≡ 4 → Passed S inputKind r → (i : ℕ) → Small i
  literal_small e a i = try (ltb i r.count) refl
    where
      count : r.count ≤ 7
      count = at_most r.count 7 (both_true (leb r.count 7) (zeros (drop r.count r.fields)) (fields_of_lem r inputKind a.ranged)).0

      literal : i < r.count → get_or r.fields i 0 / 2 < length (rows_of S)
      literal l =
          let s = F.seven_fields in
          let w : length (take r.count r.fields) ≡ r.count = simp length-take (omega (arith, s, count)) in
          subst (λ (x : ℕ). x / 2 < length (rows_of S)) (get_or-take r.count r.fields i 0 l) (literal_at (length (rows_of S)) (take r.count r.fields) (rows_below (length (rows_of S)) (input_literals r) a.there) i (omega arith))

      try : (b : Bool) → ltb i r.count ≡ b → Small i
      try true q =
          let n = raised_by_lem rows clauses r 4 e i ∙ ap (λ (b : Bool). pick b (2 * rows) 0) q in
          let l = literal (ltb→lt i r.count (to_t (ltb i r.count) q)) in
          omega arith
      try false q = as_it_was 4 i e (ap (λ (b : Bool). pick b (2 * rows) 0) q)

  window_small : r.kind ≡ 8 → Passed S windowKind r → (i : ℕ) → Small i
  window_small e a i = try (eqb i 0) refl
    where
      there : (o : Option Derivation) → clause_of S (field_a r) ≡ o → is_input o ≡ true → field_a r < length (derivations S)
      there none p z = absurd (true_not_false z refl)
      there (some d) p z = entry_below (derivations S) (field_a r) d p

      try : (b : Bool) → eqb i 0 ≡ b → Small i
      try true q =
          let n = raised_by_lem rows clauses r 8 e i ∙ ap (λ (b : Bool). pick b clauses 0) q in
          let l = there (clause_of S (field_a r)) refl a.there in
          let z = ap (λ (x : ℕ). get_or r.fields x 0) (equal i 0 q) in
          omega arith
      try false q = as_it_was 8 i e (ap (λ (b : Bool). pick b clauses 0) q)

  small : (kind : Kind) → kind_of_record r ≡ kind → Passed S kind r → (i : ℕ) → Small i
  small symbolKind e a i = as_it_was 1 i (of_kind_lem r symbolKind e) refl
  small variableKind e a i = as_it_was 2 i (of_kind_lem r variableKind e) refl
  small applicationKind e a i = argument_small (of_kind_lem r applicationKind e) a i
  small inputKind e a i = literal_small (of_kind_lem r inputKind e) a i
  small resolveKind e a i = as_it_was 5 i (of_kind_lem r resolveKind e) refl
  small severalKind e a i = as_it_was 7 i (of_kind_lem r severalKind e) refl
  small factorKind e a i = as_it_was 6 i (of_kind_lem r factorKind e) refl
  small windowKind e a i = window_small (of_kind_lem r windowKind e).0 a i
  small otherKind e a i = absurd a

  record_fits : step S k r ≡ stands T → Fits Old (shifted rows clauses r)
  record_fits q = record {
    kind_byte = F.kind_byte;
    count_byte = F.count_byte;
    seven_fields = shifted_seven rows clauses r F.seven_fields;
    days_fit = F.days_fit;
    fields_bits = λ i. let a = raised_most (raised_by rows clauses r) 0 i r.fields in let z : 0 + i ≡ i = omega arith in let b : raised_by rows clauses r (0 + i) ≡ raised_by rows clauses r i = ap (raised_by rows clauses r) z in let c = small (kind_of_record r) refl (tests_passed S (kind_of_record r) r (step_stands S k r T q).0) i in omega arith;
  }

-- ── All records ──
module _ (rows clauses : ℕ) (fewRows : rows ≤ 4096) (fewClauses : clauses ≤ 4096) where
  read_fits : (S : State) (k : ℕ) (rs : List Record) (T : State) → AllFit Old rs → read S k rs ≡ all_stand T → length T.rows ≤ 4096 → length T.clauses ≤ 4096 → AllFit Old (map (λ r. shifted rows clauses r) rs)
  read_fits S k [] T F q a b = tt
  read_fits S k (r ∷ rs) T F q a b = try (step S k r) refl q (λ U p. read_fits U (suc k) rs T F.1 p a b)
    where
      here : (U : State) → step S k r ≡ stands U → Fits Old (shifted rows clauses r)
      here U e =
          let c = read_counted S k (r ∷ rs) T (fits_shaped Old (r ∷ rs) F) q in
          let x = c.rows in
          let y = c.clauses in
          let m = length-map S.rows (λ (w : ℕ × Row). w.1) in
          let n = length-map S.clauses (λ (w : ℕ × Derivation). w.1) in
          record_fits rows clauses fewRows fewClauses S k r U (omega arith) (omega arith) F.0 e

      try : (o : Result) → step S k r ≡ o → elim o [ stands U ↦ read U (suc k) rs | refused p ↦ refused_at S p k ] ≡ all_stand T
          → ((U : State) → read U (suc k) rs ≡ all_stand T → AllFit Old (map (λ x. shifted rows clauses x) rs)) → Fits Old (shifted rows clauses r) × AllFit Old (map (λ x. shifted rows clauses x) rs)
      try (stands U) e p ih = (here U e, ih U p)
      try (refused p) e z ih = absurd (stands_not_refused (sym z))

  pub shifted_fit : (file : List ℕ) (S : State) → Bytes file → Stands (old_file file) S → length S.rows ≤ 4096 → length S.clauses ≤ 4096 → AllFit Old (map (λ r. shifted rows clauses r) (records (old_file file)))
  unfolding ending
  shifted_fit file S h st a b = read_fits empty_state 0 (records (old_file file)) S (records_fit (old_file file) h) st.reads a b
