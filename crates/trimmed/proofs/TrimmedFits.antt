-- The records of a trimmed file fit into sixteen bytes each: closing up makes no number greater.
use mathlib.Core.Path.{◌≡◌, refl, sym}
use mathlib.Core.Bool.{Bool, true, false}
use mathlib.Core.Option.{Option, none, some}
use mathlib.Core.List.{List, [], ◌∷◌, map}
use Prim.Native.Nat.{ℕ, zero, suc, ◌+◌, ◌*◌, ◌/◌, ◌%◌, ◌≤◌, ◌<◌}
use native.Mathlib.Omega.{arith}
use lib.Dec.{eqb, ltb}
use borrow.Author.Tests.{ltb-true, ltb-false}
use lib.ListN.{length, get_or, take, drop, length-append, length-map, length-take, length-drop}
use Rattle.record.specs.Bytes.{Bytes, Fits, AllFit}
use Rattle.record.specs.Record.{pick, old_file, Record, records, otherKind, Kind, symbolKind, variableKind, applicationKind, inputKind, resolveKind, factorKind, severalKind, windowKind, field_a}
use Rattle.record.proofs.Bytes.{records_fit}
use Rattle.record.specs.declared.Form.TheVariants.{Old}
use Rattle.unification.specs.Repeated.{earliest_row}
use Rattle.unification.specs.Row.{Row}
use Rattle.unification.proofs.Lists.{Each, each_append, each_map}
use Rattle.unification.proofs.Repeats.{earliest_equal_lem, earliest_absent}
use Rattle.derivation.specs.Derivation.{literal_of, Derivation}
use Rattle.derivation.specs.Stored.{literal_number}
use Rattle.renumbering.specs.Renumbering.{Renumbering, renumbered_row_literal}
use Rattle.verdict.specs.Refusal.{kind_of_record, argument_rows}
use Rattle.verdict.specs.State.{State, rows_of, earliest_of}
use Rattle.demands.proofs.RangeTests.{equal}
use Rattle.trimming.specs.Kept.{Kept}
use Rattle.trimming.specs.Trimming.{kept_below, closed_up, closed_fields, closed_record, Next, next_after, is_kept, trimmed_from, trimmed_for}

-- ── Numbers do not grow ──
pub below_least : (kept : ℕ → Bool) (n : ℕ) → kept_below kept n ≤ n
below_least kept zero = omega arith
below_least kept (suc n) = try (kept n) (below_least kept n)
  where
    try : (b : Bool) → kept_below kept n ≤ n → pick b 1 0 + kept_below kept n ≤ suc n
    try true h = omega arith
    try false h = omega arith

pub earliest_least : (ws : List Row) (r : ℕ) → earliest_row ws r ≤ r
earliest_least ws r = try (ltb r (length ws)) refl
  where
    try : (b : Bool) → ltb r (length ws) ≡ b → earliest_row ws r ≤ r
    try true e =
        let A = earliest_equal_lem ws r (ltb-true r (length ws) e) in
        let d : ¬ (r < earliest_row ws r) = λ l. A.earliest.first r l (sym A.equals) in
        omega arith
    try false e = let z = earliest_absent ws r (ltb-false r (length ws) e) in omega arith

literal_least : (N : Renumbering) → ((r : ℕ) → N.row r ≤ r) → (m : ℕ) → literal_number (renumbered_row_literal N (literal_of m)) ≤ m
literal_least N h m = try (eqb (m % 2) 1) refl (h (m / 2))
  where
    try : (b : Bool) → eqb (m % 2) 1 ≡ b → N.row (m / 2) ≤ m / 2 → 2 * N.row (m / 2) + pick b 1 0 ≤ m
    try true e l = let z = equal (m % 2) 1 e in omega arith
    try false e l = omega arith

-- ── Lists of small numbers ──
abbrev Small : List ℕ → Type 0
Small xs = Each (λ x. x < 65536) xs

small_each : (xs : List ℕ) → ((i : ℕ) → get_or xs i 0 < 65536) → Each (λ x. x < 65536) xs
small_each [] h = tt
small_each (x ∷ xs) h = (h 0, small_each xs (λ i. h (suc i)))

each_small : (xs : List ℕ) → Each (λ x. x < 65536) xs → (i : ℕ) → get_or xs i 0 < 65536
each_small [] h i = omega arith
each_small (x ∷ xs) h zero = h.0
each_small (x ∷ xs) h (suc i) = each_small xs h.1 i

small_take : (n : ℕ) (xs : List ℕ) → Each (λ x. x < 65536) xs → Each (λ x. x < 65536) (take n xs)
small_take zero xs h = tt
small_take (suc n) [] h = tt
small_take (suc n) (x ∷ xs) h = (h.0, small_take n xs h.1)

small_drop : (n : ℕ) (xs : List ℕ) → Each (λ x. x < 65536) xs → Each (λ x. x < 65536) (drop n xs)
small_drop zero xs h = h
small_drop (suc n) [] h = tt
small_drop (suc n) (x ∷ xs) h = small_drop n xs h.1

module _ (S : State) (K : Kept) where
  abbrev U : Renumbering
  U = closed_up S K

  row_least : (r : ℕ) → (closed_up S K).row r ≤ r
  row_least r = let a = below_least K.row (earliest_of S r) in let b = earliest_least (rows_of S) r in omega arith

  -- ── One record ──
  module _ (r : Record) (fit : Fits Old r) where
    all : Each (λ x. x < 65536) r.fields
    all = small_each r.fields fit.fields_bits

    seven : length r.fields ≡ 7
    seven = fit.seven_fields

    clause_small : (i : ℕ) → (closed_up S K).clause (get_or r.fields i 0) < 65536
    clause_small i = let a = below_least K.clause (get_or r.fields i 0) in let b = fit.fields_bits i in omega arith

    dropped : (n : ℕ) → Each (λ x. x < 65536) (drop n r.fields)
    dropped n = small_drop n r.fields all

    small_fields : (kind : Kind) → Each (λ x. x < 65536) (closed_fields (closed_up S K) kind r)
    small_fields applicationKind = (
      let a = below_least K.symbol (field_a r) in let b = fit.fields_bits 0 in omega arith,
      each_append (λ x. x < 65536) (map (closed_up S K).row (argument_rows r)) (drop (1 + r.count) r.fields) (each_map (λ x. x < 65536) (λ x. x < 65536) (closed_up S K).row (λ x l. let a = row_least x in omega arith) (argument_rows r) (small_take r.count (drop 1 r.fields) (dropped 1))) (dropped (1 + r.count)),
    )
    small_fields inputKind =
        each_append (λ x. x < 65536) (map (λ m. literal_number (renumbered_row_literal U (literal_of m))) (take r.count r.fields)) (drop r.count r.fields)
        (each_map (λ x. x < 65536) (λ x. x < 65536) (λ m. literal_number (renumbered_row_literal U (literal_of m))) (λ x l. let a = literal_least U row_least x in omega arith) (take r.count r.fields) (small_take r.count r.fields all)) (dropped r.count)
    small_fields resolveKind = (clause_small 0, (fit.fields_bits 1, (clause_small 2, dropped 3)))
    small_fields severalKind = (clause_small 0, (fit.fields_bits 1, (clause_small 2, dropped 3)))
    small_fields factorKind = (clause_small 0, dropped 1)
    small_fields windowKind = (clause_small 0, dropped 1)
    small_fields symbolKind = all
    small_fields variableKind = all
    small_fields otherKind = all

    seven_fields_lem : (kind : Kind) → length (closed_fields (closed_up S K) kind r) ≡ 7
    seven_fields_lem applicationKind =
        let a = length-append (map U.row (argument_rows r)) (drop (1 + r.count) r.fields) in
        let b = length-map (argument_rows r) U.row in
        let c = length-take r.count (drop 1 r.fields) in
        let d = length-drop 1 r.fields in
        let e = length-drop (1 + r.count) r.fields in
        omega (arith, seven)
    seven_fields_lem inputKind =
        let a = length-append (map (λ m. literal_number (renumbered_row_literal U (literal_of m))) (take r.count r.fields)) (drop r.count r.fields) in
        let b = length-map (take r.count r.fields) (λ m. literal_number (renumbered_row_literal U (literal_of m))) in
        let c = length-take r.count r.fields in
        let e = length-drop r.count r.fields in
        omega (arith, seven)
    seven_fields_lem resolveKind = let e = length-drop 3 r.fields in omega (arith, seven)
    seven_fields_lem severalKind = let e = length-drop 3 r.fields in omega (arith, seven)
    seven_fields_lem factorKind = let e = length-drop 1 r.fields in omega (arith, seven)
    seven_fields_lem windowKind = let e = length-drop 1 r.fields in omega (arith, seven)
    seven_fields_lem symbolKind = seven
    seven_fields_lem variableKind = seven
    seven_fields_lem otherKind = seven

    closed_fits : Fits Old (closed_record (closed_up S K) r)
    closed_fits = record {
      kind_byte = fit.kind_byte;
      count_byte = fit.count_byte;
      seven_fields = seven_fields_lem (kind_of_record r);
      fields_bits = each_small (closed_fields U (kind_of_record r) r) (small_fields (kind_of_record r));
      days_fit = fit.days_fit;
    }

  -- ── All records ──
  trimmed_fit : (n : Next) (rs : List Record) → AllFit Old rs → AllFit Old (trimmed_from K (closed_up S K) n rs)
  trimmed_fit n [] h = tt
  trimmed_fit n (r ∷ rs) h = try (is_kept K n (kind_of_record r) r rs) (trimmed_fit (next_after n (kind_of_record r)) rs h.1)
    where
      try : (b : Bool) → AllFit Old (trimmed_from K (closed_up S K) (next_after n (kind_of_record r)) rs)
          → AllFit Old (pick b (closed_record (closed_up S K) r ∷ trimmed_from K (closed_up S K) (next_after n (kind_of_record r)) rs) (trimmed_from K (closed_up S K) (next_after n (kind_of_record r)) rs))
      try true k = (closed_fits r h.0, k)
      try false k = k

pub trimmed_fits : (S : State) (o : Option Derivation) (file : List ℕ) → Bytes file → AllFit Old (trimmed_for S o (records (old_file file)))
trimmed_fits S none file b = tt
trimmed_fits S (some c) file b = trimmed_fit S _ _ (records (old_file file)) (records_fit (old_file file) b)
