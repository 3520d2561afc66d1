-- What a record with numbers closed up says: its range is as it was, and it names what it named, renumbered.
use mathlib.Core.Path.{◌≡◌, refl, sym, ap, ◌∙◌, subst}
use mathlib.Core.Bool.{Bool, ◌&&◌}
use mathlib.Core.List.{List, [], ◌∷◌, ◌++◌, map}
use Prim.Native.Nat.{ℕ, suc, ◌+◌, ◌≤◌}
use native.Mathlib.Omega.{arith}
use lib.Dec.{eqb, leb}
use lib.ListN.{length, get_or, take, drop, length-drop, length-map}
use lib.Seq.{take_at, drop_at, length-take-le}
use Rattle.record.specs.Record.{Record, Kind, applicationKind, inputKind, resolveKind, factorKind, severalKind, windowKind, field_b, field_c}
use Rattle.derivation.specs.Derivation.{literal_of, input_literals}
use Rattle.derivation.specs.Stored.{literal_number}
use Rattle.renumbering.specs.Renumbering.{Renumbering, renumbered_row_literal}
use Rattle.verdict.specs.Refusal.{zeros, in_range, zero_days, argument_rows, right_numbers}
use Rattle.demands.proofs.Tabled.{literal_back, seven_numbers}
use Rattle.trimming.specs.Trimming.{closed_fields}

-- A record of a kind with numbers closed up.
abbrev pub closed_as : Renumbering → Kind → Record → Record
closed_as N kind r = record { kind = r.kind; count = r.count; fields = closed_fields N kind r; days = r.days }

module _ (N : Renumbering) (r : Record) (seven : length r.fields ≡ 7) where
  -- ── Applications ──
  module _ (few : r.count ≤ 6) where
    argument_count_lem : length (argument_rows r) ≡ r.count
    argument_count_lem = length-take-le r.count (drop 1 r.fields) (omega (arith, few, seven, length-drop 1 r.fields))

    arguments_there_lem : length (map N.row (argument_rows r)) ≡ r.count
    arguments_there_lem = length-map (argument_rows r) N.row ∙ argument_count_lem

    pub arguments_closed : argument_rows (closed_as N applicationKind r) ≡ map N.row (argument_rows r)
    arguments_closed = take_at (map N.row (argument_rows r)) (drop (1 + r.count) r.fields) r.count arguments_there_lem

    pub application_range : in_range applicationKind (closed_as N applicationKind r) ≡ in_range applicationKind r
    application_range = ap (λ (ns : List ℕ). zero_days r.days && (leb r.count 6 && zeros ns)) (dropped ∙ drop_at (map N.row (argument_rows r)) (drop (1 + r.count) r.fields) r.count arguments_there_lem)
      where
        dropped : drop (1 + r.count) (closed_fields N applicationKind r) ≡ drop r.count (map N.row (argument_rows r) ++ drop (1 + r.count) r.fields)
        dropped = let e : 1 + r.count ≡ suc r.count = omega arith in ap (λ (n : ℕ). drop n (closed_fields N applicationKind r)) e

  -- ── Input clauses ──
  module _ (few : r.count ≤ 7) where
    abbrev closed_literal : ℕ → ℕ
    closed_literal m = literal_number (renumbered_row_literal N (literal_of m))

    literals_there : length (map closed_literal (take r.count r.fields)) ≡ r.count
    literals_there = length-map (take r.count r.fields) closed_literal ∙ length-take-le r.count r.fields (omega (arith, few, seven))

    each_back : (xs : List ℕ) → map literal_of (map closed_literal xs) ≡ map (renumbered_row_literal N) (map literal_of xs)
    each_back [] = refl
    each_back (x ∷ xs) = λ i. literal_back (renumbered_row_literal N (literal_of x)) i ∷ each_back xs i

    pub literals_closed : input_literals (closed_as N inputKind r) ≡ map (renumbered_row_literal N) (input_literals r)
    literals_closed =
        ap (map literal_of) (take_at (map closed_literal (take r.count r.fields)) (drop r.count r.fields) r.count literals_there) ∙ each_back (take r.count r.fields)

    pub input_range : in_range inputKind (closed_as N inputKind r) ≡ in_range inputKind r
    input_range = ap (λ (ns : List ℕ). leb r.count 7 && zeros ns) (drop_at (map closed_literal (take r.count r.fields)) (drop r.count r.fields) r.count literals_there)

  -- ── Steps and windows ──
  by_seven : (P : List ℕ → Type 0) → ((a b c d e f g : ℕ) → P (a ∷ b ∷ c ∷ d ∷ e ∷ f ∷ g ∷ [])) → P r.fields
  by_seven P h = subst P (seven_numbers r.fields seven) (h _ _ _ _ _ _ _)

  pub right_closed : right_numbers resolveKind (closed_as N resolveKind r) ≡ right_numbers resolveKind r
  right_closed = by_seven (λ fs. get_or (drop 3 fs) 0 0 ∷ [] ≡ get_or fs 3 0 ∷ []) (λ a b c d e f g. refl)

  pub rights_closed : right_numbers severalKind (closed_as N severalKind r) ≡ right_numbers severalKind r
  rights_closed = refl

  pub resolve_range : in_range resolveKind (closed_as N resolveKind r) ≡ in_range resolveKind r
  resolve_range = ap (λ (b : Bool). zero_days r.days && (eqb r.count 0 && b)) (by_seven (λ fs. zeros (drop 1 (drop 3 fs)) ≡ zeros (drop 4 fs)) (λ a b c d e f g. refl))

  pub several_range : in_range severalKind (closed_as N severalKind r) ≡ in_range severalKind r
  several_range =
      let s : 3 + r.count ≡ suc (suc (suc r.count)) = omega arith in
      ap (λ (b : Bool). zero_days r.days && (leb 1 r.count && leb r.count 4 && b))
      (ap (λ (n : ℕ). zeros (drop n (closed_fields N severalKind r))) s ∙ by_seven (λ fs. zeros (drop r.count (drop 3 fs)) ≡ zeros (drop (suc (suc (suc r.count))) fs)) (λ a b c d e f g. refl)
      ∙ sym (ap (λ (n : ℕ). zeros (drop n r.fields)) s))

  pub factor_range_lem : in_range factorKind (closed_as N factorKind r) ≡ in_range factorKind r
  factor_range_lem = ap (λ (b : Bool). zero_days r.days && (eqb r.count 0 && b)) (by_seven (λ fs. zeros (drop 2 (drop 1 fs)) ≡ zeros (drop 3 fs)) (λ a b c d e f g. refl))

  pub window_range : in_range windowKind (closed_as N windowKind r) ≡ in_range windowKind r
  window_range = ap (λ (b : Bool). eqb r.count 0 && b) (by_seven (λ fs. zeros (drop 2 (drop 1 fs)) ≡ zeros (drop 3 fs)) (λ a b c d e f g. refl))

  pub second_closed : (x : ℕ) → get_or (x ∷ drop 1 r.fields) 1 0 ≡ field_b r
  second_closed x = by_seven (λ fs. get_or (x ∷ drop 1 fs) 1 0 ≡ get_or fs 1 0) (λ a b c d e f g. refl)

  pub third_closed : (x : ℕ) → get_or (x ∷ drop 1 r.fields) 2 0 ≡ field_c r
  third_closed x = by_seven (λ fs. get_or (x ∷ drop 1 fs) 2 0 ≡ get_or fs 2 0) (λ a b c d e f g. refl)
