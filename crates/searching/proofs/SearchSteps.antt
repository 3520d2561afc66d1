-- The first step of a file and the first symbol that differs, step by step as the program looks for them.
use mathlib.Core.Path.{◌≡◌, refl, sym, ap, ap₂, ◌∙◌, subst}
use mathlib.Core.Bool.{Bool, true, false}
use mathlib.Core.Option.{Option, none, some}
use mathlib.Core.List.{List, [], ◌∷◌}
use Prim.Native.Nat.{ℕ, suc, ◌+◌, ◌≤◌, ◌<◌}
use native.Mathlib.Numerals.{add-one}
use native.Mathlib.Omega.{arith}
use lib.Dec.{eqb}
use lib.ListN.{length, drop, drop_of_length-le}
use borrow.Author.Tests.{eq-eqb, ne_eqb}
use Rattle.record.specs.Record.{old_file, Record, record_count, record_part, decoded, records, kind_of, count_of}
use Rattle.record.proofs.Records.{record_numbered, records_length}
use Rattle.record.specs.Sorts.{is_symbol, is_step}
use Rattle.merging.specs.Answer.{first_where, symbol_list, first_other}
use Rattle.searching.specs.Searching.{found_given, others_from, Moved}
use Rattle.std.specs.declared.ops.ControlFlow.{ControlFlow}
use Rattle.std.specs.declared.ops.ControlFlow.TheVariants.{Continue, Break}
use Rattle.std.specs.declared.option.Option as Found
use Rattle.std.specs.declared.option.Option.TheVariants.{Some, None}

-- ── The first of a sort ──

first_here : (sort : Record → Bool) (k : ℕ) (r : Record) (rs : List Record) → sort r ≡ true → first_where sort k (r ∷ rs) ≡ some k
first_here sort k r rs q = rw (q, first_where) refl

first_later : (sort : Record → Bool) (k : ℕ) (r : Record) (rs : List Record) → sort r ≡ false → first_where sort k (r ∷ rs) ≡ first_where sort (suc k) rs
first_later sort k r rs q = rw (q, first_where) refl

-- From the last record on there is none.
none_left : (file : List ℕ) (k : ℕ) → record_count (old_file file) ≤ k → drop k (records (old_file file)) ≡ []
none_left file k h = drop_of_length-le (records (old_file file)) {i = k} (omega (arith, records_length (old_file file)))

abbrev pub Same : List ℕ → ℕ → Type 0
Same file k = first_where is_step k (drop k (records (old_file file))) ≡ first_where is_step 0 (records (old_file file))

module _ (file : List ℕ) (k : ℕ) (whole : Same file k) where
  pub no_step_left : record_count (old_file file) ≤ k → none ≡ first_where is_step 0 (records (old_file file))
  no_step_left h = sym (ap (first_where is_step k) (none_left file k h)) ∙ whole

  module _ (h : k < record_count (old_file file)) {part : List ℕ} (isPart : part ≡ record_part (old_file file) k) {b : Bool} (isTest : b ≡ is_step (decoded part)) where
    is_test : is_step (decoded (record_part (old_file file) k)) ≡ b
    is_test = ap (λ (p : List ℕ). is_step (decoded p)) (sym isPart) ∙ sym isTest

    pub step_here : b ≡ true → some k ≡ first_where is_step 0 (records (old_file file))
    step_here q =
        sym (first_here is_step k (decoded (record_part (old_file file) k)) (drop (suc k) (records (old_file file))) (is_test ∙ q))
        ∙ sym (ap (first_where is_step k) (record_numbered (old_file file) k h)) ∙ whole

    pub step_later : b ≡ false → Same file (k + 1)
    step_later q =
        ap (λ (n : ℕ). first_where is_step n (drop n (records (old_file file)))) (add-one k)
        ∙ sym (first_later is_step k (decoded (record_part (old_file file) k)) (drop (suc k) (records (old_file file))) (is_test ∙ q))
        ∙ sym (ap (first_where is_step k) (record_numbered (old_file file) k h)) ∙ whole

-- ── The first symbol that differs ──

symbols_past : (r : Record) (rs : List Record) → is_symbol r ≡ false → symbol_list (r ∷ rs) ≡ symbol_list rs
symbols_past r rs q = rw (q, symbol_list) refl

symbols_with : (r : Record) (rs : List Record) → is_symbol r ≡ true → symbol_list (r ∷ rs) ≡ r.count ∷ symbol_list rs
symbols_with r rs q = rw (q, symbol_list) refl

others_end : (xs : List ℕ) (k : ℕ) → first_other xs k [] ≡ none
others_end [] k = refl
others_end (a ∷ xs) k = refl

others_past : (xs : List ℕ) (k : ℕ) (r : Record) (rs : List Record) → is_symbol r ≡ false → first_other xs k (r ∷ rs) ≡ first_other xs (suc k) rs
others_past [] k r rs q = refl
others_past (a ∷ xs) k r rs q = rw (q, first_other) refl

abbrev compared : Bool → Bool → ℕ → Option ℕ → Option ℕ → Option ℕ
compared symbol equal k next same = elim symbol [ true ↦ elim equal [ true ↦ next | false ↦ some k ] | false ↦ same ]

others_same : (a : ℕ) (xs : List ℕ) (k : ℕ) (r : Record) (rs : List Record) → is_symbol r ≡ true → eqb a r.count ≡ true → first_other (a ∷ xs) k (r ∷ rs) ≡ first_other xs (suc k) rs
others_same a xs k r rs p q = λ i. compared (p i) (q i) k (first_other xs (suc k) rs) (first_other (a ∷ xs) (suc k) rs)

others_here : (a : ℕ) (xs : List ℕ) (k : ℕ) (r : Record) (rs : List Record) → is_symbol r ≡ true → eqb a r.count ≡ false → first_other (a ∷ xs) k (r ∷ rs) ≡ some k
others_here a xs k r rs p q = λ i. compared (p i) (q i) k (first_other xs (suc k) rs) (first_other (a ∷ xs) (suc k) rs)

module _ (first second : List ℕ) (i j : ℕ) (asked : (i < record_count (old_file first)) × (length second ≤ 65536) × (j ≤ 4096)) {mine : List ℕ} (isMine : mine ≡ record_part (old_file first) i) {kind : ℕ} (is_kind : kind ≡ kind_of mine) where
  is_kind_lem : kind_of (record_part (old_file first) i) ≡ kind
  is_kind_lem = ap kind_of (sym isMine) ∙ sym is_kind

  -- The first file's record is no symbol: past it.
  pub past_first : ¬ (kind ≡ 1) → Moved first second i j (Continue (i + 1, j))
  past_first e =
      let same : symbol_list (drop i (records (old_file first))) ≡ symbol_list (drop (i + 1) (records (old_file first))) =
      ap symbol_list (record_numbered (old_file first) i asked.0)
      ∙ symbols_past (decoded (record_part (old_file first) i)) (drop (suc i) (records (old_file first))) (ne_eqb (kind_of (record_part (old_file first) i)) 1 (λ q. e (sym is_kind_lem ∙ q)))
      ∙ ap (λ (n : ℕ). symbol_list (drop n (records (old_file first)))) (sym (add-one i))
      in
      (ap (λ (xs : List ℕ). first_other xs j (drop j (records (old_file second)))) same, omega arith, omega arith, omega arith, omega arith, omega arith)

  pub second_ended : record_count (old_file second) ≤ j → Moved first second i j (Break None)
  second_ended h = ap (first_other (symbol_list (drop i (records (old_file first)))) j) (none_left second j h) ∙ others_end (symbol_list (drop i (records (old_file first)))) j

  module _ (is_symbol_lem : kind ≡ 1) (inside : j < record_count (old_file second)) {theirs : List ℕ} (isTheirs : theirs ≡ record_part (old_file second) j) {kind' : ℕ} (isKind' : kind' ≡ kind_of theirs) where
    is_kind' : kind_of (record_part (old_file second) j) ≡ kind'
    is_kind' = ap kind_of (sym isTheirs) ∙ sym isKind'

    numbered : others_from first second i j ≡ first_other (symbol_list (drop i (records (old_file first)))) j (decoded (record_part (old_file second) j) ∷ drop (suc j) (records (old_file second)))
    numbered = ap (first_other (symbol_list (drop i (records (old_file first)))) j) (record_numbered (old_file second) j inside)

    -- The second's is none: past it.
    pub past_second : ¬ (kind' ≡ 1) → Moved first second i j (Continue (i, j + 1))
    past_second e =
        let same : others_from first second i j ≡ others_from first second i (j + 1) =
        numbered
        ∙ others_past (symbol_list (drop i (records (old_file first)))) j (decoded (record_part (old_file second) j)) (drop (suc j) (records (old_file second))) (ne_eqb (kind_of (record_part (old_file second) j)) 1 (λ q. e (sym is_kind' ∙ q)))
        ∙ ap (λ (n : ℕ). first_other (symbol_list (drop i (records (old_file first)))) n (drop n (records (old_file second)))) (sym (add-one j))
        in
        (same, omega arith, omega arith, omega arith, omega arith, omega arith)

    module _ (is-symbol' : kind' ≡ 1) {count count' : ℕ} (isCount : count ≡ count_of mine) (isCount' : count' ≡ count_of theirs) where
      is_count : count_of (record_part (old_file first) i) ≡ count
      is_count = ap count_of (sym isMine) ∙ sym isCount

      is_count' : count_of (record_part (old_file second) j) ≡ count'
      is_count' = ap count_of (sym isTheirs) ∙ sym isCount'

      both_symbols : others_from first second i j ≡ first_other (count_of (record_part (old_file first) i) ∷ symbol_list (drop (suc i) (records (old_file first)))) j (decoded (record_part (old_file second) j) ∷ drop (suc j) (records (old_file second)))
      both_symbols =
          numbered
          ∙ ap (λ (xs : List ℕ). first_other xs j (decoded (record_part (old_file second) j) ∷ drop (suc j) (records (old_file second))))
          (ap symbol_list (record_numbered (old_file first) i asked.0) ∙ symbols_with (decoded (record_part (old_file first) i)) (drop (suc i) (records (old_file first))) (eq-eqb (kind_of (record_part (old_file first) i)) 1 (is_kind_lem ∙ is_symbol_lem)))

      second_symbol : is_symbol (decoded (record_part (old_file second) j)) ≡ true
      second_symbol = eq-eqb (kind_of (record_part (old_file second) j)) 1 (is_kind' ∙ is-symbol')

      -- Symbols of one arity: past both.
      pub past_both : count ≡ count' → Moved first second i j (Continue (i + 1, j + 1))
      past_both e =
          let same : others_from first second i j ≡ others_from first second (i + 1) (j + 1) =
          both_symbols
          ∙ others_same (count_of (record_part (old_file first) i)) (symbol_list (drop (suc i) (records (old_file first)))) j (decoded (record_part (old_file second) j)) (drop (suc j) (records (old_file second))) second_symbol
          (eq-eqb (count_of (record_part (old_file first) i)) (count_of (record_part (old_file second) j)) (is_count ∙ e ∙ sym is_count'))
          ∙ ap₂ (others_from first second) (sym (add-one i)) (sym (add-one j))
          in
          (same, omega arith, omega arith, omega arith, omega arith, omega arith)

      pub other_symbol_lem : ¬ (count ≡ count') → Moved first second i j (Break (Some j))
      other_symbol_lem e =
          both_symbols
          ∙ others_here (count_of (record_part (old_file first) i)) (symbol_list (drop (suc i) (records (old_file first)))) j (decoded (record_part (old_file second) j)) (drop (suc j) (records (old_file second))) second_symbol
          (ne_eqb (count_of (record_part (old_file first) i)) (count_of (record_part (old_file second) j)) (λ q. e (sym is_count ∙ q ∙ is_count')))

-- From the last record of the first file on no symbol differs.
pub first_ended : (first second : List ℕ) (i j : ℕ) → record_count (old_file first) ≤ i → others_from first second i j ≡ none
first_ended first second i j h = ap (λ (rs : List Record). first_other (symbol_list rs) j (drop j (records (old_file second)))) (none_left first i h)

-- What a comparison says, by its cases.
module _ (first second : List ℕ) (i j : ℕ) {m : ControlFlow (Found.Option ℕ) (ℕ × ℕ)} (moved : Moved first second i j m) (whole : others_from first second i j ≡ others_from first second 0 0) where
  pub goes_on : {to : ℕ × ℕ} → m ≡ Continue to → Moved first second i j (Continue to)
  goes_on e = subst (Moved first second i j) e moved

  pub goes_on_whole : {to : ℕ × ℕ} → m ≡ Continue to → others_from first second to.0 to.1 ≡ others_from first second 0 0
  goes_on_whole e = sym (goes_on e).0 ∙ whole

  pub ends : {found : Found.Option ℕ} → m ≡ Break found → found_given found ≡ others_from first second 0 0
  ends e = sym (subst (Moved first second i j) e moved) ∙ whole
