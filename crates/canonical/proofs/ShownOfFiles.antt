-- What holds of the clauses that a file lists: their numbers have at most five digits, and their variables are told apart by number and index.
use mathlib.Core.Path.{◌≡◌, refl, sym, ap, ◌∙◌, subst}
use mathlib.Core.Bool.{Bool, true, false}
use mathlib.Core.Option.{some}
use mathlib.Core.List.{List, [], ◌∷◌, map, append-nil, ◌++◌}
use Prim.Native.Nat.{ℕ, zero, suc, ◌+◌, ◌≤◌, ◌<◌}
use native.Mathlib.Omega.{arith}
use lib.Dec.{eqb}
use lib.ListN.{length, length-map}
use Rattle.record.specs.Record.{pick, File, record_count, record_at}
use Rattle.unification.specs.Repeated.{IsEarliest}
use Rattle.unification.specs.Row.{variable, Row, Expression, Variable, row_at}
use Rattle.unification.proofs.Lists.{Each}
use Rattle.unification.proofs.Repeats.{one_earliest}
use Rattle.derivation.specs.Derivation.{literals, Literal, Derivation, maximum_index, lookup}
use Rattle.derivation.specs.Written.{Clause, substitution, written_literal, written}
use Rattle.derivation.proofs.Known.{KnownRows, KnownLiteral, known_literals, known_lookup}
use Rattle.derivation.proofs.Literals.{In, LiteralIn, literals_in_lem}
use Rattle.derivation.proofs.Substitutions.{lookup_solved}
use Rattle.verdict.specs.Refusal.{most_literals, most_index}
use Rattle.verdict.specs.State.{State, arities, empty_state, rows_of, derivations, clause_of, arity_of, row_of, term_of}
use Rattle.verdict.specs.Step.{stands, refused, Result, step, all_stand, state_of}
use Rattle.verdict.specs.Text.{decimal, variable_number, number_and_index}
use Rattle.verdict.specs.Verdict.{Lengths, long_enough, fitting, ending, reading, state_given}
use Rattle.verdict.proofs.Endings.{reading_length, reading_tables, reading_records}
use Rattle.demands.proofs.Advance.{RowFits, Standing, standing_start, advance, refused_there, all_read}
use Rattle.demands.proofs.Inversions.{entry_below, entry_each}
use Rattle.demands.proofs.Reading.{ending_ok, term_of_row}
use Rattle.demands.proofs.Shared.{Shared, shared_arguments}
use Rattle.demands.proofs.Standing.{StateOk, order_of}
use Rattle.appearance.specs.Appearance.{position, all_shown}
use Rattle.canonical.specs.SameClause.{OccursInClause, FiveDigitLiterals, Listed}
use Rattle.canonical.proofs.Digits.{decimal_once}
use Rattle.appearance.proofs.Positions.{position_bound, all_shown_length}
use Rattle.canonical.proofs.Related.{numbered_clause}
use Rattle.canonical.proofs.Relabelling.{AllOf, clause_occurring}
use Rattle.canonical.proofs.Symbols.{term_symbols, clause_symbols, five_digit_literals}
use Rattle.canonical.proofs.WrittenVariables.{VariableRow, written_rows_lem}

-- ── The state that a file leaves ──

-- What holds of it.
record StateLeft (S : State) : Type 0 where
  ok : StateOk 4096 S
  shared : Shared S
  rows_fit : Each RowFits (rows_of S)

-- Reading goes on from record k to the end or to a refusal, and what stands so far keeps in order.
left_standing : (F : File) (n k : ℕ) (S : State) → Standing F k S → k + n ≡ record_count F → (j : ℕ) × Standing F j (state_of (ending F))
left_standing F zero k S H e =
    let z : k ≡ record_count F = omega arith in
    let q : ending F ≡ all_stand S = all_read F S (subst (λ (i : ℕ). Standing F i S) z H) in
    (k, subst (Standing F k) (sym (ap state_of q)) H)
left_standing F (suc n) k S H e = try (step S k (record_at F k)) refl (λ T G. left_standing F n (suc k) T G (omega arith))
  where
    here : k < record_count F
    here = omega arith

    try : (o : Result) → step S k (record_at F k) ≡ o → ((T : State) → Standing F (suc k) T → (j : ℕ) × Standing F j (state_of (ending F))) → (j : ℕ) × Standing F j (state_of (ending F))
    try (stands T) q ih = ih T (advance F k S H here T q)
    try (refused p) q ih = (k, subst (Standing F k) (sym (ap state_of (refused_there F k S H here p q))) H)

left_ending : (F : File) → fitting F ≡ true → StateLeft (state_of (ending F))
left_ending F fit =
    let s = left_standing F (record_count F) 0 empty_state (standing_start F) (omega arith) in
    record { ok = ending_ok F fit; shared = s.1.shared; rows_fit = s.1.tally.rows_fit }

-- A file that lists a clause was read.
left_listed : (F : File) (lengths : Lengths) (n : ℕ) (c : Derivation) → clause_of (state_given (reading F lengths)) n ≡ some c → StateLeft (state_given (reading F lengths))
left_listed F lengths n c q = try (fitting F) refl (long_enough lengths) refl
  where
    none_listed : state_given (reading F lengths) ≡ empty_state → ⊥
    none_listed e = omega (arith, entry_below [] n c (ap (λ (S : State). clause_of S n) (sym e) ∙ q))

    try : (f : Bool) → fitting F ≡ f → (g : Bool) → long_enough lengths ≡ g → StateLeft (state_given (reading F lengths))
    try true f true g = subst StateLeft (sym (ap state_given (reading_records F lengths f g))) (left_ending F f)
    try true f false g = absurd (none_listed (ap state_given (reading_tables F lengths f g)))
    try false f g h = absurd (none_listed (ap state_given (reading_length F lengths f)))

-- A row that is not there is an application without arguments.
row_fits : (us : List Row) → Each RowFits us → (r : ℕ) → RowFits (row_at us r)
row_fits [] h r = omega arith
row_fits (u ∷ us) h r = try (eqb r (length us)) (row_fits us h.1 r)
  where
    try : (b : Bool) → RowFits (row_at us r) → RowFits (pick b u (row_at us r))
    try true ih = h.0
    try false ih = ih

-- ── Its clauses ──
module _ (S : State) (H : StateLeft S) (n : ℕ) (c : Derivation) (q : clause_of S n ≡ some c) where
  few_literals : length (written (term_of S) c) ≤ 128
  unfolding most_literals
  few_literals = omega (arith, length-map (literals c) (written_literal (term_of S) (substitution (term_of S) c)), (order_of 4096 S H.ok n c q).literals_fit)

  few_symbols : (s k : ℕ) → arity_of S s ≡ some k → s < 100000
  few_symbols s k p = omega (arith, entry_below (arities S) s k p, H.ok.few)

  -- Symbols are below 4,096 or the one of a row that is not there, and at most 64 variables are shown for each of 128 literals.
  numbers_small : FiveDigitLiterals (numbered_clause (written (term_of S) c))
  numbers_small =
      let ls = written (term_of S) c in
      five_digit_literals (position (all_shown [] ls)) (λ x. omega (arith, position_bound (all_shown [] ls) x, all_shown_length [] ls, few_literals)) ls
      (clause_symbols (term_of S) (term_symbols (arity_of S) few_symbols (rows_of S) H.ok.rows_ok) c (literals c))

  -- ── Its variables ──
  abbrev ws : List Row
  ws = rows_of S

  earliest_rows : KnownRows (IsEarliest (rows_of S)) c
  earliest_rows = entry_each (KnownRows (IsEarliest ws)) (derivations S) H.shared.clauses_shared n c q

  targets : (x : Variable) (e : Expression) → lookup c x ≡ some e → IsEarliest (rows_of S) e.0
  targets x e p =
      (known_lookup (IsEarliest ws) (row_of S) (row_of S) (λ r l. refl) (λ r s xs w E. shared_arguments ws H.shared.rows_shared r s xs w E.there)
      c (order_of 4096 S H.ok n c q).valid earliest_rows x e p).1

  -- The row of a variable that occurs, and its index.
  abbrev Told : Variable → Type 0
  Told x = VariableRow (rows_of S) x.0 × In (maximum_index c) x.1

  literals_told : (ls : List Literal) → Each (KnownLiteral (IsEarliest (rows_of S))) ls → Each (LiteralIn (maximum_index c)) ls → AllOf Told (map (written_literal (term_of S) (substitution (term_of S) c)) ls)
  literals_told [] h k = tt
  literals_told (l ∷ ls) h k = (
    written_rows_lem ws H.shared.rows_shared (In (maximum_index c)) (lookup c) (substitution (term_of S) c) (lookup_solved (row_of S) (term_of S) (term_of_row S H.ok) c (order_of 4096 S H.ok n c q).valid) targets l.1 k.0 h.0,
    literals_told ls h.1 k.1,
  )

  all_told : AllOf Told (written (term_of S) c)
  all_told = literals_told (literals c) (known_literals (IsEarliest ws) c earliest_rows) (literals_in_lem c)

  number_small : (r : ℕ) (R : VariableRow (rows_of S) r) → R.number < 100000
  number_small r R = let z : R.number < 64 = subst RowFits R.is_variable (row_fits ws H.rows_fit r) in omega arith

  index_small : (i : ℕ) → In (maximum_index c) i → i < 100000
  unfolding most_index
  index_small i h = omega (arith, (order_of 4096 S H.ok n c q).index_fits)

  -- Number and index are read back, and one row that is no repeat has the number.
  told_apart : (x y : Variable) → Told x → Told y → number_and_index (row_of S) x ≡ number_and_index (row_of S) y → x ≡ y
  told_apart x y X Y e =
      let a = ap variable_number X.0.is_variable in
      let b = ap variable_number Y.0.is_variable in
      let d = decimal_once X.0.number Y.0.number (46 ∷ decimal x.1) (46 ∷ decimal y.1) (number_small x.0 X.0) (number_small y.0 Y.0) refl refl
      (ap (λ (m : ℕ). decimal m ++ (46 ∷ decimal x.1)) (sym a) ∙ e ∙ ap (λ (m : ℕ). decimal m ++ (46 ∷ decimal y.1)) b) in
      let r : x.0 ≡ y.0 = one_earliest ws x.0 y.0 X.0.earliest Y.0.earliest (X.0.is_variable ∙ ap variable d.0 ∙ sym Y.0.is_variable) in
      let f : decimal x.1 ≡ decimal y.1 = after_dot d.1 in
      let i : x.1 ≡ y.1 = (decimal_once x.1 y.1 [] [] (index_small x.1 X.1) (index_small y.1 Y.1) tt tt (append-nil (decimal x.1) ∙ f ∙ sym (append-nil (decimal y.1)))).0 in
      λ j. (r j, i j)
    where
      after_dot : {u w : List ℕ} → ◌≡◌ {A = List ℕ} (46 ∷ u) (46 ∷ w) → u ≡ w
      after_dot e = cc

  one_name : (x y : Variable) → OccursInClause x (written (term_of S) c) → OccursInClause y (written (term_of S) c) → number_and_index (row_of S) x ≡ number_and_index (row_of S) y → x ≡ y
  one_name x y h k e = told_apart x y (clause_occurring Told (written (term_of S) c) all_told x h) (clause_occurring Told (written (term_of S) c) all_told y k) e

-- ── Of clauses that are listed ──
pub listed_numbers : (file : File) (lengths : Lengths) (ls : Clause) → Listed file lengths ls → FiveDigitLiterals (numbered_clause ls)
listed_numbers file lengths ls L =
    subst (λ (ms : Clause). FiveDigitLiterals (numbered_clause ms)) L.is_written
    (numbers_small (state_given (reading file lengths)) (left_listed file lengths L.number L.clause L.is_clause) L.number L.clause L.is_clause)

pub listed_names : (file : File) (lengths : Lengths) (ls : Clause) → Listed file lengths ls → (x y : Variable) → OccursInClause x ls → OccursInClause y ls
    → number_and_index (row_of (state_given (reading file lengths))) x ≡ number_and_index (row_of (state_given (reading file lengths))) y → x ≡ y
listed_names file lengths ls L x y h k e =
    let S = state_given (reading file lengths) in
    let back = sym L.is_written in
    one_name S (left_listed file lengths L.number L.clause L.is_clause) L.number L.clause L.is_clause x y
    (subst (OccursInClause x) back h) (subst (OccursInClause y) back k) e
