-- Reading record by record, as a program does it: the state after k records, and what the next record makes of it.
use mathlib.Core.Path.{◌≡◌, refl, sym, ap, ◌∙◌, subst}
use mathlib.Core.Bool.{◌&&◌}
use mathlib.Core.List.{List, [], ◌∷◌, ◌++◌, map}
use Prim.Native.Nat.{ℕ, zero, suc, ◌+◌, ◌≤◌, ◌<◌}
use native.Mathlib.Nat.{zero-add}
use native.Mathlib.Omega.{arith}
use lib.Dec.{eqb, leb, leb→le}
use lib.ListN.{length, take, drop, length-take, length-map, take-append-drop}
use lib.Seq.{take-length}
use Rattle.record.specs.Record.{File, Record, records, record_count, record_part, count_of, record_at, otherKind, Kind, symbolKind, variableKind, applicationKind, inputKind, resolveKind, factorKind, severalKind, windowKind, field_a, field_b, field_c}
use Rattle.record.proofs.Records.{decoded_seven, decoded_count, records_length, record_numbered}
use Rattle.unification.specs.Row.{variable, Row, application}
use Rattle.unification.proofs.Lists.{Each}
use Rattle.unification.proofs.Tests.{to_t, both_true}
use Rattle.derivation.specs.Derivation.{Derivation, resolve, factor}
use Rattle.verdict.specs.Refusal.{Reason, kind_of_record, zeros, argument_rows, left_of, right_numbers, right_of, deleted_of}
use Rattle.verdict.specs.State.{State, empty_state, with_row, with_clause, rows_of, earliest_of, record_of_row, derivations, next_clause}
use Rattle.verdict.specs.Step.{stands, refused, Result, step, unify_resolve, unify_factor, new_application, enter_resolvent, enter, read, all_stand, refused_at}
use Rattle.verdict.specs.Verdict.{ending}
use Rattle.demands.proofs.RangeTests.{fields_of_lem}
use Rattle.demands.proofs.Inversions.{tests_passed, stands_same, step_stands, named_stands, clause_added, Passed}
use Rattle.verdict.proofs.Endings.{read_on_lem}
use Rattle.demands.proofs.Reading.{start_ok}
use Rattle.demands.proofs.Shared.{Shared, shared_start, step_shared}
use Rattle.demands.proofs.Sources.{Sourced, step_sourced}
use Rattle.demands.proofs.Standing.{StateOk}
use Rattle.demands.proofs.Steps.{step_ok}

-- A row in range: a variable's number is below 64, and an application has at most six arguments.
abbrev pub RowFits : Row → Type 0
RowFits (variable v) = v < 64
RowFits (application s xs) = length xs ≤ 6

-- What the records read so far add up to; each adds one thing at most.
pub record Tally (F : File) (k : ℕ) (S : State) : Type 0 where
  pub total : length S.symbols + (length S.rows + length S.clauses) ≤ k
  pub arities_read : Each (λ (s : ℕ × ℕ). count_of (record_part F s.0) ≡ s.1) S.symbols
  pub rows_fit : Each RowFits (rows_of S)

pub record Standing (F : File) (k : ℕ) (S : State) : Type 0 where
  pub before : read empty_state 0 (take k (records F)) ≡ all_stand S
  pub ok : StateOk k S
  pub sourced : Sourced (derivations S)
  pub shared : Shared S
  pub tally : Tally F k S

pub standing_start : (F : File) → Standing F 0 empty_state
standing_start F = record { before = refl; ok = start_ok; sourced = tt; shared = shared_start; tally = record { total = omega arith; arities_read = tt; rows_fit = tt } }

pub take_next : (k : ℕ) (rs : List Record) (r : Record) (rest : List Record) → drop k rs ≡ r ∷ rest → take (suc k) rs ≡ take k rs ++ (r ∷ [])
take_next zero [] r rest q = absurd (let z : ◌≡◌ {A = ℕ} 0 1 = cc in omega arith)
take_next zero (x ∷ rs) r rest q = let e : x ≡ r = cc in ap (λ (y : Record). y ∷ []) e
take_next (suc k) [] r rest q = absurd (let z : ◌≡◌ {A = ℕ} 0 1 = cc in omega arith)
take_next (suc k) (x ∷ rs) r rest q = ap (λ (l : List Record). x ∷ l) (take_next k rs r rest q)

module _ (F : File) (k : ℕ) (S : State) (H : Standing F k S) (l : k < record_count F) where
  abbrev rec : Record
  rec = record_at F k

  next : drop k (records F) ≡ rec ∷ drop (suc k) (records F)
  next = record_numbered F k l

  taken : length (take k (records F)) ≡ k
  taken = let n = records_length F in simp length-take (omega arith)

  seven : length rec.fields ≡ 7
  seven = decoded_seven F.form (record_part F k)

  pub read_one : (ys : List Record) → read empty_state 0 (take k (records F) ++ ys) ≡ read S k ys
  read_one ys = read_on_lem empty_state 0 (take k (records F)) ys S H.before ∙ ap (λ (i : ℕ). read S i ys) (zero-add (length (take k (records F))) ∙ taken)

  module _ (T : State) (q : step S k (record_at F k) ≡ stands T) where
    before_next : read empty_state 0 (take (suc k) (records F)) ≡ all_stand T
    before_next = ap (read empty_state 0) (take_next k (records F) rec (drop (suc k) (records F)) next) ∙ read_one (rec ∷ [])
        ∙ ap (λ (o : Result). elim o [ stands U ↦ read U (suc k) [] | refused p ↦ refused_at S p k ]) q

    abbrev G : Tally F k S
    G = H.tally

    -- One entry more: a clause, a row, a symbol.
    clause_more : (c : Derivation) → with_clause S k c ≡ T → Tally F (suc k) T
    clause_more c e = subst (Tally F (suc k)) e (record { total = let t = G.total in omega arith; arities_read = G.arities_read; rows_fit = G.rows_fit })

    row_more : (j : ℕ) (w : Row) → RowFits w → with_row S j w ≡ T → Tally F (suc k) T
    row_more j w f e = subst (Tally F (suc k)) e (record { total = let t = G.total in omega arith; arities_read = G.arities_read; rows_fit = (f, G.rows_fit) })

    few_arguments : rec.count ≤ 6 → length (map (earliest_of S) (argument_rows rec)) ≤ 6
    few_arguments h = simp (length-map, length-take) (omega arith)

    resolvent_more : (kind : Kind) → enter_resolvent S k kind rec ≡ stands T → Tally F (suc k) T
    resolvent_more kind z =
        let s = named_stands _ (left_of S rec) (right_of S kind rec) T z in
        let c = clause_added S k (resolve (next_clause S) s.0.0 (field_b rec) s.1.0 (right_numbers kind rec)) (unify_resolve S s.0 s.1) T s.4 in
        clause_more (resolve (next_clause S) s.0.0 (field_b rec) s.1.0 (right_numbers kind rec) c.0) c.3

    one_more : (kind : Kind) → Passed S kind rec → enter S k kind rec ≡ stands T → Tally F (suc k) T
    one_more symbolKind a z = subst (Tally F (suc k)) (stands_same z) (record { total = let t = G.total in omega arith; arities_read = (sym (decoded_count F.form (record_part F k)), G.arities_read); rows_fit = G.rows_fit })
    one_more variableKind a z =
        let c = both_true (eqb rec.count 0 && leb (field_a rec) 63) (zeros (drop 1 rec.fields)) (fields_of_lem rec variableKind a) in
        let d = both_true (eqb rec.count 0) (leb (field_a rec) 63) c.0 in
        let l : field_a rec ≤ 63 = leb→le (field_a rec) 63 (to_t (leb (field_a rec) 63) d.1) in
        row_more (record_of_row S k (variable (field_a rec))) (variable (field_a rec)) (omega arith) (stands_same z)
    one_more applicationKind a z =
        let c = both_true (leb rec.count 6) (zeros (drop (1 + rec.count) rec.fields)) (fields_of_lem rec applicationKind a.ranged) in
        row_more (record_of_row S k (new_application S rec)) (new_application S rec) (few_arguments (leb→le rec.count 6 (to_t (leb rec.count 6) c.0))) (stands_same z)
    one_more inputKind a z = subst (Tally F (suc k)) (stands_same z) (record { total = let t = G.total in omega arith; arities_read = G.arities_read; rows_fit = G.rows_fit })
    one_more resolveKind a z = resolvent_more resolveKind z
    one_more severalKind a z = resolvent_more severalKind z
    one_more factorKind a z =
        let s = named_stands _ (left_of S rec) (deleted_of S rec) T z in
        let c = clause_added S k (factor (next_clause S) s.0.0 (field_b rec) (field_c rec)) (unify_factor S s.0 s.1) T s.4 in
        clause_more (factor (next_clause S) s.0.0 (field_b rec) (field_c rec) c.0) c.3
    one_more windowKind a z = subst (Tally F (suc k)) (stands_same z) (record { total = let t = G.total in omega arith; arities_read = G.arities_read; rows_fit = G.rows_fit })
    one_more otherKind a z = absurd a

    pub advance : Standing F (suc k) T
    advance =
        let a = step_stands S k rec T q in
        let o = one_more (kind_of_record rec) (tests_passed S (kind_of_record rec) rec a.0) a.1 in
        record { before = before_next; ok = step_ok k S H.ok k rec T seven q; sourced = step_sourced S k rec T seven q H.sourced; shared = step_shared S k rec T H.shared q; tally = o }

  pub refused_there : (p : Reason) → step S k (record_at F k) ≡ refused p → ending F ≡ refused_at S p k
  unfolding ending
  refused_there p q =
      ap (read empty_state 0) (sym (take-append-drop k (records F)) ∙ ap (λ (l : List Record). take k (records F) ++ l) next)
      ∙ read_one (rec ∷ drop (suc k) (records F))
      ∙ ap (λ (o : Result). elim o [ stands U ↦ read U (suc k) (drop (suc k) (records F)) | refused p ↦ refused_at S p k ]) q

pub all_read : (F : File) (S : State) → Standing F (record_count F) S → ending F ≡ all_stand S
unfolding ending
all_read F S H =
    let n = records_length F in
    let e : take (record_count F) (records F) ≡ records F = rw (← n) (take-length (records F)) in
    ap (read empty_state 0) (sym e) ∙ H.before
