-- A kept record that declares a symbol, a row or an input clause, or dates one, stands beside the kept records before it.
use mathlib.Core.Path.{◌≡◌, refl, sym, ap, ap₂, ◌∙◌, subst}
use mathlib.Core.Bool.{true, ◌&&◌}
use mathlib.Core.Option.{none, some}
use mathlib.Core.List.{List, [], ◌∷◌, map}
use Prim.Native.Nat.{ℕ, ◌+◌, ◌≤◌, ◌<◌}
use lib.Dec.{eqb, leb, ltb, eqb_refl, leb→le, lt→ltb}
use lib.ListN.{length, drop}
use Rattle.record.specs.Record.{Record, Kind, symbolKind, variableKind, applicationKind, inputKind, field_a}
use Rattle.unification.specs.Row.{variable, Row, application}
use Rattle.unification.proofs.Lists.{Each}
use Rattle.unification.proofs.Repeats.{earliest_equal_lem}
use Rattle.unification.proofs.Rows.{Below}
use Rattle.unification.proofs.Tests.{to_t, from_t, both_true}
use Rattle.derivation.specs.Derivation.{input, RowLiteral, input_literals}
use Rattle.renumbering.proofs.Inside.{InsideLiteral}
use Rattle.renumbering.specs.Renumbering.{Renumbering, renumbered_row_literal}
use Rattle.renumbering.proofs.Renumbered.{renumbered_row, renumbered_derivation}
use Rattle.verdict.specs.Refusal.{tests, outline_tests, zeros, is_application, all_applications, has_arity, all_below, argument_rows}
use Rattle.verdict.specs.State.{State, with_symbol, with_row, with_clause, with_days_beside, entry, arities, arity_of, rows_of, row_of, clause_of, next_clause, earliest_of, record_of_row}
use Rattle.verdict.specs.Step.{stands, Result, require_all, new_application, new_literals, enter}
use Rattle.demands.proofs.Inversions.{AllPass, all_stand_lem, all_passed, stands_same, has_arity_lem, all_below_lem, rows_below, PassedApplication, PassedInput}
use Rattle.demands.proofs.RangeTests.{fields_of_lem}
use Rattle.demands.proofs.Shared.{Shared}
use Rattle.trimming.specs.Kept.{Kept}
use Rattle.trimming.specs.Trimming.{kept_below, closed_up, dated_in}
use Rattle.trimmed.proofs.Additions.{symbol_kept, row_kept, clause_kept_lem}
use Rattle.trimmed.proofs.Closed.{KeptClosed}
use Rattle.trimmed.proofs.ClosedFields.{closed_as, arguments_closed, application_range, literals_closed, input_range}
use Rattle.trimmed.proofs.Grown.{Grown}
use Rattle.trimmed.proofs.Keeping.{keeping_entry}
use Rattle.trimmed.proofs.Related.{RowKept, Trims, renumbers, row_within, named_number, named_kept, earliest_renumbered, next_number}

-- A record of a kind, on a state.
abbrev pub step_of : State → ℕ → Kind → Record → Result
step_of S k kind r = require_all (tests S kind r) (require_all (outline_tests S kind r) (enter S k kind r))

pub all_tests : (S : State) (k : ℕ) (kind : Kind) (r : Record) (T : State) → AllPass (tests S kind r) → AllPass (outline_tests S kind r) → enter S k kind r ≡ stands T → step_of S k kind r ≡ stands T
all_tests S k kind r T a b q = all_passed (tests S kind r) (require_all (outline_tests S kind r) (enter S k kind r)) a ∙ all_passed (outline_tests S kind r) (enter S k kind r) b ∙ q

pub tests_of_lem : (S : State) (k : ℕ) (kind : Kind) (r : Record) (T : State) → step_of S k kind r ≡ stands T → AllPass (tests S kind r) × AllPass (outline_tests S kind r) × (enter S k kind r ≡ stands T)
tests_of_lem S k kind r T q =
    let a = all_stand_lem (tests S kind r) (require_all (outline_tests S kind r) (enter S k kind r)) T q in
    let b = all_stand_lem (outline_tests S kind r) (enter S k kind r) T a.1 in
    (a.0, b.0, b.1)

-- Laws of lists.
below_all : (n : ℕ) (xs : List ℕ) → Each (λ x. x < n) xs → all_below n xs ≡ true
below_all n [] h = refl
below_all n (x ∷ xs) h = ap₂ ◌&&◌ (from_t (ltb x n) (lt→ltb x n h.0)) (below_all n xs h.1)

each_of_map : (f : ℕ → ℕ) (P : ℕ → Type 0) (xs : List ℕ) → Each P (map f xs) → Each (λ x. P (f x)) xs
each_of_map f P [] h = tt
each_of_map f P (x ∷ xs) h = (h.0, each_of_map f P xs h.1)

module _ {S : State} {K : Kept} (C : KeptClosed S K) {A B : State} {r : Record} {rs : List Record} (G : Grown A S) (H : Shared A) (R : Trims S K A B (r ∷ rs)) (seven : length r.fields ≡ 7) (k j : ℕ) where
  abbrev N : Renumbering
  N = closed_up S K

  -- The record, closed up, stands on the state of the kept records.
  pub record Follows (kind : Kind) (A' : State) : Type 0 where
    pub next : State
    pub steps : step_of B j kind (closed_as N kind r) ≡ stands next
    pub trims : Trims S K A' next rs

  module _ (same : (n : ℕ) → dated_in (r ∷ rs) n ≡ dated_in rs n) where
    pub symbol_follows : (A' : State) → step_of A k symbolKind r ≡ stands A' → K.symbol (length (arities A)) ≡ true → Follows symbolKind A'
    symbol_follows A' q h =
        let t = tests_of_lem A k symbolKind r A' q in
        record {
          next = with_symbol B j r.count;
          steps = all_tests B j symbolKind (closed_as N symbolKind r) (with_symbol B j r.count) t.0 tt refl;
          trims = subst (λ (X : State). Trims S K X (with_symbol B j r.count) rs) (stands_same t.2) (symbol_kept R same k j r.count h);
        }

    pub variable_follows : (A' : State) → step_of A k variableKind r ≡ stands A' → K.row (length (rows_of A)) ≡ true → Follows variableKind A'
    variable_follows A' q h =
        let t = tests_of_lem A k variableKind r A' q in
        let m = record_of_row B j (variable (field_a r)) in
        record {
          next = with_row B m (variable (field_a r));
          steps = all_tests B j variableKind (closed_as N variableKind r) (with_row B m (variable (field_a r))) t.0 tt refl;
          trims = subst (λ (X : State). Trims S K X (with_row B m (variable (field_a r))) rs) (stands_same t.2) (row_kept R same (record_of_row A k (variable (field_a r))) m (variable (field_a r)) h);
        }

    -- ── Applications ──
    module _ (h : K.row (length (rows_of A)) ≡ true) (p : PassedApplication A r) (there : row_of S (length (rows_of A)) ≡ new_application A r) where
      abbrev r' : Record
      r' = closed_as N applicationKind r

      few : r.count ≤ 6
      few = leb→le r.count 6 (to_t (leb r.count 6) (both_true (leb r.count 6) (zeros (drop (1 + r.count) r.fields)) (fields_of_lem r applicationKind p.ranged)).0)

      arity : arity_of A (field_a r) ≡ some r.count
      arity = has_arity_lem r.count (arity_of A (field_a r)) (both_true (has_arity r.count (arity_of A (field_a r))) (all_below (length (rows_of A)) (argument_rows r)) p.there).0

      arguments_below : Below (length (rows_of A)) (argument_rows r)
      arguments_below = all_below_lem (length (rows_of A)) (argument_rows r) (both_true (has_arity r.count (arity_of A (field_a r))) (all_below (length (rows_of A)) (argument_rows r)) p.there).1

      arguments_kept : Each (λ a. K.row (earliest_of A a) ≡ true) (argument_rows r)
      arguments_kept = each_of_map (earliest_of A) (λ a. K.row a ≡ true) (argument_rows r) (C.arguments (length (rows_of A)) (field_a r) (map (earliest_of A) (argument_rows r)) h there)

      arity_there : arity_of B (N.symbol (field_a r)) ≡ some r.count
      arity_there =
          ap (λ (xs : List ℕ). entry xs (kept_below K.symbol (field_a r))) R.symbols
          ∙ keeping_entry K.symbol (λ (x : ℕ). x) (arities A) (field_a r) r.count (C.symbols (length (rows_of A)) (field_a r) (map (earliest_of A) (argument_rows r)) h there) arity

      rows_within : (xs : List ℕ) → Below (length (rows_of A)) xs → Each (λ a. K.row (earliest_of A a) ≡ true) xs → Each (λ x. x < length (rows_of B)) (map N.row xs)
      rows_within [] l i = tt
      rows_within (x ∷ xs) l i =
          (subst (λ (m : ℕ). m < length (rows_of B)) (sym (named_number C G H R x l.0 i.0)) (row_within C G H R (earliest_of A x) (named_kept C G H R x l.0 i.0)), rows_within xs l.1 i.1)

      rows_renumbered : (xs : List ℕ) → Below (length (rows_of A)) xs → Each (λ a. K.row (earliest_of A a) ≡ true) xs → map (earliest_of B) (map N.row xs) ≡ map N.row (map (earliest_of A) xs)
      rows_renumbered [] l i = refl
      rows_renumbered (x ∷ xs) l i = ap₂ (λ (n : ℕ) (ns : List ℕ). n ∷ ns) (earliest_renumbered C G H R x l.0 i.0) (rows_renumbered xs l.1 i.1)

      tested : AllPass (tests B applicationKind r')
      tested = (
        application_range N r seven few ∙ p.ranged,
        (
          ap₂ ◌&&◌ (ap (has_arity r.count) arity_there ∙ from_t (eqb r.count r.count) (eqb_refl r.count))
              (ap (all_below (length (rows_of B))) (arguments_closed N r seven few) ∙ below_all (length (rows_of B)) (map N.row (argument_rows r)) (rows_within (argument_rows r) arguments_below arguments_kept)),
          tt,
        ),
      )

      pub application_follows : (A' : State) → with_row A (record_of_row A k (new_application A r)) (new_application A r) ≡ A' → Follows applicationKind A'
      application_follows A' q =
          let w = renumbered_row N (new_application A r) in
          let e : new_application B r' ≡ w =
          ap (λ (xs : List ℕ). application (N.symbol (field_a r)) (map (earliest_of B) xs)) (arguments_closed N r seven few) ∙ ap (application (N.symbol (field_a r))) (rows_renumbered (argument_rows r) arguments_below arguments_kept)
          in
          let m = record_of_row B j w in
          record {
            next = with_row B m w;
            steps = all_tests B j applicationKind r' (with_row B m w) tested tt (ap (λ (u : Row). stands (with_row B (record_of_row B j u) u)) e);
            trims = subst (λ (X : State). Trims S K X (with_row B m w) rs) q (row_kept R same (record_of_row A k (new_application A r)) m (new_application A r) h);
          }

    -- ── Input clauses ──
    module _ (h : K.clause (next_clause A) ≡ true) (p : PassedInput A r) (none_beside : r.days ≡ none) (there : clause_of S (next_clause A) ≡ some (input (next_clause A) (new_literals A r))) where
      abbrev i' : Record
      i' = closed_as N inputKind r

      few_literals : r.count ≤ 7
      few_literals = leb→le r.count 7 (to_t (leb r.count 7) (both_true (leb r.count 7) (zeros (drop r.count r.fields)) (fields_of_lem r inputKind p.ranged)).0)

      abbrev LiteralKept : RowLiteral → Type 0
      LiteralKept l = K.row (earliest_of A l.1) ≡ true

      abbrev LiteralThere : RowLiteral → Type 0
      LiteralThere l = l.1 < length (rows_of A)

      each_kept : (ls : List RowLiteral) → Each (λ (l : RowLiteral). K.row l.1 ≡ true) (map (λ (l : RowLiteral). (l.0, earliest_of A l.1)) ls) → Each LiteralKept ls
      each_kept [] x = tt
      each_kept (l ∷ ls) x = (x.0, each_kept ls x.1)

      literals_kept : Each LiteralKept (input_literals r)
      literals_kept = each_kept (input_literals r) (C.inputs (next_clause A) (next_clause A) (new_literals A r) h there)

      literals_there : Each LiteralThere (input_literals r)
      literals_there = rows_below (length (rows_of A)) (input_literals r) p.there

      all_within : (ls : List RowLiteral) → Each LiteralThere ls → Each LiteralKept ls → all_below (length (rows_of B)) (map (λ (l : RowLiteral). l.1) (map (renumbered_row_literal N) ls)) ≡ true
      all_within [] l x = refl
      all_within (m ∷ ls) l x =
          ap₂ ◌&&◌
          (from_t (ltb (N.row m.1) (length (rows_of B))) (lt→ltb (N.row m.1) (length (rows_of B))
          (subst (λ (n : ℕ). n < length (rows_of B)) (sym (named_number C G H R m.1 l.0 x.0)) (row_within C G H R (earliest_of A m.1) (named_kept C G H R m.1 l.0 x.0)))))
          (all_within ls l.1 x.1)

      same_sort : (w : Row) → is_application (renumbered_row N w) ≡ is_application w
      same_sort (variable v) = refl
      same_sort (application s xs) = refl

      all_applied : (ls : List RowLiteral) → Each LiteralThere ls → Each LiteralKept ls → all_applications (row_of B) (map (renumbered_row_literal N) ls) ≡ all_applications (row_of A) ls
      all_applied [] l x = refl
      all_applied (m ∷ ls) l x =
          ap₂ ◌&&◌
          (ap (λ (n : ℕ). is_application (row_of B n)) (named_number C G H R m.1 l.0 x.0) ∙ ap is_application ((renumbers C G H R).rows (earliest_of A m.1) (named_kept C G H R m.1 l.0 x.0))
          ∙ same_sort (row_of A (earliest_of A m.1)) ∙ ap is_application (earliest_equal_lem (rows_of A) m.1 l.0).equals)
          (all_applied ls l.1 x.1)

      literals_renumbered : (ls : List RowLiteral) → Each LiteralThere ls → Each LiteralKept ls
          → map (λ (l : RowLiteral). (l.0, earliest_of B l.1)) (map (renumbered_row_literal N) ls) ≡ map (renumbered_row_literal N) (map (λ (l : RowLiteral). (l.0, earliest_of A l.1)) ls)
      literals_renumbered [] l x = refl
      literals_renumbered (m ∷ ls) l x = ap₂ (λ (n : ℕ) (ns : List RowLiteral). (m.0, n) ∷ ns) (earliest_renumbered C G H R m.1 l.0 x.0) (literals_renumbered ls l.1 x.1)

      each_inside : (ls : List RowLiteral) → Each LiteralThere ls → Each LiteralKept ls → Each (InsideLiteral (RowKept S K A)) (map (λ (l : RowLiteral). (l.0, earliest_of A l.1)) ls)
      each_inside [] l x = tt
      each_inside (m ∷ ls) l x = (named_kept C G H R m.1 l.0 x.0, each_inside ls l.1 x.1)

      input_tested : AllPass (tests B inputKind i')
      input_tested = (
        input_range N r seven few_literals ∙ p.ranged,
        (
          ap (λ (ls : List RowLiteral). all_below (length (rows_of B)) (map (λ (l : RowLiteral). l.1) ls)) (literals_closed N r seven few_literals) ∙ all_within (input_literals r) literals_there literals_kept,
          (p.days, (ap (all_applications (row_of B)) (literals_closed N r seven few_literals) ∙ all_applied (input_literals r) literals_there literals_kept ∙ p.applications, tt)),
        ),
      )

      pub input_follows : (A' : State) → with_days_beside (with_clause A k (input (next_clause A) (new_literals A r))) (next_clause A) r.days ≡ A' → Follows inputKind A'
      input_follows A' q =
          let c = input (next_clause A) (new_literals A r) in
          let e : input (next_clause B) (new_literals B i') ≡ renumbered_derivation N c =
          ap₂ input (next_number C G H R) (ap (map (λ (l : RowLiteral). (l.0, earliest_of B l.1))) (literals_closed N r seven few_literals) ∙ literals_renumbered (input_literals r) literals_there literals_kept)
          in
          let undated : (X : State) (n : ℕ) → with_days_beside X n r.days ≡ X = λ X n. ap (with_days_beside X n) none_beside in
          let T = with_clause B j (renumbered_derivation N c) in
          record {
            next = T;
            steps = all_tests B j inputKind i' T input_tested tt (ap stands (undated (with_clause B j (input (next_clause B) (new_literals B i'))) (next_clause B) ∙ ap (with_clause B j) e));
            trims = subst (λ (X : State). Trims S K X T rs) (sym (undated (with_clause A k c) (next_clause A)) ∙ q) (clause_kept_lem R same k j c h (each_inside (input_literals r) literals_there literals_kept));
          }
