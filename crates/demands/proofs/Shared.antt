-- Nothing sees a repeated row: the arguments of every row, and the rows of every clause, are earliest rows.
use mathlib.Core.Path.{◌≡◌, refl, subst}
use mathlib.Core.Bool.{Bool, true, false}
use mathlib.Core.Option.{some}
use mathlib.Core.List.{List, [], ◌∷◌, map}
use Prim.Native.Nat.{ℕ, ◌<◌}
use native.Mathlib.Omega.{arith}
use lib.Dec.{eqb}
use lib.ListN.{length}
use Rattle.record.specs.Record.{pick, Record, otherKind, Kind, symbolKind, variableKind, applicationKind, inputKind, resolveKind, factorKind, severalKind, windowKind, field_a, field_b, field_c}
use Rattle.unification.specs.Repeated.{IsEarliest}
use Rattle.unification.specs.Row.{variable, Row, application, row_at}
use Rattle.unification.proofs.Lists.{Each, each_more}
use Rattle.unification.proofs.Repeats.{earliest_more, earliest_equal_lem, all_earliest}
use Rattle.unification.proofs.Tests.{both_true}
use Rattle.derivation.specs.Derivation.{input, RowLiteral, input_literals, Derivation, resolve, factor}
use Rattle.derivation.proofs.Known.{KnownRows, known_more}
use Rattle.verdict.specs.Refusal.{kind_of_record, argument_rows, has_arity, all_below, left_of, right_numbers, right_of, deleted_of}
use Rattle.verdict.specs.State.{State, empty_state, with_row, with_clause, rows_of, derivations, clause_of, arity_of, earliest_of, record_of_row, next_clause}
use Rattle.verdict.specs.Step.{stands, step, unify_resolve, unify_factor, new_application, new_literals, enter_resolvent, enter}
use Rattle.demands.proofs.Inversions.{tests_passed, stands_same, step_stands, named_stands, literal_named_lem, literals_named, all_below_lem, rows_below, not_equal, entry_each, clause_added, Passed}

-- The arguments of a row after the rows ws.
abbrev pub ArgumentsEarliest : List Row → Row → Type 0
ArgumentsEarliest ws (variable v) = Unit {0}
ArgumentsEarliest ws (application s xs) = Each (IsEarliest ws) xs

abbrev pub SharedRows : List Row → Type 0
SharedRows [] = Unit {0}
SharedRows (w ∷ ws) = ArgumentsEarliest ws w × SharedRows ws

pub record Shared (S : State) : Type 0 where
  pub rows_shared : SharedRows (rows_of S)
  pub clauses_shared : Each (KnownRows (IsEarliest (rows_of S))) (derivations S)

pub shared_start : Shared empty_state
shared_start = record { rows_shared = tt; clauses_shared = tt }

arguments_more : (w : Row) (ws : List Row) (u : Row) → ArgumentsEarliest ws u → ArgumentsEarliest (w ∷ ws) u
arguments_more w ws (variable v) h = tt
arguments_more w ws (application s xs) h = each_more (IsEarliest ws) (IsEarliest (w ∷ ws)) (λ r E. earliest_more w ws r E) xs h

pub arguments_at : (ws : List Row) → SharedRows ws → (r : ℕ) → r < length ws → ArgumentsEarliest ws (row_at ws r)
arguments_at [] h r l = absurd (omega arith)
arguments_at (w ∷ ws) h r l = try (eqb r (length ws)) refl (λ m. arguments_at ws h.1 r m)
  where
    try : (b : Bool) → eqb r (length ws) ≡ b → (r < length ws → ArgumentsEarliest ws (row_at ws r)) → ArgumentsEarliest (w ∷ ws) (pick b w (row_at ws r))
    try true q ih = arguments_more w ws w h.0
    try false q ih = let n : ¬ (r ≡ length ws) = not_equal r (length ws) (rw q) in arguments_more w ws (row_at ws r) (ih (omega arith))

pub shared_arguments : (ws : List Row) → SharedRows ws → (r s : ℕ) (xs : List ℕ) → row_at ws r ≡ application s xs → r < length ws → Each (IsEarliest ws) xs
shared_arguments ws h r s xs q l = rw q at (arguments_at ws h r l)

module _ (S : State) (k : ℕ) (r : Record) (T : State) (H : Shared S) where
  abbrev ws : List Row
  ws = rows_of S

  row_shared : (j : ℕ) (w : Row) → ArgumentsEarliest (rows_of S) w → Shared (with_row S j w)
  row_shared j w a = record {
    rows_shared = (a, H.rows_shared);
    clauses_shared = each_more (KnownRows (IsEarliest ws)) (KnownRows (IsEarliest (w ∷ ws))) (λ c K. known_more (IsEarliest ws) (IsEarliest (w ∷ ws)) (λ q E. earliest_more w ws q E) c K) (derivations S) H.clauses_shared;
  }

  clause_shared : (c : Derivation) → KnownRows (IsEarliest (rows_of S)) c → Shared (with_clause S k c)
  clause_shared c K = record { rows_shared = H.rows_shared; clauses_shared = (K, H.clauses_shared) }

  literals_earliest : (ls : List RowLiteral) → Each (λ (l : RowLiteral). l.1 < length (rows_of S)) ls → Each (λ (l : RowLiteral). IsEarliest (rows_of S) l.1) (map (λ (l : RowLiteral). (l.0, earliest_of S l.1)) ls)
  literals_earliest [] h = tt
  literals_earliest (l ∷ ls) h = ((earliest_equal_lem ws l.1 h.0).earliest, literals_earliest ls h.1)

  parent_shared : (c : ℕ) (d : Derivation) → clause_of S c ≡ some d → KnownRows (IsEarliest (rows_of S)) d
  parent_shared c d q = entry_each (KnownRows (IsEarliest ws)) (derivations S) H.clauses_shared c d q

  resolvent_shared : (kind : Kind) → enter_resolvent S k kind r ≡ stands T → Shared T
  resolvent_shared kind q =
      let s = named_stands _ (left_of S r) (right_of S kind r) T q in
      let c = clause_added S k (resolve (next_clause S) s.0.0 (field_b r) s.1.0 (right_numbers kind r)) (unify_resolve S s.0 s.1) T s.4 in
      subst Shared c.3 (clause_shared (resolve (next_clause S) s.0.0 (field_b r) s.1.0 (right_numbers kind r) c.0)
      (parent_shared (field_a r) s.0.0 (literal_named_lem S (field_a r) (field_b r) s.0 s.2).0, parent_shared (field_c r) s.1.0 (literals_named S (field_c r) (right_numbers kind r) s.1 s.3).0))

  entered_shared : (kind : Kind) → Passed S kind r → enter S k kind r ≡ stands T → Shared T
  entered_shared symbolKind a q = subst Shared (stands_same q) (record { rows_shared = H.rows_shared; clauses_shared = H.clauses_shared })
  entered_shared variableKind a q = subst Shared (stands_same q) (row_shared (record_of_row S k (variable (field_a r))) (variable (field_a r)) tt)
  entered_shared applicationKind a q =
      let t = both_true (has_arity r.count (arity_of S (field_a r))) (all_below (length ws) (argument_rows r)) a.there in
      subst Shared (stands_same q) (row_shared (record_of_row S k (new_application S r)) (new_application S r) (all_earliest ws (argument_rows r) (all_below_lem (length ws) (argument_rows r) t.1)))
  entered_shared inputKind a q =
      let h = clause_shared (input (next_clause S) (new_literals S r)) (literals_earliest (input_literals r) (rows_below (length ws) (input_literals r) a.there)) in
      subst Shared (stands_same q) (record { rows_shared = h.rows_shared; clauses_shared = h.clauses_shared })
  entered_shared resolveKind a q = resolvent_shared resolveKind q
  entered_shared severalKind a q = resolvent_shared severalKind q
  entered_shared factorKind a q =
      let s = named_stands _ (left_of S r) (deleted_of S r) T q in
      let c = clause_added S k (factor (next_clause S) s.0.0 (field_b r) (field_c r)) (unify_factor S s.0 s.1) T s.4 in
      subst Shared c.3 (clause_shared (factor (next_clause S) s.0.0 (field_b r) (field_c r) c.0) (parent_shared (field_a r) s.0.0 (literal_named_lem S (field_a r) (field_b r) s.0 s.2).0))
  entered_shared windowKind a q = subst Shared (stands_same q) (record { rows_shared = H.rows_shared; clauses_shared = H.clauses_shared })
  entered_shared otherKind a q = absurd a

  pub step_shared : step S k r ≡ stands T → Shared T
  step_shared q =
      let a = step_stands S k r T q in
      entered_shared (kind_of_record r) (tests_passed S (kind_of_record r) r a.0) a.1
