-- What is promised of a board holds.
use mathlib.Core.Path.{◌≡◌, refl, sym, ap, ◌∙◌, subst}
use mathlib.Core.Bool.{Bool, true, false, ◌&&◌}
use mathlib.Core.Option.{Option, none, some}
use mathlib.Core.List.{List, [], ◌∷◌, ◌++◌}
use Prim.Native.Nat.{ℕ, ◌+◌, ◌*◌, ◌≤◌}
use native.Mathlib.Omega.{arith}
use lib.Dec.{ltb}
use lib.ListN.{length, get_or, length-map}
use borrow.Author.Tests.{le-ltb}
use Rattle.record.specs.Record.{pick, File, records}
use Rattle.record.proofs.Records.{records_shaped}
use Rattle.unification.proofs.Lists.{Each}
use Rattle.unification.proofs.Tests.{both_true}
use Rattle.derivation.specs.Derivation.{Derivation, Use, uses, literals}
use Rattle.demands.specs.Conditions.{OneOf, TableShort}
use Rattle.demands.specs.Demands.{TablesHold, UsesInForce, InputsOf, Refutation}
use Rattle.verdict.specs.Force.{uses_in_force}
use Rattle.verdict.specs.Refusal.{is_input}
use Rattle.verdict.specs.State.{State, empty_state, entry, derivations, clause_of}
use Rattle.verdict.specs.Step.{Ending, state_of}
use Rattle.verdict.specs.Tables.{Tables, tables_after, lengths_of}
use Rattle.verdict.specs.Verdict.{Verdict, check, ending, first_empty, long_enough, standing, state_given, Stands}
use Rattle.verdict.specs.Verdict as verdict
use Rattle.demands.proofs.Acceptance.{first_lowest}
use Rattle.demands.proofs.Demanded.{demand1, long_enough_lem, refutation_of, stands_check}
use Rattle.demands.proofs.InForceShown.{uses_in_force_lem, of_uses_in_force}
use Rattle.verdict.proofs.Endings.{reading_records}
use Rattle.demands.proofs.Reading.{few_records, stands_ok}
use Rattle.demands.proofs.Standing.{inputs_of}
use Rattle.demands.proofs.TableCells.{size_of, read_size}
use Rattle.boards.specs.Board.{Presence, all_present, changed, stands_with, answer_afresh, Answer, answered, refused_with, Call, after_call, after_calls}
use Rattle.boards.specs.Cells.{board_of, call_answer}
use Rattle.boards.specs.Opening.{state_left, unless_refused, board_unless_refused, opening_answer, board_opened}
use Rattle.boards.specs.Promised.{UsesPresent, UsesClause, board_after_calls, BoardPromised}
use Rattle.boards.proofs.Calls.{all_uses, unused_same, changed_other, present_all, all_present_lem, cell_same, boards_called, call_answered, same_inputs}
use Rattle.boards.proofs.Parents.{Kept, stands_kept}

module _ (day : ℕ) (file : File) (tables : Tables) (board : List ℕ) (S : State) (st : Stands file S) (tables_long : ¬ TableShort tables) (long : 4097 ≤ length board) where
  abbrev C : List ℕ
  C = (tables_after file tables).clauses

  -- The lowest standing empty clause in force, with demand 3.
  refuted_by : (P : Presence) (n : ℕ) → answer_afresh day S P ≡ some n → Refutation (λ c. UsesInForce file day c × UsesPresent P c) file tables S n
  refuted_by P n e =
      let L = first_lowest (λ d. uses_in_force S day d && stands_with P d) (derivations S) n e in
      let z = both_true (uses_in_force S day L.clause) (stands_with P L.clause) L.passes in
      refutation_of day file tables (λ c. UsesInForce file day c × UsesPresent P c) S st (long_enough_lem file tables tables_long) n (record {
        clause = L.clause;
        is_clause = L.is_clause;
        admitted = (uses_in_force_lem file S st day L.clause z.0, present_all P (uses L.clause) z.1);
        empty = L.empty;
        lowest = λ i c l q a. L.lowest i c l q (both (uses_in_force S day c) (stands_with P c) (of_uses_in_force file S st day c a.0) (all_present_lem P (uses c) a.1));
      })
    where
      both : (a b : Bool) → a ≡ true → b ≡ true → (a && b) ≡ true
      both a b p q = λ i. p i && q i

  -- What the calls rest on: the clauses, their records and their literal counts are in the table.
  few : length (derivations S) ≤ 4096
  unfolding ending
  few =
      let z = subst (λ (e : Ending). size_of (state_of e) ≤ size_of empty_state + length (records file)) st.reads (read_size empty_state 0 (records file) (records_shaped file)) in
      let l = few_records file st.fits in
      let m = length-map S.clauses (λ (x : ℕ × Derivation). x.1) in
      omega arith

  held : TablesHold S tables (tables_after file tables)
  held = ((demand1 day file tables).tables_of_standing S st tables_long).tables_hold

  record_cells : (n k : ℕ) (c : Derivation) → entry S.clauses n ≡ some (k, c) → get_or (tables_after file tables).clauses (5 * n) 0 ≡ k
  record_cells n k c q = (held.each_clause n k c q).record_cell

  literal_cells : (n k : ℕ) (c : Derivation) → entry S.clauses n ≡ some (k, c) → get_or (tables_after file tables).clauses (5 * n + 1) 0 ≡ length (literals c)
  literal_cells n k c q = (held.each_clause n k c q).literal_count

  -- Every use is an input clause.
  input_uses : (us : List Use) → InputsOf (derivations S) us → Each (λ (u : Use). is_input (clause_of S u.0) ≡ true) us
  input_uses [] h = tt
  input_uses (u ∷ us) h = (ap is_input h.0, input_uses us h.1)

  uses_inputs : (m : ℕ) (c : Derivation) → clause_of S m ≡ some c → Each (λ (u : Use). is_input (clause_of S u.0) ≡ true) (uses c)
  uses_inputs m c q = input_uses (uses c) (inputs_of 4096 S (stands_ok file S st) m c q)

  H : Kept file S
  H = stands_kept file S st

  -- ── The opening ──
  tables_long_lem : long_enough (lengths_of tables) ≡ true
  tables_long_lem = long_enough_lem file tables tables_long

  state_left_lem : state_left file tables ≡ S
  state_left_lem = ap state_given (reading_records file (lengths_of tables) st.fits tables_long_lem) ∙ ap state_of st.reads

  verdict_is : (check day file (lengths_of tables)).verdict ≡ standing (first_empty (uses_in_force S day) (derivations S))
  verdict_is = ap (λ (a : verdict.Answer). a.verdict) (stands_check day file tables S st tables_long_lem)

  answer_stands : (o : Option ℕ) (next : Answer) → unless_refused (standing o) next ≡ next
  answer_stands none next = refl
  answer_stands (some n) next = refl

  board_stands : (o : Option ℕ) (before next : List ℕ) → board_unless_refused (standing o) before next ≡ next
  board_stands none before next = refl
  board_stands (some n) before next = refl

  is_long : ltb (length board) 4097 ≡ false
  is_long = le-ltb (length board) 4097 long

  opened_so : board_opened day file tables board ≡ board_of day S all_present board
  unfolding board_opened
  opened_so =
      ap (λ (b : Bool). elim b [ true ↦ board | false ↦ board_unless_refused (check day file (lengths_of tables)).verdict board (board_of day (state_left file tables) all_present board) ]) is_long
      ∙ ap (λ (v : Verdict). board_unless_refused v board (board_of day (state_left file tables) all_present board)) verdict_is
      ∙ board_stands (first_empty (uses_in_force S day) (derivations S)) board (board_of day (state_left file tables) all_present board)
      ∙ ap (λ (X : State). board_of day X all_present board) state_left_lem

  first_so : opening_answer day file tables (length board) ≡ answered (answer_afresh day S all_present)
  unfolding opening_answer
  first_so =
      ap (λ (b : Bool). elim b [ true ↦ refused_with 2 0 | false ↦ unless_refused (check day file (lengths_of tables)).verdict (answered (answer_afresh day (state_left file tables) all_present)) ]) is_long
      ∙ ap (λ (v : Verdict). unless_refused v (answered (answer_afresh day (state_left file tables) all_present))) verdict_is
      ∙ answer_stands (first_empty (uses_in_force S day) (derivations S)) (answered (answer_afresh day (state_left file tables) all_present))
      ∙ ap (λ (X : State). answered (answer_afresh day X all_present)) state_left_lem

  -- After calls.
  after_calls_lem : (calls : List Call) → board_after_calls file C (board_opened day file tables board) calls ≡ board_of day S (after_calls S all_present calls) board
  after_calls_lem calls = ap (λ (B : List ℕ). board_after_calls file C B calls) opened_so ∙ boards_called day S board few long file C H record_cells literal_cells all_present calls

  -- One call more.
  last_call : (P : Presence) (calls : List Call) (call : Call) → after_calls S P (calls ++ (call ∷ [])) ≡ after_call S (after_calls S P calls) call
  last_call P [] call = refl
  last_call P (first ∷ calls) call = last_call (after_call S P first) calls call

  others_same : (calls : List Call) (call : Call) (m : ℕ) (c : Derivation) → clause_of S m ≡ some c → ¬ UsesClause c call.clause
      → (stands_with (after_calls S all_present (calls ++ (call ∷ []))) c ≡ stands_with (after_calls S all_present calls) c)
      × (get_or (board_after_calls file C (board_opened day file tables board) (calls ++ (call ∷ []))) m 0 ≡ get_or (board_after_calls file C (board_opened day file tables board) calls) m 0)
  others_same calls call m c q h = (
    unused_same (after_calls S all_present (calls ++ (call ∷ []))) (after_calls S all_present calls) (uses c) same,
    ap (λ (B : List ℕ). get_or B m 0) (after_calls_lem (calls ++ (call ∷ []))) ∙ cell_same day S board few long file C H record_cells literal_cells (after_calls S all_present (calls ++ (call ∷ []))) (after_calls S all_present calls) m c q same ∙ ap (λ (B : List ℕ). get_or B m 0) (sym (after_calls_lem calls)),
  )
    where
      by : (u : Use) → OneOf u (uses c) → (b : Bool) → pick b (changed (after_calls S all_present calls) call.clause call.present) (after_calls S all_present calls) u.0 ≡ after_calls S all_present calls u.0
      by u o true = changed_other (after_calls S all_present calls) call.clause call.present u.0 (λ e. h (u, o, e))
      by u o false = refl

      same : Each (λ (u : Use). after_calls S all_present (calls ++ (call ∷ [])) u.0 ≡ after_calls S all_present calls u.0) (uses c)
      same = all_uses (λ (u : Use). after_calls S all_present (calls ++ (call ∷ [])) u.0 ≡ after_calls S all_present calls u.0) (uses c)
          (λ u o. ap (λ (P : Presence). P u.0) (last_call all_present calls call) ∙ by u o (is_input (clause_of S call.clause)))

  pub board_promised : BoardPromised day file tables board S
  board_promised = record {
    opened = opened_so;
    first = first_so;
    cells = after_calls_lem;
    same_board = λ calls others h.
        after_calls_lem calls
        ∙ same_inputs day S board few long file C H record_cells literal_cells (after_calls S all_present calls) (after_calls S all_present others) h uses_inputs
        ∙ sym (after_calls_lem others);
    answers = λ calls call.
        ap (λ (B : List ℕ). call_answer file C B call.clause call.present) (after_calls_lem calls)
        ∙ call_answered day S board few long file C H record_cells literal_cells (after_calls S all_present calls) call;
    other_clauses = others_same;
    refuted = refuted_by;
  }
