-- Opening a board, on each way that the program takes.
use mathlib.Core.Path.{◌≡◌, refl, sym, ap, ◌∙◌, subst}
use mathlib.Core.Bool.{Bool, true, false, ◌&&◌, and-true}
use mathlib.Core.Option.{Option, none, some}
use mathlib.Core.List.{List, [], ◌∷◌}
use Prim.Native.Nat.{ℕ, ◌*◌, ◌≤◌, ◌<◌}
use native.Mathlib.Omega.{arith}
use lib.Dec.{ltb}
use lib.ListN.{length, get_or, length-map}
use borrow.Author.Tests.{lt-ltb, le-ltb}
use Rattle.record.specs.Record.{pick, File}
use Rattle.unification.proofs.Tests.{true_not_false}
use Rattle.derivation.specs.Derivation.{Derivation, uses}
use Rattle.demands.specs.Conditions.{TableShort}
use Rattle.demands.specs.Demands.{TablesHold}
use Rattle.verdict.specs.Force.{uses_in_force}
use Rattle.verdict.specs.State.{State, entry, derivations, clause_of}
use Rattle.verdict.specs.Step.{state_of}
use Rattle.verdict.specs.Tables.{Tables, lengths_of, tables_after}
use Rattle.verdict.specs.Verdict.{Verdict, verdict_numbers, check, first_empty, long_enough, standing, state_given, Stands}
use Rattle.verdict.specs.Verdict as definition
use Rattle.demands.proofs.Demanded.{demand1, not_refused_lem, stands_check, tables_fail}
use Rattle.verdict.proofs.Endings.{reading_records}
use Rattle.answer.specs.Given.{verdict_coded, verdict_stands, all_set}
use Rattle.answer.specs.declared.Answer as answer
use Rattle.answer.specs.declared.Verdict as verdict
use Rattle.answer.specs.declared.Verdict.TheVariants as verdicts
use Rattle.answer.proofs.GivenNumbers.{verdict_given_lem, clauses_given, stands_not_refused, refused_given}
use Rattle.entry.specs.Progress.{ReadTo, tables_with}
use Rattle.force.specs.Flags.{flags_in_force}
use Rattle.file_reading.proofs.KeptFlags.{few_clauses, kept_flag}
use Rattle.checker.specs.Contract.{CheckedWith, workspace_with}
use Rattle.boards.specs.Board.{all_present, stands_with, answer_afresh, Answer, answered, refused_with, answer_numbers}
use Rattle.boards.specs.Cells.{board_of}
use Rattle.boards.specs.Opening.{state_left, unless_refused, board_unless_refused, opening_answer, board_opened, tables_opened}
use Rattle.boards.specs.Promised.{BoardPromised}
use Rattle.boards.proofs.BoardShown.{board_promised}
use Rattle.boards.proofs.Parents.{stands_kept}
use Rattle.board_cells.specs.Given.{board_given}
use Rattle.board_cells.specs.declared.lowest.BoardAnswer as board
use Rattle.board_cells.specs.declared.lowest.BoardAnswer.TheVariants as goal
use Rattle.board_opening.specs.Filling.{filled_board, Fillable}
use Rattle.board_opening.proofs.OpenedBoard.{all_stand_lem, opened_board}
use Rattle.board.specs.Contract.{BoardOpened}

-- ── Verdicts and answers ──

-- With all input clauses present the answer is the one that the check gives.
all_afresh : (day : ℕ) (S : State) → answer_afresh day S all_present ≡ first_empty (uses_in_force S day) (derivations S)
all_afresh day S = ap (λ (test : Derivation → Bool). first_empty test (derivations S)) (λ i c. same c i)
  where
    same : (c : Derivation) → (uses_in_force S day c && stands_with all_present c) ≡ uses_in_force S day c
    same c = ap (λ (b : Bool). uses_in_force S day c && b) (all_stand_lem (uses c)) ∙ and-true (uses_in_force S day c)

standing_numbers_lem : (o : Option ℕ) → verdict_numbers (standing o) ≡ answer_numbers (answered o)
standing_numbers_lem none = refl
standing_numbers_lem (some n) = refl

refused_numbers : (v : verdict.Verdict) (w : Verdict) (next : Answer) → verdict_coded v ≡ verdict_numbers w → verdict_stands v ≡ false → verdict_coded v ≡ answer_numbers (unless_refused w next)
refused_numbers verdicts.Open w next e t = absurd (true_not_false refl t)
refused_numbers (verdicts.Accepted n) w next e t = absurd (true_not_false refl t)
refused_numbers (verdicts.Refused q k) w next e t =
    let r = refused_given q k w e in
    sym (ap (λ (x : Verdict). answer_numbers (unless_refused x next)) r.1 ∙ ap (λ (n : ℕ). 2 ∷ n ∷ k ∷ []) r.2)

refused_board : (v : verdict.Verdict) (w : Verdict) (before next : List ℕ) → verdict_coded v ≡ verdict_numbers w → verdict_stands v ≡ false → before ≡ board_unless_refused w before next
refused_board verdicts.Open w before next e t = absurd (true_not_false refl t)
refused_board (verdicts.Accepted n) w before next e t = absurd (true_not_false refl t)
refused_board (verdicts.Refused q k) w before next e t = sym (ap (λ (x : Verdict). board_unless_refused x before next) (refused_given q k w e).1)

-- ── The ways ──
module _ (day : ℕ) (file : File) (before : Tables) (board₀ : List ℕ) where
  promise : (S : State) → Stands file S → ¬ TableShort before → 4097 ≤ length board₀ → BoardPromised day file before board₀ S
  promise S st t l = board_promised day file before board₀ S st t l

  -- All of it, from the answer, the tables and the board.
  whole : (a : board.BoardAnswer) (after : Tables) (board₁ : List ℕ) → board_given a ≡ answer_numbers (opening_answer day file before (length board₀)) → after ≡ tables_opened file before (length board₀) → board₁ ≡ board_opened day file before board₀
      → BoardOpened day file before board₀ a after board₁
  whole a after board₁ g t b = record {
    answer = g;
    symbols = ap (λ (x : Tables). x.symbols) t;
    rows = ap (λ (x : Tables). x.rows) t;
    clauses = ap (λ (x : Tables). x.clauses) t;
    bindings = ap (λ (x : Tables). x.bindings) t;
    board = b;
    promised = promise;
  }

  abbrev checked : Verdict
  checked = (check day file (lengths_of before)).verdict

  abbrev answer_opened : Bool → Answer
  answer_opened b = elim b [ true ↦ refused_with 2 0 | false ↦ unless_refused (check day file (lengths_of before)).verdict (answered (answer_afresh day (state_left file before) all_present)) ]

  abbrev board_left : Bool → List ℕ
  board_left b = elim b [ true ↦ board₀ | false ↦ board_unless_refused (check day file (lengths_of before)).verdict board₀ (board_of day (state_left file before) all_present board₀) ]

  answer_by : (b : Bool) → ltb (length board₀) 4097 ≡ b → opening_answer day file before (length board₀) ≡ answer_opened b
  unfolding opening_answer
  answer_by b e = ap answer_opened e

  board_by : (b : Bool) → ltb (length board₀) 4097 ≡ b → board_opened day file before board₀ ≡ board_left b
  unfolding board_opened
  board_by b e = ap board_left e

  tables_by : (b : Bool) → ltb (length board₀) 4097 ≡ b → tables_opened file before (length board₀) ≡ elim b [ true ↦ before | false ↦ tables_after file before ]
  unfolding tables_opened
  tables_by b e = ap (λ (x : Bool). elim x [ true ↦ before | false ↦ tables_after file before ]) e

  pub too_short : length board₀ < 4097 → BoardOpened day file before board₀ (goal.Refused 2 0) before board₀
  too_short l =
      let z = lt-ltb (length board₀) 4097 l in
      whole (goal.Refused 2 0) before board₀ (ap answer_numbers (sym (answer_by true z))) (sym (tables_by true z)) (sym (board_by true z))

  module _ (long : 4097 ≤ length board₀) (a : answer.Answer) (s₁ r₁ C₁ B₁ N₀ O₀ A₀ N₁ O₁ A₁ : List ℕ)
      (K : CheckedWith day file before (workspace_with N₀ O₀ A₀) a (tables_with s₁ r₁ C₁ B₁) (workspace_with N₁ O₁ A₁)) where
    long_enough_lem : ltb (length board₀) 4097 ≡ false
    long_enough_lem = le-ltb (length board₀) 4097 long

    abbrev after : Tables
    after = tables_with s₁ r₁ C₁ B₁

    tables_left_lem : tables_with s₁ r₁ C₁ B₁ ≡ tables_opened file before (length board₀)
    tables_left_lem =
        let s = K.checked.symbols in
        let r = K.checked.rows in
        let c = K.checked.clauses in
        let b = K.checked.bindings in
        let t : tables_with s₁ r₁ C₁ B₁ ≡ tables_after file before = λ i. record { symbols = s i; rows = r i; clauses = c i; bindings = b i } in
        t ∙ sym (tables_by false long_enough_lem)

    is_given : verdict_coded a.verdict ≡ verdict_numbers (check day file (lengths_of before)).verdict
    is_given = verdict_given_lem day file (lengths_of before) a K.checked.answer

    pub file_refused_lem : {b : Bool} → b ≡ verdict_stands a.verdict → b ≡ false → {r : board.BoardAnswer} → board_given r ≡ verdict_coded a.verdict → BoardOpened day file before board₀ r (tables_with s₁ r₁ C₁ B₁) board₀
    file_refused_lem {b} t f {r} g =
        whole r after board₀
        (g ∙ refused_numbers a.verdict checked (answered (answer_afresh day (state_left file before) all_present)) is_given (sym t ∙ f) ∙ ap answer_numbers (sym (answer_by false long_enough_lem)))
        tables_left_lem
        (refused_board a.verdict checked board₀ (board_of day (state_left file before) all_present board₀) is_given (sym t ∙ f) ∙ sym (board_by false long_enough_lem))

    module _ {b : Bool} (t : b ≡ verdict_stands a.verdict) (s : b ≡ true) where
      standing_file : (long_enough (lengths_of before) ≡ true) × ((S : State) × Stands file S)
      standing_file = not_refused_lem day file before (stands_not_refused a.verdict checked is_given (sym t ∙ s))

      abbrev S : State
      S = standing_file.1.0

      abbrev st : Stands file standing_file.1.0
      st = standing_file.1.1

      tables_long_lem : ¬ TableShort before
      tables_long_lem h = true_not_false standing_file.0 (tables_fail file before h)

      state_left_lem : state_left file before ≡ S
      state_left_lem = ap state_given (reading_records file (lengths_of before) st.fits standing_file.0) ∙ ap state_of st.reads

      counted : a.clauses ≡ length S.clauses
      counted = clauses_given day file (lengths_of before) a K.checked.answer ∙ ap (λ (X : State). length X.clauses) state_left_lem

      many : length (derivations S) ≡ length S.clauses
      many = length-map S.clauses (λ (c : ℕ × Derivation). c.1)

      read : ReadTo file before S (tables_with s₁ r₁ C₁ B₁) N₁ O₁ A₁
      read = subst (λ (X : State). ReadTo file before X (tables_with s₁ r₁ C₁ B₁) N₁ O₁ A₁) (ap state_of st.reads) (K.read st.fits standing_file.0)

      few : length S.clauses ≤ 4096
      few = few_clauses file before S after N₁ O₁ A₁ read

      pub openable : Fillable a.clauses board₀
      openable = record { few = let x = few in let y = counted in omega arith; long = long }

      held : TablesHold S before (tables_after file before)
      held = ((demand1 day file before).tables_of_standing S st tables_long_lem).tables_hold

      record_cells : (n k : ℕ) (c : Derivation) → entry S.clauses n ≡ some (k, c) → get_or C₁ (5 * n) 0 ≡ k
      record_cells n k c q = ap (λ (X : List ℕ). get_or X (5 * n) 0) K.checked.clauses ∙ (held.each_clause n k c q).record_cell

      flags : (n : ℕ) (c : Derivation) → clause_of S n ≡ some c → get_or (flags_in_force day file O₁ a.clauses all_set) n 0 ≡ pick (uses_in_force S day c) 1 0
      unfolding all_set
      flags n c q = ap (λ (m : ℕ). get_or (flags_in_force day file O₁ m all_set) n 0) counted ∙ kept_flag day file before S after N₁ O₁ A₁ read st n c q

      board_right : {board₁ : List ℕ} → board₁ ≡ filled_board day file C₁ (flags_in_force day file O₁ a.clauses all_set) a.clauses board₀ → board₁ ≡ board_opened day file before board₀
      board_right e =
          e ∙ ap (λ (n : ℕ). filled_board day file C₁ (flags_in_force day file O₁ a.clauses all_set) n board₀) (counted ∙ sym many)
          ∙ opened_board day S board₀ (let x = few in let y = many in omega arith) long file C₁ (flags_in_force day file O₁ a.clauses all_set) (stands_kept file S st) record_cells flags
          ∙ sym (promise S st tables_long_lem long).opened

      answer_right : verdict_coded a.verdict ≡ answer_numbers (opening_answer day file before (length board₀))
      answer_right =
          is_given ∙ ap (λ (x : definition.Answer). verdict_numbers x.verdict) (stands_check day file before S st standing_file.0)
          ∙ standing_numbers_lem (first_empty (uses_in_force S day) (derivations S))
          ∙ ap (λ (o : Option ℕ). answer_numbers (answered o)) (sym (all_afresh day S))
          ∙ ap answer_numbers (sym (promise S st tables_long_lem long).first)

      pub file_stands : {board₁ : List ℕ} → board₁ ≡ filled_board day file C₁ (flags_in_force day file O₁ a.clauses all_set) a.clauses board₀ → {r : board.BoardAnswer} → board_given r ≡ verdict_coded a.verdict
          → BoardOpened day file before board₀ r (tables_with s₁ r₁ C₁ B₁) board₁
      file_stands e {r} g = whole r after _ (g ∙ answer_right) tables_left_lem (board_right e)
