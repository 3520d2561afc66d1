-- The answer to a trim, the tables and the output, on each way that the program takes.
use mathlib.Core.Path.{◌≡◌, refl, sym, ap, ◌∙◌, subst}
use mathlib.Core.Bool.{Bool, true, false}
use mathlib.Core.List.{List, [], ◌∷◌, ◌++◌, map}
use Prim.Native.Nat.{ℕ, ◌%◌, ◌≤◌, ◌<◌}
use native.Mathlib.Omega.{arith}
use lib.Dec.{eqb, leb, leb→le}
use lib.ListN.{length, get_or, drop, replicate, length-append, length-drop, length-replicate, get_or-replicate, get_or-append}
use borrow.Author.Tests.{lt-ltb, le-ltb}
use Rattle.record.specs.Bytes.{Bytes, file_bytes}
use Rattle.record.specs.Record.{old_file}
use Rattle.unification.proofs.Tests.{to_t, both_true, true_not_false}
use Rattle.verdict.specs.Refusal.{Reason, reason_number}
use Rattle.verdict.specs.Tables.{Tables, lengths_of, tables_after, filled_tables}
use Rattle.verdict.specs.Verdict.{Verdict, accepted, open', refusal, verdict_numbers, check}
use Rattle.demands.proofs.Demanded.{not_refused_lem, stands_tables}
use Rattle.tables.specs.Cells.{cleared_part}
use Rattle.answer.specs.Given.{verdict_coded}
use Rattle.answer.specs.declared.Answer.{Answer}
use Rattle.answer.specs.declared.Verdict as verdict
use Rattle.answer.specs.declared.Verdict.TheVariants as verdicts
use Rattle.answer.proofs.GivenNumbers.{verdict_given_lem, refused_given}
use Rattle.checker.specs.Contract.{Workspace, CheckedWith}
use Rattle.checker.proofs.CheckedLaws.{tables_checked_lem}
use Rattle.placing.specs.Placing.{Written}
use Rattle.writing.specs.Writing.{Writing, written, refused_with, writing_numbers, unless_refused, output_left}
use Rattle.writing_answer.specs.Given.{writing_given}
use Rattle.writing_answer.proofs.Refusals.{handed_on}
use Rattle.writing_answer.specs.declared.NotWritten.{NotWritten}
use Rattle.std.specs.Prelude.{Result, Ok, Err, is_ok, IsErrAnd}
use Rattle.trimming.specs.Answer.{unless_open, trim_answer, tables_left}
use Rattle.trimming.specs.Trimming.{trimmed_file}
use Rattle.trimmed.proofs.AnswerShown.{AcceptedWith, accepted_with, trim_promised}
use Rattle.raising.specs.Wrapped.{wrapped}
use Rattle.marking.proofs.KeptRecords.{TablesAre}
use Rattle.marking.proofs.MarkedFile.{filled_are}
use Rattle.marking.proofs.WrittenFile.{written_trimmed}
use Rattle.write_trimmed.specs.Writing.{Trimmable}
use Rattle.trim_kept.specs.KeptRecords.{kept_records}
use Rattle.trim.specs.Accepted.{unless_accepted}
use Rattle.trim.specs.Contract.{TrimAnswered}

-- A verdict that is given is the verdict.
accepted_given : (n : ℕ) (w : Verdict) → 1 ∷ n ∷ 0 ∷ [] ≡ verdict_numbers w → w ≡ accepted n
accepted_given n (accepted m) e = ap accepted (ap (λ (l : List ℕ). get_or l 1 0) (sym e))
accepted_given n open' e = let z : ◌≡◌ {A = ℕ} 1 0 = ap (λ (l : List ℕ). get_or l 0 0) e in absurd (omega arith)
accepted_given n (refusal reason k) e = let z : ◌≡◌ {A = ℕ} 1 2 = ap (λ (l : List ℕ). get_or l 0 0) e in absurd (omega arith)

open_given : (w : Verdict) → 0 ∷ 0 ∷ 0 ∷ [] ≡ verdict_numbers w → w ≡ open'
open_given (accepted m) e = let z : ◌≡◌ {A = ℕ} 0 1 = ap (λ (l : List ℕ). get_or l 0 0) e in absurd (omega arith)
open_given open' e = refl
open_given (refusal reason k) e = let z : ◌≡◌ {A = ℕ} 0 2 = ap (λ (l : List ℕ). get_or l 0 0) e in absurd (omega arith)

accepted_not_refusal : {n k : ℕ} {q : Reason} → accepted n ≡ refusal q k → ⊥
accepted_not_refusal e = let z : ◌≡◌ {A = ℕ} 0 1 = cc in omega arith

-- Marks of which the first 4,096 are cleared.
cleared_length : (marks : List ℕ) → length marks ≡ 32768 → length (cleared_part 0 4096 marks) ≡ 32768
cleared_length marks l = length-append (replicate 4096 0) (drop 4096 marks) ∙ omega (arith, l, length-replicate {A = ℕ} 4096 0, length-drop 4096 marks)

cleared_cells : (marks : List ℕ) (j : ℕ) → j < 4096 → get_or (cleared_part 0 4096 marks) j 0 ≡ 0
cleared_cells marks j l = get_or-append (replicate 4096 0) (drop 4096 marks) 0 j (omega (arith, l, length-replicate {A = ℕ} 4096 0)) ∙ get_or-replicate 4096 j 0 0 l

-- The clause with which a file is accepted.
pub accepted_was : (v : verdict.Verdict) {n : ℕ} → unless_accepted v ≡ Ok n → v ≡ verdicts.Accepted n
accepted_was verdicts.Open q = absurd (true_not_false refl (sym (ap (λ (x : Result ℕ NotWritten). is_ok x) q)))
accepted_was (verdicts.Accepted n) q = ap verdicts.Accepted (ap (λ (x : Result ℕ NotWritten). elim x [ Ok m ↦ m | Err e ↦ 0 ]) q)
accepted_was (verdicts.Refused number k) q = absurd (true_not_false refl (sym (ap (λ (x : Result ℕ NotWritten). is_ok x) q)))

module _ (day : ℕ) (file : List ℕ) (before : Tables) (output : List ℕ) where
  abbrev verdict₁ : Verdict
  verdict₁ = (check day (old_file file) (lengths_of before)).verdict

  abbrev whole : Writing
  whole = written (length (trimmed_file day file))

  -- All of it, from the answer and the tables.
  answered : (x : Writing) (m : Result ℕ NotWritten) (after : Tables) (left : List ℕ) → trim_answer day file before (length output) ≡ x → writing_given m ≡ writing_numbers x → after ≡ tables_left file before (length output) → left ≡ output_left x (trimmed_file day file) output
      → TrimAnswered day file before output m after left
  answered x m after left e g t o = record {
    answer = g ∙ ap writing_numbers (sym e);
    symbols = ap (λ (y : Tables). y.symbols) t;
    rows = ap (λ (y : Tables). y.rows) t;
    clauses = ap (λ (y : Tables). y.clauses) t;
    bindings = ap (λ (y : Tables). y.bindings) t;
    output = o ∙ ap (λ (y : Writing). output_left y (trimmed_file day file) output) (sym e);
    promised = trim_promised day file before (length output);
  }

  -- A short output.
  pub short_answered : (m : Result ℕ NotWritten) → length output < 65536 → writing_given m ≡ 2 ∷ 2 ∷ 0 ∷ 0 ∷ [] → TrimAnswered day file before output m before output
  unfolding trim_answer tables_left
  short_answered m l g =
      let z = lt-ltb (length output) 65536 l in
      answered (refused_with 2 0 0) m before output
      (ap (λ (b : Bool). elim b [ true ↦ refused_with 2 0 0 | false ↦ unless_refused 1 verdict₁ (unless_open verdict₁ whole) ]) z) g
      (sym (ap (λ (b : Bool). elim b [ true ↦ before | false ↦ tables_after (old_file file) before ]) z)) refl

  module _ (room : 65536 ≤ length output) (a : Answer) (after : Tables) {lent left : Workspace} (K : CheckedWith day (old_file file) before lent a after left) where
    answer_checked : trim_answer day file before (length output) ≡ unless_refused 1 verdict₁ (unless_open verdict₁ whole)
    unfolding trim_answer
    answer_checked = ap (λ (b : Bool). elim b [ true ↦ refused_with 2 0 0 | false ↦ unless_refused 1 verdict₁ (unless_open verdict₁ whole) ]) (le-ltb (length output) 65536 room)

    tables_left_lem : after ≡ tables_left file before (length output)
    unfolding tables_left
    tables_left_lem = tables_checked_lem day (old_file file) before a after K.checked ∙ sym (ap (λ (x : Bool). elim x [ true ↦ before | false ↦ tables_after (old_file file) before ]) (le-ltb (length output) 65536 room))

    given₁ : verdict_coded a.verdict ≡ verdict_numbers (check day (old_file file) (lengths_of before)).verdict
    given₁ = verdict_given_lem day (old_file file) (lengths_of before) a K.checked.answer

    -- The answer that a verdict gives.
    by_verdict : (v : Verdict) → (check day (old_file file) (lengths_of before)).verdict ≡ v → trim_answer day file before (length output) ≡ unless_refused 1 v (unless_open v whole)
    by_verdict v e = answer_checked ∙ ap (λ (w : Verdict). unless_refused 1 w (unless_open w whole)) e

    -- The file's own refusal.
    own_refused : (m : Result ℕ NotWritten) (number k : ℕ) → a.verdict ≡ verdicts.Refused number k → writing_given m ≡ 2 ∷ number ∷ 1 ∷ k ∷ [] → TrimAnswered day file before output m after output
    own_refused m number k e g =
        let r = refused_given number k verdict₁ (sym (ap verdict_coded e) ∙ given₁) in
        answered (refused_with (reason_number r.0) 1 k) m after output (by_verdict (refusal r.0 k) r.1) (g ∙ ap (λ (n : ℕ). 2 ∷ n ∷ 1 ∷ k ∷ []) (sym r.2)) tables_left_lem refl

    -- A file that stands and is not accepted.
    file_open : (m : Result ℕ NotWritten) → a.verdict ≡ verdicts.Open → writing_given m ≡ 2 ∷ 23 ∷ 1 ∷ 0 ∷ [] → TrimAnswered day file before output m after output
    file_open m e g = answered (refused_with 23 1 0) m after output (by_verdict open' (open_given verdict₁ (sym (ap verdict_coded e) ∙ given₁))) g tables_left_lem refl

    -- A file that is not trimmed.
    pub not_trimmed : (m : Result ℕ NotWritten) {e : NotWritten} → IsErrAnd m (λ y. y ≡ e) → unless_accepted a.verdict ≡ Err e → TrimAnswered day file before output m after output
    not_trimmed m {e} p q = try a.verdict refl q
      where
        given : {v : Result ℕ NotWritten} → v ≡ Err e → writing_given m ≡ writing_given v
        given r = ap writing_given (handed_on m p) ∙ sym (ap writing_given r)

        try : (v : verdict.Verdict) → a.verdict ≡ v → unless_accepted v ≡ Err e → TrimAnswered day file before output m after output
        try verdicts.Open t r = file_open m t (given r)
        try (verdicts.Accepted n) t r = absurd (true_not_false refl (ap (λ (x : Result ℕ NotWritten). is_ok x) r))
        try (verdicts.Refused number k) t r = own_refused m number k t (given r)

    -- An accepted file, which is trimmed.
    module _ (n : ℕ) (e : a.verdict ≡ verdicts.Accepted n) where
      pub accepted_is : (check day (old_file file) (lengths_of before)).verdict ≡ accepted n
      accepted_is = accepted_given n verdict₁ (sym (ap verdict_coded e) ∙ given₁)

      pub file_trimmed : (m : Result ℕ NotWritten) (bytes : List ℕ) (end : ℕ) → Written (trimmed_file day file) output bytes end → writing_given m ≡ 0 ∷ end ∷ 0 ∷ 0 ∷ [] → TrimAnswered day file before output m after bytes
      file_trimmed m bytes end W g =
          answered whole m after bytes (by_verdict (accepted n) accepted_is) (g ∙ ap (λ (i : ℕ). 0 ∷ i ∷ 0 ∷ 0 ∷ []) W.ends) tables_left_lem (W.bytes ∙ ap (λ (i : ℕ). trimmed_file day file ++ drop i output) W.ends)

      -- ── What the program writes ──
      accepted_file : AcceptedWith day file n
      accepted_file = accepted_with day file before n accepted_is

      pub trimmable : Trimmable file output
      trimmable = record { short = leb→le (length file) 65536 (to_t (leb (length file) 65536) (both_true (leb (length file) 65536) (eqb (length file % 16) 0) accepted_file.stands.fits).0); room = room }

      tables_are : TablesAre accepted_file.state after.symbols after.rows after.clauses
      tables_are =
          let t : after ≡ filled_tables accepted_file.state before =
          tables_checked_lem day (old_file file) before a after K.checked
          ∙ stands_tables (old_file file) before accepted_file.state accepted_file.stands (not_refused_lem day (old_file file) before (λ q k z. accepted_not_refusal (sym accepted_is ∙ z))).0
          in
          subst (λ (u : Tables). TablesAre accepted_file.state u.symbols u.rows u.clauses) (sym t) (filled_are accepted_file.state before)

      pub records_trimmed : Bytes file → (bytes : List ℕ) (end : ℕ) → Written (file_bytes (map wrapped (kept_records after.symbols after.rows after.clauses file n left.nodes left.origins))) output bytes end → Written (trimmed_file day file) output bytes end
      records_trimmed b bytes end W =
          subst (λ (x : List ℕ). Written x output bytes end)
          (written_trimmed day file accepted_file.state b accepted_file.stands n accepted_file.is_first after.symbols after.rows after.clauses tables_are (cleared_part 0 4096 left.nodes) left.origins
          (omega (arith, cleared_length left.nodes K.node_room)) (cleared_cells left.nodes) (omega (arith, K.origin_room)))
          W
