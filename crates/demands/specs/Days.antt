-- Document 02, Q-6: what the day changes, and what it leaves as it was. Which clauses are in force, and what an acceptance on a day says, is in
-- demands 2 (e) and 3.
use Rattle.std.specs.Prelude.{◌≡◌, Bool, true, List, [], ◌∷◌, ℕ, suc, ◌+◌, eqb, length, get_or, drop}
use Rattle.std.proofs.Math.Option.{none, some}
use Rattle.record.specs.Record.{pick, File, Record, records}
use Rattle.derivation.specs.Derivation.{Derivation}
use Rattle.demands.specs.Demands.{Reached}
use Rattle.verdict.specs.Readout.{LineWriter, readout_lines}
use Rattle.verdict.specs.Refusal.{Reason, badKind, badLength, shortTable}
use Rattle.verdict.specs.State.{State, empty_state, derivations, clause_of}
use Rattle.verdict.specs.Step.{stands, refused, Result, step, Ending, all_stand, refused_at}
use Rattle.verdict.specs.Tables.{Tables, filled_tables}
use Rattle.verdict.specs.Verdict.{Verdict, refusal, check, answer_numbers, first_empty, standing, Lengths, fitting, long_enough, Reading, untouched, read_to, reading, state_given}

-- ── The check as it was ──
-- No file is read or answered so any more; what stays is stated against it.

-- A record of kind 8 is of no kind that there is.
abbrev pub step_without_windows : State → ℕ → Record → Result
step_without_windows S k r = pick (eqb r.kind 8) (refused badKind) (step S k r)

abbrev pub read_without_windows : State → ℕ → List Record → Ending
read_without_windows S k [] = all_stand S
read_without_windows S k (r ∷ rs) = elim (step_without_windows S k r) [ stands T ↦ read_without_windows T (suc k) rs | refused reason ↦ refused_at S reason k ]

abbrev pub reading_without_windows : File → Lengths → Reading
reading_without_windows file lengths =
    pick (fitting file)
    (pick (long_enough lengths) (read_to (read_without_windows empty_state 0 (records file))) (untouched shortTable))
    (untouched badLength)

-- Accepted with the lowest empty clause, whatever its derivation uses.
abbrev pub every_clause : Derivation → Bool
every_clause c = true

abbrev pub verdict_without_day : Reading → Verdict
verdict_without_day (untouched reason) = refusal reason 0
verdict_without_day (read_to (all_stand S)) = standing (first_empty every_clause (derivations S))
verdict_without_day (read_to (refused_at S reason k)) = refusal reason k

-- ── What is shown ──

-- A record that gives no clause any days.
abbrev pub Undated : Record → Type 0
Undated r = ¬ (r.kind ≡ 8) × (r.days ≡ none)

-- The tables are `tables_after`, which goes by `reading` and of which the day is no argument.
pub record DaysOnlyChoose (file : File) (lengths : Lengths) : Type 0 where
  -- A record of kind 8 is no clause and takes no number: none of the four counts and tables knows it.
  pub no_clause : (S T : State) (k : ℕ) (r : Record) → r.kind ≡ 8 → step S k r ≡ stands T
      → (T.symbols ≡ S.symbols) × (T.rows ≡ S.rows) × (T.clauses ≡ S.clauses) × (T.total ≡ S.total) × ((t : Tables) → filled_tables T t ≡ filled_tables S t)
  -- Refusals do not depend on the day,
  pub refusals : (day other : ℕ) (reason : Reason) (k : ℕ) → (check day file lengths).verdict ≡ refusal reason k → (check other file lengths).verdict ≡ refusal reason k
  -- nor do the four counts. On every day all clauses are listed, however a readout writes a line: line 1 + n is that of clause n, and there are no more lines;
  pub counts : (day other : ℕ) → drop 3 (answer_numbers (check day file lengths)) ≡ drop 3 (answer_numbers (check other file lengths))
  pub listed : (line : LineWriter) (day n : ℕ) (c : Derivation) → clause_of (state_given (reading file lengths)) n ≡ some c
      → get_or (readout_lines line day file lengths) (1 + n) [] ≡ line (state_given (reading file lengths)) n c
  pub all_listed : (line : LineWriter) (day : ℕ) → length (readout_lines line day file lengths) ≡ 1 + (check day file lengths).clauses
  -- so that the lines after the first do not depend on the day.
  pub clause_lines : (line : LineWriter) (day other : ℕ) → drop 1 (readout_lines line day file lengths) ≡ drop 1 (readout_lines line other file lengths)
  -- A file in which reading comes to no record of kind 8, and to none with days beside it, is read as it was, and gets on every day the verdict that it got: and with
  -- these the answer, the tables and the readout.
  pub read_alike : ((k : ℕ) (S : State) (r : Record) → Reached file k S r → Undated r) → reading file lengths ≡ reading_without_windows file lengths
  pub same_verdict : ((k : ℕ) (S : State) (r : Record) → Reached file k S r → Undated r) → (day : ℕ) → (check day file lengths).verdict ≡ verdict_without_day (reading file lengths)
