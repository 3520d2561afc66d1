-- The contract of the check: what `check` promises of every day, every file and every four tables, with no condition on the call.
use Rattle.std.specs.Prelude.{◌≡◌, true, List, ℕ, length}
use Rattle.record.specs.Record.{File}
use Rattle.unification.specs.Row.{Variable}
use Rattle.derivation.specs.Stored.{origin_table_of}
use Rattle.demands.specs.Days.{DaysOnlyChoose}
use Rattle.demands.specs.Demands.{Demand1, Demand2, Demand3}
use Rattle.demands.specs.Forms.{OldFormAsBefore}
use Rattle.demands.specs.Lifting.{NothingLost}
use Rattle.demands.specs.Outlines.{OutlinesBeforeUnification}
use Rattle.verdict.specs.Refusal.{Reason}
use Rattle.demands.specs.Repeats.{RepeatedRows}
use Rattle.demands.specs.Several.{SeveralLiterals}
use Rattle.demands.specs.Total.{BindingsHeld}
use Rattle.answer.specs.Given.{answer_given}
use Rattle.entry.specs.Progress.{node_table_of, ReadTo}
use Rattle.following.specs.declared.lent.LentWorkspace.{LentWorkspace}
use Rattle.verdict.specs.State.{rows_of, derivations}
use Rattle.verdict.specs.Step.{state_of}
use Rattle.verdict.specs.Tables.{Tables, lengths_of, tables_after}
use Rattle.verdict.specs.Verdict.{check, answer_numbers, long_enough, fitting, ending, Reading, untouched, read_to, reading}
use Rattle.answer.specs.declared.Answer.{Answer}

pub record Checked (day : ℕ) (file : File) (before : Tables) (a : Answer) (after : Tables) : Type 0 where
  -- The seven numbers of the answer, and each table at exit, cell by cell.
  pub answer : answer_given a ≡ answer_numbers (check day file (lengths_of before))
  pub symbols : after.symbols ≡ (tables_after file before).symbols
  pub rows : after.rows ≡ (tables_after file before).rows
  pub clauses : after.clauses ≡ (tables_after file before).clauses
  pub bindings : after.bindings ≡ (tables_after file before).bindings
  -- The mission's demands.
  pub honest : Demand1 day file before
  pub textbook : Demand2 Variable day file before
  pub refutation : Demand3 day file before
  -- Document 02, Q-1.
  pub outlines : OutlinesBeforeUnification
  -- Document 02, Q-2.
  pub repeats : RepeatedRows file
  -- Document 02, Q-3.
  pub several : SeveralLiterals file
  -- Document 02, Q-4.
  pub held : BindingsHeld day file before
  -- Document 02, Q-6.
  pub days : DaysOnlyChoose file (lengths_of before)
  -- Document 02, Q-7.
  pub lifting : NothingLost file
  -- Document 02, Q-11.
  pub forms : OldFormAsBefore

-- A node table, a table of origins and an array of values that the caller lends, whatever they hold.
pub record Workspace : Type 0 where
  pub nodes : List ℕ
  pub origins : List ℕ
  pub values : List ℕ

abbrev pub workspace_with : List ℕ → List ℕ → List ℕ → Workspace
workspace_with N O A = record { nodes = N; origins = O; values = A }

abbrev pub workspace_of : LentWorkspace → Workspace
workspace_of w = workspace_with w.nodes.now w.origins.now w.values.now

-- The node table and the table of origins after a check: those of the state left where records were read, and untouched otherwise.
abbrev pub nodes_given : Reading → List ℕ → List ℕ
nodes_given (untouched reason) N = N
nodes_given (read_to e) N = node_table_of (rows_of (state_of e))

abbrev pub origins_given : Reading → List ℕ → List ℕ
origins_given (untouched reason) O = O
origins_given (read_to e) O = origin_table_of (derivations (state_of e))

-- The same promise with a workspace that the caller lends. Where records were read, the node table and the table of origins then have the
-- rows and the clauses of the state left, and what the array holds is left to the program; for reasons 1 and 2 all three are untouched.
pub record CheckedWith (day : ℕ) (file : File) (before : Tables) (lent : Workspace) (a : Answer) (after : Tables) (left : Workspace) : Type 0 where
  pub checked : Checked day file before a after
  pub nodes : left.nodes ≡ nodes_given (reading file (lengths_of before)) lent.nodes
  pub origins : left.origins ≡ origins_given (reading file (lengths_of before)) lent.origins
  pub node_room : length left.nodes ≡ 32768
  pub origin_room : length left.origins ≡ 32768
  pub values : length left.values ≡ 524416
  pub values_left : (reason : Reason) → reading file (lengths_of before) ≡ untouched reason → left.values ≡ lent.values
  -- Where records were read, what the program keeps of them: the readout goes on from there.
  pub read : fitting file ≡ true → long_enough (lengths_of before) ≡ true → ReadTo file before (state_of (ending file)) after left.nodes left.origins left.values
