-- How the program goes about a merge: the contracts of its inner functions. No promise needs this file.
use Rattle.std.specs.Prelude.{◌≡◌, List, ℕ, ◌≤◌, length, Result}
use Rattle.record.specs.Record.{old_file, records}
use Rattle.verdict.specs.State.{State}
use Rattle.verdict.specs.Tables.{Tables, lengths_of, tables_after}
use Rattle.verdict.specs.Verdict.{check, Stands}
use Rattle.writing.specs.Writing.{Writing, writing_numbers, unless_refused, output_left}
use Rattle.merging.specs.Answer.{after_checks}
use Rattle.merging.specs.Merging.{merged_file}
use Rattle.answer.specs.declared.Answer.{Answer}
use Rattle.writing_answer.specs.Given.{writing_given}
use Rattle.writing_answer.specs.declared.NotWritten.{NotWritten}

-- The first file stands, and this is the answer of its check; the output has room for every file.
pub record FirstStands (first : List ℕ) (mine : Answer) (output : List ℕ) : Type 0 where
  pub state : State
  pub stands : Stands (old_file first) state
  pub symbols : mine.symbols ≡ length state.symbols
  pub rows : mine.rows ≡ length state.rows
  pub clauses : mine.clauses ≡ length state.clauses
  pub room : 65536 ≤ length output

-- The answer by the second file's check, with the tables as the first's has left them, and what comes after it.
abbrev pub second_answer : List ℕ → List ℕ → Tables → Writing
second_answer first second between = unless_refused 2 (check 0 (old_file second) (lengths_of between)).verdict (after_checks (records (old_file first)) (records (old_file second)))

pub record SecondAnswered (first second : List ℕ) (between : Tables) (output : List ℕ) (m : Result ℕ NotWritten) (after : Tables) (left : List ℕ) : Type 0 where
  pub answer : writing_given m ≡ writing_numbers (second_answer first second between)
  pub tables : after ≡ tables_after (old_file second) between
  pub bytes : left ≡ output_left (second_answer first second between) (merged_file first second) output
