-- How the program goes about joining two files that stand: the contracts of its functions. No promise needs this file.
use Rattle.std.specs.Prelude.{◌≡◌, Bool, List, ◌++◌, ℕ, ◌+◌, ◌/◌, ◌≤◌, min, ltb, length, drop, Option, Some, None, Result, Ok, Err, ⊤}
use Rattle.record.specs.Record.{old_file, records}
use Rattle.verdict.specs.State.{State}
use Rattle.verdict.specs.Verdict.{Stands}
use Rattle.writing.specs.Writing.{writing_numbers, output_left}
use Rattle.merging.specs.Answer.{after_checks}
use Rattle.merging.specs.Merging.{merged, merged_file}
use Rattle.writing_answer.specs.Given.{writing_given}
use Rattle.writing_answer.specs.declared.NotWritten.{NotWritten}
use Rattle.writing_answer.specs.declared.WritingReason.{WritingReason}

-- Two files of these lengths, with so many symbols, come to over 4,096 records: the fewer symbols are written once.
abbrev pub too_many : ℕ → ℕ → ℕ → ℕ → Bool
too_many first second symbols others = ltb (4096 + min symbols others) (first / 16 + second / 16)

-- What a search says that must find nothing.
abbrev pub unless_found : WritingReason → ℕ → Option ℕ → Result ⊤ NotWritten
unless_found reason file None = Ok tt
unless_found reason file (Some k) = Err (record { reason = reason; file = file; at = k })

-- Both files stand, with these counts, and the output has room for every file.
pub record BothStand (first second : List ℕ) (symbols rows clauses others : ℕ) (output : List ℕ) : Type 0 where
  pub of_first : State
  pub of_second : State
  pub first_stands : Stands (old_file first) of_first
  pub second_stands : Stands (old_file second) of_second
  pub symbols_of_first : symbols ≡ length of_first.symbols
  pub rows_of_first : rows ≡ length of_first.rows
  pub clauses_of_first : clauses ≡ length of_first.clauses
  pub symbols_of_second : others ≡ length of_second.symbols
  pub room : 65536 ≤ length output

-- And their records are not too many, however many symbols the second file has.
pub record Joinable (first second : List ℕ) (symbols rows clauses : ℕ) (output : List ℕ) : Type 0 where
  pub others : ℕ
  pub stand : BothStand first second symbols rows clauses others output
  pub few : length (merged (records (old_file first)) (records (old_file second))) ≤ 4096

pub record FileWritten (first second : List ℕ) (output : List ℕ) (left : List ℕ) (end : ℕ) : Type 0 where
  pub bytes : left ≡ merged_file first second ++ drop (length (merged_file first second)) output
  pub ends : end ≡ length (merged_file first second)

pub record Joined (first second : List ℕ) (output : List ℕ) (m : Result ℕ NotWritten) (left : List ℕ) : Type 0 where
  pub answer : writing_given m ≡ writing_numbers (after_checks (records (old_file first)) (records (old_file second)))
  pub bytes : left ≡ output_left (after_checks (records (old_file first)) (records (old_file second))) (merged_file first second) output
