-- Document 01, "The readout": a line for the verdict and a line for each clause that stands.
use Rattle.std.specs.Prelude.{List, [], ◌∷◌, ◌++◌, ℕ, length}
use Rattle.record.specs.Record.{File}
use Rattle.derivation.specs.Derivation.{Derivation, maximum_index}
use Rattle.derivation.specs.Written.{written}
use Rattle.verdict.specs.Refusal.{reason_number}
use Rattle.verdict.specs.State.{State, derivations, row_of, term_of}
use Rattle.verdict.specs.Verdict.{Verdict, refusal, accepted, open', Lengths, reading, verdict_given, state_given}
use Rattle.verdict.specs.Text.{decimal, number_and_index, literals_text}

-- `accepted N`, `open`, or `refused R at K`.
abbrev pub accepted_text : ℕ → List ℕ
accepted_text n = 97 ∷ 99 ∷ 99 ∷ 101 ∷ 112 ∷ 116 ∷ 101 ∷ 100 ∷ 32 ∷ decimal n

abbrev pub open_text : List ℕ
open_text = 111 ∷ 112 ∷ 101 ∷ 110 ∷ []

abbrev pub refused_text : ℕ → ℕ → List ℕ
refused_text r k = (114 ∷ 101 ∷ 102 ∷ 117 ∷ 115 ∷ 101 ∷ 100 ∷ 32 ∷ decimal r) ++ (32 ∷ 97 ∷ 116 ∷ 32 ∷ decimal k)

abbrev pub verdict_text : Verdict → List ℕ
verdict_text (accepted n) = accepted_text n
verdict_text open' = open_text
verdict_text (refusal reason k) = refused_text (reason_number reason) k

abbrev pub verdict_line : Verdict → List ℕ
verdict_line v = verdict_text v ++ (10 ∷ [])

-- How a readout writes the line of a clause of a state, by the clause's number. Readouts differ in this alone.
abbrev pub LineWriter : Type 0
LineWriter = State → ℕ → Derivation → List ℕ

-- A clause: its number, its maximum index and the text of its literals, parted by one blank.
abbrev pub line_with : List ℕ → ℕ → Derivation → List ℕ
line_with literals n c = decimal n ++ (32 ∷ decimal (maximum_index c)) ++ literals ++ (10 ∷ [])

-- The readout of document 01 names variables by number and index. Document 02, Q-10, has another, which differs from it in these names alone.
abbrev pub clause_line : LineWriter
clause_line S n c = line_with (literals_text (number_and_index (row_of S)) (written (term_of S) c)) n c

abbrev pub joined_lines : List (List ℕ) → List ℕ
joined_lines [] = []
joined_lines (l ∷ ls) = l ++ joined_lines ls

module _ (line : LineWriter) where
  -- The lines of the clauses, clause 0 first.
  abbrev pub clause_lines : State → List Derivation → List (List ℕ)
  clause_lines S [] = []
  clause_lines S (c ∷ cs) = clause_lines S cs ++ (line S (length cs) c ∷ [])

  abbrev pub lines_of : Verdict → State → List (List ℕ)
  lines_of v S = verdict_line v ∷ clause_lines S (derivations S)

  -- The readout of a file on a day, line by line and as a whole. It goes by the check of the file, whatever the tables held before. All clauses are
  -- listed; only the first line looks at the day.
  unfoldable pub readout_lines : ℕ → File → Lengths → List (List ℕ)
  readout_lines day file lengths = lines_of (verdict_given day (reading file lengths)) (state_given (reading file lengths))

  abbrev pub readout_by : ℕ → File → Lengths → List ℕ
  readout_by day file lengths = joined_lines (readout_lines day file lengths)

-- The readout of document 01.
abbrev pub readout : ℕ → File → Lengths → List ℕ
readout day file lengths = readout_by clause_line day file lengths
