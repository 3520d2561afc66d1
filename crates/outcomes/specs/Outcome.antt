-- What the program gives for a file: the answer, a hash of each table as the check leaves it, and the length and the hash of each readout.
use Rattle.std.specs.Prelude.{◌≡◌, ℕ, replicate}
use Rattle.record.specs.Record.{File}
use Rattle.answer.specs.Given.{answer_given}
use Rattle.verdict.specs.Tables.{Tables, lengths_of, tables_after}
use Rattle.verdict.specs.Verdict.{check, answer_numbers, least_lengths}
use Rattle.verdict.specs.Readout.{clause_line}
use Rattle.appearance.specs.Appearance.{canonical_line}
use Rattle.digests.specs.Digest.{DigestOf}
use Rattle.hash.specs.Hash.{start, hash_cells}
use Rattle.outcomes.specs.declared.outcome.Hashes.{Hashes}
use Rattle.outcomes.specs.declared.outcome.Outcome.{Outcome}

-- Tables that are just long enough, with every cell zero.
abbrev pub zero_tables : Tables
zero_tables = record { symbols = replicate least_lengths.symbols 0; rows = replicate least_lengths.rows 0; clauses = replicate least_lengths.clauses 0; bindings = replicate least_lengths.bindings 0 }

-- The hash of each table.
pub record HashesOf (t : Tables) (h : Hashes) : Type 0 where
  pub symbols : h.symbols ≡ hash_cells start t.symbols
  pub rows : h.rows ≡ hash_cells start t.rows
  pub clauses : h.clauses ≡ hash_cells start t.clauses
  pub bindings : h.bindings ≡ hash_cells start t.bindings

-- The seven numbers of the answer, the hash of each table, and the length and the hash of both readouts, for a file that is checked on a
-- day with some tables.
pub record OutcomeOf (day : ℕ) (file : File) (before : Tables) (o : Outcome) : Type 0 where
  pub answer : answer_given o.answer ≡ answer_numbers (check day file (lengths_of before))
  pub symbols : o.hashes.symbols ≡ hash_cells start (tables_after file before).symbols
  pub rows : o.hashes.rows ≡ hash_cells start (tables_after file before).rows
  pub clauses : o.hashes.clauses ≡ hash_cells start (tables_after file before).clauses
  pub bindings : o.hashes.bindings ≡ hash_cells start (tables_after file before).bindings
  pub readout : DigestOf clause_line day file (lengths_of before) o.readout
  pub canonical : DigestOf canonical_line day file (lengths_of before) o.canonical
