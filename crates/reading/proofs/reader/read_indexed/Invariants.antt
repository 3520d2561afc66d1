use mathlib.Core.Path.{◌≡◌}
use lib.ListN.{length}
use Rattle.record.specs.Record.{in_form}
use Rattle.distinct.specs.Index.{Indexed}
use Rattle.reading.specs.Reader.{Begun}
use Rattle.entry.specs.Progress.{tables_with}
use Rattle.reading.proofs.RecordsLaws.{ReadUpTo}
use Rattle.reading.proofs.reader.read_indexed.Given as goal

abbrev pub invariant-loop-k : goal.invariant-loop-k
invariant-loop-k l = (length l.symbols ≡ length l.initial.symbols) × (length l.rows ≡ length l.initial.rows) × (length l.clauses ≡ length l.initial.clauses) × (length l.bindings ≡ length l.initial.bindings)
    × ((G : Begun (in_form l.form l.file) (tables_with l.initial.symbols l.initial.rows l.initial.clauses l.initial.bindings) l.initial.nodes l.initial.origins l.initial.values) → ReadUpTo (in_form l.form l.file) G.tables_before l.k l.counts (tables_with l.symbols l.rows l.clauses l.bindings) l.nodes l.origins l.values)
    × Indexed l.nodes l.counts.rows l.heads l.links
