-- Document 02, Q-3: with one right literal the result of kind 7 is kind 5's. What a step on several right literals is, and when it is refused, is in
-- demand 2, which speaks of both kinds.
use Rattle.std.specs.Prelude.{◌≡◌, ◌&&◌, map, ℕ, eqb, length}
use Rattle.record.specs.Record.{pick, File, Record, records}
use Rattle.derivation.specs.Derivation.{Derivation, maximum_index, uses}
use Rattle.verdict.specs.State.{State}
use Rattle.verdict.specs.Step.{step}
use Rattle.verdict.specs.Verdict.{Lengths, reading}

-- The record of kind 5 with the same fields, and every record of kind 7 with one right literal written so.
abbrev pub binary : Record → Record
binary r = record { kind = 5; count = 0; fields = r.fields; days = r.days }

abbrev pub as_binary : Record → Record
as_binary r = pick (eqb r.kind 7 && eqb r.count 1) (binary r) r

pub record SeveralLiterals (file : File) : Type 0 where
  -- In every state such a record does what that of kind 5 does: it leaves the same state, or is refused for the same reason.
  pub one_literal : (S : State) (k : ℕ) (r : Record) → length r.fields ≡ 7 → r.kind ≡ 7 → r.count ≡ 1 → step S k r ≡ step S k (binary r)
  -- Uses are counted in the maximum index, of every clause.
  pub uses_counted : (c : Derivation) → length (uses c) ≡ maximum_index c
  -- A file in which every such record is written as one of kind 5 is read like this one: it gets the same tables, and on every day the same answer and readout.
  pub written_binary : (other : File) → other.form ≡ file.form → length other.bytes ≡ length file.bytes → records other ≡ map as_binary (records file) → (lengths : Lengths) → reading other lengths ≡ reading file lengths
