use Rattle.std.proofs.Common.{◌≡◌, ◌≤◌, take}
use Rattle.record.specs.Record.{in_form, records}
use Rattle.demands.specs.Demands.{clauses_in}
use Rattle.force.specs.Flags.{flags_after}
use Rattle.flagging.proofs.put_windows.Given as goal

abbrev pub invariant-loop-k : goal.invariant-loop-k
invariant-loop-k l = record {
  below : l.c ≤ l.k;
  clauses : l.c ≡ clauses_in (take l.k (records (in_form l.form l.file)));
  flags : l.flags ≡ flags_after l.day (in_form l.form l.file) l.k l.initial.flags;
}
