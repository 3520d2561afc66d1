use Rattle.std.proofs.Common.{◌≡◌}
use Rattle.force.specs.Flags.{derived_flags}
use Rattle.flagging.proofs.derived.Given as goal

abbrev pub invariant-loop-c : goal.invariant-loop-c
invariant-loop-c l = l.flags ≡ derived_flags l.origins l.c l.initial.flags
