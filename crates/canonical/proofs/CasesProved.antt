-- Document 02, Q-10: the clauses of the cases print what is written there.
use mathlib.Core.Path.{refl}
use Rattle.canonical.specs.Cases.{CanonicalCasesHold}

pub canonical_cases_hold : CanonicalCasesHold
canonical_cases_hold = record { hidden = refl; indices = refl }
