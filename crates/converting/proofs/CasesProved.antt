-- The two short files go each way as they are written out.
use mathlib.Core.Path.{refl}
use Rattle.converting.specs.Cases.{CasesHold}

pub cases_hold : CasesHold
cases_hold = record { to_new = refl; to_old = refl; new_again = refl; always_written = refl; always_back = refl }
