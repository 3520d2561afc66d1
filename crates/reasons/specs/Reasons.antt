-- The program's reasons as those of the definition.
use Rattle.following.specs.Walks.{failure_of}
use Rattle.verdict.specs.Refusal as refusal
use Rattle.reasons.specs.declared.Reason.{Reason}
use Rattle.reasons.specs.declared.Reason.TheVariants.{BadLength, ShortTable, BadKind, OutOfRange, NotThere, VariableLiteral, WrongSigns, TooLarge, Unification, NotRising, CrossedDays}

abbrev pub meant : Reason → refusal.Reason
meant BadLength = refusal.badLength
meant ShortTable = refusal.shortTable
meant BadKind = refusal.badKind
meant OutOfRange = refusal.outOfRange
meant NotThere = refusal.notThere
meant VariableLiteral = refusal.variableLiteral
meant WrongSigns = refusal.wrongSigns
meant TooLarge = refusal.tooLarge
meant (Unification f) = refusal.unification (failure_of f)
meant NotRising = refusal.notRising
meant CrossedDays = refusal.crossedDays
