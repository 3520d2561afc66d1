-- What a definition finds, as the program answers it: the logic's own option as std's.
use Rattle.std.proofs.Math.Option.{Option, none, some}
use Rattle.std.specs.Prelude.{Some, None}
use Rattle.std.specs.Prelude.{Option as Answer}

abbrev pub answered : {A : Type 0} → Option A → Answer A
answered none = None
answered (some a) = Some a
