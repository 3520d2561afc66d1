-- Lists of variables that grow, for the contracts of the functions that number them.
use Rattle.std.specs.Prelude.{◌≡◌, List, ◌++◌}
use Rattle.unification.specs.Row.{Variable}

-- The second list is the first with more at its end.
pub record Longer (seen after : List Variable) : Type 0 where
  pub more : List Variable
  pub grown : after ≡ seen ++ more
