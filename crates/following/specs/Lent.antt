-- The workspace of a check, which the caller may lend and keep between files. A function that gets it writes its cells and gives back the same three parts, none
-- exchanged for another.
use Rattle.std.specs.Prelude.{◌≡◌}
use Rattle.following.specs.declared.lent.LentWorkspace.{LentWorkspace}

abbrev pub SameWorkspace : LentWorkspace → LentWorkspace → Type 0
SameWorkspace before after =
    (after.nodes.ghost_name ≡ before.nodes.ghost_name) × (after.origins.ghost_name ≡ before.origins.ghost_name) × (after.values.ghost_name ≡ before.values.ghost_name)
