-- Document 01, "Verdict, tables and refusals": the caller's four tables. A function that gets them writes their cells and gives back the same four, none exchanged
-- for another.
use Rattle.std.specs.Prelude.{◌≡◌}
use Rattle.tables.specs.declared.lent.LentTables.{LentTables}

abbrev pub SameTables : LentTables → LentTables → Type 0
SameTables before after =
    (after.symbols.ghost_name ≡ before.symbols.ghost_name) × (after.rows.ghost_name ≡ before.rows.ghost_name)
    × (after.clauses.ghost_name ≡ before.clauses.ghost_name) × (after.bindings.ghost_name ≡ before.bindings.ghost_name)
