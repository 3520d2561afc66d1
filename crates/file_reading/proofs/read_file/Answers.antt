-- A fresh array has its length, and a fresh node table no row.
use mathlib.Core.Path.{refl}
use Prim.Native.Nat.{ℕ}
use lib.ListN.{length-replicate}
use Rattle.file_reading.proofs.read_file.Goals as goal

pub read_tables-requires : goal.read_tables-requires
read_tables-requires c =
    record { readable = c.requires; empty = record { nodes = refl; origins = refl; values = length-replicate {A = ℕ} 524416 0 } }

pub returns-clause-read : goal.returns-clause-read
returns-clause-read c =
    c.read_tables.ensures.read.file
