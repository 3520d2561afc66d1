-- Which clauses are in force on a day, as the program works it out: a flag for each clause, 1 where it is in force and 0 where it is not. No demand
-- needs this file; what in force means stands in `Force` of the crate verdict.
use Rattle.std.specs.Prelude.{◌&&◌, List, ℕ, zero, suc, eqb, leb, get_or, set, take}
use Rattle.std.proofs.Math.Option.{Option, none, some}
use Rattle.record.specs.Record.{pick, File, Record, records, record_count, record_at, field_a, field_b, field_c}
use Rattle.unification.specs.Nodes.{part}
use Rattle.derivation.specs.Stored.{origin_code}
use Rattle.demands.specs.Demands.{clauses_in}

-- The flag that a clause has on a day, by its first and its last.
abbrev pub day_flag : ℕ → ℕ → ℕ → ℕ
day_flag day first last = pick (leb first day && leb day last) 1 0

-- The flags L after one record, where n clauses stand before it: a window sets the flag of its clause, whatever it was; in the new form the days beside an input clause set its own.
abbrev pub with_flag_of_days : ℕ → ℕ → Record → Option (ℕ × ℕ) → List ℕ → List ℕ
with_flag_of_days day n r none L = pick (eqb r.kind 8) (set L (field_a r) (day_flag day (field_b r) (field_c r))) L
with_flag_of_days day n r (some days) L = pick (eqb r.kind 4) (set L n (day_flag day days.0 days.1)) L

unfoldable pub with_record : ℕ → ℕ → Record → List ℕ → List ℕ
with_record day n r L = with_flag_of_days day n r r.days L

-- The flags after the first k records of a file.
abbrev pub flags_after : ℕ → File → ℕ → List ℕ → List ℕ
flags_after day F zero L = L
flags_after day F (suc k) L = with_record day (clauses_in (take k (records F))) (record_at F k) (flags_after day F k L)

-- The flag of clause c: an input clause's own, a factor's parent's, and for a resolve 1 where both parents' are.
unfoldable pub flag_from : List ℕ → ℕ → List ℕ → ℕ
flag_from O c L =
    pick (eqb (origin_code O c) 1) (get_or L c 0)
    (pick (eqb (origin_code O c) 2) (get_or L (part O c 0) 0)
    (pick (eqb (get_or L (part O c 0) 0) 1) (get_or L (part O c 2) 0) 0))

-- The flags L with those of the first n clauses taken so, one after another.
unfoldable pub with_flag : List ℕ → ℕ → List ℕ → List ℕ
with_flag O c L = set L c (flag_from O c L)

abbrev pub derived_flags : List ℕ → ℕ → List ℕ → List ℕ
derived_flags O zero L = L
derived_flags O (suc c) L = with_flag O c (derived_flags O c L)

-- Both, for all records of a file F and the first n clauses.
unfoldable pub flags_in_force : ℕ → File → List ℕ → ℕ → List ℕ → List ℕ
flags_in_force day F O n L = derived_flags O n (flags_after day F (record_count F) L)
