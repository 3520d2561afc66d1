-- Document 01, "The file" and the table of refusals: what the tests of one record read off its fields and the table of symbols.
use Rattle.std.specs.Prelude.{Bool, ◌&&◌, List, ℕ, eqb, ltb, get_or, drop}
use Rattle.std.proofs.Math.Option.{Option, none, some}
use Rattle.record.specs.Record.{pick, File, Record, record_part, kind_of, count_of, decoded, resolveKind, severalKind}
use Rattle.verdict.specs.Refusal.{zeros, in_range}

-- The arity of a symbol, off the file and the table of symbols: none for a number that is not below the count.
abbrev pub arity_in : File → List ℕ → ℕ → ℕ → Option ℕ
arity_in F symbols n s = pick (ltb s n) (some (count_of (record_part F (get_or symbols s 0)))) none

-- Byte 1 of a step is zero, and so are the fields that it does not use.
abbrev pub step_in_range : ℕ → Record → Bool
step_in_range used r = eqb r.count 0 && zeros (drop used r.fields)

-- How many right literals a resolve of kind 5 or 7 names (document 02, Q-3); none where it is out of range.
abbrev pub right_count : List ℕ → ℕ
right_count part =
    pick (eqb (kind_of part) 5) (pick (in_range resolveKind (decoded part)) 1 0)
    (pick (in_range severalKind (decoded part)) (count_of part) 0)
