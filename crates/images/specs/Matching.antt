-- How the program matches one atom of C against one of D, down the rows of the node table: what its functions answer and leave. No promise of the
-- crate cover needs this file.
use Rattle.std.specs.Prelude.{Bool, true, false, ◌&&◌, List, ℕ, zero, suc, ◌+◌, ◌*◌, eqb, get_or, set, replicate}
use Rattle.record.specs.Record.{pick}
use Rattle.unification.specs.Nodes.{is_variable, part, node_arity}

-- Whether all has gone well so far, with what was written on the way; and the next thing to be done, if it has.
abbrev pub and_then : {A : Type 0} → Bool × A → (A → Bool × A) → Bool × A
and_then (true, a) next = next a
and_then (false, a) next = (false, a)

-- A table of images has for each place a row, plus 1, or 0 for none. Place x gets the image y; it has it already; or it has another one.
abbrev pub imaged : List ℕ → ℕ → ℕ → Bool × List ℕ
imaged X x y = pick (eqb (get_or X x 0) 0) (true, set X x (suc y)) (eqb (get_or X x 0) (suc y), X)

-- Two rows of the node table have one kind and one symbol, and so as many arguments.
abbrev pub same_head : List ℕ → ℕ → ℕ → Bool
same_head N r y = eqb (get_or N (8 * r) 0) (get_or N (8 * y) 0) && eqb (part N r 0) (part N y 0)

-- m arguments of row r, from part n on, get those of row y for images.
abbrev pub arguments_imaged : List ℕ → ℕ → ℕ → ℕ → ℕ → List ℕ → Bool × List ℕ
arguments_imaged N r y zero n M = (true, M)
arguments_imaged N r y (suc m) n M = and_then (imaged M (part N r n) (part N y n)) (λ X. arguments_imaged N r y m (suc n) X)

-- The images of rows, and the notes: the images of variables, by their numbers, from a base on.
abbrev pub Images : Type 0
Images = List ℕ × List ℕ

abbrev pub with_notes : List ℕ → Bool × List ℕ → Bool × Images
with_notes M (b, W) = (b, (M, W))

abbrev pub with_rows : List ℕ → Bool × List ℕ → Bool × Images
with_rows W (b, M) = (b, (M, W))

-- Row r has the image y: a variable's is noted, and an application's arguments get images.
abbrev pub row_matched : List ℕ → ℕ → ℕ → ℕ → Images → Bool × Images
row_matched N base r y X =
    pick (is_variable N r)
    (with_notes X.0 (imaged X.1 (base + part N r 0) y))
    (pick (same_head N r y) (with_rows X.1 (arguments_imaged N r y (node_arity N r) 1 X.0)) (false, X))

-- A row that has an image is matched, one that has none is passed over.
abbrev pub if_imaged : List ℕ → ℕ → ℕ → ℕ → Images → Bool × Images
if_imaged N base r zero X = (true, X)
if_imaged N base r (suc y) X = row_matched N base r y X

-- All rows below k, from the last one down: rows name only earlier rows.
abbrev pub rows_matched : List ℕ → ℕ → ℕ → Images → Bool × Images
rows_matched N base zero X = (true, X)
rows_matched N base (suc r) X = and_then (if_imaged N base r (get_or X.0 r 0) X) (λ Y. rows_matched N base r Y)

-- Row c has the image d, and no other row has one yet: whether the atoms match, and the notes.
abbrev pub notes_of : Bool × Images → Bool × List ℕ
notes_of (b, X) = (b, X.1)

abbrev pub atoms_matched : List ℕ → ℕ → ℕ → ℕ → List ℕ → Bool × List ℕ
atoms_matched N base c d W = notes_of (rows_matched N base (suc c) ((imaged (replicate 4096 0) c d).1, W))
