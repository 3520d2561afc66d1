-- The pieces of a readout put together, and that each moves on or says why not.
use mathlib.Core.Path.{◌≡◌, refl, sym, ap, ◌∙◌, subst}
use mathlib.Core.Bool.{Bool, true, false}
use mathlib.Core.List.{List, [], ◌∷◌, ◌++◌, append_assoc, append-nil}
use Prim.Native.Nat.{ℕ, zero, suc, ◌+◌, ◌-◌, ◌<◌, ◌≤◌}
use native.Mathlib.Omega.{arith}
use lib.Dec.{eqb, leb}
use lib.ListN.{length, drop, length-append, drop_of_length-le}
use borrow.Author.Tests.{eqb-true, eqb-false, leb-true, leb-false, le-leb}
use Rattle.record.specs.Record.{pick, File}
use Rattle.verdict.specs.Verdict.{check, Lengths}
use Rattle.verdict.specs.Readout.{LineWriter, readout_lines, joined_lines, readout_by}
use Rattle.units.specs.Pieces.{units, units_within, fitting, Progress, complete, goOnWith, tooShortFor, after_piece, units_from, piece_lines, piece_bytes, progress, Pieces, last_piece, piece, PiecesHold}

units_joined : (ls : List (List ℕ)) → joined_lines (units ls) ≡ joined_lines ls
units_joined [] = refl
units_joined (v ∷ []) = refl
units_joined (v ∷ (l ∷ ls)) = append_assoc v l (joined_lines ls)

drop_none : {A : Type 0} (k : ℕ) → drop {A = A} k [] ≡ []
drop_none zero = refl
drop_none (suc k) = refl

pub drop_more : {A : Type 0} (n m : ℕ) (xs : List A) → drop m (drop n xs) ≡ drop (n + m) xs
drop_more zero m xs = ap (λ (k : ℕ). drop k xs) (let z : m ≡ 0 + m = omega arith in z)
drop_more (suc n) m [] = drop_none m ∙ sym (drop_none (suc n + m))
drop_more (suc n) m (x ∷ xs) = drop_more n m xs ∙ ap (λ (k : ℕ). drop k (x ∷ xs)) (let z : suc (n + m) ≡ suc n + m = omega arith in z)

-- What fits, and what is left.
fitting_rest : (room : ℕ) (us : List (List ℕ)) → joined_lines us ≡ joined_lines (fitting room us) ++ joined_lines (drop (length (fitting room us)) us)
fitting_rest room [] = refl
fitting_rest room (u ∷ us) = try (leb (length u) room) (fitting_rest (room - length u) us)
  where
    try : (b : Bool) → joined_lines us ≡ joined_lines (fitting (room - length u) us) ++ joined_lines (drop (length (fitting (room - length u) us)) us)
        → u ++ joined_lines us ≡ joined_lines (pick b (u ∷ fitting (room - length u) us) []) ++ joined_lines (drop (length (pick b (u ∷ fitting (room - length u) us) [])) (u ∷ us))
    try true ih = ap (λ (x : List ℕ). u ++ x) ih ∙ sym (append_assoc u (joined_lines (fitting (room - length u) us)) (joined_lines (drop (length (fitting (room - length u) us)) us)))
    try false ih = refl

fitting_size : (room : ℕ) (us : List (List ℕ)) → length (joined_lines (fitting room us)) ≤ room
fitting_size room [] = omega arith
fitting_size room (u ∷ us) = try (leb (length u) room) refl (fitting_size (room - length u) us)
  where
    try : (b : Bool) → leb (length u) room ≡ b → length (joined_lines (fitting (room - length u) us)) ≤ room - length u → length (joined_lines (pick b (u ∷ fitting (room - length u) us) [])) ≤ room
    try true p h = omega (arith, leb-true (length u) room p, h, length-append u (joined_lines (fitting (room - length u) us)))
    try false p h = omega arith

all_fit : (us : List (List ℕ)) (room : ℕ) → length (joined_lines us) ≤ room → fitting room us ≡ us
all_fit [] room l = refl
all_fit (u ∷ us) room l =
    let e = length-append u (joined_lines us) in
    ap (λ (b : Bool). pick b (u ∷ fitting (room - length u) us) []) (le-leb (length u) room (omega arith)) ∙ ap (λ (xs : List (List ℕ)). u ∷ xs) (all_fit us (room - length u) (omega arith))

-- A piece is no longer than its room.
pub piece_size : (line : LineWriter) (day : ℕ) (file : File) (lengths : Lengths) (n room : ℕ) → length (piece_bytes line day file lengths n room) ≤ room
piece_size line day file lengths n room = fitting_size room (units_from line day file lengths n)

complete_none : (us : List (List ℕ)) (n taken : ℕ) → after_piece us n taken ≡ complete → us ≡ []
complete_none [] n taken q = refl
complete_none (u ∷ us) n taken q = absurd (try (eqb taken 0) q)
  where
    is_complete : Progress → ℕ
    is_complete complete = 0
    is_complete (goOnWith m) = 1
    is_complete (tooShortFor m) = 1

    try : (b : Bool) → pick b (tooShortFor n) (goOnWith (n + taken)) ≡ complete → ⊥
    try true z = let y : ◌≡◌ {A = ℕ} 1 0 = ap is_complete z in omega arith
    try false z = let y : ◌≡◌ {A = ℕ} 1 0 = ap is_complete z in omega arith

-- The cases of what comes after a piece, in numbers.
tag : Progress → ℕ
tag complete = 0
tag (goOnWith m) = 1
tag (tooShortFor m) = 2

named : Progress → ℕ
named complete = 0
named (goOnWith m) = m
named (tooShortFor m) = m

go_on_is : (us : List (List ℕ)) (n taken m : ℕ) → after_piece us n taken ≡ goOnWith m → (m ≡ n + taken) × (taken ≡ 0 → ⊥)
unfolding tag named
go_on_is [] n taken m q = absurd (let y : ◌≡◌ {A = ℕ} 0 1 = ap tag q in omega arith)
go_on_is (u ∷ us) n taken m q = try (eqb taken 0) refl q
  where
    try : (b : Bool) → eqb taken 0 ≡ b → pick b (tooShortFor n) (goOnWith (n + taken)) ≡ goOnWith m → (m ≡ n + taken) × (taken ≡ 0 → ⊥)
    try true p z = absurd (let y : ◌≡◌ {A = ℕ} 2 1 = ap tag z in omega arith)
    try false p z = (sym (ap named z), eqb-false taken 0 p)

too_short_is : (us : List (List ℕ)) (n taken m : ℕ) → after_piece us n taken ≡ tooShortFor m → (m ≡ n) × (taken ≡ 0)
unfolding tag named
too_short_is [] n taken m q = absurd (let y : ◌≡◌ {A = ℕ} 0 2 = ap tag q in omega arith)
too_short_is (u ∷ us) n taken m q = try (eqb taken 0) refl q
  where
    try : (b : Bool) → eqb taken 0 ≡ b → pick b (tooShortFor n) (goOnWith (n + taken)) ≡ tooShortFor m → (m ≡ n) × (taken ≡ 0)
    try true p z = (sym (ap named z), eqb-true taken 0 p)
    try false p z = absurd (let y : ◌≡◌ {A = ℕ} 1 2 = ap tag z in omega arith)

none_left : {A : Type 0} (xs : List A) → length xs ≡ 0 → xs ≡ []
none_left [] q = refl
none_left (x ∷ xs) q = absurd (omega arith)

-- Lines that are no longer than the room always leave one to begin with.
abbrev pub AllWithin : ℕ → List (List ℕ) → Type 0
AllWithin room [] = Unit {0}
AllWithin room (u ∷ us) = (length u ≤ room) × AllWithin room us

drop_within : (room n : ℕ) (us : List (List ℕ)) → AllWithin room us → AllWithin room (drop n us)
drop_within room zero us h = h
drop_within room (suc n) [] h = tt
drop_within room (suc n) (u ∷ us) h = drop_within room n us h.1

first_fits : (room : ℕ) (us : List (List ℕ)) (n : ℕ) → AllWithin room us → length (fitting room us) ≡ 0 → us ≡ []
first_fits room [] n h q = refl
first_fits room (u ∷ us) n h q = absurd (try (leb (length u) room) refl q)
  where
    try : (b : Bool) → leb (length u) room ≡ b → length (pick b (u ∷ fitting (room - length u) us) []) ≡ 0 → ⊥
    try true p z = omega arith
    try false p z = let y = leb-false (length u) room p in let x = h.0 in omega arith

module _ (line : LineWriter) (day : ℕ) (file : File) (lengths : Lengths) where
  from_rest : (n room : ℕ) → joined_lines (units_from line day file lengths n) ≡ piece_bytes line day file lengths n room ++ joined_lines (units_from line day file lengths (n + length (piece_lines line day file lengths n room)))
  unfolding units_from
  from_rest n room =
      fitting_rest room (units_from line day file lengths n)
      ∙ ap (λ (x : List (List ℕ)). piece_bytes line day file lengths n room ++ joined_lines x) (drop_more n (length (piece_lines line day file lengths n room)) (units (readout_lines line day file lengths)))

  pieces_from : (n : ℕ) (text : List ℕ) → Pieces line day file lengths n text → text ≡ joined_lines (units_from line day file lengths n)
  pieces_from n text (last_piece room q) =
      sym
      (from_rest n room
      ∙ ap (λ (x : List (List ℕ)). piece_bytes line day file lengths n room ++ joined_lines x) (complete_none (units_from line day file lengths (n + length (piece_lines line day file lengths n room))) n (length (piece_lines line day file lengths n room)) q)
      ∙ append-nil (piece_bytes line day file lengths n room))
  pieces_from n text (piece {m = m} {text = rest} room q more) =
      ap (λ (x : List ℕ). piece_bytes line day file lengths n room ++ x)
      (pieces_from m rest more ∙ ap (λ (k : ℕ). joined_lines (units_from line day file lengths k)) (go_on_is (units_from line day file lengths (n + length (piece_lines line day file lengths n room))) n (length (piece_lines line day file lengths n room)) m q).0)
      ∙ sym (from_rest n room)

  all_units : joined_lines (units_from line day file lengths 0) ≡ readout_by line day file lengths
  unfolding units_from
  all_units = units_joined (readout_lines line day file lengths)

  -- With room for all of it, one piece is the readout.
  abbrev room_for_all : ℕ
  room_for_all = length (joined_lines (units_from line day file lengths 0))

  all_taken : piece_lines line day file lengths 0 room_for_all ≡ units_from line day file lengths 0
  all_taken = all_fit (units_from line day file lengths 0) room_for_all (omega arith)

  none_after : units_from line day file lengths (0 + length (units_from line day file lengths 0)) ≡ []
  unfolding units_from
  none_after = drop_of_length-le (units (readout_lines line day file lengths)) (let z : length (units (readout_lines line day file lengths)) ≤ 0 + length (units (readout_lines line day file lengths)) = omega arith in z)

  whole : Pieces line day file lengths 0 (readout_by line day file lengths)
  whole = subst (Pieces line day file lengths 0) (ap joined_lines all_taken ∙ all_units) (last_piece room_for_all
      (ap (λ (us : List (List ℕ)). after_piece us 0 (length (piece_lines line day file lengths 0 room_for_all))) (ap (λ (ls : List (List ℕ)). units_from line day file lengths (0 + length ls)) all_taken ∙ none_after)))

  pub pieces_hold : AllWithin 131072 (units (readout_lines line day file lengths)) → length (units (readout_lines line day file lengths)) ≡ units_within (check day file lengths).clauses → PiecesHold line day file lengths
  unfolding units_from tag
  pieces_hold within counted = record {
    count = counted;
    lines = units_joined (readout_lines line day file lengths);
    together = λ text p. pieces_from 0 text p ∙ all_units;
    whole = whole;
    moves = λ n room m q.
        let z = go_on_is (units_from line day file lengths (n + length (piece_lines line day file lengths n room))) n (length (piece_lines line day file lengths n room)) m q in
        let y = z.1 in
        let x = z.0 in
        positive n m (length (piece_lines line day file lengths n room)) x y;
    short = λ n room m q.
        let z = too_short_is (units_from line day file lengths (n + length (piece_lines line day file lengths n room))) n (length (piece_lines line day file lengths n room)) m q in
        (z.0, ap joined_lines (none_left (piece_lines line day file lengths n room) z.1));
    enough = λ n room m big q. never n room m big q;
  }
    where
      positive : (n m k : ℕ) → m ≡ n + k → (k ≡ 0 → ⊥) → n < m
      positive n m zero p y = absurd (y refl)
      positive n m (suc k) p y = omega arith

      wider : (room : ℕ) → 131072 ≤ room → (us : List (List ℕ)) → AllWithin 131072 us → AllWithin room us
      wider room big [] h = tt
      wider room big (u ∷ us) h = let x = h.0 in (omega arith, wider room big us h.1)

      left : (us : List (List ℕ)) (n taken m : ℕ) → after_piece us n taken ≡ tooShortFor m → us ≡ [] → ⊥
      left [] n taken m q e = let y : ◌≡◌ {A = ℕ} 0 2 = ap tag q in omega arith
      left (u ∷ us) n taken m q e = let y : length (u ∷ us) ≡ 0 = ap length e in omega arith

      never : (n room m : ℕ) → 131072 ≤ room → progress line day file lengths n room ≡ tooShortFor m → ⊥
      never n room m big q =
          let z = too_short_is (units_from line day file lengths (n + length (piece_lines line day file lengths n room))) n (length (piece_lines line day file lengths n room)) m q in
          let e : units_from line day file lengths n ≡ [] = first_fits room (units_from line day file lengths n) n (wider room big (units_from line day file lengths n) (drop_within 131072 n (units (readout_lines line day file lengths)) within)) z.1 in
          let d : units_from line day file lengths (n + length (piece_lines line day file lengths n room)) ≡ [] = sym (drop_more n (length (piece_lines line day file lengths n room)) (units (readout_lines line day file lengths))) ∙ ap (drop (length (piece_lines line day file lengths n room))) e ∙ drop_none {A = List ℕ} (length (piece_lines line day file lengths n room)) in
          left (units_from line day file lengths (n + length (piece_lines line day file lengths n room))) n (length (piece_lines line day file lengths n room)) m q d
