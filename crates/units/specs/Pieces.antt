-- The readout in pieces: what a call writes that begins with clause n and has so much room, and where the next one goes on.
use Rattle.std.specs.Prelude.{◌≡◌, List, [], ◌∷◌, ◌++◌, ℕ, ◌+◌, ◌-◌, ◌<◌, ◌≤◌, eqb, leb, length, drop}
use Rattle.record.specs.Record.{pick, File}
use Rattle.verdict.specs.Verdict.{check, Lengths}
use Rattle.verdict.specs.Readout.{LineWriter, readout_lines, joined_lines, readout_by}

-- A piece is made of whole lines. The first line goes with that of clause 0, so that every piece begins with a clause; without clauses it
-- stands alone.
abbrev pub units : List (List ℕ) → List (List ℕ)
units [] = []
units (v ∷ []) = v ∷ []
units (v ∷ (l ∷ ls)) = (v ++ l) ∷ ls

-- How many there are for so many clauses.
abbrev pub units_within : ℕ → ℕ
units_within clauses = pick (eqb clauses 0) 1 clauses

-- As many as fit, in order.
abbrev pub fitting : ℕ → List (List ℕ) → List (List ℕ)
fitting room [] = []
fitting room (u ∷ us) = pick (leb (length u) room) (u ∷ fitting (room - length u) us) []

-- All is written; the next piece begins with a clause; or there was no room for the line of the clause that it was to begin with.
pub data Progress : Type 0 where
  complete : Progress
  goOnWith tooShortFor : ℕ → Progress

abbrev pub after_piece : List (List ℕ) → ℕ → ℕ → Progress
after_piece [] n taken = complete
after_piece (u ∷ us) n taken = pick (eqb taken 0) (tooShortFor n) (goOnWith (n + taken))

module _ (line : LineWriter) (day : ℕ) (file : File) (lengths : Lengths) where
  unfoldable pub units_from : ℕ → List (List ℕ)
  units_from n = drop n (units (readout_lines line day file lengths))

  abbrev pub piece_lines : ℕ → ℕ → List (List ℕ)
  piece_lines n room = fitting room (units_from n)

  -- The bytes of a piece, and what comes after it.
  abbrev pub piece_bytes : ℕ → ℕ → List ℕ
  piece_bytes n room = joined_lines (piece_lines n room)

  abbrev pub progress : ℕ → ℕ → Progress
  progress n room = after_piece (units_from (n + length (piece_lines n room))) n (length (piece_lines n room))

  -- Pieces from clause n on, one after another with any room for each, up to the last.
  pub data Pieces : ℕ → List ℕ → Type 0 where
    last_piece : {n : ℕ} (room : ℕ) → progress n room ≡ complete → Pieces n (piece_bytes n room)
    piece : {n m : ℕ} {text : List ℕ} (room : ℕ) → progress n room ≡ goOnWith m → Pieces m text → Pieces n (piece_bytes n room ++ text)

-- What holds of the pieces of every file: put together they are the readout; each moves on, or its room is too short for the next line and
-- nothing is written; and room for the longest line is never too short. Line by line too: there are as many units as the answer's number of clauses says,
-- and one after another they are the readout.
pub record PiecesHold (line : LineWriter) (day : ℕ) (file : File) (lengths : Lengths) : Type 0 where
  pub count : length (units (readout_lines line day file lengths)) ≡ units_within (check day file lengths).clauses
  pub lines : joined_lines (units (readout_lines line day file lengths)) ≡ readout_by line day file lengths
  pub together : (text : List ℕ) → Pieces line day file lengths 0 text → text ≡ readout_by line day file lengths
  pub whole : Pieces line day file lengths 0 (readout_by line day file lengths)
  pub moves : (n room m : ℕ) → progress line day file lengths n room ≡ goOnWith m → n < m
  pub short : (n room m : ℕ) → progress line day file lengths n room ≡ tooShortFor m → (m ≡ n) × (piece_bytes line day file lengths n room ≡ [])
  pub enough : (n room m : ℕ) → 131072 ≤ room → ¬ (progress line day file lengths n room ≡ tooShortFor m)
