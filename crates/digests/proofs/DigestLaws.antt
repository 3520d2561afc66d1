-- The readout taken piece by piece: the bytes of the pieces so far, and any pieces from the next clause on, are pieces of the whole.
use mathlib.Core.Path.{◌≡◌, refl, sym, ap, ◌∙◌, subst}
use mathlib.Core.List.{List, [], ◌++◌, append_assoc}
use Prim.Native.Nat.{ℕ, ◌+◌, ◌≤◌, ◌<◌}
use native.Mathlib.Omega.{arith}
use lib.ListN.{length, take, drop, length-append, length-drop}
use lib.Seq.{take_at}
use Rattle.verdict.specs.Tables.{lengths_of}
use Rattle.verdict.specs.Verdict.{Lengths}
use Rattle.answer.specs.declared.Answer.{Answer}
use Rattle.units.specs.Pieces.{progress, piece_bytes, Pieces, last_piece, piece}
use Rattle.verdict.specs.Readout.{readout_by}
use Rattle.numbering.specs.Numbering.{line_of}
use Rattle.numbering.specs.declared.Naming.{Naming}
use Rattle.units.specs.Units.{AfterCheck}
use Rattle.pieces.specs.Placed.{PieceAt, PieceOf, rest_given}
use Rattle.pieces.specs.declared.Piece.{Piece}
use Rattle.pieces.specs.declared.Rest.{Rest}
use Rattle.pieces.specs.declared.Rest.TheVariants.{Complete, GoOn, TooShort}
use Rattle.record.specs.Record.{File}
use Rattle.units.proofs.UnitSizes.{pieces_always}
use Rattle.units.proofs.UnitWriting.{after_again}
use Rattle.digests.specs.Digest.{DigestOf, DigestAfter}
use Rattle.hash.specs.Hash.{start, hash_byte, hash_bytes}
use Rattle.digests.specs.declared.Digest.{Digest}
use Rattle.std.proofs.lemmas.List.Sums.{fold-append}

-- A piece that was written into an output with room for the longest line: its bytes, and where it ended.
record Ended (naming : Naming) (day : ℕ) (F : File) (L : Lengths) (n : ℕ) (output output' : List ℕ) (p : Piece) : Type 0 where
  pub bytes : take p.written output' ≡ piece_bytes (line_of naming) day F L n 131072
  pub written : p.written ≡ length (piece_bytes (line_of naming) day F L n 131072)
  pub rest : rest_given p.rest ≡ progress (line_of naming) day F L n 131072

ended : {naming : Naming} {day : ℕ} {F : File} {L : Lengths} {n : ℕ} {output output' : List ℕ} {p : Piece} → length output ≡ 131072 → PieceAt (line_of naming) day F L n output output' p → Ended naming day F L n output output' p
ended {naming} {day} {F} {L} {n} {output} {output'} {p} room P = record {
  bytes = ap (take p.written) P.bytes ∙ take_at (piece_bytes (line_of naming) day F L n (length output)) (drop (length (piece_bytes (line_of naming) day F L n (length output))) output) p.written (sym P.written) ∙ ap (piece_bytes (line_of naming) day F L n) room;
  written = P.written ∙ ap (λ (k : ℕ). length (piece_bytes (line_of naming) day F L n k)) room;
  rest = P.rest ∙ ap (progress (line_of naming) day F L n) room;
}

-- The pieces so far, up to clause n.
pub record Taken (naming : Naming) (day : ℕ) (F : File) (L : Lengths) (n size hash : ℕ) : Type 0 where
  pub text : List ℕ
  pub onward : (more : List ℕ) → Pieces (line_of naming) day F L n more → Pieces (line_of naming) day F L 0 (text ++ more)
  pub sizes : size ≡ length text
  pub hashes : hash ≡ hash_bytes start text

taken_none : (naming : Naming) (day : ℕ) (F : File) (L : Lengths) → Taken naming day F L 0 0 start
taken_none naming day F L = record { text = []; onward = λ more P. P; sizes = refl; hashes = refl }

module _ {naming : Naming} {day : ℕ} {F : File} {L : Lengths} {n size hash : ℕ} (T : Taken naming day F L n size hash) {output output' : List ℕ} {p : Piece} (E : Ended naming day F L n output output' p) {hash' : ℕ} (h : hash' ≡ hash_bytes hash (take p.written output')) where
  sum : size + p.written ≡ length (T.text ++ piece_bytes (line_of naming) day F L n 131072)
  sum = omega (arith, T.sizes, E.written, length-append T.text (piece_bytes (line_of naming) day F L n 131072))

  both : hash' ≡ hash_bytes start (T.text ++ piece_bytes (line_of naming) day F L n 131072)
  both =
      h
      ∙ ap (hash_bytes hash) E.bytes
      ∙ ap (λ (k : ℕ). hash_bytes k (piece_bytes (line_of naming) day F L n 131072)) T.hashes
      ∙ sym (fold-append hash_byte start T.text (piece_bytes (line_of naming) day F L n 131072))

  taken_more : (m : ℕ) → p.rest ≡ GoOn m → Taken naming day F L m (size + p.written) hash'
  taken_more m q = record {
    text = T.text ++ piece_bytes (line_of naming) day F L n 131072;
    onward = λ more P. subst (Pieces (line_of naming) day F L 0) (sym (append_assoc T.text (piece_bytes (line_of naming) day F L n 131072) more)) (T.onward (piece_bytes (line_of naming) day F L n 131072 ++ more) (piece 131072 (sym E.rest ∙ ap rest_given q) P));
    sizes = sum;
    hashes = both;
  }

  taken_all : p.rest ≡ Complete → (d : Digest) → d.length ≡ size + p.written → d.hash ≡ hash' → DigestOf (line_of naming) day F L d
  taken_all q d ds dh =
      let whole : T.text ++ piece_bytes (line_of naming) day F L n 131072 ≡ readout_by (line_of naming) day F L =
      (pieces_always naming day F L).together (T.text ++ piece_bytes (line_of naming) day F L n 131072) (T.onward (piece_bytes (line_of naming) day F L n 131072) (last_piece 131072 (sym E.rest ∙ ap rest_given q))) in
      record {
        length = ds ∙ sum ∙ ap length whole;
        hash = dh ∙ both ∙ ap (hash_bytes start) whole;
      }

-- The invariant of the loop, whichever tables there were before the check.
abbrev pub TakenAfter : Naming → List ℕ → List ℕ → List ℕ → List ℕ → List ℕ → Answer → ℕ → ℕ → ℕ → Type 0
TakenAfter naming C B N O A a n size hash = (R : AfterCheck C B N O A a) → Taken naming R.day R.file (lengths_of R.before) n size hash

pub after_none : (naming : Naming) {C B N O A : List ℕ} {a : Answer} → TakenAfter naming C B N O A a 0 0 start
after_none naming R = taken_none naming R.day R.file (lengths_of R.before)

-- A piece by the array as it is now.
module _ {naming : Naming} {C B N O A A₁ A₂ : List ℕ} {a : Answer} {n : ℕ} {output output' : List ℕ} {p : Piece} (values : length A₁ ≡ 524416) (room : length output ≡ 131072) (P : PieceOf naming C B N O A₁ A₂ a n output output' p) where
  ended_after : (R : AfterCheck C B N O A a) → Ended naming R.day R.file (lengths_of R.before) n output output' p
  unfolding after_again
  ended_after R = ended room (P.piece (after_again R values))

  pub short : AfterCheck C B N O A a → length output' ≡ 131072 → p.written ≤ 131072
  unfolding after_again
  short R kept =
      let Q : PieceAt (line_of naming) R.day R.file (lengths_of R.before) n output output' p = P.piece (after_again R values) in
      let b = piece_bytes (line_of naming) R.day R.file (lengths_of R.before) n (length output) in
      omega (arith, Q.written, ap length Q.bytes, length-append b (drop (length b) output), length-drop (length b) output, kept, room)

  pub onwards : AfterCheck C B N O A a → (m : ℕ) → p.rest ≡ GoOn m → n < m
  onwards R m q = (pieces_always naming R.day R.file (lengths_of R.before)).moves n 131072 m (sym (ended_after R).rest ∙ ap rest_given q)

  pub never_short : AfterCheck C B N O A a → (m : ℕ) → p.rest ≡ TooShort m → ⊥
  never_short R m q = (pieces_always naming R.day R.file (lengths_of R.before)).enough n 131072 m (omega arith) (sym (ended_after R).rest ∙ ap rest_given q)

  module _ {size hash hash' : ℕ} (X : TakenAfter naming C B N O A a n size hash) (h : hash' ≡ hash_bytes hash (take p.written output')) where
    pub after_more : (m : ℕ) → p.rest ≡ GoOn m → TakenAfter naming C B N O A a m (size + p.written) hash'
    after_more m q R = taken_more (X R) (ended_after R) h m q

    pub after_all : p.rest ≡ Complete → (d : Digest) → d.length ≡ size + p.written → d.hash ≡ hash' → DigestAfter naming C B N O A A₂ a d
    after_all q d ds dh = record { digest = λ R. taken_all (X R) (ended_after R) h q d ds dh; values = P.values }

-- The loop ends at a piece that is not followed by another. As it is never too short, all is written.
pub last_piece_lem : (x : Rest) → ((m : ℕ) → x ≡ GoOn m → ⊥) → ((m : ℕ) → x ≡ TooShort m → ⊥) → x ≡ Complete
last_piece_lem Complete o s = refl
last_piece_lem (GoOn m) o s = absurd (o m refl)
last_piece_lem (TooShort m) o s = absurd (s m refl)
