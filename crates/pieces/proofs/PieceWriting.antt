-- A piece written: every unit fits into the buffer, and each way out of the loop is a piece of the definition.
use mathlib.Core.Path.{◌≡◌, subst}
use mathlib.Core.List.{List}
use Prim.Native.Nat.{ℕ, ◌+◌, ◌-◌, ◌≤◌, ◌<◌}
use lib.ListN.{length, take}
use lib.Seq.{paste}
use Rattle.verdict.specs.Tables.{lengths_of}
use Rattle.numbering.specs.Numbering.{line_of}
use Rattle.numbering.specs.declared.Naming.{Naming}
use Rattle.answer.specs.declared.Answer.{Answer}
use Rattle.units.specs.Pieces.{units, units_within}
use Rattle.verdict.specs.Readout.{readout_lines}
use Rattle.units.specs.Units.{unit_at, AfterCheck, UnitWritten}
use Rattle.pieces.specs.Placed.{rest_given, stopped_at, PieceOf}
use Rattle.pieces.specs.declared.Piece.{Piece}
use Rattle.pieces.specs.declared.Rest.TheVariants.{Complete}
use Rattle.pieces.proofs.PieceRuns.{SoFar, so_far_none, so_far_all, so_far_stopped, so_far_more}
use Rattle.units.proofs.UnitWriting.{after_again}
use Rattle.units.proofs.UnitSizes.{number}

module _ (naming : Naming) {C B N O A : List ℕ} {a : Answer} (R : AfterCheck C B N O A a) where
  -- A unit as it stands at the start of the buffer.
  record AtStart (T : List ℕ) (n end : ℕ) : Type 0 where
    inside : n < length (units (readout_lines (line_of naming) R.day R.file (lengths_of R.before)))
    size : end ≡ length (unit_at (line_of naming) R.day R.file (lengths_of R.before) n)
    bytes : take end T ≡ unit_at (line_of naming) R.day R.file (lengths_of R.before) n

  at_start_lem : {A₁ A₂ T : List ℕ} {n end : ℕ} → length A₁ ≡ 524416 → n < units_within a.clauses → UnitWritten naming C B N O A₁ A₂ T a n end → AtStart T n end
  unfolding after_again
  at_start_lem {n = n} values l W = record { inside = subst (λ (k : ℕ). n < k) (number naming R) l; size = W.size (after_again R values); bytes = W.whole (after_again R values) }

-- The invariant of the loop and the ways out of it.
abbrev pub Written : Naming → List ℕ → List ℕ → List ℕ → List ℕ → List ℕ → Answer → ℕ → List ℕ → List ℕ → ℕ → ℕ → Type 0
Written naming C B N O A a begin out₀ out n written = (R : AfterCheck C B N O A a) → SoFar (line_of naming) R.day R.file (lengths_of R.before) begin out₀ out n written

module _ (naming : Naming) {C B N O A : List ℕ} {a : Answer} {begin : ℕ} {out₀ : List ℕ} where
  pub written_none : Written naming C B N O A a begin out₀ out₀ begin 0
  written_none R = so_far_none (line_of naming) R.day R.file (lengths_of R.before) begin out₀

  module _ {out : List ℕ} {n written : ℕ} (X : Written naming C B N O A a begin out₀ out n written) where
    pub written_all : {A₁ : List ℕ} → length A₁ ≡ 524416 → units_within a.clauses ≤ n → (p : Piece) → p.written ≡ written → p.rest ≡ Complete → PieceOf naming C B N O A A₁ a begin out₀ out p
    written_all v h p pw pr = record {
      piece = λ R. so_far_all (line_of naming) R.day R.file (lengths_of R.before) begin out₀ (X R) (subst (λ (k : ℕ). k ≤ n) (number naming R) h) p pw pr;
      values = v;
    }

    module _ {A₁ A₂ T : List ℕ} {end : ℕ} (values : length A₁ ≡ 524416) (l : n < units_within a.clauses) (W : UnitWritten naming C B N O A₁ A₂ T a n end) where
      pub written_stopped : length out₀ - written < end → (p : Piece) → p.written ≡ written → rest_given p.rest ≡ stopped_at begin n → PieceOf naming C B N O A A₂ a begin out₀ out p
      written_stopped h p pw pr = record {
        piece = λ R.
            let s = at_start_lem naming R values l W in
            so_far_stopped (line_of naming) R.day R.file (lengths_of R.before) begin out₀ (X R) s.inside (subst (λ (k : ℕ). length out₀ - written < k) s.size h) p pw pr;
        values = W.sized.values;
      }

      pub written_more : end ≤ length out₀ - written → {out' : List ℕ} → out' ≡ paste out written T end → Written naming C B N O A a begin out₀ out' (n + 1) (written + end)
      written_more h q R =
          let s = at_start_lem naming R values l W in
          so_far_more (line_of naming) R.day R.file (lengths_of R.before) begin out₀ (X R) s.inside T end s.size s.bytes h q
