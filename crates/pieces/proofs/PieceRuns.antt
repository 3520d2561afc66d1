-- A piece as it is written: what is in the output after some units, and what is left to write.
use mathlib.Core.Path.{◌≡◌, refl, sym, ap, ap₂, ◌∙◌}
use mathlib.Core.Bool.{Bool}
use mathlib.Core.List.{List, [], ◌∷◌, ◌++◌, append_assoc, append-nil}
use Prim.Native.Nat.{ℕ, zero, suc, ◌+◌, ◌-◌, ◌≤◌, ◌<◌}
use native.Mathlib.Omega.{arith}
use native.Mathlib.Numerals.{add-one}
use lib.Dec.{eqb}
use lib.ListN.{length, take, drop, length-append, drop_of_length-le}
use lib.Seq.{paste, drop-cons, take_at, drop_at}
use borrow.Author.Tests.{le-leb, lt-leb, eq-eqb, ne_eqb}
use Rattle.record.specs.Record.{pick, File}
use Rattle.verdict.specs.Verdict.{Lengths}
use Rattle.units.specs.Pieces.{units, fitting, goOnWith, tooShortFor, after_piece, units_from, piece_lines}
use Rattle.verdict.specs.Readout.{LineWriter, readout_lines, joined_lines}
use Rattle.units.specs.Units.{unit_at}
use Rattle.pieces.specs.Placed.{rest_given, stopped_at, PieceAt}
use Rattle.pieces.specs.declared.Piece.{Piece}
use Rattle.pieces.specs.declared.Rest.TheVariants.{Complete}
use Rattle.units.proofs.PieceLaws.{drop_more}

joined_more : (us : List (List ℕ)) (u : List ℕ) → joined_lines (us ++ (u ∷ [])) ≡ joined_lines us ++ u
joined_more [] u = append-nil u
joined_more (v ∷ us) u = ap (λ (x : List ℕ). v ++ x) (joined_more us u) ∙ sym (append_assoc v (joined_lines us) u)

module _ (line : LineWriter) (day : ℕ) (F : File) (lengths : Lengths) (begin : ℕ) (out₀ : List ℕ) where
  pub record SoFar (out : List ℕ) (n written : ℕ) : Type 0 where
    pub taken : List (List ℕ)
    pub count : begin + length taken ≡ n
    pub size : written ≡ length (joined_lines taken)
    pub lines : piece_lines line day F lengths begin (length out₀) ≡ taken ++ fitting (length out₀ - written) (units_from line day F lengths n)
    pub bytes : out ≡ joined_lines taken ++ drop written out₀
    pub low : written ≤ length out₀

  pub so_far_none : SoFar out₀ begin 0
  so_far_none = record { taken = []; count = omega arith; size = refl; lines = ap (λ (k : ℕ). fitting k (units_from line day F lengths begin)) (let z : length out₀ ≡ length out₀ - 0 = omega arith in z); bytes = refl; low = omega arith }

  module _ {out : List ℕ} {n written : ℕ} (X : SoFar out n written) where
    -- No unit is left.
    pub so_far_all : length (units (readout_lines line day F lengths)) ≤ n → (p : Piece) → p.written ≡ written → p.rest ≡ Complete → PieceAt line day F lengths begin out₀ out p
    unfolding units_from
    so_far_all h p pw pr =
        let e : units_from line day F lengths n ≡ [] = drop_of_length-le (units (readout_lines line day F lengths)) {i = n} h in
        let all : piece_lines line day F lengths begin (length out₀) ≡ X.taken = X.lines ∙ ap (λ (us : List (List ℕ)). X.taken ++ fitting (length out₀ - written) us) e ∙ append-nil X.taken in
        record {
          written = pw ∙ X.size ∙ ap (λ (us : List (List ℕ)). length (joined_lines us)) (sym all);
          rest = ap rest_given pr ∙ sym (ap₂ (λ (us : List (List ℕ)) (k : ℕ). after_piece us begin k) (ap (λ (us : List (List ℕ)). units_from line day F lengths (begin + length us)) all ∙ ap (units_from line day F lengths) X.count ∙ e) (ap length all));
          bytes = X.bytes ∙ ap₂ (λ (us : List (List ℕ)) (k : ℕ). joined_lines us ++ drop k out₀) (sym all) (X.size ∙ ap (λ (us : List (List ℕ)). length (joined_lines us)) (sym all));
        }

    module _ (h : n < length (units (readout_lines line day F lengths))) where
      one : units_from line day F lengths n ≡ unit_at line day F lengths n ∷ units_from line day F lengths (suc n)
      unfolding units_from unit_at
      one = drop-cons (units (readout_lines line day F lengths)) n [] h

      -- The next unit does not fit.
      pub so_far_stopped : length out₀ - written < length (unit_at line day F lengths n) → (p : Piece) → p.written ≡ written → rest_given p.rest ≡ stopped_at begin n → PieceAt line day F lengths begin out₀ out p
      so_far_stopped l p pw pr =
          let e : fitting (length out₀ - written) (units_from line day F lengths n) ≡ [] = ap (fitting (length out₀ - written)) one ∙ rw (lt-leb (length (unit_at line day F lengths n)) (length out₀ - written) l) in
          let all : piece_lines line day F lengths begin (length out₀) ≡ X.taken = X.lines ∙ ap (λ (us : List (List ℕ)). X.taken ++ us) e ∙ append-nil X.taken in
          record {
            written = pw ∙ X.size ∙ ap (λ (us : List (List ℕ)). length (joined_lines us)) (sym all);
            rest = pr ∙ stop (length X.taken) X.count ∙ sym (ap₂ (λ (us : List (List ℕ)) (k : ℕ). after_piece us begin k) (ap (λ (us : List (List ℕ)). units_from line day F lengths (begin + length us)) all ∙ ap (units_from line day F lengths) X.count ∙ one) (ap length all));
            bytes = X.bytes ∙ ap₂ (λ (us : List (List ℕ)) (k : ℕ). joined_lines us ++ drop k out₀) (sym all) (X.size ∙ ap (λ (us : List (List ℕ)). length (joined_lines us)) (sym all));
          }
        where
          stop : (k : ℕ) → begin + k ≡ n → pick (eqb n begin) (tooShortFor begin) (goOnWith n) ≡ pick (eqb k 0) (tooShortFor begin) (goOnWith (begin + k))
          stop zero q = ap (λ (b : Bool). pick b (tooShortFor begin) (goOnWith n)) (eq-eqb n begin (omega arith))
          stop (suc k) q =
              ap (λ (b : Bool). pick b (tooShortFor begin) (goOnWith n)) (ne_eqb n begin (λ z. omega arith))
              ∙ ap goOnWith (sym q)
              ∙ sym (ap (λ (b : Bool). pick b (tooShortFor begin) (goOnWith (begin + suc k))) (ne_eqb (suc k) 0 (λ z. omega arith)))

      -- It fits, and goes to the output.
      pub so_far_more : (T : List ℕ) (end : ℕ) → end ≡ length (unit_at line day F lengths n) → take end T ≡ unit_at line day F lengths n → end ≤ length out₀ - written → {out' : List ℕ} → out' ≡ paste out written T end → SoFar out' (n + 1) (written + end)
      so_far_more T end pe pt l {out'} q =
          record {
            taken = X.taken ++ (unit_at line day F lengths n ∷ []);
            count = omega (arith, X.count, length-append X.taken (unit_at line day F lengths n ∷ []));
            size = omega (arith, X.size, pe, ap length (joined_more X.taken (unit_at line day F lengths n)), length-append (joined_lines X.taken) (unit_at line day F lengths n));
            lines =
                X.lines
                ∙ ap (λ (us : List (List ℕ)). X.taken ++ us) rest
                ∙ sym (append_assoc X.taken (unit_at line day F lengths n ∷ []) (fitting (length out₀ - (written + end)) (units_from line day F lengths (n + 1))));
            bytes = q ∙ pasted ∙ ap (λ (x : List ℕ). x ++ drop (written + end) out₀) (sym (joined_more X.taken (unit_at line day F lengths n)));
            low = let w = X.low in omega arith;
          }
        where
          rest : fitting (length out₀ - written) (units_from line day F lengths n) ≡ (unit_at line day F lengths n ∷ []) ++ fitting (length out₀ - (written + end)) (units_from line day F lengths (n + 1))
          rest =
              ap (fitting (length out₀ - written)) one
              ∙ ap (λ (b : Bool). pick b (unit_at line day F lengths n ∷ fitting (length out₀ - written - length (unit_at line day F lengths n)) (units_from line day F lengths (suc n))) []) (le-leb (length (unit_at line day F lengths n)) (length out₀ - written) (omega (arith, pe, l)))
              ∙ ap₂ (λ (k m : ℕ). unit_at line day F lengths n ∷ fitting k (units_from line day F lengths m)) (let z : length out₀ - written - length (unit_at line day F lengths n) ≡ length out₀ - (written + end) = omega (arith, pe) in z) (sym (add-one n))

          pasted : paste out written T end ≡ (joined_lines X.taken ++ unit_at line day F lengths n) ++ drop (written + end) out₀
          pasted =
              let w = X.size in
              let front : take written out ≡ joined_lines X.taken = ap (take written) X.bytes ∙ take_at (joined_lines X.taken) (drop written out₀) written (sym w) in
              let back : drop (written + end) out ≡ drop (written + end) out₀ =
              sym (drop_more written end out)
              ∙ ap (drop end) (ap (drop written) X.bytes ∙ drop_at (joined_lines X.taken) (drop written out₀) written (sym w))
              ∙ drop_more written end out₀ in
              ap₂ (λ (x y : List ℕ). x ++ take end T ++ y) front back ∙ ap (λ (x : List ℕ). joined_lines X.taken ++ x ++ drop (written + end) out₀) pt
