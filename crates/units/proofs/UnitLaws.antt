-- The units of a readout: the lines of a file by the state that its check left, and how long they are.
use mathlib.Core.Path.{◌≡◌, refl, sym, ap, ◌∙◌}
use mathlib.Core.Bool.{Bool}
use mathlib.Core.Option.{some}
use mathlib.Core.List.{List, [], ◌∷◌, ◌++◌}
use Prim.Native.Nat.{ℕ, zero, suc, ◌<◌}
use native.Mathlib.Omega.{arith}
use lib.ListN.{length, get_or, length-map}
use borrow.Author.Tests.{ne_eqb}
use Rattle.record.specs.Record.{pick, File}
use Rattle.derivation.specs.Derivation.{Derivation}
use Rattle.demands.proofs.DaysShown.{clause_lines_length, clause_line_at}
use Rattle.verdict.specs.State.{State, derivations, clause_of}
use Rattle.verdict.specs.Verdict.{check, Lengths}
use Rattle.demands.proofs.Inversions.{entry_below}
use Rattle.answer.proofs.GivenNumbers.{state_left}
use Rattle.units.specs.Pieces.{units, units_within}
use Rattle.verdict.specs.Readout.{LineWriter, verdict_line, clause_lines, lines_of, readout_lines}
use Rattle.units.specs.Units.{unit_at}

-- The lines of a file are those of the verdict and the state that its check leaves.
pub lines_left : (line : LineWriter) (day : ℕ) (F : File) (lengths : Lengths) → readout_lines line day F lengths ≡ lines_of line (check day F lengths).verdict (state_left F lengths)
unfolding readout_lines check
lines_left line day F lengths = refl

-- Units of a line and the lines after it.
units_one : (v : List ℕ) (ls : List (List ℕ)) → length ls ≡ 0 → get_or (units (v ∷ ls)) 0 [] ≡ v
units_one v [] q = refl
units_one v (l ∷ ls) q = absurd (omega arith)

units_first : (v : List ℕ) (ls : List (List ℕ)) → 0 < length ls → get_or (units (v ∷ ls)) 0 [] ≡ v ++ get_or ls 0 []
units_first v [] h = absurd (omega arith)
units_first v (l ∷ ls) h = refl

units_next : (v : List ℕ) (ls : List (List ℕ)) (n : ℕ) → 0 < n → 0 < length ls → get_or (units (v ∷ ls)) n [] ≡ get_or ls n []
units_next v [] n h k = absurd (omega arith)
units_next v (l ∷ ls) zero h k = absurd (omega arith)
units_next v (l ∷ ls) (suc n) h k = refl

units_length : (v : List ℕ) (ls : List (List ℕ)) → length (units (v ∷ ls)) ≡ units_within (length ls)
units_length v [] = refl
units_length v (l ∷ ls) = sym (ap (λ (b : Bool). pick b 1 (suc (length ls))) (ne_eqb (suc (length ls)) 0 (λ q. omega arith)))

module _ (line : LineWriter) (day : ℕ) (F : File) (lengths : Lengths) where
  abbrev S : State
  S = state_left F lengths

  abbrev lines : List (List ℕ)
  lines = clause_lines line S (derivations S)

  abbrev heading : List ℕ
  heading = verdict_line (check day F lengths).verdict

  lines_count : length lines ≡ length S.clauses
  lines_count = clause_lines_length line S (derivations S) ∙ length-map S.clauses (λ (c : ℕ × Derivation). c.1)

  pub unit_count : length (units (readout_lines line day F lengths)) ≡ units_within (length S.clauses)
  unit_count = ap (λ (l : List (List ℕ)). length (units l)) (lines_left line day F lengths) ∙ units_length heading lines ∙ ap units_within lines_count

  -- Unit 0 without clauses, unit 0 with clauses, and any other.
  pub unit_alone : length S.clauses ≡ 0 → unit_at line day F lengths 0 ≡ heading
  unfolding unit_at
  unit_alone z = ap (λ (l : List (List ℕ)). get_or (units l) 0 []) (lines_left line day F lengths) ∙ units_one heading lines (lines_count ∙ z)

  pub unit_first : (d : Derivation) → clause_of S 0 ≡ some d → unit_at line day F lengths 0 ≡ heading ++ line S 0 d
  unfolding unit_at
  unit_first d q =
      let l = entry_below (derivations S) 0 d q in
      ap (λ (x : List (List ℕ)). get_or (units x) 0 []) (lines_left line day F lengths)
      ∙ units_first heading lines (omega (arith, l, clause_lines_length line S (derivations S)))
      ∙ ap (λ (x : List ℕ). heading ++ x) (clause_line_at line S (derivations S) 0 d q)

  pub unit_other : (n : ℕ) (d : Derivation) → (n ≡ 0 → ⊥) → clause_of S n ≡ some d → unit_at line day F lengths n ≡ line S n d
  unfolding unit_at
  unit_other n d h q =
      let l = entry_below (derivations S) n d q in
      ap (λ (x : List (List ℕ)). get_or (units x) n []) (lines_left line day F lengths)
      ∙ units_next heading lines n (positive n h) (omega (arith, l, clause_lines_length line S (derivations S)))
      ∙ clause_line_at line S (derivations S) n d q
    where
      positive : (n : ℕ) → (n ≡ 0 → ⊥) → 0 < n
      positive zero h = absurd (h refl)
      positive (suc n) h = omega arith
