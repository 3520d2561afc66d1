-- The units of a file are as many as its clauses, and each fits into the buffer, so that it is written whole.
use mathlib.Core.Path.{◌≡◌, refl, sym, ap, ◌∙◌, subst}
use mathlib.Core.Bool.{Bool, true, false}
use mathlib.Core.Option.{some}
use mathlib.Core.List.{List, [], ◌∷◌, ◌++◌}
use Prim.Native.Nat.{ℕ, zero, suc, ◌+◌, ◌≤◌, ◌<◌}
use native.Mathlib.Omega.{arith}
use lib.ListN.{length, get_or, length-append, length-take}
use Rattle.record.specs.Record.{File}
use Rattle.derivation.specs.Derivation.{Derivation}
use Rattle.verdict.specs.Refusal.{reason_number}
use Rattle.verdict.specs.State.{State, empty_state, derivations, entry, clause_of}
use Rattle.verdict.specs.Step.{state_of}
use Rattle.verdict.specs.Tables.{lengths_of}
use Rattle.verdict.specs.Verdict.{Verdict, accepted, open', refusal, check, Lengths, long_enough, fitting, ending}
use Rattle.demands.proofs.Inversions.{entry_below, entry_more, entry_new}
use Rattle.demands.proofs.Reading.{ending_ok}
use Rattle.answer.specs.declared.Answer.{Answer}
use Rattle.units.specs.Pieces.{units, units_within, PiecesHold}
use Rattle.verdict.specs.Readout.{LineWriter, verdict_line, clause_lines, readout_lines}
use Rattle.numbering.specs.Numbering.{line_of}
use Rattle.numbering.specs.declared.Naming.{Naming}
use Rattle.verdict.specs.Text.{decimal}
use Rattle.units.specs.Units.{unit_at, AfterCheck, UnitReady, UnitWritten}
use Rattle.text.proofs.Decimals.{decimal_length}
use Rattle.text.proofs.Positions.{wrote_position, wrote_bytes}
use Rattle.line_texts.proofs.LineTexts.{line_short}
use Rattle.units.proofs.PieceLaws.{AllWithin, pieces_hold}
use Rattle.answer.proofs.GivenNumbers.{state_left, clauses_given}
use Rattle.units.proofs.UnitLaws.{lines_left, unit_count}
use Rattle.units.proofs.UnitWriting.{UnitWrote}

-- The lines of a file fit into the buffer, the first two together as well.
verdict_short : (v : Verdict) → length (verdict_line v) ≤ 24
verdict_short (accepted n) = omega (arith, decimal_length n, length-append (97 ∷ 99 ∷ 99 ∷ 101 ∷ 112 ∷ 116 ∷ 101 ∷ 100 ∷ 32 ∷ decimal n) (10 ∷ []))
verdict_short open' = omega arith
verdict_short (refusal reason k) =
    omega (arith, decimal_length (reason_number reason), decimal_length k, length-append ((114 ∷ 101 ∷ 102 ∷ 117 ∷ 115 ∷ 101 ∷ 100 ∷ 32 ∷ decimal (reason_number reason)) ++ (32 ∷ 97 ∷ 116 ∷ 32 ∷ decimal k)) (10 ∷ []), length-append (114 ∷ 101 ∷ 102 ∷ 117 ∷ 115 ∷ 101 ∷ 100 ∷ 32 ∷ decimal (reason_number reason)) (32 ∷ 97 ∷ 116 ∷ 32 ∷ decimal k))

within_append : (room : ℕ) (us : List (List ℕ)) (u : List ℕ) → AllWithin room us → length u ≤ room → AllWithin room (us ++ (u ∷ []))
within_append room [] u h l = (l, tt)
within_append room (v ∷ us) u h l = (h.0, within_append room us u h.1 l)

lines_within : (line : LineWriter) (S : State) (ds : List Derivation) → ((n : ℕ) (d : Derivation) → entry ds n ≡ some d → length (line S n d) ≤ 106780) → AllWithin 106780 (clause_lines line S ds)
lines_within line S [] h = tt
lines_within line S (d ∷ ds) h = within_append 106780 (clause_lines line S ds) (line S (length ds) d) (lines_within line S ds (λ n e q. h n e (entry_more d ds n e q))) (h (length ds) d (entry_new d ds))

wider : (us : List (List ℕ)) → AllWithin 106780 us → AllWithin 131072 us
wider [] h = tt
wider (u ∷ us) h = let x = h.0 in (omega arith, wider us h.1)

units_within_lem : (v : List ℕ) (ls : List (List ℕ)) → length v ≤ 24 → AllWithin 106780 ls → AllWithin 131072 (units (v ∷ ls))
units_within_lem v [] l h = (omega arith, tt)
units_within_lem v (u ∷ us) l h = let x = h.0 in (omega (arith, length-append v u, l, x), wider us h.1)

-- Every line of a state is short.
abbrev Short : Naming → State → Type 0
Short naming S = (n : ℕ) (d : Derivation) → clause_of S n ≡ some d → length (line_of naming S n d) ≤ 106780

pub all_within : (naming : Naming) (day : ℕ) (F : File) (lengths : Lengths) → AllWithin 131072 (units (readout_lines (line_of naming) day F lengths))
all_within naming day F lengths =
    subst (λ (ls : List (List ℕ)). AllWithin 131072 (units ls)) (sym (lines_left (line_of naming) day F lengths))
    (units_within_lem (verdict_line (check day F lengths).verdict) (clause_lines (line_of naming) (state_left F lengths) (derivations (state_left F lengths))) (verdict_short (check day F lengths).verdict)
    (lines_within (line_of naming) (state_left F lengths) (derivations (state_left F lengths)) (try (fitting F) refl (long_enough lengths) refl)))
  where
    none : (n : ℕ) (d : Derivation) → clause_of empty_state n ≡ some d → length (line_of naming empty_state n d) ≤ 106780
    none n d q = let z = entry_below [] n d q in absurd (omega arith)

    try : (f : Bool) → fitting F ≡ f → (g : Bool) → long_enough lengths ≡ g → (n : ℕ) (d : Derivation) → clause_of (state_left F lengths) n ≡ some d → length (line_of naming (state_left F lengths) n d) ≤ 106780
    try true p true q = let e : state_left F lengths ≡ state_of (ending F) = rw (p, q) refl in subst (Short naming) (sym e) (λ n d z. line_short naming (state_of (ending F)) (ending_ok F p) n d z)
    try true p false q = let e : state_left F lengths ≡ empty_state = rw (p, q) refl in subst (Short naming) (sym e) none
    try false p g q = let e : state_left F lengths ≡ empty_state = rw p refl in subst (Short naming) (sym e) none

one_within : (room : ℕ) (us : List (List ℕ)) (n : ℕ) → AllWithin room us → n < length us → length (get_or us n []) ≤ room
one_within room [] n h l = absurd (omega arith)
one_within room (u ∷ us) zero h l = h.0
one_within room (u ∷ us) (suc n) h l = one_within room us n h.1 (omega arith)

module _ (naming : Naming) {C B N O A : List ℕ} {a : Answer} (R : AfterCheck C B N O A a) where
  pub number : units_within a.clauses ≡ length (units (readout_lines (line_of naming) R.day R.file (lengths_of R.before)))
  number = ap units_within (clauses_given R.day R.file (lengths_of R.before) a R.checked.checked.answer) ∙ sym (unit_count (line_of naming) R.day R.file (lengths_of R.before))

-- The count of units, by the answer.
pub units_counted : (naming : Naming) (day : ℕ) (F : File) (lengths : Lengths) → length (units (readout_lines (line_of naming) day F lengths)) ≡ units_within (check day F lengths).clauses
unfolding check
units_counted naming day F lengths = unit_count (line_of naming) day F lengths

-- What holds of pieces holds of the pieces of every file.
pub pieces_always : (naming : Naming) (day : ℕ) (F : File) (lengths : Lengths) → PiecesHold (line_of naming) day F lengths
pieces_always naming day F lengths = pieces_hold (line_of naming) day F lengths (all_within naming day F lengths) (units_counted naming day F lengths)

-- What was written is the whole unit.
pub unit_whole : {naming : Naming} {C B N O A A' T T' K L : List ℕ} {a : Answer} {n end : ℕ} → UnitReady naming C B N O A T K L a n → UnitWrote naming C B N O A A' T T' a n end → UnitWritten naming C B N O A A' T' a n end
unfolding unit_at
unit_whole {naming} {C} {B} {N} {O} {A} {T = T} {a = a} {n = n} U W = record {
  size = λ R. let e = wrote_position (W.wrote R) (fits R) in omega (arith, e);
  whole = λ R. wrote_bytes (W.wrote R) (fits R);
  sized = W.sized;
}
  where
    fits : (R : AfterCheck C B N O A a) → 0 + length (unit_at (line_of naming) R.day R.file (lengths_of R.before) n) ≤ length T
    fits R =
        let i : n < length (units (readout_lines (line_of naming) R.day R.file (lengths_of R.before))) = subst (λ (k : ℕ). n < k) (number naming R) U.inside in
        omega (arith, one_within 131072 (units (readout_lines (line_of naming) R.day R.file (lengths_of R.before))) n (all_within naming R.day R.file (lengths_of R.before)) i, U.text)

-- It ends inside the buffer.
pub end_inside : {naming : Naming} {C B N O A A₂ T : List ℕ} {a : Answer} {n end : ℕ} → AfterCheck C B N O A a → UnitWritten naming C B N O A A₂ T a n end → end ≤ 131072
end_inside {T = T} {end = end} R W = omega (arith, length-take end T, ap length (W.whole R), W.size R, W.sized.text)
