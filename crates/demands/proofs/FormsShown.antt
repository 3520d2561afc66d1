-- A file of the old form is read as it was before there were two.
use mathlib.Core.Path.{◌≡◌, refl, ap, ◌∙◌}
use mathlib.Core.List.{List, [], ◌∷◌, map}
use Prim.Native.Nat.{ℕ, suc, ◌/◌, ◌%◌}
use mathlib.Core.Bool.{◌&&◌}
use lib.Dec.{eqb, leb}
use lib.ListN.{length}
use Rattle.record.specs.Record.{pick, records, decoded, parts, otherKind, Kind, symbolKind, variableKind, applicationKind, inputKind, resolveKind, factorKind, severalKind, windowKind, kind_numbered, kind_of}
use Rattle.verdict.specs.Refusal.{tests, outline_tests, badLength, shortTable}
use Rattle.verdict.specs.State.{State, empty_state}
use Rattle.verdict.specs.Step.{stands, refused, Result, require, require_all, enter, step, read, Ending, refused_at}
use Rattle.verdict.specs.Verdict.{long_enough, ending, untouched, read_to}
use Rattle.demands.specs.Forms.{tests_before, enter_before, step_before, read_before, OldFormAsBefore}

-- One record without days, by its kind.
module _ (S : State) (k : ℕ) (part : List ℕ) where
  by_kind : (kind : Kind)
      → require_all (tests S kind (decoded part)) (require_all (outline_tests S kind (decoded part)) (enter S k kind (decoded part)))
      ≡ require_all (tests_before S kind (decoded part)) (require_all (outline_tests S kind (decoded part)) (enter_before S k kind (decoded part)))
  unfolding require
  by_kind symbolKind = refl
  by_kind variableKind = refl
  by_kind applicationKind = refl
  by_kind inputKind = refl
  by_kind resolveKind = refl
  by_kind severalKind = refl
  by_kind factorKind = refl
  by_kind windowKind = refl
  by_kind otherKind = refl

  step_before_lem : step S k (decoded part) ≡ step_before S k (decoded part)
  step_before_lem = by_kind (kind_numbered (kind_of part))

read_before_lem : (S : State) (k : ℕ) (ps : List (List ℕ)) → read S k (map decoded ps) ≡ read_before S k (map decoded ps)
read_before_lem S k [] = refl
read_before_lem S k (p ∷ ps) =
    try (step S k (decoded p)) (λ T. read_before_lem T (suc k) ps)
    ∙ ap (λ (o : Result). elim o [ stands T ↦ read_before T (suc k) (map decoded ps) | refused reason ↦ refused_at S reason k ]) (step_before_lem S k p)
  where
    try : (o : Result) → ((T : State) → read T (suc k) (map decoded ps) ≡ read_before T (suc k) (map decoded ps))
        → ◌≡◌ {A = Ending} (elim o [ stands T ↦ read T (suc k) (map decoded ps) | refused reason ↦ refused_at S reason k ]) (elim o [ stands T ↦ read_before T (suc k) (map decoded ps) | refused reason ↦ refused_at S reason k ])
    try (stands T) ih = ih T
    try (refused reason) ih = refl

pub old_form_as_before : OldFormAsBefore
unfolding ending records
old_form_as_before = record {
  read_alike = λ bytes lengths.
      ap (λ (e : Ending). pick (leb (length bytes) 65536 && eqb (length bytes % 16) 0) (pick (long_enough lengths) (read_to e) (untouched shortTable)) (untouched badLength))
      (read_before_lem empty_state 0 (parts 16 (length bytes / 16) bytes));
}
