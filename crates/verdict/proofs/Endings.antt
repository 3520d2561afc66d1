-- How the reading of a file goes: the three ways, and that it goes on where it stopped.
use mathlib.Core.Path.{◌≡◌, refl, sym, ap, ap₂, ◌∙◌}
use mathlib.Core.Bool.{true, false}
use mathlib.Core.List.{List, [], ◌∷◌, ◌++◌}
use Prim.Native.Nat.{ℕ, suc, ◌+◌}
use native.Mathlib.Nat.{add-zero, add-suc, suc-add}
use native.Mathlib.Omega.{arith}
use lib.ListN.{length}
use Rattle.record.specs.Record.{File, Record}
use Rattle.verdict.specs.Refusal.{Reason, badLength, shortTable}
use Rattle.verdict.specs.State.{State}
use Rattle.verdict.specs.Step.{stands, refused, Result, step, read, all_stand, refused_at}
use Rattle.verdict.specs.Verdict.{Lengths, long_enough, fitting, ending, untouched, read_to, reading}

-- The three ways that the reading of a file can go.
pub reading_length : (file : File) (n : Lengths) → fitting file ≡ false → reading file n ≡ untouched badLength
reading_length file n f = rw f

pub reading_tables : (file : File) (n : Lengths) → fitting file ≡ true → long_enough n ≡ false → reading file n ≡ untouched shortTable
reading_tables file n f l = rw (f, l)

pub reading_records : (file : File) (n : Lengths) → fitting file ≡ true → long_enough n ≡ true → reading file n ≡ read_to (ending file)
reading_records file n f l = rw (f, l)

pub ending_stands : {S T : State} → all_stand S ≡ all_stand T → S ≡ T
ending_stands p = cc

pub stands_not_refused : {S T : State} {q : Reason} {k : ℕ} → all_stand S ≡ refused_at T q k → ⊥
stands_not_refused p = let z : ◌≡◌ {A = ℕ} 0 1 = cc in omega arith

-- Reading goes on where it stopped.
pub read_on_lem : (S : State) (j : ℕ) (xs ys : List Record) (T : State) → read S j xs ≡ all_stand T → read S j (xs ++ ys) ≡ read T (j + length xs) ys
read_on_lem S j [] ys T q = ap₂ (λ (U : State) (i : ℕ). read U i ys) (ending_stands q) (sym (add-zero j))
read_on_lem S j (x ∷ xs) ys T q = try (step S j x) refl q (λ U p. read_on_lem U (suc j) xs ys T p)
  where
    try : (o : Result) → step S j x ≡ o → elim o [ stands U ↦ read U (suc j) xs | refused p ↦ refused_at S p j ] ≡ all_stand T
        → ((U : State) → read U (suc j) xs ≡ all_stand T → read U (suc j) (xs ++ ys) ≡ read T (suc j + length xs) ys)
        → elim o [ stands U ↦ read U (suc j) (xs ++ ys) | refused p ↦ refused_at S p j ] ≡ read T (j + suc (length xs)) ys
    try (stands U) e p ih = ih U p ∙ ap (λ (i : ℕ). read T i ys) (suc-add j (length xs) ∙ sym (add-suc j (length xs)))
    try (refused p) e q ih = absurd (stands_not_refused (sym q))
