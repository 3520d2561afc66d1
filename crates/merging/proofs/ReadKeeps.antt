-- What every record that stands keeps, a file that stands keeps.
use mathlib.Core.Path.{◌≡◌, refl, sym, subst}
use mathlib.Core.List.{List, [], ◌∷◌}
use Prim.Native.Nat.{ℕ, suc}
use lib.ListN.{length}
use Rattle.record.specs.Record.{File, Record, records}
use Rattle.record.proofs.Records.{Shaped, records_shaped}
use Rattle.verdict.specs.State.{State, empty_state}
use Rattle.verdict.specs.Step.{stands, refused, Result, step, read, all_stand, refused_at}
use Rattle.verdict.specs.Verdict.{ending, Stands}
use Rattle.verdict.proofs.Endings.{ending_stands, stands_not_refused}

module _ (P : State → Type 0) (keeps : (S : State) (k : ℕ) (r : Record) (T : State) → length r.fields ≡ 7 → step S k r ≡ stands T → P S → P T) where
  read_keeps : (S : State) (k : ℕ) (rs : List Record) (T : State) → Shaped rs → read S k rs ≡ all_stand T → P S → P T
  read_keeps S k [] T h q p = subst P (ending_stands q) p
  read_keeps S k (r ∷ rs) T h q p = try (step S k r) refl q (λ U z g. read_keeps U (suc k) rs T h.1 z g)
    where
      try : (o : Result) → step S k r ≡ o → elim o [ stands U ↦ read U (suc k) rs | refused x ↦ refused_at S x k ] ≡ all_stand T → ((U : State) → read U (suc k) rs ≡ all_stand T → P U → P T) → P T
      try (stands U) e z ih = ih U z (keeps S k r U h.0 e p)
      try (refused x) e z ih = absurd (stands_not_refused (sym z))

  pub stands_keeps : (file : File) (S : State) → Stands file S → P empty_state → P S
  unfolding ending
  stands_keeps file S st p = read_keeps empty_state 0 (records file) S (records_shaped file) st.reads p
