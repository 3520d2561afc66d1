-- The records of a sort, counted one after another.
use mathlib.Core.Path.{◌≡◌, sym, ap, ap₂, ◌∙◌}
use mathlib.Core.Bool.{Bool, true, false}
use mathlib.Core.List.{List}
use Prim.Native.Nat.{ℕ, ◌+◌, ◌≤◌, ◌<◌}
use native.Mathlib.Numerals.{add-one}
use native.Mathlib.Omega.{arith}
use lib.ListN.{drop}
use Rattle.record.specs.Record.{Record, File, record_count, record_part, decoded_in, records}
use Rattle.record.proofs.Records.{record_numbered}
use Rattle.record.specs.Sorts.{how_many, one}
use Rattle.placing.proofs.Placing.{none_left}

pub at_most_one : (b : Bool) → one b ≤ 1
at_most_one true = omega arith
at_most_one false = omega arith

-- Before record k n are counted, and some were at first; with what is left that comes to the whole.
abbrev pub Counted : File → (Record → Bool) → ℕ → ℕ → ℕ → Type 0
Counted file sort some k n = n + how_many sort (drop k (records file)) ≡ some + how_many sort (records file)

module _ (file : File) (sort : Record → Bool) (some k n : ℕ) (same : Counted file sort some k n) where
  pub one_counted : k < record_count file → {part : List ℕ} {m : ℕ} → part ≡ record_part file k → m ≡ one (sort (decoded_in file.form part)) → Counted file sort some (k + 1) (n + m)
  one_counted h {part} {m} p q =
      let next : how_many sort (drop k (records file)) ≡ m + how_many sort (drop (k + 1) (records file)) =
      ap (how_many sort) (record_numbered file k h) ∙ ap₂ (λ (x y : ℕ). x + how_many sort (drop y (records file))) (sym (q ∙ ap (λ (l : List ℕ). one (sort (decoded_in file.form l))) p)) (sym (add-one k))
      in
      omega (arith, next, same)

  pub all_counted : record_count file ≤ k → n ≡ some + how_many sort (records file)
  all_counted h = omega (arith, ap (how_many sort) (none_left file k h), same)
