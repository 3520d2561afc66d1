-- The flags, step by step as the program makes them.
use mathlib.Core.Path.{◌≡◌, sym, ap, ap₂, ◌∙◌}
use mathlib.Core.Bool.{Bool, true, false, ◌&&◌}
use mathlib.Core.List.{List}
use Prim.Native.Nat.{ℕ, ◌+◌, ◌≤◌, ◌<◌}
use native.Mathlib.Numerals.{add-one}
use native.Mathlib.Omega.{arith}
use lib.Dec.{leb}
use lib.ListN.{take}
use Rattle.record.specs.Record.{pick, File, records, record_count, record_part, kind_of, decoded, decoded_in, record_at}
use Rattle.record.proofs.Records.{decoded_kind}
use Rattle.demands.specs.Demands.{clauses_of, clauses_in}
use Rattle.force.proofs.FlagLaws.{clauses_up_to}
use Rattle.force.specs.Flags.{with_record, flags_after}

-- One record more.
module _ (F : File) (k : ℕ) {p : List ℕ} (isPart : p ≡ record_part F k) where
  makes : clauses_of (decoded p) ≡ clauses_of (record_at F k)
  makes = ap (λ (m : ℕ). pick (leb 4 m && leb m 7) 1 0) (ap kind_of isPart ∙ sym (decoded_kind F.form (record_part F k)))

  pub at_most_one : {d : ℕ} → d ≡ clauses_of (decoded p) → d ≤ 1
  at_most_one e = try (leb 4 (kind_of p) && leb (kind_of p) 7) e
    where
      try : (b : Bool) {d : ℕ} → d ≡ pick b 1 0 → d ≤ 1
      try true q = omega arith
      try false q = omega arith

  pub clauses_more : {c d : ℕ} → k < record_count F → c ≡ clauses_in (take k (records F)) → d ≡ clauses_of (decoded p) → c + d ≡ clauses_in (take (k + 1) (records F))
  clauses_more l q e = ap₂ ◌+◌ q (e ∙ makes) ∙ sym (clauses_up_to F k l) ∙ ap (λ (n : ℕ). clauses_in (take n (records F))) (sym (add-one k))

  pub record_more : (day : ℕ) (L : List ℕ) {M M' : List ℕ} {c : ℕ} → c ≡ clauses_in (take k (records F)) → M ≡ flags_after day F k L → M' ≡ with_record day c (decoded_in F.form p) M → M' ≡ flags_after day F (k + 1) L
  record_more day L n q r =
      r ∙ (λ i. with_record day (n i) (decoded_in F.form (isPart i)) (q i)) ∙ ap (λ (m : ℕ). flags_after day F m L) (sym (add-one k))
