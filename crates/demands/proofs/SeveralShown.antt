-- Document 02, Q-3: a step of kind 7 with one right literal is the step of kind 5.
use mathlib.Core.Path.{◌≡◌, refl, sym, ap, ◌∙◌}
use mathlib.Core.Bool.{Bool, true, false, ◌&&◌}
use mathlib.Core.Option.{Option, none, some}
use mathlib.Core.List.{List, [], ◌∷◌, map}
use Prim.Native.Nat.{ℕ, suc, ◌<◌}
use native.Mathlib.Omega.{arith}
use lib.Dec.{eqb}
use lib.ListN.{length, get_or, take, drop}
use Rattle.record.specs.Record.{pick, File, Record, records, field_b, field_c}
use Rattle.record.proofs.Records.{Shaped, records_shaped}
use Rattle.unification.specs.Unification.{clash}
use Rattle.unification.proofs.Tests.{both_true}
use Rattle.derivation.specs.Derivation.{resolve}
use Rattle.derivation.proofs.Literals.{uses_length}
use Rattle.verdict.specs.Refusal.{badLength, shortTable, outOfRange, notThere, notRising, wrongSigns, tooLarge, unification, zeros, zero_days, literals_in, left_of, both_there, rising, all_opposite, on_both, result_fits, outlines_agree}
use Rattle.demands.specs.Several.{binary, as_binary, SeveralLiterals}
use Rattle.verdict.specs.State.{State, empty_state, clause_of, next_clause, row_of}
use Rattle.verdict.specs.Step.{stands, refused, Result, require_all, step, add_clause, unify_resolve, on_named, Ending, refused_at, read}
use Rattle.verdict.specs.Verdict.{Lengths, fitting_length, long_enough, ending, untouched, read_to, reading}
use Rattle.demands.proofs.RangeTests.{equal}

-- The first number of a list, as a list.
one_number : (xs : List ℕ) → 3 < length xs → take 1 (drop 3 xs) ≡ get_or xs 3 0 ∷ []
one_number [] l = absurd (omega arith)
one_number (a ∷ []) l = absurd (omega arith)
one_number (a ∷ b ∷ []) l = absurd (omega arith)
one_number (a ∷ b ∷ c ∷ []) l = absurd (omega arith)
one_number (a ∷ b ∷ c ∷ d ∷ xs) l = refl

module _ (S : State) (k : ℕ) where
  -- A resolve with these fields, on the right literals ns.
  abbrev resolve_on : Option (ℕ × ℕ) → List ℕ → List ℕ → Result
  resolve_on days fields ns =
      let r : Record = record { kind = 5; count = 0; fields = fields; days = days } in
      let right = literals_in ns (clause_of S (field_c r)) in
      require_all
      ((zero_days days && zeros (drop 4 fields), outOfRange)
      ∷ (both_there (left_of S r) right, notThere)
      ∷ (rising ns, notRising)
      ∷ (on_both (λ x y. all_opposite x.1.0 y.1) (left_of S r) right, wrongSigns)
      ∷ (on_both (λ x y. result_fits (resolve (next_clause S) x.0 (field_b r) y.0 ns [])) (left_of S r) right, tooLarge) ∷ [])
      (require_all ((on_both (λ x y. outlines_agree (row_of S) x.1 y.1) (left_of S r) right, unification clash) ∷ [])
      (on_named (λ x y. add_clause S k (resolve (next_clause S) x.0 (field_b r) y.0 ns) (unify_resolve S x y)) (left_of S r) right))

  one_literal_lem : (r : Record) → length r.fields ≡ 7 → r.kind ≡ 7 → r.count ≡ 1 → step S k r ≡ step S k (binary r)
  one_literal_lem r seven p q =
      try r.days
    where
      -- Of either sort of days the kind is that of byte 0.
      try : (days : Option (ℕ × ℕ)) → step S k (record { kind = r.kind; count = r.count; fields = r.fields; days = days }) ≡ step S k (record { kind = 5; count = 0; fields = r.fields; days = days })
      try none = (λ i. step S k (record { kind = p i; count = q i; fields = r.fields; days = none })) ∙ ap (resolve_on none r.fields) (one_number r.fields (omega arith))
      try (some d) = (λ i. step S k (record { kind = p i; count = q i; fields = r.fields; days = some d })) ∙ ap (resolve_on (some d) r.fields) (one_number r.fields (omega arith))

  as_binary_lem : (r : Record) → length r.fields ≡ 7 → step S k (as_binary r) ≡ step S k r
  as_binary_lem r seven = try (eqb r.kind 7 && eqb r.count 1) refl
    where
      try : (b : Bool) → (eqb r.kind 7 && eqb r.count 1) ≡ b → step S k (pick b (binary r) r) ≡ step S k r
      try true e = let c = both_true (eqb r.kind 7) (eqb r.count 1) e in sym (one_literal_lem r seven (equal r.kind 7 c.0) (equal r.count 1 c.1))
      try false e = refl

read_binary : (S : State) (k : ℕ) (rs : List Record) → Shaped rs → read S k (map as_binary rs) ≡ read S k rs
read_binary S k [] h = refl
read_binary S k (r ∷ rs) h =
    ap (λ (o : Result). elim o [ stands T ↦ read T (suc k) (map as_binary rs) | refused reason ↦ refused_at S reason k ]) (as_binary_lem S k r h.0)
    ∙ after (step S k r) (λ T. read_binary T (suc k) rs h.1)
  where
    after : (o : Result) → ((T : State) → read T (suc k) (map as_binary rs) ≡ read T (suc k) rs)
        → ◌≡◌ {A = Ending} (elim o [ stands T ↦ read T (suc k) (map as_binary rs) | refused reason ↦ refused_at S reason k ]) (elim o [ stands T ↦ read T (suc k) rs | refused reason ↦ refused_at S reason k ])
    after (stands T) f = f T
    after (refused reason) f = refl

written_binary_lem : (file other : File) → other.form ≡ file.form → length other.bytes ≡ length file.bytes → records other ≡ map as_binary (records file) → (lengths : Lengths) → reading other lengths ≡ reading file lengths
unfolding ending
written_binary_lem file other f l e lengths =
    let same : ending other ≡ ending file = ap (read empty_state 0) e ∙ read_binary empty_state 0 (records file) (records_shaped file) in
    (λ i. pick (fitting_length (f i) (l i)) (pick (long_enough lengths) (read_to (same i)) (untouched shortTable)) (untouched badLength))

pub several_shown : (file : File) → SeveralLiterals file
several_shown file = record { one_literal = λ S k r seven p q. one_literal_lem S k r seven p q; uses_counted = uses_length; written_binary = written_binary_lem file }
