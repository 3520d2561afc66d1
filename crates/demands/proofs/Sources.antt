-- Every clause of a state stands at its number, and its parents are earlier clauses, which stand at theirs.
use mathlib.Core.Path.{◌≡◌, refl, sym, ap, ◌∙◌, subst}
use mathlib.Core.Bool.{Bool, true, false}
use mathlib.Core.Option.{some}
use mathlib.Core.List.{List, [], ◌∷◌}
use Prim.Native.Nat.{ℕ, ◌≤◌}
use native.Mathlib.Omega.{arith}
use lib.Dec.{eqb, eqb→eq}
use lib.ListN.{length, length-map, length-take}
use Rattle.record.specs.Record.{pick, Record, otherKind, Kind, symbolKind, variableKind, applicationKind, inputKind, resolveKind, factorKind, severalKind, windowKind, field_a, field_b, field_c}
use Rattle.unification.proofs.Tests.{to_t, some_not_none, some_injective}
use Rattle.derivation.specs.Derivation.{input, Derivation, resolve, factor, clause_number}
use Rattle.verdict.specs.Refusal.{kind_of_record, left_of, right_numbers, right_of, deleted_of}
use Rattle.verdict.specs.State.{State, entry, derivations, next_clause}
use Rattle.verdict.specs.Step.{stands, step, unify_resolve, unify_factor, new_literals, enter_resolvent, enter}
use Rattle.demands.proofs.Inversions.{tests_passed, stands_same, step_stands, named_stands, clause_added, PassedResolve, Passed}
use Rattle.demands.proofs.RangeTests.{IsResolve, on_one, on_several}
use Rattle.demands.proofs.StepTests.{few_rights}
use Rattle.demands.proofs.Steps.{named_resolve, named_factor}

-- Clause d over the clauses before it.
abbrev pub SourceOf : List Derivation → Derivation → Type 0
SourceOf older (input number ls) = (number ≡ length older) × (length ls ≤ 7)
SourceOf older (resolve number l a r ns bs) =
    (number ≡ length older) × (entry older (clause_number l) ≡ some l) × (entry older (clause_number r) ≡ some r) × (1 ≤ length ns) × (length ns ≤ 4)
SourceOf older (factor number d a b bs) = (number ≡ length older) × (entry older (clause_number d) ≡ some d)

abbrev pub Sourced : List Derivation → Type 0
Sourced [] = Unit {0}
Sourced (c ∷ cs) = SourceOf cs c × Sourced cs

-- The clauses before clause n.
abbrev pub earlier {ℓ} : {A : Type ℓ} → List A → ℕ → List A
earlier [] n = []
earlier (c ∷ cs) n = pick (eqb n (length cs)) cs (earlier cs n)

pub source_of : (cs : List Derivation) → Sourced cs → (n : ℕ) (c : Derivation) → entry cs n ≡ some c → SourceOf (earlier cs n) c
source_of [] G n c q = absurd (some_not_none refl q)
source_of (k ∷ ks) G n c q = try (eqb n (length ks)) q (λ p. source_of ks G.1 n c p)
  where
    try : (b : Bool) → pick b (some k) (entry ks n) ≡ some c → (entry ks n ≡ some c → SourceOf (earlier ks n) c) → SourceOf (pick b ks (earlier ks n)) c
    try true p h = subst (SourceOf ks) (some_injective p) G.0
    try false p h = h p

pub earlier_length : {A : Type 0} (cs : List A) (n : ℕ) (c : A) → entry cs n ≡ some c → length (earlier cs n) ≡ n
earlier_length [] n c q = absurd (some_not_none refl q)
earlier_length {A} (k ∷ ks) n c q = try (eqb n (length ks)) refl q (λ p. earlier_length ks n c p)
  where
    try : (b : Bool) → eqb n (length ks) ≡ b → pick b (some k) (entry ks n) ≡ some c → (entry ks n ≡ some c → length (earlier ks n) ≡ n) → length (pick b ks (earlier ks n)) ≡ n
    try true e p h = sym (eqb→eq n (length ks) (to_t (eqb n (length ks)) e))
    try false e p h = h p

own_number_lem : (older : List Derivation) (c : Derivation) → SourceOf older c → clause_number c ≡ length older
own_number_lem older (input number ls) s = s.0
own_number_lem older (resolve number l a r ns bs) s = s.0
own_number_lem older (factor number d a b bs) s = s.0

-- A clause's number is the one at which it stands.
pub number_of : (cs : List Derivation) → Sourced cs → (n : ℕ) (c : Derivation) → entry cs n ≡ some c → clause_number c ≡ n
number_of cs H n c q = own_number_lem (earlier cs n) c (source_of cs H n c q) ∙ earlier_length cs n c q

module _ (S : State) (k : ℕ) (rec : Record) (T : State) (seven : length rec.fields ≡ 7) where
  abbrev Kept : State → Type 0
  Kept U = Sourced (derivations U)

  at_own : Sourced (derivations S) → (n : ℕ) (c : Derivation) → entry (derivations S) n ≡ some c → entry (derivations S) (clause_number c) ≡ some c
  at_own h n c q = ap (entry (derivations S)) (number_of (derivations S) h n c q) ∙ q

  few : length (new_literals S rec) ≤ 7
  few = rw length-map (rw length-map (rw length-take (omega (arith, seven))))

  resolvent_entered : (kind : Kind) → IsResolve kind → PassedResolve S kind rec → enter_resolvent S k kind rec ≡ stands T → Sourced (derivations S) → Sourced (derivations T)
  resolvent_entered kind i a q h =
      let s = named_stands _ (left_of S rec) (right_of S kind rec) T q in
      let N = named_resolve S kind rec s.0 s.1 s.2 s.3 a in
      let c = clause_added S k (resolve (next_clause S) s.0.0 (field_b rec) s.1.0 (right_numbers kind rec)) (unify_resolve S s.0 s.1) T s.4 in
      let f = few_rights S rec seven kind i a.ranged in
      subst Kept c.3 ((refl, at_own h (field_a rec) s.0.0 N.is_left, at_own h (field_c rec) s.1.0 N.is_right, f.0, f.1), h)

  source_entered : (kind : Kind) → Passed S kind rec → enter S k kind rec ≡ stands T → Sourced (derivations S) → Sourced (derivations T)
  source_entered symbolKind a q h = subst Kept (stands_same q) h
  source_entered variableKind a q h = subst Kept (stands_same q) h
  source_entered applicationKind a q h = subst Kept (stands_same q) h
  source_entered inputKind a q h = subst Kept (stands_same q) ((refl, few), h)
  source_entered resolveKind a q h = resolvent_entered resolveKind on_one a q h
  source_entered severalKind a q h = resolvent_entered severalKind on_several a q h
  source_entered factorKind a q h =
      let s = named_stands _ (left_of S rec) (deleted_of S rec) T q in
      let N = named_factor S rec s.0 s.1 s.2 s.3 a in
      let c = clause_added S k (factor (next_clause S) s.0.0 (field_b rec) (field_c rec)) (unify_factor S s.0 s.1) T s.4 in
      subst Kept c.3 ((refl, at_own h (field_a rec) s.0.0 N.is_parent), h)
  source_entered windowKind a q h = subst Kept (stands_same q) h
  source_entered otherKind a q h = absurd a

  pub step_sourced : step S k rec ≡ stands T → Sourced (derivations S) → Sourced (derivations T)
  step_sourced q h =
      let a = step_stands S k rec T q in
      source_entered (kind_of_record rec) (tests_passed S (kind_of_record rec) rec a.0) a.1 h
