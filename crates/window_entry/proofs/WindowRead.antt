-- A record of kind 8: what the program makes of it is what the definition makes of it.
use mathlib.Core.Path.{◌≡◌, refl, sym, ap, ap₂, ◌∙◌, subst}
use mathlib.Core.Bool.{Bool, true, false}
use mathlib.Core.Option.{Option, none, some}
use mathlib.Core.List.{List}
use Prim.Native.Nat.{ℕ, ◌+◌, ◌-◌, ◌*◌, ◌≤◌, ◌<◌}
use native.Mathlib.Omega.{arith}
use lib.Dec.{eqb, leb}
use lib.ListN.{length, get_or, replicate}
use lib.Seq.{get_or-append-add}
use borrow.Author.Tests.{eq-eqb, ne_eqb}
use Rattle.record.specs.Record.{pick, File, record_at, Record, record_count, record_part, field_of, decoded, windowKind}
use Rattle.derivation.specs.Derivation.{Derivation}
use Rattle.derivation.specs.Stored.{origin_code, origin_list, Stored, stored_input, stored_resolve, stored_factor}
use Rattle.entry.specs.Progress.{Plain, Kept, Next}
use Rattle.verdict.specs.Refusal.{outOfRange, notThere, crossedDays, kind_of_record, in_range, is_input}
use Rattle.verdict.specs.State.{State, with_window, derivations, clause_of}
use Rattle.verdict.specs.Step.{stands, require, window_in, step}
use Rattle.verdict.specs.Tables.{Tables}
use Rattle.demands.proofs.ExistenceTests.{entry_there}
use Rattle.demands.proofs.Resolution.{at_kind}
use Rattle.demands.proofs.Tabled.{origin_length}
use Rattle.entry.proofs.Kept.{kept_next}
use Rattle.entry.proofs.NodeTable.{zeros_read}
use Rattle.inference.proofs.KeptClauses.{stand_of, stored_of}
use Rattle.window_entry.specs.Window.{window_entered}
use Rattle.entry.specs.declared.entry.Counts.{Counts}
use Rattle.entry.specs.Program.{Entered}
use Rattle.std.specs.Prelude.{Ok, Err}
use Rattle.reasons.specs.declared.Reason.TheVariants.{OutOfRange, NotThere, CrossedDays}

-- The code of an origin says whether the clause is an input clause.
stored_input_lem : {O C B : List ℕ} {c : ℕ} {d : Derivation} → Stored O C B c d → eqb (origin_code O c) 1 ≡ is_input (some d)
stored_input_lem {O} {c = c} (stored_input e p q) = eq-eqb (origin_code O c) 1 e
stored_input_lem {O} {c = c} (stored_resolve {ns = ns} e a b l s p m u r q) = ne_eqb (origin_code O c) 1 (λ z. omega arith)
stored_input_lem {O} {c = c} (stored_factor e l s p q r) = ne_eqb (origin_code O c) 1 (λ z. omega arith)

module _ (F : File) (t : Tables) (k : ℕ) (S : State) (n : Counts) (here : Tables) (N O A : List ℕ) (K : Kept F t k S n here N O A) (l : k < record_count F) where
  few : k ≤ record_count F
  few = omega arith

  -- Past the last clause the table of origins has zeros.
  no_code : (c : ℕ) → length (derivations S) ≤ c → origin_code O c ≡ 0
  no_code c m =
      let r : List ℕ = replicate (32768 - 8 * length (derivations S)) 0 in
      let i : 8 * c ≡ length (origin_list (derivations S)) + (8 * c - 8 * length (derivations S)) = omega (arith, origin_length (derivations S) (stand_of K few).sourced) in
      ap₂ (λ (x : List ℕ) (j : ℕ). get_or x j 0) K.origins i
      ∙ get_or-append-add (origin_list (derivations S)) r (8 * c - 8 * length (derivations S)) 0
      ∙ zeros_read (32768 - 8 * length (derivations S)) (8 * c - 8 * length (derivations S))

  input_code : (c : ℕ) → eqb (origin_code O c) 1 ≡ is_input (clause_of S c)
  input_code c = try (clause_of S c) refl
    where
      try : (o : Option Derivation) → clause_of S c ≡ o → eqb (origin_code O c) 1 ≡ is_input o
      try none q = ap (λ (x : ℕ). eqb x 1) (no_code c (entry_there (derivations S) c q))
      try (some d) q = stored_input_lem (stored_of K few c d q)

  abbrev rec : Record
  rec = decoded (record_part F k)

  abbrev tests_of : Bool → Bool → Bool → Type 0
  tests_of a b c = step S k (record_at F k) ≡ require a outOfRange (require b notThere (require c crossedDays (stands (with_window S (window_in (decoded (record_part F k)))))))

  pub window_read : Plain F k → kind_of_record (decoded (record_part F k)) ≡ windowKind → (e : Entered) → e ≡ window_entered (record_part F k) n O → Next F t k S here N O A e
  unfolding window_entered require
  window_read plain kd e E = subst (Next F t k S here N O A) (sym E)
      (try (in_range windowKind rec) (eqb (origin_code O (field_of (record_part F k) 0)) 1) (leb (field_of (record_part F k) 1) (field_of (record_part F k) 2)) (plain S ∙ at_kind S k rec windowKind kd ∙ by_code))
    where
      by_code : require (in_range windowKind rec) outOfRange (require (is_input (clause_of S (field_of (record_part F k) 0))) notThere (require (leb (field_of (record_part F k) 1) (field_of (record_part F k) 2)) crossedDays (stands (with_window S (window_in rec)))))
          ≡ require (in_range windowKind rec) outOfRange (require (eqb (origin_code O (field_of (record_part F k) 0)) 1) notThere (require (leb (field_of (record_part F k) 1) (field_of (record_part F k) 2)) crossedDays (stands (with_window S (window_in rec)))))
      by_code = ap (λ (b : Bool). require (in_range windowKind rec) outOfRange (require b notThere (require (leb (field_of (record_part F k) 1) (field_of (record_part F k) 2)) crossedDays (stands (with_window S (window_in rec)))))) (sym (input_code (field_of (record_part F k) 0)))

      try : (a b c : Bool) → tests_of a b c → Next F t k S here N O A (pick a (pick b (pick c (Ok n) (Err CrossedDays)) (Err NotThere)) (Err OutOfRange))
      try false b c p = (p, K.tables, K.nodes, K.origins, K.values)
      try true false c p = (p, K.tables, K.nodes, K.origins, K.values)
      try true true false p = (p, K.tables, K.nodes, K.origins, K.values)
      try true true true p =
          let T = with_window S (window_in rec) in
          (T, p, kept_next F t k S n here N O A K l T p n here N O A K.counts K.tables K.nodes K.origins K.values)
