-- The record of a clause has its kind and its parents: what the program reads off the file is what the derivation has.
use mathlib.Core.Path.{◌≡◌, refl, sym, ap, ◌∙◌, subst}
use mathlib.Core.Logic.{◌⊎◌, inl, inr}
use mathlib.Core.Bool.{Bool, true, false}
use mathlib.Core.Option.{some}
use mathlib.Core.List.{List, [], ◌∷◌, map}
use Prim.Native.Nat.{ℕ, suc}
use native.Mathlib.Omega.{arith}
use lib.Dec.{eqb}
use lib.ListN.{length, drop, length-drop, length-map, get_or}
use Rattle.record.specs.Record.{pick, record_at, File, Record, records, record_part, kind_of, field_of, field_a, field_c}
use Rattle.record.proofs.Records.{decoded_fields, decoded_kind, Shaped, records_length, records_shaped, record_numbered}
use Rattle.unification.proofs.Lists.{Each}
use Rattle.unification.proofs.Tests.{some_not_none, some_injective}
use Rattle.derivation.specs.Derivation.{Derivation, input, resolve, factor, clause_number}
use Rattle.demands.specs.Conditions.{RightLiterals, of_one, of_some}
use Rattle.demands.specs.Demands.{Adds, adds_symbol, adds_variable, adds_application, adds_input, adds_resolvent, adds_factor, adds_window}
use Rattle.verdict.specs.State.{State, empty_state, entry, derivations, clause_of}
use Rattle.verdict.specs.Step.{stands, refused, Result, step, read, all_stand, refused_at}
use Rattle.verdict.specs.Verdict.{ending, Stands}
use Rattle.demands.proofs.Added.{step_adds}
use Rattle.verdict.proofs.Endings.{ending_stands, stands_not_refused}
use Rattle.demands.proofs.Sources.{Sourced, step_sourced, number_of}

-- The record part of a clause, by its derivation.
abbrev pub Recorded : List ℕ → Derivation → Type 0
Recorded part (input number ls) = kind_of part ≡ 4
Recorded part (resolve number l a r ns bs) = ((kind_of part ≡ 5) ⊎ (kind_of part ≡ 7)) × (field_of part 0 ≡ clause_number l) × (field_of part 2 ≡ clause_number r)
Recorded part (factor number d a b bs) = (kind_of part ≡ 6) × (field_of part 0 ≡ clause_number d)

pub record Kept (F : File) (S : State) : Type 0 where
  pub recorded : Each (λ (c : ℕ × Derivation). Recorded (record_part F c.0) c.1) S.clauses
  pub sourced : Sourced (derivations S)

same_head_lem : {p q : Record} {ps qs : List Record} → p ∷ ps ≡ q ∷ qs → p ≡ q
same_head_lem e = cc

same_tail : {p q : Record} {ps qs : List Record} → p ∷ ps ≡ q ∷ qs → ps ≡ qs
same_tail e = cc

-- Record k of a file, in its list of records.
record_here : (F : File) (k : ℕ) (r : Record) (rs : List Record) → drop k (records F) ≡ r ∷ rs → (record_at F k ≡ r) × (drop (suc k) (records F) ≡ rs)
record_here F k r rs q =
    let n = records_length F in
    let l = length-drop k (records F) in
    let m = ap length q in
    let e = sym (record_numbered F k (omega arith)) ∙ q in
    (same_head_lem e, same_tail e)

module _ (F : File) (S : State) (k : ℕ) (r : Record) (T : State) (H : Kept F S) (here : record_at F k ≡ r) where
  -- A record that makes no clause.
  unchanged : (U : State) → T ≡ U → U.clauses ≡ S.clauses → Each (λ (c : ℕ × Derivation). Recorded (record_part F c.0) c.1) T.clauses
  unchanged U e w = subst (Each (λ (c : ℕ × Derivation). Recorded (record_part F c.0) c.1)) (sym (ap (λ (X : State). X.clauses) e ∙ w)) H.recorded

  kind_here : kind_of (record_part F k) ≡ r.kind
  kind_here = sym (decoded_kind F.form (record_part F k)) ∙ ap (λ (x : Record). x.kind) here

  field_a_lem : field_of (record_part F k) 0 ≡ field_a r
  field_a_lem = ap (λ (l : List ℕ). get_or l 0 0) (sym (decoded_fields F.form (record_part F k))) ∙ ap field_a here

  field_c_lem : field_of (record_part F k) 2 ≡ field_c r
  field_c_lem = ap (λ (l : List ℕ). get_or l 2 0) (sym (decoded_fields F.form (record_part F k))) ∙ ap field_c here

  new : (c : Derivation) → T.clauses ≡ (k, c) ∷ S.clauses → Recorded (record_part F k) c → Each (λ (x : ℕ × Derivation). Recorded (record_part F x.0) x.1) T.clauses
  new c e R = subst (Each (λ (x : ℕ × Derivation). Recorded (record_part F x.0) x.1)) (sym e) (R, H.recorded)

  number : (n : ℕ) (c : Derivation) → clause_of S n ≡ some c → n ≡ clause_number c
  number n c q = sym (number_of (derivations S) H.sourced n c q)

  resolve_kind : {ns : List ℕ} → RightLiterals r ns → (kind_of (record_part F k) ≡ 5) ⊎ (kind_of (record_part F k) ≡ 7)
  resolve_kind (of_one e) = inl (kind_here ∙ e)
  resolve_kind (of_some e) = inr (kind_here ∙ e)

  recorded_by : Adds S k r T → Each (λ (c : ℕ × Derivation). Recorded (record_part F c.0) c.1) T.clauses
  recorded_by (adds_symbol e q) = unchanged _ q refl
  recorded_by (adds_variable e j q) = unchanged _ q refl
  recorded_by (adds_application e l h j q) = unchanged _ q refl
  recorded_by (adds_input e l h q) = new _ (ap (λ (X : State). X.clauses) q) (kind_here ∙ e)
  recorded_by (adds_resolvent {left} {right} R G q) = new _ (ap (λ (X : State). X.clauses) q) (resolve_kind R.is_resolve, field_a_lem ∙ number (field_a r) left R.is_left, field_c_lem ∙ number (field_c r) right R.is_right)
  recorded_by (adds_factor {parent} P G q) = new _ (ap (λ (X : State). X.clauses) q) (kind_here ∙ P.is_factor, field_a_lem ∙ number (field_a r) parent P.is_parent)
  recorded_by (adds_window e q) = unchanged _ q refl

  pub step_kept : length r.fields ≡ 7 → step S k r ≡ stands T → Kept F T
  step_kept seven q = record { recorded = recorded_by (step_adds S k r T seven q); sourced = step_sourced S k r T seven q H.sourced }

read_kept : (F : File) (S : State) (k : ℕ) (rs : List Record) (T : State) → drop k (records F) ≡ rs → Shaped rs → Kept F S → read S k rs ≡ all_stand T → Kept F T
read_kept F S k [] T d h H q = subst (Kept F) (ending_stands q) H
read_kept F S k (r ∷ rs) T d h H q = try (step S k r) refl q (λ U g p. read_kept F U (suc k) rs T (record_here F k r rs d).1 h.1 g p)
  where
    try : (o : Result) → step S k r ≡ o → elim o [ stands U ↦ read U (suc k) rs | refused p ↦ refused_at S p k ] ≡ all_stand T
        → ((U : State) → Kept F U → read U (suc k) rs ≡ all_stand T → Kept F T) → Kept F T
    try (stands U) e p ih = ih U (step_kept F S k r U H (record_here F k r rs d).0 h.0 e) p
    try (refused p) e z ih = absurd (stands_not_refused (sym z))

pub stands_kept : (file : File) (S : State) → Stands file S → Kept file S
unfolding ending
stands_kept file S st = read_kept file empty_state 0 (records file) S refl (records_shaped file) (record { recorded = tt; sourced = tt }) st.reads

-- A clause with its record, and without.
pub with_record_lem : (cs : List (ℕ × Derivation)) (n : ℕ) (c : Derivation) → entry (map (λ (x : ℕ × Derivation). x.1) cs) n ≡ some c → (k : ℕ) × (entry cs n ≡ some (k, c))
with_record_lem [] n c q = absurd (some_not_none refl q)
with_record_lem (x ∷ cs) n c q = try (eqb n (length (map (λ (y : ℕ × Derivation). y.1) cs))) refl q (λ p. with_record_lem cs n c p)
  where
    same : eqb n (length (map (λ (y : ℕ × Derivation). y.1) cs)) ≡ eqb n (length cs)
    same = ap (eqb n) (length-map cs (λ (y : ℕ × Derivation). y.1))

    try : (b : Bool) → eqb n (length (map (λ (y : ℕ × Derivation). y.1) cs)) ≡ b → pick b (some x.1) (entry (map (λ (y : ℕ × Derivation). y.1) cs) n) ≡ some c
        → (entry (map (λ (y : ℕ × Derivation). y.1) cs) n ≡ some c → (k : ℕ) × (entry cs n ≡ some (k, c))) → (k : ℕ) × (entry (x ∷ cs) n ≡ some (k, c))
    try true e z ih = (x.0, ap (λ (b : Bool). pick b (some x) (entry cs n)) (sym same ∙ e) ∙ ap (λ (d : Derivation). some (x.0, d)) (some_injective z))
    try false e z ih = let w = ih z in (w.0, ap (λ (b : Bool). pick b (some x) (entry cs n)) (sym same ∙ e) ∙ w.1)
