-- The fields of a record closed up one by one are those of the list that its kind gives; and one number, case by case.
use mathlib.Core.Path.{◌≡◌, refl, sym, ap, ap₂, ◌∙◌}
use mathlib.Core.Bool.{Bool, true, false}
use mathlib.Core.List.{List, [], ◌∷◌, ◌++◌, map}
use Prim.Native.Nat.{ℕ, zero, suc, ◌+◌, ◌-◌, ◌*◌, ◌%◌, ◌≤◌, ◌<◌}
use native.Mathlib.Omega.{arith}
use lib.Dec.{eqb, ltb}
use lib.ListN.{get_or, take, drop}
use lib.Seq.{drop-drop}
use borrow.Author.Tests.{ltb-true, ltb-false, eqb-true, eqb-false}
use Rattle.record.specs.Record.{pick, decoded, count_of, field_of, fields_of, otherKind, Kind, symbolKind, variableKind, applicationKind, inputKind, resolveKind, factorKind, severalKind, windowKind}
use Rattle.renumbering.specs.Renumbering.{Renumbering}
use Rattle.verdict.specs.Refusal.{kind_of_record}
use Rattle.naming.specs.Naming.{named_in, record_named}
use Rattle.naming.specs.declared.Named.{Named}
use Rattle.naming.specs.declared.Named.TheVariants.{Nothing, Symbol, Row, Literal, Clause}
use Rattle.naming.proofs.NamedRecords.{NamedBelow, literals_named, arguments_named}
use Rattle.trimming.specs.Trimming.{closed_fields}
use Rattle.marking.specs.Marking.{by_records}
use Rattle.close_up.specs.ClosedField.{closed_number, closed_field}

-- ── All fields ──
abbrev pub closed_from : Renumbering → (ℕ → Named) → ℕ → List ℕ → List ℕ
closed_from N at i [] = []
closed_from N at i (f ∷ fs) = closed_number N (at i) f ∷ closed_from N at (suc i) fs

none_split : (h : ℕ → ℕ) (k : ℕ) → [] ≡ map h (take k []) ++ drop k []
none_split h zero = refl
none_split h (suc k) = refl

module _ (N : Renumbering) where
  module _ (at : ℕ → Named) (what : Named) (bound from : ℕ) (below : NamedBelow at what bound from) where
    abbrev split : ℕ → List ℕ → List ℕ
    split k fs = map (closed_number N what) (take k fs) ++ drop k fs

    first_closed : (fs : List ℕ) (i : ℕ) → from ≤ i → closed_from N at i fs ≡ split (bound - i) fs
    first_closed [] i h = none_split (closed_number N what) (bound - i)
    first_closed (f ∷ fs) i h = ap (λ (w : Named). closed_number N w f ∷ closed_from N at (suc i) fs) (below i h) ∙ try (ltb i bound) refl (first_closed fs (suc i) (omega arith))
      where
        try : (b : Bool) → ltb i bound ≡ b → closed_from N at (suc i) fs ≡ split (bound - suc i) fs → closed_number N (pick b what Nothing) f ∷ closed_from N at (suc i) fs ≡ split (bound - i) (f ∷ fs)
        try true e ih =
            let l = ltb-true i bound e in
            let z : bound - i ≡ suc (bound - suc i) = omega arith in
            ap (λ (l : List ℕ). closed_number N what f ∷ l) ih ∙ sym (ap (λ (k : ℕ). split k (f ∷ fs)) z)
        try false e ih =
            let l = ltb-false i bound e in
            let y : bound - suc i ≡ 0 = omega arith in
            let z : bound - i ≡ 0 = omega arith in
            ap (λ (l : List ℕ). f ∷ l) (ih ∙ ap (λ (k : ℕ). split k fs) y) ∙ sym (ap (λ (k : ℕ). split k (f ∷ fs)) z)

  module _ (part : List ℕ) where
    abbrev Same : Kind → Type 0
    Same kind = closed_fields N kind (decoded part) ≡ closed_from N (named_in kind (count_of part)) 0 (fields_of part)

    application_same : Same applicationKind
    application_same =
        let z : suc (count_of part) - 1 ≡ count_of part = omega arith in
        sym (ap (λ (l : List ℕ). N.symbol (field_of part 0) ∷ l)
        (first_closed (named_in applicationKind (count_of part)) Row (suc (count_of part)) 1 (arguments_named (count_of part)) (drop 1 (fields_of part)) 1 (omega arith)
        ∙ ap (λ (k : ℕ). map N.row (take k (drop 1 (fields_of part))) ++ drop k (drop 1 (fields_of part))) z
        ∙ ap (λ (l : List ℕ). map N.row (take (count_of part) (drop 1 (fields_of part))) ++ l) (drop-drop (count_of part) 1 (fields_of part))))

    input_same : Same inputKind
    input_same =
        let z : count_of part - 0 ≡ count_of part = omega arith in
        sym (first_closed (named_in inputKind (count_of part)) Literal (count_of part) 0 (literals_named (count_of part)) (fields_of part) 0 (omega arith)
        ∙ ap (λ (k : ℕ). map (closed_number N Literal) (take k (fields_of part)) ++ drop k (fields_of part)) z)

    pub fields_same : (kind : Kind) → Same kind
    fields_same applicationKind = application_same
    fields_same inputKind = input_same
    fields_same resolveKind = refl
    fields_same severalKind = refl
    fields_same factorKind = refl
    fields_same windowKind = refl
    fields_same symbolKind = refl
    fields_same variableKind = refl
    fields_same otherKind = refl

-- ── One number ──
small : (n : ℕ) → n < 65536 → n ≡ n % 65536
small n h = omega arith

sign_bit : (n : ℕ) → n % 2 ≡ pick (eqb (n % 2) 1) 1 0
sign_bit n = try (eqb (n % 2) 1) refl
  where
    try : (b : Bool) → eqb (n % 2) 1 ≡ b → n % 2 ≡ pick b 1 0
    try true e = eqb-true (n % 2) 1 e
    try false e = let h : ¬ (n % 2 ≡ 1) = eqb-false (n % 2) 1 e in omega (arith, h)

module _ (symbols rows clauses numbers : List ℕ) (what : Named) (n : ℕ) {k new : ℕ} (isRecord : k ≡ record_named symbols rows clauses what n) (isNew : new ≡ get_or numbers k 0) where
  abbrev N : Renumbering
  N = by_records symbols rows clauses numbers

  told : (w : Named) {m : ℕ} → what ≡ w → m ≡ closed_number N w n % 65536 → m ≡ closed_number N what n % 65536
  told w e q = q ∙ sym (ap (λ (x : Named). closed_number N x n % 65536) e)

  got : (w : Named) → what ≡ w → new ≡ get_or numbers (record_named symbols rows clauses w n) 0
  got w e = isNew ∙ ap (λ (x : ℕ). get_or numbers x 0) (isRecord ∙ ap (λ (x : Named). record_named symbols rows clauses x n) e)

  pub nothing_closed : what ≡ Nothing → n < 65536 → n ≡ closed_number N what n % 65536
  nothing_closed e h = told Nothing e (small n h)

  pub symbol_closed : what ≡ Symbol → new < 65536 → new ≡ closed_number N what n % 65536
  symbol_closed e h = told Symbol e (small new h ∙ ap (λ (x : ℕ). x % 65536) (got Symbol e))

  pub row_closed : what ≡ Row → new < 65536 → new ≡ closed_number N what n % 65536
  row_closed e h = told Row e (small new h ∙ ap (λ (x : ℕ). x % 65536) (got Row e))

  pub clause_closed : what ≡ Clause → new < 65536 → new ≡ closed_number N what n % 65536
  clause_closed e h = told Clause e (small new h ∙ ap (λ (x : ℕ). x % 65536) (got Clause e))

  pub literal_closed : what ≡ Literal → (2 * new + n % 2) % 65536 ≡ closed_number N what n % 65536
  literal_closed e = told Literal e (ap₂ (λ (x y : ℕ). (2 * x + y) % 65536) (got Literal e) (sign_bit n))

-- One field.
pub field_closed : (N : Renumbering) (part : List ℕ) (i : ℕ) {what : Named} {n m : ℕ} → what ≡ named_in (kind_of_record (decoded part)) (count_of part) i → n ≡ field_of part i
    → m ≡ closed_number N what n % 65536 → m ≡ closed_field N part i
field_closed N part i w p q = q ∙ (λ t. closed_number N (w t) (p t) % 65536)
