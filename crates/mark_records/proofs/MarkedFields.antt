-- The marks of a record's fields, one after another, are those of the list of what it names.
use mathlib.Core.Path.{◌≡◌, refl, sym, ap, ap₂, ◌∙◌}
use mathlib.Core.Bool.{Bool, true, false}
use mathlib.Core.List.{List, [], ◌∷◌, map}
use Prim.Native.Nat.{ℕ, zero, suc, ◌+◌, ◌-◌, ◌/◌, ◌≤◌, ◌<◌}
use native.Mathlib.Numerals.{add-one}
use native.Mathlib.Omega.{arith}
use lib.Dec.{ltb}
use lib.ListN.{get_or, set, take, drop}
use lib.Seq.{drop-cons}
use borrow.Author.Tests.{ltb-true, ltb-false}
use Rattle.record.specs.Record.{pick, decoded, kind_of, count_of, field_of, fields_of, otherKind, Kind, symbolKind, variableKind, applicationKind, inputKind, resolveKind, factorKind, severalKind, windowKind}
use Rattle.derivation.specs.Derivation.{RowLiteral, literal_of}
use Rattle.verdict.specs.Refusal.{kind_of_record}
use Rattle.naming.specs.Naming.{named_in, is_nothing, record_named}
use Rattle.naming.specs.declared.Named.{Named}
use Rattle.naming.specs.declared.Named.TheVariants.{Nothing, Row, Literal}
use Rattle.naming.proofs.NamedRecords.{NamedBelow, literals_named, arguments_named}
use Rattle.marking.specs.Marking.{named, marked, is_window}
use Rattle.mark_records.specs.FieldsMarked.{field_marked, fields_marked}
use Rattle.mark_records.proofs.Windows.{no_window_lem}

take_none : (k : ℕ) → ◌≡◌ {A = List ℕ} (take k []) []
take_none zero = refl
take_none (suc k) = refl

rows_of_literals : (rows : List ℕ) (fs : List ℕ) → map (λ (l : RowLiteral). get_or rows l.1 0) (map literal_of fs) ≡ map (λ (m : ℕ). get_or rows (m / 2) 0) fs
rows_of_literals rows [] = refl
rows_of_literals rows (f ∷ fs) = ap (λ (l : List ℕ). get_or rows (f / 2) 0 ∷ l) (rows_of_literals rows fs)

module _ (symbols rows clauses : List ℕ) where
  -- ── The first fields below a bound ──
  module _ (at : ℕ → Named) (what : Named) (bound from : ℕ) (some : is_nothing what ≡ false) (below : NamedBelow at what bound from) where
    first_marked : (fs : List ℕ) (i : ℕ) (marks : List ℕ) → from ≤ i
        → fields_marked symbols rows clauses at i fs marks ≡ marked symbols rows clauses marks (map (record_named symbols rows clauses what) (take (bound - i) fs))
    first_marked [] i marks h = sym (ap (λ (l : List ℕ). marked symbols rows clauses marks (map (record_named symbols rows clauses what) l)) (take_none (bound - i)))
    first_marked (f ∷ fs) i marks h = ap (λ (w : Named). fields_marked symbols rows clauses at (suc i) fs (field_marked symbols rows clauses w f marks)) (below i h) ∙ try (ltb i bound) refl (λ m. first_marked fs (suc i) m (omega arith))
      where
        try : (b : Bool) → ltb i bound ≡ b
            → ((m : List ℕ) → fields_marked symbols rows clauses at (suc i) fs m ≡ marked symbols rows clauses m (map (record_named symbols rows clauses what) (take (bound - suc i) fs)))
            → fields_marked symbols rows clauses at (suc i) fs (field_marked symbols rows clauses (pick b what Nothing) f marks) ≡ marked symbols rows clauses marks (map (record_named symbols rows clauses what) (take (bound - i) (f ∷ fs)))
        try true e ih =
            let l = ltb-true i bound e in
            let z : bound - i ≡ suc (bound - suc i) = omega arith in
            ap (λ (b : Bool). fields_marked symbols rows clauses at (suc i) fs (pick b marks (set marks (record_named symbols rows clauses what f) 1))) some
            ∙ ih (set marks (record_named symbols rows clauses what f) 1)
            ∙ sym (ap (λ (k : ℕ). marked symbols rows clauses marks (map (record_named symbols rows clauses what) (take k (f ∷ fs)))) z)
        try false e ih =
            let l = ltb-false i bound e in
            let y : bound - suc i ≡ 0 = omega arith in
            let z : bound - i ≡ 0 = omega arith in
            ih marks
            ∙ ap (λ (k : ℕ). marked symbols rows clauses marks (map (record_named symbols rows clauses what) (take k fs))) y
            ∙ sym (ap (λ (k : ℕ). marked symbols rows clauses marks (map (record_named symbols rows clauses what) (take k (f ∷ fs)))) z)

  -- ── By the kind ──
  module _ (part marks : List ℕ) where
    abbrev Same : Kind → Type 0
    Same kind =
        fields_marked symbols rows clauses (named_in kind (count_of part)) 0 (fields_of part) marks ≡ marked symbols rows clauses marks (named symbols rows clauses kind (decoded part))

    application_same : Same applicationKind
    application_same =
        let z : suc (count_of part) - 1 ≡ count_of part = omega arith in
        first_marked (named_in applicationKind (count_of part)) Row (suc (count_of part)) 1 refl (arguments_named (count_of part)) (drop 1 (fields_of part)) 1 (set marks (get_or symbols (field_of part 0) 0) 1) (omega arith)
        ∙ ap (λ (k : ℕ). marked symbols rows clauses (set marks (get_or symbols (field_of part 0) 0) 1) (map (λ (a : ℕ). get_or rows a 0) (take k (drop 1 (fields_of part))))) z

    input_same : Same inputKind
    input_same =
        let z : count_of part - 0 ≡ count_of part = omega arith in
        first_marked (named_in inputKind (count_of part)) Literal (count_of part) 0 refl (literals_named (count_of part)) (fields_of part) 0 marks (omega arith)
        ∙ ap (λ (k : ℕ). marked symbols rows clauses marks (map (λ (m : ℕ). get_or rows (m / 2) 0) (take k (fields_of part)))) z
        ∙ sym (ap (marked symbols rows clauses marks) (rows_of_literals rows (take (count_of part) (fields_of part))))

    fields_same : (kind : Kind) → is_window symbols rows clauses kind ≡ false → Same kind
    fields_same applicationKind h = application_same
    fields_same inputKind h = input_same
    fields_same resolveKind h = refl
    fields_same severalKind h = refl
    fields_same factorKind h = refl
    fields_same symbolKind h = refl
    fields_same variableKind h = refl
    fields_same otherKind h = refl
    fields_same windowKind h = absurd (let y : ◌≡◌ {A = ℕ} 0 1 = cc in omega arith)

  -- ── As the program goes ──
  module _ (part marks : List ℕ) where
    -- Seven fields.
    abbrev pub left_to_mark : ℕ → List ℕ → List ℕ
    left_to_mark i m = fields_marked symbols rows clauses (named_in (kind_of_record (decoded part)) (count_of part)) i (drop i (fields_of part)) m

    field_there : (i : ℕ) → i < 7 → get_or (fields_of part) i 0 ≡ field_of part i
    field_there zero h = refl
    field_there (suc zero) h = refl
    field_there (suc (suc zero)) h = refl
    field_there (suc (suc (suc zero))) h = refl
    field_there (suc (suc (suc (suc zero)))) h = refl
    field_there (suc (suc (suc (suc (suc zero))))) h = refl
    field_there (suc (suc (suc (suc (suc (suc zero)))))) h = refl
    field_there (suc (suc (suc (suc (suc (suc (suc i))))))) h = absurd (omega arith)

    pub field_more : (i : ℕ) (now after whole : List ℕ) → i < 7 → left_to_mark i now ≡ whole
        → after ≡ field_marked symbols rows clauses (named_in (kind_of_record (decoded part)) (count_of part) i) (field_of part i) now → left_to_mark (i + 1) after ≡ whole
    field_more i now after whole h same q =
        let one : drop i (fields_of part) ≡ field_of part i ∷ drop (suc i) (fields_of part) = drop-cons (fields_of part) i 0 h ∙ ap (λ (f : ℕ). f ∷ drop (suc i) (fields_of part)) (field_there i h) in
        ap₂ (λ (j : ℕ) (m : List ℕ). left_to_mark j m) (add-one i) q
        ∙ sym (ap (λ (fs : List ℕ). fields_marked symbols rows clauses (named_in (kind_of_record (decoded part)) (count_of part)) i fs now) one) ∙ same

    -- A record's own names.
    module _ {k : ℕ} (is_kind : k ≡ kind_of part) where
      pub names_marked : {after : List ℕ} → ¬ (k ≡ 8) → after ≡ left_to_mark 0 marks → after ≡ marked symbols rows clauses marks (named symbols rows clauses (kind_of_record (decoded part)) (decoded part))
      names_marked h q = q ∙ fields_same part marks (kind_of_record (decoded part)) (no_window_lem symbols rows clauses part is_kind h)
