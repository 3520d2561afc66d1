-- The number that a record gets and the next ones, by its kind's number.
use mathlib.Core.Path.{◌≡◌, refl, sym, ap, ◌∙◌, subst}
use mathlib.Core.Bool.{Bool, true, false}
use mathlib.Core.List.{List}
use Prim.Native.Nat.{ℕ, zero, suc, ◌+◌, ◌≤◌, ◌<◌}
use native.Mathlib.Numerals.{add-one}
use native.Mathlib.Omega.{arith}
use lib.Dec.{eqb}
use borrow.Author.Tests.{ne_eqb}
use Rattle.record.specs.Record.{pick, kind_of, decoded, otherKind, Kind, symbolKind, variableKind, applicationKind, inputKind, resolveKind, factorKind, severalKind, windowKind, kind_numbered}
use Rattle.verdict.specs.Refusal.{kind_of_record}
use Rattle.trimming.specs.Trimming.{Next, next_after}
use Rattle.marking.specs.Marking.{own_number}
use Rattle.write_trimmed.specs.Places.{next_of, After}
use Rattle.write_trimmed.specs.declared.numbering.Place.{Place}

-- ── What holds of each kind of some numbers holds of the kind of such a number ──
module _ (P : Kind → Type 0) where
  no_kind_lem : (k : ℕ) → k < 1 → P otherKind → P (kind_numbered k)
  no_kind_lem zero h p = p
  no_kind_lem (suc k) h p = absurd (omega arith)

  symbols_kind : (k : ℕ) → 1 ≤ k → k < 2 → P symbolKind → P (kind_numbered k)
  symbols_kind zero l h p = absurd (omega arith)
  symbols_kind (suc zero) l h p = p
  symbols_kind (suc (suc k)) l h p = absurd (omega arith)

  rows_kind : (k : ℕ) → 2 ≤ k → k < 4 → P variableKind → P applicationKind → P (kind_numbered k)
  rows_kind zero l h p q = absurd (omega arith)
  rows_kind (suc zero) l h p q = absurd (omega arith)
  rows_kind (suc (suc zero)) l h p q = p
  rows_kind (suc (suc (suc zero))) l h p q = q
  rows_kind (suc (suc (suc (suc k)))) l h p q = absurd (omega arith)

  clauses_kind : (k : ℕ) → 4 ≤ k → k < 8 → P inputKind → P resolveKind → P factorKind → P severalKind → P (kind_numbered k)
  clauses_kind zero l h a b d e = absurd (omega arith)
  clauses_kind (suc zero) l h a b d e = absurd (omega arith)
  clauses_kind (suc (suc zero)) l h a b d e = absurd (omega arith)
  clauses_kind (suc (suc (suc zero))) l h a b d e = absurd (omega arith)
  clauses_kind (suc (suc (suc (suc zero)))) l h a b d e = a
  clauses_kind (suc (suc (suc (suc (suc zero))))) l h a b d e = b
  clauses_kind (suc (suc (suc (suc (suc (suc zero)))))) l h a b d e = d
  clauses_kind (suc (suc (suc (suc (suc (suc (suc zero))))))) l h a b d e = e
  clauses_kind (suc (suc (suc (suc (suc (suc (suc (suc k)))))))) l h a b d e = absurd (omega arith)

  other_kind : (k : ℕ) → 8 ≤ k → P windowKind → P otherKind → P (kind_numbered k)
  other_kind k l p q =
      let no : (m : ℕ) → m < 8 → eqb k m ≡ false = λ m h. ne_eqb k m (λ e. omega arith) in
      let one = no 1 (omega arith) in
      let two = no 2 (omega arith) in
      let three = no 3 (omega arith) in
      let four = no 4 (omega arith) in
      let five = no 5 (omega arith) in
      let six = no 6 (omega arith) in
      let seven = no 7 (omega arith) in
      subst P
      (sym (λ t. pick (one t) symbolKind (pick (two t) variableKind (pick (three t) applicationKind (pick (four t) inputKind (pick (five t) resolveKind (pick (six t) factorKind (pick (seven t) severalKind (pick (eqb k 8) windowKind otherKind)))))))))
      (try (eqb k 8))
    where
      try : (b : Bool) → P (pick b windowKind otherKind)
      try true = p
      try false = q

module _ (part : List ℕ) {k : ℕ} (is_kind : k ≡ kind_of part) where
  -- ── Its own number ──
  module _ (n : Next) (symbols rows clauses : List ℕ) where
    abbrev Own : ℕ → Kind → Type 0
    Own m kind = m ≡ own_number symbols rows clauses n kind

    own : (m : ℕ) → Own m (kind_numbered k) → m ≡ own_number symbols rows clauses n (kind_of_record (decoded part))
    own m e = e ∙ ap (λ (x : ℕ). own_number symbols rows clauses n (kind_numbered x)) is_kind

    pub none_own : k < 1 → 0 ≡ own_number symbols rows clauses n (kind_of_record (decoded part))
    none_own h = own 0 (no_kind_lem (Own 0) k h refl)

    pub symbol_own : 1 ≤ k → k < 2 → n.symbol ≡ own_number symbols rows clauses n (kind_of_record (decoded part))
    symbol_own l h = own n.symbol (symbols_kind (Own n.symbol) k l h refl)

    pub row_own : 2 ≤ k → k < 4 → n.row ≡ own_number symbols rows clauses n (kind_of_record (decoded part))
    row_own l h = own n.row (rows_kind (Own n.row) k l h refl refl)

    pub clause_own : 4 ≤ k → k < 8 → n.clause ≡ own_number symbols rows clauses n (kind_of_record (decoded part))
    clause_own l h = own n.clause (clauses_kind (Own n.clause) k l h refl refl refl refl)

    pub last_own : 8 ≤ k → 0 ≡ own_number symbols rows clauses n (kind_of_record (decoded part))
    last_own l = own 0 (other_kind (Own 0) k l refl refl)

  -- ── The next numbers ──
  module _ (p : Place) where
    abbrev Then : Place → Kind → Type 0
    Then q kind = next_of q ≡ next_after (next_of p) kind

    abbrev place : ℕ → ℕ → ℕ → Place
    place s r c = record { at = p.at + 16; symbol = s; row = r; clause = c }

    after : (q : Place) → q.at ≡ p.at + 16 → Then q (kind_numbered k) → After p (kind_of_record (decoded part)) q
    after q a e = record { at = a; next = e ∙ ap (λ (x : ℕ). next_after (next_of p) (kind_numbered x)) is_kind }

    pub none_after : k < 1 → After p (kind_of_record (decoded part)) (place p.symbol p.row p.clause)
    none_after h = after (place p.symbol p.row p.clause) refl (no_kind_lem (Then (place p.symbol p.row p.clause)) k h refl)

    pub symbol_after : 1 ≤ k → k < 2 → After p (kind_of_record (decoded part)) (place (p.symbol + 1) p.row p.clause)
    symbol_after l h =
        after (place (p.symbol + 1) p.row p.clause) refl
        (symbols_kind (Then (place (p.symbol + 1) p.row p.clause)) k l h (λ t. record { symbol = add-one p.symbol t; row = p.row; clause = p.clause }))

    pub row_after : 2 ≤ k → k < 4 → After p (kind_of_record (decoded part)) (place p.symbol (p.row + 1) p.clause)
    row_after l h =
        let e : next_of (place p.symbol (p.row + 1) p.clause) ≡ next_after (next_of p) variableKind = λ t. record { symbol = p.symbol; row = add-one p.row t; clause = p.clause } in
        after (place p.symbol (p.row + 1) p.clause) refl (rows_kind (Then (place p.symbol (p.row + 1) p.clause)) k l h e e)

    pub clause_after : 4 ≤ k → k < 8 → After p (kind_of_record (decoded part)) (place p.symbol p.row (p.clause + 1))
    clause_after l h =
        let e : next_of (place p.symbol p.row (p.clause + 1)) ≡ next_after (next_of p) inputKind = λ t. record { symbol = p.symbol; row = p.row; clause = add-one p.clause t } in
        after (place p.symbol p.row (p.clause + 1)) refl (clauses_kind (Then (place p.symbol p.row (p.clause + 1))) k l h e e e e)

    pub last_after_lem : 8 ≤ k → After p (kind_of_record (decoded part)) (place p.symbol p.row p.clause)
    last_after_lem l = after (place p.symbol p.row p.clause) refl (other_kind (Then (place p.symbol p.row p.clause)) k l refl refl)
