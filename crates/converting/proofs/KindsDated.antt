-- A record's kind by its number, and with other days beside it.
use mathlib.Core.Path.{◌≡◌, refl, sym, ap, ap₂, ◌∙◌, subst}
use mathlib.Core.Bool.{Bool, true, false, ◌&&◌}
use mathlib.Core.Option.{Option}
use Prim.Native.Nat.{ℕ, suc}
use lib.Dec.{eqb, leb, eqb→eq, eqb_refl}
use Rattle.record.specs.Record.{pick, Record, otherKind, Kind, symbolKind, variableKind, applicationKind, inputKind, resolveKind, factorKind, severalKind, windowKind, kind_numbered}
use Rattle.record.specs.Sorts.{clauses_after}
use Rattle.unification.proofs.Tests.{to_t, from_t, true_not_false}
use Rattle.verdict.specs.Refusal.{has_days, kind_of_record}

-- ── Tests ──
pub not_true : (b : Bool) → ¬ (b ≡ true) → b ≡ false
not_true true h = absurd (h refl)
not_true false h = refl

pub equal : (a b : ℕ) → eqb a b ≡ true → a ≡ b
equal a b q = eqb→eq a b (to_t (eqb a b) q)

pub eqb_itself : (a : ℕ) → eqb a a ≡ true
eqb_itself a = from_t (eqb a a) (eqb_refl a)

pub eqb_swap : (a b : ℕ) → eqb a b ≡ eqb b a
eqb_swap a b = try (eqb a b) refl
  where
    try : (x : Bool) → eqb a b ≡ x → x ≡ eqb b a
    try true q = sym (ap (λ (c : ℕ). eqb b c) (equal a b q) ∙ eqb_itself b)
    try false q = sym (not_true (eqb b a) (λ t. true_not_false (ap (eqb a) (equal b a t) ∙ eqb_itself a) q))

never_both : (b : Bool) → (b && false) ≡ false
never_both true = refl
never_both false = refl

-- ── Kinds ──

-- A kind's number; other kinds have none.
abbrev pub KindNumber : Kind → ℕ → Type 0
KindNumber symbolKind n = n ≡ 1
KindNumber variableKind n = n ≡ 2
KindNumber applicationKind n = n ≡ 3
KindNumber inputKind n = n ≡ 4
KindNumber resolveKind n = n ≡ 5
KindNumber factorKind n = n ≡ 6
KindNumber severalKind n = n ≡ 7
KindNumber windowKind n = n ≡ 8
KindNumber otherKind n = Unit {0}

kind_number : (n : ℕ) → KindNumber (kind_numbered n) n
kind_number n =
    choose 1 symbolKind _ (λ e. e)
    (choose 2 variableKind _ (λ e. e)
    (choose 3 applicationKind _ (λ e. e)
    (choose 4 inputKind _ (λ e. e)
    (choose 5 resolveKind _ (λ e. e)
    (choose 6 factorKind _ (λ e. e)
    (choose 7 severalKind _ (λ e. e)
    (choose 8 windowKind otherKind (λ e. e) tt)))))))
  where
    choose : (m : ℕ) (kind rest : Kind) → (n ≡ m → KindNumber kind n) → KindNumber rest n → KindNumber (pick (eqb n m) kind rest) n
    choose m kind rest h k = try (eqb n m) refl
      where
        try : (b : Bool) → eqb n m ≡ b → KindNumber (pick b kind rest) n
        try true q = h (equal n m q)
        try false q = k

pub of_kind_lem : (r : Record) → KindNumber (kind_of_record r) r.kind
of_kind_lem r = try (has_days r.days && eqb r.kind 8)
  where
    try : (b : Bool) → KindNumber (pick b otherKind (kind_numbered r.kind)) r.kind
    try true = tt
    try false = kind_number r.kind

-- The kinds that no day matters to.
abbrev pub Plain : Kind → Type 0
Plain symbolKind = Unit {0}
Plain variableKind = Unit {0}
Plain applicationKind = Unit {0}
Plain resolveKind = Unit {0}
Plain factorKind = Unit {0}
Plain severalKind = Unit {0}
Plain inputKind = ⊥
Plain windowKind = ⊥
Plain otherKind = ⊥

-- Whether a record of a kind is a clause.
abbrev pub clause_kind : Kind → Bool
clause_kind symbolKind = false
clause_kind variableKind = false
clause_kind applicationKind = false
clause_kind inputKind = true
clause_kind resolveKind = true
clause_kind factorKind = true
clause_kind severalKind = true
clause_kind windowKind = false
clause_kind otherKind = false

-- What the number of such a kind says to the tests of records.
pub record PlainNumber (kind : Kind) (n : ℕ) : Type 0 where
  pub named : kind_numbered n ≡ kind
  pub no_input : eqb n 4 ≡ false
  pub no_window : eqb n 8 ≡ false
  pub clause : (leb 4 n && leb n 7) ≡ clause_kind kind

pub plain_number : (kind : Kind) (n : ℕ) → Plain kind → KindNumber kind n → PlainNumber kind n
plain_number symbolKind n p e = subst (PlainNumber symbolKind) (sym e) (record { named = refl; no_input = refl; no_window = refl; clause = refl })
plain_number variableKind n p e = subst (PlainNumber variableKind) (sym e) (record { named = refl; no_input = refl; no_window = refl; clause = refl })
plain_number applicationKind n p e = subst (PlainNumber applicationKind) (sym e) (record { named = refl; no_input = refl; no_window = refl; clause = refl })
plain_number resolveKind n p e = subst (PlainNumber resolveKind) (sym e) (record { named = refl; no_input = refl; no_window = refl; clause = refl })
plain_number factorKind n p e = subst (PlainNumber factorKind) (sym e) (record { named = refl; no_input = refl; no_window = refl; clause = refl })
plain_number severalKind n p e = subst (PlainNumber severalKind) (sym e) (record { named = refl; no_input = refl; no_window = refl; clause = refl })
plain_number inputKind n p e = absurd p
plain_number windowKind n p e = absurd p
plain_number otherKind n p e = absurd p

-- A record with other days.
abbrev pub dated : Record → Option (ℕ × ℕ) → Record
dated r days = record { kind = r.kind; count = r.count; fields = r.fields; days = days }

module _ (r : Record) where
  -- Its kind is the same, unless it is a window.
  kind_dated : (days : Option (ℕ × ℕ)) (kind : Kind) → eqb r.kind 8 ≡ false → kind_numbered r.kind ≡ kind → kind_of_record (dated r days) ≡ kind
  kind_dated days kind w e = ap₂ (λ (b : Bool) (x : Kind). pick (has_days days && b) otherKind x) w e ∙ ap (λ (b : Bool). pick b otherKind kind) (never_both (has_days days))

  pub plain_dated : (days : Option (ℕ × ℕ)) (kind : Kind) → PlainNumber kind r.kind → kind_of_record (dated r days) ≡ kind
  plain_dated days kind n = kind_dated days kind n.no_window n.named

  pub input_dated : (days : Option (ℕ × ℕ)) → r.kind ≡ 4 → kind_of_record (dated r days) ≡ inputKind
  input_dated days e = kind_dated days inputKind (ap (λ (n : ℕ). eqb n 8) e) (ap kind_numbered e)

  -- The number of the next clause after an input clause, and after a window.
  pub after_input : (n : ℕ) → r.kind ≡ 4 → clauses_after n r ≡ suc n
  after_input n e = ap (λ (m : ℕ). pick (leb 4 m && leb m 7) (suc n) n) e

  pub after_window : (n : ℕ) → r.kind ≡ 8 → clauses_after n r ≡ n
  after_window n e = ap (λ (m : ℕ). pick (leb 4 m && leb m 7) (suc n) n) e
