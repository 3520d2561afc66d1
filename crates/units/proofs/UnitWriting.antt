-- A unit written: what its lines ask of the check before, and what they come to.
use mathlib.Core.Path.{◌≡◌, refl, sym, ap, ◌∙◌, subst}
use mathlib.Core.Bool.{Bool, true, false}
use mathlib.Core.Option.{some}
use mathlib.Core.List.{List, [], ◌∷◌, ◌++◌}
use Prim.Native.Nat.{ℕ, zero, suc, ◌<◌}
use native.Mathlib.Omega.{arith}
use lib.Dec.{eqb}
use lib.ListN.{length}
use borrow.Author.Tests.{eqb-true, eqb-false, eq-eqb, ne_eqb}
use Rattle.record.specs.Record.{pick}
use Rattle.verdict.specs.State.{State, clause_of}
use Rattle.verdict.specs.Step.{state_of}
use Rattle.verdict.specs.Tables.{lengths_of}
use Rattle.verdict.specs.Verdict.{check, long_enough, fitting, ending}
use Rattle.entry.specs.Progress.{ReadTo, tables_with}
use Rattle.checker.specs.Contract.{workspace_with}
use Rattle.answer.specs.declared.Answer.{Answer}
use Rattle.line_texts.specs.Lines.{LineReady, LineWritten}
use Rattle.heading.specs.Heading.{given_text}
use Rattle.units.specs.Pieces.{units_within}
use Rattle.verdict.specs.Readout.{verdict_line}
use Rattle.numbering.specs.Numbering.{line_of, NumberRoom}
use Rattle.numbering.specs.declared.Naming.{Naming}
use Rattle.units.specs.Units.{unit_at, AfterCheck, UnitReady}
use Rattle.text.specs.Buffer.{Wrote}
use Rattle.terms.specs.Writing.{Sized}
use Rattle.line_texts.proofs.LineTexts.{ClauseThere, clause_there, read_again}
use Rattle.text.proofs.Positions.{wrote_then}
use Rattle.heading.proofs.VerdictTexts.{verdict_line_lem}
use Rattle.answer.proofs.GivenNumbers.{state_left, verdict_given_lem, clauses_given}
use Rattle.units.proofs.UnitLaws.{unit_alone, unit_first, unit_other}

-- How many units there are, by the test of the program.
pub units_none : (c : ℕ) → c ≡ 0 → 1 ≡ units_within c
units_none c q = sym (ap (λ (b : Bool). pick b 1 c) (eq-eqb c 0 q))

pub units_some : (c : ℕ) → (c ≡ 0 → ⊥) → c ≡ units_within c
units_some c q = sym (ap (λ (b : Bool). pick b 1 c) (ne_eqb c 0 q))

module _ (naming : Naming) {C B N O A : List ℕ} {a : Answer} (R : AfterCheck C B N O A a) where
  count : a.clauses ≡ length (state_left R.file (lengths_of R.before)).clauses
  count = clauses_given R.day R.file (lengths_of R.before) a R.checked.checked.answer

  -- Where there is a clause, records were read.
  record WasRead : Type 0 where
    fit : fitting R.file ≡ true
    long : long_enough (lengths_of R.before) ≡ true
    state : state_left R.file (lengths_of R.before) ≡ state_of (ending R.file)

  was_read : (n : ℕ) → n < a.clauses → WasRead
  was_read n l = try (fitting R.file) refl (long_enough (lengths_of R.before)) refl
    where
      try : (f : Bool) → fitting R.file ≡ f → (g : Bool) → long_enough (lengths_of R.before) ≡ g → WasRead
      try true p true q = record { fit = p; long = q; state = rw (p, q) refl }
      try true p false q = let z : length (state_left R.file (lengths_of R.before)).clauses ≡ 0 = rw (p, q) refl in absurd (omega (arith, count, l, z))
      try false p g q = let z : length (state_left R.file (lengths_of R.before)).clauses ≡ 0 = rw p refl in absurd (omega (arith, count, l, z))

  read_to_lem : (n : ℕ) → n < a.clauses → ReadTo R.file R.before (state_of (ending R.file)) (tables_with R.symbols R.rows C B) N O A
  read_to_lem n l = let w = was_read n l in R.checked.read w.fit w.long

  pub line_ready : (n : ℕ) → n < a.clauses → (T K L : List ℕ) → length T ≡ 131072 → NumberRoom naming K L → LineReady naming C B N O A T K L n
  line_ready n l T K L room numbers =
      let w = was_read n l in
      let z = ap (λ (S : State). length S.clauses) w.state in
      record { file = R.file; tables_before = R.before; state = state_of (ending R.file); symbols = R.symbols; rows = R.rows; read = read_to_lem n l; inside = omega (arith, count, l, z); text = room; numbers = numbers }

  -- The line of clause n, as the units have it.
  line_text : (n : ℕ) → n < a.clauses → {A' T T' : List ℕ} {at end : ℕ} → LineWritten naming C B N O A A' T T' at n end → (c : ClauseThere (state_left R.file (lengths_of R.before)) n) → Wrote T T' at end (line_of naming (state_left R.file (lengths_of R.before)) n c.clause)
  line_text n l {A'} {T} {T'} {at} {end} W c =
      let w = was_read n l in
      subst (λ (S : State). Wrote T T' at end (line_of naming S n c.clause)) (sym w.state)
      (W.wrote R.file R.before (state_of (ending R.file)) R.symbols R.rows (read_to_lem n l) c.clause (subst (λ (S : State). clause_of S n ≡ some c.clause) w.state c.is_clause))

  there : (n : ℕ) → n < a.clauses → ClauseThere (state_left R.file (lengths_of R.before)) n
  there n l = clause_there (state_left R.file (lengths_of R.before)) n (omega (arith, count, l))

-- Any array in the array's place, as if it had been lent.
unfoldable pub after_again : {C B N O A A' : List ℕ} {a : Answer} → AfterCheck C B N O A a → length A' ≡ 524416 → AfterCheck C B N O A' a
after_again {C} {B} {N} {O} {A} {A'} {a} R v = record {
  day = R.day;
  file = R.file;
  before = R.before;
  lent = workspace_with R.lent.nodes R.lent.origins A';
  symbols = R.symbols;
  rows = R.rows;
  checked = record {
    checked = R.checked.checked;
    nodes = R.checked.nodes;
    origins = R.checked.origins;
    node_room = R.checked.node_room;
    origin_room = R.checked.origin_room;
    values = v;
    values_left = λ reason m. refl;
    read = λ f l. read_again R.file R.before (state_of (ending R.file)) (tables_with R.symbols R.rows C B) N O A A' (R.checked.read f l) v;
  };
}

module _ {naming : Naming} {C B N O A T K L : List ℕ} {a : Answer} {n : ℕ} (U : UnitReady naming C B N O A T K L a n) where
  -- A unit that is not the first is a line.
  pub other_inside : (n ≡ 0 → ⊥) → n < a.clauses
  other_inside h = try (eqb a.clauses 0) refl
    where
      try : (b : Bool) → eqb a.clauses 0 ≡ b → n < a.clauses
      try true q = absurd (below n h (subst (λ (k : ℕ). n < k) (sym (units_none a.clauses (eqb-true a.clauses 0 q))) U.inside))
        where
          below : (m : ℕ) → (m ≡ 0 → ⊥) → m < 1 → ⊥
          below zero k l = k refl
          below (suc m) k l = omega arith
      try false q = subst (λ (k : ℕ). n < k) (sym (units_some a.clauses (eqb-false a.clauses 0 q))) U.inside

  pub first_inside : n ≡ 0 → (a.clauses ≡ 0 → ⊥) → n < a.clauses
  first_inside z h = try a.clauses h
    where
      try : (m : ℕ) → (m ≡ 0 → ⊥) → n < m
      try zero k = absurd (k refl)
      try (suc m) k = omega arith

-- As much of a unit as fits into the buffer was written at its start.
pub record UnitWrote (naming : Naming) (C B N O A A' T T' : List ℕ) (a : Answer) (n end : ℕ) : Type 0 where
  pub wrote : (R : AfterCheck C B N O A a) → Wrote T T' 0 end (unit_at (line_of naming) R.day R.file (lengths_of R.before) n)
  pub sized : Sized N A' T'

module _ {naming : Naming} {C B N O A A' T T' : List ℕ} {a : Answer} {end : ℕ} where
  pub unit_line : {n : ℕ} → (n ≡ 0 → ⊥) → n < a.clauses → LineWritten naming C B N O A A' T T' 0 n end → UnitWrote naming C B N O A A' T T' a n end
  unit_line {n} h l W = record {
    wrote = λ R. subst (Wrote T T' 0 end) (sym (unit_other (line_of naming) R.day R.file (lengths_of R.before) n (there naming R n l).clause h (there naming R n l).is_clause)) (line_text naming R n l W (there naming R n l));
    sized = W.sized;
  }

  pub unit_both : {n : ℕ} → n ≡ 0 → n < a.clauses → (T₁ : List ℕ) (middle : ℕ) → Wrote T T₁ 0 middle (given_text a.verdict ++ (10 ∷ [])) → LineWritten naming C B N O A A' T₁ T' middle n end → UnitWrote naming C B N O A A' T T' a n end
  unit_both {n} z l T₁ middle G W = record {
    wrote = λ R.
        let c = there naming R n l in
        let S = state_left R.file (lengths_of R.before) in
        let v = (check R.day R.file (lengths_of R.before)).verdict in
        subst (Wrote T T' 0 end)
        (sym (ap (unit_at (line_of naming) R.day R.file (lengths_of R.before)) z ∙ unit_first (line_of naming) R.day R.file (lengths_of R.before) c.clause (subst (λ (k : ℕ). clause_of S k ≡ some c.clause) z c.is_clause)))
        (subst (λ (k : ℕ). Wrote T T' 0 end (verdict_line v ++ line_of naming S k c.clause)) z
        (wrote_then T T₁ T' 0 middle end (verdict_line v) (line_of naming S n c.clause)
        (verdict_line_lem a.verdict v (verdict_given_lem R.day R.file (lengths_of R.before) a R.checked.checked.answer) G)
        (line_text naming R n l W c)));
    sized = W.sized;
  }

module _ {naming : Naming} {C B N O A T T' : List ℕ} {a : Answer} {end : ℕ} where
  pub unit_heading : {n : ℕ} → n ≡ 0 → a.clauses ≡ 0 → Wrote T T' 0 end (given_text a.verdict ++ (10 ∷ [])) → Sized N A T' → UnitWrote naming C B N O A A T T' a n end
  unit_heading {n} z none W sized = record {
    wrote = λ R. subst (Wrote T T' 0 end)
        (sym (ap (unit_at (line_of naming) R.day R.file (lengths_of R.before)) z ∙ unit_alone (line_of naming) R.day R.file (lengths_of R.before) (sym (count naming R) ∙ none)))
        (verdict_line_lem a.verdict (check R.day R.file (lengths_of R.before)).verdict (verdict_given_lem R.day R.file (lengths_of R.before) a R.checked.checked.answer) W);
    sized = sized;
  }
