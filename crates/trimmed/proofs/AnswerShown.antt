-- The answer to a trim is the one that its conditions ask for; and where it is written, the file stands and is accepted.
use mathlib.Core.Path.{◌≡◌, refl, sym, ap, ◌∙◌, subst}
use mathlib.Core.Bool.{Bool, true, false}
use mathlib.Core.Option.{Option, none, some}
use mathlib.Core.List.{List, [], ◌∷◌}
use Prim.Native.Nat.{ℕ, suc, ◌%◌, ◌≤◌, ◌<◌}
use native.Mathlib.Omega.{arith}
use lib.Dec.{eqb, leb, leb→le, ltb, ltb→lt, lt→ltb, nltb→le}
use lib.ListN.{length, get_or}
use Rattle.record.specs.Record.{old_file, records}
use Rattle.unification.proofs.Tests.{to_t, from_t, both_true}
use Rattle.derivation.specs.Derivation.{Derivation}
use Rattle.verdict.specs.Force.{uses_in_force}
use Rattle.verdict.specs.Refusal.{Reason}
use Rattle.verdict.specs.State.{State, derivations, clause_of}
use Rattle.verdict.specs.Step.{state_of}
use Rattle.verdict.specs.Tables.{Tables, lengths_of, tables_after}
use Rattle.verdict.specs.Verdict.{Verdict, accepted, open', refusal, Answer, standing, first_empty, long_enough, fitting, ending, check, Stands}
use Rattle.demands.proofs.Acceptance.{first_lowest}
use Rattle.demands.proofs.Demanded.{not_refused_lem, stands_check}
use Rattle.demands.proofs.RangeTests.{not_true}
use Rattle.writing.specs.Writing.{Writing, written, refused_with, unless_refused, output_left, WrittenAt}
use Rattle.writing.proofs.Written.{same_refused, written_not_refused, same_written, written_at, refused_kept}
use Rattle.trimming.specs.Answer.{unless_open, trim_answer, tables_left}
use Rattle.trimming.specs.Promised.{Condition, short_output, file_refused, not_accepted, Trimmed, TrimPromised}
use Rattle.trimming.specs.Trimming.{accepted_clause, trimmed_for, trimmed_records, trimmed_file}
use Rattle.trimmed.proofs.TrimShown.{trimmed_file_lem}

-- ── Answers ──
accepted_not_refused : {n k : ℕ} {reason : Reason} → accepted n ≡ refusal reason k → ⊥
accepted_not_refused e = let z : ◌≡◌ {A = ℕ} 0 1 = cc in omega arith

open_not_accepted : {n : ℕ} → open' ≡ accepted n → ⊥
open_not_accepted e = let z : ◌≡◌ {A = ℕ} 0 1 = cc in omega arith

same_accepted : {m n : ℕ} → accepted m ≡ accepted n → m ≡ n
same_accepted e = cc

-- ── The trimmed file, by the accepted clause ──
module _ (day : ℕ) (file : List ℕ) where
  -- The file stands, and is accepted on the day with clause number, which is clause; the trimmed records are those for this clause.
  pub record AcceptedWith (number : ℕ) : Type 0 where
    pub state : State
    pub clause : Derivation
    pub stands : Stands (old_file file) state
    pub is_first : first_empty (uses_in_force state day) (derivations state) ≡ some number
    pub is_clause : clause_of state number ≡ some clause
    pub are_records : trimmed_records day file ≡ trimmed_for state (some clause) (records (old_file file))

  pub accepted_with : (tables : Tables) (a : ℕ) → (check day (old_file file) (lengths_of tables)).verdict ≡ accepted a → AcceptedWith a
  accepted_with tables a z = from (not_refused_lem day (old_file file) tables (λ q k y. accepted_not_refused (sym z ∙ y)))
    where
      which : (o : Option ℕ) → standing o ≡ accepted a → o ≡ some a
      which none y = absurd (open_not_accepted y)
      which (some m) y = ap some (same_accepted y)

      from : (long_enough (lengths_of tables) ≡ true) × ((S : State) × Stands (old_file file) S) → AcceptedWith a
      from (l, (S, st)) =
          let f = which (first_empty (uses_in_force S day) (derivations S)) (sym (ap (λ (x : Answer). x.verdict) (stands_check day (old_file file) tables S st l)) ∙ z) in
          let L = first_lowest (uses_in_force S day) (derivations S) a f in
          let e : accepted_clause day S ≡ some L.clause = ap (λ (o : Option ℕ). elim o [ none ↦ none | some n ↦ clause_of S n ]) f ∙ L.is_clause in
          let s : state_of (ending (old_file file)) ≡ S = ap state_of st.reads in
          record {
            state = S;
            clause = L.clause;
            stands = st;
            is_first = f;
            is_clause = L.is_clause;
            are_records = ap (λ (T : State). trimmed_for T (accepted_clause day T) (records (old_file file))) s ∙ ap (λ (o : Option Derivation). trimmed_for S o (records (old_file file))) e;
          }

-- ── The answer ──
module _ (day : ℕ) (file : List ℕ) (tables : Tables) (room : ℕ) where
  -- The refusal that the condition at a place gives, or nothing of the kind.
  abbrev nothing : Writing
  nothing = written 0

  abbrev checked : Verdict
  checked = (check day (old_file file) (lengths_of tables)).verdict

  abbrev places : List Writing
  places = (elim (ltb room 65536) [ true ↦ refused_with 2 0 0 | false ↦ nothing ]) ∷ unless_refused 1 checked nothing ∷ unless_open checked nothing ∷ []

  abbrev given : ℕ → Writing
  given place = get_or places place nothing

  gives : {place number which k : ℕ} → Condition day file tables room place number which k → given place ≡ refused_with number which k
  gives (short_output l) = ap (λ (b : Bool). elim b [ true ↦ refused_with 2 0 0 | false ↦ nothing ]) (from_t (ltb room 65536) (lt→ltb room 65536 l))
  gives (file_refused q) = ap (λ (v : Verdict). unless_refused 1 v nothing) q
  gives (not_accepted q) = ap (λ (v : Verdict). unless_open v nothing) q

  three_places : {place number which k : ℕ} → Condition day file tables room place number which k → place < 3
  three_places (short_output l) = omega arith
  three_places (file_refused q) = omega arith
  three_places (not_accepted q) = omega arith

  -- No condition before a place holds.
  abbrev From : ℕ → Type 0
  From place = (p n f j : ℕ) → Condition day file tables room p n f j → place ≤ p

  past : (place : ℕ) → From place → given place ≡ nothing → From (suc place)
  past place h e p n f j c = try (ltb place p) refl
    where
      try : (b : Bool) → ltb place p ≡ b → suc place ≤ p
      try true q = ltb→lt place p (to_t (ltb place p) q)
      try false q =
          let l = h p n f j c in
          let m = nltb→le place p (rw q tt) in
          let z : p ≡ place = omega arith in
          absurd (written_not_refused (sym e ∙ ap given (sym z) ∙ gives c))

  -- What the trim has come to: the first condition that holds, or none.
  data Outcome : Writing → Type 0 where
    refused_by : {place number which k : ℕ} → Condition day file tables room place number which k → ((p n f j : ℕ) → Condition day file tables room p n f j → place ≤ p) → Outcome (refused_with number which k)
    none_holds : ((p n f j : ℕ) → ¬ Condition day file tables room p n f j) → (a : ℕ) → (check day (old_file file) (lengths_of tables)).verdict ≡ accepted a → Outcome (written (length (trimmed_file day file)))

  verdict_outcome : From 1 → Outcome (unless_refused 1 checked (unless_open checked (written (length (trimmed_file day file)))))
  verdict_outcome h = try checked refl
    where
      try : (v : Verdict) → checked ≡ v → Outcome (unless_refused 1 v (unless_open v (written (length (trimmed_file day file)))))
      try (refusal reason k) q = refused_by (file_refused q) h
      try (accepted a) q =
          let g = past 1 h (ap (λ (v : Verdict). unless_refused 1 v nothing) q) in
          let i = past 2 g (ap (λ (v : Verdict). unless_open v nothing) q) in
          none_holds (λ p n f j c. let l = i p n f j c in let m = three_places c in omega arith) a q
      try open' q = refused_by (not_accepted q) (past 1 h (ap (λ (v : Verdict). unless_refused 1 v nothing) q))

  outcome : Outcome (trim_answer day file tables room)
  unfolding trim_answer
  outcome = try (ltb room 65536) refl
    where
      start : From 0
      start p n f j c = omega arith

      try : (b : Bool) → ltb room 65536 ≡ b → Outcome (elim b [ true ↦ refused_with 2 0 0 | false ↦ unless_refused 1 checked (unless_open checked (written (length (trimmed_file day file)))) ])
      try true q = refused_by (short_output (ltb→lt room 65536 (to_t (ltb room 65536) q))) start
      try false q = verdict_outcome (past 0 start (ap (λ (b : Bool). elim b [ true ↦ refused_with 2 0 0 | false ↦ nothing ]) q))

  refused_only_lem : (number which k : ℕ) (m : Writing) → Outcome m → m ≡ refused_with number which k
      → (place : ℕ) × Condition day file tables room place number which k × ((p n f j : ℕ) → Condition day file tables room p n f j → place ≤ p)
  refused_only_lem number which k m (refused_by {place} {number = n} {which = f} {k = j} c least) e =
      let s = same_refused e in
      (place, subst (λ (x : ℕ). Condition day file tables room place x which k) s.0 (subst (λ (x : ℕ). Condition day file tables room place n x k) s.1 (subst (λ (x : ℕ). Condition day file tables room place n f x) s.2 c)), least)
  refused_only_lem number which k m (none_holds h a q) e = absurd (written_not_refused e)

  refused_if_lem : (place number which k : ℕ) (m : Writing) → Outcome m → Condition day file tables room place number which k → ((p n f j : ℕ) → Condition day file tables room p n f j → place ≤ p) → m ≡ refused_with number which k
  refused_if_lem place number which k m (refused_by {place = q} {number = n} {which = f} {k = j} c least) d l =
      let a = l q n f j c in
      let b = least place number which k d in
      let e : q ≡ place = omega arith in
      sym (gives c) ∙ ap given e ∙ gives d
  refused_if_lem place number which k m (none_holds h a q) d l = absurd (h place number which k d)

  written_only_lem : (n : ℕ) (m : Writing) → Outcome m → m ≡ written n → (n ≡ length (trimmed_file day file)) × ((p x f j : ℕ) → ¬ Condition day file tables room p x f j)
  written_only_lem n m (refused_by c least) e = absurd (written_not_refused (sym e))
  written_only_lem n m (none_holds h a q) e = (sym (same_written e), h)

  written_if_lem : (m : Writing) → Outcome m → ((p n f j : ℕ) → ¬ Condition day file tables room p n f j) → m ≡ written (length (trimmed_file day file))
  written_if_lem m (refused_by {place} {number} {which} {k} c least) h = absurd (h place number which k c)
  written_if_lem m (none_holds g a q) h = refl

  -- ── Where it is written ──

  -- The file is accepted on the day.
  written_accepted : (n : ℕ) (m : Writing) → Outcome m → m ≡ written n → (a : ℕ) × ((check day (old_file file) (lengths_of tables)).verdict ≡ accepted a)
  written_accepted n m (refused_by c least) e = absurd (written_not_refused (sym e))
  written_accepted n m (none_holds h a q) e = (a, q)

  pub is_accepted : (n : ℕ) → trim_answer day file tables room ≡ written n → (a : ℕ) × ((check day (old_file file) (lengths_of tables)).verdict ≡ accepted a) × AcceptedWith day file a
  is_accepted n e = let w = written_accepted n (trim_answer day file tables room) outcome e in (w.0, w.1, accepted_with day file tables w.0 w.1)

  few : (bytes : List ℕ) → fitting (old_file bytes) ≡ true → length bytes ≤ 65536
  few bytes f = leb→le (length bytes) 65536 (to_t (leb (length bytes) 65536) (both_true (leb (length bytes) 65536) (eqb (length bytes % 16) 0) f).0)

  module _ (n : ℕ) (e : trim_answer day file tables room ≡ written n) where
    no_condition : (p x f j : ℕ) → ¬ Condition day file tables room p x f j
    no_condition = (written_only_lem n (trim_answer day file tables room) outcome e).1

    its_length : n ≡ length (trimmed_file day file)
    its_length = (written_only_lem n (trim_answer day file tables room) outcome e).0

    shown : (S : State) × (a : ℕ) × (c : Derivation) × Stands (old_file file) S × ((check day (old_file file) (lengths_of tables)).verdict ≡ accepted a) × (clause_of S a ≡ some c) × Trimmed day file S a c
    shown =
        let w = is_accepted n e in
        let A = w.2 in
        (A.state, w.0, A.clause, A.stands, w.1, A.is_clause, trimmed_file_lem day file A.state A.stands w.0 A.clause A.is_first A.is_clause)

    output_written_lem : (output : List ℕ) → length output ≡ room → WrittenAt (trimmed_file day file) output (output_left (trim_answer day file tables room) (trimmed_file day file) output)
    output_written_lem output l =
        let r : ¬ (room < 65536) = λ s. no_condition 0 2 0 0 (short_output s) in
        let h = few file (is_accepted n e).2.stands.fits in
        written_at (trimmed_file day file) output (trim_answer day file tables room) n e its_length (omega (arith, h, shown.6.not_longer, r, l))

  -- ── Tables ──
  tables_by : (b : Bool) → ltb room 65536 ≡ b → tables_left file tables room ≡ elim b [ true ↦ tables | false ↦ tables_after (old_file file) tables ]
  unfolding tables_left
  tables_by b q = ap (λ (x : Bool). elim x [ true ↦ tables | false ↦ tables_after (old_file file) tables ]) q

  -- ── All of it, from what is shown of the trimmed file ──
  pub trim_promised : TrimPromised day file tables room
  trim_promised = record {
    refused_only = λ number which k e. refused_only_lem number which k (trim_answer day file tables room) outcome e;
    refused_if = λ place number which k c least. refused_if_lem place number which k (trim_answer day file tables room) outcome c least;
    written_only = λ n e. written_only_lem n (trim_answer day file tables room) outcome e;
    written_if = λ h. written_if_lem (trim_answer day file tables room) outcome h;
    output_written = output_written_lem;
    output_kept = λ number which k e output. refused_kept (trimmed_file day file) output (trim_answer day file tables room) number which k e;
    tables_kept = λ l. tables_by true (from_t (ltb room 65536) (lt→ltb room 65536 l));
    tables_checked = λ h. tables_by false (not_true (ltb room 65536) (λ t. h (ltb→lt room 65536 (to_t (ltb room 65536) t))));
    trimmed = shown;
  }
