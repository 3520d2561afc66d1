-- Two files that stand with the same contents have the same answer on each day, and leave the same cells.
use mathlib.Core.Path.{◌≡◌, refl, sym, ap, ap₂, ◌∙◌, subst}
use mathlib.Core.Bool.{Bool, true, false, ◌&&◌}
use mathlib.Core.Option.{Option, none, some}
use mathlib.Core.List.{List, [], ◌∷◌, ◌++◌, map}
use Prim.Native.Nat.{ℕ, zero, suc, ◌+◌, ◌-◌, ◌*◌, ◌%◌, ◌≤◌, ◌<◌}
use native.Mathlib.Omega.{arith}
use lib.Dec.{leb, ltb, le→leb, ltb→lt, nltb→le}
use lib.ListN.{length, get_or, drop, replicate, length-map, length-append, get_or-append}
use lib.Seq.{get_or-append-add}
use Rattle.record.specs.Record.{File}
use Rattle.unification.proofs.Tests.{to_t, from_t}
use Rattle.derivation.specs.Derivation.{Derivation, Use, uses, literals, maximum_index, own_bindings}
use Rattle.verdict.specs.Force.{window_of, within, in_force, all_in_force}
use Rattle.verdict.specs.State.{State, Window}
use Rattle.verdict.specs.Step.{all_stand}
use Rattle.verdict.specs.Tables.{Tables, lengths_of, bindings_of, cells_of_clause, clause_cells, binding_cells, filled, filled_tables, tables_given, tables_after}
use Rattle.verdict.specs.Verdict.{Lengths, least_lengths, long_enough, answer_of, first_empty, standing, verdict_of, Reading, read_to, reading, verdict_given, state_given, check, Stands}
use Rattle.verdict.proofs.Endings.{reading_tables, reading_records}
use Rattle.converting.specs.Promised.{window_days, SameCells}
use Rattle.converting.proofs.Days.{SameDays}

-- ── Verdict and counts ──

-- A clause is in force by its days alone; on a day of 16 bits, always is every day.
within_days : (day : ℕ) (o : Option Window) → day < 65536 → within day o ≡ leb (window_days o).0 day && leb day (window_days o).1
within_days day none h = sym (ap₂ ◌&&◌ (from_t (leb 0 day) (le→leb 0 day (omega arith))) (from_t (leb day 65535) (le→leb day 65535 (omega arith))))
within_days day (some w) h = refl

module _ (S T : State) (D : SameDays S T) where
  all_in_force_lem : (day : ℕ) → day < 65536 → (us : List Use) → all_in_force S.windows day us ≡ all_in_force T.windows day us
  all_in_force_lem day h [] = refl
  all_in_force_lem day h (u ∷ us) =
      let one : in_force S.windows day u.0 ≡ in_force T.windows day u.0 =
      within_days day (window_of S.windows u.0) h ∙ ap (λ (d : ℕ × ℕ). leb d.0 day && leb day d.1) (D.days u.0) ∙ sym (within_days day (window_of T.windows u.0) h)
      in
      ap₂ ◌&&◌ one (all_in_force_lem day h us)

  same_verdict_lem : (day : ℕ) → day < 65536 → verdict_of day (all_stand S) ≡ verdict_of day (all_stand T)
  same_verdict_lem day h = λ i. standing (first_empty (λ c. all_in_force_lem day h (uses c) i) (D.alike.same_clauses i))

  same_counts : (day : ℕ) → day < 65536 → answer_of (verdict_of day (all_stand S)) S ≡ answer_of (verdict_of day (all_stand T)) T
  same_counts day h =
      let symbols : length S.symbols ≡ length T.symbols = sym (length-map S.symbols (λ s. s.1)) ∙ ap length D.alike.same_arities ∙ length-map T.symbols (λ s. s.1) in
      let rows : length S.rows ≡ length T.rows = sym (length-map S.rows (λ w. w.1)) ∙ ap length D.alike.same_rows ∙ length-map T.rows (λ w. w.1) in
      let clauses : length S.clauses ≡ length T.clauses = sym (length-map S.clauses (λ c. c.1)) ∙ ap length D.alike.same_clauses ∙ length-map T.clauses (λ c. c.1) in
      λ i. record { verdict = same_verdict_lem day h i; symbols = symbols i; rows = rows i; clauses = clauses i; bindings = D.alike.same_total i }

  pub same_answer_lem : (file other : File) → Stands file S → Stands other T → (day : ℕ) → day < 65536 → (n : Lengths) → check day file n ≡ check day other n
  unfolding check
  same_answer_lem file other s t day h n = try (long_enough n) refl
    where
      given : (e f : Reading) → reading file n ≡ e → reading other n ≡ f → answer_of (verdict_given day e) (state_given e) ≡ answer_of (verdict_given day f) (state_given f) → check day file n ≡ check day other n
      given e f p q z = ap (λ (x : Reading). answer_of (verdict_given day x) (state_given x)) p ∙ z ∙ sym (ap (λ (x : Reading). answer_of (verdict_given day x) (state_given x)) q)

      try : (b : Bool) → long_enough n ≡ b → check day file n ≡ check day other n
      try true l = given (read_to (all_stand S)) (read_to (all_stand T)) (reading_records file n s.fits l ∙ ap read_to s.reads) (reading_records other n t.fits l ∙ ap read_to t.reads) (same_counts day h)
      try false l = given _ _ (reading_tables file n s.fits l) (reading_tables other n t.fits l) refl

-- ── Cells ──

-- Two lists of equal length that agree in every cell but each fifth.
record Agree (xs ys : List ℕ) : Type 0 where
  long : length xs ≡ length ys
  cells : (m : ℕ) → ¬ (m % 5 ≡ 0) → get_or xs m 0 ≡ get_or ys m 0

agree_append : (xs ys us ws : List ℕ) (n : ℕ) → length xs ≡ 5 * n → Agree xs ys → Agree us ws → Agree (xs ++ us) (ys ++ ws)
agree_append xs ys us ws n e a b = record {
  long = length-append xs us ∙ ap₂ ◌+◌ a.long b.long ∙ sym (length-append ys ws);
  cells = λ m h. try m h (ltb m (length xs)) refl;
}
  where
    try : (m : ℕ) → ¬ (m % 5 ≡ 0) → (c : Bool) → ltb m (length xs) ≡ c → get_or (xs ++ us) m 0 ≡ get_or (ys ++ ws) m 0
    try m h true q =
        let l : m < length xs = ltb→lt m (length xs) (to_t (ltb m (length xs)) q) in
        let k : m < length ys = omega (arith, a.long) in
        get_or-append xs us 0 m l ∙ a.cells m h ∙ sym (get_or-append ys ws 0 m k)
    try m h false q =
        let l : length xs ≤ m = nltb→le m (length xs) (rw q tt) in
        let x : m ≡ length xs + (m - length xs) = omega arith in
        let y : m ≡ length ys + (m - length xs) = omega (arith, a.long) in
        let g : ¬ ((m - length xs) % 5 ≡ 0) = λ z. h (omega arith) in
        ap (λ (i : ℕ). get_or (xs ++ us) i 0) x ∙ get_or-append-add xs us (m - length xs) 0 ∙ b.cells (m - length xs) g
        ∙ sym (ap (λ (i : ℕ). get_or (ys ++ ws) i 0) y ∙ get_or-append-add ys ws (m - length xs) 0)

agree_itself : (xs ys : List ℕ) → xs ≡ ys → Agree xs ys
agree_itself xs ys e = subst (Agree xs) e (record { long = refl; cells = λ m h. refl })

clause_agrees : (k j f g : ℕ) (c d : Derivation) → f ≡ g → c ≡ d → Agree (cells_of_clause k f c) (cells_of_clause j g d)
clause_agrees k j f g c d p q = record {
  long = refl;
  cells = elim [ zero ↦ (λ h. absurd (h refl)) | suc m ↦ (λ h i. get_or (length (literals (q i)) ∷ maximum_index (q i) ∷ p i ∷ length (own_bindings (q i)) ∷ []) m 0) ];
}

five_cells : (cs : List (ℕ × Derivation)) → length (clause_cells cs) ≡ 5 * length cs
five_cells [] = refl
five_cells (c ∷ cs) = length-append (clause_cells cs) (cells_of_clause c.0 (bindings_of (map (λ d. d.1) cs)) c.1) ∙ omega (arith, five_cells cs)

clauses_agree : (cs ds : List (ℕ × Derivation)) → map (λ c. c.1) cs ≡ map (λ c. c.1) ds → Agree (clause_cells cs) (clause_cells ds)
clauses_agree [] [] e = record { long = refl; cells = λ m h. refl }
clauses_agree [] (d ∷ ds) e = absurd (let z : ◌≡◌ {A = ℕ} 0 (suc (length (map (λ c. c.1) ds))) = ap length e in omega arith)
clauses_agree (c ∷ cs) [] e = absurd (let z : ◌≡◌ {A = ℕ} (suc (length (map (λ c. c.1) cs))) 0 = ap length e in omega arith)
clauses_agree (c ∷ cs) (d ∷ ds) e =
    let head : c.1 ≡ d.1 = cc in
    let rest : map (λ c. c.1) cs ≡ map (λ c. c.1) ds = cc in
    agree_append (clause_cells cs) (clause_cells ds) (cells_of_clause c.0 (bindings_of (map (λ x. x.1) cs)) c.1) (cells_of_clause d.0 (bindings_of (map (λ x. x.1) ds)) d.1) (length cs) (five_cells cs)
    (clauses_agree cs ds rest) (clause_agrees c.0 d.0 (bindings_of (map (λ x. x.1) cs)) (bindings_of (map (λ x. x.1) ds)) c.1 d.1 (ap bindings_of rest) head)

module _ (S T : State) (D : SameDays S T) where
  filled_cells : (t : Tables) → SameCells (filled_tables S t) (filled_tables T t)
  filled_cells t = record {
    clauses = λ n i l h. all.cells (5 * n + i) (λ z. absurd (omega arith));
    bindings = ap (λ (ds : List Derivation). filled least_lengths.bindings (binding_cells ds) t.bindings) D.alike.same_clauses;
  }
    where
      cells : Agree (clause_cells S.clauses) (clause_cells T.clauses)
      cells = clauses_agree S.clauses T.clauses D.alike.same_clauses

      all : Agree (filled least_lengths.clauses (clause_cells S.clauses) t.clauses) (filled least_lengths.clauses (clause_cells T.clauses) t.clauses)
      all =
          agree_append (clause_cells S.clauses) (clause_cells T.clauses) _ _ (length S.clauses) (five_cells S.clauses) cells (
          agree_itself _ _ (ap (λ (m : ℕ). replicate (least_lengths.clauses - m) 0 ++ drop least_lengths.clauses t.clauses) cells.long))

  pub same_cells_lem : (file other : File) → Stands file S → Stands other T → (t : Tables) → SameCells (tables_after file t) (tables_after other t)
  unfolding tables_after
  same_cells_lem file other s o t = try (long_enough (lengths_of t)) refl
    where
      given : (e f : Reading) → reading file (lengths_of t) ≡ e → reading other (lengths_of t) ≡ f → SameCells (tables_given e t) (tables_given f t) → SameCells (tables_after file t) (tables_after other t)
      given e f p q z = subst (λ (x : Reading). SameCells (tables_given x t) (tables_after other t)) (sym p) (subst (λ (x : Reading). SameCells (tables_given e t) (tables_given x t)) (sym q) z)

      try : (b : Bool) → long_enough (lengths_of t) ≡ b → SameCells (tables_after file t) (tables_after other t)
      try true l = given (read_to (all_stand S)) (read_to (all_stand T)) (reading_records file (lengths_of t) s.fits l ∙ ap read_to s.reads) (reading_records other (lengths_of t) o.fits l ∙ ap read_to o.reads) (filled_cells t)
      try false l = given _ _ (reading_tables file (lengths_of t) s.fits l) (reading_tables other (lengths_of t) o.fits l) (record { clauses = λ n i a b. refl; bindings = refl })
