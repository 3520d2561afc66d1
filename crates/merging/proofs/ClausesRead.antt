-- The clauses that reading leaves, written out as terms: those of the records of input clauses, over the rows as the file writes them.
use mathlib.Core.Path.{◌≡◌, refl, sym, ap, ap₂, ◌∙◌, subst}
use mathlib.Core.Bool.{Bool, true, false, ◌&&◌}
use mathlib.Core.Option.{none, some}
use mathlib.Core.List.{List, [], ◌∷◌, ◌++◌, map, reverse, append_assoc, append-nil, reverse-cons}
use Prim.Native.Nat.{ℕ, suc, ◌≤◌, ◌<◌}
use native.Mathlib.Omega.{arith}
use lib.Dec.{eqb, leb}
use lib.ListN.{length}
use Rattle.record.specs.Record.{Record, otherKind, Kind, symbolKind, variableKind, applicationKind, inputKind, resolveKind, factorKind, severalKind, windowKind}
use Rattle.record.specs.Sorts.{is_step}
use Rattle.unification.specs.Row.{Row}
use Rattle.unification.specs.Term.{Term}
use Rattle.unification.proofs.Lists.{Each}
use Rattle.unification.proofs.Repeats.{earliest_equal_lem}
use Rattle.unification.proofs.Rows.{eqb_below}
use Rattle.unification.proofs.Tests.{true_not_false}
use Rattle.derivation.specs.Derivation.{literals, input, RowLiteral, input_literals, Derivation}
use Rattle.verdict.specs.Refusal.{kind_of_record, is_input}
use Rattle.demands.specs.Repeats.{with_written, written_after, term_by_numbers}
use Rattle.verdict.specs.State.{State, rows_of, derivations, earliest_of, next_clause}
use Rattle.verdict.specs.Step.{stands, refused, Result, new_literals, enter, step, read, all_stand, refused_at}
use Rattle.demands.proofs.Inversions.{stands_same, step_stands, tests_passed, Passed, rows_below}
use Rattle.demands.proofs.RangeTests.{of_kind_lem}
use Rattle.verdict.proofs.Endings.{ending_stands, stands_not_refused}
use Rattle.demands.proofs.WrittenRows.{earliest_term, ReadSame, read_same}
use Rattle.merging.specs.Answer.{first_where}
use Rattle.merging.proofs.Behind.{none_here}

-- ── Clauses as the records write them ──

-- The literals of a record, over the terms of rows; and those of all input clauses.
abbrev pub literals_by : (ℕ → Term ℕ) → List RowLiteral → List (Bool × Term ℕ)
literals_by term ls = map (λ l. (l.0, term l.1)) ls

abbrev pub input_clauses : (ℕ → Term ℕ) → List Record → List (List (Bool × Term ℕ))
input_clauses term [] = []
input_clauses term (r ∷ rs) = elim (eqb r.kind 4) [ true ↦ literals_by term (input_literals r) ∷ input_clauses term rs | false ↦ input_clauses term rs ]

-- A derivation's literals over the terms of a list of rows.
abbrev pub clause_by : List Row → Derivation → List (Bool × Term ℕ)
clause_by ws c = map (λ l. (l.0, term_by_numbers ws l.1.0)) (literals c)

-- ── Rows that come later change no term ──
with_later : (us : List Row) (kind : Kind) (r : Record) (q : ℕ) → q < length us → (term_by_numbers (with_written us kind r) q ≡ term_by_numbers us q) × (length us ≤ length (with_written us kind r))
with_later us variableKind r q l = (rw (eqb_below q (length us) l), omega arith)
with_later us applicationKind r q l = (rw (eqb_below q (length us) l), omega arith)
with_later us symbolKind r q l = (refl, omega arith)
with_later us inputKind r q l = (refl, omega arith)
with_later us resolveKind r q l = (refl, omega arith)
with_later us severalKind r q l = (refl, omega arith)
with_later us factorKind r q l = (refl, omega arith)
with_later us windowKind r q l = (refl, omega arith)
with_later us otherKind r q l = (refl, omega arith)

pub written_later : (us : List Row) (rs : List Record) (q : ℕ) → q < length us → term_by_numbers (written_after us rs) q ≡ term_by_numbers us q
written_later us [] q l = refl
written_later us (r ∷ rs) q l =
    let w = with_later us (kind_of_record r) r q l in
    written_later (with_written us (kind_of_record r) r) rs q (let m = w.1 in omega arith) ∙ w.0

-- ── One record ──
module _ (S : State) (k : ℕ) (r : Record) (T : State) where
  pub data Entered : Type 0 where
    no_clause : derivations T ≡ derivations S → eqb r.kind 4 ≡ false → Entered
    one_clause : derivations T ≡ input (next_clause S) (new_literals S r) ∷ derivations S → eqb r.kind 4 ≡ true → Each (λ (l : RowLiteral). l.1 < length (rows_of S)) (input_literals r) → Entered

  entered : (kind : Kind) → kind_of_record r ≡ kind → is_step r ≡ false → Passed S kind r → enter S k kind r ≡ stands T → Entered
  entered symbolKind e n a q = no_clause (ap derivations (sym (stands_same q))) (ap (λ (x : ℕ). eqb x 4) (of_kind_lem r symbolKind e))
  entered variableKind e n a q = no_clause (ap derivations (sym (stands_same q))) (ap (λ (x : ℕ). eqb x 4) (of_kind_lem r variableKind e))
  entered applicationKind e n a q = no_clause (ap derivations (sym (stands_same q))) (ap (λ (x : ℕ). eqb x 4) (of_kind_lem r applicationKind e))
  entered inputKind e n a q = one_clause (ap derivations (sym (stands_same q))) (ap (λ (x : ℕ). eqb x 4) (of_kind_lem r inputKind e)) (rows_below (length (rows_of S)) (input_literals r) a.there)
  entered resolveKind e n a q = absurd (true_not_false (ap (λ (x : ℕ). leb 5 x && leb x 7) (of_kind_lem r resolveKind e)) n)
  entered severalKind e n a q = absurd (true_not_false (ap (λ (x : ℕ). leb 5 x && leb x 7) (of_kind_lem r severalKind e)) n)
  entered factorKind e n a q = absurd (true_not_false (ap (λ (x : ℕ). leb 5 x && leb x 7) (of_kind_lem r factorKind e)) n)
  entered windowKind e n a q = no_clause (ap derivations (sym (stands_same q))) (ap (λ (x : ℕ). eqb x 4) (of_kind_lem r windowKind e).0)
  entered otherKind e n a q = absurd a

  pub step_entered : step S k r ≡ stands T → is_step r ≡ false → Entered
  step_entered q n =
      let a = step_stands S k r T q in
      entered (kind_of_record r) refl n (tests_passed S (kind_of_record r) r a.0) a.1

-- ── All records ──

-- The final rows are ws, and have the terms of the rows as written from here on.
pub read_clauses : (S : State) (k i : ℕ) (rs : List Record) (us : List Row) (T : State) → ReadSame S us → first_where is_step i rs ≡ none → read S k rs ≡ all_stand T
    → reverse (map (clause_by (rows_of T)) (derivations T)) ≡ reverse (map (clause_by (rows_of T)) (derivations S)) ++ input_clauses (term_by_numbers (written_after us rs)) rs
read_clauses S k i [] us T h f q =
    ap (λ (X : State). reverse (map (clause_by (rows_of T)) (derivations X))) (sym (ending_stands q)) ∙ sym (append-nil (reverse (map (clause_by (rows_of T)) (derivations S))))
read_clauses S k i (r ∷ rs) us T h f q =
    try (step S k r) refl q (λ U g p. read_clauses U (suc k) (suc i) rs (with_written us (kind_of_record r) r) T g (none_here is_step i r rs f).1 p)
  where
    one : (U : State) → step S k r ≡ stands U → read S k (r ∷ []) ≡ all_stand U
    one U e = ap (λ (o : Result). elim o [ stands X ↦ all_stand X | refused p ↦ refused_at S p k ]) e

    -- A literal's term in the end is that of its row as written.
    final : (m : ℕ) → m < length (rows_of S) → term_by_numbers (rows_of T) (earliest_of S m) ≡ term_by_numbers (written_after us (r ∷ rs)) m
    final m l =
        let G = (read_same S k (r ∷ rs) us T h q).same.terms in
        let E = (earliest_equal_lem (rows_of S) m l).earliest.there in
        let n = h.same.same_length in
        G (earliest_of S m)
        ∙ written_later us (r ∷ rs) (earliest_of S m) (omega arith)
        ∙ sym (h.same.terms (earliest_of S m))
        ∙ earliest_term (rows_of S) h.shared.rows_shared m
        ∙ h.same.terms m
        ∙ sym (written_later us (r ∷ rs) m (omega arith))

    all_final : (ls : List RowLiteral) → Each (λ (l : RowLiteral). l.1 < length (rows_of S)) ls
        → clause_by (rows_of T) (input (next_clause S) (map (λ l. (l.0, earliest_of S l.1)) ls)) ≡ literals_by (term_by_numbers (written_after us (r ∷ rs))) ls
    all_final [] h = refl
    all_final (l ∷ ls) h = ap₂ (λ (t : Term ℕ) (ms : List (Bool × Term ℕ)). (l.0, t) ∷ ms) (final l.1 h.0) (all_final ls h.1)

    clauses : (U : State) → Entered S k r U → reverse (map (clause_by (rows_of T)) (derivations U)) ++ input_clauses (term_by_numbers (written_after us (r ∷ rs))) rs
        ≡ reverse (map (clause_by (rows_of T)) (derivations S)) ++ input_clauses (term_by_numbers (written_after us (r ∷ rs))) (r ∷ rs)
    clauses U (no_clause d e) =
        ap₂ (λ (ds : List Derivation) (b : Bool). reverse (map (clause_by (rows_of T)) ds) ++ elim b [ true ↦ literals_by (term_by_numbers (written_after us (r ∷ rs))) (input_literals r) ∷ input_clauses (term_by_numbers (written_after us (r ∷ rs))) rs | false ↦ input_clauses (term_by_numbers (written_after us (r ∷ rs))) rs ]) d (sym e)
    clauses U (one_clause d e l) =
        ap (λ (ds : List Derivation). reverse (map (clause_by (rows_of T)) ds) ++ input_clauses (term_by_numbers (written_after us (r ∷ rs))) rs) d
        ∙ ap (λ (cs : List (List (Bool × Term ℕ))). cs ++ input_clauses (term_by_numbers (written_after us (r ∷ rs))) rs) (reverse-cons (clause_by (rows_of T) (input (next_clause S) (new_literals S r))) (map (clause_by (rows_of T)) (derivations S)))
        ∙ append_assoc (reverse (map (clause_by (rows_of T)) (derivations S))) (clause_by (rows_of T) (input (next_clause S) (new_literals S r)) ∷ []) (input_clauses (term_by_numbers (written_after us (r ∷ rs))) rs)
        ∙ ap₂ (λ (c : List (Bool × Term ℕ)) (b : Bool). reverse (map (clause_by (rows_of T)) (derivations S)) ++ elim b [ true ↦ c ∷ input_clauses (term_by_numbers (written_after us (r ∷ rs))) rs | false ↦ input_clauses (term_by_numbers (written_after us (r ∷ rs))) rs ]) (all_final (input_literals r) l) (sym e)

    try : (o : Result) → step S k r ≡ o → elim o [ stands U ↦ read U (suc k) rs | refused p ↦ refused_at S p k ] ≡ all_stand T
        → ((U : State) → ReadSame U (with_written us (kind_of_record r) r) → read U (suc k) rs ≡ all_stand T
        → reverse (map (clause_by (rows_of T)) (derivations T)) ≡ reverse (map (clause_by (rows_of T)) (derivations U)) ++ input_clauses (term_by_numbers (written_after us (r ∷ rs))) rs)
        → reverse (map (clause_by (rows_of T)) (derivations T)) ≡ reverse (map (clause_by (rows_of T)) (derivations S)) ++ input_clauses (term_by_numbers (written_after us (r ∷ rs))) (r ∷ rs)
    try (stands U) e p ih = ih U (read_same S k (r ∷ []) us U h (one U e)) p ∙ clauses U (step_entered S k r U e (none_here is_step i r rs f).0)
    try (refused p) e z ih = absurd (stands_not_refused (sym z))

-- Every clause of a file without steps is an input clause.
pub read_inputs : (S : State) (k i : ℕ) (rs : List Record) (T : State) → first_where is_step i rs ≡ none → read S k rs ≡ all_stand T → Each (λ (d : Derivation). is_input (some d) ≡ true) (derivations S) → Each (λ (d : Derivation). is_input (some d) ≡ true) (derivations T)
read_inputs S k i [] T f q h = subst (λ (X : State). Each (λ (d : Derivation). is_input (some d) ≡ true) (derivations X)) (ending_stands q) h
read_inputs S k i (r ∷ rs) T f q h = try (step S k r) refl q (λ U p g. read_inputs U (suc k) (suc i) rs T (none_here is_step i r rs f).1 p g)
  where
    next : (U : State) → Entered S k r U → Each (λ (d : Derivation). is_input (some d) ≡ true) (derivations U)
    next U (no_clause d e) = subst (Each (λ (d : Derivation). is_input (some d) ≡ true)) (sym d) h
    next U (one_clause d e l) = subst (Each (λ (d : Derivation). is_input (some d) ≡ true)) (sym d) (refl, h)

    try : (o : Result) → step S k r ≡ o → elim o [ stands U ↦ read U (suc k) rs | refused p ↦ refused_at S p k ] ≡ all_stand T
        → ((U : State) → read U (suc k) rs ≡ all_stand T → Each (λ (d : Derivation). is_input (some d) ≡ true) (derivations U) → Each (λ (d : Derivation). is_input (some d) ≡ true) (derivations T))
        → Each (λ (d : Derivation). is_input (some d) ≡ true) (derivations T)
    try (stands U) e p ih = ih U p (next U (step_entered S k r U e (none_here is_step i r rs f).0))
    try (refused p) e z ih = absurd (stands_not_refused (sym z))
