-- The ways in which two clauses are compared after a check, and that each gives the answer that is due.
use mathlib.Core.Path.{◌≡◌, refl, sym, ap, ◌∙◌, subst}
use mathlib.Core.Bool.{Bool, true, false}
use mathlib.Core.Option.{some}
use mathlib.Core.List.{List, ◌∷◌}
use Prim.Native.Nat.{ℕ, ◌≤◌}
use native.Mathlib.Omega.{arith}
use lib.Dec.{eqb, ltb, ltb→lt, lt→ltb}
use lib.ListN.{length, replicate, length-map}
use borrow.Author.Tests.{eqb-true, eq-eqb}
use Rattle.record.specs.Record.{File}
use Rattle.unification.proofs.Tests.{to_t, from_t, both_true, true_not_false}
use Rattle.derivation.specs.Derivation.{input, RowLiteral, Derivation}
use Rattle.derivation.specs.Stored.{origin_code, literals_cell}
use Rattle.verdict.specs.State.{arity_of, State, derivations, clause_of}
use Rattle.verdict.specs.Step.{state_of}
use Rattle.verdict.specs.Tables.{Tables, lengths_of}
use Rattle.verdict.specs.Force.{uses_in_force}
use Rattle.verdict.specs.Verdict.{verdict_numbers, check, Answer as Checked, long_enough, ending, Stands, first_empty, state_given}
use Rattle.demands.proofs.Demanded.{not_refused_lem, stands_check, tables_fail, long_enough_lem}
use Rattle.demands.proofs.Inversions.{entry_some}
use Rattle.verdict.proofs.Endings.{ending_stands, reading_records}
use Rattle.answer.specs.Given.{verdict_coded, verdict_stands}
use Rattle.answer.specs.declared.Answer as answer
use Rattle.answer.proofs.GivenNumbers.{verdict_given_lem, clauses_given, stands_not_refused, refused_not_standing}
use Rattle.entry.specs.Progress.{ReadTo, tables_with}
use Rattle.coverings.specs.Answering.{covers, covers_not, refused_with, Comparable, term_in}
use Rattle.coverings.specs.Choosing.{numbers_from, comparison_numbers, comparison}
use Rattle.comparing.specs.Comparing.{is_input, AfterCheck, CoveringOf}
use Rattle.comparing.specs.Given.{Covering, covering_given}
use Rattle.coverings.proofs.PairLaws.{together}
use Rattle.coverings.proofs.StateTerms.{terms_of, row_formed, InputHere, input_here, input_found}
use Rattle.coverings.proofs.Truth.{Formed}
use Rattle.coverings.proofs.Settling.{numbers_of_lem, Settled, settled, nothing_due, yes_due, no_due}

pub refused_covering : (file : File) (before : Tables) (c d : ℕ) (r : Covering) → covering_given r ≡ 2 ∷ 15 ∷ 0 ∷ replicate 7 0 → ((S : State) (C D : List RowLiteral) → ¬ Comparable file before c d S C D) → CoveringOf file before c d r
refused_covering file before c d r e h = record { answer = refused_with 15 0; numbers = e; promised = nothing_due file before c d h }

module _ (CL N O : List ℕ) (a : answer.Answer) (c d : ℕ) (R : AfterCheck CL N O a) where
  given_verdict : verdict_coded a.verdict ≡ verdict_numbers (check R.day R.file (lengths_of R.before)).verdict
  given_verdict = verdict_given_lem R.day R.file (lengths_of R.before) a R.checked.checked.answer

  -- The file does not stand.
  pub refused_nothing : verdict_stands a.verdict ≡ false → (S : State) (C D : List RowLiteral) → ¬ Comparable R.file R.before c d S C D
  refused_nothing f S C D K =
      refused_not_standing a.verdict (first_empty (uses_in_force S R.day) (derivations S)) (given_verdict ∙ ap (λ (x : Checked). verdict_numbers x.verdict) (stands_check R.day R.file R.before S K.stands (long_enough_lem R.file R.before K.tables_long))) f

  module _ (t : verdict_stands a.verdict ≡ true) where
    stood : (long_enough (lengths_of R.before) ≡ true) × ((S : State) × Stands R.file S)
    stood = not_refused_lem R.day R.file R.before (stands_not_refused a.verdict (check R.day R.file (lengths_of R.before)).verdict given_verdict t)

    abbrev left : State
    left = state_of (ending R.file)

    kept : ReadTo R.file R.before left (tables_with R.symbols R.rows CL R.bindings) N O R.values
    kept = R.checked.read stood.1.1.fits stood.0

    is_left_lem : stood.1.0 ≡ left
    is_left_lem = sym (ap state_of stood.1.1.reads)

    stands_left : Stands R.file left
    stands_left = subst (Stands R.file) is_left_lem stood.1.1

    count_left : a.clauses ≡ length left.clauses
    count_left =
        clauses_given R.day R.file (lengths_of R.before) a R.checked.checked.answer
        ∙ ap (λ (x : State). length x.clauses) (ap state_given (reading_records R.file (lengths_of R.before) stood.1.1.fits stood.0))

    -- A clause that passes the test is an input clause, and conversely.
    passed : (e : ℕ) → is_input O a.clauses e ≡ true → InputHere kept.kept kept.few e
    passed e q =
        let b = both_true (ltb e a.clauses) (eqb (origin_code O e) 1) q in
        let l = ltb→lt e a.clauses (to_t (ltb e a.clauses) b.0) in
        let w = entry_some (derivations left) e (omega (arith, l, count_left, length-map left.clauses (λ (x : ℕ × Derivation). x.1))) in
        input_here kept.kept kept.few e w.0 w.1 (eqb-true (origin_code O e) 1 b.1)

    passes : (e : ℕ) (ls : List RowLiteral) → clause_of left e ≡ some (input e ls) → is_input O a.clauses e ≡ true
    passes e ls q =
        let w = input_found kept.kept kept.few e e ls q in
        let l = w.0 in
        together (ltb e a.clauses) (eqb (origin_code O e) 1) (from_t (ltb e a.clauses) (lt→ltb e a.clauses (omega (arith, l, count_left)))) (eq-eqb (origin_code O e) 1 w.1)

    -- A clause is not an input clause.
    pub left_nothing : is_input O a.clauses c ≡ false → (S : State) (C D : List RowLiteral) → ¬ Comparable R.file R.before c d S C D
    left_nothing f S C D K = true_not_false (passes c C (ap (λ (U : State). clause_of U c) (ending_stands (sym stands_left.reads ∙ K.stands.reads)) ∙ K.is_left)) f

    pub right_nothing : is_input O a.clauses d ≡ false → (S : State) (C D : List RowLiteral) → ¬ Comparable R.file R.before c d S C D
    right_nothing f S C D K = true_not_false (passes d D (ap (λ (U : State). clause_of U d) (ending_stands (sym stands_left.reads ∙ K.stands.reads)) ∙ K.is_right)) f

    -- Both are: what the search has come to is the answer.
    module _ (p : is_input O a.clauses c ≡ true) (q : is_input O a.clauses d ≡ true) where
      pub few_left : literals_cell CL c ≤ 7
      few_left = (passed c p).at_most_seven

      pub few_right : literals_cell CL d ≤ 7
      few_right = (passed d q).at_most_seven

      comparable : Comparable R.file R.before c d left (passed c p).literals_here (passed d q).literals_here
      comparable = record { stands = stands_left; tables_long = λ s. true_not_false stood.0 (tables_fail R.file R.before s); is_left = (passed c p).is_input; is_right = (passed d q).is_input }

      all_settled : Settled N O (term_in left) (terms_of kept.kept kept.few) c d (literals_cell CL c) (literals_cell CL d) (passed c p).rows (passed d q).rows few_left few_right (passed c p).literals_here (passed d q).literals_here (passed c p).numbers (passed d q).numbers (Formed (arity_of left)) (λ v δ f. f v) (row_formed kept.kept kept.few)
          (comparison N O c d (literals_cell CL c) (literals_cell CL d))
      all_settled = settled N O (term_in left) (terms_of kept.kept kept.few) c d (literals_cell CL c) (literals_cell CL d) (passed c p).rows (passed d q).rows few_left few_right (passed c p).literals_here (passed d q).literals_here (passed c p).numbers (passed d q).numbers (Formed (arity_of left)) (λ v δ f. f v) (row_formed kept.kept kept.few)

      pub compared : (r : Covering) → covering_given r ≡ comparison_numbers (comparison N O c d (literals_cell CL c) (literals_cell CL d)) → CoveringOf R.file R.before c d r
      compared r e = from (comparison N O c d (literals_cell CL c) (literals_cell CL d)) e all_settled
        where
          from : (X : Bool × List ℕ) → covering_given r ≡ comparison_numbers X
              → Settled N O (term_in left) (terms_of kept.kept kept.few) c d (literals_cell CL c) (literals_cell CL d) (passed c p).rows (passed d q).rows few_left few_right (passed c p).literals_here (passed d q).literals_here (passed c p).numbers (passed d q).numbers (Formed (arity_of left)) (λ v δ f. f v) (row_formed kept.kept kept.few) X
              → CoveringOf R.file R.before c d r
          from (true, X) f G = record {
            answer = covers (numbers_from X 0 (literals_cell CL c));
            numbers = f ∙ numbers_of_lem (literals_cell CL c) few_left (true, X) G.past;
            promised = yes_due R.file R.before c d left (passed c p).literals_here (passed d q).literals_here comparable (numbers_from X 0 (literals_cell CL c)) (G.works refl) (G.least refl);
          }
          from (false, X) f G = record {
            answer = covers_not;
            numbers = f;
            promised = no_due R.file R.before c d left (passed c p).literals_here (passed d q).literals_here comparable (G.none refl);
          }
