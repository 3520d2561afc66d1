-- What the program keeps of a state has the terms of its rows, and input clauses with the literals that the table of origins has.
use mathlib.Core.Path.{◌≡◌, refl, sym, ap, ◌∙◌, subst}
use mathlib.Core.Bool.{Bool, true, false}
use mathlib.Core.Option.{some}
use mathlib.Core.List.{List, [], ◌∷◌, map}
use Prim.Native.Nat.{ℕ, zero, suc, ◌+◌, ◌-◌, ◌/◌, ◌≤◌, ◌<◌}
use native.Mathlib.Omega.{arith}
use lib.Dec.{eqb}
use lib.ListN.{length, take, length-map, length-take}
use borrow.Author.Tests.{eqb-true}
use Rattle.record.specs.Record.{pick, File, record_count}
use Rattle.unification.specs.Nodes.{is_variable, part, HasRow, arguments_from, node_arity}
use Rattle.unification.specs.Repeated.{IsEarliest}
use Rattle.unification.specs.Row.{variable, Row, application, row_at, argument_terms}
use Rattle.unification.specs.Term.{apply_all}
use Rattle.unification.proofs.Lists.{Each}
use Rattle.unification.proofs.Repeats.{one_earliest}
use Rattle.unification.proofs.Rows.{below_other, row_there}
use Rattle.derivation.specs.Derivation.{input, RowLiteral, literal_of, Derivation, numbered, placed}
use Rattle.derivation.specs.Ground.{Ground, argument_count, WellFormed, AllWellFormed}
use Rattle.derivation.specs.Stored.{origin_code, origin_numbers, literals_cell, Stored, stored_input, stored_resolve, stored_factor}
use Rattle.derivation.proofs.Literals.{map_numbered, each_numbered}
use Rattle.named_literals.proofs.Numbers.{numbered_take, numbered_origin}
use Rattle.entry.specs.Progress.{Kept}
use Rattle.entry.specs.declared.entry.Counts.{Counts}
use Rattle.entry.proofs.NodeTable.{variable_row_lem, application_row_lem, argument_at}
use Rattle.inference.proofs.KeptClauses.{stand_of, ok_of, fit, nodes_fine, stored_of, earliest_rows, there, inside_of}
use Rattle.demands.specs.Repeats.{number_term, term_by_numbers}
use Rattle.verdict.specs.State.{State, rows_of, derivations, arity_of, clause_of}
use Rattle.verdict.specs.Tables.{Tables}
use Rattle.demands.proofs.Inversions.{entry_below}
use Rattle.demands.proofs.Shared.{ArgumentsEarliest, SharedRows}
use Rattle.demands.proofs.WrittenRows.{number_law, equal_terms}
use Rattle.coverings.proofs.Choices.{LiteralsAs}
use Rattle.coverings.proofs.Solutions.{TermsOf}
use Rattle.coverings.proofs.Truth.{Formed}

-- Rows name only earlier rows.
before_all : (ws : List Row) (n : ℕ) → length ws ≡ n → (xs : List ℕ) → Each (IsEarliest ws) xs → Each (λ x. x < n) xs
before_all ws n e [] h = tt
before_all ws n e (x ∷ xs) h = (let a = h.0.there in omega arith, before_all ws n e xs h.1)

arguments_before : (ws : List Row) → SharedRows ws → (r s : ℕ) (xs : List ℕ) → r < length ws → row_at ws r ≡ application s xs → Each (λ x. x < r) xs
arguments_before [] h r s xs l q = absurd (omega arith)
arguments_before (w ∷ ws) h r s xs l q = try (eqb r (length ws)) refl q (λ m p. arguments_before ws h.1 r s xs m p)
  where
    new : (w : Row) → ArgumentsEarliest ws w → w ≡ application s xs → r ≡ length ws → Each (λ x. x < r) xs
    new (variable v) k p e = let z : ◌≡◌ {A = ℕ} 0 1 = cc in absurd (omega arith)
    new (application t ys) k p e =
        let a : ys ≡ xs = cc in
        subst (λ (zs : List ℕ). Each (λ x. x < r) zs) a (before_all ws r (sym e) ys k)

    try : (b : Bool) → eqb r (length ws) ≡ b → pick b w (row_at ws r) ≡ application s xs → (r < length ws → row_at ws r ≡ application s xs → Each (λ x. x < r) xs) → Each (λ x. x < r) xs
    try true e p ih = new w h.0 p (eqb-true r (length ws) e)
    try false e p ih = ih (below_other r (length ws) e l) p

-- A stored clause whose code is 1 is an input clause, with the literals of its numbers.
input_case : {O C B : List ℕ} {c : ℕ} {d : Derivation} → Stored O C B c d → origin_code O c ≡ 1
    → (ls : List RowLiteral) × (d ≡ input c ls) × (map literal_of (take (literals_cell C c) (origin_numbers O c)) ≡ ls) × (literals_cell C c ≡ length (placed 1 ls))
input_case (stored_input {c} {ls} e l K) q = (ls, refl, l, K.literal_count)
input_case (stored_resolve e l m a x b f y g K) q = absurd (omega arith)
input_case (stored_factor e a x b f K) q = absurd (omega arith)

input_code : {O C B : List ℕ} {c k : ℕ} {ls : List RowLiteral} → Stored O C B c (input k ls) → origin_code O c ≡ 1
input_code (stored_input e l K) = e

module _ {F : File} {t : Tables} {k : ℕ} {S : State} {n : Counts} {here : Tables} {N O A : List ℕ} (K : Kept F t k S n here N O A) (few : k ≤ record_count F) where
  abbrev ws : List Row
  ws = rows_of S

  shared : SharedRows (rows_of S)
  shared = (stand_of K few).shared.rows_shared

  argument_before : (r m : ℕ) → HasRow N r → row_at (rows_of S) r ≡ application (part N r 0) (arguments_from N r (node_arity N r) 1) → m < node_arity N r → part N r (suc m) < r
  argument_before r m h q l =
      let z : 1 + m ≡ suc m = omega arith in
      rw z at (argument_at (rows_of S) (fit K few) N K.nodes r 1 (node_arity N r) m l (λ x. x < r) (arguments_before (rows_of S) shared r (part N r 0) (arguments_from N r (node_arity N r) 1) (inside_of K few r h).there q))

  pub terms_of : TermsOf N (term_by_numbers (rows_of S))
  terms_of = record {
    nodes = nodes_fine K few;
    of_variable = λ r h v. number_law (rows_of S) shared r (inside_of K few r h).there ∙ ap (number_term (term_by_numbers (rows_of S))) (variable_row_lem (rows_of S) (fit K few) N K.nodes r (inside_of K few r h) v);
    of_application = λ r h v. number_law (rows_of S) shared r (inside_of K few r h).there ∙ ap (number_term (term_by_numbers (rows_of S))) (application_row_lem (rows_of S) (fit K few) N K.nodes r (inside_of K few r h) v);
    earlier = λ r m h v l. argument_before r m h (application_row_lem (rows_of S) (fit K few) N K.nodes r (inside_of K few r h) v) l;
    one_row = λ r q h g e. one_earliest (rows_of S) r q (inside_of K few r h) (inside_of K few q g) (equal_terms (rows_of S) shared r q (inside_of K few r h).there (inside_of K few q g).there e);
  }

  -- The terms of rows are over symbols that exist, each with as many arguments as its arity.
  count_all : (δ : ℕ → Ground) (xs : List ℕ) → argument_count (arity_of S) (apply_all δ (argument_terms (term_by_numbers (rows_of S)) xs)) ≡ length xs
  count_all δ [] = refl
  count_all δ (x ∷ xs) = ap suc (count_all δ xs)

  abbrev FormedRow : ℕ → Type 0
  FormedRow r = Formed (arity_of S) (term_by_numbers (rows_of S) r)

  arguments_formed : (δ : ℕ → Ground) → ((v : ℕ) → WellFormed (arity_of S) (δ v)) → (r m k : ℕ) → ((j : ℕ) → k ≤ j → j < k + m → FormedRow (part N r (suc j)))
      → AllWellFormed (arity_of S) (apply_all δ (argument_terms (term_by_numbers (rows_of S)) (arguments_from N r m (suc k))))
  arguments_formed δ f r zero k h = tt
  arguments_formed δ f r (suc m) k h = (h k (omega arith) (omega arith) δ f, arguments_formed δ f r m (suc k) (λ j a b. h j (omega arith) (omega arith)))

  formed_below : (n r : ℕ) → r < n → HasRow N r → FormedRow r
  formed_below zero r l h = absurd (omega arith)
  formed_below (suc n) r l h = try (is_variable N r) refl (λ q m g. formed_below n q m g)
    where
      try : (b : Bool) → is_variable N r ≡ b → ((q : ℕ) → q < n → HasRow N q → FormedRow q) → FormedRow r
      try true v ih = subst (Formed (arity_of S)) (sym (terms_of.of_variable r h v)) (λ δ f. f (part N r 0))
      try false v ih =
          let xs = arguments_from N r (node_arity N r) 1 in
          let E = inside_of K few r h in
          let a = row_there (arity_of S) (rows_of S) (ok_of K few).rows_ok r (part N r 0) xs E.there (application_row_lem (rows_of S) (fit K few) N K.nodes r E v) in
          subst (Formed (arity_of S)) (sym (terms_of.of_application r h v)) (λ δ f. (
            a ∙ ap some (sym (count_all δ xs)),
            arguments_formed δ f r (node_arity N r) 0 (λ j b c. ih (part N r (suc j)) (let e = terms_of.earlier r j h v (omega arith) in omega arith) (terms_of.nodes.arguments r j h v (omega arith))),
          ))

  pub row_formed : (w : ℕ) → HasRow N w → Formed (arity_of S) (term_by_numbers (rows_of S) w)
  row_formed w h = formed_below (suc w) w (omega arith) h

  -- An input clause, as the program finds it.
  pub record InputHere (c : ℕ) : Type 0 where
    pub literals_here : List RowLiteral
    pub is_input : clause_of S c ≡ some (input c literals_here)
    pub numbers : LiteralsAs (part O c) (literals_cell here.clauses c) literals_here
    pub at_most_seven : literals_cell here.clauses c ≤ 7
    pub rows : (i : ℕ) → i < literals_cell here.clauses c → HasRow N (part O c i / 2)

  pub input_here : (c : ℕ) (d : Derivation) → clause_of S c ≡ some d → origin_code O c ≡ 1 → InputHere c
  input_here c d q e = from (input_case (stored_of K few c d q) e)
    where
      from : (ls : List RowLiteral) × (d ≡ input c ls) × (map literal_of (take (literals_cell here.clauses c) (origin_numbers O c)) ≡ ls) × (literals_cell here.clauses c ≡ length (placed 1 ls)) → InputHere c
      from (ls, isInput', isList, count) = record { literals_here = ls; is_input = q ∙ ap some isInput'; numbers = record { long = sym long; at = at }; at_most_seven = seven; rows = rows }
        where
          long : literals_cell here.clauses c ≡ length ls
          long = count ∙ length-map ls (λ (l : RowLiteral). (l.0, (l.1, 1)))

          listed : length ls ≡ length (take (literals_cell here.clauses c) (origin_numbers O c))
          listed = ap length (sym isList) ∙ length-map (take (literals_cell here.clauses c) (origin_numbers O c)) literal_of

          seven : literals_cell here.clauses c ≤ 7
          seven = let z = rw length-take at listed in omega (arith, long, z)

          at : (i : ℕ) → i < literals_cell here.clauses c → numbered ls (suc i) ≡ some (literal_of (part O c i))
          at i l =
              let z : suc i - 1 ≡ i = omega arith in
              ap (λ (xs : List RowLiteral). numbered xs (suc i)) (sym isList)
              ∙ map_numbered literal_of (take (literals_cell here.clauses c) (origin_numbers O c)) (suc i) (part O c i)
              (numbered_take (origin_numbers O c) (literals_cell here.clauses c) (suc i) (omega (arith, l, long, listed)) ∙ numbered_origin O c (suc i) (omega arith) (omega (arith, seven)) ∙ ap (λ (m : ℕ). some (part O c m)) z)

          rows : (i : ℕ) → i < literals_cell here.clauses c → HasRow N (part O c i / 2)
          rows i l = there K few (part O c i / 2) (each_numbered (λ (x : RowLiteral). IsEarliest (rows_of S) x.1) ls (suc i) (literal_of (part O c i)) (at i l) (earliest_rows K few c (input c ls) (q ∙ ap some isInput')))

  -- And conversely.
  pub input_found : (c j : ℕ) (ls : List RowLiteral) → clause_of S c ≡ some (input j ls) → (c < length S.clauses) × (origin_code O c ≡ 1)
  input_found c j ls q = (let a = entry_below (derivations S) c (input j ls) q in omega (arith, a, length-map S.clauses (λ (x : ℕ × Derivation). x.1)), input_code (stored_of K few c (input j ls) q))
