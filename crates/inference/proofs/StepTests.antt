-- The tests of a resolve or a factor in the program are those of the definition.
use mathlib.Core.Path.{◌≡◌, refl, sym, ap, ap₂, ◌∙◌, subst}
use mathlib.Core.Logic.{◌⊎◌, inl, inr}
use mathlib.Core.Bool.{Bool, true, false, ◌&&◌, not, beq}
use mathlib.Core.Option.{Option, none, some}
use mathlib.Core.List.{List, [], ◌∷◌}
use Prim.Native.Nat.{ℕ, ◌≤◌, ◌<◌}
use native.Mathlib.Omega.{arith}
use lib.Dec.{eqb}
use lib.ListN.{length, get_or, take, drop, length-take, length-map}
use borrow.Author.Tests.{eq-eqb, ne_eqb, not-true, not-false}
use Rattle.record.specs.Record.{pick, File, Record, record_part, kind_of, count_of, fields_of, decoded, Kind, resolveKind, factorKind, severalKind, kind_numbered, field_a, field_b, field_c}
use Rattle.unification.specs.Listed.{listed_from}
use Rattle.unification.specs.Unification.{clash}
use Rattle.derivation.specs.Derivation.{literals, Literal, Derivation, numbered, maximum_index}
use Rattle.named_literals.specs.Named.{fields_of_literal, named_literal, StoredClause}
use Rattle.derivation.specs.Stored.{Stored}
use Rattle.fields.specs.Fields.{step_in_range, right_count}
use Rattle.verdict.specs.Refusal.{outOfRange, notThere, notRising, wrongSigns, tooLarge, unification, outlines_agree, most_literals, most_index, kind_of_record, in_range, literal_in, literal_named, left_of, right_numbers, literals_in, right_of, deleted_of, is_there, equal_signs, all_opposite, rising, on_both, opposite_signs, factor_signs, both_there, resolvent_fits, factor_fits}
use Rattle.verdict.specs.State.{State, derivations, clause_of, row_of}
use Rattle.verdict.specs.Step.{refused, require, step, enter_resolvent, enter}
use Rattle.inference.specs.Stepping.{BeforeStep, AtomOf, ClausesStored, named_answer, pair_answer, ResolveKind, ResolveNamed, FactorNamed, StepRead}
use Rattle.inference.specs.Rights.{rights_answer, RightsNamed, refusal_of, RightsTested}
use Rattle.demands.proofs.Inversions.{literal_named_lem, literals_named, entry_none, entry_some}
use Rattle.demands.proofs.RangeTests.{several_fits, IsResolve, on_one, on_several}
use Rattle.demands.proofs.Resolution.{at_kind, step_resolve}
use Rattle.inference.proofs.StepLaws.{clause_count, stored_of, order_in}
use Rattle.named_literals.specs.declared.NamedLiteral.{NamedLiteral}
use Rattle.std.specs.Prelude.{Some, None}
use Rattle.std.specs.Prelude as std
use Rattle.entry.specs.declared.entry.Counts.{Counts}
use Rattle.entry.specs.Program.{Entered}
use Rattle.std.specs.Prelude.{Result, Ok, Err}
use Rattle.reasons.specs.Reasons.{meant}
use Rattle.reasons.proofs.Refusals.{err_not_ok, same_err}
use Rattle.reasons.specs.declared.Reason.{Reason}
use Rattle.reasons.specs.declared.Reason.TheVariants.{OutOfRange, NotThere, NotRising, WrongSigns}

named_in : (n : ℕ) (d : Derivation) (o : Option Derivation) → o ≡ some d → named_literal (numbered (literals d) n) ≡ named_answer (literal_in n o)
named_in n d o q = rw q (try (numbered (literals d) n))
  where
    try : (x : Option Literal) → named_literal x ≡ named_answer (elim x [ some l ↦ some (d, l) | none ↦ none ])
    try none = refl
    try (some l) = refl

module _ {O C : List ℕ} {count : ℕ} where
  clause_there : (R : ClausesStored O C count) (c : ℕ) → c < count → (d : Derivation) × (clause_of R.state c ≡ some d)
  clause_there R c l = entry_some (derivations R.state) c (omega (arith, R.size, length-map R.state.clauses (λ (x : ℕ × Derivation). x.1)))

  pub named_clause : (R : ClausesStored O C count) (c : ℕ) → c < count → StoredClause O C c
  named_clause R c l =
      let d = clause_there R c l in
      record { bindings = R.bindings; derivation = d.0; stored = R.stored c d.0 d.1; fits = R.fits c d.0 d.1 }

  pub named_there : (c n : ℕ) → c < count → (r : std.Option NamedLiteral) → ((B : List ℕ) (d : Derivation) → Stored O C B c d → r ≡ named_literal (numbered (literals d) n)) → (R : ClausesStored O C count) → r ≡ named_answer (literal_named R.state c n)
  named_there c n l r f R =
      let d = clause_there R c l in
      f R.bindings d.0 (R.stored c d.0 d.1) ∙ named_in n d.0 (clause_of R.state c) d.1

  pub named_missing : (c n : ℕ) → count ≤ c → (R : ClausesStored O C count) → None ≡ named_answer (literal_named R.state c n)
  named_missing c n l R = sym (ap (λ (o : Option Derivation). named_answer (literal_in n o)) (entry_none (derivations R.state) c (omega (arith, R.size, length-map R.state.clauses (λ (x : ℕ × Derivation). x.1)))))

-- The answers of lookups, taken apart: of one literal, of the right literals, and of two.
pub answer_absent : (o : Option (Derivation × Literal)) → named_answer o ≡ None → o ≡ none
answer_absent none e = refl
answer_absent (some x) e = absurd (let z : ◌≡◌ {A = ℕ} 0 1 = cc in omega arith)

record FoundLiteral (o : Option (Derivation × Literal)) (l : NamedLiteral) : Type 0 where
  named : Derivation × Literal
  is_named : o ≡ some named
  is_literal : fields_of_literal named.1 ≡ l

answer_found : (o : Option (Derivation × Literal)) (l : NamedLiteral) → named_answer o ≡ Some l → FoundLiteral o l
answer_found none l e = absurd (let z : ◌≡◌ {A = ℕ} 0 1 = cc in omega arith)
answer_found (some x) l e = record { named = x; is_named = refl; is_literal = cc }

rights_absent : (s : Bool) (o : Option (Derivation × List Literal)) → rights_answer s o ≡ None → o ≡ none
rights_absent s none e = refl
rights_absent s (some y) e = absurd (let z : ◌≡◌ {A = ℕ} 0 1 = cc in omega arith)

rights_found : (s : Bool) (o : Option (Derivation × List Literal)) (b : Bool) → rights_answer s o ≡ Some b → (y : Derivation × List Literal) × (o ≡ some y) × (all_opposite s y.1 ≡ b)
rights_found s none b e = absurd (let z : ◌≡◌ {A = ℕ} 0 1 = cc in omega arith)
rights_found s (some y) b e = (y, refl, cc)

one_absent : (o p : Option (Derivation × Literal)) → pair_answer o p ≡ None → both_there o p ≡ false
one_absent none p q = refl
one_absent (some x) none q = refl
one_absent (some x) (some y) q = absurd (let z : ◌≡◌ {A = ℕ} 0 1 = cc in omega arith)

both_found : (o p : Option (Derivation × Literal)) (x y : NamedLiteral) → pair_answer o p ≡ Some (x, y) → FoundLiteral o x × FoundLiteral p y
both_found none p x y q = absurd (let z : ◌≡◌ {A = ℕ} 0 1 = cc in omega arith)
both_found (some m) none x y q = absurd (let z : ◌≡◌ {A = ℕ} 0 1 = cc in omega arith)
both_found (some m) (some l) x y q =
    let e : ◌≡◌ {A = NamedLiteral × NamedLiteral} (fields_of_literal m.1, fields_of_literal l.1) (x, y) = cc in
    (record { named = m; is_named = refl; is_literal = ap (λ (p : NamedLiteral × NamedLiteral). p.0) e }, record { named = l; is_named = refl; is_literal = ap (λ (p : NamedLiteral × NamedLiteral). p.1) e })

-- Signs compared by `==`.
pub equal_signs-beq : (s t : Bool) → equal_signs s t ≡ beq s t
equal_signs-beq true true = refl
equal_signs-beq true false = refl
equal_signs-beq false true = refl
equal_signs-beq false false = refl

module _ {F : File} {k : ℕ} {n : Counts} {C B N O A : List ℕ} (E : BeforeStep F k n C B N O A) where
  abbrev S : State
  S = E.state

  abbrev rec : Record
  rec = decoded (record_part F k)

  pub index_small : (c : ℕ) (d : Derivation) → clause_of E.state c ≡ some d → maximum_index d ≤ 4096
  unfolding most_index
  index_small c d q = (order_in E c d q).index_fits

  pub literals_small : (c : ℕ) (d : Derivation) → clause_of E.state c ≡ some d → length (literals d) ≤ 128
  unfolding most_literals
  literals_small c d q = (order_in E c d q).literals_fit

  pub clauses_stored : ClausesStored O C n.clauses
  clauses_stored = record { state = S; bindings = B; size = sym (clause_count E); stored = stored_of E; fits = index_small }

  -- A refusal leaves everything as it was.
  pub refuse : (q : Reason) → step E.state k (decoded (record_part F k)) ≡ refused (meant q) → StepRead F k n C B N O A E C B O A (Err q)
  refuse q p = record { next = (E.plain E.state ∙ p, E.kept.tables, E.kept.nodes, E.kept.origins, E.kept.values) }

  pub factor_kind : kind_of (record_part F k) ≡ 6 → kind_of_record (decoded (record_part F k)) ≡ factorKind
  factor_kind q = ap kind_numbered q

  -- What is left of a step once the tests before have passed.
  abbrev pub Step : Kind → Bool → Bool → Bool → Bool → Bool → Type 0
  Step kind a b c d o = step E.state k (decoded (record_part F k)) ≡ require a outOfRange (require b notThere (require c wrongSigns (require d tooLarge (require o (unification clash) (enter E.state k kind (decoded (record_part F k)))))))

  -- The same of a resolve, whose right literals rise.
  abbrev pub ResolveStep : Kind → Bool → Bool → Bool → Bool → Bool → Bool → Type 0
  ResolveStep kind a b g c d o =
      step E.state k (decoded (record_part F k)) ≡ require a outOfRange (require b notThere (require g notRising (require c wrongSigns (require d tooLarge (require o (unification clash) (enter_resolvent E.state k kind (decoded (record_part F k))))))))

  pub resolve_tests_lem : (kind : Kind) → IsResolve kind → kind_of_record (decoded (record_part F k)) ≡ kind → (a b g c d o : Bool) → in_range kind (decoded (record_part F k)) ≡ a → both_there (left_of E.state (decoded (record_part F k))) (right_of E.state kind (decoded (record_part F k))) ≡ b
      → rising (right_numbers kind (decoded (record_part F k))) ≡ g → opposite_signs E.state kind (decoded (record_part F k)) ≡ c → resolvent_fits E.state kind (decoded (record_part F k)) ≡ d
      → on_both (λ x y. outlines_agree (row_of E.state) x.1 y.1) (left_of E.state (decoded (record_part F k))) (right_of E.state kind (decoded (record_part F k))) ≡ o → ResolveStep kind a b g c d o
  resolve_tests_lem kind i e a b g c d o p q u r s t =
      step_resolve S k rec kind i e ∙ (λ j. require (p j) outOfRange (require (q j) notThere (require (u j) notRising (require (r j) wrongSigns (require (s j) tooLarge (require (t j) (unification clash) (enter_resolvent S k kind rec)))))))

  pub factor_tests : kind_of_record (decoded (record_part F k)) ≡ factorKind → (a b c d o : Bool) → in_range factorKind (decoded (record_part F k)) ≡ a → both_there (left_of E.state (decoded (record_part F k))) (deleted_of E.state (decoded (record_part F k))) ≡ b
      → factor_signs E.state (decoded (record_part F k)) ≡ c → factor_fits E.state (decoded (record_part F k)) ≡ d
      → on_both (λ x y. outlines_agree (row_of E.state) x.1 (y.1 ∷ [])) (left_of E.state (decoded (record_part F k))) (deleted_of E.state (decoded (record_part F k))) ≡ o → Step factorKind a b c d o
  factor_tests e a b c d o p q r s t = at_kind S k rec factorKind e ∙ (λ i. require (p i) outOfRange (require (q i) notThere (require (r i) wrongSigns (require (s i) tooLarge (require (t i) (unification clash) (enter S k factorKind rec))))))

  abbrev resolve_outlines : Kind → Bool
  resolve_outlines kind = on_both (λ x y. outlines_agree (row_of E.state) x.1 y.1) (left_of E.state (decoded (record_part F k))) (right_of E.state kind (decoded (record_part F k)))

  abbrev factor_outlines : Bool
  factor_outlines = on_both (λ x y. outlines_agree (row_of E.state) x.1 (y.1 ∷ [])) (left_of E.state (decoded (record_part F k))) (deleted_of E.state (decoded (record_part F k)))

  -- The two literals that a step names, by its fields.
  pub pair_is : (a b c d a' b' c' d' : ℕ) → a ≡ a' → b ≡ b' → c ≡ c' → d ≡ d' → (r : std.Option (NamedLiteral × NamedLiteral)) → ((R : ClausesStored O C n.clauses) → r ≡ pair_answer (literal_named R.state a b) (literal_named R.state c d))
      → r ≡ pair_answer (literal_named E.state a' b') (literal_named E.state c' d')
  unfolding clauses_stored
  pair_is a b c d a' b' c' d' ea eb ec ed r f = f clauses_stored ∙ (λ i. pair_answer (literal_named S (ea i) (eb i)) (literal_named S (ec i) (ed i)))

  atom_found : (c m a : ℕ) (x : NamedLiteral) → a ≡ c → FoundLiteral (literal_named E.state c m) x → AtomOf E.state a x.row x.index
  atom_found c m a x q f =
      let l = literal_named_lem S c m f.named f.is_named in
      record {
        clause = f.named.0;
        literal = f.named.1;
        number = m;
        is_clause = ap (clause_of S) q ∙ l.0;
        is_literal = l.1;
        is_row = ap (λ (z : NamedLiteral). z.row) f.is_literal;
        is_index = ap (λ (z : NamedLiteral). z.index) f.is_literal;
      }

  -- Resolve, test by test.
  module _ (kd : ResolveKind (kind_of (record_part F k))) (P : List ℕ) (e : P ≡ record_part F k) (m : ℕ) (pm : m ≡ right_count P) where
    abbrev here : Kind
    here = kind_of_record (decoded (record_part F k))

    resolves_here : ResolveKind (kind_of (record_part F k)) → IsResolve (kind_numbered (kind_of (record_part F k)))
    resolves_here (inl z) = subst IsResolve (ap kind_numbered (sym z)) on_one
    resolves_here (inr z) = subst IsResolve (ap kind_numbered (sym z)) on_several

    is_resolve : IsResolve (kind_of_record (decoded (record_part F k)))
    is_resolve = resolves_here kd

    -- What the number of right literals says: they are out of range, or there are so many, from field d on.
    pub record RightsThere : Type 0 where
      pub ranged : in_range (kind_of_record (decoded (record_part F k))) (decoded (record_part F k)) ≡ true
      pub numbers : take m (drop 3 (fields_of (record_part F k))) ≡ right_numbers (kind_of_record (decoded (record_part F k))) (decoded (record_part F k))
      pub count : m ≡ length (right_numbers (kind_of_record (decoded (record_part F k))) (decoded (record_part F k)))
      pub few : m ≤ 4

    counted : (in_range (kind_of_record (decoded (record_part F k))) (decoded (record_part F k)) ≡ false) ⊎ (RightsThere × (1 ≤ m))
    counted = by_kind kd
      where
        number : m ≡ right_count (record_part F k)
        number = pm ∙ ap right_count e

        of_one_lem : kind_of (record_part F k) ≡ 5 → (b : Bool) → in_range resolveKind (decoded (record_part F k)) ≡ b → m ≡ pick b 1 0 → (in_range (kind_numbered (kind_of (record_part F k))) rec ≡ false) ⊎ (RightsThere × (1 ≤ m))
        of_one_lem z true q c = inr (record { ranged = ap (λ (i : ℕ). in_range (kind_numbered i) rec) z ∙ q; numbers = ap (λ (i : ℕ). take i (drop 3 (fields_of (record_part F k)))) c ∙ ap (λ (i : ℕ). right_numbers (kind_numbered i) rec) (sym z); count = c ∙ ap (λ (i : ℕ). length (right_numbers (kind_numbered i) rec)) (sym z); few = omega arith }, omega arith)
        of_one_lem z false q c = inl (ap (λ (i : ℕ). in_range (kind_numbered i) rec) z ∙ q)

        of_several_lem : kind_of (record_part F k) ≡ 7 → (b : Bool) → in_range severalKind (decoded (record_part F k)) ≡ b → m ≡ pick b (count_of (record_part F k)) 0 → (in_range (kind_numbered (kind_of (record_part F k))) rec ≡ false) ⊎ (RightsThere × (1 ≤ m))
        of_several_lem z true q c =
            let f = several_fits rec q in
            let l : length (take (count_of (record_part F k)) (drop 3 (fields_of (record_part F k)))) ≡ count_of (record_part F k) = let w = f.0.0 in simp length-take (omega arith) in
            inr (record { ranged = ap (λ (i : ℕ). in_range (kind_numbered i) rec) z ∙ q; numbers = ap (λ (i : ℕ). take i (drop 3 (fields_of (record_part F k)))) c ∙ ap (λ (i : ℕ). right_numbers (kind_numbered i) rec) (sym z); count = c ∙ sym l ∙ ap (λ (i : ℕ). length (right_numbers (kind_numbered i) rec)) (sym z); few = let w = f.0.0 in omega arith }, let w = f.1 in omega arith)
        of_several_lem z false q c = inl (ap (λ (i : ℕ). in_range (kind_numbered i) rec) z ∙ q)

        by_kind : ResolveKind (kind_of (record_part F k)) → (in_range (kind_numbered (kind_of (record_part F k))) rec ≡ false) ⊎ (RightsThere × (1 ≤ m))
        by_kind (inl z) = of_one_lem z (in_range resolveKind rec) refl (number ∙ ap (λ (i : ℕ). pick (eqb i 5) (pick (in_range resolveKind rec) 1 0) (pick (in_range severalKind rec) (count_of (record_part F k)) 0)) z)
        by_kind (inr z) = of_several_lem z (in_range severalKind rec) refl (number ∙ ap (λ (i : ℕ). pick (eqb i 5) (pick (in_range resolveKind rec) 1 0) (pick (in_range severalKind rec) (count_of (record_part F k)) 0)) z)

    pub resolve_out : m ≡ 0 → StepRead F k n C B N O A E C B O A (Err OutOfRange)
    unfolding require
    resolve_out z = try counted
      where
        try : (in_range (kind_of_record (decoded (record_part F k))) (decoded (record_part F k)) ≡ false) ⊎ (RightsThere × (1 ≤ m)) → StepRead F k n C B N O A E C B O A (Err OutOfRange)
        try (inl q) = refuse OutOfRange (resolve_tests_lem here is_resolve refl false (both_there (left_of S rec) (right_of S here rec)) (rising (right_numbers here rec)) (opposite_signs S here rec) (resolvent_fits S here rec) (resolve_outlines here) q refl refl refl refl refl)
        try (inr w) = let l = w.1 in absurd (omega arith)

    module _ (some-there : ¬ (m ≡ 0)) where
      pub rights_there : RightsThere
      rights_there = try counted
        where
          try : (in_range (kind_of_record (decoded (record_part F k))) (decoded (record_part F k)) ≡ false) ⊎ (RightsThere × (1 ≤ m)) → RightsThere
          try (inl q) = absurd (some-there (none q kd))
            where
              none : in_range (kind_numbered (kind_of (record_part F k))) rec ≡ false → ResolveKind (kind_of (record_part F k)) → m ≡ 0
              none q (inl z) = pm ∙ ap right_count e ∙ ap (λ (i : ℕ). pick (eqb i 5) (pick (in_range resolveKind rec) 1 0) (pick (in_range severalKind rec) (count_of (record_part F k)) 0)) z ∙ ap (λ (b : Bool). pick b 1 0) (ap (λ (i : ℕ). in_range (kind_numbered i) rec) (sym z) ∙ q)
              none q (inr z) = pm ∙ ap right_count e ∙ ap (λ (i : ℕ). pick (eqb i 5) (pick (in_range resolveKind rec) 1 0) (pick (in_range severalKind rec) (count_of (record_part F k)) 0)) z ∙ ap (λ (b : Bool). pick b (count_of (record_part F k)) 0) (ap (λ (i : ℕ). in_range (kind_numbered i) rec) (sym z) ∙ q)
          try (inr w) = w.0

      module _ (ns : List ℕ) (fields : ns ≡ fields_of P) (r : std.Option NamedLiteral) (named : (R : ClausesStored O C n.clauses) → r ≡ named_answer (literal_named R.state (get_or ns 0 0) (get_or ns 1 0))) where
        field_is : (i : ℕ) → get_or ns i 0 ≡ get_or (fields_of (record_part F k)) i 0
        field_is i = ap (λ (l : List ℕ). get_or l i 0) (fields ∙ ap fields_of e)

        left_is : r ≡ named_answer (left_of E.state (decoded (record_part F k)))
        unfolding clauses_stored
        left_is = named clauses_stored ∙ ap₂ (λ (a b : ℕ). named_answer (literal_named S a b)) (field_is 0) (field_is 1)

        pub resolve_left_absent : r ≡ None → StepRead F k n C B N O A E C B O A (Err NotThere)
        unfolding require
        resolve_left_absent q = refuse NotThere (resolve_tests_lem here is_resolve refl true false (rising (right_numbers here rec)) (opposite_signs S here rec) (resolvent_fits S here rec) (resolve_outlines here) rights_there.ranged (ap (λ (o : Option (Derivation × Literal)). both_there o (right_of S here rec)) (answer_absent (left_of S rec) (sym left_is ∙ q))) refl refl refl refl)

        module _ (x : NamedLiteral) (found : r ≡ Some x) (L : List ℕ) (t : std.Option Bool) (W : RightsNamed O C n.clauses ns m x.positive L t) where
          X : FoundLiteral (left_of E.state (decoded (record_part F k))) x
          X = answer_found (left_of S rec) x (sym left_is ∙ found)

          rights_is : literals_in (take m (drop 3 ns)) (clause_of E.state (get_or ns 2 0)) ≡ right_of E.state (kind_of_record (decoded (record_part F k))) (decoded (record_part F k))
          rights_is = ap₂ (λ (xs : List ℕ) (c : ℕ). literals_in xs (clause_of S c)) (ap (λ (l : List ℕ). take m (drop 3 l)) (fields ∙ ap fields_of e) ∙ rights_there.numbers) (field_is 2)

          answer_is : t ≡ rights_answer x.positive (right_of E.state (kind_of_record (decoded (record_part F k))) (decoded (record_part F k)))
          unfolding clauses_stored
          answer_is = W.answer clauses_stored ∙ ap (rights_answer x.positive) rights_is

          resolve_right_absent : t ≡ None → StepRead F k n C B N O A E C B O A (Err NotThere)
          unfolding require
          resolve_right_absent q =
              refuse NotThere (resolve_tests_lem here is_resolve refl true false (rising (right_numbers here rec)) (opposite_signs S here rec) (resolvent_fits S here rec) (resolve_outlines here) rights_there.ranged
              (ap₂ (λ (o : Option (Derivation × Literal)) (p : Option (Derivation × List Literal)). both_there o p) X.is_named (rights_absent x.positive (right_of S here rec) (sym answer_is ∙ q))) refl refl refl refl)

          -- The right literals exist; their signs are opposite, or one is equal.
          module _ (y : Derivation × List Literal) (isThese : right_of E.state (kind_of_record (decoded (record_part F k))) (decoded (record_part F k)) ≡ some y) where
            both_there_now : both_there (left_of E.state (decoded (record_part F k))) (right_of E.state (kind_of_record (decoded (record_part F k))) (decoded (record_part F k))) ≡ true
            both_there_now = ap₂ (λ (o : Option (Derivation × Literal)) (p : Option (Derivation × List Literal)). both_there o p) X.is_named isThese

            sign_test : opposite_signs E.state (kind_of_record (decoded (record_part F k))) (decoded (record_part F k)) ≡ all_opposite x.positive y.1
            sign_test = ap₂ (λ (o : Option (Derivation × Literal)) (p : Option (Derivation × List Literal)). on_both (λ v w. all_opposite v.1.0 w.1) o p) X.is_named isThese ∙ ap (λ (l : NamedLiteral). all_opposite l.positive y.1) X.is_literal

            module _ (b : Bool) (pb : b ≡ rising (take m (drop 3 (fields_of P)))) where
              rises_is : rising (right_numbers (kind_of_record (decoded (record_part F k))) (decoded (record_part F k))) ≡ b
              rises_is = ap rising (sym rights_there.numbers ∙ ap (λ (l : List ℕ). take m (drop 3 (fields_of l))) (sym e)) ∙ sym pb

              not_rising_refused : b ≡ false → StepRead F k n C B N O A E C B O A (Err NotRising)
              unfolding require
              not_rising_refused q = refuse NotRising (resolve_tests_lem here is_resolve refl true true false (opposite_signs S here rec) (resolvent_fits S here rec) (resolve_outlines here) rights_there.ranged both_there_now (rises_is ∙ q) refl refl refl)

              signs_refused : b ≡ true → all_opposite x.positive y.1 ≡ false → StepRead F k n C B N O A E C B O A (Err WrongSigns)
              unfolding require
              signs_refused q z = refuse WrongSigns (resolve_tests_lem here is_resolve refl true true true false (resolvent_fits S here rec) (resolve_outlines here) rights_there.ranged both_there_now (rises_is ∙ q) (sign_test ∙ z) refl refl)

              checked : b ≡ true → all_opposite x.positive y.1 ≡ true → (a : ℕ) → a ≡ get_or ns 0 0 → ResolveNamed ns k n C B N O A (record { clause = a; row = x.row; index = x.index }) L m
              unfolding clauses_stored
              checked q z a pa =
                  let l = literal_named_lem S (field_a rec) (field_b rec) X.named X.is_named in
                  let w = literals_named S (field_c rec) (right_numbers here rec) y isThese in
                  record {
                    file = F;
                    numbers = fields ∙ ap fields_of e;
                    step = E;
                    is_resolve = kd;
                    count = rights_there.count;
                    few = rights_there.few;
                    room = W.room;
                    ranged = rights_there.ranged;
                    rises = rises_is ∙ q;
                    left = record { clause = X.named.0; literal = X.named.1; number = field_b rec; is_clause = ap (clause_of S) (pa ∙ field_is 0) ∙ l.0; is_literal = l.1; is_row = ap (λ (z : NamedLiteral). z.row) X.is_literal; is_index = ap (λ (z : NamedLiteral). z.index) X.is_literal };
                    rights = record { clause = y.0; named = y.1; is_clause = w.0; are_literals = w.1; listed = ap (listed_from L 0) (sym rights_there.count) ∙ W.listed clauses_stored y (rights_is ∙ isThese) };
                    is_left = X.is_named;
                    is_right = isThese;
                    signs = sign_test ∙ z;
                  }

          module _ (b : Bool) (pb : b ≡ rising (take m (drop 3 (fields_of P)))) where
            of : {r y : Reason} → ◌≡◌ {A = Result (Unit {0}) Reason} (Err r) (Err y) → StepRead F k n C B N O A E C B O A (Err r) → StepRead F k n C B N O A E C B O A (Err y)
            of z R = subst (λ (i : Reason). StepRead F k n C B N O A E C B O A (Err i)) (same_err z) R

            refused_by_lem : (u : std.Option Bool) → t ≡ u → (c : Bool) → b ≡ c → (y : Reason) → refusal_of u c ≡ Err y → StepRead F k n C B N O A E C B O A (Err y)
            refused_by_lem None q c h y z = of z (resolve_right_absent q)
            refused_by_lem (Some false) q true h y z = let w = rights_found x.positive (right_of S here rec) false (sym answer_is ∙ q) in of z (signs_refused w.0 w.1 b pb h w.2)
            refused_by_lem (Some false) q false h y z = let w = rights_found x.positive (right_of S here rec) false (sym answer_is ∙ q) in of z (not_rising_refused w.0 w.1 b pb h)
            refused_by_lem (Some true) q true h y z = absurd (err_not_ok (sym z))
            refused_by_lem (Some true) q false h y z = let w = rights_found x.positive (right_of S here rec) true (sym answer_is ∙ q) in of z (not_rising_refused w.0 w.1 b pb h)

            passed : (u : std.Option Bool) (c : Bool) → refusal_of u c ≡ Ok tt → (u ≡ Some true) × (c ≡ true)
            passed None c z = absurd (err_not_ok z)
            passed (Some false) true z = absurd (err_not_ok z)
            passed (Some false) false z = absurd (err_not_ok z)
            passed (Some true) true z = (refl, refl)
            passed (Some true) false z = absurd (err_not_ok z)

            named_checked : refusal_of t b ≡ Ok tt → (a : ℕ) → a ≡ get_or ns 0 0 → ResolveNamed ns k n C B N O A (record { clause = a; row = x.row; index = x.index }) L m
            named_checked z a pa = let p = passed t b z in let w = rights_found x.positive (right_of S here rec) true (sym answer_is ∙ p.0) in checked w.0 w.1 b pb p.1 w.2 a pa

        module _ (x : NamedLiteral) (found : r ≡ Some x) (b : Bool) (pb : b ≡ rising (take m (drop 3 (fields_of P)))) (L : List ℕ) (q : Result (Unit {0}) Reason) (T : RightsTested O C n.clauses ns m x.positive b L q) where
          pub resolve_refused : {y : Reason} {g : Entered} → q ≡ Err y → g ≡ Err y → StepRead F k n C B N O A E C B O A g
          resolve_refused {y} z h = subst (StepRead F k n C B N O A E C B O A) (sym h) (refused_by_lem x found L T.answered T.named b pb T.answered refl b refl y (sym T.refusal ∙ z))

          module _ (z : q ≡ Ok tt) (a : ℕ) (pa : a ≡ get_or ns 0 0) where
            pub resolve_checked : ResolveNamed ns k n C B N O A (record { clause = a; row = x.row; index = x.index }) L m
            resolve_checked = named_checked x found L T.answered T.named b pb (sym T.refusal ∙ z) a pa

            pub resolve_read : (C' B' O' A' : List ℕ) (g : Entered) → ((R : ResolveNamed ns k n C B N O A (record { clause = a; row = x.row; index = x.index }) L m) → StepRead R.file k n C B N O A R.step C' B' O' A' g) → StepRead F k n C B N O A E C' B' O' A' g
            unfolding resolve_checked named_checked checked
            resolve_read C' B' O' A' g f = f resolve_checked

  -- Factor, test by test.
  module _ (kd : kind_of (record_part F k) ≡ 6) (P : List ℕ) (e : P ≡ record_part F k) (b : Bool) (range : b ≡ step_in_range 3 (decoded P)) where
    factor_ranged : not b ≡ false → in_range factorKind (decoded (record_part F k)) ≡ true
    factor_ranged q = ap (λ (l : List ℕ). step_in_range 3 (decoded l)) (sym e) ∙ sym range ∙ not-false b q

    pub factor_out : not b ≡ true → StepRead F k n C B N O A E C B O A (Err OutOfRange)
    unfolding require
    factor_out q = refuse OutOfRange (factor_tests (factor_kind kd) false (both_there (left_of S rec) (deleted_of S rec)) (factor_signs S rec) (factor_fits S rec) factor_outlines (ap (λ (l : List ℕ). step_in_range 3 (decoded l)) (sym e) ∙ sym range ∙ not-true b q) refl refl refl refl)

    module _ (ok : not b ≡ false) (ns : List ℕ) (fields : ns ≡ fields_of P) (r : std.Option (NamedLiteral × NamedLiteral))
        (named : (R : ClausesStored O C n.clauses) → r ≡ pair_answer (literal_named R.state (get_or ns 0 0) (get_or ns 1 0)) (literal_named R.state (get_or ns 0 0) (get_or ns 2 0))) where
      factor_field : (i : ℕ) → get_or ns i 0 ≡ get_or (fields_of (record_part F k)) i 0
      factor_field i = ap (λ (l : List ℕ). get_or l i 0) (fields ∙ ap fields_of e)

      factor_pair : r ≡ pair_answer (left_of E.state (decoded (record_part F k))) (deleted_of E.state (decoded (record_part F k)))
      factor_pair = pair_is (get_or ns 0 0) (get_or ns 1 0) (get_or ns 0 0) (get_or ns 2 0) (field_a rec) (field_b rec) (field_a rec) (field_c rec) (factor_field 0) (factor_field 1) (factor_field 0) (factor_field 2) r named

      pub factor_absent : r ≡ None → StepRead F k n C B N O A E C B O A (Err NotThere)
      unfolding require
      factor_absent q = refuse NotThere (factor_tests (factor_kind kd) true false (factor_signs S rec) (factor_fits S rec) factor_outlines (factor_ranged ok) (one_absent (left_of S rec) (deleted_of S rec) (sym factor_pair ∙ q)) refl refl refl)

      module _ (x y : NamedLiteral) (q : r ≡ Some (x, y)) where
        K : FoundLiteral (left_of E.state (decoded (record_part F k))) x
        K = (both_found (left_of S rec) (deleted_of S rec) x y (sym factor_pair ∙ q)).0

        D : FoundLiteral (deleted_of E.state (decoded (record_part F k))) y
        D = (both_found (left_of S rec) (deleted_of S rec) x y (sym factor_pair ∙ q)).1

        two_named : both_there (left_of E.state (decoded (record_part F k))) (deleted_of E.state (decoded (record_part F k))) ≡ true
        two_named = ap₂ (λ (o p : Option (Derivation × Literal)). is_there o && is_there p) K.is_named D.is_named

        sign_of_both : factor_signs E.state (decoded (record_part F k)) ≡ (equal_signs x.positive y.positive && not (eqb (get_or ns 1 0) (get_or ns 2 0)))
        sign_of_both =
            ap₂ (λ (o p : Option (Derivation × Literal)). on_both (λ v w. equal_signs v.1.0 w.1.0) o p && not (eqb (field_b rec) (field_c rec))) K.is_named D.is_named
            ∙ ap₂ (λ (v w : NamedLiteral). equal_signs v.positive w.positive && not (eqb (field_b rec) (field_c rec))) K.is_literal D.is_literal
            ∙ sym (ap₂ (λ (i j : ℕ). equal_signs x.positive y.positive && not (eqb i j)) (factor_field 1) (factor_field 2))

        pub factor_other_signs : not (beq x.positive y.positive) ≡ true → StepRead F k n C B N O A E C B O A (Err WrongSigns)
        unfolding require
        factor_other_signs h = refuse WrongSigns (factor_tests (factor_kind kd) true true false (factor_fits S rec) factor_outlines (factor_ranged ok) two_named (sign_of_both ∙ ap (λ (v : Bool). v && not (eqb (get_or ns 1 0) (get_or ns 2 0))) (equal_signs-beq x.positive y.positive ∙ not-true (beq x.positive y.positive) h)) refl refl)

        module _ (h : not (beq x.positive y.positive) ≡ false) where
          different : factor_signs E.state (decoded (record_part F k)) ≡ not (eqb (get_or ns 1 0) (get_or ns 2 0))
          different = sign_of_both ∙ ap (λ (v : Bool). v && not (eqb (get_or ns 1 0) (get_or ns 2 0))) (equal_signs-beq x.positive y.positive ∙ not-false (beq x.positive y.positive) h)

          pub factor_same : get_or ns 1 0 ≡ get_or ns 2 0 → StepRead F k n C B N O A E C B O A (Err WrongSigns)
          unfolding require
          factor_same u = refuse WrongSigns (factor_tests (factor_kind kd) true true false (factor_fits S rec) factor_outlines (factor_ranged ok) two_named (different ∙ ap not (eq-eqb (get_or ns 1 0) (get_or ns 2 0) u)) refl refl)

          module _ (u : ¬ (get_or ns 1 0 ≡ get_or ns 2 0)) (a : ℕ) (pa : a ≡ get_or ns 0 0) where
            pub factor_checked : FactorNamed ns k n C B N O A (record { clause = a; row = x.row; index = x.index }) (record { clause = a; row = y.row; index = y.index })
            unfolding atom_found
            factor_checked = record {
              file = F;
              numbers = fields ∙ ap fields_of e;
              step = E;
              is_factor = kd;
              ranged = factor_ranged ok;
              same_clause = refl;
              kept = atom_found (field_a rec) (field_b rec) a x (pa ∙ factor_field 0) K;
              deleted = atom_found (field_a rec) (field_c rec) a y (pa ∙ factor_field 0) D;
              is_kept = K.is_named;
              is_deleted = D.is_named;
              signs = different ∙ ap not (ne_eqb (get_or ns 1 0) (get_or ns 2 0) u);
            }

            pub factor_read : (C' B' O' A' : List ℕ) (g : Entered) → ((R : FactorNamed ns k n C B N O A (record { clause = a; row = x.row; index = x.index }) (record { clause = a; row = y.row; index = y.index })) → StepRead R.file k n C B N O A R.step C' B' O' A' g) → StepRead F k n C B N O A E C' B' O' A' g
            unfolding factor_checked
            factor_read C' B' O' A' g f = f factor_checked
