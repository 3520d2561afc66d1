-- A file all of whose symbols, rows and clauses are kept and no window of which is superseded: its trimmed records are its records.
use mathlib.Core.Path.{◌≡◌, refl, sym, ap, ap₂, ◌∙◌, subst}
use mathlib.Core.Bool.{Bool, true, false, ◌&&◌, not}
use mathlib.Core.Option.{Option, none, some}
use mathlib.Core.List.{List, [], ◌∷◌, ◌++◌, map}
use Prim.Native.Nat.{ℕ, zero, suc, ◌+◌, ◌*◌, ◌/◌, ◌%◌, ◌<◌}
use native.Mathlib.Omega.{arith}
use lib.Dec.{eqb}
use lib.ListN.{length, get_or, take, drop, take-append-drop}
use Rattle.record.specs.Record.{pick, Record, otherKind, Kind, symbolKind, variableKind, applicationKind, inputKind, resolveKind, factorKind, severalKind, windowKind, field_a, field_b, field_c}
use Rattle.record.proofs.Records.{Shaped}
use Rattle.unification.specs.Row.{variable, Row}
use Rattle.unification.proofs.Lists.{Each}
use Rattle.unification.proofs.Rows.{Below}
use Rattle.unification.proofs.Tests.{both_true, true_not_false}
use Rattle.derivation.specs.Derivation.{RowLiteral, literal_of, input_literals, Derivation, resolve, factor, input}
use Rattle.derivation.specs.Stored.{literal_number}
use Rattle.renumbering.specs.Renumbering.{Renumbering, renumbered_row_literal}
use Rattle.verdict.specs.Refusal.{kind_of_record, left_of, right_numbers, right_of, deleted_of, is_input, has_arity, all_below, argument_rows}
use Rattle.verdict.specs.State.{State, with_row, with_clause, arities, arity_of, rows_of, derivations, clause_of, next_clause, earliest_of, record_of_row}
use Rattle.verdict.specs.Step.{stands, refused, Result, step, unify_resolve, unify_factor, new_application, new_literals, enter_resolvent, read, all_stand, refused_at}
use Rattle.verdict.proofs.Endings.{stands_not_refused}
use Rattle.demands.proofs.Inversions.{tests_passed, stands_same, named_stands, literal_named_lem, literals_named, clause_added, has_arity_lem, all_below_lem, rows_below, entry_below}
use Rattle.demands.proofs.RangeTests.{equal, unequal}
use Rattle.demands.proofs.Tabled.{seven_numbers}
use Rattle.trimming.specs.Kept.{Kept}
use Rattle.trimming.specs.Trimming.{kept_below, closed_up, closed_fields, closed_record, Next, next_after, dated_in, is_kept, trimmed_from}
use Rattle.trimmed.proofs.Grown.{Grown, grown_on, step_grown, read_grown}
use Rattle.trimmed.proofs.KeptDeclared.{step_of, tests_of_lem}
use Rattle.trimmed.proofs.TrimmedRead.{next_of}

-- All numbers below are kept, and so they stay.
pub all_below_kept : (kept : ℕ → Bool) (n : ℕ) → ((m : ℕ) → m < n → kept m ≡ true) → kept_below kept n ≡ n
all_below_kept kept zero h = refl
all_below_kept kept (suc n) h = ap (λ (b : Bool). pick b 1 0 + kept_below kept n) (h n (omega arith)) ∙ (let z = all_below_kept kept n (λ m l. h m (omega arith)) in omega arith)

-- No window is superseded by a later record.
abbrev pub LastWindows : List Record → Type 0
LastWindows [] = Unit {0}
LastWindows (r ∷ rs) = (kind_of_record r ≡ windowKind → dated_in rs (field_a r) ≡ false) × LastWindows rs

number_back : (n : ℕ) → literal_number (literal_of n) ≡ n
number_back n = try (eqb (n % 2) 1) refl
  where
    try : (b : Bool) → eqb (n % 2) 1 ≡ b → 2 * (n / 2) + pick b 1 0 ≡ n
    try true q = let e = equal (n % 2) 1 q in omega arith
    try false q = let e = unequal (n % 2) 1 q in omega arith

module _ (T : State) (K : Kept) where
  pub record AllKept : Type 0 where
    pub symbols : (s : ℕ) → s < length (arities T) → K.symbol s ≡ true
    pub rows : (q : ℕ) → q < length (rows_of T) → K.row q ≡ true
    pub clauses : (n : ℕ) → n < next_clause T → K.clause n ≡ true
    pub earliest : (q : ℕ) → q < length (rows_of T) → earliest_of T q ≡ q

  module _ (H : AllKept) where
    abbrev N : Renumbering
    N = closed_up T K

    same_symbol : (s : ℕ) → s < length (arities T) → N.symbol s ≡ s
    same_symbol s l = all_below_kept K.symbol s (λ m j. H.symbols m (omega arith))

    same_row_lem : (q : ℕ) → q < length (rows_of T) → N.row q ≡ q
    same_row_lem q l = ap (kept_below K.row) (H.earliest q l) ∙ all_below_kept K.row q (λ m j. H.rows m (omega arith))

    same_clause_lem : (n : ℕ) → n < next_clause T → N.clause n ≡ n
    same_clause_lem n l = all_below_kept K.clause n (λ m j. H.clauses m (omega arith))

    same_rows : (xs : List ℕ) → Each (λ x. x < length (rows_of T)) xs → map N.row xs ≡ xs
    same_rows [] h = refl
    same_rows (x ∷ xs) h = ap₂ (λ (n : ℕ) (ns : List ℕ). n ∷ ns) (same_row_lem x h.0) (same_rows xs h.1)

    same_literals : (xs : List ℕ) → Each (λ (l : RowLiteral). l.1 < length (rows_of T)) (map literal_of xs) → map (λ m. literal_number (renumbered_row_literal N (literal_of m))) xs ≡ xs
    same_literals [] h = refl
    same_literals (x ∷ xs) h = ap₂ (λ (n : ℕ) (ns : List ℕ). n ∷ ns) (ap (λ (q : ℕ). literal_number ((literal_of x).0, q)) (same_row_lem (literal_of x).1 h.0) ∙ number_back x) (same_literals xs h.1)

    module _ (A : State) (k : ℕ) (r : Record) (A' : State) (seven : length r.fields ≡ 7) (G : Grown A T) where
      by_seven : (P : List ℕ → Type 0) → ((a b c d e f g : ℕ) → P (a ∷ b ∷ c ∷ d ∷ e ∷ f ∷ g ∷ [])) → P r.fields
      by_seven P h = subst P (seven_numbers r.fields seven) (h _ _ _ _ _ _ _)

      clause_below : (n : ℕ) (d : Derivation) → clause_of A n ≡ some d → n < next_clause T
      clause_below n d q = omega (arith, entry_below (derivations A) n d q, G.count)

      rows_below_there : (xs : List ℕ) → Below (length (rows_of A)) xs → Each (λ x. x < length (rows_of T)) xs
      rows_below_there [] h = tt
      rows_below_there (x ∷ xs) h = (omega (arith, h.0, G.longer), rows_below_there xs h.1)

      literals_below_there : (ls : List RowLiteral) → Each (λ (l : RowLiteral). l.1 < length (rows_of A)) ls → Each (λ (l : RowLiteral). l.1 < length (rows_of T)) ls
      literals_below_there [] h = tt
      literals_below_there (l ∷ ls) h = (omega (arith, h.0, G.longer), literals_below_there ls h.1)

      two_clauses_lem : field_a r < next_clause T → field_c r < next_clause T → N.clause (field_a r) ∷ field_b r ∷ N.clause (field_c r) ∷ drop 3 r.fields ≡ r.fields
      two_clauses_lem l m =
          ap₂ (λ (x y : ℕ). x ∷ field_b r ∷ y ∷ drop 3 r.fields) (same_clause_lem (field_a r) l) (same_clause_lem (field_c r) m)
          ∙ by_seven (λ fs. get_or fs 0 0 ∷ get_or fs 1 0 ∷ get_or fs 2 0 ∷ drop 3 fs ≡ fs) (λ a b c d e f g. refl)

      one_clause_lem : field_a r < next_clause T → N.clause (field_a r) ∷ drop 1 r.fields ≡ r.fields
      one_clause_lem l = ap (λ (x : ℕ). x ∷ drop 1 r.fields) (same_clause_lem (field_a r) l) ∙ by_seven (λ fs. get_or fs 0 0 ∷ drop 1 fs ≡ fs) (λ a b c d e f g. refl)

      resolve_same : (kind : Kind) → enter_resolvent A k kind r ≡ stands A' → N.clause (field_a r) ∷ field_b r ∷ N.clause (field_c r) ∷ drop 3 r.fields ≡ r.fields
      resolve_same kind q =
          let s = named_stands _ (left_of A r) (right_of A kind r) A' q in
          two_clauses_lem (clause_below (field_a r) s.0.0 (literal_named_lem A (field_a r) (field_b r) s.0 s.2).0) (clause_below (field_c r) s.1.0 (literals_named A (field_c r) (right_numbers kind r) s.1 s.3).0)

      pub fields_same : (kind : Kind) → step_of A k kind r ≡ stands A' → closed_fields N kind r ≡ r.fields
      fields_same symbolKind q = refl
      fields_same variableKind q = refl
      fields_same applicationKind q =
          let p = tests_passed A applicationKind r (tests_of_lem A k applicationKind r A' q).0 in
          let t = both_true (has_arity r.count (arity_of A (field_a r))) (all_below (length (rows_of A)) (argument_rows r)) p.there in
          let s : field_a r < length (arities T) = omega (arith, entry_below (arities A) (field_a r) r.count (has_arity_lem r.count (arity_of A (field_a r)) t.0), G.symbols) in
          let e : 1 + r.count ≡ suc r.count = omega arith in
          ap₂ (λ (x : ℕ) (xs : List ℕ). x ∷ (xs ++ drop (1 + r.count) r.fields)) (same_symbol (field_a r) s) (same_rows (argument_rows r) (rows_below_there (argument_rows r) (all_below_lem (length (rows_of A)) (argument_rows r) t.1)))
          ∙ ap (λ (n : ℕ). field_a r ∷ (argument_rows r ++ drop n r.fields)) e
          ∙ by_seven (λ fs. get_or fs 0 0 ∷ (take r.count (drop 1 fs) ++ drop (suc r.count) fs) ≡ fs) (λ a b c d e f g. ap (λ (xs : List ℕ). a ∷ xs) (take-append-drop r.count (b ∷ c ∷ d ∷ e ∷ f ∷ g ∷ [])))
      fields_same inputKind q =
          let p = tests_passed A inputKind r (tests_of_lem A k inputKind r A' q).0 in
          ap (λ (xs : List ℕ). xs ++ drop r.count r.fields) (same_literals (take r.count r.fields) (literals_below_there (input_literals r) (rows_below (length (rows_of A)) (input_literals r) p.there)))
          ∙ take-append-drop r.count r.fields
      fields_same resolveKind q = resolve_same resolveKind (tests_of_lem A k resolveKind r A' q).2
      fields_same severalKind q = resolve_same severalKind (tests_of_lem A k severalKind r A' q).2
      fields_same factorKind q =
          let s = named_stands _ (left_of A r) (deleted_of A r) A' (tests_of_lem A k factorKind r A' q).2 in
          one_clause_lem (clause_below (field_a r) s.0.0 (literal_named_lem A (field_a r) (field_b r) s.0 s.2).0)
      fields_same windowKind q = one_clause_lem (window_below (clause_of A (field_a r)) refl (tests_passed A windowKind r (tests_of_lem A k windowKind r A' q).0).there)
        where
          window_below : (o : Option Derivation) → clause_of A (field_a r) ≡ o → is_input o ≡ true → field_a r < next_clause T
          window_below none e h = absurd (true_not_false h refl)
          window_below (some d) e h = clause_below (field_a r) d e
      fields_same otherKind q = absurd (tests_passed A otherKind r (tests_of_lem A k otherKind r A' q).0)

      -- ── The record is kept ──
      module _ (rs : List Record) (G' : Grown A' T) where
        pub record Stays (kind : Kind) : Type 0 where
          pub kept : is_kept K (next_of A) kind r rs ≡ true
          pub next : next_of A' ≡ next_after (next_of A) kind

        clause_stays : (kind : Kind) (c : Derivation) (X : State) → derivations X ≡ c ∷ derivations A → X ≡ A' → K.clause (next_clause A) ≡ true
        clause_stays kind c X d q =
            let n : next_clause A' ≡ suc (next_clause A) = ap next_clause (sym q) ∙ ap length d in
            H.clauses (next_clause A) (omega (arith, n, G'.count))

        row_stays : (m : ℕ) (w : Row) → with_row A m w ≡ A' → K.row (length (rows_of A)) ≡ true
        row_stays m w q =
            let n : length (rows_of A') ≡ suc (length (rows_of A)) = ap (λ (X : State). length (rows_of X)) (sym q) in
            H.rows (length (rows_of A)) (omega (arith, n, G'.longer))

        resolvent_stays : (kind : Kind) → enter_resolvent A k kind r ≡ stands A' → (K.clause (next_clause A) ≡ true) × (next_of A' ≡ next_after (next_of A) resolveKind)
        resolvent_stays kind q =
            let s = named_stands _ (left_of A r) (right_of A kind r) A' q in
            let c = clause_added A k (resolve (next_clause A) s.0.0 (field_b r) s.1.0 (right_numbers kind r)) (unify_resolve A s.0 s.1) A' s.4 in
            let d = resolve (next_clause A) s.0.0 (field_b r) s.1.0 (right_numbers kind r) c.0 in
            (clause_stays kind d (with_clause A k d) refl c.3, ap next_of (sym c.3))

        pub stays : (kind : Kind) → step_of A k kind r ≡ stands A' → (kind ≡ windowKind → dated_in rs (field_a r) ≡ false) → Stays kind
        stays symbolKind q w =
            let e = stands_same (tests_of_lem A k symbolKind r A' q).2 in
            let n : length (arities A') ≡ suc (length (arities A)) = ap (λ (X : State). length (arities X)) (sym e) in
            record { kept = H.symbols (length (arities A)) (omega (arith, n, G'.symbols)); next = ap next_of (sym e) }
        stays variableKind q w = let e = stands_same (tests_of_lem A k variableKind r A' q).2 in record { kept = row_stays (record_of_row A k (variable (field_a r))) (variable (field_a r)) e; next = ap next_of (sym e) }
        stays applicationKind q w = let e = stands_same (tests_of_lem A k applicationKind r A' q).2 in record { kept = row_stays (record_of_row A k (new_application A r)) (new_application A r) e; next = ap next_of (sym e) }
        stays inputKind q w = let e = stands_same (tests_of_lem A k inputKind r A' q).2 in record { kept = clause_stays inputKind (input (next_clause A) (new_literals A r)) _ refl e; next = ap next_of (sym e) }
        stays resolveKind q w = let s = resolvent_stays resolveKind (tests_of_lem A k resolveKind r A' q).2 in record { kept = s.0; next = s.1 }
        stays severalKind q w = let s = resolvent_stays severalKind (tests_of_lem A k severalKind r A' q).2 in record { kept = s.0; next = s.1 }
        stays factorKind q w =
            let s = named_stands _ (left_of A r) (deleted_of A r) A' (tests_of_lem A k factorKind r A' q).2 in
            let c = clause_added A k (factor (next_clause A) s.0.0 (field_b r) (field_c r)) (unify_factor A s.0 s.1) A' s.4 in
            let d = factor (next_clause A) s.0.0 (field_b r) (field_c r) c.0 in
            record { kept = clause_stays factorKind d (with_clause A k d) refl c.3; next = ap next_of (sym c.3) }
        stays windowKind q w = record {
          kept = ap₂ (λ (b c : Bool). b && not c) (dated (clause_of A (field_a r)) refl (tests_passed A windowKind r (tests_of_lem A k windowKind r A' q).0).there) (w refl);
          next = ap next_of (sym (stands_same (tests_of_lem A k windowKind r A' q).2));
        }
          where
            dated : (o : Option Derivation) → clause_of A (field_a r) ≡ o → is_input o ≡ true → K.clause (field_a r) ≡ true
            dated none e h = absurd (true_not_false h refl)
            dated (some d) e h = H.clauses (field_a r) (clause_below (field_a r) d e)
        stays otherKind q w = absurd (tests_passed A otherKind r (tests_of_lem A k otherKind r A' q).0)

    pub all_stay : (rs : List Record) (A : State) (k : ℕ) → Shaped rs → LastWindows rs → read A k rs ≡ all_stand T → trimmed_from K N (next_of A) rs ≡ rs
    all_stay [] A k s w q = refl
    all_stay (r ∷ rs) A k s w q = try (step A k r) refl q (λ U z. all_stay rs U (suc k) s.1 w.1 z)
      where
        try : (o : Result) → step A k r ≡ o → elim o [ stands U ↦ read U (suc k) rs | refused x ↦ refused_at A x k ] ≡ all_stand T → ((U : State) → read U (suc k) rs ≡ all_stand T → trimmed_from K N (next_of U) rs ≡ rs) → trimmed_from K N (next_of A) (r ∷ rs) ≡ r ∷ rs
        try (stands U) e z ih =
            let G' = read_grown rs U (suc k) T z in
            let G = grown_on A U T (step_grown A k r U e) G' in
            let t = stays A k r U s.0 G rs G' (kind_of_record r) e w.0 in
            let f = fields_same A k r U s.0 G (kind_of_record r) e in
            let same : closed_record N r ≡ r = λ i. record { kind = r.kind; count = r.count; fields = f i; days = r.days } in
            ap₂ (λ (b : Bool) (n : Next). pick b (closed_record N r ∷ trimmed_from K N n rs) (trimmed_from K N n rs)) t.kept (sym t.next) ∙ ap₂ (λ (x : Record) (xs : List Record). x ∷ xs) same (ih U z)
        try (refused x) e z ih = absurd (stands_not_refused (sym z))
