-- A clause renumbered and then written out is the clause written out, with other symbols and variables; and, by variable numbers, with other symbols only.
use mathlib.Core.Path.{◌≡◌, refl, sym, ap, ap₂, ◌∙◌, subst}
use mathlib.Core.Bool.{Bool, true, false}
use mathlib.Core.List.{List, [], ◌∷◌, map}
use Prim.Native.Nat.{ℕ, ◌-◌}
use lib.Dec.{leb}
use Rattle.record.specs.Record.{pick}
use Rattle.unification.specs.Environment.{Binding}
use Rattle.unification.specs.Row.{Row, Expression, Variable, same, written_out}
use Rattle.unification.specs.Substitution.{single, composed}
use Rattle.unification.specs.Term.{Term, Terms, var, app, nil, cons, apply, apply_all, Variables, AllVariables}
use Rattle.unification.proofs.Lists.{Each, each_map, map_each, map_map}
use Rattle.unification.proofs.Terms.{variables_more, variables_apply}
use Rattle.derivation.specs.Derivation.{literals, input, Literal, Derivation, resolve, factor, maximum_index}
use Rattle.derivation.specs.Written.{renamed, joined_substitution, substitution, written_literal, written}
use Rattle.renumbering.proofs.Inside.{InsideBinding, InsideDerivation, Renumbers, RenumbersTerms}
use Rattle.renumbering.specs.Renumbering.{Renumbering, renamed_term, renamed_terms, with_symbols, literal_with_symbols}
use Rattle.renumbering.proofs.Renumbered.{renumbered_row, renumbered_expression, renumbered_binding, renumbered_literal, renumbered_derivation}
use Rattle.renumbering.proofs.Derivations.{maximum_index_renumbered, literals_renumbered, AtomInside, literals_inside}
use Rattle.renumbering.proofs.EqualNumbers.{same_renumbered}
use Rattle.renumbering.proofs.Looking.{OneRow}

-- A variable, and a literal's variables, by what a function says of the variable's row, such as its number.
abbrev pub named_variable : {Z : Type 0} → (ℕ → Z) → Variable → Z × ℕ
named_variable g x = (g x.0, x.1)

abbrev pub named_literal : {Z : Type 0} → (ℕ → Z) → Bool × Term Variable → Bool × Term (Z × ℕ)
named_literal g l = (l.0, renamed_term (λ s. s) (named_variable g) l.1)

-- A substitution before and after: f has the variables' other names, n those of the result.
module _ {X X' Y Y' : Type 0} (symbol : ℕ → ℕ) (f : X → X') (n : Y → Y') (γ : X → Term Y) (γ' : X' → Term Y') where
  mutual
    pub apply_renamed : (t : Term X) → Variables (λ (x : X). γ' (f x) ≡ renamed_term symbol n (γ x)) t → apply γ' (renamed_term symbol f t) ≡ renamed_term symbol n (apply γ t)
    apply_renamed (var x) h = h
    apply_renamed (app s ts) h = ap (app (symbol s)) (apply_all_renamed ts h)

    pub apply_all_renamed : (ts : Terms X) → AllVariables (λ (x : X). γ' (f x) ≡ renamed_term symbol n (γ x)) ts → apply_all γ' (renamed_terms symbol f ts) ≡ renamed_terms symbol n (apply_all γ ts)
    apply_all_renamed nil h = refl
    apply_all_renamed (cons t ts) h = ap₂ cons (apply_renamed t h.0) (apply_all_renamed ts h.1)

-- Renumbered and then named, or named and then with other symbols.
module _ {X Y Z : Type 0} (symbol : ℕ → ℕ) (f : X → Y) (n : Y → Z) (m : X → Z) where
  mutual
    pub named_renamed : (t : Term X) → Variables (λ (x : X). n (f x) ≡ m x) t → renamed_term (λ s. s) n (renamed_term symbol f t) ≡ with_symbols symbol (renamed_term (λ s. s) m t)
    named_renamed (var x) h = ap var h
    named_renamed (app s ts) h = ap (app (symbol s)) (named_all_renamed ts h)

    pub named_all_renamed : (ts : Terms X) → AllVariables (λ (x : X). n (f x) ≡ m x) ts → renamed_terms (λ s. s) n (renamed_terms symbol f ts) ≡ renamed_terms symbol (λ x. x) (renamed_terms (λ s. s) m ts)
    named_all_renamed nil h = refl
    named_all_renamed (cons t ts) h = ap₂ cons (named_renamed t h.0) (named_all_renamed ts h.1)

module _ (N : Renumbering) (I : ℕ → Type 0) where
  -- What a renumbering leaves as it was in each row, such as a variable's number, is the same of a row and of that row renumbered.
  pub rows_named : (symbolInside : ℕ → Type 0) (row row' : ℕ → Row) → Renumbers N I symbolInside row row' → {Z : Type 0} (g : Row → Z) → ((w : Row) → g (renumbered_row N w) ≡ g w)
      → (r : ℕ) → I r → g (row' (N.row r)) ≡ g (row r)
  rows_named symbolInside row row' R g unchanged r h = ap g (R.rows r h) ∙ unchanged (row r)

  -- A term over variables at an index, renumbered; and its variables' rows are inside.
  abbrev pub renumbered_term : Term Variable → Term Variable
  renumbered_term t = renamed_term N.symbol (renumbered_expression N) t

  abbrev pub TermInside : Term Variable → Type 0
  TermInside t = Variables (λ (x : Variable). I x.0) t

  -- Two substitutions that agree on what is inside, up to the renumbering; the first one stays inside.
  pub record RenumbersSubstitution (σ σ' : Variable → Term Variable) : Type 0 where
    pub values : (x : Variable) → I x.0 → σ' (renumbered_expression N x) ≡ renumbered_term (σ x)
    pub stays : (x : Variable) → I x.0 → TermInside (σ x)

  pub joined_substitution_renumbers : (m : ℕ) (σ σ' τ τ' : Variable → Term Variable) → RenumbersSubstitution σ σ' → RenumbersSubstitution τ τ' → RenumbersSubstitution (joined_substitution m σ τ) (joined_substitution m σ' τ')
  joined_substitution_renumbers m σ σ' τ τ' S T = record { values = valued; stays = λ x h. stayed (leb x.1 m) x h }
    where
      picked : (b : Bool) (s t : Term Variable) → pick b (renumbered_term s) (renumbered_term t) ≡ renumbered_term (pick b s t)
      picked true s t = refl
      picked false s t = refl

      raised : (t : Term Variable) → TermInside t → apply (renamed m) (renumbered_term t) ≡ renumbered_term (apply (renamed m) t)
      raised t h = apply_renamed N.symbol (renumbered_expression N) (renumbered_expression N) (renamed m) (renamed m) t
          (variables_more (λ (x : Variable). I x.0) (λ (x : Variable). renamed m (renumbered_expression N x) ≡ renumbered_term (renamed m x)) (λ x k. refl) t h)

      valued : (x : Variable) → I x.0 → joined_substitution m σ' τ' (renumbered_expression N x) ≡ renumbered_term (joined_substitution m σ τ x)
      valued x h =
          ap₂ (λ (s t : Term Variable). pick (leb x.1 m) s t) (S.values x h)
          (ap (apply (renamed m)) (T.values (x.0, x.1 - m) h) ∙ raised (τ (x.0, x.1 - m)) (T.stays (x.0, x.1 - m) h))
          ∙ picked (leb x.1 m) (σ x) (apply (renamed m) (τ (x.0, x.1 - m)))

      stayed : (b : Bool) (x : Variable) → I x.0 → TermInside (pick b (σ x) (apply (renamed m) (τ (x.0, x.1 - m))))
      stayed true x h = S.stays x h
      stayed false x h = variables_apply (λ (y : Variable). I y.0) (renamed m) (τ (x.0, x.1 - m)) (T.stays (x.0, x.1 - m) h)

  module _ (term term' : ℕ → Term ℕ) (terms : RenumbersTerms N I term term') where
    -- An expression written out.
    pub written_out_renamed : {Y Y' : Type 0} (n : Y → Y') (γ : Variable → Term Y) (γ' : Variable → Term Y')
        → ((x : Variable) → I x.0 → γ' (renumbered_expression N x) ≡ renamed_term N.symbol n (γ x))
        → (e : Expression) → I e.0 → written_out term' γ' (renumbered_expression N e) ≡ renamed_term N.symbol n (written_out term γ e)
    written_out_renamed n γ γ' h e k =
        ap (apply (λ v. γ' (v, e.1))) (terms.terms e.0 k)
        ∙ apply_renamed N.symbol N.row n (λ v. γ (v, e.1)) (λ v. γ' (v, e.1)) (term e.0)
        (variables_more I (λ (v : ℕ). γ' (N.row v, e.1) ≡ renamed_term N.symbol n (γ (v, e.1))) (λ v j. h (v, e.1) j) (term e.0) (terms.variables e.0 k))

    pub written_out_inside : (σ : Variable → Term Variable) → ((x : Variable) → I x.0 → TermInside (σ x)) → (e : Expression) → I e.0 → TermInside (written_out term σ e)
    written_out_inside σ h e k =
        variables_apply (λ (y : Variable). I y.0) (λ v. σ (v, e.1)) (term e.0)
        (variables_more I (λ (v : ℕ). TermInside (σ (v, e.1))) (λ v j. h (v, e.1) j) (term e.0) (terms.variables e.0 k))

    module _ (one : OneRow N I) where
      -- One binding as a substitution.
      single_renumbers : (x : Variable) (t t' : Term Variable) → I x.0 → t' ≡ renumbered_term t → TermInside t → RenumbersSubstitution (single x t) (single (renumbered_expression N x) t')
      single_renumbers x t t' h q k = record {
        values = λ y j. ap₂ (λ (b : Bool) (s : Term Variable). pick b s (var (renumbered_expression N y))) (same_renumbered N y x (one y.0 x.0 j h)) q ∙ picked (same y x) y;
        stays = λ y j. stayed (same y x) y j;
      }
        where
          picked : (b : Bool) (y : Variable) → pick b (renumbered_term t) (var (renumbered_expression N y)) ≡ renumbered_term (pick b t (var y))
          picked true y = refl
          picked false y = refl

          stayed : (b : Bool) (y : Variable) → I y.0 → TermInside (pick b t (var y))
          stayed true y j = k
          stayed false y j = j

      -- One substitution after another.
      after_renumbers : (σ σ' τ τ' : Variable → Term Variable) → RenumbersSubstitution σ σ' → RenumbersSubstitution τ τ' → RenumbersSubstitution (λ x. apply τ (σ x)) (λ x. apply τ' (σ' x))
      after_renumbers σ σ' τ τ' S T = record {
        values = λ x h. ap (apply τ') (S.values x h) ∙ apply_renamed N.symbol (renumbered_expression N) (renumbered_expression N) τ τ' (σ x)
            (variables_more (λ (y : Variable). I y.0) (λ (y : Variable). τ' (renumbered_expression N y) ≡ renumbered_term (τ y)) T.values (σ x) (S.stays x h));
        stays = λ x h. variables_apply (λ (y : Variable). I y.0) τ (σ x) (variables_more (λ (y : Variable). I y.0) (λ (y : Variable). TermInside (τ y)) T.stays (σ x) (S.stays x h));
      }

      pub composed_renumbers : (σ σ' : Variable → Term Variable) → RenumbersSubstitution σ σ' → (bs : List Binding) → Each (InsideBinding I) bs → RenumbersSubstitution (composed term σ bs) (composed term' σ' (map (renumbered_binding N) bs))
      composed_renumbers σ σ' S [] h = record { values = S.values; stays = S.stays }
      composed_renumbers σ σ' S (b ∷ bs) h = more (composed_renumbers σ σ' S bs h.1)
        where
          more : RenumbersSubstitution (composed term σ bs) (composed term' σ' (map (renumbered_binding N) bs)) → RenumbersSubstitution (composed term σ (b ∷ bs)) (composed term' σ' (map (renumbered_binding N) (b ∷ bs)))
          more C =
              after_renumbers (composed term σ bs) (composed term' σ' (map (renumbered_binding N) bs))
              (single b.0 (written_out term (composed term σ bs) b.1)) (single (renumbered_expression N b.0) (written_out term' (composed term' σ' (map (renumbered_binding N) bs)) (renumbered_expression N b.1))) C
              (single_renumbers b.0 (written_out term (composed term σ bs) b.1) (written_out term' (composed term' σ' (map (renumbered_binding N) bs)) (renumbered_expression N b.1)) h.0.0
              (written_out_renamed (renumbered_expression N) (composed term σ bs) (composed term' σ' (map (renumbered_binding N) bs)) C.values b.1 h.0.1)
              (written_out_inside (composed term σ bs) C.stays b.1 h.0.1))

      pub substitution_renumbers : (d : Derivation) → InsideDerivation I d → RenumbersSubstitution (substitution term d) (substitution term' (renumbered_derivation N d))
      substitution_renumbers (input number ls) h = record { values = λ x k. refl; stays = λ x k. k }
      substitution_renumbers (resolve number l a r ns bs) h =
          let left = substitution term' (renumbered_derivation N l) in
          let right = substitution term' (renumbered_derivation N r) in
          composed_renumbers (joined_substitution (maximum_index l) (substitution term l) (substitution term r)) (joined_substitution (maximum_index (renumbered_derivation N l)) left right)
          (subst (λ (m : ℕ). RenumbersSubstitution (joined_substitution (maximum_index l) (substitution term l) (substitution term r)) (joined_substitution m left right)) (sym (maximum_index_renumbered N l))
          (joined_substitution_renumbers (maximum_index l) (substitution term l) left (substitution term r) right (substitution_renumbers l h.0) (substitution_renumbers r h.1)))
          bs h.2
      substitution_renumbers (factor number c a b bs) h =
          composed_renumbers (substitution term c) (substitution term' (renumbered_derivation N c)) (substitution_renumbers c h.0) bs h.1

      module _ (d : Derivation) (inside : InsideDerivation I d) where
        pub substitution_renumbered : (x : Variable) → I x.0 → substitution term' (renumbered_derivation N d) (renumbered_expression N x) ≡ renamed_term N.symbol (renumbered_expression N) (substitution term d x)
        substitution_renumbered = (substitution_renumbers d inside).values

        pub substitution_inside : (x : Variable) → I x.0 → Variables (λ (y : Variable). I y.0) (substitution term d x)
        substitution_inside = (substitution_renumbers d inside).stays

        pub written_renumbered : written term' (renumbered_derivation N d) ≡ map (λ (l : Bool × Term Variable). (l.0, renamed_term N.symbol (renumbered_expression N) l.1)) (written term d)
        written_renumbered =
            ap (map (written_literal term' (substitution term' (renumbered_derivation N d)))) (literals_renumbered N d)
            ∙ map_map (written_literal term' (substitution term' (renumbered_derivation N d))) (renumbered_literal N) (literals d)
            ∙ map_each (AtomInside I) (λ (l : Literal). written_literal term' (substitution term' (renumbered_derivation N d)) (renumbered_literal N l)) (λ (l : Literal). (l.0, renumbered_term (written_out term (substitution term d) l.1)))
            (λ l k. ap (λ (t : Term Variable). (l.0, t)) (written_out_renamed (renumbered_expression N) (substitution term d) (substitution term' (renumbered_derivation N d)) substitution_renumbered l.1 k)) (literals d) (literals_inside I d inside)
            ∙ sym (map_map (λ (l : Bool × Term Variable). (l.0, renumbered_term l.1)) (written_literal term (substitution term d)) (literals d))

        pub written_inside : Each (λ (l : Bool × Term Variable). TermInside l.1) (written term d)
        written_inside = each_map (AtomInside I) (λ (l : Bool × Term Variable). TermInside l.1) (written_literal term (substitution term d))
            (λ l k. written_out_inside (substitution term d) substitution_inside l.1 k) (literals d) (literals_inside I d inside)

        -- With variables by what g says of their rows, and g' of the rows renumbered.
        module _ {Z : Type 0} (g g' : ℕ → Z) (agree : (r : ℕ) → I r → g' (N.row r) ≡ g r) where
          pub written_named : map (named_literal g') (written term' (renumbered_derivation N d)) ≡ map (literal_with_symbols N.symbol) (map (named_literal g) (written term d))
          written_named =
              ap (map (named_literal g')) written_renumbered
              ∙ map_map (named_literal g') (λ (l : Bool × Term Variable). (l.0, renumbered_term l.1)) (written term d)
              ∙ map_each (λ (l : Bool × Term Variable). TermInside l.1) (λ (l : Bool × Term Variable). named_literal g' (l.0, renumbered_term l.1)) (λ (l : Bool × Term Variable). literal_with_symbols N.symbol (named_literal g l))
              (λ l k. ap (λ (t : Term (Z × ℕ)). (l.0, t)) (named l.1 k)) (written term d) written_inside
              ∙ sym (map_map (literal_with_symbols N.symbol) (named_literal g) (written term d))
            where
              named : (t : Term Variable) → TermInside t → renamed_term (λ s. s) (named_variable g') (renumbered_term t) ≡ with_symbols N.symbol (renamed_term (λ s. s) (named_variable g) t)
              named t k =
                  named_renamed N.symbol (renumbered_expression N) (named_variable g') (named_variable g) t
                  (variables_more (λ (x : Variable). I x.0) (λ (x : Variable). named_variable g' (renumbered_expression N x) ≡ named_variable g x) (λ x j. ap (λ (v : Z). (v, x.1)) (agree x.0 j)) t k)
