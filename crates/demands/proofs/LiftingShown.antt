-- Nothing is lost by staying general. It is demand 2 for unifiers whose values are variable-free: the values of two instances that resolve are
-- one unifier of the named atoms, so (b) leaves no 10 or 11, and (a) makes it an instance of the most general one.
use mathlib.Core.Path.{◌≡◌, refl, sym, ap, ap₂, ◌∙◌, subst}
use mathlib.Core.Bool.{Bool, not}
use mathlib.Core.Option.{some}
use mathlib.Core.List.{List, [], ◌∷◌, map}
use Prim.Native.Nat.{ℕ}
use native.Mathlib.Omega.{arith}
use Rattle.record.specs.Record.{File, Record, field_a, field_b, field_c}
use Rattle.unification.specs.Row.{Variable}
use Rattle.unification.specs.Term.{Term, apply}
use Rattle.unification.specs.Unifier.{Unifies}
use Rattle.unification.proofs.Lists.{map_map}
use Rattle.unification.proofs.Tests.{some_injective}
use Rattle.derivation.specs.Derivation.{literals, Literal, Derivation, numbered, numbered_all, maximum_index}
use Rattle.derivation.specs.Ground.{Ground, GroundLiteral}
use Rattle.derivation.specs.Lifting.{GroundClause, ground_instance, InstanceOf, GroundResolvent, GroundFactor}
use Rattle.derivation.specs.Textbook.{instantiated, ClauseVariables, Resolvent, Factor}
use Rattle.derivation.specs.Written.{written, substitution, renamed, written_literal}
use Rattle.derivation.proofs.Lifting.{numbered_back, numbered_all_back, both_values, unifies_all, left_under, rights_under, resolvent_lifted, factor_lifted}
use Rattle.derivation.proofs.Literals.{In, literals_in_lem}
use Rattle.derivation.proofs.Resolvents.{clause_in_lem}
use Rattle.demands.specs.Conditions.{RightLiterals, Resolves}
use Rattle.demands.specs.Demands.{Reached, atom_of, resolve_atoms, factor_atoms, ResolventAdded, FactorAdded}
use Rattle.demands.specs.Lifting.{NotLost, NothingLost}
use Rattle.verdict.specs.State.{State, with_clause, clause_of, row_of, term_of}
use Rattle.demands.proofs.Demanded.{demand2}
use Rattle.demands.proofs.Reading.{reached_ok, term_of_row}
use Rattle.demands.proofs.Standing.{order_of}
use Rattle.verdict.specs.Tables.{Tables}

-- Tables do not come into what a step does.
abbrev no_tables : Tables
no_tables = record { symbols = []; rows = []; clauses = []; bindings = [] }

module _ (file : File) (k : ℕ) (S : State) (r : Record) (R : Reached file k S r) where
  abbrev term : ℕ → Term ℕ
  term = term_of S

  -- The variables of a clause that is held have indices up to its maximum index.
  in_clause : (n : ℕ) (c : Derivation) → clause_of S n ≡ some c → ClauseVariables (λ x. In (maximum_index c) x.1) (written (term_of S) c)
  in_clause n c q =
      let H = reached_ok file k S r R in
      clause_in_lem (row_of S) (term_of S) (term_of_row S H) c (order_of 4096 S H n c q).valid (literals c) (literals_in_lem c)

  module _ (ns : List ℕ) (left right : Derivation) (N : RightLiterals r ns) (p : clause_of S (field_a r) ≡ some left) (q : clause_of S (field_c r) ≡ some right)
      (γ δ : Variable → Ground) (E : GroundClause) (G : GroundResolvent (ground_instance γ (written (term_of S) left)) (field_b r) (ground_instance δ (written (term_of S) right)) ns E) where
    abbrev m : ℕ
    m = maximum_index left

    abbrev υ : Variable → Ground
    υ = both_values (maximum_index left) γ δ

    abbrev ground : Bool × Term Variable → GroundLiteral
    ground l = (l.0, apply υ l.1)

    abbrev raised : Bool × Term Variable → Bool × Term Variable
    raised l = (l.0, apply (renamed m) l.1)

    -- The literals that the step names, and that the values make their atoms one.
    named_left : (l : Literal) × (numbered (literals left) (field_b r) ≡ some l) × (apply υ (atom_of S left l) ≡ G.atom)
    named_left =
        let a = numbered_back ground (written term left) (field_b r) (G.sign, G.atom) (left_under m (maximum_index right) (written term left) (written term right) [] (field_b r) ns (in_clause (field_a r) left p) (in_clause (field_c r) right q) γ δ E G) in
        let b = numbered_back (written_literal term (substitution term left)) (literals left) (field_b r) a.0 a.1 in
        (b.0, b.1, ap (λ (l : Bool × Term Variable). apply υ l.1) b.2 ∙ ap (λ (l : GroundLiteral). l.1) a.2)

    named_right : (ms : List Literal) × (numbered_all (literals right) ns ≡ some ms)
        × (map (λ t. (not G.sign, apply υ t)) (map (λ l. apply (renamed m) (atom_of S right l)) ms) ≡ map {B = GroundLiteral} (λ b. (not G.sign, G.atom)) ns)
    named_right =
        let a = numbered_all_back ground (instantiated (renamed m) (written term right)) ns (map (λ b. (not G.sign, G.atom)) ns) (rights_under m (maximum_index right) (written term left) (written term right) [] (field_b r) ns (in_clause (field_a r) left p) (in_clause (field_c r) right q) γ δ E G) in
        let b = numbered_all_back raised (written term right) ns a.0 a.1 in
        let c = numbered_all_back (written_literal term (substitution term right)) (literals right) ns b.0 b.1 in
        (c.0, c.1, signs c.0 ns (ap (λ (ls : List (Bool × Term Variable)). map ground (map raised ls)) c.2 ∙ ap (λ (ls : List (Bool × Term Variable)). map ground ls) b.2 ∙ a.2))
      where
        signs : (ms : List Literal) (bs : List ℕ) → map ground (map raised (map (written_literal term (substitution term right)) ms)) ≡ map {B = GroundLiteral} (λ b. (not G.sign, G.atom)) bs
            → map (λ t. (not G.sign, apply υ t)) (map (λ l. apply (renamed m) (atom_of S right l)) ms) ≡ map {B = GroundLiteral} (λ b. (not G.sign, G.atom)) bs
        signs [] [] z = refl
        signs [] (b ∷ bs) z = z
        signs (l ∷ ms) [] z = let w : ◌≡◌ {A = ℕ} 0 1 = cc in absurd (omega arith)
        signs (l ∷ ms) (b ∷ bs) z =
            ap₂ (λ (t : Ground) (X : GroundClause). (not G.sign, t) ∷ X)
            (ap (λ (X : GroundClause). elim X [ [] ↦ G.atom | y ∷ ys ↦ y.1 ]) z)
            (signs ms bs (ap (λ (X : GroundClause). elim X [ [] ↦ [] | y ∷ ys ↦ ys ]) z))

    resolves : Resolves S r left right named_left.0 ns named_right.0
    resolves = record { is_resolve = N; is_left = p; is_left_literal = named_left.1; is_right = q; are_right_literals = named_right.1 }

    unified : Unifies υ (map (λ l. (atom_of S left named_left.0, apply (renamed m) (atom_of S right l))) named_right.0)
    unified = subst (Unifies υ) (map_map (λ t. (atom_of S left named_left.0, t)) (λ l. apply (renamed m) (atom_of S right l)) named_right.0)
        (unifies_all υ (atom_of S left named_left.0) (not G.sign) (not G.sign) G.atom (map (λ l. apply (renamed m) (atom_of S right l)) named_right.0) ns named_left.2 named_right.2)

    resolve_not_lost : NotLost S k r E
    resolve_not_lost = record {
      not_refused = λ reason z o. (demand2 0 file no_tables (Unit {0})).no_unifier k S r reason R z o _ (resolve_atoms resolves) υ unified;
      instance_made = λ T z. lifted T ((demand2 0 file no_tables (Unit {0})).resolvents k S T r ns R N z);
    }
      where
        lifted : (T : State) → ResolventAdded (Unit {0}) S k r ns T → (clause : Derivation) × (T ≡ with_clause S k clause) × InstanceOf E (written (term_of S) clause)
        lifted T A =
            let l : A.left ≡ left = some_injective (sym A.is_left ∙ p) in
            let d : A.right ≡ right = some_injective (sym A.is_right ∙ q) in
            let X = subst (λ (c : Derivation). Resolvent (Unit {0}) (renamed (maximum_index c)) (written term c) (field_b r) (written term A.right) ns (written term A.clause)) l A.resolvent in
            let Y = subst (λ (c : Derivation). Resolvent (Unit {0}) (renamed m) (written term left) (field_b r) (written term c) ns (written term A.clause)) d X in
            (A.clause, A.added, resolvent_lifted m (maximum_index right) (written term left) (written term right) (written term A.clause) (field_b r) ns (in_clause (field_a r) left p) (in_clause (field_c r) right q) γ δ E G Y)

  module _ (parent : Derivation) (is6 : r.kind ≡ 6) (p : clause_of S (field_a r) ≡ some parent)
      (γ : Variable → Ground) (E : GroundClause) (G : GroundFactor (ground_instance γ (written (term_of S) parent)) (field_b r) (field_c r) E) where
    abbrev ground_of : Bool × Term Variable → GroundLiteral
    ground_of l = (l.0, apply γ l.1)

    named_literal_lem : (n : ℕ) → numbered (ground_instance γ (written (term_of S) parent)) n ≡ some (G.sign, G.atom) → (l : Literal) × (numbered (literals parent) n ≡ some l) × (apply γ (atom_of S parent l) ≡ G.atom)
    named_literal_lem n z =
        let a = numbered_back ground_of (written term parent) n (G.sign, G.atom) z in
        let b = numbered_back (written_literal term (substitution term parent)) (literals parent) n a.0 a.1 in
        (b.0, b.1, ap (λ (l : Bool × Term Variable). apply γ l.1) b.2 ∙ ap (λ (l : GroundLiteral). l.1) a.2)

    abbrev kept : (l : Literal) × (numbered (literals parent) (field_b r) ≡ some l) × (apply γ (atom_of S parent l) ≡ G.atom)
    kept = named_literal_lem (field_b r) G.is_kept

    abbrev deleted : (l : Literal) × (numbered (literals parent) (field_c r) ≡ some l) × (apply γ (atom_of S parent l) ≡ G.atom)
    deleted = named_literal_lem (field_c r) G.is_deleted

    factor_not_lost : NotLost S k r E
    factor_not_lost = record {
      not_refused = λ reason z o. (demand2 0 file no_tables (Unit {0})).no_unifier k S r reason R z o _
          (factor_atoms (record { is_factor = is6; is_parent = p; is_kept = kept.1; is_deleted = deleted.1 })) γ (kept.2 ∙ sym deleted.2, tt);
      instance_made = λ T z. lifted T ((demand2 0 file no_tables (Unit {0})).factors k S T r R is6 z);
    }
      where
        lifted : (T : State) → FactorAdded (Unit {0}) S k r T → (clause : Derivation) × (T ≡ with_clause S k clause) × InstanceOf E (written (term_of S) clause)
        lifted T A =
            let l : A.parent ≡ parent = some_injective (sym A.is_parent ∙ p) in
            let X = subst (λ (c : Derivation). Factor (Unit {0}) (written term c) (field_b r) (field_c r) (written term A.clause)) l A.factored in
            (A.clause, A.added, factor_lifted (written term parent) (written term A.clause) (field_b r) (field_c r) γ E G X)

pub nothing_lost_lem : (file : File) → NothingLost file
nothing_lost_lem file = record {
  resolvents = λ k S r ns left right R N p q γ δ E G. resolve_not_lost file k S r R ns left right N p q γ δ E G;
  factors = λ k S r parent R e p γ E G. factor_not_lost file k S r R parent e p γ E G;
}
