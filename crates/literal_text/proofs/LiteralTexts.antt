-- A literal's text: what the program writes is that, and it is short.
use mathlib.Core.Path.{◌≡◌, refl, sym, subst}
use mathlib.Core.Bool.{Bool, true, false}
use mathlib.Core.List.{List, [], ◌∷◌}
use Prim.Native.Nat.{ℕ, ◌+◌, ◌*◌, ◌≤◌}
use native.Mathlib.Omega.{arith}
use lib.Dec.{leb}
use lib.ListN.{length, length-append}
use borrow.Author.Tests.{le-leb, lt-leb, leb-true}
use Rattle.record.specs.Record.{pick}
use Rattle.unification.specs.Row.{Row, Expression, Variable, written_out}
use Rattle.unification.specs.Term.{Term, Terms, var, app, nil, cons, occurrences, all_occurrences}
use Rattle.derivation.specs.Written.{Clause}
use Rattle.verdict.specs.Text.{decimal, variable_number, sign_text, term_text, arguments_text, further_text, literal_text, literals_text}
use Rattle.appearance.specs.Appearance.{position, appearing}
use Rattle.text.specs.Buffer.{Wrote}
use Rattle.numbering.specs.Numbering.{name_of, Numbered}
use Rattle.appearance.specs.Growing.{Longer}
use Rattle.numbering.specs.declared.Naming.{Naming}
use Rattle.numbering.specs.declared.Naming.TheVariants.{ByIndex, ByAppearance}
use Rattle.names.specs.declared.Place.{Place}
use Rattle.terms.specs.Writing.{Writing, WritesTerm, FewerOccurrencesLeft}
use Rattle.literal_text.specs.Literals.{WritesLiteral}
use Rattle.std.specs.Prelude.{Option, Some, None}
use Rattle.terms.specs.declared.Written.{Written}
use Rattle.text.proofs.Decimals.{decimal_length}
use Rattle.text.proofs.Positions.{wrote_then, wrote_over}

-- The blank, the sign, and what follows them.
module _ (naming : Naming) (N A A' T T₁ T₂ T₃ K K' L L' : List ℕ) (count at after atom : ℕ) (positive : Bool) (e : Expression) (m : ℕ) (blank : Wrote T T₁ at after (32 ∷ [])) (q : m ≡ sign_text positive) (signed : Wrote T₁ T₂ after atom (m ∷ [])) (w : Option Written)
    (G : WritesTerm naming N A A' T₂ T₃ K K' L L' count atom e 64 w) where
  then_text : (T₄ : List ℕ) (end : ℕ) (x : List ℕ) → Wrote T₂ T₄ atom end x → Wrote T T₄ at end (32 ∷ (sign_text positive ∷ x))
  then_text T₄ end x v = subst (λ (s : ℕ). Wrote T T₄ at end (32 ∷ (s ∷ x))) q (wrote_then T T₁ T₄ at after end (32 ∷ []) (m ∷ x) blank (wrote_then T₁ T₂ T₄ after atom end (m ∷ []) x signed v))

  pub literal_done : (d : Written) → w ≡ Some d → WritesLiteral naming N A A' T T₃ K K' L L' count at positive e d.place
  literal_done d z top ρ row term σ W seen H =
      let t = written_out term σ e in
      let R : Writing naming N top A' ρ row T₂ T₃ K' L' count atom 64 (λ name. term_text name t) (occurrences t) seen (appearing seen t) (Some d) =
      subst (Writing naming N top A' ρ row T₂ T₃ K' L' count atom 64 (λ name. term_text name t) (occurrences t) seen (appearing seen t)) z (G top ρ row term σ W seen H) in
      let few : leb (occurrences t) 64 ≡ true = le-leb (occurrences t) 64 (omega (arith, R.came.0)) in
      record {
        models = R.models;
        numbered = subst (λ (b : Bool). Numbered naming N K' L' d.place.count (pick b (appearing seen t) seen)) (sym few) R.came.1;
        wrote = λ all X. then_text T₃ d.place.end (pick (leb (occurrences t) 64) (term_text (name_of naming row all) t) (126 ∷ []))
            (subst (λ (b : Bool). Wrote T₂ T₃ atom d.place.end (pick b (term_text (name_of naming row all) t) (126 ∷ []))) (sym few) (R.came.2 all (subst (λ (b : Bool). Longer (pick b (appearing seen t) seen) all) few X)));
      }

  pub literal_over : w ≡ None → (T₄ : List ℕ) (p : Place) → Wrote T₃ T₄ atom p.end (126 ∷ []) → p.count ≡ count → WritesLiteral naming N A A' T T₄ K K' L L' count at positive e p
  literal_over z T₄ p v pc top ρ row term σ W seen H =
      let t = written_out term σ e in
      let R : Writing naming N top A' ρ row T₂ T₃ K' L' count atom 64 (λ name. term_text name t) (occurrences t) seen (appearing seen t) None =
      subst (Writing naming N top A' ρ row T₂ T₃ K' L' count atom 64 (λ name. term_text name t) (occurrences t) seen (appearing seen t)) z (G top ρ row term σ W seen H) in
      let many : leb (occurrences t) 64 ≡ false = lt-leb (occurrences t) 64 R.came.0 in
      let numbered : Numbered naming N K' L' p.count seen = subst (λ (k : ℕ). Numbered naming N K' L' k seen) (sym pc) R.came.1 in
      record {
        models = R.models;
        numbered = subst (λ (b : Bool). Numbered naming N K' L' p.count (pick b (appearing seen t) seen)) (sym many) numbered;
        wrote = λ all X. then_text T₄ p.end (pick (leb (occurrences t) 64) (term_text (name_of naming row all) t) (126 ∷ []))
            (subst (λ (b : Bool). Wrote T₂ T₄ atom p.end (pick b (term_text (name_of naming row all) t) (126 ∷ []))) (sym many) (wrote_over T₂ T₃ T₄ atom p.end (126 ∷ []) R.came.2 v));
      }

-- No more variables are numbered than a literal may have occurrences.
pub numbered_few : (count : ℕ) {d : Written} {w : Option Written} → w ≡ Some d → FewerOccurrencesLeft 64 count w → d.place.count ≤ count + 64
numbered_few count z h = let k = subst (FewerOccurrencesLeft 64 count) z h in omega (arith, k.1)

-- Names are short, in either readout.
pub name_short : (naming : Naming) (row : ℕ → Row) (all : List Variable) (x : Variable) → length (name_of naming row all x) ≤ 11
name_short ByIndex row all x = omega (arith, length-append (decimal (variable_number (row x.0))) (46 ∷ decimal x.1), decimal_length (variable_number (row x.0)), decimal_length x.1)
name_short ByAppearance row all x = omega (arith, decimal_length (position all x))

-- Each occurrence takes thirteen bytes at most, with the mark before it and its share of the parentheses.
module _ (name : Variable → List ℕ) (short : (x : Variable) → length (name x) ≤ 11) where
  mutual
    pub term_text_short : (t : Term Variable) → length (term_text name t) + 1 ≤ 13 * occurrences t
    term_text_short (var x) = omega (arith, short x)
    term_text_short (app s ts) = omega (arith, length-append (decimal s) (arguments_text name ts), decimal_length s, arguments_text_short ts)

    arguments_text_short : (ts : Terms Variable) → length (arguments_text name ts) ≤ 13 * all_occurrences ts + 1
    arguments_text_short nil = omega arith
    arguments_text_short (cons t ts) = omega (arith, length-append (term_text name t) (further_text name ts), term_text_short t, further_text_short ts)

    further_text_short : (ts : Terms Variable) → length (further_text name ts) ≤ 13 * all_occurrences ts + 1
    further_text_short nil = omega arith
    further_text_short (cons t ts) = omega (arith, length-append (term_text name t) (further_text name ts), term_text_short t, further_text_short ts)

  pub literal_text_short : (l : Bool × Term Variable) → length (32 ∷ literal_text name l) ≤ 834
  literal_text_short l = try (leb (occurrences l.1) 64) refl
    where
      try : (b : Bool) → leb (occurrences l.1) 64 ≡ b → length (32 ∷ (sign_text l.0 ∷ pick b (term_text name l.1) (126 ∷ []))) ≤ 834
      try true q = omega (arith, term_text_short l.1, leb-true (occurrences l.1) 64 q)
      try false q = omega arith

  pub literals_text_short : (ls : Clause) → length (literals_text name ls) ≤ 834 * length ls
  literals_text_short [] = omega arith
  literals_text_short (l ∷ ls) = omega (arith, length-append (32 ∷ literal_text name l) (literals_text name ls), literal_text_short l, literals_text_short ls)
