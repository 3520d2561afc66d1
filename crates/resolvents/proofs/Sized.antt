-- A resolve whose size is known: it is past the limits; or within them, and its outlines clash or it comes to its end.
use mathlib.Core.Path.{◌≡◌, refl, sym, ap₂, ◌∙◌}
use mathlib.Core.Bool.{Bool, true, false}
use mathlib.Core.List.{List, ◌∷◌}
use Prim.Native.Nat.{ℕ, ◌+◌, ◌-◌, ◌≤◌}
use lib.ListN.{get_or}
use Rattle.unification.specs.Listed.{listed_from}
use Rattle.unification.specs.Nodes.{node_row}
use Rattle.derivation.specs.Stored.{literals_cell, index_cell}
use Rattle.outlines.specs.Comparing.{some_clash}
use Rattle.unify.specs.Unifying.{outcome_of}
use Rattle.verdict.specs.Step.{unify_resolve}
use Rattle.inference.specs.Stepping.{atom_named, rights_named, Resolving, UnifiedTables, finished, step_finished, ResolveNamed, StepRead}
use Rattle.inference.proofs.StepNamed.{literals_sum, index_sum, resolving, too_many_literals, too_high_index, resolve_clashes, resolve_ended}
use Rattle.resolvent_size.specs.Size.{Sizeable, size_of}
use Rattle.resolvent_size.proofs.Sizes.{past_either, within_both}
use Rattle.resolvent_size.specs.declared.Size.{Size}
use Rattle.std.specs.Prelude.{Option, Some, None}
use Rattle.unify.specs.Pairs.{Answer}
use Rattle.entry.specs.declared.entry.Counts.{Counts}
use Rattle.entry.specs.Program.{Entered}
use Rattle.std.specs.Prelude.{Err}
use Rattle.reasons.specs.declared.Reason.TheVariants as reason
use Rattle.following.specs.declared.failure.Failure.TheVariants as failure
use Rattle.inference.specs.declared.Atom.{Atom}

module _ {ns : List ℕ} {k : ℕ} {n : Counts} {C B N O A : List ℕ} {x : Atom} {L : List ℕ} {m : ℕ} (R : ResolveNamed ns k n C B N O A x L m) (c : ℕ) (pc : c ≡ get_or ns 2 0) where
  pub size_asked : Sizeable C x.clause c m
  size_asked =
      let z = literals_sum R c (literals_cell C x.clause) (literals_cell C c) pc refl refl in
      record { there = z.0; few = z.1; low = index_sum R c (index_cell C x.clause) (index_cell C c) pc refl refl }

  module _ {s : Option Size} (isSize : s ≡ size_of C x.clause c m) where
    pub past_limits : s ≡ None → StepRead R.file k n C B N O A R.step C B O A (Err reason.TooLarge)
    past_limits e =
        past_either ((literals_cell C x.clause + literals_cell C c) - 1 - m) (index_cell C x.clause + index_cell C c) (StepRead R.file k n C B N O A R.step C B O A (Err reason.TooLarge))
        (too_many_literals R c (literals_cell C x.clause) (literals_cell C c) pc refl refl) (too_high_index R c (index_cell C x.clause) (index_cell C c) pc refl refl) (sym isSize ∙ e)

    module _ {z : Size} (fits : s ≡ Some z) where
      both : (z.literals ≡ (literals_cell C x.clause + literals_cell C c) - 1 - m) × (z.maximum ≡ index_cell C x.clause + index_cell C c) × ((literals_cell C x.clause + literals_cell C c) - 1 - m ≤ 128) × (index_cell C x.clause + index_cell C c ≤ 4096)
      both = within_both ((literals_cell C x.clause + literals_cell C c) - 1 - m) (index_cell C x.clause + index_cell C c) z (sym isSize ∙ fits)

      pub sized_resolving : Resolving k n C B N O A x c L m
      sized_resolving = resolving R c (index_cell C x.clause) (index_cell C c) pc refl refl both.3

      module _ (o : Bool) (isClash : o ≡ some_clash (node_row N) x.row (listed_from L 0 m)) where
        pub sized_clashes : o ≡ true → StepRead R.file k n C B N O A R.step C B O A (Err (reason.Unification failure.SymbolsDiffer))
        sized_clashes z = resolve_clashes R c (literals_cell C x.clause) (literals_cell C c) (index_cell C x.clause) (index_cell C c) pc refl refl refl refl both.2 both.3 o isClash z

        pub sized_ended : o ≡ false → (code : ℕ) → code ≡ 2 + m → (B' A' : List ℕ) (u : Answer) → ((Q : Resolving k n C B N O A x c L m) → unify_resolve Q.step.state (atom_named Q.left) (rights_named Q.rights) ≡ outcome_of B' n.bindings u) → UnifiedTables B B' A' n.bindings u
            → (e : Entered) (C₂ B₂ O₂ : List ℕ) → finished e C₂ B₂ O₂ ≡ step_finished u k n z.literals z.maximum (code ∷ ns) C B' O → StepRead R.file k n C B N O A R.step C₂ B₂ O₂ A' e
        sized_ended clear code pd B' A' u q U e C₂ B₂ O₂ f =
            resolve_ended R c (literals_cell C x.clause) (literals_cell C c) (index_cell C x.clause) (index_cell C c) pc refl refl refl refl both.2 both.3 o isClash clear code pd B' A' u q U e C₂ B₂ O₂
            (f ∙ ap₂ (λ (i j : ℕ). step_finished u k n i j (code ∷ ns) C B' O) both.0 both.1)
