-- A record of kind 8: the ways of its tests.
use mathlib.Core.Path.{◌≡◌, sym, ap, ap₂, ◌∙◌, subst}
use mathlib.Core.Bool.{Bool, true, false, not}
use mathlib.Core.List.{List}
use Prim.Native.Nat.{ℕ, ◌≤◌, ◌<◌}
use lib.Dec.{eqb, leb}
use borrow.Author.Tests.{eq-eqb, ne_eqb, le-leb, lt-leb, not-false, not-true}
use Rattle.record.specs.Record.{pick, field_of, decoded, windowKind}
use Rattle.derivation.specs.Stored.{origin_code}
use Rattle.verdict.specs.Refusal.{in_range}
use Rattle.window_entry.specs.Window.{window_entered}
use Rattle.entry.specs.declared.entry.Counts.{Counts}
use Rattle.entry.specs.Program.{Entered}
use Rattle.std.specs.Prelude.{Ok, Err}
use Rattle.reasons.specs.declared.Reason.TheVariants.{OutOfRange, NotThere, CrossedDays}

module _ (p : List ℕ) (n : Counts) (O : List ℕ) {b : Bool} (isRange : b ≡ in_range windowKind (decoded p)) where
  abbrev entered_by : Bool → Bool → Bool → Entered
  entered_by ranged there days = pick ranged (pick there (pick days (Ok n) (Err CrossedDays)) (Err NotThere)) (Err OutOfRange)

  pub window_over : not b ≡ true → Err OutOfRange ≡ window_entered p n O
  unfolding window_entered
  window_over q = sym (ap (λ (x : Bool). entered_by x (eqb (origin_code O (field_of p 0)) 1) (leb (field_of p 1) (field_of p 2))) (sym isRange ∙ not-true b q))

  module _ (fits : not b ≡ false) {a code : ℕ} (is_clause : a ≡ field_of p 0) (is_code : code ≡ origin_code O a) where
    ranged : in_range windowKind (decoded p) ≡ true
    ranged = sym isRange ∙ not-false b fits

    is_origin_code : code ≡ origin_code O (field_of p 0)
    is_origin_code = is_code ∙ ap (origin_code O) is_clause

    pub window_no_input : ¬ (code ≡ 1) → Err NotThere ≡ window_entered p n O
    unfolding window_entered
    window_no_input q = sym (ap₂ (λ (x y : Bool). entered_by x y (leb (field_of p 1) (field_of p 2))) ranged (ne_eqb (origin_code O (field_of p 0)) 1 (λ e. q (is_origin_code ∙ e))))

    module _ (input : code ≡ 1) {first last : ℕ} (is_last : last ≡ field_of p 2) (is_first : first ≡ field_of p 1) where
      is_input_lem : eqb (origin_code O (field_of p 0)) 1 ≡ true
      is_input_lem = eq-eqb (origin_code O (field_of p 0)) 1 (sym is_origin_code ∙ input)

      pub window_crossed : last < first → Err CrossedDays ≡ window_entered p n O
      unfolding window_entered
      window_crossed l = sym (λ i. entered_by (ranged i) (is_input_lem i) (lt-leb (field_of p 1) (field_of p 2) (subst (λ (x : ℕ). field_of p 2 < x) is_first (subst (λ (x : ℕ). x < first) is_last l)) i))

      pub window_stands : first ≤ last → Ok n ≡ window_entered p n O
      unfolding window_entered
      window_stands l = sym (λ i. entered_by (ranged i) (is_input_lem i) (le-leb (field_of p 1) (field_of p 2) (subst (λ (x : ℕ). field_of p 1 ≤ x) is_last (subst (λ (x : ℕ). x ≤ last) is_first l)) i))
