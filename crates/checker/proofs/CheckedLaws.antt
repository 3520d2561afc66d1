-- The contract of the check, from the three ways that a check can go.
use mathlib.Core.Path.{◌≡◌, refl, sym, ap, ◌∙◌}
use mathlib.Core.Bool.{Bool, true, false, not}
use mathlib.Core.List.{List, []}
use Prim.Native.Nat.{ℕ}
use lib.ListN.{length}
use Rattle.unification.specs.Row.{Variable}
use Rattle.unification.proofs.Tests.{true_not_false}
use Rattle.checker.specs.Contract.{Checked, Workspace, workspace_with, CheckedWith}
use Rattle.answer.specs.Given.{answer_given, untouched_numbers}
use Rattle.reading.specs.Reader.{Readable, FileRead, FileReadWith, clear_table}
use Rattle.derivation.specs.Stored.{origin_table_of}
use Rattle.entry.specs.Progress.{node_table_of}
use Rattle.inference.proofs.KeptClauses.{nodes_room, origins_room}
use Rattle.verdict.specs.Tables.{Tables, lengths_of, tables_after}
use Rattle.verdict.specs.Verdict.{check, answer_numbers, long_enough, fitting, Reading, untouched, read_to, reading}
use Rattle.demands.proofs.OutlinesShown.{outlines_shown}
use Rattle.demands.proofs.RepeatsShown.{repeats_shown}
use Rattle.demands.proofs.SeveralShown.{several_shown}
use Rattle.demands.proofs.TotalShown.{bindings_held_lem}
use Rattle.demands.proofs.DaysShown.{days_only_choose}
use Rattle.demands.proofs.FormsShown.{old_form_as_before}
use Rattle.demands.proofs.LiftingShown.{nothing_lost_lem}
use Rattle.demands.proofs.Demanded.{check_length, check_tables, check_reads, tables_length, tables_short, tables_read, demand1, demand2, demand3}
use borrow.Author.Tests.{not-false, not-true}
use Rattle.record.specs.Record.{File}
use Rattle.answer.specs.declared.Answer.{Answer}

module _ (day : ℕ) (F : File) (t : Tables) (a : Answer) (here : Tables) (isAnswer : answer_given a ≡ answer_numbers (check day F (lengths_of t))) (isTables : here ≡ tables_after F t) where
  pub checked : Checked day F t a here
  checked = record {
    answer = isAnswer;
    symbols = ap (λ (x : Tables). x.symbols) isTables;
    rows = ap (λ (x : Tables). x.rows) isTables;
    clauses = ap (λ (x : Tables). x.clauses) isTables;
    bindings = ap (λ (x : Tables). x.bindings) isTables;
    honest = demand1 day F t;
    textbook = demand2 day F t Variable;
    refutation = demand3 day F t;
    outlines = outlines_shown;
    repeats = repeats_shown F;
    several = several_shown F;
    held = bindings_held_lem day F t;
    lifting = nothing_lost_lem F;
    forms = old_form_as_before;
    days = days_only_choose F (lengths_of t);
  }

pub readable : (F : File) (t : Tables) (b : Bool) → b ≡ fitting F → not b ≡ false → (d : Bool) → d ≡ long_enough (lengths_of t) → not d ≡ false → Readable F t
readable F t b p f d q l = record { fit = sym p ∙ not-false b f; long = sym q ∙ not-false d l }

-- The three ways, by the tests of the program.
module _ (day : ℕ) (F : File) (t : Tables) (a : Answer) (b : Bool) (isFitting : b ≡ fitting F) where
  pub checked_length : not b ≡ true → answer_given a ≡ untouched_numbers 1 → Checked day F t a t
  checked_length q p =
      let f : fitting F ≡ false = sym isFitting ∙ not-true b q in
      checked day F t a t (p ∙ sym (ap answer_numbers (check_length day F t f))) (sym (tables_length F t f))

  module _ (fit : not b ≡ false) (d : Bool) (isLong : d ≡ long_enough (lengths_of t)) where
    fits : fitting F ≡ true
    fits = sym isFitting ∙ not-false b fit

    pub checked_tables : not d ≡ true → answer_given a ≡ untouched_numbers 2 → Checked day F t a t
    checked_tables q p =
        let l : long_enough (lengths_of t) ≡ false = sym isLong ∙ not-true d q in
        checked day F t a t (p ∙ sym (ap answer_numbers (check_tables day F t fits l))) (sym (tables_short F t fits l))

    pub checked_read : not d ≡ false → (here : Tables) → FileRead day F t a here → Checked day F t a here
    checked_read q here R =
        let l : long_enough (lengths_of t) ≡ true = sym isLong ∙ not-false d q in
        checked day F t a here (R.numbers ∙ sym (ap answer_numbers (check_reads day F t fits l))) (R.tables ∙ sym (tables_read F t fits l))

-- Whether records were read.
abbrev is_read : Reading → Bool
is_read (untouched reason) = false
is_read (read_to e) = true

-- The same with a lent workspace, in each of the three ways.
module _ (day : ℕ) (F : File) (t : Tables) (w : Workspace) (a : Answer) (b : Bool) (isFitting : b ≡ fitting F)
    (nodes : length w.nodes ≡ 32768) (origins : length w.origins ≡ 32768) (values : length w.values ≡ 524416) where
  pub checked_length_with : not b ≡ true → answer_given a ≡ untouched_numbers 1 → CheckedWith day F t w a t w
  checked_length_with q p =
      let f : fitting F ≡ false = sym isFitting ∙ not-true b q in
      record { checked = checked_length day F t a b isFitting q p; nodes = rw f refl; origins = rw f refl; node_room = nodes; origin_room = origins; values = values; values_left = λ reason m. refl; read = λ g l. absurd (true_not_false g f) }

  module _ (fit : not b ≡ false) (d : Bool) (isLong : d ≡ long_enough (lengths_of t)) where
    is_fit : fitting F ≡ true
    is_fit = sym isFitting ∙ not-false b fit

    pub checked_tables_with : not d ≡ true → answer_given a ≡ untouched_numbers 2 → CheckedWith day F t w a t w
    checked_tables_with q p =
        let s : long_enough (lengths_of t) ≡ false = sym isLong ∙ not-true d q in
        record { checked = checked_tables day F t a b isFitting fit d isLong q p; nodes = rw (is_fit, s) refl; origins = rw (is_fit, s) refl; node_room = nodes; origin_room = origins; values = values; values_left = λ reason m. refl; read = λ f l. absurd (true_not_false l s) }

    pub checked_read_with : not d ≡ false → (here : Tables) (N O A : List ℕ) → FileReadWith day F t a here N O A → CheckedWith day F t w a here (workspace_with N O A)
    checked_read_with q here N O A R =
        let s : long_enough (lengths_of t) ≡ true = sym isLong ∙ not-false d q in
        let was_read : is_read (reading F (lengths_of t)) ≡ true = rw (is_fit, s) refl in
        record {
          checked = checked_read day F t a b isFitting fit d isLong q here R.file;
          nodes = rw (is_fit, s) R.left.kept.nodes;
          origins = rw (is_fit, s) R.left.kept.origins;
          node_room = nodes_room R.left.kept R.left.few;
          origin_room = origins_room R.left.kept R.left.few;
          values = R.left.kept.values;
          values_left = λ reason m. absurd (true_not_false was_read (ap is_read m));
          read = λ f l. R.left;
        }

-- A cleared table has no row and no clause.
pub cleared_nodes : clear_table ≡ node_table_of []
unfolding clear_table
cleared_nodes = refl

pub cleared_origins : clear_table ≡ origin_table_of []
unfolding clear_table
cleared_origins = refl

-- The tables that a check leaves, by their parts.
pub tables_checked_lem : (day : ℕ) (file : File) (before : Tables) (a : Answer) (after : Tables) → Checked day file before a after → after ≡ tables_after file before
tables_checked_lem day file before a after K =
    let s = K.symbols in
    let r = K.rows in
    let c = K.clauses in
    let b = K.bindings in
    λ i. record { symbols = s i; rows = r i; clauses = c i; bindings = b i }
