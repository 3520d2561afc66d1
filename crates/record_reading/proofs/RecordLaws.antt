-- One record, whatever its kind: what the functions on kinds ask, and what they give.
use mathlib.Core.Path.{◌≡◌, refl, sym, ap, ◌∙◌, subst}
use mathlib.Core.Logic.{inl, inr}
use mathlib.Core.List.{List}
use Prim.Native.Nat.{ℕ, ◌<◌}
use native.Mathlib.Omega.{arith}
use lib.ListN.{length, length-map}
use Rattle.record.specs.Record.{File, Record, Kind, record_part, kind_of, decoded, record_at, otherKind, kind_numbered}
use Rattle.unification.specs.Row.{Row}
use Rattle.distinct.specs.Index.{Indexed}
use Rattle.entry.specs.Program.{Entered, RowsReady, RowsIndexed, rows_after, symbol_left, symbol_entered, row_left, variable_entered, application_entered, input_left, input_entered}
use Rattle.entry.specs.Progress.{Plain, Next, Reading, RecordRead, tables_with}
use Rattle.verdict.specs.Refusal.{kind_of_record}
use Rattle.verdict.specs.State.{State, rows_of}
use Rattle.verdict.specs.Step.{require}
use Rattle.inference.specs.Stepping.{BeforeStep, ResolveKind, StepRead}
use Rattle.verdict.specs.Tables.{Tables}
use Rattle.beside.specs.Beside.{refused_days}
use Rattle.beside.proofs.BesideLaws.{days_refused, days_plain, days_kind}
use Rattle.entry.proofs.Declaring.{symbol_read, variable_read, application_read, input_read}
use Rattle.window_entry.specs.Window.{window_entered}
use Rattle.window_entry.proofs.WindowRead.{window_read}
use Rattle.fields.proofs.FieldLaws.{kind_other}
use Rattle.entry.proofs.Kept.{few_records, few_symbols, few_rows, few_clauses, rows_fit_lem}
use Rattle.entry.proofs.Entering.{rows_ready}
use Rattle.demands.proofs.Inversions.{step_stands}
use Rattle.demands.proofs.Resolution.{at_kind}
use Rattle.demands.proofs.WrittenRows.{rows_entered, entered_rows}
use Rattle.entry.specs.declared.entry.Counts.{Counts}
use Rattle.std.specs.Prelude.{Result, Ok, Err}
use Rattle.reasons.specs.declared.Reason.{Reason}
use Rattle.reasons.specs.declared.Reason.TheVariants.{BadKind}

module _ {F : File} {k : ℕ} {n : Counts} {here : Tables} {N O A : List ℕ} (R : Reading F k n here N O A) where
  abbrev S : State
  S = R.state

  abbrev t : Tables
  t = R.tables_before

  below : k < 4096
  below = few_records F t k S n here N O A R.kept R.inside

  pub symbols_few : n.symbols < 4096
  symbols_few = omega (arith, ap (λ (c : Counts). c.symbols) R.kept.counts, few_symbols F t k S n here N O A R.kept R.inside, below)

  ready : RowsReady N
  ready = rows_ready (rows_of S) (rows_fit_lem F t k S n here N O A R.kept R.inside) (omega (arith, length-map S.rows (λ (w : ℕ × Row). w.1), few_rows F t k S n here N O A R.kept R.inside, below)) N R.kept.nodes

  pub rows_few : (H L : List ℕ) → Indexed N n.rows H L → RowsIndexed N n H L
  rows_few H L I = record {
    index = I;
    room = omega (arith, ap (λ (c : Counts). c.rows) R.kept.counts, few_rows F t k S n here N O A R.kept R.inside, below);
    ready = ready;
  }

  pub clauses_few : (n.clauses < 4096) × RowsReady N
  clauses_few =
      (omega (arith, ap (λ (c : Counts). c.clauses) R.kept.counts, few_clauses F t k S n here N O A R.kept R.inside, below), ready)

  -- A record that enters no row leaves the index as it is.
  pub index_kept : (e : Entered) (here' : Tables) (O' A' : List ℕ) → RecordRead F k n here N O A e here' N O' A' → ((S : State) (r : Record) → rows_entered S (kind_of_record (record_at F k)) r ≡ rows_of S) → (H L : List ℕ) → Indexed N n.rows H L → Indexed N (rows_after n e) H L
  index_kept (Err q) here' O' A' X same H L I = I
  index_kept (Ok m) here' O' A' X same H L I =
      let z = X.next t S R.kept in
      let rows : rows_of z.0 ≡ rows_of S = entered_rows S k (record_at F k) z.0 (kind_of_record (record_at F k)) (step_stands S k (record_at F k) z.0 z.1).1 ∙ same S (record_at F k) in
      let count : n.rows ≡ m.rows = ap (λ (c : Counts). c.rows) R.kept.counts ∙ sym (length-map S.rows (λ (w : ℕ × Row). w.1)) ∙ sym (ap length rows) ∙ length-map z.0.rows (λ (w : ℕ × Row). w.1) ∙ sym (ap (λ (c : Counts). c.rows) z.2.counts) in
      subst (λ (x : ℕ). Indexed N x H L) count I

pub refused_index : (n : Counts) {N H L : List ℕ} {x : Reason} {g : Entered} → g ≡ Err x → Indexed N n.rows H L → Indexed N (rows_after n g) H L
refused_index n {N} {H} {L} h I = subst (λ (e : Entered). Indexed N (rows_after n e) H L) (sym h) I

module _ {F : File} {k : ℕ} {n : Counts} {s r C B N O A : List ℕ} (R : Reading F k n (tables_with s r C B) N O A) where
  module _ (P : List ℕ) (p : P ≡ record_part F k) (d : Result (Unit {0}) Reason) (isDays : d ≡ refused_days F.form P) where
    days_here : d ≡ refused_days F.form (record_part F k)
    days_here = isDays ∙ ap (refused_days F.form) p

    -- A record that its days refuse.
    pub days_done : {x : Reason} {g : Entered} → d ≡ Err x → g ≡ Err x → RecordRead F k n (tables_with s r C B) N O A g (tables_with s r C B) N O A
    days_done {x} z h = record { next = λ t S K. subst (Next F t k S (tables_with s r C B) N O A) (sym h) (days_refused F.form S k (record_part F k) x (sym z ∙ days_here), K.tables, K.nodes, K.origins, K.values) }

    module _ (zero : d ≡ Ok tt) (m : ℕ) (q : m ≡ kind_of P) where
      none_refused : Ok tt ≡ refused_days F.form (record_part F k)
      none_refused = sym zero ∙ days_here

      tag_is : m ≡ kind_of (record_part F k)
      tag_is = q ∙ ap kind_of p

      plain : (j : ℕ) → m ≡ j → ¬ (j ≡ 4) → Plain F k
      plain j z four S = days_plain F.form (record_part F k) none_refused (λ y. four (sym z ∙ tag_is ∙ y)) S k

      before_step : (j : ℕ) → m ≡ j → ¬ (j ≡ 4) → BeforeStep F k n C B N O A
      before_step j z four = record { inside = R.inside; plain = plain j z four; tables_before = R.tables_before; state = R.state; symbols = s; rows = r; kept = R.kept }

      pub step_asked : m ≡ 6 → BeforeStep F k n C B N O A × (kind_of (record_part F k) ≡ 6)
      step_asked z = (before_step 6 z (λ e. omega arith), sym tag_is ∙ z)

      pub resolve_asked : ResolveKind m → BeforeStep F k n C B N O A × ResolveKind (kind_of (record_part F k))
      resolve_asked (inl z) = (before_step 5 z (λ e. omega arith), inl (sym tag_is ∙ z))
      resolve_asked (inr z) = (before_step 7 z (λ e. omega arith), inr (sym tag_is ∙ z))

      pub input_asked : m ≡ 4 → kind_of (record_part F k) ≡ 4
      input_asked z = sym tag_is ∙ z

      -- The kind, with the days and without them.
      kind_is : (j : ℕ) → m ≡ j → kind_of_record (decoded (record_part F k)) ≡ kind_numbered j
      kind_is j z = ap kind_numbered (sym tag_is ∙ z)

      kind_here : (j : ℕ) → m ≡ j → kind_of_record (record_at F k) ≡ kind_numbered j
      kind_here j z = days_kind F.form (record_part F k) none_refused ∙ ap kind_numbered (sym tag_is ∙ z)

      rows_stay : (j : ℕ) → m ≡ j → ((S : State) (r : Record) → rows_entered S (kind_numbered j) r ≡ rows_of S) → (S : State) (r : Record) → rows_entered S (kind_of_record (record_at F k)) r ≡ rows_of S
      rows_stay j z same S r = ap (λ (x : Kind). rows_entered S x r) (kind_here j z) ∙ same S r

      -- A record of another kind than 2 and 3 leaves the index with what it leaves.
      pub with_index : (j : ℕ) → m ≡ j → ((S : State) (r : Record) → rows_entered S (kind_numbered j) r ≡ rows_of S) → (H L : List ℕ) → Indexed N n.rows H L → (e : Entered) (here' : Tables) (O' A' : List ℕ) → RecordRead F k n (tables_with s r C B) N O A e here' N O' A' → RecordRead F k n (tables_with s r C B) N O A e here' N O' A' × Indexed N (rows_after n e) H L
      with_index j z same H L I e here' O' A' X = (X, index_kept R e here' O' A' X (rows_stay j z same) H L I)

      pub symbol_done : m ≡ 1 → (e : Entered) (s' : List ℕ) → symbol_left e s' ≡ symbol_entered P k n s → RecordRead F k n (tables_with s r C B) N O A e (tables_with s' r C B) N O A
      symbol_done z e s' E = record { next = λ t S K. symbol_read F t k S n (tables_with s r C B) N O A K R.inside (plain 1 z (λ y. omega arith)) (kind_is 1 z) e s' (E ∙ ap (λ (x : List ℕ). symbol_entered x k n s) p) }

      pub variable_done : m ≡ 2 → (e : Entered) (r' N' : List ℕ) → row_left e r' N' ≡ variable_entered P k n r N → RecordRead F k n (tables_with s r C B) N O A e (tables_with s r' C B) N' O A
      variable_done z e r' N' E = record { next = λ t S K. variable_read F t k S n (tables_with s r C B) N O A K R.inside (plain 2 z (λ y. omega arith)) (kind_is 2 z) e r' N' (E ∙ ap (λ (x : List ℕ). variable_entered x k n r N) p) }

      pub application_done : m ≡ 3 → (e : Entered) (r' N' : List ℕ) → row_left e r' N' ≡ application_entered F P k n s r N → RecordRead F k n (tables_with s r C B) N O A e (tables_with s r' C B) N' O A
      application_done z e r' N' E = record { next = λ t S K. application_read F t k S n (tables_with s r C B) N O A K R.inside (plain 3 z (λ y. omega arith)) (kind_is 3 z) e r' N' (E ∙ ap (λ (x : List ℕ). application_entered F x k n s r N) p) }

      pub input_done : m ≡ 4 → (e : Entered) (C' O' : List ℕ) → input_left e C' O' ≡ input_entered F.form (record_part F k) k n C N O → RecordRead F k n (tables_with s r C B) N O A e (tables_with s r C' B) N O' A
      input_done z e C' O' E = record { next = λ t S K. input_read F t k S n (tables_with s r C B) N O A K R.inside (input_asked z) e C' O' E }

      pub window_done : m ≡ 8 → (e : Entered) → e ≡ window_entered P n O → RecordRead F k n (tables_with s r C B) N O A e (tables_with s r C B) N O A
      window_done z e E = record { next = λ t S K. window_read F t k S n (tables_with s r C B) N O A K R.inside (plain 8 z (λ y. omega arith)) (kind_is 8 z) e (E ∙ ap (λ (x : List ℕ). window_entered x n O) p) }

      pub step_done : (j : ℕ) → m ≡ j → ¬ (j ≡ 4) → (C' B' O' A' : List ℕ) (e : Entered) → ((E : BeforeStep F k n C B N O A) → StepRead F k n C B N O A E C' B' O' A' e) → RecordRead F k n (tables_with s r C B) N O A e (tables_with s r C' B') N O' A'
      step_done j z four C' B' O' A' e f = record { next = λ t S K. (f (record { inside = R.inside; plain = plain j z four; tables_before = t; state = S; symbols = s; rows = r; kept = K })).next }

      pub other_done : ¬ (m ≡ 1) → ¬ (m ≡ 2) → ¬ (m ≡ 3) → ¬ (m ≡ 4) → ¬ (m ≡ 5) → ¬ (m ≡ 6) → ¬ (m ≡ 7) → ¬ (m ≡ 8) → RecordRead F k n (tables_with s r C B) N O A (Err BadKind) (tables_with s r C B) N O A
      unfolding require
      other_done a b c d e f g h = record { next = λ t S K. (plain m refl d S ∙ at_kind S k (decoded (record_part F k)) otherKind (ap kind_numbered (sym tag_is) ∙ kind_other m a b c d e f g h), K.tables, K.nodes, K.origins, K.values) }
