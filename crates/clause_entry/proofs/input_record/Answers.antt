-- Each return is a case of the definition.
use mathlib.Core.Path.{ap, ◌∙◌}
use mathlib.Core.List.{List, map}
use native.Mathlib.Omega.{arith}
use Prim.Native.Nat.{ℕ}
use Rattle.record.specs.Record.{in_form, record_part, decoded, decoded_in, inputKind}
use Rattle.derivation.specs.Derivation.{RowLiteral, input_literals}
use Rattle.verdict.specs.Refusal.{in_range, in_order, all_below}
use Rattle.entry.specs.Program.{no_variable}
use Rattle.entry.proofs.EntryLaws.{input_out, input_missing, input_crossed, input_variable, input_in, literals_read}
use Rattle.std.proofs.Common.{ap}
use Rattle.std.proofs.Common.{not}
use Rattle.clause_entry.proofs.input_record.Goals as goal

pub returns-then-not-input_in_range : goal.returns-then-not-input_in_range
returns-then-not-input_in_range c =
    let s = c.args in
    let e = c.input_in_range.ensures ∙ ap (λ (p : List ℕ). in_range inputKind (decoded p)) c.record_part-part.ensures in
    input_out s.form (record_part (in_form s.form s.file.now) s.k) s.k s.counts s.clauses.now s.nodes.now s.origins.now e (ap not c.if-not-input_in_range.true)

pub returns-then-not-literal_rows_below : goal.returns-then-not-literal_rows_below
returns-then-not-literal_rows_below c =
    let s = c.args in
    let e = c.input_in_range.ensures ∙ ap (λ (p : List ℕ). in_range inputKind (decoded p)) c.record_part-part.ensures in
    let b = c.literal_rows_below.ensures ∙ ap (λ (p : List ℕ). all_below s.counts.rows (map (λ (l : RowLiteral). l.1) (input_literals (decoded p)))) c.record_part-part.ensures in
    input_missing s.form (record_part (in_form s.form s.file.now) s.k) s.k s.counts s.clauses.now s.nodes.now s.origins.now e (ap not c.if-not-input_in_range.false) b (ap not c.if-not-literal_rows_below.true)

pub returns-then-not-days_in_order : goal.returns-then-not-days_in_order
returns-then-not-days_in_order c =
    let s = c.args in
    let e = c.input_in_range.ensures ∙ ap (λ (p : List ℕ). in_range inputKind (decoded p)) c.record_part-part.ensures in
    let b = c.literal_rows_below.ensures ∙ ap (λ (p : List ℕ). all_below s.counts.rows (map (λ (l : RowLiteral). l.1) (input_literals (decoded p)))) c.record_part-part.ensures in
    let d = c.days_in_order.ensures ∙ ap (λ (p : List ℕ). in_order (decoded_in s.form p).days) c.record_part-part.ensures in
    input_crossed s.form (record_part (in_form s.form s.file.now) s.k) s.k s.counts s.clauses.now s.nodes.now s.origins.now e (ap not c.if-not-input_in_range.false) b (ap not c.if-not-literal_rows_below.false) d (ap not c.if-not-days_in_order.true)

pub returns-then-not-no_variable : goal.returns-then-not-no_variable
returns-then-not-no_variable c =
    let s = c.args in
    let e = c.input_in_range.ensures ∙ ap (λ (p : List ℕ). in_range inputKind (decoded p)) c.record_part-part.ensures in
    let b = c.literal_rows_below.ensures ∙ ap (λ (p : List ℕ). all_below s.counts.rows (map (λ (l : RowLiteral). l.1) (input_literals (decoded p)))) c.record_part-part.ensures in
    let d = c.days_in_order.ensures ∙ ap (λ (p : List ℕ). in_order (decoded_in s.form p).days) c.record_part-part.ensures in
    let v = c.no_variable.ensures ∙ ap (λ (p : List ℕ). no_variable s.nodes.now (input_literals (decoded p))) c.record_part-part.ensures in
    input_variable s.form (record_part (in_form s.form s.file.now) s.k) s.k s.counts s.clauses.now s.nodes.now s.origins.now e (ap not c.if-not-input_in_range.false) b (ap not c.if-not-literal_rows_below.false) d (ap not c.if-not-days_in_order.false) v (ap not c.if-not-no_variable.true)

pub taken_literals-numbers-requires : goal.taken_literals-numbers-requires
taken_literals-numbers-requires c =
    c.requires.rows_ready

pub overflow_add-result : goal.overflow_add-result
overflow_add-result c =
    omega (arith, c.requires.clauses_bound)

pub returns : goal.returns
returns c =
    let s = c.args in
    let e = c.input_in_range.ensures ∙ ap (λ (p : List ℕ). in_range inputKind (decoded p)) c.record_part-part.ensures in
    let b = c.literal_rows_below.ensures ∙ ap (λ (p : List ℕ). all_below s.counts.rows (map (λ (l : RowLiteral). l.1) (input_literals (decoded p)))) c.record_part-part.ensures in
    let d = c.days_in_order.ensures ∙ ap (λ (p : List ℕ). in_order (decoded_in s.form p).days) c.record_part-part.ensures in
    let v = c.no_variable.ensures ∙ ap (λ (p : List ℕ). no_variable s.nodes.now (input_literals (decoded p))) c.record_part-part.ensures in
    let r = literals_read (in_form s.form s.file.now) s.k c.clause_literals-read.ensures c.requires.k_value in
    input_in s.form (record_part (in_form s.form s.file.now) s.k) s.k s.counts s.clauses.now s.nodes.now s.origins.now e (ap not c.if-not-input_in_range.false) b (ap not c.if-not-literal_rows_below.false) d (ap not c.if-not-days_in_order.false) v (ap not c.if-not-no_variable.false) r.0 r.1 c.taken_literals-numbers.ensures c.put_cells.ensures.nodes_after c.put_clause.ensures
