use native.Mathlib.Omega.{arith}
use mathlib.Core.Path.{refl}
use mathlib.Core.Logic.{inl, inr}
use Rattle.reasons.proofs.Refusals.{handed_on}
use Rattle.record_reading.proofs.RecordLaws.{days_done, refused_index, symbols_few, rows_few, clauses_few, input_asked, step_asked, resolve_asked, symbol_done, variable_done, application_done, input_done, window_done, step_done, other_done, with_index}
use Rattle.record_reading.proofs.read_record.Goals as goal

pub returns-in_err-refused_days : goal.returns-in_err-refused_days
returns-in_err-refused_days c =
    let e = handed_on _ c.from_residual.ensures in
    record { record_read = days_done c.requires.reading _ c.record_part-part.ensures _ c.refused_days.ensures c.in_err-refused_days.was e; indexed_2 = refused_index c.args.counts e c.requires.indexed }

pub symbol_record-requires : goal.symbol_record-requires
symbol_record-requires c =
    symbols_few c.requires.reading

pub variable_record-requires : goal.variable_record-requires
variable_record-requires c =
    rows_few c.requires.reading _ _ c.requires.indexed

pub application_record-requires : goal.application_record-requires
application_record-requires c =
    rows_few c.requires.reading _ _ c.requires.indexed

pub input_record-requires : goal.input_record-requires
input_record-requires c =
    record { k_value = input_asked c.requires.reading _ c.record_part-part.ensures _ c.refused_days.ensures c.in_ok-refused_days.was _ c.kind-tag.ensures c.in-4.is; clauses_bound = (clauses_few c.requires.reading).0; rows_ready = (clauses_few c.requires.reading).1 }

pub resolve_record-requires : goal.resolve_record-requires
resolve_record-requires c =
    record { before_step = (resolve_asked c.requires.reading _ c.record_part-part.ensures _ c.refused_days.ensures c.in_ok-refused_days.was _ c.kind-tag.ensures (inl c.in-5.is)).0; resolve_kind = (resolve_asked c.requires.reading _ c.record_part-part.ensures _ c.refused_days.ensures c.in_ok-refused_days.was _ c.kind-tag.ensures (inl c.in-5.is)).1 }

pub factor_record-requires : goal.factor_record-requires
factor_record-requires c =
    record { before_step = (step_asked c.requires.reading _ c.record_part-part.ensures _ c.refused_days.ensures c.in_ok-refused_days.was _ c.kind-tag.ensures c.in-6.is).0; k_value = (step_asked c.requires.reading _ c.record_part-part.ensures _ c.refused_days.ensures c.in_ok-refused_days.was _ c.kind-tag.ensures c.in-6.is).1 }

pub resolve_record-requires-in-7 : goal.resolve_record-requires-in-7
resolve_record-requires-in-7 c =
    record { before_step = (resolve_asked c.requires.reading _ c.record_part-part.ensures _ c.refused_days.ensures c.in_ok-refused_days.was _ c.kind-tag.ensures (inr c.in-7.is)).0; resolve_kind = (resolve_asked c.requires.reading _ c.record_part-part.ensures _ c.refused_days.ensures c.in_ok-refused_days.was _ c.kind-tag.ensures (inr c.in-7.is)).1 }

pub returns-in-1 : goal.returns-in-1
returns-in-1 c =
    record { record_read = (with_index c.requires.reading _ c.record_part-part.ensures _ c.refused_days.ensures c.in_ok-refused_days.was _ c.kind-tag.ensures 1 c.in-1.is (λ S r. refl) _ _ c.requires.indexed _ _ _ _ (symbol_done c.requires.reading _ c.record_part-part.ensures _ c.refused_days.ensures c.in_ok-refused_days.was _ c.kind-tag.ensures c.in-1.is _ _ c.symbol_record.ensures)).0; indexed_2 = (with_index c.requires.reading _ c.record_part-part.ensures _ c.refused_days.ensures c.in_ok-refused_days.was _ c.kind-tag.ensures 1 c.in-1.is (λ S r. refl) _ _ c.requires.indexed _ _ _ _ (symbol_done c.requires.reading _ c.record_part-part.ensures _ c.refused_days.ensures c.in_ok-refused_days.was _ c.kind-tag.ensures c.in-1.is _ _ c.symbol_record.ensures)).1 }

pub returns-in-2 : goal.returns-in-2
returns-in-2 c =
    record { record_read = variable_done c.requires.reading _ c.record_part-part.ensures _ c.refused_days.ensures c.in_ok-refused_days.was _ c.kind-tag.ensures c.in-2.is _ _ _ c.variable_record.ensures.nodes_after; indexed_2 = c.variable_record.ensures.indexed }

pub returns-in-3 : goal.returns-in-3
returns-in-3 c =
    record { record_read = application_done c.requires.reading _ c.record_part-part.ensures _ c.refused_days.ensures c.in_ok-refused_days.was _ c.kind-tag.ensures c.in-3.is _ _ _ c.application_record.ensures.nodes_after; indexed_2 = c.application_record.ensures.indexed }

pub returns-in-4 : goal.returns-in-4
returns-in-4 c =
    record { record_read = (with_index c.requires.reading _ c.record_part-part.ensures _ c.refused_days.ensures c.in_ok-refused_days.was _ c.kind-tag.ensures 4 c.in-4.is (λ S r. refl) _ _ c.requires.indexed _ _ _ _ (input_done c.requires.reading _ c.record_part-part.ensures _ c.refused_days.ensures c.in_ok-refused_days.was _ c.kind-tag.ensures c.in-4.is _ _ _ c.input_record.ensures)).0; indexed_2 = (with_index c.requires.reading _ c.record_part-part.ensures _ c.refused_days.ensures c.in_ok-refused_days.was _ c.kind-tag.ensures 4 c.in-4.is (λ S r. refl) _ _ c.requires.indexed _ _ _ _ (input_done c.requires.reading _ c.record_part-part.ensures _ c.refused_days.ensures c.in_ok-refused_days.was _ c.kind-tag.ensures c.in-4.is _ _ _ c.input_record.ensures)).1 }

pub returns-in-5 : goal.returns-in-5
returns-in-5 c =
    record { record_read = (with_index c.requires.reading _ c.record_part-part.ensures _ c.refused_days.ensures c.in_ok-refused_days.was _ c.kind-tag.ensures 5 c.in-5.is (λ S r. refl) _ _ c.requires.indexed _ _ _ _ (step_done c.requires.reading _ c.record_part-part.ensures _ c.refused_days.ensures c.in_ok-refused_days.was _ c.kind-tag.ensures 5 c.in-5.is (λ y. omega arith) _ _ _ _ _ c.resolve_record.ensures)).0; indexed_2 = (with_index c.requires.reading _ c.record_part-part.ensures _ c.refused_days.ensures c.in_ok-refused_days.was _ c.kind-tag.ensures 5 c.in-5.is (λ S r. refl) _ _ c.requires.indexed _ _ _ _ (step_done c.requires.reading _ c.record_part-part.ensures _ c.refused_days.ensures c.in_ok-refused_days.was _ c.kind-tag.ensures 5 c.in-5.is (λ y. omega arith) _ _ _ _ _ c.resolve_record.ensures)).1 }

pub returns-in-6 : goal.returns-in-6
returns-in-6 c =
    record { record_read = (with_index c.requires.reading _ c.record_part-part.ensures _ c.refused_days.ensures c.in_ok-refused_days.was _ c.kind-tag.ensures 6 c.in-6.is (λ S r. refl) _ _ c.requires.indexed _ _ _ _ (step_done c.requires.reading _ c.record_part-part.ensures _ c.refused_days.ensures c.in_ok-refused_days.was _ c.kind-tag.ensures 6 c.in-6.is (λ y. omega arith) _ _ _ _ _ c.factor_record.ensures)).0; indexed_2 = (with_index c.requires.reading _ c.record_part-part.ensures _ c.refused_days.ensures c.in_ok-refused_days.was _ c.kind-tag.ensures 6 c.in-6.is (λ S r. refl) _ _ c.requires.indexed _ _ _ _ (step_done c.requires.reading _ c.record_part-part.ensures _ c.refused_days.ensures c.in_ok-refused_days.was _ c.kind-tag.ensures 6 c.in-6.is (λ y. omega arith) _ _ _ _ _ c.factor_record.ensures)).1 }

pub returns-in-7 : goal.returns-in-7
returns-in-7 c =
    record { record_read = (with_index c.requires.reading _ c.record_part-part.ensures _ c.refused_days.ensures c.in_ok-refused_days.was _ c.kind-tag.ensures 7 c.in-7.is (λ S r. refl) _ _ c.requires.indexed _ _ _ _ (step_done c.requires.reading _ c.record_part-part.ensures _ c.refused_days.ensures c.in_ok-refused_days.was _ c.kind-tag.ensures 7 c.in-7.is (λ y. omega arith) _ _ _ _ _ c.resolve_record-in-7.ensures)).0; indexed_2 = (with_index c.requires.reading _ c.record_part-part.ensures _ c.refused_days.ensures c.in_ok-refused_days.was _ c.kind-tag.ensures 7 c.in-7.is (λ S r. refl) _ _ c.requires.indexed _ _ _ _ (step_done c.requires.reading _ c.record_part-part.ensures _ c.refused_days.ensures c.in_ok-refused_days.was _ c.kind-tag.ensures 7 c.in-7.is (λ y. omega arith) _ _ _ _ _ c.resolve_record-in-7.ensures)).1 }

pub returns-in-8 : goal.returns-in-8
returns-in-8 c =
    record { record_read = (with_index c.requires.reading _ c.record_part-part.ensures _ c.refused_days.ensures c.in_ok-refused_days.was _ c.kind-tag.ensures 8 c.in-8.is (λ S r. refl) _ _ c.requires.indexed _ _ _ _ (window_done c.requires.reading _ c.record_part-part.ensures _ c.refused_days.ensures c.in_ok-refused_days.was _ c.kind-tag.ensures c.in-8.is _ c.window_record.ensures)).0; indexed_2 = (with_index c.requires.reading _ c.record_part-part.ensures _ c.refused_days.ensures c.in_ok-refused_days.was _ c.kind-tag.ensures 8 c.in-8.is (λ S r. refl) _ _ c.requires.indexed _ _ _ _ (window_done c.requires.reading _ c.record_part-part.ensures _ c.refused_days.ensures c.in_ok-refused_days.was _ c.kind-tag.ensures c.in-8.is _ c.window_record.ensures)).1 }

pub returns-in_default : goal.returns-in_default
returns-in_default c =
    record { record_read = other_done c.requires.reading _ c.record_part-part.ensures _ c.refused_days.ensures c.in_ok-refused_days.was _ c.kind-tag.ensures c.in_default.in_default-own.rest.0.0.0.0.0.0.0.1 c.in_default.in_default-own.rest.0.0.0.0.0.0.1 c.in_default.in_default-own.rest.0.0.0.0.0.1 c.in_default.in_default-own.rest.0.0.0.0.1 c.in_default.in_default-own.rest.0.0.0.1 c.in_default.in_default-own.rest.0.0.1 c.in_default.in_default-own.rest.0.1 c.in_default.in_default-own.rest.1; indexed_2 = c.requires.indexed }
