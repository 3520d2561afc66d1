-- Each way out is one law of `StepTests`.
use Rattle.inference.proofs.StepTests.{clauses_stored, factor_out, factor_absent, factor_other_signs, factor_same, factor_checked, factor_read}
use Rattle.std.proofs.Common.{not, ap, refl}
use Rattle.factoring.proofs.factor_record.Goals as goal

pub returns-then-not-step_in_range : goal.returns-then-not-step_in_range
returns-then-not-step_in_range c =
    λ E. factor_out E c.requires.k_value _ c.record_part-part.ensures _ c.step_in_range.ensures (ap not c.if-not-step_in_range.true)

pub named_pair-pair-requires : goal.named_pair-pair-requires
named_pair-pair-requires c =
    clauses_stored c.requires.before_step

pub returns-in_default : goal.returns-in_default
returns-in_default c =
    λ E. factor_absent E c.requires.k_value _ c.record_part-part.ensures _ c.step_in_range.ensures (ap not c.if-not-step_in_range.false) _ c.fields-numbers.ensures _ c.named_pair-pair.ensures c.in_default.is

pub returns-then-x-y : goal.returns-then-x-y
returns-then-x-y c =
    λ E. factor_other_signs E c.requires.k_value _ c.record_part-part.ensures _ c.step_in_range.ensures (ap not c.if-not-step_in_range.false) _ c.fields-numbers.ensures _ c.named_pair-pair.ensures c.in-Some.x c.in-Some.y c.in-Some.is c.if-x-y.true

pub returns-then-numbers : goal.returns-then-numbers
returns-then-numbers c =
    λ E. factor_same E c.requires.k_value _ c.record_part-part.ensures _ c.step_in_range.ensures (ap not c.if-not-step_in_range.false) _ c.fields-numbers.ensures _ c.named_pair-pair.ensures c.in-Some.x c.in-Some.y c.in-Some.is c.if-x-y.false c.if-numbers.true

pub factor_atoms-requires : goal.factor_atoms-requires
factor_atoms-requires c =
    factor_checked c.requires.before_step c.requires.k_value _ c.record_part-part.ensures _ c.step_in_range.ensures (ap not c.if-not-step_in_range.false) _ c.fields-numbers.ensures _ c.named_pair-pair.ensures c.in-Some.x c.in-Some.y c.in-Some.is c.if-x-y.false c.if-numbers.false _ refl

pub returns : goal.returns
returns c =
    λ E. factor_read E c.requires.k_value _ c.record_part-part.ensures _ c.step_in_range.ensures (ap not c.if-not-step_in_range.false) _ c.fields-numbers.ensures _ c.named_pair-pair.ensures c.in-Some.x c.in-Some.y c.in-Some.is c.if-x-y.false c.if-numbers.false _ refl _ _ _ _ _ c.factor_atoms.ensures
