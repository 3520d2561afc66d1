-- Each way out is one law of `StepTests`.
use mathlib.Core.Path.{refl}
use Rattle.reasons.proofs.Refusals.{handed_on}
use Rattle.inference.proofs.StepTests.{clauses_stored, rights_there, resolve_out, resolve_left_absent, resolve_refused, resolve_checked, resolve_read}
use Rattle.resolution.proofs.resolve_record.Goals as goal

pub returns-then-n-eq0 : goal.returns-then-n-eq0
returns-then-n-eq0 c =
    λ E. resolve_out E c.requires.resolve_kind _ c.record_part-part.ensures _ c.right_count-n.ensures c.if-n-eq0.true

pub named_literal-left-requires : goal.named_literal-left-requires
named_literal-left-requires c =
    clauses_stored c.requires.before_step

pub returns-in_default : goal.returns-in_default
returns-in_default c =
    let asked = c.requires.resolve_kind in
    let part_Says = c.record_part-part.ensures in
    let count-says = c.right_count-n.ensures in
    let some-there = c.if-n-eq0.false in
    let fields-say = c.fields-numbers.ensures in
    let left-says = c.named_literal-left.ensures in
    let told = c.in_default.is in
    λ E. resolve_left_absent E asked _ part_Says _ count-says some-there _ fields-say _ left-says told

pub rights_rise-requires : goal.rights_rise-requires
rights_rise-requires c =
    (rights_there c.requires.before_step c.requires.resolve_kind _ c.record_part-part.ensures _ c.right_count-n.ensures c.if-n-eq0.false).few

pub refused_rights-requires : goal.refused_rights-requires
refused_rights-requires c =
    record { clauses_stored = clauses_stored c.requires.before_step; n_bound = (rights_there c.requires.before_step c.requires.resolve_kind _ c.record_part-part.ensures _ c.right_count-n.ensures c.if-n-eq0.false).few }

pub returns-in_err-refused_rights : goal.returns-in_err-refused_rights
returns-in_err-refused_rights c =
    let asked = c.requires.resolve_kind in
    let part_Says = c.record_part-part.ensures in
    let count-says = c.right_count-n.ensures in
    let some-there = c.if-n-eq0.false in
    let fields-say = c.fields-numbers.ensures in
    let left-says = c.named_literal-left.ensures in
    let left-found = c.in-Some.is in
    let rises-says = c.rights_rise.ensures in
    let rights-say = c.refused_rights.ensures in
    let refused = c.in_err-refused_rights.was in
    λ E. resolve_refused E asked _ part_Says _ count-says some-there _ fields-say _ left-says _ left-found _ rises-says _ _ rights-say refused (handed_on _ c.from_residual.ensures)

pub resolve_atoms-requires : goal.resolve_atoms-requires
resolve_atoms-requires c =
    resolve_checked c.requires.before_step c.requires.resolve_kind _ c.record_part-part.ensures _ c.right_count-n.ensures c.if-n-eq0.false _ c.fields-numbers.ensures _ c.named_literal-left.ensures _ c.in-Some.is _ c.rights_rise.ensures _ _ c.refused_rights.ensures c.in_ok-refused_rights.was _ refl

pub returns : goal.returns
returns c =
    let asked = c.requires.resolve_kind in
    let part_Says = c.record_part-part.ensures in
    let count-says = c.right_count-n.ensures in
    let some-there = c.if-n-eq0.false in
    let fields-say = c.fields-numbers.ensures in
    let left-says = c.named_literal-left.ensures in
    let left-found = c.in-Some.is in
    let rises-says = c.rights_rise.ensures in
    let rights-say = c.refused_rights.ensures in
    let passed = c.in_ok-refused_rights.was in
    let atoms-say = c.resolve_atoms.ensures in
    λ E. resolve_read E asked _ part_Says _ count-says some-there _ fields-say _ left-says _ left-found _ rises-says _ _ rights-say passed _ refl _ _ _ _ _ atoms-say
