-- The result is too large, the outlines clash, or the step comes to its end.
use mathlib.Core.Path.{refl, ap}
use lib.ListN.{length}
use Rattle.inference.proofs.StepEnds.{finishing}
use Rattle.inference.proofs.StepLaws.{nodes_room}
use Rattle.resolvents.proofs.Sized.{size_asked, past_limits, sized_resolving, sized_clashes, sized_ended}
use Rattle.resolvents.proofs.resolve_atoms.Goals as goal

pub resolvent_size-size-requires : goal.resolvent_size-size-requires
resolvent_size-size-requires c =
    size_asked c.requires _ refl

pub returns-in_default : goal.returns-in_default
returns-in_default c =
    λ R. past_limits R _ refl c.resolvent_size-size.ensures c.in_default.is

pub some_outlines_clash-requires : goal.some_outlines_clash-requires
some_outlines_clash-requires c =
    c.requires.few

pub returns-then-some_outlines_clash : goal.returns-then-some_outlines_clash
returns-then-some_outlines_clash c =
    λ R. sized_clashes R _ refl c.resolvent_size-size.ensures c.in-Some.is _ c.some_outlines_clash.ensures c.if-some_outlines_clash.true

pub unify_resolve-u-requires : goal.unify_resolve-u-requires
unify_resolve-u-requires c =
    sized_resolving c.requires _ refl c.resolvent_size-size.ensures c.in-Some.is

pub finish_step-requires : goal.finish_step-requires
finish_step-requires c =
    finishing c.requires.step _ _ _ c.unify_resolve-u.ensures.unified_tables _ (ap length c.requires.numbers)

pub returns : goal.returns
returns c =
    let size-says = c.resolvent_size-size.ensures in
    let size-given = c.in-Some.is in
    let outlines-say = c.some_outlines_clash.ensures in
    let if1-left = c.if-some_outlines_clash.false in
    let unify-resolve-says-0 = c.unify_resolve-u.ensures.rights_named_value in
    let unify-resolve-says-1 = c.unify_resolve-u.ensures.unified_tables in
    let finish-step-says = c.finish_step.ensures in
    λ R. sized_ended R _ refl size-says size-given _ outlines-say if1-left _ refl _ _ _ unify-resolve-says-0 unify-resolve-says-1 _ _ _ _ finish-step-says
