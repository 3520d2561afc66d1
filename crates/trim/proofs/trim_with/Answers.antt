-- The file is refused, or open on the day, or it is trimmed.
use mathlib.Core.Path.{refl, sym, ◌∙◌}
use native.Mathlib.Omega.{arith}
use Rattle.trim.proofs.Answered.{accepted_was, not_trimmed, file_trimmed, trimmable, records_trimmed}
use Rattle.trim.proofs.trim_with.Goals as goal

pub returns-in_err-n-clause-answered : goal.returns-in_err-n-clause-answered
returns-in_err-n-clause-answered c =
    not_trimmed _ _ _ _ c.requires _ _ c.check_with-a.ensures.answered _ c.from_residual.ensures.1 (sym c.accepted.ensures ∙ c.in_err-n.was)

pub trim_kept-end-requires : goal.trim_kept-end-requires
trim_kept-end-requires c =
    trimmable _ _ _ _ c.requires _ _ c.check_with-a.ensures.answered _ (accepted_was _ (sym c.accepted.ensures ∙ c.in_ok-n.was))

pub returns-clause-answered : goal.returns-clause-answered
returns-clause-answered c =
    let n = accepted_was _ (sym c.accepted.ensures ∙ c.in_ok-n.was) in
    file_trimmed _ _ _ _ c.requires _ _ c.check_with-a.ensures.answered _ n _ _ _ (records_trimmed _ _ _ _ c.requires _ _ c.check_with-a.ensures.answered _ n (λ i. omega (arith, c.shared_slice_known-1.given i)) _ _ c.trim_kept-end.ensures) refl
