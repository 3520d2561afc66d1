use Rattle.exported.proofs.FormTold.{told_none}
use Rattle.check_form_c.proofs.check_form_to_cells.Goals as goal

pub returns-in_default-clause-answered : goal.returns-in_default-clause-answered
returns-in_default-clause-answered c =
    told_none _ _ _ _ _ c.in_default.in_default-own.rest.0.1 c.in_default.in_default-own.rest.1
