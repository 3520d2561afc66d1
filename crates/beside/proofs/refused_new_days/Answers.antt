use Rattle.beside.proofs.BesideLaws.{kind_zero, kind_high, kind_input, first_left, last_left, both_zero}
use Rattle.beside.proofs.refused_new_days.Goals as goal

pub returns-then-tag-lt1 : goal.returns-then-tag-lt1
returns-then-tag-lt1 c =
    kind_zero _ c.kind-tag.ensures c.if-tag-lt1.true

pub returns-then-tag-gt7 : goal.returns-then-tag-gt7
returns-then-tag-gt7 c =
    kind_high _ c.kind-tag.ensures c.if-tag-lt1.false c.if-tag-gt7.true

pub returns-then-tag-eq4 : goal.returns-then-tag-eq4
returns-then-tag-eq4 c =
    kind_input _ c.kind-tag.ensures c.if-tag-eq4.true

pub returns-then-field-ne0 : goal.returns-then-field-ne0
returns-then-field-ne0 c =
    first_left _ c.kind-tag.ensures c.if-tag-lt1.false c.if-tag-gt7.false c.if-tag-eq4.false c.field.ensures c.if-field-ne0.true

pub returns-then-field-ne0-2 : goal.returns-then-field-ne0-2
returns-then-field-ne0-2 c =
    last_left _ c.kind-tag.ensures c.if-tag-lt1.false c.if-tag-gt7.false c.if-tag-eq4.false c.field.ensures c.if-field-ne0.false c.field-2.ensures c.if-field-ne0-2.true

pub returns-else-field-ne0-2 : goal.returns-else-field-ne0-2
returns-else-field-ne0-2 c =
    both_zero _ c.kind-tag.ensures c.if-tag-lt1.false c.if-tag-gt7.false c.if-tag-eq4.false c.field.ensures c.if-field-ne0.false c.field-2.ensures c.if-field-ne0-2.false
