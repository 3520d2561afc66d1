-- Each cell is inside its table, and no sum wraps: the binding is in range.
use native.Mathlib.Omega.{arith}
use Rattle.putting.proofs.Bindings.{number_small, cells_put_lem}
use Rattle.putting.proofs.put_binding.Goals as goal

pub overflow_cast-number : goal.overflow_cast-number
overflow_cast-number c =
    omega (arith, number_small c.requires)

pub overflow_mul-place-2 : goal.overflow_mul-place-2
overflow_mul-place-2 c =
    omega (arith, number_small c.requires)

pub overflow_add-place : goal.overflow_add-place
overflow_add-place c =
    omega (arith, number_small c.requires, c.requires.index)

pub offset_bounds-values-place : goal.offset_bounds-values-place
offset_bounds-values-place c =
    omega (arith, number_small c.requires, c.requires.index)

pub bounds-values-place : goal.bounds-values-place
bounds-values-place c =
    omega (arith, number_small c.requires, c.requires.index)

pub overflow_add-values-5 : goal.overflow_add-values-5
overflow_add-values-5 c =
    omega (arith, number_small c.requires, c.requires.index)

pub offset_bounds-values-place-2 : goal.offset_bounds-values-place-2
offset_bounds-values-place-2 c =
    omega (arith, number_small c.requires, c.requires.index)

pub bounds-values-place-2 : goal.bounds-values-place-2
bounds-values-place-2 c =
    omega (arith, number_small c.requires, c.requires.index)

pub returns : goal.returns
returns c =
    cells_put_lem _ _ _ _ _
