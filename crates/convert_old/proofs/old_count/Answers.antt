use mathlib.Core.Path.{refl, ap, ◌∙◌}
use Prim.Native.Nat.{ℕ, ◌+◌}
use native.Mathlib.Omega.{arith}
use Rattle.record.specs.Record.{new_file, decoded_in, records}
use Rattle.record.specs.declared.Form.TheVariants.{New}
use Rattle.converting.specs.Converting.{is_dated}
use Rattle.placing.proofs.Counting.{at_most_one, one_counted, all_counted}
use Rattle.convert_old.proofs.DatedRecords.{all_dated}
use Rattle.record.specs.Sorts.{how_many}
use Rattle.convert_old.proofs.old_count.Goals as goal

pub loop-k-init : goal.loop-k-init
loop-k-init c =
    (omega arith, refl)

pub overflow_add-n : goal.overflow_add-n
overflow_add-n c =
    omega (arith, c.loop-k.invariant.0, c.loop-k-test.true, c.record_count-count.type_inv, c.record_count-count.ensures, c.dated-n.ensures, at_most_one (is_dated (decoded_in New c.record_part.result.now)))

pub loop-k-preserved : goal.loop-k-preserved
loop-k-preserved c =
    let l = c.loop-k in
    (omega (arith, c.loop-k.invariant.0, c.dated-n.ensures, at_most_one (is_dated (decoded_in New c.record_part.result.now))), one_counted (new_file c.args.file.now) is_dated c.record_count-count.result l.k l.n l.invariant.1 (omega (arith, c.record_count-count.ensures, c.loop-k-test.true)) c.record_part.ensures c.dated-n.ensures)

pub returns : goal.returns
returns c =
    all_dated c.args.file.now (all_counted (new_file c.args.file.now) is_dated c.record_count-count.result c.loop-k.k c.loop-k.n c.loop-k.invariant.1 (omega (arith, c.record_count-count.ensures, c.loop-k-test.false)) ∙ ap (λ (m : ℕ). m + how_many is_dated (records (new_file c.args.file.now))) c.record_count-count.ensures)
