use mathlib.Core.Path.{refl}
use native.Mathlib.Omega.{arith}
use Rattle.record.specs.Record.{old_file}
use Rattle.rewriting.proofs.RoomLooked.{too_many_lem, short_end, rewritten, to_write_new}
use Rattle.rewriting.proofs.rewrite_old.Goals as goal

pub returns-then-new_count-gt3276 : goal.returns-then-new_count-gt3276
returns-then-new_count-gt3276 c =
    too_many_lem (old_file c.args.file.now) c.args.output.now c.requires c.new_count.ensures c.if-new_count-gt3276.true refl

pub write_new-end-requires : goal.write_new-end-requires
write_new-end-requires c =
    to_write_new c.args.file.now c.args.output.now c.requires c.new_count.ensures c.if-new_count-gt3276.false _ _ c.window_days.ensures

pub overflow_cast-result : goal.overflow_cast-result
overflow_cast-result c =
    omega (arith, short_end (old_file c.args.file.now) c.args.output.now c.requires c.new_count.ensures c.if-new_count-gt3276.false c.write_new-end.ensures)

pub returns : goal.returns
returns c =
    rewritten (old_file c.args.file.now) c.args.output.now c.requires c.new_count.ensures c.if-new_count-gt3276.false c.write_new-end.ensures refl
