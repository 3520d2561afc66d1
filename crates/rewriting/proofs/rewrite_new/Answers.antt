use mathlib.Core.Path.{refl}
use native.Mathlib.Omega.{arith}
use Rattle.record.specs.Record.{new_file}
use Rattle.rewriting.proofs.RoomLooked.{too_many_lem, short_end, rewritten, to_write_old}
use Rattle.rewriting.proofs.rewrite_new.Goals as goal

pub returns-then-old_count-gt4096 : goal.returns-then-old_count-gt4096
returns-then-old_count-gt4096 c =
    too_many_lem (new_file c.args.file.now) c.args.output.now c.requires c.old_count.ensures c.if-old_count-gt4096.true refl

pub write_old-end-requires : goal.write_old-end-requires
write_old-end-requires c =
    to_write_old c.args.file.now c.args.output.now c.requires c.old_count.ensures c.if-old_count-gt4096.false

pub overflow_cast-result : goal.overflow_cast-result
overflow_cast-result c =
    omega (arith, short_end (new_file c.args.file.now) c.args.output.now c.requires c.old_count.ensures c.if-old_count-gt4096.false c.write_old-end.ensures)

pub returns : goal.returns
returns c =
    rewritten (new_file c.args.file.now) c.args.output.now c.requires c.old_count.ensures c.if-old_count-gt4096.false c.write_old-end.ensures refl
