use mathlib.Core.Path.{refl}
use native.Mathlib.Omega.{arith}
use Rattle.record.specs.Record.{in_form}
use Rattle.entry.proofs.Kept.{fitting_records}
use Rattle.reading.proofs.RecordsLaws.{read_none, read_asked, read_more, read_refused, read_all, index_more}
use borrow.Author.Rules.{rules}
use Rattle.reading.proofs.reader.read_indexed.Goals as goal

pub loop-k-init : goal.loop-k-init
loop-k-init c =
    (refl, refl, refl, refl, λ G. read_none _ _ _ _ _ G, c.requires.indexed)

pub overflow_cast-k-end : goal.overflow_cast-k-end
overflow_cast-k-end c =
    record { fits = omega (arith, c.record_count-k-end.ensures, fitting_records (in_form c.args.form c.args.file.now) c.requires.begun.fit) }

pub read_record-requires : goal.read_record-requires
read_record-requires c =
    record { reading = read_asked (c.loop-k.invariant.4 c.requires.begun) (omega (arith, c.loop-k-test.true, c.record_count-k-end.ensures)); indexed = c.loop-k.invariant.5 }

pub loop-k-preserved : goal.loop-k-preserved
loop-k-preserved c =
    (search rules, search rules, search rules, search rules, λ G. read_more (c.loop-k.invariant.4 G) (omega (arith, c.loop-k-test.true, c.record_count-k-end.ensures)) _ _ _ _ _ c.read_record.ensures.record_read _ c.in-Ok.is, index_more (c.loop-k.invariant.4 c.requires.begun) _ _ _ _ _ c.in-Ok.is c.read_record.ensures.indexed_2)

pub returns-in-Err : goal.returns-in-Err
returns-in-Err c =
    record { read = λ G. read_refused (c.loop-k.invariant.4 G) (omega (arith, c.loop-k-test.true, c.record_count-k-end.ensures)) _ _ _ _ _ c.read_record.ensures.record_read _ c.in-Err.is }

pub returns : goal.returns
returns c =
    record { read = λ G. read_all (c.loop-k.invariant.4 G) (omega (arith, c.loop-k-test.false, c.record_count-k-end.ensures)) }
