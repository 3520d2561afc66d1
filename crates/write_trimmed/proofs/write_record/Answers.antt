use mathlib.Core.Path.{ap, ◌∙◌}
use Prim.Native.Nat.{ℕ}
use lib.ListN.{set}
use Rattle.write_trimmed.proofs.write_record.Goals as goal

pub put_closed-requires : goal.put_closed-requires
put_closed-requires c =
    c.requires.room

pub place_after-requires : goal.place_after-requires
place_after-requires c =
    c.requires.growing

pub returns : goal.returns
returns c =
    record {
      bytes = c.put_closed.ensures;
      numbered = c.set_cell.ensures ∙ ap (λ (m : ℕ). set c.args.numbers.now c.args.k m) (c.own_number.ensures c.args.symbols.now c.args.rows.now c.args.clauses.now);
      after = c.place_after.ensures;
    }
