-- Each return is a case of the definition.
use Rattle.entry.proofs.EntryLaws.{row_findable, row_again, row_new, counted_indexed, again_indexed, new_listable}
use Rattle.row_entry.proofs.enter_row.Goals as goal

pub find_row-requires : goal.find_row-requires
find_row-requires c =
    row_findable c.requires

pub list_row-requires : goal.list_row-requires
list_row-requires c =
    new_listable c.requires c.find_row.ensures c.in_default.is c.put_cells.ensures.nodes_after

pub returns-in_default : goal.returns-in_default
returns-in_default c =
    let s = c.args in
    record { nodes_after = row_new s.numbers.now s.k s.code s.counts s.rows.now s.nodes.now c.find_row.ensures c.more_rows.ensures c.in_default.is c.put_cells.ensures.nodes_after c.set_cell.ensures; indexed = counted_indexed s.counts c.more_rows.ensures c.list_row.ensures }

pub returns : goal.returns
returns c =
    let s = c.args in
    record { nodes_after = row_again s.numbers.now s.k s.code s.counts s.rows.now s.nodes.now c.find_row.ensures c.more_rows-2.ensures c.in-Some.is c.cell-record.ensures c.put_cells-2.ensures.nodes_after c.set_cell-2.ensures; indexed = counted_indexed s.counts c.more_rows-2.ensures (again_indexed c.requires _ c.put_cells-2.ensures.nodes_after) }
