use Rattle.distinct.proofs.Listing.{index_more}
use Rattle.row_listing.proofs.list_row.Goals as goal

pub returns : goal.returns
returns c =
    rw c.from.ensures (index_more c.requires _ c.bucket_of_row-b.ensures.0 c.bucket_of_row-b.ensures.1)
