use mathlib.Core.Path.{refl}
use Rattle.distinct.proofs.Listing.{index_zeros}
use Rattle.reading.proofs.RecordsLaws.{begun_nodes}
use Rattle.reading.proofs.reader.read_records.Goals as goal

pub read_indexed-requires : goal.read_indexed-requires
read_indexed-requires c =
    record { begun = c.requires; indexed = index_zeros _ _ refl (begun_nodes c.requires) }

pub returns : goal.returns
returns c =
    c.read_indexed.ensures
