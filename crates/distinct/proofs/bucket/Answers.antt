use Rattle.distinct.proofs.Cells.{bucket_sum, bucket_room}
use Rattle.distinct.proofs.bucket.Goals as goal

pub returns : goal.returns
returns c =
    let s = c.args in
    (bucket_sum s.code s.a s.b s.c s.d s.e s.f s.g, bucket_room _)
