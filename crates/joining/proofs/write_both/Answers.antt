-- The first file is copied, and the second's records are written behind it.
use native.Mathlib.Omega.{arith}
use Rattle.joining.proofs.FileJoined.{copy_room, second_writable, both_written}
use Rattle.joining.proofs.write_both.Goals as goal

pub copy-at-requires : goal.copy-at-requires
copy-at-requires c =
    copy_room _ _ _ _ _ _ c.requires

pub write_second-requires : goal.write_second-requires
write_second-requires c =
    second_writable _ _ _ _ _ _ c.requires _ _ c.copy-at.ensures.count c.copy-at.ensures.bytes

pub returns : goal.returns
returns c =
    both_written _ _ _ _ _ _ c.requires (λ i. omega (arith, c.shared_slice_known-1.given i)) (λ i. omega (arith, c.shared_slice_known-2-1.given i)) _ _ c.copy-at.ensures.count c.copy-at.ensures.bytes _ _ c.write_second.ensures
