-- The length and the hash of a readout, by how it writes a line.
use Rattle.std.specs.Prelude.{◌≡◌, List, ℕ, length}
use Rattle.record.specs.Record.{File}
use Rattle.verdict.specs.Tables.{lengths_of}
use Rattle.verdict.specs.Verdict.{Lengths}
use Rattle.answer.specs.declared.Answer.{Answer}
use Rattle.verdict.specs.Readout.{LineWriter, readout_by}
use Rattle.numbering.specs.Numbering.{line_of}
use Rattle.numbering.specs.declared.Naming.{Naming}
use Rattle.units.specs.Units.{AfterCheck}
use Rattle.hash.specs.Hash.{start, hash_bytes}
use Rattle.digests.specs.declared.Digest.{Digest}

-- The number of bytes of a file's readout on a day, and their hash.
pub record DigestOf (line : LineWriter) (day : ℕ) (file : File) (lengths : Lengths) (d : Digest) : Type 0 where
  pub length : d.length ≡ length (readout_by line day file lengths)
  pub hash : d.hash ≡ hash_bytes start (readout_by line day file lengths)

-- The same by what a check left, whichever file it was of and whichever tables there were before it. The array keeps its length.
pub record DigestAfter (naming : Naming) (C B N O A A' : List ℕ) (a : Answer) (d : Digest) : Type 0 where
  pub digest : (R : AfterCheck C B N O A a) → DigestOf (line_of naming) R.day R.file (lengths_of R.before) d
  pub values : length A' ≡ 524416
