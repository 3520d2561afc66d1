-- What the functions say that write the first line. What the line is stands in `Readout` of the crate verdict.
use Rattle.std.specs.Prelude.{List, ℕ}
use Rattle.answer.specs.declared.Verdict as given
use Rattle.answer.specs.declared.Verdict.TheVariants as given-variants
use Rattle.verdict.specs.Readout.{accepted_text, open_text, refused_text}

-- The words of a verdict as the program gives it.
abbrev pub given_text : given.Verdict → List ℕ
given_text given-variants.Open = open_text
given_text (given-variants.Accepted n) = accepted_text n
given_text (given-variants.Refused q k) = refused_text q k
