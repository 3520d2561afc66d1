-- Each return is a case of the definition.
use Rattle.text.proofs.Decimals.{wrote_no_digit, wrote_digit}
use Rattle.text.proofs.put_digit.Goals as goal

pub returns-then-n-eq0 : goal.returns-then-n-eq0
returns-then-n-eq0 c =
    wrote_no_digit _ _ c.args.n c.if-n-eq0.true

pub returns : goal.returns
returns c =
    wrote_digit _ _ c.args.n c.if-n-eq0.false _ _ _ c.digit.ensures c.put_byte.ensures
