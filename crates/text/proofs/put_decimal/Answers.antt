-- The digits, one after another, are the number.
use Rattle.text.proofs.Decimals.{wrote_decimal}
use native.Mathlib.Omega.{arith}
use Rattle.text.proofs.put_decimal.Goals as goal

pub returns : goal.returns
returns c =
    wrote_decimal _ _ c.args.n (omega arith) _ _ c.put_digit-thousands.ensures _ _ c.put_digit-hundreds.ensures _ _ c.put_digit-tens.ensures _ _ c.put_digit-ones.ensures _ _ _ c.digit.ensures c.put_byte.ensures
