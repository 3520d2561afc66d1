-- Numbers of which each is less than the next rise.
use Rattle.std.proofs.Common.{◌≡◌, ℕ, zero, suc, ◌<◌, Bool, true, false, ◌&&◌, ltb, List, [], ◌∷◌, length, get_or, take, drop, refl, sym, ap, ◌∙◌, add-one, arith, rules, tests}
use Rattle.std.specs.List.{IsAllAdjacentAnswer}
use Rattle.std.proofs.Math.Bool.{and-false}
use Rattle.std.proofs.lemmas.List.Sorted.{answers_always}
use Rattle.record.specs.Record.{fields_of}
use Rattle.verdict.specs.Refusal.{rising}
use Rattle.step_fields.proofs.rights_rise.Goals as goal

all_rise : (xs : List ℕ) → ((k : ℕ) → suc k < length xs → true ≡ ltb (get_or xs k 0) (get_or xs (suc k) 0)) → true ≡ rising xs
all_rise [] h = refl
all_rise (n ∷ []) h = refl
all_rise (n ∷ m ∷ ns) h =
    let less : ltb n m ≡ true = sym (h 0 (omega arith)) in
    rw less (all_rise (m ∷ ns) (λ k l. h (suc k) (omega arith)))

one_falls : (xs : List ℕ) (k : ℕ) → suc k < length xs → false ≡ ltb (get_or xs k 0) (get_or xs (suc k) 0) → false ≡ rising xs
one_falls [] k l h = absurd (omega arith)
one_falls (n ∷ []) k l h = absurd (omega arith)
one_falls (n ∷ m ∷ ns) zero l h = let less : ltb n m ≡ false = sym h in rw less
one_falls (n ∷ m ∷ ns) (suc k) l h = sym (and-false (ltb n m)) ∙ ap (λ (b : Bool). ltb n m && b) (one_falls (m ∷ ns) k (omega arith) h)

adjacent_rising : (xs : List ℕ) (r : Bool) → IsAllAdjacentAnswer (λ x y b. b ≡ ltb x y) xs r → r ≡ rising xs
adjacent_rising xs true h = all_rise xs (λ k l. rw add-one at (h k 0 (omega arith)))
adjacent_rising xs false h = one_falls xs h.0 (rw add-one at h.1) (rw add-one at (h.2 0))

pub returns : goal.returns
returns c =
    let numbers = take c.from.result (take 4 (drop 3 c.fields.result)) in
    let same : numbers ≡ take c.args.n (drop 3 (fields_of c.args.part.now)) = rw (c.from.ensures, c.fields.ensures) in
    adjacent_rising numbers _ (c.is_sorted_by.ensures.cases ltb (answers_always _ _ _ (λ f a r g k. search (rules, tests)))) ∙ ap rising same
