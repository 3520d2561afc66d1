-- A record of the second file, written step by step as the program does: what is raised, and its bytes.
use mathlib.Core.Path.{◌≡◌, refl, sym, ap, ap₂, ◌∙◌, subst}
use mathlib.Core.Bool.{Bool, true, false, ◌&&◌}
use mathlib.Core.List.{List, [], ◌∷◌, ◌++◌, append_assoc, append-nil}
use Prim.Native.Nat.{ℕ, zero, suc, ◌+◌, ◌-◌, ◌*◌, ◌/◌, ◌%◌, ◌≤◌, ◌<◌}
use native.Mathlib.Omega.{arith}
use lib.Dec.{eqb, leb, ltb}
use lib.ListN.{length, take, drop, set, length-drop, drop_of_length-le}
use lib.Seq.{take_all, length-take-le, drop-drop, take-add, take_at, drop_at}
use borrow.Rule.Slice.PartMut.{mid_of, put_mid}
use Rattle.record.specs.Bytes.{record_bytes}
use Rattle.record.specs.Record.{pick, Record, decoded, kind_of, count_of, field_of}
use Rattle.record.specs.declared.Form.TheVariants.{Old}
use Rattle.record.proofs.Bytes.{record_whole}
use Rattle.merging.specs.Merging.{raised_by, shifted}
use Rattle.raising.specs.Wrapped.{wrapped}

-- ── By how much a field is raised ──

-- The tests of a raise and what they come to.
abbrev raise : ℕ → ℕ → Bool → Bool → Bool → Bool → Bool → Bool → ℕ
raise rows clauses three inside four under eight first =
    pick three (pick inside rows 0) (pick four (pick under (2 * rows) 0) (pick eight (pick first clauses 0) 0))

raise_bound : (rows clauses : ℕ) (three inside four under eight first : Bool) → raise rows clauses three inside four under eight first ≤ 2 * rows + clauses
raise_bound rows clauses true true four under eight first = omega arith
raise_bound rows clauses true false four under eight first = omega arith
raise_bound rows clauses false inside true true eight first = omega arith
raise_bound rows clauses false inside true false eight first = omega arith
raise_bound rows clauses false inside false under true true = omega arith
raise_bound rows clauses false inside false under true false = omega arith
raise_bound rows clauses false inside false under false first = omega arith

pub raised_bound : (rows clauses : ℕ) (r : Record) (i : ℕ) → raised_by rows clauses r i ≤ 2 * rows + clauses
raised_bound rows clauses r i =
    raise_bound rows clauses (eqb r.kind 3) (leb 1 i && leb i r.count) (eqb r.kind 4) (ltb i r.count) (eqb r.kind 8) (eqb i 0)

-- ── One record's bytes ──

pub two_set : (l : List ℕ) (a b : ℕ) → 2 ≤ length l → set (set l 0 a) 1 b ≡ a ∷ b ∷ drop 2 l
two_set [] a b h = absurd (omega arith)
two_set (x ∷ []) a b h = absurd (omega arith)
two_set (x ∷ y ∷ l) a b h = refl

-- A part that is lent from a place to the end, and the list with it given back.
pub tail_lent : (a : ℕ) (l : List ℕ) → mid_of a (length l - a) l ≡ drop a l
tail_lent a l = take_all (length l - a) (drop a l) (omega (arith, length-drop a l))

pub tail_back : (a : ℕ) (l m : List ℕ) → put_mid a (length l - a) l m ≡ take a l ++ m
tail_back a l m = ap (λ (z : List ℕ). take a l ++ z) (ap (λ (z : List ℕ). m ++ z) (drop_of_length-le (drop a l) {i = length l - a} (omega (arith, length-drop a l))) ∙ append-nil m)

pub tail_room : (a n : ℕ) (l : List ℕ) → a + n ≤ length l → n ≤ length (mid_of a (length l - a) l)
tail_room a n l h = subst (λ (z : List ℕ). n ≤ length z) (sym (tail_lent a l)) (omega (arith, length-drop a l))

still : (m : ℕ) (l : List ℕ) (a b : ℕ) → drop (suc (suc m)) (set (set l 0 a) 1 b) ≡ drop (suc (suc m)) l
still m [] a b = refl
still m (x ∷ []) a b = refl
still m (x ∷ y ∷ l) a b = refl

low_wrapped : (n : ℕ) → n % 65536 % 256 ≡ n % 256
low_wrapped n = omega arith

high_wrapped : (n : ℕ) → n % 65536 / 256 ≡ n / 256 % 256
high_wrapped n = omega arith

module _ (rest : List ℕ) (rows clauses : ℕ) where
  -- The record's bytes, and field i as it is written.
  abbrev pub sixteen : List ℕ
  sixteen = record_bytes Old (wrapped (shifted rows clauses (decoded rest)))

  abbrev pub field_raised : ℕ → ℕ
  field_raised i = field_of rest i + raised_by rows clauses (decoded rest) i

  two : (n : ℕ) → (n % 65536 % 256) ∷ (n % 65536 / 256) ∷ [] ≡ (n % 256) ∷ (n / 256 % 256) ∷ []
  two n = λ t. low_wrapped n t ∷ high_wrapped n t ∷ []

  field_bytes_lem : (i : ℕ) → i < 7 → take 2 (drop (2 + 2 * i) sixteen) ≡ (field_raised i % 256) ∷ (field_raised i / 256 % 256) ∷ []
  unfolding record_bytes
  field_bytes_lem zero h = two (field_raised 0)
  field_bytes_lem (suc zero) h = two (field_raised 1)
  field_bytes_lem (suc (suc zero)) h = two (field_raised 2)
  field_bytes_lem (suc (suc (suc zero))) h = two (field_raised 3)
  field_bytes_lem (suc (suc (suc (suc zero)))) h = two (field_raised 4)
  field_bytes_lem (suc (suc (suc (suc (suc zero))))) h = two (field_raised 5)
  field_bytes_lem (suc (suc (suc (suc (suc (suc zero)))))) h = two (field_raised 6)
  field_bytes_lem (suc (suc (suc (suc (suc (suc (suc i))))))) h = absurd (omega arith)

  -- The first two bytes; a field more; and all.
  pub begun : (output : List ℕ) {k n : ℕ} → 16 ≤ length output → k ≡ kind_of rest → n ≡ count_of rest
      → set (set output 0 k) 1 n ≡ take 2 sixteen ++ drop 2 (set (set output 0 k) 1 n)
  unfolding record_bytes
  begun output {k} {n} h p q =
      let same : drop 2 output ≡ drop 2 (set (set output 0 k) 1 n) = sym (still 0 output k n) in
      two_set output k n (omega arith) ∙ (λ t. p t ∷ q t ∷ same t)

  pub field_written : (before output : List ℕ) (i : ℕ) {n : ℕ} {part : List ℕ} → i < 7 → 16 ≤ length output → output ≡ take (2 + 2 * i) sixteen ++ drop (2 + 2 * i) before
      → n ≡ field_raised i → part ≡ (n % 256) ∷ (n / 256 % 256) ∷ drop 2 (mid_of (2 + 2 * i) (length output - (2 + 2 * i)) output)
      → put_mid (2 + 2 * i) (length output - (2 + 2 * i)) output part ≡ take (2 + 2 * (i + 1)) sixteen ++ drop (2 + 2 * (i + 1)) before
  field_written before output i {n} {part} h l o f p =
      let at : ℕ = 2 + 2 * i in
      let long : length (take at sixteen) ≡ at = length-take-le at sixteen (omega (arith, record_whole Old (wrapped (shifted rows clauses (decoded rest))))) in
      let front : take at output ≡ take at sixteen = ap (take at) o ∙ take_at (take at sixteen) (drop at before) at long in
      let back : drop at output ≡ drop at before = ap (drop at) o ∙ drop_at (take at sixteen) (drop at before) at long in
      let on : at + 2 ≡ 2 + 2 * (i + 1) = omega arith in
      let same : part ≡ (take 2 (drop at sixteen)) ++ drop (at + 2) before =
      p ∙ (λ t. (f t % 256) ∷ (f t / 256 % 256) ∷ drop 2 (tail_lent at output t)) ∙ ap₂ (λ (a b : List ℕ). a ++ drop 2 b) (sym (field_bytes_lem i h)) back ∙ ap (λ (z : List ℕ). take 2 (drop at sixteen) ++ z) (drop-drop 2 at before) in
      tail_back at output part ∙ ap₂ ◌++◌ front same ∙ sym (append_assoc (take at sixteen) (take 2 (drop at sixteen)) (drop (at + 2) before))
      ∙ ap (λ (z : List ℕ). z ++ drop (at + 2) before) (sym (take-add at 2 sixteen)) ∙ ap (λ (m : ℕ). take m sixteen ++ drop m before) on

  pub all_written : (output left : List ℕ) (k n i : ℕ) → i ≤ 7 → 7 ≤ i → left ≡ take (2 + 2 * i) sixteen ++ drop (2 + 2 * i) (set (set output 0 k) 1 n) → left ≡ sixteen ++ drop 16 output
  unfolding record_bytes
  all_written output left k n i a b e =
      let z : i ≡ 7 = omega arith in
      e ∙ ap (λ (m : ℕ). take (2 + 2 * m) sixteen ++ drop (2 + 2 * m) (set (set output 0 k) 1 n)) z ∙ ap (λ (l : List ℕ). sixteen ++ l) (still 14 output k n)
