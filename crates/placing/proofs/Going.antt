-- A file written from another, record by record: each record becomes some, and what is left comes to the same as the whole.
use mathlib.Core.Path.{◌≡◌, sym, ap, ap₂, ◌∙◌}
use mathlib.Core.Bool.{Bool, true, false}
use mathlib.Core.List.{List, [], ◌∷◌, ◌++◌}
use Prim.Native.Nat.{ℕ, suc, ◌+◌, ◌≤◌, ◌<◌}
use native.Mathlib.Numerals.{add-one}
use native.Mathlib.Omega.{arith}
use lib.ListN.{length, drop}
use Rattle.record.specs.Bytes.{bytes_in}
use Rattle.record.specs.Record.{pick, Record, File, record_count, record_part, decoded_in, records}
use Rattle.record.specs.declared.Form.{Form}
use Rattle.record.proofs.Records.{record_numbered}
use Rattle.record.specs.Sorts.{is_clause, clauses_after}
use Rattle.placing.specs.Placing.{Placed, Written}
use Rattle.placing.proofs.Placing.{Reached, reached_first, reached_room, reached_more, reached_end, none_left}

few_clauses : (n : ℕ) (b : Bool) → pick b (suc n) n ≤ suc n
few_clauses n true = omega arith
few_clauses n false = omega arith

-- Before record k, with n clauses before it; `from n` are the records that are written for records that clause n is the next in.
pub record Going (file : File) (other : Form) (from : ℕ → List Record → List Record) (before output : List ℕ) (next n k : ℕ) : Type 0 where
  pub inside : k ≤ record_count file
  pub few : n ≤ k
  pub reached : Reached other (from 0 (records file)) (from n (drop k (records file))) before output next

-- What is written, record by record.
pub record ByRecord (from : ℕ → List Record → List Record) (becomes : ℕ → Record → List Record) : Type 0 where
  pub on_none : (n : ℕ) → from n [] ≡ []
  pub on_more : (n : ℕ) (r : Record) (rs : List Record) → n < 4096 → from n (r ∷ rs) ≡ becomes n r ++ from (clauses_after n r) rs

module _ (file : File) (other : Form) {from : ℕ → List Record → List Record} {becomes : ℕ → Record → List Record} (B : ByRecord from becomes) (before : List ℕ)
    (short : record_count file ≤ 4096) (room : length (bytes_in other (from 0 (records file))) ≤ length before) where
  pub going_first : Going file other from before before 0 0 0
  going_first = record { inside = omega arith; few = omega arith; reached = reached_first other (from 0 (records file)) before }

  module _ {output : List ℕ} {next n k : ℕ} (G : Going file other from before output next n k) where
    module _ (h : k < record_count file) {part : List ℕ} (isPart : part ≡ record_part file k) where
      pub few_now : n < 4096
      few_now = omega (arith, G.few)

      split : {m : ℕ} → m ≡ clauses_after n (decoded_in file.form part) → from n (drop k (records file)) ≡ becomes n (decoded_in file.form part) ++ from m (drop (k + 1) (records file))
      split {m} q =
          ap (from n) (record_numbered file k h ∙ ap₂ (λ (l : List ℕ) (i : ℕ). decoded_in file.form l ∷ drop i (records file)) (sym isPart) (sym (add-one k)))
          ∙ B.on_more n (decoded_in file.form part) (drop (k + 1) (records file)) few_now
          ∙ ap (λ (i : ℕ). becomes n (decoded_in file.form part) ++ from i (drop (k + 1) (records file))) (sym q)

      pub going_room : {m : ℕ} → m ≡ clauses_after n (decoded_in file.form part) → next + length (bytes_in other (becomes n (decoded_in file.form part))) ≤ length output
      going_room {m} q = reached_room other (from 0 (records file)) before room G.reached (becomes n (decoded_in file.form part)) (from m (drop (k + 1) (records file))) (split q)

      pub going_more : {output' : List ℕ} {next' m : ℕ} → Placed other (becomes n (decoded_in file.form part)) output next output' next' → m ≡ clauses_after n (decoded_in file.form part) → Going file other from before output' next' m (k + 1)
      going_more {output'} {next'} {m} P q = record {
        inside = omega arith;
        few = omega (arith, q, few_clauses n (is_clause (decoded_in file.form part)), G.few);
        reached = reached_more other (from 0 (records file)) before room G.reached (becomes n (decoded_in file.form part)) (from m (drop (k + 1) (records file))) (split q) P;
      }

    pub going_end : record_count file ≤ k → Written (bytes_in other (from 0 (records file))) before output next
    going_end h = reached_end other (from 0 (records file)) before room G.reached (ap (from n) (none_left file k h) ∙ B.on_none n)
