-- The whole check: its two tests before the first record, the tables cleared, and the answer of what was read.
use mathlib.Core.Path.{◌≡◌, refl, sym, ap, ap₂, ◌∙◌, subst}
use mathlib.Core.Bool.{Bool, true, false, ◌&&◌}
use mathlib.Core.Option.{Option, none, some}
use mathlib.Core.List.{List, [], ◌∷◌, ◌++◌, map, append_assoc}
use Prim.Native.Nat.{ℕ, suc, ◌+◌, ◌-◌}
use native.Mathlib.Omega.{arith}
use lib.Dec.{eqb}
use lib.ListN.{length, get_or, drop, replicate, length-map}
use lib.Seq.{get_or-append-add}
use borrow.Author.Tests.{ne_eqb}
use Rattle.record.specs.Record.{pick, File}
use Rattle.derivation.specs.Derivation.{literals, Derivation}
use Rattle.derivation.specs.Stored.{origin_table_of, literals_cell}
use Rattle.answer.specs.Given.{answer_given, numbers_with, accepts, first_accepted, standing_numbers, all_set, Ended, ended_numbers}
use Rattle.tables.specs.Cells.{cleared_part}
use Rattle.entry.specs.Progress.{node_table_of, counts_of, ReadTo, tables_with}
use Rattle.reading.specs.Reader.{Begun, EndsAs, EndedWith, Readable, FileRead, FileReadWith}
use Rattle.verdict.specs.Refusal.{reason_number}
use Rattle.verdict.specs.Force.{uses_in_force}
use Rattle.verdict.specs.State.{State, entry, clause_of}
use Rattle.verdict.specs.Step.{Ending, all_stand, refused_at, state_of}
use Rattle.verdict.specs.Tables.{Tables, cells_of_clause, clause_cells, filled_tables, bindings_of}
use Rattle.verdict.specs.Verdict.{verdict_numbers, answer_numbers, is_empty, first_empty, standing, verdict_of, answer_of, ending}
use Rattle.demands.proofs.Acceptance.{cells_length}
use Rattle.demands.proofs.Inversions.{entry_more, entry_new}
use Rattle.force.specs.Flags.{flags_in_force}
use Rattle.file_reading.proofs.KeptFlags.{kept_flag}
use Rattle.entry.proofs.Kept.{Sizes, sizes}
use Rattle.entry.specs.declared.entry.Counts.{Counts}
use Rattle.std.specs.Prelude.{Ok, Err}
use Rattle.reasons.specs.Reasons.{meant}
use Rattle.answer.specs.declared.Refused.{Refused}
use Rattle.answer.specs.declared.Answer.{Answer}

-- Before the first record.
module _ {F : File} {s r C B : List ℕ} (R : Readable F (tables_with s r C B)) where
  pub table_sizes : Sizes (tables_with s r C B)
  table_sizes = sizes (tables_with s r C B) R.long

  module _ {s' r' C' B' A : List ℕ} (ps : s' ≡ cleared_part 0 4096 s) (pr : r' ≡ cleared_part 0 4096 r) (pc : C' ≡ cleared_part 0 20480 C) (pb : B' ≡ cleared_part 0 32768 B) (pa : length A ≡ 524416) where
    unfoldable pub begun : (N O : List ℕ) → N ≡ node_table_of [] → O ≡ origin_table_of [] → Begun F (tables_with s' r' C' B') N O A
    begun N O no_row no_clause = record {
      tables_before = tables_with s r C B;
      fit = R.fit;
      long = R.long;
      cleared = λ i. record { symbols = ps i; rows = pr i; clauses = pc i; bindings = pb i };
      nodes = no_row;
      origins = no_clause;
      values = pa;
    }

-- The first clause without literals, by the table's cells.
empty_length : {A : Type 0} (xs : List A) → eqb (length xs) 0 ≡ is_empty xs
empty_length [] = refl
empty_length (x ∷ xs) = ne_eqb (suc (length xs)) 0 (λ q. omega arith)

flag_one : (b : Bool) → eqb (pick b 1 0) 1 ≡ b
flag_one true = refl
flag_one false = refl

first_accepted_lem : (test : Derivation → Bool) (cs : List (ℕ × Derivation)) (rest L : List ℕ) → ((n : ℕ) (d : Derivation) → entry (map (λ (c : ℕ × Derivation). c.1) cs) n ≡ some d → get_or L n 0 ≡ pick (test d) 1 0)
    → first_accepted (clause_cells cs ++ rest) L (length cs) ≡ first_empty test (map (λ (c : ℕ × Derivation). c.1) cs)
first_accepted_lem test [] rest L flags = refl
first_accepted_lem test (c ∷ cs) rest L flags =
    ap (λ (x : List ℕ). first_accepted x L (suc (length cs))) (append_assoc front five rest)
    ∙ ap₂ (λ (o : Option ℕ) (b : Bool). elim o [ some m ↦ some m | none ↦ pick b (some (length cs)) none ]) (first_accepted_lem test cs (five ++ rest) L (λ n d q. flags n d (entry_more c.1 ds n d q))) accepted
    ∙ ap (λ (n : ℕ). elim (first_empty test ds) [ some m ↦ some m | none ↦ pick (test c.1 && is_empty (literals c.1)) (some n) none ]) (sym counted)
  where
    front : List ℕ
    front = clause_cells cs

    ds : List Derivation
    ds = map (λ (d : ℕ × Derivation). d.1) cs

    counted : length (map (λ (d : ℕ × Derivation). d.1) cs) ≡ length cs
    counted = length-map cs (λ (d : ℕ × Derivation). d.1)

    five : List ℕ
    five = cells_of_clause c.0 (bindings_of (map (λ (d : ℕ × Derivation). d.1) cs)) c.1

    cell : literals_cell (clause_cells cs ++ (cells_of_clause c.0 (bindings_of (map (λ (d : ℕ × Derivation). d.1) cs)) c.1 ++ rest)) (length cs) ≡ length (literals c.1)
    cell =
        ap (λ (n : ℕ). get_or (clause_cells cs ++ (five ++ rest)) (n + 1) 0) (sym (cells_length cs))
        ∙ get_or-append-add (clause_cells cs) (five ++ rest) 1 0

    flag : get_or L (length cs) 0 ≡ pick (test c.1) 1 0
    flag = flags (length cs) c.1 (ap (entry (c.1 ∷ ds)) (sym counted) ∙ entry_new c.1 ds)

    accepted : accepts (clause_cells cs ++ (five ++ rest)) L (length cs) ≡ (test c.1 && is_empty (literals c.1))
    accepted = ap₂ ◌&&◌ (ap (λ (x : ℕ). eqb x 1) flag ∙ flag_one (test c.1)) (ap (λ (n : ℕ). eqb n 0) cell ∙ empty_length (literals c.1))

-- What was read, in numbers.
abbrev whole_answer : ℕ → Ending → List ℕ
whole_answer day e = answer_numbers (answer_of (verdict_of day e) (state_of e))

module _ (day : ℕ) (F : File) (t : Tables) (here : Tables) (a : Answer) where
  -- The flags that the program works out, off what it keeps of the state.
  flags_kept : (S : State) (N O A : List ℕ) → ReadTo F t S here N O A → ending F ≡ all_stand S → (n : ℕ) (d : Derivation) → clause_of S n ≡ some d → get_or (flags_in_force day F O (length S.clauses) all_set) n 0 ≡ pick (uses_in_force S day d) 1 0
  unfolding all_set
  flags_kept S N O A X q n d p =
      kept_flag day F t S here N O A X (record { fits = X.kept.fit; reads = q }) n d p

  all_read_numbers : (n : Counts) (S : State) (N O A : List ℕ) → n ≡ counts_of S → ending F ≡ all_stand S → ReadTo F t S here N O A → answer_given a ≡ ended_numbers day F (Ok n) here.clauses O → FileRead day F t a here
  all_read_numbers n S N O A c q X p = record {
    numbers = p ∙ ap₂ (λ (x : List ℕ) (m : Counts). numbers_with (standing_numbers x (flags_in_force day F O m.clauses all_set) m.clauses) m) (ap (λ (x : Tables). x.clauses) X.kept.tables) c
        ∙ ap (λ (o : Option ℕ). numbers_with (verdict_numbers (standing o)) (counts_of S)) (first_accepted_lem (uses_in_force S day) S.clauses (replicate (20480 - length (clause_cells S.clauses)) 0 ++ drop 20480 t.clauses) (flags_in_force day F O (length S.clauses) all_set) (flags_kept S N O A X q))
        ∙ sym (ap (whole_answer day) q);
    tables = X.kept.tables ∙ ap (λ (x : Ending). filled_tables (state_of x) t) (sym q);
  }

  refused_read_numbers : (r : Refused) (S : State) → r.counts ≡ counts_of S → ending F ≡ refused_at S (meant r.reason) r.number → here ≡ filled_tables S t → (O : List ℕ) → answer_given a ≡ ended_numbers day F (Err r) here.clauses O → FileRead day F t a here
  refused_read_numbers r S c q h O p = record {
    numbers = p ∙ ap (λ (m : Counts). numbers_with (2 ∷ reason_number (meant r.reason) ∷ r.number ∷ []) m) c ∙ sym (ap (whole_answer day) q);
    tables = h ∙ ap (λ (x : Ending). filled_tables (state_of x) t) (sym q);
  }

  file_read : (e : Ended) (N O A : List ℕ) → EndedWith F t e here N O A → answer_given a ≡ ended_numbers day F e here.clauses O → FileRead day F t a here
  file_read (Ok n) N O A X p = all_read_numbers n X.state N O A X.ended.0 X.ended.1 X.left p
  file_read (Err r) N O A X p = refused_read_numbers r X.state X.ended.0 X.ended.1 X.left.kept.tables O p

  -- The state that reading ended with is the definition's.
  ended_state : (e : Ended) (S : State) → EndsAs F S e → S ≡ state_of (ending F)
  ended_state (Ok n) S q = sym (ap state_of q.1)
  ended_state (Err r) S q = sym (ap state_of q.1)

  pub file_read_with : (e : Ended) (N O A : List ℕ) → EndedWith F t e here N O A → answer_given a ≡ ended_numbers day F e here.clauses O → FileReadWith day F t a here N O A
  file_read_with e N O A X p = record { file = file_read e N O A X p; left = subst (λ (S : State). ReadTo F t S here N O A) (ended_state e X.state X.ended) X.left }
