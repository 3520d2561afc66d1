-- The answer to a merge is the one that its conditions ask for, and what is written is the merged file.
use mathlib.Core.Path.{◌≡◌, refl, sym, ap, ◌∙◌, subst}
use mathlib.Core.Logic.{inl, inr}
use mathlib.Core.Bool.{Bool, true, false}
use mathlib.Core.Option.{Option, none, some}
use mathlib.Core.List.{List, [], ◌∷◌}
use Prim.Native.Nat.{ℕ, suc, ◌*◌, ◌≤◌, ◌<◌}
use native.Mathlib.Omega.{arith}
use lib.Dec.{ltb, ltb→lt, lt→ltb}
use lib.ListN.{length, get_or}
use Rattle.record.specs.Record.{old_file, records}
use Rattle.record.specs.declared.Form.TheVariants.{Old}
use Rattle.record.proofs.Bytes.{file_length}
use Rattle.record.specs.Sorts.{is_step}
use Rattle.unification.proofs.Tests.{to_t, from_t}
use Rattle.verdict.specs.Refusal.{Reason, reason_number}
use Rattle.verdict.specs.State.{State}
use Rattle.verdict.specs.Tables.{Tables, lengths_of, tables_after}
use Rattle.verdict.specs.Verdict.{Verdict, accepted, open', refusal, check, Stands}
use Rattle.demands.proofs.Demanded.{not_refused_lem}
use Rattle.demands.proofs.Inversions.{not_below}
use Rattle.demands.proofs.RangeTests.{not_true}
use Rattle.writing.specs.Writing.{Writing, written, refused_with, unless_refused, output_left, WrittenAt}
use Rattle.writing.proofs.Written.{same_refused, written_not_refused, same_written, written_at, refused_kept}
use Rattle.merging.specs.Answer.{first_where, symbol_list, first_other, room_for, symbols_compared, after_checks, merge_answer, tables_unless_refused, tables_left}
use Rattle.merging.specs.Merging.{merged, merged_file}
use Rattle.merging.specs.Promised.{Condition, short_output, first_refused, second_refused, step_in_first, step_in_second, other_symbols, too_many_records, Merged, MergePromised}
use Rattle.merging.proofs.MergedShown.{merged_shown}
use Rattle.merging.proofs.Searches.{step_found, step_searched, other_there_lem, other_searched, neither_begins_lem, some_other}

module _ (first second : List ℕ) (tables : Tables) (room : ℕ) where
  -- The refusal that the condition at a place gives, or nothing of the kind.
  abbrev nothing : Writing
  nothing = written 0

  abbrev where_step : ℕ → List ℕ → Writing
  where_step file bytes = elim (first_where is_step 0 (records (old_file bytes))) [ some k ↦ refused_with 17 file k | none ↦ nothing ]

  abbrev places : List Writing
  places =
      (elim (ltb room 65536) [ true ↦ refused_with 2 0 0 | false ↦ nothing ])
      ∷ unless_refused 1 (check 0 (old_file first) (lengths_of tables)).verdict nothing
      ∷ unless_refused 2 (check 0 (old_file second) (lengths_of (tables_after (old_file first) tables))).verdict nothing
      ∷ where_step 1 first
      ∷ where_step 2 second
      ∷ (elim (first_other (symbol_list (records (old_file first))) 0 (records (old_file second))) [ some k ↦ refused_with 18 2 k | none ↦ nothing ])
      ∷ (elim (ltb 4096 (length (merged (records (old_file first)) (records (old_file second))))) [ true ↦ refused_with 19 0 0 | false ↦ nothing ])
      ∷ []

  abbrev given : ℕ → Writing
  given place = get_or places place nothing

  gives : {place number file k : ℕ} → Condition first second tables room place number file k → given place ≡ refused_with number file k
  gives (short_output l) = ap (λ (b : Bool). elim b [ true ↦ refused_with 2 0 0 | false ↦ nothing ]) (from_t (ltb room 65536) (lt→ltb room 65536 l))
  gives (first_refused q) = ap (λ (v : Verdict). unless_refused 1 v nothing) q
  gives (second_refused q) = ap (λ (v : Verdict). unless_refused 2 v nothing) q
  gives (step_in_first {k} F) = ap (λ (o : Option ℕ). elim o [ some j ↦ refused_with 17 1 j | none ↦ nothing ]) (step_searched first k F)
  gives (step_in_second {k} F) = ap (λ (o : Option ℕ). elim o [ some j ↦ refused_with 17 2 j | none ↦ nothing ]) (step_searched second k F)
  gives (other_symbols {k} F) = ap (λ (o : Option ℕ). elim o [ some j ↦ refused_with 18 2 j | none ↦ nothing ]) (other_searched first second k F)
  gives (too_many_records l) = ap (λ (b : Bool). elim b [ true ↦ refused_with 19 0 0 | false ↦ nothing ]) (from_t (ltb 4096 (length (merged (records (old_file first)) (records (old_file second))))) (lt→ltb 4096 (length (merged (records (old_file first)) (records (old_file second)))) l))

  seven_places : {place number file k : ℕ} → Condition first second tables room place number file k → place < 7
  seven_places (short_output l) = omega arith
  seven_places (first_refused q) = omega arith
  seven_places (second_refused q) = omega arith
  seven_places (step_in_first F) = omega arith
  seven_places (step_in_second F) = omega arith
  seven_places (other_symbols F) = omega arith
  seven_places (too_many_records l) = omega arith

  -- No condition before a place holds.
  abbrev From : ℕ → Type 0
  From place = (p n f j : ℕ) → Condition first second tables room p n f j → place ≤ p

  past : (place : ℕ) → From place → given place ≡ nothing → From (suc place)
  past place h e p n f j c = try (ltb place p) refl
    where
      try : (b : Bool) → ltb place p ≡ b → suc place ≤ p
      try true q = ltb→lt place p (to_t (ltb place p) q)
      try false q =
          let l = h p n f j c in
          let m = not_below place p q in
          let z : p ≡ place = omega arith in
          absurd (written_not_refused (sym e ∙ ap given (sym z) ∙ gives c))

  -- What the merge has come to: the first condition that holds, or none.
  data Outcome : Writing → Type 0 where
    refused_at : {place number file k : ℕ} → Condition first second tables room place number file k → ((p n f j : ℕ) → Condition first second tables room p n f j → place ≤ p)
        → Outcome (refused_with number file k)
    none_holds : ((p n f j : ℕ) → ¬ Condition first second tables room p n f j) → Outcome (written (16 * length (merged (records (old_file first)) (records (old_file second)))))

  room_outcome : From 6 → Outcome (room_for (merged (records (old_file first)) (records (old_file second))))
  room_outcome h = try (ltb 4096 (length (merged (records (old_file first)) (records (old_file second))))) refl
    where
      try : (b : Bool) → ltb 4096 (length (merged (records (old_file first)) (records (old_file second)))) ≡ b → Outcome (elim b [ true ↦ refused_with 19 0 0 | false ↦ written (16 * length (merged (records (old_file first)) (records (old_file second)))) ])
      try true q = refused_at (too_many_records (ltb→lt 4096 (length (merged (records (old_file first)) (records (old_file second)))) (to_t (ltb 4096 (length (merged (records (old_file first)) (records (old_file second))))) q))) h
      try false q = none_holds (λ p n f j c. let l = past 6 h (ap (λ (b : Bool). elim b [ true ↦ refused_with 19 0 0 | false ↦ nothing ]) q) p n f j c in let m = seven_places c in omega arith)

  symbols_outcome : From 5 → Outcome (symbols_compared (records (old_file first)) (records (old_file second)))
  symbols_outcome h = try (first_other (symbol_list (records (old_file first))) 0 (records (old_file second))) refl
    where
      try : (o : Option ℕ) → first_other (symbol_list (records (old_file first))) 0 (records (old_file second)) ≡ o → Outcome (elim o [ some k ↦ refused_with 18 2 k | none ↦ room_for (merged (records (old_file first)) (records (old_file second))) ])
      try (some k) q = refused_at (other_symbols (other_there_lem first second k q)) h
      try none q = room_outcome (past 5 h (ap (λ (o : Option ℕ). elim o [ some k ↦ refused_with 18 2 k | none ↦ nothing ]) q))

  second_outcome : From 4 → Outcome (elim (first_where is_step 0 (records (old_file second))) [ some k ↦ refused_with 17 2 k | none ↦ symbols_compared (records (old_file first)) (records (old_file second)) ])
  second_outcome h = try (first_where is_step 0 (records (old_file second))) refl
    where
      try : (o : Option ℕ) → first_where is_step 0 (records (old_file second)) ≡ o → Outcome (elim o [ some k ↦ refused_with 17 2 k | none ↦ symbols_compared (records (old_file first)) (records (old_file second)) ])
      try (some k) q = refused_at (step_in_second (step_found second k q)) h
      try none q = symbols_outcome (past 4 h (ap (λ (o : Option ℕ). elim o [ some k ↦ refused_with 17 2 k | none ↦ nothing ]) q))

  checked_outcome : From 3 → Outcome (after_checks (records (old_file first)) (records (old_file second)))
  checked_outcome h = try (first_where is_step 0 (records (old_file first))) refl
    where
      try : (o : Option ℕ) → first_where is_step 0 (records (old_file first)) ≡ o
          → Outcome (elim o [ some k ↦ refused_with 17 1 k | none ↦ elim (first_where is_step 0 (records (old_file second))) [ some k ↦ refused_with 17 2 k | none ↦ symbols_compared (records (old_file first)) (records (old_file second)) ] ])
      try (some k) q = refused_at (step_in_first (step_found first k q)) h
      try none q = second_outcome (past 3 h (ap (λ (o : Option ℕ). elim o [ some k ↦ refused_with 17 1 k | none ↦ nothing ]) q))

  verdict_outcome : From 2 → Outcome (unless_refused 2 (check 0 (old_file second) (lengths_of (tables_after (old_file first) tables))).verdict (after_checks (records (old_file first)) (records (old_file second))))
  verdict_outcome h = try (check 0 (old_file second) (lengths_of (tables_after (old_file first) tables))).verdict refl
    where
      try : (v : Verdict) → (check 0 (old_file second) (lengths_of (tables_after (old_file first) tables))).verdict ≡ v → Outcome (unless_refused 2 v (after_checks (records (old_file first)) (records (old_file second))))
      try (refusal reason k) q = refused_at (second_refused q) h
      try (accepted n) q = checked_outcome (past 2 h (ap (λ (v : Verdict). unless_refused 2 v nothing) q))
      try open' q = checked_outcome (past 2 h (ap (λ (v : Verdict). unless_refused 2 v nothing) q))

  first_outcome : From 1 → Outcome (unless_refused 1 (check 0 (old_file first) (lengths_of tables)).verdict (unless_refused 2 (check 0 (old_file second) (lengths_of (tables_after (old_file first) tables))).verdict (after_checks (records (old_file first)) (records (old_file second)))))
  first_outcome h = try (check 0 (old_file first) (lengths_of tables)).verdict refl
    where
      try : (v : Verdict) → (check 0 (old_file first) (lengths_of tables)).verdict ≡ v → Outcome (unless_refused 1 v (unless_refused 2 (check 0 (old_file second) (lengths_of (tables_after (old_file first) tables))).verdict (after_checks (records (old_file first)) (records (old_file second)))))
      try (refusal reason k) q = refused_at (first_refused q) h
      try (accepted n) q = verdict_outcome (past 1 h (ap (λ (v : Verdict). unless_refused 1 v nothing) q))
      try open' q = verdict_outcome (past 1 h (ap (λ (v : Verdict). unless_refused 1 v nothing) q))

  outcome : Outcome (merge_answer first second tables room)
  unfolding merge_answer
  outcome = try (ltb room 65536) refl
    where
      start : From 0
      start p n f j c = omega arith

      try : (b : Bool) → ltb room 65536 ≡ b
          → Outcome (elim b [ true ↦ refused_with 2 0 0 | false ↦ unless_refused 1 (check 0 (old_file first) (lengths_of tables)).verdict (unless_refused 2 (check 0 (old_file second) (lengths_of (tables_after (old_file first) tables))).verdict (after_checks (records (old_file first)) (records (old_file second)))) ])
      try true q = refused_at (short_output (ltb→lt room 65536 (to_t (ltb room 65536) q))) start
      try false q = first_outcome (past 0 start (ap (λ (b : Bool). elim b [ true ↦ refused_with 2 0 0 | false ↦ nothing ]) q))

  -- ── What is promised ──
  refused_only_lem : (number file k : ℕ) (m : Writing) → Outcome m → m ≡ refused_with number file k → (place : ℕ) × Condition first second tables room place number file k × ((p n f j : ℕ) → Condition first second tables room p n f j → place ≤ p)
  refused_only_lem number file k m (refused_at {place} {number = n} {file = f} {k = j} c least) e =
      let s = same_refused e in
      (place, subst (λ (x : ℕ). Condition first second tables room place x file k) s.0 (subst (λ (x : ℕ). Condition first second tables room place n x k) s.1 (subst (λ (x : ℕ). Condition first second tables room place n f x) s.2 c)), least)
  refused_only_lem number file k m (none_holds h) e = absurd (written_not_refused e)

  refused_if_lem : (place number file k : ℕ) (m : Writing) → Outcome m → Condition first second tables room place number file k → ((p n f j : ℕ) → Condition first second tables room p n f j → place ≤ p) → m ≡ refused_with number file k
  refused_if_lem place number file k m (refused_at {place = q} {number = n} {file = f} {k = j} c least) d h =
      let a = h q n f j c in
      let b = least place number file k d in
      let e : q ≡ place = omega arith in
      sym (gives c) ∙ ap given e ∙ gives d
  refused_if_lem place number file k m (none_holds h) d l = absurd (h place number file k d)

  written_only_lem : (n : ℕ) (m : Writing) → Outcome m → m ≡ written n → (n ≡ length (merged_file first second)) × ((p x f j : ℕ) → ¬ Condition first second tables room p x f j)
  unfolding merged_file
  written_only_lem n m (refused_at c least) e = absurd (written_not_refused (sym e))
  written_only_lem n m (none_holds h) e = (sym (same_written e) ∙ sym (file_length Old (merged (records (old_file first)) (records (old_file second)))), h)

  written_if_lem : (m : Writing) → Outcome m → ((p n f j : ℕ) → ¬ Condition first second tables room p n f j) → m ≡ written (length (merged_file first second))
  unfolding merged_file
  written_if_lem m (refused_at {place} {number} {file} {k} c least) h = absurd (h place number file k c)
  written_if_lem m (none_holds g) h = ap written (sym (file_length Old (merged (records (old_file first)) (records (old_file second)))))

  -- Where no condition holds, both files stand, without steps and with symbols that agree, and there is room.
  module _ (h : (p n f j : ℕ) → ¬ Condition first second tables room p n f j) where
    no_first : first_where is_step 0 (records (old_file first)) ≡ none
    no_first = try (first_where is_step 0 (records (old_file first))) refl
      where
        try : (o : Option ℕ) → first_where is_step 0 (records (old_file first)) ≡ o → o ≡ none
        try none q = refl
        try (some k) q = absurd (h 3 17 1 k (step_in_first (step_found first k q)))

    no_second : first_where is_step 0 (records (old_file second)) ≡ none
    no_second = try (first_where is_step 0 (records (old_file second))) refl
      where
        try : (o : Option ℕ) → first_where is_step 0 (records (old_file second)) ≡ o → o ≡ none
        try none q = refl
        try (some k) q = absurd (h 4 17 2 k (step_in_second (step_found second k q)))

    none_other : first_other (symbol_list (records (old_file first))) 0 (records (old_file second)) ≡ none
    none_other = try (first_other (symbol_list (records (old_file first))) 0 (records (old_file second))) refl
      where
        try : (o : Option ℕ) → first_other (symbol_list (records (old_file first))) 0 (records (old_file second)) ≡ o → o ≡ none
        try none q = refl
        try (some k) q = absurd (h 5 18 2 k (other_symbols (other_there_lem first second k q)))

    has_room : length (merged (records (old_file first)) (records (old_file second))) ≤ 4096
    has_room = try (ltb 4096 (length (merged (records (old_file first)) (records (old_file second))))) refl
      where
        try : (b : Bool) → ltb 4096 (length (merged (records (old_file first)) (records (old_file second)))) ≡ b → length (merged (records (old_file first)) (records (old_file second))) ≤ 4096
        try true q = absurd (h 6 19 0 0 (too_many_records (ltb→lt 4096 (length (merged (records (old_file first)) (records (old_file second)))) (to_t (ltb 4096 (length (merged (records (old_file first)) (records (old_file second))))) q))))
        try false q = not_below 4096 (length (merged (records (old_file first)) (records (old_file second)))) q

    pub all_merged : (S : State) × (T : State) × (M : State) × Stands (old_file first) S × Stands (old_file second) T × Merged first second S T M
    all_merged =
        let A = (not_refused_lem 0 (old_file first) tables (λ q k e. h 1 (reason_number q) 1 k (first_refused e))).1 in
        let B = (not_refused_lem 0 (old_file second) (tables_after (old_file first) tables) (λ q k e. h 2 (reason_number q) 2 k (second_refused e))).1 in
        let G = merged_shown first second A.0 B.0 A.1 B.1 no_first no_second none_other has_room in
        (A.0, B.0, G.0, A.1, B.1, G.1)

  -- What is left in the output and in the tables.
  written_output : (n : ℕ) → merge_answer first second tables room ≡ written n → (output : List ℕ) → length output ≡ room
      → WrittenAt (merged_file first second) output (output_left (merge_answer first second tables room) (merged_file first second) output)
  unfolding merged_file
  written_output n e output l =
      let w = written_only_lem n (merge_answer first second tables room) outcome e in
      let f = file_length Old (merged (records (old_file first)) (records (old_file second))) in
      let h = has_room w.1 in
      let r : ¬ (room < 65536) = λ s. w.1 0 2 0 0 (short_output s) in
      written_at (merged_file first second) output (merge_answer first second tables room) n e w.0 (omega (arith, f, h, r, l))

  tables_by : (b : Bool) → ltb room 65536 ≡ b
      → tables_left first second tables room ≡ elim b [ true ↦ tables | false ↦ tables_unless_refused (check 0 (old_file first) (lengths_of tables)).verdict (tables_after (old_file first) tables) (tables_after (old_file second) (tables_after (old_file first) tables)) ]
  unfolding tables_left
  tables_by b q = ap (λ (x : Bool). elim x [ true ↦ tables | false ↦ tables_unless_refused (check 0 (old_file first) (lengths_of tables)).verdict (tables_after (old_file first) tables) (tables_after (old_file second) (tables_after (old_file first) tables)) ]) q

  not_short : ¬ (room < 65536) → ltb room 65536 ≡ false
  not_short h = not_true (ltb room 65536) (λ t. h (ltb→lt room 65536 (to_t (ltb room 65536) t)))

  stands_tables : (v : Verdict) (here next : Tables) → ((reason : Reason) (k : ℕ) → ¬ (v ≡ refusal reason k)) → tables_unless_refused v here next ≡ next
  stands_tables (accepted n) here next h = refl
  stands_tables open' here next h = refl
  stands_tables (refusal reason k) here next h = absurd (h reason k refl)

  pub merge_promised : MergePromised first second tables room
  merge_promised = record {
    refused_only = λ number file k e. refused_only_lem number file k (merge_answer first second tables room) outcome e;
    refused_if = λ place number file k c least. refused_if_lem place number file k (merge_answer first second tables room) outcome c least;
    written_only = λ n e. written_only_lem n (merge_answer first second tables room) outcome e;
    written_if = λ h. written_if_lem (merge_answer first second tables room) outcome h;
    output_written = written_output;
    output_kept = λ number file k e output. refused_kept (merged_file first second) output (merge_answer first second tables room) number file k e;
    tables_kept = λ l. tables_by true (from_t (ltb room 65536) (lt→ltb room 65536 l));
    tables_of_first = λ h reason k e. tables_by false (not_short h) ∙ ap (λ (v : Verdict). tables_unless_refused v (tables_after (old_file first) tables) (tables_after (old_file second) (tables_after (old_file first) tables))) e;
    tables_of_second = λ h n. tables_by false (not_short h) ∙ stands_tables (check 0 (old_file first) (lengths_of tables)).verdict (tables_after (old_file first) tables) (tables_after (old_file second) (tables_after (old_file first) tables)) n;
    neither_begins = λ k O. (λ b. neither_begins_lem first second k O (inl b), λ b. neither_begins_lem first second k O (inr b));
    other_there = λ a b. some_other first second a b;
    written = λ n e. all_merged (written_only_lem n (merge_answer first second tables room) outcome e).1;
  }
