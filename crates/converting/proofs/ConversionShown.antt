-- The answer to a conversion is the one that its conditions ask for, and what is written is the converted file.
use mathlib.Core.Path.{◌≡◌, refl, sym, ap, ◌∙◌, subst}
use mathlib.Core.Bool.{Bool, true, false}
use mathlib.Core.Option.{Option, none, some}
use mathlib.Core.List.{List, [], ◌∷◌}
use Prim.Native.Nat.{ℕ, suc, ◌*◌, ◌≤◌, ◌<◌}
use native.Mathlib.Omega.{arith}
use lib.Dec.{ltb, ltb→lt, lt→ltb, nltb→le}
use lib.ListN.{length, get_or}
use Rattle.record.specs.Record.{File, record_length}
use Rattle.record.specs.declared.Form.{Form}
use Rattle.record.specs.declared.Form.TheVariants.{Old, New}
use Rattle.unification.proofs.Tests.{to_t, from_t}
use Rattle.verdict.specs.Refusal.{Reason, reason_number}
use Rattle.verdict.specs.State.{State, derivations}
use Rattle.verdict.specs.Step.{Ending, all_stand, refused_at}
use Rattle.verdict.specs.Tables.{Tables, lengths_of, tables_after}
use Rattle.verdict.specs.Verdict.{Verdict, accepted, open', refusal, Lengths, standing, first_empty, Reading, untouched, read_to, reading, verdict_given, long_enough, fitting, ending, check, Stands}
use Rattle.verdict.specs.Force.{uses_in_force}
use Rattle.verdict.proofs.Endings.{reading_length, reading_tables, reading_records}
use Rattle.writing.specs.Writing.{Writing, written, refused_with, unless_refused, output_left, WrittenAt}
use Rattle.writing.proofs.Written.{same_refused, written_not_refused, same_written, written_at, refused_kept}
use Rattle.converting.specs.Answer.{room_for, conversion_answer, tables_left}
use Rattle.converting.specs.Converting.{other_form, most_records, converted, converted_file}
use Rattle.converting.specs.Promised.{Condition, short_output, file_refused, too_many_new, too_many_old, SameContents, ConversionPromised}
use Rattle.converting.proofs.ConvertedBytes.{converted_bytes}
use Rattle.converting.proofs.ConvertedStands.{converted_length, converted_stands, new_counted, old_counted}
use Rattle.converting.proofs.Days.{SameDays}
use Rattle.converting.proofs.KindsDated.{not_true}
use Rattle.converting.proofs.RoundTrip.{new_again_lem}
use Rattle.converting.proofs.SameAnswers.{same_answer_lem, same_cells_lem}
use Rattle.converting.proofs.WindowsPlaced.{windows_placed_lem}

-- ── The check ──

-- A file that the check does not refuse stands.
pub not_refused_lem : (file : File) (n : Lengths) → ((reason : Reason) (k : ℕ) → ¬ ((check 0 file n).verdict ≡ refusal reason k)) → (S : State) × Stands file S
unfolding check
not_refused_lem file n h = fits (fitting file) refl
  where
    read_to_lem : fitting file ≡ true → reading file n ≡ read_to (ending file) → (e : Ending) → ending file ≡ e → (S : State) × Stands file S
    read_to_lem f p (all_stand S) q = (S, record { fits = f; reads = q })
    read_to_lem f p (refused_at S reason k) q = absurd (h reason k (ap (verdict_given 0) (p ∙ ap read_to q)))

    long : fitting file ≡ true → (b : Bool) → long_enough n ≡ b → (S : State) × Stands file S
    long f true l = read_to_lem f (reading_records file n f l) (ending file) refl
    long f false l = absurd (h _ 0 (ap (verdict_given 0) (reading_tables file n f l)))

    fits : (b : Bool) → fitting file ≡ b → (S : State) × Stands file S
    fits true f = long f (long_enough n) refl
    fits false f = absurd (h _ 0 (ap (verdict_given 0) (reading_length file n f)))

open_not_refused : {reason : Reason} {k : ℕ} → open' ≡ refusal reason k → ⊥
open_not_refused e = let z : ◌≡◌ {A = ℕ} 0 1 = cc in omega arith

accepted_not_refused : {n k : ℕ} {reason : Reason} → accepted n ≡ refusal reason k → ⊥
accepted_not_refused e = let z : ◌≡◌ {A = ℕ} 0 1 = cc in omega arith

standing_not_refused : (o : Option ℕ) (reason : Reason) (k : ℕ) → standing o ≡ refusal reason k → ⊥
standing_not_refused none reason k e = open_not_refused e
standing_not_refused (some n) reason k e = accepted_not_refused e

-- A refusal does not look at the day.
pub any_day : (file : File) (n : Lengths) (day other : ℕ) (reason : Reason) (k : ℕ) → (check day file n).verdict ≡ refusal reason k → (check other file n).verdict ≡ refusal reason k
unfolding check
any_day file n day other reason k = try (reading file n)
  where
    try : (e : Reading) → verdict_given day e ≡ refusal reason k → verdict_given other e ≡ refusal reason k
    try (untouched x) q = q
    try (read_to (all_stand S)) q = absurd (standing_not_refused (first_empty (uses_in_force S day) (derivations S)) reason k q)
    try (read_to (refused_at S x j)) q = q

-- ── The answer ──
same_contents : (S T : State) → SameDays S T → SameContents S T
same_contents S T D = record { symbols = D.alike.same_arities; rows = D.alike.same_rows; clauses = D.alike.same_clauses; days = D.days }

contents_again : (S T U : State) → SameContents S T → SameContents T U → SameContents S U
contents_again S T U a b = record { symbols = a.symbols ∙ b.symbols; rows = a.rows ∙ b.rows; clauses = a.clauses ∙ b.clauses; days = λ n. a.days n ∙ b.days n }

module _ (file : File) (tables : Tables) (room : ℕ) where
  -- The refusal that the condition at a place gives, or nothing of the kind.
  abbrev nothing : Writing
  nothing = written 0

  abbrev most : ℕ
  most = most_records (other_form file.form)

  abbrev places : List Writing
  places =
      (elim (ltb room 65536) [ true ↦ refused_with 2 0 0 | false ↦ nothing ])
      ∷ unless_refused 1 (check 0 file (lengths_of tables)).verdict nothing
      ∷ (elim (ltb most (length (converted file))) [ true ↦ refused_with 22 0 0 | false ↦ nothing ])
      ∷ []

  abbrev given : ℕ → Writing
  given place = get_or places place nothing

  -- 22, by the form of the file.
  too_many_lem : most_records (other_form file.form) < length (converted file) → given 2 ≡ refused_with 22 0 0
  too_many_lem l = ap (λ (b : Bool). elim b [ true ↦ refused_with 22 0 0 | false ↦ nothing ]) (from_t (ltb most (length (converted file))) (lt→ltb most (length (converted file)) l))

  by_form : ltb most (length (converted file)) ≡ true → Condition file tables room 2 22 0 0
  by_form q = by file.form refl (ltb→lt most (length (converted file)) (to_t (ltb most (length (converted file))) q))
    where
      by : (form : Form) → file.form ≡ form → most_records (other_form form) < length (converted file) → Condition file tables room 2 22 0 0
      by Old e l = too_many_new e l
      by New e l = too_many_old e l

  gives : {place number which k : ℕ} → Condition file tables room place number which k → given place ≡ refused_with number which k
  gives (short_output l) = ap (λ (b : Bool). elim b [ true ↦ refused_with 2 0 0 | false ↦ nothing ]) (from_t (ltb room 65536) (lt→ltb room 65536 l))
  gives (file_refused q) = ap (λ (v : Verdict). unless_refused 1 v nothing) q
  gives (too_many_new e l) = too_many_lem (subst (λ (x : Form). most_records (other_form x) < length (converted file)) (sym e) l)
  gives (too_many_old e l) = too_many_lem (subst (λ (x : Form). most_records (other_form x) < length (converted file)) (sym e) l)

  three_places : {place number which k : ℕ} → Condition file tables room place number which k → place < 3
  three_places (short_output l) = omega arith
  three_places (file_refused q) = omega arith
  three_places (too_many_new e l) = omega arith
  three_places (too_many_old e l) = omega arith

  -- No condition before a place holds.
  abbrev From : ℕ → Type 0
  From place = (p n f j : ℕ) → Condition file tables room p n f j → place ≤ p

  past : (place : ℕ) → From place → given place ≡ nothing → From (suc place)
  past place h e p n f j c = try (ltb place p) refl
    where
      try : (b : Bool) → ltb place p ≡ b → suc place ≤ p
      try true q = ltb→lt place p (to_t (ltb place p) q)
      try false q =
          let l = h p n f j c in
          let m = nltb→le place p (rw q tt) in
          let z : p ≡ place = omega arith in
          absurd (written_not_refused (sym e ∙ ap given (sym z) ∙ gives c))

  -- What the conversion has come to: the first condition that holds, or none.
  data Outcome : Writing → Type 0 where
    refused_by : {place number which k : ℕ} → Condition file tables room place number which k → ((p n f j : ℕ) → Condition file tables room p n f j → place ≤ p) → Outcome (refused_with number which k)
    none_holds : ((p n f j : ℕ) → ¬ Condition file tables room p n f j) → Outcome (written (record_length (other_form file.form) * length (converted file)))

  room_outcome : From 2 → Outcome (room_for file)
  room_outcome h = try (ltb most (length (converted file))) refl
    where
      try : (b : Bool) → ltb most (length (converted file)) ≡ b → Outcome (elim b [ true ↦ refused_with 22 0 0 | false ↦ written (record_length (other_form file.form) * length (converted file)) ])
      try true q = refused_by (by_form q) h
      try false q = none_holds (λ p n f j c. let l = past 2 h (ap (λ (b : Bool). elim b [ true ↦ refused_with 22 0 0 | false ↦ nothing ]) q) p n f j c in let m = three_places c in omega arith)

  verdict_outcome : From 1 → Outcome (unless_refused 1 (check 0 file (lengths_of tables)).verdict (room_for file))
  verdict_outcome h = try (check 0 file (lengths_of tables)).verdict refl
    where
      try : (v : Verdict) → (check 0 file (lengths_of tables)).verdict ≡ v → Outcome (unless_refused 1 v (room_for file))
      try (refusal reason k) q = refused_by (file_refused q) h
      try (accepted n) q = room_outcome (past 1 h (ap (λ (v : Verdict). unless_refused 1 v nothing) q))
      try open' q = room_outcome (past 1 h (ap (λ (v : Verdict). unless_refused 1 v nothing) q))

  outcome : Outcome (conversion_answer file tables room)
  unfolding conversion_answer
  outcome = try (ltb room 65536) refl
    where
      start : From 0
      start p n f j c = omega arith

      try : (b : Bool) → ltb room 65536 ≡ b → Outcome (elim b [ true ↦ refused_with 2 0 0 | false ↦ unless_refused 1 (check 0 file (lengths_of tables)).verdict (room_for file) ])
      try true q = refused_by (short_output (ltb→lt room 65536 (to_t (ltb room 65536) q))) start
      try false q = verdict_outcome (past 0 start (ap (λ (b : Bool). elim b [ true ↦ refused_with 2 0 0 | false ↦ nothing ]) q))

  refused_only_lem : (number which k : ℕ) (m : Writing) → Outcome m → m ≡ refused_with number which k
      → (place : ℕ) × Condition file tables room place number which k × ((p n f j : ℕ) → Condition file tables room p n f j → place ≤ p)
  refused_only_lem number which k m (refused_by {place} {number = n} {which = f} {k = j} c least) e =
      let s = same_refused e in
      (place, subst (λ (x : ℕ). Condition file tables room place x which k) s.0 (subst (λ (x : ℕ). Condition file tables room place n x k) s.1 (subst (λ (x : ℕ). Condition file tables room place n f x) s.2 c)), least)
  refused_only_lem number which k m (none_holds h) e = absurd (written_not_refused e)

  refused_if_lem : (place number which k : ℕ) (m : Writing) → Outcome m → Condition file tables room place number which k → ((p n f j : ℕ) → Condition file tables room p n f j → place ≤ p) → m ≡ refused_with number which k
  refused_if_lem place number which k m (refused_by {place = q} {number = n} {which = f} {k = j} c least) d l =
      let a = l q n f j c in
      let b = least place number which k d in
      let e : q ≡ place = omega arith in
      sym (gives c) ∙ ap given e ∙ gives d
  refused_if_lem place number which k m (none_holds h) d l = absurd (h place number which k d)

  written_only_lem : (n : ℕ) (m : Writing) → Outcome m → m ≡ written n → (n ≡ length (converted_file file).bytes) × ((p x f j : ℕ) → ¬ Condition file tables room p x f j)
  written_only_lem n m (refused_by c least) e = absurd (written_not_refused (sym e))
  written_only_lem n m (none_holds h) e = (sym (same_written e) ∙ sym (converted_length file), h)

  written_if_lem : (m : Writing) → Outcome m → ((p n f j : ℕ) → ¬ Condition file tables room p n f j) → m ≡ written (length (converted_file file).bytes)
  written_if_lem m (refused_by {place} {number} {which} {k} c least) h = absurd (h place number which k c)
  written_if_lem m (none_holds g) h = ap written (sym (converted_length file))

  -- ── Where it is written ──
  module _ (n : ℕ) (e : conversion_answer file tables room ≡ written n) where
    no_condition : (p x f j : ℕ) → ¬ Condition file tables room p x f j
    no_condition = (written_only_lem n (conversion_answer file tables room) outcome e).1

    its_length : n ≡ length (converted_file file).bytes
    its_length = (written_only_lem n (conversion_answer file tables room) outcome e).0

    pub has_room : length (converted file) ≤ most_records (other_form file.form)
    has_room = try (ltb most (length (converted file))) refl
      where
        try : (b : Bool) → ltb most (length (converted file)) ≡ b → length (converted file) ≤ most
        try true q = absurd (no_condition 2 22 0 0 (by_form q))
        try false q = nltb→le most (length (converted file)) (rw q tt)

    not_longer_lem : (n ≤ 65536) × (file.form ≡ Old → n ≤ 65520)
    not_longer_lem = ((by file.form refl).0, (by file.form refl).1)
      where
        by : (form : Form) → file.form ≡ form → (n ≤ 65536) × (form ≡ Old → n ≤ 65520)
        by Old f =
            let l : length (converted file) ≤ 3276 = subst (λ (x : Form). length (converted file) ≤ most_records (other_form x)) f has_room in
            let z : n ≡ 20 * length (converted file) = its_length ∙ converted_length file ∙ ap (λ (x : Form). record_length (other_form x) * length (converted file)) f in
            (omega arith, λ o. omega arith)
        by New f =
            let l : length (converted file) ≤ 4096 = subst (λ (x : Form). length (converted file) ≤ most_records (other_form x)) f has_room in
            let z : n ≡ 16 * length (converted file) = its_length ∙ converted_length file ∙ ap (λ (x : Form). record_length (other_form x) * length (converted file)) f in
            (omega arith, λ o. absurd (new_not_old o))
          where
            new_not_old : New ≡ Old → ⊥
            new_not_old o = let z : ◌≡◌ {A = ℕ} 20 16 = ap record_length o in omega arith

    pub record Written : Type 0 where
      pub state : State
      pub other : State
      pub stands : Stands file state
      pub other_stands : Stands (converted_file file) other
      pub same : SameDays state other

    pub is_written_lem : Written
    is_written_lem =
        let a = not_refused_lem file (lengths_of tables) (λ reason k q. no_condition 1 (reason_number reason) 1 k (file_refused q)) in
        let b = converted_stands file a.0 a.1 has_room in
        record { state = a.0; other = b.0; stands = a.1; other_stands = b.1; same = b.2 }

    output_written_lem : (output : List ℕ) → length output ≡ room → WrittenAt (converted_file file).bytes output (output_left (conversion_answer file tables room) (converted_file file).bytes output)
    output_written_lem output l =
        let r : ¬ (room < 65536) = λ s. no_condition 0 2 0 0 (short_output s) in
        let h = not_longer_lem.0 in
        let m = its_length in
        written_at (converted_file file).bytes output (conversion_answer file tables room) n e m (omega (arith, m, h, r, l))

  -- ── Tables ──
  tables_by : (b : Bool) → ltb room 65536 ≡ b → tables_left file tables room ≡ elim b [ true ↦ tables | false ↦ tables_after file tables ]
  unfolding tables_left
  tables_by b q = ap (λ (x : Bool). elim x [ true ↦ tables | false ↦ tables_after file tables ]) q

-- Two conversions, one after the other.
back_again_lem : (file : File) (tables : Tables) (room n m : ℕ) (others : Tables) (space : ℕ) → conversion_answer file tables room ≡ written n → conversion_answer (converted_file file) others space ≡ written m
    → (S : State) × (T : State) × Stands file S × Stands (converted_file (converted_file file)) T × SameContents S T
back_again_lem file tables room n m others space e f =
    let a = is_written_lem file tables room n e in
    let b = converted_stands (converted_file file) a.other a.other_stands (has_room (converted_file file) others space m f) in
    (a.state, b.0, a.stands, b.1, contents_again a.state a.other b.0 (same_contents a.state a.other a.same) (same_contents a.other b.0 b.2))

pub conversion_promised : (file : File) (tables : Tables) (room : ℕ) → ConversionPromised file tables room
conversion_promised file tables room = record {
  refused_only = λ number which k e. refused_only_lem file tables room number which k (conversion_answer file tables room) (outcome file tables room) e;
  refused_if = λ place number which k c least. refused_if_lem file tables room place number which k (conversion_answer file tables room) (outcome file tables room) c least;
  written_only = λ n e. written_only_lem file tables room n (conversion_answer file tables room) (outcome file tables room) e;
  written_if = λ h. written_if_lem file tables room (conversion_answer file tables room) (outcome file tables room) h;
  not_longer = not_longer_lem file tables room;
  counted_new = new_counted file;
  counted_old = old_counted file;
  every_day = λ day reason k. (any_day file (lengths_of tables) 0 day reason k, any_day file (lengths_of tables) day 0 reason k);
  output_written = output_written_lem file tables room;
  output_kept = λ number which k e output. refused_kept (converted_file file).bytes output (conversion_answer file tables room) number which k e;
  tables_kept = λ l. tables_by file tables room true (from_t (ltb room 65536) (lt→ltb room 65536 l));
  tables_checked = λ h. tables_by file tables room false (not_true (ltb room 65536) (λ t. h (ltb→lt room 65536 (to_t (ltb room 65536) t))));
  stands = λ n e. let a = is_written_lem file tables room n e in (a.state, a.other, a.stands, a.other_stands, same_contents a.state a.other a.same);
  bytes = λ n e b. converted_bytes file (is_written_lem file tables room n e).stands.fits b;
  same_answer = λ n e day l lengths. let a = is_written_lem file tables room n e in sym (same_answer_lem a.state a.other a.same file (converted_file file) a.stands a.other_stands day l lengths);
  same_cells = λ n e others. let a = is_written_lem file tables room n e in let c = same_cells_lem a.state a.other a.same file (converted_file file) a.stands a.other_stands others in record { clauses = λ m i x y. sym (c.clauses m i x y); bindings = sym c.bindings };
  windows_placed = λ n e. let a = is_written_lem file tables room n e in windows_placed_lem file a.state a.stands;
  new_again = λ n e. let a = is_written_lem file tables room n e in new_again_lem file a.state a.stands;
  back_again = λ n m others space e f. back_again_lem file tables room n m others space e f;
}
