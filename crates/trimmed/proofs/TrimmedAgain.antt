-- Trimming twice gives what trimming one time gives: in the trimmed file all is kept, and no window is superseded.
use mathlib.Core.Path.{◌≡◌, refl, sym, ap, ap₂, ◌∙◌, subst}
use mathlib.Core.Logic.{◌⊎◌, inl, inr}
use mathlib.Core.Bool.{Bool, true, false, ◌||◌, not}
use mathlib.Core.Option.{some}
use mathlib.Core.List.{List, [], ◌∷◌, map}
use Prim.Native.Nat.{ℕ, ◌<◌}
use native.Mathlib.Omega.{arith}
use lib.Dec.{eqb, eqb_refl}
use lib.ListN.{length, length-map}
use Rattle.record.specs.Bytes.{file_bytes}
use Rattle.record.specs.Record.{pick, old_file, Record, records, otherKind, Kind, symbolKind, variableKind, applicationKind, inputKind, resolveKind, factorKind, severalKind, windowKind, field_a}
use Rattle.record.proofs.Records.{records_shaped}
use Rattle.unification.proofs.Repeats.{earliest_itself}
use Rattle.unification.proofs.Tests.{from_t, both_true, true_not_false}
use Rattle.derivation.specs.Derivation.{input, RowLiteral, Derivation, resolve, factor}
use Rattle.renumbering.specs.Renumbering.{Renumbering, renumbered_row_literal}
use Rattle.renumbering.proofs.Renumbered.{renumbered_row, renumbered_derivation}
use Rattle.renumbering.proofs.EqualNumbers.{numbers_renumbered}
use Rattle.demands.specs.Conditions.{OneOf}
use Rattle.demands.proofs.RangeTests.{equal}
use Rattle.demands.proofs.Reading.{stands_ok}
use Rattle.demands.proofs.Standing.{StateOk}
use Rattle.verdict.specs.Force.{uses_in_force}
use Rattle.verdict.specs.Refusal.{kind_of_record}
use Rattle.verdict.specs.State.{State, empty_state, arities, rows_of, derivations, clause_of}
use Rattle.verdict.specs.Verdict.{first_empty, ending, Stands}
use Rattle.trimming.specs.Kept.{Kept, kept_for, clause_in}
use Rattle.trimming.specs.Trimming.{kept_below, closed_up, closed_fields, closed_record, Next, next_after, first_numbers, is_window_of, dated_in, is_kept, trimmed_from, trimmed_file}
use Rattle.trimming.specs.Used.{UsedRow, literal_row, argument_row, UsedSymbol, symbol_of_row}
use Rattle.trimmed.proofs.AllKept.{LastWindows, AllKept, all_stay}
use Rattle.trimmed.proofs.Closed.{KeptClosed}
use Rattle.trimmed.proofs.Grown.{grown_same}
use Rattle.trimmed.proofs.Keeping.{keeping_length, below_one, below_onto}
use Rattle.trimmed.proofs.KeptLaws.{Ordered, stands_ordered, kept_closed}
use Rattle.trimmed.proofs.Reaching.{each_one, left_true, right_true, either_true}
use Rattle.trimmed.proofs.Related.{Trims, row_count, row_number}
use Rattle.trimmed.proofs.TrimmedClauses.{accepted_kept, clause_left, clause_from, rows_left_lem, first_there}
use Rattle.trimmed.proofs.TrimmedStands.{left, relates, records_are, records_again, stands_again}
use Rattle.trimmed.proofs.UsedShown.{clause_used_kept, row_used_kept, row_kept_used, symbol_kept_used}

-- ── Windows ──
module _ (K : Kept) (S : State) where
  abbrev N : Renumbering
  N = closed_up S K

  not_left : (a b : Bool) → (a || b) ≡ false → (a ≡ false) × (b ≡ false)
  not_left false false q = (refl, refl)
  not_left false true q = absurd (true_not_false refl q)
  not_left true b q = absurd (true_not_false refl q)

  -- A kept window of another clause is of another clause after closing up.
  other_window : (m : ℕ) → K.clause m ≡ true → (kind : Kind) (r : Record) (n : Next) (rs : List Record) → is_kept K n kind r rs ≡ true → is_window_of m kind r ≡ false
      → is_window_of (kept_below K.clause m) kind (record { kind = r.kind; count = r.count; fields = closed_fields (closed_up S K) kind r; days = r.days }) ≡ false
  other_window m h windowKind r n rs k w =
      let t = both_true (K.clause (field_a r)) (not (dated_in rs (field_a r))) k in
      numbers_renumbered (kept_below K.clause) (field_a r) m (λ e. below_one K.clause (field_a r) m t.0 h e) ∙ w
  other_window m h symbolKind r n rs k w = refl
  other_window m h variableKind r n rs k w = refl
  other_window m h applicationKind r n rs k w = refl
  other_window m h inputKind r n rs k w = refl
  other_window m h resolveKind r n rs k w = refl
  other_window m h severalKind r n rs k w = refl
  other_window m h factorKind r n rs k w = refl
  other_window m h otherKind r n rs k w = refl

  undated_there : (m : ℕ) → K.clause m ≡ true → (rs : List Record) (n : Next) → dated_in rs m ≡ false → dated_in (trimmed_from K (closed_up S K) n rs) (kept_below K.clause m) ≡ false
  undated_there m h [] n q = refl
  undated_there m h (r ∷ rs) n q =
      let d = not_left (is_window_of m (kind_of_record r) r) (dated_in rs m) q in
      try (is_kept K n (kind_of_record r) r rs) refl d.0 (undated_there m h rs (next_after n (kind_of_record r)) d.1)
    where
      try : (b : Bool) → is_kept K n (kind_of_record r) r rs ≡ b → is_window_of m (kind_of_record r) r ≡ false → dated_in (trimmed_from K (closed_up S K) (next_after n (kind_of_record r)) rs) (kept_below K.clause m) ≡ false
          → dated_in (pick b (closed_record (closed_up S K) r ∷ trimmed_from K (closed_up S K) (next_after n (kind_of_record r)) rs) (trimmed_from K (closed_up S K) (next_after n (kind_of_record r)) rs)) (kept_below K.clause m) ≡ false
      try true k w ih = ap₂ ◌||◌ (other_window m h (kind_of_record r) r n rs k w) ih
      try false k w ih = ih

  window_last : (kind : Kind) (r : Record) (n p : Next) (rs : List Record) → kind ≡ windowKind → is_kept K n kind r rs ≡ true
      → dated_in (trimmed_from K (closed_up S K) p rs) (field_a (record { kind = r.kind; count = r.count; fields = closed_fields (closed_up S K) kind r; days = r.days })) ≡ false
  window_last windowKind r n p rs e k = let t = both_true (K.clause (field_a r)) (not (dated_in rs (field_a r))) k in undated_there (field_a r) t.0 rs p (not_true (dated_in rs (field_a r)) t.1)
    where
      not_true : (b : Bool) → not b ≡ true → b ≡ false
      not_true true z = absurd (true_not_false z refl)
      not_true false z = refl
  window_last symbolKind r n p rs e k = let z : ◌≡◌ {A = ℕ} 0 1 = cc in absurd (omega arith)
  window_last variableKind r n p rs e k = let z : ◌≡◌ {A = ℕ} 0 1 = cc in absurd (omega arith)
  window_last applicationKind r n p rs e k = let z : ◌≡◌ {A = ℕ} 0 1 = cc in absurd (omega arith)
  window_last inputKind r n p rs e k = let z : ◌≡◌ {A = ℕ} 0 1 = cc in absurd (omega arith)
  window_last resolveKind r n p rs e k = let z : ◌≡◌ {A = ℕ} 0 1 = cc in absurd (omega arith)
  window_last severalKind r n p rs e k = let z : ◌≡◌ {A = ℕ} 0 1 = cc in absurd (omega arith)
  window_last factorKind r n p rs e k = let z : ◌≡◌ {A = ℕ} 0 1 = cc in absurd (omega arith)
  window_last otherKind r n p rs e k = let z : ◌≡◌ {A = ℕ} 0 1 = cc in absurd (omega arith)

  pub windows_last : (rs : List Record) (n : Next) → LastWindows (trimmed_from K (closed_up S K) n rs)
  windows_last [] n = tt
  windows_last (r ∷ rs) n = try (is_kept K n (kind_of_record r) r rs) refl (windows_last rs (next_after n (kind_of_record r)))
    where
      try : (b : Bool) → is_kept K n (kind_of_record r) r rs ≡ b → LastWindows (trimmed_from K (closed_up S K) (next_after n (kind_of_record r)) rs)
          → LastWindows (pick b (closed_record (closed_up S K) r ∷ trimmed_from K (closed_up S K) (next_after n (kind_of_record r)) rs) (trimmed_from K (closed_up S K) (next_after n (kind_of_record r)) rs))
      try true k ih = ((λ e. window_last (kind_of_record r) r n (next_after n (kind_of_record r)) rs e k), ih)
      try false k ih = ih

-- A clause of a derivation is one of the renumbered one's.
module _ (N : Renumbering) (m : ℕ) where
  own : (n : ℕ) → eqb m n ≡ true → eqb (N.clause m) (N.clause n) ≡ true
  own n e = ap (λ (i : ℕ). eqb (N.clause m) (N.clause i)) (sym (equal m n e)) ∙ from_t (eqb (N.clause m) (N.clause m)) (eqb_refl (N.clause m))

  abbrev There : Derivation → Type 0
  There d = clause_in d m ≡ true → clause_in (renumbered_derivation N d) (N.clause m) ≡ true

  -- One of two tests that hold there too.
  either_there : (x y u v : Bool) → (x ≡ true → u ≡ true) → (y ≡ true → v ≡ true) → (x || y) ≡ true → (u || v) ≡ true
  either_there x y u v f g h = which (either_true x y h)
    where
      which : (x ≡ true) ⊎ (y ≡ true) → (u || v) ≡ true
      which (inl e) = left_true u v (f e)
      which (inr e) = right_true u v (g e)

  pub clause_in_renumbered : (d : Derivation) → clause_in d m ≡ true → clause_in (renumbered_derivation N d) (N.clause m) ≡ true
  clause_in_renumbered (input number ls) h = own number h
  clause_in_renumbered (resolve number l a r ns bs) h =
      either_there (eqb m number) (clause_in l m || clause_in r m) (eqb (N.clause m) (N.clause number)) (clause_in (renumbered_derivation N l) (N.clause m) || clause_in (renumbered_derivation N r) (N.clause m)) (own number)
      (either_there (clause_in l m) (clause_in r m) (clause_in (renumbered_derivation N l) (N.clause m)) (clause_in (renumbered_derivation N r) (N.clause m)) (λ x. clause_in_renumbered l x) (λ x. clause_in_renumbered r x)) h
  clause_in_renumbered (factor number c a b bs) h =
      either_there (eqb m number) (clause_in c m) (eqb (N.clause m) (N.clause number)) (clause_in (renumbered_derivation N c) (N.clause m)) (own number) (λ x. clause_in_renumbered c x) h

-- ── In the trimmed file all is kept ──
module _ (S T : State) (O : Ordered S) (ok : StateOk 4096 S) (a : ℕ) (c : Derivation) (is_clause : clause_of S a ≡ some c) (R : Trims S (kept_for S c) S T []) (P : Ordered T) (okT : StateOk 4096 T) where
  abbrev Z : Renumbering
  Z = closed_up S (kept_for S c)

  abbrev e : Derivation
  e = renumbered_derivation Z c

  C : KeptClosed S (kept_for S c)
  C = kept_closed S O ok a c is_clause

  there : clause_of T (Z.clause a) ≡ some (renumbered_derivation Z c)
  there = clause_left S T O ok a c is_clause R a c (accepted_kept S T O ok a c is_clause R) is_clause

  D : KeptClosed T (kept_for T (renumbered_derivation Z c))
  D = kept_closed T P okT (Z.clause a) (renumbered_derivation Z c) there

  clause_again : (m : ℕ) → clause_in c m ≡ true → clause_in (renumbered_derivation Z c) (Z.clause m) ≡ true
  clause_again m h = clause_in_renumbered Z m c h

  member_mapped : {A B : Type 0} (f : A → B) (x : A) (xs : List A) → OneOf x xs → OneOf (f x) (map f xs)
  member_mapped f x [] o = absurd o
  member_mapped f x (y ∷ ys) (inl z) = inl (ap f z)
  member_mapped f x (y ∷ ys) (inr z) = inr (member_mapped f x ys z)

  row_inside : (q : ℕ) → UsedRow S a q → ((kept_for S c).row q ≡ true) × (q < length (rows_of S))
  row_inside q u = let k = row_used_kept S O ok a c is_clause q u in (k, (C.earliest q k).there)

  row_again : (q : ℕ) → UsedRow S a q → (kept_for T (renumbered_derivation Z c)).row (Z.row q) ≡ true
  row_again q (literal_row {m} {number} {row} {ls} sign u p o) =
      let k = clause_used_kept S O ok a c is_clause m u in
      each_one (λ (l : RowLiteral). (kept_for T (renumbered_derivation Z c)).row l.1 ≡ true) (map (renumbered_row_literal Z) ls)
      (D.inputs (Z.clause m) (Z.clause number) (map (renumbered_row_literal Z) ls) (clause_again m k) (clause_left S T O ok a c is_clause R m (input number ls) k p))
      (sign, Z.row q) (member_mapped (renumbered_row_literal Z) (sign, q) ls o)
  row_again q (argument_row {r} {s} {a = b} {xs} u p o) =
      each_one (λ x. (kept_for T (renumbered_derivation Z c)).row x ≡ true) (map Z.row xs)
      (D.arguments (Z.row r) (Z.symbol s) (map Z.row xs) (row_again r u) ((rows_left_lem S T O ok a c is_clause R).rows r (row_inside r u) ∙ ap (renumbered_row Z) p)) (Z.row q) (member_mapped Z.row q xs o)

  symbol_again : (s : ℕ) → UsedSymbol S a s → (kept_for T (renumbered_derivation Z c)).symbol (Z.symbol s) ≡ true
  symbol_again s (symbol_of_row {r} {s = t} {xs} u p) = D.symbols (Z.row r) (Z.symbol s) (map Z.row xs) (row_again r u) ((rows_left_lem S T O ok a c is_clause R).rows r (row_inside r u) ∙ ap (renumbered_row Z) p)

  pub all_kept : AllKept T (kept_for T (renumbered_derivation Z c))
  all_kept = record {
    symbols = λ s l.
        let f = below_onto (kept_for S c).symbol (length (arities S)) s (omega (arith, l, ap length R.symbols ∙ keeping_length (kept_for S c).symbol (λ (x : ℕ). x) (arities S))) in
        subst (λ (i : ℕ). (kept_for T (renumbered_derivation Z c)).symbol i ≡ true) f.3 (symbol_again f.0 (symbol_kept_used S O ok a c is_clause f.0 f.1));
    rows = kept_row;
    clauses = λ n l.
        let f = clause_from S T O ok a c is_clause R n (omega (arith, l, length-map T.clauses (λ (d : ℕ × Derivation). d.1))) in
        subst (λ (i : ℕ). clause_in (renumbered_derivation Z c) i ≡ true) f.3 (clause_again f.0 f.1);
    earliest = λ q l. earliest_itself (rows_of T) q (D.earliest q (kept_row q l));
  }
    where
      kept_row : (q : ℕ) → q < length (rows_of T) → (kept_for T (renumbered_derivation Z c)).row q ≡ true
      kept_row q l =
          let f = below_onto (kept_for S c).row (length (rows_of S)) q (omega (arith, l, row_count C (grown_same S) O.shared R)) in
          subst (λ (i : ℕ). (kept_for T (renumbered_derivation Z c)).row i ≡ true) (row_number C (grown_same S) O.shared R f.0 f.1 ∙ f.3) (row_again f.0 (row_kept_used S O ok a c is_clause f.0 f.1))

-- ── Trimming twice ──
module _ (day : ℕ) (file : List ℕ) (S : State) (st : Stands (old_file file) S) (a : ℕ) (c : Derivation) (first : first_empty (uses_in_force S day) (derivations S) ≡ some a) (is_clause : clause_of S a ≡ some c) where
  abbrev T : State
  T = left day file S st a c first is_clause

  O : Ordered S
  O = stands_ordered (old_file file) S st

  ok : StateOk 4096 S
  ok = stands_ok (old_file file) S st

  st_t : Stands (old_file (trimmed_file day file)) (left day file S st a c first is_clause)
  st_t = stands_again day file S st a c first is_clause

  R : Trims S (kept_for S c) S (left day file S st a c first is_clause) []
  R = relates day file S st a c first is_clause

  abbrev rs : List Record
  rs = records (old_file file)

  pub trimmed_again : trimmed_file day (trimmed_file day file) ≡ trimmed_file day file
  unfolding trimmed_file ending
  trimmed_again =
      let W = closed_up S (kept_for S c) in
      let d = renumbered_derivation W c in
      let there = clause_left S T O ok a c is_clause R a c (accepted_kept S T O ok a c is_clause R) is_clause in
      let again = records_are day (trimmed_file day file) T st_t (W.clause a) d (first_there S T O ok a c is_clause R day first) there in
      let H = all_kept S T O ok a c is_clause R (stands_ordered (old_file (trimmed_file day file)) T st_t) (stands_ok (old_file (trimmed_file day file)) T st_t) in
      let same = records_again day file S st a c first is_clause in
      let stay = all_stay T (kept_for T d) H (records (old_file (trimmed_file day file))) empty_state 0 (records_shaped (old_file (trimmed_file day file))) (subst LastWindows (sym same) (windows_last (kept_for S c) S rs first_numbers)) st_t.reads in
      ap file_bytes (again ∙ stay ∙ same ∙ sym (records_are day file S st a c first is_clause))
