-- Windows from the last record down: the last window of each kept clause is marked and no other, and the marks of other records stay what they were, zero or not.
use mathlib.Core.Path.{◌≡◌, refl, sym, ap, ap₂, ◌∙◌, subst}
use mathlib.Core.Bool.{Bool, true, false, ◌&&◌, ◌||◌, not}
use mathlib.Core.Option.{some}
use mathlib.Core.List.{List, []}
use Prim.Native.Nat.{ℕ, zero, suc, ◌≤◌, ◌<◌}
use native.Mathlib.Omega.{arith}
use lib.Dec.{eqb}
use borrow.Author.Tests.{lt-ltb}
use lib.ListN.{length, get_or, set, drop, length-set}
use lib.Seq.{get_or-set_same, get_or-set_other, drop-length}
use Rattle.record.specs.Record.{pick, File, Record, record_at, record_count, records, otherKind, Kind, symbolKind, variableKind, applicationKind, inputKind, resolveKind, factorKind, severalKind, windowKind, field_a}
use Rattle.record.proofs.Records.{records_length, record_numbered}
use Rattle.unification.proofs.Tests.{some_injective, true_not_false}
use Rattle.derivation.specs.Stored.{record_cell}
use Rattle.verdict.specs.State.{State, entry}
use Rattle.demands.proofs.RangeTests.{equal, unequal}
use Rattle.trimming.specs.Kept.{Kept}
use Rattle.trimming.specs.Trimming.{Next, is_window_of, dated_in, is_kept}
use Rattle.marking.specs.Marking.{is_window, dated_by, dated_down}
use Rattle.marking.proofs.Told.{clause_records, numbers_at, kind_at, Told}
use Rattle.marking.proofs.ToldFiles.{FileTold, ClauseKind}
use Rattle.marking.proofs.KeptRecords.{TablesAre, own, kept_record, clause_record}

-- The mark of a clause: 0 if it goes, 2 if it stays and has a window already, else 1.
abbrev clause_mark : Bool → Bool → ℕ
clause_mark a b = pick a (pick b 2 1) 0

pick_one : (a b : Bool) → eqb (pick a (pick b 2 1) 0) 1 ≡ true → (a ≡ true) × (b ≡ false)
pick_one true false e = (refl, refl)
pick_one true true e = absurd (true_not_false e refl)
pick_one false b e = absurd (true_not_false e refl)

pick_none : (a b : Bool) → eqb (pick a (pick b 2 1) 0) 1 ≡ false → ((a && not b) ≡ false) × (clause_mark a true ≡ clause_mark a b)
pick_none true true e = (refl, refl)
pick_none true false e = absurd (true_not_false refl e)
pick_none false b e = (refl, refl)

marked_not : (b : Bool) → eqb (pick b 1 0) 0 ≡ not b
marked_not true = refl
marked_not false = refl

module _ (Y R C : List ℕ) where
  window_kind : (kind : Kind) → is_window Y R C kind ≡ true → kind ≡ windowKind
  window_kind windowKind e = refl
  window_kind symbolKind e = absurd (true_not_false e refl)
  window_kind variableKind e = absurd (true_not_false e refl)
  window_kind applicationKind e = absurd (true_not_false e refl)
  window_kind inputKind e = absurd (true_not_false e refl)
  window_kind resolveKind e = absurd (true_not_false e refl)
  window_kind severalKind e = absurd (true_not_false e refl)
  window_kind factorKind e = absurd (true_not_false e refl)
  window_kind otherKind e = absurd (true_not_false e refl)

  no_window_lem : (m : ℕ) (kind : Kind) (r : Record) → is_window Y R C kind ≡ false → is_window_of m kind r ≡ false
  no_window_lem m windowKind r e = absurd (true_not_false refl e)
  no_window_lem m symbolKind r e = refl
  no_window_lem m variableKind r e = refl
  no_window_lem m applicationKind r e = refl
  no_window_lem m inputKind r e = refl
  no_window_lem m resolveKind r e = refl
  no_window_lem m severalKind r e = refl
  no_window_lem m factorKind r e = refl
  no_window_lem m otherKind r e = refl

  clause_no_window : (kind : Kind) → ClauseKind kind → is_window Y R C kind ≡ false
  clause_no_window inputKind e = refl
  clause_no_window resolveKind e = refl
  clause_no_window severalKind e = refl
  clause_no_window factorKind e = refl
  clause_no_window symbolKind e = absurd e
  clause_no_window variableKind e = absurd e
  clause_no_window applicationKind e = absurd e
  clause_no_window windowKind e = absurd e
  clause_no_window otherKind e = absurd e

  own_kept : (K : Kept) (n : Next) (kind : Kind) (r : Record) (later : List Record) → is_window Y R C kind ≡ false → own K n kind ≡ is_kept K n kind r later
  own_kept K n windowKind r later e = absurd (true_not_false refl e)
  own_kept K n symbolKind r later e = refl
  own_kept K n variableKind r later e = refl
  own_kept K n applicationKind r later e = refl
  own_kept K n inputKind r later e = refl
  own_kept K n resolveKind r later e = refl
  own_kept K n severalKind r later e = refl
  own_kept K n factorKind r later e = refl
  own_kept K n otherKind r later e = refl

module _ (F : File) (S : State) (H : FileTold F (record_count F) S) (Y R C : List ℕ) (G : TablesAre S Y R C) (K : Kept) (few : record_count F ≤ 4096) where
  abbrev later_than : ℕ → List Record
  later_than k = drop k (records F)

  -- The last window of its clause, which is kept.
  abbrev last_window : ℕ → Bool
  last_window j = K.clause (field_a (record_at F j)) && not (dated_in (drop (suc j) (records F)) (field_a (record_at F j)))

  record Dated (k : ℕ) (M : List ℕ) : Type 0 where
    long : 4096 ≤ length M
    clauses : (m j : ℕ) → entry (clause_records S) m ≡ some j → get_or M j 0 ≡ pick (K.clause m) (pick (dated_in (drop k (records F)) m) 2 1) 0
    windows : (j : ℕ) → k ≤ j → j < record_count F → kind_at F j ≡ windowKind → get_or M j 0 ≡ pick (last_window j) 1 0
    before : (j : ℕ) → j < k → kind_at F j ≡ windowKind → get_or M j 0 ≡ 0
    others : (j : ℕ) → j < record_count F → is_window Y R C (kind_at F j) ≡ false → eqb (get_or M j 0) 0 ≡ not (own K (numbers_at F j) (kind_at F j))

  -- A record of a clause is no window.
  clause_kind_lem : (m j : ℕ) → entry (clause_records S) m ≡ some j → is_window Y R C (kind_at F j) ≡ false
  clause_kind_lem m j e = clause_no_window Y R C (kind_at F j) (H.clause_is m j e).1

  differ : (i j : ℕ) → is_window Y R C (kind_at F i) ≡ false → kind_at F j ≡ windowKind → ¬ (i ≡ j)
  differ i j e q z = true_not_false (ap (is_window Y R C) (ap (kind_at F) z ∙ q)) e

  module _ (k : ℕ) (M : List ℕ) (l : k < record_count F) (D : Dated (suc k) M) where
    later_here : (m : ℕ) → dated_in (drop k (records F)) m ≡ (is_window_of m (kind_at F k) (record_at F k) || dated_in (drop (suc k) (records F)) m)
    later_here m = ap (λ (rs : List Record). dated_in rs m) (record_numbered F k l)

    -- At any other record nothing changes.
    passed : is_window Y R C (kind_at F k) ≡ false → Dated k M
    passed e = record {
      long = D.long;
      clauses = λ m j z. D.clauses m j z ∙ ap (λ (b : Bool). pick (K.clause m) (pick b 2 1) 0) (sym (later_here m ∙ ap (λ (b : Bool). b || dated_in (drop (suc k) (records F)) m) (no_window_lem Y R C m (kind_at F k) (record_at F k) e)));
      windows = λ j a b q. D.windows j (let d = differ k j e q in omega arith) b q;
      before = λ j a q. D.before j (omega arith) q;
      others = D.others;
    }

    module _ (isW : kind_at F k ≡ windowKind) (j₀ : ℕ) (at : entry (clause_records S) (field_a (record_at F k)) ≡ some j₀) (below : j₀ < k) where
      abbrev m₀ : ℕ
      m₀ = field_a (record_at F k)

      here : (m : ℕ) → dated_in (drop k (records F)) m ≡ (eqb (field_a (record_at F k)) m || dated_in (drop (suc k) (records F)) m)
      here m = later_here m ∙ ap (λ (kind : Kind). is_window_of m kind (record_at F k) || dated_in (drop (suc k) (records F)) m) isW

      -- A window of a clause that goes, or has a window already.
      superseded : eqb (get_or M j₀ 0) 1 ≡ false → Dated k M
      superseded e =
          let z = pick_none (K.clause m₀) (dated_in (drop (suc k) (records F)) m₀) (ap (λ (x : ℕ). eqb x 1) (sym (D.clauses m₀ j₀ at)) ∙ e) in
          record {
            long = D.long;
            clauses = λ m j q. cell z m j q (eqb (field_a (record_at F k)) m) refl;
            windows = λ j a b q. window z j a b q (eqb j k) refl;
            before = λ j a q. D.before j (omega arith) q;
            others = D.others;
          }
        where
          cell : ((K.clause (field_a (record_at F k)) && not (dated_in (drop (suc k) (records F)) (field_a (record_at F k)))) ≡ false) × (clause_mark (K.clause (field_a (record_at F k))) true ≡ clause_mark (K.clause (field_a (record_at F k))) (dated_in (drop (suc k) (records F)) (field_a (record_at F k))))
              → (m j : ℕ) → entry (clause_records S) m ≡ some j → (b : Bool) → eqb (field_a (record_at F k)) m ≡ b → get_or M j 0 ≡ pick (K.clause m) (pick (dated_in (drop k (records F)) m) 2 1) 0
          cell z m j q true e =
              let s = equal m₀ m e in
              D.clauses m j q ∙ sym (subst (λ (i : ℕ). clause_mark (K.clause i) true ≡ clause_mark (K.clause i) (dated_in (drop (suc k) (records F)) i)) s z.1)
              ∙ ap (λ (b : Bool). pick (K.clause m) (pick b 2 1) 0) (sym (here m ∙ ap (λ (b : Bool). b || dated_in (drop (suc k) (records F)) m) e))
          cell z m j q false e = D.clauses m j q ∙ ap (λ (b : Bool). pick (K.clause m) (pick b 2 1) 0) (sym (here m ∙ ap (λ (b : Bool). b || dated_in (drop (suc k) (records F)) m) e))

          window : ((K.clause (field_a (record_at F k)) && not (dated_in (drop (suc k) (records F)) (field_a (record_at F k)))) ≡ false) × (clause_mark (K.clause (field_a (record_at F k))) true ≡ clause_mark (K.clause (field_a (record_at F k))) (dated_in (drop (suc k) (records F)) (field_a (record_at F k))))
              → (j : ℕ) → k ≤ j → j < record_count F → kind_at F j ≡ windowKind → (b : Bool) → eqb j k ≡ b → get_or M j 0 ≡ pick (last_window j) 1 0
          window z j a b q true e = subst (λ (i : ℕ). get_or M i 0 ≡ pick (last_window i) 1 0) (sym (equal j k e)) (D.before k (omega arith) isW ∙ ap (λ (b : Bool). pick b 1 0) (sym z.0))
          window z j a b q false e = let d = unequal j k e in D.windows j (omega arith) b q

      -- The last window of a kept clause.
      abbrev M' : List ℕ
      M' = set (set M k 1) j₀ 2

      other_cell : (j : ℕ) → ¬ (j ≡ k) → ¬ (j ≡ j₀) → get_or (set (set M k 1) j₀ 2) j 0 ≡ get_or M j 0
      other_cell j a b = get_or-set_other (set M k 1) j₀ j 2 0 b ∙ get_or-set_other M k j 1 0 a

      clause_cell_lem : get_or (set (set M k 1) j₀ 2) j₀ 0 ≡ 2
      clause_cell_lem = get_or-set_same (set M k 1) j₀ 2 0 (let z = length-set M k 1 in let y = D.long in omega arith)

      window_cell : get_or (set (set M k 1) j₀ 2) k 0 ≡ 1
      window_cell = get_or-set_other (set M k 1) j₀ k 2 0 (λ z. omega arith) ∙ get_or-set_same M k 1 0 (let y = D.long in omega arith)

      dated : eqb (get_or M j₀ 0) 1 ≡ true → Dated k (set (set M k 1) j₀ 2)
      dated e =
          let z = pick_one (K.clause m₀) (dated_in (drop (suc k) (records F)) m₀) (ap (λ (x : ℕ). eqb x 1) (sym (D.clauses m₀ j₀ at)) ∙ e) in
          record {
            long = (let a = length-set (set M k 1) j₀ 2 in let b = length-set M k 1 in let y = D.long in omega arith);
            clauses = λ m j q. cell z.0 m j q (eqb (field_a (record_at F k)) m) refl;
            windows = λ j a b q. window z.0 z.1 j a b q (eqb j k) refl;
            before = λ j a q. other_cell j (λ y. omega arith) (λ y. differ j₀ j (clause_kind_lem m₀ j₀ at) q (sym y)) ∙ D.before j (omega arith) q;
            others = λ j a q. other z.0 j a q (eqb j j₀) refl;
          }
        where
          cell : K.clause (field_a (record_at F k)) ≡ true → (m j : ℕ) → entry (clause_records S) m ≡ some j → (b : Bool) → eqb (field_a (record_at F k)) m ≡ b → get_or (set (set M k 1) j₀ 2) j 0 ≡ pick (K.clause m) (pick (dated_in (drop k (records F)) m) 2 1) 0
          cell h m j q true e =
              let s = equal m₀ m e in
              let same : j ≡ j₀ = some_injective (sym q ∙ ap (entry (clause_records S)) (sym s) ∙ at) in
              ap (λ (i : ℕ). get_or (set (set M k 1) j₀ 2) i 0) same ∙ clause_cell_lem
              ∙ sym (ap₂ (λ (a b : Bool). pick a (pick b 2 1) 0) (ap K.clause (sym s) ∙ h) (here m ∙ ap (λ (b : Bool). b || dated_in (drop (suc k) (records F)) m) e))
          cell h m j q false e =
              let d = unequal m₀ m e in
              other_cell j (differ j k (clause_kind_lem m j q) isW) (λ y. d (sym (H.clause_is m₀ j₀ at).2 ∙ ap (λ (i : ℕ). (numbers_at F i).clause) (sym y) ∙ (H.clause_is m j q).2))
              ∙ D.clauses m j q ∙ ap (λ (b : Bool). pick (K.clause m) (pick b 2 1) 0) (sym (here m ∙ ap (λ (b : Bool). b || dated_in (drop (suc k) (records F)) m) e))

          window : K.clause (field_a (record_at F k)) ≡ true → dated_in (drop (suc k) (records F)) (field_a (record_at F k)) ≡ false → (j : ℕ) → k ≤ j → j < record_count F → kind_at F j ≡ windowKind → (b : Bool) → eqb j k ≡ b → get_or (set (set M k 1) j₀ 2) j 0 ≡ pick (last_window j) 1 0
          window h g j a b q true e = subst (λ (i : ℕ). get_or (set (set M k 1) j₀ 2) i 0 ≡ pick (last_window i) 1 0) (sym (equal j k e)) (window_cell ∙ sym (ap₂ (λ (a b : Bool). pick (a && not b) 1 0) h g))
          window h g j a b q false e =
              let d = unequal j k e in
              other_cell j d (λ y. differ j₀ j (clause_kind_lem m₀ j₀ at) q (sym y)) ∙ D.windows j (omega arith) b q

          other : K.clause (field_a (record_at F k)) ≡ true → (j : ℕ) → j < record_count F → is_window Y R C (kind_at F j) ≡ false → (b : Bool) → eqb j j₀ ≡ b → eqb (get_or (set (set M k 1) j₀ 2) j 0) 0 ≡ not (own K (numbers_at F j) (kind_at F j))
          other h j a q true e =
              let s = equal j j₀ e in
              ap (λ (x : ℕ). eqb x 0) (ap (λ (i : ℕ). get_or (set (set M k 1) j₀ 2) i 0) s ∙ clause_cell_lem)
              ∙ sym (ap not (ap (λ (i : ℕ). own K (numbers_at F i) (kind_at F i)) s ∙ clause_record F S H Y R C G K m₀ j₀ at ∙ h))
          other h j a q false e = ap (λ (x : ℕ). eqb x 0) (other_cell j (differ j k q isW) (unequal j j₀ e)) ∙ D.others j a q

    at_window : kind_at F k ≡ windowKind → Told S k (numbers_at F k) windowKind (record_at F k) → (b : Bool) → eqb (get_or M (record_cell C (field_a (record_at F k))) 0) 1 ≡ b → Dated k (pick b (set (set M k 1) (record_cell C (field_a (record_at F k))) 2) M)
    at_window e t true q =
        let s = G.clause_cell (field_a (record_at F k)) t.2.0 t.2.1 in
        subst (λ (i : ℕ). Dated k (set (set M k 1) i 2)) (sym s) (dated e t.2.0 t.2.1 t.2.2 (ap (λ (i : ℕ). eqb (get_or M i 0) 1) (sym s) ∙ q))
    at_window e t false q =
        let s = G.clause_cell (field_a (record_at F k)) t.2.0 t.2.1 in
        superseded e t.2.0 t.2.1 t.2.2 (ap (λ (i : ℕ). eqb (get_or M i 0) 1) (sym s) ∙ q)

    visited : Dated k (dated_by Y R C (record_at F k) k M)
    visited = try (is_window Y R C (kind_at F k)) refl
      where
        try : (w : Bool) → is_window Y R C (kind_at F k) ≡ w → Dated k (pick (w && eqb (get_or M (record_cell C (field_a (record_at F k))) 0) 1) (set (set M k 1) (record_cell C (field_a (record_at F k))) 2) M)
        try true e =
            let w = window_kind Y R C (kind_at F k) e in
            at_window w (subst (λ (kind : Kind). Told S k (numbers_at F k) kind (record_at F k)) w (H.told k l)) (eqb (get_or M (record_cell C (field_a (record_at F k))) 0) 1) refl
        try false e = passed e

  down : (k : ℕ) (M : List ℕ) → k ≤ record_count F → Dated k M → Dated 0 (dated_down Y R C F k M)
  unfolding dated_down
  down zero M l D = D
  down (suc k) M l D = down k (dated_by Y R C (record_at F k) k M) (omega arith) (visited k M (omega arith) D)

  start : (M : List ℕ) → 4096 ≤ length M → ((j : ℕ) → j < 4096 → get_or M j 0 ≡ pick (kept_record F K j) 1 0) → Dated (record_count F) M
  start M long z = record {
    long = long;
    clauses = λ m j e. let x = H.clause_is m j e in mark j x.0 ∙ ap (λ (b : Bool). pick b 1 0) (clause_record F S H Y R C G K m j e) ∙ ap (λ (b : Bool). pick (K.clause m) (pick b 2 1) 0) (sym (ap (λ (rs : List Record). dated_in rs m) none_later_lem));
    windows = λ j a b q. absurd (omega arith);
    before = λ j a q. mark j a ∙ ap (λ (kind : Kind). pick (own K (numbers_at F j) kind) 1 0) q;
    others = λ j a q. ap (λ (x : ℕ). eqb x 0) (mark j a) ∙ marked_not (own K (numbers_at F j) (kind_at F j));
  }
    where
      none_later_lem : drop (record_count F) (records F) ≡ []
      none_later_lem = ap (λ (n : ℕ). drop n (records F)) (sym (records_length F)) ∙ drop-length (records F)

      mark : (j : ℕ) → j < record_count F → get_or M j 0 ≡ pick (own K (numbers_at F j) (kind_at F j)) 1 0
      mark j l = z j (omega arith) ∙ ap (λ (b : Bool). pick (b && own K (numbers_at F j) (kind_at F j)) 1 0) (lt-ltb j (record_count F) l)

  -- After all records, the marked ones are those that are kept, with windows.
  pub marks_are : (M : List ℕ) → 4096 ≤ length M → ((j : ℕ) → j < 4096 → get_or M j 0 ≡ pick (kept_record F K j) 1 0) → (k : ℕ) → k < record_count F
      → eqb (get_or (dated_down Y R C F (record_count F) M) k 0) 0 ≡ not (is_kept K (numbers_at F k) (kind_at F k) (record_at F k) (drop (suc k) (records F)))
  marks_are M long z k l = try (is_window Y R C (kind_at F k)) refl
    where
      D : Dated 0 (dated_down Y R C F (record_count F) M)
      D = down (record_count F) M (omega arith) (start M long z)

      try : (b : Bool) → is_window Y R C (kind_at F k) ≡ b → eqb (get_or (dated_down Y R C F (record_count F) M) k 0) 0 ≡ not (is_kept K (numbers_at F k) (kind_at F k) (record_at F k) (drop (suc k) (records F)))
      try true e =
          let w = window_kind Y R C (kind_at F k) e in
          ap (λ (x : ℕ). eqb x 0) (D.windows k (omega arith) l w) ∙ marked_not (last_window k) ∙ ap (λ (kind : Kind). not (is_kept K (numbers_at F k) kind (record_at F k) (drop (suc k) (records F)))) (sym w)
      try false e = D.others k l e ∙ ap not (own_kept Y R C K (numbers_at F k) (kind_at F k) (record_at F k) (drop (suc k) (records F)) e)
