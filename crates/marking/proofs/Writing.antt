-- Marked records with the numbers that their cells have are the trimmed file's: each names earlier records that are kept, and their numbers are closed up already.
use mathlib.Core.Path.{◌≡◌, refl, sym, ap, ap₂, ◌∙◌, subst}
use mathlib.Core.Bool.{Bool, true, false, not}
use mathlib.Core.Option.{some}
use mathlib.Core.List.{List, [], ◌∷◌, ◌++◌, map}
use Prim.Native.Nat.{ℕ, zero, suc, ◌+◌, ◌*◌, ◌≤◌, ◌<◌}
use native.Mathlib.Omega.{arith}
use lib.Dec.{eqb}
use lib.ListN.{length, get_or, set, take, drop, length-set}
use lib.Seq.{get_or-set_same, get_or-set_other, drop-length}
use Rattle.record.specs.Record.{pick, File, Record, record_at, record_count, records, otherKind, Kind, symbolKind, variableKind, applicationKind, inputKind, resolveKind, factorKind, severalKind, windowKind, field_a, field_b, field_c}
use Rattle.record.proofs.Records.{records_length, record_numbered}
use Rattle.unification.proofs.Lists.{map_each}
use Rattle.unification.proofs.Repeats.{earliest_itself}
use Rattle.unification.proofs.Tests.{both_true, true_not_false}
use Rattle.derivation.specs.Derivation.{RowLiteral, literal_of}
use Rattle.derivation.specs.Stored.{record_cell}
use Rattle.verdict.specs.Refusal.{argument_rows}
use Rattle.verdict.specs.State.{State, entry, rows_of, earliest_of}
use Rattle.demands.proofs.RangeTests.{equal, unequal}
use Rattle.trimming.specs.Kept.{Kept}
use Rattle.trimming.specs.Trimming.{kept_below, closed_up, closed_fields, closed_record, Next, next_after, dated_in, is_kept, trimmed_from}
use Rattle.trimmed.proofs.Closed.{KeptClosed}
use Rattle.marking.specs.Marking.{by_records, own_number, marked_records}
use Rattle.marking.proofs.Told.{symbol_records, row_records, clause_records, numbers_at, kind_at, Before, Told, ResolveTold}
use Rattle.marking.proofs.ToldFiles.{FileTold, RowKind, ClauseKind, numbers_next_lem}
use Rattle.marking.proofs.KeptRecords.{TablesAre, shared_record, arguments_kept, literals_kept, left_kept, right_kept, factored_kept, each_unmap}

-- ── By kinds ──
kept_row : (K : Kept) (n : Next) (kind : Kind) (r : Record) (later : List Record) → RowKind kind → is_kept K n kind r later ≡ K.row n.row
kept_row K n variableKind r later h = refl
kept_row K n applicationKind r later h = refl
kept_row K n symbolKind r later h = absurd h
kept_row K n inputKind r later h = absurd h
kept_row K n resolveKind r later h = absurd h
kept_row K n severalKind r later h = absurd h
kept_row K n factorKind r later h = absurd h
kept_row K n windowKind r later h = absurd h
kept_row K n otherKind r later h = absurd h

kept_clause : (K : Kept) (n : Next) (kind : Kind) (r : Record) (later : List Record) → ClauseKind kind → is_kept K n kind r later ≡ K.clause n.clause
kept_clause K n inputKind r later h = refl
kept_clause K n resolveKind r later h = refl
kept_clause K n severalKind r later h = refl
kept_clause K n factorKind r later h = refl
kept_clause K n symbolKind r later h = absurd h
kept_clause K n variableKind r later h = absurd h
kept_clause K n applicationKind r later h = absurd h
kept_clause K n windowKind r later h = absurd h
kept_clause K n otherKind r later h = absurd h

module _ (Y R C : List ℕ) where
  row_own : (n : Next) (kind : Kind) → RowKind kind → own_number Y R C n kind ≡ n.row
  row_own n variableKind h = refl
  row_own n applicationKind h = refl
  row_own n symbolKind h = absurd h
  row_own n inputKind h = absurd h
  row_own n resolveKind h = absurd h
  row_own n severalKind h = absurd h
  row_own n factorKind h = absurd h
  row_own n windowKind h = absurd h
  row_own n otherKind h = absurd h

  clause_own : (n : Next) (kind : Kind) → ClauseKind kind → own_number Y R C n kind ≡ n.clause
  clause_own n inputKind h = refl
  clause_own n resolveKind h = refl
  clause_own n severalKind h = refl
  clause_own n factorKind h = refl
  clause_own n symbolKind h = absurd h
  clause_own n variableKind h = absurd h
  clause_own n applicationKind h = absurd h
  clause_own n windowKind h = absurd h
  clause_own n otherKind h = absurd h

-- ── Numbers ──

-- The second numbers count only what is kept.
pub record Shrunk (K : Kept) (n n' : Next) : Type 0 where
  pub symbol : n'.symbol ≡ kept_below K.symbol n.symbol
  pub row : n'.row ≡ kept_below K.row n.row
  pub clause : n'.clause ≡ kept_below K.clause n.clause

module _ (K : Kept) (n n' : Next) (Z : Shrunk K n n') where
  counted : (kept : ℕ → Bool) (x y : ℕ) → y ≡ kept_below kept x → kept x ≡ true → suc y ≡ kept_below kept (suc x)
  counted kept x y e h = ap suc e ∙ go (kept x) h
    where
      go : (b : Bool) → b ≡ true → suc (kept_below kept x) ≡ pick b 1 0 + kept_below kept x
      go true q = omega arith
      go false q = absurd (true_not_false q refl)

  passed : (kept : ℕ → Bool) (x y : ℕ) → y ≡ kept_below kept x → kept x ≡ false → y ≡ kept_below kept (suc x)
  passed kept x y e h = e ∙ go (kept x) h
    where
      go : (b : Bool) → b ≡ false → kept_below kept x ≡ pick b 1 0 + kept_below kept x
      go true q = absurd (true_not_false refl q)
      go false q = omega arith

  shrunk_kept : (kind : Kind) (r : Record) (later : List Record) → is_kept K n kind r later ≡ true → Shrunk K (next_after n kind) (next_after n' kind)
  shrunk_kept symbolKind r later h = record { symbol = counted K.symbol n.symbol n'.symbol Z.symbol h; row = Z.row; clause = Z.clause }
  shrunk_kept variableKind r later h = record { symbol = Z.symbol; row = counted K.row n.row n'.row Z.row h; clause = Z.clause }
  shrunk_kept applicationKind r later h = record { symbol = Z.symbol; row = counted K.row n.row n'.row Z.row h; clause = Z.clause }
  shrunk_kept inputKind r later h = record { symbol = Z.symbol; row = Z.row; clause = counted K.clause n.clause n'.clause Z.clause h }
  shrunk_kept resolveKind r later h = record { symbol = Z.symbol; row = Z.row; clause = counted K.clause n.clause n'.clause Z.clause h }
  shrunk_kept severalKind r later h = record { symbol = Z.symbol; row = Z.row; clause = counted K.clause n.clause n'.clause Z.clause h }
  shrunk_kept factorKind r later h = record { symbol = Z.symbol; row = Z.row; clause = counted K.clause n.clause n'.clause Z.clause h }
  shrunk_kept windowKind r later h = Z
  shrunk_kept otherKind r later h = Z

  shrunk_passed : (kind : Kind) (r : Record) (later : List Record) → is_kept K n kind r later ≡ false → Shrunk K (next_after n kind) n'
  shrunk_passed symbolKind r later h = record { symbol = passed K.symbol n.symbol n'.symbol Z.symbol h; row = Z.row; clause = Z.clause }
  shrunk_passed variableKind r later h = record { symbol = Z.symbol; row = passed K.row n.row n'.row Z.row h; clause = Z.clause }
  shrunk_passed applicationKind r later h = record { symbol = Z.symbol; row = passed K.row n.row n'.row Z.row h; clause = Z.clause }
  shrunk_passed inputKind r later h = record { symbol = Z.symbol; row = Z.row; clause = passed K.clause n.clause n'.clause Z.clause h }
  shrunk_passed resolveKind r later h = record { symbol = Z.symbol; row = Z.row; clause = passed K.clause n.clause n'.clause Z.clause h }
  shrunk_passed severalKind r later h = record { symbol = Z.symbol; row = Z.row; clause = passed K.clause n.clause n'.clause Z.clause h }
  shrunk_passed factorKind r later h = record { symbol = Z.symbol; row = Z.row; clause = passed K.clause n.clause n'.clause Z.clause h }
  shrunk_passed windowKind r later h = Z
  shrunk_passed otherKind r later h = Z

module _ (F : File) (S : State) (H : FileTold F (record_count F) S) (Y R C : List ℕ) (G : TablesAre S Y R C) (K : Kept) (D : KeptClosed S K) (few : record_count F ≤ 4096) where
  -- The cells of the first k records: the numbers that those which are kept get.
  pub record Numbered (k : ℕ) (N : List ℕ) : Type 0 where
    pub long : 4096 ≤ length N
    pub symbols : (s j : ℕ) → entry (symbol_records S) s ≡ some j → K.symbol s ≡ true → j < k → get_or N j 0 ≡ kept_below K.symbol s
    pub rows : (q j : ℕ) → entry (row_records S) q ≡ some j → K.row q ≡ true → j < k → get_or N j 0 ≡ kept_below K.row q
    pub clauses : (m j : ℕ) → entry (clause_records S) m ≡ some j → K.clause m ≡ true → j < k → get_or N j 0 ≡ kept_below K.clause m

  abbrev kept_at : ℕ → Bool
  kept_at k = is_kept K (numbers_at F k) (kind_at F k) (record_at F k) (drop (suc k) (records F))

  -- What kept things' records are.
  symbol_at : (s j : ℕ) → entry (symbol_records S) s ≡ some j → kept_at j ≡ K.symbol s
  symbol_at s j e = let z = H.symbol_is s j e in ap (λ (kind : Kind). is_kept K (numbers_at F j) kind (record_at F j) (drop (suc j) (records F))) z.1 ∙ ap K.symbol z.2

  row_at_lem : (q j : ℕ) → entry (row_records S) q ≡ some j → K.row q ≡ true → (numbers_at F j).row ≡ q
  row_at_lem q j e h = (H.row_is q j e).2 ∙ earliest_itself (rows_of S) q (D.earliest q h)

  row_kept_at : (q j : ℕ) → entry (row_records S) q ≡ some j → K.row q ≡ true → kept_at j ≡ true
  row_kept_at q j e h = kept_row K (numbers_at F j) (kind_at F j) (record_at F j) (drop (suc j) (records F)) (H.row_is q j e).1 ∙ ap K.row (row_at_lem q j e h) ∙ h

  clause_kept_at : (m j : ℕ) → entry (clause_records S) m ≡ some j → K.clause m ≡ true → kept_at j ≡ true
  clause_kept_at m j e h = let z = H.clause_is m j e in kept_clause K (numbers_at F j) (kind_at F j) (record_at F j) (drop (suc j) (records F)) z.1 ∙ ap K.clause z.2 ∙ h

  -- ── One record ──
  module _ (k : ℕ) (N : List ℕ) (Q : Numbered k N) where
    symbol_number : (s : ℕ) → K.symbol s ≡ true → Before (symbol_records S) k s → get_or N (get_or Y s 0) 0 ≡ kept_below K.symbol s
    symbol_number s h b = ap (λ (i : ℕ). get_or N i 0) (G.symbol_cell s b.0 b.1) ∙ Q.symbols s b.0 b.1 h b.2

    row_number : (a : ℕ) → K.row (earliest_of S a) ≡ true → Before (row_records S) k a → get_or N (get_or R a 0) 0 ≡ kept_below K.row (earliest_of S a)
    row_number a h b = ap (λ (i : ℕ). get_or N i 0) (G.row_cell a b.0 b.1) ∙ Q.rows (earliest_of S a) b.0 (shared_record F S H Y R C G a b.0 b.1 (D.earliest (earliest_of S a) h)) h b.2

    clause_number_lem : (m : ℕ) → K.clause m ≡ true → Before (clause_records S) k m → get_or N (record_cell C m) 0 ≡ kept_below K.clause m
    clause_number_lem m h b = ap (λ (i : ℕ). get_or N i 0) (G.clause_cell m b.0 b.1) ∙ Q.clauses m b.0 b.1 h b.2

    resolve_fields : (m : ℕ) (r : Record) → ResolveTold S k m r → K.clause m ≡ true
        → get_or N (record_cell C (field_a r)) 0 ∷ field_b r ∷ get_or N (record_cell C (field_c r)) 0 ∷ drop 3 r.fields ≡ kept_below K.clause (field_a r) ∷ field_b r ∷ kept_below K.clause (field_c r) ∷ drop 3 r.fields
    resolve_fields m r t h =
        ap₂ (λ (x y : ℕ). x ∷ field_b r ∷ y ∷ drop 3 r.fields) (clause_number_lem (field_a r) (left_kept F S H Y R C G K D k m r t h) t.left_before) (clause_number_lem (field_c r) (right_kept F S H Y R C G K D k m r t h) t.right_before)

    same_fields : (n : Next) (kind : Kind) (r : Record) (later : List Record) → Told S k n kind r → is_kept K n kind r later ≡ true → closed_fields (by_records Y R C N) kind r ≡ closed_fields (closed_up S K) kind r
    same_fields n symbolKind r later t h = refl
    same_fields n variableKind r later t h = refl
    same_fields n applicationKind r later t h =
        ap₂ (λ (x : ℕ) (xs : List ℕ). x ∷ (xs ++ drop (1 + r.count) r.fields)) (symbol_number (field_a r) (D.symbols n.row (field_a r) (map (earliest_of S) (argument_rows r)) h t.0.0) t.1)
        (map_each (λ a. (K.row (earliest_of S a) ≡ true) × Before (row_records S) k a) (λ a. get_or N (get_or R a 0) 0) (λ a. kept_below K.row (earliest_of S a)) (λ a z. row_number a z.0 z.1) (argument_rows r) (arguments_kept F S H Y R C G K D k n r t h))
    same_fields n inputKind r later t h =
        ap (λ (xs : List ℕ). xs ++ drop r.count r.fields)
        (map_each (λ m. (K.row (earliest_of S (literal_of m).1) ≡ true) × Before (row_records S) k (literal_of m).1) _ _ (λ m z. ap (λ (q : ℕ). 2 * q + pick (literal_of m).0 1 0) (row_number (literal_of m).1 z.0 z.1)) (take r.count r.fields)
        (each_unmap literal_of (λ (l : RowLiteral). (K.row (earliest_of S l.1) ≡ true) × Before (row_records S) k l.1) (take r.count r.fields) (literals_kept F S H Y R C G K D k n r t h)))
    same_fields n resolveKind r later t h = resolve_fields n.clause r t h
    same_fields n severalKind r later t h = resolve_fields n.clause r t h
    same_fields n factorKind r later t h = ap (λ (x : ℕ). x ∷ drop 1 r.fields) (clause_number_lem (field_a r) (factored_kept F S H Y R C G K D k n r t h) t.parent_before)
    same_fields n windowKind r later t h = ap (λ (x : ℕ). x ∷ drop 1 r.fields) (clause_number_lem (field_a r) (both_true (K.clause (field_a r)) (not (dated_in later (field_a r))) h).0 t.2)
    same_fields n otherKind r later t h = refl

    same_record : k < record_count F → kept_at k ≡ true → closed_record (by_records Y R C N) (record_at F k) ≡ closed_record (closed_up S K) (record_at F k)
    same_record l h =
        ap (λ (fs : List ℕ). record { kind = (record_at F k).kind; count = (record_at F k).count; fields = fs; days = (record_at F k).days })
        (same_fields (numbers_at F k) (kind_at F k) (record_at F k) (drop (suc k) (records F)) (H.told k l) h)

    -- A record that is kept gets its number; one that is not is no kept thing's.
    numbered_kept : k < record_count F → (n' : Next) → Shrunk K (numbers_at F k) n' → Numbered (suc k) (set N k (own_number Y R C n' (kind_at F k)))
    numbered_kept l n' Z = record {
      long = (let z = length-set N k (own_number Y R C n' (kind_at F k)) in let y = Q.long in omega arith);
      symbols = λ s j e h m. cell j m (kept_below K.symbol s) (λ o. Q.symbols s j e h o) (λ y. let z = H.symbol_is s j e in ap (own_number Y R C n') (ap (kind_at F) (sym y) ∙ z.1) ∙ Z.symbol ∙ ap (kept_below K.symbol) (ap (λ (i : ℕ). (numbers_at F i).symbol) (sym y) ∙ z.2));
      rows = λ q j e h m. cell j m (kept_below K.row q) (λ o. Q.rows q j e h o) (λ y. row_own Y R C n' (kind_at F k) (subst (λ (i : ℕ). RowKind (kind_at F i)) y (H.row_is q j e).1) ∙ Z.row ∙ ap (kept_below K.row) (ap (λ (i : ℕ). (numbers_at F i).row) (sym y) ∙ row_at_lem q j e h));
      clauses = λ m j e h o. let z = H.clause_is m j e in cell j o (kept_below K.clause m) (λ x. Q.clauses m j e h x) (λ y. clause_own Y R C n' (kind_at F k) (subst (λ (i : ℕ). ClauseKind (kind_at F i)) y z.1) ∙ Z.clause ∙ ap (kept_below K.clause) (ap (λ (i : ℕ). (numbers_at F i).clause) (sym y) ∙ z.2));
    }
      where
        cell : (j : ℕ) → j < suc k → (v : ℕ) → (j < k → get_or N j 0 ≡ v) → (j ≡ k → own_number Y R C n' (kind_at F k) ≡ v) → get_or (set N k (own_number Y R C n' (kind_at F k))) j 0 ≡ v
        cell j m v f g = try (eqb j k) refl
          where
            try : (b : Bool) → eqb j k ≡ b → get_or (set N k (own_number Y R C n' (kind_at F k))) j 0 ≡ v
            try true e = let y = equal j k e in ap (λ (i : ℕ). get_or (set N k (own_number Y R C n' (kind_at F k))) i 0) y ∙ get_or-set_same N k (own_number Y R C n' (kind_at F k)) 0 (let z = Q.long in omega arith) ∙ g y
            try false e = let d = unequal j k e in get_or-set_other N k j (own_number Y R C n' (kind_at F k)) 0 d ∙ f (omega arith)

    numbered_passed : kept_at k ≡ false → Numbered (suc k) N
    numbered_passed f = record {
      long = Q.long;
      symbols = λ s j e h m. Q.symbols s j e h (other j m (symbol_at s j e ∙ h));
      rows = λ q j e h m. Q.rows q j e h (other j m (row_kept_at q j e h));
      clauses = λ m j e h o. Q.clauses m j e h (other j o (clause_kept_at m j e h));
    }
      where
        other : (j : ℕ) → j < suc k → kept_at j ≡ true → j < k
        other j m h =
            let d : ¬ (j ≡ k) = λ y. true_not_false (subst (λ (i : ℕ). kept_at i ≡ true) y h) f in
            omega arith

  -- ── All records ──
  module _ (M : List ℕ) (marks : (k : ℕ) → k < record_count F → eqb (get_or M k 0) 0 ≡ not (is_kept K (numbers_at F k) (kind_at F k) (record_at F k) (drop (suc k) (records F)))) where
    abbrev Written : ℕ → List ℕ → Next → List Record → Type 0
    Written k N n' rs = marked_records Y R C M N n' k rs ≡ trimmed_from K (closed_up S K) (numbers_at F k) rs

    none_later_lem : (k : ℕ) → k ≡ record_count F → drop k (records F) ≡ []
    none_later_lem k e = ap (λ (n : ℕ). drop n (records F)) (e ∙ sym (records_length F)) ∙ drop-length (records F)

    pub written : (f k : ℕ) → k + f ≡ record_count F → (N : List ℕ) (n' : Next) → Numbered k N → Shrunk K (numbers_at F k) n' → marked_records Y R C M N n' k (drop k (records F)) ≡ trimmed_from K (closed_up S K) (numbers_at F k) (drop k (records F))
    written zero k e N n' Q Z = subst (Written k N n') (sym (none_later_lem k (omega arith))) refl
    written (suc f) k e N n' Q Z = subst (Written k N n') (sym (record_numbered F k below)) (try (kept_at k) refl (λ N₂ n₂ Q₂ Z₂. written f (suc k) (omega arith) N₂ n₂ Q₂ Z₂))
      where
        below : k < record_count F
        below = omega arith

        next : (n₂ : Next) → Shrunk K (next_after (numbers_at F k) (kind_at F k)) n₂ → Shrunk K (numbers_at F (suc k)) n₂
        next n₂ Z₂ = subst (λ (n : Next). Shrunk K n n₂) (sym (numbers_next_lem F k below)) Z₂

        number : trimmed_from K (closed_up S K) (numbers_at F (suc k)) (drop (suc k) (records F)) ≡ trimmed_from K (closed_up S K) (next_after (numbers_at F k) (kind_at F k)) (drop (suc k) (records F))
        number = ap (λ (n : Next). trimmed_from K (closed_up S K) n (drop (suc k) (records F))) (numbers_next_lem F k below)

        try : (b : Bool) → kept_at k ≡ b
            → ((N₂ : List ℕ) (n₂ : Next) → Numbered (suc k) N₂ → Shrunk K (numbers_at F (suc k)) n₂ → marked_records Y R C M N₂ n₂ (suc k) (drop (suc k) (records F)) ≡ trimmed_from K (closed_up S K) (numbers_at F (suc k)) (drop (suc k) (records F)))
            → Written k N n' (record_at F k ∷ drop (suc k) (records F))
        try b q ih =
            ap (λ (x : Bool). pick x (marked_records Y R C M N n' (suc k) (drop (suc k) (records F))) (closed_record (by_records Y R C N) (record_at F k) ∷ marked_records Y R C M (set N k (own_number Y R C n' (kind_at F k))) (next_after n' (kind_at F k)) (suc k) (drop (suc k) (records F)))) (marks k below ∙ ap not q)
            ∙ by b q
            ∙ ap (λ (x : Bool). pick x (closed_record (closed_up S K) (record_at F k) ∷ trimmed_from K (closed_up S K) (next_after (numbers_at F k) (kind_at F k)) (drop (suc k) (records F))) (trimmed_from K (closed_up S K) (next_after (numbers_at F k) (kind_at F k)) (drop (suc k) (records F)))) (sym q)
          where
            by : (b : Bool) → kept_at k ≡ b
                → pick (not b) (marked_records Y R C M N n' (suc k) (drop (suc k) (records F))) (closed_record (by_records Y R C N) (record_at F k) ∷ marked_records Y R C M (set N k (own_number Y R C n' (kind_at F k))) (next_after n' (kind_at F k)) (suc k) (drop (suc k) (records F)))
                ≡ pick b (closed_record (closed_up S K) (record_at F k) ∷ trimmed_from K (closed_up S K) (next_after (numbers_at F k) (kind_at F k)) (drop (suc k) (records F))) (trimmed_from K (closed_up S K) (next_after (numbers_at F k) (kind_at F k)) (drop (suc k) (records F)))
            by true h =
                ap₂ (λ (x : Record) (xs : List Record). x ∷ xs) (same_record k N Q below h)
                (ih (set N k (own_number Y R C n' (kind_at F k))) (next_after n' (kind_at F k)) (numbered_kept k N Q below n' Z) (next (next_after n' (kind_at F k)) (shrunk_kept K (numbers_at F k) n' Z (kind_at F k) (record_at F k) (drop (suc k) (records F)) h)) ∙ number)
            by false h = ih N n' (numbered_passed k N Q h) (next n' (shrunk_passed K (numbers_at F k) n' Z (kind_at F k) (record_at F k) (drop (suc k) (records F)) h)) ∙ number
