-- All records of the second file, shifted and without the symbols that the first has, stand behind those of the first.
use mathlib.Core.Path.{◌≡◌, refl, sym, ap, ◌∙◌, subst}
use mathlib.Core.Bool.{Bool, true, false, ◌&&◌}
use mathlib.Core.Option.{Option, none, some}
use mathlib.Core.List.{List, [], ◌∷◌, map}
use Prim.Native.Nat.{ℕ, suc, ◌+◌, ◌≤◌, ◌<◌}
use native.Mathlib.Omega.{arith}
use lib.Dec.{eqb, ltb, ltb→lt}
use lib.ListN.{length, get_or, drop, length-map, drop_of_length-le}
use lib.Seq.{drop-cons}
use Rattle.record.specs.Record.{pick, Record, Kind, symbolKind}
use Rattle.record.proofs.Records.{Shaped}
use Rattle.record.specs.Sorts.{is_symbol, is_step, unless}
use Rattle.unification.proofs.Tests.{to_t, both_true, true_not_false, some_not_none}
use Rattle.verdict.specs.Refusal.{kind_of_record}
use Rattle.verdict.specs.State.{State, arities, rows_of, derivations}
use Rattle.verdict.specs.Step.{stands, refused, Result, enter, step, read, all_stand, refused_at}
use Rattle.demands.proofs.Inversions.{stands_same, step_stands, not_below}
use Rattle.demands.proofs.RangeTests.{equal, kind_at}
use Rattle.verdict.proofs.Endings.{ending_stands, stands_not_refused}
use Rattle.merging.specs.Answer.{first_where, first_other}
use Rattle.merging.specs.Merging.{shifted, symbols_after, without_symbols}
use Rattle.merging.proofs.Beside.{Beside, symbol_dropped, record_goes}
use Rattle.merging.proofs.Counting.{step_counted, Listed}

-- ── Searches that found nothing so far ──

-- The first record is not of the sort, and none after it.
pub none_here : (sort : Record → Bool) (k : ℕ) (r : Record) (rs : List Record) → first_where sort k (r ∷ rs) ≡ none → (sort r ≡ false) × (first_where sort (suc k) rs ≡ none)
none_here sort k r rs q = try (sort r) refl q
  where
    try : (b : Bool) → sort r ≡ b → ◌≡◌ {A = Option ℕ} (elim b [ true ↦ some k | false ↦ first_where sort (suc k) rs ]) none → (sort r ≡ false) × (first_where sort (suc k) rs ≡ none)
    try true e p = absurd (some_not_none p refl)
    try false e p = (e, p)

-- A symbol that does not differ.
same_here : (a : ℕ) (xs : List ℕ) (k : ℕ) (r : Record) (rs : List Record) → is_symbol r ≡ true → first_other (a ∷ xs) k (r ∷ rs) ≡ none → (a ≡ r.count) × (first_other xs (suc k) rs ≡ none)
same_here a xs k r rs s q = try (is_symbol r) s (eqb a r.count) refl q
  where
    try : (b : Bool) → b ≡ true → (c : Bool) → eqb a r.count ≡ c
        → ◌≡◌ {A = Option ℕ} (elim b [ true ↦ elim c [ true ↦ first_other xs (suc k) rs | false ↦ some k ] | false ↦ first_other (a ∷ xs) (suc k) rs ]) none → (a ≡ r.count) × (first_other xs (suc k) rs ≡ none)
    try true p true e z = (equal a r.count e, z)
    try true p false e z = absurd (some_not_none z refl)
    try false p c e z = absurd (true_not_false p refl)

-- A record that is no symbol.
passed_over : (xs : List ℕ) (k : ℕ) (r : Record) (rs : List Record) → is_symbol r ≡ false → first_other xs k (r ∷ rs) ≡ first_other xs (suc k) rs
passed_over [] k r rs s = refl
passed_over (a ∷ xs) k r rs s = ap (λ (b : Bool). elim b [ true ↦ elim (eqb a r.count) [ true ↦ first_other xs (suc k) rs | false ↦ some k ] | false ↦ first_other (a ∷ xs) (suc k) rs ]) s

-- ── Record by record ──
module _ (S : State) (A : List ℕ) (L : Listed A S) where
  abbrev moved : Record → Record
  moved r = shifted (length (rows_of S)) (length (derivations S)) r

  pub record Behind (M : State) (j : ℕ) (rs : List Record) (T : State) : Type 0 where
    pub left : State
    pub reads : read M j rs ≡ all_stand left
    pub beside : Beside S T left

  abbrev kept : ℕ → List Record → List Record
  kept s rs = map moved (without_symbols (length A) s rs)

  pub read_behind : (T M : State) (k j i n : ℕ) (rs : List Record) (T'' : State) → Shaped rs → Beside S T M → first_where is_step i rs ≡ none → first_other (drop (length (arities T)) A) n rs ≡ none → read T k rs ≡ all_stand T''
      → Behind M j (map (λ r. shifted (length (rows_of S)) (length (derivations S)) r) (without_symbols (length A) (length (arities T)) rs)) T''
  read_behind T M k j i n [] T'' h B f o q = record { left = M; reads = refl; beside = subst (λ (X : State). Beside S X M) (ending_stands q) B }
  read_behind T M k j i n (r ∷ rs) T'' h B f o q =
      try (step T k r) refl q (λ U W m d p g. read_behind U W (suc k) m (suc i) (suc n) rs T'' h.1 d (none_here is_step i r rs f).1 g p)
    where
      -- The number of the next symbol.
      after : (U : State) → step T k r ≡ stands U → length (arities U) ≡ symbols_after (length (arities T)) r
      after U e =
          let c = (step_counted T k r U h.0 e).symbols in
          let a = length-map U.symbols (λ (x : ℕ × ℕ). x.1) in
          let b = length-map T.symbols (λ (x : ℕ × ℕ). x.1) in
          count (is_symbol r) a b c
        where
          count : (x : Bool) → length (arities U) ≡ length U.symbols → length (arities T) ≡ length T.symbols → length U.symbols ≡ pick x 1 0 + length T.symbols → length (arities U) ≡ pick x (suc (length (arities T))) (length (arities T))
          count true a b c = omega arith
          count false a b c = omega arith

      dropped : (U : State) → step T k r ≡ stands U → read U (suc k) rs ≡ all_stand T'' → is_symbol r ≡ true → length (arities T) < length A → ((X W : State) (m : ℕ) → Beside S X W → read X (suc k) rs ≡ all_stand T'' → first_other (drop (length (arities X)) A) (suc n) rs ≡ none → Behind W m (kept (length (arities X)) rs) T'') → Behind M j (kept (symbols_after (length (arities T)) r) rs) T''
      dropped U e p z l ih =
          let kind : kind_of_record r ≡ symbolKind = kind_at r 1 (equal r.kind 1 z) refl in
          let entered : enter T k symbolKind r ≡ stands U = subst (λ (x : Kind). enter T k x r ≡ stands U) kind (step_stands T k r U e).1 in
          let same = same_here (get_or A (length (arities T)) 0) (drop (suc (length (arities T))) A) n r rs z (ap (λ (xs : List ℕ). first_other xs n (r ∷ rs)) (sym (drop-cons A (length (arities T)) 0 l)) ∙ o) in
          let few : length (arities T) < length (arities S) = let m = L.many in omega arith in
          let d = symbol_dropped S T M B k j r U h.0 r.count few (L.arity (length (arities T)) l ∙ ap some same.0) (stands_same entered) in
          let number : length (arities U) ≡ suc (length (arities T)) = after U e ∙ ap (λ (b : Bool). pick b (suc (length (arities T))) (length (arities T))) z in
          subst (λ (x : ℕ). Behind M j (kept x rs) T'') (after U e) (ih U M j d p (ap (λ (x : ℕ). first_other (drop x A) (suc n) rs) number ∙ same.1))

      -- Nothing differs after a record that is kept.
      onward : (U : State) → step T k r ≡ stands U → (b : Bool) → is_symbol r ≡ b → (b ≡ true → length A ≤ length (arities T)) → first_other (drop (length (arities U)) A) (suc n) rs ≡ none
      onward U e true z l =
          let number : length (arities U) ≡ suc (length (arities T)) = after U e ∙ ap (λ (b : Bool). pick b (suc (length (arities T))) (length (arities T))) z in
          let m = l refl in
          ap (λ (xs : List ℕ). first_other xs (suc n) rs) (drop_of_length-le A {i = length (arities U)} (omega arith))
      onward U e false z l =
          let number : length (arities U) ≡ length (arities T) = after U e ∙ ap (λ (b : Bool). pick b (suc (length (arities T))) (length (arities T))) z in
          ap (λ (x : ℕ). first_other (drop x A) (suc n) rs) number ∙ sym (passed_over (drop (length (arities T)) A) n r rs z) ∙ o

      remains : (U : State) → step T k r ≡ stands U → read U (suc k) rs ≡ all_stand T'' → (is_symbol r ≡ true → length A ≤ length (arities T)) → ((X W : State) (m : ℕ) → Beside S X W → read X (suc k) rs ≡ all_stand T'' → first_other (drop (length (arities X)) A) (suc n) rs ≡ none → Behind W m (kept (length (arities X)) rs) T'') → Behind M j (moved r ∷ kept (symbols_after (length (arities T)) r) rs) T''
      remains U e p l ih =
          let G = record_goes S T M B k j r U h.0 e (none_here is_step i r rs f).0 (λ z. let m = l z in let y = L.many in omega arith) in
          let R = subst (λ (x : ℕ). Behind G.next (suc j) (kept x rs) T'') (after U e) (ih U G.next (suc j) G.beside p (onward U e (is_symbol r) refl l)) in
          record {
            left = R.left;
            reads = ap (λ (x : Result). elim x [ stands X ↦ read X (suc j) (kept (symbols_after (length (arities T)) r) rs) | refused q ↦ refused_at M q j ]) G.steps ∙ R.reads;
            beside = R.beside;
          }

      choose : (U : State) → step T k r ≡ stands U → read U (suc k) rs ≡ all_stand T'' → ((X W : State) (m : ℕ) → Beside S X W → read X (suc k) rs ≡ all_stand T'' → first_other (drop (length (arities X)) A) (suc n) rs ≡ none → Behind W m (kept (length (arities X)) rs) T'') → (b : Bool) → (is_symbol r && ltb (length (arities T)) (length A)) ≡ b → Behind M j (map moved (unless b r (without_symbols (length A) (symbols_after (length (arities T)) r) rs))) T''
      choose U e p ih true z =
          let t = both_true (is_symbol r) (ltb (length (arities T)) (length A)) z in
          dropped U e p t.0 (ltb→lt (length (arities T)) (length A) (to_t (ltb (length (arities T)) (length A)) t.1)) ih
      choose U e p ih false z = remains U e p (λ y. not_below (length (arities T)) (length A) (sym (ap (λ (x : Bool). x && ltb (length (arities T)) (length A)) y) ∙ z)) ih

      try : (x : Result) → step T k r ≡ x → elim x [ stands U ↦ read U (suc k) rs | refused p ↦ refused_at T p k ] ≡ all_stand T''
          → ((U W : State) (m : ℕ) → Beside S U W → read U (suc k) rs ≡ all_stand T'' → first_other (drop (length (arities U)) A) (suc n) rs ≡ none → Behind W m (kept (length (arities U)) rs) T'')
          → Behind M j (map moved (unless (is_symbol r && ltb (length (arities T)) (length A)) r (without_symbols (length A) (symbols_after (length (arities T)) r) rs))) T''
      try (stands U) e p ih = choose U e p ih (is_symbol r && ltb (length (arities T)) (length A)) refl
      try (refused p) e z ih = absurd (stands_not_refused (sym z))
