-- How many symbols, rows and clauses the records of a file declare: what reading them leaves; and the arities of its symbols.
use mathlib.Core.Path.{◌≡◌, refl, sym, ap, ◌∙◌, subst}
use mathlib.Core.Bool.{Bool, true, false, ◌&&◌}
use mathlib.Core.Option.{some}
use mathlib.Core.List.{List, [], ◌∷◌, ◌++◌, append_assoc, append-nil}
use Prim.Native.Nat.{ℕ, suc, ◌+◌, ◌<◌}
use native.Mathlib.Omega.{arith}
use lib.Dec.{eqb, leb, ltb, ltb→lt}
use lib.ListN.{length, get_or, length-append, get_or-append}
use lib.Seq.{get_or-append-add}
use Rattle.record.specs.Record.{pick, File, Record, records}
use Rattle.record.proofs.Records.{Shaped, records_shaped}
use Rattle.record.specs.Sorts.{is_symbol, is_row, is_clause, how_many}
use Rattle.unification.proofs.Tests.{to_t, true_not_false}
use Rattle.demands.specs.Conditions.{RightLiterals, of_one, of_some}
use Rattle.demands.specs.Demands.{Adds, adds_symbol, adds_variable, adds_application, adds_input, adds_resolvent, adds_factor, adds_window}
use Rattle.verdict.specs.State.{State, empty_state, with_symbol, entry, arities, arity_of}
use Rattle.verdict.specs.Step.{stands, refused, Result, step, read, all_stand, refused_at}
use Rattle.verdict.specs.Verdict.{ending, Stands}
use Rattle.demands.proofs.Added.{step_adds}
use Rattle.demands.proofs.Inversions.{entry_more, entry_new, not_below}
use Rattle.verdict.proofs.Endings.{ending_stands, stands_not_refused}
use Rattle.merging.specs.Answer.{symbol_list}

-- ── One record ──

pub record Counted (S : State) (r : Record) (T : State) : Type 0 where
  pub symbols : length T.symbols ≡ pick (is_symbol r) 1 0 + length S.symbols
  pub rows : length T.rows ≡ pick (is_row r) 1 0 + length S.rows
  pub clauses : length T.clauses ≡ pick (is_clause r) 1 0 + length S.clauses

module _ (S : State) (k : ℕ) (r : Record) (T : State) where
  -- By its kind's number.
  numbered_so : (n : ℕ) (U : State) → r.kind ≡ n → T ≡ U
      → length U.symbols ≡ pick (eqb n 1) 1 0 + length S.symbols
      → length U.rows ≡ pick (leb 2 n && leb n 3) 1 0 + length S.rows
      → length U.clauses ≡ pick (leb 4 n && leb n 7) 1 0 + length S.clauses
      → Counted S r T
  numbered_so n U e q s w c = record {
    symbols = ap (λ (X : State). length X.symbols) q ∙ s ∙ ap (λ (m : ℕ). pick (eqb m 1) 1 0 + length S.symbols) (sym e);
    rows = ap (λ (X : State). length X.rows) q ∙ w ∙ ap (λ (m : ℕ). pick (leb 2 m && leb m 3) 1 0 + length S.rows) (sym e);
    clauses = ap (λ (X : State). length X.clauses) q ∙ c ∙ ap (λ (m : ℕ). pick (leb 4 m && leb m 7) 1 0 + length S.clauses) (sym e);
  }

  of_resolve_lem : (ns : List ℕ) (U : State) → RightLiterals r ns → T ≡ U → length U.symbols ≡ length S.symbols → length U.rows ≡ length S.rows → length U.clauses ≡ suc (length S.clauses) → Counted S r T
  of_resolve_lem ns U (of_one e) q a b c = numbered_so 5 U e q (omega arith) (omega arith) (omega arith)
  of_resolve_lem ns U (of_some e) q a b c = numbered_so 7 U e q (omega arith) (omega arith) (omega arith)

  of_adds : Adds S k r T → Counted S r T
  of_adds (adds_symbol e q) = numbered_so 1 _ e q (omega arith) (omega arith) (omega arith)
  of_adds (adds_variable e j q) = numbered_so 2 _ e q (omega arith) (omega arith) (omega arith)
  of_adds (adds_application e l h j q) = numbered_so 3 _ e q (omega arith) (omega arith) (omega arith)
  of_adds (adds_input e l h q) = numbered_so 4 _ e q (omega arith) (omega arith) (omega arith)
  of_adds (adds_resolvent R H q) = of_resolve_lem _ _ R.is_resolve q refl refl refl
  of_adds (adds_factor F H q) = numbered_so 6 _ F.is_factor q (omega arith) (omega arith) (omega arith)
  of_adds (adds_window w q) = numbered_so 8 _ w.0 q (omega arith) (omega arith) (omega arith)

  pub step_counted : length r.fields ≡ 7 → step S k r ≡ stands T → Counted S r T
  step_counted h q = of_adds (step_adds S k r T h q)

-- ── All records ──

pub record CountedAll (S : State) (rs : List Record) (T : State) : Type 0 where
  pub symbols : length T.symbols ≡ how_many is_symbol rs + length S.symbols
  pub rows : length T.rows ≡ how_many is_row rs + length S.rows
  pub clauses : length T.clauses ≡ how_many is_clause rs + length S.clauses

pub read_counted : (S : State) (k : ℕ) (rs : List Record) (T : State) → Shaped rs → read S k rs ≡ all_stand T → CountedAll S rs T
read_counted S k [] T h q =
    let e = ending_stands q in
    record { symbols = ap (λ (X : State). length X.symbols) (sym e) ∙ omega arith; rows = ap (λ (X : State). length X.rows) (sym e) ∙ omega arith; clauses = ap (λ (X : State). length X.clauses) (sym e) ∙ omega arith }
read_counted S k (r ∷ rs) T h q = try (step S k r) refl q (λ U p. read_counted U (suc k) rs T h.1 p)
  where
    both : (U : State) → Counted S r U → CountedAll U rs T → CountedAll S (r ∷ rs) T
    both U C A = record { symbols = let a = C.symbols in let b = A.symbols in omega arith; rows = let a = C.rows in let b = A.rows in omega arith; clauses = let a = C.clauses in let b = A.clauses in omega arith }

    try : (o : Result) → step S k r ≡ o → elim o [ stands U ↦ read U (suc k) rs | refused p ↦ refused_at S p k ] ≡ all_stand T
        → ((U : State) → read U (suc k) rs ≡ all_stand T → CountedAll U rs T) → CountedAll S (r ∷ rs) T
    try (stands U) e p ih = both U (step_counted S k r U h.0 e) (ih U p)
    try (refused p) e z ih = absurd (stands_not_refused (sym z))

-- ── The symbols ──

-- A state has the symbols of a list, by their numbers.
pub record Listed (A : List ℕ) (S : State) : Type 0 where
  pub many : length (arities S) ≡ length A
  pub arity : (s : ℕ) → s < length A → arity_of S s ≡ some (get_or A s 0)

listed_more : (A : List ℕ) (S : State) (k a : ℕ) → Listed A S → Listed (A ++ (a ∷ [])) (with_symbol S k a)
listed_more A S k a L = record { many = let z = L.many in length_one (length-append A (a ∷ [])) z; arity = at }
  where
    length_one : length (A ++ (a ∷ [])) ≡ length A + 1 → length (arities S) ≡ length A → suc (length (arities S)) ≡ length (A ++ (a ∷ []))
    length_one e z = omega arith

    at : (s : ℕ) → s < length (A ++ (a ∷ [])) → arity_of (with_symbol S k a) s ≡ some (get_or (A ++ (a ∷ [])) s 0)
    at s l = try (ltb s (length A)) refl
      where
        try : (b : Bool) → ltb s (length A) ≡ b → arity_of (with_symbol S k a) s ≡ some (get_or (A ++ (a ∷ [])) s 0)
        try true q =
            let m = ltb→lt s (length A) (to_t (ltb s (length A)) q) in
            entry_more a (arities S) s (get_or A s 0) (L.arity s m) ∙ ap some (sym (get_or-append A (a ∷ []) 0 s m))
        try false q =
            let m = not_below s (length A) q in
            let z = length-append A (a ∷ []) in
            let e : s ≡ length (arities S) = let y = L.many in omega arith in
            let n : s ≡ length A + 0 = omega arith in
            ap (arity_of (with_symbol S k a)) e ∙ entry_new a (arities S) ∙ ap some (sym (get_or-append-add A (a ∷ []) 0 0)) ∙ ap (λ (i : ℕ). some (get_or (A ++ (a ∷ [])) i 0)) (sym n)

listed_same : (A : List ℕ) (S T : State) → arities T ≡ arities S → Listed A S → Listed A T
listed_same A S T e L = record { many = ap length e ∙ L.many; arity = λ s l. ap (λ (xs : List ℕ). entry xs s) e ∙ L.arity s l }

-- The symbols that a record adds to a list.
abbrev pub with_symbols : List ℕ → Record → List ℕ
with_symbols A r = A ++ symbol_list (r ∷ [])

module _ (S : State) (k : ℕ) (r : Record) (T : State) (A : List ℕ) (L : Listed A S) where
  none_added : (n : ℕ) → r.kind ≡ n → eqb n 1 ≡ false → arities T ≡ arities S → Listed (with_symbols A r) T
  none_added n e f q = subst (λ (B : List ℕ). Listed B T) (sym (nothing (is_symbol r) (ap (λ (m : ℕ). eqb m 1) e ∙ f))) (listed_same A S T q L)
    where
      nothing : (b : Bool) → b ≡ false → A ++ (elim b [ true ↦ r.count ∷ [] | false ↦ [] ]) ≡ A
      nothing true p = absurd (true_not_false refl p)
      nothing false p = append-nil A

  one_added : r.kind ≡ 1 → T ≡ with_symbol S k r.count → Listed (with_symbols A r) T
  one_added e q = subst (λ (U : State). Listed (with_symbols A r) U) (sym q) (subst (λ (B : List ℕ). Listed B (with_symbol S k r.count)) (sym (something (is_symbol r) (ap (λ (m : ℕ). eqb m 1) e))) (listed_more A S k r.count L))
    where
      something : (b : Bool) → b ≡ true → A ++ (elim b [ true ↦ r.count ∷ [] | false ↦ [] ]) ≡ A ++ (r.count ∷ [])
      something true p = refl
      something false p = absurd (true_not_false p refl)

  resolvent_added : (ns : List ℕ) → RightLiterals r ns → arities T ≡ arities S → Listed (with_symbols A r) T
  resolvent_added ns (of_one e) q = none_added 5 e refl q
  resolvent_added ns (of_some e) q = none_added 7 e refl q

  listed_by : Adds S k r T → Listed (with_symbols A r) T
  listed_by (adds_symbol e q) = one_added e q
  listed_by (adds_variable e j q) = none_added 2 e refl (ap arities q)
  listed_by (adds_application e l h j q) = none_added 3 e refl (ap arities q)
  listed_by (adds_input e l h q) = none_added 4 e refl (ap arities q)
  listed_by (adds_resolvent R H q) = resolvent_added _ R.is_resolve (ap arities q)
  listed_by (adds_factor F H q) = none_added 6 F.is_factor refl (ap arities q)
  listed_by (adds_window w q) = none_added 8 w.0 refl (ap arities q)

list_joined : (r : Record) (rs : List Record) → symbol_list (r ∷ []) ++ symbol_list rs ≡ symbol_list (r ∷ rs)
list_joined r rs = try (is_symbol r)
  where
    try : (b : Bool) → ◌≡◌ {A = List ℕ} ((elim b [ true ↦ r.count ∷ [] | false ↦ [] ]) ++ symbol_list rs) (elim b [ true ↦ r.count ∷ symbol_list rs | false ↦ symbol_list rs ])
    try true = refl
    try false = refl

pub read_listed : (S : State) (k : ℕ) (rs : List Record) (T : State) (A : List ℕ) → Listed A S → Shaped rs → read S k rs ≡ all_stand T → Listed (A ++ symbol_list rs) T
read_listed S k [] T A L h q = subst (λ (B : List ℕ). Listed B T) (sym (append-nil A)) (subst (Listed A) (ending_stands q) L)
read_listed S k (r ∷ rs) T A L h q = try (step S k r) refl q (λ U M p. read_listed U (suc k) rs T (with_symbols A r) M h.1 p)
  where
    try : (o : Result) → step S k r ≡ o → elim o [ stands U ↦ read U (suc k) rs | refused p ↦ refused_at S p k ] ≡ all_stand T
        → ((U : State) → Listed (with_symbols A r) U → read U (suc k) rs ≡ all_stand T → Listed (with_symbols A r ++ symbol_list rs) T) → Listed (A ++ symbol_list (r ∷ rs)) T
    try (stands U) e p ih =
        subst (λ (B : List ℕ). Listed B T) (append_assoc A (symbol_list (r ∷ [])) (symbol_list rs) ∙ ap (λ (B : List ℕ). A ++ B) (list_joined r rs)) (ih U (listed_by S k r U A L (step_adds S k r U h.0 e)) p)
    try (refused p) e z ih = absurd (stands_not_refused (sym z))

-- ── A file that stands ──
module _ (file : File) (S : State) (st : Stands file S) where
  pub stands_counted : CountedAll empty_state (records file) S
  unfolding ending
  stands_counted = read_counted empty_state 0 (records file) S (records_shaped file) st.reads

  pub stands_listed : Listed (symbol_list (records file)) S
  unfolding ending
  stands_listed = read_listed empty_state 0 (records file) S [] (record { many = refl; arity = λ s l. absurd (omega arith) }) (records_shaped file) st.reads
