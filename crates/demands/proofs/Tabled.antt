-- A state's clauses as its tables hold them: each is stored in the sense of the crate derivation.
use mathlib.Core.Path.{◌≡◌, refl, sym, ap, ap₂, ◌∙◌, subst}
use mathlib.Core.Bool.{Bool, true, false}
use mathlib.Core.Option.{some}
use mathlib.Core.List.{List, [], ◌∷◌, ◌++◌, map, append_assoc}
use Prim.Native.Nat.{ℕ, zero, suc, ◌+◌, ◌-◌, ◌*◌, ◌/◌, ◌%◌, ◌<◌}
use native.Mathlib.Nat.{add-zero}
use native.Mathlib.Omega.{arith}
use lib.Dec.{eqb, eqb→eq}
use lib.ListN.{length, get_or, take, replicate, length-append, length-map, length-replicate, get_or-append}
use lib.Seq.{ext_get_or, get_or-append-add, take-append_seam}
use Rattle.record.specs.Record.{pick}
use Rattle.unification.specs.Bindings.{binding_at, bindings_from}
use Rattle.unification.specs.Environment.{Binding}
use Rattle.unification.specs.Nodes.{part}
use Rattle.unification.proofs.Tests.{to_t, some_not_none, some_injective}
use Rattle.derivation.specs.Derivation.{input, RowLiteral, literal_of, Derivation, resolve, factor, own_bindings, clause_number}
use Rattle.derivation.specs.Stored.{literal_number, cells_of_origin, origin_list, origin_code, right_cells, origin_numbers, literals_cell, Cells, Stored, stored_input, stored_resolve, stored_factor}
use Rattle.verdict.specs.State.{entry}
use Rattle.verdict.specs.Tables.{cells_of_clause, clause_cells, cells_of_bindings, binding_cells, bindings_of}
use Rattle.demands.proofs.Acceptance.{cells_length}
use Rattle.demands.proofs.Inversions.{entry_below, entry_more}
use Rattle.demands.proofs.Sources.{SourceOf, Sourced, earlier, source_of, earlier_length, number_of}

abbrev pub bare_clause : ℕ × Derivation → Derivation
bare_clause c = c.1

-- The cells of clause n in the table of clauses.
pub clause_cell_lem : (cs : List (ℕ × Derivation)) (n i : ℕ) (c : ℕ × Derivation) → i < 5 → entry cs n ≡ some c → get_or (clause_cells cs) (5 * n + i) 0 ≡ get_or (cells_of_clause c.0 (bindings_of (map bare_clause (earlier cs n))) c.1) i 0
clause_cell_lem [] n i c l q = absurd (some_not_none refl q)
clause_cell_lem (d ∷ cs) n i c l q = try (eqb n (length cs)) refl q (λ p. clause_cell_lem cs n i c l p)
  where
    five : List ℕ
    five = cells_of_clause d.0 (bindings_of (map bare_clause cs)) d.1

    try : (b : Bool) → eqb n (length cs) ≡ b → pick b (some d) (entry cs n) ≡ some c
        → (entry cs n ≡ some c → get_or (clause_cells cs) (5 * n + i) 0 ≡ get_or (cells_of_clause c.0 (bindings_of (map bare_clause (earlier cs n))) c.1) i 0)
        → get_or (clause_cells cs ++ five) (5 * n + i) 0 ≡ get_or (cells_of_clause c.0 (bindings_of (map bare_clause (pick b cs (earlier cs n)))) c.1) i 0
    try true p r k =
        let e : n ≡ length cs = eqb→eq n (length cs) (to_t (eqb n (length cs)) p) in
        let z : 5 * n + i ≡ length (clause_cells cs) + i = omega (arith, cells_length cs) in
        ap (λ (j : ℕ). get_or (clause_cells cs ++ five) j 0) z ∙ get_or-append-add (clause_cells cs) five i 0
        ∙ ap (λ (x : ℕ × Derivation). get_or (cells_of_clause x.0 (bindings_of (map bare_clause cs)) x.1) i 0) (some_injective r)
    try false p r k =
        let z = entry_below cs n c r in
        get_or-append (clause_cells cs) five 0 (5 * n + i) (omega (arith, cells_length cs)) ∙ k r

-- The clause of a number, with its record.
pub entry_numbered : (cs : List (ℕ × Derivation)) (n : ℕ) (d : Derivation) → entry (map (λ (c : ℕ × Derivation). c.1) cs) n ≡ some d → (k : ℕ) × (entry cs n ≡ some (k, d))
entry_numbered [] n d q = absurd (some_not_none refl q)
entry_numbered (c ∷ cs) n d q = try (eqb n (length cs)) (subst (λ (m : ℕ). pick (eqb n m) (some c.1) (entry (map bare_clause cs) n) ≡ some d) (length-map cs bare_clause) q) (λ p. entry_numbered cs n d p)
  where
    try : (b : Bool) → pick b (some c.1) (entry (map bare_clause cs) n) ≡ some d → (entry (map bare_clause cs) n ≡ some d → (k : ℕ) × (entry cs n ≡ some (k, d))) → (k : ℕ) × (pick b (some c) (entry cs n) ≡ some (k, d))
    try true p h = (c.0, ap (λ (x : Derivation). some (c.0, x)) (some_injective p))
    try false p h = h p

-- Bindings are read off their cells.
pub bindings_length : (bs : List Binding) → length (cells_of_bindings bs) ≡ 4 * length bs
bindings_length [] = refl
bindings_length (b ∷ bs) =
    let h = bindings_length bs in
    length-append (cells_of_bindings bs) (b.0.0 ∷ b.0.1 ∷ b.1.0 ∷ b.1.1 ∷ []) ∙ omega (arith, h)

pub all_bindings_length : (cs : List Derivation) → length (binding_cells cs) ≡ 4 * bindings_of cs
all_bindings_length [] = refl
all_bindings_length (c ∷ cs) =
    let h = all_bindings_length cs in
    let g = bindings_length (own_bindings c) in
    length-append (binding_cells cs) (cells_of_bindings (own_bindings c)) ∙ omega (arith, h, g)

-- What a list reads as depends on its cells from the first on.
same_binding : (A B : List ℕ) (h : ℕ) → ((i : ℕ) → i < 4 → get_or A (4 * h + i) 0 ≡ get_or B (4 * h + i) 0) → binding_at A h ≡ binding_at B h
same_binding A B h f =
    let p : get_or A (4 * h) 0 ≡ get_or B (4 * h) 0 = rw add-zero at (f 0 (omega arith)) in
    λ i. ((p i, f 1 (omega arith) i), (f 2 (omega arith) i, f 3 (omega arith) i))

pub same_bindings : (A B : List ℕ) (first n : ℕ) → ((i : ℕ) → i < 4 * (first + n) → get_or A i 0 ≡ get_or B i 0) → bindings_from A first n ≡ bindings_from B first n
same_bindings A B first zero f = refl
same_bindings A B first (suc n) f =
    ap₂ (λ (b : Binding) (r : List Binding). b ∷ r)
    (same_binding A B (first + n) (λ i l. f (4 * (first + n) + i) (omega arith)))
    (same_bindings A B first n (λ i l. f i (omega arith)))

read_four : (X Y : List ℕ) (b : Binding) (h : ℕ) → length X ≡ 4 * h → binding_at (X ++ ((b.0.0 ∷ b.0.1 ∷ b.1.0 ∷ b.1.1 ∷ []) ++ Y)) h ≡ b
read_four X Y b h l =
    let at : (i : ℕ) → get_or (X ++ ((b.0.0 ∷ b.0.1 ∷ b.1.0 ∷ b.1.1 ∷ []) ++ Y)) (4 * h + i) 0 ≡ get_or ((b.0.0 ∷ b.0.1 ∷ b.1.0 ∷ b.1.1 ∷ []) ++ Y) i 0
    = λ i. ap (λ (n : ℕ). get_or (X ++ ((b.0.0 ∷ b.0.1 ∷ b.1.0 ∷ b.1.1 ∷ []) ++ Y)) (n + i) 0) (sym l) ∙ get_or-append-add X ((b.0.0 ∷ b.0.1 ∷ b.1.0 ∷ b.1.1 ∷ []) ++ Y) i 0 in
    let p : get_or (X ++ ((b.0.0 ∷ b.0.1 ∷ b.1.0 ∷ b.1.1 ∷ []) ++ Y)) (4 * h) 0 ≡ b.0.0 = rw add-zero at (at 0) in
    λ i. ((p i, at 1 i), (at 2 i, at 3 i))

pub read_bindings : (X Y : List ℕ) (bs : List Binding) (first : ℕ) → length X ≡ 4 * first → bindings_from (X ++ (cells_of_bindings bs ++ Y)) first (length bs) ≡ bs
read_bindings X Y [] first l = refl
read_bindings X Y (b ∷ bs) first l =
    let four : List ℕ = b.0.0 ∷ b.0.1 ∷ b.1.0 ∷ b.1.1 ∷ [] in
    let n : length (X ++ cells_of_bindings bs) ≡ 4 * (first + length bs) = length-append X (cells_of_bindings bs) ∙ omega (arith, bindings_length bs, l) in
    let e : X ++ ((cells_of_bindings bs ++ (b.0.0 ∷ b.0.1 ∷ b.1.0 ∷ b.1.1 ∷ [])) ++ Y) ≡ (X ++ cells_of_bindings bs) ++ ((b.0.0 ∷ b.0.1 ∷ b.1.0 ∷ b.1.1 ∷ []) ++ Y) = simp append_assoc in
    let r : X ++ ((cells_of_bindings bs ++ (b.0.0 ∷ b.0.1 ∷ b.1.0 ∷ b.1.1 ∷ [])) ++ Y) ≡ X ++ (cells_of_bindings bs ++ ((b.0.0 ∷ b.0.1 ∷ b.1.0 ∷ b.1.1 ∷ []) ++ Y)) = simp append_assoc in
    ap₂ (λ (c : Binding) (r : List Binding). c ∷ r)
    (ap (λ (t : List ℕ). binding_at t (first + length bs)) e ∙ read_four (X ++ cells_of_bindings bs) Y b (first + length bs) n)
    (ap (λ (t : List ℕ). bindings_from t first (length bs)) r ∙ read_bindings X ((b.0.0 ∷ b.0.1 ∷ b.1.0 ∷ b.1.1 ∷ []) ++ Y) bs first l)

-- The bindings of clause n stand after those of the clauses before it.
pub clause_bindings : (cs : List (ℕ × Derivation)) (Y : List ℕ) (n : ℕ) (c : ℕ × Derivation) → entry cs n ≡ some c
    → bindings_from (binding_cells (map bare_clause cs) ++ Y) (bindings_of (map bare_clause (earlier cs n))) (length (own_bindings c.1)) ≡ own_bindings c.1
clause_bindings [] Y n c q = absurd (some_not_none refl q)
clause_bindings (d ∷ cs) Y n c q = try (eqb n (length cs)) q (λ p Z. clause_bindings cs Z n c p)
  where
    try : (b : Bool) → pick b (some d) (entry cs n) ≡ some c
        → (entry cs n ≡ some c → (Z : List ℕ) → bindings_from (binding_cells (map bare_clause cs) ++ Z) (bindings_of (map bare_clause (earlier cs n))) (length (own_bindings c.1)) ≡ own_bindings c.1)
        → bindings_from ((binding_cells (map bare_clause cs) ++ cells_of_bindings (own_bindings d.1)) ++ Y) (bindings_of (map bare_clause (pick b cs (earlier cs n)))) (length (own_bindings c.1)) ≡ own_bindings c.1
    try true p k =
        let e : d ≡ c = some_injective p in
        let f : (binding_cells (map bare_clause cs) ++ cells_of_bindings (own_bindings d.1)) ++ Y ≡ binding_cells (map bare_clause cs) ++ (cells_of_bindings (own_bindings d.1) ++ Y) = simp append_assoc in
        rw f (subst (λ (x : ℕ × Derivation). bindings_from (binding_cells (map bare_clause cs) ++ (cells_of_bindings (own_bindings d.1) ++ Y)) (bindings_of (map bare_clause cs)) (length (own_bindings x.1)) ≡ own_bindings x.1) e
        (read_bindings (binding_cells (map bare_clause cs)) Y (own_bindings d.1) (bindings_of (map bare_clause cs)) (all_bindings_length (map bare_clause cs))))
    try false p k =
        let f : (binding_cells (map bare_clause cs) ++ cells_of_bindings (own_bindings d.1)) ++ Y ≡ binding_cells (map bare_clause cs) ++ (cells_of_bindings (own_bindings d.1) ++ Y) = simp append_assoc in
        rw f (k p (cells_of_bindings (own_bindings d.1) ++ Y))

-- Literals are read off their numbers, and numbers off their literals.
pub literal_back : (l : RowLiteral) → literal_of (literal_number l) ≡ l
literal_back l = try l.0 refl
  where
    signed : (b : Bool) → l.0 ≡ b → eqb ((2 * l.1 + pick b 1 0) % 2) 1 ≡ b → (2 * l.1 + pick b 1 0) / 2 ≡ l.1 → literal_of (2 * l.1 + pick l.0 1 0) ≡ l
    signed b q s h =
        let x : eqb ((2 * l.1 + pick l.0 1 0) % 2) 1 ≡ l.0 = ap (λ (c : Bool). eqb ((2 * l.1 + pick c 1 0) % 2) 1) q ∙ s ∙ sym q in
        let y : (2 * l.1 + pick l.0 1 0) / 2 ≡ l.1 = ap (λ (c : Bool). (2 * l.1 + pick c 1 0) / 2) q ∙ h in
        λ i. (x i, y i)

    try : (b : Bool) → l.0 ≡ b → literal_of (2 * l.1 + pick l.0 1 0) ≡ l
    try true q =
        let e : (2 * l.1 + 1) % 2 ≡ 1 = omega arith in
        signed true q (rw e refl) (omega arith)
    try false q =
        let e : (2 * l.1 + 0) % 2 ≡ 0 = omega arith in
        signed false q (rw e refl) (omega arith)

pub literals_back : (ls : List RowLiteral) → map literal_of (map literal_number ls) ≡ ls
literals_back [] = refl
literals_back (l ∷ ls) = ap₂ (λ (x : RowLiteral) (xs : List RowLiteral). x ∷ xs) (literal_back l) (literals_back ls)

-- Seven numbers, read one by one.
pub seven_numbers : (xs : List ℕ) → length xs ≡ 7 → get_or xs 0 0 ∷ get_or xs 1 0 ∷ get_or xs 2 0 ∷ get_or xs 3 0 ∷ get_or xs 4 0 ∷ get_or xs 5 0 ∷ get_or xs 6 0 ∷ [] ≡ xs
seven_numbers xs l = ext_get_or 0 (get_or xs 0 0 ∷ get_or xs 1 0 ∷ get_or xs 2 0 ∷ get_or xs 3 0 ∷ get_or xs 4 0 ∷ get_or xs 5 0 ∷ get_or xs 6 0 ∷ []) xs (sym l) at
  where
    at : (i : ℕ) → i < 7 → get_or (get_or xs 0 0 ∷ get_or xs 1 0 ∷ get_or xs 2 0 ∷ get_or xs 3 0 ∷ get_or xs 4 0 ∷ get_or xs 5 0 ∷ get_or xs 6 0 ∷ []) i 0 ≡ get_or xs i 0
    at zero h = refl
    at (suc zero) h = refl
    at (suc (suc zero)) h = refl
    at (suc (suc (suc zero))) h = refl
    at (suc (suc (suc (suc zero)))) h = refl
    at (suc (suc (suc (suc (suc zero))))) h = refl
    at (suc (suc (suc (suc (suc (suc zero)))))) h = refl
    at (suc (suc (suc (suc (suc (suc (suc i))))))) h = absurd (omega arith)

four_numbers : (xs : List ℕ) → length xs ≡ 4 → get_or xs 0 0 ∷ get_or xs 1 0 ∷ get_or xs 2 0 ∷ get_or xs 3 0 ∷ [] ≡ xs
four_numbers xs l = ext_get_or 0 (get_or xs 0 0 ∷ get_or xs 1 0 ∷ get_or xs 2 0 ∷ get_or xs 3 0 ∷ []) xs (sym l) at
  where
    at : (i : ℕ) → i < 4 → get_or (get_or xs 0 0 ∷ get_or xs 1 0 ∷ get_or xs 2 0 ∷ get_or xs 3 0 ∷ []) i 0 ≡ get_or xs i 0
    at zero h = refl
    at (suc zero) h = refl
    at (suc (suc zero)) h = refl
    at (suc (suc (suc zero))) h = refl
    at (suc (suc (suc (suc i)))) h = absurd (omega arith)

-- Every clause has eight cells in the table of origins.
pub eight_cells : (older : List Derivation) (d : Derivation) → SourceOf older d → length (cells_of_origin d) ≡ 8
eight_cells older (input number ls) s =
    ap suc (length-append (map literal_number ls) (replicate (7 - length ls) 0) ∙ omega (arith, length-map ls literal_number, length-replicate {A = ℕ} (7 - length ls) 0, s.1))
eight_cells older (factor number c a b bs) s = refl
eight_cells older (resolve number l a r ns bs) s =
    let f = s.4 in
    let n : length (ns ++ replicate (4 - length ns) 0) ≡ 4 = length-append ns (replicate (4 - length ns) 0) ∙ omega (arith, length-replicate {A = ℕ} (4 - length ns) 0) in
    ap (λ (m : ℕ). suc (suc (suc (suc m)))) n

pub origin_length : (ks : List Derivation) → Sourced ks → length (origin_list ks) ≡ 8 * length ks
origin_length [] G = refl
origin_length (k ∷ ks) G = length-append (origin_list ks) (cells_of_origin k) ∙ omega (arith, origin_length ks G.1, eight_cells ks k G.0)

origin_cell : (ks : List Derivation) → Sourced ks → (n i : ℕ) (d : Derivation) → i < 8 → entry ks n ≡ some d → get_or (origin_list ks) (8 * n + i) 0 ≡ get_or (cells_of_origin d) i 0
origin_cell [] G n i d l q = absurd (some_not_none refl q)
origin_cell (k ∷ ks) G n i d l q = try (eqb n (length ks)) refl q (λ p. origin_cell ks G.1 n i d l p)
  where
    try : (b : Bool) → eqb n (length ks) ≡ b → pick b (some k) (entry ks n) ≡ some d → (entry ks n ≡ some d → get_or (origin_list ks) (8 * n + i) 0 ≡ get_or (cells_of_origin d) i 0)
        → get_or (origin_list ks ++ cells_of_origin k) (8 * n + i) 0 ≡ get_or (cells_of_origin d) i 0
    try true p r h =
        let e : n ≡ length ks = eqb→eq n (length ks) (to_t (eqb n (length ks)) p) in
        let z : 8 * n + i ≡ length (origin_list ks) + i = omega (arith, origin_length ks G.1) in
        ap (λ (j : ℕ). get_or (origin_list ks ++ cells_of_origin k) j 0) z ∙ get_or-append-add (origin_list ks) (cells_of_origin k) i 0
        ∙ ap (λ (x : Derivation). get_or (cells_of_origin x) i 0) (some_injective r)
    try false p r h =
        let z = entry_below ks n d r in
        get_or-append (origin_list ks) (cells_of_origin k) 0 (8 * n + i) (omega (arith, origin_length ks G.1)) ∙ h r

-- Tables that begin with the state's cells.
module _ (cs : List (ℕ × Derivation)) (H : Sourced (map (λ (c : ℕ × Derivation). c.1) cs)) (X C Y : List ℕ) where
  abbrev ds : List Derivation
  ds = map (λ (c : ℕ × Derivation). c.1) cs

  abbrev table_o : List ℕ
  table_o = origin_list (map (λ (c : ℕ × Derivation). c.1) cs) ++ X

  abbrev table_c : List ℕ
  table_c = clause_cells cs ++ C

  abbrev table_b : List ℕ
  table_b = binding_cells (map (λ (c : ℕ × Derivation). c.1) cs) ++ Y

  cell_there : (n i : ℕ) (c : ℕ × Derivation) → i < 5 → entry cs n ≡ some c → get_or table_c (5 * n + i) 0 ≡ get_or (cells_of_clause c.0 (bindings_of (map bare_clause (earlier cs n))) c.1) i 0
  cell_there n i c l q =
      let z = entry_below cs n c q in
      get_or-append (clause_cells cs) C 0 (5 * n + i) (omega (arith, cells_length cs)) ∙ clause_cell_lem cs n i c l q

  cells_there : (n : ℕ) (c : ℕ × Derivation) → entry cs n ≡ some c → Cells table_c table_b n c.1
  cells_there n c q = record {
    literal_count = cell_there n 1 c (omega arith) q;
    index = cell_there n 2 c (omega arith) q;
    own = ap₂ (λ (f m : ℕ). bindings_from table_b f m) (cell_there n 3 c (omega arith) q) (cell_there n 4 c (omega arith) q) ∙ clause_bindings cs Y n c q;
  }

  -- The cells of clause n in the table of origins: cell 0, and number i.
  origin_there : (n i : ℕ) (d : Derivation) → i < 8 → entry ds n ≡ some d → get_or table_o (8 * n + i) 0 ≡ get_or (cells_of_origin d) i 0
  origin_there n i d l q =
      let z = entry_below ds n d q in
      get_or-append (origin_list ds) X 0 (8 * n + i) (omega (arith, origin_length ds H)) ∙ origin_cell ds H n i d l q

  code_there : (n : ℕ) (d : Derivation) → entry ds n ≡ some d → origin_code table_o n ≡ get_or (cells_of_origin d) 0 0
  code_there n d q = rw add-zero at (origin_there n 0 d (omega arith) q)

  number_there : (n i : ℕ) (d : Derivation) → i < 7 → entry ds n ≡ some d → part table_o n i ≡ get_or (cells_of_origin d) (suc i) 0
  unfolding part
  number_there n i d l q =
      let z : 8 * n + 1 + i ≡ 8 * n + suc i = omega arith in
      ap (λ (j : ℕ). get_or table_o j 0) z ∙ origin_there n (suc i) d (omega arith) q

  -- An earlier clause, with a smaller number.
  before_entry : (ks : List Derivation) (n m : ℕ) (c d : Derivation) → entry ks n ≡ some c → entry (earlier ks n) m ≡ some d → (entry ks m ≡ some d) × (m < n)
  before_entry ks n m c d r q = (kept ks n m d q, let l = entry_below (earlier ks n) m d q in omega (arith, earlier_length ks n c r))
    where
      kept : (ks : List Derivation) (n m : ℕ) (d : Derivation) → entry (earlier ks n) m ≡ some d → entry ks m ≡ some d
      kept [] n m d q = q
      kept (k ∷ ks) n m d q = try (eqb n (length ks)) q (λ p. kept ks n m d p)
        where
          try : (b : Bool) → entry (pick b ks (earlier ks n)) m ≡ some d → (entry (earlier ks n) m ≡ some d → entry ks m ≡ some d) → entry (k ∷ ks) m ≡ some d
          try true p h = entry_more k ks m d p
          try false p h = entry_more k ks m d (h p)

  pub stored_clause : (d : Derivation) (n : ℕ) → entry (map (λ (c : ℕ × Derivation). c.1) cs) n ≡ some d
      → Stored (origin_list (map (λ (c : ℕ × Derivation). c.1) cs) ++ X) (clause_cells cs ++ C) (binding_cells (map (λ (c : ℕ × Derivation). c.1) cs) ++ Y) n d
  stored_clause (input number ls) n q =
      let s = source_of ds H n (input number ls) q in
      let e : number ≡ n = number_of ds H n (input number ls) q in
      let w = entry_numbered cs n (input number ls) q in
      let c = cells_there n (w.0, input number ls) w.1 in
      let numbers : List ℕ = map literal_number ls ++ replicate (7 - length ls) 0 in
      let at : (i : ℕ) → i < 7 → part table_o n i ≡ get_or (map literal_number ls ++ replicate (7 - length ls) 0) i 0 = λ i l. number_there n i (input number ls) l q in
      let all : origin_numbers table_o n ≡ map literal_number ls ++ replicate (7 - length ls) 0 =
      (λ i. at 0 (omega arith) i ∷ at 1 (omega arith) i ∷ at 2 (omega arith) i ∷ at 3 (omega arith) i ∷ at 4 (omega arith) i ∷ at 5 (omega arith) i ∷ at 6 (omega arith) i ∷ [])
      ∙ seven_numbers (map literal_number ls ++ replicate (7 - length ls) 0) (let z = eight_cells (earlier ds n) (input number ls) s in omega arith) in
      let count : literals_cell table_c n ≡ length (map literal_number ls) = c.literal_count ∙ length-map ls (λ (l : RowLiteral). (l.0, (l.1, 1))) ∙ sym (length-map ls literal_number) in
      subst (λ (m : ℕ). Stored table_o table_c table_b n (input m ls)) (sym e)
      (stored_input (code_there n (input number ls) q)
      (ap₂ (λ (m : ℕ) (xs : List ℕ). map literal_of (take m xs)) count all ∙ ap (map literal_of) (take-append_seam (map literal_number ls) (replicate (7 - length ls) 0)) ∙ literals_back ls)
      (subst (λ (m : ℕ). Cells table_c table_b n (input m ls)) e c))
  stored_clause (resolve number l a r ns bs) n q =
      let s = source_of ds H n (resolve number l a r ns bs) q in
      let e : number ≡ n = number_of ds H n (resolve number l a r ns bs) q in
      let w = entry_numbered cs n (resolve number l a r ns bs) q in
      let x = before_entry ds n (clause_number l) (resolve number l a r ns bs) l q s.1 in
      let y = before_entry ds n (clause_number r) (resolve number l a r ns bs) r q s.2 in
      let at : (i : ℕ) → i < 7 → part table_o n i ≡ get_or (clause_number l ∷ a ∷ clause_number r ∷ (ns ++ replicate (4 - length ns) 0)) i 0 = λ i k. number_there n i (resolve number l a r ns bs) k q in
      let numbers : List ℕ = ns ++ replicate (4 - length ns) 0 in
      let four : length (ns ++ replicate (4 - length ns) 0) ≡ 4 = length-append ns (replicate (4 - length ns) 0) ∙ omega (arith, length-replicate {A = ℕ} (4 - length ns) 0, s.4) in
      let rights : right_cells table_o n ≡ ns ++ replicate (4 - length ns) 0 = (λ i. at 3 (omega arith) i ∷ at 4 (omega arith) i ∷ at 5 (omega arith) i ∷ at 6 (omega arith) i ∷ []) ∙ four_numbers (ns ++ replicate (4 - length ns) 0) four in
      subst (λ (m : ℕ). Stored table_o table_c table_b n (resolve m l a r ns bs)) (sym e)
      (stored_resolve (code_there n (resolve number l a r ns bs) q) s.3 s.4
      (subst (λ (m : ℕ). m < n) (sym (at 0 (omega arith))) x.1) (subst (λ (m : ℕ). Stored table_o table_c table_b m l) (sym (at 0 (omega arith))) (stored_clause l (clause_number l) x.0)) (at 1 (omega arith))
      (subst (λ (m : ℕ). m < n) (sym (at 2 (omega arith))) y.1) (subst (λ (m : ℕ). Stored table_o table_c table_b m r) (sym (at 2 (omega arith))) (stored_clause r (clause_number r) y.0)) rights
      (subst (λ (m : ℕ). Cells table_c table_b n (resolve m l a r ns bs)) e (cells_there n (w.0, resolve number l a r ns bs) w.1)))
  stored_clause (factor number d a b bs) n q =
      let s = source_of ds H n (factor number d a b bs) q in
      let e : number ≡ n = number_of ds H n (factor number d a b bs) q in
      let w = entry_numbered cs n (factor number d a b bs) q in
      let x = before_entry ds n (clause_number d) (factor number d a b bs) d q s.1 in
      let at : (i : ℕ) → i < 7 → part table_o n i ≡ get_or (clause_number d ∷ a ∷ b ∷ 0 ∷ 0 ∷ 0 ∷ 0 ∷ []) i 0 = λ i k. number_there n i (factor number d a b bs) k q in
      subst (λ (m : ℕ). Stored table_o table_c table_b n (factor m d a b bs)) (sym e)
      (stored_factor (code_there n (factor number d a b bs) q)
      (subst (λ (m : ℕ). m < n) (sym (at 0 (omega arith))) x.1) (subst (λ (m : ℕ). Stored table_o table_c table_b m d) (sym (at 0 (omega arith))) (stored_clause d (clause_number d) x.0)) (at 1 (omega arith)) (at 2 (omega arith))
      (subst (λ (m : ℕ). Cells table_c table_b n (factor m d a b bs)) e (cells_there n (w.0, factor number d a b bs) w.1)))
