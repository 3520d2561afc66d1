-- Clauses as the program keeps them: the table of origins, decoded when a clause is entered, eight cells a clause; five cells a clause in the
-- table of clauses and four a binding in the table of bindings (document 01, "Verdict, tables and refusals").
use Rattle.std.specs.Prelude.{◌≡◌, List, [], ◌∷◌, ◌++◌, map, ℕ, ◌+◌, ◌-◌, ◌*◌, ◌≤◌, ◌<◌, length, get_or, take, replicate}
use Rattle.record.specs.Record.{pick}
use Rattle.unification.specs.Bindings.{bindings_from}
use Rattle.unification.specs.Environment.{Binding}
use Rattle.unification.specs.Nodes.{part}
use Rattle.derivation.specs.Derivation.{literals, input, RowLiteral, literal_of, Derivation, resolve, factor, maximum_index, own_bindings, clause_number}

-- The number that an input clause has for a literal: 2 × row, plus 1 if positive.
abbrev pub literal_number : RowLiteral → ℕ
literal_number l = 2 * l.1 + pick l.0 1 0

-- The eight cells of a clause in the table of origins. Cell 0 is 1 for an input clause, 2 for a factor, and 2 more than the number of right
-- literals for a resolve. Then come seven numbers: an input clause's literals; a step's parents and literals as its record names them.
abbrev pub cells_of_origin : Derivation → List ℕ
cells_of_origin (input number ls) = 1 ∷ (map literal_number ls ++ replicate (7 - length ls) 0)
cells_of_origin (factor number c a b bs) = 2 ∷ clause_number c ∷ a ∷ b ∷ 0 ∷ 0 ∷ 0 ∷ 0 ∷ []
cells_of_origin (resolve number l a r ns bs) = (2 + length ns) ∷ clause_number l ∷ a ∷ clause_number r ∷ (ns ++ replicate (4 - length ns) 0)

-- The cells of all clauses, clause 0 first, and the whole table with zeros after them.
abbrev pub origin_list : List Derivation → List ℕ
origin_list [] = []
origin_list (c ∷ cs) = origin_list cs ++ cells_of_origin c

abbrev pub origin_table_of : List Derivation → List ℕ
origin_table_of cs = origin_list cs ++ replicate (32768 - 8 * length cs) 0

-- Cell 0 of clause c, 0 for no clause; and its seven numbers.
abbrev pub origin_code : List ℕ → ℕ → ℕ
origin_code O c = get_or O (8 * c) 0

abbrev pub origin_numbers : List ℕ → ℕ → List ℕ
origin_numbers O c = part O c 0 ∷ part O c 1 ∷ part O c 2 ∷ part O c 3 ∷ part O c 4 ∷ part O c 5 ∷ part O c 6 ∷ []

-- The right literals that a resolve names, with zeros after them.
abbrev pub right_cells : List ℕ → ℕ → List ℕ
right_cells O c = part O c 3 ∷ part O c 4 ∷ part O c 5 ∷ part O c 6 ∷ []

-- The cells of clause c: record, literal count, maximum index, first binding, number of bindings.
abbrev pub record_cell : List ℕ → ℕ → ℕ
record_cell C c = get_or C (5 * c) 0

abbrev pub literals_cell : List ℕ → ℕ → ℕ
literals_cell C c = get_or C (5 * c + 1) 0

abbrev pub index_cell : List ℕ → ℕ → ℕ
index_cell C c = get_or C (5 * c + 2) 0

abbrev pub first_cell : List ℕ → ℕ → ℕ
first_cell C c = get_or C (5 * c + 3) 0

abbrev pub bindings_cell : List ℕ → ℕ → ℕ
bindings_cell C c = get_or C (5 * c + 4) 0

-- The cells of clause c are those of the derivation d.
pub record Cells (C B : List ℕ) (c : ℕ) (d : Derivation) : Type 0 where
  pub literal_count : literals_cell C c ≡ length (literals d)
  pub index : index_cell C c ≡ maximum_index d
  pub own : bindings_from B (first_cell C c) (bindings_cell C c) ≡ own_bindings d

-- Clause c of the tables is the derivation d: its origin has d's kind, names d's parents, which have smaller numbers, and d's literals.
pub data Stored (O C B : List ℕ) : ℕ → Derivation → Type 0 where
  stored_input : {c : ℕ} {ls : List RowLiteral} → origin_code O c ≡ 1 → map literal_of (take (literals_cell C c) (origin_numbers O c)) ≡ ls
      → Cells C B c (input c ls) → Stored O C B c (input c ls)
  stored_resolve : {c a : ℕ} {ns : List ℕ} {l r : Derivation} {bs : List Binding} → origin_code O c ≡ 2 + length ns → 1 ≤ length ns → length ns ≤ 4
      → part O c 0 < c → Stored O C B (part O c 0) l → part O c 1 ≡ a
      → part O c 2 < c → Stored O C B (part O c 2) r → right_cells O c ≡ ns ++ replicate (4 - length ns) 0
      → Cells C B c (resolve c l a r ns bs) → Stored O C B c (resolve c l a r ns bs)
  stored_factor : {c a b : ℕ} {d : Derivation} {bs : List Binding} → origin_code O c ≡ 2
      → part O c 0 < c → Stored O C B (part O c 0) d → part O c 1 ≡ a → part O c 2 ≡ b
      → Cells C B c (factor c d a b bs) → Stored O C B c (factor c d a b bs)
