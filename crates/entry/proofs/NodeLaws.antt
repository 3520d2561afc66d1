-- Rows of the node table: written cell by cell, and what they are taken as.
use mathlib.Core.Path.{◌≡◌, refl, ap, ◌∙◌}
use mathlib.Core.Bool.{Bool, true, false, not, ◌&&◌}
use mathlib.Core.List.{List, [], ◌∷◌, map}
use Prim.Native.Nat.{ℕ, ◌*◌, ◌/◌, ◌≤◌}
use native.Mathlib.Omega.{arith}
use lib.ListN.{get_or}
use lib.Dec.{eqb}
use borrow.Author.Tests.{eqb-true}
use Rattle.std.specs.List.{list_all}
use Rattle.record.specs.Record.{pick}
use Rattle.unification.specs.Nodes.{is_variable, part}
use Rattle.derivation.specs.Derivation.{literal_of}
use Rattle.entry.specs.Program.{earliest_node, RowsReady, no_variable}

-- Where repeats name rows of the table, a literal's number stays one of 16 bits.
pub taken_small : (N : List ℕ) → RowsReady N → (n : ℕ) → n ≤ 65535 → {q : ℕ} → q ≡ earliest_node N (n / 2) → q ≤ 32767
taken_small N R n l {q} e = try (eqb (get_or N (8 * (n / 2)) 0) 0) refl
  where
    try : (b : Bool) → eqb (get_or N (8 * (n / 2)) 0) 0 ≡ b → q ≤ 32767
    try true z = let h = R.repeats (n / 2) (eqb-true (get_or N (8 * (n / 2)) 0) 0 z) in let p = e ∙ ap (λ (b : Bool). pick b (part N (n / 2) 0) (n / 2)) z in omega arith
    try false z = let p = e ∙ ap (λ (b : Bool). pick b (part N (n / 2) 0) (n / 2)) z in omega arith

-- Literals on variable rows, off the node table.
pub no_variable_all : (N ns : List ℕ) → list_all (λ n. not (is_variable N (earliest_node N (n / 2)))) ns ≡ no_variable N (map literal_of ns)
no_variable_all N [] = refl
no_variable_all N (n ∷ ns) = ap (λ (b : Bool). not (is_variable N (earliest_node N (n / 2))) && b) (no_variable_all N ns)
