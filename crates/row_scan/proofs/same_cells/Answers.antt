use mathlib.Core.Path.{◌≡◌, sym, ◌∙◌}
use mathlib.Core.List.{List}
use Prim.Native.Nat.{ℕ, ◌+◌, ◌*◌, ◌≤◌, ◌<◌}
use native.Mathlib.Omega.{arith}
use lib.ListN.{length}
use Rattle.distinct.proofs.Cells.{code_differs, code_same, number_differs, number_same, numbers_end}
use Rattle.row_scan.proofs.same_cells.Goals as goal

room : (N : List ℕ) (r : ℕ) → length N ≡ 32768 → r < 4096 → 8 * r + 8 ≤ length N
room N r h l = omega arith

pub returns-then-nodes-at : goal.returns-then-nodes-at
returns-then-nodes-at c =
    let s = c.args in
    sym (code_differs s.nodes.now (8 * s.r) (room s.nodes.now s.r c.told-nodes c.requires) s.code s.numbers.now c.told-numbers c.if-nodes-at.true)

pub loop-i-init : goal.loop-i-init
loop-i-init c =
    let s = c.args in
    sym (code_same s.nodes.now (8 * s.r) (room s.nodes.now s.r c.told-nodes c.requires) s.code s.numbers.now c.told-numbers c.if-nodes-at.false)

pub returns-then-nodes-at-2 : goal.returns-then-nodes-at-2
returns-then-nodes-at-2 c =
    let s = c.args in
    sym (number_differs s.nodes.now (8 * s.r) (room s.nodes.now s.r c.told-nodes c.requires) s.code s.numbers.now c.told-numbers c.loop-i.i (omega (arith, c.loop-i-test.true)) c.if-nodes-at-2.true) ∙ c.loop-i.invariant

pub loop-i-preserved : goal.loop-i-preserved
loop-i-preserved c =
    let s = c.args in
    sym (number_same s.nodes.now (8 * s.r) (room s.nodes.now s.r c.told-nodes c.requires) s.code s.numbers.now c.told-numbers c.loop-i.i (omega (arith, c.loop-i-test.true)) c.if-nodes-at-2.false) ∙ c.loop-i.invariant

pub returns : goal.returns
returns c =
    let s = c.args in
    sym (numbers_end s.nodes.now (8 * s.r) (room s.nodes.now s.r c.told-nodes c.requires) s.code s.numbers.now c.told-numbers c.loop-i.i (omega arith) (omega (arith, c.loop-i-test.false))) ∙ c.loop-i.invariant
