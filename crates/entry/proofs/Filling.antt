-- Tables being filled: a cell more, a clause's five cells more, a step's bindings more, and a refused step's cells cleared again.
use mathlib.Core.Path.{◌≡◌, refl, sym, ap, ap₂, ◌∙◌}
use mathlib.Core.Bool.{Bool, true, false}
use mathlib.Core.List.{List, [], ◌∷◌, ◌++◌, append_assoc}
use Prim.Native.Nat.{ℕ, zero, suc, ◌+◌, ◌-◌, ◌*◌, ◌≤◌, ◌<◌}
use native.Mathlib.Nat.{add-zero}
use native.Mathlib.Omega.{arith}
use lib.Dec.{ltb, ltb→lt}
use lib.ListN.{length, get_or, take, drop, set, replicate, length-append, length-drop, length-replicate, get_or-append}
use lib.Seq.{get_or-append-add, ext_get_or, set_at, append_snoc, get_or-take, get_or-drop, length-take-le}
use Rattle.unification.specs.Bindings.{bindings_from}
use Rattle.unification.proofs.Tests.{to_t}
use Rattle.tables.specs.Cells.{cleared_part, with_clause_cells}
use Rattle.verdict.specs.Tables.{cells_of_bindings, filled}
use Rattle.demands.proofs.Inversions.{not_below}
use Rattle.entry.proofs.NodeTable.{zeros_read}
use Rattle.demands.proofs.Tabled.{bindings_length}

pub filled_length : (size : ℕ) (cells t : List ℕ) → length cells ≤ size → size ≤ length t → length (filled size cells t) ≡ length t
filled_length size cells t l m =
    length-append cells (replicate (size - length cells) 0 ++ drop size t)
    ∙ ap (λ (n : ℕ). length cells + n) (length-append (replicate (size - length cells) 0) (drop size t) ∙ ap₂ ◌+◌ (length-replicate (size - length cells) 0) (length-drop size t))
    ∙ omega arith

pub filled_set : (size : ℕ) (cells t : List ℕ) (n v : ℕ) → length cells ≡ n → n < size → set (filled size cells t) n v ≡ filled size (cells ++ (v ∷ [])) t
filled_set size cells t n v e l =
    let p : size - length cells ≡ suc (size - suc n) = omega arith in
    let q : length (cells ++ (v ∷ [])) ≡ suc n = length-append cells (v ∷ []) ∙ omega arith in
    ap (λ (m : ℕ). set (cells ++ (replicate m 0 ++ drop size t)) n v) p
    ∙ set_at cells 0 (replicate (size - suc n) 0 ++ drop size t) v n e
    ∙ sym (append_snoc cells v (replicate (size - suc n) 0 ++ drop size t))
    ∙ ap (λ (m : ℕ). (cells ++ (v ∷ [])) ++ (replicate (size - m) 0 ++ drop size t)) (sym q)

-- Five cells more.
pub filled_five : (size : ℕ) (cells t : List ℕ) (n a b c d e : ℕ) → length cells ≡ 5 * n → 5 * n + 4 < size → with_clause_cells (filled size cells t) n a b c d e ≡ filled size (cells ++ (a ∷ b ∷ c ∷ d ∷ e ∷ [])) t
filled_five size cells t n a b c d e q l =
    let one : length (cells ++ (a ∷ [])) ≡ 5 * n + 1 = length-append cells (a ∷ []) ∙ omega arith in
    let two : length ((cells ++ (a ∷ [])) ++ (b ∷ [])) ≡ 5 * n + 2 = length-append (cells ++ (a ∷ [])) (b ∷ []) ∙ omega arith in
    let three : length (((cells ++ (a ∷ [])) ++ (b ∷ [])) ++ (c ∷ [])) ≡ 5 * n + 3 = length-append ((cells ++ (a ∷ [])) ++ (b ∷ [])) (c ∷ []) ∙ omega arith in
    let four : length ((((cells ++ (a ∷ [])) ++ (b ∷ [])) ++ (c ∷ [])) ++ (d ∷ [])) ≡ 5 * n + 4 = length-append (((cells ++ (a ∷ [])) ++ (b ∷ [])) ++ (c ∷ [])) (d ∷ []) ∙ omega arith in
    ap (λ (x : List ℕ). set (set (set (set x (5 * n + 1) b) (5 * n + 2) c) (5 * n + 3) d) (5 * n + 4) e) (filled_set size cells t (5 * n) a q (omega arith))
    ∙ ap (λ (x : List ℕ). set (set (set x (5 * n + 2) c) (5 * n + 3) d) (5 * n + 4) e) (filled_set size (cells ++ (a ∷ [])) t (5 * n + 1) b one (omega arith))
    ∙ ap (λ (x : List ℕ). set (set x (5 * n + 3) d) (5 * n + 4) e) (filled_set size ((cells ++ (a ∷ [])) ++ (b ∷ [])) t (5 * n + 2) c two (omega arith))
    ∙ ap (λ (x : List ℕ). set x (5 * n + 4) e) (filled_set size (((cells ++ (a ∷ [])) ++ (b ∷ [])) ++ (c ∷ [])) t (5 * n + 3) d three (omega arith))
    ∙ filled_set size ((((cells ++ (a ∷ [])) ++ (b ∷ [])) ++ (c ∷ [])) ++ (d ∷ [])) t (5 * n + 4) e four (omega arith)
    ∙ ap (λ (x : List ℕ). filled size x t) joined
  where
    joined : ((((cells ++ (a ∷ [])) ++ (b ∷ [])) ++ (c ∷ [])) ++ (d ∷ [])) ++ (e ∷ []) ≡ cells ++ (a ∷ b ∷ c ∷ d ∷ e ∷ [])
    joined = simp append_assoc

-- Reading a filled table.
module _ (size : ℕ) (cells t : List ℕ) (l : length cells ≤ size) where
  pub filled_low : (i : ℕ) → i < length cells → get_or (filled size cells t) i 0 ≡ get_or cells i 0
  filled_low i h = get_or-append cells (replicate (size - length cells) 0 ++ drop size t) 0 i h

  pub filled_zero : (i : ℕ) → length cells ≤ i → i < size → get_or (filled size cells t) i 0 ≡ 0
  filled_zero i h k =
      let z : i ≡ length cells + (i - length cells) = omega arith in
      ap (λ (n : ℕ). get_or (filled size cells t) n 0) z
      ∙ get_or-append-add cells (replicate (size - length cells) 0 ++ drop size t) (i - length cells) 0
      ∙ get_or-append (replicate (size - length cells) 0) (drop size t) 0 (i - length cells) (rw (length-replicate {A = ℕ} (size - length cells) 0) (omega arith))
      ∙ zeros_read (size - length cells) (i - length cells)

  past_zeros : (j : ℕ) → get_or (filled size cells t) (length cells + (length {A = ℕ} (replicate (size - length cells) 0) + j)) 0 ≡ get_or t (size + j) 0
  past_zeros j =
      get_or-append-add cells (replicate (size - length cells) 0 ++ drop size t) (length {A = ℕ} (replicate (size - length cells) 0) + j) 0
      ∙ get_or-append-add (replicate (size - length cells) 0) (drop size t) j 0
      ∙ get_or-drop size t j 0

  place : (i n : ℕ) → n ≡ size - length cells → size ≤ i → i ≡ length cells + (n + (i - size))
  place i n e h = omega arith

  pub filled_high : (i : ℕ) → size ≤ i → get_or (filled size cells t) i 0 ≡ get_or t i 0
  filled_high i h =
      let x : size + (i - size) ≡ i = omega arith in
      ap (λ (n : ℕ). get_or (filled size cells t) n 0) (place i (length {A = ℕ} (replicate (size - length cells) 0)) (length-replicate {A = ℕ} (size - length cells) 0) h)
      ∙ past_zeros (i - size)
      ∙ ap (λ (n : ℕ). get_or t n 0) x

pub bindings_count : (B : List ℕ) (first n : ℕ) → length (bindings_from B first n) ≡ n
bindings_count B first zero = refl
bindings_count B first (suc n) = ap suc (bindings_count B first n)

-- The cells of bindings that were read off a table.
cells_read : (B : List ℕ) (first n j : ℕ) → j < 4 * n → get_or (cells_of_bindings (bindings_from B first n)) j 0 ≡ get_or B (4 * first + j) 0
cells_read B first zero j l = absurd (omega arith)
cells_read B first (suc n) j l = try (ltb j (4 * n)) refl (λ m. cells_read B first n j m)
  where
    X : List ℕ
    X = cells_of_bindings (bindings_from B first n)

    size : length (cells_of_bindings (bindings_from B first n)) ≡ 4 * n
    size = bindings_length (bindings_from B first n) ∙ ap (λ (m : ℕ). 4 * m) (bindings_count B first n)

    four : List ℕ
    four = get_or B (4 * (first + n)) 0 ∷ get_or B (4 * (first + n) + 1) 0 ∷ get_or B (4 * (first + n) + 2) 0 ∷ get_or B (4 * (first + n) + 3) 0 ∷ []

    of_four : (i : ℕ) → i < 4 → get_or four i 0 ≡ get_or B (4 * (first + n) + i) 0
    of_four zero k = rw add-zero refl
    of_four (suc zero) k = refl
    of_four (suc (suc zero)) k = refl
    of_four (suc (suc (suc zero))) k = refl
    of_four (suc (suc (suc (suc i)))) k = absurd (omega arith)

    try : (b : Bool) → ltb j (4 * n) ≡ b → (j < 4 * n → get_or (cells_of_bindings (bindings_from B first n)) j 0 ≡ get_or B (4 * first + j) 0) → get_or (cells_of_bindings (bindings_from B first n) ++ four) j 0 ≡ get_or B (4 * first + j) 0
    try true q ih =
        let m : j < 4 * n = ltb→lt j (4 * n) (to_t (ltb j (4 * n)) q) in
        get_or-append (cells_of_bindings (bindings_from B first n)) four 0 j (omega (arith, size)) ∙ ih m
    try false q ih =
        let m : 4 * n ≤ j = not_below j (4 * n) q in
        let z : j ≡ length (cells_of_bindings (bindings_from B first n)) + (j - 4 * n) = omega (arith, size) in
        let y : 4 * (first + n) + (j - 4 * n) ≡ 4 * first + j = omega arith in
        ap (λ (i : ℕ). get_or (cells_of_bindings (bindings_from B first n) ++ four) i 0) z ∙ get_or-append-add (cells_of_bindings (bindings_from B first n)) four (j - 4 * n) 0 ∙ of_four (j - 4 * n) (omega arith) ∙ ap (λ (i : ℕ). get_or B i 0) y

-- A table of bindings after a step: the same below, the bindings added, and the same after.
module _ (cells t B : List ℕ) (held h : ℕ) (full : length cells ≡ 4 * held) (m : held ≤ h) (few : h ≤ 8192) (long : 32768 ≤ length t)
    (kept : length B ≡ length (filled 32768 cells t)) (low : (k : ℕ) → k < 4 * held → get_or B k 0 ≡ get_or (filled 32768 cells t) k 0) where
  abbrev old : List ℕ
  old = filled 32768 cells t

  old_length : length (filled 32768 cells t) ≡ length t
  old_length = filled_length 32768 cells t (omega arith) long

  pub bindings_added : ((k : ℕ) → 4 * h ≤ k → get_or B k 0 ≡ get_or (filled 32768 cells t) k 0) → B ≡ filled 32768 (cells ++ cells_of_bindings (bindings_from B held (h - held))) t
  bindings_added high = ext_get_or 0 B (filled 32768 new t) (kept ∙ old_length ∙ sym (filled_length 32768 new t (omega (arith, new_length)) long)) at
    where
      added : List ℕ
      added = cells_of_bindings (bindings_from B held (h - held))

      added_length : length (cells_of_bindings (bindings_from B held (h - held))) ≡ 4 * (h - held)
      added_length = bindings_length (bindings_from B held (h - held)) ∙ ap (λ (n : ℕ). 4 * n) (bindings_count B held (h - held))

      new : List ℕ
      new = cells ++ cells_of_bindings (bindings_from B held (h - held))

      new_length : length (cells ++ cells_of_bindings (bindings_from B held (h - held))) ≡ 4 * h
      new_length = length-append cells (cells_of_bindings (bindings_from B held (h - held))) ∙ omega (arith, added_length)

      below : (i : ℕ) → i < 4 * held → get_or B i 0 ≡ get_or (filled 32768 (cells ++ cells_of_bindings (bindings_from B held (h - held))) t) i 0
      below i l =
          low i l ∙ filled_low 32768 cells t (omega arith) i (omega arith)
          ∙ sym (filled_low 32768 (cells ++ cells_of_bindings (bindings_from B held (h - held))) t (omega (arith, new_length)) i (omega (arith, new_length)) ∙ get_or-append cells (cells_of_bindings (bindings_from B held (h - held))) 0 i (omega arith))

      between : (i : ℕ) → 4 * held ≤ i → i < 4 * h → get_or B i 0 ≡ get_or (filled 32768 (cells ++ cells_of_bindings (bindings_from B held (h - held))) t) i 0
      between i l k =
          let z : i ≡ length cells + (i - 4 * held) = omega arith in
          let y : 4 * held + (i - 4 * held) ≡ i = omega arith in
          sym (filled_low 32768 (cells ++ cells_of_bindings (bindings_from B held (h - held))) t (omega (arith, new_length)) i (omega (arith, new_length))
          ∙ ap (λ (n : ℕ). get_or (cells ++ cells_of_bindings (bindings_from B held (h - held))) n 0) z ∙ get_or-append-add cells (cells_of_bindings (bindings_from B held (h - held))) (i - 4 * held) 0
          ∙ cells_read B held (h - held) (i - 4 * held) (omega arith) ∙ ap (λ (n : ℕ). get_or B n 0) y)

      above : (i : ℕ) → 4 * h ≤ i → (b : Bool) → ltb i 32768 ≡ b → get_or B i 0 ≡ get_or (filled 32768 (cells ++ cells_of_bindings (bindings_from B held (h - held))) t) i 0
      above i l true q =
          let k : i < 32768 = ltb→lt i 32768 (to_t (ltb i 32768) q) in
          high i l ∙ filled_zero 32768 cells t (omega arith) i (omega arith) k ∙ sym (filled_zero 32768 (cells ++ cells_of_bindings (bindings_from B held (h - held))) t (omega (arith, new_length)) i (omega (arith, new_length)) k)
      above i l false q =
          let k : 32768 ≤ i = not_below i 32768 q in
          high i l ∙ filled_high 32768 cells t (omega arith) i k ∙ sym (filled_high 32768 (cells ++ cells_of_bindings (bindings_from B held (h - held))) t (omega (arith, new_length)) i k)

      at : (i : ℕ) → i < length B → get_or B i 0 ≡ get_or (filled 32768 (cells ++ cells_of_bindings (bindings_from B held (h - held))) t) i 0
      at i _ = try (ltb i (4 * held)) refl (ltb i (4 * h)) refl
        where
          try : (b : Bool) → ltb i (4 * held) ≡ b → (c : Bool) → ltb i (4 * h) ≡ c → get_or B i 0 ≡ get_or (filled 32768 (cells ++ cells_of_bindings (bindings_from B held (h - held))) t) i 0
          try true p c q = below i (ltb→lt i (4 * held) (to_t (ltb i (4 * held)) p))
          try false p true q = between i (not_below i (4 * held) p) (ltb→lt i (4 * h) (to_t (ltb i (4 * h)) q))
          try false p false q = above i (not_below i (4 * h) q) (ltb i 32768) refl

  pub bindings_cleared : ((k : ℕ) → 32768 ≤ k → get_or B k 0 ≡ get_or (filled 32768 cells t) k 0) → cleared_part (4 * held) 32768 B ≡ filled 32768 cells t
  bindings_cleared high =
      let one : take (4 * held) B ≡ cells = ext_get_or 0 (take (4 * held) B) cells (taken ∙ sym full) (λ i l. get_or-take (4 * held) B i 0 (omega (arith, taken)) ∙ low i (omega (arith, taken)) ∙ filled_low 32768 cells t (omega arith) i (omega (arith, taken))) in
      let two : drop 32768 B ≡ drop 32768 t = ext_get_or 0 (drop 32768 B) (drop 32768 t) (length-drop 32768 B ∙ ap (λ (n : ℕ). n - 32768) (kept ∙ old_length) ∙ sym (length-drop 32768 t)) (λ i l. get_or-drop 32768 B i 0 ∙ high (32768 + i) (omega arith) ∙ filled_high 32768 cells t (omega arith) (32768 + i) (omega arith) ∙ sym (get_or-drop 32768 t i 0)) in
      ap₂ (λ (x y : List ℕ). x ++ (replicate (32768 - 4 * held) 0 ++ y)) one two ∙ ap (λ (n : ℕ). cells ++ (replicate (32768 - n) 0 ++ drop 32768 t)) (sym full)
    where
      taken : length (take (4 * held) B) ≡ 4 * held
      taken = length-take-le (4 * held) B (omega (arith, kept, old_length))
