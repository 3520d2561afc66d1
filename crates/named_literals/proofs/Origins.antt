-- Which parent a literal comes from, and the input clause where it is written.
use mathlib.Core.Path.{◌≡◌, sym, ap, ap₂, ◌∙◌, subst}
use mathlib.Core.Option.{some}
use mathlib.Core.List.{List, map}
use Prim.Native.Nat.{ℕ, ◌+◌, ◌-◌, ◌/◌, ◌%◌, ◌≤◌, ◌<◌}
use native.Mathlib.Omega.{arith}
use lib.Dec.{eqb}
use lib.ListN.{length, take, length-append, length-map}
use Rattle.unification.specs.Nodes.{part}
use Rattle.derivation.specs.Derivation.{literals, input, RowLiteral, literal_of, Derivation, resolve, factor, numbered, without, without_all, raise_literal, placed, maximum_index}
use Rattle.named_literals.specs.Named.{named_literal, StoredClause, StoredLiteral, left_over, passed, passed_all, NamesRights, PassesRights, raise_named, ComesFrom, ComesUp, ComesFromInput}
use Rattle.derivation.specs.Stored.{literals_cell, index_cell, origin_code, origin_numbers, Cells, Stored, stored_input, stored_resolve, stored_factor}
use Rattle.named_literals.proofs.Numbers.{length_without, numbered_without, passed_in, left_over_all, length_without_all, numbered_without_all, passed_all_in, numbered_left, numbered_right, numbered_raised, raise_named_zero, raise_named_twice, input_few, input_numbered}
use Rattle.std.specs.Prelude.{Some}

pub maximum_low : (d : Derivation) → 1 ≤ maximum_index d
maximum_low (input number ls) = omega arith
maximum_low (resolve number l a r ns bs) = let h = maximum_low l in omega arith
maximum_low (factor number d a b bs) = maximum_low d

-- The cells of a stored clause.
pub stored_cells : {O C B : List ℕ} {c : ℕ} {d : Derivation} → Stored O C B c d → Cells C B c d
stored_cells (stored_input k q s) = s
stored_cells (stored_resolve k o f la sa qa lb sb qb s) = s
stored_cells (stored_factor k l s₁ qa qb s) = s

module _ {O C : List ℕ} {c n : ℕ} (low : 1 ≤ n) (high : n ≤ literals_cell C c) where
  -- A factor's literal comes from its parent, past the deleted one.
  pub factor_from : {p a : ℕ} → origin_code O c ≡ 2 → p ≡ part O c 0 → a ≡ part O c 2
      → {B : List ℕ} {d : Derivation} → Stored O C B c d → (p < c) × ComesFrom O C B d n p (passed n a) 0
  factor_from two pp pa (stored_input k q s) = absurd (omega arith)
  factor_from two pp pa (stored_resolve k o f la sa qa lb sb qb s) = absurd (omega arith)
  factor_from {p} {a} two pp pa {B} (stored_factor {b = b} {d = e} k l t qa qb s) =
      let z : b ≡ a = sym qb ∙ sym pa in
      let t' : Stored O C B p e = subst (λ (k : ℕ). Stored O C B k e) (sym pp) t in
      let few : n ≤ length (without (literals e) b) = let h = s.literal_count in omega arith in
      let few' : n ≤ left_over (literals_cell C p) a = subst (λ (k : ℕ). n ≤ k) (length_without (literals e) b ∙ ap₂ left_over (sym (stored_cells t').literal_count) z) few in
      let i = passed_in (literals_cell C p) a n low few' in
      (omega arith, record { source = e; stored = t'; low = i.0; high = i.1; same = numbered_without (literals e) b n low ∙ ap (λ (k : ℕ). numbered (literals e) (passed n k)) z ∙ raise_named_zero (numbered (literals e) (passed n a)); fits = omega arith })

  -- A resolvent's literal comes from the left parent, if that has so many left.
  pub left_from : {p a : ℕ} → (origin_code O c ≡ 1 → ⊥) → (origin_code O c ≡ 2 → ⊥) → p ≡ part O c 0 → a ≡ part O c 1 → n ≤ left_over (literals_cell C p) a
      → {B : List ℕ} {d : Derivation} → Stored O C B c d → (p < c) × ComesFrom O C B d n p (passed n a) 0
  left_from no₁ no₂ pp pa few (stored_input k q s) = absurd (no₁ k)
  left_from no₁ no₂ pp pa few (stored_factor k l s₁ qa qb s) = absurd (no₂ k)
  left_from {p} {a} no₁ no₂ pp pa few {B} (stored_resolve {a = a₁} {ns = ns} {l = l} {r = r} k o f la sa qa lb sb qb s) =
      let z : a₁ ≡ a = sym qa ∙ sym pa in
      let t : Stored O C B p l = subst (λ (k : ℕ). Stored O C B k l) (sym pp) sa in
      let few' : n ≤ length (without (literals l) a₁) = subst (λ (k : ℕ). n ≤ k) (sym (length_without (literals l) a₁ ∙ ap₂ left_over (sym (stored_cells t).literal_count) z)) few in
      let i = passed_in (literals_cell C p) a n low few in (
        omega arith,
        record {
          source = l;
          stored = t;
          low = i.0;
          high = i.1;
          same =
              numbered_left (without (literals l) a₁) (map (raise_literal (maximum_index l)) (without_all (literals r) ns)) n low few'
              ∙ numbered_without (literals l) a₁ n low ∙ ap (λ (k : ℕ). numbered (literals l) (passed n k)) z ∙ raise_named_zero (numbered (literals l) (passed n a));
          fits = omega arith;
        },
      )

  -- Else it comes from the right parent, with indices raised by the left maximum index.
  pub right_from : {p a q j kept m : ℕ} → (origin_code O c ≡ 1 → ⊥) → (origin_code O c ≡ 2 → ⊥) → p ≡ part O c 0 → a ≡ part O c 1
      → q ≡ part O c 2 → ((ns : List ℕ) → NamesRights O c ns → j ≡ passed_all (n - kept) ns) → kept ≡ left_over (literals_cell C p) a → kept < n → m ≡ index_cell C p
      → {B : List ℕ} {d : Derivation} → Stored O C B c d → (q < c) × ComesFrom O C B d n q j m
  right_from no₁ no₂ pp pa pq pj pk more pm (stored_input k q s) = absurd (no₁ k)
  right_from no₁ no₂ pp pa pq pj pk more pm (stored_factor k l s₁ qa qb s) = absurd (no₂ k)
  right_from {p} {a} {q} {j} {kept} {m} no₁ no₂ pp pa pq pj pk more pm {B} (stored_resolve {a = a₁} {ns = ns} {l = l} {r = r} k o f la sa qa lb sb qb s) =
      let t : Stored O C B p l = subst (λ (k : ℕ). Stored O C B k l) (sym pp) sa in
      let t' : Stored O C B q r = subst (λ (k : ℕ). Stored O C B k r) (sym pq) sb in
      let z : length (without (literals l) a₁) ≡ kept = length_without (literals l) a₁ ∙ ap₂ left_over (sym (stored_cells t).literal_count) (sym qa ∙ sym pa) ∙ sym pk in
      let y : j ≡ passed_all (n - kept) ns = pj ns (record { code = k; some = o; few = f; cells = qb }) in
      let x : maximum_index l ≡ m = sym (stored_cells t).index ∙ sym pm in
      let w : length (without_all (literals r) ns) ≡ left_over_all (literals_cell C q) ns = length_without_all (literals r) ns ∙ ap (λ (i : ℕ). left_over_all i ns) (sym (stored_cells t').literal_count) in
      let v : literals_cell C c ≡ length (without (literals l) a₁) + length (without_all (literals r) ns)
      = s.literal_count ∙ length-append (without (literals l) a₁) (map (raise_literal (maximum_index l)) (without_all (literals r) ns))
      ∙ ap (λ (k : ℕ). length (without (literals l) a₁) + k) (length-map (without_all (literals r) ns) (raise_literal (maximum_index l))) in
      let i = passed_all_in (literals_cell C q) ns (n - kept) (omega arith) (omega arith) in (
        omega arith,
        record {
          source = r;
          stored = t';
          low = subst (λ (i : ℕ). 1 ≤ i) (sym y) i.0;
          high = subst (λ (i : ℕ). i ≤ literals_cell C q) (sym y) i.1;
          same =
              numbered_right (without (literals l) a₁) (map (raise_literal (maximum_index l)) (without_all (literals r) ns)) n (omega arith)
              ∙ numbered_raised (maximum_index l) (without_all (literals r) ns) (n - length (without (literals l) a₁))
              ∙ ap₂ (λ (k j : ℕ). raise_named k (numbered (without_all (literals r) ns) (n - j))) x z
              ∙ ap (raise_named m) (numbered_without_all (literals r) ns (n - kept) (omega arith) ∙ ap (numbered (literals r)) (sym y));
          fits = omega arith;
        },
      )

  -- What the code asks where it passes the right literals.
  pub rights_pass : {p a q kept : ℕ} → (origin_code O c ≡ 1 → ⊥) → (origin_code O c ≡ 2 → ⊥) → p ≡ part O c 0 → a ≡ part O c 1
      → q ≡ part O c 2 → kept ≡ left_over (literals_cell C p) a → kept < n → literals_cell C q < 65536
      → {B : List ℕ} {d : Derivation} → Stored O C B c d → PassesRights O c (n - kept)
  rights_pass no₁ no₂ pp pa pq pk more small (stored_input k q s) = absurd (no₁ k)
  rights_pass no₁ no₂ pp pa pq pk more small (stored_factor k l s₁ qa qb s) = absurd (no₂ k)
  rights_pass {p} {a} {q} {kept} no₁ no₂ pp pa pq pk more small {B} (stored_resolve {a = a₁} {ns = ns} {l = l} {r = r} k o f la sa qa lb sb qb s) =
      let t : Stored O C B p l = subst (λ (k : ℕ). Stored O C B k l) (sym pp) sa in
      let t' : Stored O C B q r = subst (λ (k : ℕ). Stored O C B k r) (sym pq) sb in
      let z : length (without (literals l) a₁) ≡ kept = length_without (literals l) a₁ ∙ ap₂ left_over (sym (stored_cells t).literal_count) (sym qa ∙ sym pa) ∙ sym pk in
      let w : length (without_all (literals r) ns) ≡ left_over_all (literals_cell C q) ns = length_without_all (literals r) ns ∙ ap (λ (i : ℕ). left_over_all i ns) (sym (stored_cells t').literal_count) in
      let v : literals_cell C c ≡ length (without (literals l) a₁) + length (without_all (literals r) ns)
      = s.literal_count ∙ length-append (without (literals l) a₁) (map (raise_literal (maximum_index l)) (without_all (literals r) ns))
      ∙ ap (λ (k : ℕ). length (without (literals l) a₁) + k) (length-map (without_all (literals r) ns) (raise_literal (maximum_index l))) in
      let i = (passed_all_in (literals_cell C q) ns (n - kept) (omega arith) (omega arith)).1 in
      record { numbers = ns; names = record { code = k; some = o; few = f; cells = qb }; fits = omega arith }

-- From clause to clause.
pub from_itself : {O C B : List ℕ} {c n : ℕ} {d : Derivation} → 1 ≤ n → n ≤ literals_cell C c → Stored O C B c d → ComesFrom O C B d n c n 0
from_itself {n = n} {d = d} low high s = record { source = d; stored = s; low = low; high = high; same = raise_named_zero (numbered (literals d) n); fits = omega arith }

pub from_further : {O C B : List ℕ} {d : Derivation} {n p k m q j i : ℕ} → (h : ComesFrom O C B d n p k m) → ComesFrom O C B h.source k q j i → ComesFrom O C B d n q j (m + i)
from_further {m = m} {j = j} {i = i} h g =
    let a = h.fits in
    let b = g.fits in
    record { source = g.source; stored = g.stored; low = g.low; high = g.high; same = h.same ∙ ap (raise_named m) g.same ∙ raise_named_twice m i (numbered (literals g.source) j); fits = omega arith }

-- In an input clause the literal is one of its seven numbers.
input_at : {O C B : List ℕ} {p k : ℕ} {d : Derivation} → origin_code O p ≡ 1 → 1 ≤ k → k ≤ literals_cell C p → Stored O C B p d
    → (k ≤ 7) × (numbered (literals d) k ≡ some ((literal_of (part O p (k - 1))).0, ((literal_of (part O p (k - 1))).1, 1)))
input_at one low high (stored_resolve k o f la sa qa lb sb qb s) = absurd (omega arith)
input_at one low high (stored_factor k l s₁ qa qb s) = absurd (omega arith)
input_at {O} {C} {p = p} {k = k} one low high (stored_input {ls = ls} kk q s) =
    let h : k ≤ length (placed 1 (map literal_of (take (literals_cell C p) (origin_numbers O p)))) = let z = s.literal_count in rw q (omega arith) in
    (input_few O p k (literals_cell C p) h, ap (λ (l : List RowLiteral). numbered (placed 1 l) k) (sym q) ∙ input_numbered O p (literals_cell C p) k low h)

pub input_found : {O C : List ℕ} {c n p k m x : ℕ} → ComesFromInput O C c n p k m → x ≡ part O p (k - 1)
    → (B : List ℕ) (d : Derivation) → Stored O C B c d → Some (record { positive = eqb (x % 2) 1; row = x / 2; index = m + 1 }) ≡ named_literal (numbered (literals d) n)
input_found {m = m} {x = x} h q B d s =
    let f = h.from B d s in
    sym (ap named_literal (f.same ∙ ap (raise_named m) ((input_at h.is_input f.low f.high f.stored).1 ∙ ap (λ (y : ℕ). some ((literal_of y).0, ((literal_of y).1, 1))) (sym q))))

-- What the code asks of the place found.
pub input_small : {O C : List ℕ} {c n p k m : ℕ} → ComesFromInput O C c n p k m → StoredClause O C c → (1 ≤ k) × (k ≤ 7) × (m + 1 ≤ 4096)
input_small h S =
    let f = h.from S.bindings S.derivation S.stored in
    let few = (input_at h.is_input f.low f.high f.stored).0 in
    let one = maximum_low f.source in
    let a = f.fits in
    let b = S.fits in
    (f.low, few, omega arith)

-- What the code of one step up asks and says, in its own numbers: u is the code of the origin.
pub comes_up : {O C : List ℕ} {c n p j k m : ℕ} → k ≡ j → StoredLiteral O C c n → ((B : List ℕ) (d : Derivation) → Stored O C B c d → (p < c) × ComesFrom O C B d n p j m) → ComesUp O C c n p k m
comes_up q H up = rw q (record { below = (up _ _ H.clause.stored).0; from = λ B d s. (up B d s).1 })

pub comes_high : {O C : List ℕ} {c n p k m : ℕ} → StoredLiteral O C c n → ((B : List ℕ) (d : Derivation) → Stored O C B c d → (p < c) × ComesFrom O C B d n p k m) → k ≤ literals_cell C p
comes_high H up = (up _ _ H.clause.stored).1.high

module _ {O C : List ℕ} {c n u : ℕ} (H : StoredLiteral O C c n) (pu : u ≡ origin_code O c) where
  pub factor_up : {p a : ℕ} → u ≡ 2 → p ≡ part O c 0 → a ≡ part O c 2
      → (B : List ℕ) (d : Derivation) → Stored O C B c d → (p < c) × ComesFrom O C B d n p (passed n a) 0
  factor_up two pp pa B d s = factor_from H.low H.high (sym pu ∙ two) pp pa s

  module _ {p a count kept : ℕ} (no₁ : origin_code O c ≡ 1 → ⊥) (no₂ : u ≡ 2 → ⊥) (pp : p ≡ part O c 0) (pa : a ≡ part O c 1) (pc : count ≡ literals_cell C p) (pk : kept ≡ left_over count a) where
    pub left_up : n ≤ kept → (B : List ℕ) (d : Derivation) → Stored O C B c d → (p < c) × ComesFrom O C B d n p (passed n a) 0
    left_up few B d s =
        left_from H.low H.high no₁ (λ z. no₂ (pu ∙ z)) pp pa (subst (λ (k : ℕ). n ≤ k) (pk ∙ ap (λ (k : ℕ). left_over k a) pc) few) s

    pub right_up : {q j m : ℕ} → kept < n → q ≡ part O c 2 → ((ns : List ℕ) → NamesRights O c ns → j ≡ passed_all (n - kept) ns) → m ≡ index_cell C p
        → (B : List ℕ) (d : Derivation) → Stored O C B c d → (q < c) × ComesFrom O C B d n q j m
    right_up more pq pj pm B d s =
        right_from H.low H.high no₁ (λ z. no₂ (pu ∙ z)) pp pa pq pj (pk ∙ ap (λ (k : ℕ). left_over k a) pc) more pm s

    pub right_passes : {q : ℕ} → kept < n → q ≡ part O c 2 → literals_cell C q < 65536 → PassesRights O c (n - kept)
    right_passes more pq small =
        rights_pass H.low H.high no₁ (λ z. no₂ (pu ∙ z)) pp pa pq (pk ∙ ap (λ (k : ℕ). left_over k a) pc) more small H.clause.stored

-- One more step of the walk.
pub walked : {O C : List ℕ} {c n p k m q j i : ℕ} → ((B : List ℕ) (d : Derivation) → Stored O C B c d → ComesFrom O C B d n p k m) → ComesUp O C p k q j i
    → (B : List ℕ) (d : Derivation) → Stored O C B c d → ComesFrom O C B d n q j (m + i)
walked h up B d s = let f = h B d s in from_further f (up.from B f.source f.stored)

pub walk_there : {O C : List ℕ} {c n p k m : ℕ} → StoredLiteral O C c n → ((B : List ℕ) (d : Derivation) → Stored O C B c d → ComesFrom O C B d n p k m) → StoredLiteral O C p k
walk_there H h =
    let S = H.clause in
    let f = h S.bindings S.derivation S.stored in
    let a = f.fits in
    let b = S.fits in
    record { clause = record { bindings = S.bindings; derivation = f.source; stored = f.stored; fits = omega arith }; low = f.low; high = f.high }

pub walk_small : {O C : List ℕ} {c n p k m : ℕ} → StoredLiteral O C c n → ((B : List ℕ) (d : Derivation) → Stored O C B c d → ComesFrom O C B d n p k m) → m ≤ 4096
walk_small H h =
    let S = H.clause in
    let f = h S.bindings S.derivation S.stored in
    let a = f.fits in
    let b = S.fits in
    omega arith
