-- The literals of a clause, collected from those of its parents, in the numbers of the code.
use mathlib.Core.Path.{◌≡◌, refl, sym, ap, ◌∙◌, subst}
use mathlib.Core.Bool.{Bool, true, false}
use mathlib.Core.Option.{some}
use mathlib.Core.List.{List, [], ◌∷◌, ◌++◌, map}
use Prim.Native.Nat.{ℕ, zero, suc, ◌+◌, ◌-◌, ◌*◌, ◌≤◌, ◌<◌}
use native.Mathlib.Omega.{arith}
use lib.Dec.{eqb, leb}
use lib.ListN.{length, get_or, take, replicate, length-append, length-map}
use borrow.Author.Tests.{eqb-true, eqb-false, leb-true, leb-false}
use Rattle.record.specs.Record.{pick}
use Rattle.unification.specs.Nodes.{part}
use Rattle.derivation.specs.Derivation.{literals, Literal, RowLiteral, literal_of, Derivation, numbered, without, without_all, raise_literal, placed, maximum_index}
use Rattle.named_literals.specs.Named.{left_over, passed, NamesRights, raise_named}
use Rattle.derivation.specs.Stored.{origin_code, origin_numbers, right_cells, literals_cell, index_cell, Stored, stored_input, stored_resolve, stored_factor}
use Rattle.named_literals.proofs.Numbers.{length_without, numbered_without, passed_in, numbered_left, numbered_right, numbered_raised, raise_named_twice, input_few, input_numbered}
use Rattle.named_literals.proofs.Origins.{stored_cells}
use Rattle.collecting.specs.declared.literals.ListedLiteral.{ListedLiteral}
use Rattle.collecting.specs.Literals.{literal_with, listed, Holds, Placed, Deleted, RightsDeletable, RightsDeleted, Collectable, Collected}

-- The first n numbers of an input clause's origin are in the list.
pub record FieldsPlaced (L L' : List ListedLiteral) (O : List ℕ) (c base o n : ℕ) : Type 0 where
  pub room : length L' ≡ 16512
  pub before : (k : ℕ) → k ≤ base → listed L' k ≡ listed L k
  pub fields : (k : ℕ) → 1 ≤ k → k ≤ n → listed L' (base + k) ≡ literal_with (part O c (k - 1)) (o + 1)

pub fields_none : (L : List ListedLiteral) (O : List ℕ) (c base o : ℕ) → length L ≡ 16512 → FieldsPlaced L L O c base o 0
fields_none L O c base o room = record { room = room; before = λ k h. refl; fields = λ k l h. absurd (omega arith) }

pub fields_more : {L L₁ L₂ : List ListedLiteral} {O : List ℕ} {c base o n code : ℕ} → FieldsPlaced L L₁ O c base o n → code ≡ part O c n → length L₂ ≡ length L₁ → Placed L₁ L₂ (base + n + 1) code (o + 1) → FieldsPlaced L L₂ O c base o (n + 1)
fields_more {L} {L₁} {L₂} {O} {c} {base} {o} {n} {code} X p room P =
    record { room = room ∙ X.room; before = λ k h. P.others k (λ e. omega arith) ∙ X.before k h; fields = fields }
  where
    fields : (k : ℕ) → 1 ≤ k → k ≤ n + 1 → listed L₂ (base + k) ≡ literal_with (part O c (k - 1)) (o + 1)
    fields k l h = try (eqb k (n + 1)) refl
      where
        try : (b : Bool) → eqb k (n + 1) ≡ b → listed L₂ (base + k) ≡ literal_with (part O c (k - 1)) (o + 1)
        try true q =
            let e = eqb-true k (n + 1) q in
            let z : base + k ≡ base + n + 1 = omega arith in
            let y : n ≡ k - 1 = omega arith in
            ap (listed L₂) z ∙ P.here ∙ ap (λ (x : ℕ). literal_with x (o + 1)) (p ∙ ap (part O c) y)
        try false q = let e = eqb-false k (n + 1) q in P.others (base + k) (λ z. e (omega arith)) ∙ X.fields k l (omega arith)

-- At most one literal less is left, and at most as many less as are taken out.
one_less : (ls : List Literal) (a : ℕ) → length ls ≤ length (without ls a) + 1
unfolding left_over
one_less ls a = subst (λ (k : ℕ). length ls ≤ k + 1) (sym (length_without ls a)) (try (eqb a 0) (leb a (length ls)))
  where
    try : (b c : Bool) → length ls ≤ pick b (length ls) (pick c (length ls - 1) (length ls)) + 1
    try true c = omega arith
    try false true = omega arith
    try false false = omega arith

some_less : (ls : List Literal) (ns : List ℕ) → length ls ≤ length (without_all ls ns) + length ns
some_less ls [] = omega arith
some_less ls (n ∷ ns) = let x = some_less ls ns in let y = one_less (without_all ls ns) n in omega (arith, x, y)

-- The literals of the list without one of them.
without_last : {L L₁ : List ListedLiteral} {base all a r : ℕ} (ls : List Literal) → all ≡ base + length ls → Deleted L L₁ base all a r → r ≡ base + length (without ls a)
without_last {base = base} {a = a} ls e D = D.last (length ls) e ∙ ap (λ (k : ℕ). base + k) (sym (length_without ls a))

without_holds : {L L₁ : List ListedLiteral} {base all a r o : ℕ} (ls : List Literal) → all ≡ base + length ls → Deleted L L₁ base all a r → Holds L base o ls → Holds L₁ base o (without ls a)
without_holds {L} {L₁} {base} {all} {a} {r} {o} ls e D H = record { literal = literal }
  where
    literal : (n : ℕ) → 1 ≤ n → n ≤ length (without ls a) → some (listed L₁ (base + n)) ≡ raise_named o (numbered (without ls a) n)
    literal n low h =
        let h' : n ≤ left_over (length ls) a = subst (λ (k : ℕ). n ≤ k) (length_without ls a) h in
        let i = passed_in (length ls) a n low h' in
        ap some (D.left (length ls) e n low h') ∙ H.literal (passed n a) i.0 i.1 ∙ ap (raise_named o) (sym (numbered_without ls a n low))

-- Number 0 takes out nothing, so the zeros after the right literals can be taken out with them.
without_zero : (ls : List Literal) → without ls 0 ≡ ls
without_zero [] = refl
without_zero (l ∷ ls) = refl

without_zeros : (ls : List Literal) (ns : List ℕ) (k : ℕ) → without_all ls (ns ++ replicate k 0) ≡ without_all ls ns
without_zeros ls [] zero = refl
without_zeros ls [] (suc k) = without_zero (without_all ls (replicate k 0)) ∙ without_zeros ls [] k
without_zeros ls (n ∷ ns) k = ap (λ (ms : List Literal). without ms n) (without_zeros ls ns k)

without_cells : {O : List ℕ} {c : ℕ} (ls : List Literal) (ns : List ℕ) → NamesRights O c ns → without_all ls (right_cells O c) ≡ without_all ls ns
without_cells ls ns H = ap (without_all ls) H.cells ∙ without_zeros ls ns (4 - length ns)

-- A resolve with code 3 names one right literal, which is in the first of those cells.
only_right : {O : List ℕ} {c u : ℕ} → u ≡ origin_code O c → u ≡ 3 → (ns : List ℕ) → NamesRights O c ns → part O c 3 ∷ [] ≡ ns
only_right p three [] H = let k = H.some in absurd (omega arith)
only_right p three (n ∷ []) H = ap (λ (xs : List ℕ). get_or xs 0 0 ∷ []) H.cells
only_right p three (n ∷ m ∷ ns) H = let k = H.code in absurd (omega arith)

-- The literals of the list without all right literals that a resolve names: one, or those of all four cells, the last one first.
module _ {O : List ℕ} {L : List ListedLiteral} {base end c : ℕ} where
  pub one_deleted : {L₁ : List ListedLiteral} {u a r : ℕ} → u ≡ origin_code O c → u ≡ 3 → a ≡ part O c 3 → Deleted L L₁ base end a r → RightsDeleted O L L₁ base end c r
  one_deleted {L₁} {u} {a} {r} pu three pa D =
      record {
        before = D.before;
        last = λ ns H ls e. without_last ls e D ∙ ap (λ (ms : List ℕ). base + length (without_all ls ms)) (same ns H);
        holds = λ ns H ls e o K. subst (λ (ms : List ℕ). Holds L₁ base o (without_all ls ms)) (same ns H) (without_holds ls e D K);
      }
    where
      same : (ns : List ℕ) → NamesRights O c ns → a ∷ [] ≡ ns
      same ns H = ap (λ (n : ℕ). n ∷ []) pa ∙ only_right pu three ns H

  pub four_deleted : {L₁ L₂ L₃ L₄ : List ListedLiteral} {k₁ k₂ k₃ k₄ third second first r : ℕ}
      → k₄ ≡ part O c 6 → Deleted L L₁ base end k₄ third → k₃ ≡ part O c 5 → Deleted L₁ L₂ base third k₃ second
      → k₂ ≡ part O c 4 → Deleted L₂ L₃ base second k₂ first → k₁ ≡ part O c 3 → Deleted L₃ L₄ base first k₁ r → RightsDeleted O L L₄ base end c r
  four_deleted {L₁} {L₂} {L₃} {L₄} {k₁} {k₂} {k₃} {k₄} {third} {second} {first} {r} p₄ D₄ p₃ D₃ p₂ D₂ p₁ D₁ =
      record {
        before = λ k h. D₁.before k h ∙ D₂.before k h ∙ D₃.before k h ∙ D₄.before k h;
        last = λ ns H ls e. without_last (without_all ls (k₂ ∷ k₃ ∷ k₄ ∷ [])) (first_is_last ls e) D₁ ∙ ap (λ (ms : List Literal). base + length ms) (same ls ns H);
        holds = λ ns H ls e o K. subst (Holds L₄ base o) (same ls ns H)
            (without_holds (without_all ls (k₂ ∷ k₃ ∷ k₄ ∷ [])) (first_is_last ls e) D₁
            (without_holds (without_all ls (k₃ ∷ k₄ ∷ [])) (second_is_last ls e) D₂ (without_holds (without ls k₄) (without_last ls e D₄) D₃ (without_holds ls e D₄ K))));
      }
    where
      second_is_last : (ls : List Literal) → end ≡ base + length ls → second ≡ base + length (without_all ls (k₃ ∷ k₄ ∷ []))
      second_is_last ls e = without_last (without ls k₄) (without_last ls e D₄) D₃

      first_is_last : (ls : List Literal) → end ≡ base + length ls → first ≡ base + length (without_all ls (k₂ ∷ k₃ ∷ k₄ ∷ []))
      first_is_last ls e = without_last (without_all ls (k₃ ∷ k₄ ∷ [])) (second_is_last ls e) D₂

      same : (ls : List Literal) (ns : List ℕ) → NamesRights O c ns → without_all ls (k₁ ∷ k₂ ∷ k₃ ∷ k₄ ∷ []) ≡ without_all ls ns
      same ls ns H = (λ i. without_all ls (p₁ i ∷ p₂ i ∷ p₃ i ∷ p₄ i ∷ [])) ∙ without_cells ls ns H

-- Literals that stay where they are.
kept_holds : {L L₁ : List ListedLiteral} {base end o : ℕ} (ls : List Literal) → end ≡ base + length ls → ((k : ℕ) → k ≤ end → listed L₁ k ≡ listed L k) → Holds L base o ls → Holds L₁ base o ls
kept_holds {base = base} ls e same H = record { literal = λ n low h. ap some (same (base + n) (omega arith)) ∙ H.literal n low h }

-- Literals behind others, raised by m more.
both_hold : {L : List ListedLiteral} {base kept o : ℕ} (m : ℕ) (xs ys : List Literal) → kept ≡ base + length xs → Holds L base o xs → Holds L kept (o + m) ys → Holds L base o (xs ++ map (raise_literal m) ys)
both_hold {L} {base} {kept} {o} m xs ys e H J = record { literal = λ n low h. try n low h (leb n (length xs)) refl }
  where
    count : length (xs ++ map (raise_literal m) ys) ≡ length xs + length ys
    count = length-append xs (map (raise_literal m) ys) ∙ ap (λ (k : ℕ). length xs + k) (length-map ys (raise_literal m))

    try : (n : ℕ) → 1 ≤ n → n ≤ length (xs ++ map (raise_literal m) ys) → (b : Bool) → leb n (length xs) ≡ b
        → some (listed L (base + n)) ≡ raise_named o (numbered (xs ++ map (raise_literal m) ys) n)
    try n low h true q = let l = leb-true n (length xs) q in H.literal n low l ∙ ap (raise_named o) (sym (numbered_left xs (map (raise_literal m) ys) n low l))
    try n low h false q =
        let l = leb-false n (length xs) q in
        let j = n - length xs in
        let z : base + n ≡ kept + j = omega arith in
        ap (λ (k : ℕ). some (listed L k)) z ∙ J.literal j (omega arith) (omega (arith, l, h, count)) ∙ sym (raise_named_twice o m (numbered ys j))
        ∙ ap (raise_named o) (sym (numbered_raised m ys j) ∙ sym (numbered_right xs (map (raise_literal m) ys) n l))

both_last : (base : ℕ) {kept end : ℕ} (m : ℕ) (xs ys : List Literal) → kept ≡ base + length xs → end ≡ kept + length ys → end ≡ base + length (xs ++ map (raise_literal m) ys)
both_last base m xs ys e f = omega (arith, e, f, length-append xs (map (raise_literal m) ys), length-map ys (raise_literal m))

module _ {O C : List ℕ} {base c o : ℕ} (K : Collectable O C base c o) where
  -- An input clause.
  module _ {count : ℕ} (one : origin_code O c ≡ 1) (pc : count ≡ literals_cell C c) where
    pub input_room : (count ≤ 7) × (base + count < 16512) × (o + 1 ≤ 4096)
    input_room = try K.derivation K.stored K.fits K.few
      where
        try : {B : List ℕ} (d : Derivation) → Stored O C B c d → o + maximum_index d ≤ 4096 → base + length (literals d) + 4 * c < 16512 → (count ≤ 7) × (base + count < 16512) × (o + 1 ≤ 4096)
        try d (stored_resolve k low high la sa qa lb sb qb s) fits few = absurd (omega arith)
        try d (stored_factor k l t qa qb s) fits few = absurd (omega arith)
        try d (stored_input {ls = ls} k q s) fits few =
            let n : count ≡ length (placed 1 ls) = pc ∙ s.literal_count in
            let m : length (placed 1 ls) ≤ 7 = input_few O c (length (placed 1 ls)) (literals_cell C c) (subst (λ (x : List RowLiteral). length (placed 1 ls) ≤ length (placed 1 x)) (sym q) (omega arith)) in
            (omega (arith, n, m), omega (arith, n, few), fits)

    pub input_collected : {L L₁ : List ListedLiteral} {n : ℕ} → n ≡ count → FieldsPlaced L L₁ O c base o n → Collected O C L L₁ base c o (base + n)
    input_collected {L} {L₁} {n} pn X = record { before = X.before; last = λ B d s. ap (λ (k : ℕ). base + k) (pn ∙ pc ∙ (stored_cells s).literal_count); holds = holds }
      where
        holds : (B : List ℕ) (d : Derivation) → Stored O C B c d → Holds L₁ base o (literals d)
        holds B d (stored_resolve k low high la sa qa lb sb qb s) = absurd (omega arith)
        holds B d (stored_factor k l₁ t qa qb s) = absurd (omega arith)
        holds B d (stored_input {ls = ls} k q s) = record { literal = literal }
          where
            literal : (j : ℕ) → 1 ≤ j → j ≤ length (placed 1 ls) → some (listed L₁ (base + j)) ≡ raise_named o (numbered (placed 1 ls) j)
            literal j l h =
                let h' : j ≤ length (placed 1 (map literal_of (take (literals_cell C c) (origin_numbers O c)))) = subst (λ (x : List RowLiteral). j ≤ length (placed 1 x)) (sym q) h in
                let found : numbered (placed 1 ls) j ≡ some (literal_with (part O c (j - 1)) 1) = ap (λ (x : List RowLiteral). numbered (placed 1 x) j) (sym q) ∙ input_numbered O c (literals_cell C c) j l h' in
                ap some (X.fields j l (omega (arith, pn, pc, s.literal_count, h))) ∙ sym (ap (raise_named o) found)

  -- A resolvent or a factor: u is the code of its origin.
  module _ {u p q : ℕ} (is_kind : u ≡ origin_code O c) (no₁ : u ≡ 1 → ⊥) (is_left : p ≡ part O c 0) (isSecond : q ≡ part O c 2) where
    left_at : {B : List ℕ} {l : Derivation} → Stored O C B (part O c 0) l → Stored O C B p l
    left_at {B} {l} t = subst (λ (k : ℕ). Stored O C B k l) (sym is_left) t

    right_at : {B : List ℕ} {r : Derivation} → Stored O C B (part O c 2) r → Stored O C B q r
    right_at {B} {r} t = subst (λ (k : ℕ). Stored O C B k r) (sym isSecond) t

    -- The first parent, which both have.
    pub to_first : (p < c) × Collectable O C base p o
    to_first = try K.derivation K.stored K.fits K.few
      where
        try : (d : Derivation) → Stored O C K.bindings c d → o + maximum_index d ≤ 4096 → base + length (literals d) + 4 * c < 16512 → (p < c) × Collectable O C base p o
        try d (stored_input k e s) fits few = absurd (no₁ (is_kind ∙ k))
        try d (stored_factor {a = a} {b = b} {d = e} k l t qa qb s) fits few =
            let z = is_left in (
              omega arith,
              record { bindings = K.bindings; derivation = e; stored = left_at t; fits = fits; few = omega (arith, few, l, z, one_less (literals e) b) },
            )
        try d (stored_resolve {a = a} {ns = ns} {l = l} {r = r} k low high la sa qa lb sb qb s) fits few =
            let z = is_left in (
              omega arith,
              record {
                bindings = K.bindings;
                derivation = l;
                stored = left_at sa;
                fits = omega arith;
                few = omega (arith, few, la, z, one_less (literals l) a, length-append (without (literals l) a) (map (raise_literal (maximum_index l)) (without_all (literals r) ns)));
              },
            )

    module _ {L L₁ : List ListedLiteral} {all : ℕ} (G : Collected O C L L₁ base p o all) where
      -- How many the first parent has.
      pub first_room : (base ≤ all) × (all < 16512)
      first_room =
          let x = to_first in
          let e = G.last x.1.bindings x.1.derivation x.1.stored in
          (omega (arith, e), omega (arith, e, x.1.few))

      pub from_first : u ≡ 2 → {L₂ : List ListedLiteral} {end : ℕ} → Deleted L₁ L₂ base all q end → Collected O C L L₂ base c o end
      from_first two {L₂} {end} D = record { before = λ k h. D.before k h ∙ G.before k h; last = last; holds = holds }
        where
          last : (B : List ℕ) (d : Derivation) → Stored O C B c d → end ≡ base + length (literals d)
          last B d (stored_input k e s) = absurd (no₁ (is_kind ∙ k))
          last B d (stored_resolve k low high la sa qa lb sb qb s) = let z = is_kind ∙ k in absurd (omega (arith, z, two, low))
          last B d (stored_factor {b = b} {d = e} k l t qa qb s) =
              without_last (literals e) (G.last B e (left_at t)) D ∙ ap (λ (x : ℕ). base + length (without (literals e) x)) (isSecond ∙ qb)

          holds : (B : List ℕ) (d : Derivation) → Stored O C B c d → Holds L₂ base o (literals d)
          holds B d (stored_input k e s) = absurd (no₁ (is_kind ∙ k))
          holds B d (stored_resolve k low high la sa qa lb sb qb s) = let z = is_kind ∙ k in absurd (omega (arith, z, two, low))
          holds B d (stored_factor {b = b} {d = e} k l t qa qb s) =
              subst (λ (x : ℕ). Holds L₂ base o (without (literals e) x)) (isSecond ∙ qb) (without_holds (literals e) (G.last B e (left_at t)) D (G.holds B e (left_at t)))

      -- A resolvent has a second parent.
      module _ {a kept m : ℕ} {L₂ : List ListedLiteral} (no₂ : u ≡ 2 → ⊥) (is_named : a ≡ part O c 1) (D : Deleted L₁ L₂ base all a kept) (pm : m ≡ index_cell C p) where
        left_index : {B : List ℕ} {l : Derivation} → Stored O C B p l → m ≡ maximum_index l
        left_index t = pm ∙ (stored_cells t).index

        left_last : {B : List ℕ} {l : Derivation} → Stored O C B p l → kept ≡ base + length (without (literals l) a)
        left_last {B} {l} t = without_last (literals l) (G.last B l t) D

        pub to_second : (q < c) × Collectable O C kept q (o + m)
        to_second = try K.derivation K.stored K.fits K.few
          where
            try : (d : Derivation) → Stored O C K.bindings c d → o + maximum_index d ≤ 4096 → base + length (literals d) + 4 * c < 16512 → (q < c) × Collectable O C kept q (o + m)
            try d (stored_input k e s) fits few = absurd (no₁ (is_kind ∙ k))
            try d (stored_factor k l t qa qb s) fits few = absurd (no₂ (is_kind ∙ k))
            try d (stored_resolve {a = a₁} {ns = ns} {l = l} {r = r} k low high la sa qa lb sb qb s) fits few =
                let z = isSecond in
                let y = left_index (left_at sa) in
                let x : kept ≡ base + length (without (literals l) a₁) = subst (λ (i : ℕ). kept ≡ base + length (without (literals l) i)) (is_named ∙ qa) (left_last (left_at sa)) in (
                  omega (arith, z, lb),
                  record {
                    bindings = K.bindings;
                    derivation = r;
                    stored = right_at sb;
                    fits = omega (arith, y, fits);
                    few = omega (arith, few, lb, z, x, high, some_less (literals r) ns, length-append (without (literals l) a₁) (map (raise_literal (maximum_index l)) (without_all (literals r) ns)), length-map (without_all (literals r) ns) (raise_literal (maximum_index l)));
                  },
                )

        module _ {L₃ : List ListedLiteral} {final : ℕ} (J : Collected O C L₂ L₃ kept q (o + m) final) where
          pub to_rights : RightsDeletable O kept final c
          to_rights =
              let x = to_second in
              let e = J.last x.1.bindings x.1.derivation x.1.stored in
              let names = named K.derivation K.stored in
              record { inside = omega (arith, e); few = omega (arith, e, x.1.few); numbers = names.0; names = names.1 }
            where
              named : (d : Derivation) → Stored O C K.bindings c d → (ns : List ℕ) × NamesRights O c ns
              named d (stored_input k e s) = absurd (no₁ (is_kind ∙ k))
              named d (stored_factor k l t qa qb s) = absurd (no₂ (is_kind ∙ k))
              named d (stored_resolve {ns = ns} k low high la sa qa lb sb qb s) = (ns, record { code = k; some = low; few = high; cells = qb })

          pub from_both : {end : ℕ} {L₄ : List ListedLiteral} → RightsDeleted O L₃ L₄ kept final c end → Collected O C L L₄ base c o end
          from_both {end} {L₄} E =
              record {
                before = λ k h. E.before k (omega (arith, h, kept_low)) ∙ J.before k (omega (arith, h, kept_low)) ∙ D.before k h ∙ G.before k h;
                last = last;
                holds = holds;
              }
            where
              kept_low : base ≤ kept
              kept_low = let x = to_first in omega (arith, left_last x.1.stored)

              -- The resolvent with the numbers of the code.
              same : (l r : Derivation) (a₁ : ℕ) (ns : List ℕ) → a ≡ a₁ → m ≡ maximum_index l
                  → without (literals l) a ++ map (raise_literal m) (without_all (literals r) ns) ≡ without (literals l) a₁ ++ map (raise_literal (maximum_index l)) (without_all (literals r) ns)
              same l r a₁ ns x z = λ i. without (literals l) (x i) ++ map (raise_literal (z i)) (without_all (literals r) ns)

              last : (B : List ℕ) (d : Derivation) → Stored O C B c d → end ≡ base + length (literals d)
              last B d (stored_input k e s) = absurd (no₁ (is_kind ∙ k))
              last B d (stored_factor k l t qa qb s) = absurd (no₂ (is_kind ∙ k))
              last B d (stored_resolve {a = a₁} {ns = ns} {l = l} {r = r} k low high la sa qa lb sb qb s) =
                  let names : NamesRights O c ns = record { code = k; some = low; few = high; cells = qb } in
                  both_last base m (without (literals l) a) (without_all (literals r) ns) (left_last (left_at sa)) (E.last ns names (literals r) (J.last B r (right_at sb)))
                  ∙ ap (λ (ls : List Literal). base + length ls) (same l r a₁ ns (is_named ∙ qa) (left_index (left_at sa)))

              holds : (B : List ℕ) (d : Derivation) → Stored O C B c d → Holds L₄ base o (literals d)
              holds B d (stored_input k e s) = absurd (no₁ (is_kind ∙ k))
              holds B d (stored_factor k l t qa qb s) = absurd (no₂ (is_kind ∙ k))
              holds B d (stored_resolve {a = a₁} {ns = ns} {l = l} {r = r} k low high la sa qa lb sb qb s) =
                  let names : NamesRights O c ns = record { code = k; some = low; few = high; cells = qb } in
                  let t = left_at sa in
                  let e = left_last t in
                  let x : Holds L₂ base o (without (literals l) a) = without_holds (literals l) (G.last B l t) D (G.holds B l t) in
                  let y : Holds L₄ base o (without (literals l) a) = kept_holds (without (literals l) a) e (λ i h. E.before i h ∙ J.before i h) x in
                  let v : Holds L₄ kept (o + m) (without_all (literals r) ns) = E.holds ns names (literals r) (J.last B r (right_at sb)) (o + m) (J.holds B r (right_at sb)) in
                  subst (Holds L₄ base o) (same l r a₁ ns (is_named ∙ qa) (left_index t)) (both_hold m (without (literals l) a) (without_all (literals r) ns) e y v)
