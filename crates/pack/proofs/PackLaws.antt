-- What stands in a pack, and counting its files.
use mathlib.Core.Bool.{Bool, true, false}
use mathlib.Core.List.{List}
use mathlib.Core.Path.{◌≡◌, refl, sym, ap, ◌∙◌, subst}
use Prim.Native.Nat.{ℕ, suc, ◌+◌, ◌≤◌, ◌<◌}
use native.Mathlib.Nat.{add-zero, zero-add}
use native.Mathlib.Omega.{arith}
use borrow.Author.Tests.{lt-leb, le-leb, leb-true}
use lib.Dec.{leb}
use lib.ListN.{length}
use Rattle.std.specs.Prelude.{None}
use Rattle.std.specs.declared.ops.Range.{Range}
use Rattle.pack.specs.Pack.{file, pick_entry, number_at, file_of, entry_at, FilesFrom, none, one}

-- The ways in which the program finds what stands at a place.
pub too_short : (s : List ℕ) (at : ℕ) → length s < at + 4 → None ≡ entry_at s at
unfolding entry_at
too_short s at l = simp (lt-leb (at + 4) (length s) l)

pub cut_file : (s : List ℕ) (at n : ℕ) → n ≡ number_at s at → at + 4 ≤ length s → length s < at + 4 + n → None ≡ entry_at s at
unfolding entry_at file_of
cut_file s at n q l m =
    simp (le-leb (at + 4) (length s) l, ← q, lt-leb (at + 4 + n) (length s) m)

pub whole_file : (s : List ℕ) (at n : ℕ) → n ≡ number_at s at → at + 4 ≤ length s → at + 4 + n ≤ length s → file (at + 4) (at + 4 + n) ≡ entry_at s at
unfolding entry_at file_of
whole_file s at n q l m =
    simp (le-leb (at + 4) (length s) l, ← q, le-leb (at + 4 + n) (length s) m)

-- A file that stands at a place lies behind it, within the pack.
pub record Inside (s : List ℕ) (at first end : ℕ) : Type 0 where
  pub begins : first ≡ at + 4
  pub ordered : first ≤ end
  pub ends : end ≤ length s

file_inside : (s : List ℕ) (at n first end : ℕ) → (b : Bool) → leb (at + 4 + n) (length s) ≡ b → pick_entry b (file (at + 4) (at + 4 + n)) None ≡ file first end → Inside s at first end
file_inside s at n first end true t q =
    let l : at + 4 + n ≤ length s = leb-true _ _ t in
    let same : ◌≡◌ {A = Range ℕ} (record { start = at + 4; end = at + 4 + n }) (record { start = first; end = end }) = cc in
    let f : at + 4 ≡ first = ap (λ (r : Range ℕ). r.start) same in
    let e : at + 4 + n ≡ end = ap (λ (r : Range ℕ). r.end) same in
    record { begins = sym f; ordered = omega arith; ends = omega arith }
file_inside s at n first end false t q = let z : ◌≡◌ {A = ℕ} 0 1 = cc in absurd (omega arith)

entry_inside : (s : List ℕ) (at first end : ℕ) → (b : Bool) → pick_entry b (file_of s (at + 4) (number_at s at)) None ≡ file first end → Inside s at first end
unfolding file_of
entry_inside s at first end true q = file_inside s at (number_at s at) first end _ refl q
entry_inside s at first end false q = let z : ◌≡◌ {A = ℕ} 0 1 = cc in absurd (omega arith)

pub inside : {s : List ℕ} {at first end : ℕ} → entry_at s at ≡ file first end → Inside s at first end
unfolding entry_at
inside {s} {at} {first} {end} q = entry_inside s at first end (leb (at + 4) (length s)) q

-- The files from a place on, behind the one that stands there.
record Behind (s : List ℕ) (end m : ℕ) : Type 0 where
  pub files : ℕ
  pub counted : m ≡ suc files
  pub rest : FilesFrom s end files

end_once : {first end first' end' : ℕ} → file first end ≡ file first' end' → end ≡ end'
end_once {first} {end} {first'} {end'} q =
    let same : ◌≡◌ {A = Range ℕ} (record { start = first; end = end }) (record { start = first'; end = end' }) = cc in
    ap (λ (r : Range ℕ). r.end) same

behind : {s : List ℕ} {at first end m : ℕ} → entry_at s at ≡ file first end → FilesFrom s at m → Behind s end m
behind {s} {at} {first} {end} q (none p) = let i = inside q in absurd (omega (arith, i.begins, i.ordered, i.ends, p))
behind {s} {at} {first} {end} q (one {end = e} {n = n} p r) =
    let same : e ≡ end = end_once (sym p ∙ q) in
    record { files = n; counted = refl; rest = subst (λ (x : ℕ). FilesFrom s x n) same r }

-- What holds when n files have been passed and the next place is `at`.
pub record Rest (s : List ℕ) (at n m : ℕ) : Type 0 where
  pub files : ℕ
  pub counted : m ≡ n + files
  pub rest : FilesFrom s at files

pub record Passed (s : List ℕ) (at n : ℕ) : Type 0 where
  pub inside : at ≤ length s
  pub few : n ≤ at
  pub onward : (m : ℕ) → FilesFrom s at m → FilesFrom s 0 (n + m)
  pub back : (m : ℕ) → FilesFrom s 0 m → Rest s at n m

pub passed_none : (s : List ℕ) → Passed s 0 0
passed_none s = record {
  inside = omega arith;
  few = omega arith;
  onward = λ m f. rw zero-add f;
  back = λ m f. record { files = m; counted = omega arith; rest = f };
}

passed_rest : {s : List ℕ} {at n first end m : ℕ} → entry_at s at ≡ file first end → Rest s at n m → Rest s end (n + 1) m
passed_rest q r =
    let b = behind q r.rest in
    record { files = b.files; counted = omega (arith, r.counted, b.counted); rest = b.rest }

pub passed_more : {s : List ℕ} {at n first end : ℕ} → Passed s at n → entry_at s at ≡ file first end → Passed s end (n + 1)
passed_more {s} {at} {n} {first} {end} p q =
    let i = inside q in
    record {
      inside = i.ends;
      few = omega (arith, p.few, i.begins, i.ordered);
      onward = λ m f. let e : n + suc m ≡ n + 1 + m = omega arith in subst (λ (x : ℕ). FilesFrom s 0 x) e (p.onward (suc m) (one q f));
      back = λ m f. passed_rest q (p.back m f);
    }

pub passed_all_lem : {s : List ℕ} {at n : ℕ} → Passed s at n → length s ≤ at → FilesFrom s 0 n
passed_all_lem {s} {at} {n} p l =
    let e : at ≡ length s = omega (arith, p.inside) in rw add-zero at (p.onward 0 (none e))

no_files : {s : List ℕ} {at m : ℕ} → entry_at s at ≡ None → at < length s → FilesFrom s at m → ⊥
no_files q l (none p) = omega arith
no_files q l (one p r) = let z : ◌≡◌ {A = ℕ} 0 1 = cc in omega arith

pub passed_cut : {s : List ℕ} {at n : ℕ} → Passed s at n → entry_at s at ≡ None → at < length s → (m : ℕ) → FilesFrom s 0 m → ⊥
passed_cut p q l m f = no_files q l (p.back m f).rest
