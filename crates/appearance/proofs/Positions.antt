-- Laws of the list of variables in the order in which they appear first: where a variable is in it, what it has, how it grows, and how long it gets.
use mathlib.Core.Path.{◌≡◌, refl, sym, ap, ◌∙◌, subst}
use mathlib.Core.Bool.{Bool, true, false}
use mathlib.Core.List.{List, [], ◌∷◌, ◌++◌, append_assoc, append-nil}
use Prim.Native.Nat.{ℕ, suc, ◌+◌, ◌*◌, ◌≤◌, ◌<◌}
use native.Mathlib.Omega.{arith}
use lib.Dec.{leb, ltb}
use lib.ListN.{length, get_or, length-append, get_or-append}
use lib.Seq.{get_or_at}
use borrow.Author.Tests.{ltb-true, ltb-false, lt-ltb, le-ltb, leb-true}
use Rattle.record.specs.Record.{pick}
use Rattle.unification.specs.Row.{Variable, same}
use Rattle.unification.specs.Term.{Term, Terms, var, app, nil, cons, occurrences, all_occurrences, Variables, AllVariables}
use Rattle.unification.proofs.Lists.{Each, each_append}
use Rattle.unification.proofs.Terms.{variables_more}
use Rattle.unification.proofs.Tests.{same_eq, same_refl}
use Rattle.derivation.specs.Written.{Clause}
use Rattle.appearance.specs.Appearance.{position, noted, appearing, all_appearing, shown, all_shown}
use Rattle.appearance.specs.Growing.{Longer}

-- ── Where a variable is ──

-- The variable is in the list.
abbrev pub Among : List Variable → Variable → Type 0
Among seen x = position seen x < length seen

-- The variable stands at its position.
pub position_found : (d : Variable) (seen : List Variable) (x : Variable) → Among seen x → get_or seen (position seen x) d ≡ x
position_found d [] x h = absurd (omega arith)
position_found d (y ∷ seen) x h = try (same y x) refl h (λ k. position_found d seen x k)
  where
    try : (b : Bool) → same y x ≡ b → pick b 0 (suc (position seen x)) < suc (length seen) → (position seen x < length seen → get_or seen (position seen x) d ≡ x) → get_or (y ∷ seen) (pick b 0 (suc (position seen x))) d ≡ x
    try true q k ih = same_eq y x q
    try false q k ih = ih (omega arith)

pub position_bound : (seen : List Variable) (x : Variable) → position seen x ≤ length seen
position_bound [] x = omega arith
position_bound (y ∷ seen) x = try (same y x) (position_bound seen x)
  where
    try : (b : Bool) → position seen x ≤ length seen → pick b 0 (suc (position seen x)) ≤ suc (length seen)
    try true ih = omega arith
    try false ih = omega arith

-- A longer list has it at the same position.
pub position_append : (seen more : List Variable) (x : Variable) → Among seen x → position (seen ++ more) x ≡ position seen x
position_append [] more x h = absurd (omega arith)
position_append (y ∷ seen) more x h = try (same y x) h (λ k. position_append seen more x k)
  where
    try : (b : Bool) → pick b 0 (suc (position seen x)) < suc (length seen) → (position seen x < length seen → position (seen ++ more) x ≡ position seen x) → ◌≡◌ {A = ℕ} (pick b 0 (suc (position (seen ++ more) x))) (pick b 0 (suc (position seen x)))
    try true k ih = refl
    try false k ih = ap suc (ih (omega arith))

-- A variable that was not there stands at the end.
pub position_new : (seen : List Variable) (x : Variable) → length seen ≤ position seen x → position (seen ++ (x ∷ [])) x ≡ length seen
position_new [] x h = ap (λ (b : Bool). pick b 0 1) (same_refl x)
position_new (y ∷ seen) x h = try (same y x) h (λ k. position_new seen x k)
  where
    try : (b : Bool) → suc (length seen) ≤ pick b 0 (suc (position seen x)) → (length seen ≤ position seen x → position (seen ++ (x ∷ [])) x ≡ length seen) → pick b 0 (suc (position (seen ++ (x ∷ [])) x)) ≡ suc (length seen)
    try true k ih = absurd (omega arith)
    try false k ih = ap suc (ih (omega arith))

-- ── How the list grows ──

pub longer_same : (seen : List Variable) → Longer seen seen
longer_same seen = record { more = []; grown = sym (append-nil seen) }

pub longer_then : {seen middle after : List Variable} → Longer seen middle → Longer middle after → Longer seen after
longer_then {seen} L M = record {
  more = L.more ++ M.more;
  grown = M.grown ∙ ap (◌++ M.more) L.grown ∙ append_assoc seen L.more M.more;
}

-- What was there stays, and at its position.
pub position_kept : (seen after : List Variable) → Longer seen after → (x : Variable) → Among seen x → position after x ≡ position seen x
position_kept seen after L x h = ap (λ (l : List Variable). position l x) L.grown ∙ position_append seen L.more x h

pub among_kept : (seen after : List Variable) → Longer seen after → (x : Variable) → Among seen x → Among after x
among_kept seen after L x h =
    let n : length after ≡ length seen + length L.more = ap length L.grown ∙ length-append seen L.more in
    let p = position_kept seen after L x h in
    omega arith

pub noted_old : (seen : List Variable) (x : Variable) → Among seen x → noted seen x ≡ seen
noted_old seen x h = ap (λ (b : Bool). pick b seen (seen ++ (x ∷ []))) (lt-ltb (position seen x) (length seen) h)

pub noted_new : (seen : List Variable) (x : Variable) → length seen ≤ position seen x → noted seen x ≡ seen ++ (x ∷ [])
noted_new seen x h = ap (λ (b : Bool). pick b seen (seen ++ (x ∷ []))) (le-ltb (position seen x) (length seen) h)

pub noted_longer : (seen : List Variable) (x : Variable) → Longer seen (noted seen x)
noted_longer seen x = try (ltb (position seen x) (length seen))
  where
    try : (b : Bool) → Longer seen (pick b seen (seen ++ (x ∷ [])))
    try true = longer_same seen
    try false = record { more = x ∷ []; grown = refl }

pub noted_among : (seen : List Variable) (x : Variable) → Among (noted seen x) x
noted_among seen x = try (ltb (position seen x) (length seen)) refl
  where
    try : (b : Bool) → ltb (position seen x) (length seen) ≡ b → Among (pick b seen (seen ++ (x ∷ []))) x
    try true q = ltb-true (position seen x) (length seen) q
    try false q = omega (arith, position_new seen x (ltb-false (position seen x) (length seen) q), length-append seen (x ∷ []))

-- A variable that was noted has from then on the position that it had, or got then.
pub noted_position : (seen all : List Variable) (x : Variable) → Longer (noted seen x) all → position all x ≡ position seen x
noted_position seen all x L = position_kept (noted seen x) all L x (noted_among seen x) ∙ try (ltb (position seen x) (length seen)) refl
  where
    try : (b : Bool) → ltb (position seen x) (length seen) ≡ b → position (pick b seen (seen ++ (x ∷ []))) x ≡ position seen x
    try true q = refl
    try false q =
        let h = ltb-false (position seen x) (length seen) q in
        let m = position_bound seen x in
        let z : length seen ≡ position seen x = omega arith in
        position_new seen x h ∙ z

mutual
  pub appearing_longer : (seen : List Variable) (t : Term Variable) → Longer seen (appearing seen t)
  appearing_longer seen (var x) = noted_longer seen x
  appearing_longer seen (app s ts) = all_appearing_longer seen ts

  pub all_appearing_longer : (seen : List Variable) (ts : Terms Variable) → Longer seen (all_appearing seen ts)
  all_appearing_longer seen nil = longer_same seen
  all_appearing_longer seen (cons t ts) =
      longer_then (appearing_longer seen t) (all_appearing_longer (appearing seen t) ts)

mutual
  pub appearing_among : (seen : List Variable) (t : Term Variable) → Variables (Among (appearing seen t)) t
  appearing_among seen (var x) = noted_among seen x
  appearing_among seen (app s ts) = all_appearing_among seen ts

  pub all_appearing_among : (seen : List Variable) (ts : Terms Variable) → AllVariables (Among (all_appearing seen ts)) ts
  all_appearing_among seen nil = tt
  all_appearing_among seen (cons t ts) = (
    variables_more (Among (appearing seen t)) (Among (all_appearing (appearing seen t) ts)) (among_kept (appearing seen t) (all_appearing (appearing seen t) ts) (all_appearing_longer (appearing seen t) ts)) t (appearing_among seen t),
    all_appearing_among (appearing seen t) ts,
  )

-- What is printed as `~` takes no number.
pub shown_hidden : (seen : List Variable) (l : Bool × Term Variable) → leb (occurrences l.1) 64 ≡ false → shown seen l ≡ seen
shown_hidden seen l q = ap (λ (b : Bool). pick b (appearing seen l.1) seen) q

pub shown_longer : (seen : List Variable) (l : Bool × Term Variable) → Longer seen (shown seen l)
shown_longer seen l = try (leb (occurrences l.1) 64)
  where
    try : (b : Bool) → Longer seen (pick b (appearing seen l.1) seen)
    try true = appearing_longer seen l.1
    try false = longer_same seen

pub all_shown_longer : (seen : List Variable) (ls : Clause) → Longer seen (all_shown seen ls)
all_shown_longer seen [] = longer_same seen
all_shown_longer seen (l ∷ ls) = longer_then (shown_longer seen l) (all_shown_longer (shown seen l) ls)

-- Every variable of a printed literal is in the list.
pub shown_among : (seen : List Variable) (l : Bool × Term Variable) → leb (occurrences l.1) 64 ≡ true → Variables (Among (shown seen l)) l.1
shown_among seen l q = subst (λ (b : Bool). Variables (Among (pick b (appearing seen l.1) seen)) l.1) (sym q) (appearing_among seen l.1)

pub all_shown_among : (seen : List Variable) (ls : Clause) → Each (λ (l : Bool × Term Variable). leb (occurrences l.1) 64 ≡ true) ls → Each (λ (l : Bool × Term Variable). Variables (Among (all_shown seen ls)) l.1) ls
all_shown_among seen [] h = tt
all_shown_among seen (l ∷ ls) h = (
  variables_more (Among (shown seen l)) (Among (all_shown (shown seen l) ls)) (among_kept (shown seen l) (all_shown (shown seen l) ls) (all_shown_longer (shown seen l) ls)) l.1 (shown_among seen l h.0),
  all_shown_among (shown seen l) ls h.1,
)

-- ── What the list has ──

-- What holds of the variables before, and of those of a term or clause, holds of all then.
module _ (P : Variable → Type 0) where
  pub noted_each : (seen : List Variable) (x : Variable) → Each P seen → P x → Each P (noted seen x)
  noted_each seen x h k = try (ltb (position seen x) (length seen))
    where
      try : (b : Bool) → Each P (pick b seen (seen ++ (x ∷ [])))
      try true = h
      try false = each_append P seen (x ∷ []) h (k, tt)

  mutual
    pub appearing_each : (seen : List Variable) (t : Term Variable) → Each P seen → Variables P t → Each P (appearing seen t)
    appearing_each seen (var x) h k = noted_each seen x h k
    appearing_each seen (app s ts) h k = all_appearing_each seen ts h k

    pub all_appearing_each : (seen : List Variable) (ts : Terms Variable) → Each P seen → AllVariables P ts → Each P (all_appearing seen ts)
    all_appearing_each seen nil h k = h
    all_appearing_each seen (cons t ts) h k = all_appearing_each (appearing seen t) ts (appearing_each seen t h k.0) k.1

  pub shown_each : (seen : List Variable) (l : Bool × Term Variable) → Each P seen → Variables P l.1 → Each P (shown seen l)
  shown_each seen l h k = try (leb (occurrences l.1) 64)
    where
      try : (b : Bool) → Each P (pick b (appearing seen l.1) seen)
      try true = appearing_each seen l.1 h k
      try false = h

  pub all_shown_each : (seen : List Variable) (ls : Clause) → Each P seen → Each (λ (l : Bool × Term Variable). Variables P l.1) ls → Each P (all_shown seen ls)
  all_shown_each seen [] h k = h
  all_shown_each seen (l ∷ ls) h k = all_shown_each (shown seen l) ls (shown_each seen l h k.0) k.1

-- No variable is in it twice: what stands at a position has that position.
abbrev pub Once : List Variable → Type 0
Once seen = (d : Variable) (n : ℕ) → n < length seen → position seen (get_or seen n d) ≡ n

once_append : (seen : List Variable) (x : Variable) → length seen ≤ position seen x → Once seen → Once (seen ++ (x ∷ []))
once_append seen x h k d n l = try (ltb n (length seen)) refl
  where
    try : (b : Bool) → ltb n (length seen) ≡ b → position (seen ++ (x ∷ [])) (get_or (seen ++ (x ∷ [])) n d) ≡ n
    try true q =
        let m = ltb-true n (length seen) q in
        let p = k d n m in
        ap (position (seen ++ (x ∷ []))) (get_or-append seen (x ∷ []) d n m) ∙ position_append seen (x ∷ []) (get_or seen n d) (omega arith) ∙ p
    try false q =
        let z : length seen ≡ n = omega (arith, ltb-false n (length seen) q, length-append seen (x ∷ [])) in
        ap (position (seen ++ (x ∷ []))) (get_or_at seen x [] d n z) ∙ position_new seen x h ∙ z

pub noted_once : (seen : List Variable) (x : Variable) → Once seen → Once (noted seen x)
noted_once seen x k = try (ltb (position seen x) (length seen)) refl
  where
    try : (b : Bool) → ltb (position seen x) (length seen) ≡ b → Once (pick b seen (seen ++ (x ∷ [])))
    try true q = k
    try false q = once_append seen x (ltb-false (position seen x) (length seen) q) k

mutual
  pub appearing_once : (seen : List Variable) (t : Term Variable) → Once seen → Once (appearing seen t)
  appearing_once seen (var x) k = noted_once seen x k
  appearing_once seen (app s ts) k = all_appearing_once seen ts k

  pub all_appearing_once : (seen : List Variable) (ts : Terms Variable) → Once seen → Once (all_appearing seen ts)
  all_appearing_once seen nil k = k
  all_appearing_once seen (cons t ts) k = all_appearing_once (appearing seen t) ts (appearing_once seen t k)

pub shown_once : (seen : List Variable) (l : Bool × Term Variable) → Once seen → Once (shown seen l)
shown_once seen l k = try (leb (occurrences l.1) 64)
  where
    try : (b : Bool) → Once (pick b (appearing seen l.1) seen)
    try true = appearing_once seen l.1 k
    try false = k

pub all_shown_once : (seen : List Variable) (ls : Clause) → Once seen → Once (all_shown seen ls)
all_shown_once seen [] k = k
all_shown_once seen (l ∷ ls) k = all_shown_once (shown seen l) ls (shown_once seen l k)

-- ── How long it gets ──

pub noted_length : (seen : List Variable) (x : Variable) → length (noted seen x) ≤ length seen + 1
noted_length seen x = try (ltb (position seen x) (length seen))
  where
    try : (b : Bool) → length (pick b seen (seen ++ (x ∷ []))) ≤ length seen + 1
    try true = omega arith
    try false = omega (arith, length-append seen (x ∷ []))

mutual
  pub appearing_length : (seen : List Variable) (t : Term Variable) → length (appearing seen t) ≤ length seen + occurrences t
  appearing_length seen (var x) = noted_length seen x
  appearing_length seen (app s ts) = omega (arith, all_appearing_length seen ts)

  pub all_appearing_length : (seen : List Variable) (ts : Terms Variable) → length (all_appearing seen ts) ≤ length seen + all_occurrences ts
  all_appearing_length seen nil = omega arith
  all_appearing_length seen (cons t ts) = omega (arith, appearing_length seen t, all_appearing_length (appearing seen t) ts)

pub shown_length : (seen : List Variable) (l : Bool × Term Variable) → length (shown seen l) ≤ length seen + 64
shown_length seen l = try (leb (occurrences l.1) 64) refl
  where
    try : (b : Bool) → leb (occurrences l.1) 64 ≡ b → length (pick b (appearing seen l.1) seen) ≤ length seen + 64
    try true q = omega (arith, appearing_length seen l.1, leb-true (occurrences l.1) 64 q)
    try false q = omega arith

pub all_shown_length : (seen : List Variable) (ls : Clause) → length (all_shown seen ls) ≤ length seen + 64 * length ls
all_shown_length seen [] = omega arith
all_shown_length seen (l ∷ ls) = omega (arith, shown_length seen l, all_shown_length (shown seen l) ls)

-- ── Variables noted one after the other ──

abbrev pub noted_all : List Variable → List Variable → List Variable
noted_all seen [] = seen
noted_all seen (x ∷ xs) = noted_all (noted seen x) xs

pub noted_all_append : (seen xs ys : List Variable) → noted_all seen (xs ++ ys) ≡ noted_all (noted_all seen xs) ys
noted_all_append seen [] ys = refl
noted_all_append seen (x ∷ xs) ys = noted_all_append (noted seen x) xs ys

pub noted_all_longer : (seen xs : List Variable) → Longer seen (noted_all seen xs)
noted_all_longer seen [] = longer_same seen
noted_all_longer seen (x ∷ xs) = longer_then (noted_longer seen x) (noted_all_longer (noted seen x) xs)

pub noted_all_among : (seen xs : List Variable) → Each (Among (noted_all seen xs)) xs
noted_all_among seen [] = tt
noted_all_among seen (x ∷ xs) = (
  among_kept (noted seen x) (noted_all (noted seen x) xs) (noted_all_longer (noted seen x) xs) x (noted_among seen x),
  noted_all_among (noted seen x) xs,
)

pub noted_all_each : (P : Variable → Type 0) (seen xs : List Variable) → Each P seen → Each P xs → Each P (noted_all seen xs)
noted_all_each P seen [] h k = h
noted_all_each P seen (x ∷ xs) h k = noted_all_each P (noted seen x) xs (noted_each P seen x h k.0) k.1

pub noted_all_once : (seen xs : List Variable) → Once seen → Once (noted_all seen xs)
noted_all_once seen [] k = k
noted_all_once seen (x ∷ xs) k = noted_all_once (noted seen x) xs (noted_once seen x k)

-- Two variables of the list at the same position are the same.
pub position_once : (seen : List Variable) (x y : Variable) → Among seen x → Among seen y → position seen x ≡ position seen y → x ≡ y
position_once seen x y h k e = sym (position_found (0, 0) seen x h) ∙ ap (λ (n : ℕ). get_or seen n (0, 0)) e ∙ position_found (0, 0) seen y k

-- A variable that is noted after others and not at position 0 has one of those others at the position below.
pub position_below : (front back : List Variable) (x : Variable) (n : ℕ) → position (noted_all [] (front ++ (x ∷ back))) x ≡ suc n
    → (n < length (noted_all [] front)) × (position (noted_all [] (front ++ (x ∷ back))) (get_or (noted_all [] front) n (0, 0)) ≡ n)
position_below front back x n e =
    let seen = noted_all [] front in
    let all = noted_all [] (front ++ (x ∷ back)) in
    let q : all ≡ noted_all (noted seen x) back = noted_all_append [] front (x ∷ back) in
    let L : Longer (noted seen x) all = subst (Longer (noted seen x)) (sym q) (noted_all_longer (noted seen x) back) in
    let p : position seen x ≡ suc n = sym (noted_position seen all x L) ∙ e in
    let h : n < length seen = omega (arith, position_bound seen x) in
    let o : position seen (get_or seen n (0, 0)) ≡ n = noted_all_once [] front (λ d m k. absurd (omega arith)) (0, 0) n h in
    (h, position_kept seen all (longer_then (noted_longer seen x) L) (get_or seen n (0, 0)) (omega arith) ∙ o)
