-- The tests of kinds and ranges say what the conditions of 3 and 4 say.
use mathlib.Core.Path.{◌≡◌, refl, sym, ap, ◌∙◌, subst}
use mathlib.Core.Logic.{◌⊎◌, inl, inr}
use mathlib.Core.Bool.{Bool, true, false, ◌&&◌}
use mathlib.Core.Option.{Option, none, some}
use mathlib.Core.List.{List, [], ◌∷◌}
use Prim.Native.Nat.{ℕ, zero, suc, ◌+◌, ◌-◌, ◌≤◌, ◌<◌}
use native.Mathlib.Omega.{arith}
use lib.Dec.{eqb, leb, ltb, eqb→eq, eqb_refl, leb→le, nltb→le}
use lib.ListN.{get_or, drop}
use lib.Seq.{get_or-drop}
use Rattle.record.specs.Record.{pick, Record, otherKind, Kind, symbolKind, variableKind, applicationKind, inputKind, resolveKind, factorKind, severalKind, windowKind, kind_numbered, field_a}
use Rattle.unification.proofs.Tests.{to_t, from_t, both_true, true_not_false, some_not_none}
use Rattle.derivation.proofs.Literals.{leb_false_lt}
use Rattle.demands.specs.Conditions.{field_numbered, IsWindow, UnknownKind, kind_below, kind_above, window_in_new_form, Layout, of_symbol, of_variable, of_application, of_input, of_resolve, of_factor, of_several, of_window, OutOfRange, count_over, no_right_literal, variable_over, unused_field, unused_days, RightLiterals, of_one, of_some}
use Rattle.verdict.specs.Refusal.{has_days, kind_of_record, zeros, fields_in_range, zero_days, days_in_range, in_range, right_numbers}

-- Tests that fail.
pub not_true : (b : Bool) → ¬ (b ≡ true) → b ≡ false
not_true true h = absurd (h refl)
not_true false h = refl

pub either_false : (a b : Bool) → (a && b) ≡ false → (a ≡ false) ⊎ (b ≡ false)
either_false true b q = inr q
either_false false b q = inl refl

pub second_false : (a b : Bool) → b ≡ false → (a && b) ≡ false
second_false true b q = q
second_false false b q = refl

pub unequal : (a b : ℕ) → eqb a b ≡ false → ¬ (a ≡ b)
unequal a b q e = true_not_false (subst (λ (c : ℕ). eqb a c ≡ true) e (from_t (eqb a a) (eqb_refl a))) q

pub equal : (a b : ℕ) → eqb a b ≡ true → a ≡ b
equal a b q = eqb→eq a b (to_t (eqb a b) q)

pub at_most : (a b : ℕ) → leb a b ≡ true → a ≤ b
at_most a b q = leb→le a b (to_t (leb a b) q)

pub not_under : (a b : ℕ) → ltb a b ≡ false → b ≤ a
not_under a b q = nltb→le a b (rw q tt)

-- A kind's number.
abbrev pub KindNumber : Kind → ℕ → Type 0
KindNumber symbolKind n = n ≡ 1
KindNumber variableKind n = n ≡ 2
KindNumber applicationKind n = n ≡ 3
KindNumber inputKind n = n ≡ 4
KindNumber resolveKind n = n ≡ 5
KindNumber factorKind n = n ≡ 6
KindNumber severalKind n = n ≡ 7
KindNumber windowKind n = n ≡ 8
KindNumber otherKind n = (n < 1) ⊎ (8 < n)

above_three : (n : ℕ) → 1 ≤ n → ¬ (n ≡ 1) → ¬ (n ≡ 2) → ¬ (n ≡ 3) → 3 < n
above_three n l a b c = omega arith

above_eight : (n : ℕ) → 3 < n → ¬ (n ≡ 4) → ¬ (n ≡ 5) → ¬ (n ≡ 6) → ¬ (n ≡ 7) → ¬ (n ≡ 8) → 8 < n
above_eight n l d e f g h = omega arith

kind_number : (n : ℕ) → KindNumber (kind_numbered n) n
kind_number n = one (eqb n 1) refl
  where
    outside : ¬ (n ≡ 1) → ¬ (n ≡ 2) → ¬ (n ≡ 3) → ¬ (n ≡ 4) → ¬ (n ≡ 5) → ¬ (n ≡ 6) → ¬ (n ≡ 7) → ¬ (n ≡ 8) → (b : Bool) → leb 1 n ≡ b → (n < 1) ⊎ (8 < n)
    outside a b c d e f g h true q = inr (above_eight n (above_three n (at_most 1 n q) a b c) d e f g h)
    outside a b c d e f g h false q = inl (leb_false_lt 1 n q)

    eight : ¬ (n ≡ 1) → ¬ (n ≡ 2) → ¬ (n ≡ 3) → ¬ (n ≡ 4) → ¬ (n ≡ 5) → ¬ (n ≡ 6) → ¬ (n ≡ 7) → (b : Bool) → eqb n 8 ≡ b → KindNumber (pick b windowKind otherKind) n
    eight a b c d e f g true q = equal n 8 q
    eight a b c d e f g false q = outside a b c d e f g (unequal n 8 q) (leb 1 n) refl

    seven : ¬ (n ≡ 1) → ¬ (n ≡ 2) → ¬ (n ≡ 3) → ¬ (n ≡ 4) → ¬ (n ≡ 5) → ¬ (n ≡ 6) → (b : Bool) → eqb n 7 ≡ b → KindNumber (pick b severalKind (pick (eqb n 8) windowKind otherKind)) n
    seven a b c d e f true q = equal n 7 q
    seven a b c d e f false q = eight a b c d e f (unequal n 7 q) (eqb n 8) refl

    six : ¬ (n ≡ 1) → ¬ (n ≡ 2) → ¬ (n ≡ 3) → ¬ (n ≡ 4) → ¬ (n ≡ 5) → (b : Bool) → eqb n 6 ≡ b → KindNumber (pick b factorKind (pick (eqb n 7) severalKind (pick (eqb n 8) windowKind otherKind))) n
    six a b c d e true q = equal n 6 q
    six a b c d e false q = seven a b c d e (unequal n 6 q) (eqb n 7) refl

    five : ¬ (n ≡ 1) → ¬ (n ≡ 2) → ¬ (n ≡ 3) → ¬ (n ≡ 4) → (b : Bool) → eqb n 5 ≡ b → KindNumber (pick b resolveKind (pick (eqb n 6) factorKind (pick (eqb n 7) severalKind (pick (eqb n 8) windowKind otherKind)))) n
    five a b c d true q = equal n 5 q
    five a b c d false q = six a b c d (unequal n 5 q) (eqb n 6) refl

    four : ¬ (n ≡ 1) → ¬ (n ≡ 2) → ¬ (n ≡ 3) → (b : Bool) → eqb n 4 ≡ b → KindNumber (pick b inputKind (pick (eqb n 5) resolveKind (pick (eqb n 6) factorKind (pick (eqb n 7) severalKind (pick (eqb n 8) windowKind otherKind))))) n
    four a b c true q = equal n 4 q
    four a b c false q = five a b c (unequal n 4 q) (eqb n 5) refl

    three : ¬ (n ≡ 1) → ¬ (n ≡ 2) → (b : Bool) → eqb n 3 ≡ b → KindNumber (pick b applicationKind (pick (eqb n 4) inputKind (pick (eqb n 5) resolveKind (pick (eqb n 6) factorKind (pick (eqb n 7) severalKind (pick (eqb n 8) windowKind otherKind)))))) n
    three a b true q = equal n 3 q
    three a b false q = four a b (unequal n 3 q) (eqb n 4) refl

    two : ¬ (n ≡ 1) → (b : Bool) → eqb n 2 ≡ b → KindNumber (pick b variableKind (pick (eqb n 3) applicationKind (pick (eqb n 4) inputKind (pick (eqb n 5) resolveKind (pick (eqb n 6) factorKind (pick (eqb n 7) severalKind (pick (eqb n 8) windowKind otherKind))))))) n
    two a true q = equal n 2 q
    two a false q = three a (unequal n 2 q) (eqb n 3) refl

    one : (b : Bool) → eqb n 1 ≡ b → KindNumber (pick b symbolKind (pick (eqb n 2) variableKind (pick (eqb n 3) applicationKind (pick (eqb n 4) inputKind (pick (eqb n 5) resolveKind (pick (eqb n 6) factorKind (pick (eqb n 7) severalKind (pick (eqb n 8) windowKind otherKind)))))))) n
    one true q = equal n 1 q
    one false q = two (unequal n 1 q) (eqb n 2) refl

-- A record of each kind: of kind 8 are only those without days.
abbrev pub KindOf : Kind → Record → Type 0
KindOf symbolKind r = r.kind ≡ 1
KindOf variableKind r = r.kind ≡ 2
KindOf applicationKind r = r.kind ≡ 3
KindOf inputKind r = r.kind ≡ 4
KindOf resolveKind r = r.kind ≡ 5
KindOf factorKind r = r.kind ≡ 6
KindOf severalKind r = r.kind ≡ 7
KindOf windowKind r = IsWindow r
KindOf otherKind r = UnknownKind r

outside_table : (r : Record) → (r.kind < 1) ⊎ (8 < r.kind) → UnknownKind r
outside_table r (inl l) = kind_below l
outside_table r (inr l) = kind_above l

undated_kind : (r : Record) → r.days ≡ none → (kind : Kind) → KindNumber kind r.kind → KindOf kind r
undated_kind r d symbolKind e = e
undated_kind r d variableKind e = e
undated_kind r d applicationKind e = e
undated_kind r d inputKind e = e
undated_kind r d resolveKind e = e
undated_kind r d factorKind e = e
undated_kind r d severalKind e = e
undated_kind r d windowKind e = (e, d)
undated_kind r d otherKind e = outside_table r e

dated_kind : (r : Record) → ¬ (r.kind ≡ 8) → (kind : Kind) → KindNumber kind r.kind → KindOf kind r
dated_kind r d symbolKind e = e
dated_kind r d variableKind e = e
dated_kind r d applicationKind e = e
dated_kind r d inputKind e = e
dated_kind r d resolveKind e = e
dated_kind r d factorKind e = e
dated_kind r d severalKind e = e
dated_kind r d windowKind e = absurd (d e)
dated_kind r d otherKind e = outside_table r e

kind_of_lem : (r : Record) → KindOf (kind_of_record r) r
kind_of_lem r = try r.days refl (eqb r.kind 8) refl
  where
    try : (d : Option (ℕ × ℕ)) → r.days ≡ d → (b : Bool) → eqb r.kind 8 ≡ b → KindOf (pick (has_days d && b) otherKind (kind_numbered r.kind)) r
    try none p b q = undated_kind r p (kind_numbered r.kind) (kind_number r.kind)
    try (some d) p true q = window_in_new_form (equal r.kind 8 q) p
    try (some d) p false q = dated_kind r (unequal r.kind 8 q) (kind_numbered r.kind) (kind_number r.kind)

pub of_kind_lem : (r : Record) (kind : Kind) → kind_of_record r ≡ kind → KindOf kind r
of_kind_lem r kind e = subst (λ (k : Kind). KindOf k r) e (kind_of_lem r)

-- A record whose byte 0 is another number than 8 is of that number's kind, and one of kind 8 without days is a window.
pub kind_at : (r : Record) (n : ℕ) → r.kind ≡ n → eqb n 8 ≡ false → kind_of_record r ≡ kind_numbered n
kind_at r n e h = try (has_days r.days) ∙ ap kind_numbered e
  where
    try : (b : Bool) → pick (b && eqb r.kind 8) otherKind (kind_numbered r.kind) ≡ kind_numbered r.kind
    try false = refl
    try true = ap (λ (b : Bool). pick b otherKind (kind_numbered r.kind)) (ap (λ (m : ℕ). eqb m 8) e ∙ h)

pub window_kind : (r : Record) → IsWindow r → kind_of_record r ≡ windowKind
window_kind r w = ap (λ (d : Option (ℕ × ℕ)). pick (has_days d && eqb r.kind 8) otherKind (kind_numbered r.kind)) w.1 ∙ ap kind_numbered w.0

-- A record whose kind has no number of the table.
none_of_them : (r : Record) → (kind : Kind) → KindOf kind r → UnknownKind r → kind ≡ otherKind
none_of_them r symbolKind e (kind_below l) = absurd (omega arith)
none_of_them r symbolKind e (kind_above l) = absurd (omega arith)
none_of_them r symbolKind e (window_in_new_form w d) = absurd (omega arith)
none_of_them r variableKind e (kind_below l) = absurd (omega arith)
none_of_them r variableKind e (kind_above l) = absurd (omega arith)
none_of_them r variableKind e (window_in_new_form w d) = absurd (omega arith)
none_of_them r applicationKind e (kind_below l) = absurd (omega arith)
none_of_them r applicationKind e (kind_above l) = absurd (omega arith)
none_of_them r applicationKind e (window_in_new_form w d) = absurd (omega arith)
none_of_them r inputKind e (kind_below l) = absurd (omega arith)
none_of_them r inputKind e (kind_above l) = absurd (omega arith)
none_of_them r inputKind e (window_in_new_form w d) = absurd (omega arith)
none_of_them r resolveKind e (kind_below l) = absurd (omega arith)
none_of_them r resolveKind e (kind_above l) = absurd (omega arith)
none_of_them r resolveKind e (window_in_new_form w d) = absurd (omega arith)
none_of_them r factorKind e (kind_below l) = absurd (omega arith)
none_of_them r factorKind e (kind_above l) = absurd (omega arith)
none_of_them r factorKind e (window_in_new_form w d) = absurd (omega arith)
none_of_them r severalKind e (kind_below l) = absurd (omega arith)
none_of_them r severalKind e (kind_above l) = absurd (omega arith)
none_of_them r severalKind e (window_in_new_form w d) = absurd (omega arith)
none_of_them r windowKind e (kind_below l) = absurd (omega (arith, e.0))
none_of_them r windowKind e (kind_above l) = absurd (omega (arith, e.0))
none_of_them r windowKind e (window_in_new_form w d) = absurd (some_not_none e.1 d)
none_of_them r otherKind e u = refl

pub other_kind : (r : Record) → UnknownKind r → kind_of_record r ≡ otherKind
other_kind r h = none_of_them r (kind_of_record r) (kind_of_lem r) h

-- The two kinds of a resolve, and their right literals.
pub data IsResolve : Kind → Type 0 where
  on_one : IsResolve resolveKind
  on_several : IsResolve severalKind

pub right_literals_lem : (r : Record) (kind : Kind) → IsResolve kind → kind_of_record r ≡ kind → RightLiterals r (right_numbers kind r)
right_literals_lem r kind on_one e = of_one (of_kind_lem r resolveKind e)
right_literals_lem r kind on_several e = of_some (of_kind_lem r severalKind e)

pub resolve_kind : (r : Record) {ns : List ℕ} → RightLiterals r ns → (kind : Kind) × IsResolve kind × (kind_of_record r ≡ kind) × (right_numbers kind r ≡ ns)
resolve_kind r (of_one e) = (resolveKind, on_one, kind_at r 5 e refl, refl)
resolve_kind r (of_some e) = (severalKind, on_several, kind_at r 7 e refl, refl)

-- 4: fields that are zero.
zeros_false : (xs : List ℕ) → zeros xs ≡ false → (i : ℕ) × ¬ (get_or xs i 0 ≡ 0)
zeros_false [] q = absurd (true_not_false refl q)
zeros_false (n ∷ ns) q = try (either_false (eqb n 0) (zeros ns) q) (λ z. zeros_false ns z)
  where
    try : (eqb n 0 ≡ false) ⊎ (zeros ns ≡ false) → (zeros ns ≡ false → (i : ℕ) × ¬ (get_or ns i 0 ≡ 0)) → (i : ℕ) × ¬ (get_or (n ∷ ns) i 0 ≡ 0)
    try (inl p) k = (0, unequal n 0 p)
    try (inr p) k = (suc (k p).0, (k p).1)

zeros_true : (xs : List ℕ) → zeros xs ≡ true → (i : ℕ) → get_or xs i 0 ≡ 0
zeros_true [] q i = refl
zeros_true (n ∷ ns) q zero = equal n 0 (both_true (eqb n 0) (zeros ns) q).0
zeros_true (n ∷ ns) q (suc i) = zeros_true ns (both_true (eqb n 0) (zeros ns) q).1 i

module _ (r : Record) where
  unused_false : (n : ℕ) → zeros (drop n r.fields) ≡ false → (i : ℕ) × (n ≤ i) × ¬ (field_numbered r i ≡ 0)
  unused_false n q =
      let z = zeros_false (drop n r.fields) q in
      (n + z.0, omega arith, λ e. z.1 (get_or-drop n r.fields z.0 0 ∙ e))

  unused_true : (n : ℕ) → zeros (drop n r.fields) ≡ true → (i : ℕ) → n ≤ i → field_numbered r i ≡ 0
  unused_true n q i l =
      let e : i ≡ n + (i - n) = omega arith in
      ap (λ (j : ℕ). get_or r.fields j 0) e ∙ sym (get_or-drop n r.fields (i - n) 0) ∙ zeros_true (drop n r.fields) q (i - n)

  unused_over : {most used : ℕ} → Layout r most used → zeros (drop used r.fields) ≡ false → OutOfRange r
  unused_over {used = used} a q =
      let z = unused_false used q in
      unused_field a z.0 z.1 z.2

  up_to_over : {most used : ℕ} → Layout r most used → (leb r.count most && zeros (drop used r.fields)) ≡ false → OutOfRange r
  up_to_over {most} {used} a q = try (either_false (leb r.count most) (zeros (drop used r.fields)) q)
    where
      try : (leb r.count most ≡ false) ⊎ (zeros (drop used r.fields) ≡ false) → OutOfRange r
      try (inl p) = count_over a (leb_false_lt r.count most p)
      try (inr p) = unused_over a p

  none_over : {used : ℕ} → Layout r 0 used → eqb r.count 0 ≡ false → OutOfRange r
  none_over a p = let n = unequal r.count 0 p in count_over a (omega arith)

  step_over : {used : ℕ} → Layout r 0 used → (eqb r.count 0 && zeros (drop used r.fields)) ≡ false → OutOfRange r
  step_over {used} a q = try (either_false (eqb r.count 0) (zeros (drop used r.fields)) q)
    where
      try : (eqb r.count 0 ≡ false) ⊎ (zeros (drop used r.fields) ≡ false) → OutOfRange r
      try (inl p) = none_over a p
      try (inr p) = unused_over a p

  variable_over_lem : r.kind ≡ 2 → fields_in_range variableKind r ≡ false → OutOfRange r
  variable_over_lem e q = try (either_false (eqb r.count 0 && leb (field_a r) 63) (zeros (drop 1 r.fields)) q)
    where
      first : (eqb r.count 0 ≡ false) ⊎ (leb (field_a r) 63 ≡ false) → OutOfRange r
      first (inl p) = none_over (of_variable e) p
      first (inr p) = variable_over e (leb_false_lt (field_a r) 63 p)

      try : ((eqb r.count 0 && leb (field_a r) 63) ≡ false) ⊎ (zeros (drop 1 r.fields) ≡ false) → OutOfRange r
      try (inl p) = first (either_false (eqb r.count 0) (leb (field_a r) 63) p)
      try (inr p) = unused_over (of_variable e) p

  several_over : r.kind ≡ 7 → fields_in_range severalKind r ≡ false → OutOfRange r
  several_over e q = try (either_false (leb 1 r.count && leb r.count 4) (zeros (drop (3 + r.count) r.fields)) q)
    where
      first : (leb 1 r.count ≡ false) ⊎ (leb r.count 4 ≡ false) → OutOfRange r
      first (inl p) = let z = leb_false_lt 1 r.count p in no_right_literal e (omega arith)
      first (inr p) = count_over (of_several e) (leb_false_lt r.count 4 p)

      try : ((leb 1 r.count && leb r.count 4) ≡ false) ⊎ (zeros (drop (3 + r.count) r.fields) ≡ false) → OutOfRange r
      try (inl p) = first (either_false (leb 1 r.count) (leb r.count 4) p)
      try (inr p) = unused_over (of_several e) p

  -- Days that are not zero, beside a record that is no input clause.
  days_over : {most used : ℕ} → Layout r most used → ¬ (r.kind ≡ 4) → zero_days r.days ≡ false → OutOfRange r
  days_over a n q = try r.days refl q
    where
      try : (d : Option (ℕ × ℕ)) → r.days ≡ d → zero_days d ≡ false → OutOfRange r
      try none p z = absurd (true_not_false refl z)
      try (some d) p z = by (either_false (eqb d.0 0) (eqb d.1 0) z)
        where
          by : (eqb d.0 0 ≡ false) ⊎ (eqb d.1 0 ≡ false) → OutOfRange r
          by (inl y) = unused_days a n p (inl (unequal d.0 0 y))
          by (inr y) = unused_days a n p (inr (unequal d.1 0 y))

  either_over : {days fields : Bool} → (days && fields) ≡ false → (days ≡ false → OutOfRange r) → (fields ≡ false → OutOfRange r) → OutOfRange r
  either_over {days} {fields} q f g = try (either_false days fields q)
    where
      try : (days ≡ false) ⊎ (fields ≡ false) → OutOfRange r
      try (inl p) = f p
      try (inr p) = g p

  -- A range test that fails, kind by kind.
  pub range_over : (kind : Kind) → kind_of_record r ≡ kind → in_range kind r ≡ false → OutOfRange r
  range_over symbolKind e q = let k = of_kind_lem r symbolKind e in either_over q (days_over (of_symbol k) (λ z. omega arith)) (up_to_over (of_symbol k))
  range_over variableKind e q = let k = of_kind_lem r variableKind e in either_over q (days_over (of_variable k) (λ z. omega arith)) (variable_over_lem k)
  range_over applicationKind e q = let k = of_kind_lem r applicationKind e in either_over q (days_over (of_application k) (λ z. omega arith)) (up_to_over (of_application k))
  range_over inputKind e q = up_to_over (of_input (of_kind_lem r inputKind e)) q
  range_over resolveKind e q = let k = of_kind_lem r resolveKind e in either_over q (days_over (of_resolve k) (λ z. omega arith)) (step_over (of_resolve k))
  range_over factorKind e q = let k = of_kind_lem r factorKind e in either_over q (days_over (of_factor k) (λ z. omega arith)) (step_over (of_factor k))
  range_over severalKind e q = let k = of_kind_lem r severalKind e in either_over q (days_over (of_several k) (λ z. omega arith)) (several_over k)
  range_over windowKind e q = step_over (of_window (of_kind_lem r windowKind e)) q
  range_over otherKind e q = absurd (true_not_false refl q)

  -- And one that holds.
  abbrev pub Fits : ℕ → ℕ → Type 0
  Fits most used = (r.count ≤ most) × ((i : ℕ) → used ≤ i → field_numbered r i ≡ 0)

  up_to_fits : (most used : ℕ) → (leb r.count most && zeros (drop used r.fields)) ≡ true → Fits most used
  up_to_fits most used q =
      let p = both_true (leb r.count most) (zeros (drop used r.fields)) q in
      (at_most r.count most p.0, unused_true used p.1)

  step_fits : (used : ℕ) → (eqb r.count 0 && zeros (drop used r.fields)) ≡ true → Fits 0 used
  step_fits used q =
      let p = both_true (eqb r.count 0) (zeros (drop used r.fields)) q in
      let z = equal r.count 0 p.0 in
      (omega arith, unused_true used p.1)

  variable_fits : fields_in_range variableKind r ≡ true → Fits 0 1 × (field_a r ≤ 63)
  variable_fits q =
      let p = both_true (eqb r.count 0 && leb (field_a r) 63) (zeros (drop 1 r.fields)) q in
      let c = both_true (eqb r.count 0) (leb (field_a r) 63) p.0 in
      let z = equal r.count 0 c.0 in
      ((omega arith, unused_true 1 p.1), at_most (field_a r) 63 c.1)

  pub several_fits : fields_in_range severalKind r ≡ true → Fits 4 (3 + r.count) × (1 ≤ r.count)
  several_fits q =
      let p = both_true (leb 1 r.count && leb r.count 4) (zeros (drop (3 + r.count) r.fields)) q in
      let c = both_true (leb 1 r.count) (leb r.count 4) p.0 in
      ((at_most r.count 4 c.1, unused_true (3 + r.count) p.1), at_most 1 r.count c.0)

  -- A range test that holds is of both, the days and the fields.
  pub fields_of_lem : (kind : Kind) → in_range kind r ≡ true → fields_in_range kind r ≡ true
  fields_of_lem kind q = (both_true (days_in_range kind r) (fields_in_range kind r) q).1

  ranged_at : (n : ℕ) → r.kind ≡ n → eqb n 8 ≡ false → in_range (kind_of_record r) r ≡ true → fields_in_range (kind_numbered n) r ≡ true
  ranged_at n e h q = fields_of_lem (kind_numbered n) (subst (λ (k : Kind). in_range k r ≡ true) (kind_at r n e h) q)

  pub range_fits : {most used : ℕ} → Layout r most used → in_range (kind_of_record r) r ≡ true → (r.count ≤ most) × ((i : ℕ) → used ≤ i → field_numbered r i ≡ 0)
  range_fits (of_symbol e) q = up_to_fits 6 0 (ranged_at 1 e refl q)
  range_fits (of_variable e) q = (variable_fits (ranged_at 2 e refl q)).0
  range_fits (of_application e) q = up_to_fits 6 (1 + r.count) (ranged_at 3 e refl q)
  range_fits (of_input e) q = up_to_fits 7 r.count (ranged_at 4 e refl q)
  range_fits (of_resolve e) q = step_fits 4 (ranged_at 5 e refl q)
  range_fits (of_factor e) q = step_fits 3 (ranged_at 6 e refl q)
  range_fits (of_several e) q = (several_fits (ranged_at 7 e refl q)).0
  range_fits (of_window w) q = step_fits 3 (fields_of_lem windowKind (subst (λ (k : Kind). in_range k r ≡ true) (window_kind r w) q))

  -- The days beside a record that is in range and no input clause are zero.
  zero_days_lem : {first last : ℕ} → r.days ≡ some (first, last) → zero_days r.days ≡ true → (first ≡ 0) × (last ≡ 0)
  zero_days_lem {first} {last} p q =
      let z = both_true (eqb first 0) (eqb last 0) (sym (ap zero_days p) ∙ q) in
      (equal first 0 z.0, equal last 0 z.1)

  days_at_lem : (n : ℕ) → r.kind ≡ n → eqb n 8 ≡ false → in_range (kind_of_record r) r ≡ true → days_in_range (kind_numbered n) r ≡ true
  days_at_lem n e h q = (both_true (days_in_range (kind_numbered n) r) (fields_in_range (kind_numbered n) r) (subst (λ (k : Kind). in_range k r ≡ true) (kind_at r n e h) q)).0

  days_fit_lem : {most used : ℕ} → Layout r most used → ¬ (r.kind ≡ 4) → in_range (kind_of_record r) r ≡ true → zero_days r.days ≡ true
  days_fit_lem (of_symbol e) n q = days_at_lem 1 e refl q
  days_fit_lem (of_variable e) n q = days_at_lem 2 e refl q
  days_fit_lem (of_application e) n q = days_at_lem 3 e refl q
  days_fit_lem (of_input e) n q = absurd (n e)
  days_fit_lem (of_resolve e) n q = days_at_lem 5 e refl q
  days_fit_lem (of_factor e) n q = days_at_lem 6 e refl q
  days_fit_lem (of_several e) n q = days_at_lem 7 e refl q
  days_fit_lem (of_window w) n q = ap zero_days w.1

  not_in_range : OutOfRange r → ¬ (in_range (kind_of_record r) r ≡ true)
  not_in_range (count_over a l) q = let z = (range_fits a q).0 in omega arith
  not_in_range (no_right_literal e l) q = let z = (several_fits (ranged_at 7 e refl q)).1 in omega arith
  not_in_range (variable_over e l) q = let z = (variable_fits (ranged_at 2 e refl q)).1 in omega arith
  not_in_range (unused_field a i l n) q = n ((range_fits a q).1 i l)
  not_in_range (unused_days a n p (inl z)) q = z (zero_days_lem p (days_fit_lem a n q)).0
  not_in_range (unused_days a n p (inr z)) q = z (zero_days_lem p (days_fit_lem a n q)).1

  pub out_of_range : OutOfRange r → in_range (kind_of_record r) r ≡ false
  out_of_range h = not_true (in_range (kind_of_record r) r) (not_in_range h)
