-- A resolve or a factor on literals that exist and fit: its limits, unification, and its end.
use mathlib.Core.Path.{◌≡◌, refl, sym, ap, ap₂, ◌∙◌, subst}
use mathlib.Core.Logic.{inl, inr}
use mathlib.Core.Bool.{Bool, true, false, ◌&&◌, not, and-false}
use mathlib.Core.Option.{Option, some}
use mathlib.Core.List.{List, [], ◌∷◌, ◌++◌, map}
use Prim.Native.Nat.{ℕ, zero, suc, ◌+◌, ◌-◌, ◌≤◌, ◌<◌}
use native.Mathlib.Omega.{arith}
use lib.Dec.{eqb, leb}
use lib.ListN.{length, get_or, take, drop, replicate, length-append, length-take, length-drop, length-map, take-append-drop}
use lib.Seq.{drop-drop}
use borrow.Author.Tests.{le-leb, lt-leb}
use Rattle.record.specs.Record.{File, Record, record_part, kind_of, count_of, fields_of, decoded, Kind, kind_numbered, factorKind, severalKind, field_a, field_b, field_c}
use Rattle.unification.specs.Environment.{Binding}
use Rattle.unification.specs.Listed.{listed_from}
use Rattle.unification.specs.Nodes.{node_row}
use Rattle.unification.specs.Outlines.{outlines_clash}
use Rattle.unify.specs.Unifying.{outcome_of}
use Rattle.unification.proofs.Tests.{both_true, some_not_none, some_injective}
use Rattle.derivation.specs.Derivation.{literals, Literal, Derivation, resolve, factor, numbered, without, numbered_all, without_all, StrictlyRising, raise_literal, maximum_index}
use Rattle.derivation.proofs.Literals.{numbered_cons, first_stays, rising_tail}
use Rattle.outlines.specs.Comparing.{some_clash}
use Rattle.derivation.specs.Stored.{cells_of_origin, literals_cell, index_cell}
use Rattle.verdict.specs.Refusal.{kind_of_record, in_range, outlines_agree, left_of, right_numbers, right_of, deleted_of, most_literals, most_index, is_there, on_both, result_fits, resolvent_fits, factor_fits, zeros}
use Rattle.verdict.specs.State.{State, clause_of, row_of, next_clause}
use Rattle.verdict.specs.Step.{require, step, add_clause, unify_resolve, unify_factor, on_named}
use Rattle.inference.specs.Stepping.{atom_named, rights_named, Resolving, Factoring, UnifiedTables, finished, step_finished, ResolveKind, rights_at, ResolveNamed, FactorNamed, StepRead}
use Rattle.entry.proofs.Entering.{zero_list}
use Rattle.demands.proofs.Inversions.{literal_named_lem, strictly_rising}
use Rattle.demands.proofs.RangeTests.{several_fits, IsResolve, on_one, on_several}
use Rattle.inference.proofs.StepEnds.{step_ended}
use Rattle.inference.proofs.StepLaws.{node_outlines, rights_outlines, index_of, literals_of, number_is}
use Rattle.inference.proofs.StepTests.{Step, ResolveStep, refuse, index_small, literals_small, factor_kind, resolve_tests_lem, factor_tests}
use Rattle.unify.specs.Pairs.{Answer}
use Rattle.entry.specs.declared.entry.Counts.{Counts}
use Rattle.entry.specs.Program.{Entered}
use Rattle.std.specs.Prelude.{Err}
use Rattle.reasons.specs.declared.Reason.TheVariants.{TooLarge, Unification}
use Rattle.following.specs.declared.failure.Failure.TheVariants.{SymbolsDiffer}
use Rattle.inference.specs.declared.Atom.{Atom}

-- Without a literal that exists there is one fewer.
one_fewer : {A : Type 0} (xs : List A) (a : ℕ) (x : A) → numbered xs a ≡ some x → length (without xs a) + 1 ≡ length xs
one_fewer [] a x q = absurd (some_not_none refl q)
one_fewer (y ∷ ys) zero x q = absurd (some_not_none refl q)
one_fewer (y ∷ ys) (suc zero) x q = omega arith
one_fewer (y ∷ ys) (suc (suc a)) x q = let h = one_fewer ys (suc a) x q in omega arith

-- Without several literals that exist, whose numbers rise, there are so many fewer.
all_fewer : {A : Type 0} (xs : List A) (ns : List ℕ) (ys : List A) → StrictlyRising ns → numbered_all xs ns ≡ some ys → length (without_all xs ns) + length ns ≡ length xs
all_fewer xs [] ys h q = omega arith
all_fewer xs (n ∷ ns) ys h q =
    let z = numbered_cons xs n ns ys q in
    let f = all_fewer xs ns z.1 (rising_tail n ns h) z.3 in
    let g = one_fewer (without_all xs ns) n z.0 (first_stays xs n ns h ∙ z.2) in
    omega arith

-- A resolve's kind, with what goes by it.
resolve_kind : (F : File) (k : ℕ) → ResolveKind (kind_of (record_part F k)) → IsResolve (kind_of_record (decoded (record_part F k)))
resolve_kind F k (inl z) = subst IsResolve (ap kind_numbered (sym z)) on_one
resolve_kind F k (inr z) = subst IsResolve (ap kind_numbered (sym z)) on_several

-- The fields from d on are the right literals, and zeros.
rights_zeros : (part : List ℕ) (m : ℕ) → m ≤ 4 → zeros (drop (3 + m) (fields_of part)) ≡ true → drop 3 (fields_of part) ≡ take m (drop 3 (fields_of part)) ++ replicate (4 - m) 0
rights_zeros part m l z =
    let d : drop (3 + m) (fields_of part) ≡ drop m (drop 3 (fields_of part)) = sym (drop-drop m 3 (fields_of part)) in
    let e : drop m (drop 3 (fields_of part)) ≡ replicate (length (drop m (drop 3 (fields_of part)))) 0 = zero_list (drop m (drop 3 (fields_of part))) (ap zeros (sym d) ∙ z) in
    let w : length (drop m (drop 3 (fields_of part))) ≡ 4 - m = length-drop m (drop 3 (fields_of part)) in
    sym (take-append-drop m (drop 3 (fields_of part))) ∙ ap (λ (r : List ℕ). take m (drop 3 (fields_of part)) ++ r) (e ∙ ap (λ (k : ℕ). replicate {A = ℕ} k 0) w)

right_fields : (F : File) (k : ℕ) → ResolveKind (kind_of (record_part F k)) → in_range (kind_of_record (decoded (record_part F k))) (decoded (record_part F k)) ≡ true
    → drop 3 (fields_of (record_part F k)) ≡ rights_at F k ++ replicate (4 - length (rights_at F k)) 0
right_fields F k (inl z) q =
    let p = ap (λ (i : ℕ). in_range (kind_numbered i) (decoded (record_part F k))) (sym z) ∙ q in
    let w = (both_true (eqb (count_of (record_part F k)) 0) (zeros (drop 4 (fields_of (record_part F k)))) p).1 in
    subst (λ (i : ℕ). drop 3 (fields_of (record_part F k)) ≡ right_numbers (kind_numbered i) (decoded (record_part F k)) ++ replicate (4 - length (right_numbers (kind_numbered i) (decoded (record_part F k)))) 0) (sym z) (rights_zeros (record_part F k) 1 (omega arith) w)
right_fields F k (inr z) q =
    let p : in_range severalKind (decoded (record_part F k)) ≡ true = ap (λ (i : ℕ). in_range (kind_numbered i) (decoded (record_part F k))) (sym z) ∙ q in
    let f = several_fits (decoded (record_part F k)) p in
    let m = count_of (record_part F k) in
    let w = (both_true (leb 1 (count_of (record_part F k)) && leb (count_of (record_part F k)) 4) (zeros (drop (3 + count_of (record_part F k)) (fields_of (record_part F k)))) p).1 in
    let l : length (take (count_of (record_part F k)) (drop 3 (fields_of (record_part F k)))) ≡ count_of (record_part F k) = let v = f.0.0 in simp length-take (omega arith) in
    subst (λ (i : ℕ). drop 3 (fields_of (record_part F k)) ≡ right_numbers (kind_numbered i) (decoded (record_part F k)) ++ replicate (4 - length (right_numbers (kind_numbered i) (decoded (record_part F k)))) 0) (sym z)
    (rights_zeros (record_part F k) (count_of (record_part F k)) f.0.0 w ∙ ap (λ (i : ℕ). take (count_of (record_part F k)) (drop 3 (fields_of (record_part F k))) ++ replicate {A = ℕ} (4 - i) 0) (sym l))

module _ {ns : List ℕ} {k : ℕ} {n : Counts} {C B N O A : List ℕ} {x : Atom} {L : List ℕ} {m : ℕ} (R : ResolveNamed ns k n C B N O A x L m) where
  abbrev S : State
  S = R.step.state

  abbrev rec : Record
  rec = decoded (record_part R.file k)

  abbrev here : Kind
  here = kind_of_record (decoded (record_part R.file k))

  abbrev l : Derivation
  l = R.left.clause

  abbrev r : Derivation
  r = R.rights.clause

  abbrev rs : List ℕ
  rs = rights_at R.file k

  abbrev result : List Binding → Derivation
  result bs = resolve (next_clause S) R.left.clause (field_b (decoded (record_part R.file k))) R.rights.clause (rights_at R.file k) bs

  left_fewer : length (without (literals R.left.clause) (field_b (decoded (record_part R.file k)))) + 1 ≡ length (literals R.left.clause)
  left_fewer = one_fewer (literals l) (field_b rec) R.left.literal (literal_named_lem S (field_a rec) (field_b rec) (atom_named R.left) R.is_left).1

  right_fewer : length (without_all (literals R.rights.clause) (rights_at R.file k)) + length (rights_at R.file k) ≡ length (literals R.rights.clause)
  right_fewer = all_fewer (literals r) rs R.rights.named (strictly_rising rs R.rises) R.rights.are_literals

  left_small : length (literals R.left.clause) ≤ 128
  left_small = literals_small R.step x.clause l R.left.is_clause

  right_small : length (literals R.rights.clause) ≤ 128
  right_small = literals_small R.step (field_c rec) r R.rights.is_clause

  -- The cells of its origin.
  resolve_origin : (code : ℕ) → code ≡ 2 + m → (bs : List Binding) → code ∷ ns ≡ cells_of_origin (resolve (next_clause R.step.state) R.left.clause (field_b (decoded (record_part R.file k))) R.rights.clause (rights_at R.file k) bs)
  resolve_origin code pc bs =
      let a = number_is R.step (field_a rec) l (literal_named_lem S (field_a rec) (field_b rec) (atom_named R.left) R.is_left).0 in
      let c = number_is R.step (field_c rec) r R.rights.is_clause in
      ap₂ (λ (i : ℕ) (xs : List ℕ). i ∷ xs) (pc ∙ ap (λ (i : ℕ). 2 + i) R.count) R.numbers
      ∙ (λ i. (2 + length rs) ∷ sym a i ∷ field_b rec ∷ sym c i ∷ right_fields R.file k R.is_resolve R.ranged i)

  -- The number of the right clause, as the program reads it.
  right_number_lem : {c : ℕ} → c ≡ get_or ns 2 0 → c ≡ field_c (decoded (record_part R.file k))
  right_number_lem q = q ∙ ap (λ (xs : List ℕ). get_or xs 2 0) R.numbers

  -- The cells that the program reads.
  module _ (c lc rc : ℕ) (pc : c ≡ get_or ns 2 0) (pl : lc ≡ literals_cell C x.clause) (pr : rc ≡ literals_cell C c) where
    lc_is : lc ≡ length (literals R.left.clause)
    lc_is = pl ∙ literals_of R.step x.clause l R.left.is_clause

    rc_is : rc ≡ length (literals R.rights.clause)
    rc_is = pr ∙ ap (literals_cell C) (right_number_lem pc) ∙ literals_of R.step (field_c rec) r R.rights.is_clause

    pub literals_sum : (1 + m ≤ lc + rc) × (lc + rc ≤ 256)
    literals_sum = (omega (arith, lc_is, rc_is, left_fewer, right_fewer, R.count), omega (arith, lc_is, rc_is, left_small, right_small))

    literals_result : (bs : List Binding) → (lc + rc) - 1 - m ≡ length (literals (result bs))
    literals_result bs =
        let a = length-append (without (literals l) (field_b rec)) (map (raise_literal (maximum_index l)) (without_all (literals r) rs)) in
        let b = length-map (without_all (literals r) rs) (raise_literal (maximum_index l)) in
        omega (arith, lc_is, rc_is, left_fewer, right_fewer, R.count, a, b)

  module _ (c li ri : ℕ) (pc : c ≡ get_or ns 2 0) (pl : li ≡ index_cell C x.clause) (pr : ri ≡ index_cell C c) where
    li_is : li ≡ maximum_index R.left.clause
    li_is = pl ∙ index_of R.step x.clause l R.left.is_clause

    ri_is : ri ≡ maximum_index R.rights.clause
    ri_is = pr ∙ ap (index_cell C) (right_number_lem pc) ∙ index_of R.step (field_c rec) r R.rights.is_clause

    pub index_sum : li + ri ≤ 8192
    index_sum = omega (arith, li_is, ri_is, index_small R.step x.clause l R.left.is_clause, index_small R.step (field_c rec) r R.rights.is_clause)

    index_result : (bs : List Binding) → li + ri ≡ maximum_index (result bs)
    index_result bs = ap₂ ◌+◌ li_is ri_is

    pub resolving : li + ri ≤ 4096 → Resolving k n C B N O A x c L m
    resolving g = record {
      file = R.file;
      step = R.step;
      left = R.left;
      numbers = rs;
      count = R.count;
      few = R.few;
      room = R.room;
      rights = record { clause = R.rights.clause; named = R.rights.named; is_clause = ap (clause_of S) (right_number_lem pc) ∙ R.rights.is_clause; are_literals = R.rights.are_literals; listed = R.rights.listed };
      fits = omega (arith, li_is, ri_is);
    }

  -- What is left of the step.
  limits : resolvent_fits R.step.state (kind_of_record (decoded (record_part R.file k))) (decoded (record_part R.file k)) ≡ result_fits (result [])
  limits = ap₂ (λ (o : Option (Derivation × Literal)) (p : Option (Derivation × List Literal)). on_both (λ x y. result_fits (resolve (next_clause S) x.0 (field_b rec) y.0 rs [])) o p) R.is_left R.is_right

  -- The program's outlines are those of the step.
  outlines : (o : Bool) → o ≡ some_clash (node_row N) x.row (listed_from L 0 m)
      → on_both (λ x y. outlines_agree (row_of R.step.state) x.1 y.1) (left_of R.step.state (decoded (record_part R.file k))) (right_of R.step.state (kind_of_record (decoded (record_part R.file k))) (decoded (record_part R.file k))) ≡ not o
  outlines o q =
      ap₂ (λ (a : Option (Derivation × Literal)) (b : Option (Derivation × List Literal)). on_both (λ x y. outlines_agree (row_of S) x.1 y.1) a b) R.is_left R.is_right
      ∙ sym (ap not q ∙ rights_outlines R.step x.clause x.row x.index R.left (field_c rec) rs L R.rights m R.count)

  limited : (d o : Bool) → result_fits (result []) ≡ d
      → on_both (λ x y. outlines_agree (row_of R.step.state) x.1 y.1) (left_of R.step.state (decoded (record_part R.file k))) (right_of R.step.state (kind_of_record (decoded (record_part R.file k))) (decoded (record_part R.file k))) ≡ o
      → ResolveStep R.step (kind_of_record (decoded (record_part R.file k))) true true true true d o
  limited d o q z =
      resolve_tests_lem R.step here (resolve_kind R.file k R.is_resolve) refl true true true true d o R.ranged (ap₂ (λ (o : Option (Derivation × Literal)) (p : Option (Derivation × List Literal)). is_there o && is_there p) R.is_left R.is_right) R.rises R.signs (limits ∙ q) z

  too_large : result_fits (result []) ≡ false → StepRead R.file k n C B N O A R.step C B O A (Err TooLarge)
  unfolding require
  too_large q = refuse R.step TooLarge (limited false _ q refl)

  pub too_many_literals : (c lc rc : ℕ) → c ≡ get_or ns 2 0 → lc ≡ literals_cell C x.clause → rc ≡ literals_cell C c → 128 < (lc + rc) - 1 - m → StepRead R.file k n C B N O A R.step C B O A (Err TooLarge)
  unfolding most_literals
  too_many_literals c lc rc pc pl pr g = too_large (ap (λ (b : Bool). b && leb (maximum_index (result [])) most_index) (lt-leb (length (literals (result []))) 128 (subst (λ (z : ℕ). 128 < z) (literals_result c lc rc pc pl pr []) g)))

  pub too_high_index : (c li ri : ℕ) → c ≡ get_or ns 2 0 → li ≡ index_cell C x.clause → ri ≡ index_cell C c → 4096 < li + ri → StepRead R.file k n C B N O A R.step C B O A (Err TooLarge)
  unfolding most_index
  too_high_index c li ri pc pl pr g = too_large (ap (λ (b : Bool). leb (length (literals (result []))) most_literals && b) (lt-leb (maximum_index (result [])) 4096 (subst (λ (z : ℕ). 4096 < z) (index_result c li ri pc pl pr []) g)) ∙ and-false (leb (length (literals (result []))) most_literals))

  entered : (o : Bool) → o ≡ some_clash (node_row N) x.row (listed_from L 0 m) → o ≡ false → result_fits (result []) ≡ true → step R.step.state k (decoded (record_part R.file k)) ≡ add_clause R.step.state k result (unify_resolve R.step.state (atom_named R.left) (rights_named R.rights))
  unfolding require
  entered o p z q =
      limited true true q (outlines o p ∙ ap not z)
      ∙ ap₂ (λ (o : Option (Derivation × Literal)) (p : Option (Derivation × List Literal)). on_named (λ x y. add_clause S k (resolve (next_clause S) x.0 (field_b rec) y.0 rs) (unify_resolve S x y)) o p) R.is_left R.is_right

  module _ (c lc rc li ri : ℕ) (pc : c ≡ get_or ns 2 0) (pl : lc ≡ literals_cell C x.clause) (pr : rc ≡ literals_cell C c) (ql : li ≡ index_cell C x.clause) (qr : ri ≡ index_cell C c) (few : (lc + rc) - 1 - m ≤ 128) (low : li + ri ≤ 4096) where
    fits : result_fits (result []) ≡ true
    unfolding most_literals most_index
    fits = ap₂ (λ (a b : Bool). a && b) (le-leb (length (literals (result []))) 128 (subst (λ (z : ℕ). z ≤ 128) (literals_result c lc rc pc pl pr []) few)) (le-leb (maximum_index (result [])) 4096 (subst (λ (z : ℕ). z ≤ 4096) (index_result c li ri pc ql qr []) low))

    pub resolve_clashes : (o : Bool) → o ≡ some_clash (node_row N) x.row (listed_from L 0 m) → o ≡ true → StepRead R.file k n C B N O A R.step C B O A (Err (Unification SymbolsDiffer))
    unfolding require
    resolve_clashes o p z = refuse R.step (Unification SymbolsDiffer) (limited true false fits (outlines o p ∙ ap not z))

    pub resolve_ended : (o : Bool) → o ≡ some_clash (node_row N) x.row (listed_from L 0 m) → o ≡ false → (code : ℕ) → code ≡ 2 + m → (B' A' : List ℕ) (u : Answer) → ((Q : Resolving k n C B N O A x c L m) → unify_resolve Q.step.state (atom_named Q.left) (rights_named Q.rights) ≡ outcome_of B' n.bindings u) → UnifiedTables B B' A' n.bindings u
        → (e : Entered) (C₂ B₂ O₂ : List ℕ) → finished e C₂ B₂ O₂ ≡ step_finished u k n ((lc + rc) - 1 - m) (li + ri) (code ∷ ns) C B' O → StepRead R.file k n C B N O A R.step C₂ B₂ O₂ A' e
    unfolding resolving
    resolve_ended b p z code pd B' A' u o U e C₂ B₂ O₂ q =
        step_ended R.step result ((lc + rc) - 1 - m) (li + ri) (literals_result c lc rc pc pl pr) (index_result c li ri pc ql qr) (λ bs. refl) (code ∷ ns) (resolve_origin code pd) B' A' u (entered b p z fits ∙ ap (add_clause S k result) (o (resolving c li ri pc ql qr low))) U e C₂ B₂ O₂ q

module _ {ns : List ℕ} {k : ℕ} {n : Counts} {C B N O A : List ℕ} {x y : Atom} (R : FactorNamed ns k n C B N O A x y) where
  abbrev factored : List Binding → Derivation
  factored bs = factor (next_clause R.step.state) R.kept.clause (field_b (decoded (record_part R.file k))) (field_c (decoded (record_part R.file k))) bs

  same_parent_lem : R.deleted.clause ≡ R.kept.clause
  same_parent_lem = some_injective (sym R.deleted.is_clause ∙ ap (clause_of R.step.state) R.same_clause ∙ R.kept.is_clause)

  kept_fewer : length (without (literals R.kept.clause) (field_c (decoded (record_part R.file k)))) + 1 ≡ length (literals R.kept.clause)
  kept_fewer =
      let d = (literal_named_lem R.step.state (field_a (decoded (record_part R.file k))) (field_c (decoded (record_part R.file k))) (atom_named R.deleted) R.is_deleted).1 in
      one_fewer (literals R.kept.clause) (field_c (decoded (record_part R.file k))) R.deleted.literal (ap (λ (c : Derivation). numbered (literals c) (field_c (decoded (record_part R.file k)))) (sym same_parent_lem) ∙ d)

  factor_origin : (bs : List Binding) → 2 ∷ ns ≡ cells_of_origin (factor (next_clause R.step.state) R.kept.clause (field_b (decoded (record_part R.file k))) (field_c (decoded (record_part R.file k))) bs)
  factor_origin bs =
      let f = decoded (record_part R.file k) in
      let z = (both_true (eqb f.count 0) (zeros (drop 3 f.fields)) R.ranged).1 in
      let a = number_is R.step (field_a f) R.kept.clause (literal_named_lem R.step.state (field_a f) (field_b f) (atom_named R.kept) R.is_kept).0 in
      ap (λ (x : List ℕ). 2 ∷ x) R.numbers ∙ (λ i. 2 ∷ sym a i ∷ field_b f ∷ field_c f ∷ zero_list (drop 3 f.fields) z i)

  alone : (b : Bool) → (not b && true) ≡ not b
  alone true = refl
  alone false = refl

  pub factoring : Factoring k n C B N O A x y
  factoring = record { file = R.file; step = R.step; same_clause = R.same_clause; kept = R.kept; deleted = R.deleted }

  factor_limits : factor_fits R.step.state (decoded (record_part R.file k)) ≡ true
  unfolding most_literals most_index
  factor_limits =
      let c = R.kept.clause in
      let m : length (literals (factored [])) ≤ 128 = omega (arith, kept_fewer, literals_small R.step x.clause c R.kept.is_clause) in
      ap₂ (λ (o p : Option (Derivation × Literal)). on_both (λ x y. result_fits (factor (next_clause R.step.state) x.0 (field_b (decoded (record_part R.file k))) (field_c (decoded (record_part R.file k))) [])) o p) R.is_kept R.is_deleted
      ∙ ap₂ (λ (a b : Bool). a && b) (le-leb (length (literals (factored []))) 128 m) (le-leb (maximum_index c) 4096 (index_small R.step x.clause c R.kept.is_clause))

  factor_outlines_lem : (o : Bool) → o ≡ outlines_clash (node_row N) x.row y.row
      → on_both (λ x y. outlines_agree (row_of R.step.state) x.1 (y.1 ∷ [])) (left_of R.step.state (decoded (record_part R.file k))) (deleted_of R.step.state (decoded (record_part R.file k))) ≡ not o
  factor_outlines_lem o q =
      ap₂ (λ (a b : Option (Derivation × Literal)). on_both (λ x y. outlines_agree (row_of R.step.state) x.1 (y.1 ∷ [])) a b) R.is_kept R.is_deleted
      ∙ alone (outlines_clash (row_of R.step.state) R.kept.literal.1.0 R.deleted.literal.1.0) ∙ ap not (sym (q ∙ node_outlines R.step x.clause x.row x.index y.clause y.row y.index R.kept R.deleted))

  factor_limited : (o : Bool) → on_both (λ x y. outlines_agree (row_of R.step.state) x.1 (y.1 ∷ [])) (left_of R.step.state (decoded (record_part R.file k))) (deleted_of R.step.state (decoded (record_part R.file k))) ≡ o
      → Step R.step factorKind true true true true o
  factor_limited o z = factor_tests R.step (factor_kind R.step R.is_factor) true true true true o R.ranged (ap₂ (λ (o p : Option (Derivation × Literal)). is_there o && is_there p) R.is_kept R.is_deleted) R.signs factor_limits z

  pub factor_clashes : (o : Bool) → o ≡ outlines_clash (node_row N) x.row y.row → o ≡ true → StepRead R.file k n C B N O A R.step C B O A (Err (Unification SymbolsDiffer))
  unfolding require
  factor_clashes o p z = refuse R.step (Unification SymbolsDiffer) (factor_limited false (factor_outlines_lem o p ∙ ap not z))

  factor_entered : (o : Bool) → o ≡ outlines_clash (node_row N) x.row y.row → o ≡ false → step R.step.state k (decoded (record_part R.file k)) ≡ add_clause R.step.state k factored (unify_factor R.step.state (atom_named R.kept) (atom_named R.deleted))
  unfolding require
  factor_entered o p z =
      factor_limited true (factor_outlines_lem o p ∙ ap not z)
      ∙ ap₂ (λ (o p : Option (Derivation × Literal)). on_named (λ x y. add_clause R.step.state k (factor (next_clause R.step.state) x.0 (field_b (decoded (record_part R.file k))) (field_c (decoded (record_part R.file k)))) (unify_factor R.step.state x y)) o p) R.is_kept R.is_deleted

  module _ (lc : ℕ) (pl : lc ≡ literals_cell C x.clause) where
    lc_kept : lc ≡ length (literals R.kept.clause)
    lc_kept = pl ∙ literals_of R.step x.clause R.kept.clause R.kept.is_clause

    pub factor_literals_lem : 1 ≤ lc
    factor_literals_lem = omega (arith, lc_kept, kept_fewer)

    pub factor_ended : (o : Bool) → o ≡ outlines_clash (node_row N) x.row y.row → o ≡ false → (ix : ℕ) → ix ≡ index_cell C x.clause → (B' A' : List ℕ) (u : Answer) → ((Q : Factoring k n C B N O A x y) → unify_factor Q.step.state (atom_named Q.kept) (atom_named Q.deleted) ≡ outcome_of B' n.bindings u) → UnifiedTables B B' A' n.bindings u
        → (e : Entered) (C₂ B₂ O₂ : List ℕ) → finished e C₂ B₂ O₂ ≡ step_finished u k n (lc - 1) ix (2 ∷ ns) C B' O → StepRead R.file k n C B N O A R.step C₂ B₂ O₂ A' e
    unfolding factoring
    factor_ended b p z ix pi B' A' u o U e C₂ B₂ O₂ q =
        step_ended R.step factored (lc - 1) ix (λ bs. omega (arith, lc_kept, kept_fewer)) (λ bs. pi ∙ index_of R.step x.clause R.kept.clause R.kept.is_clause) (λ bs. refl) (2 ∷ ns) factor_origin B' A' u (factor_entered b p z ∙ ap (add_clause R.step.state k factored) (o factoring)) U e C₂ B₂ O₂ q
