-- Outlines: the machine finds a clash exactly where a position clashes within its pairs; rows whose outlines clash have no common instance; and
-- what unification makes equal has no clash.
use mathlib.Core.Path.{◌≡◌, refl, sym, ap, ap₂, ◌∙◌, subst}
use mathlib.Core.Logic.{◌⊎◌, inl, inr}
use mathlib.Core.Bool.{Bool, true, false}
use mathlib.Core.List.{List, [], ◌∷◌}
use Prim.Native.Nat.{ℕ, zero, suc, ◌<◌}
use native.Mathlib.Omega.{arith}
use lib.Dec.{eqb, eqb→eq, eqb_refl}
use lib.ListN.{length, get_or}
use Rattle.record.specs.Record.{pick}
use Rattle.unification.specs.Outlines.{most_outline_pairs, RowPair, OutlineTurn, agree, differ, argument_row_pairs, opened, after_turn, outline_turn, clash_within, outlines_clash, Compares, no_pair, one_pair, Position, top, argument, ClashAt, ClashFound}
use Rattle.unification.specs.Row.{variable, Row, application, argument_terms, row_term}
use Rattle.unification.specs.Term.{Term, Terms, app, cons, apply, apply_all}
use Rattle.unification.proofs.Lists.{Each}
use Rattle.unification.proofs.Tests.{to_t, from_t, true_not_false}

pub pairs_4096 : most_outline_pairs ≡ 4096
unfolding most_outline_pairs
pairs_4096 = refl

agree_same : {ps qs : List RowPair} → agree ps ≡ agree qs → ps ≡ qs
agree_same e = cc

agree_or_differ : {ps : List RowPair} → agree ps ≡ differ → ⊥
agree_or_differ e = let z : ◌≡◌ {A = ℕ} 0 1 = cc in omega arith

equal_number : (a b : ℕ) → eqb a b ≡ true → a ≡ b
equal_number a b q = eqb→eq a b (to_t (eqb a b) q)

other_number : (a b : ℕ) → eqb a b ≡ false → ¬ (a ≡ b)
other_number a b q p = true_not_false (ap (eqb a) (sym p) ∙ from_t (eqb a a) (eqb_refl a)) q

pub numbers_differ : (a b : ℕ) → ¬ (a ≡ b) → eqb a b ≡ false
numbers_differ a b n = try (eqb a b) refl
  where
    try : (c : Bool) → eqb a b ≡ c → c ≡ false
    try true q = absurd (n (equal_number a b q))
    try false q = refl

module _ (row : ℕ → Row) where
  symbol_same : {r s t : ℕ} {xs ys : List ℕ} → row r ≡ application s xs → row r ≡ application t ys → s ≡ t
  symbol_same p q = cc

  arguments_same : {r s t : ℕ} {xs ys : List ℕ} → row r ≡ application s xs → row r ≡ application t ys → xs ≡ ys
  arguments_same p q = cc

  not_both : {r v s : ℕ} {xs : List ℕ} → row r ≡ variable v → row r ≡ application s xs → ⊥
  not_both p q = let z : ◌≡◌ {A = ℕ} 0 1 = cc in omega arith

  -- What a turn has seen: it passes over the pair, goes into the arguments of two applications, or meets two symbols.
  pub data Sees (a b : ℕ) (ps : List RowPair) : OutlineTurn → Type 0 where
    same_row : a ≡ b → Sees a b ps (agree ps)
    left_variable : {v : ℕ} → row a ≡ variable v → Sees a b ps (agree ps)
    right_variable : {v : ℕ} → row b ≡ variable v → Sees a b ps (agree ps)
    one_symbol : {s : ℕ} {xs ys : List ℕ} → ¬ (a ≡ b) → row a ≡ application s xs → row b ≡ application s ys → Sees a b ps (agree (argument_row_pairs xs ys ps))
    two_symbols : {s t : ℕ} {xs ys : List ℕ} → row a ≡ application s xs → row b ≡ application t ys → ¬ (s ≡ t) → Sees a b ps differ

  pub sees : (a b : ℕ) (ps : List RowPair) → Sees a b ps (outline_turn row (a, b) ps)
  sees a b ps = try (eqb a b) refl
    where
      symbols : (s t : ℕ) (xs ys : List ℕ) → ¬ (a ≡ b) → row a ≡ application s xs → row b ≡ application t ys → (c : Bool) → eqb s t ≡ c → Sees a b ps (pick c (agree (argument_row_pairs xs ys ps)) differ)
      symbols s t xs ys n p q true e = one_symbol n p (q ∙ ap (λ (u : ℕ). application u ys) (sym (equal_number s t e)))
      symbols s t xs ys n p q false e = two_symbols p q (other_number s t e)

      rows : ¬ (a ≡ b) → (w u : Row) → row a ≡ w → row b ≡ u → Sees a b ps (opened w u ps)
      rows n (variable v) u p q = left_variable p
      rows n (application s xs) (variable v) p q = right_variable q
      rows n (application s xs) (application t ys) p q = symbols s t xs ys n p q (eqb s t) refl

      try : (c : Bool) → eqb a b ≡ c → Sees a b ps (pick c (agree ps) (opened (row a) (row b) ps))
      try true e = same_row (equal_number a b e)
      try false e = rows (other_number a b e) (row a) (row b) refl refl

  -- Two rows that clash at once.
  pub record Differs (a b : ℕ) : Type 0 where
    pub left_symbol : ℕ
    pub right_symbol : ℕ
    pub left_arguments : List ℕ
    pub right_arguments : List ℕ
    pub is_left : row a ≡ application left_symbol left_arguments
    pub is_right : row b ≡ application right_symbol right_arguments
    pub differs : ¬ (left_symbol ≡ right_symbol)

  turn_differs : (a b : ℕ) (ps : List RowPair) (t : OutlineTurn) → Sees a b ps t → t ≡ differ → Differs a b
  turn_differs a b ps t (same_row p) e = absurd (agree_or_differ e)
  turn_differs a b ps t (left_variable p) e = absurd (agree_or_differ e)
  turn_differs a b ps t (right_variable p) e = absurd (agree_or_differ e)
  turn_differs a b ps t (one_symbol n p q) e = absurd (agree_or_differ e)
  turn_differs a b ps t (two_symbols {s} {t = u} {xs} {ys} p q n) e = record { left_symbol = s; right_symbol = u; left_arguments = xs; right_arguments = ys; is_left = p; is_right = q; differs = n }

  differs_turn : (a b : ℕ) (ps : List RowPair) (t : OutlineTurn) → Differs a b → Sees a b ps t → t ≡ differ
  differs_turn a b ps t D (same_row p) = absurd (D.differs (symbol_same D.is_left (ap row p ∙ D.is_right)))
  differs_turn a b ps t D (left_variable p) = absurd (not_both p D.is_left)
  differs_turn a b ps t D (right_variable p) = absurd (not_both p D.is_right)
  differs_turn a b ps t D (one_symbol n p q) = absurd (D.differs (symbol_same D.is_left p ∙ symbol_same q D.is_right))
  differs_turn a b ps t D (two_symbols p q n) = refl

  -- ── A clash that the machine finds, and one that it has to find ──
  record FoundFrom (n : ℕ) (ps : List RowPair) : Type 0 where
    before : ℕ
    left : ℕ
    right : ℕ
    waiting : List RowPair
    comes : Compares row before ps ((left, right) ∷ waiting)
    fewer : before < n
    differs : Differs left right

  found_from : (n : ℕ) (ps : List RowPair) → clash_within row n ps ≡ true → FoundFrom n ps
  unfolding clash_within
  found_from zero ps q = absurd (true_not_false q refl)
  found_from (suc n) [] q = absurd (true_not_false q refl)
  found_from (suc n) (p ∷ ps) q = try (outline_turn row p ps) refl q (λ qs z. found_from n qs z)
    where
      try : (t : OutlineTurn) → outline_turn row p ps ≡ t → after_turn (λ qs. clash_within row n qs) t ≡ true → ((qs : List RowPair) → clash_within row n qs ≡ true → FoundFrom n qs) → FoundFrom (suc n) (p ∷ ps)
      try (agree qs) e z ih =
          let f = ih qs z in
          record { before = suc f.before; left = f.left; right = f.right; waiting = f.waiting; comes = one_pair e f.comes; fewer = let l = f.fewer in omega arith; differs = f.differs }
      try differ e z ih = record { before = 0; left = p.0; right = p.1; waiting = ps; comes = no_pair; fewer = omega arith; differs = turn_differs p.0 p.1 ps (outline_turn row p ps) (sees p.0 p.1 ps) e }

  found_clashes : (n : ℕ) {m a b : ℕ} {ps rs : List RowPair} → Compares row m ps ((a, b) ∷ rs) → Differs a b → m < n → clash_within row n ps ≡ true
  unfolding clash_within
  found_clashes zero c D l = absurd (omega arith)
  found_clashes (suc n) {a = a} {b = b} {rs = rs} no_pair D l = ap (after_turn (λ qs. clash_within row n qs)) (differs_turn a b rs (outline_turn row (a, b) rs) D (sees a b rs))
  found_clashes (suc n) (one_pair e c) D l = ap (after_turn (λ qs. clash_within row n qs)) e ∙ found_clashes n c D (omega arith)

  -- ── Positions ──
  record At (r q : ℕ) (p : RowPair) : Type 0 where
    path : List ℕ
    position : Position row r q path p.0 p.1

  one_below : {r q s a b i : ℕ} {xs ys path : List ℕ} → Position row r q path a b → row a ≡ application s xs → row b ≡ application s ys → i < length xs → i < length ys → At r q (get_or xs i 0, get_or ys i 0)
  one_below {i = i} top p q l m = record { path = i ∷ []; position = argument p q l m top }
  one_below (argument {i = j} u v k h z) p q l m = let w = one_below z p q l m in record { path = j ∷ w.path; position = argument u v k h w.position }

  arguments_each : (P : RowPair → Type 0) (xs ys : List ℕ) (ps : List RowPair) → ((i : ℕ) → i < length xs → i < length ys → P (get_or xs i 0, get_or ys i 0)) → Each P ps → Each P (argument_row_pairs xs ys ps)
  arguments_each P [] ys ps h k = k
  arguments_each P (x ∷ xs) [] ps h k = k
  arguments_each P (x ∷ xs) (y ∷ ys) ps h k = (h 0 (omega arith) (omega arith), arguments_each P xs ys ps (λ i l m. h (suc i) (omega arith) (omega arith)) k)

  turn_positions : (r q a b : ℕ) (ps qs : List RowPair) (t : OutlineTurn) → Sees a b ps t → t ≡ agree qs → At r q (a, b) → Each (At r q) ps → Each (At r q) qs
  turn_positions r q a b ps qs t (same_row p) e A h = subst (Each (At r q)) (agree_same e) h
  turn_positions r q a b ps qs t (left_variable p) e A h = subst (Each (At r q)) (agree_same e) h
  turn_positions r q a b ps qs t (right_variable p) e A h = subst (Each (At r q)) (agree_same e) h
  turn_positions r q a b ps qs t (one_symbol {s} {xs} {ys} n u v) e A h = subst (Each (At r q)) (agree_same e) (arguments_each (At r q) xs ys ps (λ i l m. one_below A.position u v l m) h)
  turn_positions r q a b ps qs t (two_symbols u v n) e A h = absurd (agree_or_differ (sym e))

  positions : (r q : ℕ) {m : ℕ} {ps qs : List RowPair} → Compares row m ps qs → Each (At r q) ps → Each (At r q) qs
  positions r q no_pair h = h
  positions r q (one_pair {p = p} {ps = ps} {qs = qs} e c) h = positions r q c (turn_positions r q p.0 p.1 ps qs (outline_turn row p ps) (sees p.0 p.1 ps) e h.0 h.1)

  pub clash_found : (r q : ℕ) → outlines_clash row r q ≡ true → ClashFound row r q
  clash_found r q z =
      let f = found_from most_outline_pairs ((r, q) ∷ []) z in
      let A = (positions r q f.comes (record { path = []; position = top }, tt)).0 in
      let D = f.differs in
      record {
        path = A.path;
        clash = record { left = f.left; right = f.right; position = A.position; left_symbol = D.left_symbol; right_symbol = D.right_symbol; left_arguments = D.left_arguments; right_arguments = D.right_arguments; is_left = D.is_left; is_right = D.is_right; differs = D.differs };
        pairs_before = f.before;
        waiting = f.waiting;
        found = f.comes;
        within = let l = f.fewer in omega (arith, l, pairs_4096);
      }

  clash_differs : {r q : ℕ} {path : List ℕ} (c : ClashAt row r q path) → Differs c.left c.right
  clash_differs c = record { left_symbol = c.left_symbol; right_symbol = c.right_symbol; left_arguments = c.left_arguments; right_arguments = c.right_arguments; is_left = c.is_left; is_right = c.is_right; differs = c.differs }

  pub found_clash : (r q : ℕ) → ClashFound row r q → outlines_clash row r q ≡ true
  found_clash r q f = found_clashes most_outline_pairs f.found (clash_differs f.clash) (let l = f.within in omega (arith, l, pairs_4096))

  -- ── A comparison that has taken up every pair: no position clashes ──
  Clean : RowPair → Type 0
  Clean p = (path : List ℕ) → ¬ ClashAt row p.0 p.1 path

  same_below : {r a b : ℕ} {path : List ℕ} → Position row r r path a b → a ≡ b
  same_below p = rows p refl
    where
      rows : {r q a b : ℕ} {path : List ℕ} → Position row r q path a b → r ≡ q → a ≡ b
      rows top e = e
      rows (argument {i = i} u v l m z) e = rows z (ap (λ (zs : List ℕ). get_or zs i 0) (arguments_same u (ap row e ∙ v)))

  clean_same : (a b : ℕ) → a ≡ b → Clean (a, b)
  unfolding Clean
  clean_same a b e path c =
      let z : c.left ≡ c.right = same_below (subst (λ (x : ℕ). Position row a x path c.left c.right) (sym e) c.position) in
      c.differs (symbol_same c.is_left (ap row z ∙ c.is_right))

  clean_left : {v : ℕ} (a b : ℕ) → row a ≡ variable v → Clean (a, b)
  unfolding Clean
  clean_left a b e path c = try c.position c.is_left
    where
      try : {l r s : ℕ} {xs path : List ℕ} → Position row a b path l r → row l ≡ application s xs → ⊥
      try top p = not_both e p
      try (argument u v l m z) p = not_both e u

  clean_right : {v : ℕ} (a b : ℕ) → row b ≡ variable v → Clean (a, b)
  unfolding Clean
  clean_right a b e path c = try c.position c.is_right
    where
      try : {l r s : ℕ} {xs path : List ℕ} → Position row a b path l r → row r ≡ application s xs → ⊥
      try top p = not_both e p
      try (argument u v l m z) p = not_both e v

  each_argument : (P : RowPair → Type 0) (xs ys : List ℕ) (ps : List RowPair) → Each P (argument_row_pairs xs ys ps) → (i : ℕ) → i < length xs → i < length ys → P (get_or xs i 0, get_or ys i 0)
  each_argument P [] ys ps h i l m = absurd (omega arith)
  each_argument P (x ∷ xs) [] ps h i l m = absurd (omega arith)
  each_argument P (x ∷ xs) (y ∷ ys) ps h zero l m = h.0
  each_argument P (x ∷ xs) (y ∷ ys) ps h (suc i) l m = each_argument P xs ys ps h.1 i (omega arith) (omega arith)

  each_waiting : (P : RowPair → Type 0) (xs ys : List ℕ) (ps : List RowPair) → Each P (argument_row_pairs xs ys ps) → Each P ps
  each_waiting P [] ys ps h = h
  each_waiting P (x ∷ xs) [] ps h = h
  each_waiting P (x ∷ xs) (y ∷ ys) ps h = each_waiting P xs ys ps h.1

  clean_arguments : {s : ℕ} {xs ys : List ℕ} (a b : ℕ) → row a ≡ application s xs → row b ≡ application s ys → ((i : ℕ) → i < length xs → i < length ys → Clean (get_or xs i 0, get_or ys i 0)) → Clean (a, b)
  unfolding Clean
  clean_arguments {s} {xs} {ys} a b p q h path c = try c.position c refl refl
    where
      below : {t u i l r : ℕ} {zs ws path : List ℕ} → row a ≡ application t zs → row b ≡ application u ws → i < length zs → i < length ws → Position row (get_or zs i 0) (get_or ws i 0) path l r → Differs l r → ⊥
      below {i = i} {l} {r} {zs} {ws} {path} e f k m z D =
          let ez : zs ≡ xs = arguments_same e p in
          let ew : ws ≡ ys = arguments_same f q in
          h i (subst (λ (x : List ℕ). i < length x) ez k) (subst (λ (x : List ℕ). i < length x) ew m) path
          (record {
            left = l;
            right = r;
            position = subst (λ (x : List ℕ). Position row (get_or x i 0) (get_or ys i 0) path l r) ez (subst (λ (x : List ℕ). Position row (get_or zs i 0) (get_or x i 0) path l r) ew z);
            left_symbol = D.left_symbol;
            right_symbol = D.right_symbol;
            left_arguments = D.left_arguments;
            right_arguments = D.right_arguments;
            is_left = D.is_left;
            is_right = D.is_right;
            differs = D.differs;
          })

      try : {l r : ℕ} {path : List ℕ} → Position row a b path l r → (c : ClashAt row a b path) → c.left ≡ l → c.right ≡ r → ⊥
      try top c el er = c.differs (symbol_same (ap row (sym el) ∙ c.is_left) p ∙ symbol_same q (ap row (sym er) ∙ c.is_right))
      try {r = r} (argument e f k m z) c el er = below e f k m z (subst (λ (x : ℕ). Differs x r) el (subst (λ (x : ℕ). Differs c.left x) er (clash_differs c)))

  turn_clean : (a b : ℕ) (ps qs : List RowPair) (t : OutlineTurn) → Sees a b ps t → t ≡ agree qs → Each Clean qs → Clean (a, b) × Each Clean ps
  turn_clean a b ps qs t (same_row p) e h = (clean_same a b p, subst (Each Clean) (sym (agree_same e)) h)
  turn_clean a b ps qs t (left_variable p) e h = (clean_left a b p, subst (Each Clean) (sym (agree_same e)) h)
  turn_clean a b ps qs t (right_variable p) e h = (clean_right a b p, subst (Each Clean) (sym (agree_same e)) h)
  turn_clean a b ps qs t (one_symbol {xs = xs} {ys} n u v) e h =
      let k = subst (Each Clean) (sym (agree_same e)) h in
      (clean_arguments a b u v (each_argument Clean xs ys ps k), each_waiting Clean xs ys ps k)
  turn_clean a b ps qs t (two_symbols u v n) e h = absurd (agree_or_differ (sym e))

  all_clean : {n : ℕ} {ps qs : List RowPair} → Compares row n ps qs → qs ≡ [] → Each Clean ps
  all_clean no_pair e = subst (Each Clean) (sym e) tt
  all_clean (one_pair {p = p} {ps = ps} {qs = qs} e c) f = turn_clean p.0 p.1 ps qs (outline_turn row p ps) (sees p.0 p.1 ps) e (all_clean c f)

  whole_comparison : {n : ℕ} (r q : ℕ) → Compares row n ((r, q) ∷ []) [] → (path : List ℕ) → ¬ ClashAt row r q path
  unfolding Clean
  whole_comparison r q c path = (all_clean c refl).0 path

  -- A comparison of up to n pairs finds a clash, comes to its end, or has taken up n pairs with some left.
  pub data Outcome (n : ℕ) (ps : List RowPair) : Type 0 where
    clashes : clash_within row n ps ≡ true → Outcome n ps
    ended : {m : ℕ} → Compares row m ps [] → Outcome n ps
    spent : (p : RowPair) (qs : List RowPair) → Compares row n ps (p ∷ qs) → Outcome n ps

  pub outcome : (n : ℕ) (ps : List RowPair) → Outcome n ps
  unfolding clash_within
  outcome zero [] = ended no_pair
  outcome zero (p ∷ ps) = spent p ps no_pair
  outcome (suc n) [] = ended no_pair
  outcome (suc n) (p ∷ ps) = try (outline_turn row p ps) refl (λ qs. outcome n qs)
    where
      more : (qs : List RowPair) → outline_turn row p ps ≡ agree qs → Outcome n qs → Outcome (suc n) (p ∷ ps)
      more qs e (clashes q) = clashes (ap (after_turn (λ rs. clash_within row n rs)) e ∙ q)
      more qs e (ended c) = ended (one_pair e c)
      more qs e (spent u us c) = spent u us (one_pair e c)

      try : (t : OutlineTurn) → outline_turn row p ps ≡ t → ((qs : List RowPair) → Outcome n qs) → Outcome (suc n) (p ∷ ps)
      try (agree qs) e ih = more qs e (ih qs)
      try differ e ih = clashes (ap (after_turn (λ qs. clash_within row n qs)) e)

  pub found_or_spent_lem : (r q : ℕ) (path : List ℕ) → ClashAt row r q path → (outlines_clash row r q ≡ true) ⊎ ((p : RowPair) × (ps : List RowPair) × Compares row 4096 ((r, q) ∷ []) (p ∷ ps))
  found_or_spent_lem r q path c = try (outcome most_outline_pairs ((r, q) ∷ []))
    where
      try : Outcome most_outline_pairs ((r, q) ∷ []) → (outlines_clash row r q ≡ true) ⊎ ((p : RowPair) × (ps : List RowPair) × Compares row 4096 ((r, q) ∷ []) (p ∷ ps))
      try (clashes z) = inl z
      try (ended e) = absurd (whole_comparison r q e path c)
      try (spent p ps e) = inr (p, ps, subst (λ (n : ℕ). Compares row n ((r, q) ∷ []) (p ∷ ps)) pairs_4096 e)

  -- ── A clash of outlines: no values make the two rows equal ──
  module _ (term : ℕ → Term ℕ) (law : (r : ℕ) → term r ≡ row_term term r (row r)) {Y : Type 0} (σ τ : ℕ → Term Y) where
    Equal : RowPair → Type 0
    Equal p = apply σ (term p.0) ≡ apply τ (term p.1)

    opened_equal : (a b : ℕ) {s t : ℕ} {xs ys : List ℕ} → row a ≡ application s xs → row b ≡ application t ys → Equal (a, b) → (s ≡ t) × (apply_all σ (argument_terms term xs) ≡ apply_all τ (argument_terms term ys))
    unfolding Equal
    opened_equal a b {s} {t} {xs} {ys} p q e =
        let left : term a ≡ app s (argument_terms term xs) = law a ∙ ap (row_term term a) p in
        let right : term b ≡ app t (argument_terms term ys) = law b ∙ ap (row_term term b) q in
        let z : app s (apply_all σ (argument_terms term xs)) ≡ app t (apply_all τ (argument_terms term ys)) = ap (apply σ) (sym left) ∙ e ∙ ap (apply τ) right in
        ((apart z).0, (apart z).1)
      where
        apart : {s t : ℕ} {us ws : Terms Y} → app s us ≡ app t ws → (s ≡ t) × (us ≡ ws)
        apart z = (cc, cc)

    arguments_equal : (xs ys : List ℕ) (ps : List RowPair) → apply_all σ (argument_terms term xs) ≡ apply_all τ (argument_terms term ys) → Each Equal ps → Each Equal (argument_row_pairs xs ys ps)
    unfolding Equal
    arguments_equal [] ys ps e h = h
    arguments_equal (x ∷ xs) [] ps e h = h
    arguments_equal (x ∷ xs) (y ∷ ys) ps e h = ((apart e).0, arguments_equal xs ys ps (apart e).1 h)
      where
        apart : {t u : Term Y} {ts us : Terms Y} → cons t ts ≡ cons u us → (t ≡ u) × (ts ≡ us)
        apart z = (cc, cc)

    abbrev EqualAfter : OutlineTurn → Type 0
    EqualAfter (agree ps) = Each Equal ps
    EqualAfter differ = ⊥

    turn_equal : (a b : ℕ) (ps : List RowPair) (t : OutlineTurn) → Sees a b ps t → Equal (a, b) → Each Equal ps → EqualAfter t
    turn_equal a b ps t (same_row p) e h = h
    turn_equal a b ps t (left_variable p) e h = h
    turn_equal a b ps t (right_variable p) e h = h
    turn_equal a b ps t (one_symbol {xs = xs} {ys} n u v) e h = arguments_equal xs ys ps (opened_equal a b u v e).1 h
    turn_equal a b ps t (two_symbols u v n) e h = n (opened_equal a b u v e).0

    equal_agree : (n : ℕ) (ps : List RowPair) → Each Equal ps → clash_within row n ps ≡ false
    unfolding clash_within
    equal_agree zero ps h = refl
    equal_agree (suc n) [] h = refl
    equal_agree (suc n) (p ∷ ps) h = try (outline_turn row p ps) (turn_equal p.0 p.1 ps (outline_turn row p ps) (sees p.0 p.1 ps) h.0 h.1) (λ qs k. equal_agree n qs k)
      where
        try : (t : OutlineTurn) → EqualAfter t → ((qs : List RowPair) → Each Equal qs → clash_within row n qs ≡ false) → after_turn (λ qs. clash_within row n qs) t ≡ false
        try (agree qs) k ih = ih qs k
        try differ k ih = absurd k

    pub clash_apart : (r q : ℕ) → outlines_clash row r q ≡ true → ¬ (apply σ (term r) ≡ apply τ (term q))
    unfolding Equal
    clash_apart r q z e = true_not_false z (equal_agree most_outline_pairs ((r, q) ∷ []) (e, tt))

-- Two tables that agree on the rows of which P holds, whose arguments are such rows too: outlines there are the same.
module _ (row row' : ℕ → Row) (P : ℕ → Type 0) (alike : (r : ℕ) → P r → row r ≡ row' r) (below : (r s : ℕ) (xs : List ℕ) → row r ≡ application s xs → P r → Each P xs) where
  Inside : RowPair → Type 0
  Inside p = P p.0 × P p.1

  abbrev InsideAfter : OutlineTurn → Type 0
  InsideAfter (agree ps) = Each Inside ps
  InsideAfter differ = Unit {0}

  arguments_inside : (xs ys : List ℕ) (ps : List RowPair) → Each P xs → Each P ys → Each Inside ps → Each Inside (argument_row_pairs xs ys ps)
  unfolding Inside
  arguments_inside [] ys ps h k m = m
  arguments_inside (x ∷ xs) [] ps h k m = m
  arguments_inside (x ∷ xs) (y ∷ ys) ps h k m = ((h.0, k.0), arguments_inside xs ys ps h.1 k.1 m)

  turn_inside : (a b : ℕ) (ps : List RowPair) (t : OutlineTurn) → Sees row a b ps t → Inside (a, b) → Each Inside ps → InsideAfter t
  unfolding Inside
  turn_inside a b ps t (same_row p) i h = h
  turn_inside a b ps t (left_variable p) i h = h
  turn_inside a b ps t (right_variable p) i h = h
  turn_inside a b ps t (one_symbol {s} {xs} {ys} d u v) i h = arguments_inside xs ys ps (below a s xs u i.0) (below b s ys v i.1) h
  turn_inside a b ps t (two_symbols u v d) i h = tt

  turn_alike : (p : RowPair) (ps : List RowPair) → Inside p → outline_turn row p ps ≡ outline_turn row' p ps
  unfolding Inside
  turn_alike p ps i = ap₂ (λ (w u : Row). pick (eqb p.0 p.1) (agree ps) (opened w u ps)) (alike p.0 i.0) (alike p.1 i.1)

  clash_alike : (m : ℕ) (ps : List RowPair) → Each Inside ps → clash_within row m ps ≡ clash_within row' m ps
  unfolding clash_within
  clash_alike zero ps h = refl
  clash_alike (suc m) [] h = refl
  clash_alike (suc m) (p ∷ ps) h =
      try (outline_turn row p ps) (turn_inside p.0 p.1 ps (outline_turn row p ps) (sees row p.0 p.1 ps) h.0 h.1) (λ qs k. clash_alike m qs k)
      ∙ ap (after_turn (λ qs. clash_within row' m qs)) (turn_alike p ps h.0)
    where
      try : (t : OutlineTurn) → InsideAfter t → ((qs : List RowPair) → Each Inside qs → clash_within row m qs ≡ clash_within row' m qs) → after_turn (λ qs. clash_within row m qs) t ≡ after_turn (λ qs. clash_within row' m qs) t
      try (agree qs) k ih = ih qs k
      try differ k ih = refl

  pub outlines_alike : (r q : ℕ) → P r → P q → outlines_clash row r q ≡ outlines_clash row' r q
  unfolding Inside
  outlines_alike r q h k = clash_alike most_outline_pairs ((r, q) ∷ []) ((h, k), tt)
