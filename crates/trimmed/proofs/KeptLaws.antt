-- What the accepted clause uses is closed; and whatever is kept, but the accepted clause, is kept for something else that is.
use mathlib.Core.Path.{◌≡◌, refl, sym, ap, ◌∙◌, subst}
use mathlib.Core.Logic.{◌⊎◌, inl, inr}
use mathlib.Core.Bool.{true}
use mathlib.Core.Option.{some}
use mathlib.Core.List.{List, [], ◌∷◌}
use Prim.Native.Nat.{ℕ, suc, ◌≤◌, ◌<◌}
use native.Mathlib.Omega.{arith}
use lib.ListN.{length}
use Rattle.record.specs.Record.{File, Record, records}
use Rattle.record.proofs.Records.{Shaped, records_shaped}
use Rattle.unification.specs.Environment.{Binding}
use Rattle.unification.specs.Repeated.{IsEarliest}
use Rattle.unification.specs.Row.{Row, application}
use Rattle.unification.proofs.Lists.{Each}
use Rattle.unification.proofs.Tests.{some_not_none}
use Rattle.derivation.specs.Derivation.{literals, input, RowLiteral, Derivation, resolve, factor, clause_number, numbered, numbered_all, Use, uses}
use Rattle.derivation.proofs.Known.{KnownRows, known_uses}
use Rattle.verdict.specs.State.{State, empty_state, rows_of, row_of, arity_of, derivations, clause_of}
use Rattle.verdict.specs.Step.{stands, refused, Result, step, read, all_stand, refused_at}
use Rattle.verdict.specs.Verdict.{ending, Stands}
use Rattle.verdict.proofs.Endings.{ending_stands, stands_not_refused}
use Rattle.demands.specs.Conditions.{OneOf}
use Rattle.demands.proofs.Inversions.{entry_each}
use Rattle.demands.proofs.Reading.{stands_ok}
use Rattle.demands.proofs.Shared.{Shared, shared_start, step_shared, shared_arguments}
use Rattle.demands.proofs.Sources.{Sourced, step_sourced, source_of, number_of}
use Rattle.demands.proofs.Standing.{StateOk, order_of}
use Rattle.trimming.specs.Kept.{Kept, kept_for, clause_in, uses_reach, reaches}
use Rattle.trimmed.proofs.Closed.{KeptClosed}
use Rattle.trimmed.proofs.Reaching.{each_one, one_each, reach_self, reach_below, reach_arguments, Argument, reached_from, uses_from, uses_reach_lem, SymbolOf, symbol_from, symbol_of_lem}
use Rattle.trimmed.proofs.Within.{Within, itself', in_left, in_right, in_factored, within_twice, within_in, input_used, used_input, at_number, left_stands, right_stands, factored_stands, within_stands, in_within, number_within}

-- ── States of files that stand ──
pub record Ordered (S : State) : Type 0 where
  pub sourced : Sourced (derivations S)
  pub shared : Shared S

read_ordered : (S : State) (k : ℕ) (rs : List Record) (T : State) → Shaped rs → Ordered S → read S k rs ≡ all_stand T → Ordered T
read_ordered S k [] T h O q = subst Ordered (ending_stands q) O
read_ordered S k (r ∷ rs) T h O q = try (step S k r) refl q (λ U P p. read_ordered U (suc k) rs T h.1 P p)
  where
    try : (o : Result) → step S k r ≡ o → elim o [ stands U ↦ read U (suc k) rs | refused p ↦ refused_at S p k ] ≡ all_stand T
        → ((U : State) → Ordered U → read U (suc k) rs ≡ all_stand T → Ordered T) → Ordered T
    try (stands U) e p ih = ih U (record { sourced = step_sourced S k r U h.0 e O.sourced; shared = step_shared S k r U O.shared e }) p
    try (refused p) e z ih = absurd (stands_not_refused (sym z))

pub stands_ordered : (file : File) (S : State) → Stands file S → Ordered S
unfolding ending
stands_ordered file S st = read_ordered empty_state 0 (records file) S (records_shaped file) (record { sourced = tt; shared = shared_start }) st.reads

-- ── A parent in a derivation ──

-- The second clause is a parent of the first one.
pub data Parent : Derivation → Derivation → Type 0 where
  left_parent : {number a : ℕ} {l r : Derivation} {ns : List ℕ} {bs : List Binding} → Parent (resolve number l a r ns bs) l
  right_parent : {number a : ℕ} {l r : Derivation} {ns : List ℕ} {bs : List Binding} → Parent (resolve number l a r ns bs) r
  factored_parent : {number a b : ℕ} {d : Derivation} {bs : List Binding} → Parent (factor number d a b bs) d

parent_within : (c x : Derivation) → Within c x → (x ≡ c) ⊎ ((y : Derivation) × Within c y × Parent y x)
parent_within c x itself' = inl refl
parent_within (resolve number l a r ns bs) x (in_left w) = try (parent_within l x w)
  where
    try : (x ≡ l) ⊎ ((y : Derivation) × Within l y × Parent y x) → (x ≡ resolve number l a r ns bs) ⊎ ((y : Derivation) × Within (resolve number l a r ns bs) y × Parent y x)
    try (inl e) = inr (resolve number l a r ns bs, itself', subst (Parent (resolve number l a r ns bs)) (sym e) left_parent)
    try (inr z) = inr (z.0, in_left z.1, z.2)
parent_within (resolve number l a r ns bs) x (in_right w) = try (parent_within r x w)
  where
    try : (x ≡ r) ⊎ ((y : Derivation) × Within r y × Parent y x) → (x ≡ resolve number l a r ns bs) ⊎ ((y : Derivation) × Within (resolve number l a r ns bs) y × Parent y x)
    try (inl e) = inr (resolve number l a r ns bs, itself', subst (Parent (resolve number l a r ns bs)) (sym e) right_parent)
    try (inr z) = inr (z.0, in_right z.1, z.2)
parent_within (factor number d a b bs) x (in_factored w) = try (parent_within d x w)
  where
    try : (x ≡ d) ⊎ ((y : Derivation) × Within d y × Parent y x) → (x ≡ factor number d a b bs) ⊎ ((y : Derivation) × Within (factor number d a b bs) y × Parent y x)
    try (inl e) = inr (factor number d a b bs, itself', subst (Parent (factor number d a b bs)) (sym e) factored_parent)
    try (inr z) = inr (z.0, in_factored z.1, z.2)

-- A step names a literal of each parent, so no parent is empty.
some_literal : {A : Type 0} (ls : List A) (n : ℕ) (l : A) → numbered ls n ≡ some l → ¬ (ls ≡ [])
some_literal {A} ls n l q e = some_not_none {A = A} refl (sym (ap (λ (x : List A). numbered x n) e) ∙ q)

some_literals : {A : Type 0} (ls : List A) (ns : List ℕ) (ms : List A) → 1 ≤ length ns → numbered_all ls ns ≡ some ms → ¬ (ls ≡ [])
some_literals ls [] ms l q e = absurd (omega arith)
some_literals {A} ls (n ∷ ns) ms l q e = some_not_none {A = List A} refl (sym (ap (λ (x : List A). numbered_all x (n ∷ ns)) e) ∙ q)

-- A clause that is kept for a child of it, and a row that is kept for a literal.
pub record ForChild (S : State) (K : Kept) (m : ℕ) : Type 0 where
  pub parent : Derivation
  pub child : Derivation
  pub is_number : clause_number parent ≡ m
  pub is_parent : Parent child parent
  pub child_kept : K.clause (clause_number child) ≡ true
  pub child_stands : clause_of S (clause_number child) ≡ some child
  pub is_later : m < clause_number child

pub record ForLiteral (S : State) (K : Kept) (q : ℕ) : Type 0 where
  pub clause : ℕ
  pub inputs : List RowLiteral
  pub literal : RowLiteral
  pub clause_kept : K.clause clause ≡ true
  pub is_clause : clause_of S clause ≡ some (input clause inputs)
  pub is_literal : OneOf literal inputs
  pub is_row : literal.1 ≡ q

module _ (S : State) (O : Ordered S) (ok : StateOk 4096 S) (n : ℕ) (c : Derivation) (at : clause_of S n ≡ some c) where
  abbrev ws : List Row
  ws = rows_of S

  here : clause_of S (clause_number c) ≡ some c
  here = at_number S O.sourced n c at

  -- Literals of uses are on earliest rows.
  on_earliest_lem : (u : Use) (l : RowLiteral) → OneOf u (uses c) → OneOf l u.1 → IsEarliest (rows_of S) l.1
  on_earliest_lem u l o m =
      let k = known_uses (IsEarliest ws) c (entry_each (KnownRows (IsEarliest ws)) (derivations S) O.shared.clauses_shared n c at) in
      each_one (λ (x : RowLiteral). IsEarliest ws x.1) u.1 (each_one (λ (v : Use). Each (λ (x : RowLiteral). IsEarliest ws x.1) v.1) (uses c) k u o) l m

  argument_earliest : (r : ℕ) → IsEarliest (rows_of S) r → (q : ℕ) → (q ≡ r) ⊎ Argument (rows_of S) (reaches (rows_of S) r) q → IsEarliest (rows_of S) q
  argument_earliest r E q (inl e) = subst (IsEarliest ws) (sym e) E
  argument_earliest r E q (inr A) =
      let l = reach_below ws r A.row A.is_reached in
      each_one (IsEarliest ws) A.arguments (shared_arguments ws O.shared.rows_shared A.row A.symbol A.arguments A.is_row (omega (arith, l.0, l.1))) q A.is_argument

  kept_earliest : (r : ℕ) → uses_reach (rows_of S) (uses c) r ≡ true → IsEarliest (rows_of S) r
  kept_earliest r h = let f = uses_from ws (uses c) r h in argument_earliest f.1.1 (on_earliest_lem f.0 f.1 f.2 f.3) r (reached_from ws f.1.1 r f.4)

  kept_within : (m : ℕ) (x : Derivation) → clause_in c m ≡ true → clause_of S m ≡ some x → Within c x
  kept_within m x h q = number_within S O.sourced c m x here h q

  kept_arguments : (r s : ℕ) (xs : List ℕ) → uses_reach (rows_of S) (uses c) r ≡ true → row_of S r ≡ application s xs → Each (λ a. uses_reach (rows_of S) (uses c) a ≡ true) xs
  kept_arguments r s xs h e =
      let f = uses_from ws (uses c) r h in
      one_each (λ a. uses_reach ws (uses c) a ≡ true) xs (λ a o. uses_reach_lem ws (uses c) f.0 f.1 a f.2 f.3 (reach_arguments (arity_of S) ws ok.rows_ok f.1.1 r s xs f.4 e a o))

  kept_literals : (m : ℕ) (ls : List RowLiteral) → Within c (input m ls) → Each (λ (l : RowLiteral). uses_reach (rows_of S) (uses c) l.1 ≡ true) ls
  kept_literals m ls w =
      let u = input_used c m ls w in
      one_each (λ (l : RowLiteral). uses_reach ws (uses c) l.1 ≡ true) ls (λ l o. uses_reach_lem ws (uses c) (m, ls) l l.1 u o (reach_self ws l.1 (on_earliest_lem (m, ls) l u o).there))

  pub kept_closed : KeptClosed S (kept_for S c)
  kept_closed = record {
    earliest = kept_earliest;
    arguments = kept_arguments;
    symbols = λ r s xs h e. symbol_of_lem (uses_reach ws (uses c)) ws r s xs (kept_earliest r h).there h e;
    inputs = λ i m ls h e. kept_literals m ls (kept_within i (input m ls) h e);
    lefts = λ i m a l r ns bs h e. within_in c l (within_twice (kept_within i (resolve m l a r ns bs) h e) (in_left itself'));
    rights = λ i m a l r ns bs h e. within_in c r (within_twice (kept_within i (resolve m l a r ns bs) h e) (in_right itself'));
    factored = λ i m a b d bs h e. within_in c d (within_twice (kept_within i (factor m d a b bs) h e) (in_factored itself'));
  }

  -- ── What something is kept for ──
  parent_below : (y x : Derivation) → clause_of S (clause_number y) ≡ some y → Parent y x → clause_number x < clause_number y
  parent_below y x q (left_parent {number} {a} {l} {r} {ns} {bs}) = (left_stands S O.sourced number number a l r ns bs q).0
  parent_below y x q (right_parent {number} {a} {l} {r} {ns} {bs}) = (right_stands S O.sourced number number a l r ns bs q).0
  parent_below y x q (factored_parent {number} {a} {b} {d} {bs}) = (factored_stands S O.sourced number number a b d bs q).0

  pub clause_kept_for : (m : ℕ) → clause_in c m ≡ true → (m ≡ clause_number c) ⊎ ForChild S (kept_for S c) m
  clause_kept_for m h = let z = in_within S O.sourced c m h in try z.0 z.2 (parent_within c z.0 z.1)
    where
      try : (x : Derivation) → clause_number x ≡ m → (x ≡ c) ⊎ ((y : Derivation) × Within c y × Parent y x) → (m ≡ clause_number c) ⊎ ForChild S (kept_for S c) m
      try x e (inl z) = inl (sym e ∙ ap clause_number z)
      try x e (inr z) =
          let y = (within_stands S O.sourced c z.0 here z.1).1 in
          let l = parent_below z.0 x y z.2 in
          inr (record { parent = x; child = z.0; is_number = e; is_parent = z.2; child_kept = within_in c z.0 z.1; child_stands = y; is_later = omega arith })

  pub row_kept_for : (q : ℕ) → uses_reach (rows_of S) (uses c) q ≡ true → ForLiteral S (kept_for S c) q ⊎ Argument (rows_of S) (uses_reach (rows_of S) (uses c)) q
  row_kept_for q h = let f = uses_from ws (uses c) q h in try f.0 f.1 f.2 f.3 (reached_from ws f.1.1 q f.4)
    where
      try : (u : Use) (l : RowLiteral) → OneOf u (uses c) → OneOf l u.1 → (q ≡ l.1) ⊎ Argument (rows_of S) (reaches (rows_of S) l.1) q → ForLiteral S (kept_for S c) q ⊎ Argument (rows_of S) (uses_reach (rows_of S) (uses c)) q
      try u l o m (inl e) =
          let w = used_input c u o in
          inl (record { clause = u.0; inputs = u.1; literal = l; clause_kept = within_in c (input u.0 u.1) w; is_clause = (within_stands S O.sourced c (input u.0 u.1) here w).1; is_literal = m; is_row = sym e })
      try u l o m (inr A) = inr (record { row = A.row; symbol = A.symbol; arguments = A.arguments; is_reached = uses_reach_lem (rows_of S) (uses c) u l A.row o m A.is_reached; is_row = A.is_row; is_argument = A.is_argument; is_below = A.is_below })

  pub symbol_kept_for : (s : ℕ) → (kept_for S c).symbol s ≡ true → SymbolOf (rows_of S) (kept_for S c).row s
  symbol_kept_for s h = symbol_from (uses_reach ws (uses c)) ws s h

  -- ── The accepted clause is the last one ──
  pub kept_numbers : (m : ℕ) → clause_in c m ≡ true → m ≤ clause_number c
  kept_numbers m h = let z = in_within S O.sourced c m h in let y = (within_stands S O.sourced c z.0 here z.1).0 in let e = z.2 in omega arith

  -- and every other clause of its derivation has literals.
  parent_literals : (y x : Derivation) → clause_of S (clause_number y) ≡ some y → Parent y x → ¬ (literals x ≡ [])
  parent_literals y x q (left_parent {number} {a} {l} {r} {ns} {bs}) = let v = (order_of 4096 S ok number (resolve number l a r ns bs) q).valid.2 in some_literal (literals l) a (v.0, v.1) v.3
  parent_literals y x q (right_parent {number} {a} {l} {r} {ns} {bs}) =
      let v = (order_of 4096 S ok number (resolve number l a r ns bs) q).valid.2 in
      some_literals (literals r) ns _ (source_of (derivations S) O.sourced number (resolve number l a r ns bs) q).3 v.4
  parent_literals y x q (factored_parent {number} {a} {b} {d} {bs}) = let v = (order_of 4096 S ok number (factor number d a b bs) q).valid.1 in some_literal (literals d) a (v.0, v.1) v.3

  pub kept_literals_there : (m : ℕ) (x : Derivation) → clause_in c m ≡ true → clause_of S m ≡ some x → ¬ (m ≡ clause_number c) → ¬ (literals x ≡ [])
  kept_literals_there m x h q d = try (parent_within c x (kept_within m x h q))
    where
      try : (x ≡ c) ⊎ ((y : Derivation) × Within c y × Parent y x) → ¬ (literals x ≡ [])
      try (inl e) = absurd (d (sym (number_of (derivations S) O.sourced m x q) ∙ ap clause_number e))
      try (inr z) = parent_literals z.0 x (within_stands S O.sourced c z.0 here z.1).1 z.2

-- In a file that stands.
pub stands_closed : (file : File) (S : State) → Stands file S → (n : ℕ) (c : Derivation) → clause_of S n ≡ some c → KeptClosed S (kept_for S c)
stands_closed file S st n c q = kept_closed S (stands_ordered file S st) (stands_ok file S st) n c q
