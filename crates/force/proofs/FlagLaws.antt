-- The flags of clauses say which derivations count on a day: those whose input clauses are all in force by the windows of the file.
use mathlib.Core.Path.{◌≡◌, refl, sym, ap, ap₂, ◌∙◌}
use mathlib.Core.Bool.{Bool, true, false, ◌&&◌, and-true, and_assoc}
use mathlib.Core.Option.{Option, none, some}
use mathlib.Core.List.{List, [], ◌∷◌, ◌++◌}
use Prim.Native.Nat.{ℕ, zero, suc, ◌+◌, ◌≤◌, ◌<◌}
use native.Mathlib.Nat.{zero-add}
use native.Mathlib.Omega.{arith}
use lib.Dec.{eqb}
use lib.ListN.{length, get_or, set, take, drop, replicate, length-set, length-replicate, get_or-replicate}
use lib.Seq.{get_or-set_same, get_or-set_other, take-length}
use Rattle.record.specs.Record.{pick, File, Record, record_count, record_at, records}
use Rattle.record.proofs.Records.{records_length, record_numbered}
use Rattle.unification.specs.Nodes.{part}
use Rattle.derivation.specs.Derivation.{Derivation, Use, uses}
use Rattle.derivation.specs.Stored.{origin_code, Stored, stored_input, stored_resolve, stored_factor}
use Rattle.verdict.specs.Force.{window_of, within, in_force, all_in_force, uses_in_force}
use Rattle.verdict.specs.State.{State, Window}
use Rattle.verdict.specs.Verdict.{Stands}
use Rattle.demands.proofs.Advance.{take_next}
use Rattle.demands.specs.Demands.{clauses_of, clauses_in}
use Rattle.demands.proofs.Dating.{given_by, window_given, with_given, windows_after, stands_windows}
use Rattle.demands.proofs.RangeTests.{not_true, equal, unequal}
use Rattle.force.specs.Flags.{day_flag, with_flag_of_days, with_record, flags_after, flag_from, with_flag, derived_flags, flags_in_force}

-- ── The flags that windows give ──

-- The clauses that one record more makes, and the windows that it leaves.
clauses_next : (rs : List Record) (r : Record) → clauses_in (rs ++ (r ∷ [])) ≡ clauses_in rs + clauses_of r
clauses_next [] r = let z : clauses_of r + 0 ≡ 0 + clauses_of r = omega arith in z
clauses_next (q ∷ rs) r = let h = clauses_next rs r in omega arith

windows_next : (n : ℕ) (ws : List Window) (rs : List Record) (r : Record) → windows_after n ws (rs ++ (r ∷ [])) ≡ with_given (windows_after n ws rs) (window_given (n + clauses_in rs) r)
windows_next n ws [] r = let z : n ≡ n + 0 = omega arith in ap (λ (m : ℕ). with_given ws (window_given m r)) z
windows_next n ws (q ∷ rs) r =
    let z : n + clauses_of q + clauses_in rs ≡ n + (clauses_of q + clauses_in rs) = omega arith in
    windows_next (n + clauses_of q) (with_given ws (window_given n q)) rs r
    ∙ ap (λ (m : ℕ). with_given (windows_after (n + clauses_of q) (with_given ws (window_given n q)) rs) (window_given m r)) z

-- Up to record k: the clauses and the windows that this one adds.
pub clauses_up_to : (F : File) (k : ℕ) → k < record_count F → clauses_in (take (suc k) (records F)) ≡ clauses_in (take k (records F)) + clauses_of (record_at F k)
clauses_up_to F k m = ap clauses_in (take_next k (records F) (record_at F k) (drop (suc k) (records F)) (record_numbered F k m)) ∙ clauses_next (take k (records F)) (record_at F k)

windows_up_to : (F : File) (k : ℕ) → k < record_count F
    → windows_after 0 [] (take (suc k) (records F)) ≡ with_given (windows_after 0 [] (take k (records F))) (window_given (clauses_in (take k (records F))) (record_at F k))
windows_up_to F k m =
    ap (windows_after 0 []) (take_next k (records F) (record_at F k) (drop (suc k) (records F)) (record_numbered F k m))
    ∙ windows_next 0 [] (take k (records F)) (record_at F k)
    ∙ ap (λ (n : ℕ). with_given (windows_after 0 [] (take k (records F))) (window_given n (record_at F k))) (zero-add (clauses_in (take k (records F))))

-- A window sets the flag of its clause.
flag_set : ℕ → Option Window → List ℕ → List ℕ
flag_set day none L = L
flag_set day (some w) L = set L w.clause (day_flag day w.first w.last)

record_sets : (day n : ℕ) (r : Record) (L : List ℕ) → with_record day n r L ≡ flag_set day (window_given n r) L
unfolding with_record flag_set
record_sets day n r L = try r.days (eqb r.kind 8) refl (eqb r.kind 4) refl
  where
    try : (d : Option (ℕ × ℕ)) (a : Bool) → eqb r.kind 8 ≡ a → (b : Bool) → eqb r.kind 4 ≡ b → with_flag_of_days day n r d L ≡ flag_set day (given_by n r d) L
    try none true p b q = rw p refl
    try none false p b q = rw p refl
    try (some d) a p true q = rw q refl
    try (some d) a p false q = rw q refl

-- A record keeps how many flags there are, and so do all.
set_length : (day : ℕ) (o : Option Window) (L : List ℕ) → length (flag_set day o L) ≡ length L
unfolding flag_set
set_length day none L = refl
set_length day (some w) L = length-set L w.clause (day_flag day w.first w.last)

record_length_lem : (day n : ℕ) (r : Record) (L : List ℕ) → length (with_record day n r L) ≡ length L
record_length_lem day n r L = ap length (record_sets day n r L) ∙ set_length day (window_given n r) L

after_length : (day : ℕ) (F : File) (k : ℕ) (L : List ℕ) → length (flags_after day F k L) ≡ length L
after_length day F zero L = refl
after_length day F (suc k) L = record_length_lem day (clauses_in (take k (records F))) (record_at F k) (flags_after day F k L) ∙ after_length day F k L

-- Where the flag of clause n says whether it is in force by the windows, it does so after one window more.
set_flag : (day : ℕ) (o : Option Window) (L : List ℕ) (ws : List Window) (n : ℕ) → n < length L → get_or L n 0 ≡ pick (in_force ws day n) 1 0
    → get_or (flag_set day o L) n 0 ≡ pick (in_force (with_given ws o) day n) 1 0
unfolding flag_set
set_flag day none L ws n l h = h
set_flag day (some w) L ws n l h = dated (eqb w.clause n) refl
  where
    -- A window sets the flag of its own clause, and no other.
    dated : (b : Bool) → eqb w.clause n ≡ b → get_or (set L w.clause (day_flag day w.first w.last)) n 0 ≡ pick (within day (pick b (some w) (window_of ws n))) 1 0
    dated true q = ap (λ (i : ℕ). get_or (set L i (day_flag day w.first w.last)) n 0) (equal w.clause n q) ∙ get_or-set_same L n (day_flag day w.first w.last) 0 l
    dated false q = get_or-set_other L w.clause n (day_flag day w.first w.last) 0 (λ e. unequal w.clause n q (sym e)) ∙ h

-- So the flags after k records go by the windows that these leave.
dated_up_to : (day size : ℕ) (F : File) (n : ℕ) → n < size → (k : ℕ) → k ≤ record_count F
    → get_or (flags_after day F k (replicate size 1)) n 0 ≡ pick (in_force (windows_after 0 [] (take k (records F))) day n) 1 0
dated_up_to day size F n l zero m = get_or-replicate size n 1 0 l
dated_up_to day size F n l (suc k) m =
    let long = after_length day F k (replicate size 1) ∙ length-replicate size 1 in
    let c = clauses_in (take k (records F)) in
    ap (λ (x : List ℕ). get_or x n 0) (record_sets day c (record_at F k) (flags_after day F k (replicate size 1)))
    ∙ set_flag day (window_given c (record_at F k)) (flags_after day F k (replicate size 1)) (windows_after 0 [] (take k (records F))) n (omega arith)
    (dated_up_to day size F n l k (omega arith))
    ∙ ap (λ (ws : List Window). pick (in_force ws day n) 1 0) (sym (windows_up_to F k m))

-- For any number of flags; the program has 4096.
dated_any : (day size : ℕ) (F : File) (n : ℕ) → n < size
    → get_or (flags_after day F (record_count F) (replicate size 1)) n 0 ≡ pick (in_force (windows_after 0 [] (records F)) day n) 1 0
dated_any day size F n l =
    let c = records_length F in
    let e : take (record_count F) (records F) ≡ records F = rw (← c) (take-length (records F)) in
    dated_up_to day size F n l (record_count F) (omega arith) ∙ ap (λ (rs : List Record). pick (in_force (windows_after 0 [] rs) day n) 1 0) e

-- After all records the flag of a clause says whether it is in force by the windows of the file.
pub dated_flag : (day : ℕ) (F : File) (n : ℕ) → n < 4096
    → get_or (flags_after day F (record_count F) (replicate 4096 1)) n 0 ≡ pick (in_force (windows_after 0 [] (records F)) day n) 1 0
dated_flag day F n l = dated_any day 4096 F n l

-- ── The flags of derived clauses ──

module _ (O L : List ℕ) where
  derived_length : (c : ℕ) → length (derived_flags O c L) ≡ length L
  unfolding with_flag
  derived_length zero = refl
  derived_length (suc c) = length-set (derived_flags O c L) c (flag_from O c (derived_flags O c L)) ∙ derived_length c

  -- A clause that is not reached yet keeps its flag.
  pub derived_past : (c i : ℕ) → c ≤ i → get_or (derived_flags O c L) i 0 ≡ get_or L i 0
  unfolding with_flag
  derived_past zero i l = refl
  derived_past (suc c) i l =
      get_or-set_other (derived_flags O c L) c i (flag_from O c (derived_flags O c L)) 0 (λ e. omega arith) ∙ derived_past c i (omega arith)

  -- A clause that is behind keeps its flag too.
  pub derived_kept : (p c count : ℕ) → p < c → c ≤ count → get_or (derived_flags O c L) p 0 ≡ get_or (derived_flags O count L) p 0
  unfolding with_flag
  derived_kept p c zero l m = absurd (omega arith)
  derived_kept p c (suc count) l m = try (eqb c (suc count)) refl (λ k. derived_kept p c count l k)
    where
      try : (b : Bool) → eqb c (suc count) ≡ b → (c ≤ count → get_or (derived_flags O c L) p 0 ≡ get_or (derived_flags O count L) p 0)
          → get_or (derived_flags O c L) p 0 ≡ get_or (set (derived_flags O count L) count (flag_from O count (derived_flags O count L))) p 0
      try true q ih = ap (λ (i : ℕ). get_or (derived_flags O i L) p 0) (equal c (suc count) q)
      try false q ih =
          let d = unequal c (suc count) q in
          let k : c ≤ count = omega arith in
          ih k ∙ sym (get_or-set_other (derived_flags O count L) count p (flag_from O count (derived_flags O count L)) 0 (λ e. omega arith))

  -- The flag of each clause is the one that is taken from the flags before it.
  pub derived_flag : (c count : ℕ) → c < count → count ≤ length L → get_or (derived_flags O count L) c 0 ≡ flag_from O c (derived_flags O c L)
  unfolding with_flag
  derived_flag c count l m =
      let long = derived_length c in
      sym (derived_kept c (suc c) count (omega arith) l) ∙ get_or-set_same (derived_flags O c L) c (flag_from O c (derived_flags O c L)) 0 (omega arith)

-- ── The three origins of a clause ──

module _ (O : List ℕ) (c : ℕ) (L : List ℕ) where
  from_input : origin_code O c ≡ 1 → flag_from O c L ≡ get_or L c 0
  unfolding flag_from
  from_input e = rw e refl

  from_factor : origin_code O c ≡ 2 → flag_from O c L ≡ get_or L (part O c 0) 0
  unfolding flag_from
  from_factor e = rw e refl

  from_resolve : (m : ℕ) → origin_code O c ≡ 2 + m → 1 ≤ m
      → flag_from O c L ≡ pick (eqb (get_or L (part O c 0) 0) 1) (get_or L (part O c 2) 0) 0
  unfolding flag_from
  from_resolve m e l = rw (not_true (eqb (origin_code O c) 1) one, not_true (eqb (origin_code O c) 2) two) refl
    where
      one : eqb (origin_code O c) 1 ≡ true → ⊥
      one q = let z = equal (origin_code O c) 1 q in omega arith

      two : eqb (origin_code O c) 2 ≡ true → ⊥
      two q = let z = equal (origin_code O c) 2 q in omega arith

-- Two flags, one after the other, are both.
both_flags : (a b : Bool) → ◌≡◌ {A = ℕ} (pick (eqb (pick a 1 0) 1) (pick b 1 0) 0) (pick (a && b) 1 0)
both_flags true b = refl
both_flags false b = refl

-- All uses of two lists are in force where those of each are.
pub all_joined : (ws : List Window) (day : ℕ) (us vs : List Use) → all_in_force ws day (us ++ vs) ≡ (all_in_force ws day us && all_in_force ws day vs)
all_joined ws day [] vs = refl
all_joined ws day (u ∷ us) vs =
    ap (λ (b : Bool). in_force ws day u.0 && b) (all_joined ws day us vs)
    ∙ sym (and_assoc (in_force ws day u.0) (all_in_force ws day us) (all_in_force ws day vs))

-- Where the flags before say which input clauses are in force, those after say of which clauses all uses are.
module _ (O C B L : List ℕ) (ws : List Window) (day count : ℕ) (fits : count ≤ length L)
    (own : (n : ℕ) → n < count → get_or L n 0 ≡ pick (in_force ws day n) 1 0) where
  abbrev Flagged : ℕ → Derivation → Type 0
  Flagged n d = get_or (derived_flags O count L) n 0 ≡ pick (all_in_force ws day (uses d)) 1 0

  -- A parent's flag, as it is when its child's is taken.
  parent_flag : (p n : ℕ) (d : Derivation) → p < n → n < count → Flagged p d
      → get_or (derived_flags O n L) p 0 ≡ pick (all_in_force ws day (uses d)) 1 0
  parent_flag p n d l m h = derived_kept O L p n count l (omega arith) ∙ h

  stored_flag : {n : ℕ} {d : Derivation} → Stored O C B n d → n < count → Flagged n d
  stored_flag (stored_input {c = n} e ls cells) l =
      derived_flag O L n count l fits ∙ from_input O n (derived_flags O n L) e ∙ derived_past O L n n (omega arith) ∙ own n l
      ∙ ap (λ (b : Bool). pick b 1 0) (sym (and-true (in_force ws day n)))
  stored_flag (stored_resolve {c = n} {ns = ns} {l = x} {r = y} e least most pl p a ql q rest cells) l =
      derived_flag O L n count l fits ∙ from_resolve O n (derived_flags O n L) (length ns) e least
      ∙ ap₂ (λ (i j : ℕ). pick (eqb i 1) j 0)
      (parent_flag (part O n 0) n x pl l (stored_flag p (omega arith)))
      (parent_flag (part O n 2) n y ql l (stored_flag q (omega arith)))
      ∙ both_flags (all_in_force ws day (uses x)) (all_in_force ws day (uses y))
      ∙ ap (λ (b : Bool). pick b 1 0) (sym (all_joined ws day (uses x) (uses y)))
  stored_flag (stored_factor {c = n} {d = x} e pl p a b cells) l =
      derived_flag O L n count l fits ∙ from_factor O n (derived_flags O n L) e
      ∙ parent_flag (part O n 0) n x pl l (stored_flag p (omega arith))

-- For any number of flags again.
clause_any : (day size : ℕ) (F : File) (S : State) → Stands F S → (O C B : List ℕ) (count : ℕ) → count ≤ size
    → (n : ℕ) (d : Derivation) → n < count → Stored O C B n d
    → get_or (flags_in_force day F O count (replicate size 1)) n 0 ≡ pick (uses_in_force S day d) 1 0
unfolding flags_in_force
clause_any day size F S st O C B count m n d l s =
    let long = after_length day F (record_count F) (replicate size 1) ∙ length-replicate size 1 in
    stored_flag O C B (flags_after day F (record_count F) (replicate size 1)) (windows_after 0 [] (records F)) day count (omega arith)
    (λ i k. dated_any day size F i (omega arith)) s l
    ∙ ap (λ (ws : List Window). pick (all_in_force ws day (uses d)) 1 0) (sym (stands_windows F S st))

-- The flag of a clause says whether its derivation counts on the day.
pub clause_flag : (day : ℕ) (F : File) (S : State) → Stands F S → (O C B : List ℕ) (count : ℕ) → count ≤ 4096
    → (n : ℕ) (d : Derivation) → n < count → Stored O C B n d
    → get_or (flags_in_force day F O count (replicate 4096 1)) n 0 ≡ pick (uses_in_force S day d) 1 0
clause_flag day F S st O C B count m n d l s = clause_any day 4096 F S st O C B count m n d l s
