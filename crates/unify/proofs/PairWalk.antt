-- The program's walk over pairs and the machine's come to the same.
use mathlib.Core.Path.{◌≡◌, refl, sym, ap, ap₂, ◌∙◌, subst}
use mathlib.Core.Bool.{Bool, true, false}
use mathlib.Core.Option.{none}
use mathlib.Core.List.{List, [], ◌∷◌}
use Prim.Native.Nat.{ℕ, suc, ◌+◌, ◌-◌, ◌%◌, ◌≤◌, ◌<◌}
use native.Mathlib.Omega.{arith}
use lib.Dec.{leb}
use lib.ListN.{length}
use native.Mathlib.Numerals.{add-one}
use borrow.Author.Tests.{ne_eqb, le-leb, lt-leb}
use Rattle.record.specs.Record.{pick}
use Rattle.unification.specs.Bindings.{push, Added}
use Rattle.unification.specs.Environment.{Binding, Environment, extend, unbound, applied}
use Rattle.unification.specs.Nodes.{is_variable, part, node_arity, HasRow, arguments_from, node_row, node_row_if, NodesOk}
use Rattle.unification.specs.Row.{Expression, same}
use Rattle.unification.specs.Unification.{most_links, clash, overwork, Outcome, unified, failed, unifying, testing, go_on, no_room, with_work, run}
use Rattle.unify.specs.Pairs.{Answer, done, LessWorkLeft, NoMoreWorkLeft, Filed, bindings_onto, outcome_onto, Stand, StepReady, Stands, PairReady, BindReady, ArgumentsReady, Settled, is_application, is_other, Alike, Pairing, Paired, Bound, Argued, Meets, same_variable, left_to_variable, left_to_application, right_variable, same_application, other_symbol, no_arguments, some_arguments, Matching, Matched, ArguedBefore}
use Rattle.unification.specs.ValueArray.{slot, put, InStep, Models}
use Rattle.following.specs.Walks.{failure_of, view_of, end_of, Followable, Walked, Follows, absent, broken, then_run, PairRuns, ArgumentsRun, Looking, Looked}
use Rattle.unify.proofs.BindingsAdded.{added_then, added_below, onto_none, onto_then, onto_push, length_push}
use Rattle.unification.proofs.Chains.{Short, short_le, Firm, short_with}
use Rattle.following.proofs.Halving.{EndsAt, walked_app, walked_var, walked_ends}
use Rattle.unification.proofs.Limits.{links_8192, bindings_8192}
use Rattle.following.proofs.Machine.{MeetRuns, pair_turn, pair_spent, pair_same, pair_args, pair_clash, meet_left, pair_right, arguments_none, arguments_next, arguments_failed}
use Rattle.unification.proofs.Meaning.{with}
use Rattle.following.proofs.Occurrence.{suc_pred, arg_good, args_eq}
use Rattle.unification.proofs.Tests.{same_eq, same_refl, true_not_false}
use Rattle.following.proofs.Writing.{models_bind}
use Rattle.following.specs.declared.follow.Followed.{Followed}
use Rattle.following.specs.declared.follow.Followed.TheVariants.{Variable, Application}
use Rattle.std.specs.Prelude.{Ok, Err}
use Rattle.following.specs.declared.failure.Failure.{Failure}
use Rattle.following.specs.declared.failure.Failure.TheVariants.{SymbolsDiffer, WorkSpent, NoRoom}
use Rattle.unify.specs.declared.Meeting.{Meeting}
use Rattle.unify.specs.declared.Meeting.TheVariants.{Bind, Nothing, Clash, Arguments}

-- A free variable x and what the other side ends on.
module _ (N : List ℕ) (top : ℕ) (A B : List ℕ) (first : ℕ) (base : Environment) (bs : List Binding) (held : ℕ) where
  pub record MetRuns (x : Expression) (y : Followed) (w : ℕ) (u : Answer) : Type 0 where
    pub ok : MeetRuns (node_row N) most_links (no_room first) base w bs (unbound (part N x.0 0) x) (view_of N y) (outcome_onto u B held bs)
    pub after : Stands N top A B first base bs held u

abbrev pub Met : List ℕ → List ℕ → List ℕ → List ℕ → List ℕ → ℕ → Expression → Followed → ℕ → Answer → Type 0
Met N A A' B B' held x y w u =
    (top first : ℕ) (base : Environment) (bs : List Binding) → Stand N top A B first base bs held → InStep N top x → is_variable N x.0 ≡ true → extend base bs x ≡ none
    → InStep N top (end_of y) → EndsAt N (extend base bs) y → MetRuns N top A' B' first base bs held x y w u

pub leaves_less : (w v : ℕ) (u : Answer) → v < w → NoMoreWorkLeft v u → LessWorkLeft w u
leaves_less w v (Ok u) p q = omega arith
leaves_less w v (Err f) p q = tt

settled_firm : (N : List ℕ) (ρ : Environment) (x d : Expression) → Settled N ρ x d → Firm (HasRow N) (node_row N) ρ x d
settled_firm N ρ x d (is_application h) = (applied (part N d.0 0) (arguments_from N d.0 (node_arity N d.0) 1) d, refl, ap (node_row_if N d.0) h, tt, λ q. q)
settled_firm N ρ x d (is_other h f n) = (unbound (part N d.0 0) d, refl, (ap (node_row_if N d.0) h, f), tt, n)

full_at : (first : ℕ) (bs : List Binding) (b : Bool) → leb 8192 (first + length bs) ≡ b → no_room first bs ≡ b
full_at first bs b h = ap (λ (m : ℕ). leb m (first + length bs)) bindings_8192 ∙ h

-- A binding is made, or refused.
module _ (N A A₁ B : List ℕ) (held : ℕ) (x : Expression) (d : Expression) (w : ℕ) where
  pub bound_failed : (f : Failure) → Looked N A A₁ x d w (Err f) → Bound N A A₁ B B held x d w (Err f)
  bound_failed f L top first base bs S gx vx gd z F =
      let L' = L top (no_room first) base bs S.models gd in
      record { tested = broken (failure_of f); ok = L'.ok d; outcome = refl; after = tt }

  pub bound_full : (l : ℕ) → Looked N A A₁ x d w (Ok l) → 8192 ≤ held → Bound N A A₁ B B held x d w (Err NoRoom)
  bound_full l L h top first base bs S gx vx gd f F =
      let L' = L top (no_room first) base bs S.models gd in
      let c = S.count in
      record { tested = absent l; ok = L'.ok d; outcome = rw (full_at first bs true (le-leb 8192 (first + length bs) (omega arith))); after = tt }

  pub bound_done : (l : ℕ) → Looked N A A₁ x d w (Ok l) → held < 8192 → (at m : ℕ) → at ≡ slot N x.0 x.1 → m ≡ (d.0 + 1) % 65536 → (A₂ B₂ : List ℕ) → A₂ ≡ put A₁ at m d.1 → B₂ ≡ push B held x.0 x.1 d.0 d.1 → Bound N A A₂ B B₂ held x d w (done l (held + 1))
  bound_done l L h at m ps pm A₂ B₂ pa pb top first base bs S gx vx gd f F =
      record { tested = absent l; ok = L'.ok d; outcome = rw (full_at first bs false (lt-leb 8192 (first + length bs) (let c = S.count in omega arith))) (ap (λ (z : List Binding). unified z l) (sym made)); after = subst (λ (z : List Binding). Stand N top A₂ B₂ first base z (held + 1)) (sym made) stands }
    where
      L' : Looking N top A₁ (no_room first) base bs x d w (Ok l)
      L' = L top (no_room first) base bs S.models gd

      made : bindings_onto B₂ held ((held + 1) - held) bs ≡ (x, d) ∷ bs
      made = ap (λ (z : List ℕ). bindings_onto z held ((held + 1) - held) bs) pb ∙ onto_push B held x.0 x.1 d.0 d.1 (let r = S.room in omega arith) bs

      more : Short (HasRow N) (node_row N) (suc held) (with (extend base bs) x d)
      more = short_with (HasRow N) (node_row N) held (extend base bs) x d f (settled_firm N (extend base bs) x d F) S.short

      cells : A₂ ≡ put A₁ (slot N x.0 x.1) (suc d.0) d.1
      cells =
          let r = S.models.table.room d.0 gd.row in
          let z : m ≡ suc d.0 = omega arith in
          pa ∙ ap₂ (λ (s n : ℕ). put A₁ s n d.1) ps z

      stands : Stand N top A₂ B₂ first base ((x, d) ∷ bs) (held + 1)
      stands = record { models = subst (λ (z : List ℕ). Models N top z (with (extend base bs) x d)) (sym cells) (models_bind N top A₁ (extend base bs) L'.models x gx vx d.0 d.1 f gd (short_le (HasRow N) (node_row N) (suc held) most_links (with (extend base bs) x d) (let l = links_8192 in omega arith) more)); count = let c = S.count in omega arith; few = omega arith; short = rw add-one more; room = rw (ap length pb ∙ length_push B held x.0 x.1 d.0 d.1) S.room }

differ : (x y : Expression) → same x y ≡ false → ¬ (x ≡ y)
differ x y p q = true_not_false (ap (same x) (sym q) ∙ same_refl x) p

-- An unbound variable on the left meets what the right side was followed to.
module _ (N A B : List ℕ) (held : ℕ) (x : Expression) (y : Followed) (w : ℕ) where
  apart : (g b : ℕ) → is_variable N x.0 ≡ true → is_variable N g ≡ false → (s : Bool) → same x (g, b) ≡ s → s ≡ false
  apart g b p q false r = refl
  apart g b p q true r = absurd (true_not_false (ap (λ (c : Expression). is_variable N c.0) (sym (same_eq x (g, b) r)) ∙ p) q)

  pub met_same : (t b : ℕ) → y ≡ Variable t b → (s : Bool) → s ≡ same x (t, b) → s ≡ true → Met N A A B B held x y w (done w held)
  met_same t b p s q h = subst (λ (z : Followed). Met N A A B B held x z w (done w held)) (sym p) met
    where
      met : Met N A A B B held x (Variable t b) w (done w held)
      met top first base bs S gx vx fx gy ey =
          record { ok = λ ps. ap (λ (c : Bool). with_work (λ s. run (node_row N) most_links (no_room first) base w s) (suc w) (pick c (go_on (unifying bs ps)) (go_on (testing bs x (t, b) (t, b) [] ps)))) (sym q ∙ h) ∙ ap (λ (l : List Binding). run (node_row N) most_links (no_room first) base w (unifying l ps)) (sym (onto_none B held bs)); after = subst (λ (z : List Binding). Stand N top A B first base z held) (sym (onto_none B held bs)) S }

  module _ (A' B' : List ℕ) (u : Answer) where
    pub met_other : (t b : ℕ) → y ≡ Variable t b → (s : Bool) → s ≡ same x (t, b) → s ≡ false → Bound N A A' B B' held x (t, b) w u → Met N A A' B B' held x y w u
    met_other t b p s q h K = subst (λ (z : Followed). Met N A A' B B' held x z w u) (sym p) met
      where
        met : Met N A A' B B' held x (Variable t b) w u
        met top first base bs S gx vx fx gy ey =
            let k = K top first base bs S gx vx gy fx (is_other ey.0 ey.1 (λ z. differ x (t, b) (sym q ∙ h) (sym z))) in
            record { ok = λ ps. meet_left (node_row N) most_links (no_room first) base w bs (part N x.0 0) x (unbound (part N t 0) (t, b)) tt (sym q ∙ h) k.tested k.ok ps ∙ ap (λ (r : Outcome). then_run (node_row N) most_links (no_room first) base r ps) k.outcome; after = k.after }

    pub met_application : (g b : ℕ) → y ≡ Application g b → Bound N A A' B B' held x (g, b) w u → Met N A A' B B' held x y w u
    met_application g b p K = subst (λ (z : Followed). Met N A A' B B' held x z w u) (sym p) met
      where
        met : Met N A A' B B' held x (Application g b) w u
        met top first base bs S gx vx fx gy ey =
            let k = K top first base bs S gx vx gy fx (is_application ey) in
            record { ok = λ ps. meet_left (node_row N) most_links (no_room first) base w bs (part N x.0 0) x (view_of N (Application g b)) tt (apart g b vx ey (same x (g, b)) refl) k.tested k.ok ps ∙ ap (λ (r : Outcome). then_run (node_row N) most_links (no_room first) base r ps) k.outcome; after = k.after }

module _ (N A B : List ℕ) (held : ℕ) (e d : Expression) (w : ℕ) where
  pub paired_spent : w ≡ 0 → Paired N A A B B held e d w (Err WorkSpent)
  paired_spent z top first base bs S ge gd = record { ok = subst (λ (n : ℕ). PairRuns (node_row N) most_links (no_room first) base n bs e d (failed overwork)) (sym z) (pair_spent (node_row N) most_links (no_room first) base bs e d); after = tt }

  module _ (A₁ A₂ : List ℕ) (nz : w ≡ 0 → ⊥) (f g : Followed) (W₁ : Follows N A A₁ e f) (W₂ : Follows N A₁ A₂ d g) where
    -- Both sides are followed.
    module _ (f' g' : Followed) (pf : f ≡ f') (pg : g ≡ g') (top first : ℕ) (base : Environment) (bs : List Binding) (S : Stand N top A B first base bs held) (ge : InStep N top e) (gd : InStep N top d) where
      X : Walked N top A₁ (extend base bs) e f'
      X = subst (Walked N top A₁ (extend base bs) e) pf (W₁ top (extend base bs) S.models ge)

      Y : Walked N top A₂ (extend base bs) d g'
      Y = subst (Walked N top A₂ (extend base bs) d) pg (W₂ top (extend base bs) X.models gd)

      S₂ : Stand N top A₂ B first base bs held
      S₂ = record { models = Y.models; count = S.count; few = S.few; short = S.short; room = S.room }

      at_w : (r : Outcome) → PairRuns (node_row N) most_links (no_room first) base (suc (w - 1)) bs e d r → PairRuns (node_row N) most_links (no_room first) base w bs e d r
      at_w r h = subst (λ (n : ℕ). PairRuns (node_row N) most_links (no_room first) base n bs e d r) (suc_pred w nz) h

      nothing : PairRuns (node_row N) most_links (no_room first) base (suc (w - 1)) bs e d (unified bs (w - 1)) → Pairing N top A₂ B first base bs held e d w (done (w - 1) held)
      nothing h = record { ok = at_w (unified (bindings_onto B held (held - held) bs) (w - 1)) (rw (onto_none B held bs) h); after = subst (λ (z : List Binding). Stand N top A₂ B first base z held) (sym (onto_none B held bs)) S₂ }

    pub paired_same_app : (v a t b : ℕ) → f ≡ Application v a → g ≡ Application t b → (s : Bool) → s ≡ same (v, a) (t, b) → s ≡ true → Paired N A A₂ B B held e d w (done (w - 1) held)
    paired_same_app v a t b pf pg s ps h top first base bs S ge gd =
        nothing (Application v a) (Application t b) pf pg top first base bs S ge gd
        (pair_same (node_row N) most_links (no_room first) base (w - 1) bs e d (view_of N (Application v a)) (view_of N (Application t b)) (X (Application v a) (Application t b) pf pg top first base bs S ge gd).seen (Y (Application v a) (Application t b) pf pg top first base bs S ge gd).seen tt (same_eq (v, a) (t, b) (sym ps ∙ h)) (λ ps'. rw (sym ps ∙ h)))

    module _ (A₃ B₃ : List ℕ) (u : Answer) where
      pub paired_variable : (v a : ℕ) → f ≡ Variable v a → Met N A₂ A₃ B B₃ held (v, a) g (w - 1) u → Paired N A A₃ B B₃ held e d w u
      paired_variable v a pf K top first base bs S ge gd =
          let x = X (Variable v a) g pf refl top first base bs S ge gd in
          let y = Y (Variable v a) g pf refl top first base bs S ge gd in
          let z = walked_var N top A₁ (extend base bs) e v a x in
          let k = K top first base bs (S₂ (Variable v a) g pf refl top first base bs S ge gd) x.good z.0 z.1 y.good (walked_ends N top A₂ (extend base bs) d g y) in
          record { ok = at_w (Variable v a) g pf refl top first base bs S ge gd (outcome_onto u B₃ held bs) (λ ps. pair_turn (node_row N) most_links (no_room first) base (w - 1) bs e d (unbound (part N v 0) (v, a)) (view_of N g) x.seen y.seen ps ∙ k.ok ps); after = k.after }

      pub paired_right : (v a t b : ℕ) → f ≡ Application v a → g ≡ Variable t b → Bound N A₂ A₃ B B₃ held (t, b) (v, a) (w - 1) u → Paired N A A₃ B B₃ held e d w u
      paired_right v a t b pf pg K top first base bs S ge gd =
          let x = X (Application v a) (Variable t b) pf pg top first base bs S ge gd in
          let y = Y (Application v a) (Variable t b) pf pg top first base bs S ge gd in
          let z = walked_var N top A₂ (extend base bs) d t b y in
          let k = K top first base bs (S₂ (Application v a) (Variable t b) pf pg top first base bs S ge gd) y.good z.0 x.good z.1 (is_application (walked_app N top A₁ (extend base bs) e v a x)) in
          record { ok = at_w (Application v a) (Variable t b) pf pg top first base bs S ge gd (outcome_onto u B₃ held bs) (rw k.outcome at (pair_right (node_row N) most_links (no_room first) base (w - 1) bs e d (part N v 0) (arguments_from N v (node_arity N v) 1) (v, a) (part N t 0) (t, b) x.seen y.seen k.tested k.ok)); after = k.after }

      module _ (v a t b : ℕ) (pf : f ≡ Application v a) (pg : g ≡ Application t b) (s : Bool) (ps : s ≡ same (v, a) (t, b)) (h : s ≡ false) (m n : ℕ) (pm : m ≡ part N v 0) (pn : n ≡ part N t 0) where
        pub paired_args : m ≡ n → Argued N A₂ A₃ B B₃ held v a t b (w - 1) u → Paired N A A₃ B B₃ held e d w u
        paired_args q K top first base bs S ge gd =
            let x = X (Application v a) (Application t b) pf pg top first base bs S ge gd in
            let y = Y (Application v a) (Application t b) pf pg top first base bs S ge gd in
            let one : part N t 0 ≡ part N v 0 = sym pn ∙ sym q ∙ pm in
            let k = K top first base bs (S₂ (Application v a) (Application t b) pf pg top first base bs S ge gd) (record { left = x.good; right = y.good; left_row = walked_app N top A₁ (extend base bs) e v a x; right_row = walked_app N top A₂ (extend base bs) d t b y; symbol = sym one }) in
            record { ok = at_w (Application v a) (Application t b) pf pg top first base bs S ge gd (outcome_onto u B₃ held bs) (pair_args (node_row N) most_links (no_room first) base (w - 1) bs e d (part N v 0) (arguments_from N v (node_arity N v) 1) (arguments_from N t (node_arity N t) 1) (v, a) (t, b) x.seen (y.seen ∙ ap (λ (z : ℕ). applied z (arguments_from N t (node_arity N t) 1) (t, b)) one) (sym ps ∙ h) (outcome_onto u B₃ held bs) k.ok); after = k.after }

    pub paired_clash : (v a t b : ℕ) → f ≡ Application v a → g ≡ Application t b → (s : Bool) → s ≡ same (v, a) (t, b) → s ≡ false → (m n : ℕ) → m ≡ part N v 0 → n ≡ part N t 0 → (m ≡ n → ⊥) → Paired N A A₂ B B held e d w (Err SymbolsDiffer)
    paired_clash v a t b pf pg s ps h m n pm pn q top first base bs S ge gd =
        let x = X (Application v a) (Application t b) pf pg top first base bs S ge gd in
        let y = Y (Application v a) (Application t b) pf pg top first base bs S ge gd in
        record { ok = at_w (Application v a) (Application t b) pf pg top first base bs S ge gd (failed clash) (pair_clash (node_row N) most_links (no_room first) base (w - 1) bs e d (part N v 0) (part N t 0) (arguments_from N v (node_arity N v) 1) (arguments_from N t (node_arity N t) 1) (v, a) (t, b) x.seen y.seen (sym ps ∙ h) (ne_eqb (part N v 0) (part N t 0) (λ z. q (pm ∙ z ∙ sym pn)))); after = tt }

-- The arguments, in order.
module _ (N A B : List ℕ) (held v a t b w : ℕ) where
  arities : NodesOk N → {top : ℕ} → Alike N top v a t b → node_arity N v ≡ node_arity N t
  arities T L = T.alike v t L.left.row L.right.row L.left_row L.right_row L.symbol

  pub match_start : (rest : ℕ) → rest ≡ node_arity N v → Matched N A A B B held v a t b w 1 rest w held
  match_start rest p top first base bs S L =
      record { stand = subst (λ (z : List Binding). Stand N top A B first base z held) (sym (onto_none B held bs)) S; whole = λ q h. subst (λ (z : ℕ). ArgumentsRun (node_row N) most_links (no_room first) base w bs (arguments_from N v (node_arity N v) 1) a (arguments_from N t z 1) b q) (p ∙ arities S.models.table L) (subst (λ (z : ℕ). ArgumentsRun (node_row N) most_links (no_room first) base w bs (arguments_from N v z 1) a (arguments_from N t rest 1) b q) p (subst (λ (z : List Binding). ArgumentsRun (node_row N) most_links (no_room first) base w z (arguments_from N v rest 1) a (arguments_from N t rest 1) b q) (onto_none B held bs) h)) }

  module _ (A₁ B₁ : List ℕ) (n rest left total : ℕ) (K : Matched N A A₁ B B₁ held v a t b w n rest left total) where
    pub match_end : rest ≡ 0 → Argued N A A₁ B B₁ held v a t b w (done left total)
    match_end z top first base bs S L =
        let k = K top first base bs S L in
        record { ok = k.whole (unified (bindings_onto B₁ held (total - held) bs) left) (subst (λ (m : ℕ). ArgumentsRun (node_row N) most_links (no_room first) base left (bindings_onto B₁ held (total - held) bs) (arguments_from N v m n) a (arguments_from N t m n) b (unified (bindings_onto B₁ held (total - held) bs) left)) (sym z) (arguments_none (node_row N) most_links (no_room first) base left (bindings_onto B₁ held (total - held) bs) a [] b)); after = k.stand }

    module _ (pos : 0 < rest) (low : 1 ≤ n) (all : n + rest ≡ node_arity N v + 1) (c d : ℕ) (pc : c ≡ part N v n) (pd : d ≡ part N t n) (A₂ B₂ : List ℕ) (u : Answer) (P : Paired N A₁ A₂ B₁ B₂ total (c, a) (d, b) left u) where
      module _ (top first : ℕ) (base : Environment) (bs : List Binding) (S : Stand N top A B first base bs held) (L : Alike N top v a t b) where
        here : Pairing N top A₂ B₂ first base (bindings_onto B₁ held (total - held) bs) total (c, a) (d, b) left u
        here =
            let k = K top first base bs S L in
            let T = S.models.table in
            P top first base (bindings_onto B₁ held (total - held) bs) k.stand (arg_good N top v n rest pos c pc a low all T L.left L.left_row) (arg_good N top t n rest pos d pd b low (all ∙ ap (λ (z : ℕ). z + 1) (arities T L)) T L.right L.right_row)

        ahead : (q : Outcome) → ArgumentsRun (node_row N) most_links (no_room first) base left (bindings_onto B₁ held (total - held) bs) (c ∷ arguments_from N v (rest - 1) (n + 1)) a (d ∷ arguments_from N t (rest - 1) (n + 1)) b q → ArgumentsRun (node_row N) most_links (no_room first) base w bs (arguments_from N v (node_arity N v) 1) a (arguments_from N t (node_arity N t) 1) b q
        ahead q h = (K top first base bs S L).whole q (rw (args_eq N top v n rest pos c pc, args_eq N top t n rest pos d pd) h)

      pub match_refused : (x : Failure) → u ≡ Err x → Argued N A A₂ B B₂ held v a t b w (Err x)
      match_refused x p top first base bs S L =
          record { ok = ahead top first base bs S L (failed (failure_of x)) (arguments_failed (node_row N) most_links (no_room first) base left (bindings_onto B₁ held (total - held) bs) c a d b (arguments_from N v (rest - 1) (n + 1)) (arguments_from N t (rest - 1) (n + 1)) (failure_of x) (subst (λ (z : Answer). PairRuns (node_row N) most_links (no_room first) base left (bindings_onto B₁ held (total - held) bs) (c, a) (d, b) (outcome_onto z B₂ total (bindings_onto B₁ held (total - held) bs))) p (here top first base bs S L).ok)); after = tt }

      match_on : (l h : ℕ) → u ≡ done l h → Added B B₁ held total → Added B₁ B₂ total h → Matched N A A₂ B B₂ held v a t b w (n + 1) (rest - 1) l h
      match_on l h p k₁ k₂ top first base bs S L =
          let j = onto_then bs k₁ k₂ in
          let y = here top first base bs S L in
          let o : PairRuns (node_row N) most_links (no_room first) base left (bindings_onto B₁ held (total - held) bs) (c, a) (d, b) (unified (bindings_onto B₂ held (h - held) bs) l) = subst (λ (z : List Binding). PairRuns (node_row N) most_links (no_room first) base left (bindings_onto B₁ held (total - held) bs) (c, a) (d, b) (unified z l)) j (subst (λ (z : Answer). PairRuns (node_row N) most_links (no_room first) base left (bindings_onto B₁ held (total - held) bs) (c, a) (d, b) (outcome_onto z B₂ total (bindings_onto B₁ held (total - held) bs))) p y.ok) in
          record { stand = subst (λ (z : List Binding). Stand N top A₂ B₂ first base z h) j (subst (λ (z : Answer). Stands N top A₂ B₂ first base (bindings_onto B₁ held (total - held) bs) total z) p y.after); whole = λ q g. ahead top first base bs S L q (arguments_next (node_row N) most_links (no_room first) base left (bindings_onto B₁ held (total - held) bs) c a d b (arguments_from N v (rest - 1) (n + 1)) (arguments_from N t (rest - 1) (n + 1)) (bindings_onto B₂ held (h - held) bs) l q o g) }

      pub match_next : (l h : ℕ) → u ≡ done l h → Added B B₁ held total → Added B₁ B₂ total h → (rest' : ℕ) → rest' ≡ rest - 1 → Matched N A A₂ B B₂ held v a t b w (n + 1) rest' l h
      match_next l h p k₁ k₂ rest' e = subst (λ (m : ℕ). Matched N A A₂ B B₂ held v a t b w (n + 1) m l h) (sym e) (match_on l h p k₁ k₂)

pub match_last : (N A A₁ B B₁ : List ℕ) (held v a t b w n last left total : ℕ) → last ≡ node_arity N v → n ≡ last → Matched N A A₁ B B₁ held v a t b w n (last + 1 - n) left total → Matched N A A₁ B B₁ held v a t b w (node_arity N v) 1 left total
match_last N A A₁ B B₁ held v a t b w n last left total p q K =
    let z : last + 1 - n ≡ 1 = omega arith in
    subst (λ (m : ℕ). Matched N A A₁ B B₁ held v a t b w m 1 left total) (q ∙ p) (subst (λ (m : ℕ). Matched N A A₁ B B₁ held v a t b w n m left total) z K)

pub meets_as : {N : List ℕ} {x y x' y' : Followed} {m : Meeting} → x ≡ x' → y ≡ y' → Meets N x' y' m → Meets N x y m
meets_as {N} {x} {y} {x'} {y'} {m} p q h = subst (λ (z : Followed). Meets N z y m) (sym p) (subst (λ (z : Followed). Meets N x' z m) (sym q) h)

-- The ways out of a pair whose sides were followed, by what is to be done with them.
module _ (N A B : List ℕ) (held : ℕ) (e d : Expression) (w : ℕ) (A₁ A₂ : List ℕ) (nz : w ≡ 0 → ⊥) (f g : Followed) (W₁ : Follows N A A₁ e f) (W₂ : Follows N A₁ A₂ d g) where
  pub paired_nothing : {f' g' : Followed} → Meets N f' g' Nothing → f ≡ f' → g ≡ g' → Paired N A A₂ B B held e d w (done (w - 1) held)
  paired_nothing (same_variable {v} {a} {t} {b} q) pf pg = paired_variable N A B held e d w A₁ A₂ nz f g W₁ W₂ A₂ B (done (w - 1) held) v a pf (met_same N A₂ B held (v, a) g (w - 1) t b pg true (sym q) refl)
  paired_nothing (same_application {f = v} {a} {g = t} {b} q) pf pg = paired_same_app N A B held e d w A₁ A₂ nz f g W₁ W₂ v a t b pf pg true (sym q) refl
  paired_nothing (no_arguments {f = v} {a} {g = t} {b} q s z) pf pg =
      paired_args N A B held e d w A₁ A₂ nz f g W₁ W₂ A₂ B (done (w - 1) held) v a t b pf pg false (sym q) refl (part N v 0) (part N t 0) refl refl s
      (match_end N A₂ B held v a t b (w - 1) A₂ B 1 0 (w - 1) held (match_start N A₂ B held v a t b (w - 1) 0 z) refl)

  pub paired_clashing : {f' g' : Followed} → Meets N f' g' Clash → f ≡ f' → g ≡ g' → Paired N A A₂ B B held e d w (Err SymbolsDiffer)
  paired_clashing (other_symbol {f = v} {a} {g = t} {b} q s) pf pg = paired_clash N A B held e d w A₁ A₂ nz f g W₁ W₂ v a t b pf pg false (sym q) refl (part N v 0) (part N t 0) refl refl s

  pub paired_bind : {f' g' : Followed} {v a t b : ℕ} → Meets N f' g' (Bind v a t b) → f ≡ f' → g ≡ g' → (A₃ B₃ : List ℕ) (u : Answer) → Bound N A₂ A₃ B B₃ held (v, a) (t, b) (w - 1) u → Paired N A A₃ B B₃ held e d w u
  paired_bind (left_to_variable {v} {a} {t} {b} q) pf pg A₃ B₃ u K = paired_variable N A B held e d w A₁ A₂ nz f g W₁ W₂ A₃ B₃ u v a pf (met_other N A₂ B held (v, a) g (w - 1) A₃ B₃ u t b pg false (sym q) refl K)
  paired_bind (left_to_application {v} {a} {g = t} {b}) pf pg A₃ B₃ u K = paired_variable N A B held e d w A₁ A₂ nz f g W₁ W₂ A₃ B₃ u v a pf (met_application N A₂ B held (v, a) g (w - 1) A₃ B₃ u t b pg K)
  paired_bind (right_variable {f = v} {a} {t} {b}) pf pg A₃ B₃ u K = paired_right N A B held e d w A₁ A₂ nz f g W₁ W₂ A₃ B₃ u v a t b pf pg K

  -- The arguments were refused.
  pub paired_refused : {f' g' : Followed} {v a t b : ℕ} → Meets N f' g' (Arguments v a t b) → f ≡ f' → g ≡ g' → (A₃ B₃ : List ℕ) (u : Answer) (n : Failure) → u ≡ Err n → ArguedBefore N A₂ A₃ B B₃ held v a t b (w - 1) u → Paired N A A₃ B B₃ held e d w (Err n)
  paired_refused (some_arguments {f = v} {a} {g = t} {b} q s m) pf pg A₃ B₃ u n is_refused K =
      paired_args N A B held e d w A₁ A₂ nz f g W₁ W₂ A₃ B₃ (Err n) v a t b pf pg false (sym q) refl (part N v 0) (part N t 0) refl refl s
      (subst (ArguedBefore N A₂ A₃ B B₃ held v a t b (w - 1)) is_refused K)

-- What the loop over pairs has come to: what holds of the pair at hand, with `left` work left, holds of the first.
module _ (N : List ℕ) (top : ℕ) (A B : List ℕ) (first : ℕ) (base : Environment) (bs : List Binding) (held : ℕ) where
  pub record Pursuing (e d : Expression) (w : ℕ) (c k : Expression) (left total : ℕ) : Type 0 where
    pub stand : Stand N top A B first base (bindings_onto B held (total - held) bs) total
    pub good_left : InStep N top c
    pub good_right : InStep N top k
    pub whole : (q : Outcome) → PairRuns (node_row N) most_links (no_room first) base left (bindings_onto B held (total - held) bs) c k q → PairRuns (node_row N) most_links (no_room first) base w bs e d q

abbrev pub Pursued : List ℕ → List ℕ → List ℕ → List ℕ → List ℕ → ℕ → Expression → Expression → ℕ → Expression → Expression → ℕ → ℕ → Type 0
Pursued N A A' B B' held e d w c k left total = (top first : ℕ) (base : Environment) (bs : List Binding) → Stand N top A B first base bs held → InStep N top e → InStep N top d → Pursuing N top A' B' first base bs held e d w c k left total

pub pursued_start : (N A B : List ℕ) (held : ℕ) (e d : Expression) (w : ℕ) → Pursued N A A B B held e d w e d w held
pursued_start N A B held e d w top first base bs S ge gd = record {
  stand = subst (λ (z : List Binding). Stand N top A B first base z held) (sym (onto_none B held bs)) S;
  good_left = ge;
  good_right = gd;
  whole = λ q h. subst (λ (z : List Binding). PairRuns (node_row N) most_links (no_room first) base w z e d q) (onto_none B held bs) h;
}

pub filed_then : (B B₁ B₂ : List ℕ) (held total : ℕ) (u : Answer) → Added B B₁ held total → Filed B₁ B₂ total u → Filed B B₂ held u
filed_then B B₁ B₂ held total (Ok u) k f = added_then k f
filed_then B B₁ B₂ held total (Err x) k f = added_below k f

module _ (N A A₁ B B₁ : List ℕ) (held : ℕ) (e d : Expression) (w : ℕ) (c k : Expression) (left total : ℕ) (P : Pursued N A A₁ B B₁ held e d w c k left total) (K₁ : Added B B₁ held total) where
  pub pursued_then : (A₂ B₂ : List ℕ) (u : Answer) → Paired N A₁ A₂ B₁ B₂ total c k left u → Filed B₁ B₂ total u → Paired N A A₂ B B₂ held e d w u
  pursued_then A₂ B₂ (Ok u) X K₂ top first base bs S ge gd =
      let P' = P top first base bs S ge gd in
      let X' = X top first base (bindings_onto B₁ held (total - held) bs) P'.stand P'.good_left P'.good_right in
      let j = onto_then bs K₁ K₂ in
      record {
        ok = P'.whole (unified (bindings_onto B₂ held (u.held - held) bs) u.work) (subst (λ (z : List Binding). PairRuns (node_row N) most_links (no_room first) base left (bindings_onto B₁ held (total - held) bs) c k (unified z u.work)) j X'.ok);
        after = subst (λ (z : List Binding). Stand N top A₂ B₂ first base z u.held) j X'.after;
      }
  pursued_then A₂ B₂ (Err x) X K₂ top first base bs S ge gd =
      let P' = P top first base bs S ge gd in
      let X' = X top first base (bindings_onto B₁ held (total - held) bs) P'.stand P'.good_left P'.good_right in
      record { ok = P'.whole (failed (failure_of x)) X'.ok; after = tt }

  -- The last arguments of two applications are next.
  module _ (nz : left ≡ 0 → ⊥) (A₂ A₃ : List ℕ) (f g : Followed) (W₁ : Follows N A₁ A₂ c f) (W₂ : Follows N A₂ A₃ k g) where
    pub pursued_next : {f' g' : Followed} {v a t b : ℕ} → Meets N f' g' (Arguments v a t b) → f ≡ f' → g ≡ g' → (A₄ B₄ : List ℕ) (l h : ℕ) (u : Answer) → u ≡ done l h → ArguedBefore N A₃ A₄ B₁ B₄ total v a t b (left - 1) u → Added B₁ B₄ total h
        → (p q last : ℕ) → last ≡ node_arity N v → p ≡ part N v last → q ≡ part N t last → Pursued N A A₄ B B₄ held e d w (p, a) (q, b) l h
    pursued_next (some_arguments {f = v} {a} {g = t} {b} isApart symbol any) pf pg A₄ B₄ l h u isDone K K₂ p q last is_last pp pq top first base bs S ge gd =
        record {
          stand = subst (λ (z : List Binding). Stand N top A₄ B₄ first base z h) j M.stand;
          good_left = arg_good N top v last 1 (omega arith) p pp a some (omega arith) T x.good alike.left_row;
          good_right = arg_good N top t last 1 (omega arith) q pq b some (omega (arith, T.alike v t x.good.row y.good.row alike.left_row alike.right_row symbol)) T y.good alike.right_row;
          whole = λ o r.
              P'.whole o
              (at_w N A₁ B₁ total c k left A₂ A₃ nz f g W₁ W₂ (Application v a) (Application t b) pf pg top first base bs₁ P'.stand P'.good_left P'.good_right o
              (pair_args (node_row N) most_links (no_room first) base (left - 1) bs₁ c k (part N v 0) (arguments_from N v (node_arity N v) 1) (arguments_from N t (node_arity N t) 1) (v, a) (t, b) x.seen
              (y.seen ∙ ap (λ (z : ℕ). applied z (arguments_from N t (node_arity N t) 1) (t, b)) (sym symbol)) isApart o
              (M.whole o (pairs_as o r))));
        }
      where
        some : 1 ≤ last
        some = subst (λ (n : ℕ). 1 ≤ n) (sym is_last) any

        bs₁ : List Binding
        bs₁ = bindings_onto B₁ held (total - held) bs

        P' : Pursuing N top A₁ B₁ first base bs held e d w c k left total
        P' = P top first base bs S ge gd

        x : Walked N top A₂ (extend base bs₁) c (Application v a)
        x = X N A₁ B₁ total c k left A₂ A₃ nz f g W₁ W₂ (Application v a) (Application t b) pf pg top first base bs₁ P'.stand P'.good_left P'.good_right

        y : Walked N top A₃ (extend base bs₁) k (Application t b)
        y = Y N A₁ B₁ total c k left A₂ A₃ nz f g W₁ W₂ (Application v a) (Application t b) pf pg top first base bs₁ P'.stand P'.good_left P'.good_right

        T : NodesOk N
        T = x.models.table

        alike : Alike N top v a t b
        alike = record { left = x.good; right = y.good; left_row = walked_app N top A₂ (extend base bs₁) c v a x; right_row = walked_app N top A₃ (extend base bs₁) k t b y; symbol = symbol }

        M : Matching N top A₄ B₄ first base bs₁ total v a t b (left - 1) (node_arity N v) 1 l h
        M = subst (ArguedBefore N A₃ A₄ B₁ B₄ total v a t b (left - 1)) isDone K top first base bs₁ (S₂ N A₁ B₁ total c k left A₂ A₃ nz f g W₁ W₂ (Application v a) (Application t b) pf pg top first base bs₁ P'.stand P'.good_left P'.good_right) alike

        j : bindings_onto B₄ total (h - total) bs₁ ≡ bindings_onto B₄ held (h - held) bs
        j = onto_then bs K₁ K₂

        pairs_as : (o : Outcome) → PairRuns (node_row N) most_links (no_room first) base l (bindings_onto B₄ held (h - held) bs) (p, a) (q, b) o
            → ArgumentsRun (node_row N) most_links (no_room first) base l (bindings_onto B₄ total (h - total) bs₁) (arguments_from N v 1 (node_arity N v)) a (arguments_from N t 1 (node_arity N v)) b o
        pairs_as o r =
            subst (λ (z : ℕ). PairRuns (node_row N) most_links (no_room first) base l (bindings_onto B₄ total (h - total) bs₁) (z, a) (part N t (node_arity N v), b) o) (pp ∙ ap (part N v) is_last)
            (subst (λ (z : ℕ). PairRuns (node_row N) most_links (no_room first) base l (bindings_onto B₄ total (h - total) bs₁) (p, a) (z, b) o) (pq ∙ ap (part N t) is_last)
            (subst (λ (z : List Binding). PairRuns (node_row N) most_links (no_room first) base l z (p, a) (q, b) o) (sym j) r))

-- What a call asks, from what the caller was asked and what the calls before it ensured.
pub pursued_ready : {N A A₁ B B₁ : List ℕ} {held : ℕ} {e d : Expression} {w : ℕ} {c k : Expression} {left total : ℕ} → PairReady N A B held e d → Pursued N A A₁ B B₁ held e d w c k left total → PairReady N A₁ B₁ total c k
pursued_ready {B₁ = B₁} {held} {total = total} R P =
    let s = R.step in
    let P' = P s.top s.first s.base s.bindings s.stand R.left R.right in
    record {
      step = record { nodes = s.nodes; top = s.top; first = s.first; base = s.base; bindings = bindings_onto B₁ held (total - held) s.bindings; stand = P'.stand };
      left = P'.good_left;
      right = P'.good_right;
    }

pub left_followable : {N A B : List ℕ} {held : ℕ} {e d : Expression} → PairReady N A B held e d → Followable N A e
left_followable R =
    let s = R.step in
    record { nodes = s.nodes; top = s.top; environment = extend s.base s.bindings; models = s.stand.models; in_step = R.left }

abbrev pub target_followable : {N A B : List ℕ} {held : ℕ} {x d : Expression} → BindReady N A B held x d → Followable N A d
target_followable R =
    let s = R.step in
    record { nodes = s.nodes; top = s.top; environment = extend s.base s.bindings; models = s.stand.models; in_step = R.in_step }

module _ {N A B : List ℕ} {held : ℕ} {e d : Expression} (R : PairReady N A B held e d) (A₁ : List ℕ) (f : Followed) (W₁ : Follows N A A₁ e f) where
  pub left_walked : (f' : Followed) → f ≡ f' → Walked N R.step.top A₁ (extend R.step.base R.step.bindings) e f'
  left_walked f' pf =
      let s = R.step in
      subst (Walked N s.top A₁ (extend s.base s.bindings) e) pf (W₁ s.top (extend s.base s.bindings) s.stand.models R.left)

  abbrev pub right_followable : Followable N A₁ d
  right_followable =
      let s = R.step in
      record { nodes = s.nodes; top = s.top; environment = extend s.base s.bindings; models = (left_walked f refl).models; in_step = R.right }

  module _ (A₂ : List ℕ) (g : Followed) (W₂ : Follows N A₁ A₂ d g) where
    right_walked : (g' : Followed) → g ≡ g' → Walked N R.step.top A₂ (extend R.step.base R.step.bindings) d g'
    right_walked g' pg =
        let s = R.step in
        subst (Walked N s.top A₂ (extend s.base s.bindings) d) pg (W₂ s.top (extend s.base s.bindings) (left_walked f refl).models R.right)

    abbrev still : StepReady N A₂ B held
    still =
        let s = R.step in
        let S = s.stand in
        record { nodes = s.nodes; top = s.top; first = s.first; base = s.base; bindings = s.bindings; stand = record { models = (right_walked g refl).models; count = S.count; few = S.few; short = S.short; room = S.room } }

    left_variable : (v a : ℕ) → f ≡ Variable v a → (t b : ℕ) → InStep N R.step.top (t, b) → Settled N (extend R.step.base R.step.bindings) (v, a) (t, b) → BindReady N A₂ B held (v, a) (t, b)
    left_variable v a pf t b gt settled =
        let s = R.step in
        let x = left_walked (Variable v a) pf in
        let z = walked_var N s.top A₁ (extend s.base s.bindings) e v a x in
        record { step = still; variable_in_step = x.good; variable_row = z.0; in_step = gt; free = z.1; settled = settled }

    pub bind_ready : {f' g' : Followed} {v a t b : ℕ} → Meets N f' g' (Bind v a t b) → f ≡ f' → g ≡ g' → BindReady N A₂ B held (v, a) (t, b)
    bind_ready (left_to_variable {v} {a} {t} {b} q) pf pg =
        let s = R.step in
        let y = right_walked (Variable t b) pg in
        let z = walked_var N s.top A₂ (extend s.base s.bindings) d t b y in
        left_variable v a pf t b y.good (is_other z.0 z.1 (λ h. differ (v, a) (t, b) q (sym h)))
    bind_ready (left_to_application {v} {a} {g = t} {b}) pf pg =
        let s = R.step in
        let y = right_walked (Application t b) pg in
        left_variable v a pf t b y.good (is_application (walked_app N s.top A₂ (extend s.base s.bindings) d t b y))
    bind_ready (right_variable {f = v} {a} {t} {b}) pf pg =
        let s = R.step in
        let x = left_walked (Application v a) pf in
        let y = right_walked (Variable t b) pg in
        let z = walked_var N s.top A₂ (extend s.base s.bindings) d t b y in
        record { step = still; variable_in_step = y.good; variable_row = z.0; in_step = x.good; free = z.1; settled = is_application (walked_app N s.top A₁ (extend s.base s.bindings) e v a x) }

    pub arguments_ready : {f' g' : Followed} {v a t b : ℕ} → Meets N f' g' (Arguments v a t b) → f ≡ f' → g ≡ g' → (last : ℕ) → last ≡ node_arity N v → ArgumentsReady N A₂ B held v a t b last
    arguments_ready (some_arguments {f = v} {a} {g = t} {b} q symbol any) pf pg last is_last =
        let s = R.step in
        let x = left_walked (Application v a) pf in
        let y = right_walked (Application t b) pg in
        record {
          step = still;
          alike = record { left = x.good; right = y.good; left_row = walked_app N s.top A₁ (extend s.base s.bindings) e v a x; right_row = walked_app N s.top A₂ (extend s.base s.bindings) d t b y; symbol = symbol };
          arity = is_last;
          some = subst (λ (n : ℕ). 1 ≤ n) (sym is_last) any;
        }

pub matched_ready : {N A A₁ B B₁ : List ℕ} {held v a t b last w n rest left total : ℕ} → ArgumentsReady N A B held v a t b last → Matched N A A₁ B B₁ held v a t b w n rest left total → 0 < rest → 1 ≤ n → n + rest ≡ last + 1 → (c d : ℕ) → c ≡ part N v n → d ≡ part N t n → PairReady N A₁ B₁ total (c, a) (d, b)
matched_ready {N} {B₁ = B₁} {held} {v} {a} {t} {b} {n = n} {rest} {total = total} R K pos low all c d pc pd =
    let s = R.step in
    let L = R.alike in
    let k = K s.top s.first s.base s.bindings s.stand L in
    let T = s.stand.models.table in
    let one = T.alike v t L.left.row L.right.row L.left_row L.right_row L.symbol in
    record {
      step = record { nodes = s.nodes; top = s.top; first = s.first; base = s.base; bindings = bindings_onto B₁ held (total - held) s.bindings; stand = k.stand };
      left = arg_good N s.top v n rest pos c pc a low (omega (arith, R.arity)) T L.left L.left_row;
      right = arg_good N s.top t n rest pos d pd b low (omega (arith, R.arity, one)) T L.right L.right_row;
    }
