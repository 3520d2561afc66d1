-- A term that the program writes out, step by step, is the term's text.
use mathlib.Core.Path.{◌≡◌, refl, sym, ap, ◌∙◌, subst}
use mathlib.Core.Option.{Option, none, some}
use Rattle.std.specs.Prelude.{Option as Perhaps, Some, None}
use mathlib.Core.List.{List, ◌∷◌, ◌++◌}
use Prim.Native.Nat.{ℕ, zero, suc, ◌+◌, ◌-◌, ◌≤◌, ◌<◌}
use native.Mathlib.Omega.{arith}
use lib.ListN.{length}
use Rattle.unification.specs.Environment.{follow, Environment, unbound, link, View, applied, view_variable, view_row, onward}
use Rattle.unification.specs.Nodes.{part, node_arity, HasRow, node_row}
use Rattle.unification.specs.Row.{variable, Row, application, Expression, Variable as Var, written_out}
use Rattle.unification.specs.Term.{Term, var, app, occurrences, all_occurrences}
use Rattle.unification.specs.Unification.{most_links}
use Rattle.unification.specs.ValueArray.{InStep, Models}
use Rattle.following.specs.Walks.{view_of, Followable, Walked, Follows}
use Rattle.following.proofs.Halving.{walked_app, walked_var}
use Rattle.unification.proofs.Meaning.{written_view, expression_of, Ended, written_follow, follow_ends}
use Rattle.following.specs.declared.follow.Followed.{Followed}
use Rattle.following.specs.declared.follow.Followed.TheVariants.{Variable, Application}
use Rattle.verdict.specs.Text.{decimal, variable_number, term_text, arguments_text}
use Rattle.appearance.specs.Appearance.{appearing, all_appearing}
use Rattle.numbering.specs.Numbering.{name_of}
use Rattle.numbering.specs.declared.Naming.{Naming}
use Rattle.names.specs.Names.{NameReady, WritesName}
use Rattle.names.specs.declared.Place.{Place}
use Rattle.text.specs.Buffer.{Wrote}
use Rattle.terms.specs.Writing.{Writable, WritingReady, WritingArgumentsReady, Came, Writing, WritesTerm, arguments_out, WritesArguments, FewerOccurrencesLeft, NoMoreOccurrencesLeft}
use Rattle.terms.specs.declared.Written.{Written}
use Rattle.text.proofs.Positions.{kept_same, kept_then, wrote_onward, wrote_then}

-- Following sees the node table as it sees the rows.
module _ (N : List ℕ) (top : ℕ) (ρ : Environment) (row : ℕ → Row) (kept : (e d : Expression) → ρ e ≡ some d → InStep N top e → InStep N top d) (rows : (r : ℕ) → HasRow N r → node_row N r ≡ row r) where
  kept_variable : (v : ℕ) (e : Expression) → InStep N top e → (o : Option Expression) → ρ e ≡ o → InStep N top (expression_of (view_variable o v e))
  kept_variable v e g none q = g
  kept_variable v e g (some d) q = kept e d q g

  kept_view : (e : Expression) → InStep N top e → (w : Row) → InStep N top (expression_of (view_row w ρ e))
  kept_view e g (variable v) = kept_variable v e g (ρ e) refl
  kept_view e g (application s xs) = g

  follow_rows : (n : ℕ) (e : Expression) → InStep N top e → follow row n ρ e ≡ follow (node_row N) n ρ e
  follow_rows zero e g = ap (λ w. view_row w ρ e) (sym (rows e.0 g.row))
  follow_rows (suc n) e g = further (λ d h. follow_rows n d h) (view_row (row e.0) ρ e) (kept_view e g (row e.0)) ∙ ap (λ w. onward (λ d. follow (node_row N) n ρ d) (view_row w ρ e)) (sym (rows e.0 g.row))
    where
      further : ((d : Expression) → InStep N top d → follow row n ρ d ≡ follow (node_row N) n ρ d) → (w : View) → InStep N top (expression_of w) → onward (λ d. follow row n ρ d) w ≡ onward (λ d. follow (node_row N) n ρ d) w
      further ih (unbound v d) h = refl
      further ih (applied s xs d) h = refl
      further ih (link d) h = ih d h

-- What an expression is written out as, by where following ended.
module _ (N : List ℕ) (top : ℕ) (A A' : List ℕ) (ρ : Environment) (row : ℕ → Row) (term : ℕ → Term ℕ) (σ : Var → Term Var) (e : Expression) (W : Writable N top A ρ row term σ e) where
  seen_rows : (x : Followed) → Walked N top A' ρ e x → follow row most_links ρ e ≡ view_of N x
  seen_rows x K = follow_rows N top ρ row W.models.kept W.rows most_links e W.in_step ∙ K.seen

  written_at : (x : Followed) → Walked N top A' ρ e x → written_out term σ e ≡ written_view term σ (view_of N x)
  written_at x K = written_follow row term W.terms σ most_links ρ W.values.bound e ∙ ap (written_view term σ) (seen_rows x K)

  ended_at : (x : Followed) → Walked N top A' ρ e x → Ended row ρ (view_of N x)
  ended_at x K = subst (Ended row ρ) (seen_rows x K) (follow_ends row most_links ρ e)

  pub written_variable : (r k : ℕ) → Walked N top A' ρ e (Variable r k) → (written_out term σ e ≡ var (r, k)) × (variable_number (row r) ≡ part N r 0)
  written_variable r k K = let h = ended_at (Variable r k) K in (written_at (Variable r k) K ∙ W.values.unbound (r, k) h.1, ap variable_number h.0)

  pub written_application : (r k : ℕ) → Walked N top A' ρ e (Application r k) → written_out term σ e ≡ app (part N r 0) (arguments_out N term σ r k (node_arity N r) 1)
  written_application r k K = written_at (Application r k) K

-- The same, at an expression that was come to since.
pub writable_at : (N : List ℕ) (top : ℕ) (A A' : List ℕ) (ρ : Environment) (row : ℕ → Row) (term : ℕ → Term ℕ) (σ : Var → Term Var) (e d : Expression) → Writable N top A ρ row term σ e → Models N top A' ρ → InStep N top d → Writable N top A' ρ row term σ d
writable_at N top A A' ρ row term σ e d W M g = record { models = M; in_step = g; rows = W.rows; terms = W.terms; values = W.values }

some_occurrence : (t : Term Var) → 0 < occurrences t
some_occurrence (var x) = omega arith
some_occurrence (app s ts) = omega arith

pub leaves_less : (left l count : ℕ) (w : Perhaps Written) → l < left → NoMoreOccurrencesLeft l count w → FewerOccurrencesLeft left count w
leaves_less left l count (Some w) h k = (omega (arith, k.0), omega (arith, k.1))
leaves_less left l count None h k = tt

-- An application is written by its symbol and then its arguments.
came_application : (naming : Naming) (N : List ℕ) (row : ℕ → Row) (T T₁ T₂ K L : List ℕ) (count at next left : ℕ) (x : List ℕ) (y : (Var → List ℕ) → List ℕ) (size : ℕ) (seen after : List Var) (w : Perhaps Written) → (left ≡ 0 → ⊥) → Wrote T T₁ at next x
    → Came naming N row T₁ T₂ K L count next (left - 1) y size seen after w → Came naming N row T T₂ K L count at left (λ name. x ++ y name) (suc size) seen after w
came_application naming N row T T₁ T₂ K L count at next left x y size seen after (Some w) nz v g = (omega (arith, g.0), g.1, λ all W. wrote_then T T₁ T₂ at next w.place.end x (y (name_of naming row all)) v (g.2 all W))
came_application naming N row T T₁ T₂ K L count at next left x y size seen after None nz v g = (omega (arith, g.0), g.1, kept_then T T₁ T₂ at next (wrote_onward v) v.kept g.2)

-- The ways out of writing a term.
module _ (naming : Naming) (N A T K L : List ℕ) (count at : ℕ) (e : Expression) (left : ℕ) where
  pub term_too_many : left ≡ 0 → WritesTerm naming N A A T T K K L L count at e left None
  term_too_many z top ρ row term σ W seen G = record { models = W.models; came = (omega (arith, some_occurrence (written_out term σ e)), G, kept_same T at) }

  module _ (nz : left ≡ 0 → ⊥) (A' : List ℕ) (f : Followed) (F : Follows N A A' e f) where
    pub term_variable : (r k : ℕ) → f ≡ Variable r k → (T' K' L' : List ℕ) (p : Place) → WritesName naming N T T' at K K' L L' count (r, k) p → WritesTerm naming N A A' T T' K K' L L' count at e left (Some (record { place = p; left = left - 1 }))
    term_variable r k q T' K' L' p named top ρ row term σ W seen G =
        let X : Walked N top A' ρ e (Variable r k) = subst (Walked N top A' ρ e) q (F top ρ W.models W.in_step) in
        let z = written_variable N top A A' ρ row term σ e W r k X in
        subst (λ (t : Term Var). Writing naming N top A' ρ row T T' K' L' count at left (λ name. term_text name t) (occurrences t) seen (appearing seen t) (Some (record { place = p; left = left - 1 }))) (sym z.0)
        (record { models = X.models; came = (omega arith, named.numbered seen G, λ all H. named.wrote row z.1 seen G all H) })

    pub term_application : (r k : ℕ) → f ≡ Application r k → (symbol : ℕ) → symbol ≡ part N r 0 → (T₁ : List ℕ) (next : ℕ) → Wrote T T₁ at next (115 ∷ decimal symbol)
        → (A'' T₂ K' L' : List ℕ) (w : Perhaps Written) → WritesArguments naming N A' A'' T₁ T₂ K K' L L' count next r k (left - 1) w → WritesTerm naming N A A'' T T₂ K K' L L' count at e left w
    term_application r k q symbol p T₁ next v A'' T₂ K' L' w H top ρ row term σ W seen G =
        let X : Walked N top A' ρ e (Application r k) = subst (Walked N top A' ρ e) q (F top ρ W.models W.in_step) in
        let z = written_application N top A A' ρ row term σ e W r k X in
        let ts = arguments_out N term σ r k (node_arity N r) 1 in
        let R = H top ρ row term σ (writable_at N top A A' ρ row term σ e (r, k) W X.models X.good) (walked_app N top A' ρ e r k X) seen G in
        let symbol-text : Wrote T T₁ at next (115 ∷ decimal (part N r 0)) = subst (λ (m : ℕ). Wrote T T₁ at next (115 ∷ decimal m)) p v in
        subst (λ (t : Term Var). Writing naming N top A'' ρ row T T₂ K' L' count at left (λ name. term_text name t) (occurrences t) seen (appearing seen t) w) (sym z)
        (record { models = R.models; came = came_application naming N row T T₁ T₂ K' L' count at next left (115 ∷ decimal (part N r 0)) (λ name. arguments_text name ts) (all_occurrences ts) seen (all_appearing seen ts) w nz symbol-text R.came })

-- What a call asks, from what the caller was asked and what the calls before it ensured.
pub followable : {naming : Naming} {N A T K L : List ℕ} {count : ℕ} {e : Expression} {left : ℕ} → WritingReady naming N A T K L count e left → Followable N A e
followable R = record { nodes = R.sized.nodes; top = R.top; environment = R.environment; models = R.writable.models; in_step = R.writable.in_step }

pub ready_then : {naming : Naming} {N A T K L : List ℕ} {count : ℕ} {e : Expression} {left : ℕ} → WritingReady naming N A T K L count e left → (T' : List ℕ) → length T' ≡ length T → WritingReady naming N A T' K L count e left
ready_then R T' q =
    record { sized = record { nodes = R.sized.nodes; values = R.sized.values; text = q ∙ R.sized.text }; top = R.top; environment = R.environment; row = R.row; term = R.term; value = R.value; writable = R.writable; seen = R.seen; numbered = R.numbered; room = R.room }

pub name_ready : {naming : Naming} {N A T K L : List ℕ} {count : ℕ} {e : Expression} {left : ℕ} → WritingReady naming N A T K L count e left → (left ≡ 0 → ⊥) → (A' : List ℕ) (f : Followed) → Follows N A A' e f → (r k : ℕ) → f ≡ Variable r k → NameReady naming N K L count (r, k)
name_ready {N = N} {A} {e = e} {left} R nz A' f F r k p =
    let X : Walked N R.top A' R.environment e (Variable r k) = subst (Walked N R.top A' R.environment e) p (F R.top R.environment R.writable.models R.writable.in_step) in
    record {
      table = R.writable.models.table;
      numberable = record { row = X.good.row; variable = (walked_var N R.top A' R.environment e r k X).0; index = omega (arith, X.good.high, R.writable.models.fits) };
      seen = R.seen;
      numbered = R.numbered;
      room = positive left nz R.room;
    }
  where
    positive : (l : ℕ) {c : ℕ} → (l ≡ 0 → ⊥) → c + l ≤ 8192 → c < 8192
    positive zero h k = absurd (h refl)
    positive (suc l) h k = omega arith

pub arguments_ready : {naming : Naming} {N A T K L : List ℕ} {count : ℕ} {e : Expression} {left : ℕ} → WritingReady naming N A T K L count e left → (A' T' : List ℕ) → length T' ≡ length T → (f : Followed) → Follows N A A' e f → (r k : ℕ) → f ≡ Application r k → WritingArgumentsReady naming N A' T' K L count r k (left - 1)
arguments_ready {N = N} {A} {e = e} R A' T' q f F r k p =
    let X : Walked N R.top A' R.environment e (Application r k) = subst (Walked N R.top A' R.environment e) p (F R.top R.environment R.writable.models R.writable.in_step) in
    record {
      whole = record {
        sized = record { nodes = R.sized.nodes; values = X.models.room; text = q ∙ R.sized.text };
        top = R.top;
        environment = R.environment;
        row = R.row;
        term = R.term;
        value = R.value;
        writable = writable_at N R.top A A' R.environment R.row R.term R.value e (r, k) R.writable X.models X.good;
        seen = R.seen;
        numbered = R.numbered;
        room = omega (arith, R.room);
      };
      application = walked_app N R.top A' R.environment e r k X;
    }
