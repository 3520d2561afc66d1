-- The arguments of an application, written one after another, are the text of all of them.
use mathlib.Core.Path.{◌≡◌, refl, sym, ap, ◌∙◌, subst}
use mathlib.Core.Bool.{Bool, true, false}
use mathlib.Core.List.{List, [], ◌∷◌, ◌++◌, append_assoc}
use Prim.Native.Nat.{ℕ, ◌+◌, ◌-◌, ◌≤◌, ◌<◌}
use native.Mathlib.Omega.{arith}
use lib.Dec.{eqb}
use lib.ListN.{length}
use Rattle.std.specs.Prelude.{Some, None}
use borrow.Author.Tests.{ne_eqb}
use Rattle.record.specs.Record.{pick}
use Rattle.unification.specs.Environment.{Environment}
use Rattle.unification.specs.Nodes.{is_variable, part, node_arity}
use Rattle.unification.specs.Row.{Row, Variable, argument_terms, written_out}
use Rattle.unification.specs.Term.{Term, Terms, cons, apply_all, occurrences, all_occurrences}
use Rattle.unification.specs.ValueArray.{Models}
use Rattle.following.proofs.Occurrence.{arg_good, args_eq}
use Rattle.verdict.specs.Text.{term_text, arguments_text, further_text}
use Rattle.appearance.specs.Appearance.{appearing, all_appearing}
use Rattle.numbering.specs.Numbering.{name_of, Numbered}
use Rattle.appearance.specs.Growing.{Longer}
use Rattle.numbering.specs.declared.Naming.{Naming}
use Rattle.appearance.proofs.Positions.{longer_same, longer_then, appearing_longer}
use Rattle.numbering.proofs.Keeping.{numbered_back}
use Rattle.text.specs.Buffer.{Wrote}
use Rattle.terms.specs.Writing.{mark_before, closing_text, Writable, WritingReady, WritingArgumentsReady, WritesTerm, arguments_out, WritesArguments}
use Rattle.terms.specs.declared.Written.{Written}
use Rattle.text.proofs.Positions.{kept_then, wrote_nothing, wrote_onward, wrote_then}
use Rattle.terms.proofs.TermTexts.{writable_at}

-- What is to be written where argument n is the next one.
abbrev pub text_from : (Variable → List ℕ) → ℕ → Terms Variable → List ℕ
text_from name n ts = pick (eqb n 1) (arguments_text name ts) (further_text name ts)

from_one : (name : Variable → List ℕ) (n : ℕ) (t : Term Variable) (ts : Terms Variable) → 1 ≤ n → text_from name n (cons t ts) ≡ (mark_before n ∷ []) ++ (term_text name t ++ text_from name (n + 1) ts)
from_one name n t ts low = try (eqb n 1) ∙ ap (λ (b : Bool). mark_before n ∷ (term_text name t ++ pick b (arguments_text name ts) (further_text name ts))) (sym (ne_eqb (n + 1) 1 (λ z. omega arith)))
  where
    try : (b : Bool) → pick b (arguments_text name (cons t ts)) (further_text name (cons t ts)) ≡ pick b 40 44 ∷ (term_text name t ++ further_text name ts)
    try true = refl
    try false = refl

-- After the text `before` what is left, from argument n on, makes the text of all arguments; and so do the occurrences, and the variables after those seen so far.
pub record Scanning (naming : Naming) (N : List ℕ) (top : ℕ) (A : List ℕ) (ρ : Environment) (row : ℕ → Row) (term : ℕ → Term ℕ) (σ : Variable → Term Variable) (T T' K L : List ℕ) (at r k left end n rest spare numbered : ℕ) (seen : List Variable) : Type 0 where
  pub models : Models N top A ρ
  pub sofar : List Variable
  pub later : Longer seen sofar
  pub numbers : Numbered naming N K L numbered sofar
  pub onward : all_appearing sofar (arguments_out N term σ r k rest n) ≡ all_appearing seen (arguments_out N term σ r k (node_arity N r) 1)
  pub before : (Variable → List ℕ) → List ℕ
  pub wrote : (all : List Variable) → Longer sofar all → Wrote T T' at end (before (name_of naming row all))
  pub whole : (name : Variable → List ℕ) → before name ++ text_from name n (arguments_out N term σ r k rest n) ≡ arguments_text name (arguments_out N term σ r k (node_arity N r) 1)
  pub count : left + all_occurrences (arguments_out N term σ r k rest n) ≡ spare + all_occurrences (arguments_out N term σ r k (node_arity N r) 1)

abbrev pub Scanned : Naming → List ℕ → List ℕ → List ℕ → List ℕ → List ℕ → List ℕ → List ℕ → List ℕ → List ℕ → ℕ → ℕ → ℕ → ℕ → ℕ → ℕ → ℕ → ℕ → ℕ → ℕ → Type 0
Scanned naming N A A' T T' K K' L L' count at r k left end n rest spare numbered =
    (top : ℕ) (ρ : Environment) (row : ℕ → Row) (term : ℕ → Term ℕ) (σ : Variable → Term Variable) → Writable N top A ρ row term σ (r, k) → is_variable N r ≡ false
    → (seen : List Variable) → Numbered naming N K L count seen
    → Scanning naming N top A' ρ row term σ T T' K' L' at r k left end n rest spare numbered seen

module _ (naming : Naming) (N A T K L : List ℕ) (count at r k left : ℕ) where
  pub scan_start : (rest : ℕ) → rest ≡ node_arity N r → Scanned naming N A A T T K K L L count at r k left at 1 rest left count
  scan_start rest p top ρ row term σ W v seen G =
      record {
        models = W.models;
        sofar = seen;
        later = longer_same seen;
        numbers = G;
        onward = ap (λ (m : ℕ). all_appearing seen (arguments_out N term σ r k m 1)) p;
        before = λ name. [];
        wrote = λ all H. wrote_nothing T at;
        whole = λ name. ap (λ (m : ℕ). arguments_text name (arguments_out N term σ r k m 1)) p;
        count = ap (λ (m : ℕ). left + all_occurrences (arguments_out N term σ r k m 1)) p;
      }

  module _ (A₁ T₁ K₁ L₁ : List ℕ) (end n rest spare numbered : ℕ) (S : Scanned naming N A A₁ T T₁ K K₁ L L₁ count at r k left end n rest spare numbered) where
    pub scan_end : rest ≡ 0 → (T₂ : List ℕ) (last : ℕ) → Wrote T₁ T₂ end last (closing_text n) → WritesArguments naming N A A₁ T T₂ K K₁ L L₁ count at r k left (Some (record { place = record { end = last; count = numbered }; left = spare }))
    scan_end z T₂ last v top ρ row term σ W f seen G =
        let S' = S top ρ row term σ W f seen G in
        let whole : (name : Variable → List ℕ) → S'.before name ++ closing_text n ≡ arguments_text name (arguments_out N term σ r k (node_arity N r) 1) = λ name. rw z at (S'.whole name) in
        let size : left + 0 ≡ spare + all_occurrences (arguments_out N term σ r k (node_arity N r) 1) = rw z at S'.count in
        let last-seen : S'.sofar ≡ all_appearing seen (arguments_out N term σ r k (node_arity N r) 1) = rw z at S'.onward in
        record {
          models = S'.models;
          came = (
            omega arith,
            subst (Numbered naming N K₁ L₁ numbered) last-seen S'.numbers,
            λ all H. subst (λ (l : List ℕ). Wrote T T₂ at last l) (whole (name_of naming row all))
                (wrote_then T T₁ T₂ at end last (S'.before (name_of naming row all)) (closing_text n) (S'.wrote all (subst (λ (xs : List Variable). Longer xs all) (sym last-seen) H)) v),
          );
        }

    -- The argument at hand, with its mark before it.
    module _ (pos : 0 < rest) (low : 1 ≤ n) (whole-arity : n + rest ≡ node_arity N r + 1) (m : ℕ) (q : m ≡ mark_before n) (T₂ : List ℕ) (begin : ℕ) (v : Wrote T₁ T₂ end begin (m ∷ [])) (a : ℕ) (p : a ≡ part N r n) where
      module _ (top : ℕ) (ρ : Environment) (row : ℕ → Row) (term : ℕ → Term ℕ) (σ : Variable → Term Variable) (W : Writable N top A ρ row term σ (r, k)) (f : is_variable N r ≡ false) (seen : List Variable) (G : Numbered naming N K L count seen) where
        abbrev here : Scanning naming N top A₁ ρ row term σ T T₁ K₁ L₁ at r k left end n rest spare numbered seen
        here = S top ρ row term σ W f seen G

        abbrev argument : Term Variable
        argument = written_out term σ (a, k)

        abbrev further : Terms Variable
        further = arguments_out N term σ r k (rest - 1) (n + 1)

        argument_writable : Writable N top A₁ ρ row term σ (a, k)
        argument_writable = writable_at N top A A₁ ρ row term σ (r, k) (a, k) W here.models (arg_good N top r n rest pos a p k low whole-arity here.models.table W.in_step f)

        rest_out : arguments_out N term σ r k rest n ≡ cons argument further
        rest_out = ap (λ (xs : List ℕ). apply_all (λ w. σ (w, k)) (argument_terms term xs)) (args_eq N top r n rest pos a p)

        mark_written : (all : List Variable) → Longer here.sofar all → Wrote T T₂ at begin (here.before (name_of naming row all) ++ (m ∷ []))
        mark_written all H = wrote_then T T₁ T₂ at end begin (here.before (name_of naming row all)) (m ∷ []) (here.wrote all H) v

        counted : left + (occurrences argument + all_occurrences further) ≡ spare + all_occurrences (arguments_out N term σ r k (node_arity N r) 1)
        counted = sym (ap (λ (ts : Terms Variable). left + all_occurrences ts) rest_out) ∙ here.count

        joined : (name : Variable → List ℕ) → (here.before name ++ (m ∷ [])) ++ (term_text name argument ++ text_from name (n + 1) further) ≡ arguments_text name (arguments_out N term σ r k (node_arity N r) 1)
        joined name =
            let y = term_text name argument ++ text_from name (n + 1) further in
            append_assoc (here.before name) (m ∷ []) y
            ∙ ap (λ (b : ℕ). here.before name ++ ((b ∷ []) ++ y)) q
            ∙ ap (λ (l : List ℕ). here.before name ++ l) (sym (ap (text_from name n) rest_out ∙ from_one name n argument further low))
            ∙ here.whole name

      pub scan_broke : (A₂ T₃ K₂ L₂ : List ℕ) → WritesTerm naming N A₁ A₂ T₂ T₃ K₁ K₂ L₁ L₂ numbered begin (a, k) spare None → WritesArguments naming N A A₂ T T₃ K K₂ L L₂ count at r k left None
      scan_broke A₂ T₃ K₂ L₂ X top ρ row term σ W f seen G =
          let S' = S top ρ row term σ W f seen G in
          let X' = X top ρ row term σ (argument_writable top ρ row term σ W f seen G) S'.sofar S'.numbers in
          let M = mark_written top ρ row term σ W f seen G S'.sofar (longer_same S'.sofar) in
          record { models = X'.models; came = (omega (arith, counted top ρ row term σ W f seen G, X'.came.0), numbered_back naming N K L K₂ L₂ count numbered seen S'.sofar S'.later G X'.came.1, kept_then T T₂ T₃ at begin (wrote_onward M) M.kept X'.came.2) }

      pub scan_next : (A₂ T₃ K₂ L₂ : List ℕ) (w : Written) (fewer : ℕ) → rest - 1 ≡ fewer → WritesTerm naming N A₁ A₂ T₂ T₃ K₁ K₂ L₁ L₂ numbered begin (a, k) spare (Some w) → Scanned naming N A A₂ T T₃ K K₂ L L₂ count at r k left w.place.end (n + 1) fewer w.left w.place.count
      scan_next A₂ T₃ K₂ L₂ w fewer e X top ρ row term σ W f seen G =
          let S' = S top ρ row term σ W f seen G in
          let X' = X top ρ row term σ (argument_writable top ρ row term σ W f seen G) S'.sofar S'.numbers in
          let t = written_out term σ (a, k) in
          let onto = appearing_longer S'.sofar t in
          subst (λ (m : ℕ). Scanning naming N top A₂ ρ row term σ T T₃ K₂ L₂ at r k left w.place.end (n + 1) m w.left w.place.count seen) e
          (record {
            models = X'.models;
            sofar = appearing S'.sofar t;
            later = longer_then S'.later onto;
            numbers = X'.came.1;
            onward = sym (ap (all_appearing S'.sofar) (rest_out top ρ row term σ W f seen G)) ∙ S'.onward;
            before = λ name. (S'.before name ++ (m ∷ [])) ++ term_text name t;
            wrote = λ all H. wrote_then T T₂ T₃ at begin w.place.end (S'.before (name_of naming row all) ++ (m ∷ [])) (term_text (name_of naming row all) t) (mark_written top ρ row term σ W f seen G all (longer_then onto H)) (X'.came.2 all H);
            whole = λ name. append_assoc (S'.before name ++ (m ∷ [])) (term_text name t) (text_from name (n + 1) (arguments_out N term σ r k (rest - 1) (n + 1))) ∙ joined top ρ row term σ W f seen G name;
            count = omega (arith, counted top ρ row term σ W f seen G, X'.came.0);
          })

-- What writing the argument at hand asks.
pub argument_ready : {naming : Naming} {N A A₁ T T₁ K K₁ L L₁ : List ℕ} {count at r k left end n rest spare numbered : ℕ} → WritingArgumentsReady naming N A T K L count r k left → Scanned naming N A A₁ T T₁ K K₁ L L₁ count at r k left end n rest spare numbered → 0 < rest → 1 ≤ n → n + rest ≡ node_arity N r + 1
    → numbered + spare ≤ count + left → (T₂ : List ℕ) → length T₂ ≡ 131072 → (a : ℕ) → a ≡ part N r n → WritingReady naming N A₁ T₂ K₁ L₁ numbered (a, k) spare
argument_ready {N = N} {A} {A₁} {r = r} {k} {n = n} {rest} R S pos low all few T₂ q a p =
    let W = R.whole in
    let S' = S W.top W.environment W.row W.term W.value W.writable R.application W.seen W.numbered in
    record {
      sized = record { nodes = W.sized.nodes; values = S'.models.room; text = q };
      top = W.top;
      environment = W.environment;
      row = W.row;
      term = W.term;
      value = W.value;
      writable = writable_at N W.top A A₁ W.environment W.row W.term W.value (r, k) (a, k) W.writable S'.models (arg_good N W.top r n rest pos a p k low all S'.models.table W.writable.in_step R.application);
      seen = S'.sofar;
      numbered = S'.numbers;
      room = omega (arith, few, W.room);
    }
