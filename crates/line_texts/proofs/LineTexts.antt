-- The literals of a clause, written one after another between its number and a line feed, are the clause's line.
use mathlib.Core.Path.{◌≡◌, refl, sym, ap, ◌∙◌, subst}
use mathlib.Core.Bool.{Bool, true, false}
use mathlib.Core.Option.{some}
use mathlib.Core.List.{List, [], ◌∷◌, ◌++◌, append_assoc, append-nil, map}
use Prim.Native.Nat.{ℕ, zero, suc, ◌+◌, ◌*◌, ◌≤◌, ◌<◌}
use native.Mathlib.Numerals.{add-one}
use native.Mathlib.Omega.{arith}
use lib.Dec.{eqb}
use lib.ListN.{length, drop, length-append, length-map}
use Rattle.record.specs.Record.{pick, File}
use Rattle.following.specs.Clearing.{Cleared}
use Rattle.unification.specs.Environment.{Environment}
use Rattle.unification.specs.Row.{Row, Variable}
use Rattle.unification.specs.Term.{Term}
use Rattle.unification.specs.ValueArray.{InStep, Models}
use Rattle.derivation.specs.Derivation.{literals, Literal, Derivation, numbered, maximum_index, lookup}
use Rattle.loading.specs.Loaded.{Loadable, Loaded}
use Rattle.named_literals.specs.Named.{fields_of_literal, named_literal}
use Rattle.derivation.specs.Stored.{literals_cell, index_cell, Stored}
use Rattle.derivation.specs.Written.{substitution, written_literal, written}
use Rattle.named_literals.proofs.Numbers.{raise_named_zero}
use Rattle.named_literals.proofs.Origins.{stored_cells}
use Rattle.derivation.proofs.Values.{writes_out}
use Rattle.named_literals.specs.declared.NamedLiteral.{NamedLiteral}
use Rattle.std.specs.Prelude.{IsSome, Some}
use Rattle.std.specs.Prelude as std
use Rattle.verdict.specs.Refusal.{most_literals}
use Rattle.verdict.specs.State.{State, entry, derivations, clause_of, row_of, term_of}
use Rattle.verdict.specs.Tables.{Tables}
use Rattle.demands.proofs.Inversions.{not_equal}
use Rattle.demands.proofs.Reading.{term_of_row}
use Rattle.demands.proofs.Standing.{StateOk, order_of}
use Rattle.entry.specs.Progress.{ReadTo, tables_with}
use Rattle.entry.proofs.Kept.{fitting_records}
use Rattle.inference.proofs.KeptClauses as kept
use Rattle.line_texts.specs.Lines.{AllWritable, NumberedReady, LiteralsReady, WritesNumbered, WritesLiterals, LineReady, LineWritten}
use Rattle.collecting.specs.declared.literals.ListedLiteral.{ListedLiteral}
use Rattle.collecting.specs.Literals.{listed, Collectable, Collected}
use Rattle.verdict.specs.Text.{decimal, literal_text, literals_text}
use Rattle.appearance.specs.Appearance.{shown, all_shown}
use Rattle.appearance.specs.Growing.{Longer}
use Rattle.appearance.proofs.Positions.{longer_same, longer_then, shown_longer}
use Rattle.text.specs.Buffer.{Wrote}
use Rattle.numbering.specs.Numbering.{name_of, line_of, NumberRoom, Numbered}
use Rattle.numbering.specs.declared.Naming.{Naming}
use Rattle.numbering.proofs.Keeping.{numbered_none}
use Rattle.numbering.proofs.LineNames.{line_named}
use Rattle.names.specs.declared.Place.{Place}
use Rattle.terms.specs.Writing.{Sized, WritingReady}
use Rattle.literal_text.specs.Literals.{PartWritten, WritesLiteral}
use Rattle.text.proofs.Decimals.{decimal_length}
use Rattle.literal_text.proofs.LiteralTexts.{name_short, literals_text_short}
use Rattle.text.proofs.Positions.{wrote_nothing, wrote_then}

-- The literal that the program found is the one with the number.
module _ (naming : Naming) (O C N A T K L : List ℕ) (count at c n : ℕ) (r : std.Option NamedLiteral) (G : (B : List ℕ) (d : Derivation) → Stored O C B c d → r ≡ named_literal (numbered (literals d) n)) where
  found_is : {B : List ℕ} {d : Derivation} (s : Stored O C B c d) (l : Literal) → numbered (literals d) n ≡ some l → r ≡ Some (fields_of_literal l)
  found_is {B} {d} s l p = G B d s ∙ ap named_literal p

  pub literal_there : NumberedReady naming O C N A T K L count c n → IsSome r
  literal_there R = rw (found_is R.clause.stored R.literal R.is_numbered) refl

  module _ (x : NamedLiteral) (found : r ≡ Some x) where
    same_literal : {B : List ℕ} {d : Derivation} (s : Stored O C B c d) (l : Literal) → numbered (literals d) n ≡ some l → l ≡ (x.positive, (x.row, x.index))
    same_literal s l p =
        let e = found_is s l p in
        let f : fields_of_literal l ≡ x = cc in
        ap (λ (y : NamedLiteral). (y.positive, (y.row, y.index))) f

    pub numbered_found : (A' T' K' L' : List ℕ) (e : Place) → WritesLiteral naming N A A' T T' K K' L L' count at x.positive (x.row, x.index) e → WritesNumbered naming O C N A A' T T' K K' L L' count at c n e
    numbered_found A' T' K' L' e W B d s l p =
        subst (λ (x : Literal). WritesLiteral naming N A A' T T' K K' L L' count at x.0 x.1 e) (sym (same_literal s l p)) W

    pub found_ready : (R : NumberedReady naming O C N A T K L count c n) → WritingReady naming N A T K L count (x.row, x.index) 64
    found_ready R =
        subst (λ (x : Literal). WritingReady naming N A T K L count x.1 64) (same_literal R.clause.stored R.literal R.is_numbered) R.ready

-- The literal that the program has in its list is the one with the number.
listed_is : {O C B : List ℕ} {M M' : List ListedLiteral} {c count : ℕ} {d : Derivation} → Collected O C M M' 0 c 0 count → Stored O C B c d → (n : ℕ) → 1 ≤ n → n ≤ count → (l : Literal) → numbered (literals d) n ≡ some l → listed M' n ≡ l
listed_is {B = B} {M' = M'} {d = d} K s n low high l p =
    let z : n ≡ 0 + n = omega arith in
    some_same (ap (λ (k : ℕ). some (listed M' k)) z ∙ (K.holds B d s).literal n low (omega (arith, high, K.last B d s)) ∙ sym (raise_named_zero (numbered (literals d) n)) ∙ p)
  where
    some_same : {x y : Literal} → some x ≡ some y → x ≡ y
    some_same e = cc

pub listed_ready : {O C : List ℕ} {M M' : List ListedLiteral} {c count : ℕ} → Collected O C M M' 0 c 0 count → (n : ℕ) → 1 ≤ n → n ≤ count → {naming : Naming} {N A T K L : List ℕ} {m : ℕ} → NumberedReady naming O C N A T K L m c n → WritingReady naming N A T K L m (listed M' n).1 64
listed_ready X n low high {naming} {N} {A} {T} {K} {L} {m} R =
    subst (λ (x : Literal). WritingReady naming N A T K L m x.1 64) (sym (listed_is X R.clause.stored n low high R.literal R.is_numbered)) R.ready

pub numbered_listed : {O C : List ℕ} {M M' : List ListedLiteral} {c count : ℕ} → Collected O C M M' 0 c 0 count → (n : ℕ) → 1 ≤ n → n ≤ count
    → (naming : Naming) (N A A' T T' K K' L L' : List ℕ) (m at : ℕ) (e : Place) → WritesLiteral naming N A A' T T' K K' L L' m at (listed M' n).0 (listed M' n).1 e → WritesNumbered naming O C N A A' T T' K K' L L' m at c n e
numbered_listed X n low high naming N A A' T T' K K' L L' m at e W B d s l p =
    subst (λ (x : Literal). WritesLiteral naming N A A' T T' K K' L L' m at x.0 x.1 e) (listed_is X s n low high l p) W

-- So many literals has clause c, whatever derivation it is: the number in its cell, and the number of those collected.
abbrev pub HasLiterals : List ℕ → List ℕ → ℕ → ℕ → Type 0
HasLiterals O C c count = (B : List ℕ) (d : Derivation) → Stored O C B c d → count ≡ length (literals d)

pub cell_literals : {O C : List ℕ} {c count : ℕ} → count ≡ literals_cell C c → HasLiterals O C c count
cell_literals e B d s = e ∙ (stored_cells s).literal_count

pub collected_literals : {O C : List ℕ} {M M' : List ListedLiteral} {c count : ℕ} → Collected O C M M' 0 c 0 count → HasLiterals O C c count
collected_literals K B d s = omega (arith, K.last B d s)

-- The literal with the next number is the first of those left.
record NextLiteral (ls : List Literal) (n : ℕ) : Type 0 where
  next : Literal
  is_numbered : numbered ls (suc n) ≡ some next
  is_first : drop n ls ≡ next ∷ drop (suc n) ls

next_literal : (ls : List Literal) (n : ℕ) → n < length ls → NextLiteral ls n
next_literal [] n h = absurd (omega arith)
next_literal (l ∷ ls) zero h = record { next = l; is_numbered = refl; is_first = refl }
next_literal (l ∷ ls) (suc n) h = let x = next_literal ls n (omega arith) in record { next = x.next; is_numbered = x.is_numbered; is_first = x.is_first }

none_left : (ls : List Literal) (n : ℕ) → length ls ≤ n → drop n ls ≡ []
none_left [] zero h = refl
none_left [] (suc n) h = refl
none_left (l ∷ ls) zero h = absurd (omega arith)
none_left (l ∷ ls) (suc n) h = none_left ls n (omega arith)

-- After the text `before` what is left, from the literal after the n-th on, makes the text of all literals; and the variables seen so far, with those of what is left, are all.
pub record LiteralsSoFar (naming : Naming) (N : List ℕ) (top : ℕ) (A : List ℕ) (ρ : Environment) (row : ℕ → Row) (term : ℕ → Term ℕ) (σ : Variable → Term Variable) (T T' K L : List ℕ) (at end count n : ℕ) (ls : List Literal) : Type 0 where
  pub models : Models N top A ρ
  pub sofar : List Variable
  pub numbers : Numbered naming N K L count sofar
  pub onward : all_shown sofar (map (written_literal term σ) (drop n ls)) ≡ all_shown [] (map (written_literal term σ) ls)
  pub before : (Variable → List ℕ) → List ℕ
  pub wrote : (all : List Variable) → Longer sofar all → Wrote T T' at end (before (name_of naming row all))
  pub whole : (name : Variable → List ℕ) → before name ++ literals_text name (map (written_literal term σ) (drop n ls)) ≡ literals_text name (map (written_literal term σ) ls)

abbrev pub WritesSoFar : Naming → List ℕ → List ℕ → List ℕ → List ℕ → List ℕ → List ℕ → List ℕ → List ℕ → List ℕ → List ℕ → List ℕ → ℕ → ℕ → ℕ → ℕ → ℕ → Type 0
WritesSoFar naming O C N A A' T T' K K' L L' at c end count n =
    (B : List ℕ) (d : Derivation) → Stored O C B c d
    → (top : ℕ) (ρ : Environment) (row : ℕ → Row) (term : ℕ → Term ℕ) (σ : Variable → Term Variable) → AllWritable N top A ρ row term σ (literals d) → NumberRoom naming K L
    → LiteralsSoFar naming N top A' ρ row term σ T T' K' L' at end count n (literals d)

module _ (naming : Naming) (O C N A T K L : List ℕ) (at c : ℕ) where
  pub literals_start : WritesSoFar naming O C N A A T T K K L L at c at 0 0
  literals_start B d s top ρ row term σ W room = record { models = W.models; sofar = []; numbers = numbered_none naming N K L room; onward = refl; before = λ name. []; wrote = λ all H. wrote_nothing T at; whole = λ name. refl }

  module _ (A₁ T₁ K₁ L₁ : List ℕ) (end count n literal_count : ℕ) (S : WritesSoFar naming O C N A A₁ T T₁ K K₁ L L₁ at c end count n) (counted : HasLiterals O C c literal_count) where
    pub literals_end : literal_count ≤ n → (e : Place) → e.end ≡ end → e.count ≡ count → WritesLiterals naming O C N A A₁ T T₁ K K₁ L L₁ at c e
    literals_end h e pe pc B d s top ρ row term σ W room =
        let S' = S B d s top ρ row term σ W room in
        let ls = map (written_literal term σ) (literals d) in
        let none : drop n (literals d) ≡ [] = none_left (literals d) n (omega (arith, counted B d s)) in
        let last-seen : S'.sofar ≡ all_shown [] ls = ap (λ (xs : List Literal). all_shown S'.sofar (map (written_literal term σ) xs)) (sym none) ∙ S'.onward in
        let all-text : (name : Variable → List ℕ) → S'.before name ≡ literals_text name ls =
        λ name. sym (append-nil (S'.before name)) ∙ ap (λ (xs : List Literal). S'.before name ++ literals_text name (map (written_literal term σ) xs)) (sym none) ∙ S'.whole name in
        record {
          models = S'.models;
          numbered = subst (λ (k : ℕ). Numbered naming N K₁ L₁ k (all_shown [] ls)) (sym pc) (subst (Numbered naming N K₁ L₁ count) last-seen S'.numbers);
          wrote = λ all H. subst (λ (k : ℕ). Wrote T T₁ at k (literals_text (name_of naming row all) ls)) (sym pe)
              (subst (Wrote T T₁ at end) (all-text (name_of naming row all)) (S'.wrote all (subst (λ (xs : List Variable). Longer xs all) (sym last-seen) H)));
        }

    pub literals_next : n < literal_count → (A₂ T₂ K₂ L₂ : List ℕ) (e : Place) → WritesNumbered naming O C N A₁ A₂ T₁ T₂ K₁ K₂ L₁ L₂ count end c (n + 1) e → WritesSoFar naming O C N A A₂ T T₂ K K₂ L L₂ at c e.end e.count (n + 1)
    literals_next h A₂ T₂ K₂ L₂ e G B d s top ρ row term σ W room =
        let S' = S B d s top ρ row term σ W room in
        let x = next_literal (literals d) n (omega (arith, counted B d s)) in
        let l = x.next in
        let is_literal : numbered (literals d) (n + 1) ≡ some l = ap (numbered (literals d)) (add-one n) ∙ x.is_numbered in
        let text : (Variable → List ℕ) → List ℕ = λ name. 32 ∷ literal_text name (written_literal term σ l) in
        let is_first : drop n (literals d) ≡ l ∷ drop (n + 1) (literals d) = x.is_first ∙ ap (λ (m : ℕ). l ∷ drop m (literals d)) (sym (add-one n)) in
        let w = G B d s l is_literal top ρ row term σ (record { models = S'.models; in_step = W.in_step (n + 1) l is_literal; rows = W.rows; terms = W.terms; values = W.values }) S'.sofar S'.numbers in
        let onto = shown_longer S'.sofar (written_literal term σ l) in
        record {
          models = w.models;
          sofar = shown S'.sofar (written_literal term σ l);
          numbers = w.numbered;
          onward = ap (λ (xs : List Literal). all_shown S'.sofar (map (written_literal term σ) xs)) (sym is_first) ∙ S'.onward;
          before = λ name. S'.before name ++ text name;
          wrote = λ all H. wrote_then T T₁ T₂ at end e.end (S'.before (name_of naming row all)) (text (name_of naming row all)) (S'.wrote all (longer_then onto H)) (w.wrote all H);
          whole = λ name.
              append_assoc (S'.before name) (text name) (literals_text name (map (written_literal term σ) (drop (n + 1) (literals d))))
              ∙ ap (λ (xs : List Literal). S'.before name ++ literals_text name (map (written_literal term σ) xs)) (sym is_first) ∙ S'.whole name;
        }

-- What writing the next literal asks.
pub numbered_ready : {naming : Naming} {O C N A A₁ T T₁ K K₁ L L₁ : List ℕ} {at c end count n literal_count : ℕ} → LiteralsReady naming O C N A T K L c → WritesSoFar naming O C N A A₁ T T₁ K K₁ L L₁ at c end count n → HasLiterals O C c literal_count → n < literal_count → count ≤ 64 * n → Sized N A₁ T₁ → NumberedReady naming O C N A₁ T₁ K₁ L₁ count c (n + 1)
numbered_ready {n = n} R S counted h few Z =
    let X = R.collectable in
    let W = R.writable in
    let m = counted X.bindings X.derivation X.stored in
    let S' = S X.bindings X.derivation X.stored R.top R.environment R.row R.term R.value W R.numbers in
    let x = next_literal (literals X.derivation) n (omega (arith, m)) in
    let is_literal : numbered (literals X.derivation) (n + 1) ≡ some x.next = ap (numbered (literals X.derivation)) (add-one n) ∙ x.is_numbered in
    record {
      clause = record { bindings = X.bindings; derivation = X.derivation; stored = X.stored; fits = omega (arith, X.fits) };
      literal = x.next;
      is_numbered = is_literal;
      ready = record {
        sized = Z;
        top = R.top;
        environment = R.environment;
        row = R.row;
        term = R.term;
        value = R.value;
        writable = record { models = S'.models; in_step = W.in_step (n + 1) x.next is_literal; rows = W.rows; terms = W.terms; values = W.values };
        seen = S'.sofar;
        numbered = S'.numbers;
        room = omega (arith, few, R.few, m, h);
      };
    }

-- The clause that a line is written of.
pub record ClauseThere (S : State) (c : ℕ) : Type 0 where
  pub clause : Derivation
  pub is_clause : clause_of S c ≡ some clause

pub clause_there : (S : State) (c : ℕ) → c < length S.clauses → ClauseThere S c
clause_there S c h = let x = there (derivations S) (omega (arith, length-map S.clauses (λ (k : ℕ × Derivation). k.1))) in record { clause = x.0; is_clause = x.1 }
  where
    there : (ds : List Derivation) → c < length ds → (d : Derivation) × (entry ds c ≡ some d)
    there [] l = absurd (omega arith)
    there (d ∷ ds) l = try (eqb c (length ds)) refl (λ k. there ds k)
      where
        try : (b : Bool) → eqb c (length ds) ≡ b → (c < length ds → (e : Derivation) × (entry ds c ≡ some e)) → (e : Derivation) × (pick b (some d) (entry ds c) ≡ some e)
        try true q ih = (d, refl)
        try false q ih = let ne : ¬ (c ≡ length ds) = not_equal c (length ds) (rw q) in ih (omega arith)

-- What writing a line asks of its callees.
module _ {naming : Naming} {C B N O A T K L : List ℕ} {c : ℕ} (R : LineReady naming C B N O A T K L c) where
  here : ClauseThere R.state c
  here = clause_there R.state c R.inside

  index_small : maximum_index here.clause ≤ 4096
  index_small = kept.index_fits_lem R.read.kept R.read.few c here.clause here.is_clause

  pub line_clear : (top : ℕ) → top ≡ index_cell C c → (length A ≡ 524416) × (top ≤ 4096)
  line_clear top p = (R.read.kept.values, omega (arith, p, kept.index_of R.read.kept R.read.few c here.clause here.is_clause, index_small))

  pub line_load : (A₁ : List ℕ) → length A₁ ≡ 524416 → Loadable O C B N A₁ c 0
  line_load A₁ v = kept.load_ready R.read.kept R.read.few c 0 here.clause here.is_clause (omega (arith, index_small)) A₁ v

  -- There are at most 4,096 clauses, of at most 128 literals each.
  few_clauses : length R.state.clauses ≤ 4096
  few_clauses = omega (arith, (kept.stand_of R.read.kept R.read.few).tally.total, R.read.few, fitting_records R.file R.read.kept.fit)

  few_literals : length (literals here.clause) ≤ 128
  unfolding most_literals
  few_literals = (kept.order_in R.read.kept R.read.few c here.clause here.is_clause).literals_fit

  abbrev line_collect : Collectable O C 0 c 0
  line_collect =
      record {
        bindings = B;
        derivation = here.clause;
        stored = kept.stored_of R.read.kept R.read.few c here.clause here.is_clause;
        fits = omega (arith, index_small);
        few = omega (arith, few_clauses, few_literals, R.inside);
      }

  line_nodes : length N ≡ 32768
  line_nodes = kept.nodes_room R.read.kept R.read.few

-- What the check left is left with any array in the array's place: between lines it does not matter what the array holds.
pub read_again : (F : File) (t : Tables) (S : State) (here : Tables) (N O A A' : List ℕ) → ReadTo F t S here N O A → length A' ≡ 524416 → ReadTo F t S here N O A'
read_again F t S here N O A A' R v =
    let K = R.kept in
    record { count = R.count; few = R.few; counts = R.counts; kept = record { fit = K.fit; long = K.long; before = K.before; counts = K.counts; held = K.held; tables = K.tables; nodes = K.nodes; origins = K.origins; values = v } }

-- The clause, loaded into a cleared array, can be written out.
module _ {F : File} {C B N O A : List ℕ} {t : Tables} {S : State} {symbols rows : List ℕ} (R : ReadTo F t S (tables_with symbols rows C B) N O A) (c : ℕ) (d : Derivation) (q : clause_of S c ≡ some d) where
  pub line_index : index_cell C c ≡ maximum_index d
  line_index = kept.index_of R.kept R.few c d q

  pub line_writable : (top : ℕ) → top ≡ maximum_index d → (A₁ A₂ : List ℕ) → Cleared A A₁ (128 * (top + 1)) → Loaded O C B N A₁ A₂ c 0 → AllWritable N top A₂ (lookup d) (row_of S) (term_of S) (substitution (term_of S) d) (literals d)
  line_writable top p A₁ A₂ K L =
      let ok = kept.ok_of R.kept R.few in
      record {
        models = kept.clause_models R.kept R.few c d q top p A A₁ A₂ K L;
        in_step = λ n l z. subst (λ (m : ℕ). InStep N m l.1) (sym p) (kept.literal_in_step R.kept R.few c d q n l z);
        rows = λ r h. kept.agree R.kept R.few r (kept.inside_of R.kept R.few r h);
        terms = term_of_row S ok;
        values = writes_out (row_of S) (term_of S) (term_of_row S ok) d (kept.order_in R.kept R.few c d q).valid;
      }

-- What writing its literals asks.
pub line_literals : {naming : Naming} {C B N O A T K L : List ℕ} {c : ℕ} (R : LineReady naming C B N O A T K L c) (top : ℕ) → top ≡ index_cell C c → (A₁ A₂ : List ℕ) → Cleared A A₁ (128 * (top + 1)) → Loaded O C B N A₁ A₂ c 0 → (T' : List ℕ) → length T' ≡ 131072 → LiteralsReady naming O C N A₂ T' K L c
line_literals {c = c} R top p A₁ A₂ X Y T' room =
    let S = R.state in
    let d = (here R).clause in
    let q = (here R).is_clause in
    record {
      collectable = line_collect R;
      few = few_literals R;
      sized = record { nodes = line_nodes R; values = Y.room; text = room };
      numbers = R.numbers;
      top = top;
      environment = lookup d;
      row = row_of S;
      term = term_of S;
      value = substitution (term_of S) d;
      writable = line_writable R.read c d q top (p ∙ line_index R.read c d q) A₁ A₂ X Y;
    }

-- The parts of a line, one after another.
module _ (naming : Naming) (C B N O A T K L : List ℕ) (at c top : ℕ) (p : top ≡ index_cell C c) (A₁ A₂ A₃ : List ℕ) (X : Cleared A A₁ (128 * (top + 1))) (Y : Loaded O C B N A₁ A₂ c 0)
    (T₁ : List ℕ) (blank : ℕ) (v₁ : Wrote T T₁ at blank (decimal c)) (T₂ : List ℕ) (index : ℕ) (v₂ : Wrote T₁ T₂ blank index (32 ∷ [])) (T₃ : List ℕ) (first : ℕ) (v₃ : Wrote T₂ T₃ index first (decimal top))
    (T₄ K' L' : List ℕ) (last : Place) (G : WritesLiterals naming O C N A₂ A₃ T₃ T₄ K K' L L' first c last) (Z : Sized N A₃ T₄) (T₅ : List ℕ) (end : ℕ) (v₄ : Wrote T₄ T₅ last.end end (10 ∷ [])) where
  parts : (F : File) (t : Tables) (S : State) (symbols rows : List ℕ) → ReadTo F t S (tables_with symbols rows C B) N O A → (d : Derivation) → clause_of S c ≡ some d → NumberRoom naming K L
      → PartWritten naming N top A₃ (lookup d) (row_of S) T₃ T₄ K' L' first (λ name. literals_text name (written (term_of S) d)) (all_shown [] (written (term_of S) d)) last
  parts F t S symbols rows R d q room =
      let m : top ≡ maximum_index d = p ∙ line_index {t = t} {symbols = symbols} {rows = rows} R c d q in
      G B d (kept.stored_of R.kept R.few c d q) top (lookup d) (row_of S) (term_of S) (substitution (term_of S) d) (line_writable R c d q top m A₁ A₂ X Y) room

  pub line_written : LineReady naming C B N O A T K L c → LineWritten naming C B N O A A₃ T T₅ at c end
  line_written ready = record {
    wrote = λ F t S symbols rows R d q.
        let m : top ≡ maximum_index d = p ∙ line_index {t = t} {symbols = symbols} {rows = rows} R c d q in
        let all = all_shown [] (written (term_of S) d) in
        let w = parts F t S symbols rows R d q ready.numbers in
        let x = literals_text (name_of naming (row_of S) all) (written (term_of S) d) in
        let y = decimal c ++ (32 ∷ decimal (maximum_index d)) in
        let index-text : Wrote T₂ T₃ index first (decimal (maximum_index d)) = subst (λ (i : ℕ). Wrote T₂ T₃ index first (decimal i)) m v₃ in
        subst (Wrote T T₅ at end) (sym (line_named naming S c d))
        (wrote_then T T₄ T₅ at last.end end (y ++ x) (10 ∷ [])
        (wrote_then T T₃ T₄ at first last.end y x
        (wrote_then T T₁ T₃ at blank first (decimal c) (32 ∷ decimal (maximum_index d)) v₁ (wrote_then T₁ T₂ T₃ blank index first (32 ∷ []) (decimal (maximum_index d)) v₂ index-text))
        (w.wrote all (longer_same all)))
        v₄);
    sized = record { nodes = Z.nodes; values = Z.values; text = v₄.kept.room ∙ Z.text };
  }

-- A line fits into the buffer: at most 128 literals of 834 bytes each, two numbers of five digits, a blank and a line feed.
pub line_short : (naming : Naming) (S : State) → StateOk 4096 S → (c : ℕ) (d : Derivation) → clause_of S c ≡ some d → length (line_of naming S c d) ≤ 106780
unfolding most_literals
line_short naming S H c d q =
    let few = (order_of 4096 S H c d q).literals_fit in
    let number = decimal c in
    let index : List ℕ = 32 ∷ decimal (maximum_index d) in
    let name = name_of naming (row_of S) (all_shown [] (written (term_of S) d)) in
    let text = literals_text name (written (term_of S) d) in
    omega (arith, ap length (line_named naming S c d), length-append (number ++ index ++ text) (10 ∷ []), length-append (number ++ index) text, length-append number index, decimal_length c, decimal_length (maximum_index d), literals_text_short name (name_short naming (row_of S) (all_shown [] (written (term_of S) d))) (written (term_of S) d), length-map (literals d) (written_literal (term_of S) (substitution (term_of S) d)), few)
