-- Records of kind 1 to 4: one law for each way in which a function returns.
use mathlib.Core.Path.{◌≡◌, refl, sym, ap, ap₂, ◌∙◌, subst}
use mathlib.Core.Bool.{Bool, true, false, not}
use mathlib.Core.Option.{Option}
use mathlib.Core.List.{List, [], ◌∷◌, map}
use Prim.Native.Nat.{ℕ, ◌+◌}
use lib.ListN.{get_or, set}
use borrow.Author.Tests.{eq-eqb, not-true, not-false}
use Rattle.std.specs.Prelude.{Some, None}
use Rattle.std.specs.Prelude.{Option as Answer}
use Rattle.record.specs.Answered.{answered}
use Rattle.record.specs.Record.{pick, File, record_part, kind_of, count_of, fields_of, decoded, decoded_in, symbolKind, variableKind, applicationKind, inputKind}
use Rattle.record_fields.specs.Reader.{clause_literals}
use Rattle.record_fields.specs.declared.ClauseLiterals.{ClauseLiterals}
use Rattle.derivation.specs.Derivation.{input_literals}
use Rattle.distinct.specs.Index.{Indexed, Findable, Listable}
use Rattle.distinct.specs.Rows.{with_node, row_with_cells}
use Rattle.distinct.proofs.Listing.{index_repeat, not_found_listable}
use Rattle.distinct.proofs.Lowest.{found_nowhere, found_at}
use Rattle.entry.specs.Program.{repeat_cells, taken_arguments, taken_literals, RowReady, row_found, no_variable, more_symbols, more_rows, more_clauses, symbol_left, symbol_entered, RowLeft, row_left, row_entered, variable_entered, application_there, application_entered, input_left, input_entered}
use Rattle.tables.specs.Cells.{with_clause_cells}
use Rattle.verdict.specs.Refusal.{in_order, in_range, all_below}
use Rattle.entry.specs.declared.entry.Counts.{Counts}
use Rattle.std.specs.Prelude.{Ok, Err}
use Rattle.reasons.specs.declared.Reason.TheVariants.{OutOfRange, NotThere, CrossedDays, VariableLiteral}
use Rattle.record.specs.declared.Form.{Form}

-- What a test picks, the code's test being the definition's.
pass : {A : Type 0} {b t : Bool} {x : A} (y z : A) → b ≡ t → b ≡ true → x ≡ y → x ≡ pick t y z
pass {A} {b} {t} y z e h q = q ∙ sym (ap (λ (s : Bool). pick s y z) (sym e ∙ h))

fail : {A : Type 0} {b t : Bool} {x : A} (y z : A) → b ≡ t → b ≡ false → x ≡ z → x ≡ pick t y z
fail {A} {b} {t} y z e h q = q ∙ sym (ap (λ (s : Bool). pick s y z) (sym e ∙ h))

module _ (part : List ℕ) (k : ℕ) (n : Counts) (symbols : List ℕ) {b : Bool} (e : b ≡ in_range symbolKind (decoded part)) where
  pub symbol_out : not b ≡ true → symbol_left (Err OutOfRange) symbols ≡ symbol_entered part k n symbols
  unfolding symbol_entered
  symbol_out h = fail _ _ e (not-true b h) refl

  pub symbol_in : {T : List ℕ} → not b ≡ false → T ≡ set symbols n.symbols k → symbol_left (Ok (more_symbols n)) T ≡ symbol_entered part k n symbols
  unfolding symbol_entered
  symbol_in h q = pass _ _ e (not-false b h) (ap (symbol_left (Ok (more_symbols n))) q)

module _ (ns : List ℕ) (k code : ℕ) (n : Counts) (rows N : List ℕ) {f : Answer ℕ} (e : f ≡ answered (row_with_cells N n.rows (code ∷ ns))) where
  pub row_again : {q v : ℕ} {R M : List ℕ} {m : Counts} → m ≡ more_rows n → f ≡ Some q → v ≡ get_or rows q 0 → M ≡ with_node N n.rows (repeat_cells q) → R ≡ set rows n.rows v → row_left (Ok m) R M ≡ row_entered ns k code n rows N
  unfolding row_entered
  row_again {q} {v = i} {R} {M} c h v p r =
      ap (λ (x : Counts). row_left (Ok x) R M) c ∙ ap₂ (row_left (Ok (more_rows n))) (r ∙ ap (set rows n.rows) v) p
      ∙ sym (ap (λ (o : Option ℕ). row_found o ns k code n rows N) (found_at (row_with_cells N n.rows (code ∷ ns)) q e h))

  pub row_new : {R M : List ℕ} {m : Counts} → m ≡ more_rows n → f ≡ None → M ≡ with_node N n.rows (code ∷ ns) → R ≡ set rows n.rows k → row_left (Ok m) R M ≡ row_entered ns k code n rows N
  unfolding row_entered
  row_new {R} {M} c h p r =
      ap (λ (x : Counts). row_left (Ok x) R M) c ∙ ap₂ (row_left (Ok (more_rows n))) r p ∙ sym (ap (λ (o : Option ℕ). row_found o ns k code n rows N) (found_nowhere (row_with_cells N n.rows (code ∷ ns)) e h))

-- The index by the counts after the row.
pub counted_indexed : {M H L : List ℕ} (n : Counts) {m : Counts} → m ≡ more_rows n → Indexed M (n.rows + 1) H L → Indexed M m.rows H L
counted_indexed {M} {H} {L} n c I = subst (λ (x : Counts). Indexed M x.rows H L) (sym c) I

-- What searching and listing ask, and the index that is left.
module _ {N : List ℕ} {n : Counts} {H L : List ℕ} {code : ℕ} {ns : List ℕ} (R : RowReady N n H L code ns) where
  pub row_findable : Findable N n.rows H L code ns
  row_findable = record { index = R.index; seven = R.seven; coded = R.coded }

  pub again_indexed : (q : ℕ) {M : List ℕ} → M ≡ with_node N n.rows (repeat_cells q) → Indexed M (n.rows + 1) H L
  again_indexed q p = subst (λ (M : List ℕ). Indexed M (n.rows + 1) H L) (sym p) (index_repeat R.index (repeat_cells q) refl R.room refl)

  pub new_listable : {f : Answer ℕ} {M : List ℕ} → f ≡ answered (row_with_cells N n.rows (code ∷ ns)) → f ≡ None → M ≡ with_node N n.rows (code ∷ ns) → Listable M n.rows H L
  new_listable e h p = subst (λ (M : List ℕ). Listable M n.rows H L) (sym p) (not_found_listable row_findable R.room e h)

module _ (part : List ℕ) (k : ℕ) (n : Counts) (rows N : List ℕ) {b : Bool} (e : b ≡ in_range variableKind (decoded part)) where
  pub variable_out : not b ≡ true → row_left (Err OutOfRange) rows N ≡ variable_entered part k n rows N
  unfolding variable_entered
  variable_out h = fail _ _ e (not-true b h) refl

  pub variable_in : {x : RowLeft} {ns : List ℕ} → not b ≡ false → ns ≡ fields_of part → x ≡ row_entered ns k 1 n rows N → x ≡ variable_entered part k n rows N
  unfolding variable_entered
  variable_in h f q = pass _ _ e (not-false b h) (q ∙ ap (λ (ns : List ℕ). row_entered ns k 1 n rows N) f)

module _ (F : File) (part : List ℕ) (k : ℕ) (n : Counts) (symbols rows N : List ℕ) {b : Bool} (e : b ≡ in_range applicationKind (decoded part)) where
  pub application_out : not b ≡ true → row_left (Err OutOfRange) rows N ≡ application_entered F part k n symbols rows N
  unfolding application_entered
  application_out h = fail _ _ e (not-true b h) refl

  module _ {t : Bool} (h : not b ≡ false) (p : t ≡ application_there F part n symbols) where
    pub application_missing : not t ≡ true → row_left (Err NotThere) rows N ≡ application_entered F part k n symbols rows N
    unfolding application_entered
    application_missing g = pass _ _ e (not-false b h) (fail _ _ p (not-true t g) refl)

    pub application_in : {m : ℕ} {x : RowLeft} {fs ns : List ℕ} → not t ≡ false → m ≡ count_of part → fs ≡ fields_of part → ns ≡ taken_arguments N fs → x ≡ row_entered ns k (2 + m) n rows N → x ≡ application_entered F part k n symbols rows N
    unfolding application_entered
    application_in g c f a q = pass _ _ e (not-false b h) (pass _ _ p (not-false t g) (q ∙ ap₂ (λ (ns : List ℕ) (i : ℕ). row_entered ns k (2 + i) n rows N) (a ∙ ap (taken_arguments N) f) c))

module _ (form : Form) (part : List ℕ) (k : ℕ) (n : Counts) (clauses N O : List ℕ) {b : Bool} (e : b ≡ in_range inputKind (decoded part)) where
  pub input_out : not b ≡ true → input_left (Err OutOfRange) clauses O ≡ input_entered form part k n clauses N O
  unfolding input_entered
  input_out h = fail _ _ e (not-true b h) refl

  module _ {t : Bool} (h : not b ≡ false) (p : t ≡ all_below n.rows (map (λ l. l.1) (input_literals (decoded part)))) where
    pub input_missing : not t ≡ true → input_left (Err NotThere) clauses O ≡ input_entered form part k n clauses N O
    unfolding input_entered
    input_missing g = pass _ _ e (not-false b h) (fail _ _ p (not-true t g) refl)

    module _ {d : Bool} (g : not t ≡ false) (o : d ≡ in_order (decoded_in form part).days) where
      pub input_crossed : not d ≡ true → input_left (Err CrossedDays) clauses O ≡ input_entered form part k n clauses N O
      unfolding input_entered
      input_crossed w = pass _ _ e (not-false b h) (pass _ _ p (not-false t g) (fail _ _ o (not-true d w) refl))

      module _ {v : Bool} (u : not d ≡ false) (q : v ≡ no_variable N (input_literals (decoded part))) where
        pub input_variable : not v ≡ true → input_left (Err VariableLiteral) clauses O ≡ input_entered form part k n clauses N O
        unfolding input_entered
        input_variable w = pass _ _ e (not-false b h) (pass _ _ p (not-false t g) (pass _ _ o (not-false d u) (fail _ _ q (not-true v w) refl)))

        pub input_in : {m : ℕ} {C M fs ns : List ℕ} → not v ≡ false → m ≡ count_of part → fs ≡ fields_of part → ns ≡ taken_literals N fs → M ≡ with_node O n.clauses (1 ∷ ns) → C ≡ with_clause_cells clauses n.clauses k m 1 n.bindings 0
            → input_left (Ok (more_clauses n)) C M ≡ input_entered form part k n clauses N O
        unfolding input_entered
        input_in w c f a y z =
            pass _ _ e (not-false b h) (pass _ _ p (not-false t g) (pass _ _ o (not-false d u) (pass _ _ q (not-false v w)
            (ap₂ (input_left (Ok (more_clauses n))) (z ∙ ap (λ (i : ℕ). with_clause_cells clauses n.clauses k i 1 n.bindings 0) c) (y ∙ ap (λ (l : List ℕ). with_node O n.clauses (1 ∷ l)) (a ∙ ap (taken_literals N) f))))))

-- What the clause reader gives of a record of kind 4.
pub literals_read : (F : File) (k : ℕ) {r : ClauseLiterals} → r ≡ clause_literals F k → kind_of (record_part F k) ≡ 4 → (r.count ≡ count_of (record_part F k)) × (r.numbers ≡ fields_of (record_part F k))
unfolding clause_literals
literals_read F k q four =
    let e = q ∙ ap (λ (b : Bool). pick b (record { count = count_of (record_part F k); numbers = fields_of (record_part F k) }) (record { count = 0; numbers = 0 ∷ 0 ∷ 0 ∷ 0 ∷ 0 ∷ 0 ∷ 0 ∷ [] })) (eq-eqb (kind_of (record_part F k)) 4 four) in
    (ap (λ (x : ClauseLiterals). x.count) e, ap (λ (x : ClauseLiterals). x.numbers) e)
