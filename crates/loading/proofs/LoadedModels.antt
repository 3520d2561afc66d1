-- What a caller has of an array into which the parents of a step have been loaded: it reads exactly what is looked up in them, and so it
-- stands for their environment.
use mathlib.Core.Path.{◌≡◌, refl, sym, ap, ap₂, ◌∙◌, subst}
use mathlib.Core.Bool.{true}
use mathlib.Core.Option.{Option, none, some}
use mathlib.Core.List.{List, ◌++◌}
use Prim.Native.Nat.{ℕ, ◌+◌, ◌-◌, ◌*◌, ◌≤◌}
use native.Mathlib.Omega.{arith}
use lib.ListN.{length, take}
use lib.Seq.{take-append_seam}
use Rattle.unification.specs.Repeated.{or_else}
use Rattle.following.specs.Clearing.{Cleared}
use Rattle.unification.specs.Environment.{follow, Environment, Ends}
use Rattle.unification.specs.Nodes.{is_variable, HasRow, node_row, NodesOk}
use Rattle.unification.specs.Row.{Expression, Variable}
use Rattle.unification.specs.Unification.{most_links}
use Rattle.unification.specs.ValueArray.{slot, index_of, InStep, one_link, Models}
use Rattle.derivation.specs.Derivation.{input, Derivation, resolve, factor, maximum_index, raise_answer, joined, lookup}
use Rattle.loading.specs.Loaded.{held_value, read_cell, within, BindingsIn, Loaded}
use Rattle.derivation.specs.Stored.{Stored, stored_input, stored_resolve, stored_factor}
use Rattle.loading.proofs.Loading.{within_joined}
use Rattle.loading.proofs.ValidBindings.{in_larger, joined_in, lookup_in_step}
use borrow.Author.Tests.{le-leb, lt-leb}

-- Right literals with zeros after them are one list.
same_rights : (ns ns' : List ℕ) → length ns ≡ length ns' → (zs zs' : List ℕ) → ns ++ zs ≡ ns' ++ zs' → ns ≡ ns'
same_rights ns ns' l zs zs' e = sym (take-append_seam ns zs) ∙ ap₂ (λ (k : ℕ) (xs : List ℕ). take k xs) l e ∙ take-append_seam ns' zs'

-- A clause of the tables is one derivation.
pub stored_once : {O C B : List ℕ} {c : ℕ} {d e : Derivation} → Stored O C B c d → Stored O C B c e → d ≡ e
stored_once {c = c} (stored_input k q s) (stored_input k' q' s') = ap (input c) (sym q ∙ q')
stored_once (stored_input k q s) (stored_resolve k' k₁ k₂ la sa qa lb sb qb s') = absurd (omega arith)
stored_once (stored_input k q s) (stored_factor k' la sa qa qb s') = absurd (omega arith)
stored_once (stored_resolve k k₁ k₂ la sa qa lb sb qb s) (stored_input k' q' s') = absurd (omega arith)
stored_once {c = c} (stored_resolve {ns = ns} k k₁ k₂ la sa qa lb sb qb s) (stored_resolve {ns = ns'} k' k₁' k₂' la' sa' qa' lb' sb' qb' s') =
    let l = stored_once sa sa' in
    let r = stored_once sb sb' in
    λ i. resolve c (l i) ((sym qa ∙ qa') i) (r i) (same_rights ns ns' (omega arith) _ _ (sym qb ∙ qb') i) ((sym s.own ∙ s'.own) i)
stored_once (stored_resolve k k₁ k₂ la sa qa lb sb qb s) (stored_factor k' la' sa' qa' qb' s') = absurd (omega arith)
stored_once (stored_factor k la sa qa qb s) (stored_input k' q' s') = absurd (omega arith)
stored_once (stored_factor k la sa qa qb s) (stored_resolve k' k₁' k₂' la' sa' qa' lb' sb' qb' s') = absurd (omega arith)
stored_once {c = c} (stored_factor k la sa qa qb s) (stored_factor k' la' sa' qa' qb' s') =
    let l = stored_once sa sa' in
    λ i. factor c (l i) ((sym qa ∙ qa') i) ((sym qb ∙ qb') i) ((sym s.own ∙ s'.own) i)

-- Every variable of the step reads free.
abbrev pub ReadsFree : List ℕ → ℕ → List ℕ → Type 0
ReadsFree N top A = (x : Variable) → InStep N top x → is_variable N x.0 ≡ true → read_cell N A x ≡ none

-- Every variable of the step reads what ρ has for it.
abbrev pub ReadsExactly : List ℕ → ℕ → List ℕ → Environment → Type 0
ReadsExactly N top A ρ = (x : Variable) → InStep N top x → is_variable N x.0 ≡ true → read_cell N A x ≡ ρ x

-- An array whose cells up to the step's maximum index are 0.
pub cleared_free : (N A A' : List ℕ) (top : ℕ) → NodesOk N → Cleared A A' (128 * (top + 1)) → ReadsFree N top A'
cleared_free N A A' top T K x g v =
    let p = T.number x.0 g.row v in
    let h = g.high in
    ap (λ (t : ℕ). held_value t (index_of N A' x)) (K.low (slot N x.0 x.1) (omega arith))

raise_zero : (q : Option Expression) → raise_answer 0 q ≡ q
raise_zero none = refl
raise_zero (some e) = let z : 0 + e.1 ≡ e.1 = omega arith in ap (λ (k : ℕ). some (e.0, k)) z

else_none : (q : Option Expression) → or_else q none ≡ q
else_none none = refl
else_none (some e) = refl

-- At offset 0 and up to the maximum index nothing is moved.
within_zero : (m : ℕ) (ρ : Environment) (x : Variable) → 1 ≤ x.1 → x.1 ≤ m → or_else (within 0 m ρ x) none ≡ ρ x
within_zero m ρ x l h =
    let z : x.1 - 0 ≡ x.1 = omega arith in
    rw (le-leb x.1 (0 + m) (omega arith), lt-leb x.1 0 (omega arith)) (else_none (raise_answer 0 (ρ (x.0, x.1 - 0))) ∙ raise_zero (ρ (x.0, x.1 - 0)) ∙ ap (λ (k : ℕ). ρ (x.0, k)) z)

-- A factor's parent, loaded into an array that reads free.
pub factor_reads : {O C B N A A₁ : List ℕ} {c top : ℕ} {d : Derivation} → Stored O C B c d → maximum_index d ≡ top → top ≤ 4096
    → ReadsFree N top A → Loaded O C B N A A₁ c 0 → ReadsExactly N top A₁ (lookup d)
factor_reads {N = N} {A = A} {d = d} s q fits free L x g v =
    let high = g.high in
    L.reads d s x (in_larger fits g) v ∙ ap (or_else (within 0 (maximum_index d) (lookup d) x)) (free x g v) ∙ within_zero (maximum_index d) (lookup d) x g.low (omega arith)

-- A resolvent's parents, loaded one after the other, the right one above the left maximum index.
pub resolve_reads : {O C B N A A₁ A₂ : List ℕ} {c e o top : ℕ} {l r : Derivation} → Stored O C B c l → Stored O C B e r → o ≡ maximum_index l → maximum_index l + maximum_index r ≡ top → top ≤ 4096
    → ReadsFree N top A → Loaded O C B N A A₁ c 0 → Loaded O C B N A₁ A₂ e o → ReadsExactly N top A₂ (joined (maximum_index l) (lookup l) (lookup r))
resolve_reads {N = N} {A = A} {A₁ = A₁} {l = l} {r = r} sl sr po q fits free L L' x g v =
    let high = g.high in
    let z : maximum_index l ≡ 0 + maximum_index l = omega arith in
    L'.reads r sr x (in_larger fits g) v
    ∙ ap₂ (λ (k : ℕ) (u : Option Expression). or_else (within k (maximum_index r) (lookup r) x) u) (po ∙ z) (L.reads l sl x (in_larger fits g) v)
    ∙ within_joined 0 (maximum_index l) (maximum_index r) (lookup l) (lookup r) x (read_cell N A x)
    ∙ ap (or_else (within 0 (maximum_index l + maximum_index r) (joined (maximum_index l) (lookup l) (lookup r)) x)) (free x g v)
    ∙ within_zero (maximum_index l + maximum_index r) (joined (maximum_index l) (lookup l) (lookup r)) x g.low (omega arith)

-- An array that reads exactly what ρ has stands for ρ.
pub models_exact : (N A : List ℕ) (top : ℕ) (ρ : Environment) → NodesOk N → top ≤ 4096 → length A ≡ 524416 → ReadsExactly N top A ρ
    → ((e d : Expression) → ρ e ≡ some d → InStep N top e → InStep N top d) → ((e : Expression) → HasRow N e.0 → Ends (follow (node_row N) most_links ρ e)) → Models N top A ρ
models_exact N A top ρ T fits room reads kept ends =
    record {
      table = T;
      fits = fits;
      room = room;
      free = λ e g v z. sym (reads e g v) ∙ ap (λ (t : ℕ). held_value t (index_of N A e)) z;
      full = λ e t g v z. one_link v (sym (reads e g v) ∙ ap (λ (t : ℕ). held_value t (index_of N A e)) z);
      kept = kept;
      ends = ends;
    }

-- The same from the loads of a step: what is left to show is that following ends.
pub factor_models : {O C B N A A₁ : List ℕ} {c top : ℕ} {d : Derivation} → NodesOk N → Stored O C B c d → BindingsIn N d → maximum_index d ≡ top → top ≤ 4096
    → ReadsFree N top A → Loaded O C B N A A₁ c 0
    → ((e : Expression) → HasRow N e.0 → Ends (follow (node_row N) most_links (lookup d) e)) → Models N top A₁ (lookup d)
factor_models {N = N} {A₁ = A₁} {top = top} {d = d} T s K q fits free L ends =
    models_exact N A₁ top (lookup d) T fits L.room (factor_reads s q fits free L)
    (λ e f p g. subst (λ (k : ℕ). InStep N k f) q (lookup_in_step N d K e f p).1) ends

pub resolve_models : {O C B N A A₁ A₂ : List ℕ} {c e o top : ℕ} {l r : Derivation} → NodesOk N → Stored O C B c l → BindingsIn N l → Stored O C B e r → BindingsIn N r
    → o ≡ maximum_index l → maximum_index l + maximum_index r ≡ top → top ≤ 4096 → ReadsFree N top A → Loaded O C B N A A₁ c 0 → Loaded O C B N A₁ A₂ e o
    → ((f : Expression) → HasRow N f.0 → Ends (follow (node_row N) most_links (joined (maximum_index l) (lookup l) (lookup r)) f))
    → Models N top A₂ (joined (maximum_index l) (lookup l) (lookup r))
resolve_models {N = N} {A₂ = A₂} {top = top} {l = l} {r = r} T sl Kl sr Kr po q fits free L L' ends =
    models_exact N A₂ top (joined (maximum_index l) (lookup l) (lookup r)) T fits L'.room (resolve_reads sl sr po q fits free L L')
    (λ e f p g. subst (λ (k : ℕ). InStep N k f) q (joined_in N (maximum_index l) (maximum_index r) (lookup l) (lookup r) (lookup_in_step N l Kl) (lookup_in_step N r Kr) e f p).1) ends
