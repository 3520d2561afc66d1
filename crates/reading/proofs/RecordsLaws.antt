-- All records, one after another: what holds after k of them, and when reading ends.
use mathlib.Core.Path.{◌≡◌, refl, sym, ap, ◌∙◌, subst}
use mathlib.Core.List.{List, []}
use Prim.Native.Nat.{ℕ, ◌+◌, ◌≤◌, ◌<◌}
use lib.ListN.{length}
use native.Mathlib.Numerals.{add-one}
use native.Mathlib.Omega.{arith}
use Rattle.record.specs.Record.{File, record_count}
use Rattle.distinct.specs.Index.{Indexed}
use Rattle.entry.specs.Program.{Entered, rows_after}
use Rattle.entry.specs.Progress.{Kept, Reading, Next, RecordRead}
use Rattle.reading.specs.Reader.{Begun, EndedWith}
use Rattle.verdict.specs.State.{State, empty_state}
use Rattle.verdict.specs.Tables.{Tables}
use Rattle.demands.specs.Total.{fifth_cells}
use Rattle.demands.proofs.Advance.{Standing, refused_there, all_read}
use Rattle.entry.proofs.Entering.{node_table_length}
use Rattle.entry.proofs.Kept.{standing_of}
use Rattle.entry.specs.declared.entry.Counts.{Counts}
use Rattle.std.specs.Prelude.{Ok, Err}
use Rattle.reasons.specs.Reasons.{meant}
use Rattle.reasons.specs.declared.Reason.{Reason}

pub record ReadUpTo (F : File) (t : Tables) (k : ℕ) (n : Counts) (here : Tables) (N O A : List ℕ) : Type 0 where
  pub few : k ≤ record_count F
  pub state : State
  pub kept : Kept F t k state n here N O A

pub read_none : (F : File) (here : Tables) (N O A : List ℕ) (G : Begun F here N O A) → ReadUpTo F G.tables_before 0 (record { symbols = 0; rows = 0; clauses = 0; bindings = 0 }) here N O A
read_none F here N O A G = record {
  few = omega arith;
  state = empty_state;
  kept = record { fit = G.fit; long = G.long; before = refl; counts = refl; held = refl; tables = G.cleared; nodes = G.nodes; origins = G.origins; values = G.values };
}

pub begun_nodes : {F : File} {here : Tables} {N O A : List ℕ} → Begun F here N O A → length N ≡ 32768
begun_nodes {N = N} G = node_table_length [] tt (omega arith) N G.nodes

module _ {F : File} {t : Tables} {k : ℕ} {n : Counts} {here : Tables} {N O A : List ℕ} (R : ReadUpTo F t k n here N O A) where
  pub read_asked : k < record_count F → Reading F k n here N O A
  read_asked l = record { inside = l; tables_before = t; state = R.state; kept = R.kept }

  pub read_more : k < record_count F → (e : Entered) (here' : Tables) (N' O' A' : List ℕ) → RecordRead F k n here N O A e here' N' O' A' → (n' : Counts) → e ≡ Ok n' → ReadUpTo F t (k + 1) n' here' N' O' A'
  read_more l e here' N' O' A' X n' q =
      let z = subst (Next F t k R.state here' N' O' A') q (X.next t R.state R.kept) in
      record { few = omega arith; state = z.0; kept = subst (λ (m : ℕ). Kept F t m z.0 n' here' N' O' A') (sym (add-one k)) z.2 }

  pub index_more : (N' H L : List ℕ) (e : Entered) (m : Counts) → e ≡ Ok m → Indexed N' (rows_after n e) H L → Indexed N' m.rows H L
  index_more N' H L e m q I = subst (λ (x : Entered). Indexed N' (rows_after n x) H L) q I

  pub read_refused : k < record_count F → (e : Entered) (here' : Tables) (N' O' A' : List ℕ) → RecordRead F k n here N O A e here' N' O' A' → (x : Reason) → e ≡ Err x → EndedWith F t (Err (record { reason = x; number = k; counts = n })) here' N' O' A'
  read_refused l e here' N' O' A' X x p =
      let z = subst (Next F t k R.state here' N' O' A') p (X.next t R.state R.kept) in
      record { state = R.state; ended = (R.kept.counts, refused_there F k R.state (standing_of F k R.few R.state R.kept.before) l (meant x) z.0); left = record { count = k; few = R.few; counts = n; kept = record { fit = R.kept.fit; long = R.kept.long; before = R.kept.before; counts = R.kept.counts; held = R.kept.held ∙ ap (λ (x : Tables). fifth_cells x.clauses n.clauses) (R.kept.tables ∙ sym z.1); tables = z.1; nodes = z.2; origins = z.3; values = z.4 } } }

  pub read_all : record_count F ≤ k → EndedWith F t (Ok n) here N O A
  read_all l =
      let z : k ≡ record_count F = let f = R.few in omega arith in
      record { state = R.state; ended = (R.kept.counts, all_read F R.state (subst (λ (m : ℕ). Standing F m R.state) z (standing_of F k R.few R.state R.kept.before))); left = record { count = k; few = R.few; counts = n; kept = R.kept } }
