-- The contract of the exported `covers` from its own.
use mathlib.Core.Path.{◌≡◌, refl, ap, ◌∙◌}
use mathlib.Core.List.{List, ◌++◌}
use Prim.Native.Nat.{ℕ, ◌<◌, ◌≤◌}
use native.Mathlib.Omega.{arith}
use lib.ListN.{length, drop, set, length-set}
use Rattle.record.specs.Record.{File}
use Rattle.verdict.specs.Tables.{Tables}
use Rattle.comparing.specs.Given.{Covering, covering_given}
use Rattle.cover.specs.Contract.{CoversAnswered}
use Rattle.exported_covers.specs.ExportedCovers.{ExportedCovers}

-- A slice of ten cells has any cell before the tenth, and still nine after six stores.
pub at_least : (k n : ℕ) → k ≤ 10 → 10 ≤ n → k ≤ n
at_least k n a b = omega arith

pub still_nine : (X Y : List ℕ) (a b c d e f : ℕ) → X ≡ Y → 10 ≤ length X → 9 ≤ length (set (set (set (set (set (set X 9 a) 3 b) 4 c) 5 d) 6 e) 7 f)
still_nine X Y a b c d e f q l = simp length-set (at_least 9 (length X) (omega arith) l)

-- The two ways that the exported function can go.
pub covers_left_alone : (F : File) (t : Tables) (c d : ℕ) (A : List ℕ) → length A < 10 → ExportedCovers F t c d A t A
covers_left_alone F t c d A l = record {
  answer_left = λ m. refl;
  symbols_left = λ m. refl;
  rows_left = λ m. refl;
  clauses_left = λ m. refl;
  bindings_left = λ m. refl;
  answer = λ m. absurd (omega arith);
  symbols = λ m. absurd (omega arith);
  rows = λ m. absurd (omega arith);
  clauses = λ m. absurd (omega arith);
  bindings = λ m. absurd (omega arith);
}

pub covers_exported : (F : File) (t : Tables) (c d : ℕ) (A : List ℕ) (r : Covering) (here : Tables) (A' : List ℕ) → 10 ≤ length A → CoversAnswered F t c d r here → A' ≡ covering_given r ++ drop 10 A → ExportedCovers F t c d A here A'
covers_exported F t c d A r here A' l K q = record {
  answer_left = λ m. absurd (omega arith);
  symbols_left = λ m. absurd (omega arith);
  rows_left = λ m. absurd (omega arith);
  clauses_left = λ m. absurd (omega arith);
  bindings_left = λ m. absurd (omega arith);
  answer = λ m. record { answer = K.answer; numbers = q ∙ ap (λ (v : List ℕ). v ++ drop 10 A) K.numbers; promised = K.promised; only = K.only };
  symbols = λ m. K.symbols;
  rows = λ m. K.rows;
  clauses = λ m. K.clauses;
  bindings = λ m. K.bindings;
}
