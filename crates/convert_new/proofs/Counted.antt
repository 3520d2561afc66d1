-- The records of an old file that are no windows, counted: those of its new form.
use mathlib.Core.Path.{◌≡◌, refl, sym, ap, ◌∙◌}
use mathlib.Core.Bool.{Bool, true, false, not}
use mathlib.Core.List.{List, [], ◌∷◌}
use Prim.Native.Nat.{ℕ, ◌+◌}
use native.Mathlib.Omega.{arith}
use lib.ListN.{length}
use borrow.Author.Tests.{eq-eqb, ne_eqb}
use Rattle.record.specs.Record.{pick, Record, old_file, decoded, records, kind_of}
use Rattle.record.specs.Sorts.{is_window, clauses_after, unless, how_many, one}
use Rattle.converting.specs.Converting.{new_record, new_records_from, to_new_records}
use Rattle.convert_new.specs.NewFile.{is_kept}

module _ (part : List ℕ) {k : ℕ} (is_kind : k ≡ kind_of part) where
  pub window_none : k ≡ 8 → 0 ≡ one (is_kept (decoded part))
  window_none e = sym (ap (λ (b : Bool). one (not b)) (eq-eqb (kind_of part) 8 (sym is_kind ∙ e)))

  pub other_one : ¬ (k ≡ 8) → 1 ≡ one (is_kept (decoded part))
  other_one e = sym (ap (λ (b : Bool). one (not b)) (ne_eqb (kind_of part) 8 (λ q. e (is_kind ∙ q))))

kept_length : (all : List Record) (n : ℕ) (rs : List Record) → how_many is_kept rs ≡ length (new_records_from all n rs)
kept_length all n [] = refl
kept_length all n (r ∷ rs) = try (is_window r) (kept_length all (clauses_after n r) rs)
  where
    try : (b : Bool) → how_many is_kept rs ≡ length (new_records_from all (clauses_after n r) rs)
        → pick (not b) 1 0 + how_many is_kept rs ≡ length (unless b (new_record all n r) (new_records_from all (clauses_after n r) rs))
    try true e = omega arith
    try false e = omega arith

pub all_kept : (file : List ℕ) {n : ℕ} → n ≡ 0 + how_many is_kept (records (old_file file)) → n ≡ length (to_new_records (records (old_file file)))
all_kept file e = omega (arith, e, kept_length (records (old_file file)) 0 (records (old_file file)))
