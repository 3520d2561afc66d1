-- The outcome of a file from the contract of the check, the hashes of what it left, and the length and the hash of both readouts.
use mathlib.Core.Path.{◌≡◌, ap, ◌∙◌}
use mathlib.Core.List.{List}
use Prim.Native.Nat.{ℕ}
use Rattle.record.specs.Record.{File}
use Rattle.checker.specs.Contract.{Workspace, workspace_with, CheckedWith}
use Rattle.entry.specs.Progress.{tables_with}
use Rattle.verdict.specs.Tables.{Tables}
use Rattle.numbering.specs.declared.Naming.TheVariants.{ByIndex, ByAppearance}
use Rattle.units.specs.Units.{AfterCheck}
use Rattle.units.proofs.UnitWriting.{after_again}
use Rattle.answer.specs.declared.Answer.{Answer}
use Rattle.hash.specs.Hash.{start, hash_cells}
use Rattle.digests.specs.Digest.{DigestAfter}
use Rattle.outcomes.specs.Outcome.{OutcomeOf}
use Rattle.digests.specs.declared.Digest.{Digest}

-- The array does not matter, only its length.
pub outcome_given : (day : ℕ) (file : File) (before : Tables) (w : Workspace) (a : Answer) (S R C B N O A A₁ A₂ : List ℕ) (s r c b : ℕ) (d e : Digest) → CheckedWith day file before w a (tables_with S R C B) (workspace_with N O A) → s ≡ hash_cells start S → r ≡ hash_cells start R → c ≡ hash_cells start C → b ≡ hash_cells start B → DigestAfter ByIndex C B N O A A₁ a d → DigestAfter ByAppearance C B N O A₁ A₂ a e
    → OutcomeOf day file before (record { answer = a; hashes = record { symbols = s; rows = r; clauses = c; bindings = b }; readout = d; canonical = e })
unfolding after_again
outcome_given day file before w a S R C B N O A A₁ A₂ s r c b d e X ps pr pc pb D E =
    let after : AfterCheck C B N O A a = record { day = day; file = file; before = before; lent = w; symbols = S; rows = R; checked = X } in
    record {
      answer = X.checked.answer;
      symbols = ps ∙ ap (hash_cells start) X.checked.symbols;
      rows = pr ∙ ap (hash_cells start) X.checked.rows;
      clauses = pc ∙ ap (hash_cells start) X.checked.clauses;
      bindings = pb ∙ ap (hash_cells start) X.checked.bindings;
      readout = D.digest after;
      canonical = E.digest (after_again after D.values);
    }
