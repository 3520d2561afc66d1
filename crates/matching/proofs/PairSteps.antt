-- One pair more.
use Rattle.std.proofs.Common.{◌≡◌, sym, ap, ◌∙◌, Bool, List, ℕ, ◌+◌, set}
use native.Mathlib.Numerals.{add-one}
use Rattle.matching.specs.Pairs.{pair_matched, Pairs, found_pair, pairs_matched}

abbrev pub pairs_of : List Bool → List ℕ → Pairs
pairs_of F W = record { found = F; notes = W }

pub pairs_more : (N O : List ℕ) (c d lefts rights p : ℕ) (P : Pairs) (F : List Bool) (W : List ℕ) → pairs_of F W ≡ pairs_matched N O c d lefts rights p P
    → {b : Bool} {W' : List ℕ} → (b, W') ≡ pair_matched N O c d lefts rights p W → pairs_of (set F p b) W' ≡ pairs_matched N O c d lefts rights (p + 1) P
unfolding pairs_matched
pairs_more N O c d lefts rights p P F W w e =
    ap (found_pair p F) e
    ∙ ap (λ (Q : Pairs). found_pair p Q.found (pair_matched N O c d lefts rights p Q.notes)) w
    ∙ ap (λ (n : ℕ). pairs_matched N O c d lefts rights n P) (sym (add-one p))
