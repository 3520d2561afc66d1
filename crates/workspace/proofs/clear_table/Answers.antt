use Rattle.std.proofs.Common.{ℕ, ◌≡◌, ap, ◌∙◌, length, replicate, rules}
use Rattle.reading.specs.Reader.{clear_table}
use Rattle.workspace.proofs.clear_table.Goals as goal

pub returns : goal.returns
unfolding clear_table
returns c =
    let l : length c.args.table.now ≡ 32768 = search rules in
    c.fill.ensures.after (λ y e. e) ∙ ap (λ (n : ℕ). replicate {A = ℕ} n 0) l
