use Rattle.std.proofs.Common.{◌≡◌, ◌∙◌, ◌-◌, ℕ, length, get_or, ap, arith}
use Rattle.term_evaluation.proofs.PendingLemmas.{split_last}
use Rattle.term_evaluation.proofs.evaluating.last_of.Goals as goal

pub returns : goal.returns
returns c =
    let n : c.len.result ≡ length c.args.pending.now.items = omega (arith, c.len.ensures, c.args.pending.now.ok.0) in
    split_last c.args.pending.now.items c.index.result.now c.requires (c.index.ensures ∙ ap (λ (k : ℕ). get_or c.args.pending.now.items (k - 1) c.index.result.now) n)
