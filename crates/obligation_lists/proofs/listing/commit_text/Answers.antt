use Rattle.std.proofs.Common.{◌++◌, codes, ap, ◌∙◌}
use Rattle.std.specs.Prelude.{decimal}
use Rattle.obligation_lists.proofs.listing.commit_text.Goals as goal

pub returns : goal.returns
returns c =
    c.in_ok-full.ensures
    ∙ ap (λ t. t ++ decimal c.args.cycle) (c.as_str.ensures.value ∙ (c.in_ok-push_str.ensures.bytes ∙ ap (λ t. t ++ codes ".") c.in_ok-text.ensures))
