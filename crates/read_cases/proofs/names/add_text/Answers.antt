use Rattle.std.proofs.Common.{◌∙◌, ap, subst}
use Rattle.map_trees.specs.Tokens.{IsTokens}
use Rattle.read_cases.specs.Named.{names_of_texts}
use Rattle.read_cases.proofs.Naming.{added_none, added_as}
use Rattle.read_cases.proofs.names.add_text.Goals as goal

pub returns-in_ok-add_names-in-Tokens : goal.returns-in_ok-add_names-in-Tokens
returns-in_ok-add_names-in-Tokens c =
    added_as _ _
    (λ own same t e k r. same ∙ (ap names_of_texts c.deref.ensures.value ∙ c.in_ok-more-in-Tokens.ensures t e (subst (λ x. IsTokens x t) c.in-Tokens.is k) r))
    c.in_ok-add_names-in-Tokens.ensures

pub returns-in-Refused : goal.returns-in-Refused
returns-in-Refused c = added_none c.args.names.now.items (λ t e k r. absurd (subst (λ x. IsTokens x t) c.in-Refused.is k e r))
