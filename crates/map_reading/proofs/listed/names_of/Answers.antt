use Rattle.std.proofs.Common.{subst}
use Rattle.map_trees.specs.Tokens.{IsTokens}
use Rattle.map_reading.proofs.listed.names_of.Goals as goal

pub returns-in_ok-names-in-Tokens : goal.returns-in_ok-names-in-Tokens
returns-in_ok-names-in-Tokens c = λ e h. c.in_ok-names-in-Tokens.ensures h.text e (subst (λ x. IsTokens x h.text) c.in-Tokens.is h.are_tokens) h.is_read

pub returns-in-Refused : goal.returns-in-Refused
returns-in-Refused c = λ e h. absurd (subst (λ x. IsTokens x h.text) c.in-Refused.is h.are_tokens e h.is_read)
