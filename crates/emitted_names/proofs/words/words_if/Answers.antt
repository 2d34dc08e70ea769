use Rattle.std.proofs.Common.{◌∙◌, sym}
use Rattle.std.proofs.lemmas.Bool.{false≢true}
use Rattle.emitted_names.proofs.words.words_if.Goals as goal

pub returns-then-not-is_marked : goal.returns-then-not-is_marked
returns-then-not-is_marked c = λ h. absurd (false≢true (sym (sym c.is_marked.ensures ∙ c.if-not-is_marked.true) ∙ h))

pub returns : goal.returns
returns c = λ h. c.in_ok-parts.ensures
