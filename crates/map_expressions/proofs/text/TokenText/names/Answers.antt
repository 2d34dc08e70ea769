use Rattle.std.proofs.Common.{◌∙◌, ap}
use Rattle.v_dotted.specs.Dotted.{owned_tokens_of}
use Rattle.map_expressions.specs.Reading.{words_of}
use Rattle.map_expressions.proofs.Readings.{read_is_spelled}
use Rattle.map_expressions.proofs.Words.{whole_words}
use Rattle.map_expressions.proofs.text.TokenText.names.Goals as goal

pub returns : goal.returns
returns c = λ t e a r.
    c.in_ok-names.ensures
    ∙ (ap (λ ts. words_of (owned_tokens_of ts)) c.deref.ensures.value
    ∙ whole_words e (owned_tokens_of c.args.self.now.tokens.items) (read_is_spelled t (owned_tokens_of c.args.self.now.tokens.items) e a r))
