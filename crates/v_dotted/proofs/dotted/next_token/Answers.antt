use Rattle.std.proofs.Common.{◌∙◌, ◌∷◌, None, sym, ap, length, arith}
use Rattle.verilog_text.specs.Token.{Token}
use Rattle.verilog_text.specs.Grammar.{dotted_from}
use Rattle.v_token.specs.View.{token_of, tokens_of}
use Rattle.v_dotted.proofs.Joined.{begins, first_length, stands_by}
use Rattle.v_dotted.proofs.dotted.next_token.Goals as goal

pub returns-in_ok-text-in-Some-clause-joined : goal.returns-in_ok-text-in-Some-clause-joined
returns-in_ok-text-in-Some-clause-joined c =
    begins (tokens_of c.args.tokens.now) c.in-Some.first.now (tokens_of c.in-Some.after.now) (sym c.in-Some.ensures) ∙ c.in_ok-text-in-Some.ensures.joined
    ∙ ap (λ t. t ∷ dotted_from None (tokens_of c.in_ok-text-in-Some.rest.now)) (sym c.owned_word.ensures)

pub returns-in_ok-text-in-Some-clause-shorter : goal.returns-in_ok-text-in-Some-clause-shorter
returns-in_ok-text-in-Some-clause-shorter c =
    omega (arith, first_length (tokens_of c.args.tokens.now) c.in-Some.first.now (tokens_of c.in-Some.after.now) (sym c.in-Some.ensures), c.in_ok-text-in-Some.ensures.shorter)

pub returns-in_ok-next-in-None-clause-joined : goal.returns-in_ok-next-in-None-clause-joined
returns-in_ok-next-in-None-clause-joined c =
    stands_by (tokens_of c.args.tokens.now) (token_of c.args.token) (tokens_of c.args.behind.now) c.requires (sym c.in-None.ensures)
    ∙ ap (λ t. t ∷ dotted_from None (tokens_of c.args.behind.now)) (sym c.in_ok-next-in-None.ensures.made)

pub returns-in_ok-next-in-None-clause-shorter : goal.returns-in_ok-next-in-None-clause-shorter
returns-in_ok-next-in-None-clause-shorter c = omega (arith, ap length c.requires)
