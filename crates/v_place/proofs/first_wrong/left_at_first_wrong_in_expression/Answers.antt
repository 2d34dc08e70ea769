use Rattle.std.proofs.Common.{ℕ, sym, subst}
use Rattle.v_token.specs.View.{tokens_of}
use Rattle.v_place.specs.Place.{IsExpressionText, IsFirstWrong}
use Rattle.v_place.proofs.Place.{the_place_in_expression}
use Rattle.v_place.proofs.first_wrong.left_at_first_wrong_in_expression.Goals as goal

pub returns : goal.returns
returns c = subst (λ (n : ℕ). IsFirstWrong IsExpressionText n (tokens_of c.args.tokens.now)) (sym c.in_ok-left.ensures) (the_place_in_expression (tokens_of c.args.tokens.now))
