use Rattle.std.proofs.Common.{subst, arith}
use Rattle.std.specs.String.{string_bytes}
use Rattle.map_trees.specs.Tokens.{IsTokens}
use Rattle.map_trees.proofs.Places.{each_turn, each_end, each_viewed}
use Rattle.map_trees.proofs.tokens.all_tokens.Goals as goal

pub loop-text-preserved : goal.loop-text-preserved
loop-text-preserved c =
    each_turn (λ x s. IsTokens x (string_bytes s)) c.loop-text.list.items c.push.new.self.items c.args.texts.now c.loop-text.text-index c.in_ok-tokens.tokens c.text-item.result _
    (omega arith) c.text-item.is c.in_ok-push.ensures.items (subst (IsTokens c.in_ok-tokens.tokens) c.as_str.ensures.value c.in_ok-tokens.ensures) c.loop-text.invariant

pub returns : goal.returns
returns c =
    each_viewed IsTokens string_bytes c.loop-text.list.items c.args.texts.now
    (each_end (λ x s. IsTokens x (string_bytes s)) c.loop-text.list.items c.args.texts.now c.loop-text.text-index c.loop-text-test.false c.loop-text.invariant)
