use Rattle.std.proofs.Common.{◌≡◌, drop, map}
use Rattle.v_token.specs.View.{token_of}
use Rattle.v_place.specs.Table.{by_rule}
use Rattle.v_place.specs.View.{rule_of}
use Rattle.v_place.proofs.step.by_rule.Given as goal

abbrev pub invariant-loop-rule : goal.invariant-loop-rule
invariant-loop-rule l = by_rule (map rule_of l.rules) (token_of l.token) ≡ by_rule (map rule_of (drop l.rule-index l.rules)) (token_of l.token)
