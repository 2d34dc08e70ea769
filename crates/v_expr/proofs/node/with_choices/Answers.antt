use Rattle.std.proofs.Common.{◌∙◌, ap}
use Rattle.v_syntax.specs.Tree.{tree_of}
use Rattle.v_syntax.specs.Chain.{chosen}
use Rattle.v_syntax.proofs.Trees.{tree_of-Conditional}
use Rattle.v_expr.proofs.Flat.{is_some, more_choices, flat-more_choices, flat-first_choices}
use Rattle.v_expr.proofs.node.with_choices.Goals as goal

pub returns-in_ok-append-in-Conditional-clause-made : goal.returns-in_ok-append-in-Conditional-clause-made
returns-in_ok-append-in-Conditional-clause-made c =
    more_choices c.args.choices c.in-Conditional.inner c.append.new.self c.in-Conditional.end c.args.last c.in-Conditional.is c.in_ok-append-in-Conditional.ensures.items

pub returns-in_ok-append-in-Conditional-clause-flat : goal.returns-in_ok-append-in-Conditional-clause-flat
returns-in_ok-append-in-Conditional-clause-flat c = λ choices flat.
    flat-more_choices c.args.choices c.in-Conditional.inner c.append.new.self c.in-Conditional.end c.args.last c.in-Conditional.is c.in_ok-append-in-Conditional.ensures.items
    (is_some c.args.choices c.is_empty.result c.is_empty.ensures c.if-is_empty.false) choices flat

pub returns-in_ok-end-in_default-clause-made : goal.returns-in_ok-end-in_default-clause-made
returns-in_ok-end-in_default-clause-made c = tree_of-Conditional c.args.choices c.in_ok-end-in_default.end ∙ ap (λ x. chosen c.args.choices.items (tree_of x)) c.in_ok-end-in_default.ensures.ok

pub returns-in_ok-end-in_default-clause-flat : goal.returns-in_ok-end-in_default-clause-flat
returns-in_ok-end-in_default-clause-flat c = λ choices flat.
    flat-first_choices c.args.choices c.in_ok-end-in_default.end c.args.last c.in_ok-end-in_default.ensures.ok
    (is_some c.args.choices c.is_empty.result c.is_empty.ensures c.if-is_empty.false) choices c.in_default.not-Conditional flat
