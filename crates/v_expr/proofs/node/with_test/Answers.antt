use Rattle.std.proofs.Common.{◌∙◌, ap, sym}
use Rattle.v_syntax.specs.Tree.{tree_of}
use Rattle.v_syntax.specs.Chain.{test_linked}
use Rattle.v_syntax.proofs.Trees.{tree_of-Test}
use Rattle.v_expr.proofs.Links.{one_test}
use Rattle.v_expr.proofs.Flat.{more_tests, first_test}
use Rattle.v_expr.proofs.node.with_test.Goals as goal

pub returns-in_ok-push-in-Test-clause-made : goal.returns-in_ok-push-in-Test-clause-made
returns-in_ok-push-in-Test-clause-made c =
    one_test c.in-Test.first c.push.new.self c.in-Test.links.items c.args.link c.args.left c.in_ok-push-in-Test.ensures.items
    (sym (tree_of-Test c.in-Test.first c.in-Test.links) ∙ ap tree_of (sym c.in-Test.is))

pub returns-in_ok-push-in_default : goal.returns-in_ok-push-in_default
returns-in_ok-push-in_default c = record {
  made = one_test c.in_ok-first-in_default.first c.push-in_default.new.self c.in_ok-links-in_default.links.items c.args.link c.args.left c.in_ok-push-in_default.ensures.items
      (ap (λ ls. test_linked ls (tree_of c.in_ok-first-in_default.first.value)) c.in_ok-links-in_default.ensures.items ∙ ap tree_of c.in_ok-first-in_default.ensures.ok);
  flat = λ left operand. first_test c.in_ok-first-in_default.first c.push-in_default.new.self c.in_ok-links-in_default.links.items c.args.link c.args.left
      c.in_ok-first-in_default.ensures.ok c.in_ok-links-in_default.ensures.items c.in_ok-push-in_default.ensures.items c.in_default.not-Test left operand;
  memory = tt;
}

pub returns-in_ok-push-in-Test-clause-flat : goal.returns-in_ok-push-in-Test-clause-flat
returns-in_ok-push-in-Test-clause-flat c = λ left operand.
    more_tests c.in-Test.first c.in-Test.links c.push.new.self c.args.link c.args.left c.in-Test.is c.in_ok-push-in-Test.ensures.items left operand
