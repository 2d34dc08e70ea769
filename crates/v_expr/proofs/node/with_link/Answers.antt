use Rattle.std.proofs.Common.{◌∙◌, ap, sym}
use Rattle.v_syntax.specs.Tree.{tree_of}
use Rattle.v_syntax.specs.Chain.{linked}
use Rattle.v_syntax.proofs.Trees.{tree_of-Binary}
use Rattle.v_expr.proofs.Links.{one_link}
use Rattle.v_expr.proofs.Flat.{more_links, first_link}
use Rattle.v_expr.proofs.node.with_link.Goals as goal

pub returns-in_ok-push-in-Binary-clause-made : goal.returns-in_ok-push-in-Binary-clause-made
returns-in_ok-push-in-Binary-clause-made c =
    one_link c.in-Binary.first c.push.new.self c.in-Binary.links.items c.args.link c.args.left c.in_ok-push-in-Binary.ensures.items
    (sym (tree_of-Binary c.in-Binary.first c.in-Binary.links) ∙ ap tree_of (sym c.in-Binary.is))

pub returns-in_ok-push-in_default : goal.returns-in_ok-push-in_default
returns-in_ok-push-in_default c = record {
  made = one_link c.in_ok-first-in_default.first c.push-in_default.new.self c.in_ok-links-in_default.links.items c.args.link c.args.left c.in_ok-push-in_default.ensures.items
      (ap (λ ls. linked ls (tree_of c.in_ok-first-in_default.first.value)) c.in_ok-links-in_default.ensures.items ∙ ap tree_of c.in_ok-first-in_default.ensures.ok);
  flat = λ left operand. first_link c.in_ok-first-in_default.first c.push-in_default.new.self c.in_ok-links-in_default.links.items c.args.link c.args.left
      c.in_ok-first-in_default.ensures.ok c.in_ok-links-in_default.ensures.items c.in_ok-push-in_default.ensures.items c.in_default.not-Binary left operand;
  memory = tt;
}

pub returns-in_ok-push-in-Binary-clause-flat : goal.returns-in_ok-push-in-Binary-clause-flat
returns-in_ok-push-in-Binary-clause-flat c = λ left operand.
    more_links c.in-Binary.first c.in-Binary.links c.push.new.self c.args.link c.args.left c.in-Binary.is c.in_ok-push-in-Binary.ensures.items left operand
