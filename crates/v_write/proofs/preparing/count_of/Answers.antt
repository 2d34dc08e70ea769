use Rattle.v_syntax.specs.Tree.{tree_of}
use Rattle.v_value.specs.Scope.{scope_at}
use Rattle.std.proofs.Common.{◌≤◌, ◌∙◌, sym, subst}
use Rattle.v_value.specs.Index.{integer_at}
use Rattle.v_lower.proofs.Contextual.{counted}
use Rattle.v_write.proofs.preparing.count_of.Goals as goal

pub natural-requires : goal.natural-requires
natural-requires c = subst (λ k. k ≤ 128) (sym (counted (scope_at c.args.scope.now) (tree_of c.args.count.now) (integer_at c.integer_of.result) c.integer_of.ensures.value)) c.requires.at_most_128

pub returns : goal.returns
returns c = c.natural.ensures ∙ counted (scope_at c.args.scope.now) (tree_of c.args.count.now) (integer_at c.integer_of.result) c.integer_of.ensures.value
