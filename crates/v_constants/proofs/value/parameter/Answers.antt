use Rattle.std.proofs.Common.{ap, sym, ◌∙◌, cond, None}
use Rattle.v_value.specs.Scope.{scope_at}
use Rattle.v_syntax.specs.Tree.{tree_of}
use Rattle.v_size.specs.Rule.{unbroken, position_of}
use Rattle.v_size.proofs.Unbroken.{unbroken-holds}
use Rattle.v_constants.specs.Values.{valued_at}
use Rattle.v_constants.proofs.Judged.{right_so}
use Rattle.v_constants.proofs.value.parameter.Goals as goal

pub valued-requires-clause-narrow : goal.valued-requires-clause-narrow
valued-requires-clause-narrow c =
    (unbroken-holds (scope_at c.args.names.scope.now) c.args.names.narrow (position_of c.place_of-place.result) (tree_of c.args.value.now)
    (sym (ap unbroken c.judged_in-judged.ensures.broken) ∙ (sym c.is_unbroken.ensures ∙ c.if-not-is_unbroken.false))).1

pub returns-then-not-is_unbroken-clause-value : goal.returns-then-not-is_unbroken-clause-value
returns-then-not-is_unbroken-clause-value c =
    sym (ap (λ t. cond t (valued_at (scope_at c.args.names.scope.now) c.args.signed c.args.range (tree_of c.args.value.now)) None)
    (right_so (scope_at c.args.names.scope.now) c.args.range (tree_of c.args.value.now) (position_of c.place_of-place.result) c.place_of-place.ensures
    (sym (ap unbroken c.judged_in-judged.ensures.broken) ∙ (sym c.is_unbroken.ensures ∙ c.if-not-is_unbroken.true))))

pub returns-clause-value : goal.returns-clause-value
returns-clause-value c =
    c.valued.ensures.value
    ∙ sym (ap (λ t. cond t (valued_at (scope_at c.args.names.scope.now) c.args.signed c.args.range (tree_of c.args.value.now)) None)
    (right_so (scope_at c.args.names.scope.now) c.args.range (tree_of c.args.value.now) (position_of c.place_of-place.result) c.place_of-place.ensures
    (sym (ap unbroken c.judged_in-judged.ensures.broken) ∙ (sym c.is_unbroken.ensures ∙ c.if-not-is_unbroken.false))))
