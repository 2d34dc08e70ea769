use Rattle.std.proofs.Common.{◌∙◌, ap}
use Rattle.v_value.specs.Scope.{object_of, scope_at}
use Rattle.v_syntax.specs.Tree.{selects_of}
use Rattle.v_size.specs.declared.rule.Judged.{Judged}
use Rattle.v_size.specs.Judged.{name_at}
use Rattle.v_size.proofs.Assigned.{numbered-broken, numbered-width}
use Rattle.v_size.proofs.breaking.place_in.Goals as goal

pub returns-clause-broken : goal.returns-clause-broken
returns-clause-broken c =
    ap (λ (j : Judged). j.broken) c.named-judged.ensures
    ∙ ap (λ o. (name_at (scope_at c.args.names.scope.now) c.args.place o (selects_of c.args.selects.now)).broken) c.numbered.ensures
    ∙ numbered-broken (scope_at c.args.names.scope.now) c.args.place (object_of c.args.object) (selects_of c.args.selects.now)

pub returns-clause-width : goal.returns-clause-width
returns-clause-width c =
    ap (λ (j : Judged). j.width) c.named-judged.ensures
    ∙ ap (λ o. (name_at (scope_at c.args.names.scope.now) c.args.place o (selects_of c.args.selects.now)).width) c.numbered.ensures
    ∙ numbered-width (scope_at c.args.names.scope.now) c.args.place (object_of c.args.object) (selects_of c.args.selects.now)
