use Rattle.std.proofs.Common.{ap, subst, arith}
use Rattle.std.proofs.lemmas.List.{at_drop_all}
use Rattle.verilog_meaning.specs.Statement.{greatest_width, all_signed}
use Rattle.v_syntax.specs.Tree.{expressions_of}
use Rattle.v_value.specs.Scope.{scope_at}
use Rattle.v_value.specs.Narrow.{AreNarrow}
use Rattle.v_statement.proofs.Runs.{rest_is}
use Rattle.v_paths.proofs.Labels.{width-turn, signed-turn, width-end, signed-end}
use Rattle.v_paths.proofs.full.joined_all.Goals as goal

pub joined-context-requires : goal.joined-context-requires
joined-context-requires c =
    let s = scope_at c.args.scope.now in
    let rest = rest_is c.args.labels.now c.loop-label.label-index c.label-item.result (omega arith) c.label-item.is in
    (subst (λ es. AreNarrow s (expressions_of es)) rest c.loop-label.invariant.narrow).0

pub loop-label-preserved : goal.loop-label-preserved
loop-label-preserved c =
    let s = scope_at c.args.scope.now in
    let rest = rest_is c.args.labels.now c.loop-label.label-index c.label-item.result (omega arith) c.label-item.is in
    record {
      width = width-turn _ _ _ _ _ _ c.loop-label.invariant.width (ap (λ es. greatest_width s (expressions_of es)) rest) c.joined-context.ensures.width;
      signed = signed-turn _ _ _ _ _ _ c.loop-label.invariant.signed (ap (λ es. all_signed s (expressions_of es)) rest) c.joined-context.ensures.signed;
      narrow = (subst (λ es. AreNarrow s (expressions_of es)) rest c.loop-label.invariant.narrow).1;
    }

pub returns-clause-width : goal.returns-clause-width
returns-clause-width c =
    width-end _ _ _ c.loop-label.invariant.width
    (at_drop_all (λ es. greatest_width (scope_at c.args.scope.now) (expressions_of es)) c.args.labels.now c.loop-label.label-index c.loop-label-test.false)

pub returns-clause-signed : goal.returns-clause-signed
returns-clause-signed c =
    signed-end _ _ _ c.loop-label.invariant.signed
    (at_drop_all (λ es. all_signed (scope_at c.args.scope.now) (expressions_of es)) c.args.labels.now c.loop-label.label-index c.loop-label-test.false)
