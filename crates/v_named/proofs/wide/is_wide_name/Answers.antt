use Rattle.std.proofs.Common.{ap, sym, subst, false, ◌||◌, ◌∙◌, map}
use Rattle.v_syntax.specs.Source.{parameter_of, item_of, module_of}
use Rattle.v_value.specs.Scope.{objects_of, scope_at}
use Rattle.verilog_designs.specs.Names.{is_among, parameter_names}
use Rattle.v_named.specs.Before.{IsBefore, wide_in}
use Rattle.v_named.proofs.Earlier.{begun}
use Rattle.v_named.proofs.Breadth.{header_before, wide_header, wide_later}
use Rattle.v_named.proofs.wide.is_wide_name.Goals as goal

pub returns-then-is_wide_header : goal.returns-then-is_wide_header
returns-then-is_wide_header c =
    let s = scope_at c.args.constants.scope.now in
    let m = module_of c.args.within.now in
    wide_header m (objects_of c.args.constants.scope.now.declarations.items) _ c.args.name.now
    (header_before _ s (parameter_names m.parameters)
    (subst (λ ds. IsBefore (objects_of c.in_ok-before.before.scope.declarations.items) s (λ n. is_among (parameter_names (map parameter_of ds)) n || false)) c.deref.ensures.value
    (c.in_ok-before.ensures (λ n. false) (subst (λ ds. IsBefore (objects_of ds) s (λ n. false)) (sym c.none.ensures) (begun s)))))
    _ c.is_wide_header.ensures c.if-is_wide_header.true

pub returns : goal.returns
returns c =
    let s = scope_at c.args.constants.scope.now in
    let m = module_of c.args.within.now in
    let before = header_before _ s (parameter_names m.parameters)
    (subst (λ ds. IsBefore (objects_of c.in_ok-before.before.scope.declarations.items) s (λ n. is_among (parameter_names (map parameter_of ds)) n || false)) c.deref.ensures.value
    (c.in_ok-before.ensures (λ n. false) (subst (λ ds. IsBefore (objects_of ds) s (λ n. false)) (sym c.none.ensures) (begun s)))) in
    wide_later m (objects_of c.args.constants.scope.now.declarations.items) _ c.args.name.now before
    _ c.is_wide_header.ensures _ c.if-is_wide_header.false
    (c.in_ok-wide.ensures (is_among (parameter_names m.parameters)) before
    ∙ ap (λ is. wide_in s (is_among (parameter_names m.parameters)) c.args.name.now (map item_of is)) c.deref-2.ensures.value)
