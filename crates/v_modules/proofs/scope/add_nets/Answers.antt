use Rattle.std.proofs.Common.{◌≡◌, ◌++◌, ◌+◌, ◌∙◌, refl, ap, sym, subst, arith, drop}
use Rattle.v_hier.specs.Tables.{has_name}
use Rattle.v_value.specs.Scope.{objects_of, scope_at}
use Rattle.v_scopes.specs.Rows.{rows_of}
use Rattle.v_modules.specs.Combined.{narrowed, as_net, nets_by}
use Rattle.v_modules.proofs.Nets.{parameter-turn, net-turn, nets-end}
use Rattle.v_modules.proofs.scope.add_nets.Goals as goal
use Rattle.v_modules.proofs.scope.add_nets.Goals.{then-not-contains+in_ok-push, else-not-contains}

pub loop-each-preserved : goal.loop-each-preserved
loop-each-preserved c =
    let p = has_name c.args.parameters.now in
    let s = scope_at c.args.names.now in
    let ds = c.args.declared.now in
    let whole = objects_of c.args.list.now.items ++ nets_by p s (rows_of ds) in
    let rest = nets_by p s (rows_of (drop (c.loop-each.each-index + 1) ds)) in
    elim c.if-not-contains.branch [
      | then-not-contains+in_ok-push w ↦
          subst (λ t. objects_of t.items ++ rest ≡ whole) (sym w.list-is)
          (net-turn p s ds c.loop-each.each-index _ c.loop-each.list.items whole c.loop-each-test.true c.contains.result c.contains.ensures c.loop-each.invariant
          w.push.new.self.items _ w.if-not-contains.true w.in_ok-push.ensures.items refl (w.net_of.ensures ∙ ap (λ o. as_net (narrowed o)) w.object.ensures))
      | else-not-contains w ↦
          subst (λ t. objects_of t.items ++ rest ≡ whole) (sym w.list-is)
          (parameter-turn p s ds c.loop-each.each-index _ c.loop-each.list.items whole c.loop-each-test.true c.contains.result c.contains.ensures c.loop-each.invariant w.if-not-contains.false)
    ]

pub returns : goal.returns
returns c =
    nets-end (has_name c.args.parameters.now) (scope_at c.args.names.now) c.args.declared.now c.loop-each.each-index c.loop-each.list.items _ (omega (arith, c.loop-each-test.false)) c.loop-each.invariant
