use Rattle.std.proofs.Common.{◌∙◌, ◌++◌, ap, sym, subst, map}
use Rattle.verilog_meaning.specs.Register.{clocked_blocks, updates_of_blocks}
use Rattle.v_value.specs.Scope.{scope_at, valuation_at}
use Rattle.v_syntax.specs.Source.{item_of}
use Rattle.v_statement.specs.Places.{updates_of}
use Rattle.v_statement.specs.Registers.{AreNarrowUpdates}
use Rattle.v_statement.proofs.Edges.{blocks-narrow}
use Rattle.v_statement.proofs.register.after_edge.Goals as goal

pub apply-requires-clause-narrow : goal.apply-requires-clause-narrow
apply-requires-clause-narrow c =
    let s = scope_at c.args.scope.now in
    let blocks = clocked_blocks (map item_of c.args.items.now) in
    let v = valuation_at c.deref.result.now in
    subst AreNarrowUpdates
    (sym (ap updates_of c.deref-3.ensures.value ∙ c.in_ok-add_clocked.ensures ∙ ap (λ us. updates_of us ++ updates_of_blocks s v blocks) c.new-updates.ensures.items))
    (blocks-narrow s v blocks c.requires.narrow)
