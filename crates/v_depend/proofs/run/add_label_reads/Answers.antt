use Rattle.std.proofs.Common.{◌∙◌, ap}
use Rattle.std.proofs.lemmas.Result.{on_ok_weaker}
use Rattle.verilog_designs.specs.Reads.{or_in}
use Rattle.v_value.specs.Scope.{scope_at}
use Rattle.v_flow.specs.Spans.{bits_in}
use Rattle.v_flow.proofs.Sets.{nothing}
use Rattle.v_flow.proofs.Flows as flow
use Rattle.v_depend.proofs.Runs as runs
use Rattle.v_depend.proofs.run.add_label_reads.Goals as goal

pub add_all_reads-requires-clause-narrow : goal.add_all_reads-requires-clause-narrow
add_all_reads-requires-clause-narrow c =
    flow.narrow-Values (scope_at c.args.scope.now) c.args.item.now c.in-Values.values c.in-Values.field-1 c.in-Values.is c.requires.narrow c.deref.result.now c.deref.ensures.value

pub returns-in-Values : goal.returns-in-Values
returns-in-Values c =
    on_ok_weaker c.add_all_reads.result
    (λ k. k ∙ ap (or_in (bits_in c.args.found.now.items)) (runs.label-Values (scope_at c.args.scope.now) c.args.item.now c.in-Values.values c.in-Values.field-1 c.in-Values.is c.deref.result.now c.deref.ensures.value))
    c.add_all_reads.ensures

pub returns-in-Default : goal.returns-in-Default
returns-in-Default c = nothing _ _ (runs.label-Default (scope_at c.args.scope.now) c.args.item.now c.in-Default.field-0 c.in-Default.is)
