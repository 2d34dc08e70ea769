use Rattle.std.proofs.Common.{arith, drop}
use Rattle.std.proofs.lemmas.List.{at_drop_all}
use Rattle.v_renamed.specs.NewNames.{new_name}
use Rattle.map_inputs.proofs.Renaming.{begun-so, turn-at, ended-so}
use Rattle.map_inputs.proofs.uses.all_renamed.Goals as goal

pub loop-span-init : goal.loop-span-init
loop-span-init c = begun-so (new_name c.args.names.now) c.args.spans.now c.new-found.result.items c.new-found.ensures.items

pub loop-span-preserved : goal.loop-span-preserved
loop-span-preserved c =
    turn-at (new_name c.args.names.now) c.args.spans.now c.loop-span.span-index _ _ _ _ (omega arith) c.renamed.ensures c.in_ok-push.ensures.items c.loop-span.invariant

pub returns : goal.returns
returns c =
    ended-so (new_name c.args.names.now) c.args.spans.now (drop c.loop-span.span-index c.args.spans.now) c.loop-span.found.items
    (at_drop_all (λ xs. xs) c.args.spans.now c.loop-span.span-index c.loop-span-test.false) c.loop-span.invariant
