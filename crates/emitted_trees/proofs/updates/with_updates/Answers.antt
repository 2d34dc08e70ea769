use Rattle.std.proofs.Common.{◌∷◌, [], List, arith, map, refl}
use Rattle.ila_model.specs.declared.parts.Update.{Update}
use Rattle.v_syntax.specs.Tree.{statement_of}
use Rattle.emitted_modules.specs.Nodes.{operand}
use Rattle.emitted_modules.specs.Module.{updates_for}
use Rattle.emitted_trees.specs.Items.{take_statements}
use Rattle.emitted_names.proofs.Bounds.{update_within}
use Rattle.emitted_names.proofs.Turns.{onward_by, ended_by}
use Rattle.emitted_trees.proofs.Written.{takes_split}
use Rattle.emitted_trees.proofs.updates.with_updates.Goals as goal

pub with_update-requires : goal.with_update-requires
with_update-requires c =
    let b = update_within c.args.wires.terms.now c.args.updates.now c.loop-place.place c.update_at.result c.requires.within c.update_at.ensures in
    record { decode = c.requires.decode; state = b.0; term = b.1; named = c.requires.named }

pub loop-place-preserved : goal.loop-place-preserved
loop-place-preserved c =
    let g = c.args.wires.terms.now in
    let d = operand g c.args.decode.0 in
    onward_by (λ (us : List Update). take_statements d (updates_for g us)) (λ (u : Update). take_statements d (updates_for g (u ∷ []))) (takes_split g d) c.args.updates.now c.loop-place.place c.update_at.result _
    (map statement_of c.loop-place.all.items) _ c.update_at.ensures c.loop-place.invariant c.in_ok-all.ensures

pub returns : goal.returns
returns c =
    let g = c.args.wires.terms.now in
    ended_by (λ (us : List Update). take_statements (operand g c.args.decode.0) (updates_for g us)) refl c.args.updates.now c.loop-place.place _ (map statement_of c.loop-place.all.items)
    (omega (arith, c.loop-place-test.false)) c.loop-place.invariant
