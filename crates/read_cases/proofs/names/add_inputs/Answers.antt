use Rattle.std.proofs.Common.{arith, refl}
use Rattle.read_cases.specs.Named.{AreNamesInInput}
use Rattle.read_cases.proofs.Naming.{added_none, added_turn, added_end, added_as, input_named}
use Rattle.read_cases.proofs.names.add_inputs.Goals as goal

pub loop-input-init : goal.loop-input-init
loop-input-init c = added_none c.args.names.now.items refl

pub loop-input-preserved : goal.loop-input-preserved
loop-input-preserved c =
    added_turn AreNamesInInput c.args.names.now.items c.loop-input.names.items c.add_text.new.names.items c.args.inputs.now c.loop-input.input-index c.input-item.result _ (omega arith)
    c.input-item.is c.loop-input.invariant (added_as _ _ (input_named c.input-item.result) c.in_ok-add_text.ensures)

pub returns : goal.returns
returns c = added_end AreNamesInInput c.args.names.now.items c.loop-input.names.items c.args.inputs.now c.loop-input.input-index (omega arith) c.loop-input.invariant
