use Rattle.std.proofs.Common.{arith, refl}
use Rattle.read_cases.specs.Named.{AreNamesInState}
use Rattle.read_cases.proofs.Naming.{added_none, added_turn, added_end}
use Rattle.read_cases.proofs.names.add_states.Goals as goal

pub loop-state-init : goal.loop-state-init
loop-state-init c = added_none c.args.names.now.items refl

pub loop-state-preserved : goal.loop-state-preserved
loop-state-preserved c =
    added_turn AreNamesInState c.args.names.now.items c.loop-state.names.items c.add_state.new.names.items c.args.states.now c.loop-state.state-index c.state-item.result _ (omega arith)
    c.state-item.is c.loop-state.invariant c.in_ok-add_state.ensures

pub returns : goal.returns
returns c = added_end AreNamesInState c.args.names.now.items c.loop-state.names.items c.args.states.now c.loop-state.state-index (omega arith) c.loop-state.invariant
