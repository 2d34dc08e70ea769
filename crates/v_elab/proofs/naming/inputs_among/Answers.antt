use Rattle.v_elab.specs.Names.{top_front, is_given_input}
use Rattle.v_elab.proofs.Turns.{chosen_turn, left_turn}
use Rattle.v_elab.proofs.naming.inputs_among.Goals as goal

pub loop-name-preserved : goal.loop-name-preserved
loop-name-preserved c =
    record {
      inputs = chosen_turn (is_given_input c.args.names.now c.args.clock.now top_front) c.args.list.now c.loop-name.name-index _ _ _ _ c.loop-name-test.true
          c.loop-name.invariant.inputs c.in_ok-add_name.ensures.inputs;
      others = left_turn (is_given_input c.args.names.now c.args.clock.now top_front) c.args.list.now c.loop-name.name-index _ _ _ _ c.loop-name-test.true
          c.loop-name.invariant.others c.in_ok-add_name.ensures.others;
    }
