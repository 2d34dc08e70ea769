use Rattle.std.proofs.Common.{arith}
use Rattle.model_meaning.specs.Model.{states_of}
use Rattle.wb_terms.specs.Sort.{as_sort}
use Rattle.ila_model.specs.Model.{model_of}
use Rattle.read_cases.proofs.Models.{states_turn, all_states, inputs_are_words}
use Rattle.read_cases.proofs.sound.model_is_sound.Goals as goal

pub loop-place-init : goal.loop-place-init
loop-place-init c = λ k d lt at. absurd (omega (arith, lt))

pub loop-place-preserved : goal.loop-place-preserved
loop-place-preserved c =
    states_turn (states_of (model_of c.args.model.now).top) c.loop-place.place (as_sort c.state_sort.result) c.state_sort.ensures.sort c.state_sort.ensures.in_range
    c.loop-place.invariant

pub returns : goal.returns
returns c =
    record {
      kept = c.args.model.now.kept;
      sorts = all_states (states_of (model_of c.args.model.now).top) c.loop-place.place (omega arith) c.loop-place.invariant;
      inputs = inputs_are_words c.args.model.now.parts c.args.model.now.well_sorted;
    }
