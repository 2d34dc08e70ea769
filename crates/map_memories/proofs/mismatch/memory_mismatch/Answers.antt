use Rattle.std.proofs.Common.{subst, map, option_map}
use Rattle.ila_model.specs.Model.{model_of}
use Rattle.map_file.specs.View.{map_view, mapped_view}
use Rattle.map_rules.specs.Accepted.{case_of}
use Rattle.map_rules.specs.Case.{case_design}
use Rattle.map_memories.specs.Mismatch.{IsFirstUnfit}
use Rattle.map_memories.proofs.Entries.{mismatch_told}
use Rattle.map_memories.proofs.mismatch.memory_mismatch.Goals as goal

pub returns : goal.returns
returns c = λ s known.
    let m = model_of c.args.model.now in
    let k = case_of (map_view c.args.map_file.now) m s in
    mismatch_told k (option_map (λ n. n.now) c.in_ok-found.found) _
    (subst (λ es. IsFirstUnfit (case_design k) m (map mapped_view es) (option_map (λ n. n.now) c.in_ok-found.found)) c.deref-4.ensures.value
    (c.in_ok-found.ensures (case_design k) m known (λ q. c.in_ok-sorts.ensures.states q))) c.spot_of_state.ensures
