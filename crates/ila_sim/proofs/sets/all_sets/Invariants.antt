use Rattle.std.proofs.Common.{◌≡◌, IsTrue, length, map}
use Rattle.scripts.specs.Script.{all_sets, words_of}
use Rattle.ila_sim.specs.Names.{settable_of}
use Rattle.ila_sim.specs.Reading.{onto}
use Rattle.ila_sim.specs.Sets.{set_at, are_right}
use Rattle.ila_sim.proofs.sets.all_sets.Given as goal

abbrev pub invariant-loop-word : goal.invariant-loop-word
invariant-loop-word l = record {
  read : all_sets (map settable_of l.index.settables.now) (words_of l.line) ≡ onto (map (set_at (map settable_of l.index.settables.now)) l.sets.items) (all_sets (map settable_of l.index.settables.now) (words_of l.rest));
  right : IsTrue (are_right (map settable_of l.index.settables.now) l.sets.items);
}

abbrev pub decreases-loop-word : goal.decreases-loop-word
decreases-loop-word l = length l.rest
