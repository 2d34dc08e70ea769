use Rattle.std.proofs.Common.{refl, arith}
use Rattle.map_trees.specs.declared.trees.InstructionTree.{InstructionTree}
use Rattle.map_terms.specs.Places.{first_places_at}
use Rattle.map_terms.proofs.Firsts.{first_turn}
use Rattle.map_terms.proofs.places.places_of_instructions.Goals as goal

pub loop-place-preserved : goal.loop-place-preserved
loop-place-preserved c =
    first_turn (λ (e : InstructionTree). e.name.now) c.args.entries.now c.loop-place.place _ (first_places_at c.loop-place.places) (first_places_at c.add.new.self) _
    (omega arith) refl c.in_ok-add.ensures c.loop-place.invariant
