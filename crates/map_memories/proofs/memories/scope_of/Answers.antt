use Rattle.v_syntax.specs.Source.{module_of}
use Rattle.map_memories.proofs.memories.scope_of.Goals as goal

pub returns : goal.returns
returns c = c.in_ok-scope.ensures (module_of c.args.place.now.within.now) c.in_ok-names.ensures
