use Rattle.v_syntax.specs.Source.{module_of}
use Rattle.v_judged.proofs.scopes.scope_of.Goals as goal

pub laid-requires-clause-rows : goal.laid-requires-clause-rows
laid-requires-clause-rows c = c.in_ok-names.ensures

pub laid-requires-clause-whole : goal.laid-requires-clause-whole
laid-requires-clause-whole c = λ n i. c.in_ok-scope.ensures (module_of c.args.place.now.within.now) c.in_ok-names.ensures i n
