use Rattle.v_value.specs.Scope.{object_of, scope_at}
use Rattle.v_syntax.specs.Tree.{selects_of}
use Rattle.v_instances.proofs.Written.{place-by}
use Rattle.v_instances.proofs.output.judged_place.Goals as goal

pub returns : goal.returns
returns c =
    place-by (scope_at c.args.names.scope.now) c.args.name.now (selects_of c.args.selects.now) (object_of c.object-object.result) c.object-object.ensures
    c.place_in-found.result.0 c.place_in-found.ensures.broken c.place_in-found.result.1 c.place_in-found.ensures.width c.capped.result c.capped.ensures c.is_memory.result c.is_memory.ensures
