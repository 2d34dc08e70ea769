use Rattle.v_value.specs.Scope.{scope_at}
use Rattle.v_size.specs.Rule.{position_of}
use Rattle.v_rules.proofs.Parts as parts
use Rattle.v_rules.proofs.target.+target.Goals as goal

pub judged_target-returns-in-Place : goal.judged_target-returns-in-Place
judged_target-returns-in-Place t c =
    parts.at-Place (scope_at c.args.names.scope.now) (position_of c.args.position) c.args.target.now c.judged_place.result c.in-Place.name c.in-Place.selects c.in-Place.is c.judged_place.ensures

pub judged_target-returns-in-Joined : goal.judged_target-returns-in-Joined
judged_target-returns-in-Joined t c =
    parts.at-Joined (scope_at c.args.names.scope.now) (position_of c.args.position) c.args.target.now c.whole.result c.in-Joined.targets c.in-Joined.is c.deref.result.now c.deref.ensures.value
    c.judged_targets.result c.judged_targets.ensures c.whole.ensures
