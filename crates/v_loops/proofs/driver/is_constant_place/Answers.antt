use Rattle.std.proofs.Common.{◌∙◌}
use Rattle.v_value.specs.Scope.{scope_at}
use Rattle.v_loops.proofs.Constant.{constant-Place, constant-Joined}
use Rattle.v_loops.proofs.driver.is_constant_place.Goals as goal

pub returns-in-Place : goal.returns-in-Place
returns-in-Place c = c.are_constant_selects.ensures ∙ constant-Place (scope_at c.args.scope.now) c.args.target.now c.in-Place.field-0 c.in-Place.selects c.in-Place.is

pub returns-in-Joined : goal.returns-in-Joined
returns-in-Joined c = constant-Joined (scope_at c.args.scope.now) c.args.target.now c.in-Joined.field-0 c.in-Joined.is
