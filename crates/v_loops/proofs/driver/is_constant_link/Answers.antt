use Rattle.std.proofs.Common.{◌∙◌, ap, sym}
use Rattle.v_value.specs.Scope.{scope_at}
use Rattle.v_order.specs.declared.driver.Driver.{Driver}
use Rattle.v_order.specs.Lists.{driving_in}
use Rattle.v_loops.specs.Turns.{is_constant_link}
use Rattle.v_loops.proofs.driver.is_constant_link.Goals as goal

pub returns-in-Link : goal.returns-in-Link
returns-in-Link c = c.is_constant_place.ensures ∙ ap (λ (d : Driver). is_constant_link (scope_at c.args.scope.now) (driving_in d)) (sym c.in-Link.is)

pub returns-in-Net : goal.returns-in-Net
returns-in-Net c = ap (λ (d : Driver). is_constant_link (scope_at c.args.scope.now) (driving_in d)) (sym c.in-Net.is)

pub returns-in-Block : goal.returns-in-Block
returns-in-Block c = ap (λ (d : Driver). is_constant_link (scope_at c.args.scope.now) (driving_in d)) (sym c.in-Block.is)
