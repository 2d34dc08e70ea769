use Rattle.std.proofs.Common.{◌∙◌, ap, sym, subst}
use Rattle.std.specs.Prelude.{map}
use Rattle.v_value.specs.Scope.{scope_at}
use Rattle.v_syntax.specs.Source.{item_of}
use Rattle.v_drivers.specs.Bits.{AreOfBits}
use Rattle.v_drivers.specs.Lists.{sets_in}
use Rattle.v_drivers.proofs.Driving.{drivers-bits}
use Rattle.v_drivers.proofs.module.has_two_drivers.Goals as goal

pub two_meet-requires : goal.two_meet-requires
two_meet-requires c =
    let s = scope_at c.args.scope.now in
    record { bits = subst (AreOfBits s) (sym (ap sets_in c.deref.ensures.value ∙ c.in_ok-found.ensures)) (drivers-bits s (map item_of c.args.items.now)) }
