use Rattle.std.proofs.Common.{drop}
use Rattle.v_value.specs.Scope.{scope_at}
use Rattle.v_masks.specs.Masks.{mask_under}
use Rattle.v_drivers.specs.Lists.{sets_in}
use Rattle.v_drivers.proofs.Walking.{IsWalked}
use Rattle.v_drivers.proofs.table.two_meet.Given as goal

abbrev pub invariant-loop-driver : goal.invariant-loop-driver
invariant-loop-driver l = IsWalked (scope_at l.scope) (mask_under l.table) (sets_in l.drivers) (sets_in (drop l.driver-index l.drivers))
