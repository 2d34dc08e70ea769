use Rattle.std.proofs.Common.{subst, sym}
use Rattle.std.specs.Prelude.{◌↔◌, IsTrue}
use Rattle.verilog_designs.specs.Dependence.{Bit, is_in}
use Rattle.v_value.specs.Scope.{scope_at}
use Rattle.v_masks.specs.Masks.{masked}
use Rattle.v_depend.specs.Resting.{IsThere, RestsAfter}
use Rattle.v_depend.specs.Running.{IsFit}
use Rattle.v_order.specs.declared.driver.Driver.{Driver}
use Rattle.v_order.specs.Lists.{statement_in}
use Rattle.v_reach.proofs.driver.run.Goals as goal

pub take-requires-clause-target : goal.take-requires-clause-target
take-requires-clause-target c = (subst (λ (d : Driver). IsFit (scope_at c.args.scope.now) (statement_in d)) c.in-Link.is c.requires.fit).narrow.0

pub take-requires-clause-value : goal.take-requires-clause-value
take-requires-clause-value c = (subst (λ (d : Driver). IsFit (scope_at c.args.scope.now) (statement_in d)) c.in-Link.is c.requires.fit).narrow.1

pub take-requires-clause-at_most_128 : goal.take-requires-clause-at_most_128
take-requires-clause-at_most_128 c = (subst (λ (d : Driver). IsFit (scope_at c.args.scope.now) (statement_in d)) c.in-Link.is c.requires.fit).targets

pub take-requires-clause-reached : goal.take-requires-clause-reached
take-requires-clause-reached c = (subst (λ (d : Driver). IsFit (scope_at c.args.scope.now) (statement_in d)) c.in-Link.is c.requires.fit).plain

pub take-requires-clause-variables : goal.take-requires-clause-variables
take-requires-clause-variables c = c.requires.variables

pub returns-in_ok-take-in-Link : goal.returns-in_ok-take-in-Link
returns-in_ok-take-in-Link c =
    subst (λ (d : Driver). (u : Bit) → IsThere (scope_at c.args.scope.now) u
    → IsTrue (is_in (masked c.take.new.unsettled) u) ↔ RestsAfter (masked c.args.marked.now) (scope_at c.args.scope.now) (statement_in d) u)
    (sym c.in-Link.is) c.in_ok-take-in-Link.ensures

pub run_net-requires-clause-fit : goal.run_net-requires-clause-fit
run_net-requires-clause-fit c = subst (λ (d : Driver). IsFit (scope_at c.args.scope.now) (statement_in d)) c.in-Net.is c.requires.fit

pub run_net-requires-clause-variables : goal.run_net-requires-clause-variables
run_net-requires-clause-variables c = c.requires.variables

pub returns-in_ok-run_net-in-Net : goal.returns-in_ok-run_net-in-Net
returns-in_ok-run_net-in-Net c =
    subst (λ (d : Driver). (u : Bit) → IsThere (scope_at c.args.scope.now) u
    → IsTrue (is_in (masked c.run_net.new.marked) u) ↔ RestsAfter (masked c.args.marked.now) (scope_at c.args.scope.now) (statement_in d) u)
    (sym c.in-Net.is) c.in_ok-run_net-in-Net.ensures

pub after-requires-clause-narrow : goal.after-requires-clause-narrow
after-requires-clause-narrow c = (subst (λ (d : Driver). IsFit (scope_at c.args.scope.now) (statement_in d)) c.in-Block.is c.requires.fit).narrow

pub after-requires-clause-targets : goal.after-requires-clause-targets
after-requires-clause-targets c = (subst (λ (d : Driver). IsFit (scope_at c.args.scope.now) (statement_in d)) c.in-Block.is c.requires.fit).targets

pub after-requires-clause-plain : goal.after-requires-clause-plain
after-requires-clause-plain c = (subst (λ (d : Driver). IsFit (scope_at c.args.scope.now) (statement_in d)) c.in-Block.is c.requires.fit).plain

pub after-requires-clause-variables : goal.after-requires-clause-variables
after-requires-clause-variables c = c.requires.variables

pub returns-in_ok-after-in-Block : goal.returns-in_ok-after-in-Block
returns-in_ok-after-in-Block c =
    subst (λ (d : Driver). (u : Bit) → IsThere (scope_at c.args.scope.now) u
    → IsTrue (is_in (masked c.after.new.unsettled) u) ↔ RestsAfter (masked c.args.marked.now) (scope_at c.args.scope.now) (statement_in d) u)
    (sym c.in-Block.is) c.in_ok-after-in-Block.ensures
