use Rattle.std.proofs.Common.{sym, subst}
use Rattle.v_syntax.specs.Tree.{tree_of, target_of, statement_of}
use Rattle.verilog_trees.specs.Syntax.{place, whole}
use Rattle.v_value.specs.Scope.{scope_at}
use Rattle.v_lower.specs.Table.{images_at}
use Rattle.v_depend.specs.Running.{IsFit}
use Rattle.v_order.specs.declared.driver.Driver.{Driver}
use Rattle.v_order.specs.Lists.{driving_in, statement_in}
use Rattle.v_settle.specs.Drivers.{IsSoundDriving, IsDriverLowered}
use Rattle.v_settle.proofs.Visits.{link-driver, block-driver}
use Rattle.v_settle.proofs.driver.lower_driver.Goals as goal

pub lower_link-requires-clause-sound : goal.lower_link-requires-clause-sound
lower_link-requires-clause-sound c = subst (λ (d : Driver). IsSoundDriving (scope_at c.args.scope.now) (driving_in d)) c.in-Link.is c.requires.sound

pub lower_link-requires-clause-fit : goal.lower_link-requires-clause-fit
lower_link-requires-clause-fit c = subst (λ (d : Driver). IsFit (scope_at c.args.scope.now) (statement_in d)) c.in-Link.is c.requires.fit

pub returns-in_ok-lower_link-in-Link-clause-lowered : goal.returns-in_ok-lower_link-in-Link-clause-lowered
returns-in_ok-lower_link-in-Link-clause-lowered c =
    let s = scope_at c.args.scope.now in
    subst (λ (d : Driver). IsDriverLowered s (images_at c.args.table.now) (images_at c.args.spare.now) c.args.terms.now (statement_in d) (images_at c.lower_link.new.table) (images_at c.args.spare.now) c.lower_link.new.terms)
    (sym c.in-Link.is)
    (link-driver s (images_at c.args.table.now) (images_at c.args.spare.now) c.args.terms.now (target_of c.in-Link.target.now) (tree_of c.in-Link.value.now) (images_at c.lower_link.new.table)
    c.lower_link.new.terms c.requires.known_spare c.in_ok-lower_link-in-Link.ensures.grows c.in_ok-lower_link-in-Link.ensures.lowered)

pub lower_net-requires-clause-sound : goal.lower_net-requires-clause-sound
lower_net-requires-clause-sound c = subst (λ (d : Driver). IsSoundDriving (scope_at c.args.scope.now) (driving_in d)) c.in-Net.is c.requires.sound

pub lower_net-requires-clause-fit : goal.lower_net-requires-clause-fit
lower_net-requires-clause-fit c = subst (λ (d : Driver). IsFit (scope_at c.args.scope.now) (statement_in d)) c.in-Net.is c.requires.fit

pub returns-in_ok-lower_net-in-Net-clause-lowered : goal.returns-in_ok-lower_net-in-Net-clause-lowered
returns-in_ok-lower_net-in-Net-clause-lowered c =
    let s = scope_at c.args.scope.now in
    subst (λ (d : Driver). IsDriverLowered s (images_at c.args.table.now) (images_at c.args.spare.now) c.args.terms.now (statement_in d) (images_at c.lower_net.new.table) (images_at c.args.spare.now) c.lower_net.new.terms)
    (sym c.in-Net.is)
    (link-driver s (images_at c.args.table.now) (images_at c.args.spare.now) c.args.terms.now (place c.in-Net.name.now whole) (tree_of c.in-Net.value.now) (images_at c.lower_net.new.table)
    c.lower_net.new.terms c.requires.known_spare c.in_ok-lower_net-in-Net.ensures.grows c.in_ok-lower_net-in-Net.ensures.lowered)

pub lower_statement-requires-clause-sound : goal.lower_statement-requires-clause-sound
lower_statement-requires-clause-sound c = subst (λ (d : Driver). IsSoundDriving (scope_at c.args.scope.now) (driving_in d)) c.in-Block.is c.requires.sound

pub lower_statement-requires-clause-known : goal.lower_statement-requires-clause-known
lower_statement-requires-clause-known c = c.requires.known

pub lower_statement-requires-clause-known_next : goal.lower_statement-requires-clause-known_next
lower_statement-requires-clause-known_next c = c.requires.known_spare

pub returns-in_ok-lower_statement-in-Block-clause-lowered : goal.returns-in_ok-lower_statement-in-Block-clause-lowered
returns-in_ok-lower_statement-in-Block-clause-lowered c =
    let s = scope_at c.args.scope.now in
    subst (λ (d : Driver). IsDriverLowered s (images_at c.args.table.now) (images_at c.args.spare.now) c.args.terms.now (statement_in d) (images_at c.lower_statement.new.table) (images_at c.lower_statement.new.next) c.lower_statement.new.terms)
    (sym c.in-Block.is)
    (block-driver s (images_at c.args.table.now) (images_at c.args.spare.now) c.args.terms.now (statement_of c.in-Block.block.now) (images_at c.lower_statement.new.table) (images_at c.lower_statement.new.next)
    c.lower_statement.new.terms c.in_ok-lower_statement-in-Block.ensures.lowered)
