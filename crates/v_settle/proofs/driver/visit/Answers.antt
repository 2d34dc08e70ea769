use Rattle.std.proofs.Common.{◌∙◌, ap, subst}
use Rattle.std.specs.Prelude.{IsTrue, ◌↔◌}
use Rattle.verilog_designs.specs.Reads.{but_not_in}
use Rattle.v_operators.proofs.Growing.{Grows-refl}
use Rattle.v_value.specs.Scope.{scope_at}
use Rattle.v_lower.specs.Table.{images_at}
use Rattle.v_flow.specs.Spans.{bits_in}
use Rattle.v_masks.specs.Masks.{masked, spread}
use Rattle.v_depend.specs.Resting.{OneIsUnsettled}
use Rattle.v_order.specs.Lists.{statement_in}
use Rattle.v_settle.specs.Turns.{state_of}
use Rattle.v_settle.proofs.Visits.{passed, evaluated}
use Rattle.v_settle.proofs.driver.visit.Goals as goal

pub settled_by-requires-clause-fit : goal.settled_by-requires-clause-fit
settled_by-requires-clause-fit c = c.requires.fit

pub settled_by-requires-clause-variables : goal.settled_by-requires-clause-variables
settled_by-requires-clause-variables c = c.requires.opens.plain

pub lower_driver-requires-clause-known : goal.lower_driver-requires-clause-known
lower_driver-requires-clause-known c = c.requires.opens.known

pub lower_driver-requires-clause-known_spare : goal.lower_driver-requires-clause-known_spare
lower_driver-requires-clause-known_spare c = c.requires.opens.known_spare

pub lower_driver-requires-clause-sound : goal.lower_driver-requires-clause-sound
lower_driver-requires-clause-sound c = c.requires.sound

pub lower_driver-requires-clause-fit : goal.lower_driver-requires-clause-fit
lower_driver-requires-clause-fit c = c.requires.fit

pub returns-then-not-some-clause-grows : goal.returns-then-not-some-clause-grows
returns-then-not-some-clause-grows c = Grows-refl c.args.terms.now

pub returns-then-not-some-clause-visited : goal.returns-then-not-some-clause-visited
returns-then-not-some-clause-visited c =
    passed (scope_at c.args.scope.now) (statement_in c.args.driver) (state_of (images_at c.args.table.now) (images_at c.args.spare.now) c.args.terms.now (masked c.args.unsettled.now))
    c.requires.opens (bits_in c.in_ok-settled.settled.items) c.in_ok-settled.ensures c.meets-some.result
    (subst (λ xs. IsTrue c.meets-some.result ↔ OneIsUnsettled (masked c.args.unsettled.now) (bits_in xs)) c.deref.ensures.value c.meets-some.ensures) c.if-not-some.true

pub returns-clause-grows : goal.returns-clause-grows
returns-clause-grows c = c.in_ok-lower_driver.ensures.grows

pub returns-clause-visited : goal.returns-clause-visited
returns-clause-visited c =
    evaluated (scope_at c.args.scope.now) (statement_in c.args.driver) (state_of (images_at c.args.table.now) (images_at c.args.spare.now) c.args.terms.now (masked c.args.unsettled.now))
    c.requires.opens (bits_in c.in_ok-settled.settled.items) c.in_ok-settled.ensures (masked c.remove.new.table)
    (c.in_ok-remove.ensures ∙ ap (λ ys. but_not_in (masked c.args.unsettled.now) (spread (bits_in ys))) c.deref-2.ensures.value)
    (images_at c.lower_driver.new.table) (images_at c.lower_driver.new.spare) c.lower_driver.new.terms c.in_ok-lower_driver.ensures.lowered

pub returns-in_err-settled-clause-grows : goal.returns-in_err-settled-clause-grows
returns-in_err-settled-clause-grows c = Grows-refl c.args.terms.now

pub returns-in_err-remove-clause-grows : goal.returns-in_err-remove-clause-grows
returns-in_err-remove-clause-grows c = Grows-refl c.args.terms.now
