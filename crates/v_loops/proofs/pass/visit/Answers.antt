use Rattle.std.proofs.Common.{◌∙◌, ap, refl}
use Rattle.verilog_designs.specs.Reads.{or_in, but_not_in}
use Rattle.v_value.specs.Scope.{scope_at}
use Rattle.v_flow.specs.Spans.{bits_in}
use Rattle.v_masks.specs.Masks.{masked, spread}
use Rattle.v_order.specs.Lists.{statement_in}
use Rattle.v_loops.proofs.Passing.{visited}
use Rattle.v_loops.proofs.pass.visit.Goals as goal

pub settled_by-requires-clause-fit : goal.settled_by-requires-clause-fit
settled_by-requires-clause-fit c = c.requires.fit

pub settled_by-requires-clause-variables : goal.settled_by-requires-clause-variables
settled_by-requires-clause-variables c = c.requires.variables

pub returns : goal.returns
returns c =
    visited (scope_at c.args.scope.now) (statement_in c.args.driver) (masked c.args.unsettled.now) (masked c.remove.new.table) (masked c.args.shared.now)
    (bits_in c.in_ok-settled.settled.items) (bits_in c.add_left.new.found.items) (bits_in c.new-own.result.items) c.requires.variables
    c.in_ok-settled.ensures (λ u k. refl) (ap bits_in c.new-own.ensures.items)
    (c.in_ok-add_left.ensures ∙ ap (λ ys. or_in (bits_in c.new-own.result.items) (but_not_in (bits_in ys) (masked c.args.shared.now))) c.deref.ensures.value)
    (c.in_ok-remove.ensures ∙ ap (λ ys. but_not_in (masked c.args.unsettled.now) (spread (bits_in ys))) c.deref-3.ensures.value)
