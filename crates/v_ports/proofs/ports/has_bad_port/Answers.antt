use Rattle.std.proofs.Common.{◌∙◌, ap, map}
use Rattle.verilog_meaning.specs.Expression.{scope_of}
use Rattle.verilog_designs.specs.Ports.{has_bad_instance}
use Rattle.v_syntax.specs.Source.{item_of, module_of}
use Rattle.v_ports.proofs.Placed.{found_own, found_connected}
use Rattle.v_ports.proofs.ports.has_bad_port.Goals as goal

pub returns-then-branch : goal.returns-then-branch
returns-then-branch c = λ source p so of_m rows.
    found_own source p (module_of c.args.within.now) c.in_ok-has_bad_declaration.field-0 of_m (c.in_ok-has_bad_declaration.ensures (scope_of p.constants) rows) c.if-branch.true

pub returns : goal.returns
returns c = λ source p so of_m rows.
    found_connected source p (module_of c.args.within.now) c.in_ok-has_bad_declaration.field-0 c.in_ok-bad.bad of_m (c.in_ok-has_bad_declaration.ensures (scope_of p.constants) rows) c.if-branch.false
    (c.in_ok-bad.ensures source so ∙ ap (λ xs. has_bad_instance source (map item_of xs)) c.deref.ensures.value)
