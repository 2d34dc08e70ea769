use Rattle.verilog_designs.specs.Known.{known_constants}
use Rattle.std.proofs.Common.{None, ap, ◌∙◌}
use Rattle.verilog_designs.specs.Accepted.{is_wide_clock}
use Rattle.v_syntax.specs.Source.{module_of}
use Rattle.v_named.proofs.Breadth.{as_top, no_input, an_input}
use Rattle.v_named.proofs.clock.has_no_clock.Goals as goal

pub returns-then-not-is_input_port : goal.returns-then-not-is_input_port
returns-then-not-is_input_port c =
    let m = module_of c.args.within.now in
    no_input (as_top m (known_constants m (λ n. None))) c.args.clock.now _ c.is_input_port.ensures c.if-not-is_input_port.true

pub returns : goal.returns
returns c =
    let m = module_of c.args.within.now in
    an_input (as_top m (known_constants m (λ n. None))) c.args.clock.now _ c.in_ok-wide.wide c.is_input_port.ensures c.if-not-is_input_port.false
    (c.in_ok-wide.ensures ∙ ap (λ es. is_wide_clock (as_top m es) c.args.clock.now) c.in_ok-known.ensures.constants)
