use Rattle.std.proofs.Common.{◌∙◌, ap}
use Rattle.verilog_designs.specs.Reads.{and_in}
use Rattle.v_flow.specs.Spans.{bits_in}
use Rattle.v_paths.proofs.mask.met.Goals as goal

pub returns : goal.returns
returns c = c.in_ok-both.ensures ∙ ap (and_in (bits_in c.args.second.now)) c.in_ok-table.ensures
