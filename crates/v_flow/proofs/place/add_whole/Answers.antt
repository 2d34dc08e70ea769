use Rattle.std.proofs.Common.{◌∙◌, ap}
use Rattle.v_flow.proofs.Sets.{push}
use Rattle.v_flow.specs.Spans.{bits_in}
use Rattle.verilog_designs.specs.Reads.{or_in}
use Rattle.v_flow.proofs.place.add_whole.Goals as goal

pub returns : goal.returns
returns c = ap bits_in c.in_ok-push.ensures.items ∙ push c.args.found.now.items c.whole_place.result ∙ ap (or_in (bits_in c.args.found.now.items)) c.whole_place.ensures
