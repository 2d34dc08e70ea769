use Rattle.std.proofs.Common.{◌∙◌, sym}
use Rattle.v_places.specs.Views.{spots_of}
use Rattle.v_clocks.specs.Views.{sets_of}
use Rattle.v_clocks.proofs.Standing.{are_first}
use Rattle.v_clocks.proofs.AsData.{as_the_rule}
use Rattle.v_clocks.proofs.data.has_clock_as_data.Goals as goal

pub returns : goal.returns
returns c = λ d k i n.
    let told = c.in_ok-found.ensures d.source i (are_first d (spots_of c.args.places.now) k) in
    let rule = as_the_rule d (spots_of c.args.places.now) k (sets_of c.args.nets.now) n in
    (λ t. rule.0 (sym told ∙ t), λ b. told ∙ rule.1 b)
