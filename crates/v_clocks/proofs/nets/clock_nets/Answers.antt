use Rattle.std.proofs.Common.{◌∙◌, ap, sym, subst}
use Rattle.v_places.specs.Views.{spots_of}
use Rattle.v_clocks.specs.Nets.{nets_of}
use Rattle.v_clocks.specs.Whole.{AreClockNets}
use Rattle.v_clocks.proofs.Standing.{are_first}
use Rattle.v_clocks.proofs.Clocked.{are_clock_nets}
use Rattle.v_clocks.proofs.nets.clock_nets.Goals as goal

pub returns : goal.returns
returns c = λ d k i e.
    subst (AreClockNets d (spots_of c.args.places.now))
    (ap (λ n. nets_of n (spots_of c.args.places.now)) e ∙ sym (c.in_ok-nets.ensures d.source i (are_first d (spots_of c.args.places.now) k)))
    (are_clock_nets d (spots_of c.args.places.now) k)
