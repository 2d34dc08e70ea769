use Rattle.std.proofs.Common.{◌∙◌, length}
use Rattle.v_places.specs.Views.{spot_of}
use Rattle.v_clocks.proofs.Ends.{some_there, none_next}
use Rattle.v_clocks.proofs.nets.nets_next.Goals as goal

pub returns-in-None : goal.returns-in-None
returns-in-None c = λ source i f q.
    c.none.ensures q
    ∙ none_next c.args.clock.now c.args.before.now (spot_of c.args.place.now) q (some_there (length c.args.before.now) c.if-is_empty.ensures) c.in-None.ensures.lookup.0
