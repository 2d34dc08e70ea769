use Rattle.std.proofs.Common.{◌∙◌}
use Rattle.std.specs.Prelude.{◌&&◌}
use Rattle.v_places.specs.Views.{spot_of, spots_of}
use Rattle.map_scope.proofs.Kept.{spot_got, no_spot_got}
use Rattle.map_judged.proofs.Resets.{reset_told, no_reset}
use Rattle.map_judged.proofs.reset.is_reset.Goals as goal

pub returns-in_ok-input-in-Some : goal.returns-in_ok-input-in-Some
returns-in_ok-input-in-Some c = λ d stands clock.
    reset_told c.sound_modules_are_known.ensures d (spots_of c.args.places.now) stands (spot_of c.in-Some.top.now) c.args.clock.now c.args.name.now c.both.result
    (spot_got c.args.places.now 0 c.get.result c.in-Some.top c.in-Some.is c.get.ensures.lookup.3) clock
    (c.both.ensures ∙ (λ i. c.in_ok-input-in-Some.ensures i && c.differ.ensures i))

pub returns-in-None : goal.returns-in-None
returns-in-None c = λ d stands clock.
    no_reset c.sound_modules_are_known.ensures d (spots_of c.args.places.now) stands c.args.name.now
    (no_spot_got c.args.places.now 0 c.get.result c.in-None.is c.get.ensures.lookup.3)
