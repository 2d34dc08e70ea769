use Rattle.std.proofs.Common.{subst, option_map}
use Rattle.v_places.specs.Views.{spots_of}
use Rattle.v_places.specs.Whole.{AreAllPlaces}
use Rattle.v_named.proofs.Refusals.{hierarchy}
use Rattle.v_named.proofs.design.listed.Goals as goal

pub returns-in-Some : goal.returns-in-Some
returns-in-Some c = λ d t h.
    let all = subst (λ o. AreAllPlaces d (option_map (λ v. spots_of v.items) o)) c.in-Some.is (c.in_ok-found.ensures d t.0 t.1 h.2) in (h.0, h.1, h.2, all.1, all.0)

pub returns-in-None : goal.returns-in-None
returns-in-None c = λ d t h.
    hierarchy d h (subst (λ o. AreAllPlaces d (option_map (λ v. spots_of v.items) o)) c.in-None.is (c.in_ok-found.ensures d t.0 t.1 h.2))
