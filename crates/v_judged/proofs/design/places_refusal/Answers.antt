use Rattle.std.proofs.Common.{sym, subst}
use Rattle.v_places.specs.Views.{spots_of}
use Rattle.v_judged.specs.Sharing.{IsSame, IsSharing}
use Rattle.v_judged.specs.Spots.{spots_in}
use Rattle.v_judged.proofs.Sharing.{same_modules}
use Rattle.v_judged.proofs.design.places_refusal.Goals as goal

pub scopes_refusal-requires-clause-shared : goal.scopes_refusal-requires-clause-shared
scopes_refusal-requires-clause-shared c =
    let spots = spots_of c.args.places.now in
    subst (λ xs. IsSharing IsSame (spots_in xs) c.deref.result.now spots) (sym c.as_mut_slice.ensures.value)
    (subst (λ ns. IsSharing IsSame (spots_in c.in_ok-shared.shared.scopes.items) ns spots) (sym c.deref.ensures.value)
    (same_modules c.requires.0 spots c.requires.1.places (spots_in c.in_ok-shared.shared.scopes.items) c.in_ok-shared.shared.numbers.items c.in_ok-shared.ensures))
