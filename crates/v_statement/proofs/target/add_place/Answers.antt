use Rattle.std.proofs.Common.{◌≡◌, ◌∙◌, ◌++◌, ◌∷◌, [], ap, List, refl}
use Rattle.verilog_meaning.specs.Statement as meaning
use Rattle.v_statement.specs.declared.place.Place.{Place}
use Rattle.v_statement.specs.Places.{place_of, places_of}
use Rattle.v_statement.proofs.target.add_place.Goals as goal

places_push : (ps : List Place) (p : Place) → places_of (ps ++ p ∷ []) ≡ places_of ps ++ place_of p ∷ []
places_push [] p = refl
places_push (q ∷ ps) p = ap (λ qs. place_of q ∷ qs) (places_push ps p)

pub returns : goal.returns
returns c =
    let ps = c.args.found.now.items in
    ap places_of c.in_ok-push.ensures.items ∙ places_push ps c.place_of.result ∙ ap (λ (p : meaning.Place). places_of ps ++ p ∷ []) c.place_of.ensures
