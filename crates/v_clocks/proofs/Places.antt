-- Places one after the other.
use Rattle.std.proofs.Common.{◌≡◌, ◌∙◌, ◌<◌, ◌+◌, refl, ap, sym, subst, ℕ, zero, suc, Bool, true, false, List, [], ◌∷◌, ◌++◌, length, drop, get_or, Some, Bor, arith}
use Rattle.std.specs.Prelude.{◌||◌, slice_get}
use Rattle.std.specs.BTreeSet.{BTreeSet}
use Rattle.std.proofs.lemmas.List.{map-append, drop_more}
use Rattle.wb_values.specs.Value.{Name}
use Rattle.verilog_trees.specs.Syntax.{Source}
use Rattle.v_syntax.specs.Source.{module_of}
use Rattle.v_hier.specs.Tables.{has_name}
use Rattle.v_places.specs.declared.place.Place.{Place}
use Rattle.v_places.specs.Below.{Spot}
use Rattle.v_places.specs.Views.{spot_of, spots_of}
use Rattle.v_clocks.specs.Nets.{nets_next, nets_after}
use Rattle.v_clocks.specs.Data.{has_data_at, has_data_from}
use Rattle.v_clocks.specs.Whole.{IsFirstOf, AreFirst}
use Rattle.v_clocks.specs.Views.{sets_of}
use Rattle.v_clocks.proofs.Nexts.{Nets}
use Rattle.v_clocks.proofs.Ends.{Sets}

spot_there : (ps : List Place) (i : ℕ) (d : Place) → i < length ps → slice_get (spots_of ps) i ≡ Some (spot_of (get_or ps i d))
spot_there [] i d h = absurd (omega (arith, h))
spot_there (p ∷ ps) zero d h = refl
spot_there (p ∷ ps) (suc i) d h = spot_there ps i d (omega (arith, h))

pub place_first : (source : Source) (ps : List Place) (i : ℕ) (d : Place) → i < length ps → d ≡ get_or ps i d → AreFirst source (spots_of ps) → IsFirstOf source (module_of d.within.now)
place_first source ps i d h is f = subst (λ (p : Place). IsFirstOf source (module_of p.within.now)) (sym is) (f i (spot_of (get_or ps i d)) (spot_there ps i d h))

next_spots : (ps : List Place) (i : ℕ) (d : Place) → i < length ps → d ≡ get_or ps i d → spots_of (drop i ps) ≡ spot_of d ∷ spots_of (drop (i + 1) ps)
next_spots ps i d h is = ap spots_of (drop_more ps i d h) ∙ ap (λ p. spot_of p ∷ spots_of (drop (i + 1) ps)) (sym is)

pub nets_turn : (clock : Name) (ps : List Place) (i : ℕ) (d : Place) (old new : Sets) (next : BTreeSet (Bor (List ℕ))) (all : List Nets) → i < length ps → d ≡ get_or ps i d
    → new ≡ old ++ next ∷ [] → ((q : Name) → has_name next q ≡ nets_next clock (sets_of old) (spot_of d) q) → nets_after clock (sets_of old) (spots_of (drop i ps)) ≡ all
    → nets_after clock (sets_of new) (spots_of (drop (i + 1) ps)) ≡ all
nets_turn clock ps i d old new next all h is pushed made e =
    let rest : List Spot = spots_of (drop (i + 1) ps) in
    let same : has_name next ≡ nets_next clock (sets_of old) (spot_of d) = λ k q. made q k in
    ap (λ ss. nets_after clock (sets_of ss) rest) pushed ∙ ap (λ ss. nets_after clock ss rest) (map-append has_name old (next ∷ []))
    ∙ ap (λ f. nets_after clock (sets_of old ++ f ∷ []) rest) same
    ∙ sym (ap (nets_after clock (sets_of old)) (next_spots ps i d h is)) ∙ e

or_second : (a b : Bool) → a ≡ false → (a || b) ≡ b
or_second true b h = cc
or_second false b h = refl

or_first : (a b : Bool) → a ≡ true → true ≡ (a || b)
or_first true b h = refl
or_first false b h = cc

pub data_turn : (nets : List Nets) (ps : List Place) (i : ℕ) (d : Place) (r all : Bool) → i < length ps → d ≡ get_or ps i d → r ≡ has_data_at nets i (spot_of d) → r ≡ false
    → all ≡ has_data_from nets i (spots_of (drop i ps)) → all ≡ has_data_from nets (i + 1) (spots_of (drop (i + 1) ps))
data_turn nets ps i d r all h is e f so =
    so ∙ ap (has_data_from nets i) (next_spots ps i d h is)
    ∙ or_second (has_data_at nets i (spot_of d)) (has_data_from nets (i + 1) (spots_of (drop (i + 1) ps))) (sym e ∙ f)

pub data_found : (nets : List Nets) (ps : List Place) (i : ℕ) (d : Place) (r all : Bool) → i < length ps → d ≡ get_or ps i d → r ≡ has_data_at nets i (spot_of d) → r ≡ true
    → all ≡ has_data_from nets i (spots_of (drop i ps)) → true ≡ all
data_found nets ps i d r all h is e t so =
    or_first (has_data_at nets i (spot_of d)) (has_data_from nets (i + 1) (spots_of (drop (i + 1) ps))) (sym e ∙ t)
    ∙ sym (ap (has_data_from nets i) (next_spots ps i d h is)) ∙ sym so
