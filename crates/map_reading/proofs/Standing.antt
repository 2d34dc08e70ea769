-- What the rule on memories asks of the modules that stand in an accepted design.
use Rattle.std.proofs.Common.{◌≡◌, ℕ, zero, suc, Bool, true, false, cond, subst, List, [], ◌∷◌, Option, None, Some, Result, Ok, Err}
use Rattle.std.specs.Prelude.{◌↔◌, slice_get, is_some, option_map, IfOk, IsTrue}
use Rattle.verilog_trees.specs.Syntax.{Source, Item, port, parameter, wires, variables, assign, always, instances}
use Rattle.verilog_meaning.specs.Expression.{Scope}
use Rattle.verilog_meaning.specs.Register.{is_clocked, clocked_blocks}
use Rattle.verilog_meaning.specs.Settled.{Design}
use Rattle.verilog_designs.specs.Accepted.{no_top, bad_port}
use Rattle.flat_rules.specs.Sound.{ModulesAreKnown}
use Rattle.v_drivers.specs.Premises.{AreNarrowBlocks}
use Rattle.v_paths.specs.Modules.{AreFitItems}
use Rattle.v_places.specs.Below.{Spot}
use Rattle.v_places.proofs.Spots.{same_some}
use Rattle.place_kinds.specs.Places.{IsReadySpot, AreReadySpots}
use Rattle.place_kinds.specs.Known.{HasSoundPlaces}
use Rattle.place_kinds.specs.Blocks.{PlacesAreReady}
use Rattle.map_paths.specs.Located.{Below, AreBelow, scope_there}
use Rattle.map_judged.specs.Known.{StandsAt}
use Rattle.map_judged.proofs.Standing.{sound_modules, standing}
use Rattle.map_memories.specs.Memories.{AreNarrowSpots}
use Rattle.map_memories.specs.Mismatch.{HasInstances, IsMismatch}
use Rattle.map_rules.specs.Case.{MapCase, case_design}
use Rattle.map_rules.specs.Mapped.{HasMemoryMismatch}
use Rattle.model_places.specs.Sites as sites

narrow_blocks : (s : Scope) (items : List Item) → AreFitItems s items → AreNarrowBlocks s (clocked_blocks items)
narrow_blocks s [] h = tt
narrow_blocks s (port d ∷ items) h = narrow_blocks s items h.1
narrow_blocks s (parameter d ∷ items) h = narrow_blocks s items h.1
narrow_blocks s (wires signed r ws ∷ items) h = narrow_blocks s items h.1
narrow_blocks s (variables signed r vs ∷ items) h = narrow_blocks s items h.1
narrow_blocks s (assign ts ∷ items) h = narrow_blocks s items h.1
narrow_blocks s (always es x ∷ items) h = by (is_clocked es) (narrow_blocks s items h.1) where
  by : (b : Bool) → AreNarrowBlocks s (clocked_blocks items) → AreNarrowBlocks s (cond b (x ∷ clocked_blocks items) (clocked_blocks items))
  by true k = (h.0.narrow, k)
  by false k = k
narrow_blocks s (instances m given is ∷ items) h = narrow_blocks s items h.1

ready_at : (spots : List Spot) (k : ℕ) (x : Spot) → AreReadySpots spots → slice_get spots k ≡ Some x → IsReadySpot x
ready_at [] k x h e = cc
ready_at (y ∷ spots) zero x h e = subst IsReadySpot (same_some y x e) h.0
ready_at (y ∷ spots) (suc k) x h e = ready_at spots k x h.1 e

module _ (d : Design) (spots : List Spot) (h : StandsAt d spots) where
  sound_places : HasSoundPlaces d spots
  sound_places =
      record {
        has_top = h.is_accepted no_top;
        ports = h.is_accepted bad_port;
        sound = sound_modules d spots h;
        no_dots = h.of_text.no_dots;
        places = h.places;
      }

  -- names and clocked blocks fit words
  pub narrow_spots : PlacesAreReady → AreNarrowSpots spots
  narrow_spots ready k x e = let r : IsReadySpot x = ready_at spots k x (ready d spots sound_places) e in (r.0, narrow_blocks (scope_there x) x.of_module.items r.1)

  -- the modules and the instances in each
  pub has_instances : ModulesAreKnown → (below : Below) → AreBelow spots below → HasInstances d spots below
  has_instances law below b = record { standing = standing d spots h law; are_below = b; no_dots = h.of_text.no_dots }

-- what is told of the first memory that has no path, for an accepted design
pub unfit_told : {X E : Type 0} (view : X → sites.Spot) (case : Source → MapCase) (spots : List Spot) (below : Below) (r : Result (Option X) E)
    → IfOk r (λ o. (s : Source) → HasInstances (case_design (case s)) spots below → IsMismatch (case s) (option_map view o)) → ModulesAreKnown → AreBelow spots below
    → IfOk r (λ o. (s : Source) → StandsAt (case_design (case s)) spots → IsTrue (is_some o) ↔ HasMemoryMismatch (case s))
unfit_told view case spots below (Ok None) h law b = λ s stands. (h s (has_instances (case_design (case s)) spots stands law below b)).rule
unfit_told view case spots below (Ok (Some x)) h law b = λ s stands. (h s (has_instances (case_design (case s)) spots stands law below b)).rule
unfit_told view case spots below (Err e) h law b = tt

pub unfit_there : {X E : Type 0} (case : Source → MapCase) (spots : List Spot) (r : Result (Option X) E)
    → IfOk r (λ o. (s : Source) → StandsAt (case_design (case s)) spots → IsTrue (is_some o) ↔ HasMemoryMismatch (case s)) → (s : Source)
    → StandsAt (case_design (case s)) spots → IfOk r (λ o. IsTrue (is_some o) ↔ HasMemoryMismatch (case s))
unfit_there case spots (Ok o) h s stands = h s stands
unfit_there case spots (Err e) h s stands = tt
