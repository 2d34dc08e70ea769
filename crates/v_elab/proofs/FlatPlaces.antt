-- An accepted design that stands at a list of places, in one scope.
use Rattle.std.proofs.Common.{◌≡◌, ◌∙◌, refl, ap, sym, subst, Bool, false, List, [], ◌∷◌, ◌++◌, inl, Option, Some, None, is_some, option_map}
use Rattle.std.specs.Prelude.{slice_get}
use Rattle.std.proofs.lemmas.Bool.{false≢true}
use Rattle.wb_values.specs.Value.{Name, Valuation}
use Rattle.verilog_trees.specs.Syntax.{Item, Module}
use Rattle.verilog_meaning.specs.Expression.{Scope}
use Rattle.verilog_meaning.specs.Hierarchy.{PathStep, Placed, module_named}
use Rattle.verilog_meaning.specs.Settled.{Design, at_path}
use Rattle.verilog_registers.specs.Order.{members_in}
use Rattle.verilog_designs.specs.Accepted.{no_top, HasNoTop}
use Rattle.v_instances.specs.declared.interface.Interfaces.{Interfaces}
use Rattle.v_instances.specs.Interface.{AreInterfacesOf}
use Rattle.v_places.specs.declared.place.Place.{Place}
use Rattle.v_places.specs.Below.{Spot}
use Rattle.v_places.specs.Places.{placed_by}
use Rattle.v_places.specs.Views.{spot_of, spots_of}
use Rattle.flat_designs.specs.Flat.{Naming, IsSeenAs}
use Rattle.flat_designs.proofs.Known.{dotted_names_are_a_naming}
use Rattle.v_flat.specs.Entries.{SpotNames}
use Rattle.v_flat.specs.Numbered.{numbered}
use Rattle.v_flat.specs.Whole.{IsPlacing, AreCalled, IsFlatDesign}
use Rattle.v_flat.proofs.Numbers.{front_numbered, top_number}
use Rattle.v_ordered.specs.Order.{AreNamesInOrder}
use Rattle.place_kinds.specs.Known.{PlacesArePlaced, PlacedAreNumbered, AreNumbered}
use Rattle.place_kinds.proofs.Known.{top_path}
use Rattle.v_write.specs.Soundness.{UnbrokenIsSound}
use Rattle.v_design.specs.Parts.{Parts}
use Rattle.v_design.specs.Design.{outputs_of, IsDesignOf}
use Rattle.v_elab.specs.Names.{top_front, is_given_port}
use Rattle.v_elab.specs.Elaborated.{IsElaborated, body_in}
use Rattle.v_elab.specs.Elaborable.{IsElaborable}
use Rattle.v_elab.specs.Flat.{IsFlatBody, StandsAt}
use Rattle.v_elab.specs.Settled.{IsCalledSo}
use Rattle.v_elab.specs.Told.{AreCalledNets, IsTold}
use Rattle.v_elab.proofs.FlatReady.{sound_modules}
use Rattle.v_elab.proofs.FlatDesign.{flat_is_ready, flat_names_are_nets, flat_is_design}

module _ (t : Interfaces) (clock : Name) (spots : List Spot) (d : Design) (x : StandsAt t clock spots d) where
  pub is_placing : PlacesArePlaced → IsPlacing d spots
  is_placing placing = placing d spots (sound_modules d x.accepted x.of_text.shapely) x.of_text.no_dots x.places

  numbers : PlacedAreNumbered → AreNumbered d spots
  numbers numbered = numbered d spots (sound_modules d x.accepted x.of_text.shapely) x.places

  -- the first place is that of the top
  pub top_stands : PlacedAreNumbered → (y : Spot) → slice_get spots 0 ≡ Some y → at_path d [] ≡ Some (placed_by [] y)
  top_stands numbered y e =
      let r = numbers numbered in
      let f = r.each 0 y e in
      subst (λ (path : List PathStep). at_path d path ≡ Some (placed_by path y)) (top_path spots f.0 f.1.stands) (r.stands 0 f.0 (placed_by f.0 y) f.1)

  -- a design has a top
  pub some_place : slice_get spots 0 ≡ None → ⊥
  some_place e = by (module_named d.source d.top) refl
    where
      by : (o : Option Module) → module_named d.source d.top ≡ o → ⊥
      by None k = x.accepted no_top (HasNoTop.no_module k)
      by (Some m) k = false≢true (ap is_some (sym e ∙ x.places.first m k))

-- what is promised of a scope and items, and of names, of each design that stands at these places, under a naming
abbrev pub IsFlatAt : Interfaces → List Spot → Naming → Scope → List Item → Type 0
IsFlatAt t spots called s items = (d : Design) → AreInterfacesOf t d.source → IsPlacing d spots → IsFlatDesign d called s items

abbrev pub AreOrderedAt : List Spot → Naming → List Name → Type 0
AreOrderedAt spots called ns =
    (d : Design) (top : Placed) → IsPlacing d spots → at_path d [] ≡ Some top → AreNamesInOrder d called top (members_in top.of_module) ns

module _ (placing : PlacesArePlaced) (numbers_of : PlacedAreNumbered) (t : Interfaces) (clock : Name) (spots : List Spot) (s : Scope)
    (items : List Item) (ns : List Name) (flat : IsFlatAt t spots (numbered false spots) s items) (ordered : AreOrderedAt spots (numbered false spots) ns) (y : Spot)
    (first : slice_get spots 0 ≡ Some y) (d : Design) (x : StandsAt t clock spots d) where
  abbrev called : Naming
  called = numbered false spots

  stands : IsPlacing d spots
  stands = is_placing t clock spots d x placing

  fronts : (path : List PathStep) (n : Name) → called path [] ++ n ≡ called path n
  fronts = front_numbered false spots

  body : IsFlatBody d called (placed_by [] y) s items ns
  body =
      let at : at_path d [] ≡ Some (placed_by [] y) = top_stands t clock spots d x numbers_of y first in
      record {
        is_top = at;
        flat = flat d x.are_interfaces stands;
        fronts = fronts [];
        in_order = ordered d (placed_by [] y) stands at;
      }

  -- inputs are told by the number of the top
  given_so : (m : Module) (k : Name) → is_given_port m k (called [] []) ≡ is_given_port m k top_front
  given_so m k = ap (is_given_port m k) (top_number spots y first)

  pub is_ready : UnbrokenIsSound → IsElaborable (body_in s items ns) (is_given_port y.of_module clock top_front)
  is_ready law =
      subst (IsElaborable (body_in s items ns)) (ap (λ k. is_given_port y.of_module k (called [] [])) x.is_clock ∙ given_so y.of_module clock)
      (flat_is_ready d called (placed_by [] y) s items ns x.accepted x.of_text.shapely body law)

  pub is_called_so : (names : List SpotNames) → AreCalled d called spots names → IsCalledSo d called spots names s
  is_called_so names are =
      record {
        placing = stands;
        fronts = fronts;
        are_names = are.names;
        says_the_same = λ p n at is. (flat d x.are_interfaces stands).flat.says_the_same p n at (inl is);
      }

  module _ (e : Parts) (h : IsElaborated (body_in s items ns) (is_given_port y.of_module clock top_front) (outputs_of y.of_module) e) where
    same : IsElaborated (body_in s items ns) (is_given_port y.of_module d.clock (called [] [])) (outputs_of y.of_module) e
    same =
        subst (λ (f : Name → Bool). IsElaborated (body_in s items ns) f (outputs_of y.of_module) e)
        (sym (ap (λ k. is_given_port y.of_module k (called [] [])) x.is_clock ∙ given_so y.of_module clock)) h

    -- what the names of the store are called
    pub names_are_nets : AreCalledNets d called e.graph.names
    names_are_nets = flat_names_are_nets d called (placed_by [] y) s items ns x.accepted x.of_text.shapely body e same

    pub is_the_design : ((v : Valuation) → (w : Valuation) × IsSeenAs d called v w) → (g : Parts) → IsTold d called e g → IsDesignOf d g
    is_the_design seeing g told =
        flat_is_design d called (placed_by [] y) s items ns x.accepted x.of_text.shapely body e same
        ((dotted_names_are_a_naming d).naming x.of_text.no_dots) seeing g told

-- ---- the first of a list of places

pub first_spot : (ps : List Place) (p : Place) → slice_get ps 0 ≡ Some p → slice_get (spots_of ps) 0 ≡ Some (spot_of p)
first_spot [] p h = absurd (false≢true (ap is_some h))
first_spot (q ∷ ps) p h = ap (option_map spot_of) h

pub no_spot : (ps : List Place) → slice_get ps 0 ≡ None → slice_get (spots_of ps) 0 ≡ None
no_spot [] h = refl
no_spot (q ∷ ps) h = absurd (false≢true (sym (ap is_some h)))
