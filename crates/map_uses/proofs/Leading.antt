-- Where dotted names lead in one scope, and which names there are inputs of the top.
use Rattle.std.proofs.Common.{◌≡◌, ◌∙◌, ℕ, Bool, true, false, cond, inl, inr, refl, ap, sym, subst, List, [], ◌∷◌, ◌++◌, map, Option, Some, None}
use Rattle.std.specs.Prelude.{◌↔◌, slice_get, Contains, IsTrue}
use Rattle.std.proofs.lemmas.Bool.{false≢true, or_cases}
use Rattle.wb_values.specs.Value.{Name, same_name, Entries, entry_of}
use Rattle.verilog_trees.specs.Syntax.{Direction, input, output, Item, Module}
use Rattle.verilog_meaning.specs.Expression.{Object, Scope}
use Rattle.verilog_meaning.specs.Hierarchy.{all_parameters, declarations, PathStep, Placed, module_named, dotted}
use Rattle.verilog_meaning.specs.Settled.{Design, IsPlacedIn, at_path, HasPort, port_directions}
use Rattle.verilog_designs.specs.Names.{is_among, parameter_names, all_instance_names, names_where, declared_names}
use Rattle.verilog_designs.specs.Ports.{is_input}
use Rattle.verilog_designs.specs.Accepted.{no_top, undeclared, duplicate_name, has_xz, bad_port, bad_constant, width_over_128, bad_select, memory_use, HasNoTop}
use Rattle.verilog_designs.specs.Reads.{BitSet}
use Rattle.verilog_designs.specs.Dependence.{Bit, is_in}
use Rattle.refinement.specs.Map.{dotted_parts}
use Rattle.verilog_unique.proofs.Options.{same_is}
use Rattle.verilog_unique.proofs.Descent.{IsAmong, among_left, among_right, contains_among, among_contains}
use Rattle.verilog_unique.proofs.Paths.{placed_in}
use Rattle.verilog_unique.proofs.Ports.{port_is_declared}
use Rattle.verilog_unique.proofs.Parameters.{placed_constants}
use Rattle.verilog_unique.proofs.Fitting.{module_name_of}
use Rattle.verilog_exists.proofs.Spots.{plain_declared, plain_path}
use Rattle.verilog_exists.proofs.Dots.{Plain, ArePlainSteps}
use Rattle.flat_designs.specs.Flat.{IsNameOf, Naming, DottedNamesAreANaming}
use Rattle.flat_rules.specs.Sound.{HasSoundModules}
use Rattle.flat_rules.proofs.Drivers.{port_plain}
use Rattle.v_places.specs.Below.{Spot, top_spot}
use Rattle.v_places.specs.Places.{placed_by, IsPlaceAt}
use Rattle.v_places.proofs.Spots.{same_some}
use Rattle.v_depend.specs.Resting.{IsThere}
use Rattle.v_reach.specs.Coming.{ComesFrom}
use Rattle.v_flat.specs.Paths.{paths_of}
use Rattle.v_flat.specs.Entries.{DottedEntry, module_entries, spot_entries, dotted_entries, SpotNames, spot_names, names_of, naming_of}
use Rattle.v_flat.specs.Items.{naming_at}
use Rattle.v_flat.specs.Whole.{IsPlacing, AreCalled, IsPlainOnTop, IsFlatDesign}
use Rattle.v_flat.proofs.Places.{number_at}
use Rattle.v_flat.proofs.Named.{keys, declared_entry, constant_entry, renamed_there, naming_found, get_names}
use Rattle.place_kinds.specs.Known.{HasSoundPlaces, PlacesArePlaced, PlacedAreNumbered}
use Rattle.place_kinds.specs.Flat.{FlatIsReady, FlatDesignsAreReady}
use Rattle.place_kinds.proofs.Known.{listed}
use Rattle.map_paths.specs.Located.{Below, AreBelow, AreStanding, located}
use Rattle.map_paths.specs.Laws.{HasNoDot, HaveNoDots, DottedNamesAreLocated}
use Rattle.map_inputs.specs.Bits.{input_bits}
use Rattle.map_inputs.specs.Laws.{IsInputUnder}
use Rattle.map_judged.specs.Known.{StandsAt}
use Rattle.map_uses.specs.Table.{name_where, new_name_by, inputs_of, TellsInputs}

-- ---- lists

listed_among : (ns : List Name) (n : Name) → IsTrue (is_among ns n) → IsAmong ns n
listed_among [] n h = absurd (false≢true h)
listed_among (m ∷ ns) n h =
    elim (or_cases (same_name m n) (is_among ns n) h) as (λ _. IsAmong (m ∷ ns) n) [ inl e ↦ inl (same_is m n e) | inr e ↦ inr (listed_among ns n e) ]

-- ---- input ports

input_is : (o : Option Direction) → is_input o ≡ true → o ≡ Some input
input_is None h = absurd (false≢true h)
input_is (Some input) h = refl
input_is (Some output) h = absurd (false≢true h)

input_port : (m : Module) (es : List DottedEntry) (n : Name) → IsAmong (inputs_of m es) n → HasPort m n input
input_port m [] n h = absurd h
input_port m (e ∷ es) n h = by (is_input (entry_of (port_directions m) e.of_name)) refl h (input_port m es n) where
  by : (b : Bool) → is_input (entry_of (port_directions m) e.of_name) ≡ b → IsAmong (cond b (e.of_name ∷ inputs_of m es) (inputs_of m es)) n
      → (IsAmong (inputs_of m es) n → HasPort m n input) → HasPort m n input
  by true t (inl same) rest = subst (λ k. HasPort m k input) same (input_is (entry_of (port_directions m) e.of_name) t)
  by true t (inr k) rest = rest k
  by false t k rest = rest k

port_input : (m : Module) (front : Name) (es : Entries Object) (n : Name) → HasPort m n input → IsAmong (keys es) n → IsAmong (inputs_of m (dotted_entries front es)) n
port_input m front [] n port h = absurd h
port_input m front (e ∷ es) n port (inl same) =
    subst (λ b. IsAmong (cond b (e.0 ∷ inputs_of m (dotted_entries front es)) (inputs_of m (dotted_entries front es))) n)
    (sym (ap is_input (ap (entry_of (port_directions m)) same ∙ port))) (inl same)
port_input m front (e ∷ es) n port (inr h) = by (is_input (entry_of (port_directions m) e.0)) (port_input m front es n port h) where
  by : (b : Bool) → IsAmong (inputs_of m (dotted_entries front es)) n
      → IsAmong (cond b (e.0 ∷ inputs_of m (dotted_entries front es)) (inputs_of m (dotted_entries front es))) n
  by true k = inr k
  by false k = k

-- ---- dots

no_dot : (n : Name) → Plain n → HasNoDot n
no_dot n plain c = plain (among_contains n 46 c)

no_dots : (path : List PathStep) → ArePlainSteps path → HaveNoDots path
no_dots [] h = tt
no_dots (u ∷ around) h = (no_dot u.of_name h.1, no_dots around h.2)

-- ---- an accepted design

module _ (d : Design) (spots : List Spot) (h : StandsAt d spots) where
  sound_modules : HasSoundModules d
  sound_modules =
      record {
        names_declared = h.is_accepted undeclared;
        names_once = h.is_accepted duplicate_name;
        digits = h.is_accepted has_xz;
        constants = h.is_accepted bad_constant;
        widths = h.is_accepted width_over_128;
        selects = h.is_accepted bad_select;
        memories = h.is_accepted memory_use;
        shapely = h.of_text.shapely;
      }

  sound_places : HasSoundPlaces d spots
  sound_places =
      record {
        has_top = h.is_accepted no_top;
        ports = h.is_accepted bad_port;
        sound = sound_modules;
        no_dots = h.of_text.no_dots;
        places = h.places;
      }

  pub placing : PlacesArePlaced → IsPlacing d spots
  placing law = law d spots sound_modules h.of_text.no_dots h.places

  standing : PlacedAreNumbered → AreStanding d spots
  standing law =
      let r = law d spots sound_modules h.places in
      record { number = r.number; stands = r.stands; scope = r.scope; once = h.places.once }

  -- the one scope fits words, and its items may be asked
  pub flat_ready : FlatDesignsAreReady → (f : Naming) (s : Scope) (items : List Item) → IsFlatDesign d f s items → FlatIsReady s items
  flat_ready law f s items flat = law d f spots s items sound_places flat

  -- ---- names

  plain_name : (p : Placed) (n : Name) → IsPlacedIn d p → IsNameOf p n → Plain n
  plain_name p n at (inl k) = plain_declared d h.of_text.no_dots p n at k
  plain_name p n at (inr k) = λ c.
      let f = module_name_of d p.path p at in
      h.of_text.no_dots f.0 p.of_module n f.1
      (contains_among (declared_names p.of_module) n
      (among_left (names_where (λ e. true) (declarations p.of_module) ++ parameter_names (all_parameters p.of_module)) (all_instance_names p.of_module.items) n
      (among_right (names_where (λ e. true) (declarations p.of_module)) (parameter_names (all_parameters p.of_module)) n
      (listed_among (parameter_names (all_parameters p.of_module)) n k))))
      (contains_among n 46 c)

  keyed : (p : Placed) (n : Name) → IsPlacedIn d p → IsNameOf p n → IsAmong (keys (module_entries p.of_module p.constants)) n
  keyed p n at (inl k) = declared_entry p.of_module p.constants n k
  keyed p n at (inr k) = constant_entry p.of_module p.constants n ((placed_constants d p.path p at).all n k)

  -- the name of a module under the number of the module
  called_there : (f : Naming) (made : List SpotNames) → AreCalled d f spots made → (k : ℕ) (p : Placed) (own : Name) → IsPlaceAt spots k p.path p → IsPlacedIn d p → IsNameOf p own
      → naming_at (map naming_of made) k own ≡ f p.path own
  called_there f made called k p own place at named =
      let one = number_at spots k p (listed spots k p.path p place) in
      let path : one.path ≡ p.path = ap (λ (z : Placed). z.path) one.is_placed in
      let front : Name = f one.path [] in
      let there : slice_get (names_of f spots) k ≡ Some (spot_names front one.spot) = get_names f (paths_of spots) spots k one.path one.spot one.is_at.is_there one.is_at.is_spot in
      let among : IsAmong (keys (spot_entries one.spot)) own =
      subst (λ (z : Placed). IsAmong (keys (module_entries z.of_module z.constants)) own) (sym one.is_placed) (keyed p own at named) in
      ap (λ ms. naming_at (map naming_of ms) k own) called.names
      ∙ ((λ i. naming_found (names_of f spots) k (spot_names front one.spot) there i own)
      ∙ (renamed_there front own (spot_entries one.spot) among
      ∙ (called.fronts one.path own ∙ ap (λ q. f q own) path)))

  module _ (numbered : PlacedAreNumbered) (law : DottedNamesAreLocated) (below : Below) (are_below : AreBelow spots below) where
    pub leads : (f : Naming) (made : List SpotNames) → AreCalled d f spots made → (fs : List (Name → Name)) → fs ≡ map naming_of made → (p : Placed) (own : Name) → IsPlacedIn d p
        → IsNameOf p own → new_name_by below fs (dotted p.path own) ≡ f p.path own
    leads f made called fs same p own at named =
        let place = (standing numbered).number p at in
        let found : located below 0 (dotted_parts (dotted p.path own)) ≡ Some (place.0, own) =
        law d spots below (standing numbered) are_below place.0 p.path own place.1.stands
        (no_dots p.path (plain_path d h.of_text.no_dots p.path p at)) (no_dot own (plain_name p own at named)) in
        ap (name_where fs (dotted p.path own)) found
        ∙ (ap (λ gs. naming_at gs place.0 own) same ∙ called_there f made called place.0 p own place.1 at named)

  -- ---- inputs

  -- the first of the list stands at the top
  top_there : PlacedAreNumbered → (x : Spot) → slice_get spots 0 ≡ Some x → at_path d [] ≡ Some (placed_by [] x)
  top_there law x e = (standing law).stands 0 [] (placed_by [] x) (record { stands = refl; spot = x; is_spot = e; is_placed = refl })

  -- a design has a top
  some_top : (o : Option Module) → module_named d.source d.top ≡ o → (x : Spot) × (slice_get spots 0 ≡ Some x)
  some_top None e = absurd (h.is_accepted no_top (HasNoTop.no_module e))
  some_top (Some m) e = (top_spot m, h.places.first m e)

  top : (x : Spot) × (slice_get spots 0 ≡ Some x)
  top = some_top (module_named d.source d.top) refl

  -- the names of the module at the top
  top_names : (f : Naming) → slice_get (names_of f spots) 0 ≡ Some (spot_names (f [] []) top.0)
  top_names f =
      let one = number_at spots 0 (placed_by [] top.0) (listed spots 0 [] (placed_by [] top.0) (record { stands = refl; spot = top.0; is_spot = top.1; is_placed = refl })) in
      let path : one.path ≡ [] = ap (λ (y : Placed). y.path) one.is_placed in
      get_names f (paths_of spots) spots 0 [] top.0 (subst (λ q. slice_get (paths_of spots) 0 ≡ Some q) path one.is_at.is_there) top.1

  module _ (numbered : PlacedAreNumbered) (f : Naming) (plain_top : IsPlainOnTop f) (made : List SpotNames) (called : AreCalled d f spots made) (inputs : List Name)
      (are_inputs : (x : Spot) (z : SpotNames) → slice_get spots 0 ≡ Some x → slice_get made 0 ≡ Some z → inputs ≡ inputs_of x.of_module z.entries) where
    are_top_inputs : inputs ≡ inputs_of top.0.of_module (dotted_entries (f [] []) (spot_entries top.0))
    are_top_inputs = are_inputs top.0 (spot_names (f [] []) top.0) top.1 (ap (λ ms. slice_get ms 0) called.names ∙ top_names f)

    inputs_there : (n : Name) → Contains inputs n ↔ IsInputUnder d f n
    inputs_there n = (there, back) where
      there : Contains inputs n → IsInputUnder d f n
      there c =
          record {
            top = placed_by [] top.0;
            port = n;
            is_top = top_there numbered top.0 top.1;
            is_port = input_port top.0.of_module (dotted_entries (f [] []) (spot_entries top.0)) n (among_contains _ n (subst (λ ns. Contains ns n) are_top_inputs c));
            is_new = plain_top n;
          }

      back : IsInputUnder d f n → Contains inputs n
      back u =
          let same : u.top ≡ placed_by [] top.0 = same_some u.top (placed_by [] top.0) (sym u.is_top ∙ top_there numbered top.0 top.1) in
          let name : u.port ≡ n = sym (plain_top u.port) ∙ u.is_new in
          let port : HasPort top.0.of_module n input =
          subst (λ m. HasPort top.0.of_module m input) name (subst (λ (y : Placed). HasPort y.of_module u.port input) same u.is_port) in
          let among : IsAmong (keys (spot_entries top.0)) n =
          declared_entry top.0.of_module top.0.constants n (port_is_declared (placed_by [] top.0) n input port) in
          subst (λ ns. Contains ns n) (sym are_top_inputs)
          (contains_among _ n (port_input top.0.of_module (f [] []) (spot_entries top.0) n port among))

    -- ---- all that the table tells

    pub tells : DottedNamesAreANaming → (s : Scope) (items : List Item) → IsFlatDesign d f s items → (new : Name → Name) (marked : BitSet)
        → ((p : Placed) (own : Name) → IsPlacedIn d p → IsNameOf p own → new (dotted p.path own) ≡ f p.path own)
        → ((u : Bit) → IsThere s u → IsTrue (is_in marked u) ↔ ComesFrom s items (input_bits s inputs) u) → TellsInputs d new marked
    tells dots s items flat new marked leads_there bits =
        record {
          called = f;
          scope = s;
          items = items;
          inputs = inputs;
          has_inputs =
              record {
                no_undeclared = h.is_accepted undeclared;
                naming = flat.naming;
                flat = flat.flat;
                words = λ top n at port. port_plain d sound_modules top (placed_in d [] top at) n input port;
                are_inputs = inputs_there;
              };
          dots = (dots d).naming h.of_text.no_dots;
          leads = leads_there;
          are_marked = bits;
        }
