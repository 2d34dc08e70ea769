-- The rules on bits without drivers and on loops, on a design in one scope.
use Rattle.std.proofs.Common.{◌≡◌, ◌∙◌, ℕ, refl, ap, sym, subst, Bool, true, false, not, cond, List, [], ◌∷◌, ◌++◌, ◌⊎◌, inl, inr, Option, Some, None, is_some, is_none, option_map}
use Rattle.std.specs.Prelude.{◌≢◌, ◌||◌, ◌&&◌, slice_get, IsTrue}
use Rattle.std.specs.List.{list_any}
use Rattle.std.proofs.lemmas.Bool.{true≢false, false≢true, or_left, or_right, and_parts, and_from}
use Rattle.wb_values.specs.Value.{Name, same_name, entry_of}
use Rattle.verilog_trees.specs.Syntax.{name, whole, Direction, input, output, Item}
use Rattle.verilog_meaning.specs.Expression.{Scope, scope_of, is_memory}
use Rattle.verilog_meaning.specs.Register.{clocked_blocks, combinational_blocks, is_bit_of, one_may_assign}
use Rattle.verilog_meaning.specs.Hierarchy.{all_parameters, Declaration, declarations, declaration_of, Placed, placed_scope}
use Rattle.verilog_meaning.specs.Settled.{Design, at_path, IsPlacedIn, is_declared_among, IsDeclared, port_directions, port_order, HasPort, assignments, IsBitOf}
use Rattle.verilog_designs.specs.Names.{is_among, parameter_names}
use Rattle.verilog_designs.specs.Ports.{is_input}
use Rattle.verilog_designs.specs.Reads.{reads}
use Rattle.verilog_designs.specs.Drivers.{is_declared_input}
use Rattle.verilog_designs.specs.Dependence.{Bit}
use Rattle.verilog_designs.specs.Accepted.{has_no_clock, is_input_port, is_wide_clock, HasNoTop}
use Rattle.verilog_unique.proofs.Options.{same_is, is_same, not_true, left_true, right_true}
use Rattle.verilog_unique.proofs.Descent.{IsAmong, among_left, among_right, among_either, among_contains, contains_among}
use Rattle.verilog_unique.proofs.Ports.{port_is_declared}
use Rattle.verilog_unique.proofs.Parameters.{parameter_number}
use Rattle.flat_designs.specs.Flat.{IsNameOf, Naming}
use Rattle.flat_designs.specs.Depending.{DependsFlat, DependsFlatFar}
use Rattle.flat_designs.proofs.Known.{one_place}
use Rattle.flat_designs.proofs.Depending.{bits_depend_on_the_same}
use Rattle.flat_rules.proofs.Judged.{test_among}
use Rattle.flat_rules.proofs.Placed.{modules_are_known}
use Rattle.flat_rules.proofs.Drivers.{declared_name, flat_scopes_are_narrow}
use Rattle.flat_drivers.specs.Reading.{IsReadFlat, IsOutputOfTop, IsDrivenFlat, HasFlatDriverAs, HasUndrivenFlat}
use Rattle.flat_drivers.proofs.Reading.{net_without, undriven_bits_are_the_same}
use Rattle.flat_fitting.proofs.Fitting.{flat_items_are_fit}
use Rattle.v_scopes.specs.declared.table.ModuleScope.{ModuleScope}
use Rattle.v_scopes.specs.Rows.{Row, row, rows_of, row_named, row_and_later}
use Rattle.v_scopes.specs.Scopes.{declared_in}
use Rattle.v_drivers.specs.Sets.{drivers}
use Rattle.v_assigned.specs.Names.{is_input_row, HasNamesOf}
use Rattle.v_assigned.proofs.OneModule.{one-of, any-there, input-so, row-so}
use Rattle.v_undriven.specs.Names.{is_output, is_output_row, is_output_name}
use Rattle.v_undriven.specs.Reads.{all_items_read, output_reads, outputs_read, module_reads}
use Rattle.v_undriven.specs.Undriven.{OneHas, HasAnyAs, HasUndrivenBit}
use Rattle.v_undriven.proofs.Within.{module-within}
use Rattle.v_undriven.proofs.Listing.{either, read-lists, DrivenBy, driven-by, by-driven}
use Rattle.v_undriven.proofs.Listing as listing
use Rattle.v_undriven.proofs.Declaring.{direction_at, directions-agree}
use Rattle.v_loops.specs.OneModule.{DependsIn, DependsFarIn}
use Rattle.v_places.specs.Below.{Spot}
use Rattle.v_places.specs.Places.{placed_by}
use Rattle.v_flat.specs.Paths.{placed_of}
use Rattle.v_flat.specs.Whole.{IsPlacing, IsPlainOnTop, IsFlatDesign}
use Rattle.place_kinds.specs.Known.{HasSoundPlaces, AreNumbered}
use Rattle.place_kinds.specs.Flat.{FlatDesignsAreReady, UndrivenBitsAreFlat, LoopsAreFlat}
use Rattle.place_kinds.proofs.Known.{are_numbered, is_placing, top_path}
use Rattle.place_kinds.proofs.Nets.{items_of}

pub flat_designs_are_ready : FlatDesignsAreReady
flat_designs_are_ready d called spots s items h flat =
    record {
      objects =
          flat_scopes_are_narrow d called s (assignments items) (combinational_blocks items) (clocked_blocks items) h.sound flat.flat flat.no_others;
      fit = flat_items_are_fit d called s items h.sound flat.flat flat.no_others;
    }

-- ---- loops

module _ (s : Scope) (items : List Item) where
  step_in : (u y : Bit) → DependsFlat s (assignments items) (combinational_blocks items) u y → DependsIn s items u y
  step_in _ _ (DependsFlat.by_link a u y c t g) = DependsIn.by_assignment a u y c t g
  step_in _ _ (DependsFlat.by_block x u y c t m g) = DependsIn.by_block x u y c t m g

  in_step : (u y : Bit) → DependsIn s items u y → DependsFlat s (assignments items) (combinational_blocks items) u y
  in_step _ _ (DependsIn.by_assignment a u y c t g) = DependsFlat.by_link a u y c t g
  in_step _ _ (DependsIn.by_block x u y c t m g) = DependsFlat.by_block x u y c t m g

  far_in : (u y : Bit) → DependsFlatFar s (assignments items) (combinational_blocks items) u y → DependsFarIn s items u y
  far_in _ _ (DependsFlatFar.step u y g) = DependsFarIn.step u y (step_in u y g)
  far_in _ _ (DependsFlatFar.further u x y g h) = DependsFarIn.further u x y (step_in u x g) (far_in x y h)

  in_far : (u y : Bit) → DependsFarIn s items u y → DependsFlatFar s (assignments items) (combinational_blocks items) u y
  in_far _ _ (DependsFarIn.step u y g) = DependsFlatFar.step u y (in_step u y g)
  in_far _ _ (DependsFarIn.further u x y g h) = DependsFlatFar.further u x y (in_step u x g) (in_far x y h)

pub loops_are_flat : LoopsAreFlat
loops_are_flat d called spots s items h flat =
    let same = (bits_depend_on_the_same d called s (assignments items) (combinational_blocks items) (clocked_blocks items) h.sound.names_declared flat.naming flat.flat).loops in (
      (λ l. let g = same.0 l in record { bit = g.bit; loops = far_in s items g.bit g.bit g.loops }),
      (λ g. same.1 (record { bit = g.bit; loops = in_far s items g.bit g.bit g.loops })),
    )

-- ---- the names of modules as lists

abbrev declared_list : List Declaration → List Name
declared_list [] = []
declared_list (d ∷ ds) = d.of_name ∷ declared_list ds

abbrev own_names : Placed → List Name
own_names p = declared_list (declarations p.of_module) ++ parameter_names (all_parameters p.of_module)

declared_listed : (ds : List Declaration) (n : Name) → IsTrue (is_declared_among ds n) → IsAmong (declared_list ds) n
declared_listed [] n h = absurd (false≢true h)
declared_listed (d ∷ ds) n h =
    either (same_name d.of_name n) (is_declared_among ds n) h (λ e. inl (same_is d.of_name n e)) (λ e. inr (declared_listed ds n e))

listed_declared : (ds : List Declaration) (n : Name) → IsAmong (declared_list ds) n → IsTrue (is_declared_among ds n)
listed_declared [] n h = absurd h
listed_declared (d ∷ ds) n (inl e) = left_true (same_name d.of_name n) (is_declared_among ds n) (subst (λ k. same_name d.of_name k ≡ true) e (is_same d.of_name))
listed_declared (d ∷ ds) n (inr h) = right_true (same_name d.of_name n) (is_declared_among ds n) (listed_declared ds n h)

among_test : (ns : List Name) (n : Name) → IsAmong ns n → IsTrue (is_among ns n)
among_test [] n h = absurd h
among_test (m ∷ ns) n (inl e) = left_true (same_name m n) (is_among ns n) (subst (λ k. same_name m k ≡ true) e (is_same m))
among_test (m ∷ ns) n (inr h) = right_true (same_name m n) (is_among ns n) (among_test ns n h)

name_listed : (p : Placed) (n : Name) → IsNameOf p n → IsAmong (own_names p) n
name_listed p n (inl h) =
    among_left (declared_list (declarations p.of_module)) (parameter_names (all_parameters p.of_module)) n (declared_listed (declarations p.of_module) n h)
name_listed p n (inr h) =
    among_right (declared_list (declarations p.of_module)) (parameter_names (all_parameters p.of_module)) n
    (test_among (parameter_names (all_parameters p.of_module)) n h)

listed_name : (p : Placed) (n : Name) → IsAmong (own_names p) n → IsNameOf p n
listed_name p n h =
    elim (among_either (declared_list (declarations p.of_module)) (parameter_names (all_parameters p.of_module)) n h) as (λ _. IsNameOf p n) [
      | inl k ↦ inl (listed_declared (declarations p.of_module) n k)
      | inr k ↦ inr (among_test (parameter_names (all_parameters p.of_module)) n k)
    ]

-- ---- whose name a name of the one scope is

record IsOwn (f : Name → Name) (ns : List Name) (n : Name) : Type 0 where
  pub own : Name
  pub is_own : IsAmong ns own
  pub is_name : f own ≡ n

NoneOwn : (f : Name → Name) (ns : List Name) (n : Name) → Type 0
NoneOwn f ns n = (m : Name) → IsAmong ns m → f m ≢ n

found_own : (f : Name → Name) (ns : List Name) (n : Name) → IsOwn f ns n ⊎ NoneOwn f ns n
unfolding NoneOwn
found_own f [] n = inr (λ m h e. absurd h)
found_own f (m ∷ ns) n = one (same_name (f m) n) refl (found_own f ns n)
  where
    one : (b : Bool) → same_name (f m) n ≡ b → IsOwn f ns n ⊎ NoneOwn f ns n → IsOwn f (m ∷ ns) n ⊎ NoneOwn f (m ∷ ns) n
    one true e o = inl (record { own = m; is_own = inl refl; is_name = same_is (f m) n e })
    one false e (inl o) = inl (record { own = o.own; is_own = inr o.is_own; is_name = o.is_name })
    one false e (inr o) = inr none
      where
        none : (k : Name) → IsAmong (m ∷ ns) k → f k ≢ n
        none k (inl i) g = true≢false (sym (subst (λ (z : Name). same_name (f m) z ≡ true) (ap f i ∙ g) (is_same (f m))) ∙ e)
        none k (inr i) g = o k i g

record IsOfPlace (called : Naming) (ps : List Placed) (n : Name) : Type 0 where
  pub place : Placed
  pub own : Name
  pub is_place : IsAmong ps place
  pub is_own : IsNameOf place own
  pub is_name : called place.path own ≡ n

found_place : (called : Naming) (ps : List Placed) (n : Name) → ((p : Placed) (m : Name) → IsAmong ps p → IsNameOf p m → called p.path m ≢ n) ⊎ IsOfPlace called ps n
unfolding NoneOwn
found_place called [] n = inl (λ p m h i e. absurd h)
found_place called (p ∷ ps) n = one (found_own (called p.path) (own_names p) n) (found_place called ps n)
  where
    one : IsOwn (called p.path) (own_names p) n ⊎ NoneOwn (called p.path) (own_names p) n
        → ((q : Placed) (m : Name) → IsAmong ps q → IsNameOf q m → called q.path m ≢ n) ⊎ IsOfPlace called ps n
        → ((q : Placed) (m : Name) → IsAmong (p ∷ ps) q → IsNameOf q m → called q.path m ≢ n) ⊎ IsOfPlace called (p ∷ ps) n
    one (inl o) r = inr (record { place = p; own = o.own; is_place = inl refl; is_own = listed_name p o.own o.is_own; is_name = o.is_name })
    one (inr o) (inr r) = inr (record { place = r.place; own = r.own; is_place = inr r.is_place; is_own = r.is_own; is_name = r.is_name })
    one (inr o) (inl r) = inl none
      where
        none : (q : Placed) (m : Name) → IsAmong (p ∷ ps) q → IsNameOf q m → called q.path m ≢ n
        none q m (inl e) i g =
            o m (name_listed p m (subst (λ (z : Placed). IsNameOf z m) (sym e) i)) (ap (λ (z : Placed). called z.path m) e ∙ g)
        none q m (inr h) i g = r q m h i g

-- ---- rows of ports

input-direction : (o : Option Declaration) → is_declared_input o ≡ is_input (direction_at o)
input-direction None = refl
input-direction (Some d) = refl

output-row : (t : Scope) (o : Option Declaration) → is_output_row (option_map (row t) o) ≡ is_output (direction_at o)
output-row t None = refl
output-row t (Some d) = refl

input-is : (o : Option Direction) → is_input o ≡ true → o ≡ Some input
input-is None h = absurd (false≢true h)
input-is (Some input) h = refl
input-is (Some output) h = absurd (false≢true h)

output-is : (o : Option Direction) → is_output o ≡ true → o ≡ Some output
output-is None h = absurd (false≢true h)
output-is (Some input) h = absurd (false≢true h)
output-is (Some output) h = refl

not-true : (b : Bool) → not b ≡ true → b ≡ false
not-true true h = absurd (false≢true h)
not-true false h = refl

not-false : (b : Bool) → (b ≡ true → ⊥) → not b ≡ true
not-false true h = absurd (h refl)
not-false false h = refl

-- ---- outputs that are read

module _ (s : Scope) (names : ModuleScope) (n : Name) (k b : ℕ) where
  whole-reads : IsTrue (is_none (s n).constant) → is_bit_of (s n) k b ≡ true → reads s (name n whole) n k b ≡ true
  whole-reads c h = rw (is_same n, c, h) refl

  read-whole : (m : Name) → reads s (name m whole) n k b ≡ true → m ≡ n
  read-whole m h =
      either (same_name m n && (is_none (s m).constant && (is_bit_of (s m) k b && true))) false h
      (λ e. same_is m n (and_parts (same_name m n) (is_none (s m).constant && (is_bit_of (s m) k b && true)) e).0) (λ e. absurd (false≢true e))

  one-output : (m : Name) → output_reads s names m n k b ≡ true → is_output_name names n ≡ true
  one-output m h = at (is_output_name names m) refl h
    where
      at : (t : Bool) → is_output_name names m ≡ t → cond t (reads s (name m whole)) (λ x y z. false) n k b ≡ true → is_output_name names n ≡ true
      at true e g = subst (λ (z : Name). is_output_name names z ≡ true) (read-whole m g) e
      at false e g = absurd (false≢true g)

  outputs-are : (rs : List Row) → outputs_read s names rs n k b ≡ true → is_output_name names n ≡ true
  outputs-are [] h = absurd (false≢true h)
  outputs-are (r ∷ rs) h =
      either (output_reads s names r.of_name n k b) (outputs_read s names rs n k b) h (λ e. one-output r.of_name e) (λ e. outputs-are rs e)

  here : is_output_name names n ≡ true → reads s (name n whole) n k b ≡ true → output_reads s names n n k b ≡ true
  here e h = at (is_output_name names n) e
    where
      at : (t : Bool) → t ≡ true → cond t (reads s (name n whole)) (λ x y z. false) n k b ≡ true
      at true i = h
      at false i = absurd (false≢true i)

  are-outputs : (rs : List Row) → is_some (row_named rs n) ≡ true → is_output_name names n ≡ true → reads s (name n whole) n k b ≡ true → outputs_read s names rs n k b ≡ true
  are-outputs [] i e h = absurd (false≢true i)
  are-outputs (r ∷ rs) i e h = at (same_name r.of_name n) refl i (λ j. are-outputs rs j e h)
    where
      at : (t : Bool) → same_name r.of_name n ≡ t → is_some (cond t (Some (row_and_later r (row_named rs n))) (row_named rs n)) ≡ true
          → (is_some (row_named rs n) ≡ true → outputs_read s names rs n k b ≡ true) → (output_reads s names r.of_name n k b || outputs_read s names rs n k b) ≡ true
      at true g j f =
          or_left (output_reads s names r.of_name n k b) (outputs_read s names rs n k b)
          (subst (λ (z : Name). output_reads s names z n k b ≡ true) (sym (same_is r.of_name n g)) (here e h))
      at false g j f = or_right (output_reads s names r.of_name n k b) (outputs_read s names rs n k b) (f j)

  row-there : is_output_name names n ≡ true → is_some (declared_in names n) ≡ true
  row-there h = at (declared_in names n) h
    where
      at : (o : Option Row) → is_output_row o ≡ true → is_some o ≡ true
      at None g = absurd (false≢true g)
      at (Some r) g = refl

-- ---- drivers of the items

module _ (s : Scope) (items : List Item) (n : Name) where
  abbrev Driven : ℕ → ℕ → Type 0
  Driven l c = IsDrivenFlat s (assignments items) (combinational_blocks items) (clocked_blocks items) n l c

  one-driven : (l c : ℕ) → OneHas (drivers s items) n l c → IsTrue (is_bit_of (s n) l c) × Driven l c
  one-driven l c h = let r = driven-by s n l c items h in (r.0, of_kind r.0 r.1)
    where
      of_kind : is_bit_of (s n) l c ≡ true → DrivenBy s n l c items → Driven l c
      of_kind bit (DrivenBy.by_links i) = inr (inr i)
      of_kind bit (DrivenBy.by_clock i) = inl (and_from (is_bit_of (s n) l c) (one_may_assign s (clocked_blocks items) n l c) bit i)
      of_kind bit (DrivenBy.by_others i) = inr (inl i)

  driven-one : (l c : ℕ) → is_bit_of (s n) l c ≡ true → Driven l c → OneHas (drivers s items) n l c
  driven-one l c bit (inl i) =
      by-driven s n l c items bit (DrivenBy.by_clock (and_parts (is_bit_of (s n) l c) (one_may_assign s (clocked_blocks items) n l c) i).1)
  driven-one l c bit (inr (inl i)) = by-driven s n l c items bit (DrivenBy.by_others i)
  driven-one l c bit (inr (inr i)) = by-driven s n l c items bit (DrivenBy.by_links i)

  any-driver : (m : Bool) (k b : ℕ) → HasAnyAs m (drivers s items) n k b → HasFlatDriverAs m s (assignments items) (combinational_blocks items) (clocked_blocks items) n k b
  any-driver false k b h = (one-driven k b h).1
  any-driver true k b h = let r = one-driven h.0 h.1 h.2 in (h.0, h.1, r.0, r.1)

  driver-any : (m : Bool) (k b : ℕ) → is_bit_of (s n) k b ≡ true → HasFlatDriverAs m s (assignments items) (combinational_blocks items) (clocked_blocks items) n k b
      → HasAnyAs m (drivers s items) n k b
  driver-any false k b bit h = driven-one k b bit h
  driver-any true k b bit h = (h.0, h.1, driven-one h.0 h.1 h.2 h.3)

some_same : {A : Type 0} {x y : A} → Some x ≡ Some y → x ≡ y
some_same e = cc

-- ---- the design

module _ (d : Design) (called : Naming) (spots : List Spot) (s : Scope) (items : List Item) (names : ModuleScope) (first : Spot) (h : HasSoundPlaces d spots)
    (plain_top : IsPlainOnTop called) (flat : IsFlatDesign d called s items) (is_first : slice_get spots 0 ≡ Some first) (known : HasNamesOf names first.of_module) where
  at_top : IsPlacedIn d (placed_by [] first)
  at_top =
      let n : AreNumbered d spots = are_numbered d spots h.places h.sound in
      let f = n.each 0 first is_first in
      subst (λ q. IsPlacedIn d (placed_by q first)) (top_path spots f.0 f.1.stands) (n.stands 0 f.0 (placed_by f.0 first) f.1)

  -- the top's names are called what they are
  top_called : (n : Name) → called (placed_by [] first).path n ≡ n
  top_called n = plain_top n

  -- a port of the top has its own name in the one scope
  of_top : (p : Placed) (m : Name) (way : Direction) (n : Name) → IsPlacedIn d p → IsNameOf p m → HasPort first.of_module n way → called p.path m ≡ n
      → (p ≡ placed_by [] first) × (m ≡ n)
  of_top p m way n at is port e = one_place d called flat.naming p (placed_by [] first) m n at at_top is (inl (port_is_declared (placed_by [] first) n way port)) (e ∙ sym (top_called n))

  clock_port : HasPort first.of_module d.clock input
  clock_port =
      let none : has_no_clock (placed_by [] first) d.clock ≡ false =
      not_true (has_no_clock (placed_by [] first) d.clock)
      (λ t. h.has_top (HasNoTop.no_clock (placed_by [] first) (modules_are_known d (placed_by [] first) h.sound at_top).is_known t)) in
      let port : is_input_port first.of_module d.clock ≡ true = left (is_input_port first.of_module d.clock) (is_wide_clock (placed_by [] first) d.clock) none in
      input-is (entry_of (port_directions first.of_module) d.clock)
      (and_parts (is_among (port_order first.of_module) d.clock) (is_input (entry_of (port_directions first.of_module) d.clock)) port).1
    where
      left : (a b : Bool) → (not a || b) ≡ false → a ≡ true
      left true b e = refl
      left false b e = absurd (true≢false e)

  input-found : (n : Name) → is_input_row (declared_in names n) ≡ is_input (entry_of (port_directions first.of_module) n)
  input-found n =
      ap is_input_row (row-so (placed_by [] first) names known n) ∙ input-so (scope_of known.0) (declaration_of (declarations first.of_module) n)
      ∙ input-direction (declaration_of (declarations first.of_module) n) ∙ ap is_input (directions-agree n first.of_module)

  output-found : (n : Name) → is_output_name names n ≡ is_output (entry_of (port_directions first.of_module) n)
  output-found n =
      ap is_output_row (row-so (placed_by [] first) names known n) ∙ output-row (scope_of known.0) (declaration_of (declarations first.of_module) n)
      ∙ ap is_output (directions-agree n first.of_module)

  says : (p : Placed) (m n : Name) → IsPlacedIn d p → IsNameOf p m → called p.path m ≡ n → s n ≡ placed_scope p m
  says p m n at is e = ap s (sym e) ∙ flat.flat.says_the_same p m at is

  -- a net or variable has no value as a constant
  no_constant : (p : Placed) (m n : Name) → IsPlacedIn d p → IsDeclared p m → called p.path m ≡ n → IsTrue (is_none (s n).constant)
  no_constant p m n at net e =
      subst (λ o. IsTrue (is_none o.constant)) (sym (says p m n at (inl net) e)) (net_without d h.sound.names_declared h.sound.names_once h.ports p m at net)

  -- a name with bits that are read is a net or variable
  is_net : (p : Placed) (m n : Name) → IsPlacedIn d p → IsNameOf p m → called p.path m ≡ n → IsTrue (is_none (s n).constant) → IsDeclared p m
  is_net p m n at (inl net) e none = net
  is_net p m n at (inr is) e none =
      absurd (apart (placed_scope p m).constant (parameter_number d p.path p at m is) (subst (λ o. IsTrue (is_none o.constant)) (says p m n at (inr is) e) none))
    where
      apart : (x : Option ℕ) → IsTrue (is_some x) → IsTrue (is_none x) → ⊥
      apart None f g = cc
      apart (Some k) f g = cc

  found : (n : Name) → IsTrue ((s n).is_declared) → IsOfPlace called (placed_of spots) n
  found n is = one (found_place called (placed_of spots) n)
    where
      one : ((p : Placed) (m : Name) → IsAmong (placed_of spots) p → IsNameOf p m → called p.path m ≢ n) ⊎ IsOfPlace called (placed_of spots) n → IsOfPlace called (placed_of spots) n
      one (inr r) = r
      one (inl none) =
          let placing : IsPlacing d spots = is_placing d spots h.places h.sound h.no_dots in
          absurd (true≢false (sym is ∙ ap (λ o. o.is_declared) (flat.no_others n
          (λ p m at i e. none p m (among_contains (placed_of spots) p ((placing.placed.are_placed p).1 at)) i e))))

  -- ---- what is read

  lists_flat : (n : Name) (k b : ℕ) → all_items_read s items n k b ≡ true → IsReadFlat s (assignments items) (combinational_blocks items) (clocked_blocks items) n k b
  lists_flat n k b e =
      either (list_any (listing.by_link s n k b) (assignments items)) (list_any (listing.by_block s n k b) (clocked_blocks items) || list_any (listing.by_block s n k b) (combinational_blocks items))
      (sym (read-lists s n k b items) ∙ e)
      (λ i. let o = one-of (listing.by_link s n k b) (assignments items) i in IsReadFlat.by_link o.element o.stands o.so)
      (λ i. either (list_any (listing.by_block s n k b) (clocked_blocks items)) (list_any (listing.by_block s n k b) (combinational_blocks items)) i
      (λ j. let o = one-of (listing.by_block s n k b) (clocked_blocks items) j in IsReadFlat.by_clocked o.element o.stands o.so)
      (λ j. let o = one-of (listing.by_block s n k b) (combinational_blocks items) j in IsReadFlat.by_block o.element o.stands o.so))

  flat_lists : (n : Name) (k b : ℕ) → IsReadFlat s (assignments items) (combinational_blocks items) (clocked_blocks items) n k b → all_items_read s items n k b ≡ true
  flat_lists n k b (IsReadFlat.by_link a c t) =
      read-lists s n k b items
      ∙ or_left (list_any (listing.by_link s n k b) (assignments items)) (list_any (listing.by_block s n k b) (clocked_blocks items) || list_any (listing.by_block s n k b) (combinational_blocks items))
      (any-there (listing.by_link s n k b) (assignments items) a c t)
  flat_lists n k b (IsReadFlat.by_clocked x c t) =
      read-lists s n k b items
      ∙ or_right (list_any (listing.by_link s n k b) (assignments items)) (list_any (listing.by_block s n k b) (clocked_blocks items) || list_any (listing.by_block s n k b) (combinational_blocks items))
      (or_left (list_any (listing.by_block s n k b) (clocked_blocks items)) (list_any (listing.by_block s n k b) (combinational_blocks items))
      (any-there (listing.by_block s n k b) (clocked_blocks items) x c t))
  flat_lists n k b (IsReadFlat.by_block x c t) =
      read-lists s n k b items
      ∙ or_right (list_any (listing.by_link s n k b) (assignments items)) (list_any (listing.by_block s n k b) (clocked_blocks items) || list_any (listing.by_block s n k b) (combinational_blocks items))
      (or_right (list_any (listing.by_block s n k b) (clocked_blocks items)) (list_any (listing.by_block s n k b) (combinational_blocks items))
      (any-there (listing.by_block s n k b) (combinational_blocks items) x c t))

  -- ---- one way

  abbrev FlatUndriven : Type 0
  FlatUndriven = HasUndrivenFlat d called s (assignments items) (combinational_blocks items) (clocked_blocks items)

  there : FlatUndriven → HasUndrivenBit s names d.clock items
  there g =
      record {
        name = called g.place.path g.name;
        word = g.word;
        bit = g.bit;
        needs = and_from ((s (called g.place.path g.name)).is_declared) (not (same_name d.clock (called g.place.path g.name)) && not (is_input_row (declared_in names (called g.place.path g.name)))) declared
            (and_from (not (same_name d.clock (called g.place.path g.name))) (not (is_input_row (declared_in names (called g.place.path g.name))))
            (not-false (same_name d.clock (called g.place.path g.name)) (λ e. clock (same_is d.clock (called g.place.path g.name) e)))
            (not-false (is_input_row (declared_in names (called g.place.path g.name))) is_input_name));
        is_read = read;
        undriven = λ a. g.undriven (any-driver s items (called g.place.path g.name) (is_memory (s (called g.place.path g.name))) g.word g.bit a);
      }
    where
      declared : IsTrue ((s (called g.place.path g.name)).is_declared)
      declared =
          subst (λ o. IsTrue (o.is_declared)) (sym (says g.place g.name (called g.place.path g.name) g.is_placed (inl g.is_declared) refl))
          (declared_name d h.sound g.place g.is_placed g.name (inl g.is_declared))

      top_port : (way : Direction) → HasPort first.of_module (called g.place.path g.name) way → (g.place ≡ placed_by [] first) × (g.name ≡ called g.place.path g.name)
      top_port way port = of_top g.place g.name way (called g.place.path g.name) g.is_placed (inl g.is_declared) port refl

      clock : d.clock ≡ called g.place.path g.name → ⊥
      clock e =
          let r = top_port input (subst (λ k. HasPort first.of_module k input) e clock_port) in
          g.needs (ap (λ (z : Placed). z.path) r.0) (inl (r.1 ∙ sym e))

      is_input_name : is_input_row (declared_in names (called g.place.path g.name)) ≡ true → ⊥
      is_input_name e =
          let port : HasPort first.of_module (called g.place.path g.name) input =
          input-is (entry_of (port_directions first.of_module) (called g.place.path g.name)) (sym (input-found (called g.place.path g.name)) ∙ e) in
          let r = top_port input port in
          g.needs (ap (λ (z : Placed). z.path) r.0)
          (inr (subst (λ (z : Placed). HasPort z.of_module g.name input) (sym r.0) (subst (λ k. HasPort first.of_module k input) (sym r.1) port)))

      read : module_reads s names items (called g.place.path g.name) g.word g.bit ≡ true
      read = at g.is_read
        where
          at : IsReadFlat s (assignments items) (combinational_blocks items) (clocked_blocks items) (called g.place.path g.name) g.word g.bit
              ⊎ (IsOutputOfTop g.place g.name × IsBitOf g.place g.name g.word g.bit)
              → module_reads s names items (called g.place.path g.name) g.word g.bit ≡ true
          at (inl r) =
              or_left (all_items_read s items (called g.place.path g.name) g.word g.bit)
              (outputs_read s names (rows_of names.declared.items) (called g.place.path g.name) g.word g.bit) (flat_lists (called g.place.path g.name) g.word g.bit r)
          at (inr r) =
              or_right (all_items_read s items (called g.place.path g.name) g.word g.bit)
              (outputs_read s names (rows_of names.declared.items) (called g.place.path g.name) g.word g.bit)
              (are-outputs s names (called g.place.path g.name) g.word g.bit (rows_of names.declared.items) (row-there s names (called g.place.path g.name) g.word g.bit out) out
              (whole-reads s names (called g.place.path g.name) g.word g.bit
              (no_constant g.place g.name (called g.place.path g.name) g.is_placed g.is_declared refl)
              (subst (λ o. is_bit_of o g.word g.bit ≡ true) (sym (says g.place g.name (called g.place.path g.name) g.is_placed (inl g.is_declared) refl)) r.1)))
            where
              same : g.place ≡ placed_by [] first
              same = some_same (sym g.is_placed ∙ (ap (at_path d) r.0.at_top ∙ at_top))

              plain : called g.place.path g.name ≡ g.name
              plain = ap (λ q. called q g.name) r.0.at_top ∙ plain_top g.name

              out : is_output_name names (called g.place.path g.name) ≡ true
              out =
                  ap (is_output_name names) plain
                  ∙ (output-found g.name ∙ ap is_output (subst (λ (z : Placed). HasPort z.of_module g.name output) same r.0.is_port))

  -- ---- and back

  back : HasUndrivenBit s names d.clock items → FlatUndriven
  back g =
      record {
        place = own.place;
        name = own.own;
        word = g.word;
        bit = g.bit;
        is_placed = at;
        is_declared = net;
        is_read = subst (λ (z : Name). IsReadFlat s (assignments items) (combinational_blocks items) (clocked_blocks items) z g.word g.bit ⊎ (IsOutputOfTop own.place own.own × IsBitOf own.place own.own g.word g.bit)) (sym own.is_name) read;
        needs = needs;
        undriven = subst (λ (z : Name). HasFlatDriverAs (is_memory (s z)) s (assignments items) (combinational_blocks items) (clocked_blocks items) z g.word g.bit → ⊥) (sym own.is_name)
            (λ a. g.undriven (driver-any s items g.name (is_memory (s g.name)) g.word g.bit bit a));
      }
    where
      parts : ((s g.name).is_declared ≡ true) × ((not (same_name d.clock g.name) && not (is_input_row (declared_in names g.name))) ≡ true)
      parts = and_parts ((s g.name).is_declared) (not (same_name d.clock g.name) && not (is_input_row (declared_in names g.name))) g.needs

      others : (not (same_name d.clock g.name) ≡ true) × (not (is_input_row (declared_in names g.name)) ≡ true)
      others = and_parts (not (same_name d.clock g.name)) (not (is_input_row (declared_in names g.name))) parts.1

      own : IsOfPlace called (placed_of spots) g.name
      own = found g.name parts.0

      at : IsPlacedIn d own.place
      at =
          let placing : IsPlacing d spots = is_placing d spots h.places h.sound h.no_dots in
          (placing.placed.are_placed own.place).0 (contains_among (placed_of spots) own.place own.is_place)

      bit : is_bit_of (s g.name) g.word g.bit ≡ true
      bit = module-within s names items g.name g.word g.bit g.is_read

      -- read by the items, or an output of the top
      cases : {A : Type 0} → (all_items_read s items g.name g.word g.bit ≡ true → A) → (is_output_name names g.name ≡ true → A) → A
      cases f o =
          either (all_items_read s items g.name g.word g.bit) (outputs_read s names (rows_of names.declared.items) g.name g.word g.bit) g.is_read f
          (λ e. o (outputs-are s names g.name g.word g.bit (rows_of names.declared.items) e))

      output_port : is_output_name names g.name ≡ true → HasPort first.of_module g.name output
      output_port e = output-is (entry_of (port_directions first.of_module) g.name) (sym (output-found g.name) ∙ e)

      net : IsDeclared own.place own.own
      net =
          cases (λ e. is_net own.place own.own g.name at own.is_own own.is_name (items_of s items g.name g.word g.bit e))
          (λ e.
          let r = of_top own.place own.own output g.name at own.is_own (output_port e) own.is_name in
          subst (λ (z : Placed). IsDeclared z own.own) (sym r.0)
          (subst (IsDeclared (placed_by [] first)) (sym r.1) (port_is_declared (placed_by [] first) g.name output (output_port e))))

      read : IsReadFlat s (assignments items) (combinational_blocks items) (clocked_blocks items) g.name g.word g.bit
          ⊎ (IsOutputOfTop own.place own.own × IsBitOf own.place own.own g.word g.bit)
      read =
          cases (λ e. inl (lists_flat g.name g.word g.bit e))
          (λ e.
          let r = of_top own.place own.own output g.name at own.is_own (output_port e) own.is_name in
          inr (
            record {
              at_top = ap (λ (z : Placed). z.path) r.0;
              is_port = subst (λ (z : Placed). HasPort z.of_module own.own output) (sym r.0) (subst (λ k. HasPort first.of_module k output) (sym r.1) (output_port e));
            },
            subst (λ o. IsTrue (is_bit_of o g.word g.bit)) (says own.place own.own g.name at own.is_own own.is_name) bit,
          ))

      needs : own.place.path ≡ [] → (own.own ≡ d.clock) ⊎ HasPort own.place.of_module own.own input → ⊥
      needs path e =
          let plain : own.own ≡ g.name = sym (plain_top own.own) ∙ ap (λ q. called q own.own) (sym path) ∙ own.is_name in
          let same : own.place ≡ placed_by [] first = some_same (sym at ∙ (ap (at_path d) path ∙ at_top)) in
          elim e as (λ _. ⊥) [
            | inl i ↦ true≢false (sym (subst (λ k. same_name k g.name ≡ true) (sym plain ∙ i) (is_same g.name)) ∙ not-true (same_name d.clock g.name) others.0)
            | inr i ↦
                let port : HasPort first.of_module g.name input =
                subst (λ k. HasPort first.of_module k input) plain (subst (λ (z : Placed). HasPort z.of_module own.own input) same i) in
                true≢false (sym (input-found g.name ∙ ap is_input port) ∙ not-true (is_input_row (declared_in names g.name)) others.1)
          ]

pub undriven_bits_are_flat : UndrivenBitsAreFlat
undriven_bits_are_flat d called spots s items names top h plain_top flat is_first known =
    let law = undriven_bits_are_the_same d called s (assignments items) (combinational_blocks items) (clocked_blocks items) h.sound.names_declared h.sound.names_once h.ports flat.naming flat.flat in (
      (λ u. there d called spots s items names top h plain_top flat is_first known (law.0 u)),
      (λ u. law.1 (back d called spots s items names top h plain_top flat is_first known u)),
    )
