-- A design in one scope can be elaborated, where it is accepted.
use Rattle.std.proofs.Common.{◌≡◌, ◌≢◌, ◌∙◌, ◌≤◌, ℕ, eq-eqb, refl, ap, sym, subst, arith, Bool, true, false, cond, not, ◌&&◌, ◌||◌, nat_le, List, [], ◌∷◌, ◌++◌, ◌⊎◌, inl, inr, Option, Some, None, is_some, Contains}
use Rattle.std.specs.Prelude.{IsTrue, option_and_then, ◌==◌}
use Rattle.std.specs.List.{list_any}
use Rattle.std.proofs.lemmas.Bool.{false≢true, true≢false, and_parts, and_from, cases_Bool, eqb-true}
use Rattle.std.proofs.lemmas.Bool.Decides.{nat_tests}
use Rattle.wb_values.specs.Value.{Name, same_name, entry_of}
use Rattle.wb_values.specs.Choice.{first_of}
use Rattle.verilog_trees.specs.Syntax.{Expression, Target, Statement, Direction, input, output, Item}
use Rattle.verilog_meaning.specs.Expression.{Object, Scope, undeclared as no_object, object_or_undeclared, scope_of, is_memory}
use Rattle.verilog_meaning.specs.Register.{clocked_blocks, combinational_blocks}
use Rattle.verilog_meaning.specs.Hierarchy.{Declaration, declarations, declaration_of, and_later, Placed, placed_scope}
use Rattle.verilog_meaning.specs.Settled.{Design, IsPlacedIn, is_declared_among, IsDeclared, HasPort, port_directions, assignments}
use Rattle.verilog_registers.specs.Registers as design
use Rattle.verilog_designs.specs.Known.{known_declaration}
use Rattle.verilog_designs.specs.Names.{is_among}
use Rattle.verilog_designs.specs.Ports.{is_input}
use Rattle.verilog_designs.specs.Paths.{has_blocking}
use Rattle.verilog_designs.specs.Drivers.{target_names, assigned_names, is_declared_reg, is_variable, is_fixed, in_clocked}
use Rattle.verilog_designs.specs.Dependence.{Bit}
use Rattle.verilog_designs.specs.Accepted as accepted
use Rattle.verilog_designs.specs.Accepted.{HasUndeclared, IsAccepted}
use Rattle.verilog_settled.specs.Locality.{HasNoConstantMemory}
use Rattle.verilog_unique.proofs.Options.{same_is, is_same}
use Rattle.verilog_unique.proofs.Descent.{IsAmong, contains_among, among_contains}
use Rattle.verilog_unique.proofs.Parameters.{parameter_number, no_constant_memory}
use Rattle.verilog_unique.proofs.Paths.{stands_at, placed_in}
use Rattle.verilog_unique.proofs.Ports.{port_is_declared}
use Rattle.verilog_exists.specs.Exists.{IsShapely}
use Rattle.verilog_exists.specs.Loops.{IsAcceptedButForLoops}
use Rattle.verilog_exists.proofs.Givers.{IsSound}
use Rattle.verilog_exists.proofs.Drivers.{is_sound}
use Rattle.verilog_exists.proofs.Memories.{no_duplicate}
use Rattle.verilog_exists.proofs.Valued.{ranges_known}
use Rattle.verilog_renamed.specs.Renamed.{renamed_statement}
use Rattle.flat_designs.specs.Flat.{IsNameOf, Naming, IsNaming, IsFlatClocked, of_clocked, IsFlat}
use Rattle.flat_designs.specs.Depending.{DependsFlat, DependsFlatFar}
use Rattle.flat_designs.proofs.Depending.{bits_depend_on_the_same}
use Rattle.flat_rules.specs.Sound.{HasSoundModules}
use Rattle.flat_rules.specs.Drivers.{DriversBreakNothing, KnowsNoOtherNames}
use Rattle.flat_rules.proofs.Real.{entry_is}
use Rattle.flat_rules.proofs.Placed as placed
use Rattle.flat_rules.proofs.Drivers.{declared_name, flat_drivers_break_nothing, flat_scopes_are_narrow}
use Rattle.flat_fitting.specs.Fitting.{AreFitForAll}
use Rattle.flat_fitting.proofs.Fitting.{flat_items_are_fit}
use Rattle.v_value.specs.Narrow.{HasNarrowObjects}
use Rattle.v_assigned.proofs.OneModule.{one-of}
use Rattle.v_lower.specs.Lowered.{has_sort, has_number}
use Rattle.v_write.specs.Sound.{IsSoundStatement}
use Rattle.v_write.specs.Soundness.{UnbrokenIsSound}
use Rattle.v_loops.specs.OneModule.{DependsIn, DependsFarIn, HasLoopIn}
use Rattle.v_loops.specs.Turns.{HaveConstantSelects}
use Rattle.v_settle.specs.Drivers.{AreSoundLinks}
use Rattle.v_settle.specs.OneModule.{AreSound, IsEvaluable}
use Rattle.v_edge.specs.Edge as edge
use Rattle.v_registers.specs.Registers.{IsRegister}
use Rattle.v_elab.specs.Names.{HasSmallAddresses, is_data_port, after_front, tested_after, is_given_port}
use Rattle.v_elab.specs.Elaborated.{body_in}
use Rattle.v_elab.specs.Elaborable.{IsElaborable}
use Rattle.v_elab.specs.Flat.{IsFlatBody}
use Rattle.v_elab.proofs.Once.{test_among}
use Rattle.v_elab.proofs.Small.{IsSmall, declared_small}
use Rattle.v_elab.proofs.FlatTrees.{target_named, assigned_named, same_blocking}
use Rattle.v_elab.proofs.FlatNumbers.{no_number}
use Rattle.v_elab.proofs.FlatOnce.{IsLinkThere, link_there, IsBlockThere, block_there, one_driver}
use Rattle.v_elab.proofs.FlatLinks.{IsNetThere, link_sound}
use Rattle.v_elab.proofs.FlatNames.{all_named, are_distinct}
use Rattle.v_elab.proofs.FlatWhole.{AreInputsOfTop, to_design}

-- ---- accepted designs

pub sound_modules : (d : Design) → IsAccepted d → IsShapely d → HasSoundModules d
sound_modules d accepts shapely =
    record {
      names_declared = accepts accepted.undeclared;
      names_once = accepts accepted.duplicate_name;
      digits = accepts accepted.has_xz;
      constants = accepts accepted.bad_constant;
      widths = accepts accepted.width_over_128;
      selects = accepts accepted.bad_select;
      memories = accepts accepted.memory_use;
      shapely = shapely;
    }

-- what is declared as a variable is declared
variable_declared : (ds : List Declaration) (n : Name) → is_declared_reg (declaration_of ds n) ≡ true → IsTrue (is_declared_among ds n)
variable_declared [] n h = absurd (false≢true h)
variable_declared (d ∷ ds) n h = by (same_name d.of_name n) h (variable_declared ds n)
  where
    by : (t : Bool) → is_declared_reg (cond t (Some (and_later d (declaration_of ds n))) (declaration_of ds n)) ≡ true
        → (is_declared_reg (declaration_of ds n) ≡ true → IsTrue (is_declared_among ds n)) → IsTrue (t || is_declared_among ds n)
    by true k g = refl
    by false k g = g k

-- what comes after a front
front_is : (front n m : Name) → after_front front n ≡ Some m → n ≡ front ++ m
front_is [] n m e = cc
front_is (c ∷ cs) [] m e = cc
front_is (c ∷ cs) (x ∷ xs) m e = by (c == x) refl e (front_is cs xs m)
  where
    by : (t : Bool) → (c == x) ≡ t → cond t (after_front cs xs) None ≡ Some m → (after_front cs xs ≡ Some m → xs ≡ cs ++ m) → x ∷ xs ≡ c ∷ cs ++ m
    by true q g rest = let same = eqb-true c x q in (λ i. sym same i ∷ rest g i)
    by false q g rest = absurd (false≢true (ap is_some g))

after_itself : (front m : Name) → after_front front (front ++ m) ≡ Some m
after_itself [] m = refl
after_itself (c ∷ cs) m = ap (λ t. cond t (after_front cs (cs ++ m)) None) (eq-eqb c c refl) ∙ after_itself cs m

input_is : (o : Option Direction) → is_input o ≡ true → o ≡ Some input
input_is None h = absurd (false≢true h)
input_is (Some input) h = refl
input_is (Some output) h = absurd (false≢true h)

number_so : (o : Object) → is_some o.constant ≡ true → is_memory o ≡ false → has_number o ≡ true
number_so o c m = and_from (is_some o.constant) (not (is_memory o)) c (ap not m)

module _ (d : Design) (called : Naming) (top : Placed) (s : Scope) (items : List Item) (ns : List Name) (accepts : IsAccepted d) (shapely : IsShapely d)
    (flat : IsFlatBody d called top s items ns) where
  abbrev ck : List Statement
  ck = clocked_blocks items

  abbrev links : List (Target × Expression)
  links = assignments items

  abbrev blocks : List Statement
  blocks = combinational_blocks items

  abbrev drivers : IsFlat d called s links blocks ck
  drivers = flat.flat.flat

  abbrev others : KnowsNoOtherNames d called s
  others = flat.flat.no_others

  but_loops : IsAcceptedButForLoops d
  but_loops kind other = accepts kind

  pub good : ¬ HasUndeclared d
  good = accepts accepted.undeclared

  pub naming : IsNaming d called
  naming = flat.flat.naming

  modules : HasSoundModules d
  modules = sound_modules d accepts shapely

  sound : IsSound d
  sound = is_sound d but_loops (ranges_known d but_loops shapely)

  objects : HasNarrowObjects s
  objects = flat_scopes_are_narrow d called s links blocks ck modules drivers others

  fit : AreFitForAll s items
  fit = flat_items_are_fit d called s items modules drivers others

  unbroken : DriversBreakNothing s links blocks ck
  unbroken = flat_drivers_break_nothing d called s links blocks ck modules drivers

  -- what holds of the names of all modules, and of names that are not known, holds of all names
  all_names : (P : Object → Bool) → P no_object ≡ true → ((p : Placed) (m : Name) → IsPlacedIn d p → IsNameOf p m → P (placed_scope p m) ≡ true)
      → (n : Name) → P (s n) ≡ true
  all_names P none each n = by (P (s n)) refl
    where
      by : (t : Bool) → P (s n) ≡ t → t ≡ true
      by true e = refl
      by false e =
          sym e ∙ ap P (others n (λ p m at h k.
          false≢true (sym e ∙ ap (λ i. P (s i)) (sym k) ∙ ap P (drivers.says_the_same p m at h) ∙ each p m at h))) ∙ none

  -- ---- names

  -- of a net or variable: no number
  net_there : (p : Placed) (m : Name) → IsPlacedIn d p → IsDeclared p m → is_memory (placed_scope p m) ≡ false → IsNetThere (s (called p.path m))
  net_there p m at h plain =
      subst IsNetThere (sym (drivers.says_the_same p m at (inl h)))
      (record { declared = declared_name d modules p at m (inl h); plain = plain; variable = no_number d p m at (no_duplicate d but_loops p at) h })

  variable_there : (p : Placed) (m : Name) → IsPlacedIn d p → IsDeclared p m → (s (called p.path m)).constant ≡ None
  variable_there p m at h = ap (λ (o : Object). o.constant) (drivers.says_the_same p m at (inl h)) ∙ no_number d p m at (no_duplicate d but_loops p at) h

  has_no_memory : Object → Bool
  has_no_memory o = not (is_some o.constant && is_memory o)

  parameters : HasNoConstantMemory s
  unfolding has_no_memory
  parameters n c = by (cases_Bool (is_memory (s n)))
    where
      each : (p : Placed) (m : Name) → IsPlacedIn d p → IsNameOf p m → has_no_memory (placed_scope p m) ≡ true
      each p m at h = found (is_some (placed_scope p m).constant) refl
        where
          found : (t : Bool) → is_some (placed_scope p m).constant ≡ t → not (t && is_memory (placed_scope p m)) ≡ true
          found true e = ap not (no_constant_memory d p.path p at m e)
          found false e = refl

      both : (a b : Bool) → a ≡ true → b ≡ true → not (a && b) ≡ true → ⊥
      both true true e f h = false≢true h
      both true false e f h = false≢true f
      both false b e f h = false≢true e

      by : (is_memory (s n) ≡ true) ⊎ (is_memory (s n) ≡ false) → is_memory (s n) ≡ false
      by (inl e) = absurd (both (is_some (s n).constant) (is_memory (s n)) c e (all_names has_no_memory refl each n))
      by (inr e) = e

  -- ---- addresses

  small_pair : Option (ℕ × ℕ) → Bool
  small_pair None = true
  small_pair (Some a) = nat_le a.0 65535 && nat_le a.1 65535

  to_test : (o : Option (ℕ × ℕ)) → IsSmall o → small_pair o ≡ true
  unfolding small_pair
  to_test None h = refl
  to_test (Some a) h = and_from (nat_le a.0 65535) (nat_le a.1 65535) (le a.0 h.0) (le a.1 h.1)
    where
      le : (x : ℕ) → x ≤ 65535 → nat_le x 65535 ≡ true
      le x k = grind (arith, nat_tests, k)

  from_test : (o : Option (ℕ × ℕ)) → small_pair o ≡ true → IsSmall o
  unfolding small_pair
  from_test None h = tt
  from_test (Some a) h = let p = and_parts (nat_le a.0 65535) (nat_le a.1 65535) h in (le a.0 p.0, le a.1 p.1)
    where
      le : (x : ℕ) → nat_le x 65535 ≡ true → x ≤ 65535
      le x k = grind (arith, nat_tests, k)

  module_small : (p : Placed) (m : Name) → IsPlacedIn d p → small_pair (placed_scope p m).addresses ≡ true
  unfolding small_pair
  module_small p m at =
      ap (λ (t : Scope). small_pair (t m).addresses) (sym is.same) ∙ found (entry_of p.constants m) (λ o e. (entry_is p.constants m o is.has.parameters e).no_memory)
    where
      is : placed.IsSound d p
      is = placed.is_sound d modules p at

      found : (x : Option Object) → ((o : Object) → x ≡ Some o → o.addresses ≡ None)
          → small_pair (object_or_undeclared (first_of x (option_and_then (known_declaration (scope_of p.constants)) (declaration_of (declarations p.of_module) m)))).addresses ≡ true
      found (Some o) f = ap small_pair (f o refl)
      found None f =
          to_test (object_or_undeclared (option_and_then (known_declaration (scope_of p.constants)) (declaration_of (declarations p.of_module) m))).addresses
          (declared_small (scope_of p.constants) (declaration_of (declarations p.of_module) m))

  small : HasSmallAddresses s
  unfolding small_pair
  small n a h =
      subst IsSmall h (from_test (s n).addresses (all_names (λ o. small_pair o.addresses) refl (λ p m at k. module_small p m at) n))

  -- ---- all that may have a value

  named_test : (n : Name) → IsTrue (has_sort (s n)) → has_number (s n) ≡ false → is_among ns n ≡ true
  named_test n sort number = by (is_among ns n) refl
    where
      each : is_among ns n ≡ false → (p : Placed) (m : Name) → IsPlacedIn d p → IsNameOf p m → called p.path m ≢ n
      each e p m at (inl h) k =
          false≢true (sym e ∙ test_among ns n (subst (IsAmong ns) k (all_named d called top ns flat.is_top flat.in_order p m at h)))
      each e p m at (inr h) k =
          let says : s n ≡ placed_scope p m = ap s (sym k) ∙ drivers.says_the_same p m at (inr h) in
          let c : is_some (placed_scope p m).constant ≡ true = parameter_number d p.path p at m h in
          false≢true (sym number ∙ ap has_number says ∙ number_so (placed_scope p m) c (no_constant_memory d p.path p at m c))

      by : (t : Bool) → is_among ns n ≡ t → t ≡ true
      by true e = refl
      by false e = absurd (false≢true (ap has_sort (sym (others n (each e))) ∙ sort))

  -- ---- drivers

  link_nets : (a : Target × Expression) → IsAmong links a → (n : Name) → IsAmong (target_names a.0) n → IsNetThere (s n)
  link_nets a h n k = from (link_there d called good a ((drivers.are_links a).0 (contains_among links a h)))
    where
      from : IsLinkThere d called a → IsNetThere (s n)
      from g =
          let r = target_named (called g.place.path) g.link.target n (subst (λ (y : Target × Expression). IsAmong (target_names y.0) n) (sym g.same) k) in
          let q = sound.link_name g.place g.link r.0 g.is_placed g.is_link r.1 in
          subst (λ m. IsNetThere (s m)) r.2 (net_there g.place r.0 g.is_placed q.0 q.1)

  links_sound : (xs : List (Target × Expression)) → ((a : Target × Expression) → IsAmong xs a → IsAmong links a) → HaveConstantSelects s xs → AreSoundLinks s xs
  links_sound [] f h = tt
  links_sound (x ∷ xs) f h = (
    link_sound s objects x (link_nets x (f x (inl refl))) h.0 (unbroken.each_link x (contains_among links x (f x (inl refl)))),
    links_sound xs (λ a k. f a (inr k)) h.1,
  )

  module _ (law : UnbrokenIsSound) where
    block_sound : (x : Statement) → IsAmong blocks x → IsSoundStatement s x
    block_sound x h = law s false x objects (unbroken.each_block x c) free
      where
        c : Contains blocks x
        c = contains_among blocks x h

        g : IsBlockThere d called x
        g = block_there d called good x ((drivers.are_blocks x).0 c)

        free : (n : Name) → Contains (assigned_names x) n → (s n).constant ≡ None
        free n k =
            let r = assigned_named (called g.place.path) g.statement n (subst (λ y. IsAmong (assigned_names y) n) (sym g.same) (among_contains (assigned_names x) n k)) in
            ap (λ m. (s m).constant) (sym r.2) ∙ variable_there g.place r.0 g.is_placed (sound.block_name g.place g.statement r.0 g.is_placed g.is_block r.1).0

    blocks_sound : (xs : List Statement) → ((x : Statement) → IsAmong xs x → IsAmong blocks x) → AreSound s xs
    blocks_sound [] f = tt
    blocks_sound (x ∷ xs) f = (block_sound x (f x (inl refl)), blocks_sound xs (λ y k. f y (inr k)))

    -- a clocked block assigns variables alone
    clocked_declared : (p : Placed) (x : Statement) (n : Name) → IsPlacedIn d p → Contains (clocked_blocks p.of_module.items) x → Contains (assigned_names x) n → IsDeclared p n
    clocked_declared p x n at c k = variable_declared (declarations p.of_module) n (by (is_variable p n) refl)
      where
        by : (t : Bool) → is_variable p n ≡ t → t ≡ true
        by true e = refl
        by false e = absurd (accepts accepted.bad_driver (in_clocked p x n at c k (ap (λ t. not t || is_fixed p n) e)))

    clocked_sound : (x : Statement) → IsAmong ck x → IsSoundStatement s x
    clocked_sound x h = law s true x objects (unbroken.each_clocked x (contains_among ck x h)) (free x ((drivers.are_clocked x).0 (contains_among ck x h)))
      where
        free : (y : Statement) → IsFlatClocked d called y → (n : Name) → Contains (assigned_names y) n → (s n).constant ≡ None
        free _ (of_clocked p y at c) n k =
            let r = assigned_named (called p.path) y n (among_contains (assigned_names (renamed_statement (called p.path) y)) n k) in
            ap (λ m. (s m).constant) (sym r.2) ∙ variable_there p r.0 at (clocked_declared p y r.0 at c (contains_among (assigned_names y) r.0 r.1))

    all_clocked_sound : (xs : List Statement) → ((x : Statement) → IsAmong xs x → IsAmong ck x) → edge.AreSound s xs
    all_clocked_sound [] f = tt
    all_clocked_sound (x ∷ xs) f = (clocked_sound x (f x (inl refl)), all_clocked_sound xs (λ y k. f y (inr k)))

    evaluable : IsEvaluable s items
    evaluable =
        record {
          runnable = fit.for_loops;
          links = links_sound links (λ a h. h) fit.for_loops.constant;
          blocks = blocks_sound blocks (λ x h. h);
          one_driver = one_driver d called good naming sound s items drivers;
          parameters = parameters;
        }

    -- ---- clocked blocks wait

    none_waits : list_any has_blocking ck ≡ false
    none_waits = by (list_any has_blocking ck) refl
      where
        no : (y : Statement) → IsFlatClocked d called y → has_blocking y ≡ true → ⊥
        no _ (of_clocked p y at c) e =
            accepts accepted.blocking_in_clocked (record { place = p; statement = y; is_placed = at; stands = c; blocks = sym (same_blocking (called p.path) y) ∙ e })

        by : (t : Bool) → list_any has_blocking ck ≡ t → t ≡ false
        by true e = let o = one-of has_blocking ck e in absurd (no o.element ((drivers.are_clocked o.element).0 o.stands) o.so)
        by false e = refl

    -- ---- loops

    near : (u y : Bit) → DependsIn s items u y → DependsFlat s links blocks u y
    near _ _ (DependsIn.by_assignment a u y c t g) = DependsFlat.by_link a u y c t g
    near _ _ (DependsIn.by_block x u y c t g k) = DependsFlat.by_block x u y c t g k

    far : (u y : Bit) → DependsFarIn s items u y → DependsFlatFar s links blocks u y
    far _ _ (DependsFarIn.step u y h) = DependsFlatFar.step u y (near u y h)
    far _ _ (DependsFarIn.further u x y h k) = DependsFlatFar.further u x y (near u x h) (far x y k)

    no_loop : ¬ HasLoopIn s items
    no_loop h =
        accepts accepted.comb_loop
        ((bits_depend_on_the_same d called s links blocks ck good naming drivers).loops.1 (record { bit = h.bit; loops = far h.bit h.bit h.loops }))

    -- ---- inputs

    module _ (f : Name → Bool) (ports : AreInputsOfTop d called top s items f) where
      pub can_be_elaborated : IsElaborable (body_in s items ns) f
      can_be_elaborated =
          record {
            objects = objects;
            small = small;
            narrow = fit.for_drivers.clocked;
            evaluable = evaluable;
            sound = all_clocked_sound ck (λ x h. h);
            waits = none_waits;
            no_loop = no_loop;
            distinct = are_distinct d called naming top ns flat.is_top flat.in_order;
            all_declared = named_test;
            apart = ports.no_register;
          }

  pub no_memory : HasNoConstantMemory s
  no_memory = parameters

  -- ---- the inputs of the top

  abbrev pub given : Name → Bool
  given = is_given_port top.of_module d.clock (called [] [])

  port_of : (n : Name) → given n ≡ true → (m : Name) × (n ≡ called [] m) × HasPort top.of_module m input × (m ≢ d.clock)
  port_of n h = by (after_front (called [] []) n) refl h
    where
      by : (o : Option Name) → after_front (called [] []) n ≡ o → tested_after (is_data_port top.of_module d.clock) o ≡ true
          → (m : Name) × (n ≡ called [] m) × HasPort top.of_module m input × (m ≢ d.clock)
      by None e g = absurd (false≢true g)
      by (Some m) e g =
          let p = and_parts (not (same_name d.clock m)) (is_input (entry_of (port_directions top.of_module) m)) g in (
            m,
            front_is (called [] []) n m e ∙ flat.fronts m,
            input_is (entry_of (port_directions top.of_module) m) p.1,
            λ q. false≢true (sym (ap not (is_same d.clock)) ∙ ap (λ k. not (same_name d.clock k)) (sym q) ∙ p.0),
          )

  given_port : (m : Name) → HasPort top.of_module m input → m ≢ d.clock → given (called [] m) ≡ true
  given_port m h other =
      ap (tested_after (is_data_port top.of_module d.clock)) (ap (after_front (called [] [])) (sym (flat.fronts m)) ∙ after_itself (called [] []) m)
      ∙ and_from (not (same_name d.clock m)) (is_input (entry_of (port_directions top.of_module) m)) (by (same_name d.clock m) refl) (ap is_input h)
    where
      by : (t : Bool) → same_name d.clock m ≡ t → not t ≡ true
      by true e = absurd (other (sym (same_is d.clock m e)))
      by false e = refl

  no_register : (n : Name) → given n ≡ true → ¬ IsRegister s ck n
  no_register n h r =
      let port = port_of n h in
      let m : Name = port.0 in
      let own : called top.path m ≡ n = ap (λ path. called path m) (stands_at d [] top flat.is_top) ∙ sym port.1 in
      let at : IsPlacedIn d top = placed_in d [] top flat.is_top in
      let g = to_design d called top s items ns good naming flat top m at (port_is_declared top m input port.2) (subst (IsRegister s ck) (sym own) r) in
      by m at port.2 g.keeps
    where
      by : (m : Name) → IsPlacedIn d top → HasPort top.of_module m input → design.HasCounted top m ⊎ IsTrue (is_memory (placed_scope top m)) → ⊥
      by m at port (inl c) = true≢false (sym c.counts ∙ (sound.input_alone top m c.word c.bit at port).0)
      by m at port (inr e) = true≢false (sym e ∙ (sound.input_alone top m 0 0 at port).1)

  pub inputs_of_top : AreInputsOfTop d called top s items given
  inputs_of_top = record { is_port = port_of; is_given = given_port; no_register = no_register }
