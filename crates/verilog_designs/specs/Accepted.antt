-- Which designs are accepted: the kinds by which one is refused, in the order in which they are answered, each judged by itself over
-- the top and all modules below it.
use Rattle.std.specs.Prelude.{◌≡◌, ◌≢◌, ◌<◌, ℕ, Bool, false, cond, not, ◌&&◌, ◌||◌, ◌==◌, List, [], ◌∷◌, ◌++◌, length, slice_get, Contains, Option, Some, None, IsTrue}
use Rattle.wb_values.specs.Value.{Name, Entries, entry_of}
use Rattle.verilog_trees.specs.Syntax.{Range, PortDeclaration, Connections, Item, port, parameter, wires, variables, assign, always, instances, Module}
use Rattle.verilog_meaning.specs.Expression.{Object, Scope, undeclared as no_object, object_or_undeclared}
use Rattle.verilog_meaning.specs.Hierarchy.{PathStep, Placed, module_named, value_names, header_ports}
use Rattle.verilog_meaning.specs.Settled.{Design, IsPlacedIn, port_directions, port_order}
use Rattle.verilog_designs.specs.Known.{known_at, known_range}
use Rattle.verilog_designs.specs.Names.{is_among, parameter_names, has_undeclared, has_duplicate, has_duplicate_module}
use Rattle.verilog_designs.specs.Ports.{is_input, connected_names, has_bad_port}
use Rattle.verilog_designs.specs.Expressions.{broken_module}
use Rattle.verilog_designs.specs.Clocks.{HasClockAsData}
use Rattle.verilog_designs.specs.Paths.{HasBadEventList, HasBlockingInClocked, HasNonblockingInComb, HasLatch}
use Rattle.verilog_designs.specs.Drivers.{HasBadDriver, HasUndriven}
use Rattle.verilog_designs.specs.Dependence.{HasLoop}

pub data DesignKind : Type 0 where
  no_top undeclared duplicate_name bad_hierarchy has_xz bad_port bad_constant width_over_128 bad_select memory_use : DesignKind
  clock_as_data bad_event_list blocking_in_clocked nonblocking_in_comb latch bad_driver undriven comb_loop : DesignKind

-- in the order in which they are answered
abbrev pub kinds : List DesignKind
kinds =
    no_top ∷ undeclared ∷ duplicate_name ∷ bad_hierarchy ∷ has_xz ∷ bad_port ∷ bad_constant ∷ width_over_128 ∷ bad_select ∷ memory_use
    ∷ clock_as_data ∷ bad_event_list ∷ blocking_in_clocked ∷ nonblocking_in_comb ∷ latch ∷ bad_driver ∷ undriven ∷ comb_loop ∷ []

-- ---- the top and its clock

-- the parameters that are declared before, where they have values
abbrev pub among_entries : List Name → Entries Object → Scope
among_entries before known n = cond (is_among before n) (object_or_undeclared (entry_of known n)) no_object

abbrev pub variable_names : List (Name × Option Range) → List Name
variable_names [] = []
variable_names (v ∷ vs) = v.0 ∷ variable_names vs

-- a declared range with a value, of another number of bits than one
abbrev pub is_wide_range : Scope → Option Range → Bool
is_wide_range s None = false
is_wide_range s (Some r) = is_wide (known_range s r)
  where
    is_wide : Option (ℕ × ℕ) → Bool
    is_wide None = false
    is_wide (Some b) = not (b.0 == b.1)

abbrev pub has_wide_port : Scope → Name → List PortDeclaration → Bool
has_wide_port s n [] = false
has_wide_port s n (d ∷ ds) = (is_among d.names n && is_wide_range s d.range) || has_wide_port s n ds

-- Some declaration of the name has a wide range, where each range may use the parameters before it.
abbrev pub has_wide_item : Entries Object → (before : List Name) → Name → List Item → Bool
has_wide_item known before n [] = false
has_wide_item known before n (port d ∷ items) =
    (is_among d.names n && is_wide_range (among_entries before known) d.range) || has_wide_item known before n items
has_wide_item known before n (parameter d ∷ items) = has_wide_item known (value_names d.values ++ before) n items
has_wide_item known before n (wires signed r ws ∷ items) =
    (is_among (connected_names ws) n && is_wide_range (among_entries before known) r) || has_wide_item known before n items
has_wide_item known before n (variables signed r vs ∷ items) =
    (is_among (variable_names vs) n && is_wide_range (among_entries before known) r) || has_wide_item known before n items
has_wide_item known before n (assign ts ∷ items) = has_wide_item known before n items
has_wide_item known before n (always es x ∷ items) = has_wide_item known before n items
has_wide_item known before n (instances m given is ∷ items) = has_wide_item known before n items

abbrev pub is_wide_clock : Placed → Name → Bool
is_wide_clock p n =
    let before : List Name = parameter_names p.of_module.parameters in
    has_wide_port (among_entries before p.constants) n (header_ports p.of_module.ports)
    || has_wide_item p.constants before n p.of_module.items

abbrev pub is_input_port : Module → Name → Bool
is_input_port m n = is_among (port_order m) n && is_input (entry_of (port_directions m) n)

abbrev pub has_no_clock : Placed → Name → Bool
has_no_clock p clock = not (is_input_port p.of_module clock) || is_wide_clock p clock

-- NoTop: no module has the name of the top, or the clock is not an input port of it of one bit. A range without a value says nothing
-- here, and so does one that uses a parameter before its declaration.
pub data HasNoTop (d : Design) : Type 0 where
  no_module : module_named d.source d.top ≡ None → HasNoTop d
  no_clock : (p : Placed) → known_at d.source d.top [] ≡ Some p → IsTrue (has_no_clock p d.clock) → HasNoTop d

-- ---- modules

-- The top or a module below it, with those of its parameters that have values, is so.
pub record SomeModule (d : Design) (IsSo : Placed → Bool) : Type 0 where
  pub path : List PathStep
  pub place : Placed
  pub is_placed : known_at d.source d.top path ≡ Some place
  pub is_so : IsTrue (IsSo place)

-- The module is the top, or stands below it by its name.
pub data StandsIn (d : Design) : Module → Type 0 where
  at_top : (m : Module) → module_named d.source d.top ≡ Some m → StandsIn d m
  below : (m n : Module) (k : Name) (given : Connections) (is : List (Name × Connections)) → StandsIn d m
      → Contains m.items (instances k given is) → module_named d.source k ≡ Some n → StandsIn d n

-- Undeclared: a name in one of these modules.
pub record HasUndeclared (d : Design) : Type 0 where
  pub within : Module
  pub stands : StandsIn d within
  pub names_unknown : IsTrue (has_undeclared d.source within)

-- DuplicateName: two modules of the source, or two declarations of one of these modules.
pub data HasDuplicateName (d : Design) : Type 0 where
  modules : IsTrue (has_duplicate_module d.source) → HasDuplicateName d
  names : (m : Module) → StandsIn d m → IsTrue (has_duplicate m) → HasDuplicateName d

-- ---- hierarchy

-- a module stands below itself
pub record HasRecursion (d : Design) : Type 0 where
  pub outer : Placed
  pub inner : Placed
  pub steps : List PathStep
  pub are_placed : IsPlacedIn d outer × IsPlacedIn d inner
  pub is_below : inner.path ≡ steps ++ outer.path
  pub some : 0 < length steps
  pub same_module : inner.of_module.module_name ≡ outer.of_module.module_name

-- these are paths of so many instances below the top, each once
pub record AreInstances (d : Design) (paths : List (List PathStep)) : Type 0 where
  pub placed : (path : List PathStep) → Contains paths path → (p : Placed) × IsPlacedIn d p × (p.path ≡ path) × (path ≢ [])
  pub distinct : (i j : ℕ) (path : List PathStep) → slice_get paths i ≡ Some path → slice_get paths j ≡ Some path → i ≡ j

-- BadHierarchy: a module stands below itself, or more than 65,536 instances stand below the top.
pub data HasBadHierarchy (d : Design) : Type 0 where
  recursive : HasRecursion d → HasBadHierarchy d
  crowded : (paths : List (List PathStep)) → AreInstances d paths → 65536 < length paths → HasBadHierarchy d

-- ---- all kinds

-- The design breaks the rule of this kind. From ClockAsData on each constant has its value: else a kind before it is broken.
abbrev pub Breaks : Design → DesignKind → Type 0
Breaks d no_top = HasNoTop d
Breaks d undeclared = HasUndeclared d
Breaks d duplicate_name = HasDuplicateName d
Breaks d bad_hierarchy = HasBadHierarchy d
Breaks d has_xz = SomeModule d (λ p. (broken_module d.source p).has_xz)
Breaks d bad_port = SomeModule d (has_bad_port d.source)
Breaks d bad_constant = SomeModule d (λ p. (broken_module d.source p).bad_constant)
Breaks d width_over_128 = SomeModule d (λ p. (broken_module d.source p).width_over_128)
Breaks d bad_select = SomeModule d (λ p. (broken_module d.source p).bad_select)
Breaks d memory_use = SomeModule d (λ p. (broken_module d.source p).memory_use)
Breaks d clock_as_data = HasClockAsData d
Breaks d bad_event_list = HasBadEventList d
Breaks d blocking_in_clocked = HasBlockingInClocked d
Breaks d nonblocking_in_comb = HasNonblockingInComb d
Breaks d latch = HasLatch d
Breaks d bad_driver = HasBadDriver d
Breaks d undriven = HasUndriven d
Breaks d comb_loop = HasLoop d

-- It is refused by the first kind that it breaks.
pub record IsRefusedBy (d : Design) (kind : DesignKind) : Type 0 where
  pub breaks : Breaks d kind
  pub first : (i j : ℕ) (before : DesignKind) → slice_get kinds i ≡ Some before → slice_get kinds j ≡ Some kind → i < j → ¬ Breaks d before

-- A design is accepted where it breaks none. (Its tree is that of a text: numbers fit their widths, and parts have bits.)
abbrev pub IsAccepted : Design → Type 0
IsAccepted d = (kind : DesignKind) → ¬ Breaks d kind
