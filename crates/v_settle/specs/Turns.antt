-- What holds between one driver and the next while a module is evaluated: terms, and the bits that are not settled yet.
use Rattle.std.specs.Prelude.{◌≡◌, ◌↔◌, ◌⊎◌, ℕ, ◌+◌, Bool, true, false, List, [], ◌∷◌, Contains, IsTrue}
use Rattle.wb_values.specs.Value.{Valuation}
use Rattle.verilog_trees.specs.Syntax.{Statement, Item}
use Rattle.verilog_meaning.specs.Expression.{Scope}
use Rattle.verilog_meaning.specs.Statement.{run}
use Rattle.verilog_meaning.specs.Register.{may_assign}
use Rattle.verilog_settled.specs.Locality.{IsSame}
use Rattle.verilog_designs.specs.Reads.{BitSet}
use Rattle.verilog_designs.specs.Dependence.{Bit, is_in}
use Rattle.wb_terms.specs.Graph.{Graph}
use Rattle.v_lower.specs.Lowered.{Images, HasImages, StandsFor}
use Rattle.v_write.specs.Written.{AreOfNames}
use Rattle.v_paths.specs.Premises.{HasNoMemory}
use Rattle.v_depend.specs.Resting.{IsThere, RestsAfter}
use Rattle.v_loops.specs.OneModule.{DependsIn, DependsFarIn}
use Rattle.v_loops.specs.Turns.{Stage}
use Rattle.v_order.specs.Drivers.{drivers}
use Rattle.v_settle.specs.OneModule.{IsSettledFrom}

-- the images of names, those of a second table that is only written to, the store, and the bits that are not settled yet
pub record State : Type 0 where
  pub images : Images
  pub spare : Images
  pub graph : Graph
  pub unsettled : BitSet

abbrev pub state_of : Images → Images → Graph → BitSet → State
state_of a n g p = record { images = a; spare = n; graph = g; unsettled = p }

-- Each name has a term in both tables, and no bit of a memory is among those that are not settled.
pub record IsOpen (s : Scope) (a : State) : Type 0 where
  pub known : HasImages s a.images a.graph
  pub known_spare : HasImages s a.spare a.graph
  pub plain : HasNoMemory s a.unsettled

-- The environment stands for the valuation, and for some values of the second table.
pub record Stands (s : Scope) (a : State) (p w : Valuation) : Type 0 where
  pub names : StandsFor s a.images a.graph p w
  pub others : Valuation
  pub spares : StandsFor s a.spare a.graph p others

-- ---- one driver

-- Where the environment stands for a valuation before, it stands afterwards for what a run of the driver leaves.
abbrev pub IsRun : Scope → Statement → (a b : State) → Type 0
IsRun s x a b = (p w : Valuation) → Stands s a p w → Stands s b p (run s x w).valuation

-- The driver has settled none of its bits, and the environment stands for what it stood for.
pub record IsPassed (s : Scope) (x : Statement) (a b : State) : Type 0 where
  pub stands : (p w : Valuation) → Stands s a p w → Stands s b p w
  pub lasts : (u : Bit) → IsThere s u → IsTrue (may_assign s x u.of_name u.word u.place) → IsTrue (is_in a.unsettled u) → IsTrue (is_in b.unsettled u)

-- A driver was come to. Of its bits those that are left unsettled rest on unsettled ones after it; a bit that was unsettled and rests so
-- is left; and the bits that it may not assign are as before.
pub record IsVisited (s : Scope) (x : Statement) (a b : State) : Type 0 where
  pub opens : IsOpen s b
  pub names : AreOfNames a.images b.images
  pub rests : (u : Bit) → IsThere s u → IsTrue (may_assign s x u.of_name u.word u.place) → IsTrue (is_in b.unsettled u) → RestsAfter a.unsettled s x u
  pub left : (u : Bit) → IsThere s u → IsTrue (is_in a.unsettled u) → RestsAfter a.unsettled s x u → IsTrue (is_in b.unsettled u)
  pub others : (u : Bit) → IsThere s u → may_assign s x u.of_name u.word u.place ≡ false → IsTrue (is_in b.unsettled u) ↔ IsTrue (is_in a.unsettled u)
  pub worth : IsRun s x a b ⊎ IsPassed s x a b

-- one driver after the other
abbrev pub AreVisited : Scope → List Statement → (a b : State) → Type 0
AreVisited s [] a b = a ≡ b
AreVisited s (x ∷ xs) a b = (c : State) × IsVisited s x a c × AreVisited s xs c b

-- drivers in any order, some perhaps more than once
abbrev pub HasVisits : Scope → List Statement → (a b : State) → Type 0
HasVisits s xs a b = (ys : List Statement) × ((x : Statement) → Contains ys x → Contains xs x) × AreVisited s ys a b

-- ---- turn after turn

-- Where the environment stood for u at first, and v is settled from u, it stands now for some valuation that has each settled bit of v.
pub record IsSettledBut (s : Scope) (a : State) (p v : Valuation) : Type 0 where
  pub valuation : Valuation
  pub stands : Stands s a p valuation
  pub same : (u : Bit) → IsThere s u → is_in a.unsettled u ≡ false → IsSame valuation v u

-- After k turns: settled bits have their values, and depend on settled ones alone; a bit that depends on itself is never settled; and from
-- an unsettled bit a chain of k steps leads on.
pub record IsUnderWay (s : Scope) (items : List Item) (start now : State) (k : ℕ) : Type 0 where
  pub opens : IsOpen s now
  pub names : AreOfNames start.images now.images
  pub settled : (p u v : Valuation) → StandsFor s start.images start.graph p u → IsSettledFrom s items start.images u v → IsSettledBut s now p v
  pub keeps : (x : Statement) (u : Bit) → Contains (drivers items) x → IsThere s u → RestsAfter now.unsettled s x u → IsTrue (is_in now.unsettled u)
  pub loops : (u : Bit) → DependsFarIn s items u u → IsTrue (is_in now.unsettled u)
  pub chains : (u : Bit) → IsThere s u → IsTrue (is_in now.unsettled u) → Stage s items k u

-- Each unsettled bit depends on an unsettled one.
abbrev pub IsLast : Scope → List Item → BitSet → Type 0
IsLast s items p = (u : Bit) → IsThere s u → IsTrue (is_in p u) → (y : Bit) × IsThere s y × IsTrue (is_in p y) × DependsIn s items u y

-- So many turns were made, or the last of them is such that no further one would settle a bit.
abbrev pub Ends : (ended : Bool) → Scope → List Item → (turns k j : ℕ) → BitSet → Type 0
Ends true s items turns k j p = IsLast s items p
Ends false s items turns k j p = j ≡ turns + k

-- Further turns were made.
pub record IsFurther (ended : Bool) (s : Scope) (items : List Item) (turns : ℕ) (start now : State) (k : ℕ) : Type 0 where
  pub turns_made : ℕ
  pub way : IsUnderWay s items start now turns_made
  pub ends : Ends ended s items turns k turns_made now.unsettled
