-- What turns over the drivers of a module leave unsettled.
use Rattle.std.specs.Prelude.{◌≡◌, ◌↔◌, ◌⊎◌, ℕ, zero, suc, ◌+◌, Bool, true, false, List, [], ◌∷◌, Contains, IsTrue}
use Rattle.wb_values.specs.Value.{Name}
use Rattle.verilog_trees.specs.Syntax.{Expression, Target, place, joined, Statement, Item}
use Rattle.verilog_meaning.specs.Expression.{Scope}
use Rattle.verilog_meaning.specs.Register.{selects_are_constant, may_assign, combinational_blocks}
use Rattle.verilog_meaning.specs.Settled.{assignments}
use Rattle.verilog_settled.specs.Locality.{has_constant_selects}
use Rattle.verilog_designs.specs.Reads.{BitSet, no_bits}
use Rattle.verilog_designs.specs.Dependence.{Bit, is_in}
use Rattle.v_masks.specs.Masks.{spread}
use Rattle.v_depend.specs.Resting.{IsThere, RestsAfter}
use Rattle.v_depend.specs.Running.{IsFit}
use Rattle.v_order.specs.Drivers.{as_statements, drivers, Driving, by_link, by_block}
use Rattle.v_loops.specs.OneModule.{DependsIn, DependsFarIn}

-- Each of the statements has values that fit words, and assigns no memory.
abbrev pub AreFitToRun : Scope → List Statement → Type 0
AreFitToRun s [] = Unit {0}
AreFitToRun s (x ∷ xs) = IsFit s x × AreFitToRun s xs

-- Each target of a continuous assignment has constant selects.
abbrev pub HaveConstantSelects : Scope → List (Target × Expression) → Type 0
HaveConstantSelects s [] = Unit {0}
HaveConstantSelects s (a ∷ links) = IsTrue (has_constant_selects s a.0) × HaveConstantSelects s links

-- The drivers of the module have values that fit words, they assign no memory, and continuous assignments have constant selects.
pub record IsRunnable (s : Scope) (items : List Item) : Type 0 where
  pub links : AreFitToRun s (as_statements (assignments items))
  pub blocks : AreFitToRun s (combinational_blocks items)
  pub constant : HaveConstantSelects s (assignments items)

-- a bit of a word 0
abbrev pub HasFirst : BitSet → Type 0
HasFirst p = (n : Name) × (b : ℕ) × IsTrue (p n 0 b)

-- ---- one turn

-- any bit, or those that are so
abbrev pub AllOr : (all : Bool) → Type 0 → Type 0
AllOr true IsSo = Unit {0}
AllOr false IsSo = IsSo

-- A bit that the statement may assign: all of these, or those that rest on an unsettled bit after it.
abbrev pub RestsBy : (all : Bool) → (unsettled : BitSet) → Scope → Statement → Bit → Type 0
RestsBy all p s x u = IsThere s u × IsTrue (may_assign s x u.of_name u.word u.place) × AllOr all (RestsAfter (spread p) s x u)

-- by one of the statements
abbrev pub OneRests : (all : Bool) → (unsettled : BitSet) → Scope → List Statement → Bit → Type 0
OneRests all p s [] u = ⊥
OneRests all p s (x ∷ xs) u = RestsBy all p s x u ⊎ OneRests all p s xs u

-- The bits after are those before, and those that rest by one of the statements.
abbrev pub Adds : (all : Bool) → (unsettled : BitSet) → Scope → List Statement → (before after : BitSet) → Type 0
Adds all p s xs before after = (u : Bit) → IsTrue (is_in after u) ↔ IsTrue (is_in before u) ⊎ OneRests all p s xs u

-- by one of the module's continuous assignments or combinational blocks
abbrev pub RestsInTurn : (all : Bool) → (unsettled : BitSet) → Scope → List Item → Bit → Type 0
RestsInTurn all p s items u = OneRests all p s (as_statements (assignments items)) u ⊎ OneRests all p s (combinational_blocks items) u

-- ---- turn after turn

-- At first all bits that are driven are unsettled, and then those that depend on an unsettled one: from which a chain of so many bits leads on.
abbrev pub Stage : Scope → List Item → ℕ → Bit → Type 0
Stage s items zero u = RestsInTurn true no_bits s items u
Stage s items (suc k) u = (y : Bit) × DependsIn s items u y × Stage s items k y

abbrev pub IsStage : Scope → List Item → ℕ → BitSet → Type 0
IsStage s items k p = (u : Bit) → IsTrue (is_in p u) ↔ Stage s items k u

-- Bits that depend on themselves are in the set.
abbrev pub HasAllLoops : Scope → List Item → BitSet → Type 0
HasAllLoops s items p = (u : Bit) → DependsFarIn s items u u → IsTrue (is_in p u)

-- After k turns: bits of loops are left, and from each that is left a chain of k steps leads on.
pub record IsLeft (s : Scope) (items : List Item) (k : ℕ) (p : BitSet) : Type 0 where
  pub loops : HasAllLoops s items p
  pub chains : (u : Bit) → IsTrue (is_in p u) → Stage s items k u

-- Each bit of the set depends on one of them, so a further turn settles none.
abbrev pub IsLasting : Scope → List Item → BitSet → Type 0
IsLasting s items p = (u : Bit) → IsTrue (is_in p u) → (y : Bit) × DependsIn s items u y × IsTrue (is_in p y)

-- what lasts, or what is left after so many turns more
abbrev pub IsLater : (lasts : Bool) → Scope → List Item → (turns k : ℕ) → BitSet → Type 0
IsLater true s items turns k p = (j : ℕ) × IsLeft s items j p × IsLasting s items p
IsLater false s items turns k p = IsLeft s items (turns + k) p

-- The statements are the drivers of these items, which can be run.
pub record AreOf (s : Scope) (items : List Item) (xs : List Statement) : Type 0 where
  pub same : drivers items ≡ xs
  pub runnable : IsRunnable s items

-- ---- passes

-- a name with constant selects
abbrev pub is_constant_place : Scope → Target → Bool
is_constant_place s (place n x) = selects_are_constant s x
is_constant_place s (joined ts) = false

-- an assignment to one, which assigns each bit that it may assign
abbrev pub is_constant_link : Scope → Driving → Bool
is_constant_link s (by_link t e) = is_constant_place s t
is_constant_link s (by_block x) = false

-- No bit that the statement may assign rests on an unsettled one after it.
abbrev pub RestsNowhere : (unsettled : BitSet) → Scope → Statement → Type 0
RestsNowhere p s x = (u : Bit) → IsThere s u → IsTrue (may_assign s x u.of_name u.word u.place) → ¬ RestsAfter p s x u

-- of the bits that the statement may assign a set has those that rest on an unsettled one after it
abbrev pub TellsWhereAssigned : (unsettled : BitSet) → Scope → Statement → BitSet → Type 0
TellsWhereAssigned p s x m =
    (u : Bit) → IsThere s u → IsTrue (may_assign s x u.of_name u.word u.place) → IsTrue (is_in m u) ↔ RestsAfter p s x u

-- an unsettled bit that the statement may assign, and that rests on no unsettled one after it
pub record Settles (unsettled : BitSet) (s : Scope) (x : Statement) (u : Bit) : Type 0 where
  pub there : IsThere s u
  pub was : IsTrue (is_in unsettled u)
  pub assigned : IsTrue (may_assign s x u.of_name u.word u.place)
  pub rests : ¬ RestsAfter unsettled s x u

-- The set has just these bits: of the unsettled ones that the statement may assign, the others rest.
pub record AreSettled (unsettled : BitSet) (s : Scope) (x : Statement) (p : BitSet) : Type 0 where
  pub settled : (u : Bit) → IsTrue (is_in p u) → Settles unsettled s x u
  pub rests : (u : Bit) → IsThere s u → IsTrue (is_in unsettled u) → IsTrue (may_assign s x u.of_name u.word u.place) → is_in p u ≡ false → RestsAfter unsettled s x u

-- Statements that may assign one bit are the same, but for bits of a set.
abbrev pub AreApartBut : Scope → List Statement → BitSet → Type 0
AreApartBut s xs p =
    (x y : Statement) (u : Bit) → Contains xs x → Contains xs y → IsThere s u → IsTrue (may_assign s x u.of_name u.word u.place)
    → IsTrue (may_assign s y u.of_name u.word u.place) → is_in p u ≡ false → x ≡ y

-- A driver was visited: none is unsettled that was not, and a bit that is settled now was settled by the driver, and is no shared one.
pub record IsVisited (shared : BitSet) (s : Scope) (x : Statement) (before after : BitSet) : Type 0 where
  pub fewer : (n : Name) (k b : ℕ) → after n k b ≡ true → before n k b ≡ true
  pub settled : (u : Bit) → IsThere s u → IsTrue (is_in before u) → is_in after u ≡ false → Settles before s x u × (is_in shared u ≡ false)

-- Drivers were visited: none is unsettled that was not, and bits of loops are left.
pub record IsPassed (s : Scope) (xs : List Statement) (before after : BitSet) : Type 0 where
  pub fewer : (n : Name) (k b : ℕ) → after n k b ≡ true → before n k b ≡ true
  pub loops : (items : List Item) → AreOf s items xs → HasAllLoops s items before → HasAllLoops s items after
