-- What a module that stands by itself settles to, where some bits are given to it from outside.
use Rattle.std.specs.Prelude.{◌≡◌, ℕ, false, ◌||◌, List, [], ◌∷◌, Contains, Some, IsTrue}
use Rattle.wb_values.specs.Value.{Name, Valuation}
use Rattle.verilog_trees.specs.Syntax.{Statement, Item}
use Rattle.verilog_meaning.specs.Expression.{Scope}
use Rattle.verilog_meaning.specs.Register.{combinational_blocks, value_bit, is_bit_of, may_assign, one_may_assign}
use Rattle.verilog_meaning.specs.Settled.{IsValueOf, assignments, one_may_reach, HasAssigned, HasRunAll}
use Rattle.verilog_settled.specs.Locality.{HasNoConstantMemory}
use Rattle.verilog_designs.specs.Reads.{BitSet}
use Rattle.verilog_designs.specs.Dependence.{Bit}
use Rattle.wb_terms.specs.Graph.{Graph}
use Rattle.v_lower.specs.Lowered.{Images, HasImages, StandsFor}
use Rattle.v_write.specs.Sound.{IsSoundStatement}
use Rattle.v_write.specs.Written.{AreOfNames}
use Rattle.v_depend.specs.Resting.{IsThere}
use Rattle.v_order.specs.Drivers.{drivers}
use Rattle.v_loops.specs.Turns.{IsRunnable}
use Rattle.v_settle.specs.Drivers.{AreSoundLinks}

-- Some continuous assignment or some combinational block may drive the bit.
abbrev pub is_driven : Scope → List Item → BitSet
is_driven s items n k b = one_may_reach s (assignments items) n k b || one_may_assign s (combinational_blocks items) n k b

-- v is a settled valuation of the module, where u has what is given from outside: each continuous assignment holds as an equation, each
-- combinational block gives v back, and each bit that none of them drives is as in u. Each name that has a term has a value of its
-- object.
pub record IsSettledFrom (s : Scope) (items : List Item) (images : Images) (u v : Valuation) : Type 0 where
  pub fits : (n : Name) (id : ℕ) → images n ≡ Some id → IsValueOf (s n) (v n)
  pub assigned : HasAssigned s v (assignments items)
  pub combinational : HasRunAll s v (combinational_blocks items)
  pub given : (n : Name) (k b : ℕ) → IsTrue (is_bit_of (s n) k b) → is_driven s items n k b ≡ false → value_bit (v n) k b ≡ value_bit (u n) k b

-- What is promised. a are the images before, and b those after: the same names have terms. Where an environment stands for u before,
-- it stands afterwards for each settled valuation of the module that has in its other bits what u gives.
pub record IsEvaluated (s : Scope) (items : List Item) (a : Images) (g : Graph) (b : Images) (h : Graph) : Type 0 where
  pub known : HasImages s b h
  pub names : AreOfNames a b
  pub stands : (p u v : Valuation) → StandsFor s a g p u → IsSettledFrom s items a u v → StandsFor s b h p v

-- ---- what is asked of the module

-- Each of the blocks breaks no rule.
abbrev pub AreSound : Scope → List Statement → Type 0
AreSound s [] = Unit {0}
AreSound s (x ∷ xs) = IsSoundStatement s x × AreSound s xs

-- A bit has one driver at most.
abbrev pub HasOneDriver : Scope → List Item → Type 0
HasOneDriver s items =
    (x y : Statement) (u : Bit) → IsThere s u → Contains (drivers items) x → Contains (drivers items) y
    → IsTrue (may_assign s x u.of_name u.word u.place) → IsTrue (may_assign s y u.of_name u.word u.place) → x ≡ y

-- The drivers break no rule and can be run, a bit has one of them at most, and no parameter is a memory.
pub record IsEvaluable (s : Scope) (items : List Item) : Type 0 where
  pub runnable : IsRunnable s items
  pub links : AreSoundLinks s (assignments items)
  pub blocks : AreSound s (combinational_blocks items)
  pub one_driver : HasOneDriver s items
  pub parameters : HasNoConstantMemory s
