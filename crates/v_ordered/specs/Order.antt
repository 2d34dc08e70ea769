-- The names of all nets and variables of a design in the order in which registers are told.
use Rattle.std.specs.Prelude.{◌≡◌, List, [], ◌∷◌, ◌++◌, Some}
use Rattle.wb_values.specs.Value.{Name}
use Rattle.verilog_meaning.specs.Hierarchy.{instance_step, Placed}
use Rattle.verilog_meaning.specs.Settled.{Design, at_path}
use Rattle.verilog_registers.specs.Order.{Member, net, instance, members_in}
use Rattle.flat_designs.specs.Flat.{Naming}

-- What all nets and variables that these members of a module have are called in one scope, in their order, those of an instance where it
-- stands.
pub data AreNamesInOrder (d : Design) (called : Naming) : Placed → List Member → List Name → Type 0 where
  end : (p : Placed) → AreNamesInOrder d called p [] []
  net_of : (p : Placed) (n : Name) (xs : List Member) (ns : List Name) → AreNamesInOrder d called p xs ns
      → AreNamesInOrder d called p (net n ∷ xs) (called p.path n ∷ ns)
  below : (p q : Placed) (u : Name) (xs : List Member) (ms ns : List Name) → at_path d (instance_step u ∷ p.path) ≡ Some q
      → AreNamesInOrder d called q (members_in q.of_module) ms → AreNamesInOrder d called p xs ns
      → AreNamesInOrder d called p (instance u ∷ xs) (ms ++ ns)
