-- An accepted design has at most one settled valuation.
use Rattle.std.specs.Prelude.{◌≡◌, Contains, Some, ⊤}
use Rattle.wb_values.specs.Value.{Name, Valuation}
use Rattle.verilog_trees.specs.Syntax.{Expression, Target, Statement, Module, Source}
use Rattle.verilog_meaning.specs.Register.{combinational_blocks}
use Rattle.verilog_meaning.specs.Hierarchy.{Placed, module_named}
use Rattle.verilog_meaning.specs.Settled.{Design, IsPlacedIn, inside, IsDeclared, assignments, Connection, port_connections, IsSettled}
use Rattle.verilog_meaning.specs.Next.{IsNext}
use Rattle.verilog_designs.specs.Accepted.{IsAccepted}
use Rattle.verilog_settled.specs.Locality.{LeavesAre, StatementIs}
use Rattle.wb_laws.specs.Settled.{HasFittingNumbers}
use Rattle.verilog_unique.specs.Agreement.{AreLocal}

-- nothing is asked of a name
abbrev pub AnyName : Name → Type 0
AnyName n = ⊤

-- The numbers that stand in a module fit their widths: in its parameters' values and those that it gives to instances, in its
-- continuous assignments, its combinational blocks and what it connects to ports. In the tree of a text all numbers fit.
pub record NumbersFitIn (m : Module) : Type 0 where
  pub parameters : HasFittingNumbers m
  pub assigned : (a : Target × Expression) → Contains (assignments m.items) a → LeavesAre AnyName a.1
  pub blocks : (x : Statement) → Contains (combinational_blocks m.items) x → StatementIs AnyName x
  pub connected : (c : Connection) → Contains (port_connections m.items) c → LeavesAre AnyName c.expression

abbrev pub NumbersFit : Source → Type 0
NumbersFit source = (n : Name) (m : Module) → module_named source n ≡ Some m → NumbersFitIn m

-- For the same registers and inputs two settled valuations have one value under each net, variable and memory.
abbrev pub HasOneValue : Design → Type 0
HasOneValue d =
    (registers inputs v w : Valuation) (p : Placed) (n : Name) → IsSettled d registers inputs v → IsSettled d registers inputs w
    → IsPlacedIn d p → IsDeclared p n → inside v p n ≡ inside w p n

-- An accepted design, whose numbers fit, has at most one settled valuation.
abbrev pub SettledValuationIsUnique : Type 0
SettledValuationIsUnique = (d : Design) → IsAccepted d → NumbersFit d.source → HasOneValue d

-- For one valuation the registers after the clock's edge have one value there, too.
abbrev pub NextRegistersAreUnique : Type 0
NextRegistersAreUnique =
    (d : Design) (v next other : Valuation) (p : Placed) (n : Name) → IsNext d v next → IsNext d v other → IsPlacedIn d p → IsDeclared p n
    → inside next p n ≡ inside other p n

-- An accepted design has at most one settled valuation also where all that is known of the valuations is that they agree on each
-- bit if they agree on what that depends on.
abbrev pub OneValueWhereLocal : Type 0
OneValueWhereLocal =
    (d : Design) (registers inputs v w : Valuation) → IsAccepted d → AreLocal d v w → IsSettled d registers inputs v → IsSettled d registers inputs w
    → (p : Placed) (n : Name) → IsPlacedIn d p → IsDeclared p n → inside v p n ≡ inside w p n
