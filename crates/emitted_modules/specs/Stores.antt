-- The stores of an instruction's update of a memory. The memory takes its value by one way down the graph of terms: from the update's term, at a
-- store on to the memory that is stored to, at one of two memories on to the one that is chosen, down to its name. A wire of one bit for each
-- node says whether the way goes through it. The stores that it goes through are made, the inner ones first.
use Rattle.std.specs.Prelude.{ℕ, zero, suc, Bool, cond, ◌==◌, List, [], ◌∷◌, ◌++◌, Some, codes, decimal}
use Rattle.wb_values.specs.Value.{Name, truth}
use Rattle.verilog_trees.specs.Syntax.{Expression, unary, complement, binary, bitwise_and, bitwise_or}
use Rattle.verilog_meaning.specs.Settled.{whole_name}
use Rattle.term_expressions.specs.Expressions.{sized}
use Rattle.wb_terms.specs.declared.nodes.Node.{Node}
use Rattle.wb_terms.specs.declared.nodes.Node.TheVariants.{Ite, Store}
use Rattle.wb_terms.specs.Graph.{Graph}
use Rattle.emitted_modules.specs.Rtl.{Stored, Wire}
use Rattle.emitted_modules.specs.Nodes.{node_at, operand, has_part}

-- an instruction's update of a memory
pub record MemoryUpdate : Type 0 where
  -- the instruction's number, and its decode condition
  pub instruction : ℕ
  pub decode : Expression
  pub memory_name : Name
  -- the node that says what the memory becomes
  pub term : ℕ

-- the wire for node k: the instruction decodes, and the way goes through the node
abbrev pub via_name : MemoryUpdate → ℕ → Name
via_name u k = codes "wb_via_" ++ decimal u.instruction ++ 95 ∷ (decimal k ++ 95 ∷ u.memory_name)

abbrev pub via : MemoryUpdate → ℕ → Expression
via u k = whole_name (via_name u k)

-- e | f | ..
abbrev pub or_more : Expression → List Expression → Expression
or_more e [] = e
or_more e (f ∷ fs) = or_more (binary bitwise_or e f) fs

abbrev pub any_of : List Expression → Expression
any_of [] = sized 1 0
any_of (e ∷ es) = or_more e es

abbrev pub if_so : Bool → Expression → List Expression
if_so b e = cond b (e ∷ []) []

-- That the way goes from node p on to node k: from a store always, from one of two memories by the condition, or by its complement.
abbrev pub ways_from : Graph → MemoryUpdate → (p k : ℕ) → Node → List Expression
ways_from g u p k (Store m i x) = if_so (m.0 == k) (via u p)
ways_from g u p k (Ite c x y) =
    if_so (x.0 == k) (binary bitwise_and (via u p) (operand g c.0))
    ++ if_so (y.0 == k) (binary bitwise_and (via u p) (unary complement (operand g c.0)))
ways_from g u p k n = []

-- that it goes there from one of the first n nodes
abbrev pub ways_to : Graph → MemoryUpdate → (n k : ℕ) → List Expression
ways_to g u zero k = []
ways_to g u (suc p) k = cond (has_part g u.term p) (ways_from g u p k (node_at g p)) [] ++ ways_to g u p k

-- It goes through the update's term where the instruction decodes.
abbrev pub via_expression : Graph → MemoryUpdate → ℕ → Expression
via_expression g u k = cond (k == u.term) u.decode (any_of (ways_to g u (suc u.term) k))

-- wire wb_via_j_k_m = ..;
abbrev pub via_wire : Graph → MemoryUpdate → ℕ → Wire
via_wire g u k = record { wire_name = via_name u k; sort = truth; expression = via_expression g u k }

-- one for each of the first n nodes that is a part of the term, from the highest on
abbrev pub via_wires : Graph → MemoryUpdate → (n : ℕ) → List Wire
via_wires g u zero = []
via_wires g u (suc k) = cond (has_part g u.term k) (via_wire g u k ∷ []) [] ++ via_wires g u k

-- if (wb_via_j_k_m) m[i] <= x;
abbrev pub stores_at : Graph → MemoryUpdate → ℕ → Node → List Stored
stores_at g u k (Store m i x) =
    record { condition = Some (via u k); memory_name = u.memory_name; address = operand g i.0; value = operand g x.0 } ∷ []
stores_at g u k n = []

-- Those of the first n nodes, from the lowest on: the inner stores come first.
abbrev pub stores_of : Graph → MemoryUpdate → (n : ℕ) → List Stored
stores_of g u zero = []
stores_of g u (suc k) = stores_of g u k ++ cond (has_part g u.term k) (stores_at g u k (node_at g k)) []
