-- Terms for what is given to a name from outside.
use Rattle.std.specs.Prelude.{◌≡◌, ℕ, Bool, true, false, ◌&&◌, List, [], slice_index, slice_index_or, Contains}
use Rattle.wb_values.specs.Value.{Name, Sort, truth, Valuation, HasSort}
use Rattle.model_meaning.specs.Term.{val}
use Rattle.verilog_trees.specs.Syntax.{Statement}
use Rattle.verilog_meaning.specs.Expression.{Object, Scope}
use Rattle.verilog_meaning.specs.Register.{is_set, value_bit, counts}
use Rattle.verilog_meaning.specs.Settled.{IsValueOf}
use Rattle.wb_terms.specs.Graph.{Graph, tree}
use Rattle.v_operators.specs.Meaning.{IsOfSort}
use Rattle.v_lower.specs.Lowered.{IsSortOf}

-- The environment gives each name of the store a value of its sort.
abbrev pub FitsNames : Graph → Valuation → Type 0
FitsNames g p = (n : Name) (t : Sort) → Contains g.names (n, t) → HasSort (p n) t

-- The term is worth what counts of the name's own value, and 0 in all other bits.
pub record IsKept (s : Scope) (clocked : List Statement) (g : Graph) (n : Name) (id : ℕ) : Type 0 where
  pub fits : (p : Valuation) → FitsNames g p → IsValueOf (s n) (val (tree g id) p)
  pub bits : (p : Valuation) (k b : ℕ) → FitsNames g p → value_bit (val (tree g id) p) k b ≡ (value_bit (p n) k b && counts s clocked n k b)

-- The term is worth the name's own value, which is one of its object.
pub record IsGiven (s : Scope) (g : Graph) (n : Name) (id : ℕ) : Type 0 where
  pub fits : (p : Valuation) → FitsNames g p → IsValueOf (s n) (val (tree g id) p)
  pub same : (p : Valuation) → val (tree g id) p ≡ p n

-- what the name's term is worth at the start, where it is given to the module from outside, and where it is not
abbrev pub IsWorth : Scope → List Statement → Graph → (is_given : Bool) → Name → ℕ → Type 0
IsWorth s clocked g true n id = IsGiven s g n id
IsWorth s clocked g false n id = IsKept s clocked g n id

-- ---- a name's own value with masks

abbrev pub named_at : Graph → ℕ → Name × Sort
named_at g k = slice_index_or g.names k ([], truth)

-- The term is of the object's sort, and worth the value of the name at a place of the store, each word cut to its mask.
pub record IsMasked (o : Object) (masks : List ℕ) (g : Graph) (place id : ℕ) : Type 0 where
  pub sort : Sort
  pub of_object : IsSortOf o sort
  pub of_sort : IsOfSort g id sort
  pub fits : (p : Valuation) → HasSort (p (named_at g place).0) (named_at g place).1 → IsValueOf o (val (tree g id) p)
  pub bits : (p : Valuation) (k b : ℕ) → HasSort (p (named_at g place).0) (named_at g place).1
      → value_bit (val (tree g id) p) k b ≡ (value_bit (p (named_at g place).0) k b && is_set (slice_index masks k) b)
