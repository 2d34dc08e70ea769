-- When a term of a store is what an expression of a module is lowered to.
use Rattle.std.specs.Prelude.{◌≡◌, ℕ, Bool, false, not, ◌&&◌, nat_le, Option, Some, is_some, IsSome, IsTrue}
use Rattle.wb_values.specs.Value.{Name, Sort, truth, word, memory, Valuation}
use Rattle.model_meaning.specs.Term.{val}
use Rattle.verilog_trees.specs.Syntax.{Expression, Expressions, no_expressions, expression}
use Rattle.verilog_meaning.specs.Expression.{Object, Scope, object_width, is_memory, width_of, widths_of, sign_of, value_of, joined_value}
use Rattle.verilog_meaning.specs.Register.{word_count}
use Rattle.verilog_meaning.specs.Settled.{IsAddressWidth, IsValueOf}
use Rattle.verilog_rules.specs.Expression.{has_many_words}
use Rattle.wb_terms.specs.Graph.{Graph, tree}
use Rattle.v_operators.specs.Meaning.{IsOfSort, HasNumber}

-- The term that stands for each name of a module, where one does.
abbrev pub Images : Type 0
Images = Name → Option ℕ

-- The sort of the term that stands for a name: a word of its bits, or a memory of its words by ascending address.
abbrev pub IsSortOf : Object → Sort → Type 0
IsSortOf o truth = ⊥
IsSortOf o (word w) = IsTrue (not (is_memory o)) × (w ≡ object_width o)
IsSortOf o (memory a d) = IsTrue (is_memory o) × IsAddressWidth (word_count o) a × (d ≡ object_width o)

pub record IsImage (s : Scope) (g : Graph) (n : Name) (id : ℕ) : Type 0 where
  pub sort : Sort
  pub of_name : IsSortOf (s n) sort
  pub of_sort : IsOfSort g id sort

-- A declared name has a sort where it has at most 128 bits, and as a memory at most 65,536 words.
abbrev pub has_sort : Object → Bool
has_sort o = o.is_declared && (nat_le (object_width o) 128 && not (has_many_words o.addresses))

-- The number of a parameter is known.
abbrev pub has_number : Object → Bool
has_number o = is_some o.constant && not (is_memory o)

-- Each net, variable and memory of the module that has a sort has a term of it. (A parameter needs none.)
pub record HasImages (s : Scope) (images : Images) (g : Graph) : Type 0 where
  pub some : (n : Name) → IsTrue (has_sort (s n)) → has_number (s n) ≡ false → IsSome (images n)
  pub image : (n : Name) (id : ℕ) → images n ≡ Some id → IsImage s g n id

-- The environment stands for the valuation: each name has a value of its object, and it is what the name's term is worth.
pub record StandsFor (s : Scope) (images : Images) (g : Graph) (p v : Valuation) : Type 0 where
  pub fits : (n : Name) (id : ℕ) → images n ≡ Some id → IsValueOf (s n) (v n)
  pub same : (n : Name) (id : ℕ) → images n ≡ Some id → val (tree g id) p ≡ v n

-- The term is a word of w bits, and wherever the environment stands for the valuation, it is worth the expression's value in a
-- context of this width and sign.
pub record IsLowered (s : Scope) (images : Images) (g : Graph) (e : Expression) (w : ℕ) (t : Bool) (id : ℕ) : Type 0 where
  pub of_sort : IsOfSort g id (word w)
  pub value : (p v : Valuation) → StandsFor s images g p v → HasNumber g id w p (value_of s v e w t)

-- The same of an expression by itself, which has w bits.
pub record IsLoweredAlone (s : Scope) (images : Images) (g : Graph) (e : Expression) (w : ℕ) (id : ℕ) : Type 0 where
  pub width : w ≡ width_of s e
  pub lowered : IsLowered s images g e w (sign_of s e) id

-- The term is worth parts side by side, the first at the high end, of w bits together.
pub record AreLowered (s : Scope) (images : Images) (g : Graph) (es : Expressions) (w : ℕ) (id : ℕ) : Type 0 where
  pub width : w ≡ widths_of s es
  pub of_sort : IsOfSort g id (word w)
  pub value : (p v : Valuation) → StandsFor s images g p v → HasNumber g id w p (joined_value s v es)

-- parts with one more at the low end
abbrev pub after : Expressions → Expression → Expressions
after no_expressions e = expression e no_expressions
after (expression x es) e = expression x (after es e)
