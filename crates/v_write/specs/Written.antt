-- When images stand for a valuation after a number was written to a part of a target, or to all of them.
use Rattle.std.specs.Prelude.{◌≡◌, ℕ, Bool, cond, List, Option, is_some}
use Rattle.wb_values.specs.Value.{Name, Value, Valuation}
use Rattle.model_meaning.specs.Term.{val}
use Rattle.verilog_meaning.specs.Expression.{Object, Scope}
use Rattle.verilog_meaning.specs.Statement.{written_cell, written_place, written}
use Rattle.verilog_meaning.specs.Settled.{IsValueOf}
use Rattle.wb_terms.specs.Graph.{Graph, tree}
use Rattle.wb_terms.specs.declared.nodes.TermId.{TermId}
use Rattle.v_operators.specs.Meaning.{IsOfSort, HasNumber}
use Rattle.v_lower.specs.Lowered.{Images, HasImages, StandsFor, IsSortOf}
use Rattle.v_write.specs.declared.part.Part.{Part}
use Rattle.v_write.specs.Parts.{cell_meant, bits_meant, place_meant, places_meant, HasIndexes, HaveIndexes}
use Rattle.v_write.specs.Guard.{Guards}

-- The same names have terms.
abbrev pub AreOfNames : Images → Images → Type 0
AreOfNames a b = (n : Name) → is_some (b n) ≡ is_some (a n)

-- The term of the second store is what an object is worth after a number was written to a part of it: of the sort that its term had.
pub record Changes (o : Object) (g h : Graph) (q : Part) (old number id : ℕ) : Type 0 where
  pub of_sort : (t : _) → IsSortOf o t → IsOfSort g old t → IsOfSort h id t
  pub value : (p : Valuation) (v : Value) (x : ℕ) → HasIndexes g p q → val (tree g old) p ≡ v → IsValueOf o v → HasNumber g number q.count p x
      → val (tree h id) p ≡ written_cell o v (cell_meant o g p q.address) (bits_meant o g p q.bits) x

-- The images of the second store stand for the valuation after a number was written to a part, where the condition holds.
pub record IsPartWritten (s : Scope) (a : Images) (g : Graph) (guard : Option TermId) (q : Part) (number : ℕ) (b : Images) (h : Graph) : Type 0 where
  pub known : HasImages s b h
  pub names : AreOfNames a b
  pub stands : (p v : Valuation) (x : ℕ) (c : Bool) → StandsFor s a g p v → HasIndexes g p q → HasNumber g number q.count p x → Guards g p guard c
      → StandsFor s b h p (cond c (written_place s v (place_meant s g p q) x) v)

-- The same of several parts, which have w bits together.
pub record ArePartsWritten (s : Scope) (a : Images) (g : Graph) (guard : Option TermId) (qs : List Part) (number w : ℕ) (b : Images) (h : Graph) : Type 0 where
  pub known : HasImages s b h
  pub names : AreOfNames a b
  pub stands : (p v : Valuation) (x : ℕ) (c : Bool) → StandsFor s a g p v → HaveIndexes g p qs → HasNumber g number w p x → Guards g p guard c
      → StandsFor s b h p (cond c (written s v (places_meant s g p qs) x) v)
