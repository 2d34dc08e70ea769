-- The bits and words that selects of a target mean, by the terms of their indexes.
use Rattle.std.specs.Prelude.{◌≡◌, ℕ, ◌+◌, ◌++◌, List, Option, is_some}
use Rattle.wb_values.specs.Value.{Name, word, Valuation}
use Rattle.verilog_trees.specs.Syntax.{Select, Selects, Target, Targets, Expression}
use Rattle.verilog_meaning.specs.Expression.{Object, Scope, is_memory, no_values, selects_width, select_index, select_bits, assigned_value}
use Rattle.verilog_meaning.specs.Statement.{named_place, places, all_places, target_width, targets_width}
use Rattle.wb_terms.specs.Graph.{Graph}
use Rattle.v_value.specs.Narrow.{IsWidth}
use Rattle.v_bits.specs.declared.operand.Operand.{Operand}
use Rattle.v_operators.specs.Meaning.{Grows, IsOfSort, HasNumber}
use Rattle.v_lower.specs.Lowered.{Images, StandsFor}
use Rattle.v_write.specs.declared.part.Part.{Part}
use Rattle.v_write.specs.declared.part.PartBits.{PartBits}
use Rattle.v_write.specs.Parts.{index_meant, cell_meant, bits_meant, places_meant, counts, IsNumber, HasAddress, HaveIndex, HaveIndexes, IsAddress, AreBits, AreParts}

-- The operand is the term of an index.
pub record IsIndexOf (s : Scope) (im : Images) (g : Graph) (x : Select) (a : Operand) : Type 0 where
  pub of_sort : IsOfSort g a.id.0 (word a.width)
  pub number : (p v : Valuation) → StandsFor s im g p v → IsNumber g p a
  pub meant : (p v : Valuation) → StandsFor s im g p v → index_meant g p a ≡ select_index s v x

-- These are the bits that a select takes of an object, n of them.
pub record IsTakenBy (s : Scope) (im : Images) (g : Graph) (o : Object) (x : Select) (q : PartBits) (n : ℕ) : Type 0 where
  pub bits : AreBits o g n q
  pub width : IsWidth n
  pub count : n ≡ (select_bits s no_values o x).count
  pub index : (p v : Valuation) → StandsFor s im g p v → HaveIndex g p q
  pub meant : (p v : Valuation) → StandsFor s im g p v → bits_meant o g p q ≡ select_bits s v o x

-- These are the word and the bits that a name with selects means.
pub record IsSelectedBy (s : Scope) (im : Images) (g : Graph) (n : Name) (x : Selects) (a : Option Operand) (q : PartBits) (k : ℕ) : Type 0 where
  pub memory : is_memory (s n) ≡ is_some a
  pub address : IsAddress g a
  pub bits : AreBits (s n) g k q
  pub width : IsWidth k
  pub count : k ≡ selects_width s (s n) x
  pub indexes : (p v : Valuation) → StandsFor s im g p v → HasAddress g p a × HaveIndex g p q
  pub meant : (p v : Valuation) → StandsFor s im g p v → named_place s v n x ≡ record { of_name = n; cell = cell_meant (s n) g p a; bits = bits_meant (s n) g p q }

-- The second list has the parts of the first and then those of the target, whose indexes are read in the images.
pub record ArePrepared (s : Scope) (im : Images) (g : Graph) (old : List Part) (t : Target) (h : Graph) (new : List Part) : Type 0 where
  pub parts : AreParts s h new
  pub width : counts new ≡ counts old + target_width s t
  pub indexes : (p v : Valuation) → StandsFor s im h p v → HaveIndexes g p old → HaveIndexes h p new
  pub places : (p v : Valuation) → StandsFor s im h p v → HaveIndexes g p old → places_meant s h p new ≡ places_meant s g p old ++ places s v t

-- Of all targets the rest is still to come.
pub record ArePreparing (s : Scope) (im : Images) (g : Graph) (old : List Part) (all : Targets) (h : Graph) (new : List Part) (rest : Targets) : Type 0 where
  pub grows : Grows g h
  pub parts : AreParts s h new
  pub width : counts new + targets_width s rest ≡ counts old + targets_width s all
  pub indexes : (p v : Valuation) → StandsFor s im h p v → HaveIndexes g p old → HaveIndexes h p new
  pub places : (p v : Valuation) → StandsFor s im h p v → HaveIndexes g p old → places_meant s h p new ++ all_places s v rest ≡ places_meant s g p old ++ all_places s v all

-- The parts of a target, of w bits together, and the term of the value that an assignment gives it.
pub record IsPrepared (s : Scope) (im : Images) (g : Graph) (t : Target) (e : Expression) (qs : List Part) (id w : ℕ) : Type 0 where
  pub parts : AreParts s g qs
  pub width : w ≡ counts qs
  pub of_sort : IsOfSort g id (word w)
  pub indexes : (p v : Valuation) → StandsFor s im g p v → HaveIndexes g p qs
  pub places : (p v : Valuation) → StandsFor s im g p v → places_meant s g p qs ≡ places s v t
  pub value : (p v : Valuation) → StandsFor s im g p v → HasNumber g id w p (assigned_value s v (target_width s t) e)
