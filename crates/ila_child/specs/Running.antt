-- A machine's steps and programs at the values of all names.
use Rattle.std.specs.Prelude.{ℕ, zero, suc, ◌-◌, ◌<◌, ◌≤◌, ◌≡◌, cond, List, length, ⊤, Option, Some, None, IsTrue, IsFalse}
use Rattle.wb_values.specs.Value as meaning
use Rattle.wb_values.specs.Value.{number, Valuation, valuation_of}
use Rattle.model_meaning.specs.Model as pure
use Rattle.model_meaning.specs.Model.{holds}
use Rattle.model_meaning.specs.Instruction as instruction
use Rattle.model_meaning.specs.Instruction.{DoesChild, DoesOne, ChildTrouble, OneTrouble}
use Rattle.wb_terms.specs.Graph.{tree}
use Rattle.wb_terms.specs.Environment.{values_by_name}
use Rattle.ila_model.specs.declared.parts.ChildId.{ChildId}
use Rattle.ila_model.specs.declared.parts.Child.{Child}
use Rattle.ila_model.specs.declared.parts.Instruction.{Instruction}
use Rattle.ila_model.specs.declared.parts.Parts.{Parts}
use Rattle.ila_model.specs.Scope.{around, may_read, home, nesting}
use Rattle.ila_model.specs.Meaning.{instructions_of, program_of}
use Rattle.ila_child.specs.declared.running.Trouble.{Trouble}
use Rattle.ila_child.specs.declared.running.Trouble.TheVariants.{Stuck, TooLong}
use Rattle.ila_child.specs.declared.running.Taken.{Taken}
use Rattle.ila_child.specs.declared.running.Taken.TheVariants.{NotValid, One}
use Rattle.ila_child.specs.declared.running.Taken.TheVariants.{Stuck as StuckThere}

-- The point that a machine sees, by the values of all names: those that may be read at its place have their values, and the
-- private states of other children, which are not there, are 0.
unfoldable pub point_at : Parts → Option ℕ → List meaning.Value → Valuation
point_at p at xs n = cond (may_read p.children.items at (home p n)) (valuation_of (values_by_name p.terms.names xs) n) (number 0)

abbrev pub seen : Parts → Option ℕ → List meaning.Value → Valuation
seen p at e = point_at p at e

-- So many children are around one another at a place.
abbrev pub HasDepth : List Child → ℕ → Option ℕ → Type 0
HasDepth cs zero None = ⊤
HasDepth cs zero (Some c) = ⊥
HasDepth cs (suc d) None = ⊥
HasDepth cs (suc d) (Some c) = HasDepth cs d (around cs c)

-- At most three children are around one another at a place.
pub record IsDeep (cs : List Child) (at : Option ℕ) : Type 0 where
  pub depth : ℕ
  pub has : HasDepth cs depth at
  pub low : depth ≤ 3

-- The program, if any, is a child that is run from the place.
abbrev pub IsLinked : List Child → Option ℕ → Option ChildId → Type 0
IsLinked cs at None = ⊤
IsLinked cs at (Some i) = (i.0 < length cs) × (around cs i.0 ≡ at)

abbrev pub trouble_of : Trouble → instruction.Trouble
trouble_of (Stuck d k) = instruction.stuck d k
trouble_of (TooLong d) = instruction.too_long d

-- The instruction that alone decodes: from the point before, what its program does behind its updates is what the machine
-- does, for every meaning of programs.
pub record IsOneTaken (p : Parts) (at : Option ℕ) (is : List Instruction) (e f : List meaning.Value) (o : Option ChildId) : Type 0 where
  pub linked : IsLinked p.children.items at o
  pub does : (inner : Option ChildId → pure.Child) (q : Valuation) → DoesChild (inner o) (seen p at f) q → DoesOne (instructions_of p.terms inner is) (seen p at e) q
  pub trouble : (inner : Option ChildId → pure.Child) (depth step : ℕ) (t : instruction.Trouble) → ChildTrouble (inner o) (seen p at f) (suc depth) t → OneTrouble (instructions_of p.terms inner is) (seen p at e) depth step t

-- What a machine does, but for its program.
abbrev pub IsTaken : Parts → Option ℕ → ℕ → List Instruction → (e f : List meaning.Value) → Taken → Type 0
IsTaken p at v is e f NotValid = (f ≡ e) × IsFalse (holds (tree p.terms v) (seen p at e))
IsTaken p at v is e f StuckThere =
    IsTrue (holds (tree p.terms v) (seen p at e))
    × ((inner : Option ChildId → pure.Child) (depth step : ℕ) → OneTrouble (instructions_of p.terms inner is) (seen p at e) depth step (instruction.stuck depth step))
IsTaken p at v is e f (One o) = IsTrue (holds (tree p.terms v) (seen p at e)) × IsOneTaken p at is e f o

-- the program, in a machine so deep
abbrev pub program_in : Parts → ℕ → Option ChildId → pure.Child
program_in p d o = program_of p.terms p.children.items (nesting - d) o

-- The program is run to its end, or has a trouble.
abbrev pub IsRun : Parts → Option ℕ → ℕ → Option ChildId → (e f : List meaning.Value) → Option Trouble → Type 0
IsRun p at d o e f None = DoesChild (program_in p d o) (seen p at e) (seen p at f)
IsRun p at d o e f (Some t) = ChildTrouble (program_in p d o) (seen p at e) (suc d) (trouble_of t)
