-- What is promised of a target and of a statement: the images after them stand for the valuation that the definitions give.
use Rattle.std.specs.Prelude.{ℕ}
use Rattle.wb_values.specs.Value.{Valuation}
use Rattle.verilog_trees.specs.Syntax.{Target, Statement}
use Rattle.verilog_meaning.specs.Expression.{Scope}
use Rattle.verilog_meaning.specs.Statement.{places, written, run, with_updates}
use Rattle.wb_terms.specs.Graph.{Graph}
use Rattle.v_operators.specs.Meaning.{HasNumber}
use Rattle.v_lower.specs.Lowered.{Images, HasImages, StandsFor}
use Rattle.v_write.specs.Written.{AreOfNames}

-- a are the images before, and b those after a number, the term id of w bits, was written to a target whose indexes are read before.
pub record IsTargetWritten (s : Scope) (a : Images) (g : Graph) (t : Target) (id w : ℕ) (b : Images) (h : Graph) : Type 0 where
  pub known : HasImages s b h
  pub names : AreOfNames a b
  pub stands : (p v : Valuation) (x : ℕ) → StandsFor s a g p v → HasNumber g id w p x → StandsFor s b h p (written s v (places s v t) x)

-- a and n are the images of names and of next values before a statement, and b and m those after it.
pub record IsStatementLowered (s : Scope) (a n : Images) (g : Graph) (x : Statement) (b m : Images) (h : Graph) : Type 0 where
  pub known : HasImages s b h
  pub known_next : HasImages s m h
  pub names : AreOfNames a b
  pub names_next : AreOfNames n m
  pub stands : (p v u : Valuation) → StandsFor s a g p v → StandsFor s n g p u → StandsFor s b h p (run s x v).valuation
  pub stands_next : (p v u : Valuation) → StandsFor s a g p v → StandsFor s n g p u → StandsFor s m h p (with_updates s u (run s x v).updates)
