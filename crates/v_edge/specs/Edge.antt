-- What is promised of the clocked blocks of a module: images that stand for its registers after the clock's edge.
use Rattle.std.specs.Prelude.{List, [], ◌∷◌, Option, Some, None}
use Rattle.std.specs.Borrow.{Bor}
use Rattle.wb_values.specs.Value.{Valuation}
use Rattle.verilog_trees.specs.Syntax.{Statement}
use Rattle.verilog_meaning.specs.Expression.{Scope}
use Rattle.verilog_meaning.specs.Statement.{with_updates}
use Rattle.verilog_meaning.specs.Register.{updates_of_blocks}
use Rattle.v_syntax.specs.declared.tree.Statement.{Statement as CodeStatement}
use Rattle.v_syntax.specs.Tree.{statement_of}
use Rattle.wb_terms.specs.Graph.{Graph}
use Rattle.v_lower.specs.Lowered.{Images, HasImages, StandsFor}
use Rattle.v_write.specs.Written.{AreOfNames}
use Rattle.v_write.specs.Sound.{IsSoundStatement}

-- the block that was found, if one was
abbrev pub blocks_in : Option (Bor CodeStatement) → List Statement
blocks_in None = []
blocks_in (Some x) = statement_of x.now ∷ []

-- Each of the blocks breaks no rule.
abbrev pub AreSound : Scope → List Statement → Type 0
AreSound s [] = Unit {0}
AreSound s (x ∷ xs) = IsSoundStatement s x × AreSound s xs

-- a and n are the images of names and of registers before the updates of some blocks, and b and m those after them: the names hold
-- what they did, and the registers what they do after all updates, each block run on what the names hold. (Bits that no block assigns
-- stay: they are 0 in the next registers, so they are to be 0 before.)
pub record AreUpdated (s : Scope) (a n : Images) (g : Graph) (blocks : List Statement) (b m : Images) (h : Graph) : Type 0 where
  pub known : HasImages s b h
  pub known_next : HasImages s m h
  pub names : AreOfNames a b
  pub names_next : AreOfNames n m
  pub stands : (p v u : Valuation) → StandsFor s a g p v → StandsFor s n g p u → StandsFor s b h p v
  pub stands_next : (p v u : Valuation) → StandsFor s a g p v → StandsFor s n g p u → StandsFor s m h p (with_updates s u (updates_of_blocks s v blocks))
