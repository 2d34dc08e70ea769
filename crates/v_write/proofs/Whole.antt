-- Targets and statements by themselves, under no condition.
use Rattle.std.proofs.Common.{ℕ, None, [], refl, subst, true, List}
use Rattle.wb_values.specs.Value.{word}
use Rattle.verilog_trees.specs.Syntax.{Target, Statement}
use Rattle.verilog_meaning.specs.Expression.{Scope}
use Rattle.verilog_meaning.specs.Statement.{written, run}
use Rattle.wb_terms.specs.Graph.{Graph}
use Rattle.v_operators.specs.Meaning.{Grows, IsOfSort}
use Rattle.v_operators.proofs.Growing.{number_kept}
use Rattle.v_lower.specs.Lowered.{Images, HasImages, StandsFor}
use Rattle.v_write.specs.declared.part.Part.{Part}
use Rattle.v_write.specs.Written.{ArePartsWritten}
use Rattle.v_write.specs.Selecting.{ArePrepared}
use Rattle.v_write.specs.Running.{Runs}
use Rattle.v_write.specs.Blocks.{IsTargetWritten, IsStatementLowered}
use Rattle.v_write.proofs.Stands.{stands_after}

pub target_written : (s : Scope) (a b : Images) (g f h : Graph) (t : Target) (qs : List Part) (id w : ℕ) → HasImages s a g → Grows g f → IsOfSort g id (word w) → ArePrepared s a g [] t f qs → ArePartsWritten s a f None qs id w b h
    → IsTargetWritten s a g t id w b h
target_written s a b g f h t qs id w known gf sort r o =
    record {
      known = o.known;
      names = o.names;
      stands = λ p v x sv is_x.
          let st = stands_after s a g f p v gf known sv in
          subst (λ z. StandsFor s b h p (written s v z x)) (r.places p v st tt) (o.stands p v x true st (r.indexes p v st tt) (number_kept id w p x gf sort.below is_x) refl);
    }

pub statement_lowered : (s : Scope) (a n b m : Images) (g h : Graph) (x : Statement) → Runs s a n g None (run s x) b m h → IsStatementLowered s a n g x b m h
statement_lowered s a n b m g h x r =
    record {
      known = r.known;
      known_next = r.known_next;
      names = r.names;
      names_next = r.names_next;
      stands = λ p v u sv su. r.stands p v u true sv su refl;
      stands_next = λ p v u sv su. r.stands_next p v u true sv su refl;
    }
