-- Points: the values of a store's names, and those of terms evaluated at them, with the memories of all in one pool.
use Rattle.std.specs.Prelude.{ℕ, List}
use Rattle.sparse_memories.specs.Nodes.{Content}
use Rattle.sparse_memories.specs.declared.pool.Memory.{Memory}
use Rattle.wb_values.specs.Value as meaning
use Rattle.wb_bits.specs.declared.Word.{Word}
use Rattle.wb_terms.specs.Graph.{Graph}
use Rattle.term_evaluation.specs.Links.{IsWordHeld, IsLinkHeld}
use Rattle.term_evaluation.specs.Pending.{AreKept}

-- A point as contracts see it: the values of the names, values that were put aside, and what is kept of each term: a word, a memory of the
-- pool, and the time at which they were evaluated.
pub record PointView : Type 0 where
  pub values : List meaning.Value
  pub aside : List meaning.Value
  pub words : List Word
  pub links : List Memory
  pub stamps : List ℕ
  pub time : ℕ
  pub pool : Content

-- What the point keeps of the term number k stands for its value there.
abbrev pub IsHeldAt : Graph → PointView → ℕ → Type 0
IsHeldAt g x k = IsWordHeld g x.values x.words k × IsLinkHeld g x.values x.pool x.links k

-- The point is one of the store: there is room for each term, and those that have the point's time as their stamp are held.
abbrev pub IsPointOf : Graph → PointView → Type 0
IsPointOf g x = AreKept g x.values x.pool x.words x.links x.stamps x.time
