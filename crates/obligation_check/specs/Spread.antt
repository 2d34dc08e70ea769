-- Formulas that encode a term in which memories may stand: over a store in which each word of a memory has a name of its own.
use Rattle.std.specs.Prelude.{◌≡◌, ℕ, true, List, Option, length}
use Rattle.wb_values.specs.Value.{Valuation}
use Rattle.model_meaning.specs.Term.{val}
use Rattle.sat_base.specs.Formula.{Formula}
use Rattle.wb_terms.specs.Graph.{Graph, tree, HasDistinctNames}
use Rattle.sat_gates.specs.Names.{names_in, is_blastable}
use Rattle.sat_gates.specs.Encodes.{Encodes}
use Rattle.sat_gates.specs.Layout.{variables_of, IsNumbered}
use Rattle.ob_mem.specs.Words.{words_of, HasWords}
use Rattle.ob_mem.specs.Spread.{GivesSorts, IsSpread}

-- the valuation w has the words of v's memories
abbrev pub SpreadsOver : (g h : Graph) → (v w : Valuation) → Type 0
SpreadsOver g h v w = IsSpread g.names h.names (words_of 0 (length g.names) g.names) v w

-- The formula encodes a term of a store: there is a store with a name for each word of each memory, and a term of it without memories
-- that is worth the same, which the formula encodes; `firsts` has the first variable of each of its names.
pub record EncodesSpread (g : Graph) (id : ℕ) (firsts : List (Option ℕ)) (f : Formula) : Type 0 where
  pub store : Graph
  pub goal : ℕ
  pub words : HasWords g.names store.names (words_of 0 (length g.names) g.names)
  pub distinct : HasDistinctNames store.names
  pub blastable : is_blastable (tree store goal) ≡ true
  pub same : (v w : Valuation) → SpreadsOver g store v w → val (tree store goal) w ≡ val (tree g id) v
  pub spread : (v : Valuation) → GivesSorts g.names v → (w : Valuation) × SpreadsOver g store v w × GivesSorts store.names w
  pub gathered : (w : Valuation) → GivesSorts store.names w → (v : Valuation) × SpreadsOver g store v w
  pub encodes : Encodes f (variables_of store.names firsts) (tree store goal)
  pub numbered : IsNumbered store.names (names_in (tree store goal)) firsts f.vars
