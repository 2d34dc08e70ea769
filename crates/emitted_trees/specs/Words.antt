-- What is made for each of the nodes that a memory is made of.
use Rattle.std.specs.Prelude.{ℕ, ⊤, cond, List, [], ◌∷◌, ◌++◌, map, Option, Some, None, ◌≡◌}
use Rattle.verilog_trees.specs.Syntax.{Expression, Item}
use Rattle.wb_terms.specs.declared.nodes.NameId.{NameId}
use Rattle.wb_terms.specs.declared.nodes.Node.{Node}
use Rattle.wb_terms.specs.declared.nodes.Node.TheVariants.{Name as Named, Load}
use Rattle.wb_terms.specs.Graph.{Graph}
use Rattle.emitted_modules.specs.Rtl.{Wire, wire_item}
use Rattle.emitted_modules.specs.Nodes.{node_at, is_changed}
use Rattle.emitted_modules.specs.Stores.{or_more}
use Rattle.emitted_names.specs.declared.words.PartName.{PartName}
use Rattle.emitted_names.specs.Parts.{IsAmongParts}

-- what is made for each of a list of nodes, one after another, or from the last on
abbrev pub all_at : {A : Type 0} → (ℕ → List A) → List ℕ → List A
all_at f [] = []
all_at f (k ∷ ks) = f k ++ all_at f ks

abbrev pub all_back : {A : Type 0} → (ℕ → List A) → List ℕ → List A
all_back f [] = []
all_back f (k ∷ ks) = all_back f ks ++ f k

-- for stores and choices alone
abbrev pub if_changed : {A : Type 0} → Graph → (ℕ → List A) → ℕ → List A
if_changed g f k = cond (is_changed (node_at g k)) (f k) []

abbrev pub wires_at : Graph → (ℕ → Wire) → ℕ → List Item
wires_at g f k = map wire_item (if_changed g (λ j. f j ∷ []) k)

-- Node k is a name, or has a name among the parts.
abbrev pub HasWord : Graph → List PartName → ℕ → Type 0
HasWord g ps k = ((n : NameId) → node_at g k ≡ Named n → ⊥) → IsAmongParts k ps

abbrev pub HaveWords : Graph → List PartName → List ℕ → Type 0
HaveWords g ps [] = ⊤
HaveWords g ps (k ∷ ks) = HasWord g ps k × HaveWords g ps ks

-- the memory of a load
abbrev pub HasLoadedWord : Graph → List PartName → Node → Type 0
HasLoadedWord g ps (Load m i) = HasWord g ps m.0
HasLoadedWord g ps n = ⊤

-- e | f | .., if there is anything
abbrev pub any_so_far : List Expression → Option Expression
any_so_far [] = None
any_so_far (e ∷ es) = Some (or_more e es)
