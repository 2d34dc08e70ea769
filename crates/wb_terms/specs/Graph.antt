-- A store of terms as contracts see it: the declared names with their sorts, the nodes in the order in which they were put, and the tree that each node stands for.
use Rattle.std.specs.Prelude.{ℕ, ◌<◌, ◌≡◌, ◌++◌, false, List, [], ◌∷◌, length, ⊤, None, slice_index_or}
use Rattle.wb_values.specs.Value.{Sort, truth, Entries, entry_of}
use Rattle.model_meaning.specs.Term.{Term, name, constant_truth, const, not, neg, and, or, xor, add, sub, mul, shl, lshr, ashr, eq, ult, ule, slt, sle, concat, extract, zext, sext, ite, load, store}
use Rattle.wb_terms.specs.declared.nodes.Node.{Node}
use Rattle.wb_terms.specs.declared.nodes.Node.TheVariants.{Name, Truth, Const, Not, And, Or, Xor, Neg, Add, Sub, Mul, Shl, Lshr, Ashr, Eq, Ult, Ule, Slt, Sle, Concat, Extract, Zext, Sext, Ite, Load, Store}

pub record Graph : Type 0 where
  pub names : Entries Sort
  pub nodes : List Node

-- the tree at a place of a list of trees
abbrev pub tree_at : List Term → ℕ → Term
tree_at ts k = slice_index_or ts k (constant_truth false)

-- the leaf for the name at a place of the table
abbrev pub leaf_at : Entries Sort → ℕ → Term
leaf_at ns k = let e = slice_index_or ns k ([], truth) in name e.0 e.1

-- the tree of a node over the trees of the earlier nodes
abbrev pub tree_of : Entries Sort → List Term → Node → Term
tree_of ns ts (Name n) = leaf_at ns n.0
tree_of ns ts (Truth b) = constant_truth b
tree_of ns ts (Const w x) = const w x
tree_of ns ts (Not x) = not (tree_at ts x.0)
tree_of ns ts (And x y) = and (tree_at ts x.0) (tree_at ts y.0)
tree_of ns ts (Or x y) = or (tree_at ts x.0) (tree_at ts y.0)
tree_of ns ts (Xor x y) = xor (tree_at ts x.0) (tree_at ts y.0)
tree_of ns ts (Neg x) = neg (tree_at ts x.0)
tree_of ns ts (Add x y) = add (tree_at ts x.0) (tree_at ts y.0)
tree_of ns ts (Sub x y) = sub (tree_at ts x.0) (tree_at ts y.0)
tree_of ns ts (Mul x y) = mul (tree_at ts x.0) (tree_at ts y.0)
tree_of ns ts (Shl x y) = shl (tree_at ts x.0) (tree_at ts y.0)
tree_of ns ts (Lshr x y) = lshr (tree_at ts x.0) (tree_at ts y.0)
tree_of ns ts (Ashr x y) = ashr (tree_at ts x.0) (tree_at ts y.0)
tree_of ns ts (Eq x y) = eq (tree_at ts x.0) (tree_at ts y.0)
tree_of ns ts (Ult x y) = ult (tree_at ts x.0) (tree_at ts y.0)
tree_of ns ts (Ule x y) = ule (tree_at ts x.0) (tree_at ts y.0)
tree_of ns ts (Slt x y) = slt (tree_at ts x.0) (tree_at ts y.0)
tree_of ns ts (Sle x y) = sle (tree_at ts x.0) (tree_at ts y.0)
tree_of ns ts (Concat x y) = concat (tree_at ts x.0) (tree_at ts y.0)
tree_of ns ts (Extract h l x) = extract h l (tree_at ts x.0)
tree_of ns ts (Zext n x) = zext n (tree_at ts x.0)
tree_of ns ts (Sext n x) = sext n (tree_at ts x.0)
tree_of ns ts (Ite c x y) = ite (tree_at ts c.0) (tree_at ts x.0) (tree_at ts y.0)
tree_of ns ts (Load m i) = load (tree_at ts m.0) (tree_at ts i.0)
tree_of ns ts (Store m i x) = store (tree_at ts m.0) (tree_at ts i.0) (tree_at ts x.0)

-- the trees with those of further nodes behind them
abbrev pub trees_after : Entries Sort → List Term → List Node → List Term
trees_after ns ts [] = ts
trees_after ns ts (n ∷ rest) = trees_after ns (ts ++ tree_of ns ts n ∷ []) rest

-- the trees of a store, in the order in which their nodes were put
abbrev pub trees_of : Graph → List Term
trees_of g = trees_after g.names [] g.nodes

-- the tree of a term of the store
abbrev pub tree : Graph → ℕ → Term
tree g k = tree_at (trees_of g) k

-- the tree that a node would have if it were put into the store
abbrev pub tree_of_node : Graph → Node → Term
tree_of_node g n = tree_of g.names (trees_of g) n

-- the operands of a node, and the names that it has as a leaf
abbrev pub operands_of : Node → List ℕ
operands_of (Name n) = []
operands_of (Truth b) = []
operands_of (Const w x) = []
operands_of (Not x) = x.0 ∷ []
operands_of (And x y) = x.0 ∷ y.0 ∷ []
operands_of (Or x y) = x.0 ∷ y.0 ∷ []
operands_of (Xor x y) = x.0 ∷ y.0 ∷ []
operands_of (Neg x) = x.0 ∷ []
operands_of (Add x y) = x.0 ∷ y.0 ∷ []
operands_of (Sub x y) = x.0 ∷ y.0 ∷ []
operands_of (Mul x y) = x.0 ∷ y.0 ∷ []
operands_of (Shl x y) = x.0 ∷ y.0 ∷ []
operands_of (Lshr x y) = x.0 ∷ y.0 ∷ []
operands_of (Ashr x y) = x.0 ∷ y.0 ∷ []
operands_of (Eq x y) = x.0 ∷ y.0 ∷ []
operands_of (Ult x y) = x.0 ∷ y.0 ∷ []
operands_of (Ule x y) = x.0 ∷ y.0 ∷ []
operands_of (Slt x y) = x.0 ∷ y.0 ∷ []
operands_of (Sle x y) = x.0 ∷ y.0 ∷ []
operands_of (Concat x y) = x.0 ∷ y.0 ∷ []
operands_of (Extract h l x) = x.0 ∷ []
operands_of (Zext n x) = x.0 ∷ []
operands_of (Sext n x) = x.0 ∷ []
operands_of (Ite c x y) = c.0 ∷ x.0 ∷ y.0 ∷ []
operands_of (Load m i) = m.0 ∷ i.0 ∷ []
operands_of (Store m i x) = m.0 ∷ i.0 ∷ x.0 ∷ []

abbrev pub names_of : Node → List ℕ
names_of (Name n) = n.0 ∷ []
names_of _ = []

-- the places of the list are all below the bound
abbrev pub AllBelow : ℕ → List ℕ → Type 0
AllBelow n [] = ⊤
AllBelow n (k ∷ ks) = (k < n) × AllBelow n ks

-- The node's operands stand among the first terms of the store, and its name in the table.
pub record IsOver (g : Graph) (count : ℕ) (n : Node) : Type 0 where
  pub operands : AllBelow count (operands_of n)
  pub names : AllBelow (length g.names) (names_of n)

-- no two entries have one name
abbrev pub HasDistinctNames : Entries Sort → Type 0
HasDistinctNames [] = ⊤
HasDistinctNames (e ∷ es) = (entry_of es e.0 ≡ None) × HasDistinctNames es

-- the store with a further name, and with a further node
abbrev pub with_name : Graph → List ℕ → Sort → Graph
with_name g bytes s = record { names = g.names ++ (bytes, s) ∷ []; nodes = g.nodes }

abbrev pub with_node : Graph → Node → Graph
with_node g n = record { names = g.names; nodes = g.nodes ++ n ∷ [] }
