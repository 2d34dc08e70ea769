-- Terms of one store copied into another, with terms of that other store in place of names.
use Rattle.std.specs.Prelude.{◌≡◌, ℕ, ◌<◌, List, [], ◌++◌, length, slice_index_or, Option, Some, None}
use Rattle.wb_values.specs.Value.{Name, Sort, truth, Entries, Valuation}
use Rattle.model_meaning.specs.Term.{sort_of, val}
use Rattle.wb_terms.specs.declared.nodes.NameId.{NameId}
use Rattle.wb_terms.specs.declared.nodes.TermId.{TermId}
use Rattle.wb_terms.specs.declared.nodes.Node.{Node}
use Rattle.wb_terms.specs.declared.nodes.Node.TheVariants.{Name as NameNode, Truth, Const, Not, And, Or, Xor, Neg, Add, Sub, Mul, Shl, Lshr, Ashr, Eq, Ult, Ule, Slt, Sle, Concat, Extract, Zext, Sext, Ite, Load, Store}
use Rattle.wb_terms.specs.Graph.{Graph, tree}

-- The second store is the first with perhaps further terms after its own.
pub record IsExtended (g h : Graph) : Type 0 where
  pub names : h.names ≡ g.names
  pub further : List Node
  pub nodes : h.nodes ≡ g.nodes ++ further

-- the id at a place of a list
abbrev pub id_at : List TermId → ℕ → ℕ
id_at ids k = (slice_index_or ids k (record { 0 = 0 })).0

-- the entry at a place of a table of names
abbrev pub declared_at : Entries Sort → ℕ → Name × Sort
declared_at names k = slice_index_or names k ([], truth)

-- For each name there is a term of the store, of the name's sort.
pub record AreLeaves (g : Graph) (names : Entries Sort) (leaves : List TermId) : Type 0 where
  pub count : length leaves ≡ length names
  pub below : (j : ℕ) → j < length names → id_at leaves j < length g.nodes
  pub sort : (j : ℕ) → j < length names → sort_of (tree g (id_at leaves j)) ≡ Some (declared_at names j).1

-- Under v the term for each name is worth what the name is under u.
abbrev pub GiveValues : Graph → Entries Sort → List TermId → (v u : Valuation) → Type 0
GiveValues g names leaves v u = (j : ℕ) → j < length names → val (tree g (id_at leaves j)) v ≡ u (declared_at names j).0

-- The term of the store is a copy of term k of the source: it has the same sort, and wherever the terms for the names are worth what the
-- names are, it is worth what term k is.
pub record IsCopy (g source : Graph) (leaves : List TermId) (id k : ℕ) : Type 0 where
  pub below : id < length g.nodes
  pub sort : sort_of (tree g id) ≡ sort_of (tree source k)
  pub value : (v u : Valuation) → GiveValues g source.names leaves v u → val (tree g id) v ≡ val (tree source k) u

-- The ids are those of copies of the first n terms of the source.
pub record AreCopiesOf (n : ℕ) (g source : Graph) (leaves ids : List TermId) : Type 0 where
  pub count : length ids ≡ n
  pub copy : (k : ℕ) → k < n → IsCopy g source leaves (id_at ids k) k

-- For each term of the source there is a copy, in the same order.
abbrev pub AreCopies : (g source : Graph) (leaves ids : List TermId) → Type 0
AreCopies g source leaves ids = AreCopiesOf (length source.nodes) g source leaves ids

-- the id of the copy of an operand
abbrev pub copy_of : List TermId → TermId → TermId
copy_of ids x = slice_index_or ids x.0 (record { 0 = 0 })

-- the node over the copies of its operands
abbrev pub over_copies : List TermId → Node → Node
over_copies ids (NameNode n) = NameNode n
over_copies ids (Truth b) = Truth b
over_copies ids (Const w x) = Const w x
over_copies ids (Not x) = Not (copy_of ids x)
over_copies ids (And x y) = And (copy_of ids x) (copy_of ids y)
over_copies ids (Or x y) = Or (copy_of ids x) (copy_of ids y)
over_copies ids (Xor x y) = Xor (copy_of ids x) (copy_of ids y)
over_copies ids (Neg x) = Neg (copy_of ids x)
over_copies ids (Add x y) = Add (copy_of ids x) (copy_of ids y)
over_copies ids (Sub x y) = Sub (copy_of ids x) (copy_of ids y)
over_copies ids (Mul x y) = Mul (copy_of ids x) (copy_of ids y)
over_copies ids (Shl x y) = Shl (copy_of ids x) (copy_of ids y)
over_copies ids (Lshr x y) = Lshr (copy_of ids x) (copy_of ids y)
over_copies ids (Ashr x y) = Ashr (copy_of ids x) (copy_of ids y)
over_copies ids (Eq x y) = Eq (copy_of ids x) (copy_of ids y)
over_copies ids (Ult x y) = Ult (copy_of ids x) (copy_of ids y)
over_copies ids (Ule x y) = Ule (copy_of ids x) (copy_of ids y)
over_copies ids (Slt x y) = Slt (copy_of ids x) (copy_of ids y)
over_copies ids (Sle x y) = Sle (copy_of ids x) (copy_of ids y)
over_copies ids (Concat x y) = Concat (copy_of ids x) (copy_of ids y)
over_copies ids (Extract h l x) = Extract h l (copy_of ids x)
over_copies ids (Zext n x) = Zext n (copy_of ids x)
over_copies ids (Sext n x) = Sext n (copy_of ids x)
over_copies ids (Ite c x y) = Ite (copy_of ids c) (copy_of ids x) (copy_of ids y)
over_copies ids (Load m i) = Load (copy_of ids m) (copy_of ids i)
over_copies ids (Store m i x) = Store (copy_of ids m) (copy_of ids i) (copy_of ids x)

-- the name that a node is a leaf of, if it is one
abbrev pub leaf_name : Node → Option NameId
leaf_name (NameNode n) = Some n
leaf_name _ = None
