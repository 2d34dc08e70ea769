-- Wires for the terms of a model: one for each node of its graph of terms, over the wires of earlier nodes.
use Rattle.std.specs.Prelude.{ℕ, zero, suc, ◌+◌, ◌-◌, Bool, true, false, cond, not, ◌&&◌, ◌||◌, ◌==◌, nat_lt, List, [], ◌∷◌, ◌++◌, Option, Some, None, codes, decimal, slice_index_or}
use Rattle.std.specs.List.{list_any}
use Rattle.wb_values.specs.Value.{Name, Sort, truth, Entries}
use Rattle.wb_values.specs.Number.{word_extract}
use Rattle.model_meaning.specs.Term.{is_memory_sort, sort_of, term_width}
use Rattle.verilog_trees.specs.Syntax.{Expression, unary, complement, minus, binary, add, subtract, multiply, bitwise_and, bitwise_or, bitwise_xor, shift, left, right, comparison, less, less_or_equal, equal, conditional, as_signed}
use Rattle.verilog_meaning.specs.Expression.{bit}
use Rattle.verilog_meaning.specs.Settled.{whole_name}
use Rattle.term_expressions.specs.Expressions.{sized, arithmetic_shift, signed_comparison, pair_of, bits_of, word_at, filled}
use Rattle.wb_terms.specs.declared.nodes.Node.{Node}
use Rattle.wb_terms.specs.declared.nodes.Node.TheVariants.{Name as Named, Truth, Const, Not, And, Or, Xor, Neg, Add, Sub, Mul, Shl, Lshr, Ashr, Eq, Ult, Ule, Slt, Sle, Concat, Extract, Zext, Sext, Ite, Load, Store}
use Rattle.wb_terms.specs.Graph.{Graph, tree}
use Rattle.emitted_modules.specs.Rtl.{Wire}

abbrev pub wire_name_of : ℕ → Name
wire_name_of k = codes "wb_t" ++ decimal k

abbrev pub node_at : Graph → ℕ → Node
node_at g k = slice_index_or g.nodes k (Truth false)

-- the name at a place of the table
abbrev pub called_at : Entries Sort → ℕ → Name
called_at ns k = (slice_index_or ns k ([], truth)).0

-- ---- operands

-- A name or a constant stands for itself, any other term is its wire.
abbrev pub leaf_or_wire : Entries Sort → ℕ → Node → Expression
leaf_or_wire ns k (Named n) = whole_name (called_at ns n.0)
leaf_or_wire ns k (Truth b) = sized 1 (bit b)
leaf_or_wire ns k (Const w x) = sized w x
leaf_or_wire ns k _ = whole_name (wire_name_of k)

abbrev pub operand : Graph → ℕ → Expression
operand g k = leaf_or_wire g.names k (node_at g k)

-- Bits of an operand. Verilog takes bits of names alone: those of a constant are a constant.
abbrev pub bits_of_leaf_or_wire : Entries Sort → ℕ → Node → (h l : ℕ) → Expression
bits_of_leaf_or_wire ns k (Named n) h l = bits_of (called_at ns n.0) h l
bits_of_leaf_or_wire ns k (Const w x) h l = sized (h + 1 - l) (word_extract h l x)
bits_of_leaf_or_wire ns k _ h l = bits_of (wire_name_of k) h l

abbrev pub bits_of_operand : Graph → ℕ → (h l : ℕ) → Expression
bits_of_operand g k h l = bits_of_leaf_or_wire g.names k (node_at g k) h l

-- how many bits a term has that is a word
abbrev pub width_at : Graph → ℕ → ℕ
width_at g k = term_width (tree g k)

-- a word of w bits filled with zeros to n bits, if these are more
abbrev pub filled_to : (n w : ℕ) → Expression → Expression
filled_to n w e = cond (nat_lt w n) (filled n w e) e

-- ---- the parts of memories

-- a memory with a word stored to it, or one of two memories by a condition
abbrev pub is_changed : Node → Bool
is_changed (Store m i x) = true
is_changed (Ite c x y) = true
is_changed _ = false

-- the memories that it is made of
abbrev pub memories_of : Node → List ℕ
memories_of (Store m i x) = m.0 ∷ []
memories_of (Ite c x y) = x.0 ∷ y.0 ∷ []
memories_of _ = []

-- Node k is node j, or a part of one of the memories that j is made of: so many levels down.
abbrev pub is_part : Graph → (levels : ℕ) → (j k : ℕ) → Bool
is_part g zero j k = false
is_part g (suc l) j k = (j == k) || list_any (λ i. is_part g l i k) (memories_of (node_at g j))

-- Memory m has node k as a part that is no name.
abbrev pub has_part : Graph → (m k : ℕ) → Bool
has_part g m k = is_changed (node_at g k) && is_part g (suc m) m k

-- ---- words of memories

-- the wire for the word of memory k at the address of load l
abbrev pub word_name : (l k : ℕ) → Name
word_name l k = codes "wb_word_" ++ decimal l ++ 95 ∷ decimal k

-- The word of memory k at the address of load l, which is e. Of a name it is the word there, else a wire.
abbrev pub word_or_wire : Entries Sort → (l : ℕ) → Expression → ℕ → Node → Expression
word_or_wire ns l e k (Named n) = word_at (called_at ns n.0) e
word_or_wire ns l e k _ = whole_name (word_name l k)

abbrev pub word_of : Graph → (l : ℕ) → Expression → ℕ → Expression
word_of g l e k = word_or_wire g.names l e k (node_at g k)

-- It is over the words of the memories that a memory is made of: i == a ? x : .., or c ? .. : ..
abbrev pub word_of_node : Graph → (l : ℕ) → Expression → Node → Expression
word_of_node g l e (Store m i x) = conditional (comparison equal e (operand g i.0)) (operand g x.0) (word_of g l e m.0)
word_of_node g l e (Ite c x y) = conditional (operand g c.0) (word_of g l e x.0) (word_of g l e y.0)
word_of_node g l e n = sized 1 0

-- ---- wires

-- The expression of a node over its operands.
abbrev pub expression_of : Graph → ℕ → Node → Expression
expression_of g k (Not x) = unary complement (operand g x.0)
expression_of g k (And x y) = binary bitwise_and (operand g x.0) (operand g y.0)
expression_of g k (Or x y) = binary bitwise_or (operand g x.0) (operand g y.0)
expression_of g k (Xor x y) = binary bitwise_xor (operand g x.0) (operand g y.0)
expression_of g k (Neg x) = unary minus (operand g x.0)
expression_of g k (Add x y) = binary add (operand g x.0) (operand g y.0)
expression_of g k (Sub x y) = binary subtract (operand g x.0) (operand g y.0)
expression_of g k (Mul x y) = binary multiply (operand g x.0) (operand g y.0)
expression_of g k (Shl x y) = shift left (operand g x.0) (operand g y.0)
expression_of g k (Lshr x y) = shift right (operand g x.0) (operand g y.0)
expression_of g k (Ashr x y) = arithmetic_shift (operand g x.0) (operand g y.0)
expression_of g k (Eq x y) = comparison equal (operand g x.0) (operand g y.0)
expression_of g k (Ult x y) = comparison less (operand g x.0) (operand g y.0)
expression_of g k (Ule x y) = comparison less_or_equal (operand g x.0) (operand g y.0)
expression_of g k (Slt x y) = signed_comparison less (operand g x.0) (operand g y.0)
expression_of g k (Sle x y) = signed_comparison less_or_equal (operand g x.0) (operand g y.0)
expression_of g k (Concat x y) = pair_of (operand g x.0) (operand g y.0)
expression_of g k (Extract h l x) = bits_of_operand g x.0 h l
expression_of g k (Zext n x) = filled_to n (width_at g x.0) (operand g x.0)
expression_of g k (Sext n x) = as_signed (operand g x.0)
expression_of g k (Ite c x y) = conditional (operand g c.0) (operand g x.0) (operand g y.0)
expression_of g k (Load m i) = word_of g k (operand g i.0) m.0
expression_of g k n = leaf_or_wire g.names k n

abbrev pub is_leaf : Node → Bool
is_leaf (Named n) = true
is_leaf (Truth b) = true
is_leaf (Const w x) = true
is_leaf _ = false

abbrev pub sort_or_truth : Option Sort → Sort
sort_or_truth (Some t) = t
sort_or_truth None = truth

-- wire [w-1:0] wb_tk = ..;
abbrev pub wire_for : Graph → ℕ → Node → Wire
wire_for g k n = record { wire_name = wire_name_of k; sort = sort_or_truth (sort_of (tree g k)); expression = expression_of g k n }

-- A leaf has no wire, and a memory has none.
abbrev pub has_wire : Graph → ℕ → Node → Bool
has_wire g k n = not (is_leaf n) && not (is_memory_sort (sort_or_truth (sort_of (tree g k))))

-- wire [w-1:0] wb_word_l_k = ..; for load l at address e
abbrev pub word_wire : Graph → (l : ℕ) → Expression → ℕ → Wire
word_wire g l e k = record { wire_name = word_name l k; sort = sort_or_truth (sort_of (tree g l)); expression = word_of_node g l e (node_at g k) }

-- one for each of the first n nodes that is a part of memory m, from the lowest on
abbrev pub word_wires : Graph → (l : ℕ) → Expression → (m n : ℕ) → List Wire
word_wires g l e m zero = []
word_wires g l e m (suc k) = word_wires g l e m k ++ cond (has_part g m k) (word_wire g l e k ∷ []) []

-- those of a load: the parts of its memory stand before it
abbrev pub words_for : Graph → ℕ → Node → List Wire
words_for g k (Load m i) = word_wires g k (operand g i.0) m.0 k
words_for g k n = []

-- the wires of the nodes that are kept, from node k on
abbrev pub node_wires : Graph → (keep : ℕ → Bool) → ℕ → List Node → List Wire
node_wires g keep k [] = []
node_wires g keep k (n ∷ ns) = cond (keep k && has_wire g k n) (words_for g k n ++ wire_for g k n ∷ []) [] ++ node_wires g keep (suc k) ns
