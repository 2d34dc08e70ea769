-- Expressions of nodes that can be printed, and the wires and stores that are made of them.
use Rattle.std.proofs.Common.{◌≡◌, ℕ, zero, suc, ◌+◌, ◌-◌, ◌/◌, ◌<◌, ◌≤◌, ◌^◌, Bool, true, false, cond, ◌==◌, List, [], ◌∷◌, length, refl, arith}
use Rattle.std.specs.Prelude.{nat_lt}
use Rattle.std.specs.List.{list_all}
use Rattle.std.proofs.lemmas.Bool.Decides.{nat_tests}
use Rattle.std.proofs.lemmas.Nat.{pow_pos, mod_below}
use Rattle.wb_values.specs.Number.{word_extract}
use Rattle.model_meaning.specs.Term.{sort_of}
use Rattle.verilog_trees.specs.Syntax.{Expression, unary, complement, binary, bitwise_and, bitwise_or}
use Rattle.verilog_text.specs.Lexical.{is_word_byte}
use Rattle.verilog_meaning.specs.Settled.{whole_name}
use Rattle.term_expressions.specs.Expressions.{filled}
use Rattle.wb_terms.specs.declared.nodes.Node.{Node}
use Rattle.wb_terms.specs.declared.nodes.Node.TheVariants.{Name as Named, Truth, Const, Not, And, Or, Xor, Neg, Add, Sub, Mul, Shl, Lshr, Ashr, Eq, Ult, Ule, Slt, Sle, Concat, Extract, Zext, Sext, Ite, Load, Store}
use Rattle.wb_terms.specs.Graph.{Graph, AllBelow, operands_of, tree}
use Rattle.emitted_modules.specs.Nodes.{wire_name_of, node_at, called_at, leaf_or_wire, operand, bits_of_leaf_or_wire, width_at, has_part, word_or_wire, word_of, word_of_node, expression_of, sort_or_truth, word_wire, word_wires, words_for}
use Rattle.emitted_modules.specs.Rtl.{Wire, wire_item, Stored, writes}
use Rattle.emitted_modules.specs.Stores.{MemoryUpdate, via, or_more, any_of, if_so, ways_from, ways_to, via_expression, via_wire, via_wires, stores_at, stores_of}
use Rattle.v_print.specs.Printable.{IsPrintable, IsPrintableName, IsPrintableItem, IsPrintableStatement, Each}
use Rattle.emitted_texts.specs.Fitting.{IsFitting}
use Rattle.emitted_texts.proofs.Stored.{in_range}
use Rattle.emitted_texts.proofs.Pieces.{each_joined, each_when, each_if, of_both, sized_printed, plain_printed, model_printed, term_name_printed, word_name_printed, via_name_printed, range_printed}

-- a word filled with zeros
filled_printed : (n w : ℕ) (e : Expression) (b : Bool) → nat_lt w n ≡ b → n ≤ 128 → IsPrintable e → IsPrintable (cond b (filled n w e) e)
filled_printed n w e true less few h =
    let low : w < n = grind (arith, nat_tests, less) in
    (tt, (sized_printed (n - w) 0 (omega (arith, low)) (omega (arith, few)) (pow_pos (n - w)), (h, tt)))
filled_printed n w e false less few h = h

-- e | f | ..
or_more_printed : (e : Expression) (es : List Expression) → IsPrintable e → Each IsPrintable es → IsPrintable (or_more e es)
or_more_printed e [] h q = h
or_more_printed e (f ∷ fs) h q = or_more_printed (binary bitwise_or e f) fs (h, q.0) q.1

any_of_printed : (es : List Expression) → Each IsPrintable es → IsPrintable (any_of es)
any_of_printed [] q = sized_printed 1 0 (omega arith) (omega arith) (omega arith)
any_of_printed (e ∷ es) q = or_more_printed e es q.0 q.1

abbrev pub IsWirePrinted : Wire → Type 0
IsWirePrinted w = IsPrintableItem (wire_item w)

abbrev pub IsStorePrinted : Stored → Type 0
IsStorePrinted w = IsPrintableStatement (writes w)

-- an update of a memory that can be printed
pub record IsUpdatePrinted (g : Graph) (u : MemoryUpdate) : Type 0 where
  pub few : u.instruction < 2 ^ 64
  pub decode_printed : IsPrintable u.decode
  pub name_printed : IsPrintableName u.memory_name
  pub bytes : list_all is_word_byte u.memory_name ≡ true
  pub within : u.term < length g.nodes

module _ (g : Graph) (few : length g.nodes < 2 ^ 64) (fit : (k : ℕ) → k < length g.nodes → IsFitting g (node_at g k))
    (inside : (k : ℕ) → k < length g.nodes → AllBelow (length g.nodes) (operands_of (node_at g k))) where
  low_number : (k : ℕ) → k < length g.nodes → k < 2 ^ 64
  low_number k low = omega (arith, low, few)

  wire_printed : (k : ℕ) → k < length g.nodes → IsPrintable (whole_name (wire_name_of k))
  wire_printed k low = (term_name_printed k (low_number k low), tt)

  leaf_printed : (k : ℕ) (n : Node) → k < length g.nodes → IsFitting g n → IsPrintable (leaf_or_wire g.names k n)
  leaf_printed k (Named x) low f = (model_printed (called_at g.names x.0) f, tt)
  leaf_printed k (Truth true) low f = sized_printed 1 1 (omega arith) (omega arith) (omega arith)
  leaf_printed k (Truth false) low f = sized_printed 1 0 (omega arith) (omega arith) (omega arith)
  leaf_printed k (Const w x) low f = sized_printed w x f.0 f.1 f.2
  leaf_printed k _ low f = wire_printed k low

  pub operand_printed : (k : ℕ) → k < length g.nodes → IsPrintable (operand g k)
  operand_printed k low = leaf_printed k (node_at g k) low (fit k low)

  bits_printed : (k : ℕ) (n : Node) (hi lo : ℕ) → k < length g.nodes → lo ≤ hi → hi < 128 → IsFitting g n → IsPrintable (bits_of_leaf_or_wire g.names k n hi lo)
  bits_printed k (Named x) hi lo low order within f =
      (model_printed (called_at g.names x.0) f, (plain_printed hi (omega (arith, within)), plain_printed lo (omega (arith, order, within))))
  bits_printed k (Const w x) hi lo low order within f =
      sized_printed (hi + 1 - lo) (word_extract hi lo x) (omega (arith, order)) (omega (arith, within)) (mod_below (x / 2 ^ lo) (2 ^ (hi + 1 - lo)) (pow_pos (hi + 1 - lo)))
  bits_printed k _ hi lo low order within f =
      (term_name_printed k (low_number k low), (plain_printed hi (omega (arith, within)), plain_printed lo (omega (arith, order, within))))

  abbrev Below : Node → Type 0
  Below n = AllBelow (length g.nodes) (operands_of n)

  -- operands that can be printed
  op : (k : ℕ) → k < length g.nodes → IsPrintable (operand g k)
  op k low = operand_printed k low

  -- ---- words of memories

  word_by : (l k : ℕ) (e : Expression) (n : Node) → l < length g.nodes → k < length g.nodes → IsPrintable e → IsFitting g n → IsPrintable (word_or_wire g.names l e k n)
  word_by l k e (Named x) there low p f = (model_printed (called_at g.names x.0) f, p)
  word_by l k e _ there low p f = (word_name_printed l k (low_number l there) (low_number k low), tt)

  word_printed : (l k : ℕ) (e : Expression) → l < length g.nodes → k < length g.nodes → IsPrintable e → IsPrintable (word_of g l e k)
  word_printed l k e there low p = word_by l k e (node_at g k) there low p (fit k low)

  word_node_printed : (l : ℕ) (e : Expression) (n : Node) → l < length g.nodes → IsPrintable e → Below n → IsPrintable (word_of_node g l e n)
  word_node_printed l e (Store m i x) there p b = ((p, op i.0 b.1.0), op x.0 b.1.1.0, word_printed l m.0 e there b.0 p)
  word_node_printed l e (Ite c x y) there p b = (op c.0 b.0, word_printed l x.0 e there b.1.0 p, word_printed l y.0 e there b.1.1.0 p)
  word_node_printed l e _ there p b = sized_printed 1 0 (omega arith) (omega arith) (omega arith)

  -- ---- terms

  pub expression_printed : (k : ℕ) (n : Node) → k < length g.nodes → Below n → IsFitting g n → IsPrintable (expression_of g k n)
  expression_printed k (Named x) low b f = leaf_printed k (Named x) low f
  expression_printed k (Truth x) low b f = leaf_printed k (Truth x) low f
  expression_printed k (Const w x) low b f = leaf_printed k (Const w x) low f
  expression_printed k (Not x) low b f = op x.0 b.0
  expression_printed k (And x y) low b f = (op x.0 b.0, op y.0 b.1.0)
  expression_printed k (Or x y) low b f = (op x.0 b.0, op y.0 b.1.0)
  expression_printed k (Xor x y) low b f = (op x.0 b.0, op y.0 b.1.0)
  expression_printed k (Neg x) low b f = op x.0 b.0
  expression_printed k (Add x y) low b f = (op x.0 b.0, op y.0 b.1.0)
  expression_printed k (Sub x y) low b f = (op x.0 b.0, op y.0 b.1.0)
  expression_printed k (Mul x y) low b f = (op x.0 b.0, op y.0 b.1.0)
  expression_printed k (Shl x y) low b f = (op x.0 b.0, op y.0 b.1.0)
  expression_printed k (Lshr x y) low b f = (op x.0 b.0, op y.0 b.1.0)
  expression_printed k (Ashr x y) low b f = (op x.0 b.0, op y.0 b.1.0)
  expression_printed k (Eq x y) low b f = (op x.0 b.0, op y.0 b.1.0)
  expression_printed k (Ult x y) low b f = (op x.0 b.0, op y.0 b.1.0)
  expression_printed k (Ule x y) low b f = (op x.0 b.0, op y.0 b.1.0)
  expression_printed k (Slt x y) low b f = (op x.0 b.0, op y.0 b.1.0)
  expression_printed k (Sle x y) low b f = (op x.0 b.0, op y.0 b.1.0)
  expression_printed k (Concat x y) low b f = (tt, (op x.0 b.0, (op y.0 b.1.0, tt)))
  expression_printed k (Extract h l x) low b f = bits_printed x.0 (node_at g x.0) h l b.0 f.0 f.1 (fit x.0 b.0)
  expression_printed k (Zext n x) low b f = filled_printed n (width_at g x.0) (operand g x.0) (nat_lt (width_at g x.0) n) refl f (op x.0 b.0)
  expression_printed k (Sext n x) low b f = op x.0 b.0
  expression_printed k (Ite c x y) low b f = (op c.0 b.0, op x.0 b.1.0, op y.0 b.1.1.0)
  expression_printed k (Load m i) low b f = word_printed k m.0 (operand g i.0) low b.0 (op i.0 b.1.0)
  expression_printed k (Store m i x) low b f = wire_printed k low

  -- ---- wires for words of memories

  word_wire_printed : (l k : ℕ) (e : Expression) → l < length g.nodes → k < length g.nodes → IsPrintable e → IsWirePrinted (word_wire g l e k)
  word_wire_printed l k e there low p = (
    range_printed (sort_or_truth (sort_of (tree g l))) (in_range (tree g l)),
    ((word_name_printed l k (low_number l there) (low_number k low), word_node_printed l e (node_at g k) there p (inside k low)), tt),
  )

  word_wires_printed : (l : ℕ) (e : Expression) (m n : ℕ) → l < length g.nodes → n ≤ length g.nodes → IsPrintable e → Each IsWirePrinted (word_wires g l e m n)
  word_wires_printed l e m zero there within p = tt
  word_wires_printed l e m (suc k) there within p =
      each_joined IsWirePrinted (word_wires g l e m k) (cond (has_part g m k) (word_wire g l e k ∷ []) [])
      (word_wires_printed l e m k there (omega (arith, within)) p)
      (each_if IsWirePrinted (has_part g m k) (word_wire g l e k) (word_wire_printed l k e there (omega (arith, within)) p))

  pub words_printed : (k : ℕ) (n : Node) → k < length g.nodes → Below n → Each IsWirePrinted (words_for g k n)
  words_printed k (Load m i) low b = word_wires_printed k (operand g i.0) m.0 k low (omega (arith, low)) (op i.0 b.1.0)
  words_printed k _ low b = tt

  -- ---- ways to stores

  module _ (u : MemoryUpdate) (h : IsUpdatePrinted g u) where
    via_printed : (k : ℕ) → k < length g.nodes → IsPrintable (via u k)
    via_printed k low = (via_name_printed u.instruction k u.memory_name h.few (low_number k low) h.bytes, tt)

    from_printed : (p k : ℕ) (n : Node) → p < length g.nodes → Below n → Each IsPrintable (ways_from g u p k n)
    from_printed p k (Store m i x) low b = each_if IsPrintable (m.0 == k) (via u p) (via_printed p low)
    from_printed p k (Ite c x y) low b =
        each_joined IsPrintable (if_so (x.0 == k) (binary bitwise_and (via u p) (operand g c.0)))
        (if_so (y.0 == k) (binary bitwise_and (via u p) (unary complement (operand g c.0))))
        (each_if IsPrintable (x.0 == k) (binary bitwise_and (via u p) (operand g c.0)) (via_printed p low, op c.0 b.0))
        (each_if IsPrintable (y.0 == k) (binary bitwise_and (via u p) (unary complement (operand g c.0))) (via_printed p low, op c.0 b.0))
    from_printed p k _ low b = tt

    to_printed : (n k : ℕ) → n ≤ length g.nodes → Each IsPrintable (ways_to g u n k)
    to_printed zero k within = tt
    to_printed (suc p) k within =
        let low : p < length g.nodes = omega (arith, within) in
        each_joined IsPrintable (cond (has_part g u.term p) (ways_from g u p k (node_at g p)) []) (ways_to g u p k)
        (each_when IsPrintable (has_part g u.term p) (ways_from g u p k (node_at g p)) (from_printed p k (node_at g p) low (inside p low)))
        (to_printed p k (omega (arith, within)))

    way_printed : (k : ℕ) → IsPrintable (via_expression g u k)
    way_printed k =
        of_both IsPrintable (k == u.term) u.decode (any_of (ways_to g u (suc u.term) k)) h.decode_printed
        (any_of_printed (ways_to g u (suc u.term) k) (to_printed (suc u.term) k (omega (arith, h.within))))

    pub vias_printed : (n : ℕ) → n ≤ length g.nodes → Each IsWirePrinted (via_wires g u n)
    vias_printed zero within = tt
    vias_printed (suc k) within =
        each_joined IsWirePrinted (cond (has_part g u.term k) (via_wire g u k ∷ []) []) (via_wires g u k)
        (each_if IsWirePrinted (has_part g u.term k) (via_wire g u k)
        (tt, ((via_name_printed u.instruction k u.memory_name h.few (low_number k (omega (arith, within))) h.bytes, way_printed k), tt)))
        (vias_printed k (omega (arith, within)))

    at_printed : (k : ℕ) (n : Node) → k < length g.nodes → Below n → Each IsStorePrinted (stores_at g u k n)
    at_printed k (Store m i x) low b = ((via_printed k low, ((h.name_printed, op i.0 b.1.0), op x.0 b.1.1.0)), tt)
    at_printed k _ low b = tt

    pub stores_printed : (n : ℕ) → n ≤ length g.nodes → Each IsStorePrinted (stores_of g u n)
    stores_printed zero within = tt
    stores_printed (suc k) within =
        let low : k < length g.nodes = omega (arith, within) in
        each_joined IsStorePrinted (stores_of g u k) (cond (has_part g u.term k) (stores_at g u k (node_at g k)) [])
        (stores_printed k (omega (arith, within)))
        (each_when IsStorePrinted (has_part g u.term k) (stores_at g u k (node_at g k)) (at_printed k (node_at g k) low (inside k low)))
