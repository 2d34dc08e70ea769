-- The expressions of an emitted module nest no deeper than 8.
use Rattle.std.proofs.Common.{◌≡◌, ℕ, zero, suc, ◌-◌, ◌≤◌, max, Bool, true, false, cond, ◌&&◌, ◌==◌, List, [], ◌∷◌, ◌++◌, length, refl, ap, arith}
use Rattle.std.specs.Prelude.{nat_lt, nat_le}
use Rattle.wb_values.specs.Value.{Name, Entries}
use Rattle.verilog_trees.specs.Syntax.{Expression, unary, UnaryOperator, complement, minus, binary, BinaryOperator, add, subtract, multiply, bitwise_and, bitwise_or, bitwise_xor, shift, ShiftOperator, left, right, arithmetic_right, comparison, ComparisonOperator, less, less_or_equal, equal, conditional, as_signed}
use Rattle.verilog_meaning.specs.Settled.{whole_name}
use Rattle.term_expressions.specs.Expressions.{sized, arithmetic_shift, signed_comparison, pair_of, word_at, filled}
use Rattle.wb_terms.specs.declared.nodes.Node.{Node}
use Rattle.wb_terms.specs.declared.nodes.Node.TheVariants.{Name as Named, Truth, Const, Not, And, Or, Xor, Neg, Add, Sub, Mul, Shl, Lshr, Ashr, Eq, Ult, Ule, Slt, Sle, Concat, Extract, Zext, Sext, Ite, Load, Store}
use Rattle.wb_terms.specs.Graph.{Graph}
use Rattle.ila_model.specs.declared.parts.Update.{Update}
use Rattle.ila_model.specs.declared.parts.Instruction.{Instruction}
use Rattle.ila_model.specs.declared.parts.Parts.{Parts}
use Rattle.emitted_designs.specs.Names.{go_name}
use Rattle.emitted_modules.specs.Nodes.{node_at, called_at, leaf_or_wire, operand, bits_of_leaf_or_wire, width_at, has_part, word_or_wire, word_of, word_of_node, expression_of, has_wire, wire_for, word_wire, word_wires, words_for, node_wires}
use Rattle.emitted_modules.specs.Rtl.{Wire}
use Rattle.emitted_modules.specs.Stores.{MemoryUpdate, via, or_more, any_of, if_so, ways_from, ways_to, via_expression, via_wire, via_wires, stores_at, stores_of}
use Rattle.emitted_modules.specs.Module.{none_name, one_name, none_wire, one_wire, decode_wires, decodes_of, update_for, is_of_memory, updates_for, memory_update, memory_updates, all_stores, all_ways, memories_for, guarded_from, memories_from, ready_of, rtl_of}
use Rattle.v_print.specs.Spelled.{level_of, binary_level, comparison_level}
use Rattle.v_print.specs.Depth.{bracketed_depth, depth_of}
use Rattle.v_print.specs.Printable.{Each}
use Rattle.emitted_texts.proofs.Pieces.{each_joined, each_when, each_if, of_both}
use Rattle.emitted_texts.proofs.Shallow.{IsFlat, IsFlatStore, IsFlatGuarded, IsFlatRtl}

-- ---- forms of expressions

bracketed_within : (b : Bool) (d m : ℕ) → d ≤ m → bracketed_depth b d ≤ suc m
bracketed_within true d m h = omega (arith, h)
bracketed_within false d m h = omega (arith, h)

deeper : (d m : ℕ) → d ≤ m → suc d ≤ suc m
deeper d m h = omega (arith, h)

both_within : (a b m : ℕ) → a ≤ m → b ≤ m → max a b ≤ m
both_within a b m h k = omega (arith, h, k)

unary_within : (o : UnaryOperator) (x : Expression) (m : ℕ) → depth_of x ≤ m → depth_of (unary o x) ≤ suc m
unary_within o x m h = bracketed_within (nat_lt (level_of x) 12) (depth_of x) m h

joint_within : (b c : Bool) (d e m : ℕ) → d ≤ m → e ≤ m → max (bracketed_depth b d) (bracketed_depth c e) ≤ suc m
joint_within b c d e m h k = both_within (bracketed_depth b d) (bracketed_depth c e) (suc m) (bracketed_within b d m h) (bracketed_within c e m k)

binary_within : (o : BinaryOperator) (x y : Expression) (m : ℕ) → depth_of x ≤ m → depth_of y ≤ m → depth_of (binary o x y) ≤ suc m
binary_within o x y m h k = joint_within (nat_lt (level_of x) (binary_level o)) (nat_le (level_of y) (binary_level o)) (depth_of x) (depth_of y) m h k

shift_within : (o : ShiftOperator) (x y : Expression) (m : ℕ) → depth_of x ≤ m → depth_of y ≤ m → depth_of (shift o x y) ≤ suc m
shift_within o x y m h k = joint_within (nat_lt (level_of x) 8) (nat_le (level_of y) 8) (depth_of x) (depth_of y) m h k

comparison_within : (o : ComparisonOperator) (x y : Expression) (m : ℕ) → depth_of x ≤ m → depth_of y ≤ m → depth_of (comparison o x y) ≤ suc m
comparison_within o x y m h k =
    joint_within (nat_lt (level_of x) (comparison_level o)) (nat_le (level_of y) (comparison_level o)) (depth_of x) (depth_of y) m h k

conditional_within : (c x y : Expression) (m : ℕ) → depth_of c ≤ m → depth_of x ≤ m → depth_of y ≤ m → depth_of (conditional c x y) ≤ suc m
conditional_within c x y m h k l =
    both_within (bracketed_depth (nat_lt (level_of c) 1) (depth_of c)) (max (suc (depth_of x)) (depth_of y)) (suc m)
    (bracketed_within (nat_lt (level_of c) 1) (depth_of c) m h) (later (depth_of x) (depth_of y) k l)
  where
    later : (a b : ℕ) → a ≤ m → b ≤ m → max (suc a) b ≤ suc m
    later a b g f = omega (arith, g, f)

signed_within : (x : Expression) (m : ℕ) → depth_of x ≤ m → depth_of (as_signed x) ≤ suc m
signed_within x m h = deeper (depth_of x) m h

pair_within : (x y : Expression) (m : ℕ) → depth_of x ≤ m → depth_of y ≤ m → depth_of (pair_of x y) ≤ suc m
pair_within x y m h k = by (depth_of x) (depth_of y) h k
  where
    by : (a b : ℕ) → a ≤ m → b ≤ m → suc (max a (max b 0)) ≤ suc m
    by a b g f = omega (arith, g, f)

word_within : (n : Name) (e : Expression) (m : ℕ) → depth_of e ≤ m → depth_of (word_at n e) ≤ suc m
word_within n e m h = deeper (depth_of e) m h

-- so few levels
zero_8 : 0 ≤ 8
zero_8 = omega arith

one_8 : 1 ≤ 8
one_8 = omega arith

zero_of : (m : ℕ) → 0 ≤ m
zero_of m = omega arith

at_8 : (d m : ℕ) → m ≤ 8 → d ≤ m → d ≤ 8
at_8 d m l h = omega (arith, l, h)

none_8 : (d : ℕ) → d ≤ 0 → d ≤ 8
none_8 d h = omega (arith, h)

more_8 : (d m n : ℕ) → m ≤ n → d ≤ m → d ≤ n
more_8 d m n l h = omega (arith, l, h)

-- ---- a chain of |

-- what binds tighter than |, and nests nothing
pub record IsLink (e : Expression) : Type 0 where
  pub flat : depth_of e ≡ 0
  pub as_first : nat_lt (level_of e) 3 ≡ false
  pub as_next : nat_le (level_of e) 3 ≡ false

-- what nests nothing, and stands in front of | without brackets
chain_within : (b c : Bool) (d e : ℕ) → b ≡ false → c ≡ false → d ≡ 0 → e ≡ 0 → max (bracketed_depth b d) (bracketed_depth c e) ≡ 0
chain_within true c d e h k f g = cc
chain_within false true d e h k f g = cc
chain_within false false d e h k f g = omega (arith, f, g)

or_more_flat : (e : Expression) (fs : List Expression) → depth_of e ≡ 0 → nat_lt (level_of e) 3 ≡ false → Each IsLink fs → depth_of (or_more e fs) ≡ 0
or_more_flat e [] h k l = h
or_more_flat e (f ∷ fs) h k l =
    or_more_flat (binary bitwise_or e f) fs
    (chain_within (nat_lt (level_of e) 3) (nat_le (level_of f) 3) (depth_of e) (depth_of f) k l.0.as_next h l.0.flat) refl l.1

any_of_flat : (es : List Expression) → Each IsLink es → IsFlat (any_of es)
any_of_flat [] h = zero_8
any_of_flat (e ∷ es) h = by (depth_of (or_more e es)) (or_more_flat e es h.0.flat h.0.as_first h.1)
  where
    by : (d : ℕ) → d ≡ 0 → d ≤ 8
    by d f = omega (arith, f)

-- ---- operands

-- a name or a number
pub record IsAtom (e : Expression) : Type 0 where
  pub flat : depth_of e ≡ 0
  pub level : level_of e ≡ 13

name_atom : (n : Name) → IsAtom (whole_name n)
name_atom n = record { flat = refl; level = refl }

sized_atom : (w x : ℕ) → IsAtom (sized w x)
sized_atom w x = record { flat = refl; level = refl }

abbrev IsFlatWire : Wire → Type 0
IsFlatWire w = IsFlat w.expression

module _ (g : Graph) where
  leaf_atom : (k : ℕ) (n : Node) → IsAtom (leaf_or_wire g.names k n)
  leaf_atom k (Named x) = record { flat = refl; level = refl }
  leaf_atom k (Truth x) = record { flat = refl; level = refl }
  leaf_atom k (Const w x) = record { flat = refl; level = refl }
  leaf_atom k _ = record { flat = refl; level = refl }

  operand_atom : (k : ℕ) → IsAtom (operand g k)
  operand_atom k = leaf_atom k (node_at g k)

  op : (k : ℕ) → depth_of (operand g k) ≤ 0
  op k = by (depth_of (operand g k)) (operand_atom k).flat
    where
      by : (d : ℕ) → d ≡ 0 → d ≤ 0
      by d f = omega (arith, f)

  operand_flat : (k : ℕ) → IsFlat (operand g k)
  operand_flat k = none_8 (depth_of (operand g k)) (op k)

  leaf_flat : (k : ℕ) (n : Node) → IsFlat (leaf_or_wire g.names k n)
  leaf_flat k n = by (depth_of (leaf_or_wire g.names k n)) (leaf_atom k n).flat
    where
      by : (d : ℕ) → d ≡ 0 → d ≤ 8
      by d f = omega (arith, f)

  bits_flat : (k h l : ℕ) (n : Node) → IsFlat (bits_of_leaf_or_wire g.names k n h l)
  bits_flat k h l (Named x) = one_8
  bits_flat k h l (Const w x) = zero_8
  bits_flat k h l _ = one_8

  filled_flat : (n w : ℕ) (b : Bool) (e : Expression) → depth_of e ≤ 0 → IsFlat (cond b (filled n w e) e)
  filled_flat n w true e h = at_8 (depth_of (filled n w e)) 1 (omega arith) (pair_within (sized (n - w) 0) e 0 (zero_of 0) h)
  filled_flat n w false e h = none_8 (depth_of e) h

  -- ---- words of memories

  word_by : (l k : ℕ) (e : Expression) (n : Node) → depth_of e ≤ 0 → depth_of (word_or_wire g.names l e k n) ≤ 1
  word_by l k e (Named x) h = word_within (called_at g.names x.0) e 0 h
  word_by l k e _ h = zero_of 1

  word_of_flat : (l k : ℕ) (e : Expression) → depth_of e ≤ 0 → depth_of (word_of g l e k) ≤ 1
  word_of_flat l k e h = word_by l k e (node_at g k) h

  word_node_flat : (l : ℕ) (e : Expression) (n : Node) → depth_of e ≤ 0 → IsFlat (word_of_node g l e n)
  word_node_flat l e (Store m i x) h =
      at_8 (depth_of (word_of_node g l e (Store m i x))) 2 (omega arith)
      (conditional_within (comparison equal e (operand g i.0)) (operand g x.0) (word_of g l e m.0) 1
      (comparison_within equal e (operand g i.0) 0 h (op i.0)) (more_8 (depth_of (operand g x.0)) 0 1 (omega arith) (op x.0)) (word_of_flat l m.0 e h))
  word_node_flat l e (Ite c x y) h =
      at_8 (depth_of (word_of_node g l e (Ite c x y))) 2 (omega arith)
      (conditional_within (operand g c.0) (word_of g l e x.0) (word_of g l e y.0) 1 (more_8 (depth_of (operand g c.0)) 0 1 (omega arith) (op c.0))
      (word_of_flat l x.0 e h) (word_of_flat l y.0 e h))
  word_node_flat l e _ h = zero_8

  -- ---- terms

  joined_8 : (o : BinaryOperator) (x y : ℕ) → IsFlat (binary o (operand g x) (operand g y))
  joined_8 o x y = at_8 (depth_of (binary o (operand g x) (operand g y))) 1 (omega arith) (binary_within o (operand g x) (operand g y) 0 (op x) (op y))

  shifted_8 : (o : ShiftOperator) (x y : ℕ) → IsFlat (shift o (operand g x) (operand g y))
  shifted_8 o x y = at_8 (depth_of (shift o (operand g x) (operand g y))) 1 (omega arith) (shift_within o (operand g x) (operand g y) 0 (op x) (op y))

  compared_8 : (o : ComparisonOperator) (x y : ℕ) → IsFlat (comparison o (operand g x) (operand g y))
  compared_8 o x y =
      at_8 (depth_of (comparison o (operand g x) (operand g y))) 1 (omega arith) (comparison_within o (operand g x) (operand g y) 0 (op x) (op y))

  signed_8 : (o : ComparisonOperator) (x y : ℕ) → IsFlat (signed_comparison o (operand g x) (operand g y))
  signed_8 o x y =
      at_8 (depth_of (signed_comparison o (operand g x) (operand g y))) 2 (omega arith)
      (comparison_within o (as_signed (operand g x)) (as_signed (operand g y)) 1 (signed_within (operand g x) 0 (op x)) (signed_within (operand g y) 0 (op y)))

  prefixed_8 : (o : UnaryOperator) (x : ℕ) → IsFlat (unary o (operand g x))
  prefixed_8 o x = at_8 (depth_of (unary o (operand g x))) 1 (omega arith) (unary_within o (operand g x) 0 (op x))

  arithmetic_8 : (x y : ℕ) → IsFlat (arithmetic_shift (operand g x) (operand g y))
  arithmetic_8 x y =
      by (depth_of (shift arithmetic_right (as_signed (operand g x)) (operand g y)))
      (shift_within arithmetic_right (as_signed (operand g x)) (operand g y) 1 (signed_within (operand g x) 0 (op x)) (more_8 (depth_of (operand g y)) 0 1 (omega arith) (op y)))
    where
      by : (d : ℕ) → d ≤ 2 → suc d ≤ 8
      by d h = omega (arith, h)

  expression_flat : (k : ℕ) (n : Node) → IsFlat (expression_of g k n)
  expression_flat k (Named x) = leaf_flat k (Named x)
  expression_flat k (Truth x) = leaf_flat k (Truth x)
  expression_flat k (Const w x) = leaf_flat k (Const w x)
  expression_flat k (Not x) = prefixed_8 complement x.0
  expression_flat k (And x y) = joined_8 bitwise_and x.0 y.0
  expression_flat k (Or x y) = joined_8 bitwise_or x.0 y.0
  expression_flat k (Xor x y) = joined_8 bitwise_xor x.0 y.0
  expression_flat k (Neg x) = prefixed_8 minus x.0
  expression_flat k (Add x y) = joined_8 add x.0 y.0
  expression_flat k (Sub x y) = joined_8 subtract x.0 y.0
  expression_flat k (Mul x y) = joined_8 multiply x.0 y.0
  expression_flat k (Shl x y) = shifted_8 left x.0 y.0
  expression_flat k (Lshr x y) = shifted_8 right x.0 y.0
  expression_flat k (Ashr x y) = arithmetic_8 x.0 y.0
  expression_flat k (Eq x y) = compared_8 equal x.0 y.0
  expression_flat k (Ult x y) = compared_8 less x.0 y.0
  expression_flat k (Ule x y) = compared_8 less_or_equal x.0 y.0
  expression_flat k (Slt x y) = signed_8 less x.0 y.0
  expression_flat k (Sle x y) = signed_8 less_or_equal x.0 y.0
  expression_flat k (Concat x y) =
      at_8 (depth_of (pair_of (operand g x.0) (operand g y.0))) 1 (omega arith) (pair_within (operand g x.0) (operand g y.0) 0 (op x.0) (op y.0))
  expression_flat k (Extract h l x) = bits_flat x.0 h l (node_at g x.0)
  expression_flat k (Zext n x) = filled_flat n (width_at g x.0) (nat_lt (width_at g x.0) n) (operand g x.0) (op x.0)
  expression_flat k (Sext n x) = at_8 (depth_of (as_signed (operand g x.0))) 1 (omega arith) (signed_within (operand g x.0) 0 (op x.0))
  expression_flat k (Ite c x y) =
      at_8 (depth_of (conditional (operand g c.0) (operand g x.0) (operand g y.0))) 1 (omega arith)
      (conditional_within (operand g c.0) (operand g x.0) (operand g y.0) 0 (op c.0) (op x.0) (op y.0))
  expression_flat k (Load m i) = at_8 (depth_of (word_of g k (operand g i.0) m.0)) 1 (omega arith) (word_of_flat k m.0 (operand g i.0) (op i.0))
  expression_flat k (Store m i x) = leaf_flat k (Store m i x)

  -- ---- wires

  word_wires_flat : (l : ℕ) (e : Expression) (m n : ℕ) → depth_of e ≤ 0 → Each IsFlatWire (word_wires g l e m n)
  word_wires_flat l e m zero h = tt
  word_wires_flat l e m (suc k) h =
      each_joined IsFlatWire (word_wires g l e m k) (cond (has_part g m k) (word_wire g l e k ∷ []) []) (word_wires_flat l e m k h)
      (each_if IsFlatWire (has_part g m k) (word_wire g l e k) (word_node_flat l e (node_at g k) h))

  words_flat : (k : ℕ) (n : Node) → Each IsFlatWire (words_for g k n)
  words_flat k (Load m i) = word_wires_flat k (operand g i.0) m.0 k (op i.0)
  words_flat k _ = tt

  nodes_flat : (keep : ℕ → Bool) (k : ℕ) (ns : List Node) → Each IsFlatWire (node_wires g keep k ns)
  nodes_flat keep k [] = tt
  nodes_flat keep k (n ∷ ns) =
      each_joined IsFlatWire (cond (keep k && has_wire g k n) (words_for g k n ++ wire_for g k n ∷ []) []) (node_wires g keep (suc k) ns)
      (each_when IsFlatWire (keep k && has_wire g k n) (words_for g k n ++ wire_for g k n ∷ [])
      (each_joined IsFlatWire (words_for g k n) (wire_for g k n ∷ []) (words_flat k n) (expression_flat k n, tt)))
      (nodes_flat keep (suc k) ns)

  decodes_flat : (is : List Instruction) → Each IsFlatWire (decode_wires (decodes_of g is))
  decodes_flat [] = (zero_8, (zero_8, tt))
  decodes_flat (i ∷ is) =
      let d = operand g i.decode.0 in
      let count = length (decodes_of g is) in
      each_joined IsFlatWire (decode_wires (decodes_of g is)) (none_wire d count ∷ one_wire d count ∷ []) (decodes_flat is) (
        at_8 (depth_of (binary bitwise_and (unary complement d) (whole_name (none_name count)))) 2 (omega arith)
            (binary_within bitwise_and (unary complement d) (whole_name (none_name count)) 1 (unary_within complement d 0 (op i.decode.0)) (zero_of 1)),
        (
          at_8 (depth_of (conditional d (whole_name (none_name count)) (whole_name (one_name count)))) 1 (omega arith)
              (conditional_within d (whole_name (none_name count)) (whole_name (one_name count)) 0 (op i.decode.0) (zero_of 0) (zero_of 0)),
          tt,
        ),
      )

  -- ---- ways to stores

  atom_link : (e : Expression) → IsAtom e → IsLink e
  atom_link e a = record {
    flat = a.flat;
    as_first = ap (λ k. nat_lt k 3) a.level;
    as_next = ap (λ k. nat_le k 3) a.level;
  }

  -- a & b, of two atoms
  and_link : (x y : Expression) → IsAtom x → IsAtom y → IsLink (binary bitwise_and x y)
  and_link x y a b = record {
    flat =
        chain_within (nat_lt (level_of x) 5) (nat_le (level_of y) 5) (depth_of x) (depth_of y) (ap (λ k. nat_lt k 5) a.level) (ap (λ k. nat_le k 5) b.level)
        a.flat b.flat;
    as_first = refl;
    as_next = refl;
  }

  not_flat : (x : Expression) → IsAtom x → depth_of (unary complement x) ≡ 0
  not_flat x a = by (nat_lt (level_of x) 12) (depth_of x) (ap (λ k. nat_lt k 12) a.level) a.flat
    where
      by : (b : Bool) (d : ℕ) → b ≡ false → d ≡ 0 → bracketed_depth b d ≡ 0
      by true d h f = cc
      by false d h f = f

  -- a & ~b
  and_not_link : (x y : Expression) → IsAtom x → IsAtom y → IsLink (binary bitwise_and x (unary complement y))
  and_not_link x y a b = record {
    flat = chain_within (nat_lt (level_of x) 5) false (depth_of x) (depth_of (unary complement y)) (ap (λ k. nat_lt k 5) a.level) refl a.flat (not_flat y b);
    as_first = refl;
    as_next = refl;
  }

  module _ (u : MemoryUpdate) (d : IsFlat u.decode) where
    via_atom : (k : ℕ) → IsAtom (via u k)
    via_atom k = record { flat = refl; level = refl }

    from_linked : (p k : ℕ) (n : Node) → Each IsLink (ways_from g u p k n)
    from_linked p k (Store m i x) = each_if IsLink (m.0 == k) (via u p) (atom_link (via u p) (via_atom p))
    from_linked p k (Ite c x y) =
        each_joined IsLink (if_so (x.0 == k) (binary bitwise_and (via u p) (operand g c.0)))
        (if_so (y.0 == k) (binary bitwise_and (via u p) (unary complement (operand g c.0))))
        (each_if IsLink (x.0 == k) (binary bitwise_and (via u p) (operand g c.0)) (and_link (via u p) (operand g c.0) (via_atom p) (operand_atom c.0)))
        (each_if IsLink (y.0 == k) (binary bitwise_and (via u p) (unary complement (operand g c.0)))
        (and_not_link (via u p) (operand g c.0) (via_atom p) (operand_atom c.0)))
    from_linked p k _ = tt

    to_linked : (n k : ℕ) → Each IsLink (ways_to g u n k)
    to_linked zero k = tt
    to_linked (suc p) k =
        each_joined IsLink (cond (has_part g u.term p) (ways_from g u p k (node_at g p)) []) (ways_to g u p k)
        (each_when IsLink (has_part g u.term p) (ways_from g u p k (node_at g p)) (from_linked p k (node_at g p))) (to_linked p k)

    way_flat : (k : ℕ) → IsFlat (via_expression g u k)
    way_flat k =
        of_both IsFlat (k == u.term) u.decode (any_of (ways_to g u (suc u.term) k)) d
        (any_of_flat (ways_to g u (suc u.term) k) (to_linked (suc u.term) k))

    vias_flat : (n : ℕ) → Each IsFlatWire (via_wires g u n)
    vias_flat zero = tt
    vias_flat (suc k) =
        each_joined IsFlatWire (cond (has_part g u.term k) (via_wire g u k ∷ []) []) (via_wires g u k)
        (each_if IsFlatWire (has_part g u.term k) (via_wire g u k) (way_flat k)) (vias_flat k)

    at_flat : (k : ℕ) (n : Node) → Each IsFlatStore (stores_at g u k n)
    at_flat k (Store m i x) = (record { condition = zero_8; address = operand_flat i.0; value = operand_flat x.0 }, tt)
    at_flat k _ = tt

    stores_flat : (n : ℕ) → Each IsFlatStore (stores_of g u n)
    stores_flat zero = tt
    stores_flat (suc k) =
        each_joined IsFlatStore (stores_of g u k) (cond (has_part g u.term k) (stores_at g u k (node_at g k)) []) (stores_flat k)
        (each_when IsFlatStore (has_part g u.term k) (stores_at g u k (node_at g k)) (at_flat k (node_at g k)))

  -- ---- instructions

  abbrev IsFlatUpdate : MemoryUpdate → Type 0
  IsFlatUpdate u = IsFlat u.decode

  memory_flat : (j k : ℕ) (us : List Update) → Each IsFlatUpdate (memory_updates g j (operand g k) us)
  memory_flat j k [] = tt
  memory_flat j k (u ∷ us) =
      each_joined IsFlatUpdate (cond (is_of_memory g u) (memory_update g j (operand g k) u ∷ []) []) (memory_updates g j (operand g k) us)
      (each_if IsFlatUpdate (is_of_memory g u) (memory_update g j (operand g k) u) (operand_flat k)) (memory_flat j k us)

  memories_flat : (j : ℕ) (is : List Instruction) → Each IsFlatUpdate (memories_from g j is)
  memories_flat j [] = tt
  memories_flat j (i ∷ is) =
      each_joined IsFlatUpdate (memories_for g j i) (memories_from g (suc j) is) (memory_flat j i.decode.0 i.updates.items) (memories_flat (suc j) is)

  ways_flat : (us : List MemoryUpdate) → Each IsFlatUpdate us → Each IsFlatWire (all_ways g us)
  ways_flat [] h = tt
  ways_flat (u ∷ us) h = each_joined IsFlatWire (via_wires g u (suc u.term)) (all_ways g us) (vias_flat u h.0 (suc u.term)) (ways_flat us h.1)

  all_stores_flat : (us : List MemoryUpdate) → Each IsFlatUpdate us → Each IsFlatStore (all_stores g us)
  all_stores_flat [] h = tt
  all_stores_flat (u ∷ us) h = each_joined IsFlatStore (stores_of g u (suc u.term)) (all_stores g us) (stores_flat u h.0 (suc u.term)) (all_stores_flat us h.1)

  updates_flat : (us : List Update) → Each (λ u. IsFlat u.1) (updates_for g us)
  updates_flat [] = tt
  updates_flat (u ∷ us) =
      of_both (λ (vs : Entries Expression). Each (λ v. IsFlat v.1) vs) (is_of_memory g u) (updates_for g us) (update_for g u ∷ updates_for g us) (updates_flat us)
      (operand_flat u.term.0, updates_flat us)

  guarded_flat : (j : ℕ) (is : List Instruction) → Each IsFlatGuarded (guarded_from g j is)
  guarded_flat j [] = tt
  guarded_flat j (i ∷ is) = (
    record {
      guard = operand_flat i.decode.0;
      updates = updates_flat i.updates.items;
      stores = all_stores_flat (memories_for g j i) (memory_flat j i.decode.0 i.updates.items);
    },
    guarded_flat (suc j) is,
  )

-- ---- the module

ready_flat : (p : Parts) → IsFlat (ready_of p)
ready_flat p =
    let valid = operand p.terms p.valid.0 in
    let one = whole_name (one_name (length p.instructions.items)) in
    at_8 (depth_of (ready_of p)) 2 (omega arith)
    (binary_within bitwise_and (whole_name go_name) (binary bitwise_and valid one) 1 (zero_of 1) (binary_within bitwise_and valid one 0 (op p.terms p.valid.0) (zero_of 0)))

pub module_flat : (name : Name) (p : Parts) (keep : ℕ → Bool) → IsFlatRtl (rtl_of name p keep)
module_flat name p keep =
    let is = p.instructions.items in
    record {
      wires_flat =
          each_joined IsFlatWire (node_wires p.terms keep 0 p.terms.nodes) (decode_wires (decodes_of p.terms is) ++ all_ways p.terms (memories_from p.terms 0 is))
          (nodes_flat p.terms keep 0 p.terms.nodes)
          (each_joined IsFlatWire (decode_wires (decodes_of p.terms is)) (all_ways p.terms (memories_from p.terms 0 is)) (decodes_flat p.terms is)
          (ways_flat p.terms (memories_from p.terms 0 is) (memories_flat p.terms 0 is)));
      ready_flat = ready_flat p;
      guarded_flat = guarded_flat p.terms 0 is;
    }
