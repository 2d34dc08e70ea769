use Rattle.std.proofs.Common.{◌∙◌, sym, subst}
use Rattle.std.specs.Prelude.{IsSome, nat_eq}
use Rattle.std.specs.HashMap.{get}
use Rattle.model_meaning.specs.Term.{sort_of}
use Rattle.wb_terms.specs.declared.nodes.Node.{Node}
use Rattle.wb_terms.specs.Graph.{tree, tree_of_node, operands_of, names_of}
use Rattle.sat_gates.specs.Layout.{variables_of}
use Rattle.sat_gates.specs.Blasting.{AreBitsOf, HaveBits, HasVariables}
use Rattle.sat_gates.proofs.NodeBits.{grown, operand_bits}
use Rattle.sat_gates.proofs.OtherBits.{name_bits, const_bits, neg_bits, ite_bits, concat_bits, extract_bits, zext_bits, sext_bits}
use Rattle.sat_gates.proofs.blasting.put_other.Goals as goal

pub returns-in_ok-word-in-Const-clause-bits : goal.returns-in_ok-word-in-Const-clause-bits
returns-in_ok-word-in-Const-clause-bits c =
    let g = c.args.terms.now in
    let t = tree g c.args.root.0 in
    let m = variables_of g.names c.args.map.now in
    let old = c.args.circuit.now in
    let s = subst (λ (n : Node). IsSome (sort_of (tree_of_node g n))) c.in-Const.is c.requires.sorted in
    let has = subst (λ (n : Node). HaveBits g c.args.root.0 m old (get nat_eq c.args.bits.now) (operands_of n)) c.in-Const.is c.requires.operands in
    subst (λ (n : Node). AreBitsOf t m old (tree_of_node g n) c.in_ok-word-in-Const.word.items) (sym c.in-Const.is)
    (const_bits t m old c.in-Const.width c.in-Const.number c.in_ok-word-in-Const.word.items s c.in_ok-word-in-Const.ensures.known c.in_ok-word-in-Const.ensures.width c.in_ok-word-in-Const.ensures.number)

pub returns-in_ok-word-in-Neg-clause-bits : goal.returns-in_ok-word-in-Neg-clause-bits
returns-in_ok-word-in-Neg-clause-bits c =
    let g = c.args.terms.now in
    let t = tree g c.args.root.0 in
    let m = variables_of g.names c.args.map.now in
    let old = c.args.circuit.now in
    let s = subst (λ (n : Node). IsSome (sort_of (tree_of_node g n))) c.in-Neg.is c.requires.sorted in
    let has = subst (λ (n : Node). HaveBits g c.args.root.0 m old (get nat_eq c.args.bits.now) (operands_of n)) c.in-Neg.is c.requires.operands in
    subst (λ (n : Node). AreBitsOf t m c.negative.new.circuit (tree_of_node g n) c.in_ok-word-in-Neg.word.items) (sym c.in-Neg.is)
    (neg_bits t m old c.negative.new.circuit _ c.bits_of-operand.result.now c.in_ok-word-in-Neg.word.items s (grown t m _ _ c.in_ok-word-in-Neg.ensures.grows (operand_bits t m old _ _ _ c.bits_of-operand.ensures has.0.1)) c.in_ok-word-in-Neg.ensures.word)

pub returns-in_ok-chain-in-Ite-clause-bits : goal.returns-in_ok-chain-in-Ite-clause-bits
returns-in_ok-chain-in-Ite-clause-bits c =
    let g = c.args.terms.now in
    let t = tree g c.args.root.0 in
    let m = variables_of g.names c.args.map.now in
    let old = c.args.circuit.now in
    let s = subst (λ (n : Node). IsSome (sort_of (tree_of_node g n))) c.in-Ite.is c.requires.sorted in
    let has = subst (λ (n : Node). HaveBits g c.args.root.0 m old (get nat_eq c.args.bits.now) (operands_of n)) c.in-Ite.is c.requires.operands in
    subst (λ (n : Node). AreBitsOf t m c.chained.new.circuit (tree_of_node g n) c.in_ok-chain-in-Ite.chain.bits.items) (sym c.in-Ite.is)
    (ite_bits t m c.chained.new.circuit _ _ _ c.bits_of-chosen.result.now c.bits_of-first.result.now c.bits_of-second.result.now c.in_ok-chain-in-Ite.chain.bits.items _ c.in_ok-chain-in-Ite.chain.carry s (grown t m _ _ c.in_ok-chain-in-Ite.ensures.grows (operand_bits t m old _ _ _ c.bits_of-chosen.ensures has.0.1)) (grown t m _ _ c.in_ok-chain-in-Ite.ensures.grows (operand_bits t m old _ _ _ c.bits_of-first.ensures has.1.0.1)) (grown t m _ _ c.in_ok-chain-in-Ite.ensures.grows (operand_bits t m old _ _ _ c.bits_of-second.ensures has.1.1.0.1)) c.in_ok-chain-in-Ite.ensures.chain)

pub returns-in_ok-word-in-Concat-clause-bits : goal.returns-in_ok-word-in-Concat-clause-bits
returns-in_ok-word-in-Concat-clause-bits c =
    let g = c.args.terms.now in
    let t = tree g c.args.root.0 in
    let m = variables_of g.names c.args.map.now in
    let old = c.args.circuit.now in
    let s = subst (λ (n : Node). IsSome (sort_of (tree_of_node g n))) c.in-Concat.is c.requires.sorted in
    let has = subst (λ (n : Node). HaveBits g c.args.root.0 m old (get nat_eq c.args.bits.now) (operands_of n)) c.in-Concat.is c.requires.operands in
    subst (λ (n : Node). AreBitsOf t m old (tree_of_node g n) c.in_ok-word-in-Concat.word.items) (sym c.in-Concat.is)
    (concat_bits t m old _ _ c.bits_of-high.result.now c.bits_of-low.result.now c.in_ok-word-in-Concat.word.items s (operand_bits t m old _ _ _ c.bits_of-high.ensures has.0.1) (operand_bits t m old _ _ _ c.bits_of-low.ensures has.1.0.1) c.in_ok-word-in-Concat.ensures)

pub returns-in_ok-word-in-Extract-clause-bits : goal.returns-in_ok-word-in-Extract-clause-bits
returns-in_ok-word-in-Extract-clause-bits c =
    let g = c.args.terms.now in
    let t = tree g c.args.root.0 in
    let m = variables_of g.names c.args.map.now in
    let old = c.args.circuit.now in
    let s = subst (λ (n : Node). IsSome (sort_of (tree_of_node g n))) c.in-Extract.is c.requires.sorted in
    let has = subst (λ (n : Node). HaveBits g c.args.root.0 m old (get nat_eq c.args.bits.now) (operands_of n)) c.in-Extract.is c.requires.operands in
    subst (λ (n : Node). AreBitsOf t m old (tree_of_node g n) c.in_ok-word-in-Extract.word.items) (sym c.in-Extract.is)
    (extract_bits t m old c.in-Extract.high c.in-Extract.low _ c.bits_of-operand-in-Extract.result.now c.in_ok-word-in-Extract.word.items s (operand_bits t m old _ _ _ c.bits_of-operand-in-Extract.ensures has.0.1) c.in_ok-word-in-Extract.ensures)

pub returns-in_ok-word-in-Zext-clause-bits : goal.returns-in_ok-word-in-Zext-clause-bits
returns-in_ok-word-in-Zext-clause-bits c =
    let g = c.args.terms.now in
    let t = tree g c.args.root.0 in
    let m = variables_of g.names c.args.map.now in
    let old = c.args.circuit.now in
    let s = subst (λ (n : Node). IsSome (sort_of (tree_of_node g n))) c.in-Zext.is c.requires.sorted in
    let has = subst (λ (n : Node). HaveBits g c.args.root.0 m old (get nat_eq c.args.bits.now) (operands_of n)) c.in-Zext.is c.requires.operands in
    subst (λ (n : Node). AreBitsOf t m old (tree_of_node g n) c.in_ok-word-in-Zext.word.items) (sym c.in-Zext.is)
    (zext_bits t m old c.in-Zext.width _ c.bits_of-operand-in-Zext.result.now c.in_ok-word-in-Zext.word.items s (operand_bits t m old _ _ _ c.bits_of-operand-in-Zext.ensures has.0.1) c.in_ok-word-in-Zext.ensures)

pub returns-in_ok-word-in-Sext-clause-bits : goal.returns-in_ok-word-in-Sext-clause-bits
returns-in_ok-word-in-Sext-clause-bits c =
    let g = c.args.terms.now in
    let t = tree g c.args.root.0 in
    let m = variables_of g.names c.args.map.now in
    let old = c.args.circuit.now in
    let s = subst (λ (n : Node). IsSome (sort_of (tree_of_node g n))) c.in-Sext.is c.requires.sorted in
    let has = subst (λ (n : Node). HaveBits g c.args.root.0 m old (get nat_eq c.args.bits.now) (operands_of n)) c.in-Sext.is c.requires.operands in
    subst (λ (n : Node). AreBitsOf t m old (tree_of_node g n) c.in_ok-word-in-Sext.word.items) (sym c.in-Sext.is)
    (sext_bits t m old c.in-Sext.width _ c.bits_of-operand-in-Sext.result.now c.in_ok-word-in-Sext.word.items _ s (operand_bits t m old _ _ _ c.bits_of-operand-in-Sext.ensures has.0.1) c.sign_of.ensures.known c.sign_of.ensures.value c.in_ok-word-in-Sext.ensures)

pub returns-in_ok-word-in-Name-clause-bits : goal.returns-in_ok-word-in-Name-clause-bits
returns-in_ok-word-in-Name-clause-bits c =
    let g = c.args.terms.now in
    let t = tree g c.args.root.0 in
    let m = variables_of g.names c.args.map.now in
    let old = c.args.circuit.now in
    let s = subst (λ (n : Node). IsSome (sort_of (tree_of_node g n))) c.in-Name.is c.requires.sorted in
    let has = subst (λ (n : Node). HasVariables g c.args.root.0 c.args.map.now old.inputs (names_of n)) c.in-Name.is c.requires.variables in
    subst (λ (n : Node). AreBitsOf t m old (tree_of_node g n) c.in_ok-word-in-Name.word.items) (sym c.in-Name.is)
    (name_bits g c.args.root.0 c.args.map.now old c.in-Name.name.0 c.in-Some.first _ _ c.in_ok-word-in-Name.word.items has (sym c.in-Some.is ∙ c.first.ensures) c.name_sort.ensures.sort c.bit_count-count.ensures c.in_ok-word-in-Name.ensures s)
