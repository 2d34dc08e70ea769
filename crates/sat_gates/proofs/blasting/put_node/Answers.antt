use Rattle.std.proofs.Common.{sym, ◌∙◌, subst}
use Rattle.std.specs.Prelude.{nat_eq}
use Rattle.std.specs.HashMap.{get}
use Rattle.wb_terms.specs.Graph.{tree, trees_of, tree_of_node}
use Rattle.sat_gates.specs.Layout.{variables_of}
use Rattle.sat_gates.specs.Blasting.{AreBitsOf, HasBits}
use Rattle.sat_gates.specs.declared.forms.Form.{Form}
use Rattle.sat_gates.proofs.NodeBits.{ChainGives, FormHas, chain_gives, form_has, grown, operand_bits}
use Rattle.sat_gates.proofs.blasting.put_node.Goals as goal

pub returns-in_ok-chain-in-Chain-clause-bits : goal.returns-in_ok-chain-in-Chain-clause-bits
returns-in_ok-chain-in-Chain-clause-bits c =
    let g = c.args.terms.now in
    let t = tree g c.args.root.0 in
    let m = variables_of g.names c.args.map.now in
    let f = sym c.form_of.ensures ∙ c.in-Chain.is in
    let has = subst (FormHas (HasBits g c.args.root.0 m c.args.circuit.now (get nat_eq c.args.bits.now))) f (form_has g c.args.root.0 m c.args.circuit.now (get nat_eq c.args.bits.now) c.args.node c.requires.operands) in
    let e = c.in_ok-chain-in-Chain.ensures in
    subst (λ (q : Form). ChainGives t m c.chained.new.circuit (trees_of g) q (tree_of_node g c.args.node)) f (chain_gives t m c.chained.new.circuit g.names (trees_of g) c.args.node c.requires.sorted)
    c.bits_of-first.result.now c.bits_of-second.result.now c.in_ok-chain-in-Chain.chain.bits.items c.in_ok-chain-in-Chain.chain.carry
    (grown t m _ _ e.grows (operand_bits t m c.args.circuit.now _ _ _ c.bits_of-first.ensures has.0.1))
    (grown t m _ _ e.grows (operand_bits t m c.args.circuit.now _ _ _ c.bits_of-second.ensures has.1.1))
    e.chain

pub returns-in_ok-last-in-Last-clause-bits : goal.returns-in_ok-last-in-Last-clause-bits
returns-in_ok-last-in-Last-clause-bits c =
    let g = c.args.terms.now in
    let t = tree g c.args.root.0 in
    let m = variables_of g.names c.args.map.now in
    let f = sym c.form_of.ensures ∙ c.in-Last.is in
    let has = subst (FormHas (HasBits g c.args.root.0 m c.args.circuit.now (get nat_eq c.args.bits.now))) f (form_has g c.args.root.0 m c.args.circuit.now (get nat_eq c.args.bits.now) c.args.node c.requires.operands) in
    let e = c.in_ok-chain-in-Last.ensures in
    subst (AreBitsOf t m c.chained-in-Last.new.circuit (tree_of_node g c.args.node)) (sym c.in_ok-last-in-Last.ensures)
    (subst (λ (q : Form). ChainGives t m c.chained-in-Last.new.circuit (trees_of g) q (tree_of_node g c.args.node)) f (chain_gives t m c.chained-in-Last.new.circuit g.names (trees_of g) c.args.node c.requires.sorted)
    c.bits_of-first-in-Last.result.now c.bits_of-second-in-Last.result.now c.in_ok-chain-in-Last.chain.bits.items c.in_ok-chain-in-Last.chain.carry
    (grown t m _ _ e.grows (operand_bits t m c.args.circuit.now _ _ _ c.bits_of-first-in-Last.ensures has.0.1))
    (grown t m _ _ e.grows (operand_bits t m c.args.circuit.now _ _ _ c.bits_of-second-in-Last.ensures has.1.1))
    e.chain)

pub returns-in_ok-word-in-Word-clause-bits : goal.returns-in_ok-word-in-Word-clause-bits
returns-in_ok-word-in-Word-clause-bits c =
    let g = c.args.terms.now in
    let t = tree g c.args.root.0 in
    let m = variables_of g.names c.args.map.now in
    let f = sym c.form_of.ensures ∙ c.in-Word.is in
    let has = subst (FormHas (HasBits g c.args.root.0 m c.args.circuit.now (get nat_eq c.args.bits.now))) f (form_has g c.args.root.0 m c.args.circuit.now (get nat_eq c.args.bits.now) c.args.node c.requires.operands) in
    let e = c.in_ok-word-in-Word.ensures in
    subst (λ (q : Form). ChainGives t m c.operated.new.circuit (trees_of g) q (tree_of_node g c.args.node)) f (chain_gives t m c.operated.new.circuit g.names (trees_of g) c.args.node c.requires.sorted)
    c.bits_of-first-in-Word.result.now c.bits_of-second-in-Word.result.now c.in_ok-word-in-Word.word.items
    (grown t m _ _ e.grows (operand_bits t m c.args.circuit.now _ _ _ c.bits_of-first-in-Word.ensures has.0.1))
    (grown t m _ _ e.grows (operand_bits t m c.args.circuit.now _ _ _ c.bits_of-second-in-Word.ensures has.1.1))
    e.word

pub returns-in_ok-answer-in-SignedBelow-clause-bits : goal.returns-in_ok-answer-in-SignedBelow-clause-bits
returns-in_ok-answer-in-SignedBelow-clause-bits c =
    let g = c.args.terms.now in
    let t = tree g c.args.root.0 in
    let m = variables_of g.names c.args.map.now in
    let f = sym c.form_of.ensures ∙ c.in-SignedBelow.is in
    let has = subst (FormHas (HasBits g c.args.root.0 m c.args.circuit.now (get nat_eq c.args.bits.now))) f (form_has g c.args.root.0 m c.args.circuit.now (get nat_eq c.args.bits.now) c.args.node c.requires.operands) in
    let e = c.in_ok-below-in-SignedBelow.ensures in
    subst (AreBitsOf t m c.signed_below.new.circuit (tree_of_node g c.args.node)) (sym c.in_ok-answer-in-SignedBelow.ensures)
    (subst (λ (q : Form). ChainGives t m c.signed_below.new.circuit (trees_of g) q (tree_of_node g c.args.node)) f (chain_gives t m c.signed_below.new.circuit g.names (trees_of g) c.args.node c.requires.sorted)
    c.bits_of-first-in-SignedBelow.result.now c.bits_of-second-in-SignedBelow.result.now c.in_ok-below-in-SignedBelow.below
    (grown t m _ _ e.grows (operand_bits t m c.args.circuit.now _ _ _ c.bits_of-first-in-SignedBelow.ensures has.0.1))
    (grown t m _ _ e.grows (operand_bits t m c.args.circuit.now _ _ _ c.bits_of-second-in-SignedBelow.ensures has.1.1))
    e.below)

pub returns-in_ok-answer-in-SignedAtMost-clause-bits : goal.returns-in_ok-answer-in-SignedAtMost-clause-bits
returns-in_ok-answer-in-SignedAtMost-clause-bits c =
    let g = c.args.terms.now in
    let t = tree g c.args.root.0 in
    let m = variables_of g.names c.args.map.now in
    let f = sym c.form_of.ensures ∙ c.in-SignedAtMost.is in
    let has = subst (FormHas (HasBits g c.args.root.0 m c.args.circuit.now (get nat_eq c.args.bits.now))) f (form_has g c.args.root.0 m c.args.circuit.now (get nat_eq c.args.bits.now) c.args.node c.requires.operands) in
    let e = c.in_ok-at_most-in-SignedAtMost.ensures in
    subst (AreBitsOf t m c.signed_at_most.new.circuit (tree_of_node g c.args.node)) (sym c.in_ok-answer-in-SignedAtMost.ensures)
    (subst (λ (q : Form). ChainGives t m c.signed_at_most.new.circuit (trees_of g) q (tree_of_node g c.args.node)) f (chain_gives t m c.signed_at_most.new.circuit g.names (trees_of g) c.args.node c.requires.sorted)
    c.bits_of-first-in-SignedAtMost.result.now c.bits_of-second-in-SignedAtMost.result.now c.in_ok-at_most-in-SignedAtMost.at_most
    (grown t m _ _ e.grows (operand_bits t m c.args.circuit.now _ _ _ c.bits_of-first-in-SignedAtMost.ensures has.0.1))
    (grown t m _ _ e.grows (operand_bits t m c.args.circuit.now _ _ _ c.bits_of-second-in-SignedAtMost.ensures has.1.1))
    e.at_most)
