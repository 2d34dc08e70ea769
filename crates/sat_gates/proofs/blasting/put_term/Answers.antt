use Rattle.std.proofs.Common.{◌≡◌, ◌∙◌, ◌<◌, ◌∷◌, [], List, length, get_or, ap, subst, arith, refl}
use Rattle.wb_terms.specs.Graph.{tree}
use Rattle.gate_base.specs.declared.bits.Bit.{Bit}
use Rattle.sat_gates.specs.Layout.{variables_of, bit_count_of}
use Rattle.sat_gates.specs.Blasting.{AreBitsOf}
use Rattle.sat_gates.proofs.NodeBits.{operand_bits}
use Rattle.sat_gates.proofs.blasting.put_term.Goals as goal

one_bit : (xs : List Bit) (d : Bit) → length xs ≡ 1 → xs ≡ get_or xs 0 d ∷ []
one_bit [] d e = absurd (omega (arith, e))
one_bit (x ∷ []) d e = refl
one_bit (x ∷ y ∷ xs) d e = absurd (omega (arith, e))

pub bits_of-word-requires : goal.bits_of-word-requires
bits_of-word-requires c = c.in_ok-bits.ensures.bits.0

pub returns-clause-bit : goal.returns-clause-bit
returns-clause-bit c =
    let g = c.args.terms.now in
    let t = tree g c.args.root.0 in
    let m = variables_of g.names c.args.map.now in
    let word = operand_bits t m c.put_all.new.circuit t _ _ c.bits_of-word.ensures c.in_ok-bits.ensures.bits.1 in
    subst (AreBitsOf t m c.put_all.new.circuit t) (one_bit c.bits_of-word.result.now _ (word.width ∙ ap bit_count_of c.requires.sort)) word
