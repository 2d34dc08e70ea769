use Rattle.std.proofs.Common.{◌∙◌, rules, sym}
use Rattle.v_depend.proofs.Placing.{set-by-index, set-anywhere, set-at-places}
use Rattle.v_depend.proofs.part.set_bits.Goals as goal

pub returns-then-by_index : goal.returns-then-by_index
returns-then-by_index c = λ b l. set-by-index c.placed.result c.args.sure c.args.reached b _ c.args.by_index _ (c.placed.ensures b l) c.if-by_index.true

pub returns-then-has_bits : goal.returns-then-has_bits
returns-then-has_bits c = λ b l.
    set-anywhere c.placed.result c.args.sure c.args.reached b _ c.args.by_index _ (c.placed.ensures b l) c.if-by_index.false (sym c.has_bits.ensures ∙ c.if-has_bits.true)
    (search rules) (search rules)

pub returns : goal.returns
returns c = λ b l.
    set-at-places c.placed.result c.args.sure c.args.reached b _ c.args.by_index _ (c.placed.ensures b l) c.if-by_index.false (sym c.has_bits.ensures ∙ c.if-has_bits.false)
