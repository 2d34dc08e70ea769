use Rattle.std.proofs.Common.{◌∙◌, ◌+◌, ap, sym, arith}
use Rattle.std.proofs.lemmas.List.{drop_all}
use Rattle.wb_values.specs.Choice.{first_of}
use Rattle.v_places.specs.Views.{number_in}
use Rattle.v_places.proofs.Named.{number_named, no_more, turn, all_named}
use Rattle.v_places.proofs.modules.numbers_of.Goals as goal

pub loop-each-preserved : goal.loop-each-preserved
loop-each-preserved c = (
  ap (λ k. k + 1) c.loop-each.invariant.0,
  λ q. turn c.args.modules.now c.loop-each.each-index c.loop-each.number c.each-item.result _ _ _ q (omega arith) c.each-item.is c.loop-each.invariant.0 (c.in_ok-enter.ensures q) (c.loop-each.invariant.1 q),
)

pub returns : goal.returns
returns c =
    all_named c.args.modules.now c.loop-each.table (λ q.
    no_more (number_in c.loop-each.table q)
    ∙ (ap (λ ms. first_of (number_in c.loop-each.table q) (number_named c.loop-each.each-index ms q)) (sym (drop_all c.loop-each.each-index c.args.modules.now (omega arith)))
    ∙ c.loop-each.invariant.1 q))
