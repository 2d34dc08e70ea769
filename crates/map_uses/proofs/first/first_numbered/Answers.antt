use Rattle.std.proofs.Common.{sym, subst}
use Rattle.v_value.specs.Scope.{scope_at}
use Rattle.v_value.specs.Narrow.{HasNarrowObjects}
use Rattle.map_uses.specs.Table.{AreKnownIn, AreNarrowIn}
use Rattle.map_uses.proofs.Told.{known_each, narrow_each}
use Rattle.map_uses.proofs.first.first_numbered.Goals as goal

pub table_of-requires-clause-count : goal.table_of-requires-clause-count
table_of-requires-clause-count c = c.requires.count

pub table_of-requires-clause-called : goal.table_of-requires-clause-called
table_of-requires-clause-called c = c.requires.called

pub table_of-requires-clause-stands : goal.table_of-requires-clause-stands
table_of-requires-clause-stands c =
    let h = c.requires.flawless.1 in (c.requires.flawless.0, record { stands = h.flawless.stands; are_interfaces = h.are_interfaces })

pub first_using-requires-clause-objects : goal.first_using-requires-clause-objects
first_using-requires-clause-objects c = subst (λ s. HasNarrowObjects (scope_at s)) (sym c.scope.ensures) c.args.known.now.narrow

pub first_using-requires-clause-narrow : goal.first_using-requires-clause-narrow
first_using-requires-clause-narrow c =
    let h = c.requires.flawless.1.flawless in
    subst (λ s. AreNarrowIn (scope_at s) c.args.expressions.now) (sym c.scope.ensures)
    (narrow_each c.requires.flawless.0 c.args.expressions.now c.args.known.now h.known h.named h.flawless c.scopes_that_agree_judge_alike.ensures h.of_texts c.args.known.now.narrow)

pub returns : goal.returns
returns c = λ d h.
    c.in_ok-user.ensures d (c.in_ok-table.ensures d (record { stands = h.flawless.stands; are_interfaces = h.are_interfaces }))
    (subst (λ s. AreKnownIn d (scope_at s) c.args.expressions.now) (sym c.scope.ensures)
    (known_each d c.args.expressions.now c.args.known.now h.flawless.known h.flawless.named h.flawless.flawless))
