use Rattle.std.proofs.Common.{◌∙◌, ◌++◌, ap, sym, arith}
use Rattle.v_ordered.specs.Left.{names_left}
use Rattle.v_ordered.proofs.Lined.{no_line, line_there}
use Rattle.v_ordered.proofs.order.put_place.Goals as goal

pub returns-then-number-places : goal.returns-then-number-places
returns-then-number-places c = λ lists.
    ap (λ ns. ns ++ names_left lists c.args.stack.now.items)
    (sym (no_line c.args.places.now c.args.tables.now c.args.below.now c.requires.names c.requires.below lists c.args.number (omega (arith, c.if-number-places.true))))

pub returns : goal.returns
returns c = λ lists.
    c.in_ok-put_members.ensures lists
    ∙ ap (λ ns. ns ++ names_left lists c.args.stack.now.items)
    (line_there c.args.places.now c.args.tables.now c.args.below.now c.requires.names c.requires.below lists c.args.number c.index-places-number.result c.index-tables-number.result _
    c.index-below-number.result _ (omega (arith, c.if-number-places.false)) c.index-tables-number.is c.index-below-number.is)
