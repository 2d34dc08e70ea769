use Rattle.std.proofs.Common.{◌∙◌, ap}
use Rattle.verilog_meaning.specs.Expression.{object_width}
use Rattle.v_syntax.specs.Tree.{selects_of}
use Rattle.v_value.specs.Scope.{scope_at}
use Rattle.v_lower.specs.Table.{images_at}
use Rattle.v_settle.proofs.Placed.{term_there, net_word, net_replaced}
use Rattle.v_settle.proofs.writing.replaced.Goals as goal

pub term_of-old-requires : goal.term_of-old-requires
term_of-old-requires c = term_there (scope_at c.args.scope.now) (images_at c.args.table.now) c.args.terms.now c.args.name.now c.requires.known c.requires.net

pub fixed_written-requires-clause-old : goal.fixed_written-requires-clause-old
fixed_written-requires-clause-old c =
    net_word (scope_at c.args.scope.now) (images_at c.args.table.now) c.args.terms.now c.args.name.now c.term_of-old.result.0 c.object_width-width.result c.requires.known
    c.requires.net c.term_of-old.ensures (c.object_width-width.ensures ∙ ap object_width c.object.ensures)

pub returns-clause-changed : goal.returns-clause-changed
returns-clause-changed c =
    net_replaced (scope_at c.args.scope.now) (images_at c.args.table.now) c.args.terms.now c.fixed_written.new.terms c.args.name.now (selects_of c.args.selects.now)
    c.part_span-span.result c.term_of-old.result.0 c.args.number.0 c.in_ok-id.id.0 c.object_width-width.result c.requires.net c.requires.one c.term_of-old.ensures
    (c.object_width-width.ensures ∙ ap object_width c.object.ensures) c.part_span-span.ensures c.in_ok-id.ensures.made
