use Rattle.std.proofs.Common.{◌∙◌, ap}
use Rattle.verilog_trees.specs.Syntax.{Expression, Range}
use Rattle.term_expressions.specs.Expressions.{plain}
use Rattle.v_syntax.specs.Source.{range_of}
use Rattle.emitted_names.proofs.Turns.{ap2}
use Rattle.emitted_trees.proofs.ports.range_of_bits.Goals as goal

abbrev range : Expression → Expression → Range
range l r = record { left = l; right = r }

pub returns : goal.returns
returns c =
    ap range_of c.in_ok-new.ensures.ok
    ∙ ap2 range (c.plain.ensures ∙ ap plain (c.from.ensures ∙ c.saturating_sub.ensures)) c.plain-2.ensures
