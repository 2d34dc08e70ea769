use Rattle.std.proofs.Common.{◌≡◌, map, length}
use Rattle.v_token.specs.View.{tokens_of}
use Rattle.v_expr.proofs.Repeat.{with_front}
use Rattle.verilog_text.specs.Token.{comma}
use Rattle.v_expr.specs.Reading.{after_mark}
use Rattle.v_parse.specs.Reading.{entry_at, entries_at}
use Rattle.v_syntax.specs.Source.{optional_tree_of}
use Rattle.v_parse.specs.Lists.{others_at}
use Rattle.v_expr.specs.Flat.{Each}
use Rattle.v_parse.specs.Flat.{IsFlatOptional}
use Rattle.v_parse.proofs.instance.entries.Given as goal

abbrev pub invariant-loop-entries : goal.invariant-loop-entries
invariant-loop-entries l = (with_front (map optional_tree_of l.entries.items) (others_at (after_mark comma) entry_at (tokens_of l.rest)) ≡ entries_at (tokens_of l.tokens)) × Each IsFlatOptional l.entries.items

abbrev pub decreases-loop-entries : goal.decreases-loop-entries
decreases-loop-entries l = length (tokens_of l.rest)
