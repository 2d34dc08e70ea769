use Rattle.std.proofs.Common.{◌≡◌, map, length}
use Rattle.v_token.specs.View.{tokens_of}
use Rattle.v_expr.proofs.Repeat.{with_front}
use Rattle.verilog_text.specs.Token.{comma}
use Rattle.v_expr.specs.Reading.{after_mark}
use Rattle.v_parse.specs.Reading.{named_entry_at, named_entries_at}
use Rattle.v_parse.specs.View.{named_entry_of}
use Rattle.v_parse.specs.Lists.{others_at}
use Rattle.v_expr.specs.Flat.{Each}
use Rattle.v_parse.specs.Flat.{IsFlatNamed}
use Rattle.v_parse.proofs.instance.named_entries.Given as goal

abbrev pub invariant-loop-entries : goal.invariant-loop-entries
invariant-loop-entries l = (with_front (map named_entry_of l.entries.items) (others_at (after_mark comma) named_entry_at (tokens_of l.rest)) ≡ named_entries_at (tokens_of l.tokens)) × Each IsFlatNamed l.entries.items

abbrev pub decreases-loop-entries : goal.decreases-loop-entries
decreases-loop-entries l = length (tokens_of l.rest)
