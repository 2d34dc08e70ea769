use Rattle.std.proofs.Common.{◌≡◌, map, length}
use Rattle.v_token.specs.View.{tokens_of}
use Rattle.v_expr.proofs.Repeat.{with_front}
use Rattle.v_parse.specs.Lists.{before_name, others_at}
use Rattle.v_parse.specs.Reading.{setting_at, settings_at}
use Rattle.v_parse.specs.View.{setting_of}
use Rattle.v_expr.specs.Flat.{Each}
use Rattle.v_parse.specs.Flat.{IsFlatSetting}
use Rattle.v_parse.proofs.declaration.settings.Given as goal

abbrev pub invariant-loop-values : goal.invariant-loop-values
invariant-loop-values l = (with_front (map setting_of l.values.items) (others_at before_name setting_at (tokens_of l.rest)) ≡ settings_at (tokens_of l.tokens)) × Each IsFlatSetting l.values.items

abbrev pub decreases-loop-values : goal.decreases-loop-values
decreases-loop-values l = length (tokens_of l.rest)
