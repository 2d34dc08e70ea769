use Rattle.std.proofs.Common.{◌∙◌}
use Rattle.map_file.specs.View.{level}
use Rattle.map_terms.proofs.Signalled.{reset_made, byte_level}
use Rattle.map_terms.proofs.reset.reset_term.Goals as goal

pub returns-clause-reset : goal.returns-clause-reset
returns-clause-reset c =
    reset_made c.args.terms.now c.constant.new.terms c.is_equal.new.terms c.args.signal.0 c.in_ok-active.active.0 (level c.args.is_active_high) _ c.in_ok-id.id.0 c.requires
    c.constant.ensures.grows (c.from.ensures ∙ byte_level c.args.is_active_high) c.in_ok-active.ensures.value c.in_ok-id.ensures.made
