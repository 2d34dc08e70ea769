use Rattle.std.proofs.Common.{◌≡◌, ◌∙◌}
use Rattle.term_copies.proofs.Extending.{extended_trans, extended_refl, extended_same}
use Rattle.term_copies.proofs.Copying.{leaves_kept}
use Rattle.model_terms.proofs.Choosing.{worths_names}
use Rattle.model_terms.proofs.listing.put_start.Goals as goal

pub returns-clause-leaves : goal.returns-clause-leaves
returns-clause-leaves c = leaves_kept c.args.source.now.names c.begin.new.point.items c.in_ok-ended.ensures.extended c.in_ok-begin.ensures.leaves

pub returns-clause-values : goal.returns-clause-values
returns-clause-values c v = worths_names c.args.source.now.names c.begin.new.point.items v c.in_ok-ended.ensures.extended c.in_ok-begin.ensures.leaves ∙ c.in_ok-begin.ensures.values v
