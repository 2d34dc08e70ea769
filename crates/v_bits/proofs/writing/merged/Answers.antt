use Rattle.wb_values.specs.Value.{word}
use Rattle.v_operators.proofs.Growing.{Grows-trans, IsOfSort-kept}
use Rattle.v_bits.proofs.Written.{merged_made}
use Rattle.v_bits.proofs.writing.merged.Goals as goal

pub disjunction-requires-clause-right : goal.disjunction-requires-clause-right
disjunction-requires-clause-right c = IsOfSort-kept c.args.value.0 (word c.args.width) (Grows-trans c.in_ok-kept.ensures.grows c.in_ok-rest.ensures.grows) c.requires.value

pub returns-clause-made : goal.returns-clause-made
returns-clause-made c =
    merged_made c.args.terms.now c.complement.new.terms c.conjunction.new.terms c.disjunction.new.terms c.args.old.0 c.args.mask.0 c.args.value.0 c.in_ok-kept.kept.0 c.in_ok-rest.rest.0 c.in_ok-id.id.0 c.args.width
    c.requires.old c.requires.value c.in_ok-kept.ensures.grows c.in_ok-kept.ensures.made c.in_ok-rest.ensures.grows c.in_ok-rest.ensures.made c.in_ok-id.ensures.made
