use Rattle.std.proofs.Common.{◌∙◌, [], ◌∷◌, sym, Some, None, arith}
use Rattle.std.proofs.lemmas.Str.Pattern.{strip_prefix_char}
use Rattle.v_elab.proofs.Fronts.{not_begun, begun, after_last}
use Rattle.v_elab.proofs.naming.top_name.Goals as goal

pub returns-in-Some : goal.returns-in-Some
returns-in-Some c =
    after_last 46 c.in-Some.rest.now c.strip_prefix-in-Some.result
    (strip_prefix_char 46 c.in-Some.rest.now c.strip_prefix-in-Some.result c.strip_prefix-in-Some.ensures.cases (omega arith))
    ∙ sym (begun 48 (46 ∷ []) c.args.name.now c.in-Some.rest.now (strip_prefix_char 48 c.args.name.now (Some c.in-Some.rest) c.in-Some.ensures.cases (omega arith)))

pub returns-in-None : goal.returns-in-None
returns-in-None c = sym (not_begun 48 (46 ∷ []) c.args.name.now (strip_prefix_char 48 c.args.name.now None c.in-None.ensures.cases (omega arith)))
