use Rattle.std.proofs.Common.{◌∙◌, ◌∷◌, [], false, ap, map, Option}
use Rattle.verilog_trees.specs.Syntax.{Range, variables}
use Rattle.v_syntax.specs.Source.{optional_range_of}
use Rattle.emitted_names.proofs.Turns.{ap2}
use Rattle.emitted_trees.proofs.items.register.Goals as goal

pub returns : goal.returns
returns c =
    ap (λ vs. variables false (optional_range_of c.in_ok-range.range) (map (λ v. (v.name.now, optional_range_of v.addresses)) vs))
    c.in_ok-variables.ensures
    ∙ ap2 (λ (r : Option Range) (a : Option Range). variables false r ((c.args.name.now, a) ∷ [])) c.in_ok-range.ensures c.in_ok-addresses.ensures
