use Rattle.std.proofs.Common.{◌≡◌, ◌∙◌, sym, ap, None, option_and_then, arith, rules}
use Rattle.std.proofs.lemmas.Str.Pattern.{split_parts}
use Rattle.refinement.specs.Map.{dotted_parts}
use Rattle.map_paths.specs.Located.{located}
use Rattle.map_paths.specs.Tables.{below_in}
use Rattle.map_paths.proofs.Steps.{located_part, located_last}
use Rattle.map_paths.proofs.instances.locate.Goals as goal

pub returns-in_err-place : goal.returns-in_err-place
returns-in_err-place c =
    let l = c.parts in
    let below = below_in c.args.tables.now in
    let cut = rw c.in-Some.is at (split_parts 46 l.rest.now c.split_once.result c.split_once.ensures.cases (omega arith)) in
    let gone : c.from_residual.result ≡ None = grind arith in
    let turn = l.invariant.0 ∙ (ap (λ n. located below l.place (dotted_parts n)) cut.0 ∙ located_part below l.place c.in-Some.part.now c.in-Some.more.now cut.1) in
    rw gone (sym (turn ∙ ap (option_and_then (λ j. located below j (dotted_parts c.in-Some.more.now))) (sym c.in_err-place.ensures)))

pub parts-preserved : goal.parts-preserved
parts-preserved c =
    let l = c.parts in
    let below = below_in c.args.tables.now in
    let cut = rw c.in-Some.is at (split_parts 46 l.rest.now c.split_once.result c.split_once.ensures.cases (omega arith)) in
    let turn = l.invariant.0 ∙ (ap (λ n. located below l.place (dotted_parts n)) cut.0 ∙ located_part below l.place c.in-Some.part.now c.in-Some.more.now cut.1) in
    (turn ∙ ap (option_and_then (λ j. located below j (dotted_parts c.in-Some.more.now))) (sym c.in_ok-place.ensures), search rules)

pub returns : goal.returns
returns c =
    let l = c.parts in
    let none = rw c.in_default.is at (split_parts 46 l.rest.now c.split_once.result c.split_once.ensures.cases (omega arith)) in
    sym (l.invariant.0 ∙ located_last (below_in c.args.tables.now) l.place l.rest.now none)
