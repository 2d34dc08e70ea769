use Rattle.std.proofs.Common.{◌≡◌, ◌∙◌, sym, ap, [], None, arith, rules}
use Rattle.std.specs.Prelude.{option_and_then}
use Rattle.std.proofs.lemmas.Str.Pattern.{split_parts}
use Rattle.v_design.specs.Table.{term_from}
use Rattle.v_design.proofs.Segments.{plain_by_places, instance_read, last_read}
use Rattle.v_design.proofs.table.term_at.Goals as goal

pub returns-in_err-place : goal.returns-in_err-place
returns-in_err-place c =
    let l = c.instances in
    let places = c.args.places.now in
    let cut = rw c.in-Some.is at (split_parts 46 l.rest.now c.split_once.result c.split_once.ensures.cases (omega arith)) in
    let gone : c.from_residual.result ≡ None = grind arith in
    let turn = l.invariant.0 ∙ (ap (term_from places l.place []) cut.0
    ∙ instance_read places l.place c.in-Some.instance.now c.in-Some.more.now (plain_by_places c.in-Some.instance.now cut.1)) in
    rw gone (sym (turn ∙ ap (option_and_then (λ j. term_from places j [] c.in-Some.more.now)) (sym c.in_err-place.ensures)))

pub instances-preserved : goal.instances-preserved
instances-preserved c =
    let l = c.instances in
    let places = c.args.places.now in
    let cut = rw c.in-Some.is at (split_parts 46 l.rest.now c.split_once.result c.split_once.ensures.cases (omega arith)) in
    let turn = l.invariant.0 ∙ (ap (term_from places l.place []) cut.0
    ∙ instance_read places l.place c.in-Some.instance.now c.in-Some.more.now (plain_by_places c.in-Some.instance.now cut.1)) in
    (turn ∙ ap (option_and_then (λ j. term_from places j [] c.in-Some.more.now)) (sym c.in_ok-place.ensures), search rules)

pub returns : goal.returns
returns c =
    let l = c.instances in
    let places = c.args.places.now in
    let none = rw c.in_default.is at (split_parts 46 l.rest.now c.split_once.result c.split_once.ensures.cases (omega arith)) in
    c.own_term.ensures ∙ sym (l.invariant.0 ∙ last_read places l.place l.rest.now (plain_by_places l.rest.now none))
