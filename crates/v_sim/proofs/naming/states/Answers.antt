use Rattle.std.proofs.Common.{◌++◌, [], ◌∷◌, map, sym, ap, ◌∙◌, arith}
use Rattle.std.proofs.lemmas.List.{map-append, length-take-le, take_all}
use Rattle.v_design.specs.Parts.{registers_of}
use Rattle.v_sim.proofs.Settings.{registers_named}
use Rattle.v_design.specs.Seen.{parts_of}
use Rattle.ila_sim.specs.Names.{settable_of}
use Rattle.v_sim.specs.Names.{names_by}
use Rattle.v_sim.proofs.Sorted.{taken_more}
use Rattle.v_sim.proofs.naming.states.Goals as goal

pub loop-place-preserved : goal.loop-place-preserved
loop-place-preserved c =
    let all = (names_by (parts_of c.args.design.now)).states in
    let one = c.in_ok-register_at.field-0 in
    ap (map settable_of) c.in_ok-push.ensures.items
    ∙ (map-append settable_of c.loop-place.states.items (one ∷ [])
    ∙ (ap (λ xs. xs ++ settable_of one ∷ []) c.loop-place.invariant
    ∙ sym (taken_more all c.loop-place.place (settable_of one) c.in_ok-register_at.ensures)))

pub returns : goal.returns
returns c =
    let d = c.args.design.now in
    let e = parts_of d in
    let long = (registers_named (registers_of e) e.bits d.counting).all in
    let all = length-take-le d.register_count d.terms.names d.counted in
    c.loop-place.invariant ∙ take_all c.loop-place.place (names_by e).states (omega (arith, long, all, c.loop-place-test.false, c.register_count-place-end.ensures))
