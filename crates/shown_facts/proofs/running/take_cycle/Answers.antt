use Rattle.std.proofs.Common.{◌∙◌, get_or, sym, ap, subst}
use Rattle.std.proofs.lemmas.Option.{slice_get-get_or}
use Rattle.v_design.specs.Parts.{registers_after}
use Rattle.v_cycle.specs.Running.{HasRun, registers_in}
use Rattle.shown_facts.specs.Values.{map_in}
use Rattle.shown_facts.proofs.Noting.{given_at, given_past}
use Rattle.shown_facts.proofs.running.take_cycle.Goals as goal

pub returns-then-time-given-clause-ran : goal.returns-then-time-given-clause-ran
returns-then-time-given-clause-ran c =
    let g = c.args.given.now in
    let d = (map_in g).parts in
    let is = g.inputs.now in
    let i = c.index-given-time.result in
    let same = given_at d is c.args.time (get_or is c.args.time i) (slice_get-get_or is c.args.time i c.if-time-given.true) in
    subst (λ w. HasRun d c.cycle.new.self (registers_in c.args.cycle.now) w) (sym same) c.cycle.ensures.ran

pub returns-then-time-given-clause-registers : goal.returns-then-time-given-clause-registers
returns-then-time-given-clause-registers c =
    let g = c.args.given.now in
    let d = (map_in g).parts in
    let is = g.inputs.now in
    let i = c.index-given-time.result in
    let same = given_at d is c.args.time (get_or is c.args.time i) (slice_get-get_or is c.args.time i c.if-time-given.true) in
    c.cycle.ensures.registers ∙ ap (registers_after d (registers_in c.args.cycle.now)) (sym same)

pub returns-else-time-given-clause-ran : goal.returns-else-time-given-clause-ran
returns-else-time-given-clause-ran c =
    let g = c.args.given.now in
    let d = (map_in g).parts in
    let same = given_past d g.inputs.now c.args.time c.if-time-given.false ∙ sym c.requires.zeros in
    subst (λ w. HasRun d c.cycle-else-time-given.new.self (registers_in c.args.cycle.now) w) (sym same) c.cycle-else-time-given.ensures.ran

pub returns-else-time-given-clause-registers : goal.returns-else-time-given-clause-registers
returns-else-time-given-clause-registers c =
    let g = c.args.given.now in
    let d = (map_in g).parts in
    let same = given_past d g.inputs.now c.args.time c.if-time-given.false ∙ sym c.requires.zeros in
    c.cycle-else-time-given.ensures.registers ∙ ap (registers_after d (registers_in c.args.cycle.now)) (sym same)
