use Rattle.std.proofs.Common.{◌∙◌, sym, arith}
use Rattle.std.proofs.lemmas.Bool.{false≢true}
use Rattle.std.proofs.lemmas.List.{length-map}
use Rattle.ila_model.specs.Model.{model_of}
use Rattle.mapped_designs.specs.View.{mapped_of, instruction_view}
use Rattle.run_watch.proofs.Lists.{commit_condition}
use Rattle.run_watch.proofs.Names.{states_apart}
use Rattle.run_watch.proofs.Coded.{ending_at, inside_ends, inside_past, inside_goes}
use Rattle.run_watch.proofs.following.inside.Goals as goal

pub index-ending-requires : goal.index-ending-requires
index-ending-requires c = omega (arith, c.requires.instruction, length-map c.args.mapped.now.instructions.items instruction_view)

pub holds_in-requires-clause-condition : goal.holds_in-requires-clause-condition
holds_in-requires-clause-condition c =
    let i = c.index-ending.result.now in
    commit_condition (mapped_of c.args.mapped.now) c.requires.sorted.conditions c.args.instruction (instruction_view i)
    (ending_at c.args.mapped.now c.args.instruction i c.requires.instruction c.index-ending.ensures)

pub returns-then-holds_in-clause-turn : goal.returns-then-holds_in-clause-turn
returns-then-holds_in-clause-turn c x s run cycles z less none w =
    let model = c.args.model.now in
    let i = c.index-ending.result.now in
    let at = ending_at c.args.mapped.now c.args.instruction i c.requires.instruction c.index-ending.ensures in
    inside_ends (model_of model) (mapped_of c.args.mapped.now) c.args.cycle.now c.args.t x s run cycles (states_apart model) z less none c.args.ended c.args.first
    c.args.instruction c.args.next (instruction_view i) at w c.holds_in.result c.holds_in.ensures c.if-holds_in.true

pub returns-then-is_last_cycle-clause-turn : goal.returns-then-is_last_cycle-clause-turn
returns-then-is_last_cycle-clause-turn c x s run cycles z less none w =
    let model = c.args.model.now in
    let i = c.index-ending.result.now in
    let at = ending_at c.args.mapped.now c.args.instruction i c.requires.instruction c.index-ending.ensures in
    inside_past (model_of model) (mapped_of c.args.mapped.now) c.args.cycle.now c.args.t x s run cycles (states_apart model) z less none c.args.ended c.args.first
    c.args.instruction c.args.next (instruction_view i) at w c.holds_in.result c.holds_in.ensures c.if-holds_in.false
    (c.is_last_cycle.ensures.0 c.if-is_last_cycle.true)

pub returns-clause-turn : goal.returns-clause-turn
returns-clause-turn c x s run cycles z less none w =
    let model = c.args.model.now in
    let i = c.index-ending.result.now in
    let at = ending_at c.args.mapped.now c.args.instruction i c.requires.instruction c.index-ending.ensures in
    inside_goes (model_of model) (mapped_of c.args.mapped.now) c.args.cycle.now c.args.t x s run cycles (states_apart model) z less none c.args.ended c.args.first
    c.args.instruction c.args.next (instruction_view i) at w c.holds_in.result c.holds_in.ensures c.if-holds_in.false
    (λ last. false≢true (sym c.if-is_last_cycle.false ∙ c.is_last_cycle.ensures.1 last))
