use Rattle.std.proofs.Common.{◌∙◌, inl, inr, sym, subst, arith}
use Rattle.std.proofs.lemmas.Bool.{false≢true}
use Rattle.std.proofs.lemmas.List.{length-map}
use Rattle.ila_model.specs.Model.{model_of}
use Rattle.mapped_designs.specs.View.{mapped_of, instruction_view}
use Rattle.run_watch.specs.Turns.{IsFirstOther}
use Rattle.run_watch.proofs.Lists.{commit_condition}
use Rattle.run_watch.proofs.Names.{states_apart}
use Rattle.run_watch.proofs.Coded.{ending_at, begins_past, begins_other, begins_ends, begins_goes}
use Rattle.run_watch.proofs.following.begins.Goals as goal
use Rattle.run_watch.proofs.following.begins.Goals.{else-not-commits-via-else-not-commits, else-not-commits-via-then-not-commits+else-ending-eq1}

pub index-ending-requires : goal.index-ending-requires
index-ending-requires c = omega (arith, c.requires.instruction, length-map c.args.mapped.now.instructions.items instruction_view)

pub holds_in-commits-requires-clause-condition : goal.holds_in-commits-requires-clause-condition
holds_in-commits-requires-clause-condition c =
    let i = c.index-ending.result.now in
    let j = c.args.begun.instruction in
    commit_condition (mapped_of c.args.mapped.now) c.requires.sorted.conditions j (instruction_view i)
    (ending_at c.args.mapped.now j i c.requires.instruction c.index-ending.ensures)

pub returns-then-ending-eq1-clause-turn : goal.returns-then-ending-eq1-clause-turn
returns-then-ending-eq1-clause-turn c x s run cycles q z less none a same starts is steps =
    let model = c.args.model.now in
    let i = c.index-ending.result.now in
    let j = c.args.begun.instruction in
    let at = ending_at c.args.mapped.now j i c.requires.instruction c.index-ending.ensures in
    begins_past (model_of model) (mapped_of c.args.mapped.now) c.args.cycle.now c.args.t x s run cycles (states_apart model) z less none c.args.ended q a j
    c.args.begun.next (instruction_view i) at starts is steps c.holds_in-commits.result c.holds_in-commits.ensures c.if-not-commits.true c.if-ending-eq1.true

pub returns-in-Some-clause-turn : goal.returns-in-Some-clause-turn
returns-in-Some-clause-turn c x s run cycles q z less none a same starts is steps =
    let model = c.args.model.now in
    let i = c.index-ending.result.now in
    let j = c.args.begun.instruction in
    let at = ending_at c.args.mapped.now j i c.requires.instruction c.index-ending.ensures in
    begins_other (model_of model) (mapped_of c.args.mapped.now) c.args.cycle.now c.args.t x s run cycles (states_apart model) z less none c.args.ended q a j
    c.args.begun.next (instruction_view i) at starts is steps c.holds_in-commits.result c.in-Some.k c.holds_in-commits.ensures
    (elim c.else-not-commits.branch [
      | else-not-commits-via-else-not-commits w ↦ inl w.if-not-commits.false
      | else-not-commits-via-then-not-commits+else-ending-eq1 w ↦ inr w.if-ending-eq1.false
    ])
    (subst (IsFirstOther s run c.args.t q) c.in-Some.is same)

pub returns-then-commits-clause-turn : goal.returns-then-commits-clause-turn
returns-then-commits-clause-turn c x s run cycles q z less none a same starts is steps =
    let model = c.args.model.now in
    let i = c.index-ending.result.now in
    let j = c.args.begun.instruction in
    let at = ending_at c.args.mapped.now j i c.requires.instruction c.index-ending.ensures in
    begins_ends (model_of model) (mapped_of c.args.mapped.now) c.args.cycle.now c.args.t x s run cycles (states_apart model) z less none c.args.ended q a j
    c.args.begun.next (instruction_view i) at starts is steps c.holds_in-commits.result c.holds_in-commits.ensures c.if-commits.true
    (subst (IsFirstOther s run c.args.t q) c.in_default.is same)

pub returns-else-commits-clause-turn : goal.returns-else-commits-clause-turn
returns-else-commits-clause-turn c x s run cycles q z less none a same starts is steps =
    let model = c.args.model.now in
    let i = c.index-ending.result.now in
    let j = c.args.begun.instruction in
    let at = ending_at c.args.mapped.now j i c.requires.instruction c.index-ending.ensures in
    begins_goes (model_of model) (mapped_of c.args.mapped.now) c.args.cycle.now c.args.t x s run cycles (states_apart model) z less none c.args.ended q a j
    c.args.begun.next (instruction_view i) at starts is steps c.holds_in-commits.result c.holds_in-commits.ensures c.if-commits.false
    (elim c.else-not-commits.branch [
      | else-not-commits-via-else-not-commits w ↦ absurd (false≢true (sym c.if-commits.false ∙ w.if-not-commits.false))
      | else-not-commits-via-then-not-commits+else-ending-eq1 w ↦ w.if-ending-eq1.false
    ])
    (subst (IsFirstOther s run c.args.t q) c.in_default.is same)
