use Rattle.ila_model.specs.Model.{model_of}
use Rattle.map_reading.specs.Listed.{IsConditionOf, IsStateOf, IsInputOf, IsCommitOf, condition_asked, state_asked, input_asked, commit_asked}
use Rattle.map_reading.proofs.Lists.{all_listed, beside, more_of, conditions_of, states_of_map, inputs_of, commits_of}
use Rattle.map_reading.proofs.listed.expressions_of.Goals as goal

pub add_conditions-requires : goal.add_conditions-requires
add_conditions-requires c =
    beside IsConditionOf c.args.tokens.now.assume.items _ c.args.trees.now.assume.items _ c.deref-2.ensures.value c.deref.ensures.value
    (conditions_of c.args.tokens.now.assume.items c.requires.written.assume c.args.trees.now.assume.items c.requires.are_tokens.assume c.requires.stands.assume)

pub add_conditions-requires-2 : goal.add_conditions-requires-2
add_conditions-requires-2 c =
    beside IsConditionOf c.args.tokens.now.invariants.items _ c.args.trees.now.invariants.items _ c.deref-4.ensures.value c.deref-3.ensures.value
    (conditions_of c.args.tokens.now.invariants.items c.requires.written.invariants c.args.trees.now.invariants.items c.requires.are_tokens.invariants c.requires.stands.invariants)

pub add_states-requires : goal.add_states-requires
add_states-requires c =
    beside (IsStateOf c.in_ok-sorts.sorts) c.args.tokens.now.states.items _ c.args.trees.now.states.items _ c.deref-6.ensures.value c.deref-5.ensures.value
    (states_of_map c.in_ok-sorts.sorts (model_of c.args.model.now) c.in_ok-sorts.ensures.states c.args.tokens.now.states.items c.requires.written.states c.args.trees.now.states.items c.requires.are_tokens.states c.requires.stands.states)

pub add_inputs-requires : goal.add_inputs-requires
add_inputs-requires c =
    beside IsInputOf c.args.tokens.now.inputs.items _ c.args.trees.now.inputs.items _ c.deref-8.ensures.value c.deref-7.ensures.value
    (inputs_of c.args.tokens.now.inputs.items c.requires.written.inputs c.args.trees.now.inputs.items c.requires.are_tokens.inputs c.requires.stands.inputs)

pub add_commits-requires : goal.add_commits-requires
add_commits-requires c =
    beside IsCommitOf c.args.tokens.now.instructions.items _ c.args.trees.now.instructions.items _ c.deref-10.ensures.value c.deref-9.ensures.value
    (commits_of c.args.tokens.now.instructions.items c.requires.written.instructions c.args.trees.now.instructions.items c.requires.are_tokens.instructions c.requires.stands.instructions)

pub returns : goal.returns
returns c =
    all_listed c.in_ok-sorts.sorts (model_of c.args.model.now) c.in_ok-sorts.ensures.states c.in_ok-sorts.ensures.inputs c.args.trees.now c.new-list.result.items
    c.add_conditions.new.list.items c.add_conditions-2.new.list.items c.add.new.list.items c.add_states.new.list.items c.add_inputs.new.list.items
    c.add_commits.new.list.items c.new-list.ensures.items
    (more_of condition_asked _ _ _ c.args.trees.now.assume.items c.deref.ensures.value c.in_ok-add_conditions.ensures)
    (more_of condition_asked _ _ _ c.args.trees.now.invariants.items c.deref-3.ensures.value c.in_ok-add_conditions-2.ensures) c.in_ok-add.ensures
    (more_of (state_asked c.in_ok-sorts.sorts) _ _ _ c.args.trees.now.states.items c.deref-5.ensures.value c.in_ok-add_states.ensures)
    (more_of (input_asked c.in_ok-sorts.sorts) _ _ _ c.args.trees.now.inputs.items c.deref-7.ensures.value c.in_ok-add_inputs.ensures)
    (more_of commit_asked _ _ _ c.args.trees.now.instructions.items c.deref-9.ensures.value c.in_ok-add_commits.ensures)
