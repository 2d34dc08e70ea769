use Rattle.std.proofs.Common.{ap, sym, ◌∙◌, option_map}
use Rattle.v_standing.specs.Standing.{module_at, left_in, numbered}
use Rattle.v_standing.proofs.Tables.{taken_so, left_so, within_taken, within_kept}
use Rattle.v_standing.proofs.Adding.{one_added, not_left, behind_one}
use Rattle.v_standing.proofs.below.add_named.Goals as goal

pub returns-in_ok-push-in-Some-clause-added : goal.returns-in_ok-push-in-Some-clause-added
returns-in_ok-push-in-Some-clause-added c = λ source.
    one_added source c.args.name.now (left_in source c.args.left.now) (left_in source c.remove.new.self) (numbered source c.args.found.now.items)
    (left_so source c.args.left.now c.remove.new.self c.args.name.now (taken_so c.args.left.now c.remove.new.self c.args.name.now c.remove.ensures.updates))
    (numbered source c.push.new.self.items) (module_at source c.in-Some.number) (ap (option_map (module_at source)) (sym c.in-Some.ensures.value))
    (ap (numbered source) c.in_ok-push-in-Some.ensures.items ∙ behind_one source c.args.found.now.items c.in-Some.number)

pub returns-in_ok-push-in-Some-clause-within : goal.returns-in_ok-push-in-Some-clause-within
returns-in_ok-push-in-Some-clause-within c = λ n.
    within_taken n c.args.left.now c.remove.new.self c.args.name.now c.args.found.now.items c.push.new.self.items c.in-Some.number
    (taken_so c.args.left.now c.remove.new.self c.args.name.now c.remove.ensures.updates) (sym c.in-Some.ensures.value) c.in_ok-push-in-Some.ensures.items

pub returns-in-None-clause-added : goal.returns-in-None-clause-added
returns-in-None-clause-added c = λ source.
    not_left source c.args.name.now (left_in source c.args.left.now) (left_in source c.remove.new.self) (numbered source c.args.found.now.items)
    (left_so source c.args.left.now c.remove.new.self c.args.name.now (taken_so c.args.left.now c.remove.new.self c.args.name.now c.remove.ensures.updates))
    (ap (option_map (module_at source)) (sym c.in-None.ensures.value))

pub returns-in-None-clause-within : goal.returns-in-None-clause-within
returns-in-None-clause-within c = λ n.
    within_kept n c.args.left.now c.remove.new.self c.args.name.now c.args.found.now.items (taken_so c.args.left.now c.remove.new.self c.args.name.now c.remove.ensures.updates)
