use Rattle.std.proofs.Common.{◌≡◌, ◌∙◌, ◌+◌, ◌-◌, ◌<◌, ◌≤◌, suc, length, drop, Some, true, sym, ap, subst, arith}
use Rattle.std.proofs.Math.Numerals.{add-one}
use Rattle.std.proofs.lemmas.Bool.{and_parts}
use Rattle.model_meaning.specs.Model.{entered}
use Rattle.model_meaning.specs.Instruction as instruction
use Rattle.model_meaning.specs.Instruction.{Reaches, DoesChild, DoesOne, ChildTrouble, OneTrouble}
use Rattle.wb_terms.specs.Environment.{AreOfSorts}
use Rattle.wb_values.specs.Value.{truth}
use Rattle.ila_model.specs.Sorted.{are_states, is_machine, is_condition, is_term_of}
use Rattle.ila_child.specs.Updating.{with_initial}
use Rattle.ila_model.specs.Meaning.{privates_of, instructions_of}
use Rattle.ila_model.proofs.Declarations.{sorted}
use Rattle.ila_child.specs.Running.{seen, point_at, HasDepth, IsLinked, IsTaken, IsRun, program_in, trouble_of}
use Rattle.ila_child.proofs.Updates.{AreOfSorts-length}
use Rattle.ila_child.proofs.Points.{entered_point}
use Rattle.ila_child.proofs.Machines.{holds_same}
use Rattle.ila_child.proofs.Programs.{low_enough, sorted_child, reach_more, steps_of, ended, too_long_at, troubled}
use Rattle.ila_child.proofs.running.+run_program.Goals as goal

pub begin-requires-clause-states : goal.begin-requires-clause-states
begin-requires-clause-states t c =
    let p = c.args.model.now.parts in
    let g = p.terms in
    let s = sorted p c.args.model.now.well_sorted in
    let d = c.args.depth in
    let at = c.args.at in
    let i = c.in-Some.id in
    let x = c.index-child.result.now in
    let linked = subst (IsLinked p.children.items at) c.in-Some.is c.requires.linked in
    let sc = sorted_child p s at i.0 d x c.requires.depth linked.0 linked.1 c.index-child.ensures in
    subst (λ is. are_states true (drop x.first.0 g.names) is ≡ true) (sym c.deref.ensures.value) sc.states

pub begin-requires-clause-within : goal.begin-requires-clause-within
begin-requires-clause-within t c =
    let p = c.args.model.now.parts in
    let g = p.terms in
    let s = sorted p c.args.model.now.well_sorted in
    let d = c.args.depth in
    let at = c.args.at in
    let i = c.in-Some.id in
    let x = c.index-child.result.now in
    let linked = subst (IsLinked p.children.items at) c.in-Some.is c.requires.linked in
    let sc = sorted_child p s at i.0 d x c.requires.depth linked.0 linked.1 c.index-child.ensures in
    subst (λ is. x.first.0 + length is ≤ length g.names) (sym c.deref.ensures.value) sc.places

pub loop-step-init : goal.loop-step-init
loop-step-init t c =
    let p = c.args.model.now.parts in
    let g = p.terms in
    let s = sorted p c.args.model.now.well_sorted in
    let d = c.args.depth in
    let at = c.args.at in
    let i = c.in-Some.id in
    let x = c.index-child.result.now in
    let linked = subst (IsLinked p.children.items at) c.in-Some.is c.requires.linked in
    let sc = sorted_child p s at i.0 d x c.requires.depth linked.0 linked.1 c.index-child.ensures in
    let xs = c.args.point.now.values in
    let begun = c.in_ok-begin.ensures.values ∙ ap (λ is. with_initial g.names x.first.0 is xs) c.deref.ensures.value in
    let there = entered_point p s i.0 d x xs sc.inside (AreOfSorts-length g.names xs c.requires.fits) in
    record {
      reaches = subst (λ a. entered (privates_of g x) (point_at p a xs) ≡ point_at p (Some i.0) (with_initial g.names x.first.0 x.initial_values.items xs)) linked.1 there ∙ ap (point_at p (Some i.0)) (sym begun);
      fits = c.in_ok-begin.ensures.fits;
      point = c.in_ok-begin.ensures.point;
      aside = c.in_ok-begin.ensures.aside;
    }

pub take-requires-clause-deep : goal.take-requires-clause-deep
take-requires-clause-deep t c =
    let p = c.args.model.now.parts in
    let g = p.terms in
    let s = sorted p c.args.model.now.well_sorted in
    let d = c.args.depth in
    let at = c.args.at in
    let i = c.in-Some.id in
    let x = c.index-child.result.now in
    let linked = subst (IsLinked p.children.items at) c.in-Some.is c.requires.linked in
    let sc = sorted_child p s at i.0 d x c.requires.depth linked.0 linked.1 c.index-child.ensures in
    record { depth = suc d; has = sc.inside.deep; low = sc.low }

pub take-requires-clause-machine : goal.take-requires-clause-machine
take-requires-clause-machine t c =
    let p = c.args.model.now.parts in
    let g = p.terms in
    let s = sorted p c.args.model.now.well_sorted in
    let d = c.args.depth in
    let at = c.args.at in
    let i = c.in-Some.id in
    let x = c.index-child.result.now in
    let linked = subst (IsLinked p.children.items at) c.in-Some.is c.requires.linked in
    let sc = sorted_child p s at i.0 d x c.requires.depth linked.0 linked.1 c.index-child.ensures in
    subst (λ is. is_machine p (Some i.0) x.valid.0 is ≡ true) (sym c.deref-in-loop-step.ensures.value) sc.machine

pub returns-in-NotValid-clause-run : goal.returns-in-NotValid-clause-run
returns-in-NotValid-clause-run t c =
    let p = c.args.model.now.parts in
    let g = p.terms in
    let s = sorted p c.args.model.now.well_sorted in
    let d = c.args.depth in
    let at = c.args.at in
    let i = c.in-Some.id in
    let x = c.index-child.result.now in
    let linked = subst (IsLinked p.children.items at) c.in-Some.is c.requires.linked in
    let sc = sorted_child p s at i.0 d x c.requires.depth linked.0 linked.1 c.index-child.ensures in
    let e = c.loop-step.point.values in
    let f = c.take.new.point.values in
    let n = c.loop-step.step in
    let v = seen p at c.args.point.now.values in
    let taken = subst (IsTaken p (Some i.0) x.valid.0 c.deref-in-loop-step.result.now e f) c.in-NotValid.is c.in_ok-take.ensures.taken in
    let steps : n ≤ x.steps = omega arith in
    let end = ended p s at i d n x c.args.point.now.values e linked.1 sc (AreOfSorts-length g.names _ c.requires.fits) (AreOfSorts-length g.names _ c.loop-step.invariant.fits) steps c.loop-step.invariant.reaches taken.1 in
    subst (λ o. DoesChild (program_in p d o) v (seen p at f)) (sym c.in-Some.is)
    (subst (λ z. DoesChild (program_in p d (Some i)) v (seen p at z)) (sym taken.0) end)

pub overflow_add-result : goal.overflow_add-result
overflow_add-result t c =
    let p = c.args.model.now.parts in
    let g = p.terms in
    let s = sorted p c.args.model.now.well_sorted in
    let d = c.args.depth in
    let at = c.args.at in
    let i = c.in-Some.id in
    let x = c.index-child.result.now in
    let linked = subst (IsLinked p.children.items at) c.in-Some.is c.requires.linked in
    let sc = sorted_child p s at i.0 d x c.requires.depth linked.0 linked.1 c.index-child.ensures in
    let low = sc.low in
    omega arith

pub overflow_add-depth : goal.overflow_add-depth
overflow_add-depth t c =
    let p = c.args.model.now.parts in
    let g = p.terms in
    let s = sorted p c.args.model.now.well_sorted in
    let d = c.args.depth in
    let at = c.args.at in
    let i = c.in-Some.id in
    let x = c.index-child.result.now in
    let linked = subst (IsLinked p.children.items at) c.in-Some.is c.requires.linked in
    let sc = sorted_child p s at i.0 d x c.requires.depth linked.0 linked.1 c.index-child.ensures in
    let low = sc.low in
    omega arith

pub overflow_add-result-then-is_valid : goal.overflow_add-result-then-is_valid
overflow_add-result-then-is_valid t c =
    let p = c.args.model.now.parts in
    let g = p.terms in
    let s = sorted p c.args.model.now.well_sorted in
    let d = c.args.depth in
    let at = c.args.at in
    let i = c.in-Some.id in
    let x = c.index-child.result.now in
    let linked = subst (IsLinked p.children.items at) c.in-Some.is c.requires.linked in
    let sc = sorted_child p s at i.0 d x c.requires.depth linked.0 linked.1 c.index-child.ensures in
    let low = sc.low in
    omega arith

pub returns-in-Stuck-clause-run : goal.returns-in-Stuck-clause-run
returns-in-Stuck-clause-run t c =
    let p = c.args.model.now.parts in
    let g = p.terms in
    let s = sorted p c.args.model.now.well_sorted in
    let d = c.args.depth in
    let at = c.args.at in
    let i = c.in-Some.id in
    let x = c.index-child.result.now in
    let linked = subst (IsLinked p.children.items at) c.in-Some.is c.requires.linked in
    let sc = sorted_child p s at i.0 d x c.requires.depth linked.0 linked.1 c.index-child.ensures in
    let e = c.loop-step.point.values in
    let f = c.take.new.point.values in
    let n = c.loop-step.step in
    let v = seen p at c.args.point.now.values in
    let is = c.deref-in-loop-step.result.now in
    let taken = subst (IsTaken p (Some i.0) x.valid.0 is e f) c.in-Stuck.is c.in_ok-take.ensures.taken in
    let one = subst (λ js. OneTrouble (instructions_of g (program_in p (suc d)) js) (seen p (Some i.0) e) (suc d) n (instruction.stuck (suc d) n)) c.deref-in-loop-step.ensures.value (taken.1 (program_in p (suc d)) (suc d) n) in
    let end = troubled p i d n x v (seen p (Some i.0) e) (instruction.stuck (suc d) n) sc c.loop-step-test.true c.loop-step.invariant.reaches taken.0 one in
    subst (λ o. ChildTrouble (program_in p d o) v (suc d) (instruction.stuck (d + 1) n)) (sym c.in-Some.is)
    (subst (λ m. ChildTrouble (program_in p d (Some i)) v (suc d) (instruction.stuck m n)) (sym (add-one d)) end)

pub run_program-requires : goal.run_program-requires
run_program-requires t c =
    let p = c.args.model.now.parts in
    let g = p.terms in
    let s = sorted p c.args.model.now.well_sorted in
    let d = c.args.depth in
    let at = c.args.at in
    let i = c.in-Some.id in
    let x = c.index-child.result.now in
    let linked = subst (IsLinked p.children.items at) c.in-Some.is c.requires.linked in
    let sc = sorted_child p s at i.0 d x c.requires.depth linked.0 linked.1 c.index-child.ensures in
    let e = c.loop-step.point.values in
    let f = c.take.new.point.values in
    let n = c.loop-step.step in
    let v = seen p at c.args.point.now.values in
    let is = c.deref-in-loop-step.result.now in
    let o = c.in-One.inner in
    let taken = subst (IsTaken p (Some i.0) x.valid.0 is e f) c.in-One.is c.in_ok-take.ensures.taken in
    let started = taken.1 in
    let low = sc.low in
    let smaller : 4 - (d + 1) < t = omega (arith, c.decreases) in
    (smaller, (subst (λ k. HasDepth p.children.items k (Some i.0)) (sym (add-one d)) sc.inside.deep, (started.linked, (c.in_ok-take.ensures.point, c.in_ok-take.ensures.fits))))

pub returns-in-Some-2-clause-run : goal.returns-in-Some-2-clause-run
returns-in-Some-2-clause-run t c =
    let p = c.args.model.now.parts in
    let g = p.terms in
    let s = sorted p c.args.model.now.well_sorted in
    let d = c.args.depth in
    let at = c.args.at in
    let i = c.in-Some.id in
    let x = c.index-child.result.now in
    let linked = subst (IsLinked p.children.items at) c.in-Some.is c.requires.linked in
    let sc = sorted_child p s at i.0 d x c.requires.depth linked.0 linked.1 c.index-child.ensures in
    let e = c.loop-step.point.values in
    let f = c.take.new.point.values in
    let n = c.loop-step.step in
    let v = seen p at c.args.point.now.values in
    let is = c.deref-in-loop-step.result.now in
    let o = c.in-One.inner in
    let taken = subst (IsTaken p (Some i.0) x.valid.0 is e f) c.in-One.is c.in_ok-take.ensures.taken in
    let started = taken.1 in
    let h = c.run_program.new.point.values in
    let ran = subst (IsRun p (Some i.0) (d + 1) o f h) c.in-Some-2.is c.in_ok-run_program-in-One.ensures.run in
    let q = trouble_of c.in-Some-2.trouble in
    let inner = subst (λ k. ChildTrouble (program_in p k o) (seen p (Some i.0) f) (suc k) q) (add-one d) ran in
    let here = started.trouble (program_in p (suc d)) (suc d) n q inner in
    let one = subst (λ js. OneTrouble (instructions_of g (program_in p (suc d)) js) (seen p (Some i.0) e) (suc d) n q) c.deref-in-loop-step.ensures.value here in
    let end = troubled p i d n x v (seen p (Some i.0) e) q sc c.loop-step-test.true c.loop-step.invariant.reaches taken.0 one in
    subst (λ r. ChildTrouble (program_in p d r) v (suc d) q) (sym c.in-Some.is) end

pub loop-step-preserved : goal.loop-step-preserved
loop-step-preserved t c =
    let p = c.args.model.now.parts in
    let g = p.terms in
    let s = sorted p c.args.model.now.well_sorted in
    let d = c.args.depth in
    let at = c.args.at in
    let i = c.in-Some.id in
    let x = c.index-child.result.now in
    let linked = subst (IsLinked p.children.items at) c.in-Some.is c.requires.linked in
    let sc = sorted_child p s at i.0 d x c.requires.depth linked.0 linked.1 c.index-child.ensures in
    let e = c.loop-step.point.values in
    let f = c.take.new.point.values in
    let n = c.loop-step.step in
    let v = seen p at c.args.point.now.values in
    let is = c.deref-in-loop-step.result.now in
    let o = c.in-One.inner in
    let taken = subst (IsTaken p (Some i.0) x.valid.0 is e f) c.in-One.is c.in_ok-take.ensures.taken in
    let started = taken.1 in
    let h = c.run_program.new.point.values in
    let ran = subst (IsRun p (Some i.0) (d + 1) o f h) c.in-None.is c.in_ok-run_program-in-One.ensures.run in
    let inner = subst (λ k. DoesChild (program_in p k o) (seen p (Some i.0) f) (seen p (Some i.0) h)) (add-one d) ran in
    let here = started.does (program_in p (suc d)) (seen p (Some i.0) h) inner in
    let does = subst (λ js. DoesOne (instructions_of g (program_in p (suc d)) js) (seen p (Some i.0) e) (seen p (Some i.0) h)) c.deref-in-loop-step.ensures.value here in
    let begins = entered (privates_of g x) v in
    let more = reach_more (steps_of p d x) n begins (seen p (Some i.0) e) (seen p (Some i.0) h) c.loop-step.invariant.reaches (taken.0, does) in
    record {
      reaches = subst (λ k. Reaches (steps_of p d x) k begins (seen p (Some i.0) h)) (sym (add-one n)) more;
      fits = c.in_ok-run_program-in-One.ensures.fits;
      point = c.in_ok-run_program-in-One.ensures.point;
      aside = c.in_ok-run_program-in-One.ensures.aside ∙ c.in_ok-take.ensures.aside ∙ c.loop-step.invariant.aside;
    }

pub holds_at-requires-clause-condition : goal.holds_at-requires-clause-condition
holds_at-requires-clause-condition t c =
    let p = c.args.model.now.parts in
    let g = p.terms in
    let s = sorted p c.args.model.now.well_sorted in
    let d = c.args.depth in
    let at = c.args.at in
    let i = c.in-Some.id in
    let x = c.index-child.result.now in
    let linked = subst (IsLinked p.children.items at) c.in-Some.is c.requires.linked in
    let sc = sorted_child p s at i.0 d x c.requires.depth linked.0 linked.1 c.index-child.ensures in
    let m = and_parts (is_condition p (Some i.0) x.valid.0) _ sc.machine in
    (and_parts (is_term_of g truth x.valid.0) _ m.0).0

pub returns-then-is_valid-clause-run : goal.returns-then-is_valid-clause-run
returns-then-is_valid-clause-run t c =
    let p = c.args.model.now.parts in
    let g = p.terms in
    let s = sorted p c.args.model.now.well_sorted in
    let d = c.args.depth in
    let at = c.args.at in
    let i = c.in-Some.id in
    let x = c.index-child.result.now in
    let linked = subst (IsLinked p.children.items at) c.in-Some.is c.requires.linked in
    let sc = sorted_child p s at i.0 d x c.requires.depth linked.0 linked.1 c.index-child.ensures in
    let e = c.loop-step.point.values in
    let n = c.loop-step.step in
    let v = seen p at c.args.point.now.values in
    let m = and_parts (is_condition p (Some i.0) x.valid.0) _ sc.machine in
    let same = sym (holds_same p (Some i.0) (suc d) e x.valid.0 sc.inside.deep (low_enough (suc d) sc.low) m.0) ∙ sym c.in_ok-is_valid.ensures.holds in
    let steps : n ≡ x.steps = omega arith in
    let end = too_long_at p i d n x v (seen p (Some i.0) e) sc steps c.loop-step.invariant.reaches (same ∙ c.if-is_valid.true) in
    subst (λ o. ChildTrouble (program_in p d o) v (suc d) (instruction.too_long (d + 1))) (sym c.in-Some.is)
    (subst (λ m. ChildTrouble (program_in p d (Some i)) v (suc d) (instruction.too_long m)) (sym (add-one d)) end)

pub returns-else-is_valid-clause-run : goal.returns-else-is_valid-clause-run
returns-else-is_valid-clause-run t c =
    let p = c.args.model.now.parts in
    let g = p.terms in
    let s = sorted p c.args.model.now.well_sorted in
    let d = c.args.depth in
    let at = c.args.at in
    let i = c.in-Some.id in
    let x = c.index-child.result.now in
    let linked = subst (IsLinked p.children.items at) c.in-Some.is c.requires.linked in
    let sc = sorted_child p s at i.0 d x c.requires.depth linked.0 linked.1 c.index-child.ensures in
    let e = c.loop-step.point.values in
    let n = c.loop-step.step in
    let v = seen p at c.args.point.now.values in
    let m = and_parts (is_condition p (Some i.0) x.valid.0) _ sc.machine in
    let same = sym (holds_same p (Some i.0) (suc d) e x.valid.0 sc.inside.deep (low_enough (suc d) sc.low) m.0) ∙ sym c.in_ok-is_valid.ensures.holds in
    let steps : n ≡ x.steps = omega arith in
    let below : n ≤ x.steps = omega arith in
    let end = ended p s at i d n x c.args.point.now.values e linked.1 sc (AreOfSorts-length g.names _ c.requires.fits) (AreOfSorts-length g.names _ c.loop-step.invariant.fits) below c.loop-step.invariant.reaches (same ∙ c.if-is_valid.false) in
    subst (λ z. DoesChild (program_in p d c.args.program) v (seen p at z)) (sym c.holds_at.ensures.values)
    (subst (λ o. DoesChild (program_in p d o) v (seen p at e)) (sym c.in-Some.is) end)

pub returns-then-is_valid-clause-fits : goal.returns-then-is_valid-clause-fits
returns-then-is_valid-clause-fits t c = subst (AreOfSorts c.args.model.now.parts.terms.names) (sym c.holds_at.ensures.values) c.loop-step.invariant.fits

pub returns-else-is_valid-clause-fits : goal.returns-else-is_valid-clause-fits
returns-else-is_valid-clause-fits t c = subst (AreOfSorts c.args.model.now.parts.terms.names) (sym c.holds_at.ensures.values) c.loop-step.invariant.fits
