use Rattle.std.proofs.Common.{◌≡◌, ◌+◌, ◌<◌, ◌≤◌, ◌∙◌, suc, Some, not, length, drop, ap, sym, subst, arith}
use Rattle.model_files.specs.Written.{no_child}
use Rattle.ila_file.specs.View.{instruction_view, instructions_view, instructions_from, machine_view}
use Rattle.ila_file.specs.declared.written.WrittenChild.{out-WrittenChild}
use Rattle.ila_build.specs.Building.{own_instructions, IsChildPut}
use Rattle.ila_build.specs.Inside.{AreChildrenPut, IsProgramPut, program_in, links_from}
use Rattle.ila_build.proofs.Definitions.{rest_cut, rest_end}
use Rattle.ila_build.proofs.WrittenParts.{instructions_seen, child_seen, no_child_seen}
use Rattle.ila_build.proofs.InsideLemmas.{AreToPutInside, no_child_put, inside_start, inside_turn, inside_end, program_put}
use Rattle.std.proofs.lemmas.Result.{err_from_is_err_and}
use Rattle.ila_build.specs.Refusing.{IsNoRefusal, IsProgramDue, AreBelowDue, names_below, names_of_child}
use Rattle.ila_build.proofs.Fresh.{bring_start}
use Rattle.ila_build.proofs.ChildDue.{own_child_lost, below_lost, below_turn, fit_turn, child_lost}
use Rattle.ila_build.specs.Layout.{AreLaidPut, IsLaidPut}
use Rattle.ila_build.proofs.LayoutLemmas.{AreToLay, lay_start, lay_turn, lay_end, none_laid, program_laid}
use Rattle.ila_build.specs.Leaving.{IsLeft}
use Rattle.ila_build.specs.Sizes.{size_below, size_of_child}
use Rattle.ila_build.proofs.Declared.{in_table}
use Rattle.ila_build.proofs.LeavingLemmas.{IsLeaving, left_same, leave_start, leave_below, leave_below_lost, leave_end, own_left, program_left, front_same, front_equal, front_onward, front_pushed}
use Rattle.ila_build.proofs.inside.+inside.Goals as goal

pub put_child_of-returns-in-None-clause-put : goal.put_child_of-returns-in-None-clause-put
put_child_of-returns-in-None-clause-put t c =
    let e : no_child ≡ program_in (instruction_view c.args.instruction.now) = sym (no_child_seen c.args.instruction.now c.in-None.is) in
    subst (IsProgramPut c.args.terms.now c.args.known.now c.args.children.now.items c.args.terms.now c.args.known.now c.args.children.now.items) e
    (no_child_put c.args.terms.now c.args.known.now c.args.children.now.items c.requires)

pub put_children-loop-instruction-init : goal.put_children-loop-instruction-init
put_children-loop-instruction-init t c =
    (inside_start c.args.terms.now c.args.known.now c.args.children.now.items (instructions_view c.deref-instruction-items.result.now) c.requires, bring_start c.args.known.now (names_below (instructions_view c.deref-instruction-items.result.now)), (λ f. f), lay_start c.args.terms.now c.args.known.now c.args.children.now.items c.args.around (instructions_view c.deref-instruction-items.result.now), leave_start c.args.terms.now c.args.known.now (names_below (instructions_view c.deref-instruction-items.result.now)) (size_below (instructions_view c.deref-instruction-items.result.now)), front_same c.args.children.now.items)

pub put_children-loop-instruction-preserved : goal.put_children-loop-instruction-preserved
put_children-loop-instruction-preserved t c =
    let is = c.deref-instruction-items.result.now in
    let i = c.loop-instruction.instruction-index in
    let w = c.instruction-item.result in
    let h : i < length is = omega arith in
    let all = instructions_view is in
    let rest = instructions_view (drop (i + 1) is) in
    let cut = ap instructions_from (rest_cut instruction_view is i w h c.instruction-item.is) in (
      inside_turn c.args.terms.now c.loop-instruction.terms c.put_child_of.new.terms c.args.known.now c.loop-instruction.known c.put_child_of.new.known
          c.args.children.now.items c.loop-instruction.children.items c.put_child_of.new.children.items (instruction_view w) rest all
          (subst (λ r. AreToPutInside c.args.terms.now c.args.known.now c.args.children.now.items c.loop-instruction.terms c.loop-instruction.known c.loop-instruction.children.items r all) (ap instructions_from (rest_cut instruction_view is i w h c.instruction-item.is)) c.loop-instruction.invariant.0)
          c.in_ok-put_child_of.ensures.put,
      below_turn c.args.known.now c.loop-instruction.known c.put_child_of.new.known (instruction_view w) (instructions_view (drop i is)) rest all cut c.loop-instruction.invariant.1 c.in_ok-put_child_of.ensures.left.besides,
      fit_turn (instruction_view w) (instructions_view (drop i is)) rest all cut c.loop-instruction.invariant.2,
      lay_turn c.args.terms.now c.loop-instruction.terms c.put_child_of.new.terms c.args.known.now c.loop-instruction.known c.put_child_of.new.known c.args.children.now.items c.loop-instruction.children.items c.put_child_of.new.children.items c.args.around
          (instruction_view w) (instructions_view (drop i is)) rest all cut c.loop-instruction.invariant.0 c.in_ok-put_child_of.ensures.put c.loop-instruction.invariant.3 c.in_ok-put_child_of.ensures.laid,
      leave_below c.args.terms.now c.loop-instruction.terms c.put_child_of.new.terms c.args.known.now c.loop-instruction.known c.put_child_of.new.known (instruction_view w) (instructions_view (drop i is)) rest all cut c.loop-instruction.invariant.4 c.in_ok-put_child_of.ensures.left,
      front_onward c.args.children.now.items c.loop-instruction.children.items c.put_child_of.new.children.items c.loop-instruction.invariant.5 c.in_ok-put_child_of.ensures.in_front,
    )

pub put_children-returns-clause-put : goal.put_children-returns-clause-put
put_children-returns-clause-put t c =
    let is = c.deref-instruction-items.result.now in
    let i = c.loop-instruction.instruction-index in
    let h : length is ≤ i = omega arith in
    let all = instructions_view is in
    let e : all ≡ own_instructions (machine_view c.args.machine.now) = ap instructions_view c.deref-instruction-items.ensures.value ∙ instructions_seen c.args.machine.now in
    subst (AreChildrenPut c.args.terms.now c.args.known.now c.args.children.now.items c.loop-instruction.terms c.loop-instruction.known c.loop-instruction.children.items) e
    (inside_end c.args.terms.now c.loop-instruction.terms c.args.known.now c.loop-instruction.known c.args.children.now.items c.loop-instruction.children.items all
    (subst (λ r. AreToPutInside c.args.terms.now c.args.known.now c.args.children.now.items c.loop-instruction.terms c.loop-instruction.known c.loop-instruction.children.items r all) (ap instructions_from (rest_end instruction_view is i h)) c.loop-instruction.invariant.0))

pub put_program-returns-clause-put : goal.put_program-returns-clause-put
put_program-returns-clause-put t c =
    let ok = c.is_err.ensures.negation ∙ ap not c.if-is_err.false in
    let pushed = rw ok at c.push.ensures.items in
    let own = out-WrittenChild c.args.child.now in
    let w = machine_view own.machine in
    let next : c.in-Some.next ≡ suc (length c.args.children.now.items) = omega (arith, c.in-Some.ensures, c.len-id.ensures) in
    let links : c.in-Ok.links.items ≡ links_from (suc (length c.args.children.now.items)) (own_instructions w) = c.in-Ok.ensures ∙ ap (λ k. links_from k (own_instructions w)) next in
    subst (IsProgramPut c.args.terms.now c.args.known.now c.args.children.now.items c.put_children.new.terms c.put_children.new.known c.put_children.new.children.items) (sym (child_seen c.args.child.now))
    (program_put c.args.terms.now c.put_child.new.terms c.put_children.new.terms c.args.known.now c.put_child.new.known c.put_children.new.known c.in-Ok.links.items
    c.args.children.now.items c.push.new.self.items c.put_children.new.children.items w own.steps c.in_ok-own.own
    c.in_ok-own.ensures.left.wider c.in_ok-own.ensures.left.kept c.in_ok-own.ensures.steps (subst (λ ls. IsChildPut c.args.terms.now c.args.known.now c.put_child.new.terms c.put_child.new.known ls w c.in_ok-own.own) c.deref.ensures.value c.in_ok-own.ensures.put) pushed links c.in_ok-put_children.ensures.put)

pub put_children-returns-in_err-put_child_of-clause-unrefused : goal.put_children-returns-in_err-put_child_of-clause-unrefused
put_children-returns-in_err-put_child_of-clause-unrefused t c =
    let p = err_from_is_err_and c.from_residual.result c.from_residual.ensures.1 in
    let is = c.deref-instruction-items.result.now in
    let i = c.loop-instruction.instruction-index in
    let w = c.instruction-item.result in
    let h : i < length is = omega arith in
    let all = instructions_view is in
    let rest = instructions_view (drop (i + 1) is) in
    let s = c.in_err-put_child_of.field-0.0 in
    let e : all ≡ own_instructions (machine_view c.args.machine.now) = ap instructions_view c.deref-instruction-items.ensures.value ∙ instructions_seen c.args.machine.now in
    let cut = ap instructions_from (rest_cut instruction_view is i w h c.instruction-item.is) in
    rw (p.1, p.2) (subst (λ x. IsNoRefusal s (AreBelowDue c.args.terms.now c.args.known.now x)) e
    (child_lost c.args.terms.now c.loop-instruction.terms c.args.known.now c.loop-instruction.known c.args.children.now.items c.loop-instruction.children.items (instruction_view w) (instructions_view (drop i is)) rest all s
    cut c.loop-instruction.invariant.0 c.loop-instruction.invariant.1 c.loop-instruction.invariant.2 c.in_err-put_child_of.ensures.unrefused))

pub put_program-returns-in_err-own-clause-unrefused : goal.put_program-returns-in_err-own-clause-unrefused
put_program-returns-in_err-own-clause-unrefused t c =
    let p = err_from_is_err_and c.from_residual.result c.from_residual.ensures.1 in
    let own = out-WrittenChild c.args.child.now in
    let s = c.in_err-own.field-0.0 in
    rw (p.1, p.2) (subst (λ x. IsNoRefusal s (IsProgramDue c.args.terms.now c.args.known.now x)) (sym (child_seen c.args.child.now)) (own_child_lost c.args.terms.now c.args.known.now own.steps (machine_view own.machine) s c.in_err-own.ensures.unrefused))

pub put_program-returns-in_err-put_children-clause-unrefused : goal.put_program-returns-in_err-put_children-clause-unrefused
put_program-returns-in_err-put_children-clause-unrefused t c =
    let p = err_from_is_err_and c.from_residual-in_err-put_children.result c.from_residual-in_err-put_children.ensures.1 in
    let own = out-WrittenChild c.args.child.now in
    let w = machine_view own.machine in
    let s = c.in_err-put_children.field-0.0 in
    rw (p.1, p.2) (subst (λ x. IsNoRefusal s (IsProgramDue c.args.terms.now c.args.known.now x)) (sym (child_seen c.args.child.now))
    (below_lost c.args.terms.now c.put_child.new.terms c.args.known.now c.put_child.new.known c.deref.result.now own.steps w c.in_ok-own.own s c.in_ok-own.ensures.put c.in_ok-own.ensures.left.besides c.in_err-put_children.ensures.unrefused))

pub put_child_of-returns-in-None-clause-laid : goal.put_child_of-returns-in-None-clause-laid
put_child_of-returns-in-None-clause-laid t c =
    let e : no_child ≡ program_in (instruction_view c.args.instruction.now) = sym (no_child_seen c.args.instruction.now c.in-None.is) in
    subst (IsLaidPut c.args.terms.now c.args.known.now c.args.children.now.items c.args.terms.now c.args.children.now.items c.args.around) e
    (none_laid c.args.terms.now c.args.known.now c.args.children.now.items c.args.around)

pub put_children-returns-clause-laid : goal.put_children-returns-clause-laid
put_children-returns-clause-laid t c =
    let is = c.deref-instruction-items.result.now in
    let i = c.loop-instruction.instruction-index in
    let h : length is ≤ i = omega arith in
    let all = instructions_view is in
    let e : all ≡ own_instructions (machine_view c.args.machine.now) = ap instructions_view c.deref-instruction-items.ensures.value ∙ instructions_seen c.args.machine.now in
    subst (AreLaidPut c.args.terms.now c.args.known.now c.args.children.now.items c.loop-instruction.terms c.loop-instruction.children.items c.args.around) e
    (lay_end c.args.terms.now c.loop-instruction.terms c.args.known.now c.args.children.now.items c.loop-instruction.children.items c.args.around all
    (subst (λ r. AreToLay c.args.terms.now c.args.known.now c.args.children.now.items c.loop-instruction.terms c.loop-instruction.children.items c.args.around r all) (ap instructions_from (rest_end instruction_view is i h)) c.loop-instruction.invariant.3))

pub put_program-returns-clause-laid : goal.put_program-returns-clause-laid
put_program-returns-clause-laid t c =
    let ok = c.is_err.ensures.negation ∙ ap not c.if-is_err.false in
    let pushed = rw ok at c.push.ensures.items in
    let own = out-WrittenChild c.args.child.now in
    let w = machine_view own.machine in
    let next : c.in-Some.next ≡ suc (length c.args.children.now.items) = omega (arith, c.in-Some.ensures, c.len-id.ensures) in
    let links : c.in-Ok.links.items ≡ links_from (suc (length c.args.children.now.items)) (own_instructions w) = c.in-Ok.ensures ∙ ap (λ k. links_from k (own_instructions w)) next in
    let id : c.len-id.result ≡ length c.args.children.now.items = omega (arith, c.len-id.ensures) in
    subst (IsLaidPut c.args.terms.now c.args.known.now c.args.children.now.items c.put_children.new.terms c.put_children.new.children.items c.args.around) (sym (child_seen c.args.child.now))
    (program_laid c.args.terms.now c.put_child.new.terms c.put_children.new.terms c.args.known.now c.put_child.new.known c.in-Ok.links.items
    c.args.children.now.items c.push.new.self.items c.put_children.new.children.items c.args.around _ w own.steps c.in_ok-own.own
    (subst (λ ls. IsChildPut c.args.terms.now c.args.known.now c.put_child.new.terms c.put_child.new.known ls w c.in_ok-own.own) c.deref.ensures.value c.in_ok-own.ensures.put) pushed links (ap (λ n. Some (record { 0 = n })) id)
    c.in_ok-own.ensures.around c.in_ok-own.ensures.steps c.in_ok-own.ensures.first c.in_ok-own.ensures.names c.in_ok-own.ensures.values c.in_ok-put_children.ensures.put.wider c.in_ok-put_children.ensures.laid)

pub put_child_of-returns-in-None-clause-left : goal.put_child_of-returns-in-None-clause-left
put_child_of-returns-in-None-clause-left t c = left_same c.args.terms.now c.args.known.now _ _ (in_table c.args.terms.now c.args.known.now c.requires)

pub put_child_of-returns-in-None-clause-in_front : goal.put_child_of-returns-in-None-clause-in_front
put_child_of-returns-in-None-clause-in_front t c = front_same c.args.children.now.items

pub put_children-returns-in_err-put_child_of-clause-left : goal.put_children-returns-in_err-put_child_of-clause-left
put_children-returns-in_err-put_child_of-clause-left t c =
    let is = c.deref-instruction-items.result.now in
    let i = c.loop-instruction.instruction-index in
    let w = c.instruction-item.result in
    let h : i < length is = omega arith in
    let all = instructions_view is in
    let rest = instructions_view (drop (i + 1) is) in
    let e : all ≡ own_instructions (machine_view c.args.machine.now) = ap instructions_view c.deref-instruction-items.ensures.value ∙ instructions_seen c.args.machine.now in
    let cut = ap instructions_from (rest_cut instruction_view is i w h c.instruction-item.is) in
    subst (λ x. IsLeft c.args.terms.now c.args.known.now c.put_child_of.new.terms c.put_child_of.new.known (names_below x) (size_below x)) e
    (leave_below_lost c.args.terms.now c.loop-instruction.terms c.put_child_of.new.terms c.args.known.now c.loop-instruction.known c.put_child_of.new.known (instruction_view w) (instructions_view (drop i is)) rest all cut c.loop-instruction.invariant.4 c.in_err-put_child_of.ensures.left)

pub put_children-returns-in_err-put_child_of-clause-in_front : goal.put_children-returns-in_err-put_child_of-clause-in_front
put_children-returns-in_err-put_child_of-clause-in_front t c = front_onward c.args.children.now.items c.loop-instruction.children.items c.put_child_of.new.children.items c.loop-instruction.invariant.5 c.in_err-put_child_of.ensures.in_front

pub put_children-returns-clause-left : goal.put_children-returns-clause-left
put_children-returns-clause-left t c =
    let is = c.deref-instruction-items.result.now in
    let i = c.loop-instruction.instruction-index in
    let h : length is ≤ i = omega arith in
    let all = instructions_view is in
    let e : all ≡ own_instructions (machine_view c.args.machine.now) = ap instructions_view c.deref-instruction-items.ensures.value ∙ instructions_seen c.args.machine.now in
    subst (λ x. IsLeft c.args.terms.now c.args.known.now c.loop-instruction.terms c.loop-instruction.known (names_below x) (size_below x)) e
    (leave_end c.args.terms.now c.loop-instruction.terms c.args.known.now c.loop-instruction.known (names_below all) (size_below all) (in_table c.loop-instruction.terms c.loop-instruction.known c.loop-instruction.invariant.0.table)
    (subst (λ r. IsLeaving c.args.terms.now c.args.known.now c.loop-instruction.terms c.loop-instruction.known (names_below r) (size_below r) (names_below all) (size_below all)) (ap instructions_from (rest_end instruction_view is i h)) c.loop-instruction.invariant.4))

pub put_program-returns-in_default-clause-left : goal.put_program-returns-in_default-clause-left
put_program-returns-in_default-clause-left t c = left_same c.args.terms.now c.args.known.now _ _ (in_table c.args.terms.now c.args.known.now c.requires)

pub put_program-returns-in_default-links_of-clause-left : goal.put_program-returns-in_default-links_of-clause-left
put_program-returns-in_default-links_of-clause-left t c = left_same c.args.terms.now c.args.known.now _ _ (in_table c.args.terms.now c.args.known.now c.requires)

pub put_program-returns-in_err-own-clause-left : goal.put_program-returns-in_err-own-clause-left
put_program-returns-in_err-own-clause-left t c =
    let own = out-WrittenChild c.args.child.now in
    subst (λ x. IsLeft c.args.terms.now c.args.known.now c.put_child.new.terms c.put_child.new.known (names_of_child x) (size_of_child x)) (sym (child_seen c.args.child.now))
    (own_left c.args.terms.now c.put_child.new.terms c.args.known.now c.put_child.new.known own.steps (machine_view own.machine) c.in_err-own.ensures.left)

pub put_program-returns-then-is_err-clause-left : goal.put_program-returns-then-is_err-clause-left
put_program-returns-then-is_err-clause-left t c =
    let own = out-WrittenChild c.args.child.now in
    subst (λ x. IsLeft c.args.terms.now c.args.known.now c.put_child.new.terms c.put_child.new.known (names_of_child x) (size_of_child x)) (sym (child_seen c.args.child.now))
    (own_left c.args.terms.now c.put_child.new.terms c.args.known.now c.put_child.new.known own.steps (machine_view own.machine) c.in_ok-own.ensures.left)

pub put_program-returns-in_err-put_children-clause-left : goal.put_program-returns-in_err-put_children-clause-left
put_program-returns-in_err-put_children-clause-left t c =
    let own = out-WrittenChild c.args.child.now in
    subst (λ x. IsLeft c.args.terms.now c.args.known.now c.put_children.new.terms c.put_children.new.known (names_of_child x) (size_of_child x)) (sym (child_seen c.args.child.now))
    (program_left c.args.terms.now c.put_child.new.terms c.put_children.new.terms c.args.known.now c.put_child.new.known c.put_children.new.known own.steps (machine_view own.machine) c.in_ok-own.ensures.left c.in_err-put_children.ensures.left)

pub put_program-returns-clause-left : goal.put_program-returns-clause-left
put_program-returns-clause-left t c =
    let own = out-WrittenChild c.args.child.now in
    subst (λ x. IsLeft c.args.terms.now c.args.known.now c.put_children.new.terms c.put_children.new.known (names_of_child x) (size_of_child x)) (sym (child_seen c.args.child.now))
    (program_left c.args.terms.now c.put_child.new.terms c.put_children.new.terms c.args.known.now c.put_child.new.known c.put_children.new.known own.steps (machine_view own.machine) c.in_ok-own.ensures.left c.in_ok-put_children.ensures.left)

pub put_program-returns-in_default-clause-in_front : goal.put_program-returns-in_default-clause-in_front
put_program-returns-in_default-clause-in_front t c = front_same c.args.children.now.items

pub put_program-returns-in_default-links_of-clause-in_front : goal.put_program-returns-in_default-links_of-clause-in_front
put_program-returns-in_default-links_of-clause-in_front t c = front_same c.args.children.now.items

pub put_program-returns-in_err-own-clause-in_front : goal.put_program-returns-in_err-own-clause-in_front
put_program-returns-in_err-own-clause-in_front t c = front_same c.args.children.now.items

pub put_program-returns-then-is_err-clause-in_front : goal.put_program-returns-then-is_err-clause-in_front
put_program-returns-then-is_err-clause-in_front t c =
    let no = c.is_err.ensures.negation ∙ ap not c.if-is_err.true in
    front_equal c.args.children.now.items c.push.new.self.items (rw no at c.push.ensures.items)

pub put_program-returns-in_err-put_children-clause-in_front : goal.put_program-returns-in_err-put_children-clause-in_front
put_program-returns-in_err-put_children-clause-in_front t c =
    let ok = c.is_err.ensures.negation ∙ ap not c.if-is_err.false in
    front_pushed c.args.children.now.items c.push.new.self.items c.put_children.new.children.items c.in_ok-own.own (rw ok at c.push.ensures.items) c.in_err-put_children.ensures.in_front

pub put_program-returns-clause-in_front : goal.put_program-returns-clause-in_front
put_program-returns-clause-in_front t c =
    let ok = c.is_err.ensures.negation ∙ ap not c.if-is_err.false in
    front_pushed c.args.children.now.items c.push.new.self.items c.put_children.new.children.items c.in_ok-own.own (rw ok at c.push.ensures.items) c.in_ok-put_children.ensures.in_front
