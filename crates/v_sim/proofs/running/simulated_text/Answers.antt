use Rattle.std.proofs.Common.{Vec, Global, ◌≡◌, ◌++◌, ◌+◌, ◌∙◌, true, drop, map, sym, ap, subst, arith}
use Rattle.std.specs.List.{list_all}
use Rattle.std.proofs.lemmas.List.{drop_all}
use Rattle.wb_terms.specs.Environment.{as_value}
use Rattle.v_design.specs.Seen.{parts_of, input_values}
use Rattle.v_cycle.specs.Running.{registers_in}
use Rattle.ila_sim.specs.declared.set.Set.{Set}
use Rattle.ila_sim.specs.Sets.{are_right}
use Rattle.v_sim.specs.Names.{names_by}
use Rattle.v_sim.specs.Texts.{first_values, input_lines, line_values, text_from, IsSortedRun}
use Rattle.v_sim.proofs.Turn.{lines_next, rest_right, turn_told, turn_sorted, as_many, end_told, end_sorted}
use Rattle.v_sim.proofs.running.simulated_text.Goals as goal

pub loop-place-init : goal.loop-place-init
loop-place-init c =
    let e = parts_of c.args.design.now in
    let s = c.args.script.now in
    let lines = c.deref-sets-items.ensures.value in
    let begun = c.in_ok-cycle.ensures.registers ∙ (c.in_ok-registers.ensures.values ∙ ap (first_values e) c.deref.ensures.value) in record {
      made = c.in_ok-cycle.ensures.made;
      right = subst (λ ls. list_all (λ (l : Vec Set Global). are_right (names_by e).inputs l.items) ls ≡ true) (sym lines) c.requires.script.1;
      told = ap (λ t. t ++ text_from e 0 (registers_in c.in_ok-cycle.cycle) (input_lines c.deref-sets-items.result.now)) c.new-text.ensures.items
          ∙ (ap (λ rs. text_from e 0 rs (input_lines c.deref-sets-items.result.now)) begun ∙ ap (λ ls. text_from e 0 (first_values e s.state.items) (input_lines ls)) lines);
      sorted = λ h. subst (λ ls. IsSortedRun e (first_values e s.state.items) (input_lines ls)) lines (subst (λ rs. IsSortedRun e rs (input_lines c.deref-sets-items.result.now)) begun h);
    }

pub loop-place-preserved : goal.loop-place-preserved
loop-place-preserved c =
    let e = parts_of c.args.design.now in
    let items = c.deref-sets-items.result.now in
    let k = c.loop-place.place in
    let line = c.sets-item.result in
    let cut = lines_next items k line (omega arith) c.sets-item.is in
    let old = registers_in c.loop-place.cycle in
    let new = registers_in c.cycle.new.self in
    let is = input_values c.in_ok-inputs.inputs in
    let values = c.in_ok-inputs.ensures.values ∙ ap (line_values e) c.deref-in-loop-place.ensures.value in
    let more = c.in_ok-append_line.ensures old is c.cycle.ensures.ran in record {
      made = c.cycle.ensures.made;
      right = rest_right (λ (l : Vec Set Global). are_right (names_by e).inputs l.items) (drop k items) (drop (k + 1) items) line cut c.loop-place.invariant.right;
      told = turn_told e k old new is (drop k items) (drop (k + 1) items) line c.loop-place.text.items c.append_line.new.out.items _ cut values c.cycle.ensures.registers more c.loop-place.invariant.told;
      sorted = turn_sorted e old new is (drop k items) (drop (k + 1) items) line _ cut values c.cycle.ensures.registers c.loop-place.invariant.made.registers c.loop-place.invariant.sorted;
    }

pub append_end-requires : goal.append_end-requires
append_end-requires c =
    let d = c.args.design.now in
    let e = parts_of d in
    as_many e c.args.names.now.states.items c.deref-2.result.now c.deref-3.result.now (registers_in c.loop-place.cycle) d.counting
    (ap (λ n. n.states) c.requires.names) c.deref-2.ensures.value (ap (map as_value) c.deref-3.ensures.value ∙ c.registers.ensures) c.loop-place.invariant.made.registers

pub returns-clause-text : goal.returns-clause-text
returns-clause-text c =
    let e = parts_of c.args.design.now in
    end_told e c.loop-place.place c.args.names.now.states.items c.deref-2.result.now c.deref-3.result.now (registers_in c.loop-place.cycle) (drop c.loop-place.place c.deref-sets-items.result.now)
    c.loop-place.text.items c.append_end.new.out.items _ (ap (λ n. n.states) c.requires.names) c.deref-2.ensures.value (ap (map as_value) c.deref-3.ensures.value ∙ c.registers.ensures)
    (drop_all c.loop-place.place c.deref-sets-items.result.now (omega arith)) c.in_ok-append_end.ensures c.loop-place.invariant.told

pub returns-clause-sorted : goal.returns-clause-sorted
returns-clause-sorted c =
    end_sorted (parts_of c.args.design.now) (registers_in c.loop-place.cycle) (drop c.loop-place.place c.deref-sets-items.result.now) _
    (drop_all c.loop-place.place c.deref-sets-items.result.now (omega arith)) c.loop-place.invariant.made.registers c.loop-place.invariant.sorted
