use Rattle.std.proofs.Common.{◌≡◌, ◌∙◌, ◌<◌, length, refl, sym, ap, subst, arith}
use Rattle.wb_terms.specs.Environment.{AreOfSorts}
use Rattle.ila_model.specs.Model.{model_of}
use Rattle.v_design.specs.declared.values.Inputs.{Inputs}
use Rattle.v_design.specs.Seen.{parts_of, input_values}
use Rattle.v_design.specs.Parts.{inputs_of}
use Rattle.v_cycle.specs.Running.{registers_in}
use Rattle.mapped_designs.specs.View.{mapped_of}
use Rattle.mapped_designs.specs.Runs.{registers_at}
use Rattle.watch_laws.specs.Positions.{IsWatchedTo}
use Rattle.watched_runs.specs.Watched.{IsWatched}
use Rattle.watch_laws.proofs.Watching.{at_start}
use Rattle.run_watch.specs.declared.answers.Watched.{Watched}
use Rattle.run_watch.specs.declared.answers.Watched.TheVariants.{Agrees}
use Rattle.run_watch.specs.View.{values_of_script, watched_of}
use Rattle.run_watch.specs.Turns.{IsPosition, position_of, IsFailure, IsTurnOf, answer_at}
use Rattle.run_watch.proofs.Lists.{read_at}
use Rattle.run_watch.proofs.Names.{states_apart}
use Rattle.run_watch.proofs.ZeroInputs.{zeros_sorted}
use Rattle.run_watch.proofs.Watches.{next_registers, cycle_there, cycle_after, failure_at, position_on, watched_on, leaves, differs, ends}
use Rattle.run_watch.proofs.watching.watch.Goals as goal

pub loop-k-init : goal.loop-k-init
loop-k-init c = record {
  made = c.in_ok-cycle.ensures.made;
  registers = c.in_ok-cycle.ensures.registers;
  position = tt;
  watched = λ s run w. at_start s run;
}

pub cycle-requires-clause-inputs : goal.cycle-requires-clause-inputs
cycle-requires-clause-inputs c =
    let i = c.index-inputs-k.result in
    subst (λ (y : Inputs). AreOfSorts (inputs_of (parts_of c.args.mapped.now.design)) (input_values y)) (sym c.index-inputs-k.is)
    (c.requires.inputs c.loop-k.k i (omega (arith, c.loop-k-test.true)))

pub loop-k-preserved : goal.loop-k-preserved
loop-k-preserved c =
    let model = c.args.model.now in
    let m = model_of model in
    let e = mapped_of c.args.mapped.now in
    let r = c.args.registers.now in
    let is = c.args.inputs.now in
    let x = values_of_script e.parts r is in
    let k = c.loop-k.k in
    let i = c.index-inputs-k.result in
    let less : k < length is = omega (arith, c.loop-k-test.true) in
    let at = read_at is k i less c.index-inputs-k.is in
    let before = registers_in c.loop-k.cycle in
    let was = c.loop-k.invariant.registers in
    record {
      made = c.cycle.ensures.made;
      registers = next_registers e r is k i before (registers_in c.cycle.new.self) less at was c.cycle.ensures.registers;
      position = position_on m e k c.in-Goes.next c.in_ok-which.field-0 c.in_ok-which.ensures.sound c.in-Goes.is;
      watched = λ s run w.
          let z = cycle_there e r is m s run w c.cycle.new.self k i before less at was c.cycle.ensures.ran in
          let stands = c.loop-k.invariant.watched s run w in
          let none =
          subst (IsFailure s run k) c.in_default.is
          (failure_at m e x s run (length is) c.cycle.new.self k c.loop-k.position c.is_running.result c.failing_premise.result z less stands c.is_running.ensures
          c.failing_premise.ensures) in
          watched_on m s run k c.in-Goes.next c.in_ok-which.field-0 (c.in_ok-which.ensures.turn x s run (length is) z less none stands) c.in-Goes.is;
    }

pub returns-in-Some : goal.returns-in-Some
returns-in-Some c s run w =
    let model = c.args.model.now in
    let m = model_of model in
    let e = mapped_of c.args.mapped.now in
    let r = c.args.registers.now in
    let is = c.args.inputs.now in
    let x = values_of_script e.parts r is in
    let k = c.loop-k.k in
    let i = c.index-inputs-k.result in
    let less : k < length is = omega (arith, c.loop-k-test.true) in
    let at = read_at is k i less c.index-inputs-k.is in
    let z = cycle_there e r is m s run w c.cycle.new.self k i (registers_in c.loop-k.cycle) less at c.loop-k.invariant.registers c.cycle.ensures.ran in
    let stands = c.loop-k.invariant.watched s run w in
    let fails =
    subst (IsFailure s run k) c.in-Some.is
    (failure_at m e x s run (length is) c.cycle.new.self k c.loop-k.position c.is_running.result c.failing_premise.result z less stands c.is_running.ensures
    c.failing_premise.ensures) in
    subst (λ (a : Watched). IsWatched s run (length is) (watched_of a)) (sym c.answer.ensures)
    (leaves m e x s run (length is) (states_apart model) w k c.in-Some.premise c.in_ok-last.last _ less stands fails
    (c.in_ok-last.ensures x s run (length is) z stands))

pub returns-in-Differs : goal.returns-in-Differs
returns-in-Differs c s run w =
    let model = c.args.model.now in
    let m = model_of model in
    let e = mapped_of c.args.mapped.now in
    let r = c.args.registers.now in
    let is = c.args.inputs.now in
    let x = values_of_script e.parts r is in
    let k = c.loop-k.k in
    let i = c.index-inputs-k.result in
    let less : k < length is = omega (arith, c.loop-k-test.true) in
    let at = read_at is k i less c.index-inputs-k.is in
    let z = cycle_there e r is m s run w c.cycle.new.self k i (registers_in c.loop-k.cycle) less at c.loop-k.invariant.registers c.cycle.ensures.ran in
    let stands = c.loop-k.invariant.watched s run w in
    let none =
    subst (IsFailure s run k) c.in_default.is
    (failure_at m e x s run (length is) c.cycle.new.self k c.loop-k.position c.is_running.result c.failing_premise.result z less stands c.is_running.ensures
    c.failing_premise.ensures) in
    let turn = subst (IsTurnOf m s run k) c.in-Differs.is (c.in_ok-which.ensures.turn x s run (length is) z less none stands) in
    differs m e x s run (length is) (states_apart model) w k c.in-Differs.which _ less stands none turn

pub cycle-requires-2-clause-inputs : goal.cycle-requires-2-clause-inputs
cycle-requires-2-clause-inputs c = zeros_sorted (parts_of c.args.mapped.now.design) (input_values c.in_ok-zeros.zeros) c.in_ok-zeros.ensures

pub last_disagreement-requires-2-clause-position : goal.last_disagreement-requires-2-clause-position
last_disagreement-requires-2-clause-position c =
    let is = c.args.inputs.now in
    let same : c.loop-k.k ≡ length is = omega (arith, c.loop-k-test.false, c.loop-k.auto.k-end) in
    subst (λ t. IsPosition (model_of c.args.model.now) (mapped_of c.args.mapped.now) t c.loop-k.position) same c.loop-k.invariant.position

pub returns : goal.returns
returns c s run w =
    let model = c.args.model.now in
    let m = model_of model in
    let e = mapped_of c.args.mapped.now in
    let r = c.args.registers.now in
    let is = c.args.inputs.now in
    let x = values_of_script e.parts r is in
    let same : c.loop-k.k ≡ length is = omega (arith, c.loop-k-test.false, c.loop-k.auto.k-end) in
    let was = subst (λ t. registers_in c.loop-k.cycle ≡ registers_at e.parts x t) same c.loop-k.invariant.registers in
    let z = cycle_after e r is m s run w c.cycle-2.new.self (length is) c.in_ok-zeros.zeros (registers_in c.loop-k.cycle) refl was c.in_ok-zeros.ensures c.cycle-2.ensures.ran in
    let stands = subst (λ t. IsWatchedTo s run t (position_of m c.loop-k.position)) same (c.loop-k.invariant.watched s run w) in
    let told = c.answer-2.ensures ∙ ap (λ n. answer_at (length is) c.in_ok-last-2.last (Agrees n)) c.ended.ensures in
    subst (λ (a : Watched). IsWatched s run (length is) (watched_of a)) (sym told)
    (ends m e x s run (length is) (states_apart model) w (length is) c.loop-k.position c.in_ok-last-2.last refl stands
    (c.in_ok-last-2.ensures x s run (length is) z stands))
