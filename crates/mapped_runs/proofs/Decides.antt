-- An obligation holds exactly where no values of the design break it, and values that are a whole command are those of a run that is.
use Rattle.std.proofs.Common.{suc, ◌<◌, subst}
use Rattle.model_meaning.specs.Model.{Instruction, instruction_name, instructions_in}
use Rattle.refinement.specs.Obligation.{ended_at, bound_named}
use Rattle.mapped_designs.specs.Mapped.{MappedInstruction}
use Rattle.mapped_runs.specs.Decided.{BreakingValuesFalsify, ValuesDecide, CommandsAreWhole}
use Rattle.mapped_runs.proofs.Lists.{beside}
use Rattle.mapped_runs.proofs.Within.{ended_within}
use Rattle.mapped_runs.proofs.Facts.{shows, shows_all}
use Rattle.mapped_runs.proofs.ValuesOfRuns.{runs_have_values}
use Rattle.mapped_runs.proofs.Stable.{stable}
use Rattle.mapped_runs.proofs.RunsOfValues.{values_have_runs}

pub breaking_falsifies : BreakingValuesFalsify
breaking_falsifies s e o x j sorted h =
    let r = values_have_runs s e.parts x j.accepted j.of_text j.mapped.design j.sound sorted h.rest in
    let run = r.0 in
    let n = r.1 o.cycles in (
      run,
      record {
        is_run = n.0;
        hypotheses = (shows_all s e run o.cycles x j.mapped j.sound n.0 n.1 o.hypotheses j.within.hypotheses).1 h.hypotheses;
        fails = λ c. h.fails ((shows s e run o.cycles x j.mapped j.sound n.0 n.1 o.claim j.within.claim).0 c);
      },
      n.1,
    )

pub values_decide : ValuesDecide
values_decide s e o j = (
  λ holds x sorted h.
      let f = breaking_falsifies s e o x j sorted h in
      f.1.fails (holds f.0 f.1.is_run f.1.hypotheses),
  λ none run is_run hypotheses.
      let v = runs_have_values s e.parts run o.cycles j.mapped.design j.sound is_run in
      let x = v.0 in
      (shows s e run o.cycles x j.mapped j.sound is_run v.1 o.claim j.within.claim).1
      (stable s.model e x o.claim
      (λ fails. none x v.2
      (record {
        rest = v.3;
        hypotheses = (shows_all s e run o.cycles x j.mapped j.sound is_run v.1 o.hypotheses j.within.hypotheses).0 hypotheses;
        fails = fails;
      }))),
)

pub commands_are_whole : CommandsAreWhole
commands_are_whole s e j x accepted text mapped sound sorted h =
    let r = values_have_runs s e.parts x accepted text mapped.design sound sorted h.rest in
    let run = r.0 in
    let c = h.cycle in
    let n = r.1 (suc c) in
    let b = beside (λ (k : MappedInstruction). k.bound) (λ (i : Instruction). bound_named s.map (instruction_name i)) e.instructions (instructions_in s.model.top) j h.ending mapped.bounds h.is_ending in (
      run,
      (
        b.other,
        b.is_there,
        c,
        subst (λ k. c < k) b.is_same h.below,
        n.0,
        (shows_all s e run (suc c) x mapped sound n.0 n.1 (ended_at s.map j c) (ended_within s.map j c)).1 h.hypotheses,
      ),
      λ cycles. (r.1 cycles).1,
    )
