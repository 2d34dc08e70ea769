-- Values that are a whole command of an instruction, and runs that are one.
use Rattle.std.proofs.Common.{◌≡◌, ◌∙◌, ℕ, suc, ◌<◌, ◌≤◌, sym, subst, arith}
use Rattle.model_meaning.specs.Model.{Instruction, instruction_name, instructions_in}
use Rattle.refinement.specs.Obligation.{ended_at, bound_named}
use Rattle.mapped_designs.specs.Mapped.{MappedInstruction}
use Rattle.mapped_designs.specs.Runs.{Values, IsRestZero}
use Rattle.mapped_runs.specs.Valued.{Agree}
use Rattle.mapped_runs.specs.Commands.{CommandRestsOnItsBound, WholeCommandsAreShown}
use Rattle.mapped_runs.proofs.Lists.{beside, some_same}
use Rattle.mapped_runs.proofs.Within.{ended_within}
use Rattle.mapped_runs.proofs.Agreeing.{shown_all}
use Rattle.mapped_runs.proofs.Facts.{shows_all}
use Rattle.mapped_runs.proofs.ValuesOfRuns.{runs_have_values}

-- fewer cycles
agree_on : (many few : ℕ) (x y : Values) → few ≤ many → Agree many x y → Agree few x y
agree_on many few x y l a = record { first = a.first; inputs = λ t k. a.inputs t (omega (arith, l, k)) }

pub command_rests : CommandRestsOnItsBound
command_rests m e p x y j i is_i agree h =
    let same : h.ending ≡ i = some_same (sym h.is_ending ∙ is_i) in
    let below : h.cycle < i.bound = subst (λ (k : MappedInstruction). h.cycle < k.bound) same h.below in
    let cycles : suc h.cycle ≤ i.bound = omega (arith, below) in
    record {
      rest = subst (IsRestZero e.parts) agree.first h.rest;
      ending = i;
      is_ending = is_i;
      cycle = h.cycle;
      below = below;
      hypotheses = shown_all m e (suc h.cycle) x y (agree_on i.bound (suc h.cycle) x y cycles agree) (ended_at p j h.cycle) (ended_within p j h.cycle) h.hypotheses;
    }

pub whole_shown : WholeCommandsAreShown
whole_shown s e j run mapped sound h =
    let i = h.0 in
    let c = h.2 in
    let is_run = h.4 in
    let values = runs_have_values s e.parts run (suc c) mapped.design sound is_run in
    let b = beside (λ (i : Instruction). bound_named s.map (instruction_name i)) (λ (k : MappedInstruction). k.bound) (instructions_in s.model.top) e.instructions j i (sym mapped.bounds) h.1 in (
      values.0,
      values.2,
      record {
        rest = values.3;
        ending = b.other;
        is_ending = b.is_there;
        cycle = c;
        below = subst (λ n. c < n) b.is_same h.3;
        hypotheses = (shows_all s e run (suc c) values.0 mapped sound is_run values.1 (ended_at s.map j c) (ended_within s.map j c)).0 h.5;
      },
    )
