use Rattle.std.proofs.Common.{string_bytes}
use Rattle.refinement.specs.Map.{design_of}
use Rattle.ila_model.specs.Model.{model_of}
use Rattle.mapped_designs.specs.View.{mapped_of}
use Rattle.run_watch.specs.View.{watched_of}
use Rattle.watch_report.proofs.Runs.{told}
use Rattle.watch_report.proofs.Refusals.{refused}
use Rattle.watch_report.proofs.watching.watched.Goals as goal

pub watch-requires-clause-registers : goal.watch-requires-clause-registers
watch-requires-clause-registers c = (rw c.in-Cycles.is at c.in_ok-cycles.ensures.values).registers

pub watch-requires-clause-inputs : goal.watch-requires-clause-inputs
watch-requires-clause-inputs c =
    rw c.deref.ensures.value ((rw c.in-Cycles.is at c.in_ok-cycles.ensures.values).inputs)

pub returns-in_ok-line-in-Cycles : goal.returns-in_ok-line-in-Cycles
returns-in_ok-line-in-Cycles c = λ s own.
    let m = model_of c.args.model.now in
    let e = mapped_of c.args.mapped.now in
    let values = rw c.in-Cycles.is at c.in_ok-cycles.ensures.values in
    let read = rw c.in-Cycles.is at (c.in_ok-cycles.ensures.read (design_of s) own.mapped.design) in
    told m e s own c.in-Cycles.cycles c.args.script.now read values c.values_have_runs.ensures c.deref.result.now
    (watched_of c.in_ok-answer-in-Cycles.answer) (string_bytes c.in_ok-line-in-Cycles.line) c.deref.ensures.value c.in_ok-answer-in-Cycles.ensures
    c.in_ok-line-in-Cycles.ensures.line

pub returns-in-Refused : goal.returns-in-Refused
returns-in-Refused c = λ s own.
    refused s c.args.script.now c.in-Refused.refusal (rw c.in-Refused.is at (c.in_ok-cycles.ensures.read (design_of s) own.mapped.design))
