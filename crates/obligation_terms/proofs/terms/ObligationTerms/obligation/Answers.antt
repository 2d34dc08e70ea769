use Rattle.std.proofs.Common.{◌∙◌, length, sym, ap}
use Rattle.ila_model.specs.Model.{model_of}
use Rattle.mapped_designs.specs.View.{mapped_of}
use Rattle.obligation_terms.proofs.Standing.{still_ready}
use Rattle.obligation_terms.proofs.terms.ObligationTerms.obligation.Goals as goal

pub put_obligation-requires-clause-cycles : goal.put_obligation-requires-clause-cycles
put_obligation-requires-clause-cycles c = c.requires.cycles ∙ (sym c.requires.ready.facts.each_cycle ∙ ap length (sym c.deref.ensures.value))

pub returns-in_err-id-clause-ready : goal.returns-in_err-id-clause-ready
returns-in_err-id-clause-ready c = still_ready (model_of c.args.model.now) (mapped_of c.args.mapped.now) c.args.self.now c.put_obligation.new.terms c.put_obligation.ensures.extended c.requires.ready

pub returns-clause-ready : goal.returns-clause-ready
returns-clause-ready c = still_ready (model_of c.args.model.now) (mapped_of c.args.mapped.now) c.args.self.now c.put_obligation.new.terms c.put_obligation.ensures.extended c.requires.ready
