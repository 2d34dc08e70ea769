use Rattle.std.proofs.Common.{◌∙◌, length, sym, ap}
use Rattle.ila_model.specs.Model.{model_of}
use Rattle.mapped_designs.specs.View.{mapped_of}
use Rattle.obligation_terms.proofs.Standing.{still_ready}
use Rattle.obligation_terms.proofs.terms.ObligationTerms.cover.Goals as goal

pub put_cover-requires-clause-end : goal.put_cover-requires-clause-end
put_cover-requires-clause-end c = let i = c.requires.own in (i.0, i.1, i.2 ∙ (sym c.requires.ready.facts.each_cycle ∙ ap length (sym c.deref.ensures.value)))

pub returns-in_err-id-clause-ready : goal.returns-in_err-id-clause-ready
returns-in_err-id-clause-ready c = still_ready (model_of c.args.model.now) (mapped_of c.args.mapped.now) c.args.self.now c.put_cover.new.terms c.put_cover.ensures.extended c.requires.ready

pub returns-clause-ready : goal.returns-clause-ready
returns-clause-ready c = still_ready (model_of c.args.model.now) (mapped_of c.args.mapped.now) c.args.self.now c.put_cover.new.terms c.put_cover.ensures.extended c.requires.ready
