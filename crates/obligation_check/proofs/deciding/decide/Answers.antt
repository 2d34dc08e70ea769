-- What is found of each, for every setting.
use Rattle.std.proofs.Common.{◌∙◌, sym}
use Rattle.std.proofs.lemmas.List.{length-map}
use Rattle.ila_model.specs.Model.{model_of}
use Rattle.mapped_designs.specs.View.{mapped_of, instruction_view}
use Rattle.obligation_check.proofs.Verdicts.{obligations_found, covers_found}
use Rattle.obligation_check.proofs.deciding.decide.Goals as goal

pub returns-clause-found : goal.returns-clause-found
returns-clause-found c =
    obligations_found (model_of c.args.model.now) (mapped_of c.args.mapped.now) c.args.budget c.args.obligations.now c.in_ok-found.found.items
    c.in_ok-found.ensures.count c.in_ok-found.ensures.found

pub returns-clause-covers : goal.returns-clause-covers
returns-clause-covers c =
    covers_found (model_of c.args.model.now) (mapped_of c.args.mapped.now) c.args.budget c.in_ok-covers.covers.items
    (c.in_ok-covers.ensures.count ∙ (sym (length-map c.args.mapped.now.instructions.items instruction_view) ∙ c.requires.sorted.instructions)) c.in_ok-covers.ensures.found
