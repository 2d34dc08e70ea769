use Rattle.std.proofs.Common.{◌∙◌, refl, sym}
use Rattle.v_syntax.specs.Source.{module_of}
use Rattle.v_instances.proofs.Modules.{module_put, module_past}
use Rattle.v_instances.proofs.interface.add_module.Goals as goal

pub returns-then-contains_key : goal.returns-then-contains_key
returns-then-contains_key c = λ all rest. module_past c.args.interfaces.now (module_of c.args.within.now) all rest (sym c.contains_key.ensures ∙ c.if-contains_key.true)

pub returns : goal.returns
returns c = λ all rest.
    module_put c.args.interfaces.now c.insert.new.self c.args.within.now.name c.in_ok-interface.interface (module_of c.args.within.now) all rest
    c.in_ok-insert.ensures.updates (sym c.contains_key.ensures ∙ c.if-contains_key.false) refl c.in_ok-interface.ensures
