use Rattle.std.proofs.Common.{map, ap, ◌∙◌}
use Rattle.verilog_designs.specs.Names.{is_among, module_names}
use Rattle.v_syntax.specs.Source.{module_of}
use Rattle.v_hier.proofs.undeclared.declared_modules.Goals as goal

pub returns : goal.returns
returns c = λ q. c.in_ok-modules.ensures q ∙ ap (λ ms. is_among (module_names (map module_of ms)) q) c.deref.ensures.value
