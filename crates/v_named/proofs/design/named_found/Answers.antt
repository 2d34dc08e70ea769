use Rattle.std.proofs.Common.{◌∙◌, ap, sym, option_map, Bor}
use Rattle.v_syntax.specs.declared.module.Module.{Module}
use Rattle.v_syntax.specs.Source.{module_of}
use Rattle.v_named.proofs.Refusals.{no_module}
use Rattle.v_named.proofs.design.named_found.Goals as goal

pub returns-in_ok-named-in-Some : goal.returns-in_ok-named-in-Some
returns-in_ok-named-in-Some c d source top clock =
    c.in_ok-named-in-Some.ensures d (source, sym top ∙ ap (option_map (λ (m : Bor Module). module_of m.now)) c.in-Some.is) clock

pub returns-in-None : goal.returns-in-None
returns-in-None c d source top clock =
    no_module d (sym top ∙ ap (option_map (λ (m : Bor Module). module_of m.now)) c.in-None.is)
