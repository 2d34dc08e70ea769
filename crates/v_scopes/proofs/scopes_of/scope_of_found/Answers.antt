use Rattle.std.proofs.Common.{ap, ◌∙◌, sym, [], Some, option_map, Bor}
use Rattle.v_syntax.specs.declared.module.Module.{Module}
use Rattle.v_syntax.specs.Source.{module_of}
use Rattle.verilog_designs.specs.Known.{known_module_scope}
use Rattle.v_scopes.proofs.scopes_of.scope_of_found.Goals as goal

pub returns-in_ok-scope-in-Some : goal.returns-in_ok-scope-in-Some
returns-in_ok-scope-in-Some c =
    ap Some c.in_ok-scope-in-Some.ensures.scope
    ∙ ap (λ o. option_map (λ m. known_module_scope m []) (option_map (λ (m : Bor Module). module_of m.now) o)) (sym c.in-Some.is)
