use Rattle.std.proofs.Common.{ap, ◌∙◌, [], option_map}
use Rattle.verilog_designs.specs.Known.{known_module_scope}
use Rattle.v_scopes.proofs.scopes_of.top_scope.Goals as goal

pub returns : goal.returns
returns c = c.in_ok-scope.ensures ∙ ap (option_map (λ m. known_module_scope m [])) c.top_of.ensures
