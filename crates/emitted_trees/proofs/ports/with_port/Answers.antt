use Rattle.std.proofs.Common.{◌∙◌, ◌++◌, ◌∷◌, [], ap, map}
use Rattle.v_syntax.specs.Source.{port_of}
use Rattle.emitted_names.proofs.Turns.{pushed_view}
use Rattle.emitted_trees.proofs.ports.with_port.Goals as goal

pub returns : goal.returns
returns c =
    pushed_view port_of c.args.ports.items _ c.in_ok-port.port c.in_ok-all.ensures
    ∙ ap (λ p. map port_of c.args.ports.items ++ p ∷ []) c.in_ok-port.ensures
