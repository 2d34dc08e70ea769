use Rattle.std.proofs.Common.{◌∙◌, ◌++◌, refl, ap, sym, option_map}
use Rattle.verilog_meaning.specs.Settled.{as_target}
use Rattle.v_syntax.specs.Tree.{target_of, tree_of}
use Rattle.v_renamed.specs.NewNames.{new_name}
use Rattle.v_flat.specs.Views.{assignments_of}
use Rattle.v_flat.proofs.Loops.{pushed, nothing}
use Rattle.v_flat.proofs.Connected.{out_some, out_none}
use Rattle.v_flat.proofs.connection.add_from.Goals as goal

pub returns-in_ok-push-in-Some : goal.returns-in_ok-push-in-Some
returns-in_ok-push-in-Some c =
    pushed (λ a. (target_of a.target, tree_of a.value)) c.args.list.now.items c.push.new.self.items _ _ c.in_ok-push-in-Some.ensures.items refl
    ∙ ap (λ as_. assignments_of c.args.list.now.items ++ as_)
    (out_some (new_name c.args.names.now) (new_name c.args.below.now) (as_target (tree_of c.args.expression.now)) (target_of c.in-Some.target) c.args.port.now c.name_for.result.now
    (ap (option_map target_of) (sym c.in-Some.is) ∙ c.in_ok-found.ensures) c.name_for.ensures)

pub returns-in-None : goal.returns-in-None
returns-in-None c =
    nothing (assignments_of c.args.list.now.items) _
    (out_none (new_name c.args.names.now) (new_name c.args.below.now) (as_target (tree_of c.args.expression.now)) c.args.port.now (ap (option_map target_of) (sym c.in-None.is) ∙ c.in_ok-found.ensures))
