use Rattle.std.proofs.Common.{sym, ◌∙◌}
use Rattle.ila_file.specs.View.{sort_view}
use Rattle.ila_rules.proofs.Frames.{put_first, kept_first}
use Rattle.ila_rules.proofs.scope.Frame.add_state.Goals as goal

pub returns-in_ok-insert-clause-states : goal.returns-in_ok-insert-clause-states
returns-in_ok-insert-clause-states c =
    λ i q. put_first sort_view c.args.self.now.states c.insert.new.self c.args.name c.args.sort c.in_ok-insert.ensures.updates (sym c.contains_key.ensures ∙ c.if-not-contains_key.true) q i

pub returns-else-not-contains_key-clause-states : goal.returns-else-not-contains_key-clause-states
returns-else-not-contains_key-clause-states c =
    λ i q. kept_first sort_view c.args.self.now.states c.args.name.now (sort_view c.args.sort) (sym c.contains_key.ensures ∙ c.if-not-contains_key.false) q i
