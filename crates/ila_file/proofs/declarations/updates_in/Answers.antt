use Rattle.std.proofs.Common.{List, sym, ap, ◌∙◌, map, String, Global}
use Rattle.serde_json.specs.View.{view, members_view}
use Rattle.serde_json.specs.declared.value.Value.{Value}
use Rattle.model_files.specs.Shape.{entries_in, term_in, entry_named}
use Rattle.ila_file.specs.View.{update_view}
use Rattle.ila_file.proofs.Lists.{onto, onto_pushed}
use Rattle.ila_file.proofs.declarations.updates_in.Goals as goal

pub loop-state-preserved : goal.loop-state-preserved
loop-state-preserved c =
    let kept = c.loop-state.updates.items in
    let rest = entries_in (members_view c.next.new.self) in
    c.loop-state.invariant
    ∙ (ap (λ (t : List (String Global × Value)). onto (map update_view kept) (entries_in (members_view t))) c.in-Some.ensures.steps
    ∙ onto_pushed update_view kept _ c.in_ok-update.update _ rest
    (ap (λ n. entry_named n (term_in (view c.in-Some.found.now))) (sym c.as_str.ensures.value) ∙ c.in_ok-update.ensures) c.in_ok-push.ensures.items)
