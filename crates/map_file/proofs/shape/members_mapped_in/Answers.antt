use Rattle.std.proofs.Common.{List, sym, ap, ◌∙◌, map, String, Global}
use Rattle.serde_json.specs.Find.{as_str}
use Rattle.serde_json.specs.View.{view, members_view}
use Rattle.serde_json.specs.declared.value.Value.{Value}
use Rattle.map_files.specs.Shape.{members_mapped_in, named}
use Rattle.map_file.specs.View.{mapped_view}
use Rattle.map_file.proofs.Lists.{onto, onto_pushed}
use Rattle.map_file.proofs.shape.members_mapped_in.Goals as goal

pub loop-name-preserved : goal.loop-name-preserved
loop-name-preserved c =
    let kept = c.loop-name.entries.items in
    let rest = members_mapped_in (members_view c.next.new.self) in
    c.loop-name.invariant
    ∙ (ap (λ (t : List (String Global × Value)). onto (map mapped_view kept) (members_mapped_in (members_view t))) c.in-Some.ensures.steps
    ∙ onto_pushed mapped_view kept _ c.in_ok-entry.entry _ rest
    (ap (λ n. named n (as_str (view c.in-Some.found.now))) (sym c.as_str.ensures.value) ∙ c.in_ok-entry.ensures) c.in_ok-push.ensures.items)
