use Rattle.std.specs.Prelude.{◌↔◌, IsTrue}
use Rattle.v_value.specs.Narrow.{HasNarrowObjects}
use Rattle.v_hier.specs.Tables.{has_name}
use Rattle.v_paths.specs.Modules.{AreFitItems, HasBadEventListIn}
use Rattle.v_judged.proofs.Asking.{asked_of, told_of, own_scope}
use Rattle.v_judged.proofs.blocks.has_bad_event_list_at.Goals as goal

pub has_bad_event_list-requires-clause-objects : goal.has_bad_event_list-requires-clause-objects
has_bad_event_list-requires-clause-objects c = asked_of (λ s xs. HasNarrowObjects s) _ _ (own_scope c.args.own.now) _ _ c.items_of.ensures c.requires.0

pub has_bad_event_list-requires-clause-fit : goal.has_bad_event_list-requires-clause-fit
has_bad_event_list-requires-clause-fit c = asked_of AreFitItems _ _ (own_scope c.args.own.now) _ _ c.items_of.ensures c.requires.1

pub returns : goal.returns
returns c = told_of (λ s xs. IsTrue c.in_ok-bad.bad ↔ HasBadEventListIn s (has_name c.args.clocks.now) xs) _ _ (own_scope c.args.own.now) _ _ c.items_of.ensures c.in_ok-bad.ensures
