use Rattle.std.specs.Prelude.{◌↔◌, IsTrue}
use Rattle.v_value.specs.Narrow.{HasNarrowObjects}
use Rattle.v_paths.specs.Modules.{AreFitItems, HasLatchIn}
use Rattle.v_judged.proofs.Asking.{asked_of, told_of, own_scope}
use Rattle.v_judged.proofs.blocks.has_latch_at.Goals as goal

pub has_latch-requires-clause-objects : goal.has_latch-requires-clause-objects
has_latch-requires-clause-objects c = asked_of (λ s xs. HasNarrowObjects s) _ _ (own_scope c.args.one.now) _ _ c.items_of.ensures c.requires.0

pub has_latch-requires-clause-fit : goal.has_latch-requires-clause-fit
has_latch-requires-clause-fit c = asked_of AreFitItems _ _ (own_scope c.args.one.now) _ _ c.items_of.ensures c.requires.1

pub returns : goal.returns
returns c = told_of (λ s xs. IsTrue c.in_ok-found.found ↔ HasLatchIn s xs) _ _ (own_scope c.args.one.now) _ _ c.items_of.ensures c.in_ok-found.ensures
