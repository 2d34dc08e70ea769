use Rattle.std.proofs.Common.{refl, arith}
use Rattle.map_file.specs.View.{mapped_view}
use Rattle.map_trees.specs.Tokens.{IsStateEntry, is_memory_in}
use Rattle.map_trees.proofs.Places.{each_turn, each_end, each_viewed}
use Rattle.map_trees.proofs.tokens.state_tokens.Goals as goal

pub loop-entry-preserved : goal.loop-entry-preserved
loop-entry-preserved c =
    each_turn (λ x e. IsStateEntry (is_memory_in c.args.sorts.now) x (mapped_view e)) c.loop-entry.list.items c.push.new.self.items c.args.entries.now c.loop-entry.entry-index _ c.entry-item.result _
    (omega arith) c.entry-item.is c.in_ok-push.ensures.items (refl, c.in_ok-tokens.ensures) c.loop-entry.invariant

pub returns : goal.returns
returns c =
    each_viewed (IsStateEntry (is_memory_in c.args.sorts.now)) mapped_view c.loop-entry.list.items c.args.entries.now
    (each_end (λ x e. IsStateEntry (is_memory_in c.args.sorts.now) x (mapped_view e)) c.loop-entry.list.items c.args.entries.now c.loop-entry.entry-index c.loop-entry-test.false c.loop-entry.invariant)
