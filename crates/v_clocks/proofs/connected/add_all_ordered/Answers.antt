use Rattle.std.proofs.Common.{◌∙◌, ◌++◌, refl, ap, map, arith}
use Rattle.verilog_meaning.specs.Settled.{port_numbered, ordered_connections}
use Rattle.v_syntax.specs.Source.{optional_tree_of}
use Rattle.v_hier.specs.Tables.{has_name}
use Rattle.v_clocks.specs.Uses.{use_if_any, uses_of}
use Rattle.v_clocks.specs.Views.{uses_in}
use Rattle.v_clocks.proofs.Turns.{numbered_turn, numbered_end}
use Rattle.v_clocks.proofs.Walks.{ordered_more}
use Rattle.v_clocks.proofs.connected.add_all_ordered.Goals as goal

pub loop-place-preserved : goal.loop-place-preserved
loop-place-preserved c = λ m u i.
    numbered_turn (λ k z. use_if_any (has_name c.args.clocks.now) m (port_numbered k) (optional_tree_of z))
    (λ k zs. uses_of (has_name c.args.clocks.now) m (ordered_connections u k (map optional_tree_of zs)))
    (ordered_more (has_name c.args.clocks.now) m u) c.args.entries.now c.loop-place.place _ _ (uses_in c.loop-place.list.items)
    (uses_in c.add_entry.new.list.items) (omega arith) (c.loop-place.invariant m u i)
    (c.in_ok-add_entry.ensures m i
    ∙ ap (λ z. uses_in c.loop-place.list.items ++ use_if_any (has_name c.args.clocks.now) m (port_numbered c.loop-place.place) (optional_tree_of z)) c.index-entries-place.is)

pub returns : goal.returns
returns c = λ m u i.
    numbered_end (λ k z. use_if_any (has_name c.args.clocks.now) m (port_numbered k) (optional_tree_of z))
    (λ k zs. uses_of (has_name c.args.clocks.now) m (ordered_connections u k (map optional_tree_of zs)))
    (ordered_more (has_name c.args.clocks.now) m u) (λ k. refl) c.args.entries.now c.loop-place.place _ (uses_in c.loop-place.list.items)
    (omega (arith, c.loop-place-test.false)) (c.loop-place.invariant m u i)
