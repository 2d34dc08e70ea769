use Rattle.std.proofs.Common.{◌∙◌, ◌++◌, refl, ap, map, arith}
use Rattle.verilog_meaning.specs.Settled.{port_numbered, ordered_connections}
use Rattle.v_syntax.specs.Source.{direction_of, optional_tree_of}
use Rattle.v_renamed.specs.NewNames.{new_name}
use Rattle.v_flat.specs.Links.{entry_link, connection_links}
use Rattle.v_flat.specs.Views.{assignments_of}
use Rattle.v_flat.proofs.Loops.{numbered_turn, numbered_end}
use Rattle.v_flat.proofs.Connected.{ordered_more}
use Rattle.v_flat.proofs.connection.add_all_ordered.Goals as goal

pub loop-place-preserved : goal.loop-place-preserved
loop-place-preserved c = λ m u i.
    numbered_turn (λ k z. entry_link (direction_of c.args.way) (new_name c.args.names.now) (new_name c.args.below.now) m (port_numbered k) (optional_tree_of z))
    (λ k zs. connection_links (direction_of c.args.way) (new_name c.args.names.now) (new_name c.args.below.now) m (ordered_connections u k (map optional_tree_of zs)))
    (ordered_more (new_name c.args.names.now) (new_name c.args.below.now) (direction_of c.args.way) m u) c.args.entries.now c.loop-place.place _ _ (assignments_of c.loop-place.list.items)
    (assignments_of c.add_entry.new.list.items) (omega arith) (c.loop-place.invariant m u i)
    (c.in_ok-add_entry.ensures m i
    ∙ ap (λ z. assignments_of c.loop-place.list.items ++ entry_link (direction_of c.args.way) (new_name c.args.names.now) (new_name c.args.below.now) m (port_numbered c.loop-place.place) (optional_tree_of z)) c.index-entries-place.is)

pub returns : goal.returns
returns c = λ m u i.
    numbered_end (λ k z. entry_link (direction_of c.args.way) (new_name c.args.names.now) (new_name c.args.below.now) m (port_numbered k) (optional_tree_of z))
    (λ k zs. connection_links (direction_of c.args.way) (new_name c.args.names.now) (new_name c.args.below.now) m (ordered_connections u k (map optional_tree_of zs)))
    (ordered_more (new_name c.args.names.now) (new_name c.args.below.now) (direction_of c.args.way) m u) (λ k. refl) c.args.entries.now c.loop-place.place _ (assignments_of c.loop-place.list.items)
    (omega (arith, c.loop-place-test.false)) (c.loop-place.invariant m u i)
