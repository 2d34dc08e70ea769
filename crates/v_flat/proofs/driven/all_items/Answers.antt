use Rattle.std.proofs.Common.{◌∙◌, ◌++◌, [], ◌∷◌, ap, map}
use Rattle.verilog_trees.specs.Syntax as pure
use Rattle.v_syntax.specs.Source.{item_of}
use Rattle.v_places.specs.Views.{spots_of}
use Rattle.v_flat.specs.Items.{items_from, inputs_from}
use Rattle.v_flat.specs.Views.{namings}
use Rattle.v_flat.proofs.Loops.{pushed}
use Rattle.v_flat.proofs.driven.all_items.Goals as goal

pub returns : goal.returns
returns c = λ source a r.
    pushed item_of c.add_places.new.list.items c.push.new.self.items _ _ c.in_ok-push.ensures.items (ap pure.assign (c.in_ok-links.ensures source a r))
    ∙ ap (λ xs. xs ++ pure.assign (inputs_from (namings c.args.tables.now) 0 (spots_of c.args.places.now)) ∷ [])
    (c.in_ok-add_places.ensures source a r ∙ ap (λ xs. map item_of xs ++ items_from (namings c.args.tables.now) 0 (spots_of c.args.places.now)) c.new-list.ensures.items)
