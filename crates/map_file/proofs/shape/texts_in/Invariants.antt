use Rattle.std.proofs.Common.{◌≡◌, map, drop, string_bytes}
use Rattle.serde_json.specs.Find.{as_str}
use Rattle.serde_json.specs.View.{items_view}
use Rattle.model_files.specs.Shape.{all_in}
use Rattle.map_file.proofs.Lists.{onto}
use Rattle.map_file.proofs.shape.texts_in.Given as goal

abbrev pub invariant-loop-item : goal.invariant-loop-item
invariant-loop-item l = all_in as_str (items_view l.items) ≡ onto (map string_bytes l.texts.items) (all_in as_str (items_view (drop l.item-index l.items)))
