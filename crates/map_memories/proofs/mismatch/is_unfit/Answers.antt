use Rattle.std.proofs.Common.{◌∙◌, sym, ap, subst}
use Rattle.std.specs.Prelude.{◌↔◌, IsTrue}
use Rattle.refinement.specs.Map.{dotted_parts}
use Rattle.map_file.specs.View.{mapped_view}
use Rattle.v_places.specs.Views.{spots_of}
use Rattle.map_paths.specs.Located.{located}
use Rattle.map_paths.specs.Tables.{numbers_in}
use Rattle.map_sorts.specs.Tables.{sort_of_state_in}
use Rattle.map_memories.specs.Memories.{IsMemoryWhere}
use Rattle.map_memories.specs.Mismatch.{memory_shape, shape_view}
use Rattle.map_memories.proofs.Entries.{unfit_told}
use Rattle.map_memories.proofs.Paths.{paths_of_memories}
use Rattle.map_memories.proofs.Told.{joined}
use Rattle.map_memories.proofs.mismatch.is_unfit.Goals as goal

pub returns-in_ok-fits-in-Some : goal.returns-in_ok-fits-in-Some
returns-in_ok-fits-in-Some c = λ d m known sorts.
    let e = mapped_view c.args.entry.now in
    let shape = c.in-Some.shape in
    unfit_told d m e (sort_of_state_in c.args.sorts.now e.0) shape.address_width shape.width _ (sorts e.0)
    (sym (ap shape_view c.in-Some.is) ∙ (c.shape_of.ensures ∙ ap (λ n. memory_shape (sort_of_state_in c.args.sorts.now n)) c.as_str.ensures.value))
    (joined (subst (λ n. IsTrue c.in_ok-fits-in-Some.fits ↔ IsMemoryWhere (spots_of c.args.places.now) (located (numbers_in c.args.instances.now) 0 (dotted_parts n)) shape.address_width shape.width)
    c.as_str-path.ensures.value c.in_ok-fits-in-Some.ensures)
    (paths_of_memories d (spots_of c.args.places.now) (numbers_in c.args.instances.now) known e.1 shape.address_width shape.width))
