use Rattle.std.proofs.Common.{◌∙◌, sym, ap, subst, option_map}
use Rattle.std.specs.Prelude.{◌↔◌, IfOk, IsTrue}
use Rattle.v_places.specs.Views.{spots_of}
use Rattle.map_memories.specs.Memories.{IsMemoryWhere}
use Rattle.map_memories.proofs.mismatch.is_memory_path.Goals as goal

pub returns-in-Some : goal.returns-in-Some
returns-in-Some c =
    subst (λ o. IfOk c.has_memory_there.result (λ b. IsTrue b ↔ IsMemoryWhere (spots_of c.args.places.now) o c.args.shape.address_width c.args.shape.width))
    (sym (ap (option_map (λ x. (x.0, x.1.now))) c.in-Some.is) ∙ c.locate.ensures) c.has_memory_there.ensures
