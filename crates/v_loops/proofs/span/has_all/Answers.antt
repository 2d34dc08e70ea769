use Rattle.std.proofs.Common.{ap, subst}
use Rattle.std.specs.Prelude.{◌↔◌, IsTrue}
use Rattle.v_flow.specs.Spans.{bits_in}
use Rattle.v_masks.specs.Masks.{masked}
use Rattle.v_loops.specs.Turns.{HasFirst}
use Rattle.v_loops.proofs.Adding.{all-there}
use Rattle.v_loops.proofs.span.has_all.Goals as goal

pub returns : goal.returns
returns c =
    all-there (bits_in c.args.spans.now) (bits_in c.args.others.now) (masked c.in_ok-table.table) (bits_in c.add_left.new.found.items) (bits_in c.new-left.result.items)
    c.in_ok-some.some c.in_ok-table.ensures (ap bits_in c.new-left.ensures.items) c.in_ok-add_left.ensures
    (subst (λ xs. IsTrue c.in_ok-some.some ↔ HasFirst (bits_in xs)) c.deref.ensures.value c.in_ok-some.ensures)
