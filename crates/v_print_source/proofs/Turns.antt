-- Turns of loops over elements that are copied.
use Rattle.std.proofs.Common.{ℕ, ◌+◌, ◌<◌, Bool, true, List, ◌∷◌, length, get_or, refl}
use Rattle.std.specs.Borrow.{Bor}
use Rattle.std.proofs.lemmas.List.{get_or_default}
use Rattle.verilog_text.specs.Token.{word}
use Rattle.v_syntax.specs.declared.module.Event.{Event}
use Rattle.v_print.specs.declared.writer.Writer.{Writer}
use Rattle.v_print.specs.Spelled.{parted}
use Rattle.v_print.specs.Bodies.{name_before, event_before, or_if}
use Rattle.v_print.specs.Writes.{Front, Writes}
use Rattle.v_print.proofs.Loops.{IsLoop, loop_goes_on}
use Rattle.v_print_source.specs.Lists.{name_of, event_of}
use Rattle.v_print_source.proofs.Wholes.{parts_front, events_front}

pub event_goes_on : (xs : List Event) (i : ℕ) (d : Event) (s : Bool) {start now mid : Writer} {goal : Front} → i < length xs → IsLoop events_front xs i s start now goal
    → Writes now mid (λ r. or_if s (event_before (event_of (get_or xs i d)) r)) → IsLoop events_front xs (i + 1) true start mid goal
event_goes_on xs i d s l k w =
    loop_goes_on events_front xs i (get_or xs i d) s true (λ r. or_if s (event_before (event_of (get_or xs i d)) r)) l (get_or_default xs i _ _ l) (λ ys r. refl) k w

pub name_goes_on : (xs : List (Bor (List ℕ))) (i : ℕ) (d : Bor (List ℕ)) (s : Bool) {start now mid : Writer} {goal : Front} → i < length xs → IsLoop (parts_front name_before name_of) xs i s start now goal
    → Writes now mid (λ r. parted s (word (get_or xs i d).now ∷ r)) → IsLoop (parts_front name_before name_of) xs (i + 1) true start mid goal
name_goes_on xs i d s l k w =
    loop_goes_on (parts_front name_before name_of) xs i (get_or xs i d) s true (λ r. parted s (word (get_or xs i d).now ∷ r)) l (get_or_default xs i _ _ l) (λ ys r. refl) k w
