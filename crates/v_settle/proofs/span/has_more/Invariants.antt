use Rattle.std.proofs.Common.{◌≡◌, ℕ, true, drop}
use Rattle.wb_values.specs.Value.{Name}
use Rattle.v_flow.specs.Spans.{bits_in}
use Rattle.v_masks.specs.Masks.{masked}
use Rattle.v_settle.proofs.span.has_more.Given as goal

abbrev pub invariant-loop-span : goal.invariant-loop-span
invariant-loop-span l =
    ((n : Name) (k b : ℕ) → bits_in (drop l.span-index l.spans) n k b ≡ true → masked l.table n k b ≡ true)
    → (n : Name) (k b : ℕ) → bits_in l.spans n k b ≡ true → masked l.table n k b ≡ true
