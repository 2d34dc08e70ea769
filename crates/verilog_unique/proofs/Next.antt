-- From one valuation the registers after the clock's edge have one value under each declared name.
use Rattle.std.proofs.Common.{◌≡◌, ℕ, Bool, true, false, refl, sym, ◌∙◌}
use Rattle.wb_values.specs.Value.{Name, Valuation}
use Rattle.verilog_meaning.specs.Register.{value_bit}
use Rattle.verilog_meaning.specs.Hierarchy.{Placed, placed_scope}
use Rattle.verilog_meaning.specs.Settled.{inside, is_counted}
use Rattle.verilog_unique.specs.Unique.{NextRegistersAreUnique}
use Rattle.verilog_unique.proofs.Values.{same_values}

pub next_is_unique : NextRegistersAreUnique
next_is_unique d v next other p n a b at declared =
    same_values (placed_scope p n) (inside next p n) (inside other p n) (a.registers.fits p n at declared) (b.registers.fits p n at declared)
    (λ k c t. either k c (is_counted p n k c) refl)
  where
    either : (k c : ℕ) (counted : Bool) → is_counted p n k c ≡ counted → value_bit (inside next p n) k c ≡ value_bit (inside other p n) k c
    either k c true e = a.assigned p n k c at declared e ∙ sym (b.assigned p n k c at declared e)
    either k c false e = a.registers.rest_zero p n k c at declared e ∙ sym (b.registers.rest_zero p n k c at declared e)
