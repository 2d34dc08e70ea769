-- A kind is answered exactly where one of the rules is broken.
use Rattle.std.proofs.Common.{◌≡◌, refl, Bool, true, false, cond, ◌||◌, Some}
use Rattle.std.specs.Prelude.{is_some}
use Rattle.wb_values.specs.Choice.{some_if}
use Rattle.verilog_rules.specs.Expression.{undeclared_name, has_xz_digit, bad_constant_expression, wider_than_128, bad_select_of_name, bad_use_of_memory}
use Rattle.verilog_rules.specs.Expression as rules
use Rattle.v_size.specs.Rule.{coded}
use Rattle.map_sizes.specs.Kinds.{has_kind}

told : (u x c w s m : Bool) → (u || (x || (c || (w || (s || m)))))
    ≡ is_some (cond u (Some undeclared_name) (cond x (Some has_xz_digit) (cond c (Some bad_constant_expression)
    (cond w (Some wider_than_128) (cond s (Some bad_select_of_name) (some_if m bad_use_of_memory))))))
told true x c w s m = refl
told false true c w s m = refl
told false false true w s m = refl
told false false false true s m = refl
told false false false false true m = refl
told false false false false false true = refl
told false false false false false false = refl

pub kind_told : (b : rules.Broken) → has_kind (coded b) ≡ is_some (rules.first_broken b)
kind_told b = told b.undeclared b.has_xz b.bad_constant b.width_over_128 b.bad_select b.memory_use
