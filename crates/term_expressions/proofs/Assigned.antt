-- A net has the number that it is assigned.
use Rattle.std.proofs.Common.{◌≡◌, ℕ, ◌+◌, ◌*◌, ◌/◌, ◌%◌, ◌<◌, ◌^◌, cond, arith, refl, sym, ◌∙◌, ap}
use Rattle.std.proofs.Math.Nat.{mod-eq_of_lt, div-eq_of_lt, mod-one, div-one}
use Rattle.std.proofs.lemmas.Slice.Eq.{bytes_eq-Decides}
use Rattle.wb_values.specs.Value.{number, as_number, Value}
use Rattle.verilog_meaning.specs.Expression.{object_width, assigned_value}
use Rattle.verilog_meaning.specs.Statement.{with_bits_from}
use Rattle.term_expressions.specs.Laws.{AssignedNetHasItsNumber}

pub all_replaced : (w old x : ℕ) → old < 2 ^ w → x < 2 ^ w → with_bits_from w old 0 w (x / 2 ^ 0) ≡ x
all_replaced w old x low fits =
    ap (λ u. (old % 2 ^ 0 + 2 ^ 0 * (x / 2 ^ 0 % 2 ^ w) + 2 ^ u * (old / 2 ^ u)) % 2 ^ w) (no_more w)
    ∙ (ap (λ a. (old % 2 ^ 0 + 2 ^ 0 * (x / 2 ^ 0 % 2 ^ w) + 2 ^ w * a) % 2 ^ w) (div-eq_of_lt low)
    ∙ (ap (λ a. (a + 2 ^ 0 * (x / 2 ^ 0 % 2 ^ w) + 2 ^ w * 0) % 2 ^ w) (mod-one old)
    ∙ (ap (λ a. (0 + 2 ^ 0 * (a % 2 ^ w) + 2 ^ w * 0) % 2 ^ w) (div-one x)
    ∙ (ap (λ a. (0 + 2 ^ 0 * a + 2 ^ w * 0) % 2 ^ w) (mod-eq_of_lt fits) ∙ (ap (λ a. a % 2 ^ w) (only x (2 ^ w)) ∙ mod-eq_of_lt fits)))))
  where
    no_more : (u : ℕ) → 0 + u ≡ u
    no_more u = omega arith

    only : (a p : ℕ) → 0 + 2 ^ 0 * a + p * 0 ≡ a
    only a p = omega arith

pub assigned_net_has_its_number : AssignedNetHasItsNumber
assigned_net_has_its_number s v n e w x old net has low is_assigned fits held =
    sym (sym (ap (λ b. cond b after (v n)) ((bytes_eq-Decides n n).1 refl)) ∙ held n)
    ∙ (ap (λ u. number (with_bits_from u (as_number (v n)) 0 u (assigned_value s v u e / 2 ^ 0))) net.width
    ∙ (ap (λ y. number (with_bits_from w (as_number y) 0 w (assigned_value s v w e / 2 ^ 0))) has
    ∙ (ap (λ a. number (with_bits_from w old 0 w (a / 2 ^ 0))) is_assigned ∙ ap number (all_replaced w old x low fits))))
  where
    after : Value
    after = number (with_bits_from (object_width (s n)) (as_number (v n)) 0 (object_width (s n)) (assigned_value s v (object_width (s n)) e / 2 ^ 0))
