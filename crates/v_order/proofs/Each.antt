-- What is asked of all drivers holds of each.
use Rattle.std.proofs.Common.{◌≡◌, ◌+◌, ℕ, subst, List, ◌∷◌, drop}
use Rattle.verilog_meaning.specs.Expression.{Scope}
use Rattle.v_flow.specs.Narrow.{IsNarrowFlow}
use Rattle.v_drivers.specs.Premises.{AreNarrowBlocks}
use Rattle.v_order.specs.declared.driver.Driver.{Driver}
use Rattle.v_order.specs.Lists.{statement_in, statements_in}

pub narrow-turn : (s : Scope) (ds : List Driver) (i : ℕ) (r : Driver) → drop i ds ≡ r ∷ drop (i + 1) ds → AreNarrowBlocks s (statements_in (drop i ds))
    → IsNarrowFlow s (statement_in r) × AreNarrowBlocks s (statements_in (drop (i + 1) ds))
narrow-turn s ds i r e h = subst (λ (xs : List Driver). AreNarrowBlocks s (statements_in xs)) e h
