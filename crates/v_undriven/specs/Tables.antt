-- Tables of what is driven, and spans that have something besides.
use Rattle.std.specs.Prelude.{◌≡◌, ℕ, true, false, bit_or, List, [], ◌∷◌, ◌⊎◌, IsTrue}
use Rattle.std.specs.declared.vec.Vec.{Vec}
use Rattle.std.specs.declared.alloc.Global.{Global}
use Rattle.wb_values.specs.Value.{Name}
use Rattle.verilog_meaning.specs.Expression.{Scope}
use Rattle.verilog_meaning.specs.Register.{is_set}
use Rattle.v_flow.specs.declared.span.Span.{Span}
use Rattle.v_scopes.specs.declared.table.ModuleScope.{ModuleScope}
use Rattle.v_drivers.specs.Tables.{Masks, span_mask, spans_mask}
use Rattle.v_undriven.specs.Names.{needs_driver}

-- what drivers have of each name
abbrev pub drivers_mask : Scope → List (Vec Span Global) → Masks
drivers_mask s [] n = 0
drivers_mask s (v ∷ drivers) n = bit_or (spans_mask s v.items n) (drivers_mask s drivers n)

-- the span has something that the table lacks
pub record HasMore (s : Scope) (f : Masks) (x : Span) : Type 0 where
  pub bit : ℕ
  pub in_span : is_set (span_mask s x) bit ≡ true
  pub lacking : is_set (f x.name.now) bit ≡ false

-- of one of the spans, whose name needs a driver
abbrev pub OneHasMore : Scope → ModuleScope → (clock : Name) → Masks → List Span → Type 0
OneHasMore s names clock f [] = ⊥
OneHasMore s names clock f (x ∷ spans) =
    (IsTrue (needs_driver s names clock x.name.now) × HasMore s f x) ⊎ OneHasMore s names clock f spans
