-- Places that names have, how many items there are, and what is stated of an obligation.
use Rattle.std.proofs.Common.{◌≡◌, ◌∙◌, ℕ, zero, suc, ◌<◌, List, [], ◌∷◌, length, get_or, Option, Some, None, refl, sym, ap, arith, IfSome}
use Rattle.wb_values.specs.Value.{Name, Sort, Entries}
use Rattle.serde_json.specs.Events.{items_len}
use Rattle.serde_json.specs.View.{items_view}
use Rattle.serde_json.specs.declared.value.Value.{Value}
use Rattle.obligation_lists.specs.declared.claims.Obligation.{Obligation}
use Rattle.trace_reading.specs.Fitting.{place_in}
use Rattle.trace_reading.specs.Reading.{cycles_stated}
use Rattle.trace_reading.proofs.Sites.{place_sound}

pub within_place : (ns : Entries Sort) (n : Name) (o : Option ℕ) → o ≡ place_in ns n → IfSome o (λ k. k < length ns)
within_place ns n None e = tt
within_place ns n (Some k) e = (place_sound ns (length ns) n k (sym e)).0

pub count_items : (vs : List Value) → items_len (items_view vs) ≡ length vs
count_items [] = refl
count_items (v ∷ vs) = ap suc (count_items vs)

pub stated : (os : List Obligation) (k : ℕ) (o : Obligation) → k < length os → o ≡ get_or os k o → cycles_stated os k ≡ o.cycles
stated [] k o l e = absurd (omega (arith, l))
stated (x ∷ os) zero o l e = ap (λ y. y.cycles) (sym e)
stated (x ∷ os) (suc k) o l e = stated os k o (omega (arith, l)) e
