-- Lists of events, one after the other.
use Rattle.std.proofs.Common.{◌≡◌, ◌∙◌, ap, sym, ℕ, suc, ◌+◌, ◌<◌, length, drop, get_or, map, Bool, true, false, ◌&&◌, List, arith}
use Rattle.std.proofs.Math.Seq.{drop-cons}
use Rattle.wb_values.specs.Value.{Name}
use Rattle.v_syntax.specs.declared.module.Event.{Event}
use Rattle.v_syntax.specs.Source.{edge_of}
use Rattle.v_hier.specs.Reading.{event_list_known}

abbrev all_known : (Name → Bool) → List Event → Bool
all_known k es = event_list_known k (map (λ (e : Event). record { edge = edge_of e.edge; signal = e.signal.now }) es)

next : (k : Name → Bool) (es : List Event) (i : ℕ) (d : Event) → i < length es → all_known k (drop i es) ≡ k (get_or es i d).signal.now && all_known k (drop (i + 1) es)
next k es i d h =
    let e : suc i ≡ i + 1 = omega arith in
    ap (all_known k) (drop-cons es i d h) ∙ ap (λ j. k (get_or es i d).signal.now && all_known k (drop j es)) e

pub event-more : (k : Name → Bool) (es : List Event) (i : ℕ) (d : Event) (t r : Bool) → i < length es → r ≡ k (get_or es i d).signal.now → r ≡ true
    → t ≡ all_known k (drop i es) → t ≡ all_known k (drop (i + 1) es)
event-more k es i d t r h e is so = so ∙ (next k es i d h ∙ ap (λ b. b && all_known k (drop (i + 1) es)) (sym e ∙ is))

pub event-stop : (k : Name → Bool) (es : List Event) (i : ℕ) (d : Event) (t r : Bool) → i < length es → r ≡ k (get_or es i d).signal.now → r ≡ false
    → t ≡ all_known k (drop i es) → false ≡ t
event-stop k es i d t r h e is so = sym (so ∙ (next k es i d h ∙ ap (λ b. b && all_known k (drop (i + 1) es)) (sym e ∙ is)))
