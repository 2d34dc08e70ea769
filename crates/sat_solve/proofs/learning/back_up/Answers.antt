use Rattle.std.proofs.Common.{◌≡◌, [], ◌∷◌, List, drop, Option, Some, None, sym, ap, ◌∙◌}
use Rattle.std.specs.Option.{IfSome, IfNone}
use Rattle.std.proofs.lemmas.List.{drop-drop}
use Rattle.sat_solve.specs.declared.trail.Entry.{Entry}
use Rattle.sat_solve.specs.Kept.{TrailView}
use Rattle.sat_solve.proofs.learning.back_up.Goals as goal

abbrev entries_of : TrailView → List Entry
entries_of t = t.entries

-- whatever it gives, a pop leaves the trail without its newest entry
popped : (r : Option Entry) (before after : TrailView) → IfSome r (λ e. before ≡ record { vars = after.vars; entries = e ∷ after.entries }) → IfNone r ((before.entries ≡ []) × (after ≡ before)) → (after.vars ≡ before.vars) × (after.entries ≡ drop 1 before.entries)
popped None before after some none =
    let gone : after.entries ≡ [] = ap entries_of none.1 ∙ none.0 in
    (ap (λ (t : TrailView). t.vars) none.1, gone ∙ ap (λ (es : List Entry). drop 1 es) (sym none.0))
popped (Some e) before after some none = (ap (λ (t : TrailView). t.vars) (sym some), ap (λ (t : TrailView). drop 1 t.entries) (sym some))

pub loop-preserved : goal.loop-preserved
loop-preserved c =
    let both = popped c.pop.result c.loop.trail c.pop.new.self c.pop.ensures.some c.pop.ensures.none in
    record {
      vars = both.0 ∙ c.loop.invariant.vars;
      entries = both.1 ∙ ap (λ (es : List Entry). drop 1 es) c.loop.invariant.entries ∙ drop-drop 1 c.loop.counter c.args.trail.now.entries;
    }
