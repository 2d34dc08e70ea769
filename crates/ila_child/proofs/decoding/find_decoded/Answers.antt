use Rattle.std.proofs.Common.{◌≡◌, ◌+◌, List, sym, subst, ◌∙◌, ap}
use Rattle.wb_values.specs.Value as meaning
use Rattle.model_meaning.specs.Model.{holds}
use Rattle.wb_terms.specs.Graph.{tree}
use Rattle.wb_terms.specs.Environment.{AreOfSorts}
use Rattle.term_evaluation.specs.Links.{valuation_at}
use Rattle.ila_child.specs.Decoding.{decodes, IsFound}
use Rattle.ila_child.proofs.Effects.{found_at, condition_here}
use Rattle.ila_child.proofs.Found.{decodes-item, IsFound-pass, IsFound-first}
use Rattle.ila_child.proofs.decoding.find_decoded.Goals as goal
use Rattle.ila_child.proofs.decoding.find_decoded.Goals.{then-branch+in-None, else-branch}

pub returns-in-Some-clause-decoded : goal.returns-in-Some-clause-decoded
returns-in-Some-clause-decoded c =
    let g = c.args.terms.now in
    let p = valuation_at g c.args.point.now.values in
    let is = c.args.instructions.now in
    let at = c.loop-place.place in
    let i = c.index-instructions-place.result in
    let found = subst (λ o. IsFound (decodes g p is) at o) c.in-Some.is c.loop-place.invariant.found in
    let item = c.index-instructions-place.is in
    let held = c.in_ok-holds_at.ensures.holds ∙ ap (λ (xs : List meaning.Value). holds (tree g i.decode.0) (valuation_at g xs)) c.loop-place.invariant.values in
    (found, c.loop-place-test.true, decodes-item g p is at i c.in_ok-holds_at.field-0 c.loop-place-test.true item held ∙ c.if-branch.true)

pub loop-place-preserved : goal.loop-place-preserved
loop-place-preserved c =
    let g = c.args.terms.now in
    let p = valuation_at g c.args.point.now.values in
    let is = c.args.instructions.now in
    let at = c.loop-place.place in
    let i = c.index-instructions-place.result in
    let item = c.index-instructions-place.is in
    let held = c.in_ok-holds_at.ensures.holds ∙ ap (λ (xs : List meaning.Value). holds (tree g i.decode.0) (valuation_at g xs)) c.loop-place.invariant.values in
    let here : decodes g p is at ≡ c.in_ok-holds_at.field-0 = decodes-item g p is at i c.in_ok-holds_at.field-0 c.loop-place-test.true item held in
    record {
      found = elim c.if-branch.branch [
        | then-branch+in-None w ↦
            let none = subst (λ o. IsFound (decodes g p is) at o) w.in-None.is c.loop-place.invariant.found in
            subst (λ o. IsFound (decodes g p is) (at + 1) o) (sym w.found-is) (IsFound-first (decodes g p is) at none (here ∙ w.if-branch.true))
        | else-branch w ↦
            subst (λ o. IsFound (decodes g p is) (at + 1) o) (sym w.found-is) (IsFound-pass (decodes g p is) at c.loop-place.found c.loop-place.invariant.found (here ∙ w.if-branch.false))
      ];
      values = c.holds_at.ensures.values ∙ c.loop-place.invariant.values;
      aside = c.holds_at.ensures.aside ∙ c.loop-place.invariant.aside;
      point = c.holds_at.ensures.point;
    }

pub holds_at-requires-clause-condition : goal.holds_at-requires-clause-condition
holds_at-requires-clause-condition c =
    let g = c.args.terms.now in
    let is = c.args.instructions.now in
    condition_here g is c.loop-place.place c.index-instructions-place.result c.requires.conditions
    (found_at is c.loop-place.place c.index-instructions-place.result c.loop-place-test.true c.index-instructions-place.is)

pub holds_at-requires-clause-fits : goal.holds_at-requires-clause-fits
holds_at-requires-clause-fits c = subst (AreOfSorts c.args.terms.now.names) (sym c.loop-place.invariant.values) c.requires.fits
