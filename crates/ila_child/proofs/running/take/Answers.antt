use Rattle.std.proofs.Common.{◌≡◌, ◌∙◌, List, length, get_or, None, true, false, sym, ap, subst}
use Rattle.std.proofs.lemmas.Bool.{and_parts}
use Rattle.wb_values.specs.Value as meaning
use Rattle.model_meaning.specs.Model.{holds}
use Rattle.wb_terms.specs.Graph.{tree}
use Rattle.wb_terms.specs.Environment.{AreOfSorts}
use Rattle.term_evaluation.specs.Links.{valuation_at}
use Rattle.ila_model.specs.declared.parts.Instruction.{Instruction}
use Rattle.ila_model.specs.Sorted.{is_condition}
use Rattle.ila_model.proofs.Declarations.{sorted}
use Rattle.ila_child.specs.declared.decoding.Decoded.TheVariants.{Nothing, Several}
use Rattle.ila_child.specs.declared.decoding.Decoded.TheVariants.{One as OneDecodes}
use Rattle.ila_child.specs.Decoding.{decodes, IsFound, IsOnlyFound, AreDecoded}
use Rattle.ila_child.specs.Updating.{with_updates, are_updates_of}
use Rattle.ila_child.specs.declared.running.Taken.TheVariants.{Stuck, One}
use Rattle.ila_child.specs.Running.{seen, IsTaken}
use Rattle.ila_child.proofs.Updates.{are_updates-of}
use Rattle.ila_child.proofs.Machines.{holds_same, decodes_same, are_conditions-from, sorted_at, none_stuck, several_stuck, one_taken}
use Rattle.ila_child.proofs.Programs.{low_enough}
use Rattle.ila_child.proofs.running.take.Goals as goal

pub holds_at-requires-clause-fits : goal.holds_at-requires-clause-fits
holds_at-requires-clause-fits c = subst (AreOfSorts c.args.model.now.parts.terms.names) (sym c.let_go.ensures.values) c.requires.fits

pub find_decoded-requires-clause-conditions : goal.find_decoded-requires-clause-conditions
find_decoded-requires-clause-conditions c =
    let p = c.args.model.now.parts in
    let m = and_parts (is_condition p c.args.at c.args.valid.0) _ c.requires.machine in
    are_conditions-from p c.args.at 0 c.args.instructions.now m.1

pub find_decoded-requires-clause-fits : goal.find_decoded-requires-clause-fits
find_decoded-requires-clause-fits c = subst (AreOfSorts c.args.model.now.parts.terms.names) (sym (c.holds_at.ensures.values ∙ c.let_go.ensures.values)) c.requires.fits

pub update-requires-clause-updates : goal.update-requires-clause-updates
update-requires-clause-updates c =
    let p = c.args.model.now.parts in
    let is = c.args.instructions.now in
    let m = and_parts (is_condition p c.args.at c.args.valid.0) _ c.requires.machine in
    let i = c.index-instructions-place.result in
    let found = subst (λ d. AreDecoded (decodes p.terms (valuation_at p.terms c.holds_at.new.point.values) is) (length is) d) c.in-One.is c.in_ok-decoded.ensures.decoded in
    let at_place = sorted_at p c.args.at 0 is c.in-One.place i m.1 found.0 in
    let same : c.deref.result.now ≡ (get_or is c.in-One.place i).updates.items =
    c.deref.ensures.value ∙ ap (λ (x : Instruction). x.updates.items) c.index-instructions-place.is in
    subst (λ us. are_updates_of p.terms 0 us ≡ true) (sym same) (are_updates-of p c.args.at 0 (get_or is c.in-One.place i).updates.items at_place.updates)

pub update-requires-clause-fits : goal.update-requires-clause-fits
update-requires-clause-fits c =
    subst (AreOfSorts c.args.model.now.parts.terms.names) (sym (c.find_decoded.ensures.values ∙ c.holds_at.ensures.values ∙ c.let_go.ensures.values)) c.requires.fits

pub returns-then-not-is_valid-clause-taken : goal.returns-then-not-is_valid-clause-taken
returns-then-not-is_valid-clause-taken c =
    let p = c.args.model.now.parts in
    let d = c.requires.deep in
    let xs = c.let_go.new.self.values in
    let same = c.let_go.ensures.values in
    let m = and_parts (is_condition p c.args.at c.args.valid.0) _ c.requires.machine in (
      c.holds_at.ensures.values ∙ same,
      subst (λ ys. holds (tree p.terms c.args.valid.0) (seen p c.args.at ys) ≡ false) same
          (sym (holds_same p c.args.at d.depth xs c.args.valid.0 d.has (low_enough d.depth d.low) m.0) ∙ sym c.in_ok-is_valid.ensures.holds ∙ c.if-not-is_valid.true),
    )

pub returns-then-not-is_valid-clause-fits : goal.returns-then-not-is_valid-clause-fits
returns-then-not-is_valid-clause-fits c = subst (AreOfSorts c.args.model.now.parts.terms.names) (sym (c.holds_at.ensures.values ∙ c.let_go.ensures.values)) c.requires.fits

pub returns-in_ok-update-in-One-clause-taken : goal.returns-in_ok-update-in-One-clause-taken
returns-in_ok-update-in-One-clause-taken c =
    let p = c.args.model.now.parts in
    let g = p.terms in
    let xs = c.let_go.new.self.values in
    let is = c.args.instructions.now in
    let d = c.requires.deep in
    let low = low_enough d.depth d.low in
    let m = and_parts (is_condition p c.args.at c.args.valid.0) _ c.requires.machine in
    let i = c.index-instructions-place.result in
    let j = c.in-One.place in
    let us = i.updates.items in
    let fits = subst (AreOfSorts g.names) (sym c.let_go.ensures.values) c.requires.fits in
    let told = subst (λ e. AreDecoded (decodes g (valuation_at g c.holds_at.new.point.values) is) (length is) e) c.in-One.is c.in_ok-decoded.ensures.decoded in
    let here = subst (λ (ys : List meaning.Value). AreDecoded (decodes g (valuation_at g ys) is) (length is) (OneDecodes j)) c.holds_at.ensures.values told in
    let found = subst (λ t. IsOnlyFound t (length is) j) (decodes_same p c.args.at d.depth xs is d.has low m.1) here in
    let zs = c.find_decoded.new.point.values in
    let made = c.in_ok-update-in-One.ensures.values ∙ ap (λ vs. with_updates g (valuation_at g zs) vs zs) c.deref.ensures.value
    ∙ ap (λ (ys : List meaning.Value). with_updates g (valuation_at g ys) us ys) (c.find_decoded.ensures.values ∙ c.holds_at.ensures.values) in
    subst (λ ys. IsTaken p c.args.at c.args.valid.0 is ys c.update.new.point.values (One i.child)) c.let_go.ensures.values (
      sym (holds_same p c.args.at d.depth xs c.args.valid.0 d.has low m.0) ∙ sym c.in_ok-is_valid.ensures.holds ∙ c.if-not-is_valid.false,
      one_taken p (sorted p c.args.model.now.well_sorted) c.args.at d.depth is j i xs c.update.new.point.values d.has low m.1 c.index-instructions-place.is found fits made,
    )

pub returns-in-Nothing-clause-taken : goal.returns-in-Nothing-clause-taken
returns-in-Nothing-clause-taken c =
    let p = c.args.model.now.parts in
    let g = p.terms in
    let xs = c.let_go.new.self.values in
    let is = c.args.instructions.now in
    let d = c.requires.deep in
    let low = low_enough d.depth d.low in
    let m = and_parts (is_condition p c.args.at c.args.valid.0) _ c.requires.machine in
    let told = subst (λ e. AreDecoded (decodes g (valuation_at g c.holds_at.new.point.values) is) (length is) e) c.in-Nothing.is c.in_ok-decoded.ensures.decoded in
    let here = subst (λ (ys : List meaning.Value). AreDecoded (decodes g (valuation_at g ys) is) (length is) Nothing) c.holds_at.ensures.values told in
    let found = subst (λ t. IsFound t (length is) None) (decodes_same p c.args.at d.depth xs is d.has low m.1) here in
    subst (λ ys. IsTaken p c.args.at c.args.valid.0 is ys c.find_decoded.new.point.values Stuck) c.let_go.ensures.values (
      sym (holds_same p c.args.at d.depth xs c.args.valid.0 d.has low m.0) ∙ sym c.in_ok-is_valid.ensures.holds ∙ c.if-not-is_valid.false,
      λ inner depth step. none_stuck p.terms inner (seen p c.args.at xs) depth step is found,
    )

pub returns-in-Nothing-clause-fits : goal.returns-in-Nothing-clause-fits
returns-in-Nothing-clause-fits c =
    subst (AreOfSorts c.args.model.now.parts.terms.names) (sym (c.find_decoded.ensures.values ∙ c.holds_at.ensures.values ∙ c.let_go.ensures.values)) c.requires.fits

pub returns-in-Several-clause-taken : goal.returns-in-Several-clause-taken
returns-in-Several-clause-taken c =
    let p = c.args.model.now.parts in
    let g = p.terms in
    let xs = c.let_go.new.self.values in
    let is = c.args.instructions.now in
    let d = c.requires.deep in
    let low = low_enough d.depth d.low in
    let m = and_parts (is_condition p c.args.at c.args.valid.0) _ c.requires.machine in
    let j = c.in-Several.field-0 in
    let k = c.in-Several.field-1 in
    let told = subst (λ e. AreDecoded (decodes g (valuation_at g c.holds_at.new.point.values) is) (length is) e) c.in-Several.is c.in_ok-decoded.ensures.decoded in
    let here = subst (λ (ys : List meaning.Value). AreDecoded (decodes g (valuation_at g ys) is) (length is) (Several j k)) c.holds_at.ensures.values told in
    let found = subst (λ t. AreDecoded t (length is) (Several j k)) (decodes_same p c.args.at d.depth xs is d.has low m.1) here in
    subst (λ ys. IsTaken p c.args.at c.args.valid.0 is ys c.find_decoded.new.point.values Stuck) c.let_go.ensures.values (
      sym (holds_same p c.args.at d.depth xs c.args.valid.0 d.has low m.0) ∙ sym c.in_ok-is_valid.ensures.holds ∙ c.if-not-is_valid.false,
      λ inner depth step. several_stuck p.terms inner (seen p c.args.at xs) depth step is j k found,
    )

pub returns-in-Several-clause-fits : goal.returns-in-Several-clause-fits
returns-in-Several-clause-fits c =
    subst (AreOfSorts c.args.model.now.parts.terms.names) (sym (c.find_decoded.ensures.values ∙ c.holds_at.ensures.values ∙ c.let_go.ensures.values)) c.requires.fits
