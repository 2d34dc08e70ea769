use Rattle.std.proofs.Common.{◌<◌, ◌≤◌, ◌+◌, [], ◌∷◌, length, drop, map, subst, arith}
use Rattle.std.proofs.lemmas.Result.{err_from_is_err_and}
use Rattle.ila_file.specs.View.{definition_view}
use Rattle.ila_build.proofs.Growing.{same, onward}
use Rattle.ila_build.proofs.Definitions.{AreReached, rest_cut, rest_end, reached_start, reached_turn, reached_end, reached_lost}
use Rattle.ila_build.specs.Knowing.{defined_names}
use Rattle.ila_build.specs.Sizes.{size_of, sizes_of}
use Rattle.ila_build.proofs.LeavingLemmas.{IsLeaving, leave_start, leave_turn, leave_lost, leave_end}
use Rattle.ila_build.proofs.defining.put_definitions.Goals as goal

pub loop-definition-init : goal.loop-definition-init
loop-definition-init c = (same c.args.terms.now, c.requires, leave_start c.args.terms.now c.args.known.now (defined_names (map definition_view c.args.definitions.now)) (sizes_of (map definition_view c.args.definitions.now)), reached_start c.args.terms.now c.args.known.now (map definition_view c.args.definitions.now))

pub returns-in_err-put_definition-clause-defined : goal.returns-in_err-put_definition-clause-defined
returns-in_err-put_definition-clause-defined c =
    let p = err_from_is_err_and c.from_residual.result c.from_residual.ensures.1 in
    let ds = c.args.definitions.now in
    let i = c.loop-definition.definition-index in
    let d = c.definition-item.result in
    let h : i < length ds = omega arith in
    let all = map definition_view ds in
    let at = subst (λ rest. AreReached c.args.terms.now c.args.known.now c.loop-definition.terms c.loop-definition.known rest all) (rest_cut definition_view ds i d h c.definition-item.is) c.loop-definition.invariant.3 in
    rw (p.1, p.2) (reached_lost c.args.terms.now c.loop-definition.terms c.put_definition.new.terms c.args.known.now c.loop-definition.known c.put_definition.new.known (definition_view d) (map definition_view (drop (i + 1) ds)) all c.in_err-put_definition.field-0.0 at c.in_err-put_definition.ensures.defined)

pub loop-definition-preserved : goal.loop-definition-preserved
loop-definition-preserved c =
    let ds = c.args.definitions.now in
    let i = c.loop-definition.definition-index in
    let d = c.definition-item.result in
    let h : i < length ds = omega arith in
    let all = map definition_view ds in
    let at = subst (λ rest. AreReached c.args.terms.now c.args.known.now c.loop-definition.terms c.loop-definition.known rest all) (rest_cut definition_view ds i d h c.definition-item.is) c.loop-definition.invariant.3 in (
      onward c.loop-definition.invariant.0 c.in_ok-put_definition.ensures.grown,
      c.in_ok-put_definition.ensures.left.in_store,
      leave_turn c.args.terms.now c.loop-definition.terms c.put_definition.new.terms c.args.known.now c.loop-definition.known c.put_definition.new.known ((definition_view d).0 ∷ []) (defined_names (map definition_view (drop (i + 1) ds))) (defined_names all) (size_of (definition_view d).1) (sizes_of (map definition_view (drop (i + 1) ds))) (sizes_of all)
          (subst (λ rest. IsLeaving c.args.terms.now c.args.known.now c.loop-definition.terms c.loop-definition.known (defined_names rest) (sizes_of rest) (defined_names all) (sizes_of all)) (rest_cut definition_view ds i d h c.definition-item.is) c.loop-definition.invariant.2) c.in_ok-put_definition.ensures.left,
      reached_turn c.args.terms.now c.loop-definition.terms c.put_definition.new.terms c.args.known.now c.loop-definition.known c.put_definition.new.known (definition_view d) (map definition_view (drop (i + 1) ds)) all at c.in_ok-put_definition.ensures.defined c.in_ok-put_definition.ensures.aside,
    )

pub returns-clause-defined : goal.returns-clause-defined
returns-clause-defined c =
    let ds = c.args.definitions.now in
    let i = c.loop-definition.definition-index in
    let h : length ds ≤ i = omega arith in
    let all = map definition_view ds in
    reached_end c.args.terms.now c.loop-definition.terms c.args.known.now c.loop-definition.known all
    (subst (λ rest. AreReached c.args.terms.now c.args.known.now c.loop-definition.terms c.loop-definition.known rest all) (rest_end definition_view ds i h) c.loop-definition.invariant.3)

pub returns-clause-left : goal.returns-clause-left
returns-clause-left c =
    let ds = c.args.definitions.now in
    let i = c.loop-definition.definition-index in
    let h : length ds ≤ i = omega arith in
    let all = map definition_view ds in
    leave_end c.args.terms.now c.loop-definition.terms c.args.known.now c.loop-definition.known (defined_names all) (sizes_of all) c.loop-definition.invariant.1
    (subst (λ rest. IsLeaving c.args.terms.now c.args.known.now c.loop-definition.terms c.loop-definition.known (defined_names rest) (sizes_of rest) (defined_names all) (sizes_of all)) (rest_end definition_view ds i h) c.loop-definition.invariant.2)

pub returns-in_err-put_definition-clause-left : goal.returns-in_err-put_definition-clause-left
returns-in_err-put_definition-clause-left c =
    let ds = c.args.definitions.now in
    let i = c.loop-definition.definition-index in
    let d = c.definition-item.result in
    let h : i < length ds = omega arith in
    let all = map definition_view ds in
    leave_lost c.args.terms.now c.loop-definition.terms c.put_definition.new.terms c.args.known.now c.loop-definition.known c.put_definition.new.known ((definition_view d).0 ∷ []) (defined_names (map definition_view (drop (i + 1) ds))) (defined_names all) (size_of (definition_view d).1) (sizes_of (map definition_view (drop (i + 1) ds))) (sizes_of all)
    (subst (λ rest. IsLeaving c.args.terms.now c.args.known.now c.loop-definition.terms c.loop-definition.known (defined_names rest) (sizes_of rest) (defined_names all) (sizes_of all)) (rest_cut definition_view ds i d h c.definition-item.is) c.loop-definition.invariant.2) c.in_err-put_definition.ensures.left

pub returns-in_err-put_definition-clause-grown : goal.returns-in_err-put_definition-clause-grown
returns-in_err-put_definition-clause-grown c = onward c.loop-definition.invariant.0 c.in_err-put_definition.ensures.grown
