use Rattle.std.proofs.Common.{◌<◌, ◌≤◌, ◌+◌, length, drop, map, None, ap, sym, subst, arith}
use Rattle.ila_file.specs.View.{update_view}
use Rattle.ila_build.specs.Sizes.{sizes_of}
use Rattle.ila_build.specs.Updating.{AreUpdated}
use Rattle.ila_build.proofs.Growing.{same, onward, wider, are_in-grown}
use Rattle.ila_build.proofs.Definitions.{kept_same, rest_cut, rest_end}
use Rattle.ila_build.proofs.Declared.{in_table, table_grown}
use Rattle.ila_build.proofs.Chosen.{AreToChoose, choose_start, choose_turn, choose_end}
use Rattle.std.proofs.lemmas.Result.{err_from_is_err_and}
use Rattle.ila_build.proofs.Unrefused.{updates_lost}
use Rattle.ila_build.proofs.updating.put_updates.Goals as goal

pub loop-update-init : goal.loop-update-init
loop-update-init c = (same c.args.terms.now, choose_start c.args.terms.now c.args.known.now c.args.fetch c.new-table.result (map update_view c.args.updates.now) c.new-table.ensures.empty, omega arith)

pub put_update-requires-clause-table : goal.put_update-requires-clause-table
put_update-requires-clause-table c =
    let b = c.loop-update.invariant.0 in
    table_grown c.args.terms.now c.loop-update.terms c.args.known.now c.args.known.now (wider b) b.names (kept_same c.args.known.now) (are_in-grown c.args.terms.now c.loop-update.terms c.args.known.now None b (in_table c.args.terms.now c.args.known.now c.requires.table)) c.requires.table

pub put_update-requires-clause-in_store : goal.put_update-requires-clause-in_store
put_update-requires-clause-in_store c = are_in-grown c.args.terms.now c.loop-update.terms c.args.known.now c.args.fetch c.loop-update.invariant.0 c.requires.in_store

pub loop-update-preserved : goal.loop-update-preserved
loop-update-preserved c =
    let us = c.args.updates.now in
    let i = c.loop-update.update-index in
    let u = c.update-item.result in
    let h : i < length us = omega arith in
    let all = map update_view us in
    let at = subst (λ rest. AreToChoose c.args.terms.now c.args.known.now c.args.fetch c.loop-update.terms c.loop-update.table rest all) (rest_cut update_view us i u h c.update-item.is) c.loop-update.invariant.1 in (
      onward c.loop-update.invariant.0 c.in_ok-put_update.ensures.grown,
      choose_turn c.args.terms.now c.loop-update.terms c.put_update.new.terms c.args.known.now c.args.fetch c.loop-update.table c.put_update.new.table (update_view u) (map update_view (drop (i + 1) us)) all c.loop-update.invariant.0 at c.in_ok-put_update.ensures.chosen,
      (let e = ap sizes_of (rest_cut update_view us i u h c.update-item.is) in let k = c.loop-update.invariant.2 in let a = c.in_ok-put_update.ensures.added in omega (arith, e, k, a)),
    )

pub returns-clause-updates : goal.returns-clause-updates
returns-clause-updates c =
    let us = c.args.updates.now in
    let i = c.loop-update.update-index in
    let h : length us ≤ i = omega arith in
    let all = map update_view us in
    let at = subst (λ rest. AreToChoose c.args.terms.now c.args.known.now c.args.fetch c.loop-update.terms c.loop-update.table rest all) (rest_end update_view us i h) c.loop-update.invariant.1 in
    subst (λ es. AreUpdated c.args.terms.now c.args.known.now c.args.fetch c.loop-update.terms es all) (sym c.in-Ok.ensures.updates)
    (choose_end c.args.terms.now c.loop-update.terms c.args.known.now c.args.fetch c.loop-update.table all c.name_count-names.ensures.distinct c.loop-update.invariant.0 c.in-Ok.ensures.ordered at)

pub returns-in_err-put_update-clause-unrefused : goal.returns-in_err-put_update-clause-unrefused
returns-in_err-put_update-clause-unrefused c =
    let p = err_from_is_err_and c.from_residual.result c.from_residual.ensures.1 in
    let us = c.args.updates.now in
    let i = c.loop-update.update-index in
    let u = c.update-item.result in
    let h : i < length us = omega arith in
    rw (p.1, p.2) (updates_lost c.args.terms.now c.loop-update.terms c.args.known.now c.args.fetch c.loop-update.table (update_view u) (map update_view (drop i us)) (map update_view (drop (i + 1) us)) (map update_view us) c.in_err-put_update.field-0.0
    (rest_cut update_view us i u h c.update-item.is) c.loop-update.invariant.0 c.loop-update.invariant.1 c.in_err-put_update.ensures.unrefused)

pub returns-in_err-put_update-clause-grown : goal.returns-in_err-put_update-clause-grown
returns-in_err-put_update-clause-grown c = onward c.loop-update.invariant.0 c.in_err-put_update.ensures.grown

pub returns-in_err-put_update-clause-added : goal.returns-in_err-put_update-clause-added
returns-in_err-put_update-clause-added c =
    let us = c.args.updates.now in
    let i = c.loop-update.update-index in
    let u = c.update-item.result in
    let h : i < length us = omega arith in
    let e = ap sizes_of (rest_cut update_view us i u h c.update-item.is) in
    let k = c.loop-update.invariant.2 in
    let a = c.in_err-put_update.ensures.added in
    omega (arith, e, k, a)
