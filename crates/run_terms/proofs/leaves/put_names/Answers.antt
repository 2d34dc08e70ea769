use Rattle.std.proofs.Common.{◌+◌, List, sym, subst, arith}
use Rattle.wb_terms.specs.declared.nodes.TermId.{TermId}
use Rattle.term_copies.proofs.Extending.{extended_refl, extended_trans}
use Rattle.run_terms.specs.Leaves.{AreNames}
use Rattle.run_terms.proofs.Values.{no_names, names_more}
use Rattle.run_terms.proofs.leaves.put_names.Goals as goal

pub loop-place-init : goal.loop-place-init
loop-place-init c =
    let g = c.args.terms.now in (
      extended_refl g,
      subst (λ (ids : List TermId). AreNames g c.args.first 0 ids) (sym c.new-ids.ensures.items) (no_names g c.args.first),
    )

pub overflow_add-first : goal.overflow_add-first
overflow_add-first c = omega (arith, c.requires, c.name_count-names.ensures.names, c.loop-place-test.true)

pub loop-place-preserved : goal.loop-place-preserved
loop-place-preserved c =
    let l = c.loop-place in (
      extended_trans l.invariant.0 c.in_ok-put_name.ensures.extended,
      subst (λ (ids : List TermId). AreNames c.put_name.new.terms c.args.first (l.place + 1) ids) (sym c.in_ok-push.ensures.items)
          (names_more c.args.first l.place l.ids.items c.in_ok-put_name.field-0 c.in_ok-put_name.ensures.extended l.invariant.1 c.in_ok-put_name.ensures.name),
    )
