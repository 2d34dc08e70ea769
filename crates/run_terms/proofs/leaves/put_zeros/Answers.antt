use Rattle.std.proofs.Common.{◌+◌, ◌-◌, List, take, sym, subst, arith}
use Rattle.wb_terms.specs.declared.nodes.TermId.{TermId}
use Rattle.v_design.specs.Seen.{parts_of}
use Rattle.v_design.specs.Parts.{inputs_of}
use Rattle.term_copies.proofs.Extending.{extended_refl, extended_trans}
use Rattle.run_terms.specs.Worth.{AreWorth}
use Rattle.run_terms.proofs.Copied.{no_zeros, zeros_more, all_zeros, zeros_of}
use Rattle.run_terms.proofs.leaves.put_zeros.Goals as goal

pub loop-place-init : goal.loop-place-init
loop-place-init c =
    let d = c.args.design.now in (
      extended_refl c.args.terms.now,
      omega (arith, c.register_count-place.ensures),
      no_zeros c.args.terms.now d.terms.names d.register_count c.register_count-place.result c.new-ids.result.items c.register_count-place.ensures c.new-ids.ensures.items,
    )

pub loop-place-preserved : goal.loop-place-preserved
loop-place-preserved c =
    let l = c.loop-place in
    let d = c.args.design.now in (
      extended_trans l.invariant.0 c.in_ok-put_zero.ensures.extended,
      omega (arith, l.invariant.1),
      subst (λ (ids : List TermId). AreWorth c.put_zero.new.terms (take (l.place + 1 - d.register_count) (inputs_of (parts_of d))) ids (λ v. zeros_of (take (l.place + 1 - d.register_count) (inputs_of (parts_of d)))))
          (sym c.in_ok-push.ensures.items)
          (zeros_more d.terms.names d.register_count l.place l.ids.items c.in_ok-put_zero.field-0 l.invariant.1 (omega (arith, c.loop-place-test.true, c.name_count-place-end.ensures.names)) c.in_ok-put_zero.ensures.extended d.words l.invariant.2
          c.in_ok-put_zero.ensures.zero),
    )

pub returns-clause-zeros : goal.returns-clause-zeros
returns-clause-zeros c =
    let d = c.args.design.now in
    all_zeros d.terms.names d.register_count c.loop-place.place c.name_count-place-end.result c.loop-place.ids.items c.name_count-place-end.ensures.names c.loop-place-test.false
    c.loop-place.invariant.2
