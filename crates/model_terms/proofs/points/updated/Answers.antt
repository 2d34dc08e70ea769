use Rattle.std.proofs.Common.{◌≡◌, ◌∙◌, ◌<◌, ◌+◌, List, length, drop, set, get_or, refl, sym, ap, subst, arith}
use Rattle.std.proofs.Math.ListN.{length-set}
use Rattle.ila_model.specs.declared.parts.Update.{Update}
use Rattle.wb_terms.specs.declared.nodes.TermId.{TermId}
use Rattle.ila_child.proofs.Updates.{update_now}
use Rattle.model_terms.specs.Copied.{with_copies}
use Rattle.model_terms.proofs.Pointing.{copies_turn, no_updates_left}
use Rattle.model_terms.proofs.points.updated.Goals as goal

pub loop-place-init : goal.loop-place-init
loop-place-init c = record {
  made = ap (λ (ids : List TermId). with_copies c.args.copies.now c.args.updates.now ids) c.in_ok-ids.ensures.items;
  long = ap length c.in_ok-ids.ensures.items;
}

pub copy_of-copy-requires : goal.copy_of-copy-requires
copy_of-copy-requires c =
    let f = update_now c.args.terms.now c.args.updates.now c.loop-place.place (record { state = record { 0 = 0 }; term = record { 0 = 0 } }) c.requires.updates c.loop-place-test.true in
    omega (arith, f.term, c.requires.room)

pub index_mut-requires : goal.index_mut-requires
index_mut-requires c =
    let f = update_now c.args.terms.now c.args.updates.now c.loop-place.place (record { state = record { 0 = 0 }; term = record { 0 = 0 } }) c.requires.updates c.loop-place-test.true in
    omega (arith, f.state, c.requires.names, c.loop-place.invariant.long, c.loop-place.ids.ok.0)

pub loop-place-preserved : goal.loop-place-preserved
loop-place-preserved c =
    let l = c.loop-place in
    let us = c.args.updates.now in
    record {
      made = ap (λ (x : TermId). with_copies c.args.copies.now (drop (l.place + 1) us) (set l.ids.items (get_or us l.place (record { state = record { 0 = 0 }; term = record { 0 = 0 } })).state.0 x)) c.copy_of-copy.ensures
          ∙ copies_turn c.args.copies.now us l.place (record { state = record { 0 = 0 }; term = record { 0 = 0 } }) l.ids.items c.loop-place-test.true ∙ l.invariant.made;
      long = length-set l.ids.items _ c.copy_of-copy.result ∙ l.invariant.long;
    }

pub returns : goal.returns
returns c =
    ap (λ (us : List Update). with_copies c.args.copies.now us c.loop-place.ids.items) (sym (no_updates_left c.args.updates.now c.loop-place.place c.loop-place-test.false)) ∙ c.loop-place.invariant.made
