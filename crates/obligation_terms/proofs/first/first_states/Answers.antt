use Rattle.std.proofs.Common.{length, sym, subst}
use Rattle.model_meaning.specs.Model.{states_of}
use Rattle.ila_child.specs.State.{sorts_of_states}
use Rattle.run_terms.specs.Leaves.{AreBelow}
use Rattle.obligation_terms.proofs.Beginning.{states_found, shown_covers}
use Rattle.obligation_terms.proofs.first.first_states.Goals as goal

pub terms_at-requires : goal.terms_at-requires
terms_at-requires c =
    let x = c.args.mapped.now in
    let s = c.requires.sorted in
    let u = c.requires.unrolled in
    let row = c.index.result.now in
    let here = shown_covers x u.0 c.args.run.now (sorts_of_states (states_of s.0.top)) x.states.items row u.1 s.1.states c.index.ensures in
    subst (λ ids. AreBelow (length c.deref.result.now) ids) (sym c.deref-2.ensures.value) (subst (λ ids. AreBelow (length ids) x.states.items) (sym c.deref.ensures.value) here)

pub returns : goal.returns
returns c =
    states_found c.args.mapped.now c.args.run.now c.terms_at.result c.index.result.now c.deref.result.now c.deref-2.result.now c.deref.ensures.value c.deref-2.ensures.value c.index.ensures
    c.terms_at.ensures
