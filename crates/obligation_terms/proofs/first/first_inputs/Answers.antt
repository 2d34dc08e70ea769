use Rattle.std.proofs.Common.{◌∙◌, length, sym, subst, arith}
use Rattle.std.specs.Vec.{vec_len}
use Rattle.ila_child.specs.State.{sorts_of_inputs}
use Rattle.run_terms.specs.Leaves.{AreBelow}
use Rattle.obligation_terms.proofs.Beginning.{inputs_found, zeros_found, shown_covers, read_covers, none_there, some_there}
use Rattle.obligation_terms.proofs.first.first_inputs.Goals as goal

pub terms_at-requires : goal.terms_at-requires
terms_at-requires c =
    let x = c.args.mapped.now in
    let s = c.requires.sorted in
    let u = c.requires.unrolled in
    let row = c.index.result.now in
    let here = shown_covers x u.0 c.args.run.now (sorts_of_inputs s.0.inputs) x.inputs.items row u.1 s.1.inputs c.index.ensures in
    subst (λ ids. AreBelow (length c.deref.result.now) ids) (sym c.deref-then-is_empty.ensures.value) (subst (λ ids. AreBelow (length ids) x.inputs.items) (sym c.deref.ensures.value) here)

pub terms_at-requires-else-is_empty : goal.terms_at-requires-else-is_empty
terms_at-requires-else-is_empty c =
    let x = c.args.mapped.now in
    let s = c.requires.sorted in
    let u = c.requires.unrolled in
    let row = c.index-else-is_empty.result.now in
    let some = some_there (length c.args.run.now.read.items) (vec_len c.args.run.now.read) (omega (arith, c.args.run.now.read.ok)) (sym c.is_empty.ensures ∙ c.if-is_empty.false) in
    let here = read_covers x u.0 c.args.run.now (sorts_of_inputs s.0.inputs) x.inputs.items row u.1 s.1.inputs some c.index-else-is_empty.ensures in
    subst (λ ids. AreBelow (length c.deref-else-is_empty.result.now) ids) (sym c.deref-else-is_empty-2.ensures.value)
    (subst (λ ids. AreBelow (length ids) x.inputs.items) (sym c.deref-else-is_empty.ensures.value) here)

pub returns-then-is_empty : goal.returns-then-is_empty
returns-then-is_empty c =
    zeros_found c.args.mapped.now c.args.run.now c.terms_at.result c.index.result.now c.deref.result.now c.deref-then-is_empty.result.now c.deref.ensures.value c.deref-then-is_empty.ensures.value
    (none_there (length c.args.run.now.read.items) (vec_len c.args.run.now.read) (omega (arith, c.args.run.now.read.ok)) (sym c.is_empty.ensures ∙ c.if-is_empty.true)) c.index.ensures c.terms_at.ensures

pub returns-else-is_empty : goal.returns-else-is_empty
returns-else-is_empty c =
    inputs_found c.args.mapped.now c.args.run.now c.terms_at-else-is_empty.result c.index-else-is_empty.result.now c.deref-else-is_empty.result.now c.deref-else-is_empty-2.result.now
    c.deref-else-is_empty.ensures.value c.deref-else-is_empty-2.ensures.value (some_there (length c.args.run.now.read.items) (vec_len c.args.run.now.read) (omega (arith, c.args.run.now.read.ok)) (sym c.is_empty.ensures ∙ c.if-is_empty.false)) c.index-else-is_empty.ensures
    c.terms_at-else-is_empty.ensures
