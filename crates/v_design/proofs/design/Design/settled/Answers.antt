use Rattle.std.proofs.Common.{◌∙◌, ap, sym, subst, IsTrue}
use Rattle.v_design.specs.Table.{terms_at}
use Rattle.v_design.specs.Parts.{is_within}
use Rattle.v_design.proofs.Within.{within_some}
use Rattle.v_design.proofs.design.Design.settled.Goals as goal

pub returns-clause-within : goal.returns-clause-within
returns-clause-within c =
    let g = c.args.self.now.terms in
    within_some g c.term_at.result
    (subst (λ o. IsTrue (is_within g o)) (sym (c.term_at.ensures ∙ ap (λ places. terms_at places c.args.path.now) c.deref.ensures.value))
    (c.args.self.now.within c.args.path.now))
