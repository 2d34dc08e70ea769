use Rattle.std.proofs.Common.{◌∙◌, ap, sym, option_map}
use Rattle.v_elab.proofs.NetTerms.{term_put}
use Rattle.v_elab.proofs.settled.enter_term.Goals as goal

pub returns-in_ok-insert-in-Some : goal.returns-in_ok-insert-in-Some
returns-in_ok-insert-in-Some c =
    term_put c.args.found.now c.insert.new.self c.in_ok-own-in-Some.own c.args.name.now c.in-Some.id _ c.in_ok-own-in-Some.ensures.ok
    c.in_ok-insert-in-Some.ensures.updates
    (ap (option_map (λ k. k.0)) (sym c.in-Some.is) ∙ c.net_term.ensures)
