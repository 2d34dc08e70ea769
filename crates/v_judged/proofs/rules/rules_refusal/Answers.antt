use Rattle.std.proofs.Common.{sym, subst}
use Rattle.v_judged.specs.First.{IsFirst, rule_kinds}
use Rattle.v_judged.specs.Spots.{spots_in}
use Rattle.v_judged.proofs.Breaking.{first_so}
use Rattle.v_judged.proofs.Sharing.{shared_any}
use Rattle.v_judged.proofs.rules.rules_refusal.Goals as goal

pub returns : goal.returns
returns c = λ d numbers spots own h.
    let chosen = spots_in c.args.scopes.now in
    subst (IsFirst d rule_kinds) (sym c.first_rule.ensures)
    (first_so d spots h.places c.known_modules_are_spots.ensures chosen (shared_any chosen numbers spots own) c.in_ok-broken.broken c.in_ok-ports.ports
    (c.in_ok-broken.ensures d.source h.interfaces) (c.in_ok-ports.ensures d.source h.interfaces))
