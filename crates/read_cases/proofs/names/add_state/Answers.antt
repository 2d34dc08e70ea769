use Rattle.std.proofs.Common.{◌∷◌, [], sym, subst}
use Rattle.read_cases.specs.Named.{AreNamesInState}
use Rattle.read_cases.proofs.Naming.{added_as, added_one, value_named, path_named}
use Rattle.read_cases.proofs.names.add_state.Goals as goal

pub returns-in_ok-add_text-in-Some : goal.returns-in_ok-add_text-in-Some
returns-in_ok-add_text-in-Some c = added_as _ _ (value_named c.args.state.now _ c.in-Some.is) c.in_ok-add_text-in-Some.ensures

pub returns-in_ok-push-in-None : goal.returns-in_ok-push-in-None
returns-in_ok-push-in-None c =
    added_one c.args.names.now.items c.push.new.self.items c.as_str.result c.in_ok-push-in-None.ensures.items
    (subst (λ own. AreNamesInState c.args.state.now (own ∷ [])) (sym c.as_str.ensures.value) (path_named c.args.state.now c.in-None.is))
