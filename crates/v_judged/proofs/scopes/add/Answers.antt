use Rattle.std.proofs.Common.{◌∙◌, inl, inr, refl, subst}
use Rattle.v_places.specs.Views.{spot_of}
use Rattle.v_judged.specs.Sharing.{HasLike}
use Rattle.v_judged.specs.Spots.{spot_in, spots_in}
use Rattle.v_judged.proofs.Sharing.{put_like, put_behind}
use Rattle.v_judged.proofs.scopes.add.Goals as goal

pub returns-in-Some-clause-like : goal.returns-in-Some-clause-like
returns-in-Some-clause-like c = subst (λ xs. HasLike (spots_in xs) c.in-Some.number (spot_of c.args.place.now)) c.deref.ensures.value c.in-Some.ensures

pub returns-in-Some-clause-grown : goal.returns-in-Some-clause-grown
returns-in-Some-clause-grown c = inl refl

pub returns-clause-like : goal.returns-clause-like
returns-clause-like c = put_like spot_in c.args.scopes.now.items c.push.new.self.items c.in_ok-one.one _ c.len-number.result (c.len-number.ensures ∙ c.args.scopes.now.ok.0) c.in_ok-push.ensures.items c.in_ok-one.ensures

pub returns-clause-grown : goal.returns-clause-grown
returns-clause-grown c = inr (put_behind spot_in c.args.scopes.now.items c.push.new.self.items c.in_ok-one.one _ c.in_ok-push.ensures.items c.in_ok-one.ensures)
