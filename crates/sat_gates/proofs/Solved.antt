-- A question about a circuit that values determine has solutions exactly for those under which it is so.
use Rattle.std.proofs.Common.{◌≡◌, Bool, false, List}
use Rattle.std.specs.Prelude.{length}
use Rattle.wb_values.specs.Value.{truth_value, Valuation}
use Rattle.model_meaning.specs.Term.{Term, val}
use Rattle.sat_base.specs.Formula.{Formula, Satisfies}
use Rattle.gate_base.proofs.Questions.{follows_where_satisfied, yes_where_satisfied, satisfied_where_yes}
use Rattle.sat_gates.specs.Encodes.{Variables, RestrictsTo, GoesOn, Encodes}
use Rattle.sat_gates.specs.Solutions.{Falsifies, HasSolutions}

goes_on : (f : Formula) (m : Variables) (t : Term) (e : Encodes f m t) (v : Valuation) (a : List Bool) → Falsifies f m t v a → GoesOn f e.question m t v a
goes_on f m t e v a h = record {
  follows = record { whole = h.whole; gates = follows_where_satisfied f e.question a h.satisfies };
  restricts = h.restricts;
}

pub has_solutions : (f : Formula) (m : Variables) (t : Term) → Encodes f m t → HasSolutions f m t
has_solutions f m t e = record {
  some = λ v sorts. (
    λ low.
        let h = e.some v sorts in (
          h.0,
          record {
            whole = h.1.follows.whole;
            satisfies = satisfied_where_yes f e.question h.0 h.1.follows.gates ((e.asks v h.0 h.1).1 low);
            restricts = h.1.restricts;
          },
        ),
    λ x. (e.asks v x.0 (goes_on f m t e v x.0 x.1)).0 (yes_where_satisfied f e.question x.0 x.1.satisfies),
  );
  one = λ v a b p q. e.one v a b (goes_on f m t e v a p) (goes_on f m t e v b q);
}

-- a solution falsifies the term
pub false_under : (f : Formula) (m : Variables) (t : Term) → Encodes f m t → (v : Valuation) (a : List Bool) → length a ≡ f.vars → Satisfies a f → RestrictsTo m a v t
    → val t v ≡ truth_value false
false_under f m t e v a whole satisfies restricts =
    let h : Falsifies f m t v a = record { whole = whole; satisfies = satisfies; restricts = restricts } in
    (e.asks v a (goes_on f m t e v a h)).0 (yes_where_satisfied f e.question a satisfies)
