-- The place that the table tells is the first token with which no source, or no expression, goes on.
use Rattle.std.proofs.Common.{◌≡◌, ℕ, suc, List, [], ◌∷◌, ◌++◌, length, Option, Some, None, refl, sym, ap, ◌∙◌, subst, append_assoc}
use Rattle.verilog_text.specs.Token.{Token}
use Rattle.verilog_text.specs.Grammar.{AreInRow, IsModule, IsWhole}
use Rattle.v_place.specs.Table.{Symbol, whole, modules, expected_after, left_from}
use Rattle.v_place.specs.Place.{IsSourceText, IsExpressionText, Begins, EndsThere, IsFirstWrong}
use Rattle.v_place.proofs.Meaning.{Spells}
use Rattle.v_place.proofs.Filled.{all_filled}
use Rattle.v_place.proofs.Steps.{same_some, step}
use Rattle.v_place.proofs.Runs.{Runs, whole_runs, expression_runs}
use Rattle.v_place.proofs.Sources.{source_runs}

abbrev IsStuck : List Symbol → List Token → Type 0
IsStuck ss [] = Unit {0}
IsStuck ss (t ∷ ts) = expected_after ss t ≡ None

-- the tokens up to the place, those from it on, and what is expected there
record Stops (text : List Token) (ss : List Symbol) : Type 0 where
  front : List Token
  behind : List Token
  after : List Symbol
  parts : text ≡ front ++ behind
  left : left_from text ss ≡ length behind
  goes : (more rest : List Token) → Spells after more rest → Spells ss (front ++ more) rest
  runs : (more : List Token) → Runs (front ++ more) ss → Runs more after
  stuck : IsStuck after behind

stops_by : (t : Token) (ts : List Token) (ss : List Symbol) → ((next : List Symbol) → Stops ts next) → (o : Option (List Symbol)) → expected_after ss t ≡ o → Stops (t ∷ ts) ss
unfolding left_from
stops_by t ts ss others None e = record {
  front = [];
  behind = t ∷ ts;
  after = ss;
  parts = refl;
  left = rw e refl;
  goes = λ more rest d. d;
  runs = λ more r. r;
  stuck = e;
}
stops_by t ts ss others (Some next) e =
    let p = others next in
    record {
      front = t ∷ p.front;
      behind = p.behind;
      after = p.after;
      parts = ap (λ (us : List Token). t ∷ us) p.parts;
      left = rw e (p.left);
      goes = λ more rest d. step ss t next e (p.front ++ more) rest (p.goes more rest d);
      runs = λ more r. p.runs more (subst (λ (us : List Symbol). Runs (p.front ++ more) us) (same_some r.0 next (sym r.1 ∙ e)) r.2);
      stuck = p.stuck;
    }

stops : (text : List Token) (ss : List Symbol) → Stops text ss
unfolding left_from
stops [] ss = record { front = []; behind = []; after = ss; parts = refl; left = refl; goes = λ more rest d. d; runs = λ more r. r; stuck = tt }
stops (t ∷ ts) ss = stops_by t ts ss (stops ts) (expected_after ss t) refl

-- a kind of texts, and what is expected of one from its start
module _ (IsText : List Token → Type 0) (ss : List Symbol) (spelled : (text : List Token) → Spells ss text [] → IsText text) (run : (text : List Token) → IsText text → Runs text ss) where
  viable : (text : List Token) (p : Stops text ss) → Begins IsText p.front
  viable text p = let more = all_filled p.after [] in (more.0, spelled (p.front ++ more.0) (p.goes more.0 [] more.1))

  ends_there : (front : List Token) (after : List Symbol) → ((more : List Token) → Runs (front ++ more) ss → Runs more after) → (behind : List Token) → IsStuck after behind → EndsThere IsText front behind
  ends_there front after runs [] stuck = tt
  ends_there front after runs (t ∷ ts) stuck = λ b.
      let text : (front ++ t ∷ []) ++ b.0 ≡ front ++ (t ∷ b.0) = append_assoc front (t ∷ []) b.0 in
      let r : Runs (t ∷ b.0) after = runs (t ∷ b.0) (run (front ++ (t ∷ b.0)) (subst IsText text b.1)) in
      let e : expected_after after t ≡ Some r.0 = r.1 in
      absurd cc

  told : (text : List Token) → IsFirstWrong IsText (left_from text ss) text
  told text = let p = stops text ss in (p.front, p.behind, p.parts, p.left, viable text p, ends_there p.front p.after p.runs p.behind p.stuck)

source_spelled : (text : List Token) → Spells (modules ∷ []) text [] → IsSourceText text
source_spelled text d = (d.1.0, subst (λ (us : List Token). AreInRow IsModule d.1.0 text us) d.2 d.1.1)

source_run : (text : List Token) → IsSourceText text → Runs text (modules ∷ [])
source_run text s = source_runs s.1

expression_spelled : (text : List Token) → Spells (whole ∷ []) text [] → IsExpressionText text
expression_spelled text d = (d.1.0, subst (λ (us : List Token). IsWhole d.1.0 text us) d.2 d.1.1)

expression_run : (text : List Token) → IsExpressionText text → Runs text (whole ∷ [])
expression_run text s = whole_runs text [] (expression_runs s.1 tt [] tt)

pub the_place : (text : List Token) → IsFirstWrong IsSourceText (left_from text (modules ∷ [])) text
the_place = told IsSourceText (modules ∷ []) source_spelled source_run

pub the_place_in_expression : (text : List Token) → IsFirstWrong IsExpressionText (left_from text (whole ∷ [])) text
the_place_in_expression = told IsExpressionText (whole ∷ []) expression_spelled expression_run
