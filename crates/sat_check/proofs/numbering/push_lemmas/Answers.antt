use Rattle.std.proofs.Common.{◌≡◌, ◌∙◌, ◌+◌, ◌<◌, ◌++◌, [], List, length, take, map, get_or, slice_get, Some, arith, sym, ap, subst}
use Rattle.std.proofs.lemmas.List.{map_more, take_all}
use Rattle.std.proofs.lemmas.Option.{slice_get-get_or}
use Rattle.sat_base.specs.declared.literals.Lit.{Lit}
use Rattle.sat_base.specs.declared.logs.Lemma.{Lemma}
use Rattle.sat_check.specs.Numbering.{HasVariables}
use Rattle.sat_check.proofs.Numberings.{HasVariables-push, HasVariables-kept, KeepsAll-push}
use Rattle.sat_check.proofs.numbering.push_lemmas.Goals as goal

pub loop-k-preserved : goal.loop-k-preserved
loop-k-preserved c =
    let k = c.loop-k.k in
    let log = c.args.log.now in
    let none : Lemma = record { lits = []; hints = [] } in
    let within : k < length log = omega (arith, c.loop-k-test.true, c.len-k-end.ensures) in
    let s = get_or log k none in
    let at : slice_get log k ≡ Some s = slice_get-get_or log k none within in
    let front : List (List Lit) = map (λ (x : Lemma). x.lits) (take k log) in
    let added : c.push_variables.new.variables.items ≡ c.loop-k.variables.items ++ map (λ l. l.var) s.lits =
    c.in_ok-push_variables.ensures ∙ ap (λ (lits : List Lit). c.loop-k.variables.items ++ map (λ l. l.var) lits) (c.as_slice.ensures ∙ c.in_ok-lits.ensures s at) in
    let more = c.push_variables.new.variables.items in
    let kept = KeepsAll-push c.args.variables.now.items c.loop-k.variables.items more _ c.loop-k.invariant.kept added in
    let has : HasVariables more (map (λ (x : Lemma). x.lits) (take (k + 1) log)) =
    subst (HasVariables more) (sym (map_more (λ (x : Lemma). x.lits) log k none within))
    (HasVariables-push c.loop-k.variables.items more front s.lits c.loop-k.invariant.added added) in
    record {
      kept = λ x member. c.thinned-limit.ensures x (kept x member);
      added = HasVariables-kept more c.thinned-limit.new.variables.items (map (λ (x : Lemma). x.lits) (take (k + 1) log)) c.thinned-limit.ensures has;
    }

pub returns-clause-added : goal.returns-clause-added
returns-clause-added c =
    subst (λ (xs : List Lemma). HasVariables c.loop-k.variables.items (map (λ (x : Lemma). x.lits) xs))
    (take_all c.loop-k.k c.args.log.now (omega (arith, c.loop-k-test.false, c.len-k-end.ensures))) c.loop-k.invariant.added
