use Rattle.std.proofs.Common.{◌≡◌, ◌+◌, ◌-◌, ◌<◌, [], List, length, map, get_or, Some, sym, ap, ◌∙◌, arith}
use Rattle.std.specs.List.{slice_get}
use Rattle.std.specs.Option.{option_map}
use Rattle.std.proofs.lemmas.Option.{slice_get-get_or, slice_get-map}
use Rattle.sat_base.specs.declared.literals.Lit.{Lit}
use Rattle.sat_base.specs.declared.logs.Lemma.{Lemma}
use Rattle.sat_solve.proofs.LogLemmas.{slice_get-left, slice_get-right}
use Rattle.sat_solve.proofs.StateLemmas.{length-known}
use Rattle.sat_solve.proofs.clauses.clause.Goals as goal

pub codes-requires-2 : goal.codes-requires-2
codes-requires-2 c = omega (arith, c.requires.number, length-known c.args.cnf.now c.args.log.now, ap length c.requires.holding, c.len-count.ensures, c.if-place-count.false)

pub returns-then-place-count : goal.returns-then-place-count
returns-then-place-count c =
    let clauses = c.args.cnf.now.clauses in
    let log = c.args.log.now in
    let k = c.args.number in
    let within : k < length clauses = omega (arith, ap length c.requires.holding, c.len-count.ensures, c.if-place-count.true) in
    let lits = get_or clauses k [] in
    let at : slice_get clauses k ≡ Some lits = slice_get-get_or clauses k [] within in
    slice_get-left clauses (map (λ (s : Lemma). s.lits) log) k lits at
    ∙ ap Some (sym (c.codes.ensures lits (ap (λ (cs : List (List Lit)). slice_get cs k) c.requires.holding ∙ at)))

pub returns : goal.returns
returns c =
    let clauses = c.args.cnf.now.clauses in
    let log = c.args.log.now in
    let k = c.args.number - c.len-count.result in
    let count : c.len-count.result ≡ length clauses = c.len-count.ensures ∙ ap length c.requires.holding in
    let place : c.args.number ≡ length clauses + k = omega (arith, count, c.if-place-count.false) in
    let none : Lemma = record { lits = []; hints = [] } in
    let within : k < length log = omega (arith, c.requires.number, length-known c.args.cnf.now log, place) in
    let s = get_or log k none in
    let at : slice_get log k ≡ Some s = slice_get-get_or log k none within in
    slice_get-right clauses (map (λ (y : Lemma). y.lits) log) k c.args.number place
    ∙ slice_get-map (λ (y : Lemma). y.lits) log k
    ∙ ap (option_map (λ (y : Lemma). y.lits)) at
    ∙ ap Some (sym (c.codes-2.ensures s at))
