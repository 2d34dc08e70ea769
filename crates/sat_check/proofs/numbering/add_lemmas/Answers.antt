use Rattle.std.proofs.Common.{◌≡◌, ◌∙◌, ◌<◌, ◌++◌, ◌∷◌, [], List, ℕ, length, take, map, get_or, slice_get, Some, arith, sym, ap, subst, All, Contains}
use Rattle.std.proofs.lemmas.List.{map_more, get_or-map, length-map, take_all}
use Rattle.std.proofs.lemmas.Option.{slice_get-get_or}
use Rattle.sat_base.specs.declared.literals.Lit.{Lit}
use Rattle.sat_base.specs.declared.logs.Lemma.{Lemma}
use Rattle.sat_check.specs.Numbering.{AddsNumbered, Numbers}
use Rattle.sat_check.proofs.Numberings.{AddsNumbered-push}
use Rattle.sat_check.proofs.numbering.add_lemmas.Goals as goal

pub number_all-requires-clause-known : goal.number_all-requires-clause-known
number_all-requires-clause-known c =
    let k = c.loop-k.k in
    let log = c.args.log.now in
    let none : Lemma = record { lits = []; hints = [] } in
    let within : k < length log = omega (arith, c.loop-k-test.true, c.len-k-end.ensures) in
    let s = get_or log k none in
    let at : slice_get log k ≡ Some s = slice_get-get_or log k none within in
    subst (All (λ (l : Lit). Contains c.args.variables.now l.var))
    (get_or-map (λ (x : Lemma). x.lits) log k none [] within ∙ sym (c.as_slice.ensures ∙ c.in_ok-lits.ensures s at))
    (c.requires.known k [] (omega (arith, length-map log (λ (x : Lemma). x.lits), within)))

pub loop-k-preserved : goal.loop-k-preserved
loop-k-preserved c =
    let variables = c.args.variables.now in
    let k = c.loop-k.k in
    let log = c.args.log.now in
    let none : Lemma = record { lits = []; hints = [] } in
    let within : k < length log = omega (arith, c.loop-k-test.true, c.len-k-end.ensures) in
    let s = get_or log k none in
    let at : slice_get log k ≡ Some s = slice_get-get_or log k none within in
    let front : List (List Lit) = map (λ (x : Lemma). x.lits) (take k log) in
    let stand : Numbers variables c.number_all.new.numbers.items s.lits =
    subst (Numbers variables c.number_all.new.numbers.items) (c.as_slice.ensures ∙ c.in_ok-lits.ensures s at) c.in_ok-number_all.ensures in
    let pushed : c.push.new.self ≡ c.loop-k.arena ++ (c.number_all.new.numbers.items ∷ []) =
    c.in_ok-push.ensures.ok ∙ ap (λ (x : List ℕ). c.loop-k.arena ++ (x ∷ [])) c.as_slice-in-loop-k.ensures.value in
    subst (AddsNumbered variables c.args.arena.now c.push.new.self)
    (sym (map_more (λ (x : Lemma). x.lits) log k none within))
    (AddsNumbered-push variables c.args.arena.now c.loop-k.arena c.push.new.self front c.number_all.new.numbers.items s.lits
    c.loop-k.invariant stand pushed)

pub returns : goal.returns
returns c =
    subst (λ (xs : List Lemma). AddsNumbered c.args.variables.now c.args.arena.now c.loop-k.arena (map (λ (x : Lemma). x.lits) xs))
    (take_all c.loop-k.k c.args.log.now (omega (arith, c.loop-k-test.false, c.len-k-end.ensures))) c.loop-k.invariant
