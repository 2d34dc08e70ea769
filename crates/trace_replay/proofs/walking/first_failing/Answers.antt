use Rattle.std.proofs.Common.{◌∙◌, length, get_or, map, sym, subst, arith}
use Rattle.std.proofs.lemmas.Bool.{false≢true}
use Rattle.std.proofs.lemmas.List.{length-map}
use Rattle.std.proofs.lemmas.Option.{slice_get-get_or}
use Rattle.obligation_lists.specs.declared.claims.Fact.TheVariants.{ResetActive}
use Rattle.obligation_lists.specs.Claims.{fact_of}
use Rattle.obligation_lists.specs.Within.{IsFactOf}
use Rattle.shown_facts.specs.Values.{model_in, map_in, values_in, cycles_in}
use Rattle.trace_replay.proofs.Facts.{each_at, read_there, mapped_there, shown_more, shown_all}
use Rattle.trace_replay.proofs.walking.first_failing.Goals as goal

pub loop-place-init : goal.loop-place-init
loop-place-init c = λ read. tt

pub is_shown-requires-clause-asked : goal.is_shown-requires-clause-asked
is_shown-requires-clause-asked c =
    let g = c.args.given.now in
    let a = c.requires.asked in
    let fs = c.args.facts.now in
    let k = c.loop-place.place in
    record {
      numbers = a.numbers;
      counted = a.counted;
      fact = each_at (IsFactOf (model_in g) a.numbers (cycles_in g)) fs k (get_or fs k (ResetActive 0)) a.facts (slice_get-get_or fs k (ResetActive 0) c.loop-place-test.true);
    }

pub returns-then-not-holds : goal.returns-then-not-holds
returns-then-not-holds c =
    λ read.
    let fs = c.args.facts.now in
    let k = c.loop-place.place in
    let f = get_or fs k (ResetActive 0) in
    let at = mapped_there fs k f (slice_get-get_or fs k (ResetActive 0) c.loop-place-test.true) in
    let told = c.in_ok-holds.ensures (read_there c.args.shown.now.later_cycle (map fact_of fs) k (fact_of f) read at) in
    (c.loop-place.invariant read, fact_of f, at, λ shown. false≢true (sym c.if-not-holds.true ∙ told.1 shown))

pub loop-place-preserved : goal.loop-place-preserved
loop-place-preserved c =
    λ read.
    let g = c.args.given.now in
    let fs = c.args.facts.now in
    let k = c.loop-place.place in
    let f = get_or fs k (ResetActive 0) in
    let at = mapped_there fs k f (slice_get-get_or fs k (ResetActive 0) c.loop-place-test.true) in
    let told = c.in_ok-holds.ensures (read_there c.args.shown.now.later_cycle (map fact_of fs) k (fact_of f) read at) in
    shown_more (model_in g) (map_in g) (values_in g) (map fact_of fs) k (fact_of f) at (c.loop-place.invariant read) (told.0 c.if-not-holds.false)

pub returns : goal.returns
returns c =
    λ read.
    let g = c.args.given.now in
    let fs = c.args.facts.now in
    shown_all (model_in g) (map_in g) (values_in g) (map fact_of fs) c.loop-place.place (omega (arith, length-map fs fact_of, c.loop-place-test.false)) (c.loop-place.invariant read)
