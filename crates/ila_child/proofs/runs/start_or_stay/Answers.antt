use Rattle.std.proofs.Common.{◌∙◌, ◌≤◌, ◌++◌, List, None, length, take, drop, refl, sym, ap, subst, arith}
use Rattle.std.proofs.lemmas.List.{length-take}
use Rattle.wb_values.specs.Value as meaning
use Rattle.wb_terms.specs.Environment.{AreOfSorts}
use Rattle.ila_child.specs.Running.{seen}
use Rattle.ila_child.specs.Start.{IsGoingOn, IsStart}
use Rattle.ila_child.specs.Runs.{stepped_of, Stays}
use Rattle.ila_child.proofs.Updates.{AreOfSorts-length}
use Rattle.ila_child.proofs.Movement.{mixed_fits, stopped_start, stopped_stays, put_back_state, put_back_values}
use Rattle.ila_child.proofs.runs.start_or_stay.Goals as goal

pub keep_states-requires : goal.keep_states-requires
keep_states-requires c =
    let ns = c.args.model.now.parts.terms.names in
    omega (arith, c.state_count-count.ensures.within, AreOfSorts-length ns c.args.point.now.values c.requires.fits, ap (λ (vs : List meaning.Value). length vs) c.forget.ensures.values)

pub start-requires-clause-fits : goal.start-requires-clause-fits
start-requires-clause-fits c = subst (AreOfSorts c.args.model.now.parts.terms.names) (sym (c.keep_states.ensures.values ∙ c.forget.ensures.values)) c.requires.fits

pub start-requires-clause-point : goal.start-requires-clause-point
start-requires-clause-point c =
    let g = c.args.model.now.parts.terms in
    c.keep_states.ensures.point g (c.forget.ensures.point g c.requires.point)

pub returns-in-None-clause-started : goal.returns-in-None-clause-started
returns-in-None-clause-started c =
    let p = c.args.model.now.parts in
    let k = c.args.place in
    let zs = c.start.new.point.values in
    let led = subst (λ o. IsGoingOn p (seen p None c.keep_states.new.point.values) k zs o) c.in-None.is c.in_ok-trouble.ensures.started in
    (refl, subst (λ (ys : List meaning.Value). IsGoingOn p (seen p None ys) k zs None) (c.keep_states.ensures.values ∙ c.forget.ensures.values) led)

pub put_back-requires-clause-values : goal.put_back-requires-clause-values
put_back-requires-clause-values c =
    let ns = c.args.model.now.parts.terms.names in
    omega (arith, c.state_count-count.ensures.within, AreOfSorts-length ns c.start.new.point.values c.in_ok-trouble.ensures.fits)

pub put_back-requires-clause-kept : goal.put_back-requires-clause-kept
put_back-requires-clause-kept c =
    let ns = c.args.model.now.parts.terms.names in
    let n = c.state_count-count.result in
    let xs = c.args.point.now.values in
    let ys = c.forget.new.self.values in
    let kept = c.in_ok-trouble.ensures.aside ∙ c.in_ok-keep_states.ensures.aside ∙ ap (λ (vs : List meaning.Value). vs ++ take n ys) c.forget.ensures.aside ∙ ap (λ (vs : List meaning.Value). take n vs) c.forget.ensures.values in
    omega (arith, c.state_count-count.ensures.within, AreOfSorts-length ns xs c.requires.fits, ap (λ (vs : List meaning.Value). length vs) kept, length-take n xs)

pub returns-in-Some-clause-started : goal.returns-in-Some-clause-started
returns-in-Some-clause-started c =
    let p = c.args.model.now.parts in
    let k = c.args.place in
    let zs = c.start.new.point.values in
    let v = seen p None c.args.point.now.values in
    let q = take (length p.initial_values.items) c.put_back.new.point.values in
    let there = subst (λ (ys : List meaning.Value). IsGoingOn p (seen p None ys) k zs c.in_ok-trouble.trouble) (c.keep_states.ensures.values ∙ c.forget.ensures.values) c.in_ok-trouble.ensures.started in
    let t = subst (λ o. IsGoingOn p v k zs o) c.in-Some.is there in
    subst (λ a. IsStart p v k (stepped_of a q)) (sym c.stopped.ensures) (stopped_start p v k c.in-Some.trouble q t)

pub returns-in-Some-clause-stays : goal.returns-in-Some-clause-stays
returns-in-Some-clause-stays c =
    let p = c.args.model.now.parts in
    let n = length p.initial_values.items in
    let m = c.state_count-count.result in
    let e = c.state_count-count.ensures.place in
    let xs = c.args.point.now.values in
    let ys = c.forget.new.self.values in
    let zs = c.start.new.point.values in
    let kept = c.in_ok-trouble.ensures.aside ∙ c.in_ok-keep_states.ensures.aside ∙ ap (λ (vs : List meaning.Value). vs ++ take m ys) c.forget.ensures.aside ∙ ap (λ (vs : List meaning.Value). take m vs) c.forget.ensures.values
    ∙ ap (λ j. take j xs) e in
    let put = c.put_back.ensures.values ∙ ap (λ j. take j c.start.new.point.aside ++ drop j zs) e in
    let within : n ≤ length xs = omega (arith, e, c.state_count-count.ensures.within, AreOfSorts-length p.terms.names xs c.requires.fits) in
    let same = put_back_state n xs c.start.new.point.aside zs c.put_back.new.point.values within kept put in
    subst (λ a. Stays a (take n xs) (take n c.put_back.new.point.values)) (sym c.stopped.ensures) (stopped_stays c.in-Some.trouble (take n xs) (take n c.put_back.new.point.values) same)

pub returns-in-Some-clause-fits : goal.returns-in-Some-clause-fits
returns-in-Some-clause-fits c =
    let ns = c.args.model.now.parts.terms.names in
    let m = c.state_count-count.result in
    let xs = c.args.point.now.values in
    let ys = c.forget.new.self.values in
    let zs = c.start.new.point.values in
    let kept = c.in_ok-trouble.ensures.aside ∙ c.in_ok-keep_states.ensures.aside ∙ ap (λ (vs : List meaning.Value). vs ++ take m ys) c.forget.ensures.aside ∙ ap (λ (vs : List meaning.Value). take m vs) c.forget.ensures.values in
    let put = put_back_values m xs c.start.new.point.aside zs c.put_back.new.point.values kept c.put_back.ensures.values in
    subst (AreOfSorts ns) (sym put) (mixed_fits ns m xs zs c.requires.fits c.in_ok-trouble.ensures.fits)

pub returns-in-Some-clause-point : goal.returns-in-Some-clause-point
returns-in-Some-clause-point c = c.put_back.ensures.point c.args.model.now.parts.terms c.in_ok-trouble.ensures.point
