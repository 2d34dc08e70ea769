use Rattle.std.proofs.Common.{◌∙◌, map, take, drop, refl, sym, subst, string_bytes}
use Rattle.std.proofs.lemmas.Bool.{false≢true}
use Rattle.std.proofs.lemmas.List.{length-map}
use Rattle.wb_terms.specs.Environment.{as_value, AreOfSorts}
use Rattle.ila_child.proofs.Checked.{states_checked, of_sorts-from, of_sorts-taken}
use Rattle.ila_child.proofs.states.State.checked.Goals as goal

pub shared_values-requires : goal.shared_values-requires
shared_values-requires c =
    let ns = c.args.model.now.parts.terms.names in
    let vs = c.args.values.now in
    let xs = map as_value vs in
    let n = c.state_count.result in
    subst (λ k. AreOfSorts (take k ns) xs) (length-map vs as_value) (of_sorts-taken ns n xs (of_sorts-from (take n (drop 0 ns)) xs (sym c.are_of_sorts.ensures ∙ c.if-not-are_of_sorts.false)))

pub returns-then-not-are_of_sorts-clause-sorted : goal.returns-then-not-are_of_sorts-clause-sorted
returns-then-not-are_of_sorts-clause-sorted c =
    let m = c.args.model.now in
    let r = states_checked m.parts (string_bytes m.name) (map as_value c.args.values.now) c.state_count.result c.are_of_sorts.result c.state_count.ensures.place c.are_of_sorts.ensures in
    (λ h. absurd (false≢true h), λ h. absurd (false≢true (sym c.if-not-are_of_sorts.true ∙ r.1 h)))

pub returns-clause-sorted : goal.returns-clause-sorted
returns-clause-sorted c =
    let m = c.args.model.now in
    let r = states_checked m.parts (string_bytes m.name) (map as_value c.args.values.now) c.state_count.result c.are_of_sorts.result c.state_count.ensures.place c.are_of_sorts.ensures in
    (λ h. r.0 c.if-not-are_of_sorts.false, λ h. refl)
