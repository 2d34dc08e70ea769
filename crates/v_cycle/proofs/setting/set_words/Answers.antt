use Rattle.std.proofs.Common.{◌≡◌, ◌∙◌, ◌<◌, length, sym, arith}
use Rattle.std.proofs.lemmas.List.{take_all}
use Rattle.wb_values.specs.Value.{as_words}
use Rattle.model_meaning.specs.Term.{sort_of}
use Rattle.wb_terms.specs.Graph.{tree}
use Rattle.wb_terms.specs.Environment.{value_of}
use Rattle.v_cycle.proofs.Memory.{length-words, some_words}
use Rattle.v_cycle.proofs.setting.set_words.Goals as goal

pub returns-clause-words : goal.returns-clause-words
returns-clause-words c =
    let x = value_of c.args.terms.now c.args.env.now c.args.id.0 in
    let o = sort_of (tree c.args.terms.now c.args.id.0) in
    let n = length c.args.list.now in
    let some : 0 < n = some_words o n c.requires.room in
    let sorted = c.loop-address.invariant.sorted (omega arith) in
    let long : length (as_words x) ≡ n = length-words x o n c.requires.room sorted in
    sym (take_all c.loop-address.address c.loop-address.list (omega arith)) ∙ c.loop-address.invariant.set
    ∙ take_all c.loop-address.address (as_words x) (omega arith)

pub returns-clause-sorted : goal.returns-clause-sorted
returns-clause-sorted c =
    let o = sort_of (tree c.args.terms.now c.args.id.0) in
    let n = length c.args.list.now in
    let some : 0 < n = some_words o n c.requires.room in
    c.loop-address.invariant.sorted (omega arith)
