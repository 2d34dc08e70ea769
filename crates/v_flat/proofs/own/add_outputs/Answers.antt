use Rattle.std.proofs.Common.{◌<◌, ◌≤◌, length, sym, ap, arith}
use Rattle.std.proofs.lemmas.List.{length-map}
use Rattle.verilog_trees.specs.Syntax as pure
use Rattle.v_syntax.specs.Source.{item_of}
use Rattle.v_flat.specs.Views.{items_of, lists_of}
use Rattle.v_flat.proofs.Loops.{pushed}
use Rattle.v_flat.proofs.Added.{past_added, pushed_there}
use Rattle.v_flat.proofs.own.add_outputs.Goals as goal

pub returns-then-place-len : goal.returns-then-place-len
returns-then-place-len c = λ source i h.
    let past : length (lists_of c.args.lists.now.items) ≤ c.args.place.now.parent
    = omega (arith, c.if-place-len.true, c.len.ensures, length-map c.args.lists.now.items items_of) in
    sym (past_added (lists_of c.args.lists.now.items) c.args.place.now.parent _ past)

pub returns : goal.returns
returns c = λ source i h.
    let within : c.args.place.now.parent < length c.args.lists.now.items = omega (arith, c.if-place-len.false, c.len.ensures) in
    pushed_there c.args.lists.now.items c.args.place.now.parent c.index_mut-list.result.now c.push.new.self _ _ within c.index_mut-list.ensures.value
    (pushed item_of c.index_mut-list.result.now.items c.push.new.self.items _ _ c.in_ok-push.ensures.items (ap pure.assign (c.in_ok-links.ensures source i h)))
