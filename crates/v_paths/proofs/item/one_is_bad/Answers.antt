use Rattle.std.proofs.Common.{◌+◌, ap, map, drop, arith}
use Rattle.std.proofs.lemmas.List.{at_drop_all}
use Rattle.v_syntax.specs.Source.{item_of}
use Rattle.v_value.specs.Scope.{scope_at}
use Rattle.v_hier.specs.Tables.{has_name}
use Rattle.v_statement.proofs.Runs.{rest_is}
use Rattle.v_paths.specs.Modules.{IsBadItem}
use Rattle.v_paths.proofs.Items.{onto-turn, into-turn, found-so, none-found, fit-first}
use Rattle.v_paths.proofs.item.one_is_bad.Goals as goal

pub loop-item-init : goal.loop-item-init
loop-item-init c = record { onto = λ o. o; into = λ o. o; fit = c.requires.fit }

pub is_bad_item-requires-clause-fit : goal.is_bad_item-requires-clause-fit
is_bad_item-requires-clause-fit c =
    let s = scope_at c.args.scope.now in
    let xs = c.args.items.now in
    let i = c.loop-item.item-index in
    let r = c.item-item.result in
    let rest = ap (map item_of) (rest_is xs i r (omega arith) c.item-item.is) in
    let later = map item_of (drop (i + 1) xs) in
    (fit-first s (map item_of (drop i xs)) later (item_of r) rest c.loop-item.invariant.fit).0

pub loop-item-preserved : goal.loop-item-preserved
loop-item-preserved c =
    let s = scope_at c.args.scope.now in
    let xs = c.args.items.now in
    let i = c.loop-item.item-index in
    let r = c.item-item.result in
    let rest = ap (map item_of) (rest_is xs i r (omega arith) c.item-item.is) in
    let later = map item_of (drop (i + 1) xs) in
    record {
      onto = onto-turn (IsBadItem s (has_name c.args.clocks.now)) _ (map item_of (drop i xs)) later (item_of r) _ rest c.in_ok-is_bad_item.ensures c.if-branch.false c.loop-item.invariant.onto;
      into = into-turn (IsBadItem s (has_name c.args.clocks.now)) _ (map item_of (drop i xs)) later (item_of r) rest c.loop-item.invariant.into;
      fit = (fit-first s (map item_of (drop i xs)) later (item_of r) rest c.loop-item.invariant.fit).1;
    }

pub returns-then-branch : goal.returns-then-branch
returns-then-branch c =
    let s = scope_at c.args.scope.now in
    let xs = c.args.items.now in
    let i = c.loop-item.item-index in
    let r = c.item-item.result in
    let rest = ap (map item_of) (rest_is xs i r (omega arith) c.item-item.is) in
    let later = map item_of (drop (i + 1) xs) in
    found-so (IsBadItem s (has_name c.args.clocks.now)) _ (map item_of (drop i xs)) later (item_of r) _ rest c.in_ok-is_bad_item.ensures c.if-branch.true c.loop-item.invariant.into

pub returns : goal.returns
returns c =
    let s = scope_at c.args.scope.now in
    none-found (IsBadItem s (has_name c.args.clocks.now)) _ _ (at_drop_all (map item_of) c.args.items.now c.loop-item.item-index c.loop-item-test.false) c.loop-item.invariant.onto
