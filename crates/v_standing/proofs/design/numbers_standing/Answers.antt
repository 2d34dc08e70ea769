use Rattle.std.proofs.Common.{◌≡◌, sym, subst, map, length, Some, arith}
use Rattle.std.proofs.lemmas.List.{length-map}
use Rattle.verilog_trees.specs.Syntax.{Source}
use Rattle.verilog_meaning.specs.Hierarchy.{module_named}
use Rattle.v_syntax.specs.Source.{module_of}
use Rattle.v_standing.specs.Standing.{left_in, numbered, module_at, IsBelowOne, AreAdded, AreWithin}
use Rattle.v_standing.proofs.Tables.{all_named, within_begun}
use Rattle.v_standing.proofs.Whole.{begun, stepped, finished}
use Rattle.v_standing.proofs.design.numbers_standing.Goals as goal

pub loop-next-init : goal.loop-next-init
loop-next-init c =
    let source : Source = map module_of c.args.modules.now in (
      λ clock. begun (record { source = source; top = c.args.top.now; clock = clock }) (left_in source c.in_ok-left.left) (left_in source c.add_named.new.left) (numbered source c.add_named.new.found.items)
          (all_named source c.in_ok-left.left c.in_ok-left.ensures)
          (subst (λ ks. AreAdded source (λ n. module_named source c.args.top.now ≡ Some n) (left_in source c.in_ok-left.left) (numbered source ks) (left_in source c.add_named.new.left) (numbered source c.add_named.new.found.items))
          c.new-found.ensures.items (c.in_ok-add_named.ensures.added source)),
      c.in_ok-add_named.ensures.within (length c.args.modules.now)
          (subst (AreWithin (length c.args.modules.now) c.in_ok-left.left) (sym c.new-found.ensures.items)
          (within_begun source c.in_ok-left.left c.in_ok-left.ensures (length c.args.modules.now) (length-map c.args.modules.now module_of))),
    )

pub loop-next-preserved : goal.loop-next-preserved
loop-next-preserved c =
    let source : Source = map module_of c.args.modules.now in (
      λ clock. stepped (record { source = source; top = c.args.top.now; clock = clock }) c.loop-next.found.items c.add_below.new.found.items c.loop-next.next c.index.result.now
          (left_in source c.loop-next.left) (left_in source c.add_below.new.left) (omega (arith, c.len.ensures, c.loop-next-test.true)) (c.loop-next.invariant.0 clock)
          (subst (λ k. AreAdded source (IsBelowOne source (module_at source k).items) (left_in source c.loop-next.left) (numbered source c.loop-next.found.items) (left_in source c.add_below.new.left) (numbered source c.add_below.new.found.items))
          c.index.ensures (c.in_ok-add_below.ensures.added source)),
      c.in_ok-add_below.ensures.within (length c.args.modules.now) c.loop-next.invariant.1,
    )

pub returns-clause-standing : goal.returns-clause-standing
returns-clause-standing c = λ clock.
    let source : Source = map module_of c.args.modules.now in
    finished (record { source = source; top = c.args.top.now; clock = clock }) (left_in source c.loop-next.left) c.loop-next.found.items c.loop-next.next (omega (arith, c.len.ensures, c.loop-next-test.false)) (c.loop-next.invariant.0 clock)

pub returns-clause-within : goal.returns-clause-within
returns-clause-within c = c.loop-next.invariant.1.found
