use Rattle.std.proofs.Common.{◌+◌, drop, get_or, arith}
use Rattle.std.proofs.lemmas.List.{at_drop_all, drop_more}
use Rattle.v_lower.specs.Table.{images_at}
use Rattle.v_settle.proofs.Copying.{none-copied, none-within, copied-turn, copied-end}
use Rattle.v_settle.proofs.copy.copied.Goals as goal

pub loop-declaration-init : goal.loop-declaration-init
loop-declaration-init c =
    record {
      within = none-within (images_at c.args.table.now) (images_at c.new-copy.result) c.new-copy.ensures;
      all = none-copied c.args.scope.now.declarations.items c.declarations-declaration-items.result.now (images_at c.args.table.now) (images_at c.new-copy.result)
          c.declarations-declaration-items.ensures;
    }

pub loop-declaration-preserved : goal.loop-declaration-preserved
loop-declaration-preserved c =
    let ds = c.declarations-declaration-items.result.now in
    let i = c.loop-declaration.declaration-index in
    record {
      within = c.in_ok-copy_name.ensures.within c.loop-declaration.invariant.within;
      all = copied-turn c.args.scope.now.declarations.items (drop i ds) (get_or ds i _) (drop (i + 1) ds) (images_at c.args.table.now) (images_at c.loop-declaration.copy)
          (images_at c.copy_name.new.copy) (drop_more ds i _ (omega arith)) c.loop-declaration.invariant.all c.in_ok-copy_name.ensures.kept
          c.in_ok-copy_name.ensures.there;
    }

pub returns-clause-within : goal.returns-clause-within
returns-clause-within c = c.loop-declaration.invariant.within

pub returns-clause-all : goal.returns-clause-all
returns-clause-all c =
    let ds = c.declarations-declaration-items.result.now in
    let i = c.loop-declaration.declaration-index in
    copied-end c.args.scope.now.declarations.items (drop i ds) (images_at c.args.table.now) (images_at c.loop-declaration.copy)
    (at_drop_all (λ ys. ys) ds i c.loop-declaration-test.false) c.loop-declaration.invariant.all
