use Rattle.std.proofs.Common.{refl, subst, sym, arith}
use Rattle.std.proofs.lemmas.Bool.{false≢true}
use Rattle.std.proofs.lemmas.List.{drop_all}
use Rattle.test_paths.proofs.Parts.{AreNoMemories, memory-turn}
use Rattle.test_paths.proofs.fit.are_no_memories.Goals as goal

pub loop-declaration-init : goal.loop-declaration-init
loop-declaration-init c = λ h. h

pub loop-declaration-preserved : goal.loop-declaration-preserved
loop-declaration-preserved c = λ h.
    c.loop-declaration.invariant
    (memory-turn c.args.declarations.now c.loop-declaration.declaration-index _ c.is_some.result (omega arith) c.is_some.ensures c.if-is_some.false h)

pub returns-then-is_some : goal.returns-then-is_some
returns-then-is_some c = λ t. absurd (false≢true t)

pub returns : goal.returns
returns c = λ t. c.loop-declaration.invariant (subst AreNoMemories (sym (drop_all c.loop-declaration.declaration-index c.args.declarations.now c.loop-declaration-test.false)) (λ n. refl))
