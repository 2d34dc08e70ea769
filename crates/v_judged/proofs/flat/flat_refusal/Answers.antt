use Rattle.std.proofs.Common.{refl, sym, subst, inl, inr, map}
use Rattle.std.specs.Prelude.{◌↔◌, IsTrue}
use Rattle.verilog_designs.specs.Drivers.{HasUndriven}
use Rattle.verilog_designs.specs.Dependence.{HasLoop}
use Rattle.v_syntax.specs.Source.{item_of}
use Rattle.v_value.specs.Scope.{scope_at}
use Rattle.v_drivers.specs.Premises.{AreNarrowItems}
use Rattle.v_undriven.specs.Premises.{AreNarrowReads}
use Rattle.v_undriven.specs.Undriven.{HasUndrivenBit}
use Rattle.v_loops.specs.Turns.{IsRunnable}
use Rattle.v_loops.specs.OneModule.{HasLoopIn}
use Rattle.v_judged.proofs.First.{decided}
use Rattle.v_judged.proofs.flat.flat_refusal.Goals as goal

pub has_undriven-requires-clause-objects : goal.has_undriven-requires-clause-objects
has_undriven-requires-clause-objects c = c.requires.objects

pub has_undriven-requires-clause-targets : goal.has_undriven-requires-clause-targets
has_undriven-requires-clause-targets c =
    subst (λ xs. AreNarrowItems (scope_at c.args.flat.now.scope) (map item_of xs)) (sym c.deref.ensures.value) c.requires.fit.for_drivers

pub has_undriven-requires-clause-values : goal.has_undriven-requires-clause-values
has_undriven-requires-clause-values c =
    subst (λ xs. AreNarrowReads (scope_at c.args.flat.now.scope) (map item_of xs)) (sym c.deref.ensures.value) c.requires.fit.for_reads

pub has_loop-requires-clause-objects : goal.has_loop-requires-clause-objects
has_loop-requires-clause-objects c = c.requires.objects

pub has_loop-requires-clause-fit : goal.has_loop-requires-clause-fit
has_loop-requires-clause-fit c =
    subst (λ xs. IsRunnable (scope_at c.args.flat.now.scope) (map item_of xs)) (sym c.deref-2.ensures.value) c.requires.fit.for_loops

pub returns-then-lacking : goal.returns-then-lacking
returns-then-lacking c = λ d u l.
    let s = scope_at c.args.flat.now.scope in
    let lacking = decided c.in_ok-lacking.lacking (HasUndrivenBit s c.args.names.now c.args.clock.now (map item_of c.args.flat.now.items.items)) (HasUndriven d)
    (subst (λ xs. IsTrue c.in_ok-lacking.lacking ↔ HasUndrivenBit s c.args.names.now c.args.clock.now (map item_of xs)) c.deref.ensures.value c.in_ok-lacking.ensures)
    (u.1, u.0) in
    inl (refl, lacking.0 c.if-lacking.true)

pub returns-then-loops : goal.returns-then-loops
returns-then-loops c = λ d u l.
    let s = scope_at c.args.flat.now.scope in
    let lacking = decided c.in_ok-lacking.lacking (HasUndrivenBit s c.args.names.now c.args.clock.now (map item_of c.args.flat.now.items.items)) (HasUndriven d)
    (subst (λ xs. IsTrue c.in_ok-lacking.lacking ↔ HasUndrivenBit s c.args.names.now c.args.clock.now (map item_of xs)) c.deref.ensures.value c.in_ok-lacking.ensures)
    (u.1, u.0) in
    let loops = decided c.in_ok-loops.loops (HasLoopIn s (map item_of c.args.flat.now.items.items)) (HasLoop d)
    (subst (λ xs. IsTrue c.in_ok-loops.loops ↔ HasLoopIn s (map item_of xs)) c.deref-2.ensures.value c.in_ok-loops.ensures) (l.1, l.0) in
    inr (lacking.1 c.if-lacking.false, inl (refl, loops.0 c.if-loops.true))

pub returns : goal.returns
returns c = λ d u l.
    let s = scope_at c.args.flat.now.scope in
    let lacking = decided c.in_ok-lacking.lacking (HasUndrivenBit s c.args.names.now c.args.clock.now (map item_of c.args.flat.now.items.items)) (HasUndriven d)
    (subst (λ xs. IsTrue c.in_ok-lacking.lacking ↔ HasUndrivenBit s c.args.names.now c.args.clock.now (map item_of xs)) c.deref.ensures.value c.in_ok-lacking.ensures)
    (u.1, u.0) in
    let loops = decided c.in_ok-loops.loops (HasLoopIn s (map item_of c.args.flat.now.items.items)) (HasLoop d)
    (subst (λ xs. IsTrue c.in_ok-loops.loops ↔ HasLoopIn s (map item_of xs)) c.deref-2.ensures.value c.in_ok-loops.ensures) (l.1, l.0) in
    inr (lacking.1 c.if-lacking.false, inr (loops.1 c.if-loops.false, refl))
