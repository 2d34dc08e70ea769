use Rattle.std.proofs.Common.{◌≡◌, ◌<◌, ◌≤◌, ◌+◌, ◌∙◌, suc, length, drop, None, not, ap, sym, subst, arith}
use Rattle.ila_file.specs.View.{instruction_view, instructions_view, instructions_from}
use Rattle.ila_build.specs.Sizes.{instruction_sizes}
use Rattle.ila_build.proofs.Growing.{same, onward, wider, are_in-grown}
use Rattle.ila_build.proofs.Definitions.{kept_same, rest_cut, rest_end}
use Rattle.ila_build.proofs.Declared.{in_table, table_grown}
use Rattle.ila_build.proofs.InstructionLemmas.{AreToPut, put_start, put_turn, put_end}
use Rattle.std.proofs.lemmas.Result.{err_from_is_err_and}
use Rattle.ila_build.proofs.Unrefused.{instructions_lost}
use Rattle.ila_build.proofs.instructions.put_instructions.Goals as goal

pub loop-place-init : goal.loop-place-init
loop-place-init c =
    let all = instructions_view c.args.instructions.now in
    (same c.args.terms.now, subst (λ put. AreToPut c.args.terms.now c.args.known.now c.args.fetch c.args.terms.now c.args.links.now put 0 all all) (sym c.new-put.ensures.items) (put_start c.args.terms.now c.args.known.now c.args.fetch c.args.links.now all), omega arith)

pub put_instruction-requires-clause-table : goal.put_instruction-requires-clause-table
put_instruction-requires-clause-table c =
    let b = c.loop-place.invariant.0 in
    table_grown c.args.terms.now c.loop-place.terms c.args.known.now c.args.known.now (wider b) b.names (kept_same c.args.known.now) (are_in-grown c.args.terms.now c.loop-place.terms c.args.known.now None b (in_table c.args.terms.now c.args.known.now c.requires.table)) c.requires.table

pub put_instruction-requires-clause-in_store : goal.put_instruction-requires-clause-in_store
put_instruction-requires-clause-in_store c = are_in-grown c.args.terms.now c.loop-place.terms c.args.known.now c.args.fetch c.loop-place.invariant.0 c.requires.in_store

pub loop-place-preserved : goal.loop-place-preserved
loop-place-preserved c =
    let ok = c.is_err.ensures.negation ∙ ap not c.if-is_err.false in
    let pushed = rw ok at c.push.ensures.items in
    let is = c.args.instructions.now in
    let i = c.loop-place.place in
    let w = c.index-instructions-place.result in
    let h : i < length is = omega arith in
    let one : suc i ≡ i + 1 = omega arith in
    let all = instructions_view is in
    let rest = instructions_view (drop (i + 1) is) in
    let at = subst (λ rest. AreToPut c.args.terms.now c.args.known.now c.args.fetch c.loop-place.terms c.args.links.now c.loop-place.put.items i rest all) (ap instructions_from (rest_cut instruction_view is i w h c.index-instructions-place.is)) c.loop-place.invariant.1 in (
      onward c.loop-place.invariant.0 c.in_ok-one.ensures.grown,
      subst (λ k. AreToPut c.args.terms.now c.args.known.now c.args.fetch c.put_instruction.new.terms c.args.links.now c.push.new.self.items k rest all) one
          (put_turn c.args.terms.now c.loop-place.terms c.put_instruction.new.terms c.args.known.now c.args.fetch c.args.links.now c.loop-place.put.items c.push.new.self.items i c.link_at-link.result (instruction_view w) rest all c.in_ok-one.one pushed c.link_at-link.ensures c.loop-place.invariant.0 c.in_ok-one.ensures.grown at c.in_ok-one.ensures.put),
      (let e = ap instruction_sizes (ap instructions_from (rest_cut instruction_view is i w h c.index-instructions-place.is)) in let k = c.loop-place.invariant.2 in let a = c.in_ok-one.ensures.added in omega (arith, e, k, a)),
    )

pub returns-clause-put : goal.returns-clause-put
returns-clause-put c =
    let is = c.args.instructions.now in
    let i = c.loop-place.place in
    let h : length is ≤ i = omega arith in
    let all = instructions_view is in
    put_end c.args.terms.now c.loop-place.terms c.args.known.now c.args.fetch c.args.links.now c.loop-place.put.items i all
    (subst (λ rest. AreToPut c.args.terms.now c.args.known.now c.args.fetch c.loop-place.terms c.args.links.now c.loop-place.put.items i rest all) (ap instructions_from (rest_end instruction_view is i h)) c.loop-place.invariant.1)

pub returns-in_err-one-clause-unrefused : goal.returns-in_err-one-clause-unrefused
returns-in_err-one-clause-unrefused c =
    let p = err_from_is_err_and c.from_residual.result c.from_residual.ensures.1 in
    let is = c.args.instructions.now in
    let i = c.loop-place.place in
    let w = c.index-instructions-place.result in
    let h : i < length is = omega arith in
    rw (p.1, p.2) (instructions_lost c.args.terms.now c.loop-place.terms c.args.known.now c.args.fetch c.args.links.now c.loop-place.put.items i (instruction_view w) (instructions_view (drop i is)) (instructions_view (drop (i + 1) is)) (instructions_view is) c.in_err-one.field-0.0
    (ap instructions_from (rest_cut instruction_view is i w h c.index-instructions-place.is)) c.loop-place.invariant.0 c.loop-place.invariant.1 c.in_err-one.ensures.unrefused)

pub returns-in_err-one-clause-grown : goal.returns-in_err-one-clause-grown
returns-in_err-one-clause-grown c = onward c.loop-place.invariant.0 c.in_err-one.ensures.grown

pub returns-in_err-one-clause-added : goal.returns-in_err-one-clause-added
returns-in_err-one-clause-added c =
    let is = c.args.instructions.now in
    let i = c.loop-place.place in
    let w = c.index-instructions-place.result in
    let h : i < length is = omega arith in
    let e = ap instruction_sizes (ap instructions_from (rest_cut instruction_view is i w h c.index-instructions-place.is)) in let k = c.loop-place.invariant.2 in let a = c.in_err-one.ensures.added in omega (arith, e, k, a)

pub returns-then-is_err-clause-grown : goal.returns-then-is_err-clause-grown
returns-then-is_err-clause-grown c = onward c.loop-place.invariant.0 c.in_ok-one.ensures.grown

pub returns-then-is_err-clause-added : goal.returns-then-is_err-clause-added
returns-then-is_err-clause-added c =
    let is = c.args.instructions.now in
    let i = c.loop-place.place in
    let w = c.index-instructions-place.result in
    let h : i < length is = omega arith in
    let e = ap instruction_sizes (ap instructions_from (rest_cut instruction_view is i w h c.index-instructions-place.is)) in let k = c.loop-place.invariant.2 in let a = c.in_ok-one.ensures.added in omega (arith, e, k, a)
