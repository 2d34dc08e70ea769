use Rattle.std.proofs.Common.{◌∙◌, cond, suc, ap, sym}
use Rattle.emitted_modules.specs.Nodes.{operand}
use Rattle.emitted_modules.specs.Stores.{any_of, ways_to}
use Rattle.emitted_names.specs.Parts.{update_of}
use Rattle.emitted_trees.proofs.ways.via.Goals as goal

pub operand-requires : goal.operand-requires
operand-requires c = record { id = c.requires.way.decode_there; named = c.requires.named }

pub returns-then-is_same : goal.returns-then-is_same
returns-then-is_same c =
    let g = c.args.wires.terms.now in
    let u = update_of g c.args.way.now in
    c.operand.ensures ∙ ap (λ b. cond b u.decode (any_of (ways_to g u (suc u.term) c.args.to.0))) (sym (sym c.is_same.ensures ∙ c.if-is_same.true))

pub returns : goal.returns
returns c =
    let g = c.args.wires.terms.now in
    let u = update_of g c.args.way.now in
    c.any_of.ensures _ c.in_ok-all.ensures ∙ ap (λ b. cond b u.decode (any_of (ways_to g u (suc u.term) c.args.to.0))) (sym (sym c.is_same.ensures ∙ c.if-is_same.false))
