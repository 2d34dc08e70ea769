use Rattle.std.proofs.Common.{◌∙◌, ◌++◌, ap, map, subst, sym}
use Rattle.std.proofs.lemmas.List.{append_assoc}
use Rattle.v_syntax.specs.Tree.{statement_of}
use Rattle.emitted_modules.specs.Rtl.{writes}
use Rattle.emitted_modules.specs.Nodes.{operand}
use Rattle.emitted_modules.specs.Module.{updates_for, all_stores, memories_for}
use Rattle.emitted_names.specs.Within.{AreUpdatesWithin}
use Rattle.emitted_names.proofs.Turns.{ap2}
use Rattle.emitted_trees.specs.Items.{take_statements}
use Rattle.emitted_trees.proofs.updates.with_instruction.Goals as goal

pub with_updates-requires : goal.with_updates-requires
with_updates-requires c = record {
  decode = c.requires.within.condition;
  within = subst (AreUpdatesWithin c.args.wires.terms.now) (sym c.as_slice-updates.ensures.value) c.requires.within.updated;
  named = c.requires.named;
}

pub with_all_stores-requires : goal.with_all_stores-requires
with_all_stores-requires c = record { ways = c.requires.ways.all_ways; named = c.requires.named }

pub returns : goal.returns
returns c =
    let g = c.args.wires.terms.now in
    let i = c.args.instruction.now in
    let d = operand g i.decode.0 in
    let front = map statement_of c.args.statements.items in
    c.in_ok-all.ensures
    ∙ ap2 (λ xs us. xs ++ map writes (all_stores g us))
    (c.in_ok-taken.ensures ∙ ap (λ us. front ++ take_statements d (updates_for g us)) c.as_slice-updates.ensures.value) c.requires.ways.updates
    ∙ append_assoc front (take_statements d (updates_for g i.updates.items)) (map writes (all_stores g (memories_for g c.args.number i)))
