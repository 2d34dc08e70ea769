use Rattle.std.proofs.Common.{sym, subst}
use Rattle.map_rules.specs.Case.{is_memory_named}
use Rattle.map_trees.specs.Tokens.{AreEntryTokens, AreInstructionTokens, AreStateTokens, AreTokens}
use Rattle.map_trees.specs.Trees.{AreMapTrees, all_texts}
use Rattle.map_trees.proofs.Readings.{handed_up, unread_more, one_unread, in_invariants, is_start, in_states, in_inputs, in_instructions}
use Rattle.map_trees.proofs.trees.all_trees.Goals as goal

pub returns-in_err-invariants : goal.returns-in_err-invariants
returns-in_err-invariants c = λ m w h.
    handed_up (AreMapTrees m w) c.from_residual-in_err-invariants.result c.in_err-invariants.field-0.0 c.from_residual-in_err-invariants.ensures.1
    (unread_more c.in_err-invariants.field-0.0 _ (all_texts m w) (in_invariants m w)
    (c.in_err-invariants.ensures w.invariants (subst (λ xs. AreTokens xs w.invariants) (sym c.deref-2.ensures.value) h.invariants)))

pub returns-in_err-start : goal.returns-in_err-start
returns-in_err-start c = λ m w h.
    handed_up (AreMapTrees m w) c.from_residual-in_err-start.result c.in_err-start.field-0.0 c.from_residual-in_err-start.ensures.1
    (one_unread c.in_err-start.field-0.0 (all_texts m w) w.start (is_start m w) (c.in_err-start.ensures w.start h.start))

pub returns-in_err-states : goal.returns-in_err-states
returns-in_err-states c = λ m w h.
    handed_up (AreMapTrees m w) c.from_residual-in_err-states.result c.in_err-states.field-0.0 c.from_residual-in_err-states.ensures.1
    (unread_more c.in_err-states.field-0.0 _ (all_texts m w) (in_states m w)
    (c.in_err-states.ensures m w.states (subst (λ xs. AreStateTokens (is_memory_named m) xs w.states) (sym c.deref-3.ensures.value) h.states)))

pub returns-in_err-inputs : goal.returns-in_err-inputs
returns-in_err-inputs c = λ m w h.
    handed_up (AreMapTrees m w) c.from_residual-in_err-inputs.result c.in_err-inputs.field-0.0 c.from_residual-in_err-inputs.ensures.1
    (unread_more c.in_err-inputs.field-0.0 _ (all_texts m w) (in_inputs m w)
    (c.in_err-inputs.ensures w.inputs (subst (λ xs. AreEntryTokens xs w.inputs) (sym c.deref-4.ensures.value) h.inputs)))

pub returns-in_err-instructions : goal.returns-in_err-instructions
returns-in_err-instructions c = λ m w h.
    handed_up (AreMapTrees m w) c.from_residual-in_err-instructions.result c.in_err-instructions.field-0.0 c.from_residual-in_err-instructions.ensures.1
    (unread_more c.in_err-instructions.field-0.0 _ (all_texts m w) (in_instructions m w)
    (c.in_err-instructions.ensures w.instructions (subst (λ xs. AreInstructionTokens xs w.instructions) (sym c.deref-5.ensures.value) h.instructions)))
