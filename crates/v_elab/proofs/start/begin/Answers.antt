use Rattle.std.proofs.Common.{◌∙◌, ℕ, List, Bor, drop, map, ap, sym, subst}
use Rattle.std.proofs.lemmas.List.{length-map}
use Rattle.v_value.specs.Scope.{scope_at}
use Rattle.v_registers.specs.Registers.{counted_of}
use Rattle.v_elab.specs.Names.{AreEntriesOf, AreDistinct, ArePlain, AreMasksOf}
use Rattle.v_elab.specs.Tables.{register_rows, input_rows, other_rows}
use Rattle.v_elab.proofs.Beginning.{drop_mapped, entered_names, same_rows, are_distinct, have_masks, inputs_plain, others_plain, begins}
use Rattle.verilog_meaning.specs.Settled.{names_of}
use Rattle.v_elab.proofs.Entries.{names_are}
use Rattle.v_elab.proofs.start.begin.Goals as goal

pub store_of-requires-clause-distinct : goal.store_of-requires-clause-distinct
store_of-requires-clause-distinct c =
    subst (λ xs. AreDistinct (map (λ n. n.now) xs)) (sym c.deref.ensures.value)
    (are_distinct (scope_at c.args.scope.now) _ _ _ _ _ _
    c.in_ok-sorted.ensures.sorted c.requires.ready.apart
    c.requires.distinct)

pub enter_registers-requires-clause-masks : goal.enter_registers-requires-clause-masks
enter_registers-requires-clause-masks c =
    subst (λ rs. AreMasksOf (scope_at c.args.scope.now) (map counted_of rs)) (sym c.deref-2.ensures.value)
    (have_masks (scope_at c.args.scope.now) _ _ _ _ _ _
    c.in_ok-sorted.ensures.sorted c.requires.ready.apart)

pub enter_inputs-requires-clause-entries : goal.enter_inputs-requires-clause-entries
enter_inputs-requires-clause-entries c =
    subst (λ xs. AreEntriesOf (scope_at c.args.scope.now) (map (λ n. n.now) xs) c.enter_registers.new.terms.names) (c.deref.ensures.value ∙ sym c.deref-3.ensures.value)
    (subst (AreEntriesOf (scope_at c.args.scope.now) (map (λ n. n.now) c.deref.result.now))
    (sym (entered_names (scope_at c.args.scope.now) _ _ _ _ _ _ _ c.in_ok-enter_registers.ensures)) c.in_ok-terms.ensures.names)

pub enter_inputs-requires-clause-plain : goal.enter_inputs-requires-clause-plain
enter_inputs-requires-clause-plain c =
    subst (ArePlain (scope_at c.args.scope.now))
    (sym (drop_mapped (λ n. n.now) c.len-first.result c.deref-3.result.now ∙ ap (λ (xs : List (Bor (List ℕ))). drop c.len-first.result (map (λ n. n.now) xs)) c.deref-3.ensures.value))
    (inputs_plain (scope_at c.args.scope.now) _ _ _ _ _ _
    c.in_ok-sorted.ensures.sorted c.requires.ready.apart
    c.len-first.result (c.len-first.ensures ∙ c.in_ok-sorted.sorted.registers.ok.0 ∙ sym (length-map c.in_ok-sorted.sorted.registers.items counted_of)))

pub enter_others-requires-clause-plain : goal.enter_others-requires-clause-plain
enter_others-requires-clause-plain c =
    subst (λ xs. ArePlain (scope_at c.args.scope.now) (map (λ n. n.now) xs)) (sym c.deref-4.ensures.value)
    (others_plain (scope_at c.args.scope.now) _ _ _ _ _ _
    c.in_ok-sorted.ensures.sorted c.requires.ready.apart)

pub returns-clause-begun : goal.returns-clause-begun
returns-clause-begun c =
    begins (scope_at c.args.scope.now) _ _ _ (map counted_of c.in_ok-sorted.sorted.registers.items) (map (λ n. n.now) c.in_ok-sorted.sorted.stored.items) (map (λ n. n.now) c.in_ok-sorted.sorted.others.items)
    c.in_ok-sorted.ensures.sorted c.requires.ready.apart
    c.in_ok-terms.terms
    (subst (λ (xs : List (Bor (List ℕ))). AreEntriesOf (scope_at c.args.scope.now) (map (λ n. n.now) xs) c.in_ok-terms.terms.names) c.deref.ensures.value c.in_ok-terms.ensures.names)
    _ _ c.new-table.ensures c.new-next.ensures
    c.len-first.result (c.len-first.ensures ∙ c.in_ok-sorted.sorted.registers.ok.0 ∙ sym (length-map c.in_ok-sorted.sorted.registers.items counted_of))
    _ _ _ _ _ _ _ _ _
    (same_rows (scope_at c.args.scope.now) _ _ (ap (λ rs. register_rows 0 (map counted_of rs)) c.deref-2.ensures.value) _ _ _ _ _ _ c.in_ok-enter_registers.ensures)
    (same_rows (scope_at c.args.scope.now) _ _
    (ap (input_rows c.len-first.result) (drop_mapped (λ n. n.now) c.len-first.result c.deref-3.result.now ∙ ap (λ (xs : List (Bor (List ℕ))). drop c.len-first.result (map (λ n. n.now) xs)) c.deref-3.ensures.value))
    _ _ _ _ _ _ c.in_ok-enter_inputs.ensures)
    (same_rows (scope_at c.args.scope.now) _ _ (ap (λ (xs : List (Bor (List ℕ))). other_rows (map (λ n. n.now) xs)) c.deref-4.ensures.value) _ _ _ _ _ _ c.in_ok-enter_others.ensures)

pub returns-clause-stored : goal.returns-clause-stored
returns-clause-stored c =
    ap names_of (entered_names (scope_at c.args.scope.now) _ _ _ _ _ _ _ c.in_ok-enter_others.ensures ∙ entered_names (scope_at c.args.scope.now) _ _ _ _ _ _ _ c.in_ok-enter_inputs.ensures
    ∙ entered_names (scope_at c.args.scope.now) _ _ _ _ _ _ _ c.in_ok-enter_registers.ensures)
    ∙ names_are (scope_at c.args.scope.now) (map (λ n. n.now) c.deref.result.now) c.in_ok-terms.terms.names c.in_ok-terms.ensures.names
    ∙ ap (λ (xs : List (Bor (List ℕ))). map (λ n. n.now) xs) c.deref.ensures.value
