use Rattle.std.proofs.Common.{◌∙◌, map, ap, sym, subst, refl}
use Rattle.std.proofs.lemmas.List.{length-map}
use Rattle.v_syntax.specs.Source.{item_of}
use Rattle.v_value.specs.Scope.{scope_at}
use Rattle.v_lower.specs.Table.{images_at}
use Rattle.v_registers.specs.Registers.{counted_of}
use Rattle.v_elab.specs.Names.{HaveTerms, top_front, is_given_input}
use Rattle.v_elab.specs.Elaborated.{body_in, register_names, bits_of}
use Rattle.v_elab.proofs.Assembling.{some_of, next_terms, counted_so, terms_so, bits_are, words_are, within_so, elaborated}
use Rattle.v_elab.proofs.design.elements_in.Goals as goal

pub next_of-requires : goal.next_of-requires
next_of-requires c =
    subst (λ rs. HaveTerms (images_at c.in_ok-begun.begun.next) (register_names (map counted_of rs))) (sym c.deref.ensures.value)
    (next_terms (body_in (scope_at c.args.scope.now) (map item_of c.args.items.now) (map (λ n. n.now) c.args.declared.now)) (is_given_input c.args.names.now c.args.clock.now top_front) _ _ _ _ c.in_ok-begun.ensures.lowered)

pub invariant_of-result-clause-counted : goal.invariant_of-result-clause-counted
invariant_of-result-clause-counted c =
    counted_so (body_in (scope_at c.args.scope.now) (map item_of c.args.items.now) (map (λ n. n.now) c.args.declared.now)) (is_given_input c.args.names.now c.args.clock.now top_front) _ _ _ _ c.in_ok-begun.ensures.lowered c.len-register_count.result
    (c.len-register_count.ensures ∙ c.in_ok-begun.begun.sorted.registers.ok.0 ∙ sym (length-map c.in_ok-begun.begun.sorted.registers.items counted_of))

pub invariant_of-result-clause-sorted : goal.invariant_of-result-clause-sorted
invariant_of-result-clause-sorted c =
    terms_so (body_in (scope_at c.args.scope.now) (map item_of c.args.items.now) (map (λ n. n.now) c.args.declared.now)) (is_given_input c.args.names.now c.args.clock.now top_front) _ _ _ _ c.in_ok-begun.ensures.lowered c.len-register_count.result _
    (c.len-register_count.ensures ∙ c.in_ok-begun.begun.sorted.registers.ok.0 ∙ sym (length-map c.in_ok-begun.begun.sorted.registers.items counted_of))
    (some_of c.in_ok-next.next.items ∙ c.in_ok-next.ensures
    ∙ ap (λ rs. map (images_at c.in_ok-begun.begun.next) (register_names (map counted_of rs))) c.deref.ensures.value)

pub invariant_of-result-clause-counting : goal.invariant_of-result-clause-counting
invariant_of-result-clause-counting c =
    bits_are (body_in (scope_at c.args.scope.now) (map item_of c.args.items.now) (map (λ n. n.now) c.args.declared.now)) (is_given_input c.args.names.now c.args.clock.now top_front) _ _ _ _ c.in_ok-begun.ensures.lowered c.requires.apart c.requires.small c.len-register_count.result _
    (c.len-register_count.ensures ∙ c.in_ok-begun.begun.sorted.registers.ok.0 ∙ sym (length-map c.in_ok-begun.begun.sorted.registers.items counted_of))
    (c.in_ok-bits.ensures ∙ ap (λ rs. map (bits_of (scope_at c.args.scope.now)) (map counted_of rs)) c.deref-2.ensures.value)

pub invariant_of-result-clause-words : goal.invariant_of-result-clause-words
invariant_of-result-clause-words c =
    words_are (body_in (scope_at c.args.scope.now) (map item_of c.args.items.now) (map (λ n. n.now) c.args.declared.now)) (is_given_input c.args.names.now c.args.clock.now top_front) _ _ _ _ c.in_ok-begun.ensures.lowered c.requires.apart c.len-register_count.result
    (c.len-register_count.ensures ∙ c.in_ok-begun.begun.sorted.registers.ok.0 ∙ sym (length-map c.in_ok-begun.begun.sorted.registers.items counted_of))

pub invariant_of-result-clause-within : goal.invariant_of-result-clause-within
invariant_of-result-clause-within c =
    λ n. within_so (body_in (scope_at c.args.scope.now) (map item_of c.args.items.now) (map (λ n. n.now) c.args.declared.now)) (is_given_input c.args.names.now c.args.clock.now top_front) _ _ _ _ c.in_ok-begun.ensures.lowered n

pub returns : goal.returns
returns c =
    elaborated (body_in (scope_at c.args.scope.now) (map item_of c.args.items.now) (map (λ n. n.now) c.args.declared.now)) (is_given_input c.args.names.now c.args.clock.now top_front) _ _ _ _ c.in_ok-begun.ensures.lowered _ _ c.requires.distinct refl
    (c.len-register_count.ensures ∙ c.in_ok-begun.begun.sorted.registers.ok.0 ∙ sym (length-map c.in_ok-begun.begun.sorted.registers.items counted_of))
    (c.in_ok-bits.ensures ∙ ap (λ rs. map (bits_of (scope_at c.args.scope.now)) (map counted_of rs)) c.deref-2.ensures.value)
    refl
    (λ n. refl)
    (some_of c.in_ok-next.next.items ∙ c.in_ok-next.ensures
    ∙ ap (λ rs. map (images_at c.in_ok-begun.begun.next) (register_names (map counted_of rs))) c.deref.ensures.value)
