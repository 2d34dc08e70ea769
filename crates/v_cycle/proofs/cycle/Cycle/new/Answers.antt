use Rattle.std.proofs.Common.{◌∙◌, ◌++◌, length, map, drop, take, replicate, sym, ap, ap₂, subst, arith}
use Rattle.std.proofs.lemmas.List.{length-drop}
use Rattle.wb_values.specs.Value.{number}
use Rattle.wb_terms.specs.Environment.{AreOfSorts, as_value}
use Rattle.v_cycle.proofs.Sorts.{joined, zeros}
use Rattle.v_cycle.proofs.Cycles.{first_listed}
use Rattle.v_cycle.proofs.cycle.Cycle.new.Goals as goal

pub returns-clause-made : goal.returns-clause-made
returns-clause-made c =
    let d = c.args.design.now in
    let ns = d.terms.names in
    let n = d.register_count in
    let xs = map as_value c.args.registers.now.values.items in
    let copied = c.in_ok-push_copies.ensures ∙ ap₂ (λ a b. map as_value a ++ map as_value b) c.in_ok-values.ensures.items c.deref.ensures.value in
    let all = c.in_ok-push_zeros.ensures ∙ ap (λ l. l ++ replicate c.input_count.result (number 0)) copied in
    let again = c.in_ok-push_copies-2.ensures ∙ ap₂ (λ a b. map as_value a ++ map as_value b) c.in_ok-first.ensures.items c.deref-2.ensures.value in
    let count = c.input_count.ensures ∙ sym (length-drop n ns) in
    record {
      registers = subst (AreOfSorts (take n ns)) (sym again) c.requires;
      names =
          subst (AreOfSorts ns) (sym (all ∙ ap (λ k. xs ++ replicate k (number 0)) count))
          (joined n ns xs (replicate (length (drop n ns)) (number 0)) c.requires (zeros (drop n ns) d.words));
      room = omega (arith, c.in_ok-words.ensures);
      listed = λ complete. first_listed c.in_ok-changes.changes.list.items _ _ xs (replicate c.input_count.result (number 0)) c.in_ok-changes.ensures again all;
    }
