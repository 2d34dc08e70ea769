use Rattle.std.proofs.Common.{◌≡◌, ◌∙◌, refl, ap, subst, map}
use Rattle.std.specs.String.{string_bytes}
use Rattle.model_meaning.specs.Model.{states_of, state_named}
use Rattle.ila_model.specs.Model.{model_of}
use Rattle.map_file.specs.View.{entry_view, mapped_view}
use Rattle.map_rules.specs.Case.{is_memory_named}
use Rattle.map_trees.specs.Tokens.{AreEntryTokens, AreInstructionTokens, AreStateTokens, AreTokens, IsTokens, is_memory_in, is_memory_sort}
use Rattle.map_trees.proofs.Readings.{memory_known}
use Rattle.map_trees.proofs.tokens.map_tokens.Goals as goal

pub returns : goal.returns
returns c =
    let m = model_of c.args.model.now in
    let known : is_memory_in c.in_ok-sorts.sorts ≡ is_memory_named m
    = λ i n. (ap is_memory_sort (c.in_ok-sorts.ensures.states n) ∙ memory_known (state_named (states_of m.top) n)) i in
    record {
      is_map = refl;
      assume = subst (λ ts. AreTokens c.in_ok-assume.assume.items (map string_bytes ts)) c.deref.ensures.value c.in_ok-assume.ensures;
      invariants = subst (λ ts. AreTokens c.in_ok-invariants.invariants.items (map string_bytes ts)) c.deref-2.ensures.value c.in_ok-invariants.ensures;
      start = subst (IsTokens c.in_ok-start.start) c.as_str.ensures.value c.in_ok-start.ensures;
      states = subst (λ f. AreStateTokens f c.in_ok-states.states.items (map mapped_view c.args.map.now.states.items)) known
          (subst (λ es. AreStateTokens (is_memory_in c.in_ok-sorts.sorts) c.in_ok-states.states.items (map mapped_view es)) c.deref-3.ensures.value c.in_ok-states.ensures);
      inputs = subst (λ es. AreEntryTokens c.in_ok-inputs.inputs.items (map mapped_view es)) c.deref-4.ensures.value c.in_ok-inputs.ensures;
      instructions = subst (λ es. AreInstructionTokens c.in_ok-instructions.instructions.items (map entry_view es)) c.deref-5.ensures.value c.in_ok-instructions.ensures;
    }
