use Rattle.std.proofs.Common.{List, ap, ◌∙◌, rules}
use Rattle.serde_json.specs.Data.{array}
use Rattle.serde_json.specs.View.{items_view}
use Rattle.serde_json.specs.declared.value.Value.{Value}
use Rattle.model_files.specs.Shape.{term_in}
use Rattle.ila_file.proofs.Operations.{few_items, many_items, made_of_two, made_of_three}
use Rattle.ila_file.proofs.terms.+term.Goals.{operation_in-in_default-via-then-as_slice-lt2, operation_in-in_default-via-else-as_slice-lt2+else-this-lt3+else-this-lt4+else-this-lt5}
use Rattle.ila_file.proofs.terms.+term.Goals as goal

pub operation_in-returns-in_ok-y-in-len3 : goal.operation_in-returns-in_ok-y-in-len3
operation_in-returns-in_ok-y-in-len3 t c =
    made_of_two c.as_slice.result.now _ _ _ _ _ _ _ c.in-len3.len_at_least c.in-len3.len_below
    c.operator-item-then-this-lt4.is c.a-item-then-this-lt4.is c.b-item.is c.as_str-in-len3.ensures
    c.in_ok-x-in-len3.ensures c.in_ok-y-in-len3.ensures c.of_two.ensures
    ∙ ap (λ (vs : List Value). term_in (array (items_view vs))) c.as_slice.ensures.value

pub operation_in-returns-in_ok-z-in-len4 : goal.operation_in-returns-in_ok-z-in-len4
operation_in-returns-in_ok-z-in-len4 t c =
    made_of_three c.as_slice.result.now _ _ _ _ _ _ _ _ _ c.in-len4.len_at_least c.in-len4.len_below
    c.operator-item-then-this-lt5.is c.a-item-then-this-lt5.is c.b-item-then-this-lt5.is c.c-item.is c.as_str-in-len4.ensures
    c.in_ok-x-in-len4.ensures c.in_ok-y-in-len4.ensures c.in_ok-z-in-len4.ensures c.of_three.ensures
    ∙ ap (λ (vs : List Value). term_in (array (items_view vs))) c.as_slice.ensures.value

pub operation_in-returns-in_default : goal.operation_in-returns-in_default
operation_in-returns-in_default t c =
    elim c.in_default.branch [
      | operation_in-in_default-via-then-as_slice-lt2 w ↦
          few_items c.as_slice.result.now (search rules) ∙ ap (λ (vs : List Value). term_in (array (items_view vs))) c.as_slice.ensures.value
      | operation_in-in_default-via-else-as_slice-lt2+else-this-lt3+else-this-lt4+else-this-lt5 w ↦
          many_items c.as_slice.result.now (search rules) ∙ ap (λ (vs : List Value). term_in (array (items_view vs))) c.as_slice.ensures.value
    ]
