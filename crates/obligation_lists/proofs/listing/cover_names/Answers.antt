use Rattle.std.proofs.Common.{◌<◌, ◌≤◌, ◌++◌, [], ◌∷◌, map, length, take, codes, string_bytes, sym, ap, ◌∙◌, arith}
use Rattle.std.proofs.lemmas.List.{take_all, map-append}
use Rattle.wb_values.specs.Value.{Name}
use Rattle.model_meaning.specs.Model.{Instruction, instruction_name, instructions_in}
use Rattle.ila_model.specs.Scope.{nesting}
use Rattle.ila_model.specs.Meaning.{program_of}
use Rattle.ila_model.specs.Model.{model_of}
use Rattle.obligation_lists.proofs.Growing.{at_next}
use Rattle.obligation_lists.proofs.Instructions.{same_length, same_there}
use Rattle.obligation_lists.proofs.listing.cover_names.Goals as goal

abbrev cover : Instruction → Name
cover i = codes "cover." ++ instruction_name i

pub loop-place-preserved : goal.loop-place-preserved
loop-place-preserved c =
    let m = model_of c.args.model.now in
    let parts = c.args.model.now.parts in
    let inner = program_of parts.terms parts.children.items nesting in
    let is = instructions_in m.top in
    let k = c.loop-place.place in
    let there : k < length parts.instructions.items = omega (arith, c.loop-place-test.true, c.len-place-end.ensures) in
    let here : k < length is = omega (arith, there, same_length parts.terms inner parts.instructions.items) in
    let r = at_next is k here in
    let same = same_there parts.terms inner parts.instructions.items k c.index.result.now r.0 there c.index.ensures r.1 in
    ap (map string_bytes) c.in_ok-push.ensures.items
    ∙ (map-append string_bytes c.loop-place.names.items (c.in_ok-joined.field-0 ∷ [])
    ∙ (ap (λ ns. ns ++ string_bytes c.in_ok-joined.field-0 ∷ []) c.loop-place.invariant
    ∙ (ap (λ n. map cover (take k is) ++ n ∷ []) (c.in_ok-joined.ensures ∙ ap (λ n. codes "cover." ++ n) (c.as_str-name.ensures.value ∙ ap instruction_name same))
    ∙ (sym (map-append cover (take k is) (r.0 ∷ [])) ∙ ap (map cover) r.2))))

pub returns : goal.returns
returns c =
    let m = model_of c.args.model.now in
    let parts = c.args.model.now.parts in
    let is = instructions_in m.top in
    let long = same_length parts.terms (program_of parts.terms parts.children.items nesting) parts.instructions.items in
    let end : length is ≤ c.loop-place.place = omega (arith, c.loop-place-test.false, c.len-place-end.ensures, long) in
    c.loop-place.invariant ∙ ap (map cover) (take_all c.loop-place.place is end)
