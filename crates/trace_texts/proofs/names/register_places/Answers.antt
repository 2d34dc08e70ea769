use Rattle.std.proofs.Common.{◌≡◌, ◌+◌, ◌<◌, length, min, ◌∙◌, sym, ap, arith, vec_len}
use Rattle.std.proofs.lemmas.List.{length-take}
use Rattle.v_design.specs.Registers.{CountedBits}
use Rattle.v_design.specs.Parts.{registers_of}
use Rattle.v_design.specs.Seen.{parts_of}
use Rattle.trace_texts.specs.Numbers.{numbers_in}
use Rattle.trace_texts.specs.Order.{register_name, is_traced, has_set}
use Rattle.trace_texts.proofs.Turns.{put, left_out, all_bits, bits_at}
use Rattle.trace_texts.proofs.names.register_places.Goals as goal
use Rattle.trace_texts.proofs.names.register_places.Goals.{then-is_traced+in_ok-add_name, else-is_traced}

pub index-requires : goal.index-requires
index-requires c =
    let d = c.args.design.now in
    let many : length d.bits.items ≡ length (registers_of (parts_of d)) = all_bits (registers_of (parts_of d)) d.bits.items d.counting in
    let same : vec_len d.bits ≡ length d.bits.items = d.bits.ok.0 in
    let first : length (registers_of (parts_of d)) ≡ min d.register_count (length d.terms.names) = length-take d.register_count d.terms.names in
    omega (arith, c.loop-place-test.true, c.register_count-place-end.ensures, d.counted, many, same, first)

pub loop-place-preserved : goal.loop-place-preserved
loop-place-preserved c =
    let code = c.args.design.now in
    let d = parts_of code in
    let k = c.loop-place.place in
    let rs = code.bits.items in
    let many : length rs ≡ length (registers_of d) = all_bits (registers_of d) rs code.counting in
    let first : length (registers_of d) ≡ min code.register_count (length code.terms.names) = length-take code.register_count code.terms.names in
    let within : k < length (registers_of d) = omega (arith, c.loop-place-test.true, c.register_count-place-end.ensures, code.counted, first) in
    let low : k < length rs = omega (arith, within, many) in
    let here : c.is_traced.result ≡ is_traced d k =
    c.is_traced.ensures ∙ ap (λ (b : CountedBits). has_set b.masks) (sym (bits_at rs k c.index.result.now low c.index.ensures)) in
    elim c.if-is_traced.branch [
      | then-is_traced+in_ok-add_name w ↦
          put (register_name d) (is_traced d) k (k + 1) (length (registers_of d)) _ (numbers_in c.loop-place.names.entries) _ _ (omega arith) within
          (sym here ∙ w.if-is_traced.true) (w.as_bytes-name.ensures.value ∙ w.register_name.ensures) (ap (λ t. numbers_in t.entries) w.names-is ∙ w.in_ok-add_name.ensures) c.loop-place.invariant
      | else-is_traced w ↦
          left_out (register_name d) (is_traced d) k (k + 1) (length (registers_of d)) _ (numbers_in c.loop-place.names.entries) _ (omega arith) within
          (sym here ∙ w.if-is_traced.false) (ap (λ t. numbers_in t.entries) w.names-is) c.loop-place.invariant
    ]
