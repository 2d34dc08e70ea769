use Rattle.std.proofs.Common.{◌≡◌, ◌<◌, length, sym, arith, vec_len}
use Rattle.v_design.specs.Parts.{registers_of}
use Rattle.v_design.specs.Seen.{parts_of}
use Rattle.trace_texts.proofs.Turns.{all_bits, bits_at}
use Rattle.trace_reading.proofs.fitting.bits_at.Goals as goal

pub index-requires : goal.index-requires
index-requires c =
    let d = c.args.design.now in
    let many : length d.bits.items ≡ length (registers_of (parts_of d)) = all_bits (registers_of (parts_of d)) d.bits.items d.counting in
    let same : vec_len d.bits ≡ length d.bits.items = d.bits.ok.0 in
    omega (arith, c.requires, many, same)

pub returns : goal.returns
returns c =
    let d = c.args.design.now in
    let many : length d.bits.items ≡ length (registers_of (parts_of d)) = all_bits (registers_of (parts_of d)) d.bits.items d.counting in
    let low : c.args.place < length d.bits.items = omega (arith, c.requires, many) in
    sym (bits_at d.bits.items c.args.place c.index.result.now low c.index.ensures)
