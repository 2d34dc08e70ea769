use Rattle.std.proofs.Common.{◌≡◌, suc, ◌+◌, ◌-◌, ◌/◌, ◌<◌, ◌≤◌, length, take, drop, take_all, sym, ap, ◌∙◌, arith}
use Rattle.std.proofs.Math.ListN.{drop_of_length-le}
use Rattle.trace_texts.proofs.Hexadecimal.{hex_onto, hex_start, hex_over, hex_last, hex_next, same_front, new_back, joined}
use Rattle.trace_texts.proofs.text.append_digits.Goals as goal

pub loop-taken-init : goal.loop-taken-init
loop-taken-init c =
    let xs = c.args.out.now.items in
    let s = c.len-start.result in
    let over : length xs ≤ s = omega (arith, c.len-start.ensures) in
    record {
      room = omega (arith, c.len-start.ensures);
      before = take_all s xs over;
      so_far = ap (hex_onto 64 c.args.number) (drop_of_length-le xs over) ∙ hex_start c.args.number;
    }

pub returns-then-rest-eq0 : goal.returns-then-rest-eq0
returns-then-rest-eq0 c =
    let xs = c.loop-taken.out.items in
    let new = c.insert.new.self.items in
    let s = c.len-start.result in
    let fits : s ≤ length xs = omega (arith, c.loop-taken.invariant.room) in
    let some : 0 < 64 - c.loop-taken._taken = omega arith in
    joined s new _ _ (ap (take s) c.in_ok-insert.ensures.items ∙ (same_front s c.glyph.result xs fits ∙ c.loop-taken.invariant.before))
    (ap (drop s) c.in_ok-insert.ensures.items
    ∙ (new_back s c.glyph.result xs fits
    ∙ (sym (hex_last (64 - c.loop-taken._taken) c.loop-taken.rest c.glyph.result (drop s xs) some c.glyph.ensures c.if-rest-eq0.true)
    ∙ c.loop-taken.invariant.so_far)))

pub loop-taken-preserved : goal.loop-taken-preserved
loop-taken-preserved c =
    let xs = c.loop-taken.out.items in
    let s = c.len-start.result in
    let fits : s ≤ length xs = omega (arith, c.loop-taken.invariant.room) in
    let less : 64 - c.loop-taken._taken ≡ suc (64 - (c.loop-taken._taken + 1)) = omega arith in
    record {
      room = omega (arith, c.loop-taken.invariant.room, c.in_ok-insert.ensures.len);
      before = ap (take s) c.in_ok-insert.ensures.items ∙ (same_front s c.glyph.result xs fits ∙ c.loop-taken.invariant.before);
      so_far =
          ap (hex_onto (64 - (c.loop-taken._taken + 1)) (c.loop-taken.rest / 16))
          (ap (drop s) c.in_ok-insert.ensures.items ∙ new_back s c.glyph.result xs fits)
          ∙ (sym (hex_next (64 - c.loop-taken._taken) (64 - (c.loop-taken._taken + 1)) c.loop-taken.rest c.glyph.result (drop s xs) less c.glyph.ensures c.if-rest-eq0.false)
          ∙ c.loop-taken.invariant.so_far);
    }

pub returns : goal.returns
returns c =
    let over : 64 - c.loop-taken._taken ≡ 0 = omega arith in
    joined c.len-start.result c.loop-taken.out.items _ _ c.loop-taken.invariant.before
    (sym (hex_over (64 - c.loop-taken._taken) c.loop-taken.rest (drop c.len-start.result c.loop-taken.out.items) over) ∙ c.loop-taken.invariant.so_far)
