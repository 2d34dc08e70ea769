use Rattle.std.proofs.Common.{rules}
use Rattle.wb_values.specs.Value.{word}
use Rattle.v_syntax.specs.declared.tree.Target.{the_lemmas}
use Rattle.v_operators.proofs.Growing.{Grows-refl, Grows-trans, IsOfSort-kept}
use Rattle.v_value.specs.Scope.{scope_at}
use Rattle.v_lower.specs.Table.{images_at}
use Rattle.v_settle.proofs.Parts as parts
use Rattle.v_settle.proofs.writing.+writing.Goals as goal

pub write_all-loop-i-init : goal.write_all-loop-i-init
write_all-loop-i-init t c =
    let s = scope_at c.args.scope.now in
    record {
      grows = Grows-refl c.args.terms.now;
      next = parts.begun-number s c.args.targets.now c.args.low;
      written = parts.begun-written s c.args.targets.now (images_at c.args.table.now) c.args.terms.now c.args.number.0 c.args.width c.args.low c.requires.known;
    }

pub write_all-write_bits-requires : goal.write_all-write_bits-requires
write_all-write_bits-requires t c =
    let s = scope_at c.args.scope.now in
    let xs = c.args.targets.now in
    let i = c.loop-i.i in
    let r = c.index-targets-i.result in
    let e = parts.drop-before xs i r c.loop-i-test.true c.loop-i.auto.i c.index-targets-i.is in
    let v = c.loop-i.invariant in (
      search (rules, the_lemmas),
      (
        c.requires.objects,
        (
          v.written.known,
          (
            parts.part-net s xs i r e c.requires.nets,
            (
              parts.part-narrow s xs i r e c.requires.narrow,
              (
                IsOfSort-kept c.args.number.0 (word c.args.width) v.grows c.requires.number,
                parts.part-within s xs i r e c.args.low c.loop-i.next c.args.width c.requires.within v.next,
              ),
            ),
          ),
        ),
      ),
    )

pub write_all-loop-i-preserved : goal.write_all-loop-i-preserved
write_all-loop-i-preserved t c =
    let s = scope_at c.args.scope.now in
    let xs = c.args.targets.now in
    let i = c.loop-i.i in
    let r = c.index-targets-i.result in
    let e = parts.drop-before xs i r c.loop-i-test.true c.loop-i.auto.i c.index-targets-i.is in
    let v = c.loop-i.invariant in
    record {
      grows = Grows-trans v.grows c.in_ok-next.ensures.grows;
      next = parts.number-turn s xs i r e c.args.low c.loop-i.next c.in_ok-next.next v.next c.in_ok-next.ensures.next;
      written = parts.written-turn s xs i r e (images_at c.args.table.now) c.args.terms.now (images_at c.loop-i.table) c.loop-i.terms (images_at c.write_bits.new.table)
          c.write_bits.new.terms c.args.number.0 c.args.width c.args.low c.loop-i.next c.requires.number v.grows v.next v.written c.in_ok-next.ensures.written;
    }

pub write_bits-write_all-requires : goal.write_bits-write_all-requires
write_bits-write_all-requires t c =
    let s = scope_at c.args.scope.now in (
      search (rules, the_lemmas),
      (
        c.requires.objects,
        (
          c.requires.known,
          (
            parts.net-joined s c.args.target.now c.in-Joined.targets c.in-Joined.is c.deref.result.now c.deref.ensures.value c.requires.nets,
            (
              parts.narrow-joined s c.args.target.now c.in-Joined.targets c.in-Joined.is c.deref.result.now c.deref.ensures.value c.requires.narrow,
              (c.requires.number, parts.within-joined s c.args.target.now c.in-Joined.targets c.in-Joined.is c.deref.result.now c.deref.ensures.value c.args.low c.args.width c.requires.within),
            ),
          ),
        ),
      ),
    )

pub write_bits-returns-in_ok-next-in-Joined-clause-next : goal.write_bits-returns-in_ok-next-in-Joined-clause-next
write_bits-returns-in_ok-next-in-Joined-clause-next t c =
    parts.number-joined (scope_at c.args.scope.now) c.args.target.now c.in-Joined.targets c.in-Joined.is c.deref.result.now c.deref.ensures.value c.args.low
    c.in_ok-next-in-Joined.next c.in_ok-next-in-Joined.ensures.next

pub write_bits-returns-in_ok-next-in-Joined-clause-written : goal.write_bits-returns-in_ok-next-in-Joined-clause-written
write_bits-returns-in_ok-next-in-Joined-clause-written t c =
    parts.written-joined (scope_at c.args.scope.now) c.args.target.now c.in-Joined.targets c.in-Joined.is c.deref.result.now c.deref.ensures.value
    (images_at c.args.table.now) c.args.terms.now c.args.number.0 c.args.width c.args.low (images_at c.write_all.new.table) c.write_all.new.terms
    c.in_ok-next-in-Joined.ensures.written
