use Rattle.std.proofs.Common.{rules, ◌≡◌, ◌+◌, ◌*◌, refl, arith}
use Rattle.wb_values.specs.Value.{word}
use Rattle.v_operators.proofs.Growing.{Grows-refl, Grows-trans, IsOfSort-kept}
use Rattle.v_operators.proofs.Spreading.{copies_begin, copies_go_on, copies_end, step_total}
use Rattle.v_operators.proofs.parts.copies.Goals as goal

pub beside-requires-clause-high : goal.beside-requires-clause-high
beside-requires-clause-high c = IsOfSort-kept c.args.operand.0 (word c.args.width) c.loop-i.invariant.grows c.requires.operand

pub loop-i-preserved : goal.loop-i-preserved
loop-i-preserved c =
    let l = c.loop-i in
    record {
      grows = Grows-trans l.invariant.grows c.in_ok-all.ensures.grows;
      total = step_total l.total l._i c.args.width l.invariant.total;
      made = copies_go_on c.args.terms.now l.terms c.beside.new.terms c.args.operand.0 c.args.width l.all.0 c.in_ok-all.all.0 l._i l.total (l.total + c.args.width) c.requires.operand
          l.invariant.grows l.invariant.total l.invariant.made c.in_ok-all.ensures.made refl;
    }

pub returns-clause-made : goal.returns-clause-made
returns-clause-made c =
    let l = c.loop-i in
    let e : l._i ≡ c.args.count = search rules in
    copies_end c.args.terms.now l.terms c.args.operand.0 c.args.width l.all.0 l._i c.args.count l.total e l.invariant.total l.invariant.made

pub loop-i-init : goal.loop-i-init
loop-i-init c =
    record {
      grows = Grows-refl c.args.terms.now;
      total = (let e : c.args.width ≡ 1 * c.args.width = omega arith in e);
      made = copies_begin c.args.terms.now c.args.operand.0 c.args.width c.args.width refl c.requires.operand;
    }
