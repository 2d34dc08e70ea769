use Rattle.std.proofs.Common.{◌≡◌, ◌+◌, ◌≤◌, ◌^◌, ℕ, suc, length, ap, sym, ◌∙◌, subst, arith}
use Rattle.scripts.specs.Script.{is_skipped}
use Rattle.ila_sim.specs.Cuts.{lines_left, room_left}
use Rattle.ila_sim.specs.Lines.{found_view}
use Rattle.ila_sim.specs.Noted.{fault_view}
use Rattle.ila_sim.proofs.Numbered.{noted_here, noted_behind, still_first, not_first, counted}
use Rattle.std.proofs.Common.{option_map}
use Rattle.ila_sim.proofs.place.bad_line_note.Goals as goal

pub returns-in-Some-2 : goal.returns-in-Some-2
returns-in-Some-2 c =
    let few : c.loop-rest.number + suc (length c.in-Some.text.now) ≤ 2 ^ 64 = subst (λ r. c.loop-rest.number + room_left r ≤ 2 ^ 64) c.in-Some.is c.loop-rest.invariant.few in
    let next : c.saturating_add-number.result ≡ suc c.loop-rest.number = counted c.loop-rest.number c.saturating_add-number.result c.saturating_add-number.ensures (omega (arith, few)) in
    noted_here (found_view c.args.found.now) c.loop-rest.number c.saturating_add-number.result c.loop-rest.is_first (lines_left c.loop-rest.rest) (lines_left c.next_line.result.1)
    c.next_line.result.0.now (fault_view c.in-Some-2.fault) _ _ c.loop-rest.invariant.noted (ap lines_left c.in-Some.is ∙ c.next_line.ensures.lines)
    (ap (option_map fault_view) (sym c.in-Some-2.is) ∙ c.in_ok-fault.ensures) next c.in_ok-note.ensures

pub loop-rest-preserved-then-is_first : goal.loop-rest-preserved-then-is_first
loop-rest-preserved-then-is_first c =
    let few : c.loop-rest.number + suc (length c.in-Some.text.now) ≤ 2 ^ 64 = subst (λ r. c.loop-rest.number + room_left r ≤ 2 ^ 64) c.in-Some.is c.loop-rest.invariant.few in
    let next : c.saturating_add-number.result ≡ suc c.loop-rest.number = counted c.loop-rest.number c.saturating_add-number.result c.saturating_add-number.ensures (omega (arith, few)) in
    record {
      noted =
          noted_behind (found_view c.args.found.now) c.loop-rest.number c.saturating_add-number.result c.loop-rest.is_first c.is_skipped-is_first.result (lines_left c.loop-rest.rest) (lines_left c.next_line.result.1)
          c.next_line.result.0.now _ c.loop-rest.invariant.noted (ap lines_left c.in-Some.is ∙ c.next_line.ensures.lines)
          (ap (option_map fault_view) (sym c.in_default-2.is) ∙ c.in_ok-fault.ensures) next (still_first c.loop-rest.is_first (is_skipped c.next_line.result.0.now) _ c.if-is_first.true c.is_skipped-is_first.ensures);
      few = omega (arith, next, few, c.next_line.ensures.shorter);
    }

pub loop-rest-preserved : goal.loop-rest-preserved
loop-rest-preserved c =
    let few : c.loop-rest.number + suc (length c.in-Some.text.now) ≤ 2 ^ 64 = subst (λ r. c.loop-rest.number + room_left r ≤ 2 ^ 64) c.in-Some.is c.loop-rest.invariant.few in
    let next : c.saturating_add-number.result ≡ suc c.loop-rest.number = counted c.loop-rest.number c.saturating_add-number.result c.saturating_add-number.ensures (omega (arith, few)) in
    record {
      noted =
          noted_behind (found_view c.args.found.now) c.loop-rest.number c.saturating_add-number.result c.loop-rest.is_first c.loop-rest.is_first (lines_left c.loop-rest.rest) (lines_left c.next_line.result.1)
          c.next_line.result.0.now _ c.loop-rest.invariant.noted (ap lines_left c.in-Some.is ∙ c.next_line.ensures.lines)
          (ap (option_map fault_view) (sym c.in_default-2.is) ∙ c.in_ok-fault.ensures) next (not_first c.loop-rest.is_first (is_skipped c.next_line.result.0.now) c.if-is_first.false);
      few = omega (arith, next, few, c.next_line.ensures.shorter);
    }
