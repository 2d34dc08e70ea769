use Rattle.std.proofs.Common.{◌≡◌, ◌∙◌, length, sym, ap, ne_eqb, eq-eqb}
use Rattle.std.specs.Prelude.{◌==◌, ◌&&◌}
use Rattle.std.proofs.lemmas.Bool.{and_left}
use Rattle.serde_json.specs.Events.{items_len}
use Rattle.serde_json.specs.View.{items_view}
use Rattle.v_design.specs.Seen.{parts_of}
use Rattle.trace_reading.specs.Fitting.{are_cycles_given}
use Rattle.trace_reading.proofs.Within.{count_items}
use Rattle.trace_reading.proofs.missing.missing_of_cycles.Goals as goal

pub returns-then-items-cycles : goal.returns-then-items-cycles
returns-then-items-cycles c =
    let vs = c.args.items.now in
    sym (and_left (items_len (items_view vs) == c.args.cycles) (are_cycles_given (parts_of c.args.design.now) (items_view vs))
    (ne_eqb (items_len (items_view vs)) c.args.cycles (λ e. c.if-items-cycles.true (sym (count_items vs) ∙ e))))

pub returns : goal.returns
returns c =
    let vs = c.args.items.now in
    c.missing_in_cycles.ensures
    ∙ sym (ap (λ b. b && are_cycles_given (parts_of c.args.design.now) (items_view vs)) (eq-eqb (items_len (items_view vs)) c.args.cycles (count_items vs ∙ c.if-items-cycles.false)))
