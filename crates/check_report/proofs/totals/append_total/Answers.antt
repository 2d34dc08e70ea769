use Rattle.std.proofs.Common.{◌++◌, ap, ◌∙◌}
use Rattle.std.specs.Prelude.{decimal}
use Rattle.check_report.proofs.Parts.{total_parts}
use Rattle.check_report.proofs.totals.append_total.Goals as goal

pub returns : goal.returns
returns c =
    total_parts c.args.out.now.items c.extend_from_slice.new.self.items c.extend_from_slice-2.new.self.items c.extend_from_slice-3.new.self.items
    c.extend_from_slice-4.new.self.items c.extend_from_slice-5.new.self.items c.extend_from_slice-6.new.self.items c.push.new.self.items
    (decimal c.args.counts.proved) (decimal c.args.counts.failed) (decimal c.args.counts.unknown) c.in_ok-extend_from_slice.ensures.items
    (c.in_ok-extend_from_slice-2.ensures.items ∙ ap (λ t. c.extend_from_slice.new.self.items ++ t) (c.as_bytes.ensures.value ∙ c.format.ensures.text))
    c.in_ok-extend_from_slice-3.ensures.items
    (c.in_ok-extend_from_slice-4.ensures.items
    ∙ ap (λ t. c.extend_from_slice-3.new.self.items ++ t) (c.as_bytes-2.ensures.value ∙ c.format-2.ensures.text))
    c.in_ok-extend_from_slice-5.ensures.items
    (c.in_ok-extend_from_slice-6.ensures.items
    ∙ ap (λ t. c.extend_from_slice-5.new.self.items ++ t) (c.as_bytes-3.ensures.value ∙ c.format-3.ensures.text))
    c.in_ok-push.ensures.items
