use Rattle.std.proofs.Common.{ap, ◌∙◌, arith}
use Rattle.std.specs.String.{string_bytes}
use Rattle.reports.specs.Report.{with_commas}
use Rattle.emitted_maps.proofs.Joined.{named, name_turned, closed, none_left}
use Rattle.emitted_maps.proofs.text.append_names.Goals as goal

pub loop-index-preserved : goal.loop-index-preserved
loop-index-preserved c =
    name_turned c.args.names.now c.loop-index.index _ (string_bytes c.loop-index.text) (string_bytes c.append_comma.new.text) (string_bytes c.append_name.new.text)
    c.loop-index-test.true c.in_ok-append_comma.ensures c.in_ok-append_name.ensures
    ∙ c.loop-index.invariant

pub returns : goal.returns
returns c =
    let xs = c.args.names.now in
    closed c.loop-index.index _ 123 125 (string_bytes c.args.text.now) (string_bytes c.loop-index.text) (string_bytes c.push_str-2.new.self) (with_commas (named xs))
    (ap named (none_left xs c.loop-index.index (omega (arith, c.loop-index-test.false)))) c.loop-index.invariant c.in_ok-push_str-2.ensures.bytes
