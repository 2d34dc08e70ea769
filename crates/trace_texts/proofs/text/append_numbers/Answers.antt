use Rattle.std.proofs.Common.{◌+◌, ap, ◌∙◌, arith}
use Rattle.std.specs.Prelude.{slice_index_or}
use Rattle.reports.specs.Report.{quoted, hexadecimal, number_texts, with_commas}
use Rattle.trace_texts.proofs.Listed.{turned, cut_or, closed, none_left}
use Rattle.trace_texts.proofs.text.append_numbers.Goals as goal

pub loop-index-preserved : goal.loop-index-preserved
loop-index-preserved c =
    let xs = c.args.numbers.now in
    let i = c.loop-index.index in
    let x = slice_index_or xs i 0 in
    turned number_texts xs i (i + 1) c.loop-index.out.items c.append_comma.new.out.items c.append_number.new.out.items (quoted (hexadecimal x)) (omega arith)
    (ap number_texts (cut_or xs i 0 c.loop-index-test.true)) c.in_ok-append_comma.ensures c.in_ok-append_number.ensures
    ∙ c.loop-index.invariant

pub returns : goal.returns
returns c =
    let xs = c.args.numbers.now in
    closed c.loop-index.index _ 91 93 c.args.out.now.items c.loop-index.out.items c.push-2.new.self.items (with_commas (number_texts xs))
    (ap number_texts (none_left xs c.loop-index.index (omega (arith, c.loop-index-test.false)))) c.loop-index.invariant c.in_ok-push-2.ensures.items
