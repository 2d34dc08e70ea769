use Rattle.std.proofs.Common.{◌≡◌, ◌<◌, length, ap, ◌∙◌, subst, arith}
use Rattle.std.specs.Prelude.{slice_index_or}
use Rattle.std.specs.String.{string_bytes}
use Rattle.reports.specs.Report.{with_commas}
use Rattle.emitted_maps.proofs.Joined.{closed, none_left}
use Rattle.emitted_maps.proofs.Entries.{entries, entry_turned}
use Rattle.emitted_maps.proofs.text.append_instructions.Goals as goal

pub loop-index-preserved : goal.loop-index-preserved
loop-index-preserved c =
    let p = c.args.model.now.parts in
    let k = c.loop-index.index in
    let i = c.instruction-item.result in
    let same = c.deref-instruction-items.ensures.value in
    let within = subst (λ is. k < length is) same c.loop-index-test.true in
    let here = subst (λ is. i ≡ slice_index_or is k i) same c.instruction-item.is in
    entry_turned p k i c.as_str.result.now c.bound_of-bound.result (string_bytes c.loop-index.text) (string_bytes c.append_comma.new.text)
    (string_bytes c.append_entry.new.text) within here c.as_str.ensures.value c.bound_of-bound.ensures c.in_ok-append_comma.ensures
    c.in_ok-append_entry.ensures
    ∙ c.loop-index.invariant

pub returns : goal.returns
returns c =
    let p = c.args.model.now.parts in
    closed c.loop-index.index _ 91 93 (string_bytes c.args.text.now) (string_bytes c.loop-index.text) (string_bytes c.push_str-2.new.self)
    (with_commas (entries p p.instructions.items)) (ap (entries p) (none_left p.instructions.items c.loop-index.index (omega (arith, c.loop-index-test.false))))
    c.loop-index.invariant c.in_ok-push_str-2.ensures.bytes
