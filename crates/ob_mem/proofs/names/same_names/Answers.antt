use Rattle.std.proofs.Common.{◌≡◌, ◌∙◌, List, None, take, ap, sym, subst, arith}
use Rattle.std.specs.String.{string_bytes}
use Rattle.wb_values.specs.Value.{Name, Sort, Entries, entry_of}
use Rattle.wb_terms.specs.Graph.{Graph}
use Rattle.ob_mem.specs.Words.{entry_at}
use Rattle.ob_mem.proofs.Naming.{next_is_new}
use Rattle.ob_mem.proofs.names.same_names.Goals as goal

pub declare-requires-clause-free : goal.declare-requires-clause-free
declare-requires-clause-free c =
    let es = c.args.terms.now.names in
    let place = c.loop-place.place in
    let names : c.loop-place.copy.names ≡ take place es = ap (λ (x : Graph). x.names) c.loop-place.invariant in
    let text : string_bytes c.in_ok-name.name ≡ (entry_at es place).0 = c.in_ok-name.ensures.ok ∙ c.name.ensures in
    ap (λ (ns : Entries Sort). entry_of ns (string_bytes c.in_ok-name.name)) names ∙ (ap (entry_of (take place es)) text ∙ next_is_new es place c.name_sort.ensures.distinct (omega (arith, c.loop-place-test.true, c.name_count-place-end.ensures.names)))
