use Rattle.std.proofs.Common.{◌≡◌, ◌∙◌, ◌/◌, ◌%◌, ◌^◌, ap, arith}
use Rattle.std.specs.Prelude.{◌==◌}
use Rattle.wb_values.specs.Value.{word, truth_value}
use Rattle.model_meaning.specs.Term.{Term, const, eq, extract, val}
use Rattle.wb_terms.specs.Graph.{tree}
use Rattle.ob_mem.proofs.Growing.{Grows-trans, IsPlain-kept, tree_kept}
use Rattle.ob_mem.proofs.Choosing.{bit_value}
use Rattle.ob_mem.proofs.loads.put_bit.Goals as goal

pub put_part-requires : goal.put_part-requires
put_part-requires c = c.requires.address

pub put_test-requires-clause-y : goal.put_test-requires-clause-y
put_test-requires-clause-y c = IsPlain-kept c.args.one.0 (word 1) c.in_ok-part.ensures.grows c.requires.one

pub returns-clause-grows : goal.returns-clause-grows
returns-clause-grows c = Grows-trans c.in_ok-part.ensures.grows c.in_ok-id.ensures.grows

pub returns-clause-value : goal.returns-clause-value
returns-clause-value c w i e =
    let g = c.args.terms.now in
    let h = c.put_part.new.terms in
    let one : tree h c.args.one.0 ≡ const 1 1 = tree_kept c.args.one.0 c.in_ok-part.ensures.grows c.requires.one.below ∙ c.requires.is_one in
    let t = c.in_ok-id.ensures.tree ∙ ap (λ (x : Term). eq x (tree h c.args.one.0)) c.in_ok-part.ensures.tree in
    ap (λ (x : Term). val x w) t ∙ bit_value w (tree g c.args.address.0) (tree h c.args.one.0) c.args.bit i e one

pub returns-clause-count : goal.returns-clause-count
returns-clause-count c = omega (arith, c.in_ok-part.ensures.count, c.in_ok-id.ensures.count)
