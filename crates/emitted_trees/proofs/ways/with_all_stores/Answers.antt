use Rattle.std.proofs.Common.{List, map, refl, suc, arith}
use Rattle.std.proofs.lemmas.List.{map-append}
use Rattle.v_syntax.specs.Tree.{statement_of}
use Rattle.emitted_modules.specs.Rtl.{writes}
use Rattle.emitted_modules.specs.Module.{all_stores}
use Rattle.emitted_modules.specs.Stores.{stores_of}
use Rattle.emitted_names.specs.declared.ways.Way.{Way}
use Rattle.emitted_names.specs.Parts.{update_of}
use Rattle.emitted_names.proofs.Turns.{onward_by, ended_by}
use Rattle.emitted_trees.proofs.Loops.{way_there}
use Rattle.emitted_trees.proofs.ways.with_all_stores.Goals as goal

pub with_stores-requires : goal.with_stores-requires
with_stores-requires c = record {
  way = way_there c.args.wires.terms.now c.args.ways.now c.loop-place.place c.way_at.result.now c.requires.ways c.way_at.ensures;
  named = c.requires.named;
}

pub loop-place-preserved : goal.loop-place-preserved
loop-place-preserved c =
    let g = c.args.wires.terms.now in
    onward_by (λ (ws : List Way). map writes (all_stores g (map (update_of g) ws))) (λ (x : Way). map writes (stores_of g (update_of g x) (suc x.term.0)))
    (λ x ws. map-append writes (stores_of g (update_of g x) (suc x.term.0)) (all_stores g (map (update_of g) ws))) c.args.ways.now c.loop-place.place c.way_at.result.now _
    (map statement_of c.loop-place.all.items) _ c.way_at.ensures c.loop-place.invariant c.in_ok-all.ensures

pub returns : goal.returns
returns c =
    let g = c.args.wires.terms.now in
    ended_by (λ (ws : List Way). map writes (all_stores g (map (update_of g) ws))) refl c.args.ways.now c.loop-place.place _ (map statement_of c.loop-place.all.items)
    (omega (arith, c.loop-place-test.false)) c.loop-place.invariant
