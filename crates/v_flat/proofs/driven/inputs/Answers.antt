use Rattle.std.proofs.Common.{◌≡◌, ◌∙◌, ◌++◌, length, refl, ap, sym, subst, arith}
use Rattle.verilog_trees.specs.Syntax.{input}
use Rattle.v_places.specs.Views.{spot_of, spots_of}
use Rattle.v_flat.specs.Paths.{IsRowOf}
use Rattle.v_flat.specs.Items.{naming_at, spot_links, inputs_from}
use Rattle.v_flat.specs.Views.{assignments_of, namings}
use Rattle.v_flat.proofs.Loops.{numbered_turn, numbered_end}
use Rattle.v_flat.proofs.Rows.{row_at, naming_here}
use Rattle.v_flat.proofs.driven.inputs.Goals as goal

pub loop-number-preserved : goal.loop-number-preserved
loop-number-preserved c = λ source i rows.
    let fs = namings c.args.tables.now in
    let k = c.loop-number.number in
    let same : length c.args.tables.now ≡ length c.args.places.now = c.requires in
    numbered_turn (λ k x. spot_links input (naming_at fs (spot_of x).parent) (naming_at fs k) (spot_of x)) (λ k xs. inputs_from fs k (spots_of xs)) (λ k x xs. refl)
    c.args.places.now k _ _ (assignments_of c.loop-number.links.items) (assignments_of c.add_links.new.list.items) (omega arith) (c.loop-number.invariant source i rows)
    (c.in_ok-add_links.ensures source i (subst (λ n. IsRowOf source n (spot_of c.index-places-number.result)) (sym same)
    (subst (λ x. IsRowOf source (length c.args.places.now) (spot_of x)) (sym c.index-places-number.is)
    (row_at source (length c.args.places.now) spot_of c.args.places.now k _ (omega arith) rows)))
    ∙ ap (λ g. assignments_of c.loop-number.links.items ++ spot_links input (naming_at fs (spot_of c.index-places-number.result).parent) g (spot_of c.index-places-number.result))
    (naming_here c.args.tables.now k c.index-tables-number.result _ (omega (arith, same)) c.index-tables-number.is)
    ∙ ap (λ x. assignments_of c.loop-number.links.items ++ spot_links input (naming_at fs (spot_of x).parent) (naming_at fs k) (spot_of x)) c.index-places-number.is)

pub returns : goal.returns
returns c = λ source i rows.
    let fs = namings c.args.tables.now in
    numbered_end (λ k x. spot_links input (naming_at fs (spot_of x).parent) (naming_at fs k) (spot_of x)) (λ k xs. inputs_from fs k (spots_of xs)) (λ k x xs. refl) (λ k. refl)
    c.args.places.now c.loop-number.number _ (assignments_of c.loop-number.links.items) (omega (arith, c.loop-number-test.false)) (c.loop-number.invariant source i rows)
