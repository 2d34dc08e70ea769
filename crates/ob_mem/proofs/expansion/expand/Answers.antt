use Rattle.std.proofs.Common.{◌≡◌, ◌∙◌, ◌+◌, ◌<◌, List, length, ap, sym, subst, arith}
use Rattle.std.specs.Prelude.{nat_eq}
use Rattle.std.specs.HashMap.{get}
use Rattle.wb_values.specs.Value.{Sort, truth, Entries, Valuation}
use Rattle.wb_terms.specs.Graph.{HasDistinctNames, tree}
use Rattle.ob_mem.specs.declared.words.MemoryWord.{MemoryWord}
use Rattle.ob_mem.specs.Words.{HasWords}
use Rattle.ob_mem.specs.Spread.{GivesSorts, IsSpread}
use Rattle.ob_mem.specs.Images.{HasFirsts}
use Rattle.sat_gates.specs.Cone.{IsCone, places}
use Rattle.ob_mem.proofs.Imaging.{goal_means}
use Rattle.ob_mem.proofs.Counting.{is_small}
use Rattle.ob_mem.proofs.Wording.{has_firsts}
use Rattle.ob_mem.proofs.Spreading.{spread, gathered}
use Rattle.ob_mem.proofs.expansion.expand.Goals as goal

pub put_images-requires-clause-firsts : goal.put_images-requires-clause-firsts
put_images-requires-clause-firsts c =
    let n = c.in_ok-named.named in
    let es = c.args.terms.now.names in
    let h = has_firsts es n.terms.names n.list.items n.firsts.items c.in_ok-named.ensures.names c.in_ok-named.ensures.list c.in_ok-named.ensures.firsts in
    subst (λ rs. HasFirsts es n.terms.names rs c.as_slice-places.result.now) (sym c.as_slice-words.ensures.value)
    (subst (HasFirsts es n.terms.names n.list.items) (sym c.as_slice-places.ensures.value) h)

pub image-goal-requires : goal.image-goal-requires
image-goal-requires c = c.in_ok-images.ensures.image.0

pub returns-clause-goal : goal.returns-clause-goal
returns-clause-goal c =
    (goal_means c.args.terms.now c.put_images.new.terms c.in_ok-named.named.list.items c.as_slice-words.result.now (get nat_eq c.in_ok-images.images) c.args.id c.image-goal.result
    c.as_slice-words.ensures.value c.requires.sort c.in_ok-images.ensures.image c.image-goal.ensures).plain.below

pub returns-clause-sort : goal.returns-clause-sort
returns-clause-sort c =
    (goal_means c.args.terms.now c.put_images.new.terms c.in_ok-named.named.list.items c.as_slice-words.result.now (get nat_eq c.in_ok-images.images) c.args.id c.image-goal.result
    c.as_slice-words.ensures.value c.requires.sort c.in_ok-images.ensures.image c.image-goal.ensures).plain.sort

pub returns-clause-blastable : goal.returns-clause-blastable
returns-clause-blastable c =
    (goal_means c.args.terms.now c.put_images.new.terms c.in_ok-named.named.list.items c.as_slice-words.result.now (get nat_eq c.in_ok-images.images) c.args.id c.image-goal.result
    c.as_slice-words.ensures.value c.requires.sort c.in_ok-images.ensures.image c.image-goal.ensures).plain.blastable

pub returns-clause-value : goal.returns-clause-value
returns-clause-value c =
    (goal_means c.args.terms.now c.put_images.new.terms c.in_ok-named.named.list.items c.as_slice-words.result.now (get nat_eq c.in_ok-images.images) c.args.id c.image-goal.result
    c.as_slice-words.ensures.value c.requires.sort c.in_ok-images.ensures.image c.image-goal.ensures).value

pub returns-clause-spread : goal.returns-clause-spread
returns-clause-spread c =
    let n = c.in_ok-named.named in
    let es = c.args.terms.now.names in
    subst (λ (new : Entries Sort). (v : Valuation) → GivesSorts es v → (w : Valuation) × IsSpread es new n.list.items v w × GivesSorts new w) (sym c.in_ok-images.ensures.names)
    (λ v s. spread es n.terms.names n.list.items v c.in_ok-named.ensures.names c.in_ok-named.ensures.list c.in_ok-named.ensures.distinct s)

pub returns-clause-gathered : goal.returns-clause-gathered
returns-clause-gathered c =
    let n = c.in_ok-named.named in
    let es = c.args.terms.now.names in
    subst (λ (new : Entries Sort). (w : Valuation) → GivesSorts new w → (v : Valuation) × IsSpread es new n.list.items v w) (sym c.in_ok-images.ensures.names)
    (λ w s. gathered es n.terms.names n.list.items w c.in_ok-named.ensures.names c.in_ok-named.ensures.list c.with_words.ensures.old_distinct s)

pub put_images-requires-clause-cone : goal.put_images-requires-clause-cone
put_images-requires-clause-cone c = subst (λ ids. IsCone c.args.terms.now c.args.id.0 (places ids)) (sym c.deref.ensures.value) c.in_ok-ids.ensures.exact

pub returns-clause-size : goal.returns-clause-size
returns-clause-size c =
    let g = c.args.terms.now in
    let cone = subst (λ ids. IsCone g c.args.id.0 (places ids)) (sym c.deref.ensures.value) c.in_ok-ids.ensures.exact in
    is_small g c.args.id.0 (places c.deref.result.now) c.put_images.new.terms (length c.in_ok-named.named.terms.nodes) cone (ap length c.in_ok-named.ensures.nodes) c.in_ok-images.ensures.count
