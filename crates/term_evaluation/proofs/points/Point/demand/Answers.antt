use Rattle.std.proofs.Common.{◌≡◌, ◌∙◌, ℕ, List, length, sym, ap, subst, arith}
use Rattle.std.specs.Vec.{with_items}
use Rattle.std.proofs.lemmas.List.{with_items_is}
use Rattle.sparse_memories.specs.declared.pool.Memory.{Memory}
use Rattle.wb_bits.specs.declared.Word.{Word}
use Rattle.wb_terms.specs.Environment.{AreOfSorts}
use Rattle.term_evaluation.specs.declared.slots.Slot.{Slot}
use Rattle.term_evaluation.specs.Slots.{AreSlotsOf, values_in}
use Rattle.term_evaluation.specs.Pending.{stamp_at, AreNotAfter}
use Rattle.term_evaluation.specs.Points.{PointView, IsPointOf}
use Rattle.term_evaluation.proofs.SlotLemmas.{slots_kept}
use Rattle.term_evaluation.proofs.PendingLemmas.{kept_at}
use Rattle.term_evaluation.proofs.PointLemmas.{kept_in, where_ok}
use Rattle.term_evaluation.proofs.points.Point.demand.Goals as goal

pub fill_term-requires-clause-slots : goal.fill_term-requires-clause-slots
fill_term-requires-clause-slots c = subst (AreSlotsOf c.self.inside.pool) (sym c.deref.ensures.value) c.self.invariant.0

pub fill_term-requires-clause-fits : goal.fill_term-requires-clause-fits
fill_term-requires-clause-fits c =
    subst (λ (xs : List Slot). AreOfSorts c.args.terms.now.names (values_in c.self.inside.pool xs)) (sym c.deref.ensures.value) (subst (λ (y : PointView). AreOfSorts c.args.terms.now.names y.values) (sym c.self.view_is) c.requires.fits)

pub fill_term-requires-clause-kept : goal.fill_term-requires-clause-kept
fill_term-requires-clause-kept c =
    let g = c.args.terms.now in
    let p = c.self.inside.pool in
    let xs = c.self.inside.names.items in
    kept_in g (values_in p c.deref.result.now) p c.self.inside.words.items c.deref_mut.result.now c.self.inside.links.items c.deref_mut-2.result.now c.self.inside.stamps.items c.deref_mut-3.result.now c.self.inside.time c.deref_mut.ensures.value
    c.deref_mut-2.ensures.value c.deref_mut-3.ensures.value
    (kept_at g (values_in p xs) (values_in p c.deref.result.now) p c.self.inside.words.items c.self.inside.links.items c.self.inside.stamps.items c.self.inside.time
    (ap (λ (ys : List Slot). values_in p ys) (sym c.deref.ensures.value)) (subst (λ (y : PointView). IsPointOf g y) (sym c.self.view_is) c.requires.point))

pub invariant_of-self : goal.invariant_of-self
invariant_of-self c =
    let p = c.self.inside.pool in
    let q = c.fill_term.new.pool in
    let stamps = with_items_is c.self.inside.stamps c.fill_term.new.stamps (omega (arith, c.fill_term.auto.stamps, ap (λ (ss : List ℕ). length ss) c.deref_mut-3.ensures.value, c.self.inside.stamps.ok.0)) in (
      (slots_kept p q c.self.inside.names.items c.fill_term.ensures.keeps c.self.invariant.0).0,
      (slots_kept p q c.self.inside.aside.items c.fill_term.ensures.keeps c.self.invariant.1).0,
      subst (λ (ss : List ℕ). AreNotAfter c.self.inside.time ss) (sym stamps) (c.fill_term.ensures.past (subst (λ (ss : List ℕ). AreNotAfter c.self.inside.time ss) (sym c.deref_mut-3.ensures.value) c.self.invariant.2)),
    )

pub returns-clause-values : goal.returns-clause-values
returns-clause-values c = (slots_kept c.self.inside.pool c.fill_term.new.pool c.self.inside.names.items c.fill_term.ensures.keeps c.self.invariant.0).1 ∙ ap (λ (y : PointView). y.values) c.self.view_is

pub returns-clause-aside : goal.returns-clause-aside
returns-clause-aside c = (slots_kept c.self.inside.pool c.fill_term.new.pool c.self.inside.aside.items c.fill_term.ensures.keeps c.self.invariant.1).1 ∙ ap (λ (y : PointView). y.aside) c.self.view_is

pub returns-clause-held : goal.returns-clause-held
returns-clause-held c =
    let g = c.args.terms.now in
    let p = c.self.inside.pool in
    let q = c.fill_term.new.pool in
    let xs = c.self.inside.names.items in
    let words = with_items_is c.self.inside.words c.fill_term.new.words (omega (arith, c.fill_term.auto.words, ap (λ (ws : List Word). length ws) c.deref_mut.ensures.value, c.self.inside.words.ok.0)) in
    let links = with_items_is c.self.inside.links c.fill_term.new.links (omega (arith, c.fill_term.auto.links, ap (λ (ls : List Memory). length ls) c.deref_mut-2.ensures.value, c.self.inside.links.ok.0)) in
    let stamps = with_items_is c.self.inside.stamps c.fill_term.new.stamps (omega (arith, c.fill_term.auto.stamps, ap (λ (ss : List ℕ). length ss) c.deref_mut-3.ensures.value, c.self.inside.stamps.ok.0)) in
    let same = ap (λ (ys : List Slot). values_in p ys) c.deref.ensures.value ∙ sym (slots_kept p q xs c.fill_term.ensures.keeps c.self.invariant.0).1 in
    let kept =
    kept_in g (values_in q xs) q c.fill_term.new.words (with_items c.self.inside.words c.fill_term.new.words).items c.fill_term.new.links (with_items c.self.inside.links c.fill_term.new.links).items c.fill_term.new.stamps
    (with_items c.self.inside.stamps c.fill_term.new.stamps).items c.self.inside.time words links stamps
    (kept_at g (values_in p c.deref.result.now) (values_in q xs) q c.fill_term.new.words c.fill_term.new.links c.fill_term.new.stamps c.self.inside.time same c.fill_term.ensures.kept) in
    where_ok c.fill_term.result (stamp_at c.fill_term.new.stamps c.args.id.0 ≡ c.self.inside.time) _ c.fill_term.ensures.done (λ h. kept.3 c.args.id.0 c.requires.id (ap (λ (ss : List ℕ). stamp_at ss c.args.id.0) stamps ∙ h))

pub returns-clause-point : goal.returns-clause-point
returns-clause-point c =
    let g = c.args.terms.now in
    let p = c.self.inside.pool in
    let q = c.fill_term.new.pool in
    let xs = c.self.inside.names.items in
    let words = with_items_is c.self.inside.words c.fill_term.new.words (omega (arith, c.fill_term.auto.words, ap (λ (ws : List Word). length ws) c.deref_mut.ensures.value, c.self.inside.words.ok.0)) in
    let links = with_items_is c.self.inside.links c.fill_term.new.links (omega (arith, c.fill_term.auto.links, ap (λ (ls : List Memory). length ls) c.deref_mut-2.ensures.value, c.self.inside.links.ok.0)) in
    let stamps = with_items_is c.self.inside.stamps c.fill_term.new.stamps (omega (arith, c.fill_term.auto.stamps, ap (λ (ss : List ℕ). length ss) c.deref_mut-3.ensures.value, c.self.inside.stamps.ok.0)) in
    let same = ap (λ (ys : List Slot). values_in p ys) c.deref.ensures.value ∙ sym (slots_kept p q xs c.fill_term.ensures.keeps c.self.invariant.0).1 in
    let kept =
    kept_in g (values_in q xs) q c.fill_term.new.words (with_items c.self.inside.words c.fill_term.new.words).items c.fill_term.new.links (with_items c.self.inside.links c.fill_term.new.links).items c.fill_term.new.stamps
    (with_items c.self.inside.stamps c.fill_term.new.stamps).items c.self.inside.time words links stamps
    (kept_at g (values_in p c.deref.result.now) (values_in q xs) q c.fill_term.new.words c.fill_term.new.links c.fill_term.new.stamps c.self.inside.time same c.fill_term.ensures.kept) in
    kept
