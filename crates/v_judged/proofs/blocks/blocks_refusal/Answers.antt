use Rattle.std.proofs.Common.{◌∙◌, refl, ap, sym, subst, inl, inr, length}
use Rattle.v_hier.specs.Tables.{has_name}
use Rattle.v_places.specs.Views.{spot_of, spots_of}
use Rattle.v_clocks.specs.Views.{sets_of}
use Rattle.v_clocks.specs.Whole.{AreClockNets}
use Rattle.v_judged.proofs.Sound.{sound_places, known_places, clock_so}
use Rattle.v_judged.proofs.Asking.{as_many}
use Rattle.v_judged.proofs.blocks.blocks_refusal.Goals as goal

pub items_refusal-requires-clause-as_many : goal.items_refusal-requires-clause-as_many
items_refusal-requires-clause-as_many c =
    let h = c.requires.sound.1 in
    let own = c.in_ok-nets.ensures c.requires.sound.0 (known_places _ _ _ h c.sound_modules_are_known.ensures) h.named.interfaces c.requires.sound.2 in
    ap length c.deref-2.ensures.value ∙ as_many has_name spot_of c.in_ok-nets.nets.items c.args.places.now own.as_many

pub items_refusal-requires-clause-ready : goal.items_refusal-requires-clause-ready
items_refusal-requires-clause-ready c = c.block_kinds_are_at_places.ensures.ready c.requires.sound.0 (spots_of c.args.places.now) (sound_places _ _ _ c.requires.sound.1)

pub returns-then-data : goal.returns-then-data
returns-then-data c = λ d h k.
    let spots = spots_of c.args.places.now in
    let known = known_places _ spots d h c.sound_modules_are_known.ensures in
    let own = c.in_ok-nets.ensures d known h.named.interfaces k in
    let told = clock_so _ spots d h _ (c.in_ok-data.ensures d known h.named.interfaces (subst (λ ns. AreClockNets d spots (sets_of ns)) (sym c.deref.ensures.value) own)) in
    inl (refl, told.0 c.if-data.true)

pub returns : goal.returns
returns c = λ d h k.
    let spots = spots_of c.args.places.now in
    let known = known_places _ spots d h c.sound_modules_are_known.ensures in
    let own = c.in_ok-nets.ensures d known h.named.interfaces k in
    let told = clock_so _ spots d h _ (c.in_ok-data.ensures d known h.named.interfaces (subst (λ ns. AreClockNets d spots (sets_of ns)) (sym c.deref.ensures.value) own)) in
    inr (told.1 c.if-data.false, c.in_ok-kind.ensures d c.args.interfaces.now h (subst (λ ns. AreClockNets d spots (sets_of ns)) (sym c.deref-2.ensures.value) own))
