use Rattle.std.proofs.Common.{◌∙◌, ◌∷◌, [], ◌+◌, ap, sym, subst, map, drop, arith}
use Rattle.std.specs.List.{list_any}
use Rattle.std.proofs.lemmas.List.{drop_all}
use Rattle.verilog_meaning.specs.Register.{clocked_blocks}
use Rattle.verilog_designs.specs.Paths.{has_blocking}
use Rattle.v_syntax.specs.Source.{item_of}
use Rattle.v_value.specs.Scope.{scope_at}
use Rattle.v_operators.proofs.Growing.{Grows-refl, Grows-trans}
use Rattle.v_lower.specs.Table.{images_at}
use Rattle.v_statement.proofs.Edges.{clocked-more}
use Rattle.v_edge.specs.Edge.{AreSound, AreUpdated}
use Rattle.v_edge.proofs.Updated.{rest_is, sound_first, waits_first, none_updated, more_updated}
use Rattle.v_edge.proofs.edge.lower_items.Goals as goal

pub loop-item-init : goal.loop-item-init
loop-item-init c =
    record {
      grows = Grows-refl c.args.terms.now;
      known = c.requires.known;
      known_next = c.requires.known_next;
      sound = c.requires.sound;
      waits = c.requires.waits;
      left = λ b m h u. u;
    }

pub lower_item-requires-clause-sound : goal.lower_item-requires-clause-sound
lower_item-requires-clause-sound c =
    let r = c.item-item.result in
    let i = c.loop-item.item-index in
    let rest = rest_is c.args.items.now i r (omega arith) c.item-item.is in
    let later = map item_of (drop (i + 1) c.args.items.now) in
    (sound_first (scope_at c.args.scope.now) (clocked_blocks (item_of r ∷ [])) (clocked_blocks later)
    (subst (AreSound (scope_at c.args.scope.now)) (ap (λ is. clocked_blocks (map item_of is)) rest ∙ clocked-more (item_of r) later) c.loop-item.invariant.sound)).0

pub lower_item-requires-clause-waits : goal.lower_item-requires-clause-waits
lower_item-requires-clause-waits c =
    let r = c.item-item.result in
    let i = c.loop-item.item-index in
    let rest = rest_is c.args.items.now i r (omega arith) c.item-item.is in
    let later = map item_of (drop (i + 1) c.args.items.now) in
    (waits_first (clocked_blocks (item_of r ∷ [])) (clocked_blocks later)
    (sym (ap (list_any has_blocking) (ap (λ is. clocked_blocks (map item_of is)) rest ∙ clocked-more (item_of r) later)) ∙ c.loop-item.invariant.waits)).0

pub loop-item-preserved : goal.loop-item-preserved
loop-item-preserved c =
    let s = scope_at c.args.scope.now in
    let r = c.item-item.result in
    let i = c.loop-item.item-index in
    let rest = rest_is c.args.items.now i r (omega arith) c.item-item.is in
    let later = map item_of (drop (i + 1) c.args.items.now) in
    let both = ap (λ is. clocked_blocks (map item_of is)) rest ∙ clocked-more (item_of r) later in
    let made = c.in_ok-lower_item.ensures.updated in
    record {
      grows = Grows-trans c.loop-item.invariant.grows c.in_ok-lower_item.ensures.grows;
      known = made.known;
      known_next = made.known_next;
      sound = (sound_first s (clocked_blocks (item_of r ∷ [])) (clocked_blocks later) (subst (AreSound s) both c.loop-item.invariant.sound)).1;
      waits = (waits_first (clocked_blocks (item_of r ∷ [])) (clocked_blocks later) (sym (ap (list_any has_blocking) both) ∙ c.loop-item.invariant.waits)).1;
      left = λ b m h u.
          c.loop-item.invariant.left b m h
          (subst (λ xs. AreUpdated s (images_at c.loop-item.table) (images_at c.loop-item.next) c.loop-item.terms xs b m h) (sym both)
          (more_updated s (images_at c.loop-item.table) (images_at c.loop-item.next) c.loop-item.terms (clocked_blocks (item_of r ∷ [])) (images_at c.lower_item.new.table) (images_at c.lower_item.new.next) c.lower_item.new.terms
          (clocked_blocks later) b m h made u));
    }

pub returns-clause-grows : goal.returns-clause-grows
returns-clause-grows c = c.loop-item.invariant.grows

pub returns-clause-updated : goal.returns-clause-updated
returns-clause-updated c =
    let s = scope_at c.args.scope.now in
    let xs = c.args.items.now in
    let i = c.loop-item.item-index in
    c.loop-item.invariant.left (images_at c.loop-item.table) (images_at c.loop-item.next) c.loop-item.terms
    (subst (λ is. AreUpdated s (images_at c.loop-item.table) (images_at c.loop-item.next) c.loop-item.terms (clocked_blocks (map item_of is)) (images_at c.loop-item.table) (images_at c.loop-item.next) c.loop-item.terms)
    (sym (drop_all i xs (omega arith)))
    (none_updated s (images_at c.loop-item.table) (images_at c.loop-item.next) c.loop-item.terms c.loop-item.invariant.known c.loop-item.invariant.known_next))
