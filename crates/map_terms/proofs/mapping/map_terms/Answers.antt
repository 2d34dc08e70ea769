use Rattle.std.proofs.Common.{refl, sym, ap, ◌∙◌, subst, map}
use Rattle.std.specs.Prelude.{IsSome}
use Rattle.refinement.specs.Map.{design_of}
use Rattle.v_value.specs.Scope.{scope_at}
use Rattle.v_operators.proofs.Growing.{Grows-trans}
use Rattle.v_lower.specs.Table.{images_at}
use Rattle.v_design.specs.Bits.{counted_bits}
use Rattle.v_design.specs.Table.{terms_at}
use Rattle.v_design.specs.Seen.{parts_of}
use Rattle.path_terms.specs.Origins.{AreOrigins}
use Rattle.mapped_designs.specs.View.{number_of}
use Rattle.map_terms.specs.View.{setting_of, map_terms_view}
use Rattle.map_terms.proofs.Signal.{signal_known}
use Rattle.map_terms.proofs.Grown.{counted_stays, sorted_stays, counting_stays, words_stay, within_stays, signal_of_sort, known, counts, whole}
use Rattle.map_terms.proofs.mapping.map_terms.Goals as goal

pub signal_term-signal-requires : goal.signal_term-signal-requires
signal_term-signal-requires c =
    subst (λ n. IsSome ((parts_of c.args.design).settled n)) (sym c.as_str.ensures.value)
    (signal_known (design_of (setting_of c.args.model.now c.args.map.now c.requires.ready.0)) (parts_of c.args.design) c.requires.ready.1.design (record { counted = c.args.design.counted; next = c.args.design.sorted; settled = c.args.design.within })
    c.requires.ready.1.accepted c.requires.ready.1.of_text _ c.requires.ready.1.reset)

pub named_terms-requires : goal.named_terms-requires
named_terms-requires c =
    (parts_of c.args.design, refl, c.args.design.counted, subst (AreOrigins (scope_at c.args.scope.now) (parts_of c.args.design) c.args.scope.now.declarations.items) (sym c.deref.ensures.value) c.in_ok-origins.ensures)

pub reset_term-requires : goal.reset_term-requires
reset_term-requires c =
    signal_of_sort (setting_of c.args.model.now c.args.map.now c.requires.ready.0) (scope_at c.args.scope.now) (parts_of c.args.design) c.requires.ready.1 (record { counted = c.args.design.counted; next = c.args.design.sorted; settled = c.args.design.within })
    c.named_terms.new.terms c.signal_term-signal.result.0 c.named_terms.ensures.grows (ap (parts_of c.args.design).settled (sym c.as_str.ensures.value) ∙ c.signal_term-signal.ensures)

pub terms_of_map-requires-clause-known : goal.terms_of_map-requires-clause-known
terms_of_map-requires-clause-known c =
    known (setting_of c.args.model.now c.args.map.now c.requires.ready.0) (scope_at c.args.scope.now) (parts_of c.args.design) c.requires.ready.1 (record { counted = c.args.design.counted; next = c.args.design.sorted; settled = c.args.design.within })
    (images_at c.in_ok-table.table) c.named_terms.new.terms c.reset_term.new.terms c.named_terms.ensures.grows c.reset_term.ensures.grows
    (c.in_ok-table.ensures.terms (parts_of c.args.design) refl
    (subst (AreOrigins (scope_at c.args.scope.now) (parts_of c.args.design) c.args.scope.now.declarations.items) (sym c.deref.ensures.value) c.in_ok-origins.ensures))

pub terms_of_map-requires-clause-ready : goal.terms_of_map-requires-clause-ready
terms_of_map-requires-clause-ready c = (c.requires.ready.0, parts_of c.args.design, c.requires.ready.1)

pub invariant_of-result-clause-counted : goal.invariant_of-result-clause-counted
invariant_of-result-clause-counted c =
    counted_stays c.args.design.terms c.terms_of_map.new.terms (Grows-trans c.named_terms.ensures.grows (Grows-trans c.reset_term.ensures.grows c.terms_of_map.ensures.grows))
    c.args.design.register_count c.args.design.counted

pub invariant_of-result-clause-sorted : goal.invariant_of-result-clause-sorted
invariant_of-result-clause-sorted c =
    sorted_stays c.args.design.terms c.terms_of_map.new.terms (Grows-trans c.named_terms.ensures.grows (Grows-trans c.reset_term.ensures.grows c.terms_of_map.ensures.grows))
    c.args.design.register_count (map number_of c.args.design.next.items) c.args.design.sorted

pub invariant_of-result-clause-counting : goal.invariant_of-result-clause-counting
invariant_of-result-clause-counting c =
    counting_stays c.args.design.terms c.terms_of_map.new.terms (Grows-trans c.named_terms.ensures.grows (Grows-trans c.reset_term.ensures.grows c.terms_of_map.ensures.grows))
    c.args.design.register_count (map counted_bits c.args.design.bits.items) c.args.design.counting

pub invariant_of-result-clause-words : goal.invariant_of-result-clause-words
invariant_of-result-clause-words c =
    words_stay c.args.design.terms c.terms_of_map.new.terms (Grows-trans c.named_terms.ensures.grows (Grows-trans c.reset_term.ensures.grows c.terms_of_map.ensures.grows))
    c.args.design.register_count c.args.design.words

pub invariant_of-result-clause-within : goal.invariant_of-result-clause-within
invariant_of-result-clause-within c = λ n.
    within_stays c.args.design.terms c.terms_of_map.new.terms (Grows-trans c.named_terms.ensures.grows (Grows-trans c.reset_term.ensures.grows c.terms_of_map.ensures.grows))
    (terms_at c.args.design.settled.items n) (c.args.design.within n)

pub returns-clause-mapped : goal.returns-clause-mapped
returns-clause-mapped c = λ source ready.
    whole (setting_of c.args.model.now c.args.map.now source) (scope_at c.args.scope.now) (parts_of c.args.design) ready (record { counted = c.args.design.counted; next = c.args.design.sorted; settled = c.args.design.within })
    c.args.model.now.kept (images_at c.in_ok-table.table) c.named_terms.new.terms c.reset_term.new.terms c.terms_of_map.new.terms
    c.named_terms.ensures.grows c.reset_term.ensures.grows c.terms_of_map.ensures.grows
    (c.in_ok-table.ensures.terms (parts_of c.args.design) refl
    (subst (AreOrigins (scope_at c.args.scope.now) (parts_of c.args.design) c.args.scope.now.declarations.items) (sym c.deref.ensures.value) c.in_ok-origins.ensures))
    (map_terms_view c.in_ok-made.made) c.in_ok-made.ensures.made c.signal_term-signal.result.0 c.in_ok-reset.reset.0
    (ap (parts_of c.args.design).settled (sym c.as_str.ensures.value) ∙ c.signal_term-signal.ensures) c.in_ok-reset.ensures.reset

pub returns-clause-counts : goal.returns-clause-counts
returns-clause-counts c =
    counts (setting_of c.args.model.now c.args.map.now c.requires.ready.0) (scope_at c.args.scope.now) (images_at c.in_ok-table.table) (parts_of c.args.design)
    c.terms_of_map.new.terms _ _ (map_terms_view c.in_ok-made.made) c.in_ok-made.ensures.made
