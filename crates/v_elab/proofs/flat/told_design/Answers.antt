use Rattle.std.proofs.Common.{◌≡◌, ◌∙◌, ◌≤◌, ◌<◌, ℕ, false, ap, sym, subst, refl, map, length, List}
use Rattle.std.specs.Prelude.{string_bytes}
use Rattle.std.proofs.lemmas.List.{length-map}
use Rattle.wb_values.specs.Value.{Name}
use Rattle.flat_designs.proofs.Known.{dotted_names_are_a_naming}
use Rattle.v_places.specs.Views.{spots_of}
use Rattle.v_lower.specs.Table.{images_at}
use Rattle.v_flat.specs.Numbered.{numbered}
use Rattle.v_elab.specs.Told.{AreToldBy}
use Rattle.v_elab.proofs.Retold.{renamed_length, names_length, retold_distinct, terms_kept, bits_kept, words_kept, settled_within}
use Rattle.wb_terms.specs.Graph.{Graph, HasDistinctNames}
use Rattle.wb_terms.specs.Renamed.{renamed}
use Rattle.v_elab.proofs.flat.told_design.Goals as goal

pub with_names-requires-clause-count : goal.with_names-requires-clause-count
with_names-requires-clause-count c =
    c.in_ok-told.ensures.count ∙ ap length c.deref.ensures.value
    ∙ sym (length-map c.args.elements.stored.items (λ n. n.now)) ∙ ap length (sym c.args.elements.named) ∙ names_length c.args.elements.terms.names

pub with_names-requires-clause-distinct : goal.with_names-requires-clause-distinct
with_names-requires-clause-distinct c =
    let spots = spots_of c.args.places.now in
    let d = c.requires.0 in
    let so = c.requires.2 in
    retold_distinct d (numbered false spots) c.requires.1 ((dotted_names_are_a_naming d).naming so.placing.no_dots) c.args.elements.terms.names
    (map string_bytes c.in_ok-told.told.items)
    (subst (λ ns. AreToldBy d (numbered false spots) ns (map string_bytes c.in_ok-told.told.items))
    (ap (map (λ n. n.now)) c.deref.ensures.value ∙ sym c.args.elements.named) (c.in_ok-told.ensures.told d so.placing))
    c.requires.3 c.name_count-count.ensures.distinct

pub invariant_of-result-clause-counted : goal.invariant_of-result-clause-counted
invariant_of-result-clause-counted c =
    let ns : List Name = map string_bytes c.in_ok-told.told.items in
    let es = c.args.elements.terms.names in
    let many : length ns ≡ length es = length-map c.in_ok-told.told.items string_bytes ∙ c.in_ok-told.ensures.count ∙ ap length c.deref.ensures.value
    ∙ sym (length-map c.args.elements.stored.items (λ n. n.now)) ∙ ap length (sym c.args.elements.named) ∙ names_length c.args.elements.terms.names in
    let hs : c.in_ok-terms.terms.names ≡ renamed ns es = ap (λ (g : Graph). g.names) c.in_ok-terms.ensures.names in
    let nodes : c.in_ok-terms.terms.nodes ≡ c.args.elements.terms.nodes = ap (λ (g : Graph). g.nodes) c.in_ok-terms.ensures.names in
    subst (λ (k : ℕ). c.args.elements.register_count ≤ k) (sym (ap length hs ∙ renamed_length ns es many)) c.args.elements.counted

pub invariant_of-result-clause-sorted : goal.invariant_of-result-clause-sorted
invariant_of-result-clause-sorted c =
    let ns : List Name = map string_bytes c.in_ok-told.told.items in
    let es = c.args.elements.terms.names in
    let many : length ns ≡ length es = length-map c.in_ok-told.told.items string_bytes ∙ c.in_ok-told.ensures.count ∙ ap length c.deref.ensures.value
    ∙ sym (length-map c.args.elements.stored.items (λ n. n.now)) ∙ ap length (sym c.args.elements.named) ∙ names_length c.args.elements.terms.names in
    let hs : c.in_ok-terms.terms.names ≡ renamed ns es = ap (λ (g : Graph). g.names) c.in_ok-terms.ensures.names in
    let nodes : c.in_ok-terms.terms.nodes ≡ c.args.elements.terms.nodes = ap (λ (g : Graph). g.nodes) c.in_ok-terms.ensures.names in
    terms_kept c.args.elements.terms c.in_ok-terms.terms nodes c.in_ok-terms.ensures.sorts ns es c.in_ok-terms.terms.names c.args.elements.register_count _ many hs
    c.args.elements.sorted

pub invariant_of-result-clause-counting : goal.invariant_of-result-clause-counting
invariant_of-result-clause-counting c =
    let ns : List Name = map string_bytes c.in_ok-told.told.items in
    let es = c.args.elements.terms.names in
    let many : length ns ≡ length es = length-map c.in_ok-told.told.items string_bytes ∙ c.in_ok-told.ensures.count ∙ ap length c.deref.ensures.value
    ∙ sym (length-map c.args.elements.stored.items (λ n. n.now)) ∙ ap length (sym c.args.elements.named) ∙ names_length c.args.elements.terms.names in
    let hs : c.in_ok-terms.terms.names ≡ renamed ns es = ap (λ (g : Graph). g.names) c.in_ok-terms.ensures.names in
    let nodes : c.in_ok-terms.terms.nodes ≡ c.args.elements.terms.nodes = ap (λ (g : Graph). g.nodes) c.in_ok-terms.ensures.names in
    bits_kept ns es c.in_ok-terms.terms.names c.args.elements.register_count _ many hs c.args.elements.counting

pub invariant_of-result-clause-words : goal.invariant_of-result-clause-words
invariant_of-result-clause-words c =
    let ns : List Name = map string_bytes c.in_ok-told.told.items in
    let es = c.args.elements.terms.names in
    let many : length ns ≡ length es = length-map c.in_ok-told.told.items string_bytes ∙ c.in_ok-told.ensures.count ∙ ap length c.deref.ensures.value
    ∙ sym (length-map c.args.elements.stored.items (λ n. n.now)) ∙ ap length (sym c.args.elements.named) ∙ names_length c.args.elements.terms.names in
    let hs : c.in_ok-terms.terms.names ≡ renamed ns es = ap (λ (g : Graph). g.names) c.in_ok-terms.ensures.names in
    let nodes : c.in_ok-terms.terms.nodes ≡ c.args.elements.terms.nodes = ap (λ (g : Graph). g.nodes) c.in_ok-terms.ensures.names in
    words_kept ns es c.in_ok-terms.terms.names c.args.elements.register_count many hs c.args.elements.words

pub invariant_of-result-clause-within : goal.invariant_of-result-clause-within
invariant_of-result-clause-within c = λ n.
    let spots = spots_of c.args.places.now in
    let ns : List Name = map string_bytes c.in_ok-told.told.items in
    let es = c.args.elements.terms.names in
    let many : length ns ≡ length es = length-map c.in_ok-told.told.items string_bytes ∙ c.in_ok-told.ensures.count ∙ ap length c.deref.ensures.value
    ∙ sym (length-map c.args.elements.stored.items (λ n. n.now)) ∙ ap length (sym c.args.elements.named) ∙ names_length c.args.elements.terms.names in
    let hs : c.in_ok-terms.terms.names ≡ renamed ns es = ap (λ (g : Graph). g.names) c.in_ok-terms.ensures.names in
    let nodes : c.in_ok-terms.terms.nodes ≡ c.args.elements.terms.nodes = ap (λ (g : Graph). g.nodes) c.in_ok-terms.ensures.names in
    settled_within c.args.elements.terms c.in_ok-terms.terms nodes c.in_ok-terms.ensures.sorts c.requires.0 (numbered false spots)
    (images_at c.args.elements.table) c.in_ok-settled.settled.items (c.in_ok-settled.ensures c.requires.0 (numbered false spots) c.requires.2) c.args.elements.within n

pub returns : goal.returns
returns c = λ own so_own.
    let spots = spots_of c.args.places.now in
    let d = c.requires.0 in
    let so = c.requires.2 in
    let settled = c.in_ok-settled.ensures own (numbered false spots) so_own in
    let ns : List Name = map string_bytes c.in_ok-told.told.items in
    let es = c.args.elements.terms.names in
    let many : length ns ≡ length es = length-map c.in_ok-told.told.items string_bytes ∙ c.in_ok-told.ensures.count ∙ ap length c.deref.ensures.value
    ∙ sym (length-map c.args.elements.stored.items (λ n. n.now)) ∙ ap length (sym c.args.elements.named) ∙ names_length c.args.elements.terms.names in
    let hs : c.in_ok-terms.terms.names ≡ renamed ns es = ap (λ (g : Graph). g.names) c.in_ok-terms.ensures.names in
    let nodes : c.in_ok-terms.terms.nodes ≡ c.args.elements.terms.nodes = ap (λ (g : Graph). g.nodes) c.in_ok-terms.ensures.names in
    record {
      names = ns;
      is_renamed = record {
        as_many = many;
        names_are = hs;
        distinct = subst HasDistinctNames (sym hs)
            (
            retold_distinct d (numbered false spots) c.requires.1 ((dotted_names_are_a_naming d).naming so.placing.no_dots) c.args.elements.terms.names
            (map string_bytes c.in_ok-told.told.items)
            (subst (λ ns. AreToldBy d (numbered false spots) ns (map string_bytes c.in_ok-told.told.items))
            (ap (map (λ n. n.now)) c.deref.ensures.value ∙ sym c.args.elements.named) (c.in_ok-told.ensures.told d so.placing))
            c.requires.3 c.name_count-count.ensures.distinct
            );
        register_count = refl;
        next = refl;
        bits = refl;
        outputs = refl;
        sorts = λ k low. c.in_ok-terms.ensures.sorts k (subst (λ ms. k < length ms) (sym nodes) low);
        values = λ xs l k low.
            c.in_ok-terms.ensures.values xs (l ∙ sym (ap length hs ∙ renamed_length ns es many)) k (subst (λ ms. k < length ms) (sym nodes) low);
      };
      are_told =
          subst (λ ms. AreToldBy own (numbered false spots) ms ns) (ap (map (λ n. n.now)) c.deref.ensures.value ∙ sym c.args.elements.named)
          (c.in_ok-told.ensures.told own so_own.placing);
      settled = settled.each;
      no_others = λ name id q. let t = settled.no_others name id q in (t.place, t.of_name, t.is_net, t.is_name, t.is_term);
    }
