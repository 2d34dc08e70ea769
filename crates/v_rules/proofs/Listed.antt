-- What the rules say of the lists of a module's items, over the definitions.
use Rattle.std.proofs.Common.{◌≡◌, ◌∙◌, refl, ap, sym, ℕ, suc, ◌+◌, ◌<◌, length, drop, get_or, map, Bool, true, false, ◌||◌, List, [], ◌∷◌, Option, Some, None, arith}
use Rattle.std.proofs.Math.Seq.{drop-cons}
use Rattle.std.proofs.lemmas.Bool.{false≢true}
use Rattle.std.specs.List.{list_any}
use Rattle.wb_values.specs.Value.{Name}
use Rattle.verilog_trees.specs.Syntax.{Expression, Target, Range, PortDeclaration, Events, any_change, on_events, Item, port, parameter, wires, variables, assign, always, instances, Source}
use Rattle.verilog_trees.specs.Syntax as pure
use Rattle.verilog_meaning.specs.Expression.{Scope}
use Rattle.verilog_meaning.specs.Register.{is_clocked}
use Rattle.verilog_designs.specs.Expressions as designs
use Rattle.v_hier.specs.Instances.{is_part}
use Rattle.v_syntax.specs.declared.module.Event.{Event}
use Rattle.v_syntax.specs.Source.{edge_of}
use Rattle.v_size.specs.declared.rule.Broken.{Broken}
use Rattle.v_size.specs.Rule.{coded, both}
use Rattle.v_size.proofs.Chains.{both-none, both-assoc}
use Rattle.v_rules.specs.Judging.{none, broken_at, bound_at, range_at}
use Rattle.v_rules.specs.Targets.{net_target_at}
use Rattle.v_rules.specs.Statements.{statement_at}
use Rattle.v_rules.specs.Items.{ports_from, wires_from, variables_from, assignments_from, event_at, event_list_from, events_at, module_item_at, module_items_from}

-- ---- a turn over events, which are copied

abbrev events_left : Scope → Broken → List Event → Broken
events_left s a es = event_list_from s a (map (λ (e : Event). record { edge = edge_of e.edge; signal = e.signal.now }) es)

next : (s : Scope) (es : List Event) (i : ℕ) (d : Event) (a : Broken) → i < length es → events_left s a (drop i es) ≡ events_left s (both a (event_at s (get_or es i d).signal.now)) (drop (i + 1) es)
next s es i d a h =
    let e : suc i ≡ i + 1 = omega arith in
    ap (events_left s a) (drop-cons es i d h) ∙ ap (λ j. events_left s (both a (event_at s (get_or es i d).signal.now)) (drop j es)) e

pub event-more : (s : Scope) (es : List Event) (i : ℕ) (d : Event) (t a b r : Broken) → i < length es → b ≡ event_at s (get_or es i d).signal.now → r ≡ both a b
    → t ≡ events_left s a (drop i es) → t ≡ events_left s r (drop (i + 1) es)
event-more s es i d t a b r h is_b is_r so =
    so ∙ next s es i d a h ∙ ap (λ z. events_left s z (drop (i + 1) es)) (ap (both a) (sym is_b) ∙ sym is_r)

-- ---- lists

range-broken : (s : Scope) (r : Option Range) → range_at s r ≡ coded (designs.broken_range s r)
unfolding bound_at
range-broken s None = refl
range-broken s (Some r) = refl

pub ports-broken : (s : Scope) (ds : List PortDeclaration) (a : Broken) → ports_from s a ds ≡ both a (coded (designs.broken_ports s ds))
ports-broken s [] a = both-none a
ports-broken s (d ∷ ds) a =
    ports-broken s ds (both a (range_at s d.range))
    ∙ ap (λ z. both (both a z) (coded (designs.broken_ports s ds))) (range-broken s d.range)
    ∙ sym (both-assoc a (coded (designs.broken_range s d.range)) (coded (designs.broken_ports s ds)))

variables-broken : (s : Scope) (vs : List (Name × Option Range)) (a : Broken) → variables_from s a vs ≡ both a (coded (designs.broken_addresses s vs))
variables-broken s [] a = both-none a
variables-broken s (v ∷ vs) a =
    variables-broken s vs (both a (range_at s v.1))
    ∙ ap (λ z. both (both a z) (coded (designs.broken_addresses s vs))) (range-broken s v.1)
    ∙ sym (both-assoc a (coded (designs.broken_range s v.1)) (coded (designs.broken_addresses s vs)))

wires-broken : (s : Scope) (ws : List (Name × Option Expression)) (a : Broken) → wires_from s a ws ≡ both a (coded (designs.broken_initial_values s ws))
unfolding broken_at
wires-broken s [] a = both-none a
wires-broken s ((n, None) ∷ ws) a = wires-broken s ws (both a none) ∙ ap (λ z. both z (coded (designs.broken_initial_values s ws))) (sym (both-none a))
wires-broken s ((n, Some e) ∷ ws) a =
    wires-broken s ws (both a (broken_at s e)) ∙ sym (both-assoc a (broken_at s e) (coded (designs.broken_initial_values s ws)))

assignments-broken : (s : Scope) (xs : List (Target × Expression)) (a : Broken) → assignments_from s a xs ≡ both a (coded (designs.broken_assignments s xs))
unfolding broken_at net_target_at
assignments-broken s [] a = both-none a
assignments-broken s (x ∷ xs) a =
    assignments-broken s xs (both a (both (net_target_at s designs.by_constants x.0) (broken_at s x.1)))
    ∙ sym (both-assoc a (both (net_target_at s designs.by_constants x.0) (broken_at s x.1)) (coded (designs.broken_assignments s xs)))

event_list-broken : (s : Scope) (es : List pure.Event) (a : Broken) → event_list_from s a es ≡ both a (coded (designs.broken_event_list s es))
event_list-broken s [] a = both-none a
event_list-broken s (e ∷ es) a =
    event_list-broken s es (both a (event_at s e.signal)) ∙ sym (both-assoc a (event_at s e.signal) (coded (designs.broken_event_list s es)))

events-broken : (s : Scope) (es : Events) → events_at s es ≡ coded (designs.broken_events s es)
events-broken s any_change = refl
events-broken s (on_events es) = event_list-broken s es none

-- ---- items

pub neither : (a b : Bool) → a || b ≡ false → (a ≡ false) × (b ≡ false)
neither false b h = (refl, h)
neither true b h = absurd (false≢true (sym h))

module _ (source : Source) (s : Scope) where
  item-broken : (i : Item) → is_part i ≡ false → module_item_at s i ≡ coded (designs.broken_module_item source s i)
  unfolding statement_at
  item-broken (port d) h = range-broken s d.range
  item-broken (parameter d) h = absurd (false≢true (sym h))
  item-broken (wires signed r ws) h = λ i. both (range-broken s r i) (wires-broken s ws none i)
  item-broken (variables signed r vs) h = λ i. both (range-broken s r i) (variables-broken s vs none i)
  item-broken (assign ts) h = assignments-broken s ts none
  item-broken (always es x) h = ap (λ z. both z (coded (designs.broken_statement s (is_clocked es) x))) (events-broken s es)
  item-broken (instances m given is) h = absurd (false≢true (sym h))

  pub items-broken : (items : List Item) → list_any is_part items ≡ false → (a : Broken) → module_items_from s a items ≡ both a (coded (designs.broken_module_items source s items))
  items-broken [] h a = both-none a
  items-broken (i ∷ items) h a =
      let p = neither (is_part i) (list_any is_part items) h in
      items-broken items p.1 (both a (module_item_at s i))
      ∙ ap (λ z. both (both a z) (coded (designs.broken_module_items source s items))) (item-broken i p.0)
      ∙ sym (both-assoc a (coded (designs.broken_module_item source s i)) (coded (designs.broken_module_items source s items)))
