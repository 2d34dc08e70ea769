-- A design whose modules have no parameters and no instances: its top alone stands in it.
use Rattle.std.proofs.Common.{◌≡◌, ◌∙◌, refl, ap, sym, subst, Bool, true, false, cond, List, [], ◌∷◌, ◌++◌, Option, Some, None, is_some, option_map, Contains}
use Rattle.std.specs.Prelude.{◌||◌, ◌↔◌, is_none}
use Rattle.std.specs.List.{list_any}
use Rattle.std.proofs.lemmas.Bool.{true≢false}
use Rattle.std.proofs.lemmas.Slice.Eq.{bytes_eq-Decides}
use Rattle.wb_values.specs.Value.{Name, same_name, Entries}
use Rattle.verilog_trees.specs.Syntax.{Range, ParameterDeclaration, Statement, Event, Events, Item, port, parameter, wires, variables, assign, always, instances, Module}
use Rattle.verilog_meaning.specs.Expression.{Object, Scope, object_or_undeclared, scope_of}
use Rattle.verilog_meaning.specs.Hierarchy.{with_parameters, body_parameters, Declaration, declarations, declaration_of, and_later, ranged_object, declared_object, module_scope, PathStep, instance_step, Placed, placed_scope, module_named, placed_at, constants_of, no_overrides}
use Rattle.verilog_meaning.specs.Settled.{Design, is_declared_among}
use Rattle.verilog_designs.specs.Clocks.{IsClockNet}
use Rattle.verilog_designs.specs.Paths.{IsClockEdge, IsBitEdge, IsEventList, HasBadEventList, HasLatch}
use Rattle.v_hier.specs.Instances.{is_part, is_any, module_has_parts, has_parts}
use Rattle.v_scopes.specs.Ports.{alone}
use Rattle.v_scopes.proofs.Parts.{some_is, none_some, whole_module, nothing_below}
use Rattle.v_paths.specs.Events.{IsClockEdgeIn, IsBitEdgeIn, IsEventListIn}
use Rattle.v_paths.specs.Modules.{HasLatchIn, HasBadEventListIn}

-- ---- the top has no constants

no-body : (items : List Item) → list_any is_part items ≡ false → body_parameters items ≡ []
no-body [] h = refl
no-body (port d ∷ items) h = no-body items h
no-body (parameter d ∷ items) h = absurd (true≢false h)
no-body (wires signed r ws ∷ items) h = no-body items h
no-body (variables signed r vs ∷ items) h = no-body items h
no-body (assign ts ∷ items) h = no-body items h
no-body (always es x ∷ items) h = no-body items h
no-body (instances k given is ∷ items) h = absurd (true≢false h)

no-parameter : (ps : List ParameterDeclaration) (items : List Item) → (is_any ps || list_any is_part items) ≡ false → ps ++ body_parameters items ≡ []
no-parameter [] items h = no-body items h
no-parameter (p ∷ ps) items h = absurd (true≢false h)

no-constant : (m : Module) → module_has_parts m ≡ false → constants_of m no_overrides ≡ []
no-constant m h = ap (λ ds. with_parameters ds no_overrides []) (no-parameter m.parameters m.items h)

-- ---- what stands in the design

abbrev with_constants : Module → Entries Object → Placed
with_constants m known = record { path = []; of_module = m; constants = known }

abbrev as_top : Module → Placed
as_top m = with_constants m (constants_of m no_overrides)

-- ---- names of the top

ranged-declared : (s : Scope) (signed : Bool) (r : Option Range) → (ranged_object s signed r).is_declared ≡ true
ranged-declared s signed None = refl
ranged-declared s signed (Some r) = refl

ranged-constant : (s : Scope) (signed : Bool) (r : Option Range) → is_none (ranged_object s signed r).constant ≡ true
ranged-constant s signed None = refl
ranged-constant s signed (Some r) = refl

object-declared : (o : Option Declaration) → (object_or_undeclared (option_map (declared_object (scope_of [])) o)).is_declared ≡ is_some o
object-declared None = refl
object-declared (Some x) = ranged-declared (scope_of []) x.signed x.range

object-constant : (o : Option Declaration) → is_none (object_or_undeclared (option_map (declared_object (scope_of [])) o)).constant ≡ true
object-constant None = refl
object-constant (Some x) = ranged-constant (scope_of []) x.signed x.range

found-some : (b : Bool) (x : Declaration) (o : Option Declaration) (t : Bool) → is_some o ≡ t → is_some (cond b (Some x) o) ≡ (b || t)
found-some true x o t h = refl
found-some false x o t h = h

among-so : (ds : List Declaration) (n : Name) → is_some (declaration_of ds n) ≡ is_declared_among ds n
among-so [] n = refl
among-so (d ∷ ds) n = found-some (same_name d.of_name n) (and_later d (declaration_of ds n)) (declaration_of ds n) (is_declared_among ds n) (among-so ds n)

declared-so : (m : Module) (n : Name) → (module_scope m [] n).is_declared ≡ is_declared_among (declarations m) n
declared-so m n = object-declared (declaration_of (declarations m) n) ∙ among-so (declarations m) n

no-constant-so : (m : Module) (n : Name) → is_none (module_scope m [] n).constant ≡ true
no-constant-so m n = object-constant (declaration_of (declarations m) n)

-- ---- the top

module _ (d : Design) (m : Module) (h : has_parts d.source ≡ false) (e : module_named d.source d.top ≡ Some m) where
  top : placed_at d.source d.top [] ≡ Some (alone m)
  top = ap (option_map as_top) e ∙ ap (λ known. Some (with_constants m known)) (no-constant m (whole_module d.source d.top m h e))

  is-alone : (path : List PathStep) (p : Placed) → placed_at d.source d.top path ≡ Some p → p ≡ alone m
  is-alone [] p i = sym (some_is (alone m) p (sym top ∙ i))
  is-alone (u ∷ path) p i = absurd (none_some p (sym (nothing_below d.source d.top h u path) ∙ i))

  -- ---- the clock

  clock-net : IsClockNet d (alone m) d.clock
  clock-net = IsClockNet.at_top (alone m) top refl

  is-clock : (p : Placed) (n : Name) → IsClockNet d p n → n ≡ d.clock
  is-clock _ _ (IsClockNet.at_top p placed is_top) = refl
  is-clock _ _ (IsClockNet.at_input around p c k n net stands to all) =
      absurd (none_some p (sym (nothing_below d.source d.top h (instance_step c.of_instance) around.path) ∙ to.is_below))

  -- ---- lists of events

  abbrev scope : Scope
  scope = module_scope m []

  bit-edge : (e : Event) → IsBitEdgeIn scope e → IsBitEdge (alone m) e
  bit-edge e k = record { edge = k.edge; is_declared = sym (declared-so m e.signal) ∙ k.is_declared; no_memory = k.no_memory; one_bit = k.one_bit }

  edge-bit : (e : Event) → IsBitEdge (alone m) e → IsBitEdgeIn scope e
  edge-bit e k = record {
    edge = k.edge;
    is_declared = declared-so m e.signal ∙ k.is_declared;
    no_constant = no-constant-so m e.signal;
    no_memory = k.no_memory;
    one_bit = k.one_bit;
  }

  -- ---- latches

  latch-in-design : HasLatchIn scope m.items → HasLatch d
  latch-in-design l = record {
    place = alone m;
    statement = l.statement;
    name = l.latched.name;
    word = l.latched.word;
    bit = l.latched.bit;
    is_placed = top;
    stands = l.stands;
    is_variable = l.latched.is_variable;
    is_bit = l.latched.is_bit;
    is_assigned = l.latched.is_assigned;
    latched = l.latched.latched;
  }

  latch-at : (l : HasLatch d) → HasLatchIn (placed_scope l.place) l.place.of_module.items
  latch-at l = record {
    statement = l.statement;
    stands = l.stands;
    latched = record { name = l.name; word = l.word; bit = l.bit; is_variable = l.is_variable; is_bit = l.is_bit; is_assigned = l.is_assigned; latched = l.latched };
  }

  latch-in-top : HasLatch d → HasLatchIn scope m.items
  latch-in-top l = subst (λ (p : Placed). HasLatchIn (placed_scope p) p.of_module.items) (is-alone l.place.path l.place l.is_placed) (latch-at l)

  pub latches : HasLatchIn scope m.items ↔ HasLatch d
  latches = (latch-in-design, latch-in-top)

  module _ (is_clock : Name → Bool) (same : (n : Name) → is_clock n ≡ same_name d.clock n) where
    clock-edge : (e : Event) → IsClockEdgeIn is_clock e → IsClockEdge d (alone m) e
    clock-edge e k = (k.0, subst (IsClockNet d (alone m)) ((bytes_eq-Decides d.clock e.signal).0 (sym (same e.signal) ∙ k.1)) clock-net)

    edge-clock : (e : Event) → IsClockEdge d (alone m) e → IsClockEdgeIn is_clock e
    edge-clock e k = (k.0, same e.signal ∙ (bytes_eq-Decides d.clock e.signal).1 (sym (is-clock (alone m) e.signal k.1)))

    in-design : (x : Statement) (es : Events) → IsEventListIn scope is_clock x es → IsEventList d (alone m) x es
    in-design x _ IsEventListIn.star = IsEventList.star
    in-design x _ (IsEventListIn.one_clock c k) = IsEventList.one_clock c (clock-edge c k)
    in-design x _ (IsEventListIn.clock_first c f k b a) = IsEventList.clock_first c f (clock-edge c k) (bit-edge f b) a
    in-design x _ (IsEventListIn.clock_second c f k b a) = IsEventList.clock_second c f (clock-edge c k) (bit-edge f b) a
    in-design x _ (IsEventListIn.names es c) = IsEventList.names es (record { plain = c.plain; covers = c.covers })

    in-top : (x : Statement) (es : Events) → IsEventList d (alone m) x es → IsEventListIn scope is_clock x es
    in-top x _ IsEventList.star = IsEventListIn.star
    in-top x _ (IsEventList.one_clock c k) = IsEventListIn.one_clock c (edge-clock c k)
    in-top x _ (IsEventList.clock_first c f k b a) = IsEventListIn.clock_first c f (edge-clock c k) (edge-bit f b) a
    in-top x _ (IsEventList.clock_second c f k b a) = IsEventListIn.clock_second c f (edge-clock c k) (edge-bit f b) a
    in-top x _ (IsEventList.names es c) = IsEventListIn.names es (record { plain = c.plain; covers = c.covers })

    pub event-lists : (x : Statement) (es : Events) → IsEventListIn scope is_clock x es ↔ IsEventList d (alone m) x es
    event-lists x es = (in-design x es, in-top x es)

    -- ---- blocks with other lists

    bad-in-design : HasBadEventListIn scope is_clock m.items → HasBadEventList d
    bad-in-design l = record {
      place = alone m;
      events = l.events;
      statement = l.statement;
      is_placed = top;
      stands = l.stands;
      bad = λ k. l.bad (in-top l.statement l.events k);
    }

    abbrev BadAt : Placed → Type 0
    BadAt p = (es : Events) × (x : Statement) × Contains p.of_module.items (always es x) × (¬ IsEventList d p x es)

    bad-in-top : HasBadEventList d → HasBadEventListIn scope is_clock m.items
    bad-in-top l =
        let at : BadAt (alone m) = subst BadAt (is-alone l.place.path l.place l.is_placed) (l.events, l.statement, l.stands, l.bad) in
        record { events = at.0; statement = at.1; stands = at.2; bad = λ k. at.3 (in-design at.1 at.0 k) }

    pub bad-event-lists : HasBadEventListIn scope is_clock m.items ↔ HasBadEventList d
    bad-event-lists = (bad-in-design, bad-in-top)
