-- Lists of events that blocks may have.
use Rattle.std.proofs.Common.{◌≡◌, ◌≢◌, ◌∙◌, ℕ, zero, suc, ◌<◌, refl, ap, sym, subst, arith, Bool, true, false, not, List, [], ◌∷◌, length, get_or, slice_index_or, Contains}
use Rattle.std.specs.Prelude.{◌&&◌, ◌||◌, ◌==◌, ◌↔◌, is_none, IsTrue}
use Rattle.std.specs.declared.vec.Vec.{Vec}
use Rattle.std.specs.declared.alloc.Global.{Global}
use Rattle.std.proofs.lemmas.Bool.{true≢false, false≢true, and_parts, and_from, or_left, or_right, not-true, not_from_false, false_from_ne_true, eqb-true, eq-eqb}
use Rattle.std.proofs.lemmas.Slice.Eq.{bytes_eq-Decides}
use Rattle.wb_values.specs.Value.{Name, same_name}
use Rattle.verilog_trees.specs.Syntax as pure
use Rattle.verilog_trees.specs.Syntax.{EdgeKind, posedge, negedge, any_edge, Event, Events, any_change, on_events}
use Rattle.verilog_meaning.specs.Expression.{Scope, object_width, is_memory}
use Rattle.verilog_meaning.specs.Register.{is_edge, has_edge, is_clocked}
use Rattle.v_syntax.specs.declared.module.Event.{Event as CodeEvent}
use Rattle.v_syntax.specs.declared.module.Events.{Events as CodeEvents}
use Rattle.v_syntax.specs.declared.module.Events.TheVariants.{AnyChange, OnEvents}
use Rattle.v_syntax.specs.Source.{events_of}
use Rattle.v_statement.specs.Registers.{events_list}
use Rattle.v_paths.specs.Events.{IsClockEdgeIn, IsBitEdgeIn, CoversIn, IsEventListIn, event_of, is_posedge, is_clock_edge, is_bit_edge, is_clock_pair, is_clock_list}

-- ---- edges

posedge-so : (k : EdgeKind) → is_posedge k ≡ true → k ≡ posedge
posedge-so posedge h = refl
posedge-so negedge h = absurd (false≢true h)
posedge-so any_edge h = absurd (false≢true h)

edge-so : (k : EdgeKind) → k ≢ any_edge → is_edge k ≡ true
edge-so posedge h = refl
edge-so negedge h = refl
edge-so any_edge h = absurd (h refl)

no-edge-so : (k : EdgeKind) → is_edge k ≡ false → k ≡ any_edge
no-edge-so posedge h = absurd (true≢false h)
no-edge-so negedge h = absurd (true≢false h)
no-edge-so any_edge h = refl

clock-edge-so : (clocks : Name → Bool) (e : Event) → is_clock_edge clocks e ≡ true → IsClockEdgeIn clocks e
clock-edge-so clocks e h =
    let p = and_parts (is_posedge e.edge) (clocks e.signal) h in (posedge-so e.edge p.0, p.1)

so-clock-edge : (clocks : Name → Bool) (e : Event) → IsClockEdgeIn clocks e → is_clock_edge clocks e ≡ true
so-clock-edge clocks e h = and_from (is_posedge e.edge) (clocks e.signal) (ap is_posedge h.0) h.1

bit-edge-so : (s : Scope) (e : Event) → is_bit_edge s e ≡ true → IsBitEdgeIn s e
bit-edge-so s e h =
    let o = s e.signal in
    let a = and_parts (is_edge e.edge) (o.is_declared && (is_none o.constant && (not (is_memory o) && (object_width o == 1)))) h in
    let b = and_parts o.is_declared (is_none o.constant && (not (is_memory o) && (object_width o == 1))) a.1 in
    let c = and_parts (is_none o.constant) (not (is_memory o) && (object_width o == 1)) b.1 in
    let d = and_parts (not (is_memory o)) (object_width o == 1) c.1 in
    record {
      edge = λ q. false≢true (sym (ap is_edge q) ∙ a.0);
      is_declared = b.0;
      no_constant = c.0;
      no_memory = not-true (is_memory o) d.0;
      one_bit = eqb-true (object_width o) 1 d.1;
    }

so-bit-edge : (s : Scope) (e : Event) → IsBitEdgeIn s e → is_bit_edge s e ≡ true
so-bit-edge s e h =
    let o = s e.signal in
    and_from (is_edge e.edge) (o.is_declared && (is_none o.constant && (not (is_memory o) && (object_width o == 1)))) (edge-so e.edge h.edge)
    (and_from o.is_declared (is_none o.constant && (not (is_memory o) && (object_width o == 1))) h.is_declared
    (and_from (is_none o.constant) (not (is_memory o) && (object_width o == 1)) h.no_constant
    (and_from (not (is_memory o)) (object_width o == 1) (not_from_false (is_memory o) h.no_memory) (eq-eqb (object_width o) 1 h.one_bit))))

-- the parts of a clocks's edge with that of another name
pub record IsPair (s : Scope) (clocks : Name → Bool) (c e : Event) : Type 0 where
  pub first : IsClockEdgeIn clocks c
  pub second : IsBitEdgeIn s e
  pub apart : c.signal ≢ e.signal

pair-so : (s : Scope) (clocks : Name → Bool) (c e : Event) → is_clock_pair s clocks c e ≡ true → IsPair s clocks c e
pair-so s clocks c e h =
    let p = and_parts (is_clock_edge clocks c) (is_bit_edge s e && not (same_name c.signal e.signal)) h in
    let q = and_parts (is_bit_edge s e) (not (same_name c.signal e.signal)) p.1 in
    record {
      first = clock-edge-so clocks c p.0;
      second = bit-edge-so s e q.0;
      apart = λ i. false≢true (sym (not-true (same_name c.signal e.signal) q.1) ∙ (bytes_eq-Decides c.signal e.signal).1 i);
    }

so-pair : (s : Scope) (clocks : Name → Bool) (c e : Event) → IsClockEdgeIn clocks c → IsBitEdgeIn s e → c.signal ≢ e.signal → is_clock_pair s clocks c e ≡ true
so-pair s clocks c e h g a =
    and_from (is_clock_edge clocks c) (is_bit_edge s e && not (same_name c.signal e.signal)) (so-clock-edge clocks c h)
    (and_from (is_bit_edge s e) (not (same_name c.signal e.signal)) (so-bit-edge s e g)
    (not_from_false (same_name c.signal e.signal) (false_from_ne_true (same_name c.signal e.signal) (λ t. a ((bytes_eq-Decides c.signal e.signal).0 t)))))

-- ---- lists with an edge

module _ (s : Scope) (clocks : Name → Bool) (x : pure.Statement) where
  two-so : (c e : Event) (p q : Bool) → is_clock_pair s clocks c e ≡ p → is_clock_pair s clocks e c ≡ q → (p || q) ≡ true → IsEventListIn s clocks x (on_events (c ∷ e ∷ []))
  two-so c e true q h g t = let r = pair-so s clocks c e h in IsEventListIn.clock_first c e r.first r.second r.apart
  two-so c e false true h g t = let r = pair-so s clocks e c g in IsEventListIn.clock_second e c r.first r.second r.apart
  two-so c e false false h g t = absurd (false≢true t)

  list-so : (es : List Event) → is_clock_list s clocks es ≡ true → IsEventListIn s clocks x (on_events es)
  list-so [] h = absurd (false≢true h)
  list-so (c ∷ []) h = IsEventListIn.one_clock c (clock-edge-so clocks c h)
  list-so (c ∷ e ∷ []) h = two-so c e (is_clock_pair s clocks c e) (is_clock_pair s clocks e c) refl refl h
  list-so (c ∷ e ∷ f ∷ es) h = absurd (false≢true h)

  abbrev is_clocks : Events → Bool
  is_clocks any_change = false
  is_clocks (on_events es) = is_clock_list s clocks es

  -- names alone have no edge
  later : (e : Event) (es : List Event) → ((f : Event) → Contains (e ∷ es) f → f.edge ≡ any_edge) → (f : Event) → Contains es f → f.edge ≡ any_edge
  later e es h f c = h f (suc c.0, omega (arith, c.1), c.2)

  plain-none : (es : List Event) → ((e : Event) → Contains es e → e.edge ≡ any_edge) → has_edge es ≡ false
  plain-none [] h = refl
  plain-none (e ∷ es) h = ap (λ k. is_edge k || has_edge es) (h e (0, omega arith, refl)) ∙ plain-none es (later e es h)

  edge-parts : (a b : Bool) → (a || b) ≡ false → (a ≡ false) × (b ≡ false)
  edge-parts true b h = absurd (true≢false h)
  edge-parts false b h = (refl, h)

  none-plain : (es : List Event) → has_edge es ≡ false → (e : Event) (k : ℕ) → k < length es → slice_index_or es k e ≡ e → e.edge ≡ any_edge
  none-plain [] h e k l i = absurd (omega (arith, l))
  none-plain (f ∷ es) h e zero l i = subst (λ g. g.edge ≡ any_edge) i (no-edge-so f.edge (edge-parts (is_edge f.edge) (has_edge es) h).0)
  none-plain (f ∷ es) h e (suc k) l i = none-plain es (edge-parts (is_edge f.edge) (has_edge es) h).1 e k (omega (arith, l)) i

  so-list : (es : Events) → IsEventListIn s clocks x es → is_clocked es ≡ true → is_clocks es ≡ true
  so-list _ IsEventListIn.star h = h
  so-list _ (IsEventListIn.one_clock c k) h = so-clock-edge clocks c k
  so-list _ (IsEventListIn.clock_first c e k b a) h = or_left (is_clock_pair s clocks c e) (is_clock_pair s clocks e c) (so-pair s clocks c e k b a)
  so-list _ (IsEventListIn.clock_second c e k b a) h = or_right (is_clock_pair s clocks e c) (is_clock_pair s clocks c e) (so-pair s clocks c e k b a)
  so-list _ (IsEventListIn.names es c) h = absurd (false≢true (sym (plain-none es c.plain) ∙ h))

  abbrev CoversAll : Events → Type 0
  CoversAll any_change = Unit {0}
  CoversAll (on_events es) = CoversIn s es x

  clock-has-edge : (c : Event) (rest : Bool) → IsClockEdgeIn clocks c → (is_edge c.edge || rest) ≡ false → ⊥
  clock-has-edge c rest k h = true≢false (ap (λ e. is_edge e || rest) (sym k.0) ∙ h)

  second-has-edge : (c : Event) (first rest : Bool) → IsClockEdgeIn clocks c → (first || (is_edge c.edge || rest)) ≡ false → ⊥
  second-has-edge c first rest k h = clock-has-edge c rest k (edge-parts first (is_edge c.edge || rest) h).1

  so-covers : (es : Events) → IsEventListIn s clocks x es → is_clocked es ≡ false → CoversAll es
  so-covers _ IsEventListIn.star h = tt
  so-covers _ (IsEventListIn.one_clock c k) h = absurd (clock-has-edge c false k h)
  so-covers _ (IsEventListIn.clock_first c e k b a) h = absurd (clock-has-edge c (is_edge e.edge || false) k h)
  so-covers _ (IsEventListIn.clock_second c e k b a) h = absurd (second-has-edge c (is_edge e.edge) false k h)
  so-covers _ (IsEventListIn.names es c) h = c.covers

  -- ---- the code's lists

  module _ (ev : CodeEvents) (list : Vec CodeEvent Global) (is : ev ≡ OnEvents list) (es : List CodeEvent) (same : es ≡ list.items) (c : Bool) (clocked : c ≡ is_clocked (events_of ev)) where
    whole : events_of ev ≡ on_events (events_list es)
    whole = ap events_of is ∙ ap (λ ys. on_events (events_list ys)) (sym same)

    pub clocked-so : c ≡ true → (r : Bool) → r ≡ is_clock_list s clocks (events_list es) → IsTrue r ↔ IsEventListIn s clocks x (events_of ev)
    clocked-so t r h = (
      (λ i. subst (IsEventListIn s clocks x) (sym whole) (list-so (events_list es) (sym h ∙ i))),
      (λ l. h ∙ so-list (on_events (events_list es)) (subst (IsEventListIn s clocks x) whole l) (ap is_clocked (sym whole) ∙ sym clocked ∙ t)),
    )

    pub names-so : c ≡ false → (r : Bool) → (IsTrue r ↔ CoversIn s (events_list es) x) → IsTrue r ↔ IsEventListIn s clocks x (events_of ev)
    names-so f r h =
        let none : has_edge (events_list es) ≡ false = ap is_clocked (sym whole) ∙ sym clocked ∙ f in (
          (λ i. subst (IsEventListIn s clocks x) (sym whole)
              (IsEventListIn.names (events_list es) (record { plain = λ e k. none-plain (events_list es) none e k.0 k.1 k.2; covers = h.0 i }))),
          (λ l. h.1 (so-covers (on_events (events_list es)) (subst (IsEventListIn s clocks x) whole l) none)),
        )

  pub star-so : (ev : CodeEvents) → ev ≡ AnyChange → IsTrue true ↔ IsEventListIn s clocks x (events_of ev)
  star-so ev is = ((λ i. subst (λ y. IsEventListIn s clocks x (events_of y)) (sym is) IsEventListIn.star), (λ l. refl))

-- two events by their places
pub one-listed : (s : Scope) (clocks : Name → Bool) (es : List CodeEvent) (c : CodeEvent) (r : Bool) → length es ≡ 1 → c ≡ get_or es 0 c → r ≡ is_clock_edge clocks (event_of c)
    → r ≡ is_clock_list s clocks (events_list es)
one-listed s clocks [] c r l i h = absurd (omega (arith, l))
one-listed s clocks (a ∷ []) c r l i h = h ∙ ap (λ e. is_clock_edge clocks (event_of e)) i
one-listed s clocks (a ∷ b ∷ es) c r l i h = absurd (omega (arith, l))

pub other-listed : (s : Scope) (clocks : Name → Bool) (es : List CodeEvent) → ¬ (length es ≡ 1) → ¬ (length es ≡ 2) → false ≡ is_clock_list s clocks (events_list es)
other-listed s clocks [] h g = refl
other-listed s clocks (a ∷ []) h g = absurd (h refl)
other-listed s clocks (a ∷ b ∷ []) h g = absurd (g refl)
other-listed s clocks (a ∷ b ∷ c ∷ es) h g = refl

pub two-listed : (s : Scope) (clocks : Name → Bool) (es : List CodeEvent) (c e : CodeEvent) (p q r : Bool) → length es ≡ 2 → c ≡ get_or es 0 c → e ≡ get_or es 1 e
    → p ≡ is_clock_pair s clocks (event_of c) (event_of e) → q ≡ is_clock_pair s clocks (event_of e) (event_of c) → r ≡ (p || q) → r ≡ is_clock_list s clocks (events_list es)
two-listed s clocks [] c e p q r l i j f g h = absurd (omega (arith, l))
two-listed s clocks (a ∷ []) c e p q r l i j f g h = absurd (omega (arith, l))
two-listed s clocks (a ∷ b ∷ []) c e p q r l i j f g h =
    h ∙ ap (λ t. t || q) (f ∙ ap (λ y. is_clock_pair s clocks (event_of y) (event_of e)) i ∙ ap (λ y. is_clock_pair s clocks (event_of a) (event_of y)) j)
    ∙ ap (λ t. is_clock_pair s clocks (event_of a) (event_of b) || t) (g ∙ ap (λ y. is_clock_pair s clocks (event_of y) (event_of c)) j ∙ ap (λ y. is_clock_pair s clocks (event_of b) (event_of y)) i)
two-listed s clocks (a ∷ b ∷ d ∷ es) c e p q r l i j f g h = absurd (omega (arith, l))
