-- A name leads to a clock net exactly where a clock of the design is named.
use Rattle.std.proofs.Common.{◌≡◌, ◌∙◌, ℕ, ◌<◌, Bool, true, false, ◌||◌, inl, inr, refl, ap, subst, List, [], ◌∷◌, length, Option, Some, None, arith}
use Rattle.std.specs.Prelude.{◌↔◌, slice_get, Contains, IsTrue}
use Rattle.std.specs.List.{list_any}
use Rattle.std.proofs.lemmas.Bool.{false≢true, or_left, or_right}
use Rattle.wb_values.specs.Value.{Name}
use Rattle.verilog_trees.specs.Syntax.{Expression, input}
use Rattle.verilog_meaning.specs.Hierarchy.{PathStep, instance_step, Placed, dotted}
use Rattle.verilog_meaning.specs.Settled.{Design, at_path, IsPlacedIn, IsDeclared}
use Rattle.verilog_designs.specs.Names.{names_in}
use Rattle.verilog_designs.specs.Clocks.{IsClockNet, at_top, at_input}
use Rattle.verilog_unique.proofs.Descent.{IsAmong, contains_among, among_contains}
use Rattle.verilog_unique.proofs.Paths.{placed_in}
use Rattle.verilog_unique.proofs.Ports.{port_is_declared}
use Rattle.verilog_exists.proofs.Spots.{plain_declared, plain_path}
use Rattle.verilog_exists.proofs.Dots.{ArePlainSteps}
use Rattle.refinement.specs.Map.{dotted_parts}
use Rattle.map_rules.specs.Expressions.{NamesClock}
use Rattle.v_places.specs.Below.{Spot}
use Rattle.v_places.specs.Places.{placed_by, IsPlaceAt}
use Rattle.v_places.proofs.Spots.{get_within, within_get}
use Rattle.map_paths.specs.Located.{Below, located}
use Rattle.map_paths.specs.Laws.{HasNoDot, HaveNoDots}
use Rattle.map_paths.proofs.Leads.{names_are_dotted, dotted_are_located}
use Rattle.map_clocks.specs.Clocked.{is_in, is_net_where, is_clock_named, HasClockNets}

-- ---- which name it is

record Led (below : Below) (nets : List (Name → Bool)) (n : Name) : Type 0 where
  number : ℕ
  own : Name
  set : Name → Bool
  leads : located below 0 (dotted_parts n) ≡ Some (number, own)
  is_set : slice_get nets number ≡ Some set
  has : set own ≡ true

led : (below : Below) (nets : List (Name → Bool)) (n : Name) → is_clock_named below nets n ≡ true → Led below nets n
led below nets n h = by (located below 0 (dotted_parts n)) refl h where
  with_set : (k : ℕ) (own : Name) → located below 0 (dotted_parts n) ≡ Some (k, own) → (o : Option (Name → Bool)) → slice_get nets k ≡ o → is_in o own ≡ true
      → Led below nets n
  with_set k own e None g t = absurd (false≢true t)
  with_set k own e (Some set) g t = record { number = k; own = own; set = set; leads = e; is_set = g; has = t }

  by : (o : Option (ℕ × Name)) → located below 0 (dotted_parts n) ≡ o → is_net_where nets o ≡ true → Led below nets n
  by None e t = absurd (false≢true t)
  by (Some p) e t = with_set p.0 p.1 e (slice_get nets p.0) refl t

one_led : (P : Name → Bool) (ns : List Name) → list_any P ns ≡ true → (n : Name) × IsAmong ns n × (P n ≡ true)
one_led P [] h = absurd (false≢true h)
one_led P (n ∷ ns) h = by (P n) refl h (λ k. one_led P ns k) where
  by : (b : Bool) → P n ≡ b → (b || list_any P ns) ≡ true → (list_any P ns ≡ true → (m : Name) × IsAmong ns m × (P m ≡ true))
      → (m : Name) × IsAmong (n ∷ ns) m × (P m ≡ true)
  by true e t next = (n, inl refl, e)
  by false e t next = let r = next t in (r.0, inr r.1, r.2)

any_led : (P : Name → Bool) (ns : List Name) (n : Name) → IsAmong ns n → P n ≡ true → list_any P ns ≡ true
any_led P [] n h t = absurd h
any_led P (m ∷ ns) n (inl e) t = or_left (P m) (list_any P ns) (ap P e ∙ t)
any_led P (m ∷ ns) n (inr h) t = or_right (P m) (list_any P ns) (any_led P ns n h t)

-- ---- clock nets

net_placed : (d : Design) (p : Placed) (n : Name) → IsClockNet d p n → IsPlacedIn d p
net_placed d _ _ (at_top p at e) = at
net_placed d _ _ (at_input around below c m n net stands is_to whole) = placed_in d (instance_step c.of_instance ∷ around.path) below is_to.is_below

no_dot : (n : Name) → (IsAmong n 46 → ⊥) → HasNoDot n
no_dot n plain c = plain (among_contains n 46 c)

no_dots : (path : List PathStep) → ArePlainSteps path → HaveNoDots path
no_dots [] h = tt
no_dots (u ∷ around) h = (no_dot u.of_name h.1, no_dots around h.2)

module _ (d : Design) (spots : List Spot) (below : Below) (nets : List (Name → Bool)) (c : HasClockNets d spots below nets) where
  net_declared : (p : Placed) (n : Name) → IsClockNet d p n → IsDeclared p n
  net_declared _ _ (at_top p at e) = port_is_declared p d.clock input (c.clock p (subst (λ q. at_path d q ≡ Some p) e at))
  net_declared _ _ (at_input around inner k m n net stands is_to whole) = port_is_declared inner n input is_to.is_port

  there : (e : Expression) → list_any (is_clock_named below nets) (names_in e) ≡ true → NamesClock d e
  there e h =
      let one = one_led (is_clock_named below nets) (names_in e) h in
      let l : Led below nets one.0 = led below nets one.0 one.2 in
      let to = names_are_dotted spots below c.are_below one.0 l.own l.number l.leads in
      let within : l.number < length nets = get_within nets l.number l.set l.is_set in
      let spot = within_get spots l.number (omega (arith, within, c.are_nets.as_many)) in
      let place : IsPlaceAt spots l.number to.0 (placed_by to.0 spot.0) = record { stands = to.1; spot = spot.0; is_spot = spot.1; is_placed = refl } in
      record {
        within = placed_by to.0 spot.0;
        net = l.own;
        is_clock = (c.are_nets.each l.number to.0 (placed_by to.0 spot.0) l.set place l.is_set l.own).0 l.has;
        is_named = subst (Contains (names_in e)) to.2 (contains_among (names_in e) one.0 one.1);
      }

  back : (e : Expression) → NamesClock d e → list_any (is_clock_named below nets) (names_in e) ≡ true
  back e h =
      let p : Placed = h.within in
      let at : IsPlacedIn d p = net_placed d p h.net h.is_clock in
      let f = c.standing.number p at in
      let plain : HasNoDot h.net = no_dot h.net (plain_declared d c.no_dots p h.net at (net_declared p h.net h.is_clock)) in
      let path : HaveNoDots p.path = no_dots p.path (plain_path d c.no_dots p.path p at) in
      let leads : located below 0 (dotted_parts (dotted p.path h.net)) ≡ Some (f.0, h.net)
      = dotted_are_located d spots below c.standing c.are_below f.0 p.path h.net f.1.stands path plain in
      let within : f.0 < length spots = get_within spots f.0 f.1.spot f.1.is_spot in
      let set = within_get nets f.0 (omega (arith, within, c.are_nets.as_many)) in
      let has : set.0 h.net ≡ true = (c.are_nets.each f.0 p.path p set.0 f.1 set.1 h.net).1 h.is_clock in
      let is_clock : is_clock_named below nets (dotted p.path h.net) ≡ true
      = ap (is_net_where nets) leads ∙ (ap (λ o. is_in o h.net) set.1 ∙ has) in
      any_led (is_clock_named below nets) (names_in e) (dotted p.path h.net) (among_contains (names_in e) (dotted p.path h.net) h.is_named) is_clock

  pub clocks_are_named : (e : Expression) → IsTrue (list_any (is_clock_named below nets) (names_in e)) ↔ NamesClock d e
  clocks_are_named e = (there e, back e)
