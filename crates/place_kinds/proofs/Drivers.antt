-- The rule on drivers, place by place.
use Rattle.std.proofs.Common.{◌≡◌, ◌∙◌, ℕ, suc, ◌<◌, refl, ap, sym, subst, Bool, true, false, not, cond, List, [], ◌∷◌, ◌++◌, ◌⊎◌, inl, inr, Option, Some, None, option_map, is_some, Contains, append_assoc}
use Rattle.std.specs.Prelude.{◌||◌, slice_get, IsTrue}
use Rattle.std.specs.List.{list_any}
use Rattle.std.proofs.lemmas.Bool.{false≢true, or_left, or_right}
use Rattle.std.proofs.lemmas.List.{map-append}
use mathlib.Core.Path.{fun_ext}
use Rattle.wb_values.specs.Value.{Name, entry_of}
use Rattle.verilog_trees.specs.Syntax.{Expression, Target, Statement, Direction, input, output, Item, Module}
use Rattle.verilog_meaning.specs.Expression.{Scope, scope_of}
use Rattle.verilog_meaning.specs.Register.{clocked_blocks, combinational_blocks}
use Rattle.verilog_meaning.specs.Hierarchy.{Declaration, declarations, declaration_of, instance_step, Placed, placed_scope}
use Rattle.verilog_meaning.specs.Settled.{Design, at_path, IsPlacedIn, assignments, as_target, Connection, port_meant, port_directions, port_connections}
use Rattle.verilog_designs.specs.Expressions.{by_constants}
use Rattle.verilog_designs.specs.Reads.{BitSet}
use Rattle.verilog_designs.specs.Ports.{is_output, port_direction}
use Rattle.verilog_designs.specs.Drivers.{target_names, assigned_names, is_declared_reg, is_declared_input, IsOutputTarget, HasBadDriver}
use Rattle.verilog_unique.proofs.Descent.{IsAmong, among_left, among_right, among_either, contains_among, among_contains}
use Rattle.v_value.specs.Narrow.{HasNarrowObjects}
use Rattle.v_flow.specs.Narrow.{HasNarrowParts}
use Rattle.v_sound.proofs.Within.{net-target-narrow}
use Rattle.v_scopes.specs.Rows.{row}
use Rattle.v_scopes.specs.Scopes.{declared_in}
use Rattle.v_drivers.specs.Premises.{HaveNarrowTargets, AreNarrowBlocks, AreNarrowItems}
use Rattle.v_drivers.specs.Sets.{target_drivers, assignments_drivers, blocks_drivers, drivers, TwoMeet}
use Rattle.v_assigned.specs.Names.{is_variable_row, is_input_row, is_wrong}
use Rattle.v_assigned.specs.Assigned.{one_link_assigns, one_block_assigns}
use Rattle.v_assigned.proofs.OneModule.{input-so, row-so}
use Rattle.v_undriven.proofs.Listing.{either}
use Rattle.flat_rules.proofs.Drivers.{output_unbroken}
use Rattle.driver_places.specs.Two.{target_below, output_target, drivers_if_any, outputs_drivers, own_drivers, HasBadName, HasBadPlace}
use Rattle.driver_places.proofs.Two.{target_is, is_target, bad_drivers_are_in_places}
use Rattle.v_places.specs.Below.{Spot}
use Rattle.v_flat.specs.Links.{from_port, port_link, meant_link}
use Rattle.v_flat.specs.Outputs.{same_names, with_outputs}
use Rattle.v_flat.specs.Reordered.{AreReordered}
use Rattle.v_flat.specs.Drivers.{output_link, output_links, HasAllDrivers, AreAllDrivers}
use Rattle.v_flat.proofs.Unchanged.{target_same}
use Rattle.v_flat.proofs.Reordering.{all_of, behind_same}
use Rattle.v_flat.proofs.Children.{lists_have_all_drivers}
use Rattle.v_places.proofs.Spots.{get_within, within_get}
use Rattle.place_kinds.specs.Places.{SomeWith, IsDrivenSpot, AreDrivenSpots, may_not_assign, assigns_bad_name, HasBadDriverAt}
use Rattle.place_kinds.specs.Known.{HasSoundPlaces}
use Rattle.place_kinds.specs.Drivers.{one_target, output_targets, targets_of, IsAllDriven, AreAllDriven, ListsAreAllDriven, DrivenPlacesAreReady, BadDriversAreAtPlaces, BadNamesAreFound}
use Rattle.place_kinds.proofs.Reordered.{turned_order, before_same, among_reordered, map_reordered, all_reordered, two_reordered}
use Rattle.place_kinds.proofs.Known.{one_passes, passing}
use Rattle.place_kinds.proofs.Places.{some_with, WithAt, with_some, get_contains, contains_get, OfNumber, of_number, at_number}
use Rattle.place_kinds.proofs.Blocks.{placed_narrow, placed_fit, to_spot, of_spot}

-- ---- lists of targets

target_among : (links : List (Target × Expression)) (t : Target) → IsAmong (targets_of links) t → (a : Target × Expression) × IsAmong links a × (a.0 ≡ t)
target_among [] t h = absurd h
target_among (a ∷ links) t (inl e) = (a, inl refl, e)
target_among (a ∷ links) t (inr h) = let r = target_among links t h in (r.0, inr r.1, r.2)

among_targets : (links : List (Target × Expression)) (a : Target × Expression) → IsAmong links a → IsAmong (targets_of links) a.0
among_targets [] a h = absurd h
among_targets (b ∷ links) a (inl e) = inl (ap (λ (z : Target × Expression). z.0) e)
among_targets (b ∷ links) a (inr h) = inr (among_targets links a h)

one_among : (o : Option Target) (t : Target) → IsAmong (one_target o) t → o ≡ Some t
one_among None t h = absurd h
one_among (Some u) t (inl e) = ap Some e
one_among (Some u) t (inr h) = absurd h

among_one : (o : Option Target) (t : Target) → o ≡ Some t → IsAmong (one_target o) t
among_one None t e = cc
among_one (Some u) t e = inl cc

module _ (d : Design) (p : Placed) where
  outputs_from : (cs : List Connection) (t : Target) → IsAmong (output_targets d p cs) t → (c : Connection) × IsAmong cs c × (output_target d p c ≡ Some t)
  outputs_from [] t h = absurd h
  outputs_from (c ∷ cs) t h =
      elim (among_either (one_target (output_target d p c)) (output_targets d p cs) t h)
      as (λ _. (x : Connection) × IsAmong (c ∷ cs) x × (output_target d p x ≡ Some t)) [
        | inl k ↦ (c, inl refl, one_among (output_target d p c) t k)
        | inr k ↦ let r = outputs_from cs t k in (r.0, inr r.1, r.2)
      ]

  from_outputs : (cs : List Connection) (c : Connection) (t : Target) → IsAmong cs c → output_target d p c ≡ Some t → IsAmong (output_targets d p cs) t
  from_outputs [] c t h e = absurd h
  from_outputs (b ∷ cs) c t (inl g) e =
      among_left (one_target (output_target d p b)) (output_targets d p cs) t
      (among_one (output_target d p b) t (subst (λ (z : Connection). output_target d p z ≡ Some t) (sym g) e))
  from_outputs (b ∷ cs) c t (inr h) e = among_right (one_target (output_target d p b)) (output_targets d p cs) t (from_outputs cs c t h e)

-- ---- sets of bits

module _ (s : Scope) where
  abbrev targets_drivers_of : List Target → List BitSet
  targets_drivers_of ts = all_of (target_drivers s) ts

  links_by_targets : (links : List (Target × Expression)) → assignments_drivers s links ≡ targets_drivers_of (targets_of links)
  links_by_targets [] = refl
  links_by_targets (a ∷ links) = ap (λ z. target_drivers s a.0 ++ z) (links_by_targets links)

  links_append : (xs ys : List (Target × Expression)) → assignments_drivers s (xs ++ ys) ≡ assignments_drivers s xs ++ assignments_drivers s ys
  links_append [] ys = refl
  links_append (x ∷ xs) ys =
      ap (λ z. target_drivers s x.0 ++ z) (links_append xs ys) ∙ sym (append_assoc (target_drivers s x.0) (assignments_drivers s xs) (assignments_drivers s ys))

  outputs_by_targets : (d : Design) (p : Placed) (cs : List Connection) → outputs_drivers d p s cs ≡ targets_drivers_of (output_targets d p cs)
  outputs_by_targets d p [] = refl
  outputs_by_targets d p (c ∷ cs) = one (output_target d p c) (outputs_by_targets d p cs)
    where
      one : (o : Option Target) → outputs_drivers d p s cs ≡ targets_drivers_of (output_targets d p cs)
          → drivers_if_any s o ++ outputs_drivers d p s cs ≡ targets_drivers_of (one_target o ++ output_targets d p cs)
      one None e = e
      one (Some t) e = ap (λ z. target_drivers s t ++ z) e

-- ---- names that are assigned

names_hit : (q : Name → Bool) (ns : List Name) (n : Name) → Contains ns n → q n ≡ true → list_any q ns ≡ true
names_hit q ns n c h = let f = contains_get ns n c in one_passes q ns f.0 n f.1 h

links_hit : (q : Name → Bool) (links : List (Target × Expression)) (a : Target × Expression) → IsAmong links a → list_any q (target_names a.0) ≡ true
    → one_link_assigns q links ≡ true
links_hit q [] a h t = absurd h
links_hit q (b ∷ links) a (inl e) t =
    or_left (list_any q (target_names b.0)) (one_link_assigns q links) (subst (λ (z : Target × Expression). list_any q (target_names z.0) ≡ true) (sym e) t)
links_hit q (b ∷ links) a (inr h) t = or_right (list_any q (target_names b.0)) (one_link_assigns q links) (links_hit q links a h t)

hit_links : (q : Name → Bool) (links : List (Target × Expression)) → one_link_assigns q links ≡ true
    → (a : Target × Expression) × IsAmong links a × (list_any q (target_names a.0) ≡ true)
hit_links q [] t = absurd (false≢true t)
hit_links q (b ∷ links) t =
    either (list_any q (target_names b.0)) (one_link_assigns q links) t (λ h. (b, inl refl, h)) (λ h. let r = hit_links q links h in (r.0, inr r.1, r.2))

blocks_hit : (q : Name → Bool) (xs : List Statement) (x : Statement) → IsAmong xs x → list_any q (assigned_names x) ≡ true → one_block_assigns q xs ≡ true
blocks_hit q [] x h t = absurd h
blocks_hit q (y ∷ xs) x (inl e) t = or_left (list_any q (assigned_names y)) (one_block_assigns q xs) (subst (λ (z : Statement). list_any q (assigned_names z) ≡ true) (sym e) t)
blocks_hit q (y ∷ xs) x (inr h) t = or_right (list_any q (assigned_names y)) (one_block_assigns q xs) (blocks_hit q xs x h t)

hit_blocks : (q : Name → Bool) (xs : List Statement) → one_block_assigns q xs ≡ true → (x : Statement) × IsAmong xs x × (list_any q (assigned_names x) ≡ true)
hit_blocks q [] t = absurd (false≢true t)
hit_blocks q (y ∷ xs) t =
    either (list_any q (assigned_names y)) (one_block_assigns q xs) t (λ h. (y, inl refl, h)) (λ h. let r = hit_blocks q xs h in (r.0, inr r.1, r.2))

-- ---- one module

module _ (d : Design) (p : Placed) (items : List Item) (all : IsAllDriven d p items) where
  same_drivers : AreReordered BitSet (drivers (placed_scope p) items) (own_drivers d p)
  same_drivers =
      let s : Scope = placed_scope p in
      let own : List (Target × Expression) = assignments p.of_module.items in
      let blocks : List BitSet = blocks_drivers s (clocked_blocks p.of_module.items) ++ blocks_drivers s (combinational_blocks p.of_module.items) in
      let outs : List BitSet = outputs_drivers d p s (port_connections p.of_module.items) in
      let parts : drivers s items ≡ (assignments_drivers s own ++ targets_drivers_of s (targets_of all.outputs)) ++ blocks =
      ap (λ z. assignments_drivers s z ++ (blocks_drivers s (clocked_blocks items) ++ blocks_drivers s (combinational_blocks items))) all.links
      ∙ ap (λ z. assignments_drivers s (own ++ all.outputs) ++ (blocks_drivers s z ++ blocks_drivers s (combinational_blocks items))) all.clocked
      ∙ ap (λ z. assignments_drivers s (own ++ all.outputs) ++ (blocks_drivers s (clocked_blocks p.of_module.items) ++ blocks_drivers s z)) all.combinational
      ∙ ap (λ z. z ++ blocks) (links_append s own all.outputs)
      ∙ ap (λ z. (assignments_drivers s own ++ z) ++ blocks) (links_by_targets s all.outputs) in
      let sets : AreReordered BitSet (targets_drivers_of s (targets_of all.outputs)) outs =
      subst (AreReordered BitSet (targets_drivers_of s (targets_of all.outputs))) (sym (outputs_by_targets s d p (port_connections p.of_module.items)))
      (all_reordered (target_drivers s) (targets_of all.outputs) (output_targets d p (port_connections p.of_module.items)) all.targets) in
      subst (λ zs. AreReordered BitSet zs (own_drivers d p)) (sym parts)
      (subst (AreReordered BitSet ((assignments_drivers s own ++ targets_drivers_of s (targets_of all.outputs)) ++ blocks))
      (append_assoc (assignments_drivers s own) outs blocks)
      (before_same blocks (assignments_drivers s own ++ targets_drivers_of s (targets_of all.outputs)) (assignments_drivers s own ++ outs)
      (behind_same (assignments_drivers s own) (targets_drivers_of s (targets_of all.outputs)) outs sets)))

  abbrev in_link : Name → Bool
  in_link = may_not_assign p.of_module (placed_scope p) false

  abbrev in_block : Name → Bool
  in_block = may_not_assign p.of_module (placed_scope p) true

  abbrev by_links : Bool
  by_links = one_link_assigns in_link (assignments items)

  abbrev by_clocked : Bool
  by_clocked = one_block_assigns in_block (clocked_blocks items)

  abbrev by_others : Bool
  by_others = one_block_assigns in_block (combinational_blocks items)

  link_is_bad : (a : Target × Expression) (n : Name) → IsAmong (assignments items) a → Contains (target_names a.0) n → in_link n ≡ true
      → IsTrue (assigns_bad_name p.of_module (placed_scope p) items)
  link_is_bad a n i c t = or_left by_links (by_clocked || by_others) (links_hit in_link (assignments items) a i (names_hit in_link (target_names a.0) n c t))

  bad_name_there : HasBadName d p → IsTrue (assigns_bad_name p.of_module (placed_scope p) items)
  bad_name_there (HasBadName.in_clocked x n c k t) =
      or_right by_links (by_clocked || by_others)
      (or_left by_clocked by_others
      (blocks_hit in_block (clocked_blocks items) x (subst (λ xs. IsAmong xs x) (sym all.clocked) (among_contains (clocked_blocks p.of_module.items) x c))
      (names_hit in_block (assigned_names x) n k t)))
  bad_name_there (HasBadName.in_combinational x n c k t) =
      or_right by_links (by_clocked || by_others)
      (or_right by_clocked by_others
      (blocks_hit in_block (combinational_blocks items) x
      (subst (λ xs. IsAmong xs x) (sym all.combinational) (among_contains (combinational_blocks p.of_module.items) x c)) (names_hit in_block (assigned_names x) n k t)))
  bad_name_there (HasBadName.by_assignment a n c k t) =
      link_is_bad a n
      (subst (λ xs. IsAmong xs a) (sym all.links) (among_left (assignments p.of_module.items) all.outputs a (among_contains (assignments p.of_module.items) a c))) k t
  bad_name_there (HasBadName.by_output c t n stands is k bad) =
      let i : IsAmong (output_targets d p (port_connections p.of_module.items)) t =
      from_outputs d p (port_connections p.of_module.items) c t (among_contains (port_connections p.of_module.items) c stands) (is_target d p c t is) in
      let r = target_among all.outputs t (among_reordered (output_targets d p (port_connections p.of_module.items)) (targets_of all.outputs) (turned_order (targets_of all.outputs) (output_targets d p (port_connections p.of_module.items)) all.targets) t i) in
      link_is_bad r.0 n (subst (λ xs. IsAmong xs r.0) (sym all.links) (among_right (assignments p.of_module.items) all.outputs r.0 r.1))
      (subst (λ z. Contains (target_names z) n) (sym r.2) k) bad

  bad_link : (a : Target × Expression) → IsAmong (assignments p.of_module.items ++ all.outputs) a → (n : Name) → Contains (target_names a.0) n → in_link n ≡ true → HasBadName d p
  bad_link a i n c t =
      elim (among_either (assignments p.of_module.items) all.outputs a i) as (λ _. HasBadName d p) [
        | inl k ↦ HasBadName.by_assignment a n (contains_among (assignments p.of_module.items) a k) c t
        | inr k ↦
            let r = outputs_from d p (port_connections p.of_module.items) a.0 (among_reordered (targets_of all.outputs) (output_targets d p (port_connections p.of_module.items)) all.targets a.0 (among_targets all.outputs a k)) in
            HasBadName.by_output r.0 a.0 n (contains_among (port_connections p.of_module.items) r.0 r.1) (target_is d p r.0 a.0 r.2) c t
      ]

  there_bad_name : IsTrue (assigns_bad_name p.of_module (placed_scope p) items) → HasBadName d p
  there_bad_name t =
      either by_links (by_clocked || by_others) t
      (λ h.
      let r = hit_links in_link (assignments items) h in
      let q = passing in_link (target_names r.0.0) r.2 in
      bad_link r.0 (subst (λ xs. IsAmong xs r.0) all.links r.1) q.1 (get_contains (target_names r.0.0) q.0 q.1 q.2) q.3)
      (λ g. either by_clocked by_others g
      (λ h.
      let r = hit_blocks in_block (clocked_blocks items) h in
      let q = passing in_block (assigned_names r.0) r.2 in
      HasBadName.in_clocked r.0 q.1
      (contains_among (clocked_blocks p.of_module.items) r.0 (subst (λ xs. IsAmong xs r.0) all.clocked r.1))
      (get_contains (assigned_names r.0) q.0 q.1 q.2) q.3)
      (λ h.
      let r = hit_blocks in_block (combinational_blocks items) h in
      let q = passing in_block (assigned_names r.0) r.2 in
      HasBadName.in_combinational r.0 q.1
      (contains_among (combinational_blocks p.of_module.items) r.0 (subst (λ xs. IsAmong xs r.0) all.combinational r.1))
      (get_contains (assigned_names r.0) q.0 q.1 q.2) q.3))

  -- ---- what is asked of the items

  module _ (spots : List Spot) (h : HasSoundPlaces d spots) (at : IsPlacedIn d p) where
    narrow_append : (xs ys : List (Target × Expression)) → HaveNarrowTargets (placed_scope p) xs → HaveNarrowTargets (placed_scope p) ys
        → HaveNarrowTargets (placed_scope p) (xs ++ ys)
    narrow_append [] ys f g = g
    narrow_append (x ∷ xs) ys f g = (f.0, narrow_append xs ys f.1 g)

    each_narrow : (links : List (Target × Expression)) → ((a : Target × Expression) → IsAmong links a → HasNarrowParts (placed_scope p) a.0)
        → HaveNarrowTargets (placed_scope p) links
    each_narrow [] f = tt
    each_narrow (a ∷ links) f = (f a (inl refl), each_narrow links (λ b i. f b (inr i)))

    output_narrow : (a : Target × Expression) → IsAmong all.outputs a → HasNarrowParts (placed_scope p) a.0
    output_narrow a i =
        let r = outputs_from d p (port_connections p.of_module.items) a.0 (among_reordered (targets_of all.outputs) (output_targets d p (port_connections p.of_module.items)) all.targets a.0 (among_targets all.outputs a i)) in
        let to : IsOutputTarget d p r.0 a.0 = target_is d p r.0 a.0 r.2 in
        (net-target-narrow (placed_scope p) by_constants a.0 (placed_narrow d spots h p at)
        (output_unbroken d h.sound p at r.0 to.below to.port a.0 r.1 to.is_output to.is_target)).0

    narrow_items : AreNarrowItems (placed_scope p) items
    narrow_items =
        let own : AreNarrowItems (placed_scope p) p.of_module.items = (placed_fit d spots h p at).for_drivers in
        record {
          targets = subst (HaveNarrowTargets (placed_scope p)) (sym all.links)
              (narrow_append (assignments p.of_module.items) all.outputs own.targets (each_narrow all.outputs output_narrow));
          clocked = subst (AreNarrowBlocks (placed_scope p)) (sym all.clocked) own.clocked;
          combinational = subst (AreNarrowBlocks (placed_scope p)) (sym all.combinational) own.combinational;
        }

-- ---- all modules

driven_by : (lists : List (List Item)) (xs : List Spot)
    → ((k : ℕ) (items : List Item) (x : Spot) → slice_get lists k ≡ Some items → slice_get xs k ≡ Some x → IsDrivenSpot items x) → AreDrivenSpots lists xs
driven_by [] xs f = tt
driven_by (items ∷ lists) [] f = tt
driven_by (items ∷ lists) (x ∷ xs) f = (f 0 items x refl refl, driven_by lists xs (λ k own y e g. f (suc k) own y e g))

module _ (d : Design) (spots : List Spot) (lists : List (List Item)) (h : HasSoundPlaces d spots) (driven : AreAllDriven d spots lists) where
  pub are_ready : AreDrivenSpots lists spots
  are_ready =
      driven_by lists spots
      (λ k items x e g.
      let f : OfNumber d spots k x = of_number d spots h k x g in
      let all : IsAllDriven d f.place items = driven.each k f.place.path f.place items e f.is_place in
      subst (λ (s : Scope). HasNarrowObjects s × AreNarrowItems s items) (sym f.scope)
      (placed_narrow d spots h f.place f.stands, narrow_items d f.place items all spots h f.stands))

  abbrev BadIn : List Item → Scope → Module → Type 0
  BadIn items s m = TwoMeet s (drivers s items) ⊎ IsTrue (assigns_bad_name m s items)

  pub bad_there : SomeWith HasBadDriverAt lists spots → HasBadDriver d
  bad_there w =
      let r : WithAt HasBadDriverAt lists spots = with_some HasBadDriverAt lists spots w in
      let f = of_number d spots h r.number r.spot r.is_spot in
      let all : IsAllDriven d f.place r.beside = driven.each r.number f.place.path f.place r.beside r.is_beside f.is_place in
      let bad : BadIn r.beside (placed_scope f.place) f.place.of_module = of_spot d spots h (BadIn r.beside) r.number r.spot f r.is_so in
      (bad_drivers_are_in_places d).1
      (record {
        place = f.place;
        is_placed = f.stands;
        is_bad = elim bad as (λ _. HasBadName d f.place ⊎ TwoMeet (placed_scope f.place) (own_drivers d f.place)) [
          | inl t ↦ inr (two_reordered (placed_scope f.place) (drivers (placed_scope f.place) r.beside) (own_drivers d f.place) (same_drivers d f.place r.beside all) t)
          | inr t ↦ inl (there_bad_name d f.place r.beside all t)
        ];
      })

  pub bad_back : HasBadDriver d → SomeWith HasBadDriverAt lists spots
  bad_back b =
      let g : HasBadPlace d = (bad_drivers_are_in_places d).0 b in
      let f = at_number d spots h g.place g.is_placed in
      let within = get_within spots f.number f.spot f.is_spot in
      let own = within_get lists f.number (subst (λ n. f.number < n) (sym driven.as_many) within) in
      let all : IsAllDriven d g.place own.0 = driven.each f.number g.place.path g.place own.0 own.1 f.is_place in
      let bad : BadIn own.0 (placed_scope g.place) g.place.of_module =
      elim g.is_bad as (λ _. BadIn own.0 (placed_scope g.place) g.place.of_module) [
        | inl t ↦ inr (bad_name_there d g.place own.0 all t)
        | inr t ↦ inl (two_reordered (placed_scope g.place) (own_drivers d g.place) (drivers (placed_scope g.place) own.0) (turned_order (drivers (placed_scope g.place) own.0) (own_drivers d g.place) (same_drivers d g.place own.0 all)) t)
      ] in
      some_with HasBadDriverAt lists spots f.number own.0 f.spot own.1 f.is_spot (to_spot d spots h (BadIn own.0) g.place f bad)

-- ---- the lists with outputs

targets_append : (xs ys : List (Target × Expression)) → targets_of (xs ++ ys) ≡ targets_of xs ++ targets_of ys
targets_append xs ys = map-append (λ (a : Target × Expression). a.0) xs ys

port_target : (m : Module) (n : Name) (e : Expression) (x : Option Direction) → targets_of (port_link output same_names same_names n e x) ≡ one_target (cond (is_output x) (as_target e) None)
port_target m n e None = refl
port_target m n e (Some input) = refl
port_target m n e (Some output) = by_target (as_target e)
  where
    by_target : (o : Option Target) → targets_of (from_port same_names same_names n o) ≡ one_target o
    by_target None = refl
    by_target (Some t) = ap (λ z. z ∷ []) (target_same t)

meant_target : (m : Module) (e : Expression) (o : Option Name)
    → targets_of (meant_link output same_names same_names m e o) ≡ one_target (cond (is_output (port_direction m o)) (as_target e) None)
meant_target m e None = refl
meant_target m e (Some n) = port_target m n e (entry_of (port_directions m) n)

link_target : (o : Option Placed) (c : Connection) → targets_of (output_link o c) ≡ one_target (target_below o c)
link_target None c = refl
link_target (Some below) c = meant_target below.of_module c.expression (port_meant below.of_module c.to_port)

links_targets : (d : Design) (p : Placed) (cs : List Connection) → targets_of (output_links d p cs) ≡ output_targets d p cs
links_targets d p [] = refl
links_targets d p (c ∷ cs) =
    targets_append (output_link (at_path d (instance_step c.of_instance ∷ p.path)) c) (output_links d p cs)
    ∙ (λ i. link_target (at_path d (instance_step c.of_instance ∷ p.path)) c i ++ links_targets d p cs i)

pub all_driven : (d : Design) (spots : List Spot) (lists : List (List Item)) → AreAllDrivers d spots lists → AreAllDriven d spots lists
all_driven d spots lists h =
    record {
      as_many = h.as_many;
      each = λ k path p items e i. (
          let a : HasAllDrivers d p items = h.each k path p items i e in
          record {
            outputs = a.outputs;
            links = a.assigned;
            targets = subst (AreReordered Target (targets_of a.outputs)) (links_targets d p (port_connections p.of_module.items))
                (map_reordered (λ (z : Target × Expression). z.0) a.outputs (output_links d p (port_connections p.of_module.items)) a.are_outputs);
            clocked = a.clocked;
            combinational = a.combinational;
          }
          );
    }

pub lists_are_all_driven : ListsAreAllDriven
lists_are_all_driven d spots h = all_driven d spots (with_outputs spots) (lists_have_all_drivers d spots h)

pub driven_places_are_ready : DrivenPlacesAreReady
driven_places_are_ready d spots lists h driven = are_ready d spots lists h driven

pub bad_drivers_are_at_places : BadDriversAreAtPlaces
bad_drivers_are_at_places d spots lists h driven = (bad_there d spots lists h driven, bad_back d spots lists h driven)

-- ---- names that are found

or_assoc : (a b c : Bool) → ((a || b) || c) ≡ (a || (b || c))
or_assoc true b c = refl
or_assoc false b c = refl

variable_row : (t : Scope) (o : Option Declaration) → is_variable_row (option_map (row t) o) ≡ is_declared_reg o
variable_row t None = refl
variable_row t (Some x) = refl

pub bad_names_are_found : BadNamesAreFound
bad_names_are_found m s names items known =
    λ i. one_link_assigns (fun_ext (same false) i) (assignments items) || (one_block_assigns (fun_ext (same true) i) (clocked_blocks items) || one_block_assigns (fun_ext (same true) i) (combinational_blocks items))
  where
    rows_so : (n : Name) → declared_in names n ≡ option_map (row (scope_of known.0)) (declaration_of (declarations m) n)
    rows_so n = row-so (record { path = []; of_module = m; constants = [] }) names known n

    variables_so : (n : Name) → is_variable_row (declared_in names n) ≡ is_declared_reg (declaration_of (declarations m) n)
    variables_so n = ap is_variable_row (rows_so n) ∙ variable_row (scope_of known.0) (declaration_of (declarations m) n)

    inputs_so : (n : Name) → is_input_row (declared_in names n) ≡ is_declared_input (declaration_of (declarations m) n)
    inputs_so n = ap is_input_row (rows_so n) ∙ input-so (scope_of known.0) (declaration_of (declarations m) n)

    same : (b : Bool) (n : Name) → is_wrong names s b n ≡ may_not_assign m s b n
    same true n =
        or_assoc (not (is_variable_row (declared_in names n))) (is_input_row (declared_in names n)) (is_some (s n).constant)
        ∙ ap (λ t. not t || (is_input_row (declared_in names n) || is_some (s n).constant)) (variables_so n)
        ∙ ap (λ t. not (is_declared_reg (declaration_of (declarations m) n)) || (t || is_some (s n).constant)) (inputs_so n)
    same false n =
        or_assoc (is_variable_row (declared_in names n)) (is_input_row (declared_in names n)) (is_some (s n).constant)
        ∙ ap (λ t. t || (is_input_row (declared_in names n) || is_some (s n).constant)) (variables_so n)
        ∙ ap (λ t. is_declared_reg (declaration_of (declarations m) n) || (t || is_some (s n).constant)) (inputs_so n)
