-- Two drivers of a module with instances are two sets of the list of its drivers that meet.
use Rattle.std.proofs.Common.{◌≡◌, ◌∙◌, ℕ, zero, suc, ◌+◌, ◌≤◌, refl, ap, sym, subst, arith, Bool, true, false, cond, Option, Some, None, inl, inr, List, [], ◌∷◌, ◌++◌}
use Rattle.std.specs.Prelude.{◌⊎◌, map, slice_get, is_some, unwrap_or}
use Rattle.std.proofs.lemmas.Bool.{false≢true, and_parts, and_from}
use Rattle.std.proofs.lemmas.List.{map-append}
use Rattle.wb_values.specs.Value.{Name, entry_of}
use Rattle.verilog_trees.specs.Syntax.{Expression, Target, Statement, Direction, input, output}
use Rattle.verilog_meaning.specs.Expression.{Scope}
use Rattle.verilog_meaning.specs.Register.{is_bit_of, may_reach, may_assign, clocked_blocks, combinational_blocks}
use Rattle.verilog_meaning.specs.Hierarchy.{instance_step, Placed, placed_scope}
use Rattle.verilog_meaning.specs.Settled.{Design, at_path, IsPlacedIn, assignments, as_target, Connection, port_connections, port_meant, port_directions}
use Rattle.verilog_designs.specs.Reads.{BitSet}
use Rattle.verilog_designs.specs.Ports.{is_output, port_direction}
use Rattle.verilog_designs.specs.Drivers.{Driver, assigned, connected, clocked, combinational, MayDrive, IsOutputTarget, HasTwoDrivers, parts_of, HasBadDriver}
use Rattle.v_drivers.specs.Sets.{reached_by, assigned_by, target_drivers, assignments_drivers, blocks_drivers, TwoMeet}
use Rattle.v_drivers.proofs.Numbering.{Entry, part_entries, link_entries, block_entries, sets_of, In, in-left, in-right, in-parts, AreApart, apart-append, TwoOf, two-of, of-two}
use Rattle.driver_places.specs.Two.{target_below, output_target, drivers_if_any, outputs_drivers, own_drivers, TwoDriversAreTwoSets, HasBadName, HasBadPlace, BadDriversAreInPlaces}

-- ---- entries of all drivers

abbrev connected_parts : Scope → (i j : ℕ) → List Target → List Entry
connected_parts s i j [] = []
connected_parts s i j (t ∷ ts) = (connected i j, reached_by s t) ∷ connected_parts s i (suc j) ts

abbrev connected_if_any : Scope → ℕ → Option Target → List Entry
connected_if_any s i None = []
connected_if_any s i (Some t) = connected_parts s i 0 (parts_of t)

abbrev output_entries : Design → Placed → Scope → ℕ → List Connection → List Entry
output_entries d p s i [] = []
output_entries d p s i (c ∷ cs) = connected_if_any s i (output_target d p c) ++ output_entries d p s (suc i) cs

-- ---- their sets

sets_append : (xs ys : List Entry) → sets_of (xs ++ ys) ≡ sets_of xs ++ sets_of ys
sets_append xs ys = map-append (λ (e : Entry). e.1) xs ys

sets_parts : (s : Scope) (i j : ℕ) (ts : List Target) → sets_of (part_entries s i j ts) ≡ map (reached_by s) ts
sets_parts s i j [] = refl
sets_parts s i j (t ∷ ts) = ap (λ z. reached_by s t ∷ z) (sets_parts s i (suc j) ts)

sets_links : (s : Scope) (i : ℕ) (links : List (Target × Expression)) → sets_of (link_entries s i links) ≡ assignments_drivers s links
unfolding target_drivers
sets_links s i [] = refl
sets_links s i (a ∷ links) =
    sets_append (part_entries s i 0 (parts_of a.0)) (link_entries s (suc i) links)
    ∙ ap (λ z. z ++ sets_of (link_entries s (suc i) links)) (sets_parts s i 0 (parts_of a.0))
    ∙ ap (λ z. map (reached_by s) (parts_of a.0) ++ z) (sets_links s (suc i) links)

sets_connected : (s : Scope) (i j : ℕ) (ts : List Target) → sets_of (connected_parts s i j ts) ≡ map (reached_by s) ts
sets_connected s i j [] = refl
sets_connected s i j (t ∷ ts) = ap (λ z. reached_by s t ∷ z) (sets_connected s i (suc j) ts)

sets_if_any : (s : Scope) (i : ℕ) (o : Option Target) → sets_of (connected_if_any s i o) ≡ drivers_if_any s o
unfolding target_drivers
sets_if_any s i None = refl
sets_if_any s i (Some t) = sets_connected s i 0 (parts_of t)

sets_outputs : (d : Design) (p : Placed) (s : Scope) (i : ℕ) (cs : List Connection) → sets_of (output_entries d p s i cs) ≡ outputs_drivers d p s cs
sets_outputs d p s i [] = refl
sets_outputs d p s i (c ∷ cs) =
    sets_append (connected_if_any s i (output_target d p c)) (output_entries d p s (suc i) cs)
    ∙ ap (λ z. z ++ sets_of (output_entries d p s (suc i) cs)) (sets_if_any s i (output_target d p c))
    ∙ ap (λ z. drivers_if_any s (output_target d p c) ++ z) (sets_outputs d p s (suc i) cs)

sets_blocks : (s : Scope) (f : ℕ → Driver) (i : ℕ) (xs : List Statement) → sets_of (block_entries s f i xs) ≡ blocks_drivers s xs
sets_blocks s f i [] = refl
sets_blocks s f i (x ∷ xs) = ap (λ z. assigned_by s x ∷ z) (sets_blocks s f (suc i) xs)

-- ---- drivers by their kind and number

-- of the kind: assigned, connected, clocked, combinational
data Kind : Type 0 where
  by_link by_output by_clock by_block : Kind

abbrev kind_of : Driver → Kind
kind_of (assigned x y) = by_link
kind_of (connected x y) = by_output
kind_of (clocked x) = by_clock
kind_of (combinational x) = by_block

abbrev number_of : Driver → ℕ
number_of (assigned x y) = x
number_of (connected x y) = x
number_of (clocked x) = x
number_of (combinational x) = x

abbrev part_of : Driver → ℕ
part_of (assigned x y) = y
part_of (connected x y) = y
part_of (clocked x) = 0
part_of (combinational x) = 0

-- a driver of the kind whose number, and part of number i, are so many at least
record IsFrom (k : Kind) (i : ℕ) (x : Driver) : Type 0 where
  kind : kind_of x ≡ k
  number : i ≤ number_of x

record IsPartFrom (k : Kind) (i j : ℕ) (x : Driver) : Type 0 where
  kind : kind_of x ≡ k
  number : number_of x ≡ i
  part : j ≤ part_of x

links_parts : (s : Scope) (i j : ℕ) (ts : List Target) (e : Entry) → In (part_entries s i j ts) e → IsPartFrom by_link i j e.0
links_parts s i j [] e h = absurd h
links_parts s i j (t ∷ ts) e (inl h) = subst (λ (g : Entry). IsPartFrom by_link i j g.0) h (record { kind = refl; number = refl; part = omega arith })
links_parts s i j (t ∷ ts) e (inr h) =
    let r = links_parts s i (suc j) ts e h in let l = r.part in record { kind = r.kind; number = r.number; part = omega (arith, l) }

outputs_parts : (s : Scope) (i j : ℕ) (ts : List Target) (e : Entry) → In (connected_parts s i j ts) e → IsPartFrom by_output i j e.0
outputs_parts s i j [] e h = absurd h
outputs_parts s i j (t ∷ ts) e (inl h) = subst (λ (g : Entry). IsPartFrom by_output i j g.0) h (record { kind = refl; number = refl; part = omega arith })
outputs_parts s i j (t ∷ ts) e (inr h) =
    let r = outputs_parts s i (suc j) ts e h in let l = r.part in record { kind = r.kind; number = r.number; part = omega (arith, l) }

any_parts : (s : Scope) (i : ℕ) (o : Option Target) (e : Entry) → In (connected_if_any s i o) e → IsPartFrom by_output i 0 e.0
any_parts s i None e h = absurd h
any_parts s i (Some t) e h = outputs_parts s i 0 (parts_of t) e h

from_part : (k : Kind) (i j : ℕ) (x : Driver) → IsPartFrom k i j x → IsFrom k i x
from_part k i j x h = let e = h.number in record { kind = h.kind; number = omega (arith, e) }

from_later : (k : Kind) (i : ℕ) (x : Driver) → IsFrom k (suc i) x → IsFrom k i x
from_later k i x h = let l = h.number in record { kind = h.kind; number = omega (arith, l) }

links_from : (s : Scope) (i : ℕ) (links : List (Target × Expression)) (e : Entry) → In (link_entries s i links) e → IsFrom by_link i e.0
links_from s i [] e h = absurd h
links_from s i (a ∷ links) e h =
    in-parts (part_entries s i 0 (parts_of a.0)) (link_entries s (suc i) links) e h
    (λ l. from_part by_link i 0 e.0 (links_parts s i 0 (parts_of a.0) e l)) (λ r. from_later by_link i e.0 (links_from s (suc i) links e r))

outputs_from : (d : Design) (p : Placed) (s : Scope) (i : ℕ) (cs : List Connection) (e : Entry) → In (output_entries d p s i cs) e → IsFrom by_output i e.0
outputs_from d p s i [] e h = absurd h
outputs_from d p s i (c ∷ cs) e h =
    in-parts (connected_if_any s i (output_target d p c)) (output_entries d p s (suc i) cs) e h
    (λ l. from_part by_output i 0 e.0 (any_parts s i (output_target d p c) e l)) (λ r. from_later by_output i e.0 (outputs_from d p s (suc i) cs e r))

clocked_from : (s : Scope) (i : ℕ) (xs : List Statement) (e : Entry) → In (block_entries s clocked i xs) e → IsFrom by_clock i e.0
clocked_from s i [] e h = absurd h
clocked_from s i (x ∷ xs) e (inl h) = subst (λ (g : Entry). IsFrom by_clock i g.0) h (record { kind = refl; number = omega arith })
clocked_from s i (x ∷ xs) e (inr h) = from_later by_clock i e.0 (clocked_from s (suc i) xs e h)

blocks_from : (s : Scope) (i : ℕ) (xs : List Statement) (e : Entry) → In (block_entries s combinational i xs) e → IsFrom by_block i e.0
blocks_from s i [] e h = absurd h
blocks_from s i (x ∷ xs) e (inl h) = subst (λ (g : Entry). IsFrom by_block i g.0) h (record { kind = refl; number = omega arith })
blocks_from s i (x ∷ xs) e (inr h) = from_later by_block i e.0 (blocks_from s (suc i) xs e h)

-- ---- no two are the same

later_part : (k : Kind) (i j : ℕ) (x y : Driver) → number_of x ≡ i → part_of x ≡ j → IsPartFrom k i (suc j) y → ¬ (x ≡ y)
later_part k i j x y e f h same = let l = h.part in let g = ap part_of same in omega (arith, l, f, g)

later_number : (k : Kind) (i : ℕ) (x y : Driver) → number_of x ≡ i → IsFrom k (suc i) y → ¬ (x ≡ y)
later_number k i x y e h same = let l = h.number in let g = ap number_of same in omega (arith, l, e, g)

other_kind : (k l : Kind) (x y : Driver) → ¬ (k ≡ l) → kind_of x ≡ k → kind_of y ≡ l → ¬ (x ≡ y)
other_kind k l x y apart e f same = apart (sym e ∙ ap kind_of same ∙ f)

parts_apart : (s : Scope) (i j : ℕ) (ts : List Target) → AreApart (part_entries s i j ts)
parts_apart s i j [] = tt
parts_apart s i j (t ∷ ts) =
    ((λ f h. later_part by_link i j (assigned i j) f.0 refl refl (links_parts s i (suc j) ts f h)), parts_apart s i (suc j) ts)

connected_apart : (s : Scope) (i j : ℕ) (ts : List Target) → AreApart (connected_parts s i j ts)
connected_apart s i j [] = tt
connected_apart s i j (t ∷ ts) =
    ((λ f h. later_part by_output i j (connected i j) f.0 refl refl (outputs_parts s i (suc j) ts f h)), connected_apart s i (suc j) ts)

any_apart : (s : Scope) (i : ℕ) (o : Option Target) → AreApart (connected_if_any s i o)
any_apart s i None = tt
any_apart s i (Some t) = connected_apart s i 0 (parts_of t)

links_apart : (s : Scope) (i : ℕ) (links : List (Target × Expression)) → AreApart (link_entries s i links)
links_apart s i [] = tt
links_apart s i (a ∷ links) =
    apart-append (part_entries s i 0 (parts_of a.0)) (link_entries s (suc i) links) (parts_apart s i 0 (parts_of a.0)) (links_apart s (suc i) links)
    (λ e f h g. later_number by_link i e.0 f.0 (links_parts s i 0 (parts_of a.0) e h).number (links_from s (suc i) links f g))

outputs_apart : (d : Design) (p : Placed) (s : Scope) (i : ℕ) (cs : List Connection) → AreApart (output_entries d p s i cs)
outputs_apart d p s i [] = tt
outputs_apart d p s i (c ∷ cs) =
    apart-append (connected_if_any s i (output_target d p c)) (output_entries d p s (suc i) cs) (any_apart s i (output_target d p c)) (outputs_apart d p s (suc i) cs)
    (λ e f h g. later_number by_output i e.0 f.0 (any_parts s i (output_target d p c) e h).number (outputs_from d p s (suc i) cs f g))

clocked_apart : (s : Scope) (i : ℕ) (xs : List Statement) → AreApart (block_entries s clocked i xs)
clocked_apart s i [] = tt
clocked_apart s i (x ∷ xs) = ((λ f h. later_number by_clock i (clocked i) f.0 refl (clocked_from s (suc i) xs f h)), clocked_apart s (suc i) xs)

blocks_apart : (s : Scope) (i : ℕ) (xs : List Statement) → AreApart (block_entries s combinational i xs)
blocks_apart s i [] = tt
blocks_apart s i (x ∷ xs) = ((λ f h. later_number by_block i (combinational i) f.0 refl (blocks_from s (suc i) xs f h)), blocks_apart s (suc i) xs)

-- ---- where entries stand

nothing_at : {X A : Type 0} (x : X) → None ≡ Some x → A
nothing_at x h = absurd (false≢true (ap is_some h))

same_at : {X : Type 0} (x y : X) → Some x ≡ Some y → x ≡ y
same_at x y h = ap (λ o. unwrap_or o x) h

-- a part in a list, whatever numbers it
record PartAt (s : Scope) (f : ℕ → Driver) (j : ℕ) (ts : List Target) (e : Entry) : Type 0 where
  place : ℕ
  part : Target
  stands : slice_get ts place ≡ Some part
  is : e ≡ (f (j + place), reached_by s part)

link_part : (s : Scope) (i j : ℕ) (ts : List Target) (e : Entry) → In (part_entries s i j ts) e → PartAt s (assigned i) j ts e
link_part s i j [] e h = absurd h
link_part s i j (t ∷ ts) e (inl h) =
    let same : j ≡ j + 0 = omega arith in record { place = 0; part = t; stands = refl; is = sym h ∙ ap (λ k. (assigned i k, reached_by s t)) same }
link_part s i j (t ∷ ts) e (inr h) =
    let a = link_part s i (suc j) ts e h in
    let same : suc j + a.place ≡ j + suc a.place = omega arith in
    record { place = suc a.place; part = a.part; stands = a.stands; is = a.is ∙ ap (λ k. (assigned i k, reached_by s a.part)) same }

output_part : (s : Scope) (i j : ℕ) (ts : List Target) (e : Entry) → In (connected_parts s i j ts) e → PartAt s (connected i) j ts e
output_part s i j [] e h = absurd h
output_part s i j (t ∷ ts) e (inl h) =
    let same : j ≡ j + 0 = omega arith in record { place = 0; part = t; stands = refl; is = sym h ∙ ap (λ k. (connected i k, reached_by s t)) same }
output_part s i j (t ∷ ts) e (inr h) =
    let a = output_part s i (suc j) ts e h in
    let same : suc j + a.place ≡ j + suc a.place = omega arith in
    record { place = suc a.place; part = a.part; stands = a.stands; is = a.is ∙ ap (λ k. (connected i k, reached_by s a.part)) same }

part_in : (s : Scope) (i j : ℕ) (ts : List Target) (y : ℕ) (t : Target) → slice_get ts y ≡ Some t → In (part_entries s i j ts) (assigned i (j + y), reached_by s t)
part_in s i j [] y t h = nothing_at t h
part_in s i j (x ∷ ts) zero t h =
    let same : j ≡ j + 0 = omega arith in
    inl (ap (λ z. (assigned i j, reached_by s z)) (same_at x t h) ∙ ap (λ k. (assigned i k, reached_by s t)) same)
part_in s i j (x ∷ ts) (suc y) t h =
    let same : suc j + y ≡ j + suc y = omega arith in
    inr (subst (λ k. In (part_entries s i (suc j) ts) (assigned i k, reached_by s t)) same (part_in s i (suc j) ts y t h))

output_in : (s : Scope) (i j : ℕ) (ts : List Target) (y : ℕ) (t : Target) → slice_get ts y ≡ Some t → In (connected_parts s i j ts) (connected i (j + y), reached_by s t)
output_in s i j [] y t h = nothing_at t h
output_in s i j (x ∷ ts) zero t h =
    let same : j ≡ j + 0 = omega arith in
    inl (ap (λ z. (connected i j, reached_by s z)) (same_at x t h) ∙ ap (λ k. (connected i k, reached_by s t)) same)
output_in s i j (x ∷ ts) (suc y) t h =
    let same : suc j + y ≡ j + suc y = omega arith in
    inr (subst (λ k. In (connected_parts s i (suc j) ts) (connected i k, reached_by s t)) same (output_in s i (suc j) ts y t h))

-- an entry of one of a list, at its number
record LinkAt (s : Scope) (i : ℕ) (links : List (Target × Expression)) (e : Entry) : Type 0 where
  place : ℕ
  link : Target × Expression
  stands : slice_get links place ≡ Some link
  within : ℕ
  part : Target
  is_part : slice_get (parts_of link.0) within ≡ Some part
  is : e ≡ (assigned (i + place) within, reached_by s part)

link_at : (s : Scope) (i : ℕ) (links : List (Target × Expression)) (e : Entry) → In (link_entries s i links) e → LinkAt s i links e
link_at s i [] e h = absurd h
link_at s i (a ∷ links) e h =
    in-parts (part_entries s i 0 (parts_of a.0)) (link_entries s (suc i) links) e h
    (λ l. let p = link_part s i 0 (parts_of a.0) e l in
    let same : i ≡ i + 0 = omega arith in
    let none : 0 + p.place ≡ p.place = omega arith in
    record {
      place = 0;
      link = a;
      stands = refl;
      within = p.place;
      part = p.part;
      is_part = p.stands;
      is = p.is ∙ ap (λ k. (assigned i k, reached_by s p.part)) none ∙ ap (λ k. (assigned k p.place, reached_by s p.part)) same;
    })
    (λ r. let p = link_at s (suc i) links e r in
    let same : suc i + p.place ≡ i + suc p.place = omega arith in
    record {
      place = suc p.place;
      link = p.link;
      stands = p.stands;
      within = p.within;
      part = p.part;
      is_part = p.is_part;
      is = p.is ∙ ap (λ k. (assigned k p.within, reached_by s p.part)) same;
    })

link_in : (s : Scope) (i : ℕ) (links : List (Target × Expression)) (x y : ℕ) (a : Target × Expression) (t : Target)
    → slice_get links x ≡ Some a → slice_get (parts_of a.0) y ≡ Some t → In (link_entries s i links) (assigned (i + x) y, reached_by s t)
link_in s i [] x y a t h g = nothing_at a h
link_in s i (b ∷ links) zero y a t h g =
    let same : i ≡ i + 0 = omega arith in
    let none : 0 + y ≡ y = omega arith in
    let here = part_in s i 0 (parts_of b.0) y t (subst (λ (c : Target × Expression). slice_get (parts_of c.0) y ≡ Some t) (sym (same_at b a h)) g) in
    in-left (part_entries s i 0 (parts_of b.0)) (link_entries s (suc i) links) (assigned (i + 0) y, reached_by s t)
    (subst (λ k. In (part_entries s i 0 (parts_of b.0)) (assigned k y, reached_by s t)) same
    (subst (λ k. In (part_entries s i 0 (parts_of b.0)) (assigned i k, reached_by s t)) none here))
link_in s i (b ∷ links) (suc x) y a t h g =
    let same : suc i + x ≡ i + suc x = omega arith in
    in-right (part_entries s i 0 (parts_of b.0)) (link_entries s (suc i) links) (assigned (i + suc x) y, reached_by s t)
    (subst (λ k. In (link_entries s (suc i) links) (assigned k y, reached_by s t)) same (link_in s (suc i) links x y a t h g))

record BlockAt (s : Scope) (f : ℕ → Driver) (i : ℕ) (xs : List Statement) (e : Entry) : Type 0 where
  place : ℕ
  block : Statement
  stands : slice_get xs place ≡ Some block
  is : e ≡ (f (i + place), assigned_by s block)

block_at : (s : Scope) (f : ℕ → Driver) (i : ℕ) (xs : List Statement) (e : Entry) → In (block_entries s f i xs) e → BlockAt s f i xs e
block_at s f i [] e h = absurd h
block_at s f i (x ∷ xs) e (inl h) =
    let same : i ≡ i + 0 = omega arith in record { place = 0; block = x; stands = refl; is = sym h ∙ ap (λ k. (f k, assigned_by s x)) same }
block_at s f i (x ∷ xs) e (inr h) =
    let a = block_at s f (suc i) xs e h in
    let same : suc i + a.place ≡ i + suc a.place = omega arith in
    record { place = suc a.place; block = a.block; stands = a.stands; is = a.is ∙ ap (λ k. (f k, assigned_by s a.block)) same }

block_in : (s : Scope) (f : ℕ → Driver) (i : ℕ) (xs : List Statement) (y : ℕ) (x : Statement) → slice_get xs y ≡ Some x
    → In (block_entries s f i xs) (f (i + y), assigned_by s x)
block_in s f i [] y x h = nothing_at x h
block_in s f i (z ∷ xs) zero x h =
    let same : i ≡ i + 0 = omega arith in inl (ap (λ b. (f i, assigned_by s b)) (same_at z x h) ∙ ap (λ k. (f k, assigned_by s x)) same)
block_in s f i (z ∷ xs) (suc y) x h =
    let same : suc i + y ≡ i + suc y = omega arith in
    inr (subst (λ k. In (block_entries s f (suc i) xs) (f k, assigned_by s x)) same (block_in s f (suc i) xs y x h))

-- ---- what an output drives

module _ (d : Design) (p : Placed) where
  pub target_is : (c : Connection) (t : Target) → output_target d p c ≡ Some t → IsOutputTarget d p c t
  target_is c t e = found (at_path d (instance_step c.of_instance ∷ p.path)) refl e
    where
      direction : (below : Placed) (o : Option Name) → port_meant below.of_module c.to_port ≡ o → is_output (port_direction below.of_module o) ≡ true
          → (n : Name) × (port_meant below.of_module c.to_port ≡ Some n) × (entry_of (port_directions below.of_module) n ≡ Some output)
      direction below None f g = absurd (false≢true g)
      direction below (Some n) f g = (n, f, is_out (entry_of (port_directions below.of_module) n) g)
        where
          is_out : (x : Option Direction) → is_output x ≡ true → x ≡ Some output
          is_out None h = absurd (false≢true h)
          is_out (Some input) h = absurd (false≢true h)
          is_out (Some output) h = refl

      chosen : (b : Bool) (o : Option Target) → cond b o None ≡ Some t → (b ≡ true) × (o ≡ Some t)
      chosen true o f = (refl, f)
      chosen false o f = nothing_at t f

      found : (x : Option Placed) → at_path d (instance_step c.of_instance ∷ p.path) ≡ x → target_below x c ≡ Some t → IsOutputTarget d p c t
      found None f g = nothing_at t g
      found (Some below) f g =
          let r = chosen (is_output (port_direction below.of_module (port_meant below.of_module c.to_port))) (as_target c.expression) g in
          let w = direction below (port_meant below.of_module c.to_port) refl r.0 in
          record { below = below; port = w.0; is_output = record { is_below = f; is_meant = w.1; is_port = w.2 }; is_target = r.1 }

  pub is_target : (c : Connection) (t : Target) → IsOutputTarget d p c t → output_target d p c ≡ Some t
  is_target c t h =
      let to = h.is_output in
      ap (λ x. target_below x c) to.is_below
      ∙ ap (λ b. cond b (as_target c.expression) None) (ap is_output (ap (port_direction h.below.of_module) to.is_meant ∙ to.is_port)) ∙ h.is_target

  record OutputAt (s : Scope) (i : ℕ) (cs : List Connection) (e : Entry) : Type 0 where
    place : ℕ
    connection : Connection
    whole : Target
    stands : slice_get cs place ≡ Some connection
    is_output : output_target d p connection ≡ Some whole
    within : ℕ
    part : Target
    is_part : slice_get (parts_of whole) within ≡ Some part
    is : e ≡ (connected (i + place) within, reached_by s part)

  output_at : (s : Scope) (i : ℕ) (cs : List Connection) (e : Entry) → In (output_entries d p s i cs) e → OutputAt s i cs e
  output_at s i [] e h = absurd h
  output_at s i (c ∷ cs) e h =
      in-parts (connected_if_any s i (output_target d p c)) (output_entries d p s (suc i) cs) e h (λ l. here (output_target d p c) refl l)
      (λ r. let q = output_at s (suc i) cs e r in
      let same : suc i + q.place ≡ i + suc q.place = omega arith in
      record {
        place = suc q.place;
        connection = q.connection;
        whole = q.whole;
        stands = q.stands;
        is_output = q.is_output;
        within = q.within;
        part = q.part;
        is_part = q.is_part;
        is = q.is ∙ ap (λ k. (connected k q.within, reached_by s q.part)) same;
      })
    where
      here : (o : Option Target) → output_target d p c ≡ o → In (connected_if_any s i o) e → OutputAt s i (c ∷ cs) e
      here None f l = absurd l
      here (Some t) f l =
          let q = output_part s i 0 (parts_of t) e l in
          let same : i ≡ i + 0 = omega arith in
          let none : 0 + q.place ≡ q.place = omega arith in
          record {
            place = 0;
            connection = c;
            whole = t;
            stands = refl;
            is_output = f;
            within = q.place;
            part = q.part;
            is_part = q.stands;
            is = q.is ∙ ap (λ k. (connected i k, reached_by s q.part)) none ∙ ap (λ k. (connected k q.place, reached_by s q.part)) same;
          }

  connected_in : (s : Scope) (i : ℕ) (cs : List Connection) (x y : ℕ) (c : Connection) (whole t : Target) → slice_get cs x ≡ Some c
      → output_target d p c ≡ Some whole → slice_get (parts_of whole) y ≡ Some t → In (output_entries d p s i cs) (connected (i + x) y, reached_by s t)
  connected_in s i [] x y c whole t h f g = nothing_at c h
  connected_in s i (b ∷ cs) zero y c whole t h f g =
      let same : i ≡ i + 0 = omega arith in
      let none : 0 + y ≡ y = omega arith in
      let here : In (connected_if_any s i (Some whole)) (connected i (0 + y), reached_by s t) = output_in s i 0 (parts_of whole) y t g in
      let is : output_target d p b ≡ Some whole = ap (output_target d p) (same_at b c h) ∙ f in
      in-left (connected_if_any s i (output_target d p b)) (output_entries d p s (suc i) cs) (connected (i + 0) y, reached_by s t)
      (subst (λ o. In (connected_if_any s i o) (connected (i + 0) y, reached_by s t)) (sym is)
      (subst (λ k. In (connected_if_any s i (Some whole)) (connected k y, reached_by s t)) same
      (subst (λ k. In (connected_if_any s i (Some whole)) (connected i k, reached_by s t)) none here)))
  connected_in s i (b ∷ cs) (suc x) y c whole t h f g =
      let same : suc i + x ≡ i + suc x = omega arith in
      in-right (connected_if_any s i (output_target d p b)) (output_entries d p s (suc i) cs) (connected (i + suc x) y, reached_by s t)
      (subst (λ k. In (output_entries d p s (suc i) cs) (connected k y, reached_by s t)) same (connected_in s (suc i) cs x y c whole t h f g))

  -- ---- all drivers of the module

  abbrev scope : Scope
  scope = placed_scope p

  abbrev links : List Entry
  links = link_entries scope 0 (assignments p.of_module.items)

  abbrev outs : List Entry
  outs = output_entries d p scope 0 (port_connections p.of_module.items)

  abbrev clocks : List Entry
  clocks = block_entries scope clocked 0 (clocked_blocks p.of_module.items)

  abbrev others : List Entry
  others = block_entries scope combinational 0 (combinational_blocks p.of_module.items)

  abbrev all : List Entry
  all = links ++ (outs ++ (clocks ++ others))

  sets_all : sets_of all ≡ own_drivers d p
  sets_all =
      sets_append links (outs ++ (clocks ++ others))
      ∙ (λ i. sets_links scope 0 (assignments p.of_module.items) i ++ behind i)
    where
      last : sets_of (clocks ++ others) ≡ blocks_drivers scope (clocked_blocks p.of_module.items) ++ blocks_drivers scope (combinational_blocks p.of_module.items)
      last =
          sets_append clocks others
          ∙ (λ i. sets_blocks scope clocked 0 (clocked_blocks p.of_module.items) i ++ sets_blocks scope combinational 0 (combinational_blocks p.of_module.items) i)

      behind : sets_of (outs ++ (clocks ++ others))
          ≡ outputs_drivers d p scope (port_connections p.of_module.items)
          ++ (blocks_drivers scope (clocked_blocks p.of_module.items) ++ blocks_drivers scope (combinational_blocks p.of_module.items))
      behind = sets_append outs (clocks ++ others) ∙ (λ i. sets_outputs d p scope 0 (port_connections p.of_module.items) i ++ last i)

  abbrev from_link : (e : Entry) → In links e → kind_of e.0 ≡ by_link
  from_link e h = (links_from scope 0 (assignments p.of_module.items) e h).kind

  abbrev from_output : (e : Entry) → In outs e → kind_of e.0 ≡ by_output
  from_output e h = (outputs_from d p scope 0 (port_connections p.of_module.items) e h).kind

  abbrev from_clock : (e : Entry) → In clocks e → kind_of e.0 ≡ by_clock
  from_clock e h = (clocked_from scope 0 (clocked_blocks p.of_module.items) e h).kind

  abbrev from_other : (e : Entry) → In others e → kind_of e.0 ≡ by_block
  from_other e h = (blocks_from scope 0 (combinational_blocks p.of_module.items) e h).kind

  all_apart : AreApart all
  all_apart =
      apart-append links (outs ++ (clocks ++ others)) (links_apart scope 0 (assignments p.of_module.items))
      (apart-append outs (clocks ++ others) (outputs_apart d p scope 0 (port_connections p.of_module.items))
      (apart-append clocks others (clocked_apart scope 0 (clocked_blocks p.of_module.items)) (blocks_apart scope 0 (combinational_blocks p.of_module.items))
      (λ e f h g. other_kind by_clock by_block e.0 f.0 (λ x. cc) (from_clock e h) (from_other f g)))
      (λ e f h g. in-parts clocks others f g (λ l. other_kind by_output by_clock e.0 f.0 (λ x. cc) (from_output e h) (from_clock f l))
      (λ r. other_kind by_output by_block e.0 f.0 (λ x. cc) (from_output e h) (from_other f r))))
      (λ e f h g. in-parts outs (clocks ++ others) f g (λ l. other_kind by_link by_output e.0 f.0 (λ x. cc) (from_link e h) (from_output f l))
      (λ r. in-parts clocks others f r (λ l. other_kind by_link by_clock e.0 f.0 (λ x. cc) (from_link e h) (from_clock f l))
      (λ m. other_kind by_link by_block e.0 f.0 (λ x. cc) (from_link e h) (from_other f m))))

  -- an entry's bit: its driver may drive it, and it is one of its name
  record IsDrivenBy (e : Entry) (n : Name) (k b : ℕ) : Type 0 where
    drives : MayDrive d p e.0 n k b
    is_bit : is_bit_of (scope n) k b ≡ true

  link_drives : (e : Entry) (n : Name) (k b : ℕ) → In links e → e.1 n k b ≡ true → IsDrivenBy e n k b
  link_drives e n k b l h =
      let a = link_at scope 0 (assignments p.of_module.items) e l in
      let none : 0 + a.place ≡ a.place = omega arith in
      let is = a.is ∙ ap (λ z. (assigned z a.within, reached_by scope a.part)) none in
      let q = and_parts (is_bit_of (scope n) k b) (may_reach scope a.part n k b) (subst (λ (g : Entry). g.1 n k b ≡ true) is h) in
      record { drives = subst (λ (g : Entry). MayDrive d p g.0 n k b) (sym is) (a.link, a.part, a.stands, a.is_part, q.1); is_bit = q.0 }

  output_drives : (e : Entry) (n : Name) (k b : ℕ) → In outs e → e.1 n k b ≡ true → IsDrivenBy e n k b
  output_drives e n k b l h =
      let a = output_at scope 0 (port_connections p.of_module.items) e l in
      let none : 0 + a.place ≡ a.place = omega arith in
      let is = a.is ∙ ap (λ z. (connected z a.within, reached_by scope a.part)) none in
      let q = and_parts (is_bit_of (scope n) k b) (may_reach scope a.part n k b) (subst (λ (g : Entry). g.1 n k b ≡ true) is h) in
      record {
        drives = subst (λ (g : Entry). MayDrive d p g.0 n k b) (sym is)
            (a.connection, a.whole, a.part, a.stands, target_is a.connection a.whole a.is_output, a.is_part, q.1);
        is_bit = q.0;
      }

  clock_drives : (e : Entry) (n : Name) (k b : ℕ) → In clocks e → e.1 n k b ≡ true → IsDrivenBy e n k b
  clock_drives e n k b l h =
      let a = block_at scope clocked 0 (clocked_blocks p.of_module.items) e l in
      let none : 0 + a.place ≡ a.place = omega arith in
      let is = a.is ∙ ap (λ z. (clocked z, assigned_by scope a.block)) none in
      let q = and_parts (is_bit_of (scope n) k b) (may_assign scope a.block n k b) (subst (λ (g : Entry). g.1 n k b ≡ true) is h) in
      record { drives = subst (λ (g : Entry). MayDrive d p g.0 n k b) (sym is) (a.block, a.stands, q.1); is_bit = q.0 }

  block_drives : (e : Entry) (n : Name) (k b : ℕ) → In others e → e.1 n k b ≡ true → IsDrivenBy e n k b
  block_drives e n k b l h =
      let a = block_at scope combinational 0 (combinational_blocks p.of_module.items) e l in
      let none : 0 + a.place ≡ a.place = omega arith in
      let is = a.is ∙ ap (λ z. (combinational z, assigned_by scope a.block)) none in
      let q = and_parts (is_bit_of (scope n) k b) (may_assign scope a.block n k b) (subst (λ (g : Entry). g.1 n k b ≡ true) is h) in
      record { drives = subst (λ (g : Entry). MayDrive d p g.0 n k b) (sym is) (a.block, a.stands, q.1); is_bit = q.0 }

  entry_drives : (e : Entry) (n : Name) (k b : ℕ) → In all e → e.1 n k b ≡ true → IsDrivenBy e n k b
  entry_drives e n k b i h =
      in-parts links (outs ++ (clocks ++ others)) e i (λ l. link_drives e n k b l h)
      (λ r. in-parts outs (clocks ++ others) e r (λ l. output_drives e n k b l h)
      (λ m. in-parts clocks others e m (λ l. clock_drives e n k b l h) (λ l. block_drives e n k b l h)))

  -- a driver's entry
  record EntryOf (x : Driver) (n : Name) (k b : ℕ) : Type 0 where
    bits : BitSet
    stands : In all (x, bits)
    has : bits n k b ≡ true

  entry_of_driver : (x : Driver) (n : Name) (k b : ℕ) → MayDrive d p x n k b → is_bit_of (scope n) k b ≡ true → EntryOf x n k b
  entry_of_driver (assigned i j) n k b (a, t, at, part, reach) bit =
      let none : 0 + i ≡ i = omega arith in
      record {
        bits = reached_by scope t;
        stands = in-left links (outs ++ (clocks ++ others)) (assigned i j, reached_by scope t)
            (subst (λ z. In links (assigned z j, reached_by scope t)) none (link_in scope 0 (assignments p.of_module.items) i j a t at part));
        has = and_from (is_bit_of (scope n) k b) (may_reach scope t n k b) bit reach;
      }
  entry_of_driver (connected i j) n k b (c, whole, t, at, drives, part, reach) bit =
      let none : 0 + i ≡ i = omega arith in
      record {
        bits = reached_by scope t;
        stands = in-right links (outs ++ (clocks ++ others)) (connected i j, reached_by scope t)
            (in-left outs (clocks ++ others) (connected i j, reached_by scope t)
            (subst (λ z. In outs (connected z j, reached_by scope t)) none
            (connected_in scope 0 (port_connections p.of_module.items) i j c whole t at (is_target c whole drives) part)));
        has = and_from (is_bit_of (scope n) k b) (may_reach scope t n k b) bit reach;
      }
  entry_of_driver (clocked i) n k b (x, at, may) bit =
      let none : 0 + i ≡ i = omega arith in
      record {
        bits = assigned_by scope x;
        stands = in-right links (outs ++ (clocks ++ others)) (clocked i, assigned_by scope x)
            (in-right outs (clocks ++ others) (clocked i, assigned_by scope x)
            (in-left clocks others (clocked i, assigned_by scope x)
            (subst (λ z. In clocks (clocked z, assigned_by scope x)) none (block_in scope clocked 0 (clocked_blocks p.of_module.items) i x at))));
        has = and_from (is_bit_of (scope n) k b) (may_assign scope x n k b) bit may;
      }
  entry_of_driver (combinational i) n k b (x, at, may) bit =
      let none : 0 + i ≡ i = omega arith in
      record {
        bits = assigned_by scope x;
        stands = in-right links (outs ++ (clocks ++ others)) (combinational i, assigned_by scope x)
            (in-right outs (clocks ++ others) (combinational i, assigned_by scope x)
            (in-right clocks others (combinational i, assigned_by scope x)
            (subst (λ z. In others (combinational z, assigned_by scope x)) none (block_in scope combinational 0 (combinational_blocks p.of_module.items) i x at))));
        has = and_from (is_bit_of (scope n) k b) (may_assign scope x n k b) bit may;
      }

  two_drive : TwoOf scope all → HasTwoDrivers d p
  two_drive t =
      let m = t.meet in
      let one = entry_drives t.one m.name m.word m.bit t.one_in m.in_first in
      let other = entry_drives t.other m.name m.word2 m.bit2 t.other_in m.in_second in
      record {
        name = m.name;
        word = m.word;
        bit = m.bit;
        word2 = m.word2;
        bit2 = m.bit2;
        one = t.one.0;
        other = t.other.0;
        is_bit = one.is_bit;
        is_bit2 = other.is_bit;
        is_same = m.is_same;
        are_two = t.are_two;
        one_drives = one.drives;
        other_drives = other.drives;
      }

  drive_two : HasTwoDrivers d p → TwoMeet scope (sets_of all)
  drive_two h =
      let one = entry_of_driver h.one h.name h.word h.bit h.one_drives h.is_bit in
      let other = entry_of_driver h.other h.name h.word2 h.bit2 h.other_drives h.is_bit2 in
      of-two scope all (h.one, one.bits) (h.other, other.bits) one.stands other.stands h.are_two
      (record { name = h.name; word = h.word; bit = h.bit; word2 = h.word2; bit2 = h.bit2; in_first = one.has; in_second = other.has; is_same = h.is_same })

pub two_drivers_are_two_sets : TwoDriversAreTwoSets
two_drivers_are_two_sets d p = (
  λ h. subst (TwoMeet (placed_scope p)) (sets_all d p) (drive_two d p h),
  λ h. two_drive d p (two-of (placed_scope p) (all d p) (all_apart d p) (subst (TwoMeet (placed_scope p)) (sym (sets_all d p)) h)),
)

-- ---- the rule

to_place : (d : Design) → HasBadDriver d → HasBadPlace d
to_place d (HasBadDriver.two p at h) = record { place = p; is_placed = at; is_bad = inr ((two_drivers_are_two_sets d p).0 h) }
to_place d (HasBadDriver.in_clocked p x n at h k t) = record { place = p; is_placed = at; is_bad = inl (HasBadName.in_clocked x n h k t) }
to_place d (HasBadDriver.in_combinational p x n at h k t) = record { place = p; is_placed = at; is_bad = inl (HasBadName.in_combinational x n h k t) }
to_place d (HasBadDriver.by_assignment p a n at h k t) = record { place = p; is_placed = at; is_bad = inl (HasBadName.by_assignment a n h k t) }
to_place d (HasBadDriver.by_output p c t n at h is k i) = record { place = p; is_placed = at; is_bad = inl (HasBadName.by_output c t n h is k i) }

from_name : (d : Design) (p : Placed) → IsPlacedIn d p → HasBadName d p → HasBadDriver d
from_name d p at (HasBadName.in_clocked x n h k t) = HasBadDriver.in_clocked p x n at h k t
from_name d p at (HasBadName.in_combinational x n h k t) = HasBadDriver.in_combinational p x n at h k t
from_name d p at (HasBadName.by_assignment a n h k t) = HasBadDriver.by_assignment p a n at h k t
from_name d p at (HasBadName.by_output c t n h is k i) = HasBadDriver.by_output p c t n at h is k i

pub bad_drivers_are_in_places : BadDriversAreInPlaces
bad_drivers_are_in_places d = (to_place d, λ h. from_place h.place h.is_placed h.is_bad)
  where
    from_place : (p : Placed) → IsPlacedIn d p → HasBadName d p ⊎ TwoMeet (placed_scope p) (own_drivers d p) → HasBadDriver d
    from_place p at (inl h) = from_name d p at h
    from_place p at (inr h) = HasBadDriver.two p at ((two_drivers_are_two_sets d p).1 h)
