-- That two sets of a module's drivers meet exactly where the rule finds two drivers.
use Rattle.std.proofs.Common.{◌≡◌, ◌∙◌, ℕ, zero, suc, ◌+◌, refl, ap, sym, subst, arith, true, Some, None, inl, inr, List, [], ◌∷◌, ◌++◌}
use Rattle.std.specs.Prelude.{◌↔◌, slice_get, is_some, unwrap_or}
use Rattle.std.proofs.lemmas.Bool.{false≢true, and_parts, and_from}
use Rattle.wb_values.specs.Value.{Name}
use Rattle.verilog_trees.specs.Syntax.{Expression, Target, Statement}
use Rattle.verilog_meaning.specs.Expression.{Scope}
use Rattle.verilog_meaning.specs.Register.{is_bit_of, may_reach, may_assign, clocked_blocks, combinational_blocks}
use Rattle.verilog_meaning.specs.Hierarchy.{Placed, placed_scope}
use Rattle.verilog_meaning.specs.Settled.{Design, Connection, assignments, port_connections}
use Rattle.verilog_designs.specs.Reads.{BitSet}
use Rattle.verilog_designs.specs.Drivers.{Driver, assigned, connected, clocked, combinational, MayDrive, HasTwoDrivers, parts_of}
use Rattle.v_drivers.specs.Sets.{reached_by, assigned_by, drivers, TwoMeet}
use Rattle.v_drivers.proofs.Numbering.{Entry, part_entries, link_entries, block_entries, entries, sets_of, sets-entries, In, in-left, in-right, in-parts, TwoOf, two-of, of-two}
use Rattle.v_drivers.proofs.Numbered.{entries-apart}

-- ---- where the entries stand

record PartAt (s : Scope) (i j : ℕ) (ts : List Target) (e : Entry) : Type 0 where
  pub place : ℕ
  pub part : Target
  pub stands : slice_get ts place ≡ Some part
  pub is : e ≡ (assigned i (j + place), reached_by s part)

part-at : (s : Scope) (i j : ℕ) (ts : List Target) (e : Entry) → In (part_entries s i j ts) e → PartAt s i j ts e
part-at s i j [] e h = absurd h
part-at s i j (t ∷ ts) e (inl h) =
    let same : j ≡ j + 0 = omega arith in
    record { place = 0; part = t; stands = refl; is = sym h ∙ ap (λ k. (assigned i k, reached_by s t)) same }
part-at s i j (t ∷ ts) e (inr h) =
    let a = part-at s i (suc j) ts e h in
    let same : suc j + a.place ≡ j + suc a.place = omega arith in
    record { place = suc a.place; part = a.part; stands = a.stands; is = a.is ∙ ap (λ k. (assigned i k, reached_by s a.part)) same }

record LinkAt (s : Scope) (i : ℕ) (links : List (Target × Expression)) (e : Entry) : Type 0 where
  pub place : ℕ
  pub link : Target × Expression
  pub stands : slice_get links place ≡ Some link
  pub within : ℕ
  pub part : Target
  pub is_part : slice_get (parts_of link.0) within ≡ Some part
  pub is : e ≡ (assigned (i + place) within, reached_by s part)

link-at : (s : Scope) (i : ℕ) (links : List (Target × Expression)) (e : Entry) → In (link_entries s i links) e → LinkAt s i links e
link-at s i [] e h = absurd h
link-at s i (a ∷ links) e h =
    in-parts (part_entries s i 0 (parts_of a.0)) (link_entries s (suc i) links) e h
    (λ l. let p = part-at s i 0 (parts_of a.0) e l in
    let same : i ≡ i + 0 = omega arith in
    let none : 0 + p.place ≡ p.place = omega arith in
    record {
      place = 0;
      link = a;
      stands = refl;
      within = p.place;
      part = p.part;
      is_part = p.stands;
      is = p.is ∙ ap (λ k. (assigned i k, reached_by s p.part)) none ∙ ap (λ k. (assigned k p.place, reached_by s p.part)) same;
    })
    (λ r. let p = link-at s (suc i) links e r in
    let same : suc i + p.place ≡ i + suc p.place = omega arith in
    record {
      place = suc p.place;
      link = p.link;
      stands = p.stands;
      within = p.within;
      part = p.part;
      is_part = p.is_part;
      is = p.is ∙ ap (λ k. (assigned k p.within, reached_by s p.part)) same;
    })

record BlockAt (s : Scope) (f : ℕ → Driver) (i : ℕ) (xs : List Statement) (e : Entry) : Type 0 where
  pub place : ℕ
  pub block : Statement
  pub stands : slice_get xs place ≡ Some block
  pub is : e ≡ (f (i + place), assigned_by s block)

block-at : (s : Scope) (f : ℕ → Driver) (i : ℕ) (xs : List Statement) (e : Entry) → In (block_entries s f i xs) e → BlockAt s f i xs e
block-at s f i [] e h = absurd h
block-at s f i (x ∷ xs) e (inl h) =
    let same : i ≡ i + 0 = omega arith in
    record { place = 0; block = x; stands = refl; is = sym h ∙ ap (λ k. (f k, assigned_by s x)) same }
block-at s f i (x ∷ xs) e (inr h) =
    let a = block-at s f (suc i) xs e h in
    let same : suc i + a.place ≡ i + suc a.place = omega arith in
    record { place = suc a.place; block = a.block; stands = a.stands; is = a.is ∙ ap (λ k. (f k, assigned_by s a.block)) same }

-- ---- and that all stand there

nothing-at : {X A : Type 0} (x : X) → None ≡ Some x → A
nothing-at x h = absurd (false≢true (ap is_some h))

same-at : {X : Type 0} (x y : X) → Some x ≡ Some y → x ≡ y
same-at x y h = ap (λ o. unwrap_or o x) h

part-in : (s : Scope) (i j : ℕ) (ts : List Target) (y : ℕ) (t : Target) → slice_get ts y ≡ Some t → In (part_entries s i j ts) (assigned i (j + y), reached_by s t)
part-in s i j [] y t h = nothing-at t h
part-in s i j (x ∷ ts) zero t h =
    let same : j ≡ j + 0 = omega arith in
    inl (ap (λ z. (assigned i j, reached_by s z)) (same-at x t h) ∙ ap (λ k. (assigned i k, reached_by s t)) same)
part-in s i j (x ∷ ts) (suc y) t h =
    let same : suc j + y ≡ j + suc y = omega arith in
    inr (subst (λ k. In (part_entries s i (suc j) ts) (assigned i k, reached_by s t)) same (part-in s i (suc j) ts y t h))

link-in : (s : Scope) (i : ℕ) (links : List (Target × Expression)) (x y : ℕ) (a : Target × Expression) (t : Target)
    → slice_get links x ≡ Some a → slice_get (parts_of a.0) y ≡ Some t → In (link_entries s i links) (assigned (i + x) y, reached_by s t)
link-in s i [] x y a t h g = nothing-at a h
link-in s i (b ∷ links) zero y a t h g =
    let same : i ≡ i + 0 = omega arith in
    let none : 0 + y ≡ y = omega arith in
    let here = part-in s i 0 (parts_of b.0) y t (subst (λ (c : Target × Expression). slice_get (parts_of c.0) y ≡ Some t) (sym (same-at b a h)) g) in
    in-left (part_entries s i 0 (parts_of b.0)) (link_entries s (suc i) links) (assigned (i + 0) y, reached_by s t)
    (subst (λ k. In (part_entries s i 0 (parts_of b.0)) (assigned k y, reached_by s t)) same
    (subst (λ k. In (part_entries s i 0 (parts_of b.0)) (assigned i k, reached_by s t)) none here))
link-in s i (b ∷ links) (suc x) y a t h g =
    let same : suc i + x ≡ i + suc x = omega arith in
    in-right (part_entries s i 0 (parts_of b.0)) (link_entries s (suc i) links) (assigned (i + suc x) y, reached_by s t)
    (subst (λ k. In (link_entries s (suc i) links) (assigned k y, reached_by s t)) same (link-in s (suc i) links x y a t h g))

block-in : (s : Scope) (f : ℕ → Driver) (i : ℕ) (xs : List Statement) (y : ℕ) (x : Statement) → slice_get xs y ≡ Some x
    → In (block_entries s f i xs) (f (i + y), assigned_by s x)
block-in s f i [] y x h = nothing-at x h
block-in s f i (z ∷ xs) zero x h =
    let same : i ≡ i + 0 = omega arith in
    inl (ap (λ b. (f i, assigned_by s b)) (same-at z x h) ∙ ap (λ k. (f k, assigned_by s x)) same)
block-in s f i (z ∷ xs) (suc y) x h =
    let same : suc i + y ≡ i + suc y = omega arith in
    inr (subst (λ k. In (block_entries s f (suc i) xs) (f k, assigned_by s x)) same (block-in s f (suc i) xs y x h))

-- ---- the law

module _ (d : Design) (p : Placed) (alone : port_connections p.of_module.items ≡ []) where
  abbrev scope : Scope
  scope = placed_scope p

  abbrev links : List (Target × Expression)
  links = assignments p.of_module.items

  abbrev cs : List Statement
  cs = clocked_blocks p.of_module.items

  abbrev ms : List Statement
  ms = combinational_blocks p.of_module.items

  -- an entry's bit: its driver may drive it, and it is one of its name
  record IsDrivenBy (e : Entry) (n : Name) (k b : ℕ) : Type 0 where
    pub drives : MayDrive d p e.0 n k b
    pub is_bit : is_bit_of (scope n) k b ≡ true

  link-drives : (e : Entry) (n : Name) (k b : ℕ) → LinkAt scope 0 links e → e.1 n k b ≡ true → IsDrivenBy e n k b
  link-drives e n k b a h =
      let none : 0 + a.place ≡ a.place = omega arith in
      let is = a.is ∙ ap (λ z. (assigned z a.within, reached_by scope a.part)) none in
      let q = and_parts (is_bit_of (scope n) k b) (may_reach scope a.part n k b) (subst (λ (g : Entry). g.1 n k b ≡ true) is h) in
      record {
        drives = subst (λ (g : Entry). MayDrive d p g.0 n k b) (sym is) (a.link, a.part, a.stands, a.is_part, q.1);
        is_bit = q.0;
      }

  clocked-drives : (e : Entry) (n : Name) (k b : ℕ) → BlockAt scope clocked 0 cs e → e.1 n k b ≡ true → IsDrivenBy e n k b
  clocked-drives e n k b a h =
      let none : 0 + a.place ≡ a.place = omega arith in
      let is = a.is ∙ ap (λ z. (clocked z, assigned_by scope a.block)) none in
      let q = and_parts (is_bit_of (scope n) k b) (may_assign scope a.block n k b) (subst (λ (g : Entry). g.1 n k b ≡ true) is h) in
      record { drives = subst (λ (g : Entry). MayDrive d p g.0 n k b) (sym is) (a.block, a.stands, q.1); is_bit = q.0 }

  combinational-drives : (e : Entry) (n : Name) (k b : ℕ) → BlockAt scope combinational 0 ms e → e.1 n k b ≡ true → IsDrivenBy e n k b
  combinational-drives e n k b a h =
      let none : 0 + a.place ≡ a.place = omega arith in
      let is = a.is ∙ ap (λ z. (combinational z, assigned_by scope a.block)) none in
      let q = and_parts (is_bit_of (scope n) k b) (may_assign scope a.block n k b) (subst (λ (g : Entry). g.1 n k b ≡ true) is h) in
      record { drives = subst (λ (g : Entry). MayDrive d p g.0 n k b) (sym is) (a.block, a.stands, q.1); is_bit = q.0 }

  entry-drives : (e : Entry) (n : Name) (k b : ℕ) → In (entries scope p.of_module.items) e → e.1 n k b ≡ true → IsDrivenBy e n k b
  entry-drives e n k b i h =
      in-parts (link_entries scope 0 links) (block_entries scope clocked 0 cs ++ block_entries scope combinational 0 ms) e i
      (λ l. link-drives e n k b (link-at scope 0 links e l) h)
      (λ r. in-parts (block_entries scope clocked 0 cs) (block_entries scope combinational 0 ms) e r
      (λ l. clocked-drives e n k b (block-at scope clocked 0 cs e l) h)
      (λ m. combinational-drives e n k b (block-at scope combinational 0 ms e m) h))

  -- a driver's entry
  record EntryOf (x : Driver) (n : Name) (k b : ℕ) : Type 0 where
    pub bits : BitSet
    pub stands : In (entries scope p.of_module.items) (x, bits)
    pub has : bits n k b ≡ true

  entry-of : (x : Driver) (n : Name) (k b : ℕ) → MayDrive d p x n k b → is_bit_of (scope n) k b ≡ true → EntryOf x n k b
  entry-of (assigned i j) n k b (a, t, at, part, reach) bit =
      let none : 0 + i ≡ i = omega arith in
      record {
        bits = reached_by scope t;
        stands = in-left (link_entries scope 0 links) (block_entries scope clocked 0 cs ++ block_entries scope combinational 0 ms) (assigned i j, reached_by scope t)
            (subst (λ z. In (link_entries scope 0 links) (assigned z j, reached_by scope t)) none (link-in scope 0 links i j a t at part));
        has = and_from (is_bit_of (scope n) k b) (may_reach scope t n k b) bit reach;
      }
  entry-of (connected i j) n k b (c, whole, t, at, drives, part, reach) bit = nothing-at c (subst (λ (xs : List Connection). slice_get xs i ≡ Some c) alone at)
  entry-of (clocked i) n k b (x, at, may) bit =
      let none : 0 + i ≡ i = omega arith in
      record {
        bits = assigned_by scope x;
        stands = in-right (link_entries scope 0 links) (block_entries scope clocked 0 cs ++ block_entries scope combinational 0 ms) (clocked i, assigned_by scope x)
            (in-left (block_entries scope clocked 0 cs) (block_entries scope combinational 0 ms) (clocked i, assigned_by scope x)
            (subst (λ z. In (block_entries scope clocked 0 cs) (clocked z, assigned_by scope x)) none (block-in scope clocked 0 cs i x at)));
        has = and_from (is_bit_of (scope n) k b) (may_assign scope x n k b) bit may;
      }
  entry-of (combinational i) n k b (x, at, may) bit =
      let none : 0 + i ≡ i = omega arith in
      record {
        bits = assigned_by scope x;
        stands = in-right (link_entries scope 0 links) (block_entries scope clocked 0 cs ++ block_entries scope combinational 0 ms) (combinational i, assigned_by scope x)
            (in-right (block_entries scope clocked 0 cs) (block_entries scope combinational 0 ms) (combinational i, assigned_by scope x)
            (subst (λ z. In (block_entries scope combinational 0 ms) (combinational z, assigned_by scope x)) none (block-in scope combinational 0 ms i x at)));
        has = and_from (is_bit_of (scope n) k b) (may_assign scope x n k b) bit may;
      }

  two-drive : TwoOf scope (entries scope p.of_module.items) → HasTwoDrivers d p
  two-drive t =
      let m = t.meet in
      let one = entry-drives t.one m.name m.word m.bit t.one_in m.in_first in
      let other = entry-drives t.other m.name m.word2 m.bit2 t.other_in m.in_second in
      record {
        name = m.name;
        word = m.word;
        bit = m.bit;
        word2 = m.word2;
        bit2 = m.bit2;
        one = t.one.0;
        other = t.other.0;
        is_bit = one.is_bit;
        is_bit2 = other.is_bit;
        is_same = m.is_same;
        are_two = t.are_two;
        one_drives = one.drives;
        other_drives = other.drives;
      }

  drive-two : HasTwoDrivers d p → TwoMeet scope (sets_of (entries scope p.of_module.items))
  drive-two h =
      let one = entry-of h.one h.name h.word h.bit h.one_drives h.is_bit in
      let other = entry-of h.other h.name h.word2 h.bit2 h.other_drives h.is_bit2 in
      of-two scope (entries scope p.of_module.items) (h.one, one.bits) (h.other, other.bits) one.stands other.stands h.are_two
      (record { name = h.name; word = h.word; bit = h.bit; word2 = h.word2; bit2 = h.bit2; in_first = one.has; in_second = other.has; is_same = h.is_same })

  pub as-the-rule : HasTwoDrivers d p ↔ TwoMeet scope (drivers scope p.of_module.items)
  as-the-rule = (
    λ h. subst (TwoMeet scope) (sets-entries scope p.of_module.items) (drive-two h),
    λ h. two-drive (two-of scope (entries scope p.of_module.items) (entries-apart scope p.of_module.items) (subst (TwoMeet scope) (sym (sets-entries scope p.of_module.items)) h)),
  )
