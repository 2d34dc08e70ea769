-- What writes and runs leave: values of other names, bits that a target does not reach, and values of what is no memory.
use Rattle.std.proofs.Common.{◌≡◌, ℕ, ◌/◌, ◌%◌, ◌^◌, ◌<◌, ◌≤◌, max, Bool, true, false, cond, ◌&&◌, ◌⊎◌, inl, inr, refl, sym, ap, ◌∙◌, subst, List, [], ◌∷◌, ◌++◌}
use Rattle.std.proofs.lemmas.Bool.{cases_lt, cases_Bool, or_parts, and_cases, false≢true}
use Rattle.wb_values.specs.Value.{Name, same_name, Value, truth_value, number as a_number, words, Valuation}
use Rattle.verilog_trees.specs.Syntax.{Target, place, joined, Targets, no_targets, target, CaseKind, Statement, empty, blocking, nonblocking, if_then, if_else, case, block, Statements, no_statements, statement, CaseItems, no_items, arm, default_arm}
use Rattle.verilog_meaning.specs.Expression.{Object, Scope, object_width, is_memory, sign_of, width_of, value_of, is_true, assigned_value}
use Rattle.verilog_meaning.specs.Statement.{Place, named_place, places, all_places, places_width, target_width, written_cell, written, Effect, unchanged, items_width, items_signed, any_matches, run, run_all, run_case}
use Rattle.verilog_meaning.specs.Register.{may_mean, may_reach, may_reach_one, value_bit}
use Rattle.verilog_meaning.specs.Settled.{IsValueOf}
use Rattle.verilog_designs.specs.Drivers.{target_names, targets_names, assigned_names, assigned_in_all, assigned_in_arms}
use Rattle.verilog_settled.specs.Locality.{HasNoConstantMemory}
use Rattle.verilog_settled.proofs.Values.{Alike, alike_values}
use Rattle.verilog_settled.proofs.Cells.{Spoiled, high_unset, covers, bit_stays}
use Rattle.verilog_settled.proofs.Places.{place_name}
use Rattle.verilog_settled.proofs.Written.{AreFit, target_fits, written_kind, before_place, at_name, off_name, same_from, never_covers}
use Rattle.verilog_settled.proofs.Reached.{run_kind}
use Rattle.verilog_unique.proofs.Options.{not_true}
use Rattle.verilog_unique.proofs.Descent.{IsAmong, among_left, among_right}

-- ---- other names

-- no place has the name
abbrev AreElsewhere : Name → List Place → Type 0
AreElsewhere n [] = Unit {0}
AreElsewhere n (p ∷ ps) = (same_name p.of_name n ≡ false) × AreElsewhere n ps

elsewhere_append : (n : Name) (ps qs : List Place) → AreElsewhere n ps → AreElsewhere n qs → AreElsewhere n (ps ++ qs)
elsewhere_append n [] qs h g = g
elsewhere_append n (p ∷ ps) qs h g = (h.0, elsewhere_append n ps qs h.1 g)

mutual
  target_elsewhere : (s : Scope) (v : Valuation) (t : Target) (n : Name) → ¬ IsAmong (target_names t) n → AreElsewhere n (places s v t)
  target_elsewhere s v (place m x) n h =
      (ap (λ i. same_name i n) (place_name s v m x) ∙ not_true (same_name m n) (λ e. h (inl (same_from m n e))), tt)
  target_elsewhere s v (joined ts) n h = targets_elsewhere s v ts n h

  targets_elsewhere : (s : Scope) (v : Valuation) (ts : Targets) (n : Name) → ¬ IsAmong (targets_names ts) n → AreElsewhere n (all_places s v ts)
  targets_elsewhere s v no_targets n h = tt
  targets_elsewhere s v (target t ts) n h =
      elsewhere_append n (places s v t) (all_places s v ts)
      (target_elsewhere s v t n (λ k. h (among_left (target_names t) (targets_names ts) n k)))
      (targets_elsewhere s v ts n (λ k. h (among_right (target_names t) (targets_names ts) n k)))

written_elsewhere : (s : Scope) (v : Valuation) (ps : List Place) (a : ℕ) (n : Name) → AreElsewhere n ps → written s v ps a n ≡ v n
written_elsewhere s v [] a n h = refl
written_elsewhere s v (p ∷ ps) a n h =
    off_name s (written s v ps (a % 2 ^ places_width ps)) p (a / 2 ^ places_width ps) n h.0 ∙ written_elsewhere s v ps (a % 2 ^ places_width ps) n h.1

pub unwritten : (s : Scope) (v : Valuation) (t : Target) (a : ℕ) (n : Name) → ¬ IsAmong (target_names t) n → written s v (places s v t) a n ≡ v n
unwritten s v t a n h = written_elsewhere s v (places s v t) a n (target_elsewhere s v t n h)

chosen_same : (n : Name) (old : Value) (t : Bool) (x y : Effect) → x.valuation n ≡ old → y.valuation n ≡ old → (cond t x y).valuation n ≡ old
chosen_same n old true x y e f = e
chosen_same n old false x y e f = f

mutual
  pub unassigned : (s : Scope) (x : Statement) (v : Valuation) (n : Name) → ¬ IsAmong (assigned_names x) n → (run s x v).valuation n ≡ v n
  unassigned s empty v n h = refl
  unassigned s (blocking t e) v n h = unwritten s v t (assigned_value s v (target_width s t) e) n h
  unassigned s (nonblocking t e) v n h = refl
  unassigned s (if_then c x) v n h = chosen_same n (v n) (is_true s v c) (run s x v) (unchanged v) (unassigned s x v n h) refl
  unassigned s (if_else c x y) v n h =
      chosen_same n (v n) (is_true s v c) (run s x v) (run s y v)
      (unassigned s x v n (λ k. h (among_left (assigned_names x) (assigned_names y) n k)))
      (unassigned s y v n (λ k. h (among_right (assigned_names x) (assigned_names y) n k)))
  unassigned s (case kind e items) v n h =
      unassigned_case s v kind (max (width_of s e) (items_width s items)) (sign_of s e && items_signed s items)
      (value_of s v e (max (width_of s e) (items_width s items)) (sign_of s e && items_signed s items)) items (unchanged v) n h refl
  unassigned s (block m xs) v n h = unassigned_all s xs v n h

  unassigned_all : (s : Scope) (xs : Statements) (v : Valuation) (n : Name) → ¬ IsAmong (assigned_in_all xs) n → (run_all s xs v).valuation n ≡ v n
  unassigned_all s no_statements v n h = refl
  unassigned_all s (statement x xs) v n h =
      unassigned_all s xs (run s x v).valuation n (λ k. h (among_right (assigned_names x) (assigned_in_all xs) n k))
      ∙ unassigned s x v n (λ k. h (among_left (assigned_names x) (assigned_in_all xs) n k))

  unassigned_case : (s : Scope) (v : Valuation) (kind : CaseKind) (width : ℕ) (signed : Bool) (a : ℕ) (items : CaseItems) (o : Effect) (n : Name)
      → ¬ IsAmong (assigned_in_arms items) n → o.valuation n ≡ v n → (run_case s v kind width signed a items o).valuation n ≡ v n
  unassigned_case s v kind width signed a no_items o n h f = f
  unassigned_case s v kind width signed a (arm es y items) o n h f =
      chosen_same n (v n) (any_matches s v kind width signed a es) (run s y v) (run_case s v kind width signed a items o)
      (unassigned s y v n (λ k. h (among_left (assigned_names y) (assigned_in_arms items) n k)))
      (unassigned_case s v kind width signed a items o n (λ k. h (among_right (assigned_names y) (assigned_in_arms items) n k)) f)
  unassigned_case s v kind width signed a (default_arm y items) o n h f =
      unassigned_case s v kind width signed a items (run s y v) n (λ k. h (among_right (assigned_names y) (assigned_in_arms items) n k))
      (unassigned s y v n (λ k. h (among_left (assigned_names y) (assigned_in_arms items) n k)))

-- ---- values of what is no memory

-- what stays of a value's kind is a value of what is no memory
pub value_of_kind : (o : Object) (z x : Value) → is_memory o ≡ false → Alike o z x ⊎ Spoiled o x → IsValueOf o x
value_of_kind o (a_number z) (a_number x) e (inl h) = (h.0, h.2)
value_of_kind o (words zs) (words xs) e (inl h) = absurd (false≢true (sym e ∙ h.0))
value_of_kind o (a_number z) (words xs) e (inl h) = absurd h
value_of_kind o (a_number z) (truth_value t) e (inl h) = absurd h
value_of_kind o (words zs) (a_number x) e (inl h) = absurd h
value_of_kind o (words zs) (truth_value t) e (inl h) = absurd h
value_of_kind o (truth_value b) (a_number x) e (inl h) = absurd h
value_of_kind o (truth_value b) (words xs) e (inl h) = absurd h
value_of_kind o (truth_value b) (truth_value t) e (inl h) = absurd h
value_of_kind o z x e (inr h) = absurd (false≢true (sym e ∙ h.0))

pub written_fits : (s : Scope) (v : Valuation) (t : Target) (a : ℕ) (n : Name) → is_memory (s n) ≡ false → IsValueOf (s n) (v n)
    → IsValueOf (s n) (written s v (places s v t) a n)
written_fits s v t a n e h =
    value_of_kind (s n) (v n) (written s v (places s v t) a n) e
    (written_kind s v (places s v t) a n (v n) (target_fits s v t) (inl (alike_values (s n) (v n) (v n) h h)))

-- a run leaves each name a value of its object, where it assigns no memory
pub run_fits : (s : Scope) (x : Statement) (v : Valuation) (n : Name) → (IsAmong (assigned_names x) n → is_memory (s n) ≡ false) → IsValueOf (s n) (v n)
    → IsValueOf (s n) ((run s x v).valuation n)
run_fits s x v n f h = by_kind (cases_Bool (is_memory (s n)))
  where
    by_kind : (is_memory (s n) ≡ true) ⊎ (is_memory (s n) ≡ false) → IsValueOf (s n) ((run s x v).valuation n)
    by_kind (inl e) = subst (IsValueOf (s n)) (sym (unassigned s x v n (λ k. false≢true (sym (f k) ∙ e)))) h
    by_kind (inr e) =
        value_of_kind (s n) (v n) ((run s x v).valuation n) e (run_kind s x v n (v n) (inl (alike_values (s n) (v n) (v n) h h)))

-- ---- bits that a target does not reach

-- no place has the bit
abbrev AreApart : Name → (word place : ℕ) → List Place → Type 0
AreApart n k b [] = Unit {0}
AreApart n k b (p ∷ ps) = (same_name p.of_name n ≡ true → covers p.cell p.bits k b ≡ false) × AreApart n k b ps

apart_append : (n : Name) (k b : ℕ) (ps qs : List Place) → AreApart n k b ps → AreApart n k b qs → AreApart n k b (ps ++ qs)
apart_append n k b [] qs h g = g
apart_append n k b (p ∷ ps) qs h g = (h.0, apart_append n k b ps qs h.1 g)

mutual
  target_apart : (s : Scope) (v : Valuation) → HasNoConstantMemory s → (t : Target) (n : Name) (k b : ℕ) → may_reach s t n k b ≡ false
      → AreApart n k b (places s v t)
  target_apart s v p (place m x) n k b h = (at_same, tt)
    where
      by_name : (m ≡ n) → (same_name m n ≡ false) ⊎ (may_mean s (s m) x k b ≡ false) → same_name m n ≡ true
          → covers (named_place s v m x).cell (named_place s v m x).bits k b ≡ false
      by_name e (inl g) f = absurd (false≢true (sym g ∙ f))
      by_name e (inr g) f = never_covers s v p m x k b g

      at_same : same_name (named_place s v m x).of_name n ≡ true → covers (named_place s v m x).cell (named_place s v m x).bits k b ≡ false
      at_same e =
          let f : same_name m n ≡ true = sym (ap (λ i. same_name i n) (place_name s v m x)) ∙ e in
          by_name (same_from m n f) (and_cases (same_name m n) (may_mean s (s m) x k b) h) f
  target_apart s v p (joined ts) n k b h = targets_apart s v p ts n k b h

  targets_apart : (s : Scope) (v : Valuation) → HasNoConstantMemory s → (ts : Targets) (n : Name) (k b : ℕ) → may_reach_one s ts n k b ≡ false
      → AreApart n k b (all_places s v ts)
  targets_apart s v p no_targets n k b h = tt
  targets_apart s v p (target t ts) n k b h =
      apart_append n k b (places s v t) (all_places s v ts) (target_apart s v p t n k b (or_parts (may_reach s t n k b) (may_reach_one s ts n k b) h).0)
      (targets_apart s v p ts n k b (or_parts (may_reach s t n k b) (may_reach_one s ts n k b) h).1)

-- the bit stays where no place has it
written_apart : (s : Scope) (v : Valuation) (ps : List Place) (a : ℕ) (n : Name) (k b : ℕ) (z : Value) → AreFit s ps → AreApart n k b ps
    → Alike (s n) z (v n) → Alike (s n) z (written s v ps a n) → value_bit (written s v ps a n) k b ≡ value_bit (v n) k b
written_apart s v [] a n k b z f h kv ka = refl
written_apart s v (p ∷ ps) a n k b z f h kv ka =
    last (cases_Bool (same_name p.of_name n)) (cases_lt b (object_width (s n)))
    ∙ written_apart s v ps (a % 2 ^ places_width ps) n k b z f.1 h.1 kv middle
  where
    middle : Alike (s n) z (written s v ps (a % 2 ^ places_width ps) n)
    middle =
        before_place s (written s v ps (a % 2 ^ places_width ps)) p (a / 2 ^ places_width ps) n z
        (written_kind s v ps (a % 2 ^ places_width ps) n z f.1 (inl kv)) ka

    last : (same_name p.of_name n ≡ true) ⊎ (same_name p.of_name n ≡ false) → (b < object_width (s n)) ⊎ (object_width (s n) ≤ b)
        → value_bit (written s v (p ∷ ps) a n) k b ≡ value_bit (written s v ps (a % 2 ^ places_width ps) n) k b
    last (inr e) l = ap (λ x. value_bit x k b) (off_name s (written s v ps (a % 2 ^ places_width ps)) p (a / 2 ^ places_width ps) n e)
    last (inl e) (inr l) =
        high_unset (s n) z (written s v (p ∷ ps) a n) k b ka l ∙ sym (high_unset (s n) z (written s v ps (a % 2 ^ places_width ps) n) k b middle l)
    last (inl e) (inl l) =
        let g : written s v (p ∷ ps) a n ≡ written_cell (s n) (written s v ps (a % 2 ^ places_width ps) n) p.cell p.bits (a / 2 ^ places_width ps) =
        at_name s (written s v ps (a % 2 ^ places_width ps)) p (a / 2 ^ places_width ps) n e in
        ap (λ x. value_bit x k b) g
        ∙ bit_stays (s n) z (written s v ps (a % 2 ^ places_width ps) n) p.cell p.bits (a / 2 ^ places_width ps) k b middle (subst (Alike (s n) z) g ka) l (h.0 e)

-- A bit stays that the target may not reach.
pub unreached : (s : Scope) → HasNoConstantMemory s → (v : Valuation) (t : Target) (a : ℕ) (n : Name) (k b : ℕ) → may_reach s t n k b ≡ false
    → IsValueOf (s n) (v n) → IsValueOf (s n) (written s v (places s v t) a n) → value_bit (written s v (places s v t) a n) k b ≡ value_bit (v n) k b
unreached s p v t a n k b e h g =
    written_apart s v (places s v t) a n k b (v n) (target_fits s v t) (target_apart s v p t n k b e) (alike_values (s n) (v n) (v n) h h)
    (alike_values (s n) (v n) (written s v (places s v t) a n) h g)
