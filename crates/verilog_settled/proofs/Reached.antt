-- What a run leaves of a value: its kind, and each bit that it may not assign.
use Rattle.std.proofs.Common.{◌≡◌, ℕ, ◌/◌, ◌%◌, ◌^◌, ◌<◌, ◌≤◌, max, Bool, true, false, cond, ◌&&◌, ◌⊎◌, inl, inr, refl, sym, ap, ◌∙◌, subst, List, [], ◌∷◌, ◌++◌}
use Rattle.std.proofs.lemmas.Bool.{cases_lt, cases_Bool, or_parts, and_cases, false≢true}
use Rattle.wb_values.specs.Value.{Name, same_name, Value, truth_value, number as a_number, words, Valuation}
use Rattle.verilog_trees.specs.Syntax.{Target, place, joined, Targets, no_targets, target, CaseKind, Statement, empty, blocking, nonblocking, if_then, if_else, case, block, Statements, no_statements, statement, CaseItems, no_items, arm, default_arm}
use Rattle.verilog_meaning.specs.Expression.{Scope, object_width, sign_of, width_of, value_of, is_true, assigned_value}
use Rattle.verilog_meaning.specs.Statement.{Place, named_place, places, all_places, places_width, target_width, written_cell, written, Effect, unchanged, items_width, items_signed, any_matches, run, run_all, run_case}
use Rattle.verilog_meaning.specs.Register.{may_mean, may_reach, may_reach_one, may_assign, may_assign_in_all, may_assign_in_case, value_bit}
use Rattle.verilog_settled.specs.Locality.{HasNoConstantMemory}
use Rattle.verilog_settled.proofs.Values.{Alike}
use Rattle.verilog_settled.proofs.Cells.{Spoiled, never_spoiled, high_unset, covers, bit_stays}
use Rattle.verilog_settled.proofs.Places.{place_name}
use Rattle.verilog_settled.proofs.Written.{Kind, AreFit, target_fits, written_kind, before_place, at_name, off_name, same_from, never_covers}

-- ---- kinds

chosen_kind : (s : Scope) (n : Name) (z : Value) (t : Bool) (x y : Effect) → Kind s n z (x.valuation n) → Kind s n z (y.valuation n)
    → Kind s n z ((cond t x y).valuation n)
chosen_kind s n z true x y h k = h
chosen_kind s n z false x y h k = k

mutual
  pub run_kind : (s : Scope) (x : Statement) (v : Valuation) (n : Name) (z : Value) → Kind s n z (v n) → Kind s n z ((run s x v).valuation n)
  run_kind s empty v n z h = h
  run_kind s (blocking t e) v n z h = written_kind s v (places s v t) (assigned_value s v (target_width s t) e) n z (target_fits s v t) h
  run_kind s (nonblocking t e) v n z h = h
  run_kind s (if_then c x) v n z h = chosen_kind s n z (is_true s v c) (run s x v) (unchanged v) (run_kind s x v n z h) h
  run_kind s (if_else c x y) v n z h = chosen_kind s n z (is_true s v c) (run s x v) (run s y v) (run_kind s x v n z h) (run_kind s y v n z h)
  run_kind s (case kind e items) v n z h =
      case_kind s v kind (max (width_of s e) (items_width s items)) (sign_of s e && items_signed s items)
      (value_of s v e (max (width_of s e) (items_width s items)) (sign_of s e && items_signed s items)) items (unchanged v) n z h h
  run_kind s (block m xs) v n z h = all_kind s xs v n z h

  pub all_kind : (s : Scope) (xs : Statements) (v : Valuation) (n : Name) (z : Value) → Kind s n z (v n) → Kind s n z ((run_all s xs v).valuation n)
  all_kind s no_statements v n z h = h
  all_kind s (statement x xs) v n z h = all_kind s xs (run s x v).valuation n z (run_kind s x v n z h)

  case_kind : (s : Scope) (v : Valuation) (kind : CaseKind) (width : ℕ) (signed : Bool) (a : ℕ) (items : CaseItems) (o : Effect) (n : Name) (z : Value)
      → Kind s n z (v n) → Kind s n z (o.valuation n) → Kind s n z ((run_case s v kind width signed a items o).valuation n)
  case_kind s v kind width signed a no_items o n z h k = k
  case_kind s v kind width signed a (arm es y items) o n z h k =
      chosen_kind s n z (any_matches s v kind width signed a es) (run s y v) (run_case s v kind width signed a items o) (run_kind s y v n z h)
      (case_kind s v kind width signed a items o n z h k)
  case_kind s v kind width signed a (default_arm y items) o n z h k = case_kind s v kind width signed a items (run s y v) n z h (run_kind s y v n z h)

-- what is never a kind: so a spoiled value is told alone
abbrev no_kind : Value
no_kind = truth_value true

only_spoiled : (s : Scope) (n : Name) (x : Value) → Kind s n no_kind x → Spoiled (s n) x
only_spoiled s n x (inr h) = h
only_spoiled s n (a_number m) (inl h) = absurd h
only_spoiled s n (words xs) (inl h) = absurd h
only_spoiled s n (truth_value b) (inl h) = absurd h

-- what statements leave unspoiled was not spoiled before
pub before_all : (s : Scope) (xs : Statements) (v : Valuation) (n : Name) (z : Value) → Kind s n z (v n) → Alike (s n) z ((run_all s xs v).valuation n)
    → Alike (s n) z (v n)
before_all s xs v n z (inl h) k = h
before_all s xs v n z (inr h) k =
    absurd (never_spoiled (s n) z ((run_all s xs v).valuation n) k
    (only_spoiled s n ((run_all s xs v).valuation n) (all_kind s xs v n no_kind (inr h))))

-- ---- bits that a target does not reach

-- no place has the bit
abbrev AreApart : Name → (word place : ℕ) → List Place → Type 0
AreApart n k b [] = Unit {0}
AreApart n k b (p ∷ ps) = (same_name p.of_name n ≡ true → covers p.cell p.bits k b ≡ false) × AreApart n k b ps

apart_append : (n : Name) (k b : ℕ) (ps qs : List Place) → AreApart n k b ps → AreApart n k b qs → AreApart n k b (ps ++ qs)
apart_append n k b [] qs h g = g
apart_append n k b (p ∷ ps) qs h g = (h.0, apart_append n k b ps qs h.1 g)

mutual
  target_apart : (s : Scope) (v : Valuation) → HasNoConstantMemory s → (t : Target) (n : Name) (k b : ℕ) → may_reach s t n k b ≡ false
      → AreApart n k b (places s v t)
  target_apart s v p (place m x) n k b h = (at_same, tt)
    where
      by_name : (m ≡ n) → (same_name m n ≡ false) ⊎ (may_mean s (s m) x k b ≡ false) → same_name m n ≡ true
          → covers (named_place s v m x).cell (named_place s v m x).bits k b ≡ false
      by_name e (inl g) f = absurd (false≢true (sym g ∙ f))
      by_name e (inr g) f = never_covers s v p m x k b g

      at_same : same_name (named_place s v m x).of_name n ≡ true → covers (named_place s v m x).cell (named_place s v m x).bits k b ≡ false
      at_same e =
          let f : same_name m n ≡ true = sym (ap (λ i. same_name i n) (place_name s v m x)) ∙ e in
          by_name (same_from m n f) (and_cases (same_name m n) (may_mean s (s m) x k b) h) f
  target_apart s v p (joined ts) n k b h = targets_apart s v p ts n k b h

  targets_apart : (s : Scope) (v : Valuation) → HasNoConstantMemory s → (ts : Targets) (n : Name) (k b : ℕ) → may_reach_one s ts n k b ≡ false
      → AreApart n k b (all_places s v ts)
  targets_apart s v p no_targets n k b h = tt
  targets_apart s v p (target t ts) n k b h =
      apart_append n k b (places s v t) (all_places s v ts) (target_apart s v p t n k b (or_parts (may_reach s t n k b) (may_reach_one s ts n k b) h).0)
      (targets_apart s v p ts n k b (or_parts (may_reach s t n k b) (may_reach_one s ts n k b) h).1)

-- the bit stays where no place has it
written_apart : (s : Scope) (v : Valuation) (ps : List Place) (a : ℕ) (n : Name) (k b : ℕ) (z : Value) → AreFit s ps → AreApart n k b ps
    → Alike (s n) z (v n) → Alike (s n) z (written s v ps a n) → value_bit (written s v ps a n) k b ≡ value_bit (v n) k b
written_apart s v [] a n k b z f h kv ka = refl
written_apart s v (p ∷ ps) a n k b z f h kv ka =
    last (cases_Bool (same_name p.of_name n)) (cases_lt b (object_width (s n)))
    ∙ written_apart s v ps (a % 2 ^ places_width ps) n k b z f.1 h.1 kv middle
  where
    middle : Alike (s n) z (written s v ps (a % 2 ^ places_width ps) n)
    middle =
        before_place s (written s v ps (a % 2 ^ places_width ps)) p (a / 2 ^ places_width ps) n z
        (written_kind s v ps (a % 2 ^ places_width ps) n z f.1 (inl kv)) ka

    last : (same_name p.of_name n ≡ true) ⊎ (same_name p.of_name n ≡ false) → (b < object_width (s n)) ⊎ (object_width (s n) ≤ b)
        → value_bit (written s v (p ∷ ps) a n) k b ≡ value_bit (written s v ps (a % 2 ^ places_width ps) n) k b
    last (inr e) l = ap (λ x. value_bit x k b) (off_name s (written s v ps (a % 2 ^ places_width ps)) p (a / 2 ^ places_width ps) n e)
    last (inl e) (inr l) =
        high_unset (s n) z (written s v (p ∷ ps) a n) k b ka l ∙ sym (high_unset (s n) z (written s v ps (a % 2 ^ places_width ps) n) k b middle l)
    last (inl e) (inl l) =
        let g : written s v (p ∷ ps) a n ≡ written_cell (s n) (written s v ps (a % 2 ^ places_width ps) n) p.cell p.bits (a / 2 ^ places_width ps) =
        at_name s (written s v ps (a % 2 ^ places_width ps)) p (a / 2 ^ places_width ps) n e in
        ap (λ x. value_bit x k b) g
        ∙ bit_stays (s n) z (written s v ps (a % 2 ^ places_width ps) n) p.cell p.bits (a / 2 ^ places_width ps) k b middle (subst (Alike (s n) z) g ka) l (h.0 e)

-- ---- bits that a statement may not assign

chosen_bit : (s : Scope) (n : Name) (k b : ℕ) (z old : Value) (t : Bool) (x y : Effect)
    → (Alike (s n) z (x.valuation n) → value_bit (x.valuation n) k b ≡ value_bit old k b)
    → (Alike (s n) z (y.valuation n) → value_bit (y.valuation n) k b ≡ value_bit old k b)
    → Alike (s n) z ((cond t x y).valuation n) → value_bit ((cond t x y).valuation n) k b ≡ value_bit old k b
chosen_bit s n k b z old true x y f g h = f h
chosen_bit s n k b z old false x y f g h = g h

mutual
  pub run_apart : (s : Scope) → HasNoConstantMemory s → (x : Statement) (v : Valuation) (n : Name) (k b : ℕ) (z : Value) → may_assign s x n k b ≡ false
      → Alike (s n) z (v n) → Alike (s n) z ((run s x v).valuation n) → value_bit ((run s x v).valuation n) k b ≡ value_bit (v n) k b
  run_apart s p empty v n k b z h kv ka = refl
  run_apart s p (blocking t e) v n k b z h kv ka =
      written_apart s v (places s v t) (assigned_value s v (target_width s t) e) n k b z (target_fits s v t) (target_apart s v p t n k b h) kv ka
  run_apart s p (nonblocking t e) v n k b z h kv ka = refl
  run_apart s p (if_then c x) v n k b z h kv ka =
      chosen_bit s n k b z (v n) (is_true s v c) (run s x v) (unchanged v) (λ g. run_apart s p x v n k b z h kv g) (λ g. refl) ka
  run_apart s p (if_else c x y) v n k b z h kv ka =
      chosen_bit s n k b z (v n) (is_true s v c) (run s x v) (run s y v)
      (λ g. run_apart s p x v n k b z (or_parts (may_assign s x n k b) (may_assign s y n k b) h).0 kv g)
      (λ g. run_apart s p y v n k b z (or_parts (may_assign s x n k b) (may_assign s y n k b) h).1 kv g) ka
  run_apart s p (case kind e items) v n k b z h kv ka =
      case_apart s p v kind (max (width_of s e) (items_width s items)) (sign_of s e && items_signed s items)
      (value_of s v e (max (width_of s e) (items_width s items)) (sign_of s e && items_signed s items)) items (unchanged v) n k b z h kv (λ g. refl) ka
  run_apart s p (block m xs) v n k b z h kv ka = all_apart s p xs v n k b z h kv ka

  all_apart : (s : Scope) → HasNoConstantMemory s → (xs : Statements) (v : Valuation) (n : Name) (k b : ℕ) (z : Value) → may_assign_in_all s xs n k b ≡ false
      → Alike (s n) z (v n) → Alike (s n) z ((run_all s xs v).valuation n) → value_bit ((run_all s xs v).valuation n) k b ≡ value_bit (v n) k b
  all_apart s p no_statements v n k b z h kv ka = refl
  all_apart s p (statement x xs) v n k b z h kv ka =
      let middle : Alike (s n) z ((run s x v).valuation n) =
      before_all s xs (run s x v).valuation n z (run_kind s x v n z (inl kv)) ka in
      all_apart s p xs (run s x v).valuation n k b z (or_parts (may_assign s x n k b) (may_assign_in_all s xs n k b) h).1 middle ka
      ∙ run_apart s p x v n k b z (or_parts (may_assign s x n k b) (may_assign_in_all s xs n k b) h).0 kv middle

  pub case_apart : (s : Scope) → HasNoConstantMemory s → (v : Valuation) (kind : CaseKind) (width : ℕ) (signed : Bool) (a : ℕ) (items : CaseItems) (o : Effect)
      (n : Name) (k b : ℕ) (z : Value) → may_assign_in_case s items n k b ≡ false → Alike (s n) z (v n)
      → (Alike (s n) z (o.valuation n) → value_bit (o.valuation n) k b ≡ value_bit (v n) k b)
      → Alike (s n) z ((run_case s v kind width signed a items o).valuation n)
      → value_bit ((run_case s v kind width signed a items o).valuation n) k b ≡ value_bit (v n) k b
  case_apart s p v kind width signed a no_items o n k b z h kv f ka = f ka
  case_apart s p v kind width signed a (arm es y items) o n k b z h kv f ka =
      chosen_bit s n k b z (v n) (any_matches s v kind width signed a es) (run s y v) (run_case s v kind width signed a items o)
      (λ g. run_apart s p y v n k b z (or_parts (may_assign s y n k b) (may_assign_in_case s items n k b) h).0 kv g)
      (λ g. case_apart s p v kind width signed a items o n k b z (or_parts (may_assign s y n k b) (may_assign_in_case s items n k b) h).1 kv f g) ka
  case_apart s p v kind width signed a (default_arm y items) o n k b z h kv f ka =
      case_apart s p v kind width signed a items (run s y v) n k b z (or_parts (may_assign s y n k b) (may_assign_in_case s items n k b) h).1 kv
      (λ g. run_apart s p y v n k b z (or_parts (may_assign s y n k b) (may_assign_in_case s items n k b) h).0 kv g) ka
