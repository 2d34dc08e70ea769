-- A design, and a map, is refused by one rule alone: the first that it breaks.
use Rattle.std.proofs.Common.{◌≡◌, ◌∙◌, ℕ, ◌<◌, Bool, true, false, List, slice_get, Some, refl, sym, ap, arith}
use Rattle.std.specs.Prelude.{nat_lt}
use Rattle.std.proofs.lemmas.Bool.Decides.{nat_tests}
use Rattle.verilog_meaning.specs.Settled.{Design}
use Rattle.verilog_designs.specs.Accepted.{DesignKind, kinds, IsRefusedBy, no_top, undeclared, duplicate_name, bad_hierarchy, has_xz, bad_port, bad_constant, width_over_128, bad_select, memory_use, clock_as_data, bad_event_list, blocking_in_clocked, nonblocking_in_comb, latch, bad_driver, undriven, comb_loop}
use Rattle.map_files.specs.Meaning.{MapRule, BadJson, BadShape, UnknownKey, UnknownState, StateUnmapped, UnknownInput, InputUnmapped, BadExpression, WidthMismatch, MapUsesInput, MemoryMismatch, UnknownInstruction, BoundMissing, BadBound}
use Rattle.map_rules.specs.Case.{MapCase}
use Rattle.map_rules.specs.Accepted.{rules, BreaksMapRule, IsMapRefusedBy}

data Compared (i j : ℕ) : Type 0 where
  below : i < j → Compared i j
  same : i ≡ j → Compared i j
  above : j < i → Compared i j

compared : (i j : ℕ) → Compared i j
compared i j = by (nat_lt i j) (nat_lt j i) refl refl
  where
    by : (a b : Bool) → nat_lt i j ≡ a → nat_lt j i ≡ b → Compared i j
    by true b e f = below (grind (arith, nat_tests, e))
    by false true e f = above (grind (arith, nat_tests, f))
    by false false e f = same (grind (arith, nat_tests, e, f))

some_same : {A : Type 0} {x y : A} → Some x ≡ Some y → x ≡ y
some_same e = cc

-- what is first of a list by its place
first_is_one : {A : Type 0} (ks : List A) (Broken : A → Type 0) (i j : ℕ) (k l : A) → slice_get ks i ≡ Some k → slice_get ks j ≡ Some l → Broken k → Broken l
    → ((a b : ℕ) (x : A) → slice_get ks a ≡ Some x → slice_get ks b ≡ Some k → a < b → ¬ Broken x)
    → ((a b : ℕ) (x : A) → slice_get ks a ≡ Some x → slice_get ks b ≡ Some l → a < b → ¬ Broken x) → k ≡ l
first_is_one ks Broken i j k l at_i at_j broken_k broken_l first_k first_l = by (compared i j)
  where
    by : Compared i j → k ≡ l
    by (below h) = absurd (first_l i j k at_i at_j h broken_k)
    by (same h) = some_same (sym at_i ∙ (ap (slice_get ks) h ∙ at_j))
    by (above h) = absurd (first_k j i l at_j at_i h broken_l)

-- ---- designs

record IsAt {A : Type 0} (ks : List A) (k : A) : Type 0 where
  place : ℕ
  at : slice_get ks place ≡ Some k

kind_at : (k : DesignKind) → IsAt kinds k
kind_at no_top = record { place = 0; at = refl }
kind_at undeclared = record { place = 1; at = refl }
kind_at duplicate_name = record { place = 2; at = refl }
kind_at bad_hierarchy = record { place = 3; at = refl }
kind_at has_xz = record { place = 4; at = refl }
kind_at bad_port = record { place = 5; at = refl }
kind_at bad_constant = record { place = 6; at = refl }
kind_at width_over_128 = record { place = 7; at = refl }
kind_at bad_select = record { place = 8; at = refl }
kind_at memory_use = record { place = 9; at = refl }
kind_at clock_as_data = record { place = 10; at = refl }
kind_at bad_event_list = record { place = 11; at = refl }
kind_at blocking_in_clocked = record { place = 12; at = refl }
kind_at nonblocking_in_comb = record { place = 13; at = refl }
kind_at latch = record { place = 14; at = refl }
kind_at bad_driver = record { place = 15; at = refl }
kind_at undriven = record { place = 16; at = refl }
kind_at comb_loop = record { place = 17; at = refl }

pub one_design_kind : (d : Design) (k l : DesignKind) → IsRefusedBy d k → IsRefusedBy d l → k ≡ l
one_design_kind d k l h g =
    let x : IsAt kinds k = kind_at k in
    let y : IsAt kinds l = kind_at l in
    first_is_one kinds (Rattle.verilog_designs.specs.Accepted.Breaks d) x.place y.place k l x.at y.at h.breaks g.breaks h.first g.first

-- ---- maps

rule_at : (c : MapCase) (r : MapRule) → BreaksMapRule c r → IsAt rules r
rule_at c BadJson h = absurd h
rule_at c BadShape h = absurd h
rule_at c UnknownKey h = absurd h
rule_at c UnknownState h = record { place = 0; at = refl }
rule_at c StateUnmapped h = record { place = 1; at = refl }
rule_at c UnknownInput h = record { place = 2; at = refl }
rule_at c InputUnmapped h = record { place = 3; at = refl }
rule_at c BadExpression h = record { place = 4; at = refl }
rule_at c WidthMismatch h = record { place = 5; at = refl }
rule_at c MapUsesInput h = record { place = 6; at = refl }
rule_at c MemoryMismatch h = record { place = 7; at = refl }
rule_at c UnknownInstruction h = record { place = 8; at = refl }
rule_at c BoundMissing h = record { place = 9; at = refl }
rule_at c BadBound h = record { place = 10; at = refl }

pub one_map_rule : (c : MapCase) (k l : MapRule) → IsMapRefusedBy c k → IsMapRefusedBy c l → k ≡ l
one_map_rule c k l h g =
    let x : IsAt rules k = rule_at c k h.breaks in
    let y : IsAt rules l = rule_at c l g.breaks in
    first_is_one rules (BreaksMapRule c) x.place y.place k l x.at y.at h.breaks g.breaks h.first g.first
