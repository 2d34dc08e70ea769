-- Marks say which names are set.
use Rattle.std.proofs.Common.{◌≡◌, ℕ, zero, suc, ◌+◌, ◌<◌, Bool, true, false, nat_lt, ◌||◌, List, [], ◌∷◌, map, length, drop, cond, Option, Some, None, option_map, arith, refl, ap, sym, ◌∙◌}
use Rattle.std.specs.Prelude.{◌==◌, replicate, slice_set}
use Rattle.std.specs.List.{list_any, list_all}
use Rattle.std.proofs.lemmas.List.{length-map}
use Rattle.scripts.specs.Script as meaning
use Rattle.scripts.specs.Script.{sets_name}
use Rattle.wb_values.specs.Value.{same_name}
use Rattle.ila_sim.specs.declared.names.Settable.{Settable}
use Rattle.ila_sim.specs.declared.set.Set.{Set}
use Rattle.ila_sim.specs.Lines.{sets_view}
use Rattle.ila_sim.specs.Faults.{first_left_out}
use Rattle.ila_sim.specs.Marks.{marks_of, first_unmarked}
use Rattle.ila_sim.specs.Names.{are_apart, settable_of}
use Rattle.ila_sim.specs.Places.{called_at}
use Rattle.ila_sim.specs.Sets.{set_at, are_within}
use Rattle.ila_sim.proofs.Apart.{same_place, test_same, test_apart, is_less, left_part, right_part}

abbrev is_marked : List Set → ℕ → Bool
is_marked sets k = list_any (λ s. s.place == k) sets

abbrev with_marks : ℕ → List Bool → List Set → List Bool
with_marks j [] sets = []
with_marks j (b ∷ bs) sets = (b || is_marked sets j) ∷ with_marks (suc j) bs sets

or_false : (b : Bool) → (b || false) ≡ b
or_false true = refl
or_false false = refl

or_true : (b m : Bool) → (b || (true || m)) ≡ true
or_true true m = refl
or_true false m = refl

no_marks : (j : ℕ) (xs : List Bool) → with_marks j xs [] ≡ xs
no_marks j [] = refl
no_marks j (b ∷ bs) = rw (or_false b, no_marks (suc j) bs) refl

before_marks : (j : ℕ) (xs : List Bool) (s : Set) (sets : List Set) → s.place < j → with_marks j xs sets ≡ with_marks j xs (s ∷ sets)
before_marks j [] s sets h = refl
before_marks j (b ∷ bs) s sets h =
    let other : (s.place == j) ≡ false = test_apart s.place j (λ e. omega (arith, e, h)) in
    rw (other, before_marks (suc j) bs s sets (omega (arith, h))) refl

one_mark : (j p : ℕ) (xs : List Bool) (s : Set) (sets : List Set) → s.place ≡ j + p → with_marks j (slice_set xs p true) sets ≡ with_marks j xs (s ∷ sets)
one_mark j p [] s sets h = refl
one_mark j zero (b ∷ bs) s sets h =
    let here : (s.place == j) ≡ true = test_same s.place j (omega (arith, h)) in
    rw (here, or_true b (is_marked sets j), before_marks (suc j) bs s sets (omega (arith, h))) refl
one_mark j (suc p) (b ∷ bs) s sets h =
    let other : (s.place == j) ≡ false = test_apart s.place j (λ e. omega (arith, e, h)) in
    rw (other, one_mark (suc j) p bs s sets (omega (arith, h))) refl

marks_are : (xs : List Bool) (sets : List Set) → marks_of xs sets ≡ with_marks 0 xs sets
marks_are xs [] = sym (no_marks 0 xs)
marks_are xs (s ∷ sets) = marks_are (slice_set xs s.place true) sets ∙ one_mark 0 s.place xs s sets (omega arith)

record IsDropped (ss : List meaning.Settable) (j : ℕ) (t : meaning.Settable) (ts : List meaning.Settable) : Type 0 where
  within : j < length ss
  called : called_at ss j ≡ t.called
  rest : drop (suc j) ss ≡ ts

dropped : (ss : List meaning.Settable) (j : ℕ) (t : meaning.Settable) (ts : List meaning.Settable) → drop j ss ≡ t ∷ ts → IsDropped ss j t ts
dropped [] zero t ts e = cc
dropped [] (suc j) t ts e = cc
dropped (s ∷ ss) zero t ts e =
    let same : s ≡ t = cc in
    let rest : ss ≡ ts = cc in
    record { within = omega arith; called = ap (λ u. u.called) same; rest = rest }
dropped (s ∷ ss) (suc j) t ts e =
    let d : IsDropped ss j t ts = dropped ss j t ts e in
    record { within = omega (arith, d.within); called = d.called; rest = d.rest }

marked_name : (ss : List meaning.Settable) (j : ℕ) (sets : List Set) → are_apart ss ≡ true → j < length ss → are_within (length ss) sets ≡ true
    → is_marked sets j ≡ list_any (λ u. same_name u.called (called_at ss j)) (map (set_at ss) sets)
marked_name ss j [] a h g = refl
marked_name ss j (s ∷ sets) a h g =
    let here : s.place < length ss = is_less s.place (length ss) (left_part (nat_lt s.place (length ss)) (are_within (length ss) sets) g) in
    let rest : are_within (length ss) sets ≡ true = right_part (nat_lt s.place (length ss)) (are_within (length ss) sets) g in
    rw (sym (same_place ss s.place j a here h), marked_name ss j sets a h rest) refl

all_marked : (ss : List meaning.Settable) (j : ℕ) (ts : List meaning.Settable) (sets : List Set) → are_apart ss ≡ true → are_within (length ss) sets ≡ true → drop j ss ≡ ts
    → list_all (λ b. b) (with_marks j (replicate (length ts) false) sets) ≡ list_all (sets_name (map (set_at ss) sets)) ts
all_marked ss j [] sets a g e = refl
all_marked ss j (t ∷ ts) sets a g e =
    let d : IsDropped ss j t ts = dropped ss j t ts e in
    let one : is_marked sets j ≡ sets_name (map (set_at ss) sets) t =
    marked_name ss j sets a d.within g ∙ ap (λ n. list_any (λ u. same_name u.called n) (map (set_at ss) sets)) d.called in
    rw (one, all_marked ss (suc j) ts sets a g d.rest) refl

-- all places are marked where every name is set
pub every_name : (es : List Settable) (sets : List Set) → are_apart (map settable_of es) ≡ true → are_within (length (map settable_of es)) sets ≡ true
    → list_all (λ b. b) (marks_of (replicate (length es) false) sets) ≡ list_all (sets_name (sets_view (map settable_of es) sets)) (map settable_of es)
every_name es sets a g =
    let count : length (map settable_of es) ≡ length es = length-map es settable_of in
    ap (λ n. list_all (λ b. b) (marks_of (replicate n false) sets)) (sym count)
    ∙ (ap (list_all (λ b. b)) (marks_are (replicate (length (map settable_of es)) false) sets)
    ∙ all_marked (map settable_of es) 0 (map settable_of es) sets a g refl)

first_marked : (ss : List meaning.Settable) (j : ℕ) (ts : List meaning.Settable) (sets : List Set) → are_apart ss ≡ true → are_within (length ss) sets ≡ true → drop j ss ≡ ts
    → option_map (called_at ss) (first_unmarked j (with_marks j (replicate (length ts) false) sets)) ≡ first_left_out (map (set_at ss) sets) ts
first_marked ss j [] sets a g e = refl
first_marked ss j (t ∷ ts) sets a g e =
    let d : IsDropped ss j t ts = dropped ss j t ts e in
    let one : is_marked sets j ≡ sets_name (map (set_at ss) sets) t =
    marked_name ss j sets a d.within g ∙ ap (λ n. list_any (λ u. same_name u.called n) (map (set_at ss) sets)) d.called in
    ap (λ b. option_map (called_at ss) (cond b (first_unmarked (suc j) (with_marks (suc j) (replicate (length ts) false) sets)) (Some j))) one
    ∙ shown (sets_name (map (set_at ss) sets) t) d.called (first_marked ss (suc j) ts sets a g d.rest)
  where
    shown : (b : Bool) → called_at ss j ≡ t.called
        → option_map (called_at ss) (first_unmarked (suc j) (with_marks (suc j) (replicate (length ts) false) sets)) ≡ first_left_out (map (set_at ss) sets) ts
        → option_map (called_at ss) (cond b (first_unmarked (suc j) (with_marks (suc j) (replicate (length ts) false) sets)) (Some j))
        ≡ cond b (first_left_out (map (set_at ss) sets) ts) (Some t.called)
    shown true c h = h
    shown false c h = ap (λ n. Some n) c

-- the first place that is not marked is that of the first name that is not set
pub first_name : (es : List Settable) (sets : List Set) → are_apart (map settable_of es) ≡ true → are_within (length (map settable_of es)) sets ≡ true
    → option_map (called_at (map settable_of es)) (first_unmarked 0 (marks_of (replicate (length es) false) sets)) ≡ first_left_out (sets_view (map settable_of es) sets) (map settable_of es)
first_name es sets a g =
    let count : length (map settable_of es) ≡ length es = length-map es settable_of in
    ap (λ n. option_map (called_at (map settable_of es)) (first_unmarked 0 (marks_of (replicate n false) sets))) (sym count)
    ∙ (ap (λ bs. option_map (called_at (map settable_of es)) (first_unmarked 0 bs)) (marks_are (replicate (length (map settable_of es)) false) sets)
    ∙ first_marked (map settable_of es) 0 (map settable_of es) sets a g refl)
