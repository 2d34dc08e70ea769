-- The names of a module, one after the other told as registers or others.
use Rattle.std.proofs.Common.{◌≡◌, ◌∙◌, ℕ, ◌<◌, ◌≤◌, refl, ap, sym, subst, Bool, true, false, ◌⊎◌, inl, inr, List, [], ◌∷◌, ◌++◌, append_assoc, append-nil, length, slice_index, arith}
use Rattle.std.specs.Prelude.{◌&&◌, ◌||◌, nat_lt}
use Rattle.std.proofs.Common.{Bor}
use Rattle.std.specs.Global.{Global}
use Rattle.std.specs.declared.vec.Vec.{Vec}
use Rattle.std.specs.BTreeMap.{BTreeMap}
use Rattle.std.proofs.lemmas.Bool.{cases_lt, false≢true, or_parts}
use Rattle.std.proofs.lemmas.Bool.Decides.{nat_tests}
use Rattle.std.proofs.Common.{◌+◌, drop, get_or, map}
use Rattle.std.proofs.lemmas.List.{get_or_past, drop_more}
use Rattle.wb_values.specs.Value.{Name}
use Rattle.verilog_trees.specs.Syntax.{Statement}
use Rattle.verilog_trees.specs.Syntax as pure
use Rattle.verilog_meaning.specs.Expression.{Scope, is_memory, object_width}
use Rattle.verilog_meaning.specs.Register.{clocked_blocks, counts, is_bit_of, may_assign, one_may_assign, word_count, is_set}
use Rattle.verilog_designs.specs.Reads.{BitSet, no_bits, or_in}
use Rattle.v_masks.proofs.Bits.{set-none}
use Rattle.v_flow.proofs.Sets.{or_false, or_assoc}
use Rattle.v_flow.specs.declared.span.Span.{Span}
use Rattle.v_flow.specs.Spans.{bits_in, existing}
use Rattle.v_drivers.proofs.Driving.{clocked-of-items}
use Rattle.v_registers.specs.Groups.{spans_under, bits_under}
use Rattle.v_registers.specs.Masks.{has_bits}
use Rattle.v_registers.specs.Registers.{HasCounted, IsRegister, AreMasks, Counted, AreSplit, IsAdded}
use Rattle.v_registers.proofs.WordMasks.{no_bits_in, some_bit_in}

-- ---- the bits of blocks, one after the other

more_may : (s : Scope) (xs ys : List Statement) (n : Name) (k b : ℕ) → one_may_assign s (xs ++ ys) n k b ≡ (one_may_assign s xs n k b || one_may_assign s ys n k b)
more_may s [] ys n k b = refl
more_may s (x ∷ xs) ys n k b =
    ap (λ t. may_assign s x n k b || t) (more_may s xs ys n k b)
    ∙ sym (or_assoc (may_assign s x n k b) (one_may_assign s xs n k b) (one_may_assign s ys n k b))

spread : (a p q : Bool) → (a && (p || q)) ≡ ((a && p) || (a && q))
spread true p q = refl
spread false p q = refl

pub counts_more : (s : Scope) (i : pure.Item) (items : List pure.Item)
    → counts s (clocked_blocks (i ∷ items)) ≡ or_in (counts s (clocked_blocks (i ∷ []))) (counts s (clocked_blocks items))
counts_more s i items = λ j n k b. (at n k b) j
  where
    at : (n : Name) (k b : ℕ) → counts s (clocked_blocks (i ∷ items)) n k b ≡ (counts s (clocked_blocks (i ∷ [])) n k b || counts s (clocked_blocks items) n k b)
    at n k b =
        ap (λ xs. counts s xs n k b) (clocked-of-items i items)
        ∙ ap (λ t. is_bit_of (s n) k b && t) (more_may s (clocked_blocks (i ∷ [])) (clocked_blocks items) n k b)
        ∙ spread (is_bit_of (s n) k b) (one_may_assign s (clocked_blocks (i ∷ [])) n k b) (one_may_assign s (clocked_blocks items) n k b)

and_false : (a : Bool) → (a && false) ≡ false
and_false true = refl
and_false false = refl

pub counts_none : (s : Scope) → counts s [] ≡ no_bits
counts_none s = λ j n k b. and_false (is_bit_of (s n) k b) j

-- one block alone
pub counts_one : (s : Scope) (x : Statement) → existing s (may_assign s x) ≡ counts s (x ∷ [])
counts_one s x = λ j n k b. ap (λ t. is_bit_of (s n) k b && t) (sym (or_false (may_assign s x n k b))) j

-- ---- masks

out_of_words : (s : Scope) (q : List Statement) (n : Name) (k b : ℕ) → word_count (s n) ≤ k → counts s q n k b ≡ false
out_of_words s q n k b h = by (nat_lt k (word_count (s n))) (past k (word_count (s n)) h)
  where
    past : (i c : ℕ) → c ≤ i → nat_lt i c ≡ false
    past i c l = grind (arith, nat_tests)

    by : (t : Bool) → t ≡ false → ((t && nat_lt b (object_width (s n))) && one_may_assign s q n k b) ≡ false
    by false e = refl
    by true e = absurd (false≢true (sym e))

pub are_masks : (s : Scope) (q : List Statement) (n : Name) (masks : List ℕ) → length masks ≡ word_count (s n)
    → ((k b : ℕ) → k < word_count (s n) → is_set (slice_index masks k) b ≡ counts s q n k b) → AreMasks s q n masks
are_masks s q n masks long bits = record { each_word = long; counted = λ k b. by k b (cases_lt k (word_count (s n))) }
  where
    by : (k b : ℕ) → (k < word_count (s n)) ⊎ (word_count (s n) ≤ k) → is_set (slice_index masks k) b ≡ counts s q n k b
    by k b (inl l) = bits k b l
    by k b (inr l) =
        ap (λ z. is_set z b) (get_or_past masks k 0 (subst (λ c. c ≤ k) (sym long) l)) ∙ set-none b ∙ sym (out_of_words s q n k b l)

-- ---- is it one

module _ (s : Scope) (q : List Statement) (n : Name) (masks : List ℕ) (are : AreMasks s q n masks) where
  pub by_bits : has_bits masks ≡ true → HasCounted s q n
  by_bits h = let r = some_bit_in masks h in record { word = r.0; bit = r.1; counts = sym (are.counted r.0 r.1) ∙ r.2 }

  pub by_none : has_bits masks ≡ false → is_memory (s n) ≡ false → ¬ IsRegister s q n
  by_none h m (inr t) = false≢true (sym m ∙ t)
  by_none h m (inl c) = false≢true (sym (sym (are.counted c.word c.bit) ∙ ap (λ z. is_set z c.bit) (no_bits_in masks h c.word) ∙ set-none c.bit) ∙ c.counts)

-- ---- the turn of the loop

-- what was split so far, and whatever the rest of the names gives
abbrev pub SplitSoFar : Scope → List Statement → (all rest : List Name) → List Counted → List Name → Type 0
SplitSoFar s q all rest cs os = (ds : List Counted) (ns : List Name) → AreSplit s q rest ds ns → AreSplit s q all (cs ++ ds) (os ++ ns)

pub split_turn : (s : Scope) (q : List Statement) (all : List Name) (n : Name) (rest : List Name) (cs cs_new : List Counted) (os os_new : List Name)
    → SplitSoFar s q all (n ∷ rest) cs os → IsAdded s q n cs cs_new os os_new → SplitSoFar s q all rest cs_new os_new
split_turn s q all n rest cs cs_new os os_new f (inl h) = λ ds ns g.
    subst (λ xs. AreSplit s q all xs (os_new ++ ns)) (sym (ap (λ xs. xs ++ ds) h.2 ∙ append_assoc cs (h.0 ∷ []) ds))
    (subst (λ xs. AreSplit s q all (cs ++ h.0 ∷ ds) (xs ++ ns)) (sym h.3)
    (f (h.0 ∷ ds) ns (AreSplit.register n rest h.0 ds ns h.1 g)))
split_turn s q all n rest cs cs_new os os_new f (inr h) = λ ds ns g.
    subst (λ xs. AreSplit s q all (xs ++ ds) (os_new ++ ns)) (sym h.1)
    (subst (AreSplit s q all (cs ++ ds)) (sym (ap (λ xs. xs ++ ns) h.2 ∙ append_assoc os (n ∷ []) ns))
    (f ds (n ∷ ns) (AreSplit.other n rest ds ns h.0 g)))

pub split_end : (s : Scope) (q : List Statement) (all rest : List Name) (cs : List Counted) (os : List Name) → rest ≡ [] → SplitSoFar s q all rest cs os → AreSplit s q all cs os
split_end s q all rest cs os e f =
    subst (λ xs. AreSplit s q all xs os) (append-nil cs)
    (subst (AreSplit s q all (cs ++ [])) (append-nil os) (f [] [] (subst (λ xs. AreSplit s q xs [] []) (sym e) AreSplit.end)))

pub masks_so : (s : Scope) (q : List Statement) (n : Name) (t : BTreeMap (Bor (List ℕ)) (Vec Span Global)) (masks : List ℕ) (count : ℕ) (spans : List Span)
    → count ≡ word_count (s n) → spans ≡ spans_under t n → length masks ≡ count → ((k b : ℕ) → k < count → is_set (slice_index masks k) b ≡ bits_in spans n k b)
    → bits_under t ≡ counts s q → AreMasks s q n masks
masks_so s q n t masks count spans c is long bits e =
    are_masks s q n masks (long ∙ c)
    (λ k b h. bits k b (subst (λ z. k < z) (sym c) h) ∙ ap (λ xs. bits_in xs n k b) is ∙ ap (λ (f : BitSet). f n k b) e)

pub added : (s : Scope) (q : List Statement) (n : Name) (c : Counted) (old new : List Counted) (os os_new : List Name) → c.of_name ≡ n → AreMasks s q n c.masks
    → (has_bits c.masks || is_memory (s n)) ≡ true → new ≡ old ++ c ∷ [] → os_new ≡ os → IsAdded s q n old new os os_new
added s q n c old new os os_new named are t is same =
    inl (c, record { named = named; is_register = by (has_bits c.masks) refl t; masks = are }, is, same)
  where
    by : (b : Bool) → has_bits c.masks ≡ b → (b || is_memory (s n)) ≡ true → IsRegister s q n
    by true e g = inl (by_bits s q n c.masks are e)
    by false e g = inr g

pub not_added : (s : Scope) (q : List Statement) (n : Name) (masks : List ℕ) (old new : List Counted) (os os_new : List Name) → AreMasks s q n masks
    → (has_bits masks || is_memory (s n)) ≡ false → new ≡ old → os_new ≡ os ++ n ∷ [] → IsAdded s q n old new os os_new
not_added s q n masks old new os os_new are t is more =
    let p = or_parts (has_bits masks) (is_memory (s n)) t in
    inr (by_none s q n masks are p.0 p.1, is, more)

pub split_start : (s : Scope) (q : List Statement) (all : List Name) (cs : List Counted) (os : List Name) → cs ≡ [] → os ≡ [] → SplitSoFar s q all all cs os
split_start s q all cs os e f = λ ds ns h.
    subst (λ xs. AreSplit s q all (xs ++ ds) (os ++ ns)) (sym e) (subst (λ xs. AreSplit s q all ds (xs ++ ns)) (sym f) h)

pub name_turn : (s t : Scope) (q : List Statement) (ns : List (Bor Name)) (i : ℕ) (d : Bor Name) (cs cs_new : List Counted) (os os_new : List Name) → s ≡ t → i < length ns
    → IsAdded t q (get_or ns i d).now cs cs_new os os_new → SplitSoFar s q (map (λ n. n.now) ns) (map (λ n. n.now) (drop i ns)) cs os
    → SplitSoFar s q (map (λ n. n.now) ns) (map (λ n. n.now) (drop (i + 1) ns)) cs_new os_new
name_turn s t q ns i d cs cs_new os os_new e l h f =
    split_turn s q (map (λ n. n.now) ns) (get_or ns i d).now (map (λ n. n.now) (drop (i + 1) ns)) cs cs_new os os_new
    (subst (λ xs. SplitSoFar s q (map (λ n. n.now) ns) (map (λ n. n.now) xs) cs os) (drop_more ns i d l) f)
    (subst (λ (z : Scope). IsAdded z q (get_or ns i d).now cs cs_new os os_new) (sym e) h)
