-- The bits of inputs as spans and as a table.
use Rattle.std.proofs.Common.{◌≡◌, ◌∙◌, ℕ, ◌+◌, ◌<◌, refl, ap, sym, subst, Bool, true, false, not, List, [], ◌∷◌, length, drop, get_or, map, Bor, inl, inr, Option, Some, None}
use Rattle.std.specs.Prelude.{IsTrue, ◌↔◌, ◌&&◌, ◌||◌}
use Rattle.std.proofs.lemmas.Bool.{false≢true, true≢false, false_from_ne_true, and_parts, and_from}
use Rattle.wb_values.specs.Value.{Name, same_name}
use Rattle.verilog_trees.specs.Syntax.{whole, place, Item}
use Rattle.verilog_meaning.specs.Expression.{Scope, is_memory}
use Rattle.verilog_meaning.specs.Register.{is_bit_of, may_reach}
use Rattle.std.proofs.lemmas.List.{drop_more}
use Rattle.std.proofs.lemmas.Slice.Eq.{bytes_eq-Decides}
use Rattle.verilog_designs.specs.Reads.{BitSet, no_bits, or_in}
use Rattle.verilog_designs.specs.Dependence.{Bit, is_in}
use Rattle.v_flow.specs.declared.span.Span.{Span}
use Rattle.v_flow.specs.Spans.{bits_in, existing}
use Rattle.v_flow.proofs.Sets.{turn}
use Rattle.v_masks.specs.Masks.{spread}
use Rattle.v_paths.specs.Premises.{HasNoMemory}
use Rattle.v_depend.specs.Resting.{IsThere}
use Rattle.v_loops.proofs.Steps.{spread-there, there-spread}
use Rattle.v_reach.specs.Coming.{ComesFrom, itself, through}
use Rattle.map_inputs.specs.Bits.{name_bits, input_bits}
use Rattle.map_inputs.proofs.Coming.{far-there}

-- ---- one name

with-true : (m b c : Bool) → m ≡ false → (b && (c && true)) ≡ (not m && (b && c))
with-true true b c e = absurd (true≢false e)
with-true false b true e = refl
with-true false b false e = refl

none-of : (m c : Bool) → m ≡ true → (not m && c) ≡ false
none-of true c e = refl
none-of false c e = absurd (false≢true e)

same-or : (b : Bool) → b ≡ (b || false)
same-or true = refl
same-or false = refl

pub plain-name : (s : Scope) (m : Name) (old new : BitSet) → is_memory (s m) ≡ false → new ≡ or_in old (existing s (may_reach s (place m whole))) → new ≡ or_in old (name_bits s m)
plain-name s m old new e is = is ∙ (λ i n k b. old n k b || with-true (is_memory (s m)) (is_bit_of (s n) k b) (same_name m n) e i)

pub memory-name : (s : Scope) (m : Name) (old : BitSet) → is_memory (s m) ≡ true → old ≡ or_in old (name_bits s m)
memory-name s m old e =
    λ i n k b. (same-or (old n k b) ∙ ap (λ t. old n k b || t) (sym (none-of (is_memory (s m)) (is_bit_of (s n) k b && same_name m n) e))) i

-- ---- no memory

pub inputs-free : (s : Scope) (names : List Name) → HasNoMemory s (input_bits s names)
inputs-free s [] n k b e = refl
inputs-free s (m ∷ names) n k b e =
    (λ i. first i || inputs-free s names n k b e i)
  where
    first : name_bits s m n k b ≡ false
    first =
        false_from_ne_true (name_bits s m n k b) (λ h.
        let both = and_parts (not (is_memory (s m))) (is_bit_of (s n) k b && same_name m n) h in
        let same = (bytes_eq-Decides m n).0 (and_parts (is_bit_of (s n) k b) (same_name m n) both.1).1 in
        absurd (not-both (is_memory (s m)) both.0 (subst (λ (q : Name). is_memory (s q) ≡ true) (sym same) e)))
      where
        not-both : (t : Bool) → not t ≡ true → t ≡ true → ⊥
        not-both true a c = false≢true a
        not-both false a c = false≢true c

pub table-free : (s : Scope) (p m : BitSet) → m ≡ spread p → HasNoMemory s p → HasNoMemory s m
table-free s p m e none n k b h = ap (λ (q : BitSet). q n k b) e ∙ none n 0 b h

-- ---- a table has of bits that there are the same

module _ (s : Scope) (items : List Item) (p m : BitSet) (is : m ≡ spread p) (none : HasNoMemory s p) where
  from-table : (y : Bit) → IsThere s y → IsTrue (is_in m y) → IsTrue (is_in p y)
  from-table y there h = spread-there s p y none there (subst (λ (q : BitSet). is_in q y ≡ true) is h)

  to-table : (y : Bit) → IsThere s y → IsTrue (is_in p y) → IsTrue (is_in m y)
  to-table y there h = subst (λ (q : BitSet). is_in q y ≡ true) (sym is) (there-spread s p y none there h)

  comes-from : (u : Bit) → IsThere s u → ComesFrom s items m u → ComesFrom s items p u
  comes-from u there (itself h) = itself (from-table u there h)
  comes-from u there (through y d h) = through y d (from-table y (far-there s items u y d) h)

  comes-to : (u : Bit) → IsThere s u → ComesFrom s items p u → ComesFrom s items m u
  comes-to u there (itself h) = itself (to-table u there h)
  comes-to u there (through y d h) = through y d (to-table y (far-there s items u y d) h)

  pub by-table : (t : BitSet) → ((u : Bit) → IsThere s u → IsTrue (is_in t u) ↔ ComesFrom s items m u) → (u : Bit) → IsThere s u → IsTrue (is_in t u) ↔ ComesFrom s items p u
  by-table t f u there = ((λ h. comes-from u there ((f u there).0 h)), (λ h. (f u there).1 (comes-to u there h)))

-- ---- the names of a list

pub names-begun : (s : Scope) (ns : List Name) (found : List Span) → found ≡ [] → input_bits s ns ≡ or_in (bits_in found) (input_bits s ns)
names-begun s ns found e = ap (λ (ys : List Span). or_in (bits_in ys) (input_bits s ns)) (sym e)

pub names-turn : (s : Scope) (ns rest : List Name) (m : Name) (all old new : BitSet) → ns ≡ m ∷ rest → all ≡ or_in old (input_bits s ns) → new ≡ or_in old (name_bits s m)
    → all ≡ or_in new (input_bits s rest)
names-turn s ns rest m all old new e f g = turn all old new (name_bits s m) (input_bits s rest) (f ∙ ap (λ (ys : List Name). or_in old (input_bits s ys)) e) g

-- the turn of a loop over the names
pub names-at : (s : Scope) (xs : List (Bor (List ℕ))) (i : ℕ) (d : Bor (List ℕ)) (all old new : BitSet) → i < length xs → all ≡ or_in old (input_bits s (map (λ x. x.now) (drop i xs)))
    → new ≡ or_in old (name_bits s ((get_or xs i d).now)) → all ≡ or_in new (input_bits s (map (λ x. x.now) (drop (i + 1) xs)))
names-at s xs i d all old new h f g =
    names-turn s (map (λ x. x.now) (drop i xs)) (map (λ x. x.now) (drop (i + 1) xs)) ((get_or xs i d).now) all old new
    (ap (λ (ys : List (Bor (List ℕ))). map (λ x. x.now) ys) (drop_more xs i d h)) f g

pub names-end : (s : Scope) (ns : List Name) (all found : BitSet) → ns ≡ [] → all ≡ or_in found (input_bits s ns) → found ≡ all
names-end s ns all found e f = sym (f ∙ ap (λ (ys : List Name). or_in found (input_bits s ys)) e ∙ (λ i n k b. sym (same-or (found n k b)) i))
