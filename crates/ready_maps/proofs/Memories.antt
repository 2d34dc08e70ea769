-- The path of a memory means in the design a memory of the state's sort.
use Rattle.std.proofs.Common.{◌≡◌, ◌∙◌, ℕ, suc, ◌+◌, ◌-◌, ◌^◌, ◌≤◌, Bool, true, false, inl, inr, ◌⊎◌, Option, Some, None, is_some, option_map, refl, sym, ap, subst, arith, pow_pos, pow_mono}
use Rattle.std.specs.Prelude.{IsTrue, ◌&&◌, ◌||◌, ◌==◌, nat_le, nat_lt}
use Rattle.std.proofs.lemmas.Bool.{false≢true, and_parts}
use Rattle.std.proofs.lemmas.Bool.Decides.{nat_tests}
use Rattle.wb_values.specs.Value.{Name, memory, entry_of}
use Rattle.wb_values.specs.Choice.{first_of}
use Rattle.model_meaning.specs.Term.{is_sort, is_width}
use Rattle.verilog_trees.specs.Syntax.{Range}
use Rattle.verilog_meaning.specs.Expression.{Object, Scope, object_or_undeclared, scope_of, object_width, distance}
use Rattle.verilog_meaning.specs.Register.{words_between}
use Rattle.verilog_meaning.specs.Hierarchy.{Declaration, declarations, declaration_of, declared_object, ranged_object, Placed, placed_scope}
use Rattle.verilog_meaning.specs.Settled.{Design, IsPlacedIn, IsDeclared}
use Rattle.verilog_rules.specs.Expression.{has_many_words}
use Rattle.verilog_unique.proofs.Parameters.{HasNumber, placed_constants}
use Rattle.verilog_exists.specs.Exists.{NamesHaveNoDots}
use Rattle.verilog_exists.proofs.Directions.{something_declared}
use Rattle.map_files.specs.Written.{Text}
use Rattle.map_rules.specs.Expressions.{design_scope}
use Rattle.map_rules.specs.Mapped.{IsMemoryPath}
use Rattle.v_lower.specs.Lowered.{IsSortOf, has_sort}
use Rattle.path_terms.proofs.Named.{meaning}

-- ---- what has words is declared

abbrev object_of : (p : Placed) → Option Object → Option Declaration → Object
object_of p x y = object_or_undeclared (first_of x (option_map (declared_object (scope_of p.constants)) y))

record IsStored (p : Placed) (m : Name) : Type 0 where
  declared : IsDeclared p m
  known : (placed_scope p m).is_declared ≡ true

ranged : (s : Scope) (signed : Bool) (r : Option Range) → (ranged_object s signed r).is_declared ≡ true
ranged s signed None = refl
ranged s signed (Some r) = refl

stored : (d : Design) (p : Placed) (m : Name) → IsPlacedIn d p → (a : ℕ × ℕ) → (placed_scope p m).addresses ≡ Some a → IsStored p m
stored d p m at a h =
    by (entry_of p.constants m) (declaration_of (declarations p.of_module) m) refl refl ((placed_constants d p.path p at).numbers m)
    (something_declared (declarations p.of_module) m) h
  where
    by : (x : Option Object) (y : Option Declaration) → entry_of p.constants m ≡ x → declaration_of (declarations p.of_module) m ≡ y
        → ((o : Object) → x ≡ Some o → HasNumber o) → (IsTrue (is_some y) → IsDeclared p m) → (object_of p x y).addresses ≡ Some a → IsStored p m
    by None None e f g k h = absurd (let c : None ≡ Some a = h in cc)
    by None (Some y) e f g k h = record { declared = k refl; known = (λ i. (object_of p (e i) (f i)).is_declared) ∙ ranged (scope_of p.constants) y.signed y.range }
    by (Some o) y e f g k h = absurd (false≢true (sym (g o refl).1 ∙ ap is_some h))

-- ---- a memory of 2^a words of w bits

abbrev pub has_indexes : ℕ → Option (ℕ × ℕ) → Bool
has_indexes a None = false
has_indexes a (Some x) = (x.0 == 0 && x.1 == 2 ^ a - 1) || (x.0 == 2 ^ a - 1 && x.1 == 0)

abbrev pub has_shape : ℕ → ℕ → Object → Bool
has_shape a w o = o.is_declared && (has_indexes a o.addresses && object_width o == w)

same_number : (n : ℕ) → (n == n) ≡ true
same_number n = grind (arith, nat_tests)

upward : (a : ℕ) → has_indexes a (Some (0, 2 ^ a - 1)) ≡ true
upward a = rw (same_number (2 ^ a - 1)) refl

either : (b : Bool) → b ≡ true → (c : Bool) → (c || b) ≡ true
either b h true = refl
either b h false = h

downward : (a : ℕ) → has_indexes a (Some (2 ^ a - 1, 0)) ≡ true
downward a = either ((2 ^ a - 1 == 2 ^ a - 1) && 0 == 0) (rw (same_number (2 ^ a - 1)) refl) ((2 ^ a - 1 == 0) && 0 == 2 ^ a - 1)

indexes_so : (a : ℕ) (o : Option (ℕ × ℕ)) → (o ≡ Some (0, 2 ^ a - 1)) ⊎ (o ≡ Some (2 ^ a - 1, 0)) → has_indexes a o ≡ true
indexes_so a o (inl e) = ap (has_indexes a) e ∙ upward a
indexes_so a o (inr e) = ap (has_indexes a) e ∙ downward a

some_words : (a : ℕ) (o : Option (ℕ × ℕ)) → (o ≡ Some (0, 2 ^ a - 1)) ⊎ (o ≡ Some (2 ^ a - 1, 0)) → (x : ℕ × ℕ) × (o ≡ Some x)
some_words a o (inl e) = ((0, 2 ^ a - 1), e)
some_words a o (inr e) = ((2 ^ a - 1, 0), e)

pub path_shape : (d : Design) (t : Text) (a w : ℕ) → NamesHaveNoDots d.source → IsMemoryPath d t a w → has_shape a w (design_scope d t) ≡ true
path_shape d t a w no_dots m =
    let o : Object = placed_scope m.within m.memory_name in
    let words = some_words a o.addresses m.indexes in
    let s : IsStored m.within m.memory_name = stored d m.within m.memory_name m.is_placed words.0 words.1 in
    let means : design_scope d t ≡ o = ap (design_scope d) m.is_path ∙ meaning d m.within m.memory_name no_dots m.is_placed s.declared in
    let width : (object_width o == w) ≡ true = ap (λ z. object_width o == z) (sym m.word_width) ∙ same_number (object_width o) in
    ap (has_shape a w) means ∙ rw (s.known, indexes_so a o.addresses m.indexes, width) refl

-- ---- such a memory is of the sort

is_number : (m n : ℕ) → (m == n) ≡ true → m ≡ n
is_number m n h = grind (arith, nat_tests, h)

either_of : (x y : Bool) → (x || y) ≡ true → (x ≡ true) ⊎ (y ≡ true)
either_of true y h = inl refl
either_of false y h = inr h

record HasWords (a : ℕ) (o : Option (ℕ × ℕ)) : Type 0 where
  some : is_some o ≡ true
  count : words_between o ≡ 2 ^ a

has_words : (a : ℕ) (o : Option (ℕ × ℕ)) → has_indexes a o ≡ true → HasWords a o
has_words a None h = absurd (false≢true h)
has_words a (Some x) h = by (either_of (x.0 == 0 && x.1 == 2 ^ a - 1) (x.0 == 2 ^ a - 1 && x.1 == 0) h)
  where
    some_power : 1 ≤ 2 ^ a
    some_power = pow_pos a

    by : ((x.0 == 0 && x.1 == 2 ^ a - 1) ≡ true) ⊎ ((x.0 == 2 ^ a - 1 && x.1 == 0) ≡ true) → HasWords a (Some x)
    by (inl e) =
        let p = and_parts (x.0 == 0) (x.1 == 2 ^ a - 1) e in
        let f : x.0 ≡ 0 = is_number x.0 0 p.0 in
        let g : x.1 ≡ 2 ^ a - 1 = is_number x.1 (2 ^ a - 1) p.1 in
        let l = some_power in
        record { some = refl; count = omega (arith, f, g, l) }
    by (inr e) =
        let p = and_parts (x.0 == 2 ^ a - 1) (x.1 == 0) e in
        let f : x.0 ≡ 2 ^ a - 1 = is_number x.0 (2 ^ a - 1) p.0 in
        let g : x.1 ≡ 0 = is_number x.1 0 p.1 in
        let l = some_power in
        record { some = refl; count = omega (arith, f, g, l) }

lower_power : (a b : ℕ) → 2 ^ a ≤ 2 ^ b → a ≤ b
lower_power a b h = by (nat_lt b a) refl
  where
    by : (t : Bool) → nat_lt b a ≡ t → a ≤ b
    by true e =
        let l : suc b ≤ a = grind (arith, nat_tests, e) in
        let m : 2 ^ suc b ≤ 2 ^ a = pow_mono l in
        let p : 1 ≤ 2 ^ b = pow_pos b in
        absurd (omega (arith, h, m, p))
    by false e = grind (arith, nat_tests, e)

few_words : (a : ℕ) (o : Option (ℕ × ℕ)) → a ≤ 16 → words_between o ≡ 2 ^ a → is_some o ≡ true → has_many_words o ≡ false
few_words a None l h s = refl
few_words a (Some x) l h s =
    let m : 2 ^ a ≤ 2 ^ 16 = pow_mono l in
    let n : distance x.0 x.1 + 1 ≤ 65536 = subst (λ z. z ≤ 65536) (sym h) m in
    fits (distance x.0 x.1) n
  where
    fits : (z : ℕ) → z + 1 ≤ 65536 → nat_lt 65535 z ≡ false
    fits z n = grind (arith, nat_tests, n)

pub record IsOfMemorySort (o : Object) (a w : ℕ) : Type 0 where
  pub of_sort : IsSortOf o (memory a w)
  pub known : has_sort o ≡ true

pub of_memory_sort : (o : Object) (a w : ℕ) → is_sort (memory a w) ≡ true → has_shape a w o ≡ true → IsOfMemorySort o a w
of_memory_sort o a w legal h =
    let p = and_parts o.is_declared _ h in
    let q = and_parts (has_indexes a o.addresses) (object_width o == w) p.1 in
    let words = has_words a o.addresses q.0 in
    let width : object_width o ≡ w = is_number (object_width o) w q.1 in
    let l = and_parts (nat_le 1 a && nat_le a 16) (is_width w) legal in
    let r = and_parts (nat_le 1 a) (nat_le a 16) l.0 in
    let least : 1 ≤ a = let e = r.0 in grind (arith, nat_tests, e) in
    let most : a ≤ 16 = let e = r.1 in grind (arith, nat_tests, e) in
    let narrow : nat_le (object_width o) 128 ≡ true = ap (λ z. nat_le z 128) width ∙ (and_parts (nat_le 1 w) (nat_le w 128) l.1).1 in
    let count = words.count in
    record {
      of_sort = (
        words.some,
        record {
          at_least_one = least;
          enough = omega (arith, count);
          least = λ b one fits. lower_power a b (subst (λ z. z ≤ 2 ^ b) count fits);
        },
        sym width,
      );
      known = rw (p.0, narrow, few_words a o.addresses most count words.some) refl;
    }
