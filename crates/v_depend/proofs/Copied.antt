-- The bits that names with constant selects, concatenations and replications copy.
use Rattle.std.proofs.Common.{◌≡◌, ◌∙◌, ℕ, suc, ◌+◌, ◌-◌, ◌*◌, ◌/◌, ◌%◌, ◌^◌, ◌<◌, ◌≤◌, ◌≢◌, refl, ap, sym, subst, Bool, true, false, cond, inl, inr, arith, lt-ltb, le-ltb}
use Rattle.std.specs.Prelude.{◌&&◌, ◌||◌, ◌⊎◌, ◌↔◌, ◌==◌, nat_lt, is_none, is_some, option_and_then, Option, Some, None, ℤ, pos, negsuc, ◌+ℤ◌}
use Rattle.std.proofs.lemmas.Bool.{false≢true, cases_Bool, cases_lt, cases_eq}
use Rattle.std.proofs.lemmas.Bool.Decides.{nat_tests}
use Rattle.std.proofs.lemmas.Int.{ints}
use Rattle.wb_values.specs.Value.{Name}
use Rattle.wb_values.specs.Choice.{some_if}
use Rattle.wb_values.specs.Number.{word_sext, top_bit}
use Rattle.verilog_trees.specs.Syntax as pure
use Rattle.verilog_trees.specs.Syntax.{name, replication, Expressions, no_expressions, expression, Select, Selects, whole, one, two}
use Rattle.verilog_meaning.specs.Expression.{Object, Scope, distance, object_width, is_memory, Bits, bits_from, bits_taken, no_values, sign_of, width_of, widths_of, selects_sign, selects_width, select_bits, select_index, word_number}
use Rattle.verilog_meaning.specs.Statement.{cell_at, indexed_cell, named_place, variable_cell, all_bits, Place}
use Rattle.verilog_meaning.specs.Register.{is_set, words_between, is_bit_of}
use Rattle.verilog_designs.specs.Reads.{BitSet}
use Rattle.verilog_designs.specs.Dependence.{Bit, is_in, word_of_cell, natural_in, bit_in, bit_at, copied, copied_in}
use Rattle.verilog_settled.proofs.Bits.{set_from_bit, bit_of_cut, bit_past_cut, bit_of_part, bit_before_part, bit_within_part, unset_from_bit}
use Rattle.verilog_settled.proofs.Widened.{top_is, widened_low, signed_bit, top_past}
use Rattle.v_value.specs.Narrow.{IsWidth, IsNarrow}
use Rattle.v_depend.specs.Resting.{CopiesUnsettled}
use Rattle.v_depend.specs.Copying.{holds, IsOfName, at_place, copies_at, parts_copy}

-- ---- bits that are there

pub holds-cond : (p : BitSet) (b : Bool) (x y : Option Bit) → holds p (cond b x y) ≡ cond b (holds p x) (holds p y)
holds-cond p true x y = refl
holds-cond p false x y = refl

pub held : (p : BitSet) (o : Option Bit) → holds p o ≡ true → (y : Bit) × (o ≡ Some y) × (is_in p y ≡ true)
held p (Some y) h = (y, refl, h)
held p None h = absurd (false≢true h)

pub copies : (p : BitSet) (s : Scope) (e : pure.Expression) (j : ℕ) (b : Bool) → b ≡ copies_at p s e j → (b ≡ true) ↔ CopiesUnsettled p s e j
unfolding copies_at
copies p s e j b h = (λ t. held p (copied s e (sign_of s e) j) (sym h ∙ t), λ r. h ∙ ap (holds p) r.1 ∙ r.2)

-- ---- a bit of a name

some-words : (a : Option (ℕ × ℕ)) → nat_lt 0 (words_between a) ≡ true
some-words None = refl
some-words (Some a) = let l : 0 < distance a.0 a.1 + 1 = omega arith in lt-ltb 0 (distance a.0 a.1 + 1) l

bit-held : (p : BitSet) (o : Object) (n : Name) (k b : ℕ) → holds p (bit_in o n (Some k) (Some b)) ≡ (is_none o.constant && (is_bit_of o k b && p n k b))
bit-held p o n k b = at (is_none o.constant) (is_bit_of o k b)
  where
    at : (c t : Bool) → holds p (some_if (c && t) (record { of_name = n; word = k; place = b })) ≡ (c && (t && p n k b))
    at true true = refl
    at true false = refl
    at false t = refl

first-bit : (p : BitSet) (o : Object) (n : Name) (x b : ℕ) → IsOfName p o n x → holds p (bit_in o n (Some 0) (Some b)) ≡ is_set x b
first-bit p o n x b h =
    bit-held p o n 0 b ∙ ap (λ t. is_none o.constant && ((t && nat_lt b (object_width o)) && p n 0 b)) (some-words o.addresses) ∙ sym (h b)

place-held : (p : BitSet) (o : Object) (n : Name) (x : ℕ) (q : Option ℕ) → IsOfName p o n x → holds p (bit_in o n (Some 0) q) ≡ at_place x q
place-held p o n x None h = refl
place-held p o n x (Some b) h = first-bit p o n x b h

pub of-name : (p : BitSet) (o : Object) (n : Name) (x m w : ℕ) → w ≡ object_width o → x ≡ m % 2 ^ w
    → ((b : ℕ) → is_set m b ≡ (is_none o.constant && p n 0 b)) → IsOfName p o n x
of-name p o n x m w e v g b = ap (λ y. is_set y b) v ∙ cut (cases_lt b w) ∙ ap (λ z. is_none o.constant && (nat_lt b z && p n 0 b)) e
  where
    front : (c l q : Bool) → (l && (c && q)) ≡ (c && (l && q))
    front true l q = refl
    front false true q = refl
    front false false q = refl

    cut : (b < w) ⊎ (w ≤ b) → is_set (m % 2 ^ w) b ≡ (is_none o.constant && (nat_lt b w && p n 0 b))
    cut (inl l) =
        set_from_bit (m % 2 ^ w) m b b (bit_of_cut m w b l) ∙ g b
        ∙ sym (ap (λ t. t && (is_none o.constant && p n 0 b)) (lt-ltb b w l)) ∙ front (is_none o.constant) (nat_lt b w) (p n 0 b)
    cut (inr l) =
        unset_from_bit (m % 2 ^ w) b (bit_past_cut m w b l)
        ∙ sym (ap (λ t. t && (is_none o.constant && p n 0 b)) (le-ltb b w l)) ∙ front (is_none o.constant) (nat_lt b w) (p n 0 b)

-- ---- a whole name

whole-bit : (p : BitSet) (s : Scope) (n : Name) (x j : ℕ) → IsOfName p (s n) n x → holds p (bit_at s n whole j) ≡ is_set x j
whole-bit p s n x j h =
    let e : pos 0 +ℤ pos j ≡ pos j = omega (arith, ints) in
    ap (λ z. holds p (bit_in (s n) n (Some 0) (natural_in z))) e ∙ first-bit p (s n) n x j h

past-width : (p : BitSet) (o : Object) (n : Name) (x j : ℕ) → IsOfName p o n x → nat_lt j (object_width o) ≡ false → is_set x j ≡ false
past-width p o n x j h e = h j ∙ ap (λ t. is_none o.constant && (t && p n 0 j)) e ∙ none (is_none o.constant)
  where
    none : (c : Bool) → (c && false) ≡ false
    none true = refl
    none false = refl

pub whole-unsigned : (p : BitSet) (s : Scope) (n : Name) (x j : ℕ) → IsOfName p (s n) n x → (s n).signed ≡ false
    → is_set x j ≡ copies_at p s (name n whole) j
unfolding copies_at
whole-unsigned p s n x j h e = at (nat_lt j (object_width (s n))) refl ∙ sym (holds-cond p (nat_lt j (object_width (s n))) (bit_at s n whole j) (cond (s n).signed (bit_at s n whole (object_width (s n) - 1)) None))
  where
    at : (t : Bool) → nat_lt j (object_width (s n)) ≡ t → is_set x j ≡ cond t (holds p (bit_at s n whole j)) (holds p (cond (s n).signed (bit_at s n whole (object_width (s n) - 1)) None))
    at true l = sym (whole-bit p s n x j h)
    at false l = past-width p (s n) n x j h l ∙ sym (ap (λ c. holds p (cond c (bit_at s n whole (object_width (s n) - 1)) None)) e)

-- the bits past the width of a signed name
extended : (w x y j : ℕ) → j < 128 → w + 1 ≤ j → x < 2 ^ (w + 1) → y ≡ word_sext 128 (w + 1) x → is_set y j ≡ is_set x w
extended w x y j l g f e =
    let k : w + 1 ≡ suc w = omega arith in
    let fits : x < 2 ^ suc w = subst (λ v. x < 2 ^ v) k f in
    let low : suc w ≤ 128 = omega (arith, l, g) in
    let here : suc w ≤ j = omega (arith, g) in
    let room : j - suc w < 128 - suc w = omega (arith, l, here) in
    ap (λ z. is_set z j) e ∙ ap (λ v. is_set (word_sext 128 v x) j) k ∙ signed_bit (suc w) 128 x j low here fits
    ∙ top_past (top_bit (suc w) x) (128 - suc w) (j - suc w) room ∙ top_is w x fits

own-bits : (w x y j : ℕ) → j < w → w ≤ 128 → y ≡ word_sext 128 w x → is_set y j ≡ is_set x j
own-bits w x y j l g e = ap (λ z. is_set z j) e ∙ widened_low true w 128 x j g l

pub whole-signed : (p : BitSet) (s : Scope) (n : Name) (x y w j : ℕ) → IsOfName p (s n) n x → (s n).signed ≡ true → w ≡ object_width (s n) → w ≤ 128
    → x < 2 ^ w → y ≡ word_sext 128 w x → j < 128 → is_set y j ≡ copies_at p s (name n whole) j
unfolding copies_at
whole-signed p s n x y w j h e is g f v l =
    at (cases_lt j (object_width (s n)))
    ∙ sym (holds-cond p (nat_lt j (object_width (s n))) (bit_at s n whole j) (cond (s n).signed (bit_at s n whole (object_width (s n) - 1)) None))
  where
    d : ℕ
    d = distance (s n).left (s n).right

    at : (j < object_width (s n)) ⊎ (object_width (s n) ≤ j)
        → is_set y j ≡ cond (nat_lt j (object_width (s n))) (holds p (bit_at s n whole j)) (holds p (cond (s n).signed (bit_at s n whole (object_width (s n) - 1)) None))
    at (inl i) =
        own-bits w x y j (subst (λ z. j < z) (sym is) i) g v ∙ sym (whole-bit p s n x j h)
        ∙ sym (ap (λ t. cond t (holds p (bit_at s n whole j)) (holds p (cond (s n).signed (bit_at s n whole (object_width (s n) - 1)) None))) (lt-ltb j (object_width (s n)) i))
    at (inr i) =
        let k : d + 1 - 1 ≡ d = omega arith in
        extended d x y j l i (subst (λ z. x < 2 ^ z) is f) (subst (λ z. y ≡ word_sext 128 z x) is v)
        ∙ sym (whole-bit p s n x d h) ∙ ap (λ z. holds p (bit_at s n whole z)) (sym k)
        ∙ sym (ap (λ c. holds p (cond c (bit_at s n whole (object_width (s n) - 1)) None)) e)
        ∙ sym (ap (λ t. cond t (holds p (bit_at s n whole j)) (holds p (cond (s n).signed (bit_at s n whole (object_width (s n) - 1)) None))) (le-ltb j (object_width (s n)) i))

-- ---- a constant select

taken-bit : (low : ℤ) (count x j : ℕ) → j < count → is_set (bits_from low count x) j ≡ at_place x (natural_in (low +ℤ pos j))
taken-bit (pos k) count x j l =
    let e : pos k +ℤ pos j ≡ pos (k + j) = omega (arith, ints) in
    set_from_bit (bits_from (pos k) count x) x j (k + j) (bit_of_part k count x j (k + j) l refl) ∙ sym (ap (λ z. at_place x (natural_in z)) e)
taken-bit (negsuc k) count x j l = at (cases_lt j (k + 1))
  where
    at : (j < k + 1) ⊎ (k + 1 ≤ j) → is_set (bits_from (negsuc k) count x) j ≡ at_place x (natural_in (negsuc k +ℤ pos j))
    at (inl g) =
        let e : negsuc k +ℤ pos j ≡ negsuc (k - j) = omega (arith, ints, g) in
        unset_from_bit (bits_from (negsuc k) count x) j (bit_before_part k count x j l g) ∙ sym (ap (λ z. at_place x (natural_in z)) e)
    at (inr g) =
        let e : negsuc k +ℤ pos j ≡ pos (j - (k + 1)) = omega (arith, ints, g) in
        set_from_bit (bits_from (negsuc k) count x) x j (j - (k + 1)) (bit_within_part k count x j l g) ∙ sym (ap (λ z. at_place x (natural_in z)) e)

past-taken : (low : ℤ) (count x j : ℕ) → count ≤ j → is_set (bits_from low count x) j ≡ false
past-taken (pos k) count x j l = unset_from_bit (bits_from (pos k) count x) j (bit_past_cut (x / 2 ^ k) count j l)
past-taken (negsuc k) count x j l = unset_from_bit (bits_from (negsuc k) count x) j (bit_past_cut (x * 2 ^ (k + 1)) count j l)

-- the bit of one select of what is no memory
abbrev one-chosen : (s : Scope) (n : Name) (i : Select) (m : Bool) → Place
one-chosen s n i m =
    cond m (record { of_name = n; cell = indexed_cell (s n) (select_index s no_values i); bits = all_bits (s n) })
    (record { of_name = n; cell = variable_cell; bits = select_bits s no_values (s n) i })

pub one-selected : (p : BitSet) (s : Scope) (n : Name) (i : Select) (x y j : ℕ) → IsOfName p (s n) n x → is_memory (s n) ≡ false
    → y ≡ bits_taken x (select_bits s no_values (s n) i) → is_set y j ≡ copies_at p s (name n (one i)) j
unfolding copies_at
one-selected p s n i x y j h m e =
    ap (λ z. is_set z j) e ∙ at (cases_lt j b.count) ∙ sym (ap here m)
  where
    b : Bits
    b = select_bits s no_values (s n) i

    bit : Bool → ℕ → Option Bit
    bit q k = bit_in (s n) n (word_of_cell (one-chosen s n i q).cell) (natural_in ((one-chosen s n i q).bits.low +ℤ pos k))

    width : Bool → ℕ
    width q = cond q (object_width (s n)) b.count

    here : Bool → Bool
    here q = holds p (cond (nat_lt j (width q)) (bit q j) (cond (q && (s n).signed) (bit q (width q - 1)) None))

    at : (j < b.count) ⊎ (b.count ≤ j) → is_set (bits_from b.low b.count x) j ≡ here false
    at (inl l) =
        taken-bit b.low b.count x j l ∙ sym (place-held p (s n) n x (natural_in (b.low +ℤ pos j)) h)
        ∙ sym (ap (λ t. holds p (cond t (bit false j) None)) (lt-ltb j b.count l))
    at (inr l) = past-taken b.low b.count x j l ∙ sym (ap (λ t. holds p (cond t (bit false j) None)) (le-ltb j b.count l))

-- ---- names that copy nothing: memories, and two selects of what is no memory

nothing-widened : (p : BitSet) (s : Scope) (n : Name) (x : Selects) (j : ℕ) → ((k : ℕ) → holds p (bit_at s n x k) ≡ false) → false ≡ copies_at p s (name n x) j
unfolding copies_at
nothing-widened p s n x j h =
    let w = selects_width s (s n) x in
    let signed = selects_sign (s n) x in
    sym (holds-cond p (nat_lt j w) (bit_at s n x j) (cond signed (bit_at s n x (w - 1)) None)
    ∙ both (nat_lt j w) (holds p (bit_at s n x j)) (holds p (cond signed (bit_at s n x (w - 1)) None)) (h j)
    (holds-cond p signed (bit_at s n x (w - 1)) None ∙ both signed (holds p (bit_at s n x (w - 1))) false (h (w - 1)) refl))
  where
    both : (t a b : Bool) → a ≡ false → b ≡ false → cond t a b ≡ false
    both true a b e f = e
    both false a b e f = f

pub memory-copies : (p : BitSet) (s : Scope) (n : Name) (x : Selects) (j : ℕ) → ((k b : ℕ) → (is_bit_of (s n) k b && p n k b) ≡ false) → false ≡ copies_at p s (name n x) j
memory-copies p s n x j h = nothing-widened p s n x j (λ k. at (word_of_cell (named_place s no_values n x).cell) (natural_in ((named_place s no_values n x).bits.low +ℤ pos k)))
  where
    and-none : (c : Bool) → (c && false) ≡ false
    and-none true = refl
    and-none false = refl

    at : (w q : Option ℕ) → holds p (bit_in (s n) n w q) ≡ false
    at (Some k) (Some b) = bit-held p (s n) n k b ∙ ap (λ t. is_none (s n).constant && t) (h k b) ∙ and-none (is_none (s n).constant)
    at (Some k) None = refl
    at None q = refl

pub two-copies : (p : BitSet) (s : Scope) (n : Name) (i l : Select) (j : ℕ) → is_memory (s n) ≡ false → false ≡ copies_at p s (name n (two i l)) j
two-copies p s n i l j m =
    nothing-widened p s n (two i l) j
    (λ k. ap (λ w. holds p (bit_in (s n) n w (natural_in ((select_bits s no_values (s n) l).low +ℤ pos k)))) (no-word (s n).addresses m))
  where
    no-word : (a : Option (ℕ × ℕ)) → is_some a ≡ false → word_of_cell (cell_at (option_and_then (λ c. word_number c (select_index s no_values i)) a)) ≡ None
    no-word None e = refl
    no-word (Some c) e = absurd (false≢true (sym e))

-- ---- parts side by side

choice-held : (p : BitSet) (a : Bool) (o : Option Bit) (t : Bool) → holds p o ≡ t → holds p (cond a o None) ≡ (a && t)
choice-held p true o t h = h
choice-held p false o t h = refl

-- a part before others
pub part-copies : (p : BitSet) (s : Scope) (e : pure.Expression) (es : Expressions) (j : ℕ)
    → parts_copy p s (expression e es) j ≡ cond (nat_lt j (widths_of s es)) (parts_copy p s es j) (nat_lt (j - widths_of s es) (width_of s e) && copies_at p s e (j - widths_of s es))
unfolding parts_copy copies_at
part-copies p s e es j =
    let i = j - widths_of s es in
    holds-cond p (nat_lt j (widths_of s es)) (copied_in s es j) (cond (nat_lt i (width_of s e)) (copied s e (sign_of s e) i) None)
    ∙ ap (cond (nat_lt j (widths_of s es)) (holds p (copied_in s es j))) (choice-held p (nat_lt i (width_of s e)) (copied s e (sign_of s e) i) (holds p (copied s e (sign_of s e) i)) refl)

past-parts : (w v j : ℕ) → w + v ≤ j → (nat_lt j v ≡ false) × (nat_lt (j - v) w ≡ false)
past-parts w v j h = (grind (arith, nat_tests), grind (arith, nat_tests))

pub parts-past : (p : BitSet) (s : Scope) (es : Expressions) (j : ℕ) → widths_of s es ≤ j → parts_copy p s es j ≡ false
unfolding parts_copy
parts-past p s no_expressions j h = refl
parts-past p s (expression e es) j h =
    let g = past-parts (width_of s e) (widths_of s es) j h in
    part-copies p s e es j
    ∙ ap (λ t. cond t (parts_copy p s es j) (nat_lt (j - widths_of s es) (width_of s e) && copies_at p s e (j - widths_of s es))) g.0
    ∙ ap (λ t. t && copies_at p s e (j - widths_of s es)) g.1

-- before the first part
pub parts-begun : (p : BitSet) (s : Scope) (es : Expressions) (j : ℕ) → ((b : ℕ) → is_set 0 b ≡ false)
    → parts_copy p s es j ≡ cond (nat_lt j (widths_of s es)) (parts_copy p s es j) (is_set 0 (j - widths_of s es))
parts-begun p s es j z = at (cases_lt j (widths_of s es))
  where
    at : (j < widths_of s es) ⊎ (widths_of s es ≤ j) → parts_copy p s es j ≡ cond (nat_lt j (widths_of s es)) (parts_copy p s es j) (is_set 0 (j - widths_of s es))
    at (inl l) = sym (ap (λ t. cond t (parts_copy p s es j) (is_set 0 (j - widths_of s es))) (lt-ltb j (widths_of s es) l))
    at (inr l) =
        parts-past p s es j l ∙ sym (z (j - widths_of s es))
        ∙ sym (ap (λ t. cond t (parts_copy p s es j) (is_set 0 (j - widths_of s es))) (le-ltb j (widths_of s es) l))

-- a turn: `m` are the bits of the part, `x` those of the parts before it, `y` of all these
turn-tests : (w v j : ℕ) → v ≤ j → (nat_lt j (w + v) ≡ nat_lt (j - v) w) × (j - (w + v) ≡ j - v - w)
turn-tests w v j h = (grind (arith, nat_tests), omega arith)

low-turn : (w v j : ℕ) → j < v → nat_lt j (w + v) ≡ true
low-turn w v j h = grind (arith, nat_tests)

pub parts-turn : (p : BitSet) (s : Scope) (e : pure.Expression) (es : Expressions) (w x y m j : ℕ) (all : Bool) → w ≡ width_of s e
    → ((i : ℕ) → i < 128 → is_set m i ≡ copies_at p s e i) → ((i : ℕ) → i < 128 → is_set y i ≡ cond (nat_lt i w) (is_set m i) (is_set x (i - w)))
    → j < 128 → all ≡ cond (nat_lt j (width_of s e + widths_of s es)) (parts_copy p s (expression e es) j) (is_set x (j - (width_of s e + widths_of s es)))
    → all ≡ cond (nat_lt j (widths_of s es)) (parts_copy p s es j) (is_set y (j - widths_of s es))
parts-turn p s e es w x y m j all is f g l h = h ∙ at (cases_lt j v)
  where
    v : ℕ
    v = widths_of s es

    here : (t c d : Bool) → cond t (t && c) d ≡ cond t c d
    here true c d = refl
    here false c d = refl

    at : (j < v) ⊎ (v ≤ j) → cond (nat_lt j (width_of s e + v)) (parts_copy p s (expression e es) j) (is_set x (j - (width_of s e + v))) ≡ cond (nat_lt j v) (parts_copy p s es j) (is_set y (j - v))
    at (inl i) =
        ap (λ t. cond t (parts_copy p s (expression e es) j) (is_set x (j - (width_of s e + v)))) (low-turn (width_of s e) v j i)
        ∙ part-copies p s e es j
        ∙ ap (λ t. cond t (parts_copy p s es j) (nat_lt (j - v) (width_of s e) && copies_at p s e (j - v))) (lt-ltb j v i)
        ∙ sym (ap (λ t. cond t (parts_copy p s es j) (is_set y (j - v))) (lt-ltb j v i))
    at (inr i) =
        let r : j - v < 128 = omega (arith, l) in
        let g2 = turn-tests (width_of s e) v j i in
        ap (λ t. cond t (parts_copy p s (expression e es) j) (is_set x (j - (width_of s e + v)))) g2.0
        ∙ ap (λ k. cond (nat_lt (j - v) (width_of s e)) (parts_copy p s (expression e es) j) (is_set x k)) g2.1
        ∙ ap (λ t. cond (nat_lt (j - v) (width_of s e)) t (is_set x (j - v - width_of s e))) (part-copies p s e es j ∙ ap (λ t. cond t (parts_copy p s es j) (nat_lt (j - v) (width_of s e) && copies_at p s e (j - v))) (le-ltb j v i))
        ∙ here (nat_lt (j - v) (width_of s e)) (copies_at p s e (j - v)) (is_set x (j - v - width_of s e))
        ∙ ap (λ t. cond (nat_lt (j - v) (width_of s e)) t (is_set x (j - v - width_of s e))) (sym (f (j - v) r))
        ∙ ap (λ k. cond (nat_lt (j - v) k) (is_set m (j - v)) (is_set x (j - v - k))) (sym is)
        ∙ sym (g (j - v) r)
        ∙ sym (ap (λ t. cond t (parts_copy p s es j) (is_set y (j - v))) (le-ltb j v i))

pub parts-ended : (p : BitSet) (s : Scope) (es : Expressions) (x j : ℕ) (all : Bool) → es ≡ no_expressions
    → all ≡ cond (nat_lt j (widths_of s es)) (parts_copy p s es j) (is_set x (j - widths_of s es)) → is_set x j ≡ all
unfolding parts_copy
parts-ended p s es x j all e h = sym (h ∙ ap (λ z. cond (nat_lt j (widths_of s z)) (parts_copy p s z j) (is_set x (j - widths_of s z))) e ∙ none)
  where
    none : cond (nat_lt j 0) false (is_set x (j - 0)) ≡ is_set x j
    none = let a : nat_lt j 0 ≡ false = grind (arith, nat_tests) in let b : j - 0 ≡ j = omega arith in
        ap (λ t. cond t false (is_set x (j - 0))) a ∙ ap (is_set x) b

pub concatenation-copies : (p : BitSet) (s : Scope) (es : Expressions) (j : ℕ) → parts_copy p s es j ≡ copies_at p s (pure.concatenation es) j
unfolding parts_copy copies_at
concatenation-copies p s es j = refl

-- ---- copies

pub replication-copies : (p : BitSet) (s : Scope) (k : pure.Expression) (es : Expressions) (j : ℕ)
    → (nat_lt j (width_of s (replication k es)) && parts_copy p s es (j % widths_of s es)) ≡ copies_at p s (replication k es) j
unfolding parts_copy copies_at
replication-copies p s k es j =
    sym (choice-held p (nat_lt j (width_of s (replication k es))) (copied_in s es (j % widths_of s es)) (holds p (copied_in s es (j % widths_of s es))) refl)

-- ---- as the code finds them

pub one-width : (s : Scope) (n : Name) (i : Select) (o : Object) (b : Bits) → o ≡ s n → is_memory o ≡ false → IsNarrow s (name n (one i)) → b ≡ select_bits s no_values o i → IsWidth b.count
one-width s n i o b e m h is =
    subst (λ (z : Bits). IsWidth z.count) (sym is)
    (subst (λ q. IsWidth (cond q (object_width o) (select_bits s no_values o i).count)) m (subst (λ (z : Object). IsWidth (selects_width s z (one i))) (sym e) h.0))

pub one-found : (p : BitSet) (s : Scope) (n : Name) (i : Select) (o : Object) (x y j : ℕ) (b : Bits) → o ≡ s n → IsOfName p o n x → is_memory o ≡ false
    → y ≡ bits_taken x b → b ≡ select_bits s no_values o i → is_set y j ≡ copies_at p s (name n (one i)) j
one-found p s n i o x y j b e h m f g =
    one-selected p s n i x y j (subst (λ (z : Object). IsOfName p z n x) e h) (sym (ap is_memory e) ∙ m)
    (f ∙ ap (bits_taken x) g ∙ ap (λ (z : Object). bits_taken x (select_bits s no_values z i)) e)

pub whole-found : (p : BitSet) (s : Scope) (n : Name) (o : Object) (x j : ℕ) → o ≡ s n → IsOfName p o n x → o.signed ≡ false → is_set x j ≡ copies_at p s (name n whole) j
whole-found p s n o x j e h f =
    whole-unsigned p s n x j (subst (λ (z : Object). IsOfName p z n x) e h) (sym (ap (λ (z : Object). z.signed) e) ∙ f)

pub signed-found : (p : BitSet) (s : Scope) (n : Name) (o : Object) (x y w j : ℕ) → o ≡ s n → IsOfName p o n x → o.signed ≡ true → w ≡ object_width o → w ≤ 128
    → x < 2 ^ w → y ≡ word_sext 128 w x → j < 128 → is_set y j ≡ copies_at p s (name n whole) j
signed-found p s n o x y w j e h f is =
    whole-signed p s n x y w j (subst (λ (z : Object). IsOfName p z n x) e h) (sym (ap (λ (z : Object). z.signed) e) ∙ f) (is ∙ ap object_width e)

pub two-found : (p : BitSet) (s : Scope) (n : Name) (i l : Select) (j : ℕ) → ((k b : ℕ) → is_memory (s n) ≡ true → (is_bit_of (s n) k b && p n k b) ≡ false)
    → false ≡ copies_at p s (name n (two i l)) j
two-found p s n i l j h = at (cases_Bool (is_memory (s n)))
  where
    at : (is_memory (s n) ≡ true) ⊎ (is_memory (s n) ≡ false) → false ≡ copies_at p s (name n (two i l)) j
    at (inl m) = memory-copies p s n (two i l) j (λ k b. h k b m)
    at (inr m) = two-copies p s n i l j m

-- one more place of the copies: b is the bit there
or-none : (b : Bool) → b || false ≡ b
or-none true = refl
or-none false = refl

one-more : (i j : ℕ) (t : ℕ → Bool) → ((nat_lt j i && t j) || (j == i && t i)) ≡ (nat_lt j (i + 1) && t j)
one-more i j t = at (cases_eq j i)
  where
    before : (p : Bool) → nat_lt j i ≡ nat_lt j (i + 1) → (j == i) ≡ false → ((nat_lt j i && p) || ((j == i) && t i)) ≡ (nat_lt j (i + 1) && p)
    before p e f = ap (λ z. (nat_lt j i && p) || (z && t i)) f ∙ or-none (nat_lt j i && p) ∙ ap (λ z. z && p) e

    at : (j ≡ i) ⊎ (j ≡ i → ⊥) → ((nat_lt j i && t j) || (j == i && t i)) ≡ (nat_lt j (i + 1) && t j)
    at (inl e) =
        let a : nat_lt j i ≡ false = grind (arith, nat_tests) in
        let b : (j == i) ≡ true = grind (arith, nat_tests) in
        let d : nat_lt j (i + 1) ≡ true = grind (arith, nat_tests) in
        ap (λ z. (z && t j) || (j == i && t i)) a ∙ ap (λ z. z && t i) b ∙ ap t (sym e) ∙ sym (ap (λ z. z && t j) d)
    at (inr n) =
        let m : j ≢ i = n in
        let a : nat_lt j i ≡ nat_lt j (i + 1) = grind (arith, nat_tests) in
        let b : (j == i) ≡ false = grind (arith, nat_tests) in
        before (t j) a b

pub copied-turn : (mask width i x y j : ℕ) (b : Bool) → b ≡ is_set mask (i % width) → is_set y j ≡ (is_set x j || (j == i && b))
    → is_set x j ≡ (nat_lt j i && is_set mask (j % width)) → is_set y j ≡ (nat_lt j (i + 1) && is_set mask (j % width))
copied-turn mask width i x y j b e h g =
    h ∙ ap (λ z. z || (j == i && b)) g ∙ ap (λ z. (nat_lt j i && is_set mask (j % width)) || (j == i && z)) e
    ∙ one-more i j (λ k. is_set mask (k % width))
