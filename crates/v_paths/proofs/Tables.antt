-- Tables of masks: spans that are added, and spans that are cut by them.
use Rattle.std.proofs.Common.{◌≡◌, ◌∙◌, ℕ, ◌+◌, ◌<◌, refl, ap, sym, Bool, true, false, cond, not, List, [], ◌∷◌, ◌++◌, length, drop, get_or, Bor, Some, unwrap_or, bit_or}
use Rattle.std.specs.Prelude.{◌&&◌, ◌||◌}
use Rattle.std.specs.Ordering.{nat_cmp}
use Rattle.std.specs.Cmp.Lexicographic.{slice_cmp}
use Rattle.std.specs.BTreeMap as tree
use Rattle.std.specs.BTreeMap.{BTreeMap, is_at}
use Rattle.std.specs.Map.{lookup}
use Rattle.std.proofs.lemmas.Slice.Eq.{bytes_eq-Decides}
use Rattle.std.proofs.lemmas.Map.Text.{btree_map_updates_str}
use Rattle.std.proofs.lemmas.List.{drop_more}
use Rattle.wb_values.specs.Value.{Name, same_name}
use Rattle.verilog_meaning.specs.Register.{is_set}
use Rattle.verilog_designs.specs.Reads.{BitSet, no_bits, or_in, and_in, but_not_in}
use Rattle.v_flow.specs.declared.span.Span.{Span}
use Rattle.v_flow.specs.Spans.{is_between, bits_of, bits_in}
use Rattle.v_flow.proofs.Sets.{or_false, or-assoc, push, turn}
use Rattle.v_hier.specs.Tables.{under_name}
use Rattle.v_masks.specs.Masks.{mask_under, masked, spread}
use Rattle.v_masks.proofs.Bits.{set-none, set-or}

-- ---- a span more

-- whether a span has the word 0, and its bits there
pub first-word : (d w c : Bool) → c ≡ true → c ≡ d → w ≡ (d && w)
first-word d w c t e = ap (λ x. x && w) (sym t ∙ e)

pub no-first-word : (d w c : Bool) (b : ℕ) → c ≡ false → c ≡ d → is_set 0 b ≡ (d && w)
no-first-word d w c b f e = set-none b ∙ ap (λ x. x && w) (sym f ∙ e)

module _ (old new : BTreeMap (Bor (List ℕ)) ℕ) (x : Span) (word m : ℕ) (bits : (b : ℕ) → is_set word b ≡ (is_between x.from_word x.to_word 0 && is_set x.bits b))
    (is : m ≡ bit_or (mask_under old x.name.now) word) (u : tree.Updates (λ a b. slice_cmp nat_cmp a.now b.now) old new x.name (Some m)) where
  same : (q : Name) (b : ℕ) → same_name x.name.now q ≡ true → is_set m b ≡ (is_set (mask_under old q) b || (is_between x.from_word x.to_word 0 && is_set x.bits b))
  same q b h =
      ap (λ z. is_set z b) is ∙ set-or (mask_under old x.name.now) word b
      ∙ ap (λ t. is_set (mask_under old x.name.now) b || t) (bits b)
      ∙ ap (λ n. is_set (mask_under old n) b || (is_between x.from_word x.to_word 0 && is_set x.bits b)) ((bytes_eq-Decides x.name.now q).0 h)

  by-name : (q : Name) (b : ℕ) (t : Bool) → same_name x.name.now q ≡ t
      → is_set (unwrap_or (cond t (Some m) (under_name old q)) 0) b ≡ (is_set (mask_under old q) b || (t && (is_between x.from_word x.to_word 0 && is_set x.bits b)))
  by-name q b true h = same q b h
  by-name q b false h = sym (or_false (is_set (mask_under old q) b))

  at : (q : Name) (k b : ℕ) → masked new q k b ≡ or_in (masked old) (spread (bits_of x)) q k b
  at q k b = ap (λ o. is_set (unwrap_or o 0) b) (btree_map_updates_str x.name.now old new (Some m) u q) ∙ by-name q b (same_name x.name.now q) refl

  pub span-added : masked new ≡ or_in (masked old) (spread (bits_of x))
  span-added = λ i q k b. at q k b i

-- the turn of a loop over the spans of a list
pub spans-turn : (xs : List Span) (i : ℕ) (d : Span) (t m n : BitSet) → i < length xs → n ≡ or_in m (spread (bits_of (get_or xs i d)))
    → t ≡ or_in m (spread (bits_in (drop i xs))) → t ≡ or_in n (spread (bits_in (drop (i + 1) xs)))
spans-turn xs i d t m n h e g =
    turn t m n (spread (bits_of (get_or xs i d))) (spread (bits_in (drop (i + 1) xs))) (g ∙ ap (λ ys. or_in m (spread (bits_in ys))) (drop_more xs i d h)) e

-- an empty table
none-at : (t : BTreeMap (Bor (List ℕ)) ℕ) → t.entries ≡ [] → (q : Name) (b : ℕ) → is_set (mask_under t q) b ≡ false
none-at t e q b =
    ap (λ (es : List (Bor (List ℕ) × ℕ)). is_set (unwrap_or (lookup (is_at (λ (c : Bor (List ℕ)). slice_cmp nat_cmp q c.now)) es) 0) b) e ∙ set-none b

pub none-masked : (t : BTreeMap (Bor (List ℕ)) ℕ) → t.entries ≡ [] → masked t ≡ no_bits
none-masked t e = λ i q k b. none-at t e q b i

-- ---- spans that are cut

and-moved : (p q m : Bool) → (p || q) && m ≡ (p && m) || (q && m)
and-moved true true true = refl
and-moved true true false = refl
and-moved true false true = refl
and-moved true false false = refl
and-moved false q m = refl

pub and-spans : (p q m : BitSet) → and_in (or_in p q) m ≡ or_in (and_in p m) (and_in q m)
and-spans p q m = λ i n k b. and-moved (p n k b) (q n k b) (m n k b) i

pub not-spans : (p q m : BitSet) → but_not_in (or_in p q) m ≡ or_in (but_not_in p m) (but_not_in q m)
not-spans p q m = λ i n k b. and-moved (p n k b) (q n k b) (not (m n k b)) i

cut-moved : (a w c m : Bool) → (a && (w && (c && m))) ≡ ((a && (w && c)) && m)
cut-moved true true c m = refl
cut-moved true false c m = refl
cut-moved false w c m = refl

-- bits, each only where a test of its name and place has it
abbrev pub under : (Name → ℕ → Bool) → BitSet → BitSet
under test p q k b = p q k b && test q b

module _ (x : Span) (y : Span) (test : Name → ℕ → Bool) (n : y.name.now ≡ x.name.now) (f : y.from_word ≡ x.from_word) (t : y.to_word ≡ x.to_word)
    (bits : (b : ℕ) → is_set y.bits b ≡ (is_set x.bits b && test x.name.now b)) where
  under-test : (q : Name) (k b : ℕ) (s : Bool) → same_name x.name.now q ≡ s
      → (s && (is_between x.from_word x.to_word k && (is_set x.bits b && test x.name.now b))) ≡ ((s && (is_between x.from_word x.to_word k && is_set x.bits b)) && test q b)
  under-test q k b true h =
      cut-moved true (is_between x.from_word x.to_word k) (is_set x.bits b) (test x.name.now b)
      ∙ ap (λ m. (is_between x.from_word x.to_word k && is_set x.bits b) && test m b) ((bytes_eq-Decides x.name.now q).0 h)
  under-test q k b false h = refl

  cut-at : (q : Name) (k b : ℕ) → bits_of y q k b ≡ (bits_of x q k b && test q b)
  cut-at q k b =
      ap (λ m. same_name m q && (is_between y.from_word y.to_word k && is_set y.bits b)) n
      ∙ ap (λ v. same_name x.name.now q && (is_between v y.to_word k && is_set y.bits b)) f
      ∙ ap (λ v. same_name x.name.now q && (is_between x.from_word v k && is_set y.bits b)) t
      ∙ ap (λ v. same_name x.name.now q && (is_between x.from_word x.to_word k && v)) (bits b)
      ∙ under-test q k b (same_name x.name.now q) refl

  pub cut-span : bits_of y ≡ under test (bits_of x)
  cut-span = λ i q k b. cut-at q k b i

-- the turn of a loop that pushes cut spans: `cut` goes over unions
pub cut-turn : (cut : BitSet → BitSet) → ((p q : BitSet) → cut (or_in p q) ≡ or_in (cut p) (cut q))
    → (xs : List Span) (i : ℕ) (d y : Span) (ys zs : List Span) (t : BitSet) → i < length xs → bits_of y ≡ cut (bits_of (get_or xs i d)) → zs ≡ ys ++ y ∷ []
    → t ≡ or_in (bits_in ys) (cut (bits_in (drop i xs))) → t ≡ or_in (bits_in zs) (cut (bits_in (drop (i + 1) xs)))
cut-turn cut over xs i d y ys zs t h e p g =
    let x = get_or xs i d in
    let rest = bits_in (drop (i + 1) xs) in
    turn t (bits_in ys) (bits_in zs) (cut (bits_of x)) (cut rest)
    (g ∙ ap (λ ws. or_in (bits_in ys) (cut (bits_in ws))) (drop_more xs i d h) ∙ ap (or_in (bits_in ys)) (over (bits_of x) rest))
    (ap bits_in p ∙ push ys y ∙ ap (or_in (bits_in ys)) e)

-- spans one list after the other
pub appended : (xs ys : List Span) → bits_in (xs ++ ys) ≡ or_in (bits_in xs) (bits_in ys)
appended [] ys = refl
appended (x ∷ xs) ys = ap (or_in (bits_of x)) (appended xs ys) ∙ sym (or-assoc (bits_of x) (bits_in xs) (bits_in ys))
