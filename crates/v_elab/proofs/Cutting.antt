-- Numbers and memories cut to masks.
use Rattle.std.proofs.Common.{◌≡◌, ◌∙◌, ℕ, ◌+◌, ◌-◌, ◌^◌, ◌<◌, ◌≤◌, refl, ap, sym, subst, Bool, true, false, ◌⊎◌, inl, inr, List, length, slice_index, slice_set, bit_and, arith, Option, Some, eq-eqb, length-set, get_or-set_same, get_or-set_other}
use Rattle.std.specs.Prelude.{◌&&◌, ◌==◌}
use Rattle.std.proofs.lemmas.Bool.{cases_lt, cases_eq, and_from, false≢true}
use Rattle.std.proofs.lemmas.Bool.Decides.{nat_tests}
use Rattle.std.proofs.lemmas.Nat.Bits.{bit_at_ones}
use lib.Bits.{and_zero_r}
use Rattle.wb_values.specs.Value.{Name, Sort, word, memory, number, words, as_words, as_number, Valuation}
use Rattle.wb_values.specs.Choice.{some_if}
use Rattle.model_meaning.specs.Term.{val, load, store, load_sort, store_sort, sort_of}
use Rattle.verilog_meaning.specs.Register.{is_set}
use Rattle.wb_terms.specs.Graph.{Graph, tree}
use Rattle.verilog_settled.proofs.Bits.{unset_past}
use Rattle.v_masks.proofs.Bits.{set-and}
use Rattle.v_operators.specs.Meaning.{Grows, IsOfSort, HasNumber, Joins}
use Rattle.v_operators.proofs.Growing.{Grows-trans, number_kept, tree_kept}
use Rattle.v_elab.specs.Tables.{IsWordKept, IsOneCut, AreCut, IsCut, IsWordPart, IsWordCut}

-- ---- numbers

all_set : (w b : ℕ) → b < w → is_set (2 ^ w - 1) b ≡ true
all_set w b h = ap (λ z. z == 1) (bit_at_ones w b h)

and_true : (a : Bool) → (a && true) ≡ a
and_true true = refl
and_true false = refl

unset_first : (a c : Bool) → a ≡ false → a ≡ (a && c)
unset_first true c h = absurd (false≢true (sym h))
unset_first false c h = refl

-- a mask of all bits changes nothing
pub whole_mask : (w x bits b : ℕ) → x < 2 ^ w → bit_and bits (2 ^ w - 1) ≡ 2 ^ w - 1 → is_set x b ≡ (is_set x b && is_set bits b)
whole_mask w x bits b l e = by (cases_lt b w)
  where
    bit_true : (p q : Bool) → (p && q) ≡ q → q ≡ true → p ≡ true
    bit_true true q h g = refl
    bit_true false q h g = h ∙ g

    by : (b < w) ⊎ (w ≤ b) → is_set x b ≡ (is_set x b && is_set bits b)
    by (inl h) =
        sym (and_true (is_set x b))
        ∙ ap (λ t. is_set x b && t)
        (sym (bit_true (is_set bits b) (is_set (2 ^ w - 1) b) (sym (set-and bits (2 ^ w - 1) b) ∙ ap (λ z. is_set z b) e) (all_set w b h)))
    by (inr h) = unset_first (is_set x b) (is_set bits b) (unset_past w x b l h)

-- a number cut to the part of a mask that it has
pub part_mask : (w x bits b : ℕ) → x < 2 ^ w → is_set (bit_and x (bit_and bits (2 ^ w - 1))) b ≡ (is_set x b && is_set bits b)
part_mask w x bits b l =
    set-and x (bit_and bits (2 ^ w - 1)) b ∙ ap (λ t. is_set x b && t) (set-and bits (2 ^ w - 1) b) ∙ by (cases_lt b w)
  where
    none : (p q r : Bool) → p ≡ false → (p && (q && r)) ≡ (p && q)
    none true q r h = absurd (false≢true (sym h))
    none false q r h = refl

    by : (b < w) ⊎ (w ≤ b) → (is_set x b && (is_set bits b && is_set (2 ^ w - 1) b)) ≡ (is_set x b && is_set bits b)
    by (inl h) = ap (λ t. is_set x b && (is_set bits b && t)) (all_set w b h) ∙ ap (λ t. is_set x b && t) (and_true (is_set bits b))
    by (inr h) = none (is_set x b) (is_set bits b) (is_set (2 ^ w - 1) b) (unset_past w x b l h)

pub name_kept : (g : Graph) (n : Name) (t : Sort) (w bits all id : ℕ) → t ≡ word w → all ≡ 2 ^ w - 1 → IsOfSort g id t → ((p : Valuation) → val (tree g id) p ≡ p n)
    → bit_and bits all ≡ all → IsWordKept g n w bits id
name_kept g n t w bits all id e a sort same full =
    record {
      of_sort = subst (IsOfSort g id) e sort;
      value = λ p x is l. record {
        number = x;
        has = record { value = same p ∙ is; fits = l };
        bits_are = λ b. whole_mask w x bits b l (subst (λ z. bit_and bits z ≡ z) a full);
      };
    }

pub cut_kept : (g h k : Graph) (n : Name) (t : Sort) (w bits all id known cut : ℕ) → t ≡ word w → all ≡ 2 ^ w - 1 → Grows g h → IsOfSort g id t
    → ((p : Valuation) → val (tree g id) p ≡ p n) → ((p : Valuation) → HasNumber h known w p (bit_and bits all))
    → Joins h k id w known w cut w bit_and → IsWordKept k n w bits cut
cut_kept g h k n t w bits all id known cut e a grows sort same constant made =
    record {
      of_sort = made.of_sort;
      value = λ p x is l.
          let first : HasNumber h id w p x = number_kept id w p x grows sort.below (record { value = same p ∙ is; fits = l }) in
          record {
            number = bit_and x (bit_and bits all);
            has = made.value p x (bit_and bits all) first (constant p);
            bits_are = λ b. ap (λ z. is_set (bit_and x (bit_and bits z)) b) a ∙ part_mask w x bits b l;
          };
    }

-- ---- memories

pub whole_cut : (g : Graph) (whole m a w address bits all : ℕ) → all ≡ 2 ^ w - 1 → IsOfSort g m (memory a w) → bit_and bits all ≡ all
    → IsWordCut g g whole m a w address bits m
whole_cut g whole m a w address bits all e sort full =
    record {
      of_sort = sort;
      value = λ p ys xs has same is long narrow. record {
        now = xs;
        is_worth = is;
        long = refl;
        narrow = narrow;
        cut = λ b. whole_mask w (slice_index xs address) bits b (narrow address) (subst (λ z. bit_and bits z ≡ z) e full);
        rest = λ j d. refl;
      };
    }

-- what is kept of a word where that is nothing
pub no_part : (g h : Graph) (m w address kept nought : ℕ) → kept ≡ 0 → IsOfSort h nought (word w) → ((p : Valuation) → HasNumber h nought w p 0)
    → IsWordPart g h m w address kept nought
no_part g h m w address kept nought e sort constant =
    record {
      of_sort = sort;
      value = λ p xs is fits.
          subst (HasNumber h nought w p) (sym (ap (bit_and (slice_index xs address)) e ∙ and_zero_r (slice_index xs address))) (constant p);
    }

-- and where it is something
pub some_part : (g i j k : Graph) (m w a address kept place read known cut : ℕ) → Grows i j → IsOfSort i read (word w) → ((p : Valuation) → HasNumber g place a p address)
    → tree i read ≡ load (tree g m) (tree g place) → ((p : Valuation) → HasNumber j known w p kept) → Joins j k read w known w cut w bit_and
    → IsWordPart g k m w address kept cut
some_part g i j k m w a address kept place read known cut ij read_sort at loaded constant made =
    record {
      of_sort = made.of_sort;
      value = λ p xs is fits.
          let first : HasNumber i read w p (slice_index xs address) =
          record {
            value = ap (λ t. val t p) loaded
                ∙ ap (λ z. number (slice_index (as_words z) (as_number (val (tree g place) p)))) is
                ∙ ap (λ z. number (slice_index xs (as_number z))) (at p).value;
            fits = fits;
          } in
          made.value p (slice_index xs address) kept (number_kept read w p (slice_index xs address) ij read_sort.below first) (constant p);
    }

-- a word of a memory is cut, and put back
module _ (g h k l : Graph) (whole m a w address bits all place cut id : ℕ) (e : all ≡ 2 ^ w - 1) (within : address < 2 ^ a)
    (whole_sort : IsOfSort g whole (memory a w)) (sort : IsOfSort g m (memory a w)) (gh : Grows g h) (hk : Grows h k)
    (at : (p : Valuation) → HasNumber h place a p address) (below : place < length h.nodes) (part : IsWordPart h k whole w address (bit_and bits all) cut)
    (stored : tree l id ≡ store (tree k m) (tree k place) (tree k cut)) (stored_sort : IsOfSort l id (memory a w)) where
  module _ (p : Valuation) (ys xs : List ℕ) (has : val (tree g whole) p ≡ words ys) (same : slice_index ys address ≡ slice_index xs address)
      (is : val (tree g m) p ≡ words xs) (long : length xs ≡ 2 ^ a) (narrow : (q : ℕ) → slice_index xs q < 2 ^ w) where
    abbrev x : ℕ
    x = slice_index xs address

    abbrev y : ℕ
    y = bit_and x (bit_and bits all)

    cut_word : HasNumber k cut w p y
    cut_word =
        subst (λ z. HasNumber k cut w p (bit_and z (bit_and bits all))) same
        (part.value p ys (ap (λ t. val t p) (tree_kept whole gh whole_sort.below) ∙ has) (subst (λ z. z < 2 ^ w) (sym same) (narrow address)))

    is_stored : val (tree l id) p ≡ words (slice_set xs address y)
    is_stored =
        ap (λ t. val t p) stored
        ∙ ap (λ z. words (slice_set (as_words z) (as_number (val (tree k place) p)) (as_number (val (tree k cut) p))))
        (ap (λ t. val t p) (tree_kept m (Grows-trans gh hk) sort.below) ∙ is)
        ∙ ap (λ z. words (slice_set xs (as_number z) (as_number (val (tree k cut) p)))) (ap (λ t. val t p) (tree_kept place hk below) ∙ (at p).value)
        ∙ ap (λ z. words (slice_set xs address (as_number z))) cut_word.value

    inside : address < length xs
    inside = subst (λ z. address < z) (sym long) within

    still_narrow : (q : ℕ) → slice_index (slice_set xs address y) q < 2 ^ w
    still_narrow q = by (cases_eq q address)
      where
        by : (q ≡ address) ⊎ (q ≡ address → ⊥) → slice_index (slice_set xs address y) q < 2 ^ w
        by (inl d) =
            subst (λ z. slice_index (slice_set xs address y) z < 2 ^ w) (sym d)
            (subst (λ z. z < 2 ^ w) (sym (get_or-set_same xs address y 0 inside)) cut_word.fits)
        by (inr d) = subst (λ z. z < 2 ^ w) (sym (get_or-set_other xs address q y 0 d)) (narrow q)

    cut_bits : (b : ℕ) → is_set (slice_index (slice_set xs address y) address) b ≡ (is_set x b && is_set bits b)
    cut_bits b =
        ap (λ z. is_set z b) (get_or-set_same xs address y 0 inside) ∙ ap (λ z. is_set (bit_and x (bit_and bits z)) b) e
        ∙ part_mask w x bits b (narrow address)

  pub word_put : IsWordCut g l whole m a w address bits id
  word_put =
      record {
        of_sort = stored_sort;
        value = λ p ys xs has same is long narrow. record {
          now = slice_set xs address (y p ys xs has same is long narrow);
          is_worth = is_stored p ys xs has same is long narrow;
          long = length-set xs address (y p ys xs has same is long narrow);
          narrow = still_narrow p ys xs has same is long narrow;
          cut = cut_bits p ys xs has same is long narrow;
          rest = λ q d. get_or-set_other xs address q (y p ys xs has same is long narrow) 0 d;
        };
      }

-- ---- word after word

pub none_cut : (g : Graph) (n : Name) (t : Sort) (a w : ℕ) (masks : List ℕ) (id : ℕ) → t ≡ memory a w → IsOfSort g id t → ((p : Valuation) → val (tree g id) p ≡ p n)
    → IsCut g n a w masks 0 id
none_cut g n t a w masks id e sort same =
    record {
      of_sort = subst (IsOfSort g id) e sort;
      value = λ p xs is long narrow. record {
        now = xs;
        is_worth = same p ∙ is;
        long = refl;
        narrow = narrow;
        cut = λ j b l. absurd (omega (arith, l));
        rest = λ j d. refl;
      };
    }

pub one_cut : (g h : Graph) (n : Name) (a w : ℕ) (masks : List ℕ) (k mask whole old id : ℕ) → mask ≡ slice_index masks k
    → ((p : Valuation) → val (tree g whole) p ≡ p n) → IsCut g n a w masks k old → IsWordCut g h whole old a w k mask id → IsCut h n a w masks (k + 1) id
one_cut g h n a w masks k mask whole old id e same c o =
    record { of_sort = o.of_sort; value = worth }
  where
    worth : (p : Valuation) (xs : List ℕ) → p n ≡ words xs → length xs ≡ 2 ^ a → ((j : ℕ) → slice_index xs j < 2 ^ w) → AreCut h id w p masks xs (k + 1)
    worth p xs is long narrow =
        let f = c.value p xs is long narrow in
        let q = o.value p xs f.now (same p ∙ is) (sym (f.rest k (λ r. omega (arith, r)))) f.is_worth (f.long ∙ long) f.narrow in
        record { now = q.now; is_worth = q.is_worth; long = q.long ∙ f.long; narrow = q.narrow; cut = λ j b l. cut f q j b l (cases_eq j k); rest = rest f q }
      where
        cut : (f : AreCut g old w p masks xs k) (q : IsOneCut h id w p f.now k mask) (j b : ℕ) → j < k + 1 → (j ≡ k) ⊎ (j ≡ k → ⊥)
            → is_set (slice_index q.now j) b ≡ (is_set (slice_index xs j) b && is_set (slice_index masks j) b)
        cut f q j b l (inl d) =
            ap (λ z. is_set (slice_index q.now z) b) d ∙ q.cut b
            ∙ ap (λ z. is_set z b && is_set mask b) (f.rest k (λ r. omega (arith, r)))
            ∙ ap (λ z. is_set (slice_index xs k) b && is_set z b) e
            ∙ ap (λ z. is_set (slice_index xs z) b && is_set (slice_index masks z) b) (sym d)
        cut f q j b l (inr d) = ap (λ z. is_set z b) (q.rest j d) ∙ f.cut j b (smaller j l d)
          where
            smaller : (z : ℕ) → z < k + 1 → (z ≡ k → ⊥) → z < k
            smaller z r s = grind (arith, nat_tests)

        rest : (f : AreCut g old w p masks xs k) (q : IsOneCut h id w p f.now k mask) (j : ℕ) → (j < k + 1 → ⊥) → slice_index q.now j ≡ slice_index xs j
        rest f q j d = q.rest j (λ r. d (omega (arith, r))) ∙ f.rest j (λ r. d (omega (arith, r)))

-- ---- sorts

load_sorted : (m i : Option Sort) (a d : ℕ) → m ≡ Some (memory a d) → i ≡ Some (word a) → load_sort m i ≡ Some (word d)
load_sorted m i a d e f = ap (λ o. load_sort o i) e ∙ (ap (load_sort (Some (memory a d))) f ∙ ap (λ b. some_if b (word d)) (eq-eqb a a refl))

store_sorted : (m i x : Option Sort) (a d : ℕ) → m ≡ Some (memory a d) → i ≡ Some (word a) → x ≡ Some (word d) → store_sort m i x ≡ Some (memory a d)
store_sorted m i x a d e f k =
    ap (λ o. store_sort o i x) e ∙ (ap (λ o. store_sort (Some (memory a d)) o x) f ∙ (ap (store_sort (Some (memory a d)) (Some (word a))) k
    ∙ ap (λ b. some_if b (memory a d)) (and_from (a == a) (d == d) (eq-eqb a a refl) (eq-eqb d d refl))))

pub load_sort_of : (g : Graph) (m i a d : ℕ) → IsOfSort g m (memory a d) → IsOfSort g i (word a) → load_sort (sort_of (tree g m)) (sort_of (tree g i)) ≡ Some (word d)
load_sort_of g m i a d o q = load_sorted (sort_of (tree g m)) (sort_of (tree g i)) a d o.sort q.sort

pub store_sort_of : (g : Graph) (m i x a d : ℕ) → IsOfSort g m (memory a d) → IsOfSort g i (word a) → IsOfSort g x (word d)
    → store_sort (sort_of (tree g m)) (sort_of (tree g i)) (sort_of (tree g x)) ≡ Some (memory a d)
store_sort_of g m i x a d o q r = store_sorted (sort_of (tree g m)) (sort_of (tree g i)) (sort_of (tree g x)) a d o.sort q.sort r.sort
