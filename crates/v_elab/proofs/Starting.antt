-- The tables that are filled are those with which evaluation begins.
use Rattle.std.proofs.Common.{◌≡◌, ◌∙◌, ◌<◌, ◌^◌, ℕ, zero, suc, refl, ap, sym, subst, Bool, true, false, cond, not, ◌&&◌, drop, length, slice_index, List, [], ◌∷◌, ◌++◌, ◌⊎◌, inl, inr, Option, Some, None, is_some, Contains, arith}
use Rattle.std.specs.Prelude.{◌||◌, slice_index_or, nat_lt, ⊤}
use Rattle.std.proofs.lemmas.Bool.{false≢true, true≢false}
use Rattle.std.proofs.lemmas.Bool.Decides.{nat_tests}
use Rattle.std.proofs.lemmas.List.{length-map}
use Rattle.wb_values.specs.Value.{Name, same_name, Sort, truth, word, memory, Value, truth_value, number as a_number, words, Entries, Valuation, HasSort}
use Rattle.model_meaning.specs.Term.{val}
use Rattle.verilog_trees.specs.Syntax.{Statement}
use Rattle.verilog_meaning.specs.Expression.{Object, Scope, object_width, is_memory}
use Rattle.verilog_meaning.specs.Register.{value_bit, is_set, counts}
use Rattle.verilog_meaning.specs.Settled.{IsValueOf}
use Rattle.verilog_designs.specs.Names.{is_among}
use Rattle.verilog_settled.proofs.Bits.{unset_past}
use Rattle.verilog_unique.proofs.Options.{same_is}
use Rattle.verilog_unique.proofs.Descent.{IsAmong, contains_among, among_contains}
use Rattle.wb_terms.specs.Graph.{Graph}
use Rattle.v_operators.specs.Meaning.{Grows}
use Rattle.v_operators.proofs.Growing.{Grows-refl, Grows-trans, IsOfSort-kept, tree_kept}
use Rattle.v_lower.specs.Lowered.{Images, IsSortOf, IsImage}
use Rattle.v_lower.proofs.Wholes.{zero_below}
use Rattle.v_registers.specs.Registers.{IsRegister, AreMasks, Counted, AreSplit}
use Rattle.v_elab.specs.Kept.{named_at, FitsNames, IsKept, IsGiven, IsWorth, IsMasked}
use Rattle.v_elab.specs.Names.{AreEntriesOf, chosen, left_out}
use Rattle.v_elab.specs.Start.{IsStart}
use Rattle.v_elab.specs.Elaborated.{register_names}
use Rattle.v_elab.specs.Tables.{Origin, kept, given, unset, IsNamed, IsUnset, IsPut, Row, IsEntered, AreEntered, register_rows, input_rows, other_rows}
use Rattle.v_elab.proofs.Entries.{last_entries}
use Rattle.v_elab.proofs.Once.{test_among, among_test, found, from_other, told}
use Rattle.v_elab.proofs.Given.{chosen_among}

-- ---- values of words

word_value : (o : Object) (t : Sort) (x : Value) → is_memory o ≡ false → IsSortOf o t → HasSort x t → IsValueOf o x
word_value o truth x plain h k = absurd h
word_value o (memory a w) x plain h k = absurd (true≢false (sym h.0 ∙ plain))
word_value o (word w) (a_number x) plain h k = (h.0, subst (λ z. x < 2 ^ z) h.1 (below x (2 ^ w) k))
  where
    below : (a b : ℕ) → nat_lt a b ≡ true → a < b
    below a b e = grind (arith, nat_tests)
word_value o (word w) (words xs) plain h k = absurd (false≢true k)
word_value o (word w) (truth_value b) plain h k = absurd (false≢true k)

no_bit : (b : ℕ) → is_set 0 b ≡ false
no_bit b = unset_past 0 0 b (omega arith) (omega arith)

never : (k b : ℕ) → value_bit (a_number 0) k b ≡ false
never zero b = no_bit b
never (suc k) b = refl

no_and : (x : Bool) → false ≡ (x && false)
no_and true = refl
no_and false = refl

abbrev value_of : Option ℕ → ℕ
value_of None = 0
value_of (Some x) = x

some_is : (x y : ℕ) → Some x ≡ Some y → x ≡ y
some_is x y e = ap value_of e

abbrev pub names_of_rows : List Row → List Name
names_of_rows [] = []
names_of_rows (r ∷ rs) = r.of_name ∷ names_of_rows rs

module _ (s : Scope) (q : List Statement) (f : Name → Bool) where
  -- ---- terms that grow with their store

  image_grows : (g h : Graph) (n : Name) (id : ℕ) → Grows g h → IsImage s g n id → IsImage s h n id
  image_grows g h n id e i = record { sort = i.sort; of_name = i.of_name; of_sort = IsOfSort-kept id i.sort e i.of_sort }

  fits_back : (g h : Graph) (p : Valuation) → Grows g h → FitsNames h p → FitsNames g p
  fits_back g h p e k = subst (λ (es : Entries Sort). (n : Name) (t : Sort) → Contains es (n, t) → HasSort (p n) t) e.names k

  kept_grows : (g h : Graph) (n : Name) (id : ℕ) → Grows g h → id < length g.nodes → IsKept s q g n id → IsKept s q h n id
  kept_grows g h n id e below k =
      record {
        fits = λ p fit. subst (λ t. IsValueOf (s n) (val t p)) (sym (tree_kept id e below)) (k.fits p (fits_back g h p e fit));
        bits = λ p w b fit. ap (λ t. value_bit (val t p) w b) (tree_kept id e below) ∙ k.bits p w b (fits_back g h p e fit);
      }

  given_grows : (g h : Graph) (n : Name) (id : ℕ) → Grows g h → id < length g.nodes → IsGiven s g n id → IsGiven s h n id
  given_grows g h n id e below k =
      record {
        fits = λ p fit. subst (λ t. IsValueOf (s n) (val t p)) (sym (tree_kept id e below)) (k.fits p (fits_back g h p e fit));
        same = λ p. ap (λ t. val t p) (tree_kept id e below) ∙ k.same p;
      }

  worth_grows : (g h : Graph) (b : Bool) (n : Name) (id : ℕ) → Grows g h → id < length g.nodes → IsWorth s q g b n id → IsWorth s q h b n id
  worth_grows g h true n id e below k = given_grows g h n id e below k
  worth_grows g h false n id e below k = kept_grows g h n id e below k

  start_grows : (g h : Graph) (a n : Images) → Grows g h → IsStart s q f g a n → IsStart s q f h a n
  start_grows g h a n e x =
      record {
        image = λ m id at. let r = x.image m id at in (image_grows g h m id e r.0, worth_grows g h (f m) m id e r.0.of_sort.below r.1);
        next_image = λ m id at. let r = x.next_image m id at in (image_grows g h m id e r.0, kept_grows g h m id e r.0.of_sort.below r.1);
      }

  -- ---- what a row asks for

  abbrev IsUncounted : Name → Type 0
  IsUncounted n = (k b : ℕ) → counts s q n k b ≡ false

  abbrev IsAt : Entries Sort → ℕ → Name → Type 0
  IsAt es place n = ((slice_index_or es place ([], truth)).0 ≡ n) × Contains es (slice_index_or es place ([], truth))

  abbrev IsOrigin : Entries Sort → Bool → Origin → Name → Type 0
  IsOrigin es b (kept place masks) n = (b ≡ false) × IsAt es place n × AreMasks s q n masks
  IsOrigin es b (given place) n = (b ≡ true) × IsAt es place n × (is_memory (s n) ≡ false)
  IsOrigin es b unset n = (b ≡ false) × IsUncounted n

  kept_put : (g : Graph) (place : ℕ) (masks : List ℕ) (n : Name) (id : ℕ) → IsAt g.names place n → AreMasks s q n masks → IsMasked (s n) masks g place id → IsKept s q g n id
  kept_put g place masks n id at m h =
      record {
        fits = λ p fit. h.fits p (fit (named_at g place).0 (named_at g place).1 at.1);
        bits = λ p k b fit.
            h.bits p k b (fit (named_at g place).0 (named_at g place).1 at.1)
            ∙ ap (λ z. value_bit (p z) k b && is_set (slice_index masks k) b) at.0
            ∙ ap (λ z. value_bit (p n) k b && z) (m.counted k b);
      }

  given_put : (g : Graph) (place : ℕ) (n : Name) (id : ℕ) → IsAt g.names place n → is_memory (s n) ≡ false → IsNamed (s n) g place id → IsGiven s g n id
  given_put g place n id at plain h =
      record {
        fits = λ p fit.
            subst (IsValueOf (s n)) (sym (h.same p))
            (word_value (s n) h.sort (p (named_at g place).0) plain h.of_object
            (subst (HasSort (p (named_at g place).0)) h.is_sort (fit (named_at g place).0 (named_at g place).1 at.1)));
        same = λ p. h.same p ∙ ap p at.0;
      }

  zero_value : (n : Name) → is_memory (s n) ≡ false → IsValueOf (s n) (a_number 0)
  zero_value n plain = (ap not plain, zero_below (object_width (s n)))

  unset_put : (g : Graph) (n : Name) (id : ℕ) → IsUncounted n → IsUnset (s n) g id → IsKept s q g n id
  unset_put g n id none h =
      record {
        fits = λ p fit. subst (IsValueOf (s n)) (sym (h.zero p)) (zero_value n h.plain);
        bits = λ p k b fit.
            ap (λ x. value_bit x k b) (h.zero p) ∙ never k b ∙ no_and (value_bit (p n) k b) ∙ ap (λ z. value_bit (p n) k b && z) (sym (none k b));
      }

  put_worth : (g : Graph) (b : Bool) (o : Origin) (n : Name) (id : ℕ) → IsOrigin g.names b o n → IsPut (s n) g o id → IsImage s g n id × IsWorth s q g b n id
  put_worth g b (kept place masks) n id r h = (
    record { sort = h.sort; of_name = h.of_object; of_sort = h.of_sort },
    subst (λ z. IsWorth s q g z n id) (sym r.0) (kept_put g place masks n id r.1 r.2 h),
  )
  put_worth g b (given place) n id r h = (
    record { sort = h.sort; of_name = h.of_object; of_sort = h.of_sort },
    subst (λ z. IsWorth s q g z n id) (sym r.0) (given_put g place n id r.1 r.2 h),
  )
  put_worth g b unset n id r h = (
    record { sort = word (object_width (s n)); of_name = (ap not h.plain, refl); of_sort = h.of_sort },
    subst (λ z. IsWorth s q g z n id) (sym r.0) (unset_put g n id r.1 h),
  )

  -- ---- rows

  abbrev IsRowOf : Entries Sort → Row → Type 0
  IsRowOf es r = IsOrigin es (f r.of_name) r.origin r.of_name × IsOrigin es false r.next_origin r.of_name

  abbrev AreRowsOf : Entries Sort → List Row → Type 0
  AreRowsOf es [] = ⊤
  AreRowsOf es (r ∷ rs) = IsRowOf es r × AreRowsOf es rs

  entered_start : (r : Row) (a n : Images) (g : Graph) (b k : Images) (h : Graph) → IsEntered s r a n g b k h → IsRowOf h.names r → IsStart s q f g a n → IsStart s q f h b k
  entered_start r a n g b k h e row x =
      let old : IsStart s q f h a n = start_grows g h a n e.grows x in
      let one = put_worth h (f r.of_name) r.origin r.of_name e.id row.0 e.is_put in
      let two = put_worth h false r.next_origin r.of_name e.next_id row.1 e.next_is_put in
      record {
        image = λ m id at. by_name m id (same_name r.of_name m) refl (sym (e.table m) ∙ at) one (old.image m id);
        next_image = λ m id at. by_next m id (same_name r.of_name m) refl (sym (e.next m) ∙ at) two (old.next_image m id);
      }
    where
      by_name : (m : Name) (id : ℕ) (t : Bool) → same_name r.of_name m ≡ t → cond t (Some e.id) (a m) ≡ Some id
          → IsImage s h r.of_name e.id × IsWorth s q h (f r.of_name) r.of_name e.id
          → (a m ≡ Some id → IsImage s h m id × IsWorth s q h (f m) m id) → IsImage s h m id × IsWorth s q h (f m) m id
      by_name m id true i at one old =
          subst (λ z. IsImage s h z id × IsWorth s q h (f z) z id) (same_is r.of_name m i)
          (subst (λ z. IsImage s h r.of_name z × IsWorth s q h (f r.of_name) r.of_name z) (some_is e.id id at) one)
      by_name m id false i at one old = old at

      by_next : (m : Name) (id : ℕ) (t : Bool) → same_name r.of_name m ≡ t → cond t (Some e.next_id) (n m) ≡ Some id
          → IsImage s h r.of_name e.next_id × IsKept s q h r.of_name e.next_id
          → (n m ≡ Some id → IsImage s h m id × IsKept s q h m id) → IsImage s h m id × IsKept s q h m id
      by_next m id true i at two old =
          subst (λ z. IsImage s h z id × IsKept s q h z id) (same_is r.of_name m i)
          (subst (λ z. IsImage s h r.of_name z × IsKept s q h r.of_name z) (some_is e.next_id id at) two)
      by_next m id false i at two old = old at

  pub record HasStarted (g : Graph) (rs : List Row) (a n : Images) (h : Graph) (b k : Images) : Type 0 where
    pub is_start : IsStart s q f h b k
    pub grows : Grows g h
    pub table : (m : Name) → is_some (b m) ≡ (is_among (names_of_rows rs) m || is_some (a m))
    pub next : (m : Name) → is_some (k m) ≡ (is_among (names_of_rows rs) m || is_some (n m))

  entered_all : (es : Entries Sort) (rs : List Row) (a n : Images) (g : Graph) (b k : Images) (h : Graph) → AreEntered s rs a n g b k h → g.names ≡ es → AreRowsOf es rs
      → IsStart s q f g a n → HasStarted g rs a n h b k
  entered_all es [] a n g b k h e same rows x =
      record {
        is_start = subst (λ z. IsStart s q f z b k) e.2 (subst (λ z. IsStart s q f g z k) e.0 (subst (IsStart s q f g a) e.1 x));
        grows = subst (Grows g) e.2 (Grows-refl g);
        table = λ m. ap (λ (z : Images). is_some (z m)) (sym e.0);
        next = λ m. ap (λ (z : Images). is_some (z m)) (sym e.1);
      }
  entered_all es (r ∷ rs) a n g b k h (c, l, i, one, rest) same rows x =
      let names : i.names ≡ es = one.grows.names ∙ same in
      let more = entered_all es rs c l i b k h rest names rows.1
      (entered_start r a n g c l i one (subst (λ z. IsRowOf z r) (sym names) rows.0) x) in
      record {
        is_start = more.is_start;
        grows = Grows-trans one.grows more.grows;
        table = λ m. more.table m ∙ turn (same_name r.of_name m) (is_among (names_of_rows rs) m) one.id (a m) (c m) (one.table m);
        next = λ m. more.next m ∙ turn (same_name r.of_name m) (is_among (names_of_rows rs) m) one.next_id (n m) (l m) (one.next m);
      }
    where
      turn : (t u : Bool) (id : ℕ) (x y : Option ℕ) → y ≡ cond t (Some id) x → (u || is_some y) ≡ ((t || u) || is_some x)
      turn true true id x y e = refl
      turn true false id x y e = ap is_some e
      turn false u id x y e = ap (λ z. u || is_some z) e

  -- ---- the rows of names of a store

  abbrev pub AreRegistersOf : List Counted → Type 0
  AreRegistersOf [] = ⊤
  AreRegistersOf (c ∷ cs) = (f c.of_name ≡ false) × AreMasks s q c.of_name c.masks × AreRegistersOf cs

  abbrev pub AreUncounted : List Name → Type 0
  AreUncounted [] = ⊤
  AreUncounted (n ∷ ns) = IsUncounted n × (is_memory (s n) ≡ false) × AreUncounted ns

  unregistered : (n : Name) → ¬ IsRegister s q n → IsUncounted n × (is_memory (s n) ≡ false)
  unregistered n alien = (λ k b. none k b (counts s q n k b) refl, plain (is_memory (s n)) refl)
    where
      none : (k b : ℕ) (t : Bool) → counts s q n k b ≡ t → t ≡ false
      none k b true e = absurd (alien (inl (record { word = k; bit = b; counts = e })))
      none k b false e = refl

      plain : (t : Bool) → is_memory (s n) ≡ t → t ≡ false
      plain true e = absurd (alien (inr e))
      plain false e = refl

  pub registers_of_split : ((n : Name) → f n ≡ true → ¬ IsRegister s q n) → (ns : List Name) (cs : List Counted) (os : List Name) → AreSplit s q ns cs os → AreRegistersOf cs × AreUncounted os
  registers_of_split apart _ _ _ AreSplit.end = (tt, tt)
  registers_of_split apart _ _ _ (AreSplit.register n ns c cs os is rest) =
      let more = registers_of_split apart ns cs os rest in
      ((by (f n) refl, subst (λ z. AreMasks s q z c.masks) (sym is.named) is.masks, more.0), more.1)
    where
      by : (t : Bool) → f n ≡ t → f c.of_name ≡ false
      by true e = absurd (apart n e is.is_register)
      by false e = ap f is.named ∙ e
  registers_of_split apart _ _ _ (AreSplit.other n ns cs os is rest) =
      let more = registers_of_split apart ns cs os rest in
      let one = unregistered n is in
      (more.0, (one.0, one.1, more.1))

  step : (es : Entries Sort) (p : ℕ) (n : Name) (ns : List Name) → AreEntriesOf s (n ∷ ns) (drop p es) → IsAt es p n × AreEntriesOf s ns (drop (suc p) es)
  step [] zero n ns h = absurd h
  step [] (suc p) n ns h = absurd h
  step (e ∷ es) zero n ns h = ((h.0, contains_among (e ∷ es) e (inl refl)), h.2)
  step (e ∷ es) (suc p) n ns h =
      let r = step es p n ns h in
      ((r.0.0, contains_among (e ∷ es) (slice_index_or es p ([], truth)) (inr (among_contains es (slice_index_or es p ([], truth)) r.0.1))), r.1)

  pub register_rows_are : (es : Entries Sort) (p : ℕ) (cs : List Counted) (rest : List Name) → AreEntriesOf s (register_names cs ++ rest) (drop p es) → AreRegistersOf cs
      → AreRowsOf es (register_rows p cs)
  register_rows_are es p [] rest h k = tt
  register_rows_are es p (c ∷ cs) rest h k =
      let r = step es p c.of_name (register_names cs ++ rest) h in
      (((k.0, r.0, k.1), (refl, r.0, k.1)), register_rows_are es (suc p) cs rest r.1 k.2)

  pub input_rows_are : (es : Entries Sort) (p : ℕ) (os : List Name) → AreEntriesOf s (chosen f os) (drop p es) → AreUncounted os → AreRowsOf es (input_rows p (chosen f os))
  input_rows_are es p [] h k = tt
  input_rows_are es p (n ∷ ns) h k = by (f n) refl h (λ i g. input_rows_are es i ns g k.2)
    where
      by : (t : Bool) → f n ≡ t → AreEntriesOf s (cond t (n ∷ chosen f ns) (chosen f ns)) (drop p es)
          → ((i : ℕ) → AreEntriesOf s (chosen f ns) (drop i es) → AreRowsOf es (input_rows i (chosen f ns)))
          → AreRowsOf es (input_rows p (cond t (n ∷ chosen f ns) (chosen f ns)))
      by true e h more = let r = step es p n (chosen f ns) h in (((e, r.0, k.1), (refl, k.0)), more (suc p) r.1)
      by false e h more = more p h

  pub other_rows_are : (es : Entries Sort) (os : List Name) → AreUncounted os → AreRowsOf es (other_rows (left_out f os))
  other_rows_are es [] k = tt
  other_rows_are es (n ∷ ns) k = by (f n) refl (other_rows_are es ns k.2)
    where
      by : (t : Bool) → f n ≡ t → AreRowsOf es (other_rows (left_out f ns)) → AreRowsOf es (other_rows (cond t (left_out f ns) (n ∷ left_out f ns)))
      by true e more = more
      by false e more = (((e, k.0), (refl, k.0)), more)

-- ---- which names have terms

register_rows_names : (p : ℕ) (cs : List Counted) → names_of_rows (register_rows p cs) ≡ register_names cs
register_rows_names p [] = refl
register_rows_names p (c ∷ cs) = ap (λ ns. c.of_name ∷ ns) (register_rows_names (suc p) cs)

input_rows_names : (p : ℕ) (ns : List Name) → names_of_rows (input_rows p ns) ≡ ns
input_rows_names p [] = refl
input_rows_names p (n ∷ ns) = ap (λ ms. n ∷ ms) (input_rows_names (suc p) ns)

other_rows_names : (ns : List Name) → names_of_rows (other_rows ns) ≡ ns
other_rows_names [] = refl
other_rows_names (n ∷ ns) = ap (λ ms. n ∷ ms) (other_rows_names ns)

left_among : (f : Name → Bool) (ns : List Name) (n : Name) → IsAmong (left_out f ns) n → IsAmong ns n
left_among f [] n h = absurd h
left_among f (m ∷ ns) n h = by (f m) h (left_among f ns n)
  where
    by : (t : Bool) → IsAmong (cond t (left_out f ns) (m ∷ left_out f ns)) n → (IsAmong (left_out f ns) n → IsAmong ns n) → (m ≡ n) ⊎ IsAmong ns n
    by true k g = inr (g k)
    by false (inl i) g = inl i
    by false (inr k) g = inr (g k)

-- each name is chosen or left out
either : (f : Name → Bool) (ns : List Name) (n : Name) → IsAmong ns n → IsAmong (chosen f ns) n ⊎ IsAmong (left_out f ns) n
either f [] n h = absurd h
either f (m ∷ ns) n (inl i) = by (f m)
  where
    by : (t : Bool) → IsAmong (cond t (m ∷ chosen f ns) (chosen f ns)) n ⊎ IsAmong (cond t (left_out f ns) (m ∷ left_out f ns)) n
    by true = inl (inl i)
    by false = inr (inl i)
either f (m ∷ ns) n (inr k) = by (f m) (either f ns n k)
  where
    by : (t : Bool) → IsAmong (chosen f ns) n ⊎ IsAmong (left_out f ns) n
        → IsAmong (cond t (m ∷ chosen f ns) (chosen f ns)) n ⊎ IsAmong (cond t (left_out f ns) (m ∷ left_out f ns)) n
    by true (inl g) = inl (inr g)
    by true (inr g) = inr g
    by false (inl g) = inl g
    by false (inr g) = inr (inr g)

same_tests : (t u : Bool) → (t ≡ true → u ≡ true) → (u ≡ true → t ≡ true) → t ≡ u
same_tests true u f g = sym (f refl)
same_tests false true f g = g refl
same_tests false false f g = refl

module _ (s : Scope) (q : List Statement) (f : Name → Bool) (ns : List Name) (cs : List Counted) (os : List Name) (split : AreSplit s q ns cs os) where
  -- each declared name is a register, an input or another
  abbrev has_place : Name → Bool
  has_place n = is_among (left_out f os) n || (is_among (chosen f os) n || (is_among (register_names cs) n || false))

  places : (n : Name) → has_place n ≡ is_among ns n
  places n = same_tests (has_place n) (is_among ns n) (λ e. test_among ns n (back (is_among (left_out f os) n) refl (is_among (chosen f os) n) refl (is_among (register_names cs) n) refl e))
      (λ e. forth (told s q ns cs os n split (among_test ns n e)))
    where
      back : (t : Bool) → is_among (left_out f os) n ≡ t → (u : Bool) → is_among (chosen f os) n ≡ u → (v : Bool) → is_among (register_names cs) n ≡ v
          → (t || (u || (v || false))) ≡ true → IsAmong ns n
      back true x u y v z e = (from_other s q ns cs os n split (left_among f os n (among_test (left_out f os) n x))).0
      back false x true y v z e = (from_other s q ns cs os n split (chosen_among f os n (among_test (chosen f os) n y)).0).0
      back false x false y true z e = (found s q ns cs os n split (among_test (register_names cs) n z)).name
      back false x false y false z e = absurd (false≢true e)

      first_or : (t u : Bool) → t ≡ true → (t || u) ≡ true
      first_or true u e = refl
      first_or false u e = absurd (false≢true e)

      second_or : (t u : Bool) → u ≡ true → (t || u) ≡ true
      second_or true u e = refl
      second_or false u e = e

      forth : IsAmong (register_names cs) n ⊎ IsAmong os n → has_place n ≡ true
      forth (inl k) =
          second_or (is_among (left_out f os) n) _ (second_or (is_among (chosen f os) n) _ (first_or (is_among (register_names cs) n) false (test_among (register_names cs) n k)))
      forth (inr k) = one (either f os n k)
        where
          one : IsAmong (chosen f os) n ⊎ IsAmong (left_out f os) n → has_place n ≡ true
          one (inl k) = second_or (is_among (left_out f os) n) _ (first_or (is_among (chosen f os) n) _ (test_among (chosen f os) n k))
          one (inr k) = first_or (is_among (left_out f os) n) _ (test_among (left_out f os) n k)

  -- The tables stand for what is given and held, and each declared name has a term in both.
  pub record HasBegun (g h : Graph) (b k : Images) : Type 0 where
    pub is_start : IsStart s q f h b k
    pub grows : Grows g h
    pub all_given : (n : Name) → is_some (b n) ≡ is_among ns n
    pub all_first : (n : Name) → is_some (k n) ≡ is_among ns n

  module _ (apart : (n : Name) → f n ≡ true → ¬ IsRegister s q n) (g : Graph) (entries : AreEntriesOf s (register_names cs ++ chosen f os) g.names)
      (a n : Images) (none : (m : Name) → a m ≡ None) (none_next : (m : Name) → n m ≡ None) where
    pub has_begun : (b1 k1 : Images) (h1 : Graph) (b2 k2 : Images) (h2 : Graph) (b3 k3 : Images) (h3 : Graph)
        → AreEntered s (register_rows 0 cs) a n g b1 k1 h1 → AreEntered s (input_rows (length cs) (chosen f os)) b1 k1 h1 b2 k2 h2
        → AreEntered s (other_rows (left_out f os)) b2 k2 h2 b3 k3 h3 → HasBegun g h3 b3 k3
    has_begun b1 k1 h1 b2 k2 h2 b3 k3 h3 e1 e2 e3 =
        let known = registers_of_split s q f apart ns cs os split in
        let last : AreEntriesOf s (chosen f os) (drop (length cs) g.names) =
        subst (λ z. AreEntriesOf s (chosen f os) (drop z g.names)) (length-map cs (λ c. c.of_name)) (last_entries s (register_names cs) (chosen f os) g.names entries) in
        let x1 = entered_all s q f g.names (register_rows 0 cs) a n g b1 k1 h1 e1 refl (register_rows_are s q f g.names 0 cs (chosen f os) entries known.0) empty in
        let x2 = entered_all s q f g.names (input_rows (length cs) (chosen f os)) b1 k1 h1 b2 k2 h2 e2 x1.grows.names
        (input_rows_are s q f g.names (length cs) os last known.1) x1.is_start in
        let x3 = entered_all s q f g.names (other_rows (left_out f os)) b2 k2 h2 b3 k3 h3 e3 (x2.grows.names ∙ x1.grows.names) (other_rows_are s q f g.names os known.1) x2.is_start in
        record {
          is_start = x3.is_start;
          grows = Grows-trans x1.grows (Grows-trans x2.grows x3.grows);
          all_given = λ m. all m (is_some (a m)) (is_some (b1 m)) (is_some (b2 m)) (is_some (b3 m)) (ap is_some (none m)) (x1.table m) (x2.table m) (x3.table m);
          all_first = λ m. all m (is_some (n m)) (is_some (k1 m)) (is_some (k2 m)) (is_some (k3 m)) (ap is_some (none_next m)) (x1.next m) (x2.next m) (x3.next m);
        }
      where
        empty : IsStart s q f g a n
        empty =
            record {
              image = λ m id at. absurd (missing id (sym (none m) ∙ at));
              next_image = λ m id at. absurd (missing id (sym (none_next m) ∙ at));
            }
          where
            missing : (id : ℕ) → None ≡ Some id → ⊥
            missing id e = false≢true (ap is_some e)

        all : (m : Name) (t0 t1 t2 t3 : Bool) → t0 ≡ false → t1 ≡ (is_among (names_of_rows (register_rows 0 cs)) m || t0)
            → t2 ≡ (is_among (names_of_rows (input_rows (length cs) (chosen f os))) m || t1)
            → t3 ≡ (is_among (names_of_rows (other_rows (left_out f os))) m || t2) → t3 ≡ is_among ns m
        all m t0 t1 t2 t3 i0 i1 i2 i3 =
            i3
            ∙ ap (λ xs. is_among xs m || t2) (other_rows_names (left_out f os))
            ∙ ap (λ t. is_among (left_out f os) m || t) (i2 ∙ ap (λ xs. is_among xs m || t1) (input_rows_names (length cs) (chosen f os)))
            ∙ ap (λ t. is_among (left_out f os) m || (is_among (chosen f os) m || t)) (i1 ∙ ap (λ xs. is_among xs m || t0) (register_rows_names 0 cs))
            ∙ ap (λ t. is_among (left_out f os) m || (is_among (chosen f os) m || (is_among (register_names cs) m || t))) i0
            ∙ places m
