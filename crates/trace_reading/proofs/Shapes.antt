-- Data that fits by its tests is a trace's, and data of a trace that fits passes them.
use Rattle.std.proofs.Common.{◌≡◌, ◌∙◌, ℕ, zero, suc, ◌^◌, ◌<◌, Bool, true, false, cond, not, ◌&&◌, List, [], ◌∷◌, length, get_or, slice_index, bit_and, Option, Some, None, Ordering, Less, Equal, Greater, is_eq, nat_cmp, refl, sym, ap, subst, arith}
use Rattle.std.specs.Prelude.{◌==◌, nat_lt, is_some, option_and_then, codes, Contains}
use Rattle.std.specs.Ordering.{match_ordering}
use Rattle.std.specs.Cmp.Lexicographic.{slice_cmp, nat_list_eq_equiv}
use Rattle.std.proofs.lemmas.Cmp.{nat_list_cmp_total, tied_itself}
use Rattle.std.proofs.lemmas.Map.Text.{is_eq-slice_cmp}
use Rattle.std.proofs.lemmas.Bool.{and_parts, and_from, false≢true, not-true, not_from_false}
use Rattle.wb_values.specs.Value.{Name, same_name, Value, truth_value, number, words, Entries, entry_of}
use Rattle.serde_json.specs.Data.{Data, null, boolean, string, array, object, Items, no_items, item, Members, no_members, member}
use Rattle.serde_json.specs.Data as json
use Rattle.serde_json.specs.Find.{get, get_member, as_str, as_array, as_object}
use Rattle.map_files.specs.Keys.{has_key_besides}
use Rattle.map_files.specs.Shape.{read_under}
use Rattle.reports.specs.Report.{Trace, hexadecimal}
use Rattle.trace_files.specs.Shape.{IsNumeral, AreNumerals, IsValueIn, of_number, of_words, AreEntriesIn, IsObjectOf, AreObjectsOf, trace_keys, IsShapeOf}
use Rattle.v_design.specs.Registers.{CountedBits}
use Rattle.v_design.specs.Parts.{Parts}
use Rattle.trace_reading.specs.Numbers.{numeral_in, number_or_zero, numbers_of_items}
use Rattle.trace_reading.specs.Fitting.{keeps_to, all_keep_to, words_keep_to, is_register_value, has_width, all_members, register_named_fits, input_named_fits, registers_fit, inputs_fit, cycle_fits, cycles_fit, are_registers, are_cycles, has_trace_keys, is_fitting}
use Rattle.trace_reading.proofs.Digits.{numeral_is, is_numeral}
use Rattle.trace_reading.proofs.Orderly.{IsInOrder, AllAfter, later}

pub none_some : {A : Type 0} (x : A) → None ≡ Some x → ⊥
none_some x e = cc

pub some_same : {A : Type 0} (x y : A) → Some x ≡ Some y → x ≡ y
some_same x y e = cc

-- ---- values

-- the numbers keep to the masks
abbrev pub AllKept : (masks : List ℕ) → List ℕ → Type 0
AllKept [] [] = Unit {0}
AllKept [] (x ∷ xs) = ⊥
AllKept (m ∷ ms) [] = ⊥
AllKept (m ∷ ms) (x ∷ xs) = ((bit_and x m == x) ≡ true) × AllKept ms xs

-- the value has no bit that does not count
abbrev pub FitsBits : CountedBits → Value → Type 0
FitsBits c (truth_value b) = ⊥
FitsBits c (number x) = (is_some c.least ≡ false) × ((bit_and x (slice_index c.masks 0) == x) ≡ true)
FitsBits c (words xs) = (is_some c.least ≡ true) × AllKept c.masks xs

numeral_there : (m : ℕ) (d : Data) → keeps_to m (numeral_in d) ≡ true → (x : ℕ) × (numeral_in d ≡ Some x) × ((bit_and x m == x) ≡ true)
numeral_there m d h = by (numeral_in d) refl h
  where
    by : (o : Option ℕ) → numeral_in d ≡ o → keeps_to m o ≡ true → (x : ℕ) × (numeral_in d ≡ Some x) × ((bit_and x m == x) ≡ true)
    by None e g = absurd (false≢true g)
    by (Some x) e g = (x, e, g)

numbers_there : (ms : List ℕ) (ds : Items) → all_keep_to ms ds ≡ true → (xs : List ℕ) × AreNumerals ds xs × AllKept ms xs
numbers_there [] no_items h = ([], refl, tt)
numbers_there [] (item d ds) h = absurd (false≢true h)
numbers_there (m ∷ ms) no_items h = absurd (false≢true h)
numbers_there (m ∷ ms) (item d ds) h =
    let p = and_parts (keeps_to m (numeral_in d)) (all_keep_to ms ds) h in
    let x = numeral_there m d p.0 in
    let r = numbers_there ms ds p.1 in
    (x.0 ∷ r.0, (numeral_is d x.0 x.1, r.1), (x.2, r.2))

pub value_there : (c : CountedBits) (d : Data) → is_register_value c d ≡ true → (v : Value) × IsValueIn d v × FitsBits c v
value_there c d h = by (is_some c.least) refl h
  where
    listed : (o : Option Items) → as_array d ≡ o → is_some c.least ≡ true → words_keep_to c.masks o ≡ true → (v : Value) × IsValueIn d v × FitsBits c v
    listed None a e g = absurd (false≢true g)
    listed (Some ds) a e g = let r = numbers_there c.masks ds g in (words r.0, of_words ds r.0 a r.1, (e, r.2))

    by : (t : Bool) → is_some c.least ≡ t → cond t (words_keep_to c.masks (as_array d)) (keeps_to (slice_index c.masks 0) (numeral_in d)) ≡ true
        → (v : Value) × IsValueIn d v × FitsBits c v
    by true e g = listed (as_array d) refl e g
    by false e g = let r = numeral_there (slice_index c.masks 0) d g in (number r.0, of_number r.0 (numeral_is d r.0 r.1), (e, r.2))

kept_there : (ms : List ℕ) (ds : Items) (xs : List ℕ) → AreNumerals ds xs → AllKept ms xs → all_keep_to ms ds ≡ true
kept_there [] no_items [] a k = refl
kept_there [] no_items (x ∷ xs) a k = absurd k
kept_there [] (item d ds) [] a k = absurd a
kept_there [] (item d ds) (x ∷ xs) a k = absurd k
kept_there (m ∷ ms) no_items [] a k = absurd k
kept_there (m ∷ ms) no_items (x ∷ xs) a k = absurd (nothing (x ∷ xs) a tt)
  where
    IsSome : List ℕ → Type 0
    IsSome [] = ⊥
    IsSome (y ∷ ys) = Unit {0}

    nothing : (ys : List ℕ) → ys ≡ [] → IsSome ys → ⊥
    nothing ys e s = subst IsSome e s
kept_there (m ∷ ms) (item d ds) [] a k = absurd k
kept_there (m ∷ ms) (item d ds) (x ∷ xs) a k =
    and_from (keeps_to m (numeral_in d)) (all_keep_to ms ds) (ap (keeps_to m) (is_numeral d x a.0) ∙ k.0) (kept_there ms ds xs a.1 k.1)

pub value_fits : (c : CountedBits) (d : Data) (v : Value) → IsValueIn d v → FitsBits c v → is_register_value c d ≡ true
value_fits c d _ (of_number x h) f =
    ap (λ t. cond t (words_keep_to c.masks (as_array d)) (keeps_to (slice_index c.masks 0) (numeral_in d))) f.0
    ∙ (ap (keeps_to (slice_index c.masks 0)) (is_numeral d x h) ∙ f.1)
value_fits c d _ (of_words ds xs e a) f =
    ap (λ t. cond t (words_keep_to c.masks (as_array d)) (keeps_to (slice_index c.masks 0) (numeral_in d))) f.0
    ∙ (ap (words_keep_to c.masks) e ∙ kept_there c.masks ds xs a f.1)

pub number_there : (w : ℕ) (d : Data) → has_width w (numeral_in d) ≡ true → (x : ℕ) × IsNumeral d x × (nat_lt x (2 ^ w) ≡ true)
number_there w d h = by (numeral_in d) refl h
  where
    by : (o : Option ℕ) → numeral_in d ≡ o → has_width w o ≡ true → (x : ℕ) × IsNumeral d x × (nat_lt x (2 ^ w) ≡ true)
    by None e g = absurd (false≢true g)
    by (Some x) e g = (x, numeral_is d x e, g)

numeral_of : (d : Data) (v : Value) → IsValueIn d v → (x : ℕ) → v ≡ number x → numeral_in d ≡ Some x
numeral_of d _ (of_number y h) x e = is_numeral d y h ∙ ap Some (ap number_in e)
  where
    number_in : Value → ℕ
    number_in (truth_value b) = 0
    number_in (number z) = z
    number_in (words xs) = 0
numeral_of d _ (of_words ds xs a h) x e = absurd (apart e)
  where
    IsList : Value → Type 0
    IsList (truth_value b) = ⊥
    IsList (number z) = ⊥
    IsList (words ys) = Unit {0}

    apart : words xs ≡ number x → ⊥
    apart q = subst IsList q tt

-- the number of data that is one
pub numeral_of_number : (d : Data) (x : ℕ) → IsValueIn d (number x) → numeral_in d ≡ Some x
numeral_of_number d x h = numeral_of d (number x) h x refl

-- ---- entries

-- each entry is so
abbrev pub AllEntries : (Name → Value → Type 0) → Entries Value → Type 0
AllEntries P [] = Unit {0}
AllEntries P (e ∷ es) = P e.0 e.1 × AllEntries P es

pub each_entry : (P : Name → Value → Type 0) (es : Entries Value) (n : Name) (x : Value) → AllEntries P es → Contains es (n, x) → P n x
each_entry P es n x h c = at es h c.0 c.1 c.2
  where
    at : (fs : Entries Value) → AllEntries P fs → (k : ℕ) → k < length fs → get_or fs k (n, x) ≡ (n, x) → P n x
    at [] g k l e = absurd (omega (arith, l))
    at (f ∷ fs) g zero l e = subst (λ (p : Name × Value). P p.0 p.1) e g.0
    at (f ∷ fs) g (suc k) l e = at fs g.1 k (omega (arith, l)) e

pub next_entry : (e : Name × Value) (es : Entries Value) (n : Name) (x : Value) → Contains es (n, x) → Contains (e ∷ es) (n, x)
next_entry e es n x c = (suc c.0, omega (arith, c.1), c.2)

pub from_each : (P : Name → Value → Type 0) (es : Entries Value) → ((n : Name) (x : Value) → Contains es (n, x) → P n x) → AllEntries P es
from_each P [] f = tt
from_each P (e ∷ es) f = (f e.0 e.1 (0, omega arith, refl), from_each P es (λ n x c. f n x (next_entry e es n x c)))

module _ (p : Name → Data → Bool) (P : Name → Value → Type 0) (there : (n : Name) (d : Data) → p n d ≡ true → (v : Value) × IsValueIn d v × P n v) where
  pub entries_there : (ms : Members) → all_members p ms ≡ true → (es : Entries Value) × AreEntriesIn ms es × AllEntries P es
  entries_there no_members h = ([], refl, tt)
  entries_there (member n d ms) h =
      let q = and_parts (p n d) (all_members p ms) h in
      let v = there n d q.0 in
      let r = entries_there ms q.1 in
      ((n, v.0) ∷ r.0, (refl, v.1, r.1), (v.2, r.2))

module _ (p : Name → Data → Bool) (P : Name → Value → Type 0) (fits : (n : Name) (d : Data) (v : Value) → IsValueIn d v → P n v → p n d ≡ true) where
  pub entries_fit : (ms : Members) (es : Entries Value) → AreEntriesIn ms es → AllEntries P es → all_members p ms ≡ true
  entries_fit no_members es a h = refl
  entries_fit (member n d ms) [] a h = absurd a
  entries_fit (member n d ms) (e ∷ es) a h =
      and_from (p n d) (all_members p ms) (fits n d e.1 a.1 (subst (λ m. P m e.1) a.0 h.0)) (entries_fit ms es a.2 h.1)

-- ---- cycles

abbrev pub AllCycles : (Name → Value → Type 0) → List (Entries Value) → Type 0
AllCycles P [] = Unit {0}
AllCycles P (es ∷ cycles) = AllEntries P es × AllCycles P cycles

pub each_cycle : (P : Name → Value → Type 0) (cycles : List (Entries Value)) (es : Entries Value) → AllCycles P cycles → Contains cycles es → AllEntries P es
each_cycle P cycles es h c = at cycles h c.0 c.1 c.2
  where
    at : (fs : List (Entries Value)) → AllCycles P fs → (k : ℕ) → k < length fs → get_or fs k es ≡ es → AllEntries P es
    at [] g k l e = absurd (omega (arith, l))
    at (f ∷ fs) g zero l e = subst (AllEntries P) e g.0
    at (f ∷ fs) g (suc k) l e = at fs g.1 k (omega (arith, l)) e

pub from_cycles : (P : Name → Value → Type 0) (cycles : List (Entries Value)) → ((es : Entries Value) → Contains cycles es → AllEntries P es) → AllCycles P cycles
from_cycles P [] f = tt
from_cycles P (es ∷ cycles) f = (f es (0, omega arith, refl), from_cycles P cycles (λ fs c. f fs (suc c.0, omega (arith, c.1), c.2)))

-- ---- the file

-- what entries of registers and of inputs are, by their tests
pub record AreTests (e : Parts) (R I : Name → Value → Type 0) : Type 0 where
  pub register_there : (n : Name) (d : Data) → register_named_fits e n d ≡ true → (v : Value) × IsValueIn d v × R n v
  pub register_fits : (n : Name) (d : Data) (v : Value) → IsValueIn d v → R n v → register_named_fits e n d ≡ true
  pub input_there : (n : Name) (d : Data) → input_named_fits e n d ≡ true → (v : Value) × IsValueIn d v × I n v
  pub input_fits : (n : Name) (d : Data) (v : Value) → IsValueIn d v → I n v → input_named_fits e n d ≡ true

-- a value under a key is one of the key's
got : {A : Type 0} (f : Data → Option A) (o : Option Data) (x : A) → option_and_then f o ≡ Some x → (d : Data) × (o ≡ Some d) × (f d ≡ Some x)
got f None x e = absurd (none_some x e)
got f (Some d) x e = (d, refl, e)

module _ (e : Parts) (R I : Name → Value → Type 0) (tests : AreTests e R I) where
  cycles_there : (ds : Items) → cycles_fit e ds ≡ true → (cs : List (Entries Value)) × AreObjectsOf ds cs × AllCycles I cs
  cycles_there no_items h = ([], refl, tt)
  cycles_there (item d ds) h = by (as_object d) refl (and_parts (cycle_fits e (as_object d)) (cycles_fit e ds) h) (λ g. cycles_there ds g)
    where
      Found : Type 0
      Found = (cs : List (Entries Value)) × AreObjectsOf (item d ds) cs × AllCycles I cs

      by : (o : Option Members) → as_object d ≡ o → (cycle_fits e o ≡ true) × (cycles_fit e ds ≡ true)
          → (cycles_fit e ds ≡ true → (cs : List (Entries Value)) × AreObjectsOf ds cs × AllCycles I cs) → Found
      by None is q f = absurd (false≢true q.0)
      by (Some ms) is q f =
          let a = entries_there (input_named_fits e) I tests.input_there ms q.0 in
          let r = f q.1 in
          (a.0 ∷ r.0, ((ms, is, a.1), r.1), (a.2, r.2))

  cycles_pass : (ds : Items) (cs : List (Entries Value)) → AreObjectsOf ds cs → AllCycles I cs → cycles_fit e ds ≡ true
  cycles_pass no_items cs a h = refl
  cycles_pass (item d ds) [] a h = absurd a
  cycles_pass (item d ds) (es ∷ cs) a h =
      and_from (cycle_fits e (as_object d)) (cycles_fit e ds)
      (ap (cycle_fits e) a.0.1 ∙ entries_fit (input_named_fits e) I tests.input_fits a.0.0 es a.0.2 h.0)
      (cycles_pass ds cs a.1 h.1)

  -- data that fits says a trace
  pub record SaysFitting (d : Data) : Type 0 where
    pub trace : Trace
    pub is_shape : IsShapeOf d trace
    pub registers : AllEntries R trace.registers
    pub inputs : AllCycles I trace.inputs

  says_fitting : (d : Data) → (o : Option Name) → read_under as_str (codes "obligation") d ≡ o → is_some o ≡ true
      → has_key_besides trace_keys d ≡ false
      → (r : Option Members) → read_under as_object (codes "registers") d ≡ r → are_registers e r ≡ true
      → (c : Option Items) → read_under as_array (codes "inputs") d ≡ c → are_cycles e c ≡ true → SaysFitting d
  says_fitting d None eo so keys r er hr c ec hc = absurd (false≢true so)
  says_fitting d (Some n) eo so keys None er hr c ec hc = absurd (false≢true hr)
  says_fitting d (Some n) eo so keys (Some ms) er hr None ec hc = absurd (false≢true hc)
  says_fitting d (Some n) eo so keys (Some ms) er hr (Some ds) ec hc =
      let named = got as_str (get (codes "obligation") d) n eo in
      let regs = got as_object (get (codes "registers") d) ms er in
      let ins = got as_array (get (codes "inputs") d) ds ec in
      let rs = entries_there (register_named_fits e) R tests.register_there ms hr in
      let cs = cycles_there ds hc in record {
        trace = record { obligation = n; registers = rs.0; inputs = cs.0 };
        is_shape = record {
          no_other = keys;
          name = named.0;
          registers = regs.0;
          inputs = ins.0;
          cycles = ds;
          has_name = named.1;
          has_registers = regs.1;
          has_inputs = ins.1;
          is_name = named.2;
          are_registers = (ms, regs.2, rs.1);
          are_cycles = ins.2;
          are_inputs = cs.1;
        };
        registers = rs.2;
        inputs = cs.2;
      }

  pub fitting_says : (d : Data) → is_fitting e d ≡ true → SaysFitting d
  fitting_says d h =
      let rest = are_registers e (read_under as_object (codes "registers") d) && are_cycles e (read_under as_array (codes "inputs") d) in
      let p = and_parts (has_trace_keys d) rest h in
      let q = and_parts (not (has_key_besides trace_keys d)) (is_some (read_under as_str (codes "obligation") d)) p.0 in
      let r = and_parts (are_registers e (read_under as_object (codes "registers") d)) (are_cycles e (read_under as_array (codes "inputs") d)) p.1 in
      says_fitting d (read_under as_str (codes "obligation") d) refl q.1 (not-true (has_key_besides trace_keys d) q.0)
      (read_under as_object (codes "registers") d) refl r.0 (read_under as_array (codes "inputs") d) refl r.1

  -- and data of a trace that fits passes
  pub says_passes : (d : Data) (t : Trace) → IsShapeOf d t → AllEntries R t.registers → AllCycles I t.inputs → is_fitting e d ≡ true
  says_passes d t s hr hc =
      and_from (has_trace_keys d) (are_registers e (read_under as_object (codes "registers") d) && are_cycles e (read_under as_array (codes "inputs") d))
      (and_from (not (has_key_besides trace_keys d)) (is_some (read_under as_str (codes "obligation") d))
      (not_from_false (has_key_besides trace_keys d) s.no_other) (ap (λ o. is_some (option_and_then as_str o)) s.has_name ∙ ap is_some s.is_name))
      (and_from (are_registers e (read_under as_object (codes "registers") d)) (are_cycles e (read_under as_array (codes "inputs") d))
      (ap (λ o. are_registers e (option_and_then as_object o)) s.has_registers
      ∙ (ap (are_registers e) s.are_registers.1 ∙ entries_fit (register_named_fits e) R tests.register_fits s.are_registers.0 t.registers s.are_registers.2 hr))
      (ap (λ o. are_cycles e (option_and_then as_array o)) s.has_inputs
      ∙ (ap (are_cycles e) s.are_cycles ∙ cycles_pass s.cycles t.inputs s.are_inputs hc)))

-- ---- what data gives by names

-- the number of data, and the numbers of a list
pub numeral_given : (d : Data) (x : ℕ) → IsNumeral d x → number_or_zero (numeral_in d) ≡ x
numeral_given d x h = ap number_or_zero (is_numeral d x h)

pub numbers_given : (ds : Items) (xs : List ℕ) → AreNumerals ds xs → numbers_of_items ds ≡ xs
numbers_given no_items xs a = sym a
numbers_given (item d ds) [] a = absurd a
numbers_given (item d ds) (x ∷ xs) a = let here = numeral_given d x a.0 in let there = numbers_given ds xs a.1 in λ i. here i ∷ there i

found_after : (k : Name) (ms : Members) (es : Entries Value) (n : Name) (x : Value) → AreEntriesIn ms es → AllAfter k ms → Contains es (n, x)
    → slice_cmp nat_cmp k n ≡ Less
found_after k ms es n x a h c = at ms es a h c.0 c.1 c.2
  where
    at : (qs : Members) (fs : Entries Value) → AreEntriesIn qs fs → AllAfter k qs → (j : ℕ) → j < length fs → get_or fs j (n, x) ≡ (n, x) → slice_cmp nat_cmp k n ≡ Less
    at no_members [] b g j l e = absurd (omega (arith, l))
    at no_members (f ∷ fs) b g j l e = absurd (omega (arith, l, ap length b))
    at (member m d qs) [] b g j l e = absurd b
    at (member m d qs) (f ∷ fs) b g zero l e = subst (λ q. slice_cmp nat_cmp k q ≡ Less) (sym b.0 ∙ ap (λ (p : Name × Value). p.0) e) g.0
    at (member m d qs) (f ∷ fs) b g (suc j) l e = at qs fs b.2 g.1 j (omega (arith, l)) e

-- an entry is what the members have under its name
pub entry_given : (ms : Members) (es : Entries Value) (n : Name) (x : Value) → AreEntriesIn ms es → IsInOrder ms → Contains es (n, x)
    → (d : Data) × (get_member n ms ≡ Some d) × IsValueIn d x
entry_given no_members [] n x a o c = absurd (omega (arith, c.1))
entry_given no_members (f ∷ es) n x a o c = absurd (omega (arith, c.1, ap length a))
entry_given (member m d ms) [] n x a o c = absurd a
entry_given (member m d ms) (f ∷ es) n x a o c = by c.0 c.1 c.2 (λ c. entry_given ms es n x a.2 o.1 c)
  where
    Found : Type 0
    Found = (e : Data) × (get_member n (member m d ms) ≡ Some e) × IsValueIn e x

    by : (j : ℕ) → j < suc (length es) → get_or (f ∷ es) j (n, x) ≡ (n, x) → (Contains es (n, x) → (e : Data) × (get_member n ms ≡ Some e) × IsValueIn e x) → Found
    by zero l e r =
        let named : n ≡ m = sym (ap (λ (p : Name × Value). p.0) e) ∙ a.0 in
        let tied : slice_cmp nat_cmp n m ≡ Equal = subst (λ q. slice_cmp nat_cmp n q ≡ Equal) named (tied_itself nat_list_cmp_total n) in
        (d, ap (λ q. match_ordering q (get_member n ms) (Some d) (get_member n ms)) tied, subst (IsValueIn d) (ap (λ (p : Name × Value). p.1) e) a.1)
    by (suc j) l e r =
        let c : Contains es (n, x) = (j, omega (arith, l), e) in
        let rest = r c in
        (rest.0, later n m d ms (found_after m ms es n x a.2 o.0 c) ∙ rest.1, rest.2)

-- names that have entries have members
chosen : (o : Ordering) (x rest : Option Data) → match_ordering o rest x rest ≡ cond (is_eq o) x rest
chosen Less x rest = refl
chosen Equal x rest = refl
chosen Greater x rest = refl

under_name : (k l : Name) (x rest : Option Data) → match_ordering (slice_cmp nat_cmp k l) rest x rest ≡ cond (same_name k l) x rest
under_name k l x rest = chosen (slice_cmp nat_cmp k l) x rest ∙ ap (λ b. cond b x rest) (is_eq-slice_cmp k l)

pub named_given : (ms : Members) (es : Entries Value) (n : Name) → AreEntriesIn ms es → is_some (get_member n ms) ≡ is_some (entry_of es n)
named_given no_members es n a = ap (λ fs. is_some (entry_of fs n)) (sym a)
named_given (member m d ms) [] n a = absurd a
named_given (member m d ms) (f ∷ es) n a =
    ap is_some (under_name n m (Some d) (get_member n ms))
    ∙ (ap (λ b. is_some (cond b (Some d) (get_member n ms))) (nat_list_eq_equiv.symm n m ∙ ap (λ q. same_name q n) (sym a.0))
    ∙ by (same_name f.0 n) (named_given ms es n a.2))
  where
    by : (t : Bool) → is_some (get_member n ms) ≡ is_some (entry_of es n)
        → is_some (cond t (Some d) (get_member n ms)) ≡ is_some (cond t (Some f.1) (entry_of es n))
    by true r = refl
    by false r = r
