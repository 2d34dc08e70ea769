-- A design unrolled over the first cycles of a run.
use Rattle.std.proofs.Common.{◌≡◌, ℕ, suc, zero, ◌+◌, ◌<◌, ◌≤◌, true, cond, List, [], ◌∷◌, ◌++◌, length, map, Some, refl, sym, ap, ◌∙◌, subst, arith, inl, inr, ◌⊎◌}
use Rattle.std.specs.Prelude.{slice_get, nat_lt}
use Rattle.std.proofs.lemmas.List.{length-append, length-take-le}
use Rattle.std.proofs.lemmas.Bool.Decides.{nat_tests}
use Rattle.std.specs.Global.{Global}
use Rattle.std.specs.declared.vec.Vec.{Vec}
use Rattle.wb_values.specs.Value.{Sort, Value, Entries, Valuation}
use Rattle.wb_terms.specs.declared.nodes.TermId.{TermId}
use Rattle.wb_terms.specs.Graph.{Graph, HasDistinctNames}
use Rattle.term_copies.specs.Copies.{IsExtended, AreCopies, AreLeaves, copy_of, declared_at}
use Rattle.term_copies.proofs.Extending.{extended_trans}
use Rattle.v_design.specs.Parts.{Parts, registers_of, inputs_of, are_terms_of}
use Rattle.mapped_designs.specs.Runs.{worth_at, worth_of_registers_at, registers_at, zero_inputs}
use Rattle.run_terms.specs.Names.{names_of_run, values_of_run, values_from, first_input, repeated}
use Rattle.run_terms.specs.Worth.{AreWorth, AreWorthAll}
use Rattle.run_terms.specs.Leaves.{AreNames}
use Rattle.run_terms.proofs.Numbers.{register_name_at, input_name_at, inputs_within, length-numbered, length-repeated}
use Rattle.run_terms.proofs.Values.{AreWorth-kept, AreWorth-same, AreWorthAll-kept, names_worth}
use Rattle.run_terms.proofs.Copied.{joined_worth, leaves_of, copies_worth, found_worth}

-- what is said of the copies at each cycle that was unrolled
abbrev pub AreRead : Graph → Parts → (cycles : ℕ) → List (Vec TermId Global) → Type 0
AreRead g d cycles rows =
    (u : ℕ) (ids : Vec TermId Global) → slice_get rows u ≡ Some ids → AreWorthAll g d.graph ids.items (λ v k. worth_at d (values_of_run d cycles v) u k)

abbrev pub AreShown : Graph → Parts → (cycles : ℕ) → List (Vec TermId Global) → Type 0
AreShown g d cycles rows =
    (u : ℕ) (ids : Vec TermId Global) → slice_get rows u ≡ Some ids → AreWorthAll g d.graph ids.items (λ v k. worth_of_registers_at d (values_of_run d cycles v) u k)

-- The first t cycles are unrolled, and the registers of the next one have terms.
pub record IsUnrolledTo (d : Parts) (cycles t : ℕ) (g : Graph) (first zeros registers : List TermId) (read shown : List (Vec TermId Global)) : Type 0 where
  pub names : g.names ≡ names_of_run d cycles
  pub at_first : AreWorth g (registers_of d) first (λ v. (values_of_run d cycles v).first)
  pub zero : AreWorth g (inputs_of d) zeros (λ v. zero_inputs d)
  pub now : AreWorth g (registers_of d) registers (λ v. registers_at d (values_of_run d cycles v) t)
  pub read_count : length read ≡ t
  pub are_read : AreRead g d cycles read
  pub shown_count : length shown ≡ t
  pub are_shown : AreShown g d cycles shown

-- ---- the names

pub register_names : (g : Graph) (d : Parts) (cycles : ℕ) (ids : List TermId) → g.names ≡ names_of_run d cycles → AreNames g 0 (length (registers_of d)) ids
    → AreWorth g (registers_of d) ids (λ v. (values_of_run d cycles v).first)
register_names g d cycles ids e a =
    names_worth g 0 (registers_of d) ids a (λ j b. ap (λ (ns : Entries Sort). declared_at ns (0 + j)) e ∙ register_name_at (registers_of d) (inputs_of d) cycles j b)

is_below : (m n : ℕ) → m < n → nat_lt m n ≡ true
is_below m n h = grind (arith, nat_tests)

pub input_names : (g : Graph) (d : Parts) (cycles t : ℕ) (ids : List TermId) → g.names ≡ names_of_run d cycles → t < cycles → AreNames g (first_input d t) (length (inputs_of d)) ids
    → AreWorth g (inputs_of d) ids (λ v. (values_of_run d cycles v).inputs t)
input_names g d cycles t ids e l a =
    AreWorth-same (inputs_of d) ids (values_from (first_input d t) (inputs_of d)) (λ v. (values_of_run d cycles v).inputs t)
    (λ v. ap (λ c. cond c (values_from (first_input d t) (inputs_of d) v) (zero_inputs d)) (sym (is_below t cycles l)))
    (names_worth g (first_input d t) (inputs_of d) ids a
    (λ j b. ap (λ (ns : Entries Sort). declared_at ns (first_input d t + j)) e ∙ input_name_at (registers_of d) (inputs_of d) cycles t j l b))

pub register_room : (g : Graph) (d : Parts) (cycles : ℕ) → g.names ≡ names_of_run d cycles → 0 + length (registers_of d) ≤ length g.names
register_room g d cycles e =
    omega (arith, ap length e, length-numbered 0 (registers_of d ++ repeated cycles (inputs_of d)), length-append (registers_of d) (repeated cycles (inputs_of d)))

pub input_room : (g : Graph) (d : Parts) (cycles t : ℕ) → g.names ≡ names_of_run d cycles → t < cycles → first_input d t + length (inputs_of d) ≤ length g.names
input_room g d cycles t e l =
    omega (
      arith,
      ap length e,
      length-numbered 0 (registers_of d ++ repeated cycles (inputs_of d)),
      length-append (registers_of d) (repeated cycles (inputs_of d)),
      length-repeated cycles (inputs_of d),
      inputs_within cycles t (length (inputs_of d)) l,
    )

-- ---- rows of copies

pushed_at : {A : Type 0} (xs : List A) (x y : A) (u : ℕ) → slice_get (xs ++ x ∷ []) u ≡ Some y → (slice_get xs u ≡ Some y) ⊎ ((u ≡ length xs) × (x ≡ y))
pushed_at [] x y zero e = inr (refl, cc)
pushed_at [] x y (suc u) e = absurd (cc)
pushed_at (z ∷ zs) x y zero e = inl e
pushed_at (z ∷ zs) x y (suc u) e =
    elim (pushed_at zs x y u e) as (λ _. (slice_get (z ∷ zs) (suc u) ≡ Some y) ⊎ ((suc u ≡ length (z ∷ zs)) × (x ≡ y))) [ inl h ↦ inl h | inr h ↦ inr (ap suc h.0, h.1) ]

-- a row for each cycle so far, and one more
pub rows_more : (P : ℕ → Vec TermId Global → Type 0) (rows : List (Vec TermId Global)) (ids : Vec TermId Global) (t : ℕ) → length rows ≡ t
    → ((u : ℕ) (row : Vec TermId Global) → slice_get rows u ≡ Some row → P u row) → P t ids
    → (u : ℕ) (row : Vec TermId Global) → slice_get (rows ++ ids ∷ []) u ≡ Some row → P u row
rows_more P rows ids t l h new u row e =
    elim (pushed_at rows ids row u e) as (λ _. P u row) [
      | inl there ↦ h u row there
      | inr here ↦ subst (P u) here.1 (subst (λ j. P j ids) (sym (here.0 ∙ l)) new)
    ]

pub are_read_kept : {g h : Graph} (d : Parts) (cycles : ℕ) (rows : List (Vec TermId Global)) → IsExtended g h → AreRead g d cycles rows → AreRead h d cycles rows
are_read_kept d cycles rows a w u ids e = AreWorthAll-kept d.graph ids.items (λ v k. worth_at d (values_of_run d cycles v) u k) a (w u ids e)

pub are_shown_kept : {g h : Graph} (d : Parts) (cycles : ℕ) (rows : List (Vec TermId Global)) → IsExtended g h → AreShown g d cycles rows → AreShown h d cycles rows
are_shown_kept d cycles rows a w u ids e = AreWorthAll-kept d.graph ids.items (λ v k. worth_of_registers_at d (values_of_run d cycles v) u k) a (w u ids e)

-- ---- before the first cycle

pub none_unrolled : (d : Parts) (cycles : ℕ) (f g : Graph) (first zeros registers : List TermId) (read shown : List (Vec TermId Global)) → f.names ≡ names_of_run d cycles → IsExtended f g
    → AreWorth f (registers_of d) first (λ v. (values_of_run d cycles v).first) → AreWorth g (inputs_of d) zeros (λ v. zero_inputs d) → registers ≡ first → read ≡ [] → shown ≡ []
    → IsUnrolledTo d cycles 0 g first zeros registers read shown
none_unrolled d cycles f g first zeros registers read shown names a w z r none no_states =
    let kept : AreWorth g (registers_of d) first (λ v. (values_of_run d cycles v).first) = AreWorth-kept (registers_of d) first (λ v. (values_of_run d cycles v).first) a w in
    record {
      names = a.names ∙ names;
      at_first = kept;
      zero = z;
      now = subst (λ ids. AreWorth g (registers_of d) ids (λ v. (values_of_run d cycles v).first)) (sym r) kept;
      read_count = ap length none;
      are_read = subst (AreRead g d cycles) (sym none) (λ u ids e. absurd (cc));
      shown_count = ap length no_states;
      are_shown = subst (AreShown g d cycles) (sym no_states) (λ u ids e. absurd (cc));
    }

-- ---- one cycle more

-- terms for a cycle with inputs that are 0
pub shown_worth : (d : Parts) (cycles t : ℕ) (g h : Graph) (zeros registers leaves ids : List TermId) → HasDistinctNames d.graph.names → IsExtended g h
    → AreWorth g (inputs_of d) zeros (λ v. zero_inputs d) → AreWorth g (registers_of d) registers (λ v. registers_at d (values_of_run d cycles v) t)
    → AreCopies h d.graph (registers ++ zeros) ids → AreWorthAll h d.graph ids (λ v k. worth_of_registers_at d (values_of_run d cycles v) t k)
shown_worth d cycles t g h zeros registers leaves ids distinct a z r c =
    copies_worth h d (registers ++ zeros) ids (λ v. registers_at d (values_of_run d cycles v) t) (λ v. zero_inputs d) distinct
    (AreWorth-kept d.graph.names (registers ++ zeros) (λ v. registers_at d (values_of_run d cycles v) t ++ zero_inputs d) a
    (joined_worth g d registers zeros (λ v. registers_at d (values_of_run d cycles v) t) (λ v. zero_inputs d) r z)) c

pub read_worth : (d : Parts) (cycles t : ℕ) (g h : Graph) (inputs registers ids : List TermId) → HasDistinctNames d.graph.names → IsExtended g h
    → AreWorth g (inputs_of d) inputs (λ v. (values_of_run d cycles v).inputs t) → AreWorth g (registers_of d) registers (λ v. registers_at d (values_of_run d cycles v) t)
    → AreCopies h d.graph (registers ++ inputs) ids → AreWorthAll h d.graph ids (λ v k. worth_at d (values_of_run d cycles v) t k)
read_worth d cycles t g h inputs registers ids distinct a z r c =
    copies_worth h d (registers ++ inputs) ids (λ v. registers_at d (values_of_run d cycles v) t) (λ v. (values_of_run d cycles v).inputs t) distinct
    (AreWorth-kept d.graph.names (registers ++ inputs) (λ v. registers_at d (values_of_run d cycles v) t ++ (values_of_run d cycles v).inputs t) a
    (joined_worth g d registers inputs (λ v. registers_at d (values_of_run d cycles v) t) (λ v. (values_of_run d cycles v).inputs t) r z)) c

pub one_more : (d : Parts) (cycles t : ℕ) (g h k l : Graph) (first zeros registers inputs next ids : List TermId) (read shown read_after shown_after : List (Vec TermId Global))
    (at_zero copies : Vec TermId Global) → HasDistinctNames d.graph.names → t < cycles → are_terms_of d.graph (registers_of d) (map (λ (id : TermId). id.0) ids) ≡ true
    → map (λ (id : TermId). id.0) ids ≡ d.next
    → IsUnrolledTo d cycles t g first zeros registers read shown → IsExtended g h → AreCopies h d.graph (registers ++ zeros) at_zero.items → shown_after ≡ shown ++ at_zero ∷ []
    → IsExtended h k → AreNames k (first_input d t) (length (inputs_of d)) inputs → IsExtended k l → AreCopies l d.graph (registers ++ inputs) copies.items
    → next ≡ map (copy_of copies.items) ids → read_after ≡ read ++ copies ∷ []
    → IsUnrolledTo d cycles (t + 1) l first zeros next read_after shown_after
one_more d cycles t g h k l first zeros registers inputs next ids read shown read_after shown_after at_zero copies distinct less terms are_next u a c s b n e i x r =
    let gk : IsExtended g k = extended_trans a b in
    let gl : IsExtended g l = extended_trans gk e in
    let hl : IsExtended h l = extended_trans b e in
    let m : Valuation → ℕ → Value = λ v j. worth_at d (values_of_run d cycles v) t j in
    let new : AreWorthAll l d.graph copies.items m =
    read_worth d cycles t k l inputs registers copies.items distinct e (input_names k d cycles t inputs (gk.names ∙ u.names) less n)
    (AreWorth-kept (registers_of d) registers (λ v. registers_at d (values_of_run d cycles v) t) gk u.now) i in
    let shows : AreWorthAll h d.graph at_zero.items (λ v j. worth_of_registers_at d (values_of_run d cycles v) t j) =
    shown_worth d cycles t g h zeros registers [] at_zero.items distinct a u.zero u.now c in
    let after : AreWorth l (registers_of d) (map (copy_of copies.items) ids) (λ v. map (m v) (map (λ (id : TermId). id.0) ids)) =
    found_worth l d.graph (registers_of d) copies.items ids m terms new in
    let stepped : AreWorth l (registers_of d) next (λ v. registers_at d (values_of_run d cycles v) (suc t)) =
    subst (λ js. AreWorth l (registers_of d) js (λ v. registers_at d (values_of_run d cycles v) (suc t))) (sym x)
    (AreWorth-same (registers_of d) (map (copy_of copies.items) ids) (λ v. map (m v) (map (λ (id : TermId). id.0) ids)) (λ v. registers_at d (values_of_run d cycles v) (suc t))
    (λ v. ap (map (m v)) are_next) after) in
    let same : suc t ≡ t + 1 = omega arith in
    record {
      names = gl.names ∙ u.names;
      at_first = AreWorth-kept (registers_of d) first (λ v. (values_of_run d cycles v).first) gl u.at_first;
      zero = AreWorth-kept (inputs_of d) zeros (λ v. zero_inputs d) gl u.zero;
      now = subst (λ j. AreWorth l (registers_of d) next (λ v. registers_at d (values_of_run d cycles v) j)) same stepped;
      read_count = omega (arith, ap length r, length-append read (copies ∷ []), u.read_count);
      are_read = subst (AreRead l d cycles) (sym r)
          (rows_more (λ j (row : Vec TermId Global). AreWorthAll l d.graph row.items (λ v p. worth_at d (values_of_run d cycles v) j p)) read copies t u.read_count
          (are_read_kept d cycles read gl u.are_read) new);
      shown_count = omega (arith, ap length s, length-append shown (at_zero ∷ []), u.shown_count);
      are_shown = subst (AreShown l d cycles) (sym s)
          (rows_more (λ j (row : Vec TermId Global). AreWorthAll l d.graph row.items (λ v p. worth_of_registers_at d (values_of_run d cycles v) j p)) shown at_zero t u.shown_count
          (are_shown_kept d cycles shown gl u.are_shown) (AreWorthAll-kept d.graph at_zero.items (λ v j. worth_of_registers_at d (values_of_run d cycles v) t j) hl shows));
    }

-- the registers' count
pub register_count : (d : Parts) → d.register_count ≤ length d.graph.names → length (registers_of d) ≡ d.register_count
register_count d l = length-take-le d.register_count d.graph.names l

-- ---- what the copies stand over

pub leaves_at_zero : (d : Parts) (cycles t : ℕ) (g : Graph) (first zeros registers rs zs : List TermId) (read shown : List (Vec TermId Global))
    → IsUnrolledTo d cycles t g first zeros registers read shown → rs ≡ registers → zs ≡ zeros → AreLeaves g d.graph.names (rs ++ zs)
leaves_at_zero d cycles t g first zeros registers rs zs read shown u r z =
    subst (λ (ids : List TermId). AreLeaves g d.graph.names ids) (λ i. sym r i ++ sym z i)
    (leaves_of g d.graph.names (registers ++ zeros) (λ v. registers_at d (values_of_run d cycles v) t ++ zero_inputs d)
    (joined_worth g d registers zeros (λ v. registers_at d (values_of_run d cycles v) t) (λ v. zero_inputs d) u.now u.zero))

pub leaves_at_inputs : (d : Parts) (cycles t : ℕ) (g h k : Graph) (first zeros registers inputs rs is : List TermId) (read shown : List (Vec TermId Global))
    → IsUnrolledTo d cycles t g first zeros registers read shown → t < cycles → IsExtended g h → IsExtended h k → AreNames k (first_input d t) (length (inputs_of d)) inputs
    → rs ≡ registers → is ≡ inputs → AreLeaves k d.graph.names (rs ++ is)
leaves_at_inputs d cycles t g h k first zeros registers inputs rs is read shown u less a b n r i =
    let gk : IsExtended g k = extended_trans a b in
    subst (λ (ids : List TermId). AreLeaves k d.graph.names ids) (λ j. sym r j ++ sym i j)
    (leaves_of k d.graph.names (registers ++ inputs) (λ v. registers_at d (values_of_run d cycles v) t ++ (values_of_run d cycles v).inputs t)
    (joined_worth k d registers inputs (λ v. registers_at d (values_of_run d cycles v) t) (λ v. (values_of_run d cycles v).inputs t)
    (AreWorth-kept (registers_of d) registers (λ v. registers_at d (values_of_run d cycles v) t) gk u.now)
    (input_names k d cycles t inputs (gk.names ∙ u.names) less n)))

-- copies over lists that are equal to these
pub over : (g source : Graph) (rs is xs ys ids : List TermId) → xs ≡ rs → ys ≡ is → AreCopies g source (xs ++ ys) ids → AreCopies g source (rs ++ is) ids
over g source rs is xs ys ids r i c = subst (λ (leaves : List TermId). AreCopies g source leaves ids) (λ j. r j ++ i j) c

-- ---- after the last cycle

pub record IsAllUnrolled (d : Parts) (cycles : ℕ) (g : Graph) (first : List TermId) (read shown : List (Vec TermId Global)) : Type 0 where
  pub names : g.names ≡ names_of_run d cycles
  pub at_first : AreWorth g (registers_of d) first (λ v. (values_of_run d cycles v).first)
  pub read_count : length read ≡ cycles
  pub are_read : AreRead g d cycles read
  pub shown_count : length shown ≡ cycles + 1
  pub are_shown : AreShown g d cycles shown

pub all_unrolled : (d : Parts) (cycles t : ℕ) (g h : Graph) (first zeros registers : List TermId) (read shown shown_after : List (Vec TermId Global)) (at_zero : Vec TermId Global)
    → HasDistinctNames d.graph.names → t ≡ cycles → IsUnrolledTo d cycles t g first zeros registers read shown → IsExtended g h → AreCopies h d.graph (registers ++ zeros) at_zero.items
    → shown_after ≡ shown ++ at_zero ∷ [] → IsAllUnrolled d cycles h first read shown_after
all_unrolled d cycles t g h first zeros registers read shown shown_after at_zero distinct e u a c s =
    let shows : AreWorthAll h d.graph at_zero.items (λ v j. worth_of_registers_at d (values_of_run d cycles v) t j) =
    shown_worth d cycles t g h zeros registers [] at_zero.items distinct a u.zero u.now c in
    record {
      names = a.names ∙ u.names;
      at_first = AreWorth-kept (registers_of d) first (λ v. (values_of_run d cycles v).first) a u.at_first;
      read_count = u.read_count ∙ e;
      are_read = are_read_kept d cycles read a u.are_read;
      shown_count = omega (arith, ap length s, length-append shown (at_zero ∷ []), u.shown_count, e);
      are_shown = subst (AreShown h d cycles) (sym s)
          (rows_more (λ j (row : Vec TermId Global). AreWorthAll h d.graph row.items (λ v p. worth_of_registers_at d (values_of_run d cycles v) j p)) shown at_zero t u.shown_count
          (are_shown_kept d cycles shown a u.are_shown) shows);
    }
