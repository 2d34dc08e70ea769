-- The names and the registers of a simulated design, before and after a cycle.
use Rattle.std.proofs.Common.{◌≡◌, ◌∙◌, ◌≤◌, ◌+◌, ◌++◌, ℕ, true, List, [], ◌∷◌, length, take, drop, map, refl, sym, ap, subst, arith}
use Rattle.std.specs.Global.{Vec}
use Rattle.std.specs.Vec.{with_items}
use Rattle.std.proofs.lemmas.List.{length-map, length-append, length-take-le, take_at, with_items_is}
use Rattle.wb_values.specs.Value.{number}
use Rattle.wb_bits.specs.declared.Word.{Word}
use Rattle.wb_values.specs.Value as meaning
use Rattle.wb_terms.specs.declared.values.Value.{Value}
use Rattle.wb_terms.specs.declared.values.Env.{Env}
use Rattle.wb_terms.specs.declared.nodes.TermId.{TermId}
use Rattle.wb_terms.specs.Graph.{Graph}
use Rattle.wb_terms.specs.Environment.{AreOfSorts, as_value}
use Rattle.wb_terms.specs.Held.{Holds}
use Rattle.v_design.specs.Parts.{are_terms_of}
use Rattle.v_cycle.specs.declared.changes.Change.{Change}
use Rattle.v_cycle.specs.Alike.{AreAlike}
use Rattle.v_cycle.specs.Changing.{changed_by}
use Rattle.v_cycle.specs.Next.{values_of_terms}
use Rattle.v_cycle.specs.Setting.{AreOfTerms}
use Rattle.v_cycle.proofs.Links.{held_sort}
use Rattle.v_cycle.proofs.Shapes.{AreAlike-of}
use Rattle.v_cycle.proofs.Sorts.{AreOfSorts-length, AreOfSorts-take, joined, of_names}

-- elements written over as many
pub written : (v : Vec Value) (ws : List Value) → length ws ≡ length v.items → (with_items v ws).items ≡ ws
written v ws e = with_items_is v ws (omega (arith, e, v.ok.0))

pub AreOfTerms-values : (g : Graph) (e : Env) (ws : List Word) (ids : List TermId) (xs : List meaning.Value) → Holds g e ws → AreOfTerms g ids xs
    → AreOfTerms g ids (values_of_terms g e ids)
AreOfTerms-values g e ws [] [] h a = tt
AreOfTerms-values g e ws [] (x ∷ xs) h a = absurd a
AreOfTerms-values g e ws (id ∷ ids) [] h a = absurd a
AreOfTerms-values g e ws (id ∷ ids) (x ∷ xs) h a = (a.0, held_sort g e ws id.0 h a.0, AreOfTerms-values g e ws ids xs h a.2)

-- the registers after the edge are of their sorts
pub next_sorts : (g : Graph) (n : ℕ) (e : Env) (ws : List Word) (ids : List TermId) (old new : List meaning.Value)
    → are_terms_of g (take n g.names) (map (λ id. id.0) ids) ≡ true → Holds g e ws → AreOfTerms g ids old → new ≡ values_of_terms g e ids
    → AreOfSorts (take n g.names) new
next_sorts g n e ws ids old new terms h a now =
    subst (AreOfSorts (take n g.names)) (sym now)
    (of_names g (take n g.names) ids (values_of_terms g e ids) terms (AreOfTerms-values g e ws ids old h a))

-- before any edge
pub first_listed : (cs : List Change) (rs vs xs zs : List meaning.Value) → cs ≡ [] → rs ≡ xs → vs ≡ xs ++ zs → rs ≡ changed_by (take (length rs) vs) cs
first_listed cs rs vs xs zs none rs-are vs-are =
    rs-are ∙ sym (take_at xs zs (length xs) refl) ∙ sym (λ i. changed_by (take (length (rs-are i)) (vs-are i)) (none i))

-- the inputs set after names that follow the registers
pub inputs_set : (regs : Vec Value) (numbers : List ℕ) (rs followed before after : List Value) (ns : List ℕ) (first : ℕ) → rs ≡ regs.items → before ≡ followed → ns ≡ numbers
    → first ≡ length regs.items → take (length rs) (map as_value followed) ≡ map as_value rs → map as_value after ≡ take first (map as_value before) ++ map number ns
    → map as_value after ≡ map as_value regs.items ++ map number numbers
inputs_set regs numbers rs followed before after ns first rs-are before-are ns-are first-is follows made =
    made
    ∙ (λ i. take (first-is i) (map as_value (before-are i)) ++ map number (ns-are i))
    ∙ ap (λ l. l ++ map number numbers) (ap (λ l. take (length l) (map as_value followed)) (sym rs-are) ∙ follows ∙ ap (map as_value) rs-are)

module _ (g : Graph) (n : ℕ) (env regs : Vec Value) (numbers : List ℕ) (held : AreOfSorts (take n g.names) (map as_value regs.items))
    (inputs : AreOfSorts (drop n g.names) (map number numbers)) (names : AreOfSorts g.names (map as_value env.items)) where
  all_fit : AreOfSorts g.names (map as_value regs.items ++ map number numbers)
  all_fit = joined n g.names (map as_value regs.items) (map number numbers) held inputs

  pub total : length regs.items + length numbers ≡ length env.items
  total =
      let j = AreOfSorts-length g.names (map as_value regs.items ++ map number numbers) all_fit in
      let a = length-append (map as_value regs.items) (map number numbers) in
      let b = AreOfSorts-length g.names (map as_value env.items) names in
      omega (arith, j, a, b, length-map regs.items as_value, length-map numbers number, length-map env.items as_value)

  -- the registers as they were before the last edge are like those after it
  pub alike : n ≤ length g.names → AreAlike (take (length regs.items) (map as_value env.items)) (map as_value regs.items)
  alike counted =
      let a = AreOfSorts-length (take n g.names) (map as_value regs.items) held in
      let so_many : n ≡ length regs.items = omega (arith, a, length-map regs.items as_value, length-take-le n g.names counted) in
      subst (λ k. AreAlike (take k (map as_value env.items)) (map as_value regs.items)) so_many
      (AreAlike-of (take n g.names) (take n (map as_value env.items)) (map as_value regs.items) (AreOfSorts-take n g.names (map as_value env.items) names) held)

  -- the names follow the registers, and then the inputs are set
  module _ (followed set : List Value) (long : length followed ≡ length env.items) (are : map as_value set ≡ map as_value regs.items ++ map number numbers) where
    pub names_at : map as_value (with_items (with_items env followed) set).items ≡ map as_value regs.items ++ map number numbers
    names_at =
        let a = length-append (map as_value regs.items) (map number numbers) in
        let b = written env followed long in
        ap (map as_value) (written (with_items env followed) set
        (omega (arith, total, a, long, ap length b, ap length are, length-map set as_value, length-map regs.items as_value, length-map numbers number)))
        ∙ are

    pub names_fit : AreOfSorts g.names (map as_value (with_items (with_items env followed) set).items)
    names_fit = subst (AreOfSorts g.names) (sym names_at) all_fit

    -- what stands under the registers' names
    pub names_of_registers : (k : ℕ) → k ≡ length regs.items → take k (map as_value (with_items (with_items env followed) set).items) ≡ map as_value regs.items
    names_of_registers k e =
        ap (take k) names_at
        ∙ take_at (map as_value regs.items) (map number numbers) k (omega (arith, e, length-map regs.items as_value))
