-- Places with the terms of their own names, each with the numbers of those that stand in it, have the terms of the nets and variables of the
-- design under their dotted names, and no others.
use Rattle.std.proofs.Common.{◌≡◌, ◌∙◌, ℕ, ◌<◌, ◌≤◌, refl, ap, sym, subst, arith, Bool, true, false, cond, ◌⊎◌, inl, inr, List, [], ◌∷◌, ◌++◌, length, drop, ne_eqb, Option, Some, None, is_some}
use Rattle.std.specs.Prelude.{◌==◌, ◌||◌, slice_get, option_and_then, IsTrue}
use Rattle.std.proofs.lemmas.Bool.{false≢true, eqb-true}
use Rattle.std.proofs.lemmas.List.{append_assoc, append-nil}
use Rattle.wb_values.specs.Value.{Name, same_name, Entries}
use Rattle.wb_values.specs.Choice.{first_of}
use Rattle.verilog_meaning.specs.Expression.{Object, Scope, is_memory, scope_of}
use Rattle.verilog_meaning.specs.Hierarchy.{Declaration, declarations, PathStep, instance_step, Placed, dotted}
use Rattle.verilog_meaning.specs.Settled.{Design, is_declared_among}
use Rattle.verilog_designs.specs.Names.{is_among}
use Rattle.verilog_unique.proofs.Options.{same_is}
use Rattle.verilog_exists.proofs.Dots as dots
use Rattle.verilog_exists.proofs.Spots.{plain_declared, plain_path}
use Rattle.flat_designs.specs.Flat.{Naming}
use Rattle.v_scopes.specs.Rows.{rows, scope_by, objects_by}
use Rattle.v_places.specs.Below.{Spot}
use Rattle.v_places.specs.Places.{placed_by}
use Rattle.v_places.proofs.Spots.{get_within, within_get, same_some}
use Rattle.v_flat.specs.Paths.{paths_of}
use Rattle.v_flat.specs.Entries.{dotted_entries, SpotNames, spot_names}
use Rattle.v_flat.specs.Whole.{IsPlacing}
use Rattle.v_flat.proofs.Places.{IsIn, IsOnTop, at_number}
use Rattle.v_flat.proofs.Named.{keys, get_names}
use Rattle.v_flat.proofs.Whole.{Stands, IsAround, listed, found, one_number, around, top_number}
use Rattle.v_lower.specs.Lowered.{Images}
use Rattle.v_design.specs.declared.place.PlaceTerms.{PlaceTerms}
use Rattle.v_design.specs.Table.{term_in, place_in, term_from, terms_at}
use Rattle.v_design.specs.Design.{IsNet}
use Rattle.v_design.proofs.Segments.{IsPlain}
use Rattle.v_design.proofs.Dotted.{ArePlainSteps, place_at, term_of_dotted}
use Rattle.v_elab.specs.Settled.{IsCalledSo, IsTermOfNet, AreSettledBy, net_term, after_entries, declared_entries, HaveOwnTerms}
use Rattle.v_elab.proofs.PutBelow.{AreBelowUpTo}

-- ---- names without dots

plain : (n : Name) → dots.Plain n → IsPlain n
plain [] h = tt
plain (c ∷ cs) h = (ne_eqb c 46 (λ e. h (inl e)), plain cs (λ k. h (inr k)))

plain_steps : (path : List PathStep) → dots.ArePlainSteps path → ArePlainSteps path
plain_steps [] h = tt
plain_steps (u ∷ path) h = (h.0, plain u.of_name h.1, plain_steps path h.2)

-- ---- the terms of one place

past_constants : (front : Name) (xs ys : Entries Object) → drop (length xs) (dotted_entries front (xs ++ ys)) ≡ dotted_entries front ys
past_constants front [] ys = refl
past_constants front (x ∷ xs) ys = past_constants front xs ys

declared_keys : (s t : Scope) (ds : List Declaration) (n : Name) → is_among (keys (objects_by s (rows t ds))) n ≡ is_declared_among ds n
declared_keys s t [] n = refl
declared_keys s t (d ∷ ds) n = ap (λ b. same_name d.of_name n || b) (declared_keys s t ds n)

first_twice : (t o : Option ℕ) → first_of t (first_of t o) ≡ first_of t o
first_twice None o = refl
first_twice (Some x) o = refl

first_none : (t : Option ℕ) → first_of t None ≡ t
first_none None = refl
first_none (Some x) = refl

module _ (s : Scope) (terms : Images) (front n : Name) where
  after_all : (es : Entries Object) (o : Option ℕ)
      → after_entries s terms (dotted_entries front es) n o ≡ cond (is_among (keys es) n) (first_of (net_term s terms (front ++ n)) o) o
  after_all [] o = refl
  after_all (e ∷ es) o = by (same_name e.0 n) refl (after_all es)
    where
      here : (b : Bool) (t : Option ℕ) → cond b (first_of t (first_of t o)) (first_of t o) ≡ first_of t o
      here true t = first_twice t o
      here false t = refl

      by : (b : Bool) → same_name e.0 n ≡ b
          → ((p : Option ℕ) → after_entries s terms (dotted_entries front es) n p ≡ cond (is_among (keys es) n) (first_of (net_term s terms (front ++ n)) p) p)
          → after_entries s terms (dotted_entries front es) n (cond b (first_of (net_term s terms (front ++ e.0)) o) o)
          ≡ cond (b || is_among (keys es) n) (first_of (net_term s terms (front ++ n)) o) o
      by true q g =
          g (first_of (net_term s terms (front ++ e.0)) o)
          ∙ ap (λ m. cond (is_among (keys es) n) (first_of (net_term s terms (front ++ n)) (first_of (net_term s terms (front ++ m)) o)) (first_of (net_term s terms (front ++ m)) o))
          (same_is e.0 n q)
          ∙ here (is_among (keys es) n) (net_term s terms (front ++ n))
      by false q g = g o

  -- those that the module of a place declares
  declared_terms : (x : Spot)
      → after_entries s terms (declared_entries x (Some (spot_names front x))) n None
      ≡ cond (is_declared_among (declarations x.of_module) n) (net_term s terms (front ++ n)) None
  declared_terms x =
      let t : Scope = scope_by (rows (scope_of x.constants) (declarations x.of_module)) in
      let own : Entries Object = objects_by t (rows (scope_of x.constants) (declarations x.of_module)) in
      ap (λ es. after_entries s terms es n None) (past_constants front x.constants own)
      ∙ after_all own None
      ∙ ap (λ b. cond b (first_of (net_term s terms (front ++ n)) None) None) (declared_keys t (scope_of x.constants) (declarations x.of_module) n)
      ∙ ap (λ o. cond (is_declared_among (declarations x.of_module) n) o None) (first_none (net_term s terms (front ++ n)))

-- ---- tables without places

nothing_there : (k : ℕ) (name text : Name) → term_from [] k name text ≡ None
nothing_there k name [] = refl
nothing_there k name (c ∷ text) = by (c == 46) (nothing_there k (name ++ c ∷ []) text)
  where
    by : (b : Bool) → term_from [] k (name ++ c ∷ []) text ≡ None
        → cond b (option_and_then (λ j. term_from [] j [] text) (place_in [] k name)) (term_from [] k (name ++ c ∷ []) text) ≡ None
    by true h = refl
    by false h = h

some_place : (places : List PlaceTerms) (name : Name) (id : ℕ) → terms_at places name ≡ Some id → 0 < length places
some_place [] name id e = absurd (false≢true (ap is_some (sym (nothing_there 0 [] name) ∙ e)))
some_place (p ∷ places) name id e = omega arith

number_there : (o : Option ℕ) → is_some o ≡ true → (c : ℕ) × (o ≡ Some c)
number_there None h = absurd (false≢true h)
number_there (Some c) h = (c, refl)

head_step : (u : PathStep) (v : Name) (q r : List PathStep) → u ∷ q ≡ instance_step v ∷ r → v ≡ u.of_name
head_step u v q r e = sym (ap name_of e)
  where
    name_of : List PathStep → Name
    name_of [] = []
    name_of (w ∷ ws) = w.of_name

rest_of_steps : (u v : PathStep) (q r : List PathStep) → u ∷ q ≡ v ∷ r → q ≡ r
rest_of_steps u v q r e = ap rest e
  where
    rest : List PathStep → List PathStep
    rest [] = []
    rest (w ∷ ws) = ws

no_step : (u : PathStep) (q : List PathStep) → u ∷ q ≡ [] → ⊥
no_step u q e = cc

module _ (d : Design) (called : Naming) (spots : List Spot) (names : List SpotNames) (s : Scope) (terms : Images) (places : List PlaceTerms)
    (h : IsCalledSo d called spots names s) (count : length places ≡ length spots) (own : HaveOwnTerms s terms spots names (length spots) places)
    (below : (k : ℕ) → AreBelowUpTo spots (length spots) k (place_in places k)) where
  placing : IsPlacing d spots
  placing = h.placing

  -- the terms of the place with a number
  own_terms : (k : ℕ) (x : Spot) (q : List PathStep) → Stands d spots k x q → (n : Name)
      → term_in places k n ≡ cond (is_declared_among (declarations x.of_module) n) (net_term s terms (called q n)) None
  own_terms k x q st n =
      own k x (get_within spots k x st.is_at.is_spot) st.is_at.is_spot n
      ∙ ap (λ o. after_entries s terms (declared_entries x o) n None)
      (ap (λ (m : List SpotNames). slice_get m k) h.are_names ∙ get_names called (paths_of spots) spots k q x st.is_at.is_there st.is_at.is_spot)
      ∙ declared_terms s terms (called q []) n x
      ∙ ap (λ m. cond (is_declared_among (declarations x.of_module) n) (net_term s terms m) None) (h.fronts q n)

  -- ---- from paths to places

  -- a place in another one stands at its instance there
  path_is : (k : ℕ) (x : Spot) (q : List PathStep) → Stands d spots k x q → (c : ℕ) (z : Spot) (r : List PathStep) → Stands d spots c z r → z.parent ≡ k → k < c
      → r ≡ instance_step z.instance ∷ q
  path_is k x q st c z r t e l =
      elim t.is_at.is_path as (λ _. r ≡ instance_step z.instance ∷ q) [
        | inl i ↦
            let same : i.around ≡ q = same_some i.around q (sym i.is_around ∙ (ap (slice_get (paths_of spots)) e ∙ st.is_at.is_there)) in
            i.is_path ∙ ap (λ a. instance_step z.instance ∷ a) same
        | inr i ↦ let f : c ≤ z.parent = i.first in absurd (omega (arith, e, l, f))
      ]

  -- what a place has for an instance stands there
  child_stands : (k : ℕ) (x : Spot) (q : List PathStep) → Stands d spots k x q → (u : Name) (c : ℕ) → place_in places k u ≡ Some c
      → (z : Spot) × Stands d spots c z (instance_step u ∷ q)
  child_stands k x q st u c e = let z = (below k).each u c e in by z.0 z.1 z.2 z.3 z.4
    where
      by : (z : Spot) → slice_get spots c ≡ Some z → z.parent ≡ k → k < c → z.instance ≡ u → (z : Spot) × Stands d spots c z (instance_step u ∷ q)
      by z is parent after same =
          let r = at_number spots c z is in
          let t : Stands d spots c z r.path = listed d spots placing c z r.path r.is_at in
          (z, subst (Stands d spots c z) (path_is k x q st c z r.path t parent after ∙ ap (λ n. instance_step n ∷ q) same) t)

  -- and each place that stands in one is there
  child_is : (k : ℕ) (x : Spot) (q : List PathStep) → Stands d spots k x q → IsAround d spots k x q → place_in places x.parent x.instance ≡ Some k
  child_is k x q st i =
      let b : is_some (place_in places x.parent x.instance) ≡ true =
      (below x.parent).all k x (get_within spots k x st.is_at.is_spot) st.is_at.is_spot refl i.before in
      let c = number_there (place_in places x.parent x.instance) b in
      let z = child_stands x.parent i.spot i.path i.stands x.instance c.0 c.1 in
      let same : c.0 ≡ k = one_number d spots placing c.0 k z.0 x (instance_step x.instance ∷ i.path) q z.1 st (sym i.is_path) in
      c.1 ∙ ap Some same

  leads_to : (q : List PathStep) (k : ℕ) (x : Spot) → Stands d spots k x q → place_at places q ≡ Some k
  leads_to [] k x st = ap Some (sym (top_number d spots placing k x [] st refl))
  leads_to (u ∷ rest) k x st = by st.is_at.is_path (leads_to rest)
    where
      below_around : IsAround d spots k x (u ∷ rest) → ((j : ℕ) (y : Spot) → Stands d spots j y rest → place_at places rest ≡ Some j) → place_at places (u ∷ rest) ≡ Some k
      below_around i f =
          let same : i.path ≡ rest = sym (rest_of_steps u (instance_step x.instance) rest i.path i.is_path) in
          ap (option_and_then (λ j. place_in places j u.of_name)) (f x.parent i.spot (subst (Stands d spots x.parent i.spot) same i.stands))
          ∙ ap (place_in places x.parent) (sym (head_step u x.instance rest i.path i.is_path))
          ∙ child_is k x (u ∷ rest) st i

      by : IsIn (paths_of spots) k x (u ∷ rest) ⊎ IsOnTop k x (u ∷ rest) → ((j : ℕ) (y : Spot) → Stands d spots j y rest → place_at places rest ≡ Some j)
          → place_at places (u ∷ rest) ≡ Some k
      by (inl i) f = below_around (around d spots placing k x (u ∷ rest) st i) f
      by (inr i) f = absurd (no_step u rest i.is_path)

  -- ---- each net and variable

  here_each : (k : ℕ) (x : Spot) (q : List PathStep) → Stands d spots k x q → (n : Name) → IsNet d (placed_by q x) n
      → terms_at places (dotted q n) ≡ terms (called q n)
  here_each k x q st n net =
      let p : Placed = placed_by q x in
      let declared : is_declared_among (declarations x.of_module) n ≡ true = net.is_declared in
      let no_memory : is_memory (s (called q n)) ≡ false = ap is_memory (h.says_the_same p n net.is_placed net.is_declared) ∙ net.no_memory in
      term_of_dotted places q n (plain_steps q (plain_path d placing.no_dots q p st.in_design)) (plain n (plain_declared d placing.no_dots p n net.is_placed net.is_declared))
      ∙ ap (option_and_then (λ j. term_in places j n)) (leads_to q k x st)
      ∙ own_terms k x q st n
      ∙ ap (λ b. cond b (net_term s terms (called q n)) None) declared
      ∙ ap (λ b. cond b None (terms (called q n))) no_memory

  each_settled : (p : Placed) (n : Name) → IsNet d p n → terms_at places (dotted p.path n) ≡ terms (called p.path n)
  each_settled p n net =
      let f = found d spots placing p net.is_placed in
      subst (λ (z : Placed). IsNet d z n → terms_at places (dotted z.path n) ≡ terms (called z.path n)) f.is_placed
      (here_each f.number f.spot f.path f.stands n) net

  -- ---- no other name

  -- a name that has been read up to its end
  ended : (k : ℕ) (x : Spot) (q : List PathStep) → Stands d spots k x q → (n : Name) (id : ℕ) → term_in places k n ≡ Some id → (name : Name) → name ≡ dotted q n
      → IsTermOfNet d called terms name id
  ended k x q st n id e name same = by (is_declared_among (declarations x.of_module) n) refl (sym (own_terms k x q st n) ∙ e)
    where
      plain_net : IsTrue (is_declared_among (declarations x.of_module) n) → (b : Bool) → is_memory (s (called q n)) ≡ b → cond b None (terms (called q n)) ≡ Some id
          → IsTermOfNet d called terms name id
      plain_net declared true m g = absurd (false≢true (ap is_some g))
      plain_net declared false m g =
          record {
            place = placed_by q x;
            of_name = n;
            is_net = record {
              is_placed = st.in_design;
              is_declared = declared;
              no_memory = ap is_memory (sym (h.says_the_same (placed_by q x) n st.in_design declared)) ∙ m;
            };
            is_name = same;
            is_term = g;
          }

      by : (b : Bool) → is_declared_among (declarations x.of_module) n ≡ b → cond b (net_term s terms (called q n)) None ≡ Some id → IsTermOfNet d called terms name id
      by true declared g = plain_net declared (is_memory (s (called q n))) refl g
      by false declared g = absurd (false≢true (ap is_some g))

  -- what a text is that leads to a term from any place
  abbrev Leads : Name → Type 0
  Leads text =
      (k : ℕ) (x : Spot) (q : List PathStep) → Stands d spots k x q → (n : Name) (id : ℕ) → term_from places k n text ≡ Some id
      → (name : Name) → name ≡ dotted q (n ++ text) → IsTermOfNet d called terms name id

  one_more : (c : ℕ) (text : Name) → Leads text → Leads (c ∷ text)
  one_more c text rest k x q st n id e name same = by (c == 46) refl e
    where
      at_instance : c ≡ 46 → (o : Option ℕ) → place_in places k n ≡ o → option_and_then (λ j. term_from places j [] text) o ≡ Some id → IsTermOfNet d called terms name id
      at_instance f None i g = absurd (false≢true (ap is_some g))
      at_instance f (Some j) i g =
          let z = child_stands k x q st n j i in
          rest j z.0 (instance_step n ∷ q) z.1 [] id g name
          (same ∙ ap (dotted q) (ap (λ b. n ++ b ∷ text) f ∙ ap (λ m. m ++ 46 ∷ text) (sym (append-nil n))))

      by : (b : Bool) → (c == 46) ≡ b
          → cond b (option_and_then (λ j. term_from places j [] text) (place_in places k n)) (term_from places k (n ++ c ∷ []) text) ≡ Some id
          → IsTermOfNet d called terms name id
      by true f g = at_instance (eqb-true c 46 f) (place_in places k n) refl g
      by false f g = rest k x q st (n ++ c ∷ []) id g name (same ∙ ap (dotted q) (sym (append_assoc n (c ∷ []) text)))

  leads : (text : Name) → Leads text
  leads [] k x q st n id e name same = ended k x q st n id e name (same ∙ ap (dotted q) (append-nil n))
  leads (c ∷ text) k x q st n id e name same = one_more c text (leads text) k x q st n id e name same

  none_besides : (name : Name) (id : ℕ) → terms_at places name ≡ Some id → IsTermOfNet d called terms name id
  none_besides name id e =
      let l = some_place places name id e in
      let y = within_get spots 0 (omega (arith, l, count)) in
      let f = at_number spots 0 y.0 y.1 in
      let on_top : f.path ≡ [] = elim f.is_at.is_path as (λ _. f.path ≡ []) [ inl i ↦ (let b : y.0.parent < 0 = i.before in absurd (omega (arith, b))) | inr i ↦ i.is_path ] in
      let t : Stands d spots 0 y.0 f.path = listed d spots placing 0 y.0 f.path f.is_at in
      leads name 0 y.0 [] (subst (Stands d spots 0 y.0) on_top t) [] id e name refl

  pub are_settled : AreSettledBy d called terms places
  are_settled = record { each = each_settled; no_others = none_besides }
