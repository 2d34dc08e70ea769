-- Names that are not among others: turns of the searches, and what is found against the rules.
use Rattle.std.proofs.Common.{◌≡◌, ℕ, ◌+◌, ◌<◌, Bool, true, false, cond, not, ◌&&◌, ◌||◌, List, [], ◌∷◌, length, drop, get_or, Bor, Option, Some, None, option_map, sym, refl, ap, ◌∙◌, subst, add-one}
use Rattle.std.specs.Prelude.{is_some, codes}
use Rattle.std.specs.List.{list_all, list_any}
use Rattle.std.specs.Ordering.{nat_cmp}
use Rattle.std.specs.Cmp.Lexicographic.{slice_cmp}
use Rattle.std.specs.BTreeMap.{is_at}
use Rattle.std.specs.BTreeSet as sorted
use Rattle.std.specs.BTreeSet.{BTreeSet}
use Rattle.std.proofs.Math.Seq.{drop-cons}
use Rattle.std.proofs.lemmas.Bool.{and_parts}
use Rattle.std.proofs.lemmas.Slice.Eq.{bytes_eq-Decides}
use Rattle.std.proofs.lemmas.Map.Text.{is_eq-slice_cmp}
use Rattle.wb_values.specs.Value.{Name, same_name}
use Rattle.model_meaning.specs.Among.{is_name_in, has_twice}
use Rattle.wb_values.specs.Choice.{first_of}
use Rattle.model_meaning.specs.Model.{Model}
use Rattle.verilog_trees.specs.Syntax.{Source}
use Rattle.model_places.specs.Sites.{Spot, key_spot, part_spot}
use Rattle.map_files.specs.Written.{InstructionEntry, WrittenMap}
use Rattle.map_file.specs.Places.{unless}
use Rattle.map_rules.specs.Names.{are_among, is_from_1_to, has_bad_bound}
use Rattle.map_rules.specs.Accepted.{case_of}
use Rattle.map_names.specs.Texts.{texts, has_name}
use Rattle.map_names.specs.Places.{first_outside, first_under, entry_spot, first_unknown, first_bad_bound, bad_bound_spot}

pub texts_drop : (names : List (Bor (List ℕ))) (i : ℕ) (d : Bor (List ℕ)) → i < length names
    → texts (drop i names) ≡ (get_or names i d).now ∷ texts (drop (i + 1) names)
texts_drop names i d h = rw (add-one, drop-cons names i d h) refl

same_both : (m n : Name) → same_name m n ≡ true → same_name n m ≡ true
same_both m n h = subst (λ x. same_name x m ≡ true) ((bytes_eq-Decides m n).0 h) ((bytes_eq-Decides m m).1 refl)

turned : (m n : Name) → same_name m n ≡ same_name n m
turned m n = by_value (same_name m n) (same_name n m) (same_both m n) (same_both n m) where
  by_value : (a b : Bool) → (a ≡ true → b ≡ true) → (b ≡ true → a ≡ true) → a ≡ b
  by_value true b f g = sym (f refl)
  by_value false true f g = g refl
  by_value false false f g = refl

-- ---- sets

or_cond : (e h : Bool) → cond e true h ≡ (e || h)
or_cond true h = refl
or_cond false h = refl

pub has_more : (s n : BTreeSet (Bor (List ℕ))) (k : Bor (List ℕ)) → sorted.Updates (λ x y. slice_cmp nat_cmp x.now y.now) s n k true → (q : Name)
    → has_name n q ≡ (same_name q k.now || has_name s q)
has_more s n k u q =
    let at_q : Bor (List ℕ) = record { ref_ptr = (0, 0); now = q } in
    u.0 at_q ∙ (ap (λ t. cond t true (has_name s q)) (is_eq-slice_cmp k.now q ∙ turned k.now q) ∙ or_cond (same_name q k.now) (has_name s q))

pub has_none : (s : BTreeSet (Bor (List ℕ))) (q : Name) → s.keys ≡ [] → has_name s q ≡ false
has_none s q e = ap (λ ks. list_any (is_at (λ k. slice_cmp nat_cmp q k.now)) ks) e

or_moved : (e h r : Bool) → ((e || h) || r) ≡ (h || (e || r))
or_moved true true r = refl
or_moved true false r = refl
or_moved false h r = refl

-- a turn that puts a name into the set
pub set_turn : (names : List (Bor (List ℕ))) (i : ℕ) (d : Bor (List ℕ)) (s n : BTreeSet (Bor (List ℕ))) (t : Bool) (q : Name) → i < length names
    → sorted.Updates (λ x y. slice_cmp nat_cmp x.now y.now) s n (get_or names i d) true
    → (has_name s q || is_name_in q (texts (drop i names))) ≡ t → (has_name n q || is_name_in q (texts (drop (i + 1) names))) ≡ t
set_turn names i d s n t q h u e =
    ap (λ b. b || is_name_in q (texts (drop (i + 1) names))) (has_more s n (get_or names i d) u q)
    ∙ (or_moved (same_name q (get_or names i d).now) (has_name s q) (is_name_in q (texts (drop (i + 1) names)))
    ∙ (ap (λ ns. has_name s q || is_name_in q ns) (sym (texts_drop names i d h)) ∙ e))

-- ---- the first name outside

-- the turn at a name that is among those
pub outside_turn : (those : List Name) (names : List (Bor (List ℕ))) (i : ℕ) (d : Bor (List ℕ)) (t : Option Name) → i < length names
    → is_name_in (get_or names i d).now those ≡ true → t ≡ first_outside those (texts (drop i names)) → t ≡ first_outside those (texts (drop (i + 1) names))
outside_turn those names i d t h e k =
    k ∙ (ap (first_outside those) (texts_drop names i d h)
    ∙ ap (λ b. cond b (first_outside those (texts (drop (i + 1) names))) (Some (get_or names i d).now)) e)

-- and at the first that is not
pub outside_stop : (those : List Name) (names : List (Bor (List ℕ))) (i : ℕ) (d : Bor (List ℕ)) (t : Option Name) → i < length names
    → is_name_in (get_or names i d).now those ≡ false → t ≡ first_outside those (texts (drop i names)) → Some (get_or names i d).now ≡ t
outside_stop those names i d t h e k =
    sym (k ∙ (ap (first_outside those) (texts_drop names i d h)
    ∙ ap (λ b. cond b (first_outside those (texts (drop (i + 1) names))) (Some (get_or names i d).now)) e))

-- ---- the first unknown entry

-- what is left to search, where a set holds the names before
abbrev pub IsSearch : (known : List Name) → Option Spot → BTreeSet (Bor (List ℕ)) → ℕ → List (Bor (List ℕ)) → Type 0
IsSearch known t s i names =
    (before : List Name) × (((q : Name) → has_name s q ≡ is_name_in q before) × (t ≡ first_unknown known before i (texts names)))

pub search_start : (known : List Name) (names : List (Bor (List ℕ))) (s : BTreeSet (Bor (List ℕ))) → s.keys ≡ []
    → IsSearch known (first_unknown known [] 0 (texts names)) s 0 names
search_start known names s e = ([], ((λ q. has_none s q e), refl))

searched : (known before : List Name) (names : List (Bor (List ℕ))) (i : ℕ) (d : Bor (List ℕ)) (t : Option Spot) (b : Bool) → i < length names
    → (is_name_in (get_or names i d).now known && not (is_name_in (get_or names i d).now before)) ≡ b → t ≡ first_unknown known before i (texts (drop i names))
    → t ≡ cond b (first_unknown known ((get_or names i d).now ∷ before) (i + 1) (texts (drop (i + 1) names))) (Some (entry_spot i (get_or names i d).now))
searched known before names i d t b h e k =
    k ∙ (ap (first_unknown known before i) (texts_drop names i d h)
    ∙ ap (λ x. cond x (first_unknown known ((get_or names i d).now ∷ before) (i + 1) (texts (drop (i + 1) names))) (Some (entry_spot i (get_or names i d).now))) e)

-- the turn at a name that is known and new
pub search_turn : (known : List Name) (names : List (Bor (List ℕ))) (i : ℕ) (d : Bor (List ℕ)) (t : Option Spot) (s n : BTreeSet (Bor (List ℕ))) → i < length names
    → sorted.Updates (λ x y. slice_cmp nat_cmp x.now y.now) s n (get_or names i d) true → is_name_in (get_or names i d).now known ≡ true
    → has_name s (get_or names i d).now ≡ false → IsSearch known t s i (drop i names) → IsSearch known t n (i + 1) (drop (i + 1) names)
search_turn known names i d t s n h u k new (before, (here, e)) =
    let m : Name = (get_or names i d).now in
    let both : (is_name_in m known && not (is_name_in m before)) ≡ true = rw (k, sym (here m) ∙ new) refl in
    (m ∷ before, ((λ q. has_more s n (get_or names i d) u q ∙ ap (λ b. same_name q m || b) (here q)), searched known before names i d t true h both e))

-- and at the first that is not
pub search_stop : (known : List Name) (names : List (Bor (List ℕ))) (i : ℕ) (d : Bor (List ℕ)) (t : Option Spot) (s : BTreeSet (Bor (List ℕ))) (b : Bool) → i < length names
    → (is_name_in (get_or names i d).now known && b) ≡ false → b ≡ not (has_name s (get_or names i d).now) → IsSearch known t s i (drop i names)
    → Some (entry_spot i (get_or names i d).now) ≡ t
search_stop known names i d t s b h k was (before, (here, e)) =
    let m : Name = (get_or names i d).now in
    let both : (is_name_in m known && not (is_name_in m before)) ≡ false = ap (λ x. is_name_in m known && not x) (sym (here m)) ∙ (ap (λ x. is_name_in m known && x) (sym was) ∙ k) in
    sym (searched known before names i d t false h both e)

absent : (a b : Bool) → a ≡ not b → a ≡ true → b ≡ false
absent a true h k = sym k ∙ h
absent a false h k = refl

-- the same by what the code asks: whether the name is known, whether it is new, and both
pub entry_passed : (known : List Name) (names : List (Bor (List ℕ))) (i : ℕ) (d : Bor (List ℕ)) (t : Option Spot) (s n : BTreeSet (Bor (List ℕ)))
    → (is_known is_new both : Bool) → i < length names → sorted.Updates (λ x y. slice_cmp nat_cmp x.now y.now) s n (get_or names i d) true
    → is_known ≡ is_name_in (get_or names i d).now known → is_new ≡ not (has_name s (get_or names i d).now) → both ≡ (is_known && is_new) → both ≡ true
    → IsSearch known t s i (drop i names) → IsSearch known t n (i + 1) (drop (i + 1) names)
entry_passed known names i d t s n is_known is_new both h u e f g b k =
    let p = and_parts is_known is_new (sym g ∙ b) in
    search_turn known names i d t s n h u (sym e ∙ p.0) (absent is_new (has_name s (get_or names i d).now) f p.1) k

pub entry_stopped : (known : List Name) (names : List (Bor (List ℕ))) (i : ℕ) (d : Bor (List ℕ)) (t : Option Spot) (s : BTreeSet (Bor (List ℕ)))
    → (is_known is_new both : Bool) → i < length names → is_known ≡ is_name_in (get_or names i d).now known
    → is_new ≡ not (has_name s (get_or names i d).now) → both ≡ (is_known && is_new) → both ≡ false → IsSearch known t s i (drop i names)
    → Some (entry_spot i (get_or names i d).now) ≡ t
entry_stopped known names i d t s is_known is_new both h e f g b k =
    search_stop known names i d t s is_new h (ap (λ x. x && is_new) (sym e) ∙ (sym g ∙ b)) f k

-- ---- what is found against the rules

told_one : (b r : Bool) (o : Option Name) (n : Name) → is_some o ≡ not r → is_some (cond b o (Some n)) ≡ not (b && r)
told_one true r o n h = h
told_one false r o n h = refl

pub outside_told : (those these : List Name) → is_some (first_outside those these) ≡ not (are_among these those)
outside_told those [] = refl
outside_told those (n ∷ ns) = told_one (is_name_in n those) (are_among ns those) (first_outside those ns) n (outside_told those ns)

pub told_mapped : {A B : Type 0} (f : A → B) (o : Option A) → is_some (option_map f o) ≡ is_some o
told_mapped f None = refl
told_mapped f (Some x) = refl

-- some of the names is among those before
abbrev some_before : (before ns : List Name) → Bool
some_before before ns = list_any (λ n. is_name_in n before) ns

none_before : (ns : List Name) → some_before [] ns ≡ false
none_before [] = refl
none_before (n ∷ ns) = none_before ns

or_crossed : (s p i l : Bool) → ((s || p) || (i || l)) ≡ ((s || i) || (p || l))
or_crossed true p i l = refl
or_crossed false true true l = refl
or_crossed false true false l = refl
or_crossed false false i l = refl

one_more_before : (n : Name) (before ns : List Name) → some_before (n ∷ before) ns ≡ (is_name_in n ns || some_before before ns)
one_more_before n before [] = refl
one_more_before n before (m ∷ ms) =
    ap (λ b. (same_name m n || is_name_in m before) || b) (one_more_before n before ms)
    ∙ (or_crossed (same_name m n) (is_name_in m before) (is_name_in n ms) (some_before before ms)
    ∙ ap (λ b. (b || is_name_in n ms) || (is_name_in m before || some_before before ms)) (turned m n))

told_entry : (k b a i t l : Bool) (o : Option Spot) (s : Spot) → is_some o ≡ (not a || (t || (i || l)))
    → is_some (cond (k && not b) o (Some s)) ≡ (not (k && a) || ((i || t) || (b || l)))
told_entry false b a i t l o s h = refl
told_entry true true false i t l o s h = refl
told_entry true true true true t l o s h = refl
told_entry true true true false true l o s h = refl
told_entry true true true false false l o s h = refl
told_entry true false false i t l o s h = h
told_entry true false true true true l o s h = h
told_entry true false true true false l o s h = h
told_entry true false true false t l o s h = h

unknown_told_from : (known before : List Name) (i : ℕ) (ns : List Name)
    → is_some (first_unknown known before i ns) ≡ (not (are_among ns known) || (has_twice ns || some_before before ns))
unknown_told_from known before i [] = refl
unknown_told_from known before i (n ∷ ns) =
    told_entry (is_name_in n known) (is_name_in n before) (are_among ns known) (is_name_in n ns) (has_twice ns) (some_before before ns)
    (first_unknown known (n ∷ before) (i + 1) ns) (entry_spot i n)
    (unknown_told_from known (n ∷ before) (i + 1) ns ∙ ap (λ b. not (are_among ns known) || (has_twice ns || b)) (one_more_before n before ns))

or_false : (b : Bool) → (b || false) ≡ b
or_false true = refl
or_false false = refl

pub unknown_told : (known ns : List Name) → is_some (first_unknown known [] 0 ns) ≡ (not (are_among ns known) || has_twice ns)
unknown_told known ns =
    unknown_told_from known [] 0 ns
    ∙ ap (λ b. not (are_among ns known) || b) (ap (λ b. has_twice ns || b) (none_before ns) ∙ or_false (has_twice ns))

-- ---- bounds

told_bound : (b r : Bool) (o : Option Spot) (s : Spot) → is_some o ≡ not r → is_some (cond b o (Some s)) ≡ not (b && r)
told_bound true r o s h = h
told_bound false r o s h = refl

bounds_told : (i : ℕ) (es : List InstructionEntry) → is_some (first_bad_bound i es) ≡ not (list_all (λ e. is_from_1_to 256 e.bound) es)
bounds_told i [] = refl
bounds_told i (e ∷ es) =
    told_bound (is_from_1_to 256 e.bound) (list_all (λ x. is_from_1_to 256 x.bound) es) (first_bad_bound (i + 1) es) (part_spot (entry_spot i e.called) (codes "bound"))
    (bounds_told (i + 1) es)

told_first : (b r : Bool) (o : Option Spot) (s : Spot) → is_some o ≡ not r → is_some (first_of (unless b s) o) ≡ not (b && r)
told_first true r o s h = h
told_first false r o s h = refl

pub bad_bound_told : (w : WrittenMap) (m : Model) (s : Source) → is_some (bad_bound_spot w) ≡ has_bad_bound (case_of w m s)
bad_bound_told w m s =
    told_first (is_from_1_to 16 w.reset.cycles) (list_all (λ x. is_from_1_to 256 x.bound) w.instructions) (first_bad_bound 0 w.instructions)
    (part_spot (key_spot (codes "reset")) (codes "cycles")) (bounds_told 0 w.instructions)

-- ---- names under a key

-- where the first name outside is found by these lists
pub place_told : {R : Type 0} (view : R → Spot) (r : Option R) (found : Option (Bor (List ℕ))) (key : Name) (ts us those these : List Name)
    → option_map view r ≡ first_under key (option_map (λ n. n.now) found) → option_map (λ n. n.now) found ≡ first_outside ts us → ts ≡ those → us ≡ these
    → option_map view r ≡ first_under key (first_outside those these)
place_told view r found key ts us those these p q e f = p ∙ ap (first_under key) (q ∙ (λ i. first_outside (e i) (f i)))

-- there is one exactly where not all are among the others
pub rule_told : {R : Type 0} (view : R → Spot) (r : Option R) (found : Option (Bor (List ℕ))) (key : Name) (ts us those these : List Name)
    → option_map view r ≡ first_under key (option_map (λ n. n.now) found) → option_map (λ n. n.now) found ≡ first_outside ts us → ts ≡ those → us ≡ these
    → is_some r ≡ not (are_among these those)
rule_told view r found key ts us those these p q e f =
    sym (told_mapped view r)
    ∙ (ap is_some (place_told view r found key ts us those these p q e f)
    ∙ (told_mapped (part_spot (key_spot key)) (first_outside those these) ∙ outside_told those these))

-- the same of the first unknown entry
pub entry_told : {R : Type 0} (view : R → Spot) (r : Option R) (ts us known called : List Name) → option_map view r ≡ first_unknown ts [] 0 us
    → ts ≡ known → us ≡ called → is_some r ≡ (not (are_among called known) || has_twice called)
entry_told view r ts us known called p e f =
    sym (told_mapped view r) ∙ (ap is_some (p ∙ (λ i. first_unknown (e i) [] 0 (f i))) ∙ unknown_told known called)
