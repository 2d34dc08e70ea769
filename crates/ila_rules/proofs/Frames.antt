-- Frames with one name or one state more.
use Rattle.std.proofs.Common.{◌≡◌, ℕ, Bool, true, false, cond, List, [], ◌∷◌, ◌++◌, Bor, Option, Some, None, option_map, sym, refl, ap, ◌∙◌, subst}
use Rattle.std.specs.Prelude.{is_some}
use Rattle.std.specs.Ordering.{nat_cmp}
use Rattle.std.specs.Cmp.Lexicographic.{slice_cmp}
use Rattle.std.specs.BTreeMap as tree
use Rattle.std.specs.BTreeMap.{BTreeMap}
use Rattle.std.proofs.lemmas.Slice.Eq.{bytes_eq-Decides}
use Rattle.std.specs.BTreeSet as sorted
use Rattle.std.specs.BTreeSet.{BTreeSet}
use Rattle.std.proofs.lemmas.Map.Text.{btree_map_updates_str, is_eq-slice_cmp}
use Rattle.ila_rules.specs.NameFlaws.{with_member}
use Rattle.wb_values.specs.Value.{Name, same_name}
use Rattle.wb_values.specs.Choice.{some_if}
use Rattle.wb_values.specs.Choice.{first_of}
use Rattle.model_meaning.specs.Model.{StateDeclaration}
use Rattle.ila_rules.specs.Seen.{Brief, LookUp, States, with_name, brief_declared}
use Rattle.ila_rules.specs.Flaws.{look_states, with_state, states_within}
use Rattle.ila_rules.specs.declared.scope.Frame.{Frame}
use Rattle.ila_rules.specs.View.{known, under_name, look_frame, look_frames, look_of, no_names, seen_onto, states_frame, states_frames, states_of}

map_cond : {A B : Type 0} (f : A → B) (b : Bool) (v : A) (o : Option A) → option_map f (cond b (Some v) o) ≡ cond b (Some (f v)) (option_map f o)
map_cond f true v o = refl
map_cond f false v o = refl

pub put_under : {X B : Type 0} (f : X → B) (old new : BTreeMap (Bor (List ℕ)) X) (k : Bor (List ℕ)) (v : X)
    → tree.Updates (λ x y. slice_cmp nat_cmp x.now y.now) old new k (Some v) → (q : Name)
    → option_map f (under_name new q) ≡ cond (same_name k.now q) (Some (f v)) (option_map f (under_name old q))
put_under f old new k v u q = ap (option_map f) (btree_map_updates_str k.now old new (Some v) u q) ∙ map_cond f (same_name k.now q) v (under_name old q)

first_none : {A : Type 0} (x : Option A) → first_of x None ≡ x
first_none None = refl
first_none (Some x) = refl

no_value : {A : Type 0} (x : Option A) → is_some x ≡ false → x ≡ None
no_value None e = refl
no_value (Some x) e = cc

not_more : {A : Type 0} (x : Option A) (y : A) (b : Bool) → is_some x ≡ true → first_of x (some_if b y) ≡ x
not_more None y b e = cc
not_more (Some x) y b e = refl

pub put_first : {X B : Type 0} (f : X → B) (old new : BTreeMap (Bor (List ℕ)) X) (k : Bor (List ℕ)) (v : X)
    → tree.Updates (λ x y. slice_cmp nat_cmp x.now y.now) old new k (Some v) → is_some (under_name old k.now) ≡ false → (q : Name)
    → option_map f (under_name new q) ≡ first_of (option_map f (under_name old q)) (some_if (same_name k.now q) (f v))
put_first f old new k v u absent q =
    put_under f old new k v u q
    ∙ (elim (same_name k.now q) as (λ b. same_name k.now q ≡ b → cond b (Some (f v)) (option_map f (under_name old q)) ≡ first_of (option_map f (under_name old q)) (some_if b (f v))) [
      | true ↦ λ e. subst (λ n. Some (f v) ≡ first_of (option_map f (under_name old n)) (Some (f v))) ((bytes_eq-Decides k.now q).0 e)
          (ap (λ o. first_of (option_map f o) (Some (f v))) (sym (no_value (under_name old k.now) absent)))
      | false ↦ λ e. sym (first_none (option_map f (under_name old q)))
    ]) refl

mapped_some : {X B : Type 0} (f : X → B) (o : Option X) → is_some (option_map f o) ≡ is_some o
mapped_some f None = refl
mapped_some f (Some x) = refl

pub kept_first : {X B : Type 0} (f : X → B) (old : BTreeMap (Bor (List ℕ)) X) (k : Name) (y : B) → is_some (under_name old k) ≡ true → (q : Name)
    → option_map f (under_name old q) ≡ first_of (option_map f (under_name old q)) (some_if (same_name k q) y)
kept_first f old k y present q =
    (elim (same_name k q) as (λ b. same_name k q ≡ b → option_map f (under_name old q) ≡ first_of (option_map f (under_name old q)) (some_if b y)) [
      | true ↦ λ e. sym (not_more (option_map f (under_name old q)) y true (mapped_some f (under_name old q) ∙ ap (λ n. is_some (under_name old n)) (sym ((bytes_eq-Decides k q).0 e)) ∙ present))
      | false ↦ λ e. sym (first_none (option_map f (under_name old q)))
    ]) refl

pub was_absent : (a b : Bool) → a ≡ b → a ≡ false → b ≡ false
was_absent a b h k = sym h ∙ k

-- ---- frames, and one behind them

over_cond : {A : Type 0} (b : Bool) (v : A) (o x : Option A) → first_of (cond b (Some v) o) x ≡ cond b (Some v) (first_of o x)
over_cond true v o x = refl
over_cond false v o x = refl

-- a name more in the last frame is a name more in all
pub more_in : (fs : List Frame) (f g : Frame) (k : Name) (b d : Brief) → look_frame g ≡ with_name k b (look_frame f) → b ≡ d
    → look_of fs g ≡ with_name k d (look_of fs f)
more_in fs f g k b d e same = λ i n. at n i where
  at : (n : Name) → look_of fs g n ≡ with_name k d (look_of fs f) n
  at n =
      ap (λ (l : LookUp). first_of (l n) (look_frames fs n)) e
      ∙ (over_cond (same_name k n) b (look_frame f n) (look_frames fs n)
      ∙ ap (λ x. cond (same_name k n) (Some x) (first_of (look_frame f n) (look_frames fs n))) same)

-- an empty frame behind the others adds nothing
pub none_in : (fs : List Frame) (f : Frame) → look_frame f ≡ no_names → look_of fs f ≡ look_frames fs
none_in fs f e = λ i n. ap (λ (l : LookUp). first_of (l n) (look_frames fs n)) e i

over : LookUp → LookUp → LookUp
over g h n = first_of (g n) (h n)

states_over : (g h : LookUp) (ss : List StateDeclaration) → over (look_states g ss) h ≡ look_states (over g h) ss
unfolding over
states_over g h [] = refl
states_over g h (s ∷ ss) =
    states_over (with_name s.state_name (brief_declared s.state_name s.sort) g) h ss
    ∙ ap (λ (l : LookUp). look_states l ss) (λ i n. over_cond (same_name s.state_name n) (brief_declared s.state_name s.sort) (g n) (h n) i)

pub states_in_last : (fs : List Frame) (e f : Frame) (ss : List StateDeclaration) → look_frame e ≡ no_names → look_frame f ≡ look_states (look_frame e) ss
    → look_of fs f ≡ look_states (look_frames fs) ss
unfolding over
states_in_last fs e f ss none is =
    ap (λ (l : LookUp). over l (look_frames fs)) is
    ∙ (states_over (look_frame e) (look_frames fs) ss
    ∙ ap (λ (l : LookUp). look_states (over l (look_frames fs)) ss) none)

seen_behind : (o : Option Brief) (fs : List Frame) (f : Frame) (n : Name) → seen_onto o (fs ++ f ∷ []) n ≡ first_of (look_frame f n) (seen_onto o fs n)
seen_behind o [] f n = refl
seen_behind o (g ∷ fs) f n = seen_behind (first_of (look_frame g n) o) fs f n

-- the last frame is one of all
pub look_behind : (fs : List Frame) (f : Frame) → look_frames (fs ++ f ∷ []) ≡ look_of fs f
look_behind fs f = λ i n. seen_behind None fs f n i

first_assoc : {A : Type 0} (x y z : Option A) → first_of x (first_of y z) ≡ first_of (first_of x y) z
first_assoc None y z = refl
first_assoc (Some a) y z = refl

after_all : (fs : List Frame) (f : Frame) (n : Name) → states_frames (fs ++ f ∷ []) n ≡ first_of (states_frames fs n) (states_frame f n)
after_all [] f n = first_none (states_frame f n)
after_all (g ∷ fs) f n = ap (first_of (states_frame g n)) (after_all fs f n) ∙ first_assoc (states_frame g n) (states_frames fs n) (states_frame f n)

pub states_behind : (fs : List Frame) (f : Frame) → states_frames (fs ++ f ∷ []) ≡ states_of fs f
states_behind fs f = λ i n. after_all fs f n i

under : States → States → States
under h g n = first_of (h n) (g n)

within_over : (h g : States) (ss : List StateDeclaration) → under h (states_within g ss) ≡ states_within (under h g) ss
unfolding under
within_over h g [] = refl
within_over h g (s ∷ ss) =
    within_over h (with_state s.state_name s.sort g) ss
    ∙ ap (λ (l : States). states_within l ss) (λ i n. first_assoc (h n) (g n) (some_if (same_name s.state_name n) s.sort) i)

pub states_in_own : (fs : List Frame) (e f : Frame) (ss : List StateDeclaration) → states_frame e ≡ (λ n. None) → states_frame f ≡ states_within (states_frame e) ss
    → states_of fs f ≡ states_within (states_frames fs) ss
unfolding under
states_in_own fs e f ss none is =
    ap (λ (l : States). under (states_frames fs) l) is
    ∙ (within_over (states_frames fs) (states_frame e) ss
    ∙ (ap (λ (l : States). states_within (under (states_frames fs) l) ss) none
    ∙ ap (λ (l : States). states_within l ss) (λ i n. first_none (states_frames fs n) i)))

-- ---- sets of names

pub member_more : (s n : BTreeSet (Bor (List ℕ))) (k : Bor (List ℕ)) → sorted.Updates (λ x y. slice_cmp nat_cmp x.now y.now) s n k true → (q : Name)
    → known n q ≡ with_member k.now (known s) q
member_more s n k u q =
    let at_q : Bor (List ℕ) = record { ref_ptr = (0, 0); now = q } in
    u.0 at_q ∙ ap (λ t. cond t true (known s q)) (is_eq-slice_cmp k.now q)

-- ---- the frame of the inputs

pub look_only : (f : Frame) → look_frames (f ∷ []) ≡ look_frame f
look_only f = λ i n. first_none (look_frame f n) i

pub states_only : (f : Frame) → states_frames (f ∷ []) ≡ states_frame f
states_only f = λ i n. first_none (states_frame f n) i
