-- The parameters that are declared before: one more, and those of a list one after the other.
use Rattle.std.proofs.Common.{◌≡◌, ◌∙◌, refl, sym, ap, subst, Bool, true, false, cond, ◌||◌, ℕ, suc, ◌+◌, ◌<◌, List, [], ◌∷◌, ◌++◌, length, drop, get_or, map, Option, Some, None, add-one, drop-cons}
use Rattle.wb_values.specs.Value.{Name, same_name, Entries, entry_of}
use Rattle.wb_values.specs.Choice.{first_of}
use Rattle.verilog_meaning.specs.Expression.{Object, Scope, scope_of, object_or_undeclared}
use Rattle.verilog_meaning.specs.Hierarchy.{value_names}
use Rattle.verilog_designs.specs.Names.{is_among, parameter_names}
use Rattle.verilog_unique.proofs.Options.{same_is}
use Rattle.v_syntax.specs.declared.module.ParameterValue.{ParameterValue}
use Rattle.v_syntax.specs.declared.module.ParameterDeclaration.{ParameterDeclaration}
use Rattle.v_syntax.specs.Tree.{tree_of}
use Rattle.v_syntax.specs.Source.{parameter_of}
use Rattle.v_value.specs.declared.scope.Declaration.{Declaration}
use Rattle.v_value.specs.Scope.{object_of, objects_of}
use Rattle.v_value.specs.Narrow.{IsNarrowObject, HasNarrowObjects}
use Rattle.v_named.specs.Before.{IsBefore}

append_entry : (es fs : Entries Object) (n : Name) → entry_of (es ++ fs) n ≡ first_of (entry_of es n) (entry_of fs n)
append_entry [] fs n = refl
append_entry (e ∷ es) fs n = chosen (same_name e.0 n) (append_entry es fs n)
  where
    chosen : (b : Bool) → entry_of (es ++ fs) n ≡ first_of (entry_of es n) (entry_of fs n)
        → cond b (Some e.1) (entry_of (es ++ fs) n) ≡ first_of (cond b (Some e.1) (entry_of es n)) (entry_of fs n)
    chosen true h = refl
    chosen false h = h

pub objects_append : (ds : List Declaration) (d : Declaration) → objects_of (ds ++ d ∷ []) ≡ objects_of ds ++ (d.name.now, object_of d.object) ∷ []
objects_append [] d = refl
objects_append (e ∷ ds) d = ap (λ es. (e.name.now, object_of e.object) ∷ es) (objects_append ds d)

-- ---- one more

pub begun : (s : Scope) → IsBefore [] s (λ n. false)
begun s n = refl

pub one_more : (es : Entries Object) (s : Scope) (b : Name → Bool) (m : Name) (o : Object) → o ≡ s m → IsBefore es s b → IsBefore (es ++ (m, o) ∷ []) s (λ n. same_name m n || b n)
one_more es s b m o e h n =
    append_entry es ((m, o) ∷ []) n ∙ (ap (λ x. first_of x (cond (same_name m n) (Some o) None)) (h n) ∙ by_name (same_name m n) refl (b n))
  where
    by_name : (c : Bool) → same_name m n ≡ c → (d : Bool) → first_of (cond d (Some (s n)) None) (cond c (Some o) None) ≡ cond (c || d) (Some (s n)) None
    by_name true t true = refl
    by_name true t false = ap Some (e ∙ ap s (same_is m n t))
    by_name false t true = refl
    by_name false t false = refl

at_name : (b : Bool) (o : Option Object) (n : Object) → IsNarrowObject (object_or_undeclared o) → IsNarrowObject n
    → IsNarrowObject (object_or_undeclared (first_of o (cond b (Some n) None)))
at_name b (Some o) n h k = h
at_name true None n h k = k
at_name false None n h k = h

pub more_narrow : (es : Entries Object) (m : Name) (o : Object) → HasNarrowObjects (scope_of es) → IsNarrowObject o → HasNarrowObjects (scope_of (es ++ (m, o) ∷ []))
more_narrow es m o h k n =
    subst (λ e. IsNarrowObject (object_or_undeclared e)) (sym (append_entry es ((m, o) ∷ []) n)) (at_name (same_name m n) (entry_of es n) o (h n) k)

-- ---- those of a list

pub among_append : (ms ns : List Name) (n : Name) → is_among (ms ++ ns) n ≡ (is_among ms n || is_among ns n)
among_append [] ns n = refl
among_append (m ∷ ms) ns n = ap (λ b. same_name m n || b) (among_append ms ns n) ∙ sym (assoc (same_name m n) (is_among ms n) (is_among ns n))
  where
    assoc : (a b c : Bool) → ((a || b) || c) ≡ (a || (b || c))
    assoc true b c = refl
    assoc false b c = refl

-- These names have been added, and those of the rest are all and the ones before.
abbrev pub IsPast : Entries Object → Scope → (rest all : List Name) → (Name → Bool) → Type 0
IsPast es s rest all b = (c : Name → Bool) × IsBefore es s c × ((n : Name) → (is_among rest n || c n) ≡ (is_among all n || b n))

pub past_begun : (es : Entries Object) (s : Scope) (all : List Name) (b : Name → Bool) → IsBefore es s b → IsPast es s all all b
past_begun es s all b h = (b, h, λ n. refl)

swapped : (a b c : Bool) → (b || (a || c)) ≡ ((a || b) || c)
swapped true true c = refl
swapped true false c = refl
swapped false true c = refl
swapped false false c = refl

pub past_more : (es new : Entries Object) (s : Scope) (m : Name) (rest whole all : List Name) (b : Name → Bool) → whole ≡ m ∷ rest
    → ((c : Name → Bool) → IsBefore es s c → IsBefore new s (λ n. same_name m n || c n)) → IsPast es s whole all b → IsPast new s rest all b
past_more es new s m rest whole all b e f h = (
  λ n. same_name m n || h.0 n,
  f h.0 h.1,
  λ n. swapped (same_name m n) (is_among rest n) (h.0 n) ∙ (ap (λ ns. is_among ns n || h.0 n) (sym e) ∙ h.2 n),
)

pub past_part : (es new : Entries Object) (s : Scope) (part rest whole all : List Name) (b : Name → Bool) → whole ≡ part ++ rest
    → ((c : Name → Bool) → IsBefore es s c → IsBefore new s (λ n. is_among part n || c n)) → IsPast es s whole all b → IsPast new s rest all b
past_part es new s part rest whole all b e f h = (
  λ n. is_among part n || h.0 n,
  f h.0 h.1,
  λ n.
      swapped (is_among part n) (is_among rest n) (h.0 n)
      ∙ (ap (λ x. x || h.0 n) (sym (among_append part rest n)) ∙ (ap (λ ns. is_among ns n || h.0 n) (sym e) ∙ h.2 n)),
)

pub past_ended : (es : Entries Object) (s : Scope) (rest all : List Name) (b : Name → Bool) → rest ≡ [] → IsPast es s rest all b → IsBefore es s (λ n. is_among all n || b n)
past_ended es s rest all b e h n = h.1 n ∙ ap (λ x. cond x (Some (s n)) None) (ap (λ ns. is_among ns n || h.0 n) (sym e) ∙ h.2 n)

-- ---- the code's lists

abbrev pub names_of : List ParameterValue → List Name
names_of vs = value_names (map (λ (v : ParameterValue). (v.name.now, tree_of v.value)) vs)

pub names_drop : (vs : List ParameterValue) (i : ℕ) (d : ParameterValue) → i < length vs → d ≡ get_or vs i d → names_of (drop i vs) ≡ d.name.now ∷ names_of (drop (i + 1) vs)
names_drop vs i d h e = ap names_of parted
  where
    parted : drop i vs ≡ d ∷ drop (i + 1) vs
    parted = rw (add-one, drop-cons vs i d h) (ap (λ c. c ∷ drop (suc i) vs) (sym e))

abbrev pub all_names : List ParameterDeclaration → List Name
all_names ds = parameter_names (map parameter_of ds)

pub all_drop : (ds : List ParameterDeclaration) (i : ℕ) (d : ParameterDeclaration) → i < length ds → d ≡ get_or ds i d → all_names (drop i ds) ≡ names_of d.values.items ++ all_names (drop (i + 1) ds)
all_drop ds i d h e = ap all_names parted
  where
    parted : drop i ds ≡ d ∷ drop (i + 1) ds
    parted = rw (add-one, drop-cons ds i d h) (ap (λ c. c ∷ drop (suc i) ds) (sym e))
