-- The names of the modules in a list: new names, and one scope of all.
use Rattle.std.proofs.Common.{◌≡◌, ℕ, zero, suc, Bool, true, false, cond, List, [], ◌∷◌, ◌++◌, map, ◌⊎◌, inl, inr, refl, sym, ap, ◌∙◌, subst, Option, Some, None, arith}
use Rattle.std.specs.Prelude.{◌≢◌, slice_get, unwrap_or, is_some, IsTrue}
use Rattle.std.proofs.lemmas.List.{append_assoc, append-nil}
use Rattle.std.proofs.lemmas.Bool.{false≢true, or_cases}
use Rattle.wb_values.specs.Value.{Name, same_name, Entries, entry_of}
use Rattle.wb_values.specs.Choice.{first_of}
use Rattle.verilog_trees.specs.Syntax.{Expression, ParameterDeclaration, Module}
use Rattle.verilog_meaning.specs.Expression.{Object, Scope, scope_of}
use Rattle.verilog_meaning.specs.Hierarchy.{Overrides, with_values, with_parameters, value_names, Declaration, declarations, PathStep, step_text, dotted}
use Rattle.verilog_meaning.specs.Settled.{is_declared_among}
use Rattle.verilog_designs.specs.Names.{parameter_names}
use Rattle.verilog_unique.proofs.Options.{split, same_is, is_same, not_true, left_true, right_true}
use Rattle.verilog_unique.proofs.Descent.{IsAmong, among_left, among_right, among_either}
use Rattle.verilog_renamed.proofs.Paths.{ap2}
use Rattle.flat_designs.specs.Flat.{Naming}
use Rattle.v_scopes.specs.Rows.{rows, scope_by, objects_by}
use Rattle.v_places.specs.Below.{Spot}
use Rattle.v_places.proofs.Spots.{same_some}
use Rattle.v_flat.specs.Paths.{front_of}
use Rattle.v_flat.specs.Entries.{module_entries, dotted_entries, SpotNames, spot_names, names_at_paths, named_after, named_in, naming_of, flat_entry, flat_entries}
use Rattle.v_flat.specs.Items.{naming_at}

-- ---- dotted names by what stands before them

dotted_behind : (path : List PathStep) (m n : Name) → dotted path (m ++ n) ≡ dotted path m ++ n
dotted_behind [] m n = refl
dotted_behind (u ∷ around) m n = ap (dotted around) (sym (append_assoc (step_text u) (46 ∷ m) n)) ∙ dotted_behind around (step_text u ++ 46 ∷ m) n

pub front_dotted : (path : List PathStep) (n : Name) → front_of path ++ n ≡ dotted path n
front_dotted path n = sym (dotted_behind path [] n)

-- ---- names of entries

abbrev pub keys : {A : Type 0} → Entries A → List Name
keys [] = []
keys (e ∷ es) = e.0 ∷ keys es

pub keys_append : {A : Type 0} (xs ys : Entries A) → keys (xs ++ ys) ≡ keys xs ++ keys ys
keys_append [] ys = refl
keys_append (x ∷ xs) ys = ap (λ ns. x.0 ∷ ns) (keys_append xs ys)

-- an entry under a name
pub some_keyed : {A : Type 0} (es : Entries A) (n : Name) → IsTrue (is_some (entry_of es n)) → IsAmong (keys es) n
some_keyed [] n h = absurd (false≢true h)
some_keyed (e ∷ es) n h = chosen (same_name e.0 n) (same_is e.0 n) (some_keyed es n) h
  where
    chosen : (b : Bool) → (b ≡ true → e.0 ≡ n) → (IsTrue (is_some (entry_of es n)) → IsAmong (keys es) n) → IsTrue (is_some (cond b (Some e.1) (entry_of es n)))
        → IsAmong (e.0 ∷ keys es) n
    chosen true f g k = inl (f refl)
    chosen false f g k = inr (g k)

pub record HasEntry {A : Type 0} (es : Entries A) (n : Name) : Type 0 where
  pub value : A
  pub is_value : entry_of es n ≡ Some value

pub keyed_some : {A : Type 0} (es : Entries A) (n : Name) → IsAmong (keys es) n → HasEntry es n
keyed_some [] n h = absurd h
keyed_some (e ∷ es) n h = chosen (same_name e.0 n) refl (keyed_some es n) h
  where
    chosen : (b : Bool) → same_name e.0 n ≡ b → (IsAmong (keys es) n → HasEntry es n) → IsAmong (e.0 ∷ keys es) n → HasEntry (e ∷ es) n
    chosen true is f k = record { value = e.1; is_value = ap (λ b. cond b (Some e.1) (entry_of es n)) is }
    chosen false is f (inl k) = absurd (false≢true (sym is ∙ subst (λ m. same_name e.0 m ≡ true) k (is_same e.0)))
    chosen false is f (inr k) = let r = f k in record { value = r.value; is_value = ap (λ b. cond b (Some e.1) (entry_of es n)) is ∙ r.is_value }

-- ---- the names of a module

declared_keyed : (s t : Scope) (ds : List Declaration) (n : Name) → IsTrue (is_declared_among ds n) → IsAmong (keys (objects_by s (rows t ds))) n
declared_keyed s t [] n h = absurd (false≢true h)
declared_keyed s t (d ∷ ds) n h =
    elim (or_cases (same_name d.of_name n) (is_declared_among ds n) h) as (λ _. IsAmong (d.of_name ∷ keys (objects_by s (rows t ds))) n)
    [ inl e ↦ inl (same_is d.of_name n e) | inr e ↦ inr (declared_keyed s t ds n e) ]

keyed_declared : (s t : Scope) (ds : List Declaration) (n : Name) → IsAmong (keys (objects_by s (rows t ds))) n → IsTrue (is_declared_among ds n)
keyed_declared s t [] n h = absurd h
keyed_declared s t (d ∷ ds) n (inl e) = left_true (same_name d.of_name n) (is_declared_among ds n) (subst (λ m. same_name d.of_name m ≡ true) e (is_same d.of_name))
keyed_declared s t (d ∷ ds) n (inr h) = right_true (same_name d.of_name n) (is_declared_among ds n) (keyed_declared s t ds n h)

module _ (m : Module) (known : Entries Object) where
  abbrev more : Entries Object
  more = objects_by (scope_by (rows (scope_of known) (declarations m))) (rows (scope_of known) (declarations m))

  pub declared_entry : (n : Name) → IsTrue (is_declared_among (declarations m) n) → IsAmong (keys (module_entries m known)) n
  declared_entry n h =
      subst (λ ns. IsAmong ns n) (sym (keys_append known more))
      (among_right (keys known) (keys more) n (declared_keyed (scope_by (rows (scope_of known) (declarations m))) (scope_of known) (declarations m) n h))

  pub constant_entry : (n : Name) → IsTrue (is_some (entry_of known n)) → IsAmong (keys (module_entries m known)) n
  constant_entry n h = subst (λ ns. IsAmong ns n) (sym (keys_append known more)) (among_left (keys known) (keys more) n (some_keyed known n h))

  pub entry_cases : (n : Name) → IsAmong (keys (module_entries m known)) n → IsTrue (is_declared_among (declarations m) n) ⊎ IsAmong (keys known) n
  entry_cases n h =
      elim (among_either (keys known) (keys more) n (subst (λ ns. IsAmong ns n) (keys_append known more) h))
      as (λ _. IsTrue (is_declared_among (declarations m) n) ⊎ IsAmong (keys known) n) [
        | inl k ↦ inr k
        | inr k ↦ inl (keyed_declared (scope_by (rows (scope_of known) (declarations m))) (scope_of known) (declarations m) n k)
      ]

-- the constants of a module have the names of its parameters
values_keyed : (d : ParameterDeclaration) (given : Overrides) (vs : List (Name × Expression)) (known : Entries Object)
    → keys (with_values d given vs known) ≡ keys known ++ value_names vs
values_keyed d given [] known = sym (append-nil (keys known))
values_keyed d given (v ∷ vs) known =
    values_keyed d given vs _ ∙ ap (λ ns. ns ++ value_names vs) (keys_append known _) ∙ append_assoc (keys known) (v.0 ∷ []) (value_names vs)

pub parameters_keyed : (ds : List ParameterDeclaration) (given : Overrides) (known : Entries Object)
    → keys (with_parameters ds given known) ≡ keys known ++ parameter_names ds
parameters_keyed [] given known = sym (append-nil (keys known))
parameters_keyed (d ∷ ds) given known =
    parameters_keyed ds given (with_values d given d.values known) ∙ ap (λ ns. ns ++ parameter_names ds) (values_keyed d given d.values known)
    ∙ append_assoc (keys known) (value_names d.values) (parameter_names ds)

-- ---- new names

module _ (front : Name) (n : Name) where
  named_kept : (es : Entries Object) (o : Option Name) → o ≡ Some (front ++ n) → named_after o (dotted_entries front es) n ≡ Some (front ++ n)
  named_kept [] o h = h
  named_kept (e ∷ es) o h = named_kept es (cond (same_name e.0 n) (Some (front ++ e.0)) o) (chosen (same_name e.0 n) (same_is e.0 n))
    where
      chosen : (b : Bool) → (b ≡ true → e.0 ≡ n) → cond b (Some (front ++ e.0)) o ≡ Some (front ++ n)
      chosen true f = ap (λ m. Some (front ++ m)) (f refl)
      chosen false f = h

  named_there : (es : Entries Object) (o : Option Name) → IsAmong (keys es) n → named_after o (dotted_entries front es) n ≡ Some (front ++ n)
  named_there [] o h = absurd h
  named_there (e ∷ es) o (inl k) =
      named_kept es (cond (same_name e.0 n) (Some (front ++ e.0)) o)
      (ap (λ b. cond b (Some (front ++ e.0)) o) (subst (λ m. same_name e.0 m ≡ true) k (is_same e.0)) ∙ ap (λ m. Some (front ++ m)) k)
  named_there (e ∷ es) o (inr h) = named_there es (cond (same_name e.0 n) (Some (front ++ e.0)) o) h

  pub renamed_there : (es : Entries Object) → IsAmong (keys es) n → named_in (dotted_entries front es) n ≡ front ++ n
  renamed_there es h = ap (λ o. unwrap_or o n) (named_there es None h)

pub naming_found : (ps : List SpotNames) (k : ℕ) (z : SpotNames) → slice_get ps k ≡ Some z → naming_at (map naming_of ps) k ≡ naming_of z
naming_found [] k z e = cc
naming_found (p ∷ ps) zero z e = ap naming_of (same_some p z e)
naming_found (p ∷ ps) (suc k) z e = naming_found ps k z e

-- ---- the names by numbers

abbrev some_names : SpotNames → Option SpotNames
some_names p = Some p

pub get_names : (called : Naming) (qs : List (List PathStep)) (xs : List Spot) (k : ℕ) (q : List PathStep) (x : Spot) → slice_get qs k ≡ Some q → slice_get xs k ≡ Some x
    → slice_get (names_at_paths called qs xs) k ≡ Some (spot_names (called q []) x)
get_names called [] xs k q x e g = cc
get_names called (r ∷ qs) [] k q x e g = cc
get_names called (r ∷ qs) (y ∷ xs) zero q x e g = ap2 (λ a b. some_names (spot_names (called a []) b)) (same_some r q e) (same_some y x g)
get_names called (r ∷ qs) (y ∷ xs) (suc k) q x e g = get_names called qs xs k q x e g

pub record IsOfSpot (called : Naming) (qs : List (List PathStep)) (xs : List Spot) (k : ℕ) (z : SpotNames) : Type 0 where
  pub path : List PathStep
  pub spot : Spot
  pub is_path : slice_get qs k ≡ Some path
  pub is_spot : slice_get xs k ≡ Some spot
  pub is_names : spot_names (called path []) spot ≡ z

pub names_of_spot : (called : Naming) (qs : List (List PathStep)) (xs : List Spot) (k : ℕ) (z : SpotNames) → slice_get (names_at_paths called qs xs) k ≡ Some z → IsOfSpot called qs xs k z
names_of_spot called [] xs k z e = cc
names_of_spot called (r ∷ qs) [] k z e = cc
names_of_spot called (r ∷ qs) (y ∷ xs) zero z e =
    record { path = r; spot = y; is_path = refl; is_spot = refl; is_names = same_some (spot_names (called r []) y) z e }
names_of_spot called (r ∷ qs) (y ∷ xs) (suc k) z e =
    let f = names_of_spot called qs xs k z e in record { path = f.path; spot = f.spot; is_path = f.is_path; is_spot = f.is_spot; is_names = f.is_names }

-- ---- one scope

abbrev pub scope_entries : SpotNames → Entries Object
scope_entries z = map flat_entry z.entries

entry_append : {A : Type 0} (xs ys : Entries A) (n : Name) → entry_of (xs ++ ys) n ≡ first_of (entry_of xs n) (entry_of ys n)
entry_append [] ys n = refl
entry_append (x ∷ xs) ys n = chosen (same_name x.0 n) (entry_append xs ys n)
  where
    chosen : (b : Bool) → entry_of (xs ++ ys) n ≡ first_of (entry_of xs n) (entry_of ys n)
        → cond b (Some x.1) (entry_of (xs ++ ys) n) ≡ first_of (cond b (Some x.1) (entry_of xs n)) (entry_of ys n)
    chosen true h = refl
    chosen false h = h

-- no module has the name
pub nowhere_found : (ps : List SpotNames) (n : Name) → ((k : ℕ) (z : SpotNames) → slice_get ps k ≡ Some z → entry_of (scope_entries z) n ≡ None)
    → entry_of (flat_entries ps) n ≡ None
nowhere_found [] n h = refl
nowhere_found (p ∷ ps) n h =
    entry_append (scope_entries p) (flat_entries ps) n ∙ ap (λ o. first_of o (entry_of (flat_entries ps) n)) (h 0 p refl)
    ∙ nowhere_found ps n (λ k z e. h (suc k) z e)

-- one module alone has the name
pub somewhere_found : (ps : List SpotNames) (n : Name) (k : ℕ) (z : SpotNames) (o : Object) → slice_get ps k ≡ Some z → entry_of (scope_entries z) n ≡ Some o
    → ((j : ℕ) (y : SpotNames) → slice_get ps j ≡ Some y → j ≢ k → entry_of (scope_entries y) n ≡ None) → entry_of (flat_entries ps) n ≡ Some o
somewhere_found [] n k z o e g h = cc
somewhere_found (p ∷ ps) n zero z o e g h =
    entry_append (scope_entries p) (flat_entries ps) n
    ∙ ap (λ x. first_of x (entry_of (flat_entries ps) n)) (ap (λ y. entry_of (scope_entries y) n) (same_some p z e) ∙ g)
somewhere_found (p ∷ ps) n (suc k) z o e g h =
    entry_append (scope_entries p) (flat_entries ps) n ∙ ap (λ x. first_of x (entry_of (flat_entries ps) n)) (h 0 p refl (λ j. cc))
    ∙ somewhere_found ps n k z o e g (λ j y i a. h (suc j) y i (λ b. a (omega (arith, b))))

-- an entry of a module under its dotted name
module _ (front : Name) where
  after_front : (xs ys zs : List ℕ) → xs ++ ys ≡ xs ++ zs → ys ≡ zs
  after_front [] ys zs e = e
  after_front (x ∷ xs) ys zs e = after_front xs ys zs cc

  pub front_apart : (m n : Name) → same_name (front ++ m) (front ++ n) ≡ same_name m n
  front_apart m n =
      elim (split (same_name m n)) as (λ _. same_name (front ++ m) (front ++ n) ≡ same_name m n) [
        | inl t ↦ ap (λ k. same_name (front ++ m) (front ++ k)) (sym (same_is m n t)) ∙ is_same (front ++ m) ∙ sym t
        | inr t ↦ not_true (same_name (front ++ m) (front ++ n))
            (λ k. false≢true (sym t ∙ subst (λ z. same_name m z ≡ true) (after_front front m n (same_is (front ++ m) (front ++ n) k)) (is_same m)))
            ∙ sym t
      ]

  pub own_found : (es : Entries Object) (n : Name) → entry_of (map flat_entry (dotted_entries front es)) (front ++ n) ≡ entry_of es n
  own_found [] n = refl
  own_found (e ∷ es) n = ap2 (λ b o. cond b (Some e.1) o) (front_apart e.0 n) (own_found es n)

  -- it is found under no name that is none of its dotted names
  pub others_found : (es : Entries Object) (n : Name) → ((m : Name) → IsAmong (keys es) m → front ++ m ≢ n)
      → entry_of (map flat_entry (dotted_entries front es)) n ≡ None
  others_found [] n h = refl
  others_found (e ∷ es) n h =
      ap2 (λ b o. cond b (Some e.1) o) (not_true (same_name (front ++ e.0) n) (λ t. h e.0 (inl refl) (same_is (front ++ e.0) n t)))
      (others_found es n (λ m k. h m (inr k)))
