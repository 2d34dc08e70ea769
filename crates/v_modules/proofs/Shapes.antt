-- Scopes whose names have at most 128 bits, made of the constants and the declared names of a module.
use Rattle.std.proofs.Common.{◌≡◌, ◌≤◌, ◌<◌, ◌^◌, ℕ, Bool, true, false, cond, not, ◌&&◌, ◌||◌, nat_le, nat_lt, refl, sym, ap, subst, ◌∙◌, arith, List, [], ◌∷◌, ◌++◌, Option, Some, None, is_none, option_and_then, ◌⊎◌, inl, inr}
use Rattle.std.specs.Prelude.{IfSome}
use Rattle.std.proofs.lemmas.Bool.{false≢true}
use Rattle.std.proofs.lemmas.Bool.Decides.{nat_tests}
use Rattle.std.proofs.lemmas.Slice.Eq.{bytes_eq-Decides}
use mathlib.Core.Path.{fun_ext}
use Rattle.wb_values.specs.Value.{Name, same_name, Entries, entry_of}
use Rattle.wb_values.specs.Choice.{first_of}
use Rattle.verilog_trees.specs.Syntax.{Module}
use Rattle.verilog_meaning.specs.Expression.{Object, Scope, undeclared, object_or_undeclared, scope_of, object_width}
use Rattle.verilog_meaning.specs.Hierarchy.{Declaration, declarations, declaration_of}
use Rattle.verilog_meaning.specs.Settled.{is_declared_among}
use Rattle.verilog_designs.specs.Known.{known_declaration, known_module_scope}
use Rattle.v_value.specs.Narrow.{IsNarrowObject, HasNarrowObjects}
use Rattle.v_scopes.specs.Rows.{Row, rows, objects_by}
use Rattle.v_modules.specs.Combined.{is_net_object, one_other, narrowed, as_net, narrow_objects, nets_by, net_objects}
use Rattle.v_sound.proofs.Constants.{neither}
use Rattle.v_sound.proofs.Fitting.{within}
use Rattle.v_sound.specs.Alike.{IsNet, AreAlike}
use Rattle.v_sound.proofs.Objects.{IsValued, found-constant, found-valued, none-declared, declared-narrow, any_wide}

-- ---- one object

narrow-by : (o : Object) (b d : Bool) → nat_lt 128 (object_width o) ≡ b
    → object_width (cond b (record o { left = 0; right = cond d 0 1; constant = None }) (record o { constant = None })) ≤ 128
narrow-by o true true h = omega arith
narrow-by o true false h = omega arith
narrow-by o false d h = within (object_width o) h

constant-by : (o : Object) (b d : Bool) → (cond b (record o { left = 0; right = cond d 0 1; constant = None }) (record o { constant = None })).constant ≡ None
constant-by o true d = refl
constant-by o false d = refl

narrowed-constant : (o : Object) → (narrowed o).constant ≡ None
narrowed-constant o = constant-by o (nat_lt 128 (object_width o)) (nat_le o.right o.left)

net-width : (o : Object) (b : Bool) → object_width o ≤ 128 → object_width (cond b o (record undeclared { is_declared = true })) ≤ 128
net-width o true h = h
net-width o false h = omega arith

net-constant : (o : Object) (b : Bool) → o.constant ≡ None → (cond b o (record undeclared { is_declared = true })).constant ≡ None
net-constant o true h = h
net-constant o false h = refl

net-declared : (o : Object) (b : Bool) → o.is_declared ≡ b → (cond b o (record undeclared { is_declared = true })).is_declared ≡ true
net-declared o true h = h
net-declared o false h = refl

fits : (o : Object) → object_width o ≤ 128 → o.constant ≡ None → IsNarrowObject o
fits o w c = (w, subst (λ k. IfSome k (λ c. c < 2 ^ object_width o)) (sym c) tt)

narrowed-narrow : (o : Object) → IsNarrowObject (narrowed o)
narrowed-narrow o = fits (narrowed o) (narrow-by o (nat_lt 128 (object_width o)) (nat_le o.right o.left) refl) (narrowed-constant o)

net-narrow : (o : Object) → IsNarrowObject (as_net (narrowed o))
net-narrow o =
    let w : object_width (narrowed o) ≤ 128 = narrow-by o (nat_lt 128 (object_width o)) (nat_le o.right o.left) refl in
    fits (as_net (narrowed o)) (net-width (narrowed o) (narrowed o).is_declared w) (net-constant (narrowed o) (narrowed o).is_declared (narrowed-constant o))

net-shape : (o : Object) → IsNet (as_net (narrowed o))
net-shape o = (net-declared (narrowed o) (narrowed o).is_declared refl, net-constant (narrowed o) (narrowed o).is_declared (narrowed-constant o))

declared-by : (o : Object) (b d : Bool) → (cond b (record o { left = 0; right = cond d 0 1; constant = None }) (record o { constant = None })).is_declared ≡ o.is_declared
declared-by o true d = refl
declared-by o false d = refl

narrowed-declared : (o : Object) → (narrowed o).is_declared ≡ o.is_declared
narrowed-declared o = declared-by o (nat_lt 128 (object_width o)) (nat_le o.right o.left)

alike-by : (o : Object) (b d : Bool) → nat_le o.right o.left ≡ d → AreAlike o (cond b (record o { left = 0; right = cond d 0 1; constant = None }) (record o { constant = None }))
alike-by o true true h = record { declared = refl; range = refl; memory = refl; direction = h }
alike-by o true false h = record { declared = refl; range = refl; memory = refl; direction = h }
alike-by o false d h = record { declared = refl; range = refl; memory = refl; direction = refl }

narrowed-alike : (o : Object) → AreAlike o (narrowed o)
narrowed-alike o = alike-by o (nat_lt 128 (object_width o)) (nat_le o.right o.left) refl

same-alike : (o : Object) → AreAlike o o
same-alike o = record { declared = refl; range = refl; memory = refl; direction = refl }

-- an object without a number that is not wide stays as it is
narrowed-same : (o : Object) → o.constant ≡ None → nat_lt 128 (object_width o) ≡ false → o ≡ narrowed o
narrowed-same o c h =
    (λ i. record o { constant = c i })
    ∙ ap (λ b. cond b (record o { left = 0; right = cond (nat_le o.right o.left) 0 1; constant = None }) (record o { constant = None })) (sym h)

-- ---- scopes by declared names

at-name : (g : Scope) (m n : Name) (b : Bool) → same_name m n ≡ b → (o : Option Object) → (same_name m n ≡ false → object_or_undeclared o ≡ g n) → object_or_undeclared (cond b (Some (g m)) o) ≡ g n
at-name g m n true e o h = ap g ((bytes_eq-Decides m n).0 e)
at-name g m n false e o h = h e

found : (g z : Scope) (ds : List Declaration) (n : Name) → is_declared_among ds n ≡ true → scope_of (objects_by g (rows z ds)) n ≡ g n
found g z [] n h = absurd (false≢true h)
found g z (d ∷ ds) n h =
    at-name g d.of_name n (same_name d.of_name n) refl (entry_of (objects_by g (rows z ds)) n) (λ e. found g z ds n (sym (ap (λ b. b || is_declared_among ds n) e) ∙ h))

not-found : (g z : Scope) (ds : List Declaration) (n : Name) → is_declared_among ds n ≡ false → scope_of (objects_by g (rows z ds)) n ≡ undeclared
not-found g z [] n h = refl
not-found g z (d ∷ ds) n h =
    let p = neither (same_name d.of_name n) (is_declared_among ds n) h in
    ap (λ b. object_or_undeclared (cond b (Some (g d.of_name)) (entry_of (objects_by g (rows z ds)) n))) p.0 ∙ not-found g z ds n p.1

undeclared-narrow : IsNarrowObject undeclared
undeclared-narrow = (omega arith, tt)

chosen-narrow : (b : Bool) (o : Object) (e : Option Object) → IsNarrowObject o → IsNarrowObject (object_or_undeclared e) → IsNarrowObject (object_or_undeclared (cond b (Some o) e))
chosen-narrow true o e h g = h
chosen-narrow false o e h g = g

listed-narrow : (g : Scope) → ((n : Name) → IsNarrowObject (g n)) → (rs : List Row) → HasNarrowObjects (scope_of (objects_by g rs))
listed-narrow g h [] n = undeclared-narrow
listed-narrow g h (d ∷ rs) n = chosen-narrow (same_name d.of_name n) (g d.of_name) (entry_of (objects_by g rs) n) (h d.of_name) (listed-narrow g h rs n)

nets-narrow : (p : Name → Bool) (s : Scope) (rs : List Row) → HasNarrowObjects (scope_of (nets_by p s rs))
nets-narrow p s [] = λ n. undeclared-narrow
nets-narrow p s (d ∷ rs) =
    let x : Object = as_net (narrowed (s d.of_name)) in
    let rest : HasNarrowObjects (scope_of (nets_by p s rs)) = nets-narrow p s rs in
    elim (p d.of_name) as (λ b. HasNarrowObjects (scope_of (cond b (nets_by p s rs) ((d.of_name, x) ∷ nets_by p s rs)))) [
      | true ↦ rest
      | false ↦ λ n. chosen-narrow (same_name d.of_name n) x (entry_of (nets_by p s rs) n) (net-narrow (s d.of_name)) (rest n)
    ]

entry-both : (xs ys : Entries Object) (n : Name) → entry_of (xs ++ ys) n ≡ first_of (entry_of xs n) (entry_of ys n)
entry-both [] ys n = refl
entry-both (x ∷ xs) ys n = elim (same_name x.0 n) as (λ b. cond b (Some x.1) (entry_of (xs ++ ys) n) ≡ first_of (cond b (Some x.1) (entry_of xs n)) (entry_of ys n)) [
  | true ↦ refl
  | false ↦ entry-both xs ys n
]

either-narrow : (a b : Option Object) → IsNarrowObject (object_or_undeclared a) → IsNarrowObject (object_or_undeclared b) → IsNarrowObject (object_or_undeclared (first_of a b))
either-narrow (Some o) b h g = h
either-narrow None b h g = g

both-narrow : (xs ys : Entries Object) → HasNarrowObjects (scope_of xs) → HasNarrowObjects (scope_of ys) → HasNarrowObjects (scope_of (xs ++ ys))
both-narrow xs ys h g n = subst (λ o. IsNarrowObject (object_or_undeclared o)) (sym (entry-both xs ys n)) (either-narrow (entry_of xs n) (entry_of ys n) (h n) (g n))

pub narrow-fits : (cs : Entries Object) → HasNarrowObjects (scope_of cs) → (s : Scope) (rs : List Row) → HasNarrowObjects (scope_of (narrow_objects cs s rs))
narrow-fits cs h s rs = both-narrow cs (objects_by (λ n. narrowed (s n)) rs) h (listed-narrow (λ n. narrowed (s n)) (λ n. narrowed-narrow (s n)) rs)

pub net-fits : (p : Name → Bool) (cs : Entries Object) → HasNarrowObjects (scope_of cs) → (s : Scope) (rs : List Row) → HasNarrowObjects (scope_of (net_objects p cs s rs))
net-fits p cs h s rs = both-narrow (nets_by p s rs) (narrow_objects cs s rs) (nets-narrow p s rs) (narrow-fits cs h s rs)

-- ---- the nets that are put first

and-none : (b : Bool) → b && false ≡ false
and-none true = refl
and-none false = refl

later-none : (a b c : Bool) → (a || b) && c ≡ false → b && c ≡ false
later-none true b c h = ap (λ z. b && z) h ∙ and-none b
later-none false b c h = h

module _ (p : Name → Bool) (g z : Scope) where
  net-found : (ds : List Declaration) (n : Name) → is_declared_among ds n ≡ true → p n ≡ false → entry_of (nets_by p g (rows z ds)) n ≡ Some (as_net (narrowed (g n)))
  net-found [] n h k = absurd (false≢true h)
  net-found (d ∷ ds) n h k = by-parameter (p d.of_name) refl (λ e. net-found ds n (sym (ap (λ b. b || is_declared_among ds n) e) ∙ h) k)
    where
      later : (b : Bool) → same_name d.of_name n ≡ b → (b ≡ true → ⊥) → (same_name d.of_name n ≡ false → entry_of (nets_by p g (rows z ds)) n ≡ Some (as_net (narrowed (g n)))) → entry_of (nets_by p g (rows z ds)) n ≡ Some (as_net (narrowed (g n)))
      later true e no_match after = absurd (no_match refl)
      later false e no_match after = after e

      by-name : (b : Bool) → same_name d.of_name n ≡ b → (same_name d.of_name n ≡ false → entry_of (nets_by p g (rows z ds)) n ≡ Some (as_net (narrowed (g n)))) → cond b (Some (as_net (narrowed (g d.of_name)))) (entry_of (nets_by p g (rows z ds)) n) ≡ Some (as_net (narrowed (g n)))
      by-name true e after = ap (λ m. Some (as_net (narrowed (g m)))) ((bytes_eq-Decides d.of_name n).0 e)
      by-name false e after = after e

      by-parameter : (b : Bool) → p d.of_name ≡ b → (same_name d.of_name n ≡ false → entry_of (nets_by p g (rows z ds)) n ≡ Some (as_net (narrowed (g n)))) → entry_of (cond b (nets_by p g (rows z ds)) ((d.of_name, as_net (narrowed (g d.of_name))) ∷ (nets_by p g (rows z ds)))) n ≡ Some (as_net (narrowed (g n)))
      by-parameter true e after =
          later (same_name d.of_name n) refl (λ s. false≢true (sym k ∙ ap p (sym ((bytes_eq-Decides d.of_name n).0 s)) ∙ e)) after
      by-parameter false e after = by-name (same_name d.of_name n) refl after

  net-not-found : (ds : List Declaration) (n : Name) → is_declared_among ds n && not (p n) ≡ false → entry_of (nets_by p g (rows z ds)) n ≡ None
  net-not-found [] n h = refl
  net-not-found (d ∷ ds) n h = by-parameter (p d.of_name) refl (net-not-found ds n (later-none (same_name d.of_name n) (is_declared_among ds n) (not (p n)) h))
    where
      by-name : (b : Bool) → same_name d.of_name n ≡ b → p d.of_name ≡ false → entry_of (nets_by p g (rows z ds)) n ≡ None → cond b (Some (as_net (narrowed (g d.of_name)))) (entry_of (nets_by p g (rows z ds)) n) ≡ None
      by-name true e f after =
          absurd (false≢true (sym h ∙ ap (λ b. (b || is_declared_among ds n) && not (p n)) e ∙ ap not (ap p (sym ((bytes_eq-Decides d.of_name n).0 e)) ∙ f)))
      by-name false e f after = after

      by-parameter : (b : Bool) → p d.of_name ≡ b → entry_of (nets_by p g (rows z ds)) n ≡ None → entry_of (cond b (nets_by p g (rows z ds)) ((d.of_name, as_net (narrowed (g d.of_name))) ∷ (nets_by p g (rows z ds)))) n ≡ None
      by-parameter true e after = after
      by-parameter false e after = by-name (same_name d.of_name n) refl e after

-- ---- the scopes of a module with these constants

not-over : (w : ℕ) → w ≤ 128 → nat_lt 128 w ≡ false
not-over w h = grind (arith, nat_tests, h)

both-true : (a b : Bool) → a && b ≡ true → (a ≡ true) × (b ≡ true)
both-true true b h = (refl, h)
both-true false b h = absurd (false≢true h)

not-false : (b : Bool) → not b ≡ false → b ≡ true
not-false true e = refl
not-false false e = absurd (false≢true (sym e))

not-true : (b : Bool) → not b ≡ true → b ≡ false
not-true true e = absurd (false≢true e)
not-true false e = refl

none-is : (o : Option ℕ) → is_none o ≡ true → o ≡ None
none-is None e = refl
none-is (Some k) e = absurd (false≢true e)

is-net : (o : Object) → is_net_object o ≡ true → IsNet o
is-net o h = let q = both-true o.is_declared (is_none o.constant) h in (q.0, none-is o.constant q.1)

module _ (m : Module) (cs : Entries Object) (fit : HasNarrowObjects (scope_of cs)) where
  abbrev pub known : Scope
  known = known_module_scope m cs

  abbrev pub all_rows : List Row
  all_rows = rows (scope_of cs) (declarations m)

  abbrev pub narrow : Scope
  narrow = scope_of (narrow_objects cs known all_rows)

  -- what is declared of a name besides
  abbrev declared : Name → Object
  declared n = object_or_undeclared (option_and_then (known_declaration (scope_of cs)) (declaration_of (declarations m) n))

  abbrev others : Entries Object
  others = objects_by (λ n. narrowed (known n)) all_rows

  -- a constant: the same in both, and narrow
  record IsConstant (n : Name) : Type 0 where
    same : known n ≡ narrow n
    fits_128 : IsNarrowObject (known n)

  -- what is declared, or nothing
  record IsOther (n : Name) : Type 0 where
    shaped : narrow n ≡ narrowed (known n)
    no_constant : (known n).constant ≡ None
    is_valued : IsValued (known n)
    nothing : is_declared_among (declarations m) n ≡ false → known n ≡ undeclared

  known-constant : (n : Name) (o : Object) → entry_of cs n ≡ Some o → known n ≡ o
  known-constant n o e = ap (λ x. object_or_undeclared (first_of x (option_and_then (known_declaration (scope_of cs)) (declaration_of (declarations m) n)))) e

  known-other : (n : Name) → entry_of cs n ≡ None → known n ≡ declared n
  known-other n e = ap (λ x. object_or_undeclared (first_of x (option_and_then (known_declaration (scope_of cs)) (declaration_of (declarations m) n)))) e

  narrow-at : (n : Name) (o : Option Object) → entry_of cs n ≡ o → narrow n ≡ object_or_undeclared (first_of o (entry_of others n))
  narrow-at n o e = ap object_or_undeclared (entry-both cs others n) ∙ ap (λ x. object_or_undeclared (first_of x (entry_of others n))) e

  nothing-declared : (n : Name) → entry_of cs n ≡ None → is_declared_among (declarations m) n ≡ false → known n ≡ undeclared
  nothing-declared n e h = known-other n e ∙ ap (λ o. object_or_undeclared (option_and_then (known_declaration (scope_of cs)) o)) (none-declared (declarations m) n h)

  shaped-at : (n : Name) → entry_of cs n ≡ None → narrow n ≡ narrowed (known n)
  shaped-at n e = narrow-at n None e ∙ ((elim (is_declared_among (declarations m) n) as (λ b. is_declared_among (declarations m) n ≡ b → scope_of others n ≡ narrowed (known n)) [
    | true ↦ λ h. found (λ k. narrowed (known k)) (scope_of cs) (declarations m) n h
    | false ↦ λ h. not-found (λ k. narrowed (known k)) (scope_of cs) (declarations m) n h ∙ sym (ap narrowed (nothing-declared n e h))
  ]) refl)

  constant-or-other : (n : Name) → IsConstant n ⊎ IsOther n
  constant-or-other n = at-entry (entry_of cs n) refl
    where
      at-entry : (o : Option Object) → entry_of cs n ≡ o → IsConstant n ⊎ IsOther n
      at-entry (Some o) e = inl (record {
        same = known-constant n o e ∙ sym (narrow-at n (Some o) e);
        fits_128 = subst IsNarrowObject (sym (known-constant n o e)) (subst (λ x. IsNarrowObject (object_or_undeclared x)) e (fit n));
      })
      at-entry None e = inr (record {
        shaped = shaped-at n e;
        no_constant = ap (λ (o : Object). o.constant) (known-other n e) ∙ found-constant (scope_of cs) (declaration_of (declarations m) n);
        is_valued = subst IsValued (sym (known-other n e)) (found-valued (scope_of cs) (declaration_of (declarations m) n));
        nothing = nothing-declared n e;
      })

  -- ---- the narrow scope differs in wide nets alone

  pub wide : Name → Bool
  wide n = nat_lt 128 (object_width (known n))

  pub narrow-alike : (n : Name) → AreAlike (known n) (narrow n)
  narrow-alike n = elim (constant-or-other n) as (λ _. AreAlike (known n) (narrow n)) [
    | inl c ↦ subst (AreAlike (known n)) c.same (same-alike (known n))
    | inr o ↦ subst (AreAlike (known n)) (sym o.shaped) (narrowed-alike (known n))
  ]

  pub narrow-same : (n : Name) → wide n ≡ false → known n ≡ narrow n
  unfolding wide
  narrow-same n h = elim (constant-or-other n) as (λ _. known n ≡ narrow n) [
    | inl c ↦ c.same
    | inr o ↦ narrowed-same (known n) o.no_constant h ∙ sym o.shaped
  ]

  pub wide-known : (n : Name) → wide n ≡ true → IsNet (known n)
  unfolding wide
  wide-known n h = elim (constant-or-other n) as (λ _. IsNet (known n)) [
    | inl c ↦ absurd (false≢true (sym (not-over (object_width (known n)) c.fits_128.0) ∙ h))
    | inr o ↦ elim o.is_valued as (λ _. IsNet (known n)) [
      | inl d ↦ (d, o.no_constant)
      | inr e ↦ absurd (false≢true (sym (ap (λ (x : Object). nat_lt 128 (object_width x)) e) ∙ h))
    ]
  ]

  pub wide-narrow : (n : Name) → wide n ≡ true → IsNet (narrow n)
  wide-narrow n h = elim (constant-or-other n) as (λ _. IsNet (narrow n)) [
    | inl c ↦ subst IsNet c.same (wide-known n h)
    | inr o ↦ (
      ap (λ (x : Object). x.is_declared) o.shaped ∙ narrowed-declared (known n) ∙ (wide-known n h).0,
      ap (λ (x : Object). x.constant) o.shaped ∙ narrowed-constant (known n),
    )
  ]

  not-wide : any_wide known (declarations m) ≡ false → (n : Name) → nat_lt 128 (object_width (known n)) ≡ false
  not-wide h n = elim (constant-or-other n) as (λ _. nat_lt 128 (object_width (known n)) ≡ false) [
    | inl c ↦ not-over (object_width (known n)) c.fits_128.0
    | inr o ↦ (elim (is_declared_among (declarations m) n) as (λ b. is_declared_among (declarations m) n ≡ b → nat_lt 128 (object_width (known n)) ≡ false) [
      | true ↦ λ e. declared-narrow known n (declarations m) h e
      | false ↦ λ e. ap (λ (x : Object). nat_lt 128 (object_width x)) (o.nothing e)
    ]) refl
  ]

  -- where no declared name is wide it is the scope itself
  pub narrow-whole : any_wide known (declarations m) ≡ false → known ≡ narrow
  unfolding wide
  narrow-whole h = fun_ext (λ n. narrow-same n (not-wide h n))

  -- ---- the scope in which each net is declared

  module _ (p : Name → Bool) where
    abbrev pub nets : Scope
    nets = scope_of (net_objects p cs known all_rows)

    -- declared, and no parameter
    abbrev pub is_net_here : Name → Bool
    is_net_here n = is_declared_among (declarations m) n && not (p n)

    nets-at : (n : Name) (o : Option Object) → entry_of (nets_by p known all_rows) n ≡ o → nets n ≡ object_or_undeclared (first_of o (entry_of (narrow_objects cs known all_rows) n))
    nets-at n o e =
        ap object_or_undeclared (entry-both (nets_by p known all_rows) (narrow_objects cs known all_rows) n)
        ∙ ap (λ x. object_or_undeclared (first_of x (entry_of (narrow_objects cs known all_rows) n))) e

    pub nets-there : (n : Name) → is_net_here n ≡ true → IsNet (nets n)
    nets-there n h =
        let q = both-true (is_declared_among (declarations m) n) (not (p n)) h in
        subst IsNet (sym (nets-at n (Some (as_net (narrowed (known n)))) (net-found p known (scope_of cs) (declarations m) n q.0 (not-true (p n) q.1)))) (net-shape (known n))

    pub nets-same : (n : Name) → is_net_here n ≡ false → narrow n ≡ nets n
    nets-same n h = sym (nets-at n None (net-not-found p known (scope_of cs) (declarations m) n h))

    -- where all declared names stand for nets, they are nets of the narrow scope
    all-nets : (ds : List Declaration) → one_other known (rows (scope_of cs) ds) ≡ false → (n : Name) → is_declared_among ds n ≡ true → IsNet (known n)
    all-nets [] h n g = absurd (false≢true g)
    all-nets (d ∷ ds) h n g =
        let q = neither (not (is_net_object (known d.of_name))) (one_other known (rows (scope_of cs) ds)) h in
        by-name (same_name d.of_name n) refl (is-net (known d.of_name) (not-false (is_net_object (known d.of_name)) q.0)) (λ e. all-nets ds q.1 n (sym (ap (λ b. b || is_declared_among ds n) e) ∙ g))
      where
        by-name : (b : Bool) → same_name d.of_name n ≡ b → IsNet (known d.of_name) → (same_name d.of_name n ≡ false → IsNet (known n)) → IsNet (known n)
        by-name true e w later = subst (λ k. IsNet (known k)) ((bytes_eq-Decides d.of_name n).0 e) w
        by-name false e w later = later e

    pub narrow-there : one_other known all_rows ≡ false → (n : Name) → is_net_here n ≡ true → IsNet (narrow n)
    narrow-there h n g =
        let k : IsNet (known n) = all-nets (declarations m) h n (both-true (is_declared_among (declarations m) n) (not (p n)) g).0 in
        elim (constant-or-other n) as (λ _. IsNet (narrow n)) [
          | inl c ↦ subst IsNet c.same k
          | inr o ↦ (
            ap (λ (x : Object). x.is_declared) o.shaped ∙ narrowed-declared (known n) ∙ k.0,
            ap (λ (x : Object). x.constant) o.shaped ∙ narrowed-constant (known n),
          )
        ]
