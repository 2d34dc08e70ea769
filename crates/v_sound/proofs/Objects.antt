-- The objects of a module without parameters: none has a number, and none is wide where no declared name is.
use Rattle.std.proofs.Common.{◌≡◌, ◌<◌, ◌^◌, ℕ, Bool, true, false, cond, ◌&&◌, ◌||◌, is_some, refl, sym, ap, subst, ◌∙◌, List, [], ◌∷◌, Option, Some, None, ◌⊎◌, inl, inr}
use Rattle.std.specs.Prelude.{option_map, option_and_then, nat_lt, IfSome}
use Rattle.std.proofs.lemmas.Bool.{false≢true}
use Rattle.std.proofs.lemmas.Slice.Eq.{bytes_eq-Decides}
use Rattle.wb_values.specs.Value.{Name, same_name, entry_of}
use Rattle.verilog_trees.specs.Syntax.{Range, Module}
use Rattle.verilog_meaning.specs.Expression.{Object, Scope, undeclared, object_or_undeclared, scope_of, object_width, is_memory}
use Rattle.verilog_meaning.specs.Hierarchy.{Declaration, declarations, declaration_of, and_later}
use Rattle.verilog_meaning.specs.Settled.{is_declared_among, port_directions}
use Rattle.verilog_rules.specs.Expression.{is_unbroken, width_if}
use Rattle.verilog_designs.specs.Known.{with_range, known_range, known_object, with_known_addresses, known_declaration, known_module_scope}
use Rattle.verilog_designs.specs.Expressions.{memory_if, broken_declaration, broken_declarations}
use Rattle.v_value.specs.Narrow.{HasNarrowObjects}
use Rattle.v_size.proofs.Unbroken.{unbroken-also, width-unbroken}
use Rattle.v_sound.proofs.Constants.{neither}
use Rattle.v_sound.proofs.Fitting.{within}

-- ---- no object of such a module has a number, and each is declared or nothing

addressed-constant : (s : Scope) (a : Option Range) (o : Object) → (with_known_addresses s a o).constant ≡ o.constant
addressed-constant s None o = refl
addressed-constant s (Some r) o = refl

ranged-constant : (b : Option (ℕ × ℕ)) (s : Scope) (signed : Bool) (a : Option Range) → (object_or_undeclared (option_map (with_known_addresses s a) (option_map (with_range signed) b))).constant ≡ None
ranged-constant None s signed a = refl
ranged-constant (Some b) s signed a = addressed-constant s a (with_range signed b)

declared-constant : (s : Scope) (signed : Bool) (r a : Option Range) → (object_or_undeclared (option_map (with_known_addresses s a) (known_object s signed r))).constant ≡ None
declared-constant s signed None a = addressed-constant s a (record undeclared { is_declared = true; signed = signed })
declared-constant s signed (Some r) a = ranged-constant (known_range s r) s signed a

pub found-constant : (s : Scope) (d : Option Declaration) → (object_or_undeclared (option_and_then (known_declaration s) d)).constant ≡ None
found-constant s None = refl
found-constant s (Some d) = declared-constant s d.signed d.range d.addresses

pub no-constant : (m : Module) (n : Name) → (known_module_scope m [] n).constant ≡ None
no-constant m n = found-constant (scope_of []) (declaration_of (declarations m) n)

-- declared, or nothing at all
abbrev pub IsValued : Object → Type 0
IsValued o = (o.is_declared ≡ true) ⊎ (o ≡ undeclared)

addressed-valued : (s : Scope) (a : Option Range) (o : Object) → o.is_declared ≡ true → IsValued (with_known_addresses s a o)
addressed-valued s None o h = inl h
addressed-valued s (Some r) o h = inl h

ranged-valued : (b : Option (ℕ × ℕ)) (s : Scope) (signed : Bool) (a : Option Range) → IsValued (object_or_undeclared (option_map (with_known_addresses s a) (option_map (with_range signed) b)))
ranged-valued None s signed a = inr refl
ranged-valued (Some b) s signed a = addressed-valued s a (with_range signed b) refl

declared-valued : (s : Scope) (signed : Bool) (r a : Option Range) → IsValued (object_or_undeclared (option_map (with_known_addresses s a) (known_object s signed r)))
declared-valued s signed None a = addressed-valued s a (record undeclared { is_declared = true; signed = signed }) refl
declared-valued s signed (Some r) a = ranged-valued (known_range s r) s signed a

pub found-valued : (s : Scope) (d : Option Declaration) → IsValued (object_or_undeclared (option_and_then (known_declaration s) d))
found-valued s None = inr refl
found-valued s (Some d) = declared-valued s d.signed d.range d.addresses

pub valued : (m : Module) (n : Name) → IsValued (known_module_scope m [] n)
valued m n = found-valued (scope_of []) (declaration_of (declarations m) n)

pub none-declared : (ds : List Declaration) (n : Name) → is_declared_among ds n ≡ false → declaration_of ds n ≡ None
none-declared [] n h = refl
none-declared (d ∷ ds) n h =
    let p = neither (same_name d.of_name n) (is_declared_among ds n) h in
    ap (λ b. cond b (Some (and_later d (declaration_of ds n))) (declaration_of ds n)) p.0 ∙ none-declared ds n p.1

pub nothing-there : (m : Module) (n : Name) → is_declared_among (declarations m) n ≡ false → known_module_scope m [] n ≡ undeclared
nothing-there m n h = ap (λ o. object_or_undeclared (option_and_then (known_declaration (scope_of [])) o)) (none-declared (declarations m) n h)

-- ---- widths

-- Some declared name is wide.
abbrev pub any_wide : Scope → List Declaration → Bool
any_wide s [] = false
any_wide s (d ∷ ds) = nat_lt 128 (object_width (s d.of_name)) || any_wide s ds

pub declared-narrow : (s : Scope) (n : Name) (ds : List Declaration) → any_wide s ds ≡ false → is_declared_among ds n ≡ true → nat_lt 128 (object_width (s n)) ≡ false
declared-narrow s n [] h g = absurd (false≢true g)
declared-narrow s n (d ∷ ds) h g =
    let p = neither (nat_lt 128 (object_width (s d.of_name))) (any_wide s ds) h in
    by-name (same_name d.of_name n) refl p.0 (λ e. declared-narrow s n ds p.1 (sym (ap (λ b. b || is_declared_among ds n) e) ∙ g))
  where
    by-name : (b : Bool) → same_name d.of_name n ≡ b → nat_lt 128 (object_width (s d.of_name)) ≡ false → (same_name d.of_name n ≡ false → nat_lt 128 (object_width (s n)) ≡ false)
        → nat_lt 128 (object_width (s n)) ≡ false
    by-name true e w later = subst (λ k. nat_lt 128 (object_width (s k)) ≡ false) ((bytes_eq-Decides d.of_name n).0 e) w
    by-name false e w later = later e

pub not-wide : (m : Module) → any_wide (known_module_scope m []) (declarations m) ≡ false → (n : Name) → nat_lt 128 (object_width (known_module_scope m [] n)) ≡ false
not-wide m h n = (elim (is_declared_among (declarations m) n) as (λ b. is_declared_among (declarations m) n ≡ b → nat_lt 128 (object_width (known_module_scope m [] n)) ≡ false) [
  | true ↦ λ e. declared-narrow (known_module_scope m []) n (declarations m) h e
  | false ↦ λ e. ap (λ (o : Object). nat_lt 128 (object_width o)) (nothing-there m n e)
]) refl

pub objects-narrow : (m : Module) → any_wide (known_module_scope m []) (declarations m) ≡ false → HasNarrowObjects (known_module_scope m [])
objects-narrow m h n = (
  within (object_width (known_module_scope m [] n)) (not-wide m h n),
  subst (λ k. IfSome k (λ c. c < 2 ^ object_width (known_module_scope m [] n))) (sym (no-constant m n)) tt,
)

none-wide : (s : Scope) (m : Module) (ds : List Declaration) → is_unbroken (broken_declarations s m ds) ≡ true → any_wide s ds ≡ false
none-wide s m [] h = refl
none-wide s m (d ∷ ds) h =
    let q = unbroken-also (broken_declaration s m d) (broken_declarations s m ds) h in
    let r = unbroken-also (width_if (nat_lt 128 (object_width (s d.of_name)))) (memory_if (is_some (entry_of (port_directions m) d.of_name) && is_memory (s d.of_name))) q.0 in
    ap (λ b. b || any_wide s ds) (width-unbroken (nat_lt 128 (object_width (s d.of_name))) r.0) ∙ none-wide s m ds q.1

pub unbroken-narrow : (m : Module) → is_unbroken (broken_declarations (known_module_scope m []) m (declarations m)) ≡ true → HasNarrowObjects (known_module_scope m [])
unbroken-narrow m h = objects-narrow m (none-wide (known_module_scope m []) m (declarations m) h)
