-- Addresses of a module's memories are below 65,536.
use Rattle.std.proofs.Common.{◌≡◌, ◌∙◌, ◌≤◌, ℕ, refl, ap, sym, subst, Bool, true, false, nat_le, Option, Some, None, option_map, arith}
use Rattle.std.specs.Prelude.{ℤ, pos, negsuc, option_and_then, unwrap_or, ⊤}
use Rattle.std.proofs.lemmas.Bool.Decides.{nat_tests}
use Rattle.wb_values.specs.Choice.{some_if}
use Rattle.verilog_trees.specs.Syntax.{Range}
use Rattle.verilog_meaning.specs.Expression.{Object, Scope, object_or_undeclared}
use Rattle.verilog_meaning.specs.Register.{words_between}
use Rattle.verilog_meaning.specs.Hierarchy.{Declaration}
use Rattle.verilog_rules.specs.Expression.{constant_number}
use Rattle.verilog_designs.specs.Known.{as_bound, both_bounds, known_range, with_range, known_object, with_known_addresses, known_declaration}
use Rattle.v_elab.specs.Names.{HasSmallAddresses, HasFewWords}

abbrev pub IsSmall : Option (ℕ × ℕ) → Type 0
IsSmall None = ⊤
IsSmall (Some a) = (a.0 ≤ 65535) × (a.1 ≤ 65535)

abbrev IsLow : Option ℕ → Type 0
IsLow None = ⊤
IsLow (Some n) = n ≤ 65535

low_if : (n : ℕ) → IsLow (some_if (nat_le n 65535) n)
low_if n = by (nat_le n 65535) refl
  where
    least : nat_le n 65535 ≡ true → n ≤ 65535
    least e = grind (arith, nat_tests)

    by : (t : Bool) → nat_le n 65535 ≡ t → IsLow (some_if t n)
    by true e = least e
    by false e = tt

low_bound : (o : Option ℤ) → IsLow (as_bound o)
low_bound None = tt
low_bound (Some (pos n)) = low_if n
low_bound (Some (negsuc n)) = tt

both_low : (x y : Option ℕ) → IsLow x → IsLow y → IsSmall (both_bounds x y)
both_low None y h k = tt
both_low (Some a) None h k = tt
both_low (Some a) (Some b) h k = (h, k)

range_small : (s : Scope) (r : Range) → IsSmall (known_range s r)
range_small s r = both_low (as_bound (constant_number s r.left)) (as_bound (constant_number s r.right)) (low_bound (constant_number s r.left)) (low_bound (constant_number s r.right))

or_zero : (o : Option (ℕ × ℕ)) → IsSmall o → IsSmall (Some (unwrap_or o (0, 0)))
or_zero None h = (omega arith, omega arith)
or_zero (Some a) h = h

with_addresses : (s : Scope) (r : Option Range) (o : Object) → o.addresses ≡ None → IsSmall (with_known_addresses s r o).addresses
with_addresses s None o h = subst IsSmall (sym h) tt
with_addresses s (Some r) o h = or_zero (known_range s r) (range_small s r)

mapped : (f : Object → Object) (o : Option Object) → ((x : Object) → o ≡ Some x → IsSmall (f x).addresses) → IsSmall (object_or_undeclared (option_map f o)).addresses
mapped f None h = tt
mapped f (Some x) h = h x refl

abbrev addresses_in : Option Object → Option (ℕ × ℕ)
addresses_in None = None
addresses_in (Some x) = x.addresses

ranged_none : (signed : Bool) (o : Option (ℕ × ℕ)) → addresses_in (option_map (with_range signed) o) ≡ None
ranged_none signed None = refl
ranged_none signed (Some b) = refl

known_none : (s : Scope) (signed : Bool) (r : Option Range) → addresses_in (known_object s signed r) ≡ None
known_none s signed None = refl
known_none s signed (Some r) = ranged_none signed (known_range s r)

no_addresses : (s : Scope) (signed : Bool) (r : Option Range) (x : Object) → known_object s signed r ≡ Some x → x.addresses ≡ None
no_addresses s signed r x e = sym (ap addresses_in e) ∙ known_none s signed r

pub declared_small : (s : Scope) (o : Option Declaration) → IsSmall (object_or_undeclared (option_and_then (known_declaration s) o)).addresses
declared_small s None = tt
declared_small s (Some d) =
    mapped (with_known_addresses s d.addresses) (known_object s d.signed d.range)
    (λ x e. with_addresses s d.addresses x (no_addresses s d.signed d.range x e))

pub few_words : (s : Scope) → HasSmallAddresses s → HasFewWords s
few_words s h n = by (s n).addresses refl
  where
    by : (o : Option (ℕ × ℕ)) → (s n).addresses ≡ o → words_between o ≤ 65536
    by None e = omega arith
    by (Some a) e = let k = h n a e in few a.0 a.1 k.0 k.1
      where
        few : (x y : ℕ) → x ≤ 65535 → y ≤ 65535 → words_between (Some (x, y)) ≤ 65536
        few x y i j = omega (arith, i, j)
