-- Parameters have at most 128 bits, which their numbers fit.
use Rattle.std.proofs.Common.{◌≡◌, ◌≤◌, ◌<◌, ◌^◌, ℕ, ◌+◌, ◌-◌, ◌%◌, max, Bool, true, false, cond, ◌||◌, refl, ap, sym, subst, ◌∙◌, arith, List, [], ◌∷◌, ◌++◌, Option, Some, None, unwrap_or}
use Rattle.std.specs.Prelude.{IfSome}
use Rattle.std.proofs.lemmas.Nat.{pow_pos}
use Rattle.wb_values.specs.Value.{Name, same_name, Entries, entry_of}
use Rattle.wb_values.specs.Choice.{first_of}
use Rattle.verilog_trees.specs.Syntax as pure
use Rattle.verilog_meaning.specs.Expression.{Object, Scope, object_or_undeclared, scope_of, distance, object_width, no_values, widened, width_of, sign_of, value_of}
use Rattle.verilog_meaning.specs.Hierarchy.{constant_object}
use Rattle.v_value.specs.declared.scope.Declaration.{Declaration}
use Rattle.v_value.specs.Scope.{object_of, objects_of}
use Rattle.v_value.specs.Narrow.{IsWidth, IsNarrow, IsNarrowObject, HasNarrowObjects}
use Rattle.v_value.proofs.Narrows.{narrow_width}
use Rattle.v_constants.specs.Values.{numbered, own_at, ranged_at, carried}
use Rattle.v_constants.proofs.Ranges.{entry_append}

-- ---- objects

-- that of a value without a range
own_width : (w : ℕ) → 1 ≤ w → distance (w - 1) 0 + 1 ≡ w
own_width w h = omega arith

pub own_narrow : (s : Scope) (e : pure.Expression) (signed : Bool) (w x : ℕ) → IsNarrow s e → w ≡ width_of s e → x < 2 ^ w → IsNarrowObject (numbered signed (w - 1, 0) x)
own_narrow s e signed w x h i f =
    let k : IsWidth w = subst IsWidth (sym i) (narrow_width s e h) in
    let same : distance (w - 1) 0 + 1 ≡ w = own_width w k.0 in
    (subst (λ n. n ≤ 128) (sym same) k.1, subst (λ n. x < 2 ^ n) (sym same) f)

pub own_so : (s : Scope) (e : pure.Expression) (signed t : Bool) (w x : ℕ) → w ≡ width_of s e → t ≡ sign_of s e → x ≡ value_of s no_values e w t
    → numbered (signed || t) (w - 1, 0) x ≡ own_at s signed e
unfolding own_at
own_so s e signed t w x i j k =
    ap (constant_object (signed || t) w) k
    ∙ (ap (λ n. constant_object (signed || t) n (value_of s no_values e n t)) i
    ∙ ap (λ g. constant_object (signed || g) (width_of s e) (value_of s no_values e (width_of s e) g)) j)

-- that of a value with one
pub ranged_narrow : (signed : Bool) (l r x : ℕ) → distance l r + 1 ≤ 128 → x < 2 ^ (distance l r + 1) → IsNarrowObject (numbered signed (l, r) x)
ranged_narrow signed l r x h f = (h, f)

pub ranged_so : (s : Scope) (e : pure.Expression) (signed t : Bool) (l r own w x y : ℕ) → w ≡ distance l r + 1 → own ≡ width_of s e → t ≡ sign_of s e
    → x ≡ value_of s no_values e (max w own) t → y ≡ x % 2 ^ w → numbered signed (l, r) y ≡ ranged_at s signed l r e
unfolding ranged_at
ranged_so s e signed t l r own w x y h i j k f =
    ap (numbered signed (l, r))
    (f ∙ (ap (λ n. n % 2 ^ w) k
    ∙ (ap (λ n. value_of s no_values e (max w n) t % 2 ^ w) i
    ∙ (ap (λ g. value_of s no_values e (max w (width_of s e)) g % 2 ^ w) j
    ∙ ap (λ n. value_of s no_values e (max n (width_of s e)) (sign_of s e) % 2 ^ n) h))))

pub most : (s : Scope) (e : pure.Expression) (w : ℕ) → IsNarrow s e → w ≡ width_of s e → w ≤ 128
most s e w h i = subst (λ n. n ≤ 128) (sym i) (narrow_width s e h).1

-- an object that is made of these
module _ (s : Scope) (e : pure.Expression) (signed t g : Bool) (w l x : ℕ) (o : Object) (made : o ≡ numbered g (l, 0) x) (low : l ≡ w - 1) (own : w ≡ width_of s e) where
  pub own_made : g ≡ signed || t → t ≡ sign_of s e → x ≡ value_of s no_values e w t → o ≡ own_at s signed e
  own_made i j k =
      made ∙ (ap (λ h. numbered h (l, 0) x) i ∙ (ap (λ n. numbered (signed || t) (n, 0) x) low ∙ own_so s e signed t w x own j k))

  pub own_made_narrow : IsNarrow s e → x < 2 ^ w → IsNarrowObject o
  own_made_narrow h f =
      subst IsNarrowObject (sym (made ∙ ap (λ n. numbered g (n, 0) x) low)) (own_narrow s e g w x h own f)

pub ranged_made_narrow : (signed : Bool) (l r x : ℕ) (o : Object) (v w : ℕ) → o ≡ numbered signed (l, r) x → distance l r + 1 ≤ 128 → v ≡ w → w ≡ distance l r + 1 → x < 2 ^ v → IsNarrowObject o
ranged_made_narrow signed l r x o v w made h i j f =
    subst IsNarrowObject (sym made) (ranged_narrow signed l r x h (subst (λ n. x < 2 ^ n) (i ∙ j) f))

-- the number of an overriding value
pub number_fits : (c : Option ℕ) (w : ℕ) → IfSome c (λ x. x < 2 ^ w) → unwrap_or c 0 < 2 ^ w
number_fits None w h = pow_pos w
number_fits (Some x) w h = h

pub carried_so : (g : Object) (own wide width a b : ℕ) → own ≡ object_width g → wide ≡ max own width → a ≡ widened g.signed own wide (unwrap_or g.constant 0) → b ≡ a % 2 ^ width → b ≡ carried g width
carried_so g own wide width a b i j k f =
    f ∙ (ap (λ n. n % 2 ^ width) k
    ∙ (ap (λ n. widened g.signed own n (unwrap_or g.constant 0) % 2 ^ width) j
    ∙ ap (λ n. widened g.signed n (max n width) (unwrap_or g.constant 0) % 2 ^ width) i))

pub both_most : (m w own : ℕ) → m ≡ max w own → {b : ℕ} → w ≡ b → b ≤ 128 → own ≤ 128 → m ≤ 128
both_most m w own i {b} j h k = omega (arith, i, j, h, k)

pub own_within : (m w own width : ℕ) → m ≡ max w own → own ≡ width → width ≤ m
own_within m w own width i j = omega (arith, i, j)

-- ---- one more in a scope

at_name : (b : Bool) (o : Option Object) (n : Object) → IsNarrowObject (object_or_undeclared o) → IsNarrowObject n
    → IsNarrowObject (object_or_undeclared (first_of o (cond b (Some n) None)))
at_name b (Some o) n h k = h
at_name true None n h k = k
at_name false None n h k = h

pub more_narrow : (known : Entries Object) (m : Name) (o : Object) → HasNarrowObjects (scope_of known) → IsNarrowObject o → HasNarrowObjects (scope_of (known ++ (m, o) ∷ []))
more_narrow known m o h k n =
    subst (λ e. IsNarrowObject (object_or_undeclared e)) (sym (entry_append known ((m, o) ∷ []) n)) (at_name (same_name m n) (entry_of known n) o (h n) k)

pub objects_append : (ds : List Declaration) (d : Declaration) → objects_of (ds ++ d ∷ []) ≡ objects_of ds ++ (d.name.now, object_of d.object) ∷ []
objects_append [] d = refl
objects_append (e ∷ ds) d = ap (λ es. (e.name.now, object_of e.object) ∷ es) (objects_append ds d)

pub none_narrow : HasNarrowObjects (scope_of [])
none_narrow n = (omega arith, tt)
