-- The table of overrides has under each name what the first of them says.
use Rattle.std.proofs.Common.{◌≡◌, ◌∙◌, refl, ap, sym, ℕ, ◌+◌, ◌<◌, Bool, true, false, cond, List, [], ◌∷◌, ◌++◌, length, drop, get_or, Bor, Option, Some, None, option_map, add-one, drop-cons}
use Rattle.std.specs.Ordering.{nat_cmp}
use Rattle.std.specs.Cmp.Lexicographic.{slice_cmp}
use Rattle.std.specs.BTreeMap as tree
use Rattle.std.specs.BTreeMap.{BTreeMap, get_by}
use Rattle.std.proofs.lemmas.Slice.Eq.{bytes_eq-Decides}
use Rattle.std.proofs.lemmas.Map.Text.{btree_map_updates_str}
use Rattle.wb_values.specs.Value.{Name, same_name, entry_of}
use Rattle.wb_values.specs.Choice.{first_of}
use Rattle.verilog_meaning.specs.Expression as meaning
use Rattle.v_constants.specs.declared.given.Override.{Override}
use Rattle.v_constants.specs.Given.{value_of, given_entries, given_of, given_at}

abbrev Given : Type 0
Given = Option (Option meaning.Object)

abbrev after : Given → Override → Name → Given
after o d q = first_of o (cond (same_name d.name.now q) (Some (value_of d)) None)

no_more : (o : Given) → o ≡ first_of o None
no_more None = refl
no_more (Some y) = refl

pub stays : (t : BTreeMap (Bor (List ℕ)) Override) (d : Override) (x : Option meaning.Object) (q : Name) → given_at t d.name.now ≡ Some x → given_at t q ≡ after (given_at t q) d q
stays t d x q e =
    (elim (same_name d.name.now q) as (λ b. same_name d.name.now q ≡ b
    → given_at t q ≡ first_of (given_at t q) (cond b (Some (value_of d)) None)) [
      | true ↦ λ h. found (ap (given_at t) (sym ((bytes_eq-Decides d.name.now q).0 h)) ∙ e)
      | false ↦ λ h. no_more (given_at t q)
    ]) refl
  where
    found : given_at t q ≡ Some x → given_at t q ≡ first_of (given_at t q) (Some (value_of d))
    found f = f ∙ sym (ap (λ o. first_of o (Some (value_of d))) f)

mapped_cond : (b : Bool) (x : Override) (o : Option Override) → option_map value_of (cond b (Some x) o) ≡ cond b (Some (value_of x)) (option_map value_of o)
mapped_cond true x o = refl
mapped_cond false x o = refl

pub stands : (old new : BTreeMap (Bor (List ℕ)) Override) (d : Override) → given_at old d.name.now ≡ None
    → tree.Updates (λ a b. slice_cmp nat_cmp a.now b.now) old new d.name (Some d) → (q : Name) → given_at new q ≡ after (given_at old q) d q
stands old new d e u q =
    ap (option_map value_of) (btree_map_updates_str d.name.now old new (Some d) u q)
    ∙ (mapped_cond (same_name d.name.now q) d (get_by (λ k. slice_cmp nat_cmp q k.now) old)
    ∙ (elim (same_name d.name.now q) as (λ b. same_name d.name.now q ≡ b
    → cond b (Some (value_of d)) (given_at old q) ≡ first_of (given_at old q) (cond b (Some (value_of d)) None)) [
      | true ↦ λ h. absent (ap (given_at old) (sym ((bytes_eq-Decides d.name.now q).0 h)) ∙ e)
      | false ↦ λ h. no_more (given_at old q)
    ]) refl)
  where
    absent : given_at old q ≡ None → Some (value_of d) ≡ first_of (given_at old q) (Some (value_of d))
    absent f = sym (ap (λ o. first_of o (Some (value_of d))) f)

-- ---- override after override

given_drop : (os : List Override) (i : ℕ) (d : Override) → i < length os
    → given_entries (drop i os) ≡ ((get_or os i d).name.now, value_of (get_or os i d)) ∷ given_entries (drop (i + 1) os)
given_drop os i d h = rw (add-one, drop-cons os i d h) refl

one_more : (b : Bool) (o p : Given) (x : Option meaning.Object) → first_of (first_of o (cond b (Some x) None)) p ≡ first_of o (cond b (Some x) p)
one_more true None p x = refl
one_more true (Some y) p x = refl
one_more false None p x = refl
one_more false (Some y) p x = refl

-- a turn that puts an override into the table
pub turn : (os : List Override) (i : ℕ) (d : Override) (old new all : Given) (q : Name) → i < length os → d ≡ get_or os i d
    → new ≡ after old d q → first_of old (given_of (drop i os) q) ≡ all → first_of new (given_of (drop (i + 1) os) q) ≡ all
turn os i d old new all q h g u e =
    let rest : Given = given_of (drop (i + 1) os) q in
    ap (λ o. first_of o rest) u
    ∙ (one_more (same_name d.name.now q) old rest (value_of d)
    ∙ (ap (λ x. first_of old (cond (same_name x.name.now q) (Some (value_of x)) rest)) g
    ∙ (ap (λ xs. first_of old (entry_of xs q)) (sym (given_drop os i d h)) ∙ e)))

-- an override behind others
pub one_behind : (os : List Override) (d : Override) (q : Name) → given_of (os ++ d ∷ []) q ≡ after (given_of os q) d q
one_behind [] d q = refl
one_behind (e ∷ os) d q = by_test (same_name e.name.now q) (one_behind os d q)
  where
    last : Given
    last = cond (same_name d.name.now q) (Some (value_of d)) None

    by_test : (b : Bool) → given_of (os ++ d ∷ []) q ≡ first_of (given_of os q) last
        → cond b (Some (value_of e)) (given_of (os ++ d ∷ []) q) ≡ first_of (cond b (Some (value_of e)) (given_of os q)) last
    by_test true h = refl
    by_test false h = h
