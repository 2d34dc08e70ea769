-- Lemmas on tables of names, no two of which are equal: what is found under a name is what stands at its place.
use Rattle.std.proofs.Common.{◌≡◌, ℕ, zero, suc, ◌+◌, ◌<◌, Bool, true, false, cond, nat_eq, List, [], ◌∷◌, ◌++◌, length, get_or, replicate, Option, Some, None, is_none, inl, inr, refl, sym, ap, ◌∙◌, subst, arith}
use Rattle.std.specs.Prelude.{◌==◌}
use Rattle.std.proofs.lemmas.Bool.{and_parts, cases_eq, eq-eqb, eqb-true, ne_eqb, false≢true}
use Rattle.std.proofs.lemmas.List.{length-append, length-replicate}
use Rattle.std.proofs.lemmas.Slice.Eq.{bytes_eq-Decides}
use Rattle.std.proofs.lemmas.Cmp.{nat_list_eq_equiv}
use Rattle.wb_values.specs.Value.{Name, same_name, Sort, Entries, entry_of}
use Rattle.ila_model.specs.declared.parts.Child.{Child}
use Rattle.ila_model.specs.declared.parts.Parts.{Parts}
use Rattle.ila_model.specs.declared.scopes.Scope.{Scope}
use Rattle.ila_model.specs.declared.scopes.Scope.TheVariants.{Anywhere, Within}
use Rattle.ila_model.specs.Scope.{private_scopes, name_scopes, scoped, scope_or_any, home, tops, AreNameScopes}
use Rattle.ila_model.specs.Sorted.{are_distinct, are_placed, name_at}

pub same-from : (a b : Name) → same_name a b ≡ true → a ≡ b
same-from a b h = (bytes_eq-Decides a b).0 h

pub same-refl : (a : Name) → same_name a a ≡ true
same-refl a = (bytes_eq-Decides a a).1 refl

pub same-sym : (a b : Name) → same_name a b ≡ same_name b a
same-sym a b = nat_list_eq_equiv.symm a b

none-from : (o : Option Sort) → is_none o ≡ true → o ≡ None
none-from None h = refl
none-from (Some s) h = absurd (false≢true h)

-- a name that the table lacks
pub lacks : (t : Bool) (s : Sort) (o : Option Sort) → cond t (Some s) o ≡ None → (t ≡ false) × (o ≡ None)
lacks true s o h = cc
lacks false s o h = (refl, h)

pub none_at : (ns : Entries Sort) (n : Name) (k : ℕ) → entry_of ns n ≡ None → k < length ns → same_name (name_at ns k) n ≡ false
none_at [] n k e h = absurd (omega arith)
none_at (m ∷ ns) n zero e h = (lacks (same_name m.0 n) m.1 (entry_of ns n) e).0
none_at (m ∷ ns) n (suc k) e h = none_at ns n k (lacks (same_name m.0 n) m.1 (entry_of ns n) e).1 (omega arith)

pub first_is_apart : (m : Name × Sort) (ns : Entries Sort) → are_distinct (m ∷ ns) ≡ true → entry_of ns m.0 ≡ None
first_is_apart m ns d = none-from _ (and_parts (is_none (entry_of ns m.0)) _ d).0

pub others_apart : (m : Name × Sort) (ns : Entries Sort) → are_distinct (m ∷ ns) ≡ true → are_distinct ns ≡ true
others_apart m ns d = (and_parts (is_none (entry_of ns m.0)) _ d).1

-- the scope under a name of the table is the one at its place
pub scoped-at : (ns : Entries Sort) (ss : List Scope) (k : ℕ) → are_distinct ns ≡ true → length ss ≡ length ns → k < length ns → scope_or_any (entry_of (scoped ns ss) (name_at ns k)) ≡ get_or ss k Anywhere
scoped-at [] ss k d l h = absurd (omega arith)
scoped-at (m ∷ ns) [] k d l h = absurd (omega arith)
scoped-at (m ∷ ns) (s ∷ ss) zero d l h = ap (λ t. scope_or_any (cond t (Some s) (entry_of (scoped ns ss) m.0))) (same-refl m.0)
scoped-at (m ∷ ns) (s ∷ ss) (suc k) d l h =
    let apart = same-sym m.0 (name_at ns k) ∙ none_at ns m.0 k (first_is_apart m ns d) (omega arith) in
    ap (λ t. scope_or_any (cond t (Some s) (entry_of (scoped ns ss) (name_at ns k)))) apart
    ∙ scoped-at ns ss k (others_apart m ns d) (omega arith) (omega arith)

length-private_scopes : (i from total : ℕ) (cs : List Child) → are_placed from total cs ≡ true → from + length (private_scopes i cs) ≡ total
length-private_scopes i from total [] h = let e = eqb-true from total h in omega (arith, e)
length-private_scopes i from total (c ∷ cs) h =
    let n = length c.initial_values.items in
    let rest = length-private_scopes (suc i) (from + n) total cs (and_parts (c.first.0 == from) _ h).1 in
    let own : Scope = Within i in
    let both = length-append (replicate n own) (private_scopes (suc i) cs) in
    let here = length-replicate n own in
    omega (arith, rest, both, here)

pub length-name_scopes : (n total : ℕ) (cs : List Child) → are_placed n total cs ≡ true → length (name_scopes n cs) ≡ total
length-name_scopes n total cs h =
    let all : Scope = Anywhere in
    omega (arith, length-private_scopes 0 n total cs h, length-append (replicate n all) (private_scopes 0 cs), length-replicate n all)

pub are_name_scopes : (p : Parts) (ss : List Scope) → are_distinct p.terms.names ≡ true → are_placed (tops p) (length p.terms.names) p.children.items ≡ true → ss ≡ name_scopes (tops p) p.children.items → AreNameScopes p ss
unfolding home
are_name_scopes p ss d h e k b =
    let ns = p.terms.names in
    let all = name_scopes (tops p) p.children.items in
    let long = length-name_scopes (tops p) (length ns) p.children.items h in (
      omega (arith, ap length e, long),
      ap (λ xs. get_or xs k Anywhere) e ∙ sym (scoped-at ns all k d long b),
    )
