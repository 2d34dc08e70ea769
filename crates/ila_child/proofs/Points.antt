-- Lemmas on the point that a machine sees: after updates, in a child, and behind it.
use Rattle.std.proofs.Common.{◌≡◌, ◌≢◌, ℕ, zero, suc, ◌+◌, ◌-◌, ◌<◌, ◌≤◌, Bool, true, false, cond, List, [], ◌∷◌, map, length, get_or, drop, Option, Some, None, is_some, ◌⊎◌, inl, inr, refl, sym, ap, ◌∙◌, subst, arith}
use Rattle.std.specs.Prelude.{◌==◌, ◌||◌, nat_le, nat_lt}
use mathlib.Core.Path.{fun_ext}
use Rattle.std.proofs.lemmas.Bool.{and_parts, cases_eq, eq-eqb, eqb-true, ne_eqb, false≢true}
use Rattle.wb_values.specs.Value as meaning
use Rattle.wb_values.specs.Value.{Name, Sort, number, Entries, entry_of, Valuation, valuation_of}
use Rattle.model_meaning.specs.Term.{Term, val}
use Rattle.model_meaning.specs.Model.{StateDeclaration, updated, updated_value, entered, left_behind, initial_value, state_named}
use Rattle.wb_terms.specs.declared.values.Value.{Value}
use Rattle.wb_terms.specs.Graph.{Graph, tree}
use Rattle.wb_terms.specs.Environment.{values_by_name}
use Rattle.ila_model.specs.declared.parts.Update.{Update}
use Rattle.ila_model.specs.declared.parts.Child.{Child}
use Rattle.ila_model.specs.declared.parts.Parts.{Parts}
use Rattle.ila_model.specs.declared.scopes.Scope.{Scope}
use Rattle.ila_model.specs.declared.scopes.Scope.TheVariants.{Anywhere, Within, Nowhere}
use Rattle.ila_model.specs.Scope.{nesting, around, encloses, is_around, is_child_nested, may_read, scope_of, term_scope, home, name_scopes, tops}
use Rattle.ila_model.specs.Sorted.{are_distinct, are_placed, sort_at, name_at, is_state_at, is_read_at, is_term_of, are_updates}
use Rattle.ila_model.specs.Meaning.{update_of, privates_of, private_states}
use Rattle.ila_model.proofs.Declarations.{AreSorted}
use Rattle.ila_child.specs.Values.{beginning}
use Rattle.ila_child.specs.Updating.{update_at, value_at, with_updates, with_initial}
use Rattle.ila_child.specs.Running.{point_at, HasDepth}
use Rattle.ila_child.proofs.Updates.{are_updates-of, with_updates-at, length-with_updates}
use Rattle.ila_child.proofs.Depth.{depth_around, depth_nested, encloses-enough, val_read}
use Rattle.ila_child.proofs.Places.{place_of, valuation-at, valuation-lacking, home-lacking, home-at, top_scope, private_name_scope, private_name_place, states_by, always, privates-by, named-lacking, named_in, named_before, named_behind, lacks-drop, update-named, update-lacking, length-with_initial, begun_before, begun_behind, begun_in, below_or}

-- Two points are one where they give one value to each name of the table, and to each name that it lacks.
pub by_places : (ns : Entries Sort) (f g : Valuation) → ((k : ℕ) → k < length ns → f (name_at ns k) ≡ g (name_at ns k)) → ((n : Name) → entry_of ns n ≡ None → f n ≡ g n) → f ≡ g
by_places ns f g a b = fun_ext (λ n. elim (place_of ns n) [
  | inl r ↦ subst (λ m. f m ≡ g m) r.2 (a r.0 r.1)
  | inr e ↦ b n e
])

same_both : (b : Bool) (z : meaning.Value) → cond b z z ≡ z
same_both true z = refl
same_both false z = refl

pub known_point : (p : Parts) (at : Option ℕ) (xs : List meaning.Value) (k : ℕ) → are_distinct p.terms.names ≡ true → length xs ≡ length p.terms.names → k < length p.terms.names → point_at p at xs (name_at p.terms.names k) ≡ cond (may_read p.children.items at (home p (name_at p.terms.names k))) (value_at xs k) (number 0)
unfolding point_at
known_point p at xs k d l h =
    ap (λ x. cond (may_read p.children.items at (home p (name_at p.terms.names k))) x (number 0)) (valuation-at p.terms.names xs k d l h)

pub lacking_point : (p : Parts) (at : Option ℕ) (xs : List meaning.Value) (n : Name) → entry_of p.terms.names n ≡ None → point_at p at xs n ≡ number 0
unfolding point_at
lacking_point p at xs n e =
    let b = may_read p.children.items at (home p n) in
    ap (λ x. cond b x (number 0)) (valuation-lacking p.terms.names xs n e) ∙ same_both b (number 0)

pub readable_point : (p : Parts) (at : Option ℕ) (xs : List meaning.Value) (n : Name) → may_read p.children.items at (home p n) ≡ true → valuation_of (values_by_name p.terms.names xs) n ≡ point_at p at xs n
unfolding point_at
readable_point p at xs n h = sym (ap (λ b. cond b (valuation_of (values_by_name p.terms.names xs) n) (number 0)) h)

-- a term that may be read has one value in the environment and at the point
pub term_at_point : (p : Parts) (at : Option ℕ) (d : ℕ) (xs : List meaning.Value) (s : Sort) (k : ℕ) → HasDepth p.children.items d at → d ≤ nesting → is_read_at p at s k ≡ true → val (tree p.terms k) (valuation_of (values_by_name p.terms.names xs)) ≡ val (tree p.terms k) (point_at p at xs)
term_at_point p at d xs s k deep low h =
    val_read p.children.items (home p) at d deep low (valuation_of (values_by_name p.terms.names xs)) (point_at p at xs) (readable_point p at xs) (tree p.terms k) (and_parts (is_term_of p.terms s k) _ h).1

-- updates

chosen : (b : Bool) (t : Term) (o : Option Term) (v w : Valuation) (x : meaning.Value) → val t v ≡ val t w → updated_value o v x ≡ updated_value o w x → updated_value (cond b (Some t) o) v x ≡ updated_value (cond b (Some t) o) w x
chosen true t o v w x e r = e
chosen false t o v w x e r = r

terms_same : (p : Parts) (at : Option ℕ) (d from : ℕ) (us : List Update) (k : ℕ) (xs : List meaning.Value) (x : meaning.Value) → HasDepth p.children.items d at → d ≤ nesting → are_updates p at from us ≡ true → updated_value (update_at p.terms us k) (point_at p at xs) x ≡ updated_value (update_at p.terms us k) (valuation_of (values_by_name p.terms.names xs)) x
terms_same p at d from [] k xs x deep low h = refl
terms_same p at d from (u ∷ us) k xs x deep low h =
    let a = and_parts (nat_le from u.state.0) _ h in
    let b = and_parts (is_state_at p at u.state.0) _ a.1 in
    let c = and_parts (is_read_at p at (sort_at p.terms.names u.state.0) u.term.0) _ b.1 in
    chosen (u.state.0 == k) (tree p.terms u.term.0) (update_at p.terms us k) (point_at p at xs) (valuation_of (values_by_name p.terms.names xs)) x
    (sym (term_at_point p at d xs (sort_at p.terms.names u.state.0) u.term.0 deep low c.0))
    (terms_same p at d (suc u.state.0) us k xs x deep low c.1)

guarded : (s b : Bool) (t : Term) (o : Option Term) (v : Valuation) (x z : meaning.Value) → (s ≡ true → b ≡ true) → cond b (updated_value o v x) z ≡ updated_value o v (cond b x z) → cond b (updated_value (cond s (Some t) o) v x) z ≡ updated_value (cond s (Some t) o) v (cond b x z)
guarded true b t o v x z f r = ap (λ c. cond c (val t v) z) (f refl)
guarded false b t o v x z f r = r

updates_guarded : (p : Parts) (at : Option ℕ) (from : ℕ) (us : List Update) (k : ℕ) (v : Valuation) (x z : meaning.Value) → are_updates p at from us ≡ true → cond (may_read p.children.items at (home p (name_at p.terms.names k))) (updated_value (update_at p.terms us k) v x) z ≡ updated_value (update_at p.terms us k) v (cond (may_read p.children.items at (home p (name_at p.terms.names k))) x z)
updates_guarded p at from [] k v x z h = refl
updates_guarded p at from (u ∷ us) k v x z h =
    let a = and_parts (nat_le from u.state.0) _ h in
    let b = and_parts (is_state_at p at u.state.0) _ a.1 in
    let c = and_parts (is_read_at p at (sort_at p.terms.names u.state.0) u.term.0) _ b.1 in
    let known = and_parts (nat_lt u.state.0 (length p.terms.names)) _ b.0 in
    let readable = (and_parts (nat_lt u.state.0 (length p.initial_values.items) || nat_le (tops p) u.state.0) _ known.1).1 in
    guarded (u.state.0 == k) (may_read p.children.items at (home p (name_at p.terms.names k))) (tree p.terms u.term.0) (update_at p.terms us k) v x z
    (λ e. subst (λ j. may_read p.children.items at (home p (name_at p.terms.names j)) ≡ true) (eqb-true u.state.0 k e) readable)
    (updates_guarded p at (suc u.state.0) us k v x z c.1)

pub updated_point : (p : Parts) (s : AreSorted p) (at : Option ℕ) (d : ℕ) (us : List Update) (xs : List meaning.Value) → HasDepth p.children.items d at → d ≤ nesting → are_updates p at 0 us ≡ true → length xs ≡ length p.terms.names → updated (map (update_of p.terms) us) (point_at p at xs) ≡ point_at p at (with_updates p.terms (valuation_of (values_by_name p.terms.names xs)) us xs)
updated_point p s at d us xs deep low h l =
    let g = p.terms in
    let ns = g.names in
    let v = valuation_of (values_by_name ns xs) in
    let w = point_at p at xs in
    let ys = with_updates g v us xs in
    let of = are_updates-of p at 0 us h in
    let long = length-with_updates g v us xs ∙ l in
    by_places ns (updated (map (update_of g) us) w) (point_at p at ys)
    (λ k b.
    let n = name_at ns k in
    let r = may_read p.children.items at (home p n) in
    ap (λ o. updated_value o w (w n)) (update-named g 0 us k s.distinct of b)
    ∙ terms_same p at d 0 us k xs (w n) deep low h
    ∙ ap (λ x. updated_value (update_at g us k) v x) (known_point p at xs k s.distinct l b)
    ∙ sym (updates_guarded p at 0 us k v (value_at xs k) (number 0) h)
    ∙ ap (λ x. cond r x (number 0)) (sym (with_updates-at g v 0 us xs k of l))
    ∙ sym (known_point p at ys k s.distinct long b))
    (λ n e.
    ap (λ o. updated_value o w (w n)) (update-lacking g 0 us n of e) ∙ lacking_point p at xs n e ∙ sym (lacking_point p at ys n e))

-- children

same_bool : (a b : Bool) → (a ≡ true → b ≡ true) → (b ≡ true → a ≡ true) → a ≡ b
same_bool true b f g = sym (f refl)
same_bool false true f g = g refl
same_bool false false f g = refl

pub around_itself : (cs : List Child) (c : ℕ) → is_around cs c (Some c) ≡ true
unfolding is_around nesting
around_itself cs c = ap (λ b. b || encloses cs 2 c (around cs c)) (eq-eqb c c refl)

pub depth_inside : (cs : List Child) (c d : ℕ) → is_child_nested cs c ≡ true → HasDepth cs d (around cs c) → suc d ≤ 3
unfolding is_child_nested nesting
depth_inside cs c d h p = depth_nested cs 3 (Some c) (suc d) h p

not_true : (b : Bool) → (b ≡ true → ⊥) → b ≡ false
not_true true f = absurd (f refl)
not_true false f = refl

pub not_around : (cs : List Child) (c d : ℕ) → HasDepth cs d (around cs c) → is_around cs c (around cs c) ≡ false
unfolding is_around
not_around cs c d p = not_true _ (λ h. let r = depth_around cs nesting c (around cs c) d (suc d) h p p in absurd (omega (arith, r)))

around_others : (cs : List Child) (a c d : ℕ) → is_child_nested cs c ≡ true → HasDepth cs d (around cs c) → (c ≡ a → ⊥) → is_around cs a (Some c) ≡ is_around cs a (around cs c)
unfolding is_around nesting
around_others cs a c d h p ne =
    let low = depth_inside cs c d h p in
    ap (λ b. b || encloses cs 2 a (around cs c)) (ne_eqb c a ne)
    ∙ same_bool (encloses cs 2 a (around cs c)) (encloses cs 3 a (around cs c))
    (encloses-enough cs 2 3 a (around cs c) d p (omega arith))
    (encloses-enough cs 3 2 a (around cs c) d p (omega arith))

read_inside : (cs : List Child) (s : Scope) (c d : ℕ) → is_child_nested cs c ≡ true → HasDepth cs d (around cs c) → (s ≡ Within c → ⊥) → may_read cs (Some c) s ≡ may_read cs (around cs c) s
read_inside cs Anywhere c d h p ne = refl
read_inside cs (Within a) c d h p ne = around_others cs a c d h p (λ e. ne (ap (λ (j : ℕ). Within j) (sym e)))
read_inside cs Nowhere c d h p ne = refl

-- a child of the table, and the place around it
pub record IsInside (p : Parts) (c d : ℕ) (x : Child) : Type 0 where
  pub within : c < length p.children.items
  pub is_child : x ≡ get_or p.children.items c x
  pub nested : is_child_nested p.children.items c ≡ true
  pub deep : HasDepth p.children.items d (around p.children.items c)

-- a place of the table is one of the child's private states, or it is not
is_private : (first len k : ℕ) → ((first ≤ k) × (k < first + len)) ⊎ ((k < first) ⊎ (first + len ≤ k))
is_private first len k = elim (below_or k first) [
  | inl h ↦ inr (inl h)
  | inr h ↦ elim (below_or k (first + len)) [ inl b ↦ inl (h, b) | inr b ↦ inr (inr b) ]
]

private_home : (p : Parts) (s : AreSorted p) (c d : ℕ) (x : Child) (k : ℕ) → IsInside p c d x → k < length p.terms.names → x.first.0 ≤ k → k < x.first.0 + length x.initial_values.items → home p (name_at p.terms.names k) ≡ Within c
private_home p s c d x k i b lo hi =
    let y = get_or p.children.items c x in
    let lo_y = subst (λ (z : Child). z.first.0 ≤ k) i.is_child lo in
    let hi_y = subst (λ (z : Child). k < z.first.0 + length z.initial_values.items) i.is_child hi in
    home-at p k s.distinct s.declared.placed b ∙ private_name_scope (tops p) (length p.terms.names) p.children.items c x k s.declared.placed i.within lo_y hi_y

other_home : (p : Parts) (s : AreSorted p) (c d : ℕ) (x : Child) (k : ℕ) → IsInside p c d x → k < length p.terms.names → (k < x.first.0) ⊎ (x.first.0 + length x.initial_values.items ≤ k) → home p (name_at p.terms.names k) ≡ Within c → ⊥
other_home p s c d x k i b out e =
    let r = private_name_place (tops p) (length p.terms.names) p.children.items c x k s.declared.placed i.within (sym (home-at p k s.distinct s.declared.placed b) ∙ e) in
    let back = sym i.is_child in
    let lo = subst (λ (z : Child). z.first.0 ≤ k) back r.0 in
    let hi = subst (λ (z : Child). k < z.first.0 + length z.initial_values.items) back r.1 in
    elim out [ inl h ↦ absurd (omega (arith, h, lo)) | inr h ↦ absurd (omega (arith, h, hi)) ]

private_named : (g : Graph) (x : Child) (k : ℕ) (z : Option Value) → are_distinct g.names ≡ true → x.first.0 ≤ k → k < x.first.0 + length x.initial_values.items → k < length g.names → state_named (privates_of g x) (name_at g.names k) ≡ Some (record { state_name = name_at g.names k; sort = sort_at g.names k; init = always (sort_at g.names k) (get_or x.initial_values.items (k - x.first.0) z) })
private_named g x k z d lo hi b =
    ap (λ ss. state_named ss (name_at g.names k)) (privates-by (drop x.first.0 g.names) x.initial_values.items)
    ∙ named_in always g.names x.first.0 x.initial_values.items k z d lo hi b

other_named : (g : Graph) (x : Child) (k : ℕ) → are_distinct g.names ≡ true → (k < x.first.0) ⊎ (x.first.0 + length x.initial_values.items ≤ k) → k < length g.names → state_named (privates_of g x) (name_at g.names k) ≡ None
other_named g x k d (inl h) b =
    ap (λ ss. state_named ss (name_at g.names k)) (privates-by (drop x.first.0 g.names) x.initial_values.items)
    ∙ named_before always g.names x.first.0 x.initial_values.items k d h b
other_named g x k d (inr h) b =
    ap (λ ss. state_named ss (name_at g.names k)) (privates-by (drop x.first.0 g.names) x.initial_values.items)
    ∙ named_behind always g.names x.first.0 x.initial_values.items k d h b

lacking_named : (g : Graph) (x : Child) (n : Name) → entry_of g.names n ≡ None → state_named (privates_of g x) n ≡ None
lacking_named g x n e =
    ap (λ ss. state_named ss n) (privates-by (drop x.first.0 g.names) x.initial_values.items)
    ∙ named-lacking always (drop x.first.0 g.names) x.initial_values.items n (lacks-drop x.first.0 g.names n e)

kept : (ns : Entries Sort) (first : ℕ) (is : List (Option Value)) (xs : List meaning.Value) (k : ℕ) → (k < first) ⊎ (first + length is ≤ k) → value_at (with_initial ns first is xs) k ≡ value_at xs k
kept ns first is xs k (inl h) = begun_before ns first is xs k h
kept ns first is xs k (inr h) = begun_behind ns first is xs k h

-- the point in a child that begins
pub entered_point : (p : Parts) (s : AreSorted p) (c d : ℕ) (x : Child) (xs : List meaning.Value) → IsInside p c d x → length xs ≡ length p.terms.names → entered (privates_of p.terms x) (point_at p (around p.children.items c) xs) ≡ point_at p (Some c) (with_initial p.terms.names x.first.0 x.initial_values.items xs)
entered_point p s c d x xs i l =
    let g = p.terms in
    let ns = g.names in
    let cs = p.children.items in
    let at = around cs c in
    let w = point_at p at xs in
    let is = x.initial_values.items in
    let ys = with_initial ns x.first.0 is xs in
    let long = length-with_initial ns x.first.0 is xs ∙ l in
    by_places ns (entered (privates_of g x) w) (point_at p (Some c) ys)
    (λ k b.
    let n = name_at ns k in
    elim (is_private x.first.0 (length is) k) [
      | inl r ↦
          let there = private_home p s c d x k i b r.0 r.1 in
          ap (λ o. initial_value o (w n)) (private_named g x k None s.distinct r.0 r.1 b)
          ∙ sym (known_point p (Some c) ys k s.distinct long b
          ∙ ap (λ (h : Scope). cond (may_read cs (Some c) h) (value_at ys k) (number 0)) there
          ∙ ap (λ q. cond q (value_at ys k) (number 0)) (around_itself cs c)
          ∙ begun_in ns x.first.0 is xs k None r.0 r.1 (omega (arith, l)))
      | inr out ↦
          let other = other_home p s c d x k i b out in
          ap (λ o. initial_value o (w n)) (other_named g x k s.distinct out b)
          ∙ known_point p at xs k s.distinct l b
          ∙ ap (λ q. cond q (value_at xs k) (number 0)) (sym (read_inside cs (home p n) c d i.nested i.deep other))
          ∙ ap (λ y. cond (may_read cs (Some c) (home p n)) y (number 0)) (sym (kept ns x.first.0 is xs k out))
          ∙ sym (known_point p (Some c) ys k s.distinct long b)
    ])
    (λ n e.
    ap (λ o. initial_value o (w n)) (lacking_named g x n e) ∙ lacking_point p at xs n e ∙ sym (lacking_point p (Some c) ys n e))

-- the point behind a child
pub left_point : (p : Parts) (s : AreSorted p) (c d : ℕ) (x : Child) (xs ys : List meaning.Value) → IsInside p c d x → length xs ≡ length p.terms.names → length ys ≡ length p.terms.names → left_behind (privates_of p.terms x) (point_at p (around p.children.items c) xs) (point_at p (Some c) ys) ≡ point_at p (around p.children.items c) ys
left_point p s c d x xs ys i l m =
    let g = p.terms in
    let ns = g.names in
    let cs = p.children.items in
    let at = around cs c in
    let before = point_at p at xs in
    let last = point_at p (Some c) ys in
    by_places ns (left_behind (privates_of g x) before last) (point_at p at ys)
    (λ k b.
    let n = name_at ns k in
    elim (is_private x.first.0 (length x.initial_values.items) k) [
      | inl r ↦
          let there = private_home p s c d x k i b r.0 r.1 in
          let outside : may_read cs at (home p n) ≡ false = ap (may_read cs at) there ∙ not_around cs c d i.deep in
          ap (λ (o : Option StateDeclaration). cond (is_some o) (before n) (last n)) (private_named g x k None s.distinct r.0 r.1 b)
          ∙ known_point p at xs k s.distinct l b
          ∙ ap (λ q. cond q (value_at xs k) (number 0)) outside
          ∙ sym (known_point p at ys k s.distinct m b ∙ ap (λ q. cond q (value_at ys k) (number 0)) outside)
      | inr out ↦
          let other = other_home p s c d x k i b out in
          ap (λ (o : Option StateDeclaration). cond (is_some o) (before n) (last n)) (other_named g x k s.distinct out b)
          ∙ known_point p (Some c) ys k s.distinct m b
          ∙ ap (λ q. cond q (value_at ys k) (number 0)) (read_inside cs (home p n) c d i.nested i.deep other)
          ∙ sym (known_point p at ys k s.distinct m b)
    ])
    (λ n e.
    ap (λ (o : Option StateDeclaration). cond (is_some o) (before n) (last n)) (lacking_named g x n e)
    ∙ lacking_point p (Some c) ys n e ∙ sym (lacking_point p at ys n e))
