-- Names found by their places, and numbers that are too large to fit.
use Rattle.std.proofs.Common.{Vec, Global, slice_index, bit_and, ◌&&◌, ◌==◌, ◌≡◌, ℕ, zero, suc, ◌+◌, ◌^◌, ◌<◌, ◌≤◌, Bool, true, false, cond, nat_lt, List, [], ◌∷◌, map, length, get_or, Option, Some, None, arith, refl, ap, sym, subst, ◌∙◌, take, drop}
use Rattle.std.specs.Prelude.{option_map, IfSome, IsTrue}
use Rattle.std.proofs.lemmas.Bool.Decides.{nat_tests}
use Rattle.std.proofs.Math.Nat.{pow-le-pow_right}
use Rattle.wb_values.specs.Value.{Name, same_name}
use Rattle.wb_values.specs.Choice.{some_if}
use Rattle.scripts.specs.Script as meaning
use Rattle.scripts.specs.Script.{settable_named, fitting, word_named, word_at_address, set_named, set_of, set_in, numeral_in, before_bracket, at_last}
use Rattle.ila_sim.specs.declared.names.Kind.{Kind}
use Rattle.ila_sim.specs.declared.names.Kind.TheVariants.{Truth, Word, Memory}
use Rattle.ila_sim.specs.declared.names.Settable.{Settable}
use Rattle.ila_sim.specs.Cuts.{below, cut_at}
use Rattle.ila_sim.specs.declared.set.Set.{Set}
use Rattle.ila_sim.specs.Sets.{set_at, set_called, suits, suits_at, is_right}
use Rattle.ila_sim.specs.Kinds.{addresses_of, fits_of, width_of, end_of}
use Rattle.ila_sim.specs.Names.{settable_of, fits_under}
use Rattle.ila_sim.specs.Places.{place_from, called_at}

pub record IsAt (es : List Settable) (n : Name) (m : ℕ) : Type 0 where
  pub within : m < length es
  pub found : (d : Settable) → settable_named (map settable_of es) n ≡ Some (settable_of (get_or es m d))
  pub called : (d : Settable) → called_at (map settable_of es) m ≡ (get_or es m d).name.items

IsFound : (es : List Settable) (n : Name) (j : ℕ) → Option ℕ → Type 0
IsFound es n j None = settable_named (map settable_of es) n ≡ None
IsFound es n j (Some k) = (m : ℕ) × (k ≡ j + m) × IsAt es n m

found_next : (e : Settable) (es : List Settable) (n : Name) (j : ℕ) (o : Option ℕ) → same_name e.name.items n ≡ false → IsFound es n (suc j) o → IsFound (e ∷ es) n j o
unfolding IsFound
found_next e es n j None h f = rw h f
found_next e es n j (Some k) h f = (
  suc f.0,
  omega (arith, f.1),
  record {
    within = omega (arith, f.2.within);
    found = λ d. rw h (f.2.found d);
    called = λ d. f.2.called d;
  },
)

found_now : (e : Settable) (es : List Settable) (n : Name) (j : ℕ) → same_name e.name.items n ≡ true → IsFound (e ∷ es) n j (Some j)
unfolding IsFound
found_now e es n j h = (0, omega arith, record { within = omega arith; found = λ d. rw h refl; called = λ d. refl })

found_either : (e : Settable) (es : List Settable) (n : Name) (j : ℕ) (t : Bool) → same_name e.name.items n ≡ t → IsFound es n (suc j) (place_from (suc j) (map settable_of es) n)
    → IsFound (e ∷ es) n j (cond t (Some j) (place_from (suc j) (map settable_of es) n))
found_either e es n j true h f = found_now e es n j h
found_either e es n j false h f = found_next e es n j (place_from (suc j) (map settable_of es) n) h f

found_from : (es : List Settable) (n : Name) (j : ℕ) → IsFound es n j (place_from j (map settable_of es) n)
unfolding IsFound
found_from [] n j = refl
found_from (e ∷ es) n j = found_either e es n j (same_name e.name.items n) refl (found_from es n (suc j))

pub is_at : (es : List Settable) (n : Name) (k : ℕ) → Some k ≡ place_from 0 (map settable_of es) n → IsAt es n k
unfolding IsFound
is_at es n k e =
    let f : IsFound es n 0 (Some k) = subst (λ o. IsFound es n 0 o) (sym e) (found_from es n 0) in
    let same : f.0 ≡ k = omega (arith, f.1) in
    subst (λ m. IsAt es n m) same f.2

pub is_nowhere : (es : List Settable) (n : Name) → None ≡ place_from 0 (map settable_of es) n → settable_named (map settable_of es) n ≡ None
unfolding IsFound
is_nowhere es n e = subst (λ o. IsFound es n 0 o) (sym e) (found_from es n 0)

-- ---- numbers past all that fit

below_power : (w limit x : ℕ) → 2 ^ w ≤ limit → limit ≤ x → nat_lt x (2 ^ w) ≡ false
below_power w limit x h k = grind (arith, nat_tests)

past_two : (limit x : ℕ) → 2 ^ 1 ≤ limit → limit ≤ x → nat_lt x 2 ≡ false
past_two limit x h k = grind (arith, nat_tests)

fits_none : (kind : Kind) (limit : ℕ) → 2 ^ width_of kind ≤ limit → (k x : ℕ) → limit ≤ x → fits_of kind k x ≡ false
fits_none Truth limit h k x g = past_two limit x h g
fits_none (Word w) limit h k x g = below_power w limit x h g
fits_none (Memory least count w) limit h k x g = below_power w limit x h g

masked_none : (masks : Option (Vec ℕ Global)) (fits : ℕ → ℕ → Bool) (k x : ℕ) → fits k x ≡ false → fits_under masks fits k x ≡ false
masked_none None fits k x h = h
masked_none (Some m) fits k x h = ap (λ b. b && (bit_and x (slice_index m.items k) == x)) h

fit_by : (s : meaning.Settable) (k x limit : ℕ) (t : Bool) → nat_lt x limit ≡ t → (limit ≤ x → s.fits k x ≡ false) → fitting s (Some k) (some_if t x) ≡ fitting s (Some k) (Some x)
fit_by s k x limit true e h = refl
fit_by s k x limit false e h = rw (h (at_least x limit e)) refl where
  at_least : (a b : ℕ) → nat_lt a b ≡ false → b ≤ a
  at_least a b g = grind (arith, nat_tests)

small_value : (limit : ℕ) (e : Settable) (k x : Option ℕ) → 2 ^ width_of e.kind ≤ limit → fitting (settable_of e) k (below limit x) ≡ fitting (settable_of e) k x
small_value limit e None None h = refl
small_value limit e None (Some x) h = shown (nat_lt x limit) where
  shown : (t : Bool) → fitting (settable_of e) None (some_if t x) ≡ None
  shown true = refl
  shown false = refl
small_value limit e (Some k) None h = refl
small_value limit e (Some k) (Some x) h = fit_by (settable_of e) k x limit (nat_lt x limit) refl
    (λ g. masked_none e.masks (fits_of e.kind) k x (fits_none e.kind limit h k x g))

outside : (least count limit a : ℕ) (t : Bool) → nat_lt a limit ≡ t → least + count ≤ limit → word_named (Some (least, count)) (Some (some_if t a)) ≡ word_named (Some (least, count)) (Some (Some a))
outside least count limit a true e h = refl
outside least count limit a false e h = sym (past_end least count a (at_least a limit e h)) where
  at_least : (x y : ℕ) → nat_lt x y ≡ false → least + count ≤ y → least + count ≤ x
  at_least x y g h' = grind (arith, nat_tests)

  past_end : (l n x : ℕ) → l + n ≤ x → word_at_address (l, n) x ≡ None
  past_end l n x g = grind (arith, nat_tests)

small_address : (kind : Kind) (limit : ℕ) (a : Option ℕ) → end_of kind ≤ limit → word_named (addresses_of kind) (Some (below limit a)) ≡ word_named (addresses_of kind) (Some a)
small_address Truth limit a h = refl
small_address (Word w) limit a h = refl
small_address (Memory least count w) limit None h = refl
small_address (Memory least count w) limit (Some a) h = outside least count limit a (nat_lt a limit) refl h

named_settable : (P : Option meaning.Settable → Type 0) (es : List Settable) (n : Name) → P None → ((e : Settable) → P (Some (settable_of e))) → P (settable_named (map settable_of es) n)
named_settable P [] n p f = p
named_settable P (e ∷ es) n p f = shown (same_name e.name.items n) (named_settable P es n p f) where
  shown : (t : Bool) → P (settable_named (map settable_of es) n) → P (cond t (Some (settable_of e)) (settable_named (map settable_of es) n))
  shown true q = f e
  shown false q = q

pub any_value : (es : List Settable) (n : Name) (a : Option (Option ℕ)) (x : Option ℕ)
    → set_named (settable_named (map settable_of es) n) a (below (2 ^ 128) x) ≡ set_named (settable_named (map settable_of es) n) a x
any_value es n a x =
    named_settable (λ o. set_named o a (below (2 ^ 128) x) ≡ set_named o a x) es n refl
    (λ e. small_value (2 ^ 128) e (word_named (addresses_of e.kind) a) x (pow-le-pow_right (omega arith) e.narrow))

pub any_address : (es : List Settable) (n : Name) (a x : Option ℕ)
    → set_named (settable_named (map settable_of es) n) (Some (below (2 ^ 128) a)) x ≡ set_named (settable_named (map settable_of es) n) (Some a) x
any_address es n a x =
    named_settable (λ o. set_named o (Some (below (2 ^ 128) a)) x ≡ set_named o (Some a) x) es n refl
    (λ e. ap (λ k. fitting (settable_of e) k x) (small_address e.kind (2 ^ 128) a (omega (arith, e.near))))

pub within_of : (es : List Settable) (n : Name) (o : Option ℕ) → o ≡ place_from 0 (map settable_of es) n → IfSome o (λ k. k < length es)
within_of es n None e = tt
within_of es n (Some k) e = (is_at es n k e).within

pub set_there : (es : List Settable) (n : Name) (k : ℕ) (d : Settable) (a : Option (Option ℕ)) (x : Option ℕ) (r : Option Set) → IsAt es n k
    → option_map (set_called (get_or es k d).name.items) r ≡ fitting (settable_of (get_or es k d)) (word_named (addresses_of (get_or es k d).kind) a) x
    → IfSome r (λ s. s.place ≡ k) → option_map (set_at (map settable_of es)) r ≡ set_named (settable_named (map settable_of es) n) a x
set_there es n k d a x None at e p = e ∙ sym (ap (λ o. set_named o a x) (at.found d))
set_there es n k d a x (Some s) at e p =
    ap (λ i. Some (set_called (called_at (map settable_of es) i) s)) p
    ∙ (ap (λ m. Some (set_called m s)) (at.called d)
    ∙ (e ∙ sym (ap (λ o. set_named o a x) (at.found d))))

suits_there : (es : List Settable) (k : ℕ) (d : Settable) (s : Set) → k < length es → suits (settable_of (get_or es k d)) s ≡ true → suits_at (map settable_of es) k s ≡ true
suits_there [] k d s h g = absurd (omega arith)
suits_there (e ∷ es) zero d s h g = g
suits_there (e ∷ es) (suc k) d s h g = suits_there es k d s (omega arith) g

pub right_there : (es : List Settable) (k : ℕ) (d : Settable) (r : Option Set) → k < length es → IfSome r (λ s. s.place ≡ k)
    → IfSome r (λ s. IsTrue (suits (settable_of (get_or es k d)) s)) → IfSome r (λ s. IsTrue (is_right (map settable_of es) s))
right_there es k d None h p g = tt
right_there es k d (Some s) h p g = subst (λ i. suits_at (map settable_of es) i s ≡ true) (sym p) (suits_there es k d s h g)

pub set_of_there : (es : List Settable) (left right : List ℕ) (k : ℕ) (a x : Option ℕ) (r : Option meaning.Set) → at_last 91 left ≡ Some (cut_at left k) → right ≡ drop (suc k) left
    → a ≡ below (2 ^ 128) (before_bracket (at_last 93 right)) → r ≡ set_named (settable_named (map settable_of es) (take k left)) (Some a) x
    → r ≡ set_of (map settable_of es) left (at_last 91 left) x
set_of_there es left right k a x r cut same e f =
    f
    ∙ (ap (λ b. set_named (settable_named (map settable_of es) (take k left)) (Some b) x) e
    ∙ (any_address es (take k left) (before_bracket (at_last 93 right)) x
    ∙ (ap (λ t. set_named (settable_named (map settable_of es) (take k left)) (Some (before_bracket (at_last 93 t))) x) same
    ∙ sym (ap (λ o. set_of (map settable_of es) left o x) cut))))

any_set : (es : List Settable) (left : List ℕ) (o : Option (List ℕ × List ℕ)) (x : Option ℕ) → set_of (map settable_of es) left o (below (2 ^ 128) x) ≡ set_of (map settable_of es) left o x
any_set es left None x = any_value es left None x
any_set es left (Some parts) x = any_value es parts.0 (Some (before_bracket (at_last 93 parts.1))) x

pub set_in_there : (es : List Settable) (text right : List ℕ) (k : ℕ) (x : Option ℕ) (r : Option meaning.Set) → at_last 61 text ≡ Some (cut_at text k) → right ≡ drop (suc k) text
    → x ≡ below (2 ^ 128) (numeral_in right) → r ≡ set_of (map settable_of es) (take k text) (at_last 91 (take k text)) x
    → r ≡ set_in (map settable_of es) text
set_in_there es text right k x r cut same e f =
    f
    ∙ (ap (λ v. set_of (map settable_of es) (take k text) (at_last 91 (take k text)) v) e
    ∙ (any_set es (take k text) (at_last 91 (take k text)) (numeral_in right)
    ∙ (ap (λ t. set_of (map settable_of es) (take k text) (at_last 91 (take k text)) (numeral_in t)) same
    ∙ sym (ap (λ o. meaning.set_from (map settable_of es) o) cut))))

-- the name at a place of the list
pub called_there : (es : List Settable) (k : ℕ) (d : Settable) → k < length es → called_at (map settable_of es) k ≡ (get_or es k d).name.items
called_there [] k d h = absurd (omega (arith, h))
called_there (e ∷ es) zero d h = refl
called_there (e ∷ es) (suc k) d h = called_there es k d (omega (arith, h))
