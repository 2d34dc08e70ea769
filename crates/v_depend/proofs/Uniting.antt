-- Tables that are united, name by name.
use Rattle.std.proofs.Common.{◌≡◌, ◌∙◌, ℕ, ◌+◌, ◌<◌, refl, ap, sym, Bool, true, false, cond, List, [], ◌∷◌, length, drop, get_or, Bor, Some, unwrap_or, bit_or}
use Rattle.std.specs.Prelude.{◌&&◌, ◌||◌}
use Rattle.std.specs.Ordering.{nat_cmp}
use Rattle.std.specs.Cmp.Lexicographic.{slice_cmp}
use Rattle.std.specs.BTreeMap as tree
use Rattle.std.specs.BTreeMap.{BTreeMap, is_at}
use Rattle.std.specs.Map.{lookup}
use Rattle.std.proofs.lemmas.Bool.{false≢true, or_left, or_right, and_from, cases_Bool}
use Rattle.std.proofs.lemmas.Slice.Eq.{bytes_eq-Decides}
use Rattle.std.proofs.lemmas.Map.Text.{btree_map_updates_str, is_eq-slice_cmp}
use Rattle.std.proofs.lemmas.List.{drop_more}
use Rattle.std.specs.Prelude.{◌⊎◌}
use Rattle.std.proofs.Common.{inl, inr}
use Rattle.wb_values.specs.Value.{Name, same_name}
use Rattle.verilog_meaning.specs.Register.{is_set}
use Rattle.verilog_designs.specs.Reads.{BitSet, no_bits, or_in}
use Rattle.v_flow.proofs.Sets.{or_false, or-none, turn}
use Rattle.v_hier.specs.Tables.{under_name}
use Rattle.v_masks.specs.Masks.{mask_under, masked}
use Rattle.v_masks.proofs.Bits.{set-none, set-or}
use Rattle.v_depend.specs.Running.{of_name, of_names}

module _ (from old new : BTreeMap (Bor (List ℕ)) ℕ) (x : Bor (List ℕ)) (v w m : ℕ) (was : v ≡ mask_under old x.now) (here : w ≡ mask_under from x.now) (is : m ≡ bit_or v w)
    (u : tree.Updates (λ a b. slice_cmp nat_cmp a.now b.now) old new x (Some m)) where
  same : (q : Name) (b : ℕ) → same_name x.now q ≡ true → is_set m b ≡ (is_set (mask_under old q) b || is_set (mask_under from q) b)
  same q b h =
      ap (λ z. is_set z b) is ∙ set-or v w b ∙ ap (λ z. is_set z b || is_set w b) was ∙ ap (λ z. is_set (mask_under old x.now) b || is_set z b) here
      ∙ ap (λ n. is_set (mask_under old n) b || is_set (mask_under from n) b) ((bytes_eq-Decides x.now q).0 h)

  by-name : (q : Name) (b : ℕ) (t : Bool) → same_name x.now q ≡ t
      → is_set (unwrap_or (cond t (Some m) (under_name old q)) 0) b ≡ (is_set (mask_under old q) b || (t && is_set (mask_under from q) b))
  by-name q b true h = same q b h
  by-name q b false h = sym (or_false (is_set (mask_under old q) b))

  at : (q : Name) (k b : ℕ) → masked new q k b ≡ or_in (masked old) (of_name x.now (masked from)) q k b
  at q k b = ap (λ o. is_set (unwrap_or o 0) b) (btree_map_updates_str x.now old new (Some m) u q) ∙ by-name q b (same_name x.now q) refl

  pub name-added : masked new ≡ or_in (masked old) (of_name x.now (masked from))
  name-added = λ i q k b. at q k b i

-- the turn of a loop over entries
pub names-turn : (p : BitSet) (es : List (Bor (List ℕ) × ℕ)) (i : ℕ) (d : Bor (List ℕ) × ℕ) (t m n : BitSet) → i < length es → n ≡ or_in m (of_name (get_or es i d).0.now p)
    → t ≡ or_in m (of_names (drop i es) p) → t ≡ or_in n (of_names (drop (i + 1) es) p)
names-turn p es i d t m n h e g =
    turn t m n (of_name (get_or es i d).0.now p) (of_names (drop (i + 1) es) p) (g ∙ ap (λ ys. or_in m (of_names ys p)) (drop_more es i d h)) e

-- ---- all names of a table

test : Name → Bor (List ℕ) → Bool
test n = is_at (λ (c : Bor (List ℕ)). slice_cmp nat_cmp n c.now)

found : (n : Name) (c : Bor (List ℕ)) → test n c ≡ true → same_name c.now n ≡ true
unfolding test
found n c h = (bytes_eq-Decides c.now n).1 (sym ((bytes_eq-Decides n c.now).0 (sym (is_eq-slice_cmp n c.now) ∙ h)))

has-name : (es : List (Bor (List ℕ) × ℕ)) (n : Name) (k b : ℕ) (p : BitSet) → is_set (unwrap_or (lookup (test n) es) 0) b ≡ true → p n k b ≡ true → of_names es p n k b ≡ true
has-name [] n k b p h g = absurd (false≢true (sym (set-none b) ∙ h))
has-name (e ∷ es) n k b p h g =
    elim (cases_Bool (test n e.0)) [
      | inl t ↦ or_left (of_name e.0.now p n k b) (of_names es p n k b) (and_from (same_name e.0.now n) (p n k b) (found n e.0 t) g)
      | inr t ↦ or_right (of_name e.0.now p n k b) (of_names es p n k b)
          (has-name es n k b p (sym (ap (λ q. is_set (unwrap_or (cond q (Some e.1) (lookup (test n) es)) 0) b) t) ∙ h) g)
    ]

no-more : (es : List (Bor (List ℕ) × ℕ)) (n : Name) (k b : ℕ) (p : BitSet) → p n k b ≡ false → of_names es p n k b ≡ false
no-more [] n k b p h = refl
no-more (e ∷ es) n k b p h = ap (λ t. (same_name e.0.now n && t) || of_names es p n k b) h ∙ none (same_name e.0.now n) (of_names es p n k b) (no-more es n k b p h)
  where
    none : (a c : Bool) → c ≡ false → (a && false) || c ≡ false
    none true c e = e
    none false c e = e

all-names : (t : BTreeMap (Bor (List ℕ)) ℕ) (n : Name) (k b : ℕ) → of_names t.entries (masked t) n k b ≡ masked t n k b
unfolding test
all-names t n k b = at (cases_Bool (masked t n k b))
  where
    at : (masked t n k b ≡ true) ⊎ (masked t n k b ≡ false) → of_names t.entries (masked t) n k b ≡ masked t n k b
    at (inl h) = has-name t.entries n k b (masked t) h h ∙ sym h
    at (inr h) = no-more t.entries n k b (masked t) h ∙ sym h

pub united : (t : BTreeMap (Bor (List ℕ)) ℕ) (es : List (Bor (List ℕ) × ℕ)) (old new : BitSet) → es ≡ t.entries → new ≡ or_in old (of_names es (masked t)) → new ≡ or_in old (masked t)
united t es old new e h = h ∙ ap (λ ys. or_in old (of_names ys (masked t))) e ∙ ap (or_in old) (λ i n k b. all-names t n k b i)

-- an empty table
pub none-masked : (t : BTreeMap (Bor (List ℕ)) ℕ) → t.entries ≡ [] → masked t ≡ no_bits
none-masked t e = λ i n k b. at n b i
  where
    at : (n : Name) (b : ℕ) → is_set (mask_under t n) b ≡ false
    at n b = ap (λ (es : List (Bor (List ℕ) × ℕ)). is_set (unwrap_or (lookup (is_at (λ (c : Bor (List ℕ)). slice_cmp nat_cmp n c.now)) es) 0) b) e ∙ set-none b

pub from-none : (t : BTreeMap (Bor (List ℕ)) ℕ) (new p : BitSet) → t.entries ≡ [] → new ≡ or_in (masked t) p → new ≡ p
from-none t new p e h = h ∙ ap (λ (z : BitSet). or_in z p) (none-masked t e) ∙ (λ i n k b. p n k b)

pub names-ended : (t m : BitSet) (es : List (Bor (List ℕ) × ℕ)) (p : BitSet) → es ≡ [] → t ≡ or_in m (of_names es p) → m ≡ t
names-ended t m es p e h = sym (h ∙ ap (λ ys. or_in m (of_names ys p)) e ∙ or-none m)
