-- Words of a line that set again what words before them set.
use Rattle.std.proofs.Common.{◌≡◌, ℕ, ◌<◌, Bool, true, false, cond, ◌&&◌, ◌||◌, List, [], ◌∷◌, map, length, Option, Some, None, option_map, IsTrue, IfSome, refl, sym, ap, ◌∙◌, subst, arith}
use Rattle.std.specs.Prelude.{◌==◌}
use Rattle.std.specs.List.{list_any}
use Rattle.std.specs.Ordering.{nat_cmp}
use Rattle.std.specs.BTreeMap.{is_at}
use Rattle.std.specs.BTreeSet as sorted
use Rattle.std.specs.BTreeSet.{BTreeSet}
use Rattle.wb_values.specs.Choice.{first_of, some_if}
use Rattle.std.specs.Prelude.{codes}
use Rattle.scripts.specs.Script as meaning
use Rattle.scripts.specs.Script.{set_in, is_same_word, words_of}
use Rattle.ila_sim.specs.declared.names.Settable.{Settable}
use Rattle.ila_sim.specs.declared.set.Set.{Set}
use Rattle.ila_sim.specs.Faults.{Fault, fault, word_fault, with_setting, words_fault}
use Rattle.ila_sim.specs.Names.{are_apart, settable_of}
use Rattle.ila_sim.specs.Places.{has_number}
use Rattle.ila_sim.specs.Sets.{set_at, key_of, is_right, are_right}
use Rattle.ila_sim.proofs.Apart.{any_same, within_from, suits_within}
use Rattle.ila_sim.proofs.UnderNames.{has_more, turned}

-- These settings are what the words so far set: the fault of all words is that of the words that are left.
pub record IsPast (es : List Settable) (seen : BTreeSet ℕ) (all left : List (List ℕ)) (before : List Set) : Type 0 where
  pub same : words_fault (map settable_of es) [] all ≡ words_fault (map settable_of es) (map (set_at (map settable_of es)) before) left
  pub right : are_right (map settable_of es) before ≡ true
  pub kept : (n : ℕ) → has_number seen n ≡ list_any (λ m. n == m) (map key_of before)

abbrev pub IsSeen : List Settable → BTreeSet ℕ → (all left : List (List ℕ)) → Type 0
IsSeen es seen all left = (before : List Set) × IsPast es seen all left before

pub none_seen : (es : List Settable) (seen : BTreeSet ℕ) (all : List (List ℕ)) → seen.keys ≡ [] → IsSeen es seen all all
none_seen es seen all e = ([], record { same = refl; right = refl; kept = λ n. ap (λ ks. list_any (is_at (nat_cmp n)) ks) e })

first_left : (es : List Settable) (before : List meaning.Set) (left ws : List (List ℕ)) (w : List ℕ) (o : Option meaning.Set) → left ≡ w ∷ ws → o ≡ set_in (map settable_of es) w
    → words_fault (map settable_of es) before left ≡ first_of (word_fault before w o) (words_fault (map settable_of es) (with_setting o before) ws)
first_left es before left ws w o e f =
    ap (words_fault (map settable_of es) before) e
    ∙ ap (λ s. first_of (word_fault before w s) (words_fault (map settable_of es) (with_setting s before) ws)) (sym f)

-- the end of the line
pub none_left : (es : List Settable) (seen : BTreeSet ℕ) (all left : List (List ℕ)) → IsSeen es seen all left → left ≡ [] → None ≡ words_fault (map settable_of es) [] all
none_left es seen all left p e = sym (p.1.same ∙ ap (words_fault (map settable_of es) (map (set_at (map settable_of es)) p.0)) e)

-- a word that sets nothing
pub sets_nothing : (es : List Settable) (seen : BTreeSet ℕ) (all left ws : List (List ℕ)) (w : List ℕ) → IsSeen es seen all left → left ≡ w ∷ ws
    → None ≡ set_in (map settable_of es) w → Some (fault w []) ≡ words_fault (map settable_of es) [] all
sets_nothing es seen all left ws w p e f = sym (p.1.same ∙ first_left es (map (set_at (map settable_of es)) p.0) left ws w None e f)

stood : (es : List Settable) (seen : BTreeSet ℕ) (all left : List (List ℕ)) (p : IsSeen es seen all left) (s : Set) → are_apart (map settable_of es) ≡ true → is_right (map settable_of es) s ≡ true
    → list_any (is_same_word (set_at (map settable_of es) s)) (map (set_at (map settable_of es)) p.0) ≡ has_number seen (key_of s)
stood es seen all left p s a r =
    sym (any_same (map settable_of es) s p.0 a (suits_within (map settable_of es) s.place s r) (within_from (map settable_of es) p.0 p.1.right))
    ∙ sym (p.1.kept (key_of s))

-- a word that sets again what is set
pub sets_again : (es : List Settable) (seen : BTreeSet ℕ) (all left ws : List (List ℕ)) (w : List ℕ) (s : Set) (k : ℕ) → IsSeen es seen all left → left ≡ w ∷ ws
    → Some (set_at (map settable_of es) s) ≡ set_in (map settable_of es) w → are_apart (map settable_of es) ≡ true → is_right (map settable_of es) s ≡ true
    → k ≡ key_of s → has_number seen k ≡ true → Some (fault w (codes " again")) ≡ words_fault (map settable_of es) [] all
sets_again es seen all left ws w s k p e f a r g h =
    let before = map (set_at (map settable_of es)) p.0 in
    let here : meaning.Set = set_at (map settable_of es) s in
    let again : list_any (is_same_word here) before ≡ true = stood es seen all left p s a r ∙ (ap (has_number seen) (sym g) ∙ h) in
    sym (p.1.same
    ∙ (first_left es before left ws w (Some here) e f
    ∙ ap (λ b. first_of (some_if b (fault w (codes " again"))) (words_fault (map settable_of es) (here ∷ before) ws)) again))

found_one : (b : Bool) (r : Bool) → cond b true r ≡ (b || r)
found_one true r = refl
found_one false r = refl

-- a word that sets what is not set
pub sets_one : (es : List Settable) (seen new : BTreeSet ℕ) (all left ws : List (List ℕ)) (w : List ℕ) (s : Set) (k : ℕ) → IsSeen es seen all left → left ≡ w ∷ ws
    → Some (set_at (map settable_of es) s) ≡ set_in (map settable_of es) w → are_apart (map settable_of es) ≡ true → is_right (map settable_of es) s ≡ true
    → k ≡ key_of s → has_number seen k ≡ false → sorted.Updates nat_cmp seen new k true → IsSeen es new all ws
sets_one es seen new all left ws w s k p e f a r g h u =
    let before = map (set_at (map settable_of es)) p.0 in
    let here : meaning.Set = set_at (map settable_of es) s in
    let first : list_any (is_same_word here) before ≡ false = stood es seen all left p s a r ∙ (ap (has_number seen) (sym g) ∙ h) in (
      s ∷ p.0,
      record {
        same =
            p.1.same
            ∙ (first_left es before left ws w (Some here) e f
            ∙ ap (λ b. first_of (some_if b (fault w (codes " again"))) (words_fault (map settable_of es) (here ∷ before) ws)) first);
        right = rw (r, p.1.right) refl;
        kept = λ n.
            has_more seen new k true u n
            ∙ (found_one (k == n) (has_number seen n)
            ∙ (ap (λ b. b || has_number seen n) (turned k n ∙ ap (λ m. n == m) g)
            ∙ ap (λ b. (n == key_of s) || b) (p.1.kept n)));
      },
    )
