-- Lemmas on points: what of a point changes, and what a point holds.
use Rattle.std.proofs.Common.{◌≡◌, ℕ, ◌<◌, List, length, Option, Some, None, sym, ap, subst, arith}
use Rattle.std.specs.Prelude.{Result, Ok, Err, OnOk}
use Rattle.sparse_memories.specs.declared.pool.Memory.{Memory}
use Rattle.sparse_memories.specs.Nodes.{Content}
use Rattle.wb_values.specs.Value as meaning
use Rattle.wb_values.specs.Value.{Sort, truth, word, memory, truth_value, number, words, numeral_of}
use Rattle.wb_bits.specs.declared.Word.{Word}
use Rattle.wb_terms.specs.Graph.{Graph}
use Rattle.wb_terms.specs.Held.{IsHeldBy}
use Rattle.term_evaluation.specs.Pending.{stamp_at, AreNotAfter, AreKept}
use Rattle.term_evaluation.specs.Points.{PointView}

abbrev pub point : (values aside : List meaning.Value) → List Word → List Memory → List ℕ → ℕ → Content → PointView
point vs xs ws ls ss t p = record { values = vs; aside = xs; words = ws; links = ls; stamps = ss; time = t; pool = p }

-- A point of which nothing changed but what was put aside.
pub other_aside : (x : PointView) (f : PointView → List meaning.Value) (vs xs ys : List meaning.Value) (ws : List Word) (ls : List Memory) (ss : List ℕ) (t : ℕ) (p : Content) → point vs xs ws ls ss t p ≡ x
    → ys ≡ f (point vs xs ws ls ss t p) → point vs ys ws ls ss t p ≡ record x { aside = f x }
other_aside x f vs xs ys ws ls ss t p e h = subst (λ (y : PointView). point vs ys ws ls ss t p ≡ record y { aside = f y }) e (ap (λ (zs : List meaning.Value). point vs zs ws ls ss t p) h)

-- Where all stamps are earlier than the time, nothing is kept.
pub nothing_kept : (g : Graph) (xs ys : List meaning.Value) (p q : Content) (ws : List Word) (ls : List Memory) (ss us : List ℕ) (t u : ℕ) → AreKept g xs p ws ls ss t → length us ≡ length ss → ((k : ℕ) → stamp_at us k < u)
    → AreKept g ys q ws ls us u
nothing_kept g xs ys p q ws ls ss us t u old e h =
    let room = old.2 in
    (old.0, old.1, omega (arith, room, e), λ k b s. let l = h k in absurd (omega (arith, s, l)))

pub all_before : (ss : List ℕ) (u : ℕ) → ((k : ℕ) → stamp_at ss k < u) → AreNotAfter u ss
all_before ss u h k = let l = h k in omega (arith, l)

-- what is kept, in lists that are equal
pub kept_in : (g : Graph) (xs : List meaning.Value) (p : Content) (ws us : List Word) (ls ms : List Memory) (ss ts : List ℕ) (t : ℕ) → us ≡ ws → ms ≡ ls → ts ≡ ss → AreKept g xs p ws ls ss t → AreKept g xs p us ms ts t
kept_in g xs p ws us ls ms ss ts t e f h k =
    subst (λ (us : List Word). AreKept g xs p us ms ts t) (sym e)
    (subst (λ (ms : List Memory). AreKept g xs p ws ms ts t) (sym f) (subst (λ (ts : List ℕ). AreKept g xs p ws ls ts t) (sym h) k))

pub where_ok : {T E : Type 0} (r : Result T E) (P Q : Type 0) → OnOk r P → (P → Q) → OnOk r Q
where_ok (Ok x) P Q h f = f h
where_ok (Err e) P Q h f = tt

-- the number of a word that stands for a value
pub numeral_held : (o : Option Sort) (v : meaning.Value) (w n : ℕ) → IsHeldBy o v w n → n ≡ numeral_of v
numeral_held None v w n h = absurd h
numeral_held (Some truth) (truth_value b) w n h = h.1
numeral_held (Some truth) (number m) w n h = absurd h
numeral_held (Some truth) (words ws) w n h = absurd h
numeral_held (Some (word u)) (truth_value b) w n h = absurd h
numeral_held (Some (word u)) (number m) w n h = h.1
numeral_held (Some (word u)) (words ws) w n h = absurd h
numeral_held (Some (memory a d)) (truth_value b) w n h = absurd h
numeral_held (Some (memory a d)) (number m) w n h = absurd h
numeral_held (Some (memory a d)) (words ws) w n h = h.1
