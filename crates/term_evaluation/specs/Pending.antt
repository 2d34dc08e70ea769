-- Terms that are to be evaluated, each for the one before it, by the times at which terms were evaluated last.
use Rattle.std.specs.Prelude.{ℕ, zero, suc, ◌+◌, ◌<◌, ◌≤◌, ◌≡◌, ◌==◌, cond, List, [], ◌∷◌, length, Option, Some, None, ⊤, slice_index_or}
use Rattle.sparse_memories.specs.Nodes.{Content}
use Rattle.sparse_memories.specs.declared.pool.Memory.{Memory}
use Rattle.wb_values.specs.Value as meaning
use Rattle.wb_bits.specs.declared.Word.{Word}
use Rattle.wb_terms.specs.declared.nodes.TermId.{TermId}
use Rattle.wb_terms.specs.Graph.{Graph}
use Rattle.term_evaluation.specs.Links.{IsWordHeld, IsLinkHeld}

-- the time at which a term was evaluated
abbrev pub stamp_at : List ℕ → ℕ → ℕ
stamp_at ss k = slice_index_or ss k 0

-- No stamp is later than the time.
abbrev pub AreNotAfter : ℕ → List ℕ → Type 0
AreNotAfter t ss = (k : ℕ) → stamp_at ss k ≤ t

-- A term is open that was not evaluated at this time.
abbrev pub IsOpen : List ℕ → ℕ → ℕ → Type 0
IsOpen ss t k = stamp_at ss k ≡ t → ⊥

-- Each of these terms was.
abbrev pub AreStamped : List ℕ → ℕ → List ℕ → Type 0
AreStamped ss t [] = ⊤
AreStamped ss t (k ∷ ks) = (stamp_at ss k ≡ t) × AreStamped ss t ks

-- the first of these terms that is open
abbrev pub first_open_of : List ℕ → ℕ → List ℕ → Option TermId
first_open_of ss t [] = None
first_open_of ss t (k ∷ ks) = cond (stamp_at ss k == t) (first_open_of ss t ks) (Some (record { 0 = k }))

-- The terms are open and below the bound, and each stands before the one that it is for.
abbrev pub ArePending : List ℕ → ℕ → ℕ → List TermId → Type 0
ArePending ss t n [] = ⊤
ArePending ss t n (x ∷ xs) = (x.0 < n) × IsOpen ss t x.0 × ArePending ss t x.0 xs

-- The first of them is that term; where there is none, that term was evaluated.
abbrev pub IsFor : List ℕ → ℕ → ℕ → List TermId → Type 0
IsFor ss t k [] = stamp_at ss k ≡ t
IsFor ss t k (x ∷ xs) = x.0 ≡ k

-- what the open ones among the first n terms weigh, each as much as m
abbrev pub open_weight : List ℕ → ℕ → (m n : ℕ) → ℕ
open_weight ss t m zero = 0
open_weight ss t m (suc n) = open_weight ss t m n + cond (stamp_at ss n == t) 0 m

-- one more than the last term, or 0 where there is none
abbrev pub last_bound : List TermId → ℕ
last_bound [] = 0
last_bound (x ∷ []) = suc x.0
last_bound (x ∷ y ∷ xs) = last_bound (y ∷ xs)

-- What is left to be done for pending terms of a store of n terms: it becomes less with each term that is added, and with each that is
-- evaluated.
abbrev pub work_left : List ℕ → ℕ → ℕ → List TermId → ℕ
work_left ss t n xs = open_weight ss t (suc n) n + last_bound xs

-- The terms of the store that have the time as their stamp are held, and there is room for the others.
abbrev pub AreKept : Graph → List meaning.Value → Content → List Word → List Memory → List ℕ → ℕ → Type 0
AreKept g xs p ws ls ss t =
    (length g.nodes ≤ length ws)
    × (length g.nodes ≤ length ls)
    × (length g.nodes ≤ length ss)
    × ((k : ℕ) → k < length g.nodes → stamp_at ss k ≡ t → IsWordHeld g xs ws k × IsLinkHeld g xs p ls k)
