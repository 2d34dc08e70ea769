-- The note of the first bad line, line by line.
use Rattle.std.proofs.Common.{◌≡◌, ℕ, suc, Bool, true, false, cond, not, ◌&&◌, List, [], ◌∷◌, Option, Some, None, option_map, refl, sym, ap, ◌∙◌, subst}
use Rattle.std.specs.Prelude.{◌+◌, ◌-◌, ◌^◌, ◌≤◌, min, is_none}
use Rattle.std.proofs.Common.{arith}
use Rattle.std.proofs.lemmas.Bool.{false≢true}
use Rattle.scripts.specs.Script.{Settables, is_skipped}
use Rattle.ila_sim.specs.Faults.{Fault, line_fault, is_bad_line, fault_note, first_bad_note}
use Rattle.ila_sim.proofs.Faulty.{line_told}

turned_not : (b c : Bool) → b ≡ not c → c ≡ not b
turned_not true true h = h
turned_not true false h = refl
turned_not false true h = refl
turned_not false false h = absurd (false≢true h)

bad_by : (names : Settables) (is_first : Bool) (line : List ℕ) (o : Option Fault) → o ≡ line_fault names is_first line → is_bad_line names is_first line ≡ not (is_none o)
bad_by names is_first line o e = turned_not (is_none o) (is_bad_line names is_first line) (ap is_none e ∙ line_told names is_first line)

first_line : (names : Settables) (k : ℕ) (is_first : Bool) (lines rest : List (List ℕ)) (line : List ℕ) (o : Option Fault) (all : Option (List ℕ))
    → all ≡ first_bad_note names (suc k) is_first lines → lines ≡ line ∷ rest → o ≡ line_fault names is_first line
    → all ≡ cond (not (is_none o)) (option_map (fault_note (suc k)) o) (first_bad_note names (suc (suc k)) (is_first && is_skipped line) rest)
first_line names k is_first lines rest line o all e l f =
    e
    ∙ (ap (first_bad_note names (suc k) is_first) l
    ∙ (ap (λ b. cond b (option_map (fault_note (suc k)) (line_fault names is_first line)) (first_bad_note names (suc (suc k)) (is_first && is_skipped line) rest)) (bad_by names is_first line o f)
    ∙ ap (λ p. cond (not (is_none o)) (option_map (fault_note (suc k)) p) (first_bad_note names (suc (suc k)) (is_first && is_skipped line) rest)) (sym f)))

-- a line with a fault
pub noted_here : (names : Settables) (k j : ℕ) (is_first : Bool) (lines rest : List (List ℕ)) (line : List ℕ) (x : Fault) (all : Option (List ℕ)) (text : List ℕ)
    → all ≡ first_bad_note names (suc k) is_first lines → lines ≡ line ∷ rest → Some x ≡ line_fault names is_first line → j ≡ suc k → text ≡ fault_note j x → Some text ≡ all
noted_here names k j is_first lines rest line x all text e l f same g =
    ap (λ t. Some t) (g ∙ ap (λ i. fault_note i x) same) ∙ sym (first_line names k is_first lines rest line (Some x) all e l f)

-- a line without one
pub noted_behind : (names : Settables) (k j : ℕ) (is_first next : Bool) (lines rest : List (List ℕ)) (line : List ℕ) (all : Option (List ℕ))
    → all ≡ first_bad_note names (suc k) is_first lines → lines ≡ line ∷ rest → None ≡ line_fault names is_first line → j ≡ suc k → next ≡ (is_first && is_skipped line)
    → all ≡ first_bad_note names (suc j) next rest
noted_behind names k j is_first next lines rest line all e l f same n =
    first_line names k is_first lines rest line None all e l f
    ∙ (ap (λ i. first_bad_note names (suc i) (is_first && is_skipped line) rest) (sym same)
    ∙ ap (λ b. first_bad_note names (suc j) b rest) (sym n))

pub still_first : (is_first s next : Bool) → is_first ≡ true → next ≡ s → next ≡ (is_first && s)
still_first true s next e h = h
still_first false s next e h = absurd (false≢true e)

pub not_first : (is_first s : Bool) → is_first ≡ false → is_first ≡ (is_first && s)
not_first true s e = absurd (false≢true (sym e))
not_first false s e = refl

-- a count that does not reach its end
pub counted : (k j : ℕ) → j ≡ min (k + 1) (2 ^ 128 - 1) → k ≤ 2 ^ 64 → j ≡ suc k
counted k j e h = grind arith
