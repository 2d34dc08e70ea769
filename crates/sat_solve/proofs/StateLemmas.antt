-- What follows from the state of a search.
use Rattle.std.proofs.Common.{◌≡◌, ℕ, ◌+◌, ◌/◌, ◌<◌, List, length, get_or, map, Some, sym, ap, ◌∙◌, subst}
use Rattle.std.specs.List.{Contains, slice_get, All}
use Rattle.std.proofs.lemmas.List.{length-append, length-map}
use Rattle.std.proofs.lemmas.List.Elements.{All-append, All-map, All-get_or, All-contains}
use Rattle.std.proofs.lemmas.Option.{get_or_from_slice_get, slice_get_within, slice_get-get_or}
use Rattle.sat_base.specs.declared.literals.Lit.{Lit}
use Rattle.sat_base.specs.declared.logs.Lemma.{Lemma}
use Rattle.sat_base.specs.Formula.{Formula, IsClauseOver}
use Rattle.sat_solve.specs.declared.trail.Entry.{Entry}
use Rattle.sat_base.specs.Codes.{literal_of}
use Rattle.sat_solve.specs.Trail.{IsSettled, IsClosed}
use Rattle.sat_solve.specs.Kept.{TrailView}
use Rattle.sat_solve.specs.State.{known_clauses, IsState}
use Rattle.sat_base.proofs.CodeLemmas.{code_in}

-- how many clauses are known
pub length-known : (f : Formula) (log : List Lemma) → length (known_clauses f log) ≡ length f.clauses + length log
length-known f log = length-append f.clauses (map (λ (s : Lemma). s.lits) log) ∙ ap (λ n. length f.clauses + n) (length-map log (λ (s : Lemma). s.lits))

-- an element at a place has what all have
pub all_at : {X : Type 0} (P : X → Type 0) (xs : List X) (k : ℕ) (x : X) → slice_get xs k ≡ Some x → All P xs → P x
all_at P xs k x at all = subst P (get_or_from_slice_get xs k x x at) (All-get_or P xs k x (slice_get_within xs k x at) all)

-- each known clause is over the formula's variables
pub known_over : (f : Formula) (log : List Lemma) (trail : TrailView) (k : ℕ) (c : List Lit) → IsState f log trail → slice_get (known_clauses f log) k ≡ Some c → IsClauseOver f.vars c
known_over f log trail k c s at = all_at (IsClauseOver f.vars) (known_clauses f log) k c at (All-append (IsClauseOver f.vars) f.clauses (map (λ (l : Lemma). l.lits) log) s.known (All-map (IsClauseOver f.vars) (λ (l : Lemma). l.lits) log s.logged.known))

pub known_literal : (f : Formula) (log : List Lemma) (trail : TrailView) (k : ℕ) (c : List Lit) (x : Lit) → IsState f log trail → slice_get (known_clauses f log) k ≡ Some c → Contains c x → x.var < trail.vars
known_literal f log trail k c x s at h = subst (λ n. x.var < n) (sym s.vars) (All-contains (λ (l : Lit). l.var < f.vars) c x (known_over f log trail k c s at) h)

-- the variable of a code of a known clause
pub code_over : (f : Formula) (log : List Lemma) (trail : TrailView) (number : ℕ) (codes : List ℕ) → IsState f log trail → slice_get (known_clauses f log) number ≡ Some (map literal_of codes) → (k : ℕ) → k < length codes → get_or codes k 0 / 2 < trail.vars
code_over f log trail number codes s at k l = known_literal f log trail number (map literal_of codes) (literal_of (get_or codes k 0)) s at (code_in codes k l)

-- where each clause by its number is settled, propagation has ended
pub closed_by_numbers : (clauses : List (List Lit)) (trail : List Entry) → ((k : ℕ) (c : List Lit) → k < length clauses → slice_get clauses k ≡ Some c → IsSettled trail c) → IsClosed clauses trail
closed_by_numbers clauses trail h c among = h among.0 c among.1 (slice_get-get_or clauses among.0 c among.1 ∙ ap Some among.2)
