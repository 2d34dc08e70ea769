-- Turns over the pieces of a text.
use Rattle.std.proofs.Common.{◌≡◌, ℕ, zero, suc, ◌-◌, ◌<◌, Bool, true, List, [], ◌∷◌, length, get_or, drop, map, Option, Some, None, Ok, Err, refl, sym, ap, ◌∙◌, arith}
use Rattle.std.specs.Prelude.{option_map, Vec}
use Rattle.std.specs.Global.{Global}
use Rattle.std.proofs.lemmas.List.{length-drop}
use Rattle.verilog_text.specs.Lexical.{Piece, Front}
use Rattle.verilog_text.specs.Text.{Refusal, bad_token}
use Rattle.v_lex.specs.Walk.{Reading, Outcome, then, with_piece, piece_then, front_at, text_from, macro_read, with_bad_directive, file_read, files_read}
use Rattle.v_lex.specs.View.{after}
use Rattle.v_lex.specs.Reading.{front_in, refusal_of, IsFront, IsOutcome}
use Rattle.v_lex.specs.declared.stop.Stop.{Stop}
use Rattle.v_lex.specs.declared.stop.Stop.TheVariants.{Memory, Refused}

-- bytes that belong to the piece before
pub behind_piece : (u : Bool) (read : List ℕ → Reading → Outcome) (n : ℕ) (bs : List ℕ) (r : Reading) → text_from u read n bs r ≡ text_from u read 0 (drop n bs) r
unfolding text_from
behind_piece u read zero bs r = refl
behind_piece u read (suc n) [] r = refl
behind_piece u read (suc n) (b ∷ bs) r = behind_piece u read n bs r

abbrev inner_or : {X : Type 0} → X → Option (Option X) → X
inner_or d (Some (Some x)) = x
inner_or d _ = d

-- what a front that is found says of its length
pub front_found : (bs rest : List ℕ) (p : Piece) (o : Front) → option_map (λ f. Some f) (after bs o) ≡ Some (Some (p, rest)) → (n : ℕ) × (o ≡ Some (p, n)) × (rest ≡ drop n bs)
front_found bs rest p None e = absurd cc
front_found bs rest p (Some f) e =
    let same : (f.0, drop f.1 bs) ≡ (p, rest) = ap (inner_or (p, rest)) e in
    (f.1, (λ i. Some ((same i).0, f.1)), sym (ap (λ x. x.1) same))

-- what stands behind a front is a rest of the text
pub front_behind : (u : Bool) (text rest : List ℕ) (p : Piece) (r : Reading) → front_in u r text ≡ Some (Some (p, rest)) → (k : ℕ) × (rest ≡ drop k text)
front_behind u [] rest p r e = absurd cc
front_behind u (b ∷ bs) rest p r e =
    let f = front_found bs rest p (front_at u r b bs) e in
    (suc f.0, f.2)

some_front : (bs : List ℕ) (o : Front) → option_map (λ f. Some f) (after bs o) ≡ Some None → ⊥
some_front bs None e = absurd cc
some_front bs (Some f) e = absurd cc

-- at the end nothing is left
pub nothing_left : (u : Bool) (text : List ℕ) (r : Reading) → front_in u r text ≡ Some None → length text ≡ 0
nothing_left u [] r e = refl
nothing_left u (b ∷ bs) r e = absurd (some_front bs (front_at u r b bs) e)

pub read_on : (u : Bool) (read : List ℕ → Reading → Outcome) (text rest : List ℕ) (p : Piece) (r s : Reading) → front_in u r text ≡ Some (Some (p, rest))
    → with_piece read p r ≡ Ok s → text_from u read 0 text r ≡ text_from u read 0 rest s
unfolding text_from
read_on u read [] rest p r s e h = absurd cc
read_on u read (b ∷ bs) rest p r s e h =
    let f = front_found bs rest p (front_at u r b bs) e in
    ap (λ (o : Front). piece_then read o r (λ n t. text_from u read n bs t)) f.1
    ∙ ap (λ (o : Outcome). then o (λ t. text_from u read f.0 bs t)) h
    ∙ behind_piece u read f.0 bs s
    ∙ ap (λ (q : List ℕ). text_from u read 0 q s) (sym f.2)

pub read_stops : (u : Bool) (read : List ℕ → Reading → Outcome) (text rest : List ℕ) (p : Piece) (r : Reading) (k : Refusal) → front_in u r text ≡ Some (Some (p, rest))
    → with_piece read p r ≡ Err k → text_from u read 0 text r ≡ Err k
unfolding text_from
read_stops u read [] rest p r k e h = absurd cc
read_stops u read (b ∷ bs) rest p r k e h =
    let f = front_found bs rest p (front_at u r b bs) e in
    ap (λ (o : Front). piece_then read o r (λ n t. text_from u read n bs t)) f.1
    ∙ ap (λ (o : Outcome). then o (λ t. text_from u read f.0 bs t)) h

no_front : (bs : List ℕ) (o : Front) → option_map (λ f. Some f) (after bs o) ≡ None → o ≡ None
no_front bs None e = refl
no_front bs (Some f) e = absurd cc

pub read_bad : (u : Bool) (read : List ℕ → Reading → Outcome) (text : List ℕ) (r : Reading) → front_in u r text ≡ None → text_from u read 0 text r ≡ Err bad_token
unfolding text_from
read_bad u read [] r e = absurd cc
read_bad u read (b ∷ bs) r e = ap (λ (o : Front). piece_then read o r (λ n t. text_from u read n bs t)) (no_front bs (front_at u r b bs) e)

pub read_over : (u : Bool) (read : List ℕ → Reading → Outcome) (text : List ℕ) (r : Reading) → front_in u r text ≡ Some None → text_from u read 0 text r ≡ Ok r
unfolding text_from
read_over u read [] r e = refl
read_over u read (b ∷ bs) r e = absurd (some_front bs (front_at u r b bs) e)

-- a piece takes something
pub read_shorter : (u : Bool) (text rest : List ℕ) (p : Piece) (r : Reading) → front_in u r text ≡ Some (Some (p, rest)) → length rest < length text
read_shorter u [] rest p r e = absurd cc
read_shorter u (b ∷ bs) rest p r e =
    let f = front_found bs rest p (front_at u r b bs) e in
    omega (arith, ap length f.2, length-drop f.0 bs)

one_less : (n : ℕ) → suc n - 1 ≡ n
one_less n = omega arith

-- the levels that are left
pub one_level : (levels : ℕ) (text : List ℕ) (r : Reading) → 0 < levels → macro_read levels text r ≡ text_from true (macro_read (levels - 1)) 0 text r
unfolding macro_read
one_level zero text r h = absurd (omega (arith, h))
one_level (suc n) text r h = ap (λ (k : ℕ). text_from true (macro_read k) 0 text r) (sym (one_less n))

pub no_level : (text : List ℕ) (r : Reading) → macro_read 0 text r ≡ Ok (with_bad_directive r)
unfolding macro_read
no_level text r = refl

-- ---- a text that is refused

pub bad_front : (B : Type 0) (e : Stop) (now r : Reading) (u : Bool) (read : List ℕ → Reading → Outcome) (text : List ℕ) (o : Outcome)
    → IsFront (Err e) (front_in u r text) → o ≡ text_from u read 0 text r → IsOutcome {A = B} (Err e) now o
bad_front B Memory now r u read text o f same = tt
bad_front B (Refused k p) now r u read text o f same = same ∙ read_bad u read text r f.0 ∙ ap (λ (x : Refusal). Err x) (sym f.1)

pub bad_piece : (A B : Type 0) (e : Stop) (now after r : Reading) (u : Bool) (read : List ℕ → Reading → Outcome) (text rest : List ℕ) (p : Piece) (o : Outcome)
    → front_in u r text ≡ Some (Some (p, rest)) → IsOutcome {A = A} (Err e) after (with_piece read p r) → o ≡ text_from u read 0 text r → IsOutcome {A = B} (Err e) now o
bad_piece A B Memory now after r u read text rest p o f h same = tt
bad_piece A B (Refused k q) now after r u read text rest p o f h same = same ∙ read_stops u read text rest p r (refusal_of k) f h

-- ---- the next file

pub files_on : (vs : List (Vec ℕ Global)) (k n : ℕ) (v : Vec ℕ Global) (bytes : List ℕ) (r s : Reading) → k < length vs → n ≡ suc k → v ≡ get_or vs k v → bytes ≡ v.items
    → file_read bytes r ≡ Ok s → files_read (map (λ f. f.items) (drop k vs)) r ≡ files_read (map (λ f. f.items) (drop n vs)) s
unfolding files_read
files_on [] k n v bytes r s lt m is b e = absurd (none lt)
  where
    none : k < 0 → ⊥
    none h = omega (arith, h)
files_on (x ∷ vs) zero n v bytes r s lt m is b e =
    ap (λ (t : List ℕ). then (file_read t r) (files_read (map (λ f. f.items) vs))) (ap (λ f. f.items) (sym is) ∙ sym b)
    ∙ ap (λ (o : Outcome). then o (files_read (map (λ f. f.items) vs))) e
    ∙ sym (ap (λ (i : ℕ). files_read (map (λ f. f.items) (drop i (x ∷ vs))) s) m)
files_on (x ∷ vs) (suc k) n v bytes r s lt m is b e =
    files_on vs k (suc k) v bytes r s (omega (arith, lt)) refl is b e
    ∙ sym (ap (λ (i : ℕ). files_read (map (λ f. f.items) (drop i (x ∷ vs))) s) m)
