-- The places that the code keeps are those to which the reading comes.
use Rattle.std.proofs.Common.{◌≡◌, ℕ, zero, suc, ◌+◌, ◌-◌, ◌<◌, ◌≤◌, Bool, true, false, cond, List, [], ◌∷◌, ◌++◌, length, get_or, take, drop, Option, Some, None, Result, Ok, Err, refl, sym, ap, ◌∙◌, subst, arith}
use Rattle.std.specs.Prelude.{map, option_map, IfOk}
use Rattle.std.specs.BTreeMap.{get_by}
use Rattle.std.specs.Ordering.{nat_cmp}
use Rattle.std.specs.Cmp.Lexicographic.{slice_cmp}
use Rattle.std.specs.Prelude.{Vec}
use Rattle.std.specs.Global.{Global}
use Rattle.std.proofs.lemmas.List.{length-drop, length-take, map-append}
use Rattle.wb_values.specs.Value.{Name, same_name}
use Rattle.verilog_text.specs.Lexical.{Front}
use Rattle.verilog_text.specs.Lexical as pieces
use Rattle.verilog_text.specs.Text.{bad_directive, without_byte_order_mark}
use Rattle.v_lex.specs.Walk.{Reading, Outcome, with_use, with_piece, with_text_of, opened, front_at, macro_read, file_read}
use Rattle.v_token.specs.declared.token.Token.{Token}
use Rattle.v_lex.specs.View.{piece_of}
use Rattle.v_lex.specs.Reading.{reading_of, front_in, text_in, text_under, IsTaken}
use Rattle.v_lex.specs.Placed.{flat, span_under, Keeps, IsUse}
use Rattle.v_lex.specs.Sites.{Sites, with_text, with_spot, with_read_at, piece_sites, sites_on, sites_then, sites_from, macro_sites, file_sites, files_sites}
use Rattle.v_lex.specs.Spots.{Site, moved_on}
use Rattle.v_lex.specs.Sited.{site_of, spot_of, sites_of, LeavesSites}
use Rattle.v_lex.proofs.Turns.{front_found}
use Rattle.v_lex.specs.declared.piece.Piece.{Piece}
use Rattle.v_lex.specs.declared.stop.Stop.{Stop}
use Rattle.v_lex.specs.declared.state.Span.{Span}
use Rattle.v_lex.specs.declared.state.Reader.{Reader}

-- ---- a text, piece by piece

one_place : (at : Site) (x : ℕ) → at.start ≡ x → at ≡ record { file = at.file; start = x }
one_place at x e = λ i. record { file = at.file; start = e i }

-- bytes that belong to the piece before
sites_behind : (u : Bool) (read : List ℕ → Reading → Outcome) (add : Site → List ℕ → Reading → Sites → Sites) (n : ℕ) (at : Site) (bs : List ℕ) (r : Reading) (s : Sites)
    → sites_from u read add n at bs r s ≡ sites_from u read add 0 (moved_on (length bs - length (drop n bs)) at) (drop n bs) r s
unfolding sites_from
sites_behind u read add zero at bs r s =
    ap (λ (x : Site). sites_from u read add 0 x bs r s) (one_place at (at.start + (length bs - length bs)) (omega arith))
sites_behind u read add (suc n) at [] r s = refl
sites_behind u read add (suc n) at (b ∷ bs) r s =
    sites_behind u read add n (moved_on 1 at) bs r s
    ∙ ap (λ (x : ℕ). sites_from u read add 0 (record { file = at.file; start = x }) (drop n bs) r s)
    (same at.start (length bs) (length (drop n bs)) (omega (arith, length-drop n bs)))
  where
    same : (a m k : ℕ) → k ≤ m → a + 1 + (m - k) ≡ a + (suc m - k)
    same a m k h = omega (arith, h)

-- one piece
pub sites_turn : (u : Bool) (read : List ℕ → Reading → Outcome) (add : Site → List ℕ → Reading → Sites → Sites) (text rest : List ℕ) (p : pieces.Piece) (r q : Reading) (at : Site) (s : Sites)
    → front_in u r text ≡ Some (Some (p, rest)) → with_piece read p r ≡ Ok q
    → sites_from u read add 0 at text r s
    ≡ sites_from u read add 0 (moved_on (length text - length rest) at) rest q (piece_sites add p at (length text - length rest) r s)
unfolding sites_from
sites_turn u read add [] rest p r q at s e h = absurd cc
sites_turn u read add (b ∷ bs) rest p r q at s e h =
    let f = front_found bs rest p (front_at u r b bs) e in
    let count : suc (length (take f.0 bs)) ≡ length (b ∷ bs) - length rest = omega (arith, length-take f.0 bs, length-drop f.0 bs, ap length f.2) in
    let place : at.start + 1 + (length bs - length (drop f.0 bs)) ≡ at.start + (length (b ∷ bs) - length rest) = omega (arith, length-drop f.0 bs, ap length f.2) in
    ap (λ (o : Front). sites_then read add o at bs r s (λ n x t. sites_from u read add n (moved_on 1 at) bs x t)) f.1
    ∙ ap (λ (o : Outcome). sites_on o (λ x t. sites_from u read add f.0 (moved_on 1 at) bs x t) (piece_sites add p at (suc (length (take f.0 bs))) r s)) h
    ∙ sites_behind u read add f.0 (moved_on 1 at) bs q (piece_sites add p at (suc (length (take f.0 bs))) r s)
    ∙ (λ i. sites_from u read add 0 (record { file = at.file; start = place i }) (sym f.2 i) q (piece_sites add p at (count i) r s))

pub sites_end : (u : Bool) (read : List ℕ → Reading → Outcome) (add : Site → List ℕ → Reading → Sites → Sites) (text : List ℕ) (r : Reading) (at : Site) (s : Sites)
    → length text ≡ 0 → sites_from u read add 0 at text r s ≡ s
unfolding sites_from
sites_end u read add [] r at s e = refl
sites_end u read add (b ∷ bs) r at s e = absurd (not_none (length bs) e)
  where
    not_none : (n : ℕ) → suc n ≡ 0 → ⊥
    not_none n h = omega (arith, h)

one_less : (n : ℕ) → suc n - 1 ≡ n
one_less n = omega arith

pub one_level_sites : (levels : ℕ) (at : Site) (text : List ℕ) (r : Reading) (s : Sites) → 0 < levels
    → macro_sites levels at text r s ≡ sites_from true (macro_read (levels - 1)) (macro_sites (levels - 1)) 0 at text r s
unfolding macro_sites
one_level_sites zero at text r s h = absurd (omega (arith, h))
one_level_sites (suc n) at text r s h = ap (λ (k : ℕ). sites_from true (macro_read k) (macro_sites k) 0 at text r s) (sym (one_less n))

pub no_level_sites : (at : Site) (text : List ℕ) (r : Reading) (s : Sites) → macro_sites 0 at text r s ≡ s
unfolding macro_sites
no_level_sites at text r s = refl

-- ---- what the reader's steps leave

pub kept_sites : (old new : Reader) → Keeps old new → sites_of old ≡ sites_of new
kept_sites old new k = λ i. record { texts = λ n. option_map (λ s. site_of s.place) (span_under (sym k.0 i) n); tokens = map spot_of (sym k.1 i).items }

pub kept_piece : (add : Site → List ℕ → Reading → Sites → Sites) (p q : Piece) (at : Site) (count : ℕ) (r : Reading) (old new : Reader) → p ≡ q
    → piece_sites add (piece_of q) at count r (sites_of old) ≡ sites_of old → Keeps old new → piece_sites add (piece_of p) at count r (sites_of old) ≡ sites_of new
kept_piece add p q at count r old new e h k = ap (λ x. piece_sites add (piece_of x) at count r (sites_of old)) e ∙ h ∙ kept_sites old new k

pub pushed_sites : (old new : Reader) (t : Token) (at : Site) (count : ℕ) → new.tokens.items ≡ old.tokens.items ++ t ∷ [] → new.macros ≡ old.macros
    → record { site = at; count = count } ≡ spot_of t → with_spot (record { site = at; count = count }) (sites_of old) ≡ sites_of new
pushed_sites old new t at count e m same =
    (λ i. with_spot (same i) (sites_of old))
    ∙ (λ i. record { texts = λ n. option_map (λ s. site_of s.place) (span_under (sym m i) n); tokens = spots i })
  where
    spots : map spot_of old.tokens.items ++ spot_of t ∷ [] ≡ map spot_of new.tokens.items
    spots = sym (map-append spot_of old.tokens.items (t ∷ [])) ∙ sym (ap (map spot_of) e)

under_cond : (b : Bool) (x y : Option Span) → option_map (λ s. site_of s.place) (cond b x y) ≡ cond b (option_map (λ s. site_of s.place) x) (option_map (λ s. site_of s.place) y)
under_cond true x y = refl
under_cond false x y = refl

pub defined_sites : (old new : Reader) (n : Name) (o : Option Span) (at : Option Site) → new.tokens ≡ old.tokens
    → ((q : Name) → span_under new.macros q ≡ cond (same_name n q) o (span_under old.macros q)) → at ≡ option_map (λ s. site_of s.place) o → with_text n at (sites_of old) ≡ sites_of new
defined_sites old new n o at e m same = λ i. record { texts = λ q. each q i; tokens = map spot_of (sym e i).items }
  where
    each : (q : Name) → cond (same_name n q) at (option_map (λ s. site_of s.place) (span_under old.macros q)) ≡ option_map (λ s. site_of s.place) (span_under new.macros q)
    each q =
        ap (λ (x : Option Site). cond (same_name n q) x (option_map (λ s. site_of s.place) (span_under old.macros q))) same
        ∙ sym (under_cond (same_name n q) o (span_under old.macros q)) ∙ sym (ap (option_map (λ s. site_of s.place)) (m q))

-- ---- uses

text_of_span : (o : Option (Option Span)) → text_in o ≡ option_map (λ s. s.text.now) (flat o)
text_of_span (Some (Some s)) = refl
text_of_span (Some None) = refl
text_of_span None = refl

used_by : (b : Bool) (x now : Reading) → cond b (Ok x) (Err bad_directive) ≡ Ok now → x ≡ now
used_by true x now e = ap (read_or x) e
  where
    read_or : Reading → Outcome → Reading
    read_or d (Ok y) = y
    read_or d (Err k) = d
used_by false x now e = absurd cc

pub used_sites : (add : Site → List ℕ → Reading → Sites → Sites) (old new : Reader) (n : Name) (result : Result (Option Span) Stop) → IsUse result (span_under old.macros n) → Keeps old new
    → ((read : List ℕ → Reading → Outcome) → IsTaken read result (reading_of new) (with_text_of read ((reading_of old).macros n) (reading_of old)))
    → LeavesSites add result new (with_read_at add ((reading_of old).macros n) ((sites_of old).texts n) (reading_of old) (sites_of old))
used_sites add old new n (Ok (Some s)) u k taken =
    let text : text_under old.macros n ≡ Some s.text.now = text_of_span (get_by (λ x. slice_cmp nat_cmp n x.now) old.macros) ∙ ap (option_map (λ x. x.text.now)) u in
    let site : (sites_of old).texts n ≡ Some (site_of s.place) = ap (option_map (λ x. site_of x.place)) u in
    let now : with_use (length s.text.now) (reading_of old) ≡ reading_of new =
    used_by _ _ _ (ap (λ (o : Option (List ℕ)). with_text_of (λ t x. Ok x) o (reading_of old)) (sym text) ∙ taken (λ t x. Ok x)) in
    (λ i. with_read_at add (text i) (site i) (reading_of old) (sites_of old))
    ∙ (λ i. add (site_of s.place) s.text.now (now i) (kept_sites old new k i))
used_sites add old new n (Ok None) u k taken =
    let text : text_under old.macros n ≡ None = text_of_span (get_by (λ x. slice_cmp nat_cmp n x.now) old.macros) ∙ ap (option_map (λ x. x.text.now)) u in
    ap (λ (o : Option (List ℕ)). with_read_at add o ((sites_of old).texts n) (reading_of old) (sites_of old)) text ∙ kept_sites old new k
used_sites add old new n (Err e) u k taken = tt

pub use_left : (add : Site → List ℕ → Reading → Sites → Sites) (old new : Reader) (p q : Piece) (at : Site) (count : ℕ) (result : Result (Option Span) Stop) → p ≡ q
    → LeavesSites add result new (piece_sites add (piece_of q) at count (reading_of old) (sites_of old)) → LeavesSites add result new (piece_sites add (piece_of p) at count (reading_of old) (sites_of old))
use_left add old new p q at count result e h = subst (λ x. LeavesSites add result new (piece_sites add (piece_of x) at count (reading_of old) (sites_of old))) (sym e) h

-- ---- results

pub if_ok_on : {A E : Type 0} (r : Result A E) (x y z : Sites) → x ≡ y → IfOk r (λ _. y ≡ z) → IfOk r (λ _. x ≡ z)
if_ok_on (Ok a) x y z e h = e ∙ h
if_ok_on (Err e) x y z f h = tt

-- ---- files

pub file_turn : (number : ℕ) (bytes : List ℕ) (span : Span) (r begun : Reading) (s t : Sites) → begun ≡ opened r → s ≡ t → span.text.now ≡ without_byte_order_mark bytes → span.place.file ≡ number
    → span.place.start ≡ length bytes - length span.text.now
    → file_sites number bytes r s ≡ sites_from false (macro_read 64) (macro_sites 64) 0 (site_of span.place) span.text.now begun t
unfolding file_sites
file_turn number bytes span r begun s t is_begun same text file start =
    let from : length bytes - length (without_byte_order_mark bytes) ≡ span.place.start = sym (start ∙ ap (λ (w : List ℕ). length bytes - length w) text) in
    λ i. sites_from false (macro_read 64) (macro_sites 64) 0 (record { file = sym file i; start = from i }) (sym text i) (sym is_begun i) (same i)

pub files_turn : (vs : List (Vec ℕ Global)) (m k n : ℕ) (v : Vec ℕ Global) (bytes : List ℕ) (r q : Reading) (s t : Sites) → k < length vs → n ≡ suc k → v ≡ get_or vs k v → bytes ≡ v.items
    → file_read bytes r ≡ Ok q → file_sites m bytes r s ≡ t
    → files_sites m (map (λ f. f.items) (drop k vs)) r s ≡ files_sites (suc m) (map (λ f. f.items) (drop n vs)) q t
unfolding files_sites
files_turn [] m k n v bytes r q s t lt e is b read added = absurd (none lt)
  where
    none : k < 0 → ⊥
    none h = omega (arith, h)
files_turn (x ∷ vs) m zero n v bytes r q s t lt e is b read added =
    let same : x.items ≡ bytes = ap (λ f. f.items) (sym is) ∙ sym b in
    ap (λ (w : List ℕ). sites_on (file_read w r) (files_sites (suc m) (map (λ f. f.items) vs)) (file_sites m w r s)) same
    ∙ (λ i. sites_on (read i) (files_sites (suc m) (map (λ f. f.items) vs)) (added i))
    ∙ sym (ap (λ (i : ℕ). files_sites (suc m) (map (λ f. f.items) (drop i (x ∷ vs))) q t) e)
files_turn (x ∷ vs) m (suc k) n v bytes r q s t lt e is b read added =
    files_turn vs m k (suc k) v bytes r q s t (omega (arith, lt)) refl is b read added
    ∙ sym (ap (λ (i : ℕ). files_sites (suc m) (map (λ f. f.items) (drop i (x ∷ vs))) q t) e)

pub files_end : (vs : List (Vec ℕ Global)) (m k : ℕ) (r : Reading) (s : Sites) → length vs ≤ k → files_sites m (map (λ f. f.items) (drop k vs)) r s ≡ s
unfolding files_sites
files_end [] m zero r s h = refl
files_end [] m (suc k) r s h = refl
files_end (x ∷ vs) m zero r s h = absurd (none (length vs) h)
  where
    none : (n : ℕ) → suc n ≤ 0 → ⊥
    none n h = omega (arith, h)
files_end (x ∷ vs) m (suc k) r s h = files_end vs m k r s (omega (arith, h))
