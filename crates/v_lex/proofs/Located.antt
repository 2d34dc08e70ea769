-- The parts of files with their places are the definition's parts, the walk takes each token where it stands, and outside macros places
-- ascend.
use Rattle.std.proofs.Common.{◌≡◌, ℕ, zero, suc, ◌+◌, ◌-◌, ◌≤◌, Bool, true, false, cond, List, [], ◌∷◌, ◌++◌, length, get_or, take, Option, Some, None, Result, Ok, Err, refl, sym, ap, ◌∙◌, arith, inl, inr, subst}
use Rattle.std.specs.Prelude.{option_map}
use Rattle.std.specs.List.{All, AllPairs, list_all}
use Rattle.std.specs.Str.{is_utf8}
use Rattle.std.proofs.lemmas.List.Elements.{All-append, All-cons, All-nil}
use Rattle.std.proofs.lemmas.List.Quantifiers.{all_pairs_push}
use Rattle.wb_values.specs.Value.{Name, same_name}
use Rattle.verilog_text.specs.Token.{Token}
use Rattle.verilog_text.specs.Lexical.{Piece, token, define, undefine, use_of, Front}
use Rattle.verilog_text.specs.Text.{Refusal, not_text, Part, piece, stray, end_of_file, macro_after, Expansion, with_expansion, with_next, with_front, with_parts, with_macro_text, without_byte_order_mark, with_file, with_files, front_after, answer_of, tokens_in}
use Rattle.v_lex.specs.Walk.{Reading, first_reading, Outcome, then, with_piece, front_at, text_from, macro_read, opened, closed, file_read}
use Rattle.v_lex.specs.Sites.{Sites, first_sites, with_read_at, piece_sites, sites_on, sites_then, sites_from, macro_sites, file_sites, files_sites, walked_spots}
use Rattle.v_lex.specs.Spots.{Site, Spot, moved_on, PlacedPart, parts_of, PlacedText, text_told, text_after, Placing, with_text_of, with_placed_piece, with_placed_front, with_placed_parts, with_placed_text, front_of_file, inside_file, with_placed_file, with_placed_files, placed_parts, spots_read, spots_outside, spots_in, EndsBefore}
use Rattle.v_lex.proofs.Joined.{reading_after, ended_by, unless_ended, outcome_after, Stays, Joins, part_stays, stray_ends, use_is, piece_joins, parts_stay, text_joins, macro_stays, macro_joins, files_stay, ended_answer, closed_after, nothing_ended, nothing_read}

-- ---- they are the definition's parts

chosen : (b : Bool) (x o : Option PlacedText) (y q : Option (List ℕ)) → option_map (λ t. t.text) x ≡ y → option_map (λ t. t.text) o ≡ q → option_map (λ t. t.text) (cond b x o) ≡ cond b y q
chosen true x o y q h e = h
chosen false x o y q h e = e

told : (p : Part) (s : Spot) (n : Name) (o : Option PlacedText) (ps : List Part) → option_map (λ t. t.text) o ≡ macro_after ps n
    → option_map (λ t. t.text) (text_told p s n o) ≡ macro_after (p ∷ ps) n
unfolding macro_after
told (piece (define m text)) s n o ps e = chosen (same_name m n) (Some (record { text = text; site = moved_on (s.count - length text) s.site })) o (Some text) (macro_after ps n) refl e
told (piece (undefine m)) s n o ps e = chosen (same_name m n) None o None (macro_after ps n) refl e
told p s n o ps e = e

texts_are : (ps : List PlacedPart) (n : Name) → option_map (λ t. t.text) (text_after ps n) ≡ macro_after (parts_of ps) n
unfolding text_after macro_after
texts_are [] n = refl
texts_are (p ∷ ps) n = told p.part p.spot n (text_after ps n) (parts_of ps) (texts_are ps n)

abbrev IsPlacing : Placing → Expansion → Type 0
IsPlacing place expand = (t : PlacedText) (ps : List PlacedPart) → parts_of (place t ps) ≡ expand t.text (parts_of ps)

used_parts : (place : Placing) (expand : Expansion) → IsPlacing place expand → (o : Option PlacedText) (q : Option (List ℕ)) (ps : List PlacedPart) → option_map (λ t. t.text) o ≡ q
    → parts_of (with_text_of place o ps) ≡ with_expansion expand q (parts_of ps)
used_parts place expand is (Some t) q ps e = is t ps ∙ ap (λ (x : Option (List ℕ)). with_expansion expand x (parts_of ps)) e
used_parts place expand is None q ps e = ap (λ (x : Option (List ℕ)). with_expansion expand x (parts_of ps)) e

piece_parts : (place : Placing) (expand : Expansion) → IsPlacing place expand → (p : Piece) (s : Spot) (m : Bool) (ps : List PlacedPart)
    → parts_of (with_placed_piece place p s m ps) ≡ with_next expand p (parts_of ps)
piece_parts place expand is (use_of n) s m ps =
    used_parts place expand is (text_after ps n) (macro_after (parts_of ps) n) (record { part = piece (use_of n); spot = s; in_macro = m } ∷ ps) (texts_are ps n)
piece_parts place expand is p s m ps = refl

front_parts : (m : Bool) (place : Placing) (expand : Expansion) → IsPlacing place expand → (at : Site) (bs : List ℕ)
    → ((k : ℕ) (qs : List PlacedPart) → parts_of (with_placed_parts m place k (moved_on 1 at) bs qs) ≡ with_parts m expand k bs (parts_of qs)) → (f : Front) (ps : List PlacedPart)
    → parts_of (with_placed_front m place f at bs ps (λ k qs. with_placed_parts m place k (moved_on 1 at) bs qs)) ≡ with_front expand f (parts_of ps) (λ k qs. with_parts m expand k bs qs)
front_parts m place expand is at bs more (Some f) ps =
    let s : Spot = record { site = at; count = suc (length (take f.1 bs)) } in
    more f.1 (with_placed_piece place f.0 s m ps) ∙ ap (with_parts m expand f.1 bs) (piece_parts place expand is f.0 s m ps)
front_parts m place expand is at bs more None ps = more 0 (record { part = stray; spot = record { site = at; count = 1 }; in_macro = m } ∷ ps)

parts_are : (m : Bool) (place : Placing) (expand : Expansion) → IsPlacing place expand → (n : ℕ) (at : Site) (text : List ℕ) (ps : List PlacedPart)
    → parts_of (with_placed_parts m place n at text ps) ≡ with_parts m expand n text (parts_of ps)
unfolding with_placed_parts with_parts
parts_are m place expand is n at [] ps = refl
parts_are m place expand is (suc n) at (b ∷ bs) ps = parts_are m place expand is n (moved_on 1 at) bs ps
parts_are m place expand is zero at (b ∷ bs) ps =
    front_parts m place expand is at bs (λ k qs. parts_are m place expand is k (moved_on 1 at) bs qs) (front_after (parts_of ps) m b bs) ps

text_parts : (levels : ℕ) → IsPlacing (with_placed_text levels) (with_macro_text levels)
unfolding with_placed_text with_macro_text
text_parts zero t ps = refl
text_parts (suc levels) t ps = parts_are true (with_placed_text levels) (with_macro_text levels) (text_parts levels) 0 t.site t.text ps

inside_parts : (number : ℕ) (f : List ℕ) (ps : List PlacedPart) → parts_of (inside_file number f ps) ≡ with_parts false (with_macro_text 64) 0 (without_byte_order_mark f) (parts_of ps)
inside_parts number f ps = parts_are false (with_placed_text 64) (with_macro_text 64) (text_parts 64) 0 (front_of_file number f) (without_byte_order_mark f) ps

file_parts : (number : ℕ) (f : List ℕ) (ps : List PlacedPart) → parts_of (with_placed_file number f ps) ≡ with_file f (parts_of ps)
unfolding with_placed_file with_file
file_parts number f ps = ap (λ (qs : List Part). end_of_file ∷ qs) (inside_parts number f ps)

files_parts : (number : ℕ) (fs : List (List ℕ)) (ps : List PlacedPart) → parts_of (with_placed_files number fs ps) ≡ with_files fs (parts_of ps)
unfolding with_placed_files with_files
files_parts number [] ps = refl
files_parts number (f ∷ fs) ps = files_parts (suc number) fs (with_placed_file number f ps) ∙ ap (with_files fs) (file_parts number f ps)

pub parts_have_places : (files : List (List ℕ)) → parts_of (placed_parts files) ≡ with_files files []
parts_have_places files = files_parts 0 files []

-- ---- where the reading did not end

calm_or : (p o : Option Refusal) → o ≡ None → ((k : Refusal) → p ≡ Some k → o ≡ Some k) → p ≡ None
calm_or None o e h = refl
calm_or (Some k) o e h = clash o k e (h k refl)
  where
    clash : (o : Option Refusal) (k : Refusal) → o ≡ None → o ≡ Some k → Some k ≡ None
    clash o k e h = absurd cc

calm_before : (more : List Part → List Part) → Stays more → (ps : List Part) → ended_by (more ps) ≡ None → ended_by ps ≡ None
calm_before more stays ps e = calm_or (ended_by ps) (ended_by (more ps)) e (stays ps)

calm_placed : (more : List Part → List Part) → Stays more → (place : List PlacedPart → List PlacedPart) → ((ps : List PlacedPart) → parts_of (place ps) ≡ more (parts_of ps))
    → (ps : List PlacedPart) → ended_by (parts_of (place ps)) ≡ None → ended_by (parts_of ps) ≡ None
calm_placed more stays place is ps e = calm_before more stays (parts_of ps) (ap ended_by (sym (is ps)) ∙ e)

ok_after : (ps : List Part) → ended_by ps ≡ None → outcome_after ps ≡ Ok (reading_after ps)
ok_after ps e = ap (λ (o : Option Refusal). unless_ended o (reading_after ps)) e

-- ---- the walk takes tokens where they stand

abbrev sites_after : List PlacedPart → Sites
sites_after ps = record { texts = λ n. option_map (λ t. t.site) (text_after ps n); tokens = spots_read ps }

abbrev Adding : Type 0
Adding = Site → List ℕ → Reading → Sites → Sites

abbrev AddsAs : Adding → Placing → Type 0
AddsAs add place =
    (t : PlacedText) (ps : List PlacedPart) → ended_by (parts_of ps) ≡ None → ended_by (parts_of (place t ps)) ≡ None
    → add t.site t.text (reading_after (parts_of ps)) (sites_after ps) ≡ sites_after (place t ps)

site_chosen : (b : Bool) (x o : Option PlacedText) → cond b (option_map (λ t. t.site) x) (option_map (λ t. t.site) o) ≡ option_map (λ t. t.site) (cond b x o)
site_chosen true x o = refl
site_chosen false x o = refl

abbrev use_at : Name → Spot → Bool → PlacedPart
use_at n s m = record { part = piece (use_of n); spot = s; in_macro = m }

used_adds : (add : Adding) (place : Placing) (expand : Expansion) → AddsAs add place → IsPlacing place expand → ((text : List ℕ) → Stays (expand text)) → (n : Name) (s : Spot) (m : Bool) (ps : List PlacedPart)
    → (o : Option PlacedText) (q : Option (List ℕ)) → option_map (λ t. t.text) o ≡ q → macro_after (parts_of ps) n ≡ q → ended_by (parts_of (with_text_of place o (use_at n s m ∷ ps))) ≡ None
    → with_read_at add q (option_map (λ t. t.site) o) (reading_after (parts_of ps)) (sites_after ps) ≡ sites_after (with_text_of place o (use_at n s m ∷ ps))
unfolding text_after spots_read
used_adds add place expand adds is stays n s m ps None q e h d = ap (λ (x : Option (List ℕ)). with_read_at add x None (reading_after (parts_of ps)) (sites_after ps)) (sym e)
used_adds add place expand adds is stays n s m ps (Some t) q e h d =
    ap (λ (x : Option (List ℕ)). with_read_at add x (Some t.site) (reading_after (parts_of ps)) (sites_after ps)) (sym e)
    ∙ ap (λ (r : Reading). add t.site t.text r (sites_after ps)) (use_is n (parts_of ps) (Some t.text) (h ∙ sym e))
    ∙ adds t (use_at n s m ∷ ps) (calm_placed (expand t.text) (stays t.text) (place t) (is t) (use_at n s m ∷ ps) d) d

piece_adds : (add : Adding) (place : Placing) (expand : Expansion) → AddsAs add place → IsPlacing place expand → ((text : List ℕ) → Stays (expand text))
    → (p : Piece) (s : Spot) (m : Bool) (ps : List PlacedPart) → ended_by (parts_of (with_placed_piece place p s m ps)) ≡ None
    → piece_sites add p s.site s.count (reading_after (parts_of ps)) (sites_after ps) ≡ sites_after (with_placed_piece place p s m ps)
unfolding piece_sites text_after spots_read
piece_adds add place expand adds is stays (token t) s m ps d = refl
piece_adds add place expand adds is stays (define n text) s m ps d =
    λ i. record { texts = λ q. site_chosen (same_name n q) (Some (record { text = text; site = moved_on (s.count - length text) s.site })) (text_after ps q) i; tokens = spots_read ps }
piece_adds add place expand adds is stays (undefine n) s m ps d = λ i. record { texts = λ q. site_chosen (same_name n q) None (text_after ps q) i; tokens = spots_read ps }
piece_adds add place expand adds is stays (use_of n) s m ps d =
    used_adds add place expand adds is stays n s m ps (text_after ps n) (macro_after (parts_of ps) n) (texts_are ps n) refl d
piece_adds add place expand adds is stays p s m ps d = refl

-- what a text of the file or of a macro is read by
record Walking (read : List ℕ → Reading → Outcome) (add : Adding) (place : Placing) (expand : Expansion) : Type 0 where
  adds : AddsAs add place
  places : IsPlacing place expand
  joins : (text : List ℕ) → Joins (read text) (expand text)
  stays : (text : List ℕ) → Stays (expand text)

front_adds : (m : Bool) (read : List ℕ → Reading → Outcome) (add : Adding) (place : Placing) (expand : Expansion) → Walking read add place expand → (at : Site) (bs : List ℕ)
    → ((k : ℕ) (qs : List PlacedPart) → ended_by (parts_of qs) ≡ None → ended_by (parts_of (with_placed_parts m place k (moved_on 1 at) bs qs)) ≡ None
    → sites_from m read add k (moved_on 1 at) bs (reading_after (parts_of qs)) (sites_after qs) ≡ sites_after (with_placed_parts m place k (moved_on 1 at) bs qs))
    → (f : Front) (ps : List PlacedPart) → ended_by (parts_of ps) ≡ None
    → ended_by (parts_of (with_placed_front m place f at bs ps (λ k qs. with_placed_parts m place k (moved_on 1 at) bs qs))) ≡ None
    → sites_then read add f at bs (reading_after (parts_of ps)) (sites_after ps) (λ k r t. sites_from m read add k (moved_on 1 at) bs r t)
    ≡ sites_after (with_placed_front m place f at bs ps (λ k qs. with_placed_parts m place k (moved_on 1 at) bs qs))
front_adds m read add place expand w at bs more (Some f) ps c d =
    let s : Spot = record { site = at; count = suc (length (take f.1 bs)) } in
    let qs = with_placed_piece place f.0 s m ps in
    let calm : ended_by (parts_of qs) ≡ None =
    calm_placed (with_parts m expand f.1 bs) (parts_stay m expand w.stays f.1 bs) (with_placed_parts m place f.1 (moved_on 1 at) bs) (parts_are m place expand w.places f.1 (moved_on 1 at) bs) qs d in
    let goes_on : with_piece read f.0 (reading_after (parts_of ps)) ≡ Ok (reading_after (parts_of qs)) =
    piece_joins read expand w.joins w.stays f.0 (parts_of ps) c ∙ ap outcome_after (sym (piece_parts place expand w.places f.0 s m ps)) ∙ ok_after (parts_of qs) calm in
    let added : piece_sites add f.0 at s.count (reading_after (parts_of ps)) (sites_after ps) ≡ sites_after qs = piece_adds add place expand w.adds w.places w.stays f.0 s m ps calm in
    ap (λ (o : Outcome). sites_on o (sites_from m read add f.1 (moved_on 1 at) bs) (piece_sites add f.0 at s.count (reading_after (parts_of ps)) (sites_after ps))) goes_on
    ∙ ap (sites_from m read add f.1 (moved_on 1 at) bs (reading_after (parts_of qs))) added
    ∙ more f.1 qs calm d
front_adds m read add place expand w at bs more None ps c d =
    let p : PlacedPart = record { part = stray; spot = record { site = at; count = 1 }; in_macro = m } in
    let calm : ended_by (parts_of (p ∷ ps)) ≡ None =
    calm_placed (with_parts m expand 0 bs) (parts_stay m expand w.stays 0 bs) (with_placed_parts m place 0 (moved_on 1 at) bs) (parts_are m place expand w.places 0 (moved_on 1 at) bs) (p ∷ ps) d in
    clash (ended_by (stray ∷ parts_of ps)) calm (stray_ends (parts_of ps) c)
  where
    clash : {A : Type 0} {k : Refusal} (o : Option Refusal) → o ≡ None → o ≡ Some k → A
    clash o e h = absurd cc

parts_add : (m : Bool) (read : List ℕ → Reading → Outcome) (add : Adding) (place : Placing) (expand : Expansion) → Walking read add place expand → (n : ℕ) (at : Site) (text : List ℕ) (ps : List PlacedPart)
    → ended_by (parts_of ps) ≡ None → ended_by (parts_of (with_placed_parts m place n at text ps)) ≡ None
    → sites_from m read add n at text (reading_after (parts_of ps)) (sites_after ps) ≡ sites_after (with_placed_parts m place n at text ps)
unfolding sites_from with_placed_parts front_at front_after
parts_add m read add place expand w n at [] ps c d = refl
parts_add m read add place expand w (suc n) at (b ∷ bs) ps c d = parts_add m read add place expand w n (moved_on 1 at) bs ps c d
parts_add m read add place expand w zero at (b ∷ bs) ps c d =
    front_adds m read add place expand w at bs (λ k qs. parts_add m read add place expand w k (moved_on 1 at) bs qs) (front_after (parts_of ps) m b bs) ps c d

walking : (levels : ℕ) → AddsAs (macro_sites levels) (with_placed_text levels) → Walking (macro_read levels) (macro_sites levels) (with_placed_text levels) (with_macro_text levels)
walking levels adds = record { adds = adds; places = text_parts levels; joins = macro_joins levels; stays = macro_stays levels }

text_adds : (levels : ℕ) → AddsAs (macro_sites levels) (with_placed_text levels)
unfolding macro_sites with_placed_text text_after spots_read
text_adds zero t ps c d = refl
text_adds (suc levels) t ps c d =
    parts_add true (macro_read levels) (macro_sites levels) (with_placed_text levels) (with_macro_text levels) (walking levels (text_adds levels)) 0 t.site t.text ps c d

-- a file's parts without its end
inside_adds : (number : ℕ) (f : List ℕ) (r : Reading) (ps : List PlacedPart) → opened r ≡ reading_after (parts_of ps) → ended_by (parts_of ps) ≡ None → ended_by (parts_of (inside_file number f ps)) ≡ None
    → file_sites number f r (sites_after ps) ≡ sites_after (inside_file number f ps)
unfolding file_sites
inside_adds number f r ps is c d =
    ap (λ (q : Reading). sites_from false (macro_read 64) (macro_sites 64) 0 (front_of_file number f) (without_byte_order_mark f) q (sites_after ps)) is
    ∙ parts_add false (macro_read 64) (macro_sites 64) (with_placed_text 64) (with_macro_text 64) (walking 64 (text_adds 64)) 0 (front_of_file number f) (without_byte_order_mark f) ps c d

inside_read : (number : ℕ) (f : List ℕ) (r : Reading) (ps : List PlacedPart) → opened r ≡ reading_after (parts_of ps) → ended_by (parts_of ps) ≡ None → ended_by (parts_of (inside_file number f ps)) ≡ None
    → file_read f r ≡ Ok (closed (reading_after (parts_of (inside_file number f ps))))
unfolding file_read
inside_read number f r ps is c d =
    ap (λ (q : Reading). then (text_from false (macro_read 64) 0 (without_byte_order_mark f) q) (λ s. Ok (closed s))) is
    ∙ ap (λ (o : Outcome). then o (λ s. Ok (closed s)))
    (text_joins false (macro_read 64) (with_macro_text 64) (macro_joins 64) (macro_stays 64) 0 (without_byte_order_mark f) (parts_of ps) c
    ∙ ap outcome_after (sym (inside_parts number f ps)) ∙ ok_after (parts_of (inside_file number f ps)) d)

file_end : (number : ℕ) (f : List ℕ) (ps : List PlacedPart) → (sites_after (with_placed_file number f ps) ≡ sites_after (inside_file number f ps)) × (parts_of (with_placed_file number f ps) ≡ end_of_file ∷ parts_of (inside_file number f ps))
unfolding with_placed_file text_after spots_read
file_end number f ps = (refl, refl)

files_add : (number : ℕ) (fs : List (List ℕ)) (r : Reading) (ps : List PlacedPart) → opened r ≡ reading_after (parts_of ps) → ended_by (parts_of ps) ≡ None
    → ended_by (parts_of (with_placed_files number fs ps)) ≡ None → files_sites number fs r (sites_after ps) ≡ sites_after (with_placed_files number fs ps)
unfolding files_sites with_placed_files
files_add number [] r ps is c d = refl
files_add number (f ∷ fs) r ps is c d =
    let qs = inside_file number f ps in
    let end = file_end number f ps in
    let calm : ended_by (parts_of (with_placed_file number f ps)) ≡ None =
    calm_placed (with_files fs) (files_stay fs) (with_placed_files (suc number) fs) (files_parts (suc number) fs) (with_placed_file number f ps) d in
    let calm_in : ended_by (parts_of qs) ≡ None = calm_before (λ x. end_of_file ∷ x) (part_stays end_of_file) (parts_of qs) (ap ended_by (sym end.1) ∙ calm) in
    ap (λ (o : Outcome). sites_on o (files_sites (suc number) fs) (file_sites number f r (sites_after ps))) (inside_read number f r ps is c calm_in)
    ∙ ap (files_sites (suc number) fs (closed (reading_after (parts_of qs)))) (inside_adds number f r ps is c calm_in ∙ sym end.0)
    ∙ files_add (suc number) fs (closed (reading_after (parts_of qs))) (with_placed_file number f ps) (closed_after (parts_of qs) ∙ ap reading_after (sym end.1)) calm d

nothing_placed : first_sites ≡ sites_after []
unfolding text_after spots_read
nothing_placed = refl

answered : (a : Result (List Token) Refusal) (ts : List Token) (b : Bool) → cond b a (Err not_text) ≡ Ok ts → a ≡ Ok ts
answered a ts true e = e
answered a ts false e = absurd cc

calm_answer : (ps : List Part) (ts : List Token) → answer_of ps ≡ Ok ts → ended_by ps ≡ None
calm_answer ps ts e = by (ended_by ps) (ended_answer ps)
  where
    clash : (a : Result (List Token) Refusal) (k : Refusal) → a ≡ Ok ts → a ≡ Err k → Some k ≡ None
    clash a k e h = absurd cc

    by : (o : Option Refusal) → ((k : Refusal) → o ≡ Some k → answer_of ps ≡ Err k) → o ≡ None
    by None h = refl
    by (Some k) h = clash (answer_of ps) k e (h k refl)

-- Where the files are not refused, the walk takes each token where it stands.
pub spots_are : (files : List (List ℕ)) (ts : List Token) → tokens_in files ≡ Ok ts → walked_spots files ≡ spots_in files
unfolding tokens_in walked_spots spots_in
spots_are files ts e =
    let calm : ended_by (with_files files []) ≡ None = calm_answer (with_files files []) ts (answered (answer_of (with_files files [])) ts (list_all is_utf8 files) e) in
    ap (λ (s : Sites). (files_sites 0 files first_reading s).tokens) nothing_placed
    ∙ ap (λ (s : Sites). s.tokens) (files_add 0 files first_reading [] nothing_read nothing_ended (ap ended_by (parts_have_places files) ∙ calm))

-- ---- outside macros places ascend

abbrev KeepsOutside : Placing → Type 0
KeepsOutside place = (t : PlacedText) (ps : List PlacedPart) → spots_outside (place t ps) ≡ spots_outside ps

used_keeps : (place : Placing) → KeepsOutside place → (o : Option PlacedText) (ps : List PlacedPart) → spots_outside (with_text_of place o ps) ≡ spots_outside ps
used_keeps place keeps (Some t) ps = keeps t ps
used_keeps place keeps None ps = refl

piece_keeps : (place : Placing) → KeepsOutside place → (p : Piece) (s : Spot) (ps : List PlacedPart) → spots_outside (with_placed_piece place p s true ps) ≡ spots_outside ps
unfolding spots_outside
piece_keeps place keeps (use_of n) s ps = used_keeps place keeps (text_after ps n) (use_at n s true ∷ ps)
piece_keeps place keeps p s ps = refl

front_keeps : (place : Placing) → KeepsOutside place → (at : Site) (bs : List ℕ) → ((k : ℕ) (qs : List PlacedPart) → spots_outside (with_placed_parts true place k (moved_on 1 at) bs qs) ≡ spots_outside qs)
    → (f : Front) (ps : List PlacedPart) → spots_outside (with_placed_front true place f at bs ps (λ k qs. with_placed_parts true place k (moved_on 1 at) bs qs)) ≡ spots_outside ps
unfolding spots_outside
front_keeps place keeps at bs more (Some f) ps =
    let s : Spot = record { site = at; count = suc (length (take f.1 bs)) } in
    more f.1 (with_placed_piece place f.0 s true ps) ∙ piece_keeps place keeps f.0 s ps
front_keeps place keeps at bs more None ps = more 0 (record { part = stray; spot = record { site = at; count = 1 }; in_macro = true } ∷ ps)

parts_keep : (place : Placing) → KeepsOutside place → (n : ℕ) (at : Site) (text : List ℕ) (ps : List PlacedPart) → spots_outside (with_placed_parts true place n at text ps) ≡ spots_outside ps
unfolding with_placed_parts
parts_keep place keeps n at [] ps = refl
parts_keep place keeps (suc n) at (b ∷ bs) ps = parts_keep place keeps n (moved_on 1 at) bs ps
parts_keep place keeps zero at (b ∷ bs) ps = front_keeps place keeps at bs (λ k qs. parts_keep place keeps k (moved_on 1 at) bs qs) (front_after (parts_of ps) true b bs) ps

text_keeps : (levels : ℕ) → KeepsOutside (with_placed_text levels)
unfolding with_placed_text spots_outside
text_keeps zero t ps = refl
text_keeps (suc levels) t ps = parts_keep (with_placed_text levels) (text_keeps levels) 0 t.site t.text ps

-- The spots ascend, and end before that byte of that file.
record IsAscending (file start : ℕ) (ss : List Spot) : Type 0 where
  ordered : AllPairs (λ s t. EndsBefore s t.site) ss
  before : All (λ s. EndsBefore s (record { file = file; start = start })) ss

ends_by : (s : Spot) (file start next : ℕ) → start ≤ next → EndsBefore s (record { file = file; start = start }) → EndsBefore s (record { file = file; start = next })
ends_by s file start next h (inl e) = inl e
ends_by s file start next h (inr e) = inr (e.0, omega (arith, h, e.1))

raised : (file start next : ℕ) (ss : List Spot) → start ≤ next → IsAscending file start ss → IsAscending file next ss
raised file start next ss h a = record { ordered = a.ordered; before = λ k d lt. ends_by (get_or ss k d) file start next h (a.before k d lt) }

next_file : (file start : ℕ) (ss : List Spot) → IsAscending file start ss → IsAscending (suc file) 0 ss
next_file file start ss a = record { ordered = a.ordered; before = λ k d lt. ends (get_or ss k d) (a.before k d lt) }
  where
    ends : (s : Spot) → EndsBefore s (record { file = file; start = start }) → EndsBefore s (record { file = suc file; start = 0 })
    ends s (inl e) = inl (omega (arith, e))
    ends s (inr e) = inl (omega (arith, e.0))

one_more : (file start count : ℕ) (ss : List Spot) → IsAscending file start ss → IsAscending file (start + count) (ss ++ record { site = record { file = file; start = start }; count = count } ∷ [])
one_more file start count ss a =
    let s : Spot = record { site = record { file = file; start = start }; count = count } in
    let here : EndsBefore s (record { file = file; start = start + count }) = inr (refl, omega arith) in
    record {
      ordered = all_pairs_push (λ s t. EndsBefore s t.site) ss s a.ordered a.before;
      before = All-append (λ s. EndsBefore s (record { file = file; start = start + count })) ss (s ∷ []) (raised file start (start + count) ss (omega arith) a).before
          (All-cons (λ s. EndsBefore s (record { file = file; start = start + count })) s [] here (All-nil (λ s. EndsBefore s (record { file = file; start = start + count }))));
    }

piece_ascends : (place : Placing) → KeepsOutside place → (p : Piece) (file start count : ℕ) (ps : List PlacedPart) → IsAscending file start (spots_outside ps)
    → IsAscending file (start + count) (spots_outside (with_placed_piece place p (record { site = record { file = file; start = start }; count = count }) false ps))
unfolding spots_outside
piece_ascends place keeps (token t) file start count ps a = one_more file start count (spots_outside ps) a
piece_ascends place keeps (use_of n) file start count ps a =
    let u = use_at n (record { site = record { file = file; start = start }; count = count }) false in
    subst (IsAscending file (start + count)) (sym (used_keeps place keeps (text_after ps n) (u ∷ ps))) (raised file start (start + count) (spots_outside ps) (omega arith) a)
piece_ascends place keeps p file start count ps a = raised file start (start + count) (spots_outside ps) (omega arith) a

front_ascends : (place : Placing) → KeepsOutside place → (file start : ℕ) (bs : List ℕ)
    → ((k : ℕ) (qs : List PlacedPart) → IsAscending file (start + 1 + length (take k bs)) (spots_outside qs)
    → IsAscending file (start + 1 + length bs) (spots_outside (with_placed_parts false place k (record { file = file; start = start + 1 }) bs qs)))
    → (f : Front) (ps : List PlacedPart) → IsAscending file start (spots_outside ps)
    → IsAscending file (start + 1 + length bs)
    (spots_outside (with_placed_front false place f (record { file = file; start = start }) bs ps (λ k qs. with_placed_parts false place k (record { file = file; start = start + 1 }) bs qs)))
unfolding spots_outside
front_ascends place keeps file start bs more (Some f) ps a =
    let count = suc (length (take f.1 bs)) in
    let qs = with_placed_piece place f.0 (record { site = record { file = file; start = start }; count = count }) false ps in
    more f.1 qs (raised file (start + count) (start + 1 + length (take f.1 bs)) (spots_outside qs) (omega arith) (piece_ascends place keeps f.0 file start count ps a))
front_ascends place keeps file start bs more None ps a =
    let p : PlacedPart = record { part = stray; spot = record { site = record { file = file; start = start }; count = 1 }; in_macro = false } in
    more 0 (p ∷ ps) (raised file start (start + 1 + length (take 0 bs)) (spots_outside ps) (omega arith) a)

parts_ascend : (place : Placing) → KeepsOutside place → (file start n : ℕ) (text : List ℕ) (ps : List PlacedPart) → IsAscending file (start + length (take n text)) (spots_outside ps)
    → IsAscending file (start + length text) (spots_outside (with_placed_parts false place n (record { file = file; start = start }) text ps))
unfolding with_placed_parts
parts_ascend place keeps file start zero [] ps a = a
parts_ascend place keeps file start (suc n) [] ps a = a
parts_ascend place keeps file start (suc n) (b ∷ bs) ps a =
    let from = raised file (start + suc (length (take n bs))) (start + 1 + length (take n bs)) (spots_outside ps) (omega arith) a in
    let at : Site = record { file = file; start = start + 1 } in
    raised file (start + 1 + length bs) (start + suc (length bs)) (spots_outside (with_placed_parts false place n at bs ps)) (omega arith)
    (parts_ascend place keeps file (start + 1) n bs ps from)
parts_ascend place keeps file start zero (b ∷ bs) ps a =
    let at : Site = record { file = file; start = start } in
    let f = front_after (parts_of ps) false b bs in
    let from = raised file (start + length (take 0 (b ∷ bs))) start (spots_outside ps) (omega arith) a in
    raised file (start + 1 + length bs) (start + suc (length bs))
    (spots_outside (with_placed_front false place f at bs ps (λ k qs. with_placed_parts false place k (moved_on 1 at) bs qs))) (omega arith)
    (front_ascends place keeps file start bs (λ k qs. parts_ascend place keeps file (start + 1) k bs qs) f ps from)

files_ascend : (number : ℕ) (fs : List (List ℕ)) (ps : List PlacedPart) → IsAscending number 0 (spots_outside ps) → AllPairs (λ s t. EndsBefore s t.site) (spots_outside (with_placed_files number fs ps))
unfolding with_placed_files with_placed_file spots_outside
files_ascend number [] ps a = a.ordered
files_ascend number (f ∷ fs) ps a =
    let text = without_byte_order_mark f in
    let start = length f - length text in
    let from = raised number 0 (start + length (take 0 text)) (spots_outside ps) (omega arith) a in
    let inside : IsAscending number (start + length text) (spots_outside (inside_file number f ps)) = parts_ascend (with_placed_text 64) (text_keeps 64) number start 0 text ps from in
    files_ascend (suc number) fs (with_placed_file number f ps) (next_file number (start + length text) (spots_outside (inside_file number f ps)) inside)

pub outside_ascends : (files : List (List ℕ)) → AllPairs (λ s t. EndsBefore s t.site) (spots_outside (placed_parts files))
unfolding spots_outside
outside_ascends files = files_ascend 0 files [] (record { ordered = none_ordered; before = All-nil (λ s. EndsBefore s (record { file = 0; start = 0 })) })
  where
    none_ordered : AllPairs (λ s t. EndsBefore s t.site) []
    none_ordered i j d lt within = absurd (omega (arith, within))
