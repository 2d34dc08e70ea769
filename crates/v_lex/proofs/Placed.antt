-- Tokens and macros in their places.
use Rattle.std.proofs.Common.{◌≡◌, ℕ, zero, suc, ◌+◌, ◌-◌, ◌<◌, ◌≤◌, min, Bool, true, false, cond, List, [], ◌∷◌, ◌++◌, length, get_or, take, drop, Option, Some, None, Result, Ok, Err, Bor, refl, sym, ap, ◌∙◌, subst, arith}
use Rattle.std.specs.Prelude.{◌&&◌, ◌==◌, map, option_map, slice_get, IfSome, IfOk, Vec}
use Rattle.std.specs.List.{All}
use Rattle.std.specs.Ordering.{nat_cmp}
use Rattle.std.specs.Cmp.Lexicographic.{slice_cmp}
use Rattle.std.specs.Map.{lookup}
use Rattle.std.specs.BTreeMap.{BTreeMap, get_by, is_at, IsEmpty}
use Rattle.std.specs.Global.{Global}
use Rattle.std.proofs.lemmas.Option.{slice_get-map, slice_get_read}
use Rattle.std.proofs.Math.Seq.{take-length}
use Rattle.std.proofs.lemmas.List.{length-map, length-drop, length-take, drop-drop, drop-take, take-take}
use Rattle.std.proofs.lemmas.List.Elements.{All-append, All-cons, All-nil}
use Rattle.wb_values.specs.Value.{Name, same_name}
use Rattle.verilog_text.specs.Text as texts
use Rattle.v_lex.specs.Walk as walk
use Rattle.v_token.specs.declared.token.Token.{Token}
use Rattle.v_lex.specs.View.{piece_of, taken}
use Rattle.v_lex.specs.Reading.{front_in}
use Rattle.v_lex.specs.Places.{AreShort, StandsAt, IsSlice}
use Rattle.v_lex.specs.Placed.{flat, span_under, IsSpanOf, IsPlaced, IsReaderPlaced, Keeps, IsPieceAt, IsUse, IsTakenAt, IsFrontPart}
use Rattle.v_lex.specs.Spots.{moved_on}
use Rattle.v_lex.specs.Sited.{site_of, IsSited}
use Rattle.v_lex.proofs.Turns.{front_behind}
use Rattle.v_lex.specs.declared.piece.Piece.{Piece}
use Rattle.v_lex.specs.declared.piece.Piece.TheVariants as code
use Rattle.v_lex.specs.declared.place.Place.{Place}
use Rattle.v_lex.specs.declared.stop.Stop.{Stop}
use Rattle.v_lex.specs.declared.state.Span.{Span}
use Rattle.v_lex.specs.declared.state.Reader.{Reader}

-- ---- slices

-- a rest by its length
suffix : (k : ℕ) (xs : List ℕ) → drop (length xs - length (drop k xs)) xs ≡ drop k xs
suffix zero xs = let e : length xs - length xs ≡ 0 = omega arith in ap (λ (n : ℕ). drop n xs) e
suffix (suc k) [] = refl
suffix (suc k) (x ∷ xs) =
    let e : length (x ∷ xs) - length (drop k xs) ≡ suc (length xs - length (drop k xs)) = omega (arith, length-drop k xs) in
    ap (λ (n : ℕ). drop n (x ∷ xs)) e ∙ suffix k xs

part : (f text : List ℕ) (s j m : ℕ) → take (length text) (drop s f) ≡ text → j + m ≤ length text → take m (drop (s + j) f) ≡ take m (drop j text)
part f text s j m e h =
    let n = length text in
    let split : n ≡ j + (n - j) = omega (arith, h) in
    let rest : drop j text ≡ take (n - j) (drop (s + j) f) =
    ap (drop j) (sym e ∙ ap (λ (k : ℕ). take k (drop s f)) split) ∙ drop-take j (n - j) (drop s f) ∙ ap (take (n - j)) (drop-drop j s f) in
    sym (ap (take m) rest ∙ take-take m (n - j) (drop (s + j) f) (omega (arith, h)))

stands_part : (files : List (List ℕ)) (file s j : ℕ) (text t : List ℕ) → StandsAt files file s text → j + length t ≤ length text → t ≡ take (length t) (drop j text)
    → StandsAt files file (s + j) t
stands_part files file s j text t at h e = (at.0, at.1, omega (arith, at.2, h), part at.0 text s j (length t) at.3 h ∙ sym e)

-- ---- what is placed

pub kept : (files : List (List ℕ)) (old new : Reader) → Keeps old new → IsReaderPlaced files old → IsReaderPlaced files new
kept files old new k p = subst (λ m. IsPlaced files m new.tokens.items) (sym k.0) (subst (λ v. IsPlaced files old.macros v.items) (sym k.1) p)

one : (P : Token → Type 0) (t : Token) → P t → All P (t ∷ [])
one P t h = All-cons P t [] h (All-nil P)

placed_token : (files : List (List ℕ)) (m : BTreeMap (Bor (List ℕ)) (Option Span)) (ts : List Token) (t : Token) → IsSlice files t → IsPlaced files m ts → IsPlaced files m (ts ++ t ∷ [])
placed_token files m ts t s p = record { slices = All-append (IsSlice files) ts (t ∷ []) p.slices (one (IsSlice files) t s); texts = p.texts }

if_by : (P : Span → Type 0) (b : Bool) (o p : Option Span) → IfSome o P → IfSome p P → IfSome (cond b o p) P
if_by P true o p h g = h
if_by P false o p h g = g

placed_texts : (files : List (List ℕ)) (old new : BTreeMap (Bor (List ℕ)) (Option Span)) (ts : List Token) (n : Name) (o : Option Span)
    → ((q : Name) → span_under new q ≡ cond (same_name n q) o (span_under old q)) → IfSome o (IsSpanOf files) → IsPlaced files old ts → IsPlaced files new ts
placed_texts files old new ts n o e h p = record {
  slices = p.slices;
  texts = λ q. subst (λ x. IfSome x (IsSpanOf files)) (sym (e q)) (if_by (IsSpanOf files) (same_name n q) o (span_under old q) h (p.texts q));
}

-- ---- the readers' pieces

pub pushed_placed : (files : List (List ℕ)) (old new : Reader) (t : Token) → new.tokens.items ≡ old.tokens.items ++ t ∷ [] → new.macros ≡ old.macros → IsSlice files t
    → IsReaderPlaced files old → IsReaderPlaced files new
pushed_placed files old new t e m s p =
    subst (λ ms. IsPlaced files ms new.tokens.items) (sym m) (subst (λ ts. IsPlaced files old.macros ts) (sym e) (placed_token files old.macros old.tokens.items t s p))

short_start : (files : List (List ℕ)) (file s : ℕ) (text : List ℕ) → AreShort files → StandsAt files file s text → s + length text ≤ 4294967295
short_start files file s text h at = omega (arith, at.2, h.1 file at.0 at.1)

defined_placed : (files : List (List ℕ)) (old new : Reader) (n : Name) (s : Span) (behind : Place) → AreShort files
    → StandsAt files behind.file (behind.start - length s.text.now) s.text.now → s.place.file ≡ behind.file → s.place.start ≡ behind.start - min (length s.text.now) 4294967295
    → new.tokens ≡ old.tokens → ((q : Name) → span_under new.macros q ≡ cond (same_name n q) (Some s) (span_under old.macros q))
    → IsReaderPlaced files old → IsReaderPlaced files new
defined_placed files old new n s behind h at f b e m p =
    let few : length s.text.now ≤ 4294967295 = omega (arith, short_start files behind.file (behind.start - length s.text.now) s.text.now h at) in
    let start : behind.start - length s.text.now ≡ s.place.start = omega (arith, b, few) in
    let there : IsSpanOf files s =
    subst (λ (x : ℕ). StandsAt files x s.place.start s.text.now) (sym f) (subst (λ (x : ℕ). StandsAt files behind.file x s.text.now) start at) in
    subst (λ v. IsPlaced files new.macros v.items) (sym e) (placed_texts files old.macros new.macros old.tokens.items n (Some s) m there p)

-- the same where the span is made of the text and its place
pub span_placed : (files : List (List ℕ)) (old new : Reader) (n : Name) (s : Span) (w : List ℕ) (place behind : Place) → s.text.now ≡ w → s.place ≡ place
    → AreShort files → StandsAt files behind.file (behind.start - length w) w → place.file ≡ behind.file → place.start ≡ behind.start - min (length w) 4294967295
    → new.tokens ≡ old.tokens → ((q : Name) → span_under new.macros q ≡ cond (same_name n q) (Some s) (span_under old.macros q))
    → IsReaderPlaced files old → IsReaderPlaced files new
span_placed files old new n s w place behind is_text is_place h at f b e m p =
    defined_placed files old new n s behind h
    (subst (λ (x : List ℕ). StandsAt files behind.file (behind.start - length x) x) (sym is_text) at)
    (ap (λ x. x.file) is_place ∙ f)
    (ap (λ x. x.start) is_place ∙ b ∙ ap (λ (x : List ℕ). behind.start - min (length x) 4294967295) (sym is_text))
    e m p

pub undefined_placed : (files : List (List ℕ)) (old new : Reader) (n : Name)
    → new.tokens ≡ old.tokens → ((q : Name) → span_under new.macros q ≡ cond (same_name n q) None (span_under old.macros q))
    → IsReaderPlaced files old → IsReaderPlaced files new
undefined_placed files old new n e m p =
    subst (λ v. IsPlaced files new.macros v.items) (sym e) (placed_texts files old.macros new.macros old.tokens.items n None m tt p)

pub used_placed : (files : List (List ℕ)) (r : Reader) (result : Result (Option Span) Stop) (o : Option Span) → IsUse result o → IfSome o (IsSpanOf files)
    → IsReaderPlaced files r → IsTakenAt result files r
used_placed files r (Ok (Some s)) o u h p = (p, subst (λ x. IfSome x (IsSpanOf files)) u h)
used_placed files r (Ok None) o u h p = (p, tt)
used_placed files r (Err e) o u h p = tt

-- ---- the next piece of a text

pub rest_behind : (text rest : List ℕ) (k : ℕ) → rest ≡ drop k text → (drop (length text - length rest) text ≡ rest) × (length rest ≤ length text)
rest_behind text rest k e =
    (ap (λ (r : List ℕ). drop (length text - length r) text) e ∙ suffix k text ∙ sym e, omega (arith, ap length e, length-drop k text))

token_cut : (text rest t : List ℕ) → length rest ≤ length text → t ≡ taken text rest → (length t ≡ length text - length rest) × (t ≡ take (length t) (drop 0 text))
token_cut text rest t le e =
    let n : length t ≡ length text - length rest = omega (arith, ap length e, length-take (length text - length rest) text) in
    (n, e ∙ sym (ap (λ (k : ℕ). take k text) n))

nil : (t : List ℕ) → length t ≡ 0 → t ≡ []
nil [] e = refl
nil (x ∷ t) e = absurd (not_none (length t) e)
  where
    not_none : (n : ℕ) → suc n ≡ 0 → ⊥
    not_none n h = omega (arith, h)

definition_cut : (text rest bs t : List ℕ) (j : ℕ) → text ≡ 96 ∷ bs → length rest ≤ length text → t ≡ taken (drop j bs) rest
    → (length t ≤ length text - length rest) × (t ≡ take (length t) (drop (length text - length rest - length t) text))
definition_cut text rest bs t j e le h =
    let count : length t ≡ length bs - j - length rest = omega (arith, ap length h, length-take (length (drop j bs) - length rest) (drop j bs), length-drop j bs) in
    let all : length text ≡ suc (length bs) = ap length e in
    (omega (arith, count, all), cut (length t) refl count all)
  where
    cut : (m : ℕ) → length t ≡ m → length t ≡ length bs - j - length rest → length text ≡ suc (length bs)
        → t ≡ take (length t) (drop (length text - length rest - length t) text)
    cut zero z count all = nil t z ∙ sym (ap (λ (k : ℕ). take k (drop (length text - length rest - length t) text)) z)
    cut (suc m) z count all =
        let place : length text - length rest - length t ≡ suc j = omega (arith, z, count, all) in
        let there : drop (length text - length rest - length t) text ≡ drop j bs = ap (λ (k : ℕ). drop k text) place ∙ ap (drop (suc j)) e in
        let same : length (drop j bs) - length rest ≡ length t = omega (arith, count, length-drop j bs) in
        h ∙ ap (λ (k : ℕ). take k (drop j bs)) same ∙ sym (ap (take (length t)) there)

stands_front : (files : List (List ℕ)) (file s : ℕ) (text t : List ℕ) → StandsAt files file s text → length t ≤ length text → t ≡ take (length t) (drop 0 text) → StandsAt files file s t
stands_front files file s text t at le e =
    let none : s + 0 ≡ s = omega arith in subst (λ (x : ℕ). StandsAt files file x t) none (stands_part files file s 0 text t at (omega (arith, le)) e)

-- where the rest begins
rest_start : (files : List (List ℕ)) (p : Piece) (text rest : Span) → AreShort files → IsSpanOf files text → IsFrontPart text p rest
    → rest.place.start ≡ text.place.start + (length text.text.now - length rest.text.now)
rest_start files p text rest h at q = omega (arith, q.2, short_start files text.place.file text.place.start text.text.now h at)

-- a part that ends where the rest begins
ends_there : (files : List (List ℕ)) (p : Piece) (text rest : Span) (t : List ℕ) → AreShort files → IsSpanOf files text → IsFrontPart text p rest
    → length t ≤ length text.text.now - length rest.text.now
    → text.place.start + (length text.text.now - length rest.text.now - length t) ≡ rest.place.start - length t
ends_there files p text rest t h at q le = omega (arith, rest_start files p text rest h at q, le)

piece_there : (files : List (List ℕ)) (p : Piece) (text rest : Span) → AreShort files → IsSpanOf files text → length rest.text.now ≤ length text.text.now
    → IsFrontPart text p rest → IsPieceAt files p text.place rest.place
piece_there files code.Nothing text rest h at le q = tt
piece_there files (code.Token k t) text rest h at le q =
    let cut = token_cut text.text.now rest.text.now t.now le q.0.0 in
    (stands_front files text.place.file text.place.start text.text.now t.now at (omega (arith, cut.0)) cut.1, q.0.1)
piece_there files code.LeftOut text rest h at le q = tt
piece_there files code.Misdirected text rest h at le q = tt
piece_there files (code.Define n t) text rest h at le q =
    let cut = definition_cut text.text.now rest.text.now q.0.0 t.now q.0.2.0 q.0.1 le q.0.2.1 in
    let there = stands_part files text.place.file text.place.start (length text.text.now - length rest.text.now - length t.now) text.text.now t.now at (omega (arith, cut.0, le)) cut.1 in
    subst (λ (x : ℕ). StandsAt files x (rest.place.start - length t.now) t.now) (sym q.1)
    (subst (λ (x : ℕ). StandsAt files text.place.file x t.now) (ends_there files (code.Define n t) text rest t.now h at q cut.0) there)
piece_there files (code.Undefine n) text rest h at le q = tt
piece_there files (code.IfDefined b n) text rest h at le q = tt
piece_there files (code.ElseIf n) text rest h at le q = tt
piece_there files code.Otherwise text rest h at le q = tt
piece_there files code.EndIf text rest h at le q = tt
piece_there files (code.Use n) text rest h at le q = tt

rest_there : (files : List (List ℕ)) (p : Piece) (text rest : Span) → AreShort files → IsSpanOf files text
    → (drop (length text.text.now - length rest.text.now) text.text.now ≡ rest.text.now) × (length rest.text.now ≤ length text.text.now) → IsFrontPart text p rest → IsSpanOf files rest
rest_there files p text rest h at cut q =
    let there = stands_part files text.place.file text.place.start (length text.text.now - length rest.text.now) text.text.now rest.text.now at (omega (arith, cut.1))
    (sym (ap (take (length rest.text.now)) cut.0 ∙ take-length rest.text.now)) in
    subst (λ (x : ℕ). StandsAt files x rest.place.start rest.text.now) (sym q.1)
    (subst (λ (x : ℕ). StandsAt files text.place.file x rest.text.now) (sym (rest_start files p text rest h at q)) there)

pub next_piece : (is_macro : Bool) (files : List (List ℕ)) (p : Piece) (text rest : Span) (r : walk.Reading) → AreShort files → IsSpanOf files text
    → front_in is_macro r text.text.now ≡ Some (Some (piece_of p, rest.text.now)) → IsFrontPart text p rest → IsPieceAt files p text.place rest.place × IsSpanOf files rest
next_piece is_macro files p text rest r h at front q =
    let b = front_behind is_macro text.text.now rest.text.now (piece_of p) r front in
    let cut = rest_behind text.text.now rest.text.now b.0 b.1 in
    (piece_there files p text rest h at cut.1 q, rest_there files p text rest h at cut q)

pub unless : {A E : Type 0} (r : Result A E) (e : E) (X : Type 0) → r ≡ Err e → IfOk r (λ x. X)
unless (Ok x) e X h = absurd cc
unless (Err y) e X h = tt

-- ---- files

mark_by : (t : Bool) (a b c : ℕ) (bs : List ℕ) → (k : ℕ) × (cond t bs (a ∷ b ∷ c ∷ bs) ≡ drop k (a ∷ b ∷ c ∷ bs))
mark_by true a b c bs = (3, refl)
mark_by false a b c bs = (0, refl)

behind_mark : (bytes : List ℕ) → (k : ℕ) × (texts.without_byte_order_mark bytes ≡ drop k bytes)
unfolding texts.without_byte_order_mark
behind_mark [] = (0, refl)
behind_mark (a ∷ []) = (0, refl)
behind_mark (a ∷ b ∷ []) = (0, refl)
behind_mark (a ∷ b ∷ c ∷ bs) = mark_by (a == 239 && b == 187 && c == 191) a b c bs

pub file_opened : (files : List (List ℕ)) (number : ℕ) (bytes : List ℕ) (s : Span) → AreShort files → slice_get files number ≡ Some bytes
    → s.text.now ≡ texts.without_byte_order_mark bytes → s.place.file ≡ number → s.place.start ≡ min (length bytes - length s.text.now) 4294967295
    → IsSpanOf files s × (s.place.start ≡ length bytes - length s.text.now)
file_opened files number bytes s h get e f b =
    let mark = behind_mark bytes in
    let cut = rest_behind bytes s.text.now mark.0 (e ∙ mark.1) in
    let start : s.place.start ≡ length bytes - length s.text.now = omega (arith, b, h.1 number bytes get) in
    let there : StandsAt files number (length bytes - length s.text.now) s.text.now =
    (bytes, get, omega (arith, cut.1), ap (take (length s.text.now)) cut.0 ∙ take-length s.text.now) in
    (subst (λ (x : ℕ). StandsAt files x s.place.start s.text.now) (sym f) (subst (λ (x : ℕ). StandsAt files number x s.text.now) (sym start) there), start)

pub number_there : (vs : List (Vec ℕ Global)) (number short : ℕ) → AreShort (map (λ f. f.items) vs) → number < length vs → short ≡ min number 4294967295 → short ≡ number
number_there vs number short h lt e = omega (arith, h.0, lt, e, length-map vs (λ f. f.items))

pub file_there : (vs : List (Vec ℕ Global)) (number short : ℕ) (v : Vec ℕ Global) (bytes : List ℕ) → number < length vs → short ≡ number → v ≡ get_or vs number v → bytes ≡ v.items
    → slice_get (map (λ f. f.items) vs) short ≡ Some bytes
file_there vs number short v bytes lt same is b =
    ap (slice_get (map (λ f. f.items) vs)) same ∙ slice_get-map (λ f. f.items) vs number
    ∙ ap (option_map (λ f. f.items)) (slice_get_read vs (length vs) number v refl lt is) ∙ ap (λ (x : List ℕ). Some x) (sym b)

pub new_placed : (files : List (List ℕ)) (m : BTreeMap (Bor (List ℕ)) (Option Span)) (ts : List Token) → IsEmpty m → ts ≡ [] → IsPlaced files m ts
new_placed files m ts e t = subst (λ us. IsPlaced files m us) (sym t) (record {
  slices = All-nil (IsSlice files);
  texts = λ q. subst (λ x. IfSome x (IsSpanOf files)) (sym (ap flat (none q))) tt;
})
  where
    none : (q : Name) → get_by (λ k. slice_cmp nat_cmp q k.now) m ≡ None
    none q = ap (lookup (is_at (λ k. slice_cmp nat_cmp q k.now))) e

-- what is so of some tokens is so of those that are handed out
pub handed_out : (P : List Token → Type 0) (r : Result (Vec Token Global) Stop) (v : Vec Token Global) → IfOk r (λ w. w ≡ v) → P v.items → IfOk r (λ w. P w.items)
handed_out P (Ok w) v same h = subst (λ x. P x.items) (sym same) h
handed_out P (Err e) v same h = tt

-- ---- the places of the next piece

pub site_behind : (files : List (List ℕ)) (p : Piece) (text rest : Span) → AreShort files → IsSpanOf files text → IsFrontPart text p rest
    → moved_on (length text.text.now - length rest.text.now) (site_of text.place) ≡ site_of rest.place
site_behind files p text rest h at q =
    let start = sym (rest_start files p text rest h at q) in
    λ i. record { file = sym q.1 i; start = start i }

sited_by : (files : List (List ℕ)) (p : Piece) (text rest : Span) → AreShort files → StandsAt files text.place.file text.place.start text.text.now → length rest.text.now ≤ length text.text.now
    → IsFrontPart text p rest → IsSited p text.place rest.place (length text.text.now - length rest.text.now)
sited_by files code.Nothing text rest h at le q = tt
sited_by files (code.Token k t) text rest h at le q = sym (token_cut text.text.now rest.text.now t.now le q.0.0).0
sited_by files code.LeftOut text rest h at le q = tt
sited_by files code.Misdirected text rest h at le q = tt
sited_by files (code.Define n t) text rest h at le q =
    let cut = definition_cut text.text.now rest.text.now q.0.0 t.now q.0.2.0 q.0.1 le q.0.2.1 in
    let ends = ends_there files (code.Define n t) text rest t.now h at q cut.0 in
    (sym q.1, omega (arith, ends, cut.0, short_start files text.place.file text.place.start text.text.now h at))
sited_by files (code.Undefine n) text rest h at le q = tt
sited_by files (code.IfDefined b n) text rest h at le q = tt
sited_by files (code.ElseIf n) text rest h at le q = tt
sited_by files code.Otherwise text rest h at le q = tt
sited_by files code.EndIf text rest h at le q = tt
sited_by files (code.Use n) text rest h at le q = tt

pub sited : (is_macro : Bool) (files : List (List ℕ)) (p : Piece) (text rest : Span) (r : walk.Reading) → AreShort files → StandsAt files text.place.file text.place.start text.text.now
    → front_in is_macro r text.text.now ≡ Some (Some (piece_of p, rest.text.now)) → IsFrontPart text p rest → IsSited p text.place rest.place (length text.text.now - length rest.text.now)
sited is_macro files p text rest r h at front q =
    let b = front_behind is_macro text.text.now rest.text.now (piece_of p) r front in
    sited_by files p text rest h at (rest_behind text.text.now rest.text.now b.0 b.1).1 q
