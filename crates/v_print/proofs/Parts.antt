-- What a token or a blank at the front of a text adds to the parts before it.
use Rattle.std.proofs.Common.{◌≡◌, ℕ, zero, suc, ◌+◌, ◌≤◌, Bool, true, false, List, [], ◌∷◌, ◌++◌, length, drop, Some, refl, sym, ap, ◌∙◌, subst, append_assoc, arith}
use Rattle.std.specs.Prelude.{cond}
use Rattle.std.specs.List.{list_all}
use Rattle.std.specs.Char.{is_ascii}
use Rattle.std.proofs.lemmas.Bool.{and_parts, and_from, cond-true}
use Rattle.std.proofs.lemmas.List.{drop_at, length-append}
use Rattle.verilog_text.specs.Token.{Token, text_of}
use Rattle.verilog_text.specs.Lexical.{nothing, token, Front, blank_length, is_blank_before, read_at, left_out_at}
use Rattle.verilog_text.specs.Text.{Part, piece, Conditional, leaves_out, open_after, front_after, Expansion, with_front, with_parts, with_macro_text, tokens_read}
use Rattle.v_print.specs.declared.last.Last.{Last}
use Rattle.v_print.specs.Reads.{may_go_on, IsCalm, after_text, HasTokens}

-- the text of a token, and that it is read so in front of all that may follow
pub record IsToken (kind : Last) (t : Token) : Type 0 where
  pub first : ℕ
  pub others : List ℕ
  pub is_text : text_of t ≡ first ∷ others
  pub is_plain : list_all is_ascii (first ∷ others) ≡ true
  pub is_read : (rest : List ℕ) → may_go_on kind rest ≡ true → read_at false first (others ++ rest) ≡ Some (token t, length others)

pub all_joined : (p : ℕ → Bool) (xs ys : List ℕ) → list_all p xs ≡ true → list_all p ys ≡ true → list_all p (xs ++ ys) ≡ true
all_joined p [] ys h g = g
all_joined p (x ∷ xs) ys h g =
    let parts = and_parts (p x) (list_all p xs) h in
    and_from (p x) (list_all p (xs ++ ys)) parts.0 (all_joined p xs ys parts.1 g)

-- bytes that belong to the part before
skipped : (expand : Expansion) (n : ℕ) (bs : List ℕ) (before : List Part) → with_parts false expand n bs before ≡ with_parts false expand 0 (drop n bs) before
unfolding with_parts
skipped expand zero bs before = refl
skipped expand (suc n) [] before = refl
skipped expand (suc n) (b ∷ bs) before = skipped expand n bs before

-- no conditional is open
pub calm_open : (before : List Part) → IsCalm before → open_after before ≡ []
unfolding open_after
calm_open [] h = refl
calm_open (piece nothing ∷ before) h = calm_open before h
calm_open (piece (token t) ∷ before) h = calm_open before h
calm_open (_ ∷ before) h = absurd h

front_is : (before : List Part) (b : ℕ) (bs : List ℕ) (f : Front) → IsCalm before → read_at false b bs ≡ f → front_after before false b bs ≡ f
unfolding front_after
front_is before b bs f h e = ap (λ (o : List Conditional). cond (leaves_out o) (left_out_at b bs) (read_at false b bs)) (calm_open before h) ∙ e

token_turn : (t : Token) (n b : ℕ) (bs : List ℕ) (before : List Part) → IsCalm before → read_at false b bs ≡ Some (token t, n)
    → after_text (b ∷ bs) before ≡ with_parts false (with_macro_text 64) n bs (piece (token t) ∷ before)
unfolding after_text with_parts
token_turn t n b bs before h e =
    ap (λ (f : Front). with_front (with_macro_text 64) f before (λ k parts. with_parts false (with_macro_text 64) k bs parts)) (front_is before b bs (Some (token t, n)) h e)

blank_turn : (n b : ℕ) (bs : List ℕ) (before : List Part) → IsCalm before → read_at false b bs ≡ Some (nothing, n)
    → after_text (b ∷ bs) before ≡ with_parts false (with_macro_text 64) n bs (piece nothing ∷ before)
unfolding after_text with_parts
blank_turn n b bs before h e =
    ap (λ (f : Front). with_front (with_macro_text 64) f before (λ k parts. with_parts false (with_macro_text 64) k bs parts)) (front_is before b bs (Some (nothing, n)) h e)

skipped_text : (n : ℕ) (bs : List ℕ) (before : List Part) → with_parts false (with_macro_text 64) n bs before ≡ after_text (drop n bs) before
unfolding after_text
skipped_text n bs before = skipped (with_macro_text 64) n bs before

-- a token in front
after_token : (kind : Last) (t : Token) (k : IsToken kind t) (rest : List ℕ) (before : List Part) → may_go_on kind rest ≡ true → IsCalm before
    → after_text (text_of t ++ rest) before ≡ after_text rest (piece (token t) ∷ before)
after_token kind t k rest before go h =
    ap (λ (bs : List ℕ). after_text (bs ++ rest) before) k.is_text
    ∙ token_turn t (length k.others) k.first (k.others ++ rest) before h (k.is_read rest go)
    ∙ skipped_text (length k.others) (k.others ++ rest) (piece (token t) ∷ before)
    ∙ ap (λ (bs : List ℕ). after_text bs (piece (token t) ∷ before)) (drop_at k.others rest (length k.others) refl)

longer : (r rest others all : ℕ) → r ≤ rest → all ≡ others + rest → suc r ≤ suc all
longer r rest others all h e = omega (arith, h, e)

one_longer : (r rest : ℕ) → r ≤ rest → r ≤ suc rest
one_longer r rest h = omega (arith, h)

pub token_first : (kind : Last) (t : Token) → IsToken kind t → (rest : List ℕ) (r : List Token) → may_go_on kind rest ≡ true → HasTokens rest r → HasTokens (text_of t ++ rest) (t ∷ r)
unfolding tokens_read
token_first kind t k rest r go has = record {
  is_plain = all_joined is_ascii (text_of t) rest (ap (list_all is_ascii) k.is_text ∙ k.is_plain) has.is_plain;
  is_calm = λ before h. subst IsCalm (sym (after_token kind t k rest before go h)) (has.is_calm (piece (token t) ∷ before) h);
  tokens = λ before h. ap tokens_read (after_token kind t k rest before go h) ∙ has.tokens (piece (token t) ∷ before) h ∙ append_assoc (tokens_read before) (t ∷ []) r;
  are_few = subst (λ bs. suc (length r) ≤ length (bs ++ rest)) (sym k.is_text) (longer (length r) (length rest) (length k.others) (length (k.others ++ rest)) has.are_few (length-append k.others rest));
}

-- ---- blanks

blank_read : (c : ℕ) (cs : List ℕ) → is_blank_before false c cs ≡ true → read_at false c cs ≡ Some (nothing, blank_length false cs)
unfolding read_at
blank_read c cs e = cond-true (is_blank_before false c cs) _ _ e

-- a blank in front of more of them takes them along
blanks_by : (P : List Part → Type 0) (c : ℕ) (cs : List ℕ) (before : List Part) (t : Bool) → IsCalm before → is_blank_before false c cs ≡ t
    → P (after_text (c ∷ cs) before) → P (after_text (c ∷ cs) (piece nothing ∷ before))
    → P (with_parts false (with_macro_text 64) (cond t (suc (blank_length false cs)) 0) (c ∷ cs) (piece nothing ∷ before))
unfolding with_parts
blanks_by P c cs before true h e p q = subst P (blank_turn (blank_length false cs) c cs before h (blank_read c cs e)) p
blanks_by P c cs before false h e p q = subst P (sym (skipped_text 0 (c ∷ cs) (piece nothing ∷ before))) q

blanks : (P : List Part → Type 0) (rest : List ℕ) (before : List Part) → IsCalm before
    → P (after_text rest before) → P (after_text rest (piece nothing ∷ before)) → P (with_parts false (with_macro_text 64) (blank_length false rest) rest (piece nothing ∷ before))
unfolding blank_length
blanks P [] before h p q = subst P (sym (skipped_text 0 [] (piece nothing ∷ before))) q
blanks P (c ∷ cs) before h p q = blanks_by P c cs before (is_blank_before false c cs) h refl p q

pub blank_first : (b : ℕ) (rest : List ℕ) (r : List Token) → is_ascii b ≡ true → ((bs : List ℕ) → read_at false b bs ≡ Some (nothing, blank_length false bs))
    → HasTokens rest r → HasTokens (b ∷ rest) r
unfolding tokens_read
blank_first b rest r plain reads has = record {
  is_plain = and_from (is_ascii b) (list_all is_ascii rest) plain has.is_plain;
  is_calm = λ before h. subst IsCalm (sym (blank_turn (blank_length false rest) b rest before h (reads rest)))
      (blanks IsCalm rest before h (has.is_calm before h) (has.is_calm (piece nothing ∷ before) h));
  tokens = λ before h. ap tokens_read (blank_turn (blank_length false rest) b rest before h (reads rest))
      ∙ blanks (λ ps. tokens_read ps ≡ tokens_read before ++ r) rest before h (has.tokens before h) (has.tokens (piece nothing ∷ before) h);
  are_few = one_longer (length r) (length rest) has.are_few;
}
