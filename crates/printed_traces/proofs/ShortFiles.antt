-- A list in a JSON text has no more items than the text has bytes.
use Rattle.std.proofs.Common.{◌≡◌, ℕ, zero, suc, ◌+◌, ◌≤◌, Bool, true, false, cond, List, [], ◌∷◌, length, Option, Some, None, option_map, Ordering, Less, Equal, Greater, ap, subst, arith}
use Rattle.std.specs.Prelude.{⊤, IfSome, option_and_then}
use Rattle.std.specs.Str.{is_utf8}
use Rattle.std.specs.Ordering.{nat_cmp, match_ordering}
use Rattle.std.specs.Cmp.Lexicographic.{slice_cmp}
use Rattle.json.specs.Token.{Token}
use Rattle.json.specs.Lex as lexer
use Rattle.json.specs.Lex.{Lexeme, comma, colon, Class, Mode, between, in_word, in_string, in_escape, lex_byte, class, lex, Place, fresh, after_value, after_comma, after_key, begins_colon, may_begin, may_close, if_allowed, place_token, punctuate, tokens}
use Rattle.json.specs.Json as json
use Rattle.json.specs.Json.{Json, parse_map, after_end_array, read_key, items_step, members_step, items, members, value_with, value, if_last}
use Rattle.serde_json.specs.Data.{Data, null, boolean, number, string, array, object, Items, no_items, item, Members, no_members, member, put}
use Rattle.serde_json.specs.Read.{number_of, of_json, of_items, of_members, max_depth, read}
use Rattle.serde_json.specs.Find.{get_member, get}
use Rattle.model_files.specs.Shape.{document}

-- ---- tokens

-- a text has no more lexemes than bytes
few_lexemes : (m : Mode) (xs : List ℕ) → length (lex m xs) ≤ length xs
unfolding lex
few_lexemes m [] = omega arith
few_lexemes m (x ∷ xs) = by m (class x) (λ next. few_lexemes next xs)
  where
    by : (m : Mode) (c : Class) → ((next : Mode) → length (lex next xs) ≤ length xs) → length (lex_byte m c x xs (λ next. lex next xs)) ≤ suc (length xs)
    by between lexer.quote f = omega (arith, f in_string)
    by between lexer.backslash f = omega (arith, f in_word)
    by between lexer.operator f = omega (arith, f between)
    by between lexer.space f = omega (arith, f between)
    by between lexer.other f = omega (arith, f in_word)
    by in_word lexer.quote f = omega (arith, f in_word)
    by in_word lexer.backslash f = omega (arith, f in_word)
    by in_word lexer.operator f = omega (arith, f between)
    by in_word lexer.space f = omega (arith, f between)
    by in_word lexer.other f = omega (arith, f in_word)
    by in_string lexer.quote f = omega (arith, f between)
    by in_string lexer.backslash f = omega (arith, f in_escape)
    by in_string lexer.operator f = omega (arith, f in_string)
    by in_string lexer.space f = omega (arith, f in_string)
    by in_string lexer.other f = omega (arith, f in_string)
    by in_escape c f = omega (arith, f in_string)

allowed : (b : Bool) (t : Token) (k : Place → List Token) (next : Place) (n : ℕ) → length (k next) ≤ suc n → length (if_allowed b t k next) ≤ suc (suc n)
allowed true t k next n h = omega (arith, h)
allowed false t k next n h = omega arith

few_placed : (p : Place) (t : Token) (before_colon : Bool) (k : Place → List Token) (n : ℕ) → ((next : Place) → length (k next) ≤ suc n)
    → length (place_token p t before_colon k) ≤ suc (suc n)
few_placed p Token.begin_object c k n h = allowed (may_begin p) Token.begin_object k fresh n (h fresh)
few_placed p Token.end_object c k n h = allowed (may_close p) Token.end_object k after_value n (h after_value)
few_placed p Token.begin_array c k n h = allowed (may_begin p) Token.begin_array k fresh n (h fresh)
few_placed p Token.end_array c k n h = allowed (may_close p) Token.end_array k after_value n (h after_value)
few_placed p (Token.key s) c k n h = omega arith
few_placed p (Token.string s) true k n h = allowed (may_begin p) (Token.key s) k after_key n (h after_key)
few_placed p (Token.string s) false k n h = allowed (may_begin p) (Token.string s) k after_value n (h after_value)
few_placed p (Token.number s) c k n h = allowed (may_begin p) (Token.number s) k after_value n (h after_value)
few_placed p (Token.boolean b) c k n h = allowed (may_begin p) (Token.boolean b) k after_value n (h after_value)
few_placed p Token.null c k n h = allowed (may_begin p) Token.null k after_value n (h after_value)
few_placed p Token.bad c k n h = omega arith

few_tokens : (p : Place) (ls : List Lexeme) → length (punctuate p ls) ≤ suc (length ls)
unfolding punctuate
few_tokens fresh [] = omega arith
few_tokens after_value [] = omega arith
few_tokens after_comma [] = omega arith
few_tokens after_key [] = omega arith
few_tokens fresh (lexer.token t ∷ ls) = few_placed fresh t (begins_colon ls) (λ next. punctuate next ls) (length ls) (λ next. few_tokens next ls)
few_tokens after_value (lexer.token t ∷ ls) = few_placed after_value t (begins_colon ls) (λ next. punctuate next ls) (length ls) (λ next. few_tokens next ls)
few_tokens after_comma (lexer.token t ∷ ls) = few_placed after_comma t (begins_colon ls) (λ next. punctuate next ls) (length ls) (λ next. few_tokens next ls)
few_tokens after_key (lexer.token t ∷ ls) = few_placed after_key t (begins_colon ls) (λ next. punctuate next ls) (length ls) (λ next. few_tokens next ls)
few_tokens fresh (comma ∷ ls) = omega arith
few_tokens after_value (comma ∷ ls) = omega (arith, few_tokens after_comma ls)
few_tokens after_comma (comma ∷ ls) = omega arith
few_tokens after_key (comma ∷ ls) = omega arith
few_tokens fresh (colon ∷ ls) = omega arith
few_tokens after_value (colon ∷ ls) = omega arith
few_tokens after_comma (colon ∷ ls) = omega arith
few_tokens after_key (colon ∷ ls) = omega (arith, few_tokens fresh ls)

-- ---- values

-- how many items stand in the lists of a value, however deep
abbrev mutual
  weight : Json → ℕ
  weight json.null = 0
  weight (json.boolean b) = 0
  weight (json.number s) = 0
  weight (json.string s) = 0
  weight (json.array js) = items_weight js
  weight (json.object ms) = members_weight ms

  items_weight : json.Items → ℕ
  items_weight json.no_items = 0
  items_weight (json.item j js) = suc (weight j + items_weight js)

  members_weight : json.Members → ℕ
  members_weight json.no_members = 0
  members_weight (json.member k j ms) = weight j + members_weight ms

-- what is read weighs no more than the tokens that it takes
abbrev Fits : {A : Type 0} → (A → ℕ) → ℕ → Option (A × List Token) → Type 0
Fits w n None = ⊤
Fits w n (Some p) = w p.0 + length p.1 ≤ n

mapped : {A B : Type 0} (f : A → B) (v : A → ℕ) (w : B → ℕ) (n m : ℕ) (r : Option (A × List Token)) → ((a : A) (k : ℕ) → v a + k ≤ n → w (f a) + k ≤ m)
    → Fits v n r → Fits w m (parse_map f r)
mapped f v w n m None h k = tt
mapped f v w n m (Some p) h k = h p.0 (length p.1) k

chained : {A B : Type 0} (v : A → ℕ) (w : B → ℕ) (n m : ℕ) (f : (A × List Token) → Option (B × List Token)) (r : Option (A × List Token))
    → ((p : A × List Token) → v p.0 + length p.1 ≤ n → Fits w m (f p)) → Fits v n r → Fits w m (option_and_then f r)
chained v w n m f None h k = tt
chained v w n m f (Some p) h k = h p k

abbrev a_value : Json → ℕ
a_value j = suc (weight j)

abbrev ReadsWithin : {A : Type 0} → (A → ℕ) → (List Token → Option (A × List Token)) → Type 0
ReadsWithin w f = (ts : List Token) → Fits w (length ts) (f ts)

abbrev AtMost : ℕ → Option (List Token) → Type 0
AtMost n None = ⊤
AtMost n (Some ts) = length ts ≤ n

end_within : (ts : List Token) → AtMost (length ts) (after_end_array ts)
end_within [] = tt
end_within (Token.begin_object ∷ ts) = tt
end_within (Token.end_object ∷ ts) = tt
end_within (Token.begin_array ∷ ts) = tt
end_within (Token.end_array ∷ ts) = omega arith
end_within (Token.key s ∷ ts) = tt
end_within (Token.string s ∷ ts) = tt
end_within (Token.number s ∷ ts) = tt
end_within (Token.boolean b ∷ ts) = tt
end_within (Token.null ∷ ts) = tt
end_within (Token.bad ∷ ts) = tt

abbrev a_key : Option (List ℕ) → ℕ
a_key k = 0

key_within : ReadsWithin a_key read_key
key_within [] = tt
key_within (Token.begin_object ∷ ts) = tt
key_within (Token.end_object ∷ ts) = omega arith
key_within (Token.begin_array ∷ ts) = tt
key_within (Token.end_array ∷ ts) = tt
key_within (Token.key s ∷ ts) = omega arith
key_within (Token.string s ∷ ts) = tt
key_within (Token.number s ∷ ts) = tt
key_within (Token.boolean b ∷ ts) = tt
key_within (Token.null ∷ ts) = tt
key_within (Token.bad ∷ ts) = tt

module _ (v : json.Parse Json) (within : ReadsWithin a_value v) where
  items_stepped : (more : json.Parse json.Items) → ReadsWithin items_weight more → (ts : List Token) (end : Option (List Token)) → AtMost (length ts) end
      → Fits items_weight (length ts) (items_step v more ts end)
  items_stepped more h ts (Some rest) e = omega (arith, e)
  items_stepped more h ts None e =
      chained a_value items_weight (length ts) (length ts) (λ p. parse_map (json.item p.0) (more p.1)) (v ts)
      (λ p k. mapped (json.item p.0) items_weight items_weight (length p.1) (length ts) (more p.1) (λ js n g. omega (arith, g, k)) (h p.1)) (within ts)

  items_within : (n : ℕ) → ReadsWithin items_weight (items v n)
  unfolding items
  items_within zero ts = tt
  items_within (suc n) ts = items_stepped (items v n) (items_within n) ts (after_end_array ts) (end_within ts)

  members_stepped : (more : json.Parse json.Members) → ReadsWithin members_weight more → (k : Option (List ℕ)) → ReadsWithin members_weight (members_step v more k)
  members_stepped more h None ts = omega arith
  members_stepped more h (Some k) ts =
      chained a_value members_weight (length ts) (length ts) (λ p. parse_map (json.member k p.0) (more p.1)) (v ts)
      (λ p q. mapped (json.member k p.0) members_weight members_weight (length p.1) (length ts) (more p.1) (λ ms n g. omega (arith, g, q)) (h p.1)) (within ts)

  members_within : (n : ℕ) → ReadsWithin members_weight (members v n)
  unfolding members
  members_within zero ts = tt
  members_within (suc n) ts =
      chained a_key members_weight (length ts) (length ts) (λ p. members_step v (members v n) p.0 p.1) (read_key ts)
      (λ p k. longer (length p.1) (length ts) (members_step v (members v n) p.0 p.1) (members_stepped (members v n) (members_within n) p.0 p.1) (omega (arith, k))) (key_within ts)
    where
      longer : (a b : ℕ) (r : Option (json.Members × List Token)) → Fits members_weight a r → a ≤ b → Fits members_weight b r
      longer a b None f l = tt
      longer a b (Some p) f l = omega (arith, f, l)

with_within : (a : json.Parse json.Items) (o : json.Parse json.Members) → ReadsWithin items_weight a → ReadsWithin members_weight o → ReadsWithin a_value (value_with a o)
with_within a o f g [] = tt
with_within a o f g (Token.begin_object ∷ ts) =
    mapped json.object members_weight a_value (length ts) (suc (length ts)) (o ts) (λ ms n k. omega (arith, k)) (g ts)
with_within a o f g (Token.end_object ∷ ts) = tt
with_within a o f g (Token.begin_array ∷ ts) =
    mapped json.array items_weight a_value (length ts) (suc (length ts)) (a ts) (λ js n k. omega (arith, k)) (f ts)
with_within a o f g (Token.end_array ∷ ts) = tt
with_within a o f g (Token.key s ∷ ts) = tt
with_within a o f g (Token.string s ∷ ts) = omega arith
with_within a o f g (Token.number s ∷ ts) = omega arith
with_within a o f g (Token.boolean b ∷ ts) = omega arith
with_within a o f g (Token.null ∷ ts) = omega arith
with_within a o f g (Token.bad ∷ ts) = tt

value_within : (depth : ℕ) → ReadsWithin a_value (value depth)
unfolding value
value_within zero = with_within (λ ts. None) (λ ts. None) (λ ts. tt) (λ ts. tt)
value_within (suc depth) =
    with_within (λ ts. items (value depth) (length ts) ts) (λ ts. members (value depth) (length ts) ts)
    (λ ts. items_within (value depth) (value_within depth) (length ts) ts) (λ ts. members_within (value depth) (value_within depth) (length ts) ts)

-- ---- data

-- the same of data
abbrev mutual
  pub data_weight : Data → ℕ
  data_weight null = 0
  data_weight (boolean b) = 0
  data_weight (number n) = 0
  data_weight (string s) = 0
  data_weight (array ds) = listed_weight ds
  data_weight (object ms) = named_weight ms

  pub listed_weight : Items → ℕ
  listed_weight no_items = 0
  listed_weight (item d ds) = suc (data_weight d + listed_weight ds)

  pub named_weight : Members → ℕ
  named_weight no_members = 0
  named_weight (member k d ms) = data_weight d + named_weight ms

put_within : (k : List ℕ) (d : Data) (ms : Members) → named_weight (put k d ms) ≤ data_weight d + named_weight ms
put_within k d no_members = omega arith
put_within k d (member l e ms) = by (slice_cmp nat_cmp k l) (put_within k d ms)
  where
    by : (o : Ordering) → named_weight (put k d ms) ≤ data_weight d + named_weight ms
        → named_weight (match_ordering o (member k d (member l e ms)) (member l d ms) (member l e (put k d ms))) ≤ data_weight d + (data_weight e + named_weight ms)
    by Less h = omega arith
    by Equal h = omega arith
    by Greater h = omega (arith, h)

some_mapped : {A B : Type 0} (f : A → B) (P : A → Type 0) (Q : B → Type 0) (o : Option A) → ((a : A) → P a → Q (f a)) → IfSome o P → IfSome (option_map f o) Q
some_mapped f P Q None h k = tt
some_mapped f P Q (Some a) h k = h a k

some_chained : {A B : Type 0} (f : A → Option B) (P : A → Type 0) (Q : B → Type 0) (o : Option A) → ((a : A) → P a → IfSome (f a) Q) → IfSome o P
    → IfSome (option_and_then f o) Q
some_chained f P Q None h k = tt
some_chained f P Q (Some a) h k = h a k

none_heavy : {A : Type 0} (f : A → Data) (o : Option A) → ((a : A) → data_weight (f a) ≤ 0) → IfSome (option_map f o) (λ d. data_weight d ≤ 0)
none_heavy f None h = tt
none_heavy f (Some a) h = h a

lighter : (o : Option Members) (a b : ℕ) → a ≤ b → IfSome o (λ ds. named_weight ds ≤ a) → IfSome o (λ ds. named_weight ds ≤ b)
lighter None a b l h = tt
lighter (Some ds) a b l h = omega (arith, l, h)

mutual
  data_within : (j : Json) → IfSome (of_json j) (λ d. data_weight d ≤ weight j)
  data_within json.null = omega arith
  data_within (json.boolean b) = omega arith
  data_within (json.number s) = none_heavy number (number_of s) (λ n. omega arith)
  data_within (json.string s) = omega arith
  data_within (json.array js) =
      some_mapped array (λ ds. listed_weight ds ≤ items_weight js) (λ d. data_weight d ≤ items_weight js) (of_items js) (λ ds h. h) (listed_within js)
  data_within (json.object ms) =
      some_mapped object (λ ds. named_weight ds ≤ members_weight ms + 0) (λ d. data_weight d ≤ members_weight ms) (of_members ms no_members)
      (λ ds h. omega (arith, h)) (named_within ms no_members)

  listed_within : (js : json.Items) → IfSome (of_items js) (λ ds. listed_weight ds ≤ items_weight js)
  listed_within json.no_items = omega arith
  listed_within (json.item j js) =
      some_chained (λ d. option_map (item d) (of_items js)) (λ d. data_weight d ≤ weight j) (λ ds. listed_weight ds ≤ suc (weight j + items_weight js)) (of_json j)
      (λ d h. some_mapped (item d) (λ ds. listed_weight ds ≤ items_weight js) (λ ds. listed_weight ds ≤ suc (weight j + items_weight js)) (of_items js)
      (λ ds k. omega (arith, h, k)) (listed_within js)) (data_within j)

  named_within : (ms : json.Members) (found : Members) → IfSome (of_members ms found) (λ ds. named_weight ds ≤ members_weight ms + named_weight found)
  named_within json.no_members found = omega arith
  named_within (json.member k j ms) found =
      some_chained (λ d. of_members ms (put k d found)) (λ d. data_weight d ≤ weight j)
      (λ ds. named_weight ds ≤ (weight j + members_weight ms) + named_weight found) (of_json j)
      (λ d h. lighter (of_members ms (put k d found)) (members_weight ms + named_weight (put k d found)) ((weight j + members_weight ms) + named_weight found)
      (omega (arith, h, put_within k d found)) (named_within ms (put k d found))) (data_within j)

last_within : (p : Json × List Token) (n : ℕ) → a_value p.0 + length p.1 ≤ n → IfSome (if_last p.0 p.1) (λ j. a_value j ≤ n)
last_within (j, []) n h = omega (arith, h)
last_within (j, t ∷ ts) n h = tt

read_within : (text : List ℕ) → IfSome (read text) (λ d. data_weight d ≤ length text)
read_within text =
    some_chained of_json (λ j. a_value j ≤ length (tokens text)) (λ d. data_weight d ≤ length text)
    (option_and_then (λ p. if_last p.0 p.1) (value max_depth (tokens text)))
    (λ j h. light (of_json j) (weight j) (length text) (omega (arith, h, few_lexemes between text, few_tokens fresh (lex between text))) (data_within j))
    (last (value max_depth (tokens text)) (value_within max_depth (tokens text)))
  where
    last : (r : Option (Json × List Token)) → Fits a_value (length (tokens text)) r
        → IfSome (option_and_then (λ p. if_last p.0 p.1) r) (λ j. a_value j ≤ length (tokens text))
    last None h = tt
    last (Some p) h = last_within p (length (tokens text)) h

    light : (o : Option Data) (a b : ℕ) → a ≤ b → IfSome o (λ d. data_weight d ≤ a) → IfSome o (λ d. data_weight d ≤ b)
    light None a b l h = tt
    light (Some d) a b l h = omega (arith, l, h)

pub document_within : (bytes : List ℕ) (d : Data) → document bytes ≡ Some d → data_weight d ≤ length bytes
document_within bytes d e = by (is_utf8 bytes) e
  where
    by : (b : Bool) → cond b (read bytes) None ≡ Some d → data_weight d ≤ length bytes
    by true k = subst (λ o. IfSome o (λ x. data_weight x ≤ length bytes)) k (read_within bytes)
    by false k = cc

-- ---- what stands under a key

member_within : (k : List ℕ) (ms : Members) (d : Data) → get_member k ms ≡ Some d → data_weight d ≤ named_weight ms
member_within k no_members d e = cc
member_within k (member l x ms) d e = by (slice_cmp nat_cmp k l) (member_within k ms d) e
  where
    same : Some x ≡ Some d → x ≡ d
    same q = cc

    by : (o : Ordering) → (get_member k ms ≡ Some d → data_weight d ≤ named_weight ms)
        → match_ordering o (get_member k ms) (Some x) (get_member k ms) ≡ Some d → data_weight d ≤ data_weight x + named_weight ms
    by Less f q = omega (arith, f q)
    by Equal f q = omega (arith, ap data_weight (same q))
    by Greater f q = omega (arith, f q)

pub under_within : (k : List ℕ) (d x : Data) → get k d ≡ Some x → data_weight x ≤ data_weight d
under_within k null x e = cc
under_within k (boolean b) x e = cc
under_within k (number n) x e = cc
under_within k (string s) x e = cc
under_within k (array ds) x e = cc
under_within k (object ms) x e = member_within k ms x e
