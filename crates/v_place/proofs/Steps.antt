-- A text of what is expected after a token is, with the token before it, one of what is expected before it.
use Rattle.std.proofs.Common.{◌≡◌, ℕ, Bool, true, false, cond, List, [], ◌∷◌, ◌++◌, Option, Some, None, refl, sym, ap, ◌∙◌, subst}
use Rattle.verilog_text.specs.Token.{Token}
use Rattle.v_place.specs.Table.{Symbol, Rule, rules, leads, is_optional, matches, by_rule, or_else, and_then, led_by, behind_token, expected_after}
use Rattle.v_place.proofs.Terminals.{IsToken, Before, token_before, matched}
use Rattle.v_place.proofs.Meaning.{At, Spells, Under, under, parted_text}
use Rattle.v_place.proofs.Sound.{IsSound, AreSound, IsLeadSound}
use Rattle.v_place.proofs.Rules.{sound, lead_sound, left_out}

pub same_some : {A : Type 0} (x y : A) → Some x ≡ Some y → x ≡ y
same_some x y e = cc

by_first : (s : Symbol) (r : Rule) (rs : List Rule) → IsSound s r → (t : Token) (new : List Symbol) (text mid : List Token) → (by_rule rs t ≡ Some new → At s (t ∷ text) mid)
    → (b : Bool) → matches r.0 t ≡ b → cond b (Some r.1) (by_rule rs t) ≡ Some new → Spells new text mid → At s (t ∷ text) mid
by_first s r rs h t new text mid others true is e d =
    let spells : Spells r.1 text mid = subst (λ (ss : List Symbol). Spells ss text mid) (sym (same_some r.1 new e)) d in
    let before : Before r.0 text (λ u. At s u mid) = under r.1 mid (λ inner. Before r.0 inner (λ u. At s u mid)) (h mid) text spells in
    token_before r.0 text (λ u. At s u mid) before (t ∷ text) (matched r.0 t text is)
by_first s r rs h t new text mid others false is e d = others e

at_by_rule : (s : Symbol) (rs : List Rule) → AreSound s rs → (t : Token) (new : List Symbol) → by_rule rs t ≡ Some new → (text mid : List Token) → Spells new text mid → At s (t ∷ text) mid
at_by_rule s [] h t new e text mid d = absurd cc
at_by_rule s (r ∷ rs) h t new e text mid d = by_first s r rs h.0 t new text mid (λ f. at_by_rule s rs h.1 t new f text mid d) (matches r.0 t) refl e d

at_led : (s : Symbol) (l : Symbol × List Symbol) → IsLeadSound s (Some l) → (t : Token) (new : List Symbol) (text mid : List Token) → (o : Option (List Symbol)) → by_rule (rules l.0) t ≡ o
    → or_else (and_then o l.1) (by_rule (rules s) t) ≡ Some new → Spells new text mid → At s (t ∷ text) mid
at_led s l h t new text mid (Some a) is e d =
    let p = parted_text a l.1 text mid (subst (λ (ss : List Symbol). Spells ss text mid) (sym (same_some (a ++ l.1) new e)) d) in
    let first : At l.0 (t ∷ text) p.0 = at_by_rule l.0 (rules l.0) (sound l.0) t a is text p.0 p.1 in
    under (l.0 ∷ l.1) mid (λ u. At s u mid) (h mid) (t ∷ text) (p.0, first, p.2)
at_led s l h t new text mid None is e d = at_by_rule s (rules s) (sound s) t new e text mid d

at_lead : (s : Symbol) (o : Option (Symbol × List Symbol)) → IsLeadSound s o → (t : Token) (new : List Symbol) (text mid : List Token) → or_else (led_by o t) (by_rule (rules s) t) ≡ Some new
    → Spells new text mid → At s (t ∷ text) mid
at_lead s None h t new text mid e d = at_by_rule s (rules s) (sound s) t new e text mid d
at_lead s (Some l) h t new text mid e d = at_led s l h t new text mid (by_rule (rules l.0) t) refl e d

at_token : (s : Symbol) (t : Token) (new : List Symbol) → behind_token s t ≡ Some new → (text mid : List Token) → Spells new text mid → At s (t ∷ text) mid
unfolding behind_token
at_token s t new e text mid d = at_lead s (leads s) (lead_sound s) t new text mid e d

passed_by : (s : Symbol) (ss : List Symbol) (t : Token) (next : List Symbol) (text rest : List Token) → (expected_after ss t ≡ Some next → Spells ss (t ∷ text) rest)
    → (b : Bool) → is_optional s ≡ b → cond b (expected_after ss t) None ≡ Some next → Spells (s ∷ ss) (t ∷ text) rest
passed_by s ss t next text rest others true is e = (t ∷ text, left_out s is (t ∷ text), others e)
passed_by s ss t next text rest others false is e = absurd cc

step_by : (s : Symbol) (ss : List Symbol) (t : Token) (next : List Symbol) (text rest : List Token) → (expected_after ss t ≡ Some next → Spells ss (t ∷ text) rest)
    → (o : Option (List Symbol)) → behind_token s t ≡ o → or_else (and_then o ss) (cond (is_optional s) (expected_after ss t) None) ≡ Some next → Spells next text rest → Spells (s ∷ ss) (t ∷ text) rest
step_by s ss t next text rest others (Some a) is e d =
    let p = parted_text a ss text rest (subst (λ (us : List Symbol). Spells us text rest) (sym (same_some (a ++ ss) next e)) d) in
    (p.0, at_token s t a is text p.0 p.1, p.2)
step_by s ss t next text rest others None is e d = passed_by s ss t next text rest others (is_optional s) refl e

pub step : (ss : List Symbol) (t : Token) (next : List Symbol) → expected_after ss t ≡ Some next → (text rest : List Token) → Spells next text rest → Spells ss (t ∷ text) rest
unfolding expected_after
step [] t next e text rest d = absurd cc
step (s ∷ ss) t next e text rest d = step_by s ss t next text rest (λ f. step ss t next f text rest d) (behind_token s t) refl e d
