-- What comes after a front, told by its first byte.
use Rattle.std.proofs.Common.{◌≡◌, ◌≢◌, ◌∙◌, ℕ, ap, sym, refl, cond, List, [], ◌∷◌, Bor, Option, Some, None, option_map, eq-eqb, eqb-true}
use Rattle.std.specs.Prelude.{◌==◌, MatchOption}
use Rattle.verilog_unique.proofs.Options.{not_true}
use Rattle.v_elab.specs.Names.{after_front}

pub not_begun : (c : ℕ) (fs bs : List ℕ) → ((rest : List ℕ) → bs ≢ c ∷ rest) → after_front (c ∷ fs) bs ≡ None
not_begun c fs [] h = refl
not_begun c fs (b ∷ bs) h =
    ap (λ t. cond t (after_front fs bs) None) (not_true (c == b) (λ t. h bs (ap (λ x. x ∷ bs) (sym (eqb-true c b t)))))

pub begun : (c : ℕ) (fs bs rest : List ℕ) → bs ≡ c ∷ rest → after_front (c ∷ fs) bs ≡ after_front fs rest
begun c fs bs rest e = ap (after_front (c ∷ fs)) e ∙ ap (λ t. cond t (after_front fs rest) None) (eq-eqb c c refl)

-- the same where what comes after is answered
pub after_last : (c : ℕ) (bs : List ℕ) (r : Option (Bor (List ℕ))) → MatchOption r ((rest : List ℕ) → bs ≢ c ∷ rest) (λ x. bs ≡ c ∷ x.now)
    → option_map (λ n. n.now) r ≡ after_front (c ∷ []) bs
after_last c bs None h = sym (not_begun c [] bs h)
after_last c bs (Some x) h = sym (begun c [] bs x.now h)
