-- How the words that are no identifiers begin.
use Rattle.std.specs.Prelude.{ℕ, Bool, false, cond, ◌==◌, List, [], ◌∷◌, codes}
use Rattle.std.specs.List.{list_any}

-- the letters that stand second in the reserved words that begin with a letter
abbrev pub second_letters : ℕ → List ℕ
second_letters first =
    cond (first == 97) (codes "lnsu")
    (cond (first == 98) (codes "eu")
    (cond (first == 99) (codes "aemo")
    (cond (first == 100) (codes "ei")
    (cond (first == 101) (codes "dlnv")
    (cond (first == 102) (codes "ou")
    (cond (first == 103) (codes "e")
    (cond (first == 104) (codes "i")
    (cond (first == 105) (codes "fn")
    (cond (first == 106) (codes "o")
    (cond (first == 108) (codes "aio")
    (cond (first == 109) (codes "aeo")
    (cond (first == 110) (codes "aemo")
    (cond (first == 111) (codes "ru")
    (cond (first == 112) (codes "amoru")
    (cond (first == 114) (codes "cenpt")
    (cond (first == 115) (codes "chimptu")
    (cond (first == 116) (codes "air")
    (cond (first == 117) (codes "nsw")
    (cond (first == 118) (codes "e")
    (cond (first == 119) (codes "aehio")
    (cond (first == 120) (codes "no")
    [])))))))))))))))))))))

-- whether a text begins with two letters that a reserved word begins with
unfoldable pub begins_as_reserved : List ℕ → Bool
begins_as_reserved (first ∷ second ∷ _) = list_any (λ letter. second == letter) (second_letters first)
begins_as_reserved _ = false
