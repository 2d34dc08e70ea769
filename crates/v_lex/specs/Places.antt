-- Where tokens stand in their files.
use Rattle.std.specs.Prelude.{◌≡◌, ℕ, ◌+◌, ◌≤◌, List, length, take, drop, slice_get, Some}
use Rattle.v_token.specs.declared.token.Token.{Token}
use Rattle.v_lex.specs.View.{IsTextOf}

-- Files and places in them are told by numbers of 32 bits.
abbrev pub AreShort : List (List ℕ) → Type 0
AreShort files = (length files ≤ 4294967295) × ((file : ℕ) (f : List ℕ) → slice_get files file ≡ Some f → length f ≤ 4294967295)

-- The text stands in that file from that byte on.
abbrev pub StandsAt : List (List ℕ) → (file start : ℕ) → (text : List ℕ) → Type 0
StandsAt files file start text = (f : List ℕ) × (slice_get files file ≡ Some f) × (start + length text ≤ length f) × (take (length text) (drop start f) ≡ text)

-- A token's text is a slice of its file, and the text of what the token is.
abbrev pub IsSlice : List (List ℕ) → Token → Type 0
IsSlice files t = StandsAt files t.file t.start t.text.now × IsTextOf t.kind t.text.now
