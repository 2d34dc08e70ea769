-- How the steps of a log lie in two buffers: the codes of all their literals, and all their hints.
use Rattle.std.specs.Prelude.{◌≡◌, ℕ, ◌≤◌, List, ◌++◌, length, map, slice_range}
use Rattle.sat_base.specs.declared.logs.Lemma.{Lemma}
use Rattle.sat_base.specs.declared.logs.Step.{Step}
use Rattle.sat_base.specs.Codes.{literal_of}

-- the lemma of these codes and hints
abbrev pub lemma_of : (codes hints : List ℕ) → Lemma
lemma_of codes hints = record { lits = map literal_of codes; hints = hints }

-- the lemma that a step names in the buffers
abbrev pub lemma_in : (codes hints : List ℕ) → Step → Lemma
lemma_in codes hints s = lemma_of (slice_range codes s.start s.end) (slice_range hints s.first_hint s.end_hint)

-- the places of a step are within the buffers
abbrev pub IsWithin : (codes hints : List ℕ) → Step → Type 0
IsWithin codes hints s =
    (s.start ≤ s.end) × (s.end ≤ length codes) × (s.first_hint ≤ s.end_hint) × (s.end_hint ≤ length hints)

-- the new list is the old one, and perhaps more after it
abbrev pub IsGrown : (old new : List ℕ) → Type 0
IsGrown old new = (more : List ℕ) × (new ≡ old ++ more)
