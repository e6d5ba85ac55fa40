-- The panel label. Assumes nothing.
-- Document 01: "The panel label is sixteen bytes: a name of at most sixteen bytes, all from 20 to 7E hex, then spaces."
-- Document 02, a: "A printable name above sixteen bytes now shows as its first eight bytes, `~`, and its last seven".
use Rattle.std.specs.Prelude.{ℕ, suc, ◌-◌, Bool, ◌&&◌, cond, List, [], ◌∷◌, ◌++◌, leb, ltb, length, take, drop}
use Rattle.std.specs.Prelude.{replicate}
use Rattle.wire.specs.Wire.{splice}
use Rattle.verdict.specs.Rules.{Rule, flag, at_least, if_sound, first_broken, Outcome, settle}

unfoldable pub printable : ℕ → Bool
printable b = leb 0x20 b && leb b 0x7E

-- 15: "an unprintable byte, anywhere in the name"; each byte, the first of them at place i
unfoldable pub print_rules : ℕ → List ℕ → List Rule
print_rules i [] = []
print_rules i (b ∷ s) = flag 15 i (printable b) ∷ print_rules (suc i) s

-- and last 12: "lent output too small; place = length needed"
unfoldable pub label_rules : List ℕ → ℕ → List Rule
label_rules name room = print_rules 0 name ++ (at_least 12 16 room 16 ∷ [])

-- "whether it was shortened"
unfoldable pub shortened : List ℕ → Bool
shortened name = ltb 16 (length name)

-- what is handed back
unfoldable pub label_of : List ℕ → ℕ → Outcome Bool
label_of name room = settle (first_broken (label_rules name room)) (shortened name)

-- the name, then spaces
unfoldable pub padded : List ℕ → List ℕ
padded name = name ++ replicate (16 - length name) 0x20

-- "its first eight bytes, `~`, and its last seven"
unfoldable pub abridged : List ℕ → List ℕ
abridged name = take 8 name ++ (0x7E ∷ drop (length name - 7) name)

unfoldable pub label_bytes : List ℕ → List ℕ
label_bytes name = cond (shortened name) (abridged name) (padded name)

-- the panel afterwards: the label at its front, or what it was
unfoldable pub label_out : List ℕ → List ℕ → List ℕ
label_out name panel = if_sound (first_broken (label_rules name (length panel))) (splice panel 0 (label_bytes name))
    panel
