-- What the private functions answer on the way. No public contract rests on these. Assumes nothing.
use Rattle.std.specs.Prelude.{ℕ, ◌+◌, ◌≤◌, ◌<◌, Bool, false, List, ◌≡◌, length, get_or, drop}
use Rattle.utf8.specs.Utf8.{Range, sequences, utf8_from, utf8_of}

-- the w bytes from i are below 80 hex
pub record Low (w : ℕ) (s : List ℕ) (i : ℕ) : Type 0 where
  pub below : (k : ℕ) → k < w → get_or s (i + k) 0 < 0x80

-- from i to j stand whole sequences, so that what follows j decides
pub record Passed (s : List ℕ) (i j : ℕ) : Type 0 where
  pub from : i ≤ j
  pub within : j ≤ length s
  pub rest : utf8_of (drop j s) ≡ utf8_of (drop i s)

-- j is 0 where v is false already; else it lies past i, and what follows it decides v
pub record Stepped (v : Bool) (s : List ℕ) (i j : ℕ) : Type 0 where
  pub within : j ≤ length s
  pub none : j ≡ 0 → v ≡ false
  pub past : (j ≡ 0 → ⊥) → (i < j) × (utf8_of (drop j s) ≡ v)

-- the same of the bytes after the one at i, which are to be in these ranges and then whole sequences
abbrev pub Followed : List Range → List ℕ → ℕ → ℕ → Type 0
Followed rs s i j = Stepped (utf8_from sequences rs (drop (i + 1) s)) s i j

-- a tail in the words of RFC 3629
pub record Tail (b : ℕ) : Type 0 where
  pub low : 0x80 ≤ b
  pub high : b ≤ 0xBF

-- the byte d may stand after a, b and c: a tail where one of them has it to follow, in the range that the table has
-- after E0, ED, F0 and F4, and else the first byte of a sequence
pub record Fits (a b c d : ℕ) : Type 0 where
  pub second : 0xC0 ≤ c → Tail d
  pub third : 0xE0 ≤ b → Tail d
  pub fourth : 0xF0 ≤ a → Tail d
  pub alone : c < 0xC0 → b < 0xE0 → a < 0xF0 → d < 0xC0 → d < 0x80
  pub first : 0xC0 ≤ d → (0xC2 ≤ d) × (d ≤ 0xF4)
  pub after-E0 : c ≡ 0xE0 → 0xA0 ≤ d
  pub after-ED : c ≡ 0xED → d ≤ 0x9F
  pub after-F0 : c ≡ 0xF0 → 0x90 ≤ d
  pub after-F4 : c ≡ 0xF4 → d ≤ 0x8F

-- the byte at i + 3 may stand after the three before it
abbrev pub FitsAt : List ℕ → ℕ → Type 0
FitsAt s i = Fits (get_or s i 0) (get_or s (i + 1) 0) (get_or s (i + 2) 0) (get_or s (i + 3) 0)

-- and so may each of the w bytes from there
pub record Fitting (w : ℕ) (s : List ℕ) (i : ℕ) : Type 0 where
  pub each : (k : ℕ) → k < w → FitsAt s (i + k)

-- no sequence that begins among the three bytes from i goes on after them
pub record Settled (s : List ℕ) (i : ℕ) : Type 0 where
  pub four : get_or s i 0 < 0xF0
  pub three : get_or s (i + 1) 0 < 0xE0
  pub two : get_or s (i + 2) 0 < 0xC0

-- the bytes from i + 3 up to j + 3 may each stand after the three before them
pub record Windows (s : List ℕ) (i j : ℕ) : Type 0 where
  pub from : i ≤ j
  pub within : j + 3 ≤ length s
  pub fits : (k : ℕ) → i ≤ k → k < j → FitsAt s k
