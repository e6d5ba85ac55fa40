-- Names by lookup (document 01: "The name itself is handed back as a part of the lent dictionary"). Assumes nothing.
use Rattle.std.specs.Prelude.{◌≡◌, List, ℕ, ◌≤◌, ◌<◌}
use Rattle.verdict.specs.Rules.{given, refused}
use Rattle.lookup.specs.Lookup.{span_of, lookup_of, name_in}
use Rattle.lookup.specs.Answer.{bytes_of}
use Rattle.name_search.specs.Search.{numbered, missing, seek_of}

-- lookup in a plain dictionary finds these names, so many of them
pub record LooksUp (s : List ℕ) (count : ℕ) (name : ℕ → List ℕ) : Type 0 where
  -- a name by its number: where it stands in the dictionary, and the bytes there
  pub located : (i : ℕ) → i < count → lookup_of s i ≡ given (span_of s i)
  pub by_number : (i : ℕ) → i < count → name_in (lookup_of s i) s ≡ name i
  -- these bytes are what is handed back
  pub handed : (i : ℕ) → i < count → bytes_of s i ≡ given (name i)
  -- its number by the name
  pub by_name : (i : ℕ) → i < count → seek_of s (name i) ≡ given (numbered i)
  -- a name that is none of them has no number
  pub unknown : (n : List ℕ) → ((i : ℕ) → i < count → name i ≡ n → ⊥) → seek_of s n ≡ given missing
  -- "14: no such name [..]; place = number asked", from the count on
  pub past : (i : ℕ) → count ≤ i → lookup_of s i ≡ refused 14 i
