-- The code's answer for each case of what stands at a position. Assumes nothing.
use Rattle.std.specs.Prelude.{Result, Ok, Err}
use Rattle.varint.specs.declared.DecodeError.TheVariants.{Cut, Malformed}
use Rattle.varint.specs.declared.DecodeError.{DecodeError}
use Rattle.std.specs.Prelude.{List, ℕ, ◌+◌, drop}
use Rattle.varint.specs.Varint.{Decoding, value, cut, malformed, decode}

-- a value goes with the position behind its bytes
unfoldable pub answer_at : ℕ → Decoding → Result (ℕ × ℕ) DecodeError
answer_at at (value v n) = Ok (v, at + n)
answer_at at cut = Err Cut
answer_at at malformed = Err Malformed

unfoldable pub decoded_at : List ℕ → ℕ → Result (ℕ × ℕ) DecodeError
decoded_at s at = answer_at at (decode (drop at s))
