-- Opening a file at the C edge. Assumes nothing.
use Rattle.std.specs.Prelude.{List, [], ◌∷◌, ◌++◌, ℕ, length}
use Rattle.verdict.specs.Rules.{Rule, at_least, if_sound, first_broken, settle}
use Rattle.wire.specs.Wire.{le, splice}
use Rattle.rows.specs.Rows.{table_bytes}
use Rattle.frame.specs.declared.Frame.{Frame}
use Rattle.frame.specs.Frame.{frame_of}
use Rattle.reader.specs.Open.{rows_in, call_rules}
use Rattle.c_answer.specs.declared.Answer.{Answer}
use Rattle.c_answer.specs.Answer.{answered}

-- "five u64: dictionary place, its stored size, index place, first time, last time"
unfoldable pub frame_bytes : Frame → List ℕ
frame_bytes r =
    le 8 r.dictionary ++ (le 8 r.stored ++ (le 8 r.index ++ (le 8 r.first.0 ++ le 8 r.last.0)))

-- open's own, with 12 for the rows, and last 12 for the frame
unfoldable pub c_open_rules : (log : List ℕ) (rows frame : ℕ) → List Rule
c_open_rules log rows frame = call_rules log rows ++ (at_least 12 40 frame 40 ∷ [])

unfoldable pub c_open_of : (log : List ℕ) (rows frame : ℕ) → Answer
c_open_of log rows frame = answered (settle (first_broken (c_open_rules log rows frame)) (frame_of log).blocks)

-- the lent rows and the lent frame afterwards
unfoldable pub c_open_rows : (log rows : List ℕ) (frame : ℕ) → List ℕ
c_open_rows log rows frame =
    if_sound (first_broken (c_open_rules log (length rows) frame)) (splice rows 0 (table_bytes (rows_in log))) rows

unfoldable pub c_open_frame : (log : List ℕ) (rows : ℕ) (frame : List ℕ) → List ℕ
c_open_frame log rows frame =
    if_sound (first_broken (c_open_rules log rows (length frame))) (splice frame 0 (frame_bytes (frame_of log))) frame
