-- The frame that `hplog_open` leaves is that of the log: by it `hplog_dictionary` finds the stored dictionary. Assumes nothing.
use mathlib.Core.Path.{◌≡◌, sym, ap, ◌∙◌}
use mathlib.Core.List.{List, [], ◌++◌}
use Prim.Native.Nat.{ℕ, ◌+◌, ◌^◌, ◌≤◌, ◌<◌}
use native.Mathlib.Omega.{arith}
use lib.ListN.{length, length-append}
use Rattle.verdict.specs.Rules.{given}
use Rattle.wire.specs.Wire.{le, le_at, splice}
use Rattle.wire.proofs.Numbers.{le_at-take, le_at-le, length-le}
use Rattle.wire.proofs.Splices.{splice_front}
use Rattle.frame.specs.declared.Frame.{Frame}
use Rattle.access.specs.Access.{dictionary_span}
use Rattle.c_open.specs.Open.{frame_bytes}
use Rattle.c_stored.specs.Stored.{span_answer, c_dictionary_of}

frame-length : (r : Frame) → length (frame_bytes r) ≡ 40
unfolding frame_bytes
frame-length r = simp (length-append, length-le)

second : (d s : ℕ) (t : List ℕ) → s < 256 ^ 8 → le_at 8 (le 8 d ++ (le 8 s ++ t)) 8 ≡ s
second d s t h = rw (length-le 8 d) at (le_at-le 8 s (le 8 d) t h)

-- what is read of a frame that was laid over the front of a slice
module _ (frame : List ℕ) (r : Frame) (room : 40 ≤ length frame) where
  laid : (at : ℕ) → at + 8 ≤ 40 → le_at 8 (splice frame 0 (frame_bytes r)) at ≡ le_at 8 (frame_bytes r) at
  laid at h =
      let n = frame-length r in
      sym (le_at-take 8 (0 + length (frame_bytes r)) (splice frame 0 (frame_bytes r)) at (omega arith))
      ∙ ap (λ (t : List ℕ). le_at 8 t at) (splice_front frame (frame_bytes r) 0 (omega arith))

  module _ (d : r.dictionary < 256 ^ 8) (s : r.stored < 256 ^ 8) where
    place-first : le_at 8 (frame_bytes r) 0 ≡ r.dictionary
    unfolding frame_bytes
    place-first = le_at-le 8 r.dictionary [] _ d

    size-second : le_at 8 (frame_bytes r) 8 ≡ r.stored
    unfolding frame_bytes
    size-second = second r.dictionary r.stored _ s

    pub by-frame : (log : List ℕ)
        → c_dictionary_of log (splice frame 0 (frame_bytes r)) ≡ span_answer (given (dictionary_span log r.dictionary r.stored))
    unfolding c_dictionary_of
    by-frame log = rw (laid 0 (omega arith), laid 8 (omega arith), place-first, size-second)
