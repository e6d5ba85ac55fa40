-- Laws of opening at the C edge: what each part of the call decides, and what is handed back and written then. Assumes nothing.
use mathlib.Core.Path.{◌≡◌, refl, sym, ap, ◌∙◌}
use mathlib.Core.List.{List, ◌++◌}
use Prim.Native.Nat.{ℕ, ◌*◌, ◌≤◌, ◌<◌}
use lib.ListN.{length}
use Rattle.verdict.specs.Rules.{Verdict, sound, broken, first_broken, given, refused, settle, if_sound}
use Rattle.verdict.proofs.Laws.{then-sound, then-broken, settle-given, settle-refused}
use Rattle.wire.specs.Wire.{splice}
use Rattle.crc32.specs.Crc.{crc32}
use Rattle.rows.specs.Rows.{stride, table_bytes, room_rules}
use Rattle.frame.specs.declared.Frame.{Frame}
use Rattle.frame.specs.Frame.{frame_of}
use Rattle.reader.specs.Open.{rows_in, open_rules, call_rules, open_of, open_out}
use Rattle.rows.proofs.Fits.{room-short, room-there}
use Rattle.reader.proofs.Opens.{rows-count}
use Rattle.reader.proofs.Sound.{laid}
use Rattle.c_answer.specs.declared.Answer.{Answer}
use Rattle.c_answer.specs.Answer.{answered}
use Rattle.c_open.specs.Open.{frame_bytes, c_open_rules, c_open_of, c_open_rows, c_open_frame}
use Rattle.c_answer.proofs.Lacking.{lacking, lacking-broken, lacking-sound, lacking-rules, lacking-never, roomy-rules}

-- ---- where the frame has no room, by what the checks of opening say

module _ (log : List ℕ) (rows : ℕ) where
  pub short-unread : (n p : ℕ) → refused n p ≡ settle (first_broken (open_rules crc32 log)) (frame_of log)
      → answered (refused n p) ≡ answered (settle (lacking (call_rules log rows) 40) (frame_of log).blocks)
  unfolding call_rules
  short-unread n p e =
      let b = settle-refused _ _ n p e in
      rw (lacking-broken (open_rules crc32 log ++ room_rules (rows_in log) rows) 40 n p (then-broken (open_rules crc32 log) _ n p b))

  module _ (f : Frame) (e : given f ≡ settle (first_broken (open_rules crc32 log)) (frame_of log)) where
    passes : (first_broken (open_rules crc32 log) ≡ sound) × (f ≡ frame_of log)
    passes = settle-given _ _ f e

    pub short-few : f.blocks ≤ 4096
    short-few = rw passes.1 (laid log passes.0).few

    count : length (rows_in log) ≡ f.blocks
    count = rows-count log f passes.1

    pub short-rows : rows < f.blocks * stride
        → answered (refused 12 (f.blocks * stride)) ≡ answered (settle (lacking (call_rules log rows) 40) (frame_of log).blocks)
    unfolding call_rules
    short-rows h =
        let b = then-sound (open_rules crc32 log) (room_rules (rows_in log) rows) passes.0 ∙ room-short (rows_in log) f.blocks rows count h in
        rw (lacking-broken (open_rules crc32 log ++ room_rules (rows_in log) rows) 40 12 (f.blocks * stride) b)

    pub short-frame : f.blocks * stride ≤ rows
        → answered (refused 12 40) ≡ answered (settle (lacking (call_rules log rows) 40) (frame_of log).blocks)
    unfolding call_rules
    short-frame h =
        let b = then-sound (open_rules crc32 log) (room_rules (rows_in log) rows) passes.0 ∙ room-there (rows_in log) f.blocks rows count h in
        rw (lacking-sound (open_rules crc32 log ++ room_rules (rows_in log) rows) 40 b)

-- ---- the whole call

module _ (log rows frame : List ℕ) where
  -- what is handed back, and the rows and the frame afterwards
  abbrev pub Opens : Answer → List ℕ → List ℕ → Type 0
  Opens r after out =
      (r ≡ c_open_of log (length rows) (length frame)) × (after ≡ c_open_rows log rows (length frame)) × (out ≡ c_open_frame log (length rows) frame)

  settled : (v : Verdict) (r : Answer) → first_broken (c_open_rules log (length rows) (length frame)) ≡ v → r ≡ answered (settle v (frame_of log).blocks)
      → Opens r (if_sound v (splice rows 0 (table_bytes (rows_in log))) rows) (if_sound v (splice frame 0 (frame_bytes (frame_of log))) frame)
  unfolding c_open_of c_open_rows c_open_frame
  settled v r e a = rw (e, a) (refl, refl, refl)

  module _ (r : Answer) where
    pub open-short : length frame < 40 → r ≡ answered (settle (lacking (call_rules log (length rows)) 40) (frame_of log).blocks) → Opens r rows frame
    unfolding c_open_rules
    open-short h a =
        let v = lacking (call_rules log (length rows)) 40 in
        let e = lacking-rules (call_rules log (length rows)) 40 (length frame) h in
        let t = settled v r e a in
        let c = call_rules log (length rows) in (
          t.0,
          sym (lacking-never c 40 (splice rows 0 (table_bytes (rows_in log))) rows) ∙ t.1,
          sym (lacking-never c 40 (splice frame 0 (frame_bytes (frame_of log))) frame) ∙ t.2,
        )

    module _ (h : 40 ≤ length frame) where
      rules : first_broken (c_open_rules log (length rows) (length frame)) ≡ first_broken (call_rules log (length rows))
      unfolding c_open_rules
      rules = roomy-rules (call_rules log (length rows)) 40 (length frame) h

      pub open-refuses : (n p : ℕ) (after : List ℕ) → refused n p ≡ open_of log (length rows) → after ≡ open_out log rows
          → r ≡ answered (refused n p) → Opens r after frame
      unfolding open_of open_out
      open-refuses n p after e o a =
          let b = settle-refused (first_broken (call_rules log (length rows))) (frame_of log) n p e in
          rw (o, b) (settled (broken n p) r (rules ∙ b) a)

      pub open_gives : (f : Frame) (after out : List ℕ) → given f ≡ open_of log (length rows) → after ≡ open_out log rows
          → r ≡ answered (given f.blocks) → out ≡ splice frame 0 (frame_bytes f) → Opens r after out
      unfolding open_of open_out
      open_gives f after out e o a w =
          let b = settle-given (first_broken (call_rules log (length rows))) (frame_of log) f e in
          rw (o, b.0, w, b.1) (settled sound r (rules ∙ b.0) (a ∙ ap (λ (g : Frame). answered (given g.blocks)) b.1))
