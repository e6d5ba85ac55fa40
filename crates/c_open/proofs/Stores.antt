-- The record of a frame: numbers stored one after another. Assumes nothing.
use mathlib.Core.Path.{◌≡◌, ap, ◌∙◌}
use mathlib.Core.List.{List, [], ◌∷◌, append-nil}
use Prim.Native.Nat.{ℕ}
use Rattle.wire.specs.Wire.{splice}
use Rattle.parts.specs.Parts.{Field, field, spelled}
use Rattle.parts.proofs.Fields.{Stored, stored}
use Rattle.frame.specs.declared.Frame.{Frame}
use Rattle.c_open.specs.Open.{frame_bytes}

abbrev pub frame_fields : Frame → List Field
frame_fields r =
    field 8 r.dictionary ∷ field 8 r.stored ∷ field 8 r.index ∷ field 8 r.first.0 ∷ field 8 r.last.0 ∷ []

pub frame-stored : (r : Frame) {l n : List ℕ} → Stored 0 l (frame_fields r) n → n ≡ splice l 0 (frame_bytes r)
unfolding frame_bytes spelled
frame-stored r {l} s = stored (frame_fields r) s ∙ ap (splice l 0) (simp append-nil)
