-- The record of a report: numbers stored one after another. Assumes nothing.
use mathlib.Core.Path.{◌≡◌, sym, ap, ◌∙◌}
use mathlib.Core.Bool.{Bool}
use mathlib.Core.List.{List, [], ◌∷◌, append-nil}
use Prim.Native.Nat.{ℕ}
use Rattle.verdict.specs.Rules.{Verdict}
use Rattle.wire.specs.Wire.{splice}
use Rattle.parts.specs.Parts.{Field, field, spelled}
use Rattle.parts.proofs.Fields.{Stored, stored}
use Rattle.c_answer.specs.Answer.{flag_of}
use Rattle.c_recovery.specs.Recover.{stop_number, stop_place, report_bytes}

abbrev pub report_fields : (end number place whole : ℕ) → List Field
report_fields end number place whole = field 8 end ∷ field 8 number ∷ field 8 place ∷ field 8 whole ∷ []

pub report-stored : (end number place whole : ℕ) (stop : Verdict) (w : Bool) {l n : List ℕ}
    → number ≡ stop_number stop → place ≡ stop_place stop → whole ≡ flag_of w
    → Stored 0 l (report_fields end number place whole) n → n ≡ splice l 0 (report_bytes end stop w)
unfolding report_bytes spelled
report-stored end number place whole stop w {l} a b c s =
    stored (report_fields end number place whole) s ∙ ap (splice l 0) (rw (sym a, sym b, sym c) (simp append-nil))
