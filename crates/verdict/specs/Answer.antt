-- What the code's answers say, in the paper's numbers. Assumes nothing.
use Rattle.std.specs.Prelude.{Result, Ok, Err}
use Rattle.verdict.specs.Rules.{Verdict, sound, broken, Outcome, given, refused}
use Rattle.verdict.specs.declared.Refusal.{Refusal}

-- of a check of some rules: that all hold, or the number and the place of the first that doesn't
abbrev pub verdict_of : Result Unit Refusal → Verdict
verdict_of (Ok u) = sound
verdict_of (Err r) = broken r.number r.place

-- of a call: what it gives, or the number and the place of its refusal
abbrev pub outcome_of : {A : Type 0} → Result A Refusal → Outcome A
outcome_of (Ok x) = given x
outcome_of (Err r) = refused r.number r.place
