-- What the writer's calls answer at the C edge: "on a refusal it is the state that was taken" (include/hplog.h).
-- Assumes nothing.
use Rattle.std.specs.Prelude.{ℕ}
use Rattle.verdict.specs.Rules.{Outcome, given, refused}
use Rattle.writer.specs.declared.state.Writer.{Writer}
use Rattle.writer.specs.Begin.{Step}
use Rattle.writer_names.specs.Name.{Naming}
use Rattle.c_answer.specs.Answer.{answered}
use Rattle.c_writer.specs.declared.State.{State}
use Rattle.c_writer.specs.declared.Written.{Written}
use Rattle.c_writer.specs.State.{state_of}

-- the state after a call, and its count
abbrev pub went : Writer → (count : ℕ) → Written
went w count = record { answer = answered (given count); next = state_of w }

abbrev pub stayed : State → (number place : ℕ) → Written
stayed s n p = record { answer = answered (refused n p); next = s }

-- count: the bytes stored
abbrev pub storing : State → Outcome Step → Written
storing s (given k) = went k.next k.stored
storing s (refused n p) = stayed s n p

-- count: the name's number
abbrev pub naming : State → Outcome Naming → Written
naming s (given k) = went k.next k.number
naming s (refused n p) = stayed s n p

-- count: 0
abbrev pub entering : State → Outcome Writer → Written
entering s (given w) = went w 0
entering s (refused n p) = stayed s n p
