-- What the claims at the C edge say of a call, of the answer of a function and of its lent memory. Assumes nothing.
use Rattle.std.specs.Prelude.{◌≡◌, List, ℕ}
use Rattle.c_writer.specs.declared.State.{State}
use Rattle.c_writer.specs.declared.Written.{Written}
use Rattle.claims.specs.Calls.{Call}
use Rattle.claims_c.specs.Edge.{answer_to, c_left}

pub record Answering (s : State) (c : Call) (answer : Written) (kept out : List ℕ) : Type 0 where
  pub answers : answer_to s c ≡ answer
  pub memory : c_left s c ≡ record { kept = kept; out = out }
