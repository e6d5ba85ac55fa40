-- A state stands for its writer, and a turn of no number for a closed one. Assumes nothing.
use mathlib.Core.Path.{◌≡◌, refl}
use Prim.Native.Nat.{ℕ, zero, suc}
use Rattle.writer.specs.declared.state.Turn.{Turn}
use Rattle.writer.specs.declared.state.Turn.TheVariants.{New, Begun, Closed}
use Rattle.writer.specs.declared.state.Writer.{Writer}
use Rattle.c_writer.specs.State.{turn_for, number_of, writer_in, state_of}

pub turn-other : (n : ℕ) → (n ≡ 0 → ⊥) → (n ≡ 1 → ⊥) → Closed ≡ turn_for n
unfolding turn_for
turn-other zero a b = absurd (a refl)
turn-other (suc zero) a b = absurd (b refl)
turn-other (suc (suc n)) a b = refl

turn-back : (t : Turn) → turn_for (number_of t) ≡ t
unfolding turn_for
turn-back New = refl
turn-back Begun = refl
turn-back Closed = refl

-- nothing of a writer is lost between two calls
pub writer-back : (w : Writer) → writer_in (state_of w) ≡ w
unfolding writer_in state_of
writer-back w = rw (turn-back w.turn)
