-- The writer's state as a struct for programs in C. Assumes nothing.
use Rattle.std.specs.Prelude.{ℕ, zero, suc}
use Rattle.writer.specs.declared.state.Turn.{Turn}
use Rattle.writer.specs.declared.state.Turn.TheVariants.{New, Begun, Closed}
use Rattle.writer.specs.declared.state.Writer.{Writer}
use Rattle.c_writer.specs.declared.State.{State}

-- "0 new, 1 begun, any other closed"
unfoldable pub turn_for : ℕ → Turn
turn_for zero = New
turn_for (suc zero) = Begun
turn_for (suc (suc n)) = Closed

abbrev pub number_of : Turn → ℕ
number_of New = 0
number_of Begun = 1
number_of Closed = 2

-- the writer that a state stands for
unfoldable pub writer_in : State → Writer
writer_in s =
    record {
      turn = turn_for s.turn;
      blocks = s.blocks;
      length = s.length;
      end = record { 0 = s.end };
      given = s.given;
      names = s.names;
      dictionary = s.dictionary;
      pending = record { start = record { 0 = s.start }; last = record { 0 = s.last }; plain = s.plain };
    }

-- the state that stands for a writer
unfoldable pub state_of : Writer → State
state_of w =
    record {
      length = w.length;
      end = w.end.0;
      dictionary = w.dictionary;
      start = w.pending.start.0;
      last = w.pending.last.0;
      plain = w.pending.plain;
      blocks = w.blocks;
      given = w.given;
      names = w.names;
      turn = number_of w.turn;
    }
