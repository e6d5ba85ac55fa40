-- `past_second`: the second byte against its range, and then the tails. Assumes nothing.
use native.Mathlib.Omega.{arith}
use mathlib.Core.Path.{◌≡◌, ◌∙◌}
use Prim.Native.Nat.{◌+◌}
use lib.ListN.{get_or}
use Rattle.wire.proofs.Numbers.{le_at-one}
use Rattle.utf8.specs.Utf8.{tails}
use Rattle.utf8.proofs.Steps.{byte-there, byte_low, byte_high, byte-right, step-none, step-on}
use Rattle.utf8.proofs.past_second.Goals.{After-u8_at-b}
use Rattle.utf8.proofs.past_second.Goals as goal

byte : (c : After-u8_at-b) → c.u8_at-b.result ≡ get_or c.args.s.now (c.args.i + 1) 0
byte c = c.u8_at-b.ensures ∙ le_at-one _ _

pub returns-then-b-low : goal.returns-then-b-low
returns-then-b-low c =
    let a = c.args in
    let e = byte (goal.at.returns-then-b-low c).After-u8_at-b in
    step-none _ _ (byte_low a.s.now (a.i + 1) a.low a.high (tails a.n) (omega arith))

pub returns-then-high-b : goal.returns-then-high-b
returns-then-high-b c =
    let a = c.args in
    let e = byte (goal.at.returns-then-high-b c).After-u8_at-b in
    step-none _ _ (byte_high a.s.now (a.i + 1) a.low a.high (tails a.n) (omega arith) (omega arith) (omega arith))

pub past_tails-requires : goal.past_tails-requires
past_tails-requires c =
    let a = c.args in
    let e = byte (goal.at.past_tails-requires c).After-u8_at-b in
    byte-there a.s.now (a.i + 1) (omega arith)

pub returns : goal.returns
returns c =
    let a = c.args in
    let e = byte (goal.at.returns c).After-u8_at-b in
    step-on _ _ (byte-right a.s.now (a.i + 1) a.low a.high (tails a.n) (omega arith) (omega arith) (omega arith)) c.past_tails.ensures
