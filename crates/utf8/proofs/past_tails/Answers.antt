-- `past_tails`: what is still owed at the place reached decides as all of it did after the first byte. Assumes nothing.
use borrow.Author.Rules.{rules}
use native.Mathlib.Omega.{arith}
use mathlib.Core.Path.{◌≡◌, refl, sym, ◌∙◌}
use lib.ListN.{get_or}
use Rattle.wire.proofs.Numbers.{le_at-one}
use Rattle.utf8.proofs.Steps.{byte-there, tail-low, tail-high, tail-right, tails_end, step-none, step_past}
use Rattle.utf8.proofs.past_tails.Goals.{After-u8_at-b}
use Rattle.utf8.proofs.past_tails.Goals as goal

pub loop-left-init : goal.loop-left-init
loop-left-init c = (search rules, search rules, refl)

byte : (c : After-u8_at-b) → c.u8_at-b.result ≡ get_or c.args.s.now c.loop-left.at 0
byte c = c.u8_at-b.ensures ∙ le_at-one _ _

pub returns-then-b-lt128 : goal.returns-then-b-lt128
returns-then-b-lt128 c =
    let e = byte (goal.at.returns-then-b-lt128 c).After-u8_at-b in
    step-none _ _ (sym c.loop-left.invariant.2 ∙ tail-low c.args.s.now c.loop-left.at c.loop-left.left (search) (omega arith))

pub returns-then-b-ge192 : goal.returns-then-b-ge192
returns-then-b-ge192 c =
    let e = byte (goal.at.returns-then-b-ge192 c).After-u8_at-b in
    step-none _ _ (sym c.loop-left.invariant.2 ∙ tail-high c.args.s.now c.loop-left.at c.loop-left.left (search) (omega arith))

pub overflow_add-at-in-loop-left : goal.overflow_add-at-in-loop-left
overflow_add-at-in-loop-left c =
    let e = byte (goal.at.overflow_add-at-in-loop-left c).After-u8_at-b in
    omega (arith, byte-there c.args.s.now c.loop-left.at (omega arith))

pub loop-left-preserved : goal.loop-left-preserved
loop-left-preserved c =
    let s = c.args.s.now in
    let e = byte (goal.at.loop-left-preserved c).After-u8_at-b in (
      omega arith,
      omega (arith, byte-there s c.loop-left.at (omega arith)),
      tail-right s c.loop-left.at c.loop-left.left (search) (omega arith) (omega arith) ∙ c.loop-left.invariant.2,
    )

pub returns : goal.returns
returns c =
    step_past _ _ _ (search rules) (search rules) (tails_end c.args.s.now c.loop-left.at c.loop-left.left (search) ∙ c.loop-left.invariant.2)
