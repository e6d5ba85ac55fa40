-- `crc32::merge` meets its contract. Assumes nothing.
use mathlib.Core.Path.{ap, ap₂, ◌∙◌}
use mathlib.Core.List.{List}
use Prim.Native.Nat.{ℕ, ◌+◌, ◌-◌}
use native.Mathlib.Nat.{add-sub_cancel_left}
use native.Mathlib.Omega.{arith}
use lib.ListN.{take, drop, replicate, length-drop}
use Rattle.crc32_fold.proofs.Merge.{length_part, last-part}
use Rattle.crc32.specs.Inner.{added}
use Rattle.crc32.proofs.Ring.{merged-far, splice-whole}
use borrow.Author.Rules.{rules}
use Rattle.crc32.proofs.merge.Goals as goal

pub returns : goal.returns
returns c =
    let a = c.args in
    let s = a.s.now in
    let w = a.ring.now in
    let bytes =
    c.copy_at.ensures
    ∙ splice-whole (replicate 4032 0) (take (a.at + 4032 - a.at) (drop a.at s))
    (length_part s a.at 4032 (search rules))
    ∙ ap (λ (n : ℕ). take n (drop a.at s)) (add-sub_cancel_left a.at 4032) in
    c.add-3.ensures
    ∙ ap (λ (x : List ℕ). added x w)
    (c.add-2.ensures ∙ ap₂ added (c.add.ensures ∙ ap₂ added bytes (last-part w 2091)) (last-part w 1837))
    ∙ merged-far w (drop a.at s) (omega (arith, length-drop a.at s))
