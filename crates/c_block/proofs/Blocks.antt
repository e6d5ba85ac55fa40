-- Laws of one block and its plain bytes at the C edge: what each rule finds where those before it hold. Assumes nothing.
use mathlib.Core.Path.{◌≡◌, sym, ap, ◌∙◌}
use mathlib.Core.List.{List}
use Prim.Native.Nat.{ℕ, ◌+◌, ◌≤◌, ◌<◌}
use lib.ListN.{length}
use Rattle.verdict.specs.Rules.{Verdict, sound, broken, first_broken, given, refused, settle}
use Rattle.verdict.proofs.Laws.{most-holds, most-breaks, first-ruled}
use Rattle.blocks.specs.Blocks.{head_at}
use Rattle.entries.specs.Block.{block_verdict}
use Rattle.c_answer.specs.Answer.{answered}
use Rattle.c_block.specs.Block.{c_block_rules, c_block_of}

module _ (log : List ℕ) (at : ℕ) (plain : List ℕ) (names : ℕ) where
  settled : (v : Verdict) → first_broken (c_block_rules log at plain names) ≡ v → answered (settle v (head_at log at).entries) ≡ c_block_of log at plain names
  unfolding c_block_of
  settled v e = ap (λ (w : Verdict). answered (settle w (head_at log at).entries)) (sym e)

  pub block-cut : length log < at + 36 → answered (refused 6 at) ≡ c_block_of log at plain names
  unfolding c_block_rules
  block-cut h = settled (broken 6 at) (most-breaks _ _ _ _ _ h)

  -- the header is there
  module _ (a : at + 36 ≤ length log) where
    read : first_broken (c_block_rules log at plain names) ≡ block_verdict plain (head_at log at) names
    unfolding c_block_rules
    read = most-holds _ _ _ _ _ a ∙ first-ruled (block_verdict plain (head_at log at) names)

    pub block_refused : (n p : ℕ) → broken n p ≡ block_verdict plain (head_at log at) names → answered (refused n p) ≡ c_block_of log at plain names
    block_refused n p e = settled (broken n p) (read ∙ sym e)

    pub block-given : sound ≡ block_verdict plain (head_at log at) names → answered (given (head_at log at).entries) ≡ c_block_of log at plain names
    block-given e = settled sound (read ∙ sym e)
