-- One block and its plain bytes, at the C edge. Assumes nothing.
use Rattle.std.specs.Prelude.{List, ◌∷◌, ℕ, ◌+◌, length}
use Rattle.verdict.specs.Rules.{Rule, at_most, first_broken, settle, ruled}
use Rattle.blocks.specs.Blocks.{head_at}
use Rattle.entries.specs.Block.{block_verdict}
use Rattle.c_answer.specs.declared.Answer.{Answer}
use Rattle.c_answer.specs.Answer.{answered}

-- "36 bytes [..] (6)" of the block's header at a place, as in opening, then 11 of the plain bytes, held against that
-- header
unfoldable pub c_block_rules : (log : List ℕ) (at : ℕ) (plain : List ℕ) (names : ℕ) → List Rule
c_block_rules log at plain names =
    at_most 6 at (at + 36) (length log) ∷ ruled (block_verdict plain (head_at log at) names)

-- count: its entries
unfoldable pub c_block_of : (log : List ℕ) (at : ℕ) (plain : List ℕ) (names : ℕ) → Answer
c_block_of log at plain names =
    answered (settle (first_broken (c_block_rules log at plain names)) (head_at log at).entries)
