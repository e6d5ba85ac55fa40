-- `encode_at` meets its contract: the form of what is left, laid over what is written so far, gives the whole. Assumes nothing.
use borrow.Author.Rules.{rules}
use Rattle.varint.proofs.Encoding.{write-past, write-last, write-more}
use Rattle.varint.proofs.encode_at.Goals as goal

pub returns-then-out-p : goal.returns-then-out-p
returns-then-out-p c = write-past _ _ _ _ c.loop-x.invariant.2 (search rules)

pub loop-x-preserved : goal.loop-x-preserved
loop-x-preserved c = (
  search rules,
  search rules,
  write-more _ _ _ _ c.loop-x.invariant.2 _ (search rules) (search rules)
      (search rules),
)

pub returns-then-p-out : goal.returns-then-p-out
returns-then-p-out c = write-last _ _ _ _ c.loop-x.invariant.2 _ (search rules) (search rules)

pub returns-else-p-out : goal.returns-else-p-out
returns-else-p-out c = write-past _ _ _ _ c.loop-x.invariant.2 (search rules)
