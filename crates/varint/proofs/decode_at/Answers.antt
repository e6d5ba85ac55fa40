-- `decode_at` meets its contract: by the laws of the first byte. Assumes nothing.
use Rattle.varint.proofs.Decoding.{first-end, first-last}
use borrow.Author.Rules.{rules}
use Rattle.varint.proofs.decode_at.Goals as goal

pub returns-then-s-at : goal.returns-then-s-at
returns-then-s-at c = first-end _ _ (search rules)

pub returns-then-first-lt128 : goal.returns-then-first-lt128
returns-then-first-lt128 c = first-last _ _ _ (search rules) (search rules) (search rules)
