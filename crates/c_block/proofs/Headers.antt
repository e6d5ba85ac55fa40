-- Laws of a block's header at the C edge. Assumes nothing.
use mathlib.Core.Path.{◌≡◌, sym, ap, ◌∙◌}
use mathlib.Core.List.{List}
use Prim.Native.Nat.{ℕ, ◌+◌, ◌≤◌, ◌<◌}
use lib.ListN.{length}
use Rattle.verdict.specs.Rules.{Verdict, given, settle}
use Rattle.verdict.proofs.Laws.{most-holds, most-breaks, first-none}
use Rattle.c_block.specs.Header.{no_header, header_answer, header_of}

module _ (log : List ℕ) (at : ℕ) where
  pub header-cut : length log < at + 36 → no_header 6 at ≡ header_of log at
  unfolding header_of
  header-cut h = ap (λ (v : Verdict). header_answer log (settle v at)) (sym (most-breaks _ _ _ _ _ h))

  pub header-whole : at + 36 ≤ length log → header_answer log (given at) ≡ header_of log at
  unfolding header_of
  header-whole h = ap (λ (v : Verdict). header_answer log (settle v at)) (sym (most-holds _ _ _ _ _ h ∙ first-none))
