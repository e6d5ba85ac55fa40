-- `c_query::put_number` meets its contract. Assumes nothing.
use native.Mathlib.Omega.{arith}
use mathlib.Core.Path.{◌≡◌, sym, ap, ◌∙◌}
use mathlib.Core.List.{[], ◌∷◌}
use lib.ListN.{length}
use Rattle.wire.proofs.Numbers.{length-le}
use Rattle.query.specs.Query.{chosen}
use Rattle.query.proofs.Chosen.{one-listed, one-unlisted}
use Rattle.c_query.proofs.Stores.{numbers-one, numbers-none, part-back}
use borrow.Author.Rules.{rules}
use Rattle.c_query.proofs.put_number.Goals.{Then-lists}
use Rattle.c_query.proofs.put_number.Goals as goal

here : (c : Then-lists) → let a = c.args in chosen a.from a.to a.i (a.row ∷ []) ≡ a.i ∷ []
here c = one-listed _ _ _ _ (sym c.lists.ensures ∙ c.if-lists.true)

pub slice_bounds-put_u32-end : goal.slice_bounds-put_u32-end
slice_bounds-put_u32-end c = omega (arith, ap length (here (goal.at.slice_bounds-put_u32-end c).Then-lists))

pub returns-then-lists : goal.returns-then-lists
returns-then-lists c =
    let a = c.args in
    rw (here (goal.at.returns-then-lists c).Then-lists, numbers-one a.i) (
      search rules,
      part-back a.out.now a.at 4 _ _ (length-le 4 a.i)
          (omega (arith, ap length (here (goal.at.returns-then-lists c).Then-lists))) c.put_u32.ensures,
    )

pub returns : goal.returns
returns c =
    let a = c.args in
    rw (one-unlisted a.from a.to a.row a.i (sym c.lists.ensures ∙ c.if-lists.false))
    (search rules, sym (numbers-none a.out.now a.at))
