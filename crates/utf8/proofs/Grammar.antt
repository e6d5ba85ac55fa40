-- A text is accepted exactly where sequences of the table make it up, end to end; and none is that the rule by shape
-- refused. Assumes nothing.
use mathlib.Core.Path.{◌≡◌, refl, sym, ap, ◌∙◌}
use mathlib.Core.Bool.{Bool, true, false, false≢true, ◌&&◌, ◌||◌}
use mathlib.Core.List.Memᴰ
use mathlib.Core.List.{List, [], ◌∷◌, ◌++◌, Memᴰ}
use mathlib.Core.Logic.{⊎_elim}
use Prim.Native.Nat.{ℕ, zero, suc, ◌≤◌}
use native.Mathlib.Omega.{arith}
use lib.Dec.{leb}
use lib.ListN.{length}
use borrow.Author.Tests.{leb-true}
use Rattle.utf8.specs.Utf8.{Range, ◌to◌, within, tails, Sequence, sequence, sequences, nothing, followers, utf8_from, utf8_of}
use Rattle.utf8.specs.Grammar.{Spells, Octets, none, more, shapes}
use Rattle.utf8.proofs.Tables.{and-true, range-has, nothing-follows, Row, row_of, rising, row-picked, sequences-rise}
use Rattle.utf8.proofs.Laws.{sequence-pass}

-- ---- exactly the sequences of the table

-- what ranges have to follow, and the text after it
record Split (table : List Sequence) (rs : List Range) (s : List ℕ) : Type 0 where
  front : List ℕ
  rest : List ℕ
  spells : Spells rs front
  joined : s ≡ front ++ rest
  left : utf8_from table [] rest ≡ true
  shorter : length rest ≤ length s

split : (table : List Sequence) (rs : List Range) (s : List ℕ) → utf8_from table rs s ≡ true → Split table rs s
unfolding Spells utf8_from
split table [] s e = record { front = []; rest = s; spells = tt; joined = refl; left = e; shorter = omega arith }
split table (low to high ∷ rs) [] e = absurd (false≢true e)
split table (low to high ∷ rs) (b ∷ s) e =
    let p = and-true (within (low to high) b) (utf8_from table rs s) e in
    let h = range-has low high b p.0 in
    let r = split table rs s p.1 in
    record {
      front = b ∷ r.front;
      rest = r.rest;
      spells = (h.0, h.1, r.spells);
      joined = ap (λ (t : List ℕ). b ∷ t) r.joined;
      left = r.left;
      shorter = omega (arith, r.shorter);
    }

octets-in : (n : ℕ) (table : List Sequence) (s : List ℕ) → length s ≤ n → utf8_from table [] s ≡ true → Octets table s
unfolding Spells utf8_from
octets-in zero table [] l e = none
octets-in zero table (b ∷ s) l e = absurd (omega arith)
octets-in (suc n) table [] l e = none
octets-in (suc n) table (b ∷ s) l e =
    let q = split table (followers table b) s e in
    let o = octets-in n table q.rest (omega (arith, q.shorter)) q.left in
    ⊎_elim
    (λ (z : followers table b ≡ nothing ∷ []).
    absurd (false≢true (sym (ap (λ (rs : List Range). utf8_from table rs s) z ∙ nothing-follows table [] s) ∙ e)))
    (λ (r : Row table b (followers table b)).
    more (b ∷ q.front) r.there (r.above, r.below, q.spells) o (ap (λ (t : List ℕ). b ∷ t) q.joined))
    (row_of table b)

octets-whole : (table : List Sequence) → rising 0 table ≡ true → (s : List ℕ) → Octets table s → utf8_from table [] s ≡ true
unfolding Spells utf8_from
octets-whole table r s none = refl
octets-whole table r t (more {first = low to high} {rest = rest} {s = s} [] m u o e) = absurd u
octets-whole table r t (more {first = low to high} {rest = rest} {s = s} (b ∷ c) m u o e) =
    rw e (sequence-pass table b c s (row-picked table 0 r m b u.0 u.1) u.2 ∙ octets-whole table r s o)

-- the theorem
pub utf8-exact : (s : List ℕ) → (utf8_of s ≡ true → Octets sequences s) × (Octets sequences s → utf8_of s ≡ true)
unfolding utf8_of
utf8-exact s = (octets-in (length s) sequences s (omega arith), octets-whole sequences sequences-rise s)

-- ---- no more than before

wider : Range → Range → Bool
wider (low to high) (l to h) = leb l low && leb high h

widers : List Range → List Range → Bool
widers [] [] = true
widers [] (q ∷ qs) = false
widers (r ∷ rs) [] = false
widers (r ∷ rs) (q ∷ qs) = wider r q && widers rs qs

-- a row of a table has all that this one has
covered : Sequence → List Sequence → Bool
covered row [] = false
covered (sequence first rest) (sequence f r ∷ rows) = widers (first ∷ rest) (f ∷ r) || covered (sequence first rest) rows

all-covered : List Sequence → List Sequence → Bool
all-covered [] table = true
all-covered (row ∷ rows) table = covered row table && all-covered rows table

widers-spell : (rs qs : List Range) → widers rs qs ≡ true → (c : List ℕ) → Spells rs c → Spells qs c
unfolding Spells wider widers
widers-spell [] [] w c u = u
widers-spell [] (q ∷ qs) w c u = absurd (false≢true w)
widers-spell (r ∷ rs) [] w c u = absurd (false≢true w)
widers-spell (low to high ∷ rs) (l to h ∷ qs) w [] u = u
widers-spell (low to high ∷ rs) (l to h ∷ qs) w (b ∷ c) u =
    let p = and-true (leb l low && leb high h) (widers rs qs) w in
    let o = and-true (leb l low) (leb high h) p.0 in
    (omega (arith, u.0, leb-true l low o.0), omega (arith, u.1, leb-true high h o.1), widers-spell rs qs p.1 c u.2)

-- a row of a table spells these bytes
record Cover (table : List Sequence) (c : List ℕ) : Type 0 where
  first : Range
  rest : List Range
  there : Memᴰ (sequence first rest) table
  spells : Spells (first ∷ rest) c

cover : (first : Range) (rest : List Range) (table : List Sequence) → covered (sequence first rest) table ≡ true → (c : List ℕ)
    → Spells (first ∷ rest) c → Cover table c
unfolding covered
cover first rest [] e c u = absurd (false≢true e)
cover first rest (sequence f r ∷ rows) e c u = go (widers (first ∷ rest) (f ∷ r)) refl (λ h. cover first rest rows h c u)
  where
    go : (t : Bool) → widers (first ∷ rest) (f ∷ r) ≡ t → (covered (sequence first rest) rows ≡ true → Cover rows c)
        → Cover (sequence f r ∷ rows) c
    go true w h = record { first = f; rest = r; there = Memᴰ.head refl; spells = widers-spell (first ∷ rest) (f ∷ r) w c u }
    go false w h =
        let k = h (rw w at e) in
        record { first = k.first; rest = k.rest; there = Memᴰ.tail k.there; spells = k.spells }

row-covered : (rows table : List Sequence) → all-covered rows table ≡ true → {row : Sequence} → Memᴰ row rows → covered row table ≡ true
unfolding all-covered
row-covered [] table a m = absurd (Memᴰ.not-nil m)
row-covered (x ∷ rows) table a {row} m =
    let p = and-true (covered x table) (all-covered rows table) a in
    ⊎_elim (λ (e : row ≡ x). rw e p.0) (λ n. row-covered rows table p.1 n) (Memᴰ.cases_cons m)

octets-wider : (rows table : List Sequence) → all-covered rows table ≡ true → (s : List ℕ) → Octets rows s → Octets table s
octets-wider rows table a s none = none
octets-wider rows table a t (more {first = first} {rest = rest} {s = s} c m u o e) =
    let k = cover first rest table (row-covered rows table a m) c u in
    more c k.there k.spells (octets-wider rows table a s o) e

-- what is accepted now was accepted by shape
pub accepted-by-shape : (s : List ℕ) → utf8_of s ≡ true → utf8_from shapes [] s ≡ true
unfolding shapes sequences tails rising all-covered covered widers wider
accepted-by-shape s e = octets-whole shapes refl s (octets-wider sequences shapes refl s ((utf8-exact s).0 e))
