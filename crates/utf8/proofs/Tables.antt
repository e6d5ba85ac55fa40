-- What a table has to follow a first byte, over any table whose rows begin ever higher; and RFC 3629's, row by row.
-- Assumes nothing.
use mathlib.Core.Path.{◌≡◌, refl}
use mathlib.Core.Bool.{Bool, true, false, false≢true, ◌&&◌}
use mathlib.Core.List.Memᴰ
use mathlib.Core.List.{List, [], ◌∷◌, Memᴰ}
use mathlib.Core.Logic.{◌⊎◌, inl, inr, ⊎_elim}
use Prim.Native.Nat.{ℕ, zero, suc, ◌≤◌, ◌<◌}
use native.Mathlib.Omega.{arith}
use native.Mathlib.Decide.{dec_lt}
use lib.Dec.{leb}
use borrow.Author.Tests.{le-leb, lt-leb, leb-true}
use Rattle.utf8.specs.Utf8.{Range, ◌to◌, within, tails, Sequence, sequence, sequences, nothing, followers, utf8_from}

pub and-true : (t u : Bool) → (t && u) ≡ true → (t ≡ true) × (u ≡ true)
and-true true u e = (refl, e)
and-true false u e = absurd (false≢true e)

module _ (low high b : ℕ) where
  pub in-range : low ≤ b → b ≤ high → within (low to high) b ≡ true
  unfolding within
  in-range l h = simp (le-leb low b l, le-leb b high h)

  pub below-range : b < low → within (low to high) b ≡ false
  unfolding within
  below-range l = simp (lt-leb low b l)

  pub above-range : low ≤ b → high < b → within (low to high) b ≡ false
  unfolding within
  above-range l h = simp (le-leb low b l, lt-leb b high h)

  pub range-has : within (low to high) b ≡ true → (low ≤ b) × (b ≤ high)
  unfolding within
  range-has e = let p = and-true _ _ e in (leb-true low b p.0, leb-true b high p.1)

pub nothing-follows : (table : List Sequence) (rs : List Range) (s : List ℕ) → utf8_from table (nothing ∷ rs) s ≡ false
unfolding nothing utf8_from within
nothing-follows table rs [] = refl
nothing-follows table rs (zero ∷ s) = refl
nothing-follows table rs (suc b ∷ s) = simp (le-leb 1 (suc b) (omega arith), lt-leb (suc b) 0 (omega arith))

-- ---- the row of a first byte

-- a row of a table that has a first byte, and what it has to follow
pub record Row (table : List Sequence) (b : ℕ) (rest : List Range) : Type 0 where
  pub low : ℕ
  pub high : ℕ
  pub there : Memᴰ (sequence (low to high) rest) table
  pub above : low ≤ b
  pub below : b ≤ high

pub row_of : (table : List Sequence) (b : ℕ) → (followers table b ≡ nothing ∷ []) ⊎ Row table b (followers table b)
unfolding followers
row_of [] b = inl refl
row_of (sequence (low to high) rest ∷ more) b = go (within (low to high) b) refl (row_of more b)
  where
    All : List Sequence
    All = sequence (low to high) rest ∷ more

    later : {rs : List Range} → Row more b rs → Row All b rs
    later r = record { low = r.low; high = r.high; there = Memᴰ.tail r.there; above = r.above; below = r.below }

    go : (t : Bool) → within (low to high) b ≡ t → (followers more b ≡ nothing ∷ []) ⊎ Row more b (followers more b)
        → (followers All b ≡ nothing ∷ []) ⊎ Row All b (followers All b)
    go true e m =
        let h = range-has low high b e in
        simp e (inr (record { low = low; high = high; there = Memᴰ.head refl; above = h.0; below = h.1 }))
    go false e m = simp e (⊎_elim (λ n. inl n) (λ r. inr (later r)) m)

-- the rows begin at this byte or above, and each above where the one before ends
unfoldable pub rising : ℕ → List Sequence → Bool
rising from [] = true
rising from (sequence (low to high) rest ∷ more) = leb from low && (leb low high && rising (suc high) more)

rising-row : (from low high : ℕ) (rest : List Range) (more : List Sequence)
    → rising from (sequence (low to high) rest ∷ more) ≡ true → (from ≤ low) × (low ≤ high) × (rising (suc high) more ≡ true)
unfolding rising
rising-row from low high rest more r =
    let p = and-true (leb from low) (leb low high && rising (suc high) more) r in
    let o = and-true (leb low high) (rising (suc high) more) p.1 in
    (leb-true from low p.0, leb-true low high o.0, o.1)

row-above : (table : List Sequence) (from : ℕ) → rising from table ≡ true → {low high : ℕ} {rest : List Range}
    → Memᴰ (sequence (low to high) rest) table → from ≤ low
row-above [] from r m = absurd (Memᴰ.not-nil m)
row-above (sequence (l to h) q ∷ more) from r {low} m =
    let p = rising-row from l h q more r in
    ⊎_elim
    (λ e. let x : l ≡ low = cc in omega (arith, p.0))
    (λ n. omega (arith, p.0, p.1, row-above more (suc h) p.2 n))
    (Memᴰ.cases_cons m)

-- where rows rise, the one that has a byte is the one that is picked
pub row-picked : (table : List Sequence) (from : ℕ) → rising from table ≡ true → {low high : ℕ} {rest : List Range}
    → Memᴰ (sequence (low to high) rest) table → (b : ℕ) → low ≤ b → b ≤ high → followers table b ≡ rest
unfolding followers
row-picked [] from r m b lo hi = absurd (Memᴰ.not-nil m)
row-picked (sequence (l to h) q ∷ more) from r {low} {high} {rest} m b lo hi =
    let p = rising-row from l h q more r in
    ⊎_elim
    (λ e.
    let x : l ≡ low = cc in
    let y : h ≡ high = cc in
    let z : q ≡ rest = cc in
    simp (in-range l h b (omega arith) (omega arith)) z)
    (λ n.
    let a = row-above more (suc h) p.2 n in
    simp (above-range l h b (omega (arith, p.1)) (omega arith)) (row-picked more (suc h) p.2 n b lo hi))
    (Memᴰ.cases_cons m)

-- no row has a byte below the first that it begins with
unpicked : (table : List Sequence) (from : ℕ) → rising from table ≡ true → (b : ℕ) → b < from → followers table b ≡ nothing ∷ []
unfolding followers
unpicked [] from r b l = refl
unpicked (sequence (low to high) rest ∷ more) from r b l =
    let p = rising-row from low high rest more r in
    simp (below-range low high b (omega (arith, p.0))) (unpicked more (suc high) p.2 b (omega (arith, p.0, p.1)))

-- no row has a byte between a row and where the next one begins
between : (low high : ℕ) (rest : List Range) (more : List Sequence) (from b : ℕ) → low ≤ b → high < b → rising from more ≡ true
    → b < from → followers (sequence (low to high) rest ∷ more) b ≡ nothing ∷ []
unfolding followers
between low high rest more from b l h r u = simp (above-range low high b l h) (unpicked more from r b u)

-- ---- RFC 3629's table

pub sequences-rise : rising 0 sequences ≡ true
unfolding rising sequences
sequences-rise = refl

here : {x : Sequence} {xs : List Sequence} → Memᴰ x (x ∷ xs)
here = Memᴰ.head refl

later : {x y : Sequence} {xs : List Sequence} → Memᴰ x xs → Memᴰ x (y ∷ xs)
later m = Memᴰ.tail m

-- what has to follow a first byte, row by row and between the rows
module _ (b : ℕ) where
  row : {low high : ℕ} {rest : List Range} → Memᴰ (sequence (low to high) rest) sequences → low ≤ b → b ≤ high
      → followers sequences b ≡ rest
  row m l h = row-picked sequences 0 sequences-rise m b l h

  pub first-00 : b ≤ 0x7F → followers sequences b ≡ tails 0
  unfolding sequences
  first-00 h = row here (omega arith) h

  -- a byte that can only follow, or would begin what a single byte spells
  pub first-80 : 0x80 ≤ b → b ≤ 0xC1 → followers sequences b ≡ nothing ∷ []
  unfolding sequences rising
  first-80 l h = between 0x00 0x7F (tails 0) _ 0xC2 b (omega arith) (omega arith) refl (omega arith)

  pub first-C2 : 0xC2 ≤ b → b ≤ 0xDF → followers sequences b ≡ tails 1
  unfolding sequences
  first-C2 l h = row (later here) l h

  pub first-E0 : b ≡ 0xE0 → followers sequences b ≡ 0xA0 to 0xBF ∷ tails 1
  unfolding sequences
  first-E0 e = row (later (later here)) (omega arith) (omega arith)

  pub first-E1 : 0xE1 ≤ b → b ≤ 0xEC → followers sequences b ≡ tails 2
  unfolding sequences
  first-E1 l h = row (later (later (later here))) l h

  pub first-ED : b ≡ 0xED → followers sequences b ≡ 0x80 to 0x9F ∷ tails 1
  unfolding sequences
  first-ED e = row (later (later (later (later here)))) (omega arith) (omega arith)

  pub first-EE : 0xEE ≤ b → b ≤ 0xEF → followers sequences b ≡ tails 2
  unfolding sequences
  first-EE l h = row (later (later (later (later (later here))))) l h

  -- the two rows of three bytes whose second byte is any tail
  pub first-E1-EF : 0xE1 ≤ b → b ≤ 0xEF → (b ≡ 0xED → ⊥) → followers sequences b ≡ tails 2
  first-E1-EF l h n = go (dec_lt b 0xED)
    where
      go : Dec (b < 0xED) → followers sequences b ≡ tails 2
      go (yes k) = first-E1 l (omega arith)
      go (no k) = first-EE (omega arith) h

  pub first-F0 : b ≡ 0xF0 → followers sequences b ≡ 0x90 to 0xBF ∷ tails 2
  unfolding sequences
  first-F0 e = row (later (later (later (later (later (later here)))))) (omega arith) (omega arith)

  pub first-F1 : 0xF1 ≤ b → b ≤ 0xF3 → followers sequences b ≡ tails 3
  unfolding sequences
  first-F1 l h = row (later (later (later (later (later (later (later here))))))) l h

  pub first-F4 : b ≡ 0xF4 → followers sequences b ≡ 0x80 to 0x8F ∷ tails 2
  unfolding sequences
  first-F4 e = row (later (later (later (later (later (later (later (later here)))))))) (omega arith) (omega arith)

  -- above every row
  pub first-F5 : 0xF5 ≤ b → followers sequences b ≡ nothing ∷ []
  unfolding sequences followers
  first-F5 l =
      simp (
        above-range 0x00 0x7F b (omega arith) (omega arith),
        above-range 0xC2 0xDF b (omega arith) (omega arith),
        above-range 0xE0 0xE0 b (omega arith) (omega arith),
        above-range 0xE1 0xEC b (omega arith) (omega arith),
        above-range 0xED 0xED b (omega arith) (omega arith),
        above-range 0xEE 0xEF b (omega arith) (omega arith),
        above-range 0xF0 0xF0 b (omega arith) (omega arith),
        above-range 0xF1 0xF3 b (omega arith) (omega arith),
        above-range 0xF4 0xF4 b (omega arith) (omega arith),
      )
