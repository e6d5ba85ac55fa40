-- Addings that a writer accepts one after the other: the state behind them, and that their blocks are as recovery wants them. Assumes nothing.
use mathlib.Core.Path.{◌≡◌, refl, ap, ◌∙◌}
use mathlib.Core.Bool.{true}
use mathlib.Core.List.{List, [], ◌∷◌, ◌++◌, map}
use Prim.Native.Nat.{ℕ, ◌+◌, ◌≤◌}
use native.Mathlib.Omega.{arith}
use lib.ListN.{length, length-map}
use borrow.Author.Tests.{leb-true}
use Rattle.verdict.specs.Rules.{holds, sound, first_broken, Outcome, given, refused}
use Rattle.verdict.proofs.Laws.{sound-held}
use Rattle.wire.specs.Wire.{Bytes}
use Rattle.layout.specs.Layout.{end_from}
use Rattle.entries.specs.Model.{Entry}
use Rattle.entries.specs.Reading.{entries_of, last_time}
use Rattle.entries.proofs.Accepted.{some_read, few-read, last-from-start, last-in-range}
use Rattle.packing.specs.Rules.{largest}
use Rattle.writer.specs.declared.state.Writer.{Writer}
use Rattle.writer.specs.State.{is_begun, begun_rules, begun_writer, no_pending}
use Rattle.writer_blocks.specs.Block.{Adding, read_by, block_for, take_rules, with_block}
use Rattle.writer.specs.Inner.{Bounded}
use Rattle.writer.proofs.Turns.{is-begun, bounds-sound}
use Rattle.disk.proofs.Blocks.{Good, Valid}
use Rattle.claims.proofs.Calls.{Takes}

-- ---- one adding

pub record Facts (w : Writer) (a : Adding) : Type 0 where
  pub start : w.end.0 ≤ a.start.0
  pub blocks : w.blocks + 1 ≤ 4096
  pub names : a.names ≤ 65535
  pub stored : length a.stored ≤ largest
  pub plain : length a.plain ≤ largest
  pub given : w.given ≤ a.names

pub facts : (w : Writer) (a : Adding) → Takes w a → Facts w a
unfolding take_rules holds
facts w a t =
    let h = sound-held (take_rules w a) t.rules in
    record {
      start = leb-true _ _ h.0;
      blocks = leb-true _ _ h.1.0;
      names = leb-true _ _ h.1.1.0;
      stored = leb-true _ _ h.1.1.1.0;
      plain = leb-true _ _ h.1.1.1.1.0;
      given = leb-true _ _ h.1.1.1.1.1.0;
    }

-- a block of entries that were read is as recovery wants it
good-read : (w : Writer) (a : Adding) (es : List Entry) → Facts w a → Bytes a.stored → entries_of a.plain a.start.0 a.names ≡ given es
    → Good w.end.0 (record { start = a.start.0; end = last_time a.start.0 es; entries = length es; plain = length a.plain; stored = a.stored })
good-read w a es f b e =
    let p = some_read a.plain a.start.0 a.names es e in
    let q = few-read a.plain a.start.0 a.names es e in
    let r = last-from-start a.plain a.start.0 a.names es e in
    let s = last-in-range a.plain a.start.0 a.names es e in
    record {
      start_fits = omega arith;
      end_fits = omega arith;
      entries_fit = omega (arith, f.plain);
      plain_fits = omega (arith, f.plain);
      stored-fits = omega (arith, f.stored);
      stored_bytes = b;
      some-entry = p;
      in_order = r;
      after = f.start;
    }

good : (w : Writer) (a : Adding) → Takes w a → Bytes a.stored → Good w.end.0 (block_for a)
unfolding block_for read_by
good w a t b = go (read_by a) refl
  where
    go : (o : Outcome (List Entry)) → read_by a ≡ o → Good w.end.0 (block_for a)
    go (given es) e = rw e (good-read w a es (facts w a t) b e)
    go (refused n p) e = absurd (let z : ◌≡◌ {A = ℕ} 0 1 = cc (rw e at t.read) in omega arith)

-- ---- addings in order

-- the state behind them
unfoldable pub after : Writer → List Adding → Writer
after w [] = w
after w (a ∷ xs) = after (with_block w a) xs

-- each of them is taken behind those before it, and its bytes are bytes
unfoldable pub Taken : Writer → List Adding → Type 0
Taken w [] = Unit {0}
Taken w (a ∷ xs) = (Takes w a × (Bytes a.plain × Bytes a.stored)) × Taken (with_block w a) xs

pub taken-valid : (w : Writer) (xs : List Adding) → Taken w xs → Valid w.end.0 (map block_for xs)
unfolding Taken Valid with_block
taken-valid w [] t = tt
taken-valid w (a ∷ xs) t = (good w a t.0.0 t.0.1.1, taken-valid (with_block w a) xs t.1)

pub taken-few : (w : Writer) (xs : List Adding) → Taken w xs → w.blocks ≤ 4096 → w.blocks + length xs ≤ 4096
unfolding Taken with_block
taken-few w [] t h = omega arith
taken-few w (a ∷ xs) t h = omega (arith, taken-few (with_block w a) xs t.1 (facts w a t.0.0).blocks)

-- of a writer that just began
module _ (xs : List Adding) (t : Taken begun_writer xs) where
  pub blocks-valid : Valid 0 (map block_for xs)
  blocks-valid = taken-valid begun_writer xs t

  pub blocks-few : length (map block_for xs) ≤ 4096
  blocks-few = omega (arith, taken-few begun_writer xs t (omega arith), length-map xs block_for)

-- ---- one adding more, and fewer of them

module _ (a : Adding) where
  pub after_more : (w : Writer) (xs : List Adding) → after w (xs ++ (a ∷ [])) ≡ with_block (after w xs) a
  unfolding after
  after_more w [] = refl
  after_more w (x ∷ xs) = after_more (with_block w x) xs

  pub taken_more : (w : Writer) (xs : List Adding) → Taken w xs → Takes (after w xs) a → Bytes a.plain × Bytes a.stored
      → Taken w (xs ++ (a ∷ []))
  unfolding Taken after
  taken_more w [] t u b = ((u, b), tt)
  taken_more w (x ∷ xs) t u b = (t.0, taken_more (with_block w x) xs t.1 u b)

  pub taken_next : (w : Writer) (xs ys : List Adding) → Taken w (xs ++ (a ∷ ys)) → Takes (after w xs) a × (Bytes a.plain × Bytes a.stored)
  unfolding Taken after
  taken_next w [] ys t = t.0
  taken_next w (x ∷ xs) ys t = taken_next (with_block w x) xs ys t.1

pub taken-first : (w : Writer) (xs ys : List Adding) → Taken w (xs ++ ys) → Taken w xs
unfolding Taken
taken-first w [] ys t = tt
taken-first w (x ∷ xs) ys t = (t.0, taken-first (with_block w x) xs ys t.1)

-- ---- the names that they were given: none is given fewer than one before

given-grows : (w : Writer) (xs : List Adding) → Taken w xs → w.given ≤ (after w xs).given
unfolding Taken after with_block
given-grows w [] t = omega arith
given-grows w (a ∷ xs) t = omega (arith, (facts w a t.0.0).given, given-grows (with_block w a) xs t.1)

pub names-given : (a : Adding) (w : Writer) (xs ys : List Adding) → Taken w (xs ++ (a ∷ ys)) → a.names ≤ (after w (xs ++ (a ∷ ys))).given
unfolding Taken after with_block
names-given a w [] ys t = given-grows (with_block w a) ys t.1
names-given a w (x ∷ xs) ys t = names-given a (with_block w x) xs ys t.1

-- ---- the state behind them

pub after-blocks : (w : Writer) (xs : List Adding) → (after w xs).blocks ≡ w.blocks + length xs
unfolding after with_block
after-blocks w [] = omega arith
after-blocks w (a ∷ xs) = omega (arith, after-blocks (with_block w a) xs)

pub after-length : (w : Writer) (xs : List Adding) → (after w xs).length ≡ end_from w.length (map block_for xs)
unfolding after with_block end_from
after-length w [] = refl
after-length w (a ∷ xs) = after-length (with_block w a) xs

-- it is within the bounds
begun-bounded : (w : Writer) → is_begun w.turn ≡ true → Bounded w → first_broken (begun_rules w) ≡ sound
begun-bounded w t b = is-begun w t ∙ bounds-sound w b.blocks b.length b.given b.names b.dictionary b.plain

with-bounded : (w : Writer) (a : Adding) → Facts w a → Bounded w → Bounded (with_block w a)
unfolding with_block block_for
with-bounded w a f b =
    record {
      blocks = f.blocks;
      length = omega (arith, f.stored, b.length);
      given = f.names;
      names = b.names;
      dictionary = b.dictionary;
      plain = omega arith;
    }

after-bounded : (w : Writer) (xs : List Adding) → Taken w xs → Bounded w → Bounded (after w xs)
unfolding Taken after
after-bounded w [] t b = b
after-bounded w (a ∷ xs) t b = after-bounded (with_block w a) xs t.1 (with-bounded w a (facts w a t.0.0) b)

pub after_turn : (w : Writer) (xs : List Adding) → (after w xs).turn ≡ w.turn
unfolding after with_block
after_turn w [] = refl
after_turn w (a ∷ xs) = after_turn (with_block w a) xs

-- no block is open, since "Adding a block ends any open one"
pub after-pending : (w : Writer) (xs : List Adding) → w.pending ≡ no_pending → (after w xs).pending ≡ no_pending
unfolding after with_block
after-pending w [] e = e
after-pending w (a ∷ xs) e = after-pending (with_block w a) xs refl

begun-start : Bounded begun_writer
begun-start = record { blocks = omega arith; length = omega arith; given = omega arith; names = omega arith; dictionary = omega arith; plain = omega arith }

module _ (xs : List Adding) (t : Taken begun_writer xs) where
  pub after-begun : first_broken (begun_rules (after begun_writer xs)) ≡ sound
  unfolding is_begun
  after-begun = begun-bounded (after begun_writer xs) (ap is_begun (after_turn begun_writer xs)) (after-bounded begun_writer xs t begun-start)

  pub after-given : (after begun_writer xs).given ≤ 65535
  after-given = (after-bounded begun_writer xs t begun-start).given
