-- What every list of calls stores: nothing, or the stores of a writer that began, with the blocks of the accepted addings. Assumes nothing.
use mathlib.Core.Path.{◌≡◌, refl, sym, ap, ◌∙◌}
use mathlib.Core.Bool.{false}
use mathlib.Core.List.{List, [], ◌∷◌, ◌++◌, map, map-append, append_assoc, append-nil}
use Prim.Native.Nat.{ℕ, suc, ◌+◌, ◌*◌, ◌^◌, ◌≤◌, ◌<◌}
use native.Mathlib.Nat.{add-zero}
use native.Mathlib.Omega.{arith}
use lib.ListN.{length, take, drop, take-append-drop, length-append, length-map}
use Rattle.verdict.specs.Rules.{Verdict, sound, broken, first_broken}
use Rattle.verdict.proofs.Laws.{then-broken, never_both}
use Rattle.wire.specs.Wire.{Bytes}
use Rattle.wire.proofs.Splices.{splice_front}
use Rattle.rows.specs.Rows.{stride, rows_of, table_bytes, rows_with}
use Rattle.rows.proofs.Rows.{rows_back, length-table, table-append}
use Rattle.layout.specs.Layout.{block_bytes, row_for, rows_from, end_from, table_of}
use Rattle.layout.proofs.Along.{rows_append, length-rows-from, end-from}
use Rattle.writer.specs.declared.state.Turn.TheVariants as turn
use Rattle.writer.specs.declared.state.Writer.{Writer}
use Rattle.writer.specs.State.{is_begun, begun_rules, begun_writer}
use Rattle.writer.specs.Begin.{begin_rules}
use Rattle.writer_blocks.specs.Block.{Adding, block_for, take_rules, block_rules, with_block, block_of, rows_out}
use Rattle.writer_close.specs.Close.{close_rules, closed, close_of}
use Rattle.writer.proofs.Turns.{not-begun, new-turn, begun-turn, closed-turn}
use Rattle.writer.proofs.Beginning.{begin-turn}
use Rattle.disk.specs.Disk.{Store, block_store, adding_of}
use Rattle.disk.proofs.Blocks.{rows_fit}
use Rattle.disk.proofs.Disk.{end_of}
use Rattle.disk.proofs.InFull.{held, held-append}
use Rattle.disk.proofs.Stores.{block_stores, closing_stores, open_stores, closed_stores, Begun}
use Rattle.disk.proofs.Stores as stored
use Rattle.claims.specs.Calls.{Call, begin, name, entry, block, close, verdict_for, next, stores, accepted, run, addings}
use Rattle.claims.specs.Calls.{Writing, Typed, Agrees, Fair, table_after, after, behind}
use Rattle.claims.proofs.Calls.{Idle, begin-refused, name-idle, entry-idle, block_refused, close-refused, begin-leaves, begin-stores}
use Rattle.claims.proofs.Calls.{Takes, block-takes, block_room, block-leaves, block_row, block-accepted, block-stores}
use Rattle.claims.proofs.Calls.{close-leaves, close-stored, close-stores}
use Rattle.claims.proofs.Taken as taken
use Rattle.claims.proofs.Taken.{Taken, taken-valid, taken-few, after_more, taken_more, after-blocks, after-length}

-- ---- between begin and closing: the state behind the addings so far, and a table that has their rows in front

pub record Between (xs : List Adding) (w : Writer) (t : List ℕ) : Type 0 where
  pub turn : w.turn ≡ turn.Begun
  pub blocks : w.blocks ≡ (taken.after begun_writer xs).blocks
  pub at : w.length ≡ (taken.after begun_writer xs).length
  pub end : w.end ≡ (taken.after begun_writer xs).end
  pub given : w.given ≡ (taken.after begun_writer xs).given
  pub taken : Taken begun_writer xs
  pub rows : take (length xs * stride) t ≡ table_bytes (table_of (map block_for xs))

idle-between : (xs : List Adding) (w v : Writer) (t : List ℕ) → Idle w v → Between xs w t → Between xs v t
idle-between xs w v t i b =
    record {
      turn = i.turn ∙ b.turn;
      blocks = i.blocks ∙ b.blocks;
      at = i.length ∙ b.at;
      end = i.end ∙ b.end;
      given = i.given ∙ b.given;
      taken = b.taken;
      rows = b.rows;
    }

-- what the rules of an adding ask depends on the addings before it alone
takes-after : (w v : Writer) (a : Adding) → w.blocks ≡ v.blocks → w.end ≡ v.end → w.given ≡ v.given → Takes w a → Takes v a
unfolding take_rules
takes-after w v a b e g t = record { rules = rw (b, e, g) at t.rules; read = t.read }

module _ (xs : List Adding) (w : Writer) (t : List ℕ) (b : Between xs w t) where
  blocks-are : w.blocks ≡ length xs
  blocks-are = omega (arith, b.blocks, after-blocks begun_writer xs)

  at-is : w.length ≡ end_from 64 (map block_for xs)
  at-is = b.at ∙ after-length begun_writer xs

  few : length xs ≤ 4096
  few = omega (arith, taken-few begun_writer xs b.taken (omega arith))

  -- with another table that has the same rows in front
  pub relent : (u : List ℕ) → take (w.blocks * stride) u ≡ take (w.blocks * stride) t → Between xs w u
  relent u e =
      record {
        turn = b.turn;
        blocks = b.blocks;
        at = b.at;
        end = b.end;
        given = b.given;
        taken = b.taken;
        rows = rw blocks-are at e ∙ b.rows;
      }

  rows_are : rows_of w.blocks t ≡ table_of (map block_for xs)
  rows_are =
      let bs = map block_for xs in
      let rows = table_of bs in
      let m : length bs ≡ length xs = length-map xs block_for in
      let n : w.blocks ≡ length rows = blocks-are ∙ sym (length-rows-from 0 64 bs ∙ m) in
      let split : t ≡ table_bytes rows ++ drop (length xs * stride) t =
      sym (take-append-drop (length xs * stride) t) ∙ ap (λ (l : List ℕ). l ++ drop (length xs * stride) t) b.rows in
      ap (rows_of w.blocks) split
      ∙ rows_back w.blocks rows (drop (length xs * stride) t) n (rows_fit 0 64 0 bs (taken-valid begun_writer xs b.taken) (omega (arith, few))
      (omega (arith, few)))

  -- the last four stores of a closing that is accepted
  pub closing-is : (plain stored out : List ℕ) → first_broken (close_rules w t plain stored (length out)) ≡ sound
      → stores w (close t plain stored out) ≡ closing_stores (end_of (map block_for xs)) (table_of (map block_for xs)) stored
  closing-is plain stored out e = close-stores w t plain stored out e ∙ rw (at-is, rows_are, end-from 64 0 (map block_for xs))

  -- an adding that is accepted
  module _ (a : Adding) (out : List ℕ) (bytes : Bytes a.plain × Bytes a.stored) (e : first_broken (block_rules w a (length t) (length out)) ≡ sound) where
    pub block-is : stores w (block t a out) ≡ block_store a (block_bytes (length xs) (block_for a)) ∷ []
    block-is = block-stores w t a out e ∙ rw blocks-are

    rows-after : take (length (xs ++ (a ∷ [])) * stride) (rows_out w a t (length out)) ≡ table_bytes (table_of (map block_for (xs ++ (a ∷ []))))
    rows-after =
        let bs = map block_for xs in
        let r = row_for (length xs) (end_from 64 bs) (block_for a) in
        let rows = rows_with r (table_of bs) in
        let k : length (table_of bs) ≡ length xs = length-rows-from 0 64 bs ∙ length-map xs block_for in
        let l : length (table_bytes rows) ≡ (length xs + 1) * stride =
        omega (arith, length-table rows, length-append (table_of bs) (r ∷ [])) in
        let n : length (xs ++ (a ∷ [])) * stride ≡ 0 + length (table_bytes rows) = omega (arith, length-append xs (a ∷ [])) in
        let room : 0 + length (table_bytes rows) ≤ length t = omega (arith, (block_room w a (length t) (length out) e).0, blocks-are) in
        let number : 0 + length bs ≡ length xs = omega (arith, length-map xs block_for) in
        let more : rows ≡ table_of (map block_for (xs ++ (a ∷ []))) =
        sym (rw number at (rows_append 0 64 bs (block_for a))) ∙ ap table_of (sym (map-append block_for xs (a ∷ []))) in
        rw (n, block_row w t a out e, rows_are, blocks-are, at-is)
        (splice_front t (table_bytes rows) 0 room ∙ ap table_bytes more)

    pub block-between : Between (xs ++ (a ∷ [])) (next w (block t a out)) (rows_out w a t (length out))
    unfolding with_block
    block-between =
        let x = block-leaves w t a out e in
        let v = after_more a begun_writer xs in
        let k = takes-after w (taken.after begun_writer xs) a b.blocks b.end b.given (block-takes w a (length t) (length out) e) in
        record {
          turn = rw x b.turn;
          blocks = rw (x, v, b.blocks);
          at = rw (x, v, b.at);
          end = rw (x, v);
          given = rw (x, v);
          taken = taken_more a begun_writer xs b.taken k bytes;
          rows = rows-after;
        }

-- ---- out of turn

module _ (w : Writer) (e : is_begun w.turn ≡ false) where
  block-turn : (t : List ℕ) (a : Adding) (out : List ℕ) → first_broken (block_rules w a (length t) (length out)) ≡ broken 17 0
  unfolding block_rules
  block-turn t a out = then-broken (begun_rules w) _ 17 0 (not-begun w e)

  pub close-turn : (t plain stored out : List ℕ) → first_broken (close_rules w t plain stored (length out)) ≡ broken 17 0
  unfolding close_rules
  close-turn t plain stored out = then-broken (begun_rules w) _ 17 0 (not-begun w e)

pub begin-between : (w : Writer) (t out : List ℕ) → first_broken (begin_rules w (length out)) ≡ sound → Between [] (next w (begin out)) t
unfolding taken.after Taken rows_from table_bytes
begin-between w t out e =
    let x = begin-leaves w out e in
    record { turn = rw x; blocks = rw x; at = rw x; end = rw x; given = rw x; taken = tt; rows = refl }

-- ---- where calls of a new writer lead, with the addings accepted and the stores so far

-- not begun, with nothing stored; between begin and closing; or closed
pub data Stage (xs : List Adding) (ss : List Store) (h : Writing) : Type 0 where
  fresh : h.writer.turn ≡ turn.New → xs ≡ [] → ss ≡ [] → Stage xs ss h
  amid : Between xs h.writer h.table → ss ≡ open_stores xs → Stage xs ss h
  done : h.writer.turn ≡ turn.Closed → Taken begun_writer xs → (d : List ℕ) → 1 ≤ length d → length d < 256 ^ 4 → ss ≡ closed_stores xs d → Stage xs ss h

-- one block more
stores-more : (n : ℕ) (xs : List Adding) (a : Adding)
    → block_stores n (xs ++ (a ∷ [])) ≡ block_stores n xs ++ (block_store a (block_bytes (n + length xs) (block_for a)) ∷ [])
unfolding block_stores
stores-more n [] a = rw add-zero
stores-more n (x ∷ xs) a =
    let e : n + suc (length xs) ≡ suc n + length xs = omega arith in
    rw (e, stores-more (suc n) xs a)

open_more : (xs : List Adding) (a : Adding) → open_stores (xs ++ (a ∷ [])) ≡ open_stores xs ++ (block_store a (block_bytes (length xs) (block_for a)) ∷ [])
unfolding open_stores
open_more xs a =
    let n : 0 + length xs ≡ length xs = omega arith in
    rw (stores-more 0 xs a, n)

-- one call more
module _ (xs : List Adding) (ss : List Store) (h : Writing) where
  abbrev w : Writer
  w = h.writer

  abbrev Behind : Call → Type 0
  Behind c = Stage (xs ++ accepted w c) (ss ++ stores w c) (after h c)

  -- a call that changes no block and no table
  behind-idle : (c : Call) → Idle w (next w c) → stores w c ≡ [] → accepted w c ≡ [] → table_after h c ≡ h.table → Stage xs ss h → Behind c
  behind-idle c i s a k (fresh n x q) = rw (s, a, append-nil xs, append-nil ss) (fresh (i.turn ∙ n) x q)
  behind-idle c i s a k (amid b q) =
      rw (s, a, append-nil xs, append-nil ss) (amid (rw k (idle-between xs w (next w c) h.table i b)) q)
  behind-idle c i s a k (done z t d p q r) = rw (s, a, append-nil xs, append-nil ss) (done (i.turn ∙ z) t d p q r)

  begin-behind : (out : List ℕ) → Stage xs ss h → (v : Verdict) → first_broken (begin_rules w (length out)) ≡ v → Behind (begin out)
  unfolding accepted table_after open_stores block_stores
  begin-behind out g (broken n p) e = let i = begin-refused w out n p e in behind-idle (begin out) i.0 i.1 refl refl g
  begin-behind out (fresh n x s) sound e = rw (x, s, begin-stores w out e) (amid (begin-between w h.table out e) refl)
  begin-behind out (amid b s) sound e = absurd (never_both _ 17 0 (begin-turn w (length out) (begun-turn w.turn b.turn).0) e)
  begin-behind out (done c t d p q s) sound e = absurd (never_both _ 17 0 (begin-turn w (length out) (closed-turn w.turn c).0) e)

  block-behind : (t : List ℕ) (a : Adding) (out : List ℕ) → Bytes a.plain × Bytes a.stored
      → (verdict_for w (block t a out) ≡ sound → Agrees h (block t a out)) → Stage xs ss h → (v : Verdict)
      → first_broken (block_rules w a (length t) (length out)) ≡ v → Behind (block t a out)
  unfolding verdict_for table_after block_of
  block-behind t a out y m g (broken n p) e =
      let i = block_refused w t a out n p e in
      behind-idle (block t a out) i.0 i.1 i.2 (rw e) g
  block-behind t a out y m (fresh n x s) sound e = absurd (never_both _ 17 0 (block-turn w (new-turn w.turn n).1 t a out) e)
  block-behind t a out y m (amid b s) sound e =
      let k = relent xs w h.table b t (m (rw e)) in
      rw (block-accepted w t a out e)
      (amid (rw e (block-between xs w t k a out y e)) (rw (s, block-is xs w t k a out y e, open_more xs a)))
  block-behind t a out y m (done c u d p q s) sound e = absurd (never_both _ 17 0 (block-turn w (closed-turn w.turn c).1 t a out) e)

  close-behind : (t plain stored out : List ℕ) → (verdict_for w (close t plain stored out) ≡ sound → Agrees h (close t plain stored out)) → Stage xs ss h
      → (v : Verdict)
      → first_broken (close_rules w t plain stored (length out)) ≡ v → Behind (close t plain stored out)
  unfolding verdict_for accepted table_after close_of closed closed_stores
  close-behind t plain stored out m g (broken n p) e =
      let i = close-refused w t plain stored out n p e in
      behind-idle (close t plain stored out) i.0 i.1 refl refl g
  close-behind t plain stored out m (fresh n x s) sound e = absurd (never_both _ 17 0 (close-turn w (new-turn w.turn n).1 t plain stored out) e)
  close-behind t plain stored out m (amid b s) sound e =
      let l = close-stored w t plain stored out e in
      let k = relent xs w h.table b t (m (rw e)) in
      rw (append-nil xs)
      (done (ap (λ (v : Writer). v.turn) (close-leaves w t plain stored out e)) b.taken stored l.0 (omega (arith, l.1))
      (rw (s, closing-is xs w t k plain stored out e)))
  close-behind t plain stored out m (done c u d p q s) sound e = absurd (never_both _ 17 0 (close-turn w (closed-turn w.turn c).1 t plain stored out) e)

  stage-next : (c : Call) → Typed c → (verdict_for w c ≡ sound → Agrees h c) → Stage xs ss h → Behind c
  unfolding stores accepted table_after
  stage-next (begin out) t m g = begin-behind out g (first_broken (begin_rules w (length out))) refl
  stage-next (name d bytes) t m g = behind-idle (name d bytes) (name-idle w d bytes) refl refl refl g
  stage-next (entry p u text fields) t m g = behind-idle (entry p u text fields) (entry-idle w p u text fields) refl refl refl g
  stage-next (block u a out) t m g = block-behind u a out t m g (first_broken (block_rules w a (length u) (length out))) refl
  stage-next (close u plain stored out) t m g = close-behind u plain stored out m g (first_broken (close_rules w u plain stored (length out))) refl

-- every list of calls
pub stage : (cs : List Call) (xs : List Adding) (ss : List Store) (h : Writing) → Fair h cs → Stage xs ss h
    → Stage (xs ++ addings h.writer cs) (ss ++ run h.writer cs) (behind h cs)
unfolding run addings behind Fair
stage [] xs ss h f g = rw (append-nil xs, append-nil ss) g
stage (c ∷ cs) xs ss h f g =
    let w = h.writer in
    rw (← append_assoc xs (accepted w c) (addings (next w c) cs), ← append_assoc ss (stores w c) (run (next w c) cs))
    (stage cs (xs ++ accepted w c) (ss ++ stores w c) (after h c) f.1 (stage-next xs ss h c f.0.0 f.0.1 g))

-- ---- every list of calls, from a new writer

pub stage-new : (cs : List Call) (h : Writing) → Fair h cs → h.writer.turn ≡ turn.New → Stage (addings h.writer cs) (run h.writer cs) (behind h cs)
stage-new cs h f n = stage cs [] [] h f (fresh n refl refl)

-- nothing is stored, or the stores are those of a writer that began, with the blocks of the accepted addings
pub data Started (xs : List Adding) (ss : List Store) : Type 0 where
  none : ss ≡ [] → Started xs ss
  begun : Taken begun_writer xs → Begun xs ss → Started xs ss

started : (xs : List Adding) (ss : List Store) (h : Writing) → Stage xs ss h → Started xs ss
started xs ss h (fresh n x s) = none s
started xs ss h (amid b s) = begun b.taken (rw s stored.opened)
started xs ss h (done c t d p q s) = begun t (rw s (stored.closed d p q))

pub start : (cs : List Call) (h : Writing) → Fair h cs → h.writer.turn ≡ turn.New → Started (addings h.writer cs) (run h.writer cs)
start cs h f n = started (addings h.writer cs) (run h.writer cs) (behind h cs) (stage-new cs h f n)

-- ---- the addings that the stores hold

unfoldable Holds : Writer → Call → Type 0
Holds w c = held adding_of (stores w c) ≡ accepted w c

begin-holds : (w : Writer) (out : List ℕ) (v : Verdict) → first_broken (begin_rules w (length out)) ≡ v → Holds w (begin out)
unfolding Holds held adding_of accepted
begin-holds w out sound e = rw (begin-stores w out e)
begin-holds w out (broken n p) e = rw (begin-refused w out n p e).1

block-holds : (w : Writer) (t : List ℕ) (a : Adding) (out : List ℕ) (v : Verdict) → first_broken (block_rules w a (length t) (length out)) ≡ v
    → Holds w (block t a out)
unfolding Holds held adding_of
block-holds w t a out sound e = rw (block-stores w t a out e, block-accepted w t a out e)
block-holds w t a out (broken n p) e = let i = block_refused w t a out n p e in rw (i.1, i.2)

close-holds : (w : Writer) (t plain stored out : List ℕ) (v : Verdict) → first_broken (close_rules w t plain stored (length out)) ≡ v
    → Holds w (close t plain stored out)
unfolding Holds held adding_of accepted closing_stores
close-holds w t plain stored out sound e = rw (close-stores w t plain stored out e)
close-holds w t plain stored out (broken n p) e = rw (close-refused w t plain stored out n p e).1

call-holds : (w : Writer) (c : Call) → Holds w c
unfolding Holds held stores accepted
call-holds w (begin out) = begin-holds w out (first_broken (begin_rules w (length out))) refl
call-holds w (name d bytes) = refl
call-holds w (entry p u text fields) = refl
call-holds w (block t a out) = block-holds w t a out (first_broken (block_rules w a (length t) (length out))) refl
call-holds w (close t plain stored out) = close-holds w t plain stored out (first_broken (close_rules w t plain stored (length out))) refl

pub addings-held : (cs : List Call) (w : Writer) → held adding_of (run w cs) ≡ addings w cs
unfolding run addings held Holds
addings-held [] w = refl
addings-held (c ∷ cs) w = held-append adding_of (stores w c) (run (next w c) cs) ∙ rw (call-holds w c, addings-held cs (next w c))
