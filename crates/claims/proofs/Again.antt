-- The addings that a writer took are taken again by a new writer, and a closing is accepted behind them. Assumes nothing.
use mathlib.Core.Path.{◌≡◌, refl, sym, ap, ◌∙◌}
use mathlib.Core.Bool.{not}
use mathlib.Core.List.{List, [], ◌∷◌, ◌++◌, map, append_assoc, append-nil}
use Prim.Native.Nat.{ℕ, suc, ◌+◌, ◌*◌, ◌^◌, ◌≤◌, ◌<◌}
use native.Mathlib.Omega.{arith}
use lib.Dec.{ltb}
use lib.ListN.{length, take, replicate, length-append, length-map, length-replicate}
use Rattle.verdict.specs.Rules.{sound, first_broken, verdict_in, ruled}
use Rattle.verdict.proofs.Laws.{then-sound, first-ruled, settle-verdict, flag-holds, least-holds, most-holds, first-none}
use Rattle.wire.proofs.Splices.{length-splice}
use Rattle.rows.specs.Rows.{stride, rows_of, table_bytes, rows_with}
use Rattle.rows.proofs.Rows.{length-rows}
use Rattle.layout.specs.Layout.{blocks_bytes, row_for, finished_bytes, table_of}
use Rattle.layout.proofs.Parts.{length-closing, length-finished}
use Rattle.layout.proofs.Along.{length-rows-from}
use Rattle.names.specs.Dictionary.{dictionary_rules}
use Rattle.writer.specs.declared.state.Pending.{Pending}
use Rattle.writer.specs.declared.state.Writer.{Writer}
use Rattle.writer.specs.State.{is_new, is_open, begun_rules, begun_writer, new_writer}
use Rattle.writer.specs.Begin.{begin_rules}
use Rattle.writer_blocks.specs.Block.{Adding, read_by, block_for, take_rules, store_rules, block_rules, block_of, rows_out}
use Rattle.writer_close.specs.Close.{end_rules, last_rules, last_bytes, close_rules, close_of}
use Rattle.writer.proofs.Beginning.{begin-sound}
use Rattle.disk.proofs.Blocks.{length-blocks}
use Rattle.claims.specs.Calls.{Call, begin, block, close, verdict_for, next, accepted, last, run, addings}
use Rattle.claims.specs.Calls.{Writing, new_writing, table_after, after, behind, Agrees, Fair}
use Rattle.claims.specs.Demand3.{Finishing}
use Rattle.claims.proofs.Calls.{begin-leaves, block-leaves, block_row, block-accepted}
use Rattle.claims.proofs.Taken as taken
use Rattle.claims.proofs.Taken.{Taken, taken_next, taken-first, after_more, after-blocks, after-pending, after-begun, after-given}
use Rattle.claims.proofs.Plain.{plain_of, plain-count, plain-sound}
use Rattle.claims.proofs.Names.{behind-writer}
use Rattle.claims.proofs.Runs.{Between, relent, block-between, begin-between}

-- ---- calls, and later ones

pub run-append : (w : Writer) (cs ds : List Call) → run w (cs ++ ds) ≡ run w cs ++ run (last w cs) ds
unfolding run last
run-append w [] ds = refl
run-append w (c ∷ cs) ds = rw (run-append (next w c) cs ds, append_assoc)

pub last-append : (w : Writer) (cs ds : List Call) → last w (cs ++ ds) ≡ last (last w cs) ds
unfolding last
last-append w [] ds = refl
last-append w (c ∷ cs) ds = last-append (next w c) cs ds

pub fair-first : (cs ds : List Call) (h : Writing) → Fair h (cs ++ ds) → Fair h cs × Fair (behind h cs) ds
unfolding Fair behind
fair-first [] ds h f = (tt, f)
fair-first (c ∷ cs) ds h f = let g = fair-first cs ds (after h c) f.1 in ((f.0, g.0), g.1)

pub fair-append : (cs ds : List Call) (h : Writing) → Fair h cs → Fair (behind h cs) ds → Fair h (cs ++ ds)
unfolding Fair behind
fair-append [] ds h f g = g
fair-append (c ∷ cs) ds h f g = (f.0, fair-append cs ds (after h c) f.1 g)

-- ---- the addings

-- behind addings that were taken the next one is accepted where there is room
accepts : (xs ys : List Adding) (a : Adding) (table room : ℕ) → Taken begun_writer (xs ++ (a ∷ ys)) → (length xs + 1) * stride ≤ table
    → 36 + length a.stored ≤ room
    → first_broken (block_rules (taken.after begun_writer xs) a table room) ≡ sound
unfolding block_rules store_rules
accepts xs ys a table room t p q =
    let w = taken.after begun_writer xs in
    let n = (taken_next a begun_writer xs ys t).0 in
    let m = after-blocks begun_writer xs in
    then-sound (begun_rules w) _ (after-begun xs (taken-first begun_writer xs (a ∷ ys) t))
    ∙ then-sound (take_rules w a) _ n.rules
    ∙ then-sound (ruled (verdict_in (read_by a))) _ (first-ruled (verdict_in (read_by a)) ∙ n.read)
    ∙ least-holds _ _ _ _ _ (omega arith) ∙ least-holds _ _ _ _ _ q ∙ first-none

module _ (out : List ℕ) where
  -- the calls that add them, each lent the table that the one before left, and the last of these tables
  unfoldable replay : Writer → List ℕ → List Adding → List Call
  replay w t [] = []
  replay w t (a ∷ xs) = block t a out ∷ replay (next w (block t a out)) (rows_out w a t (length out)) xs

  unfoldable table_left : Writer → List ℕ → List Adding → List ℕ
  table_left w t [] = t
  table_left w t (a ∷ xs) = table_left (next w (block t a out)) (rows_out w a t (length out)) xs

  one-fits : (n : ℕ) (a : Adding) (ys : List Adding) → length (blocks_bytes n (map block_for (a ∷ ys))) ≤ length out
      → (36 + length a.stored ≤ length out) × (length (blocks_bytes (suc n) (map block_for ys)) ≤ length out)
  unfolding block_for
  one-fits n a ys h = let l = length-blocks n (block_for a) (map block_for ys) in (omega arith, omega arith)

  -- what they leave behind others
  record Added (xs ys : List Adding) (h : Writing) (t : List ℕ) : Type 0 where
    fair : Fair h (replay h.writer t ys)
    adds : addings h.writer (replay h.writer t ys) ≡ ys
    writer : last h.writer (replay h.writer t ys) ≡ taken.after begun_writer (xs ++ ys)
    room : length (table_left h.writer t ys) ≡ length t
    agrees : (
        let k = behind h (replay h.writer t ys) in
        take (k.writer.blocks * stride) (table_left h.writer t ys) ≡ take (k.writer.blocks * stride) k.table)

  add-all : (xs ys : List Adding) (h : Writing) (t : List ℕ) → Between xs h.writer t → h.writer ≡ taken.after begun_writer xs
      → take (h.writer.blocks * stride) t ≡ take (h.writer.blocks * stride) h.table → Taken begun_writer (xs ++ ys)
      → length (xs ++ ys) * stride ≤ length t → (n : ℕ) → length (blocks_bytes n (map block_for ys)) ≤ length out → Added xs ys h t
  unfolding replay table_left Fair addings last behind table_after block_of
  add-all xs [] h t b e m k p n q = record { fair = tt; adds = refl; writer = rw (append-nil xs) e; room = refl; agrees = m }
  add-all xs (a ∷ ys) h t b e m k p n q =
      let w = h.writer in
      let f = one-fits n a ys q in
      let l : length (xs ++ (a ∷ ys)) ≡ length xs + suc (length ys) = length-append xs (a ∷ ys) in
      let s : first_broken (block_rules w a (length t) (length out)) ≡ sound = rw e (accepts xs ys a (length t) (length out) k (omega arith) f.0) in
      let y = (taken_next a begun_writer xs ys k).1 in
      let j : (xs ++ (a ∷ [])) ++ ys ≡ xs ++ (a ∷ ys) = append_assoc xs (a ∷ []) ys in
      let u = rows_out w a t (length out) in
      let r = row_for w.blocks w.length (block_for a) in
      let z : length u ≡ length t =
      ap length (block_row w t a out s) ∙ length-splice t 0 (table_bytes (rows_with r (rows_of w.blocks t))) in
      let g : next w (block t a out) ≡ taken.after begun_writer (xs ++ (a ∷ [])) = block-leaves w t a out s ∙ rw (e, after_more a begun_writer xs) in
      let i = add-all (xs ++ (a ∷ [])) ys (after h (block t a out)) u (block-between xs w t b a out y s) g (rw s refl) (rw j k) (rw j (omega arith)) (suc n)
      f.1 in
      record {
        fair = ((y, λ v. m), i.fair);
        adds = rw (block-accepted w t a out s) (ap (λ (l : List Adding). a ∷ l) i.adds);
        writer = i.writer ∙ ap (taken.after begun_writer) j;
        room = i.room ∙ z;
        agrees = i.agrees;
      }

-- ---- begin, the addings, and a closing

module _ (xs : List Adding) (t : Taken begun_writer xs) (stored : List ℕ) where
  abbrev file : List ℕ
  file = let bs = map block_for xs in finished_bytes (table_of bs) (blocks_bytes 0 bs) stored

  abbrev table : List ℕ
  table = replicate (length xs * stride) 0

  abbrev out : List ℕ
  out = replicate (length file) 0

  file-length : length file ≡ length out
  file-length = sym (length-replicate {A = ℕ} (length file) 0)

  begin-fits : first_broken (begin_rules new_writer (length out)) ≡ sound
  unfolding is_new
  begin-fits =
      let bs = map block_for xs in
      begin-sound new_writer (length out) refl (omega (arith, file-length, length-finished (table_of bs) (blocks_bytes 0 bs) stored))

  blocks-fit : length (blocks_bytes 0 (map block_for xs)) ≤ length out
  blocks-fit = let bs = map block_for xs in omega (arith, file-length, length-finished (table_of bs) (blocks_bytes 0 bs) stored)

  abbrev begun : Writing
  begun = after new_writing (begin out)

  abbrev lent : List ℕ
  lent = table_left out begun.writer table xs

  abbrev calls : List Call
  calls = begin out ∷ replay out begun.writer table xs

  begun-blocks : begun.writer.blocks ≡ 0
  begun-blocks = rw (begin-leaves new_writer out begin-fits)

  all-added : Added out [] xs begun table
  unfolding taken.after
  all-added =
      let n = length-replicate {A = ℕ} (length xs * stride) 0 in
      add-all out [] xs begun table (begin-between new_writer table out begin-fits) (begin-leaves new_writer out begin-fits)
      (rw begun-blocks refl) t (omega arith) 0 blocks-fit

  calls-fair : Fair new_writing calls
  unfolding Fair
  calls-fair = ((tt, λ v. tt), all-added.fair)

  calls-add : addings new_writer calls ≡ xs
  unfolding addings accepted
  calls-add = all-added.adds

  calls-leave : last new_writer calls ≡ taken.after begun_writer xs
  unfolding last
  calls-leave = all-added.writer

  lent_length : length lent ≡ length xs * stride
  lent_length = all-added.room ∙ length-replicate {A = ℕ} (length xs * stride) 0

  length_last : (w : Writer) (u : List ℕ) → w.blocks ≡ length xs → length (last_bytes w u stored) ≤ length out
  unfolding last_bytes
  length_last w u e =
      let bs = map block_for xs in
      let n : length (table_of bs) ≡ length xs = length-rows-from 0 64 bs ∙ length-map xs block_for in
      omega (
        arith,
        file-length,
        length-finished (table_of bs) (blocks_bytes 0 bs) stored,
        length-closing w.length (rows_of w.blocks u) stored,
        length-rows w.blocks u,
      )

  abbrev plain : List ℕ
  plain = plain_of (taken.after begun_writer xs).given

  close-sound : 1 ≤ length stored → length stored < 256 ^ 4 → first_broken (close_rules (taken.after begun_writer xs) lent plain stored (length out)) ≡ sound
  unfolding close_rules end_rules last_rules is_open
  close-sound some fits =
      let w = taken.after begun_writer xs in
      let k = w.given in
      let few = after-given xs t in
      then-sound (begun_rules w) _ (after-begun xs t)
      ∙ then-sound (end_rules w (length lent) stored) _
      (flag-holds _ _ _ _ (ap (λ (p : Pending). not (ltb 0 p.plain)) (after-pending begun_writer xs refl))
      ∙ least-holds _ _ _ _ _ (omega (arith, after-blocks begun_writer xs, lent_length)) ∙ most-holds _ _ _ _ _ (omega arith)
      ∙ least-holds _ _ _ _ _ some ∙ first-none)
      ∙ then-sound (dictionary_rules (plain_of k)) _ (plain-sound k few)
      ∙ least-holds _ _ _ _ _ (omega (arith, plain-count k few))
      ∙ least-holds _ _ _ _ _ (length_last w lent (after-blocks begun_writer xs ∙ omega arith)) ∙ first-none

  pub finishing : 1 ≤ length stored → length stored < 256 ^ 4 → Finishing xs stored
  unfolding Fair behind verdict_for close_of
  finishing some fits =
      record {
        calls = calls;
        table = lent;
        plain = plain;
        out = out;
        fair = fair-append calls (close lent plain stored out ∷ []) new_writing calls-fair ((tt, λ v. all-added.agrees), tt);
        adds = calls-add;
        closes = settle-verdict (first_broken (close_rules (last new_writer calls) lent plain stored (length out))) _
            ∙ rw calls-leave (close-sound some fits);
      }
