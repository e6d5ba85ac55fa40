-- What every list of calls leaves of the names that it adds: the lent dictionary is the plain dictionary of those held. Assumes nothing.
use mathlib.Core.Path.{◌≡◌, refl, sym, ap, ◌∙◌}
use mathlib.Core.Bool.{Bool, true, false, not, cond, ◌||◌, or-true}
use mathlib.Core.List.{List, [], ◌∷◌, ◌++◌, append_assoc}
use Prim.Native.Nat.{ℕ, zero, suc, ◌+◌, ◌-◌, ◌≤◌, ◌<◌}
use native.Mathlib.Omega.{arith}
use native.Mathlib.Decide.{dec_lt}
use lib.ListN.{length, get_or, take, drop, length-append, take-append-drop}
use lib.Seq.{take_at, drop_at, length-take-le, drop-append-le, get_or-append_seam}
use borrow.Author.Tests.{leb-true}
use Rattle.verdict.specs.Rules.{holds, Verdict, sound, broken, first_broken, Outcome, given, refused, verdict_in}
use Rattle.verdict.proofs.Laws.{first-none, sound-held, settle-given, parts-sound, flag-holds, least-holds, most-holds, then-sound}
use Rattle.wire.specs.Wire.{le, le_at, splice, same}
use Rattle.wire.proofs.Numbers.{length-le}
use Rattle.wire.proofs.Splices.{length-splice, splice-parts}
use Rattle.wire.proofs.Lists.{drop-take}
use Rattle.wire.proofs.Compares.{same_refl, same-equal}
use Rattle.utf8.specs.Utf8.{utf8_of}
use Rattle.packing.specs.Table.{records_in, fields_of}
use Rattle.names.specs.Dictionary.{place_of, name_of, dictionary_rules, dictionary_of}
use Rattle.name_search.specs.Search.{Found, numbered, missing, is_name, seek_from}
use Rattle.name_search.proofs.Laws.{whole-name, name-same}
use Rattle.writer.specs.declared.state.Turn.{Turn}
use Rattle.writer.specs.declared.state.Turn.TheVariants as turn
use Rattle.writer.specs.declared.state.Writer.{Writer}
use Rattle.writer.specs.State.{begun_writer, new_writer, is_new, is_begun, begun_rules}
use Rattle.writer.specs.Begin.{Step, begin_rules, begin_of}
use Rattle.writer_names.specs.Name.{Naming, held_as, new_rules, unless_held, name_rules, with_name, naming_of, name_bytes, appended, names_after, name_out}
use Rattle.writer_names.specs.Name as writer
use Rattle.writer_entries.specs.Entry.{entry_rules, with_entry, entry_of}
use Rattle.writer_blocks.specs.Block.{block_rules, with_block, block_of}
use Rattle.writer_close.specs.Close.{last_bytes, end_rules, last_rules, close_rules, closed, close_of}
use Rattle.writer.proofs.Turns.{turn-begun}
use Rattle.writer_names.proofs.Names.{name-held, name-bounded}
use Rattle.writer.proofs.Beginning.{begin-bounded}
use Rattle.writer_entries.proofs.Entries.{entry-bounded}
use Rattle.writer_blocks.proofs.Blocks.{block-bounded}
use Rattle.claims.specs.Calls.{Call, begin, name, entry, block, close, if_given, verdict_for, next, last}
use Rattle.claims.specs.Calls.{Writing, new_writing, dictionary_after, after, behind, Agrees, Fair}
use Rattle.claims.specs.Built.{among, held_after, held_behind, names_held, names_bytes, plain_names, built_names, Closable, HoldsNames, NamesBuilt}
use Rattle.claims.proofs.Listed.{Right, right-none, right-more, length-name, names_more, name-there, within-there, number-one, plain-count, plain-sound}
use Rattle.claims.proofs.Listed.{plain-accepted}

-- ---- a search among the names

pub found_name : (left : ℕ) (s : List ℕ) (i : ℕ) (n : List ℕ) (j : ℕ) → seek_from left s i n ≡ numbered j → (name_of s j ≡ n) × (j < i + left)
unfolding seek_from
found_name zero s i n j e = let z : ◌≡◌ {A = ℕ} 0 1 = cc in absurd (omega arith)
found_name (suc left) s i n j e = go (is_name s i n) refl (found_name left s (suc i) n j) e
  where
    go : (b : Bool) → is_name s i n ≡ b → (seek_from left s (suc i) n ≡ numbered j → (name_of s j ≡ n) × (j < suc i + left))
        → cond b (numbered i) (seek_from left s (suc i) n) ≡ numbered j → (name_of s j ≡ n) × (j < i + suc left)
    go true q ih e = let k : i ≡ j = cc in (rw (← k) (name-same s i n q), omega arith)
    go false q ih e = let r = ih e in (r.0, omega (arith, r.1))

-- of names that lie within the dictionary none is the one that isn't found
pub missing-name : (left : ℕ) (s : List ℕ) (i : ℕ) (n : List ℕ) → seek_from left s i n ≡ missing
    → (k : ℕ) → i ≤ k → k < i + left → place_of s (k + 1) ≤ length s → name_of s k ≡ n → ⊥
unfolding seek_from
missing-name zero s i n e k a b h q = absurd (omega arith)
missing-name (suc left) s i n e k a b h q = go (is_name s i n) refl (λ e a b. missing-name left s (suc i) n e k a b h q) e (dec_lt i k)
  where
    go : (t : Bool) → is_name s i n ≡ t → (seek_from left s (suc i) n ≡ missing → suc i ≤ k → k < suc i + left → ⊥)
        → cond t (numbered i) (seek_from left s (suc i) n) ≡ missing → Dec (i < k) → ⊥
    go true p ih e d = let z : ◌≡◌ {A = ℕ} 0 1 = cc in omega arith
    go false p ih e (yes d) = ih e d (omega arith)
    go false p ih e (no d) =
        let m : k ≡ i = omega arith in
        let r : is_name s k n ≡ true = whole-name s k n h ∙ ap (λ (l : List ℕ). same l n) q ∙ same_refl n in
        let f : is_name s k n ≡ false = ap (λ (x : ℕ). is_name s x n) m ∙ p in
        let z : ◌≡◌ {A = ℕ} 0 1 = cc in omega arith

pub among_there : (ns : List (List ℕ)) (n : List ℕ) (i : ℕ) → i < length ns → get_or ns i [] ≡ n → among ns n ≡ true
unfolding among
among_there [] n i h e = absurd (omega (arith, h))
among_there (x ∷ ns) n zero h e = rw (e, same_refl n)
among_there (x ∷ ns) n (suc i) h e = rw (among_there ns n i (omega (arith, h)) e) (or-true (same x n))

pub among-not : (ns : List (List ℕ)) (n : List ℕ) → ((i : ℕ) → i < length ns → get_or ns i [] ≡ n → ⊥) → among ns n ≡ false
unfolding among
among-not [] n d = refl
among-not (x ∷ ns) n d = go (same x n) refl (among-not ns n (λ i h. d (suc i) (omega (arith, h))))
  where
    go : (b : Bool) → same x n ≡ b → among ns n ≡ false → (b || among ns n) ≡ false
    go true e ih = absurd (d 0 (omega arith) (same-equal x n e))
    go false e ih = ih

-- ---- a state between begin and close is within its bounds

abbrev pub Bounds : Writer → Type 0
Bounds w = is_begun w.turn ≡ true → first_broken (begun_rules w) ≡ sound

bounds-closed : (w : Writer) → Bounds (closed w)
unfolding closed is_begun
bounds-closed w e = let z : ◌≡◌ {A = ℕ} 0 1 = cc in absurd (omega arith)

bounds-next : (w : Writer) (c : Call) → Bounds w → Bounds (next w c)
unfolding next close_of
bounds-next w (begin out) b = go (begin_of w (length out)) refl
  where
    go : (o : Outcome Step) → begin_of w (length out) ≡ o → Bounds (if_given o (λ s. s.next) w)
    go (given s) e = λ t. begin-bounded w (length out) s e
    go (refused n p) e = b
bounds-next w (name d bytes) b = go (writer.name_of w d bytes) refl
  where
    go : (o : Outcome Naming) → writer.name_of w d bytes ≡ o → Bounds (if_given o (λ s. s.next) w)
    go (given s) e = λ t. name-bounded w d bytes s e
    go (refused n p) e = b
bounds-next w (entry p u text fields) b = go (entry_of w u text (records_in fields) (fields_of fields) (length p)) refl
  where
    go : (o : Outcome Writer) → entry_of w u text (records_in fields) (fields_of fields) (length p) ≡ o → Bounds (if_given o (λ s. s) w)
    go (given s) e = λ t. entry-bounded w u text (records_in fields) (fields_of fields) (length p) s e
    go (refused n q) e = b
bounds-next w (block t a out) b = go (block_of w a (length t) (length out)) refl
  where
    go : (o : Outcome Step) → block_of w a (length t) (length out) ≡ o → Bounds (if_given o (λ s. s.next) w)
    go (given s) e = λ u. block-bounded w a (length t) (length out) s e
    go (refused n p) e = b
bounds-next w (close t plain stored out) b = go (first_broken (close_rules w t plain stored (length out))) refl
  where
    go : (v : Verdict) → first_broken (close_rules w t plain stored (length out)) ≡ v → Bounds (next w (close t plain stored out))
    go sound e = rw e (bounds-closed w)
    go (broken n p) e = rw e b

pub bounds-last : (cs : List Call) (w : Writer) → Bounds w → Bounds (last w cs)
unfolding last
bounds-last [] w b = b
bounds-last (c ∷ cs) w b = bounds-last cs (next w c) (bounds-next w c b)

pub bounds-new : Bounds new_writer
unfolding is_begun
bounds-new e = let z : ◌≡◌ {A = ℕ} 0 1 = cc in absurd (omega arith)

-- ---- the state and the lent dictionary of names held

pub record Holding (w : Writer) (d : List ℕ) (ns : List (List ℕ)) : Type 0 where
  pub count : w.names ≡ length ns
  pub size : w.dictionary ≡ 4 + length (names_bytes 0 ns)
  pub whole : 1 ≤ length ns → take w.dictionary d ≡ plain_names ns
  pub right : Right ns
  pub new : is_new w.turn ≡ true → ns ≡ []

-- in another dictionary with the same front
pub holding-lent : (w : Writer) (d e : List ℕ) (ns : List (List ℕ)) → (1 ≤ w.names → take w.dictionary e ≡ take w.dictionary d)
    → Holding w d ns → Holding w e ns
holding-lent w d e ns a g =
    record { count = g.count; size = g.size; whole = λ s. a (rw g.count s) ∙ g.whole s; right = g.right; new = g.new }

-- the names stand behind the count, whatever stands there
behind-count : (ns : List (List ℕ)) (d : List ℕ) (n : ℕ) → n ≡ 4 + length (names_bytes 0 ns) → (1 ≤ length ns → take n d ≡ plain_names ns)
    → drop 4 d ≡ names_bytes 0 ns ++ drop n d
unfolding names_bytes plain_names
behind-count [] d n e w = rw e
behind-count (x ∷ ns) d n e w =
    let m = x ∷ ns in
    ap (drop 4) (sym (take-append-drop n d)) ∙ ap (λ (l : List ℕ). drop 4 (l ++ drop n d)) (w (omega arith))
    ∙ ap (drop 4) (append_assoc (le 4 (length m)) (names_bytes 0 m) (drop n d))
    ∙ drop_at (le 4 (length m)) (names_bytes 0 m ++ drop n d) 4 (length-le 4 (length m))

-- x laid behind the front that ends at n, then a count over its first four bytes
laid : (d b x : List ℕ) (n m : ℕ) → n ≡ 4 + length b → drop 4 d ≡ b ++ drop n d → n + length x ≤ length d
    → take (n + length x) (splice (splice d n x) 0 (le 4 m)) ≡ le 4 m ++ (b ++ x)
laid d b x n m e f h =
    let c = le 4 m in
    let r = drop (n + length x) d in
    let l = splice d n x in
    let front : drop 4 (take n d) ≡ b = drop-take 4 n d ∙ ap (take (n - 4)) f ∙ take_at b (drop n d) (n - 4) (omega arith) in
    let inner : drop 4 l ≡ b ++ (x ++ r) =
    ap (drop 4) (splice-parts d x n h) ∙ drop-append-le 4 (take n d) (x ++ r) (omega (arith, length-take-le n d (omega arith)))
    ∙ ap (λ (k : List ℕ). k ++ (x ++ r)) front in
    let room : 0 + length c ≤ length l = omega (arith, length-splice d n x, length-le 4 m) in
    let four : 0 + length c ≡ 4 = omega (arith, length-le 4 m) in
    let outer : splice l 0 c ≡ c ++ (b ++ (x ++ r)) =
    splice-parts l c 0 room ∙ ap (λ (k : ℕ). c ++ drop k l) four ∙ ap (λ (k : List ℕ). c ++ k) inner in
    let seam : c ++ (b ++ (x ++ r)) ≡ (c ++ (b ++ x)) ++ r =
    ap (λ (k : List ℕ). c ++ k) (sym (append_assoc b x r)) ∙ sym (append_assoc c (b ++ x) r) in
    ap (take (n + length x)) (outer ∙ seam)
    ∙ take_at (c ++ (b ++ x)) r (n + length x) (omega (arith, length-append c (b ++ x), length-append b x, length-le 4 m))

pub begun-not-new : (t : Turn) → is_begun t ≡ true → is_new t ≡ true → ⊥
unfolding is_begun is_new
begun-not-new turn.New b n = let z : ◌≡◌ {A = ℕ} 0 1 = cc in omega arith
begun-not-new turn.Begun b n = let z : ◌≡◌ {A = ℕ} 0 1 = cc in omega arith
begun-not-new turn.Closed b n = let z : ◌≡◌ {A = ℕ} 0 1 = cc in omega arith

-- what the rules of a new name say
record New (w : Writer) (n d : List ℕ) : Type 0 where
  pub few : w.names < 65535
  pub short : length n ≤ 65535
  pub utf8 : utf8_of n ≡ true
  pub room : w.dictionary + 4 + length n ≤ length d

new-facts : (w : Writer) (n d : List ℕ) → first_broken (new_rules w n (length d)) ≡ sound → New w n d
unfolding new_rules holds
new-facts w n d e =
    let h = sound-held _ e in
    let a : w.names + 1 ≤ 65535 = leb-true _ _ h.0 in
    record { few = omega arith; short = leb-true _ _ h.1.0; utf8 = h.1.1.0; room = leb-true _ _ h.1.1.1.0 }

module _ (w : Writer) (d : List ℕ) (ns : List (List ℕ)) (g : Holding w d ns) where
  here : drop 4 d ≡ names_bytes 0 ns ++ drop w.dictionary d
  here = behind-count ns d w.dictionary g.size g.whole

  pub each-held : (i : ℕ) → i < length ns → name_of d i ≡ get_or ns i []
  each-held i l = name-there d (drop w.dictionary d) ns g.right here i l

  whole-held : (i : ℕ) → i < length ns → place_of d (i + 1) ≤ length d
  whole-held i l = within-there d (drop w.dictionary d) ns g.right here i l

  module _ (n : List ℕ) where
    held_number : (i : ℕ) → held_as w d n ≡ numbered i → (name_of d i ≡ n) × (i < length ns)
    unfolding held_as
    held_number i e = let r = found_name w.names d 0 n i e in (r.0, omega (arith, r.1, g.count))

    not-held : held_as w d n ≡ missing → (i : ℕ) → i < length ns → get_or ns i [] ≡ n → ⊥
    unfolding held_as
    not-held e i l q = missing-name w.names d 0 n e i (omega arith) (omega (arith, g.count)) (whole-held i l) (each-held i l ∙ q)

    -- a name that isn't held comes behind those held
    module _ (miss : held_as w d n ≡ missing) (new : New w n d) where
      bytes_after_lem : take (w.dictionary + 4 + length n) (appended w d n) ≡ plain_names (ns ++ (n ∷ []))
      unfolding appended plain_names
      bytes_after_lem =
          let x = name_bytes w.names n in
          let l : w.dictionary + 4 + length n ≡ w.dictionary + length x = omega (arith, length-name w.names n) in
          let c : w.names + 1 ≡ length (ns ++ (n ∷ [])) = omega (arith, g.count, length-append ns (n ∷ [])) in
          let z : w.names ≡ 0 + length ns = omega (arith, g.count) in
          let r = new.room in
          rw l (laid d (names_bytes 0 ns) x w.dictionary (w.names + 1) g.size here (omega arith)
          ∙ ap (λ (k : ℕ). le 4 k ++ (names_bytes 0 ns ++ x)) c
          ∙ ap (λ (k : ℕ). le 4 (length (ns ++ (n ∷ []))) ++ (names_bytes 0 ns ++ name_bytes k n)) z
          ∙ ap (λ (k : List ℕ). le 4 (length (ns ++ (n ∷ []))) ++ k) (sym (names_more 0 ns n)))

      more-held : is_begun w.turn ≡ true → Holding (with_name w (length n)) (appended w d n) (ns ++ (n ∷ []))
      unfolding with_name
      more-held b =
          let k = g.count in
          record {
            count = omega (arith, length-append ns (n ∷ []));
            size = rw (names_more 0 ns n) (omega (
              arith,
              g.size,
              length-append (names_bytes 0 ns) (name_bytes (0 + length ns) n),
              length-name (0 + length ns) n,
            ));
            whole = λ s. bytes_after_lem;
            right = right-more ns n g.right (omega (arith, new.few)) new.short new.utf8 (not-held miss);
            new = λ e. absurd (begun-not-new w.turn b e);
          }

-- an adding that is accepted
module _ (w : Writer) (d : List ℕ) (ns : List (List ℕ)) (g : Holding w d ns) (n : List ℕ) (b : first_broken (begun_rules w) ≡ sound) where
  name-holds : (f : Found) → held_as w d n ≡ f → first_broken (unless_held f (new_rules w n (length d))) ≡ sound
      → Holding (naming_of f w n).next (names_after f w d n) (cond (among ns n) ns (ns ++ (n ∷ [])))
  name-holds (numbered i) e q =
      let r = held_number w d ns g n i e in
      rw (among_there ns n i r.1 (sym (each-held w d ns g i r.1) ∙ r.0)) g
  name-holds missing e q =
      rw (among-not ns n (not-held w d ns g n e)) (more-held w d ns g n e (new-facts w n d q) (turn-begun w b))

  name-numbers : (f : Found) → held_as w d n ≡ f → first_broken (unless_held f (new_rules w n (length d))) ≡ sound
      → ((naming_of f w n).number < (naming_of f w n).next.names) × (name_of (names_after f w d n) (naming_of f w n).number ≡ n)
  unfolding with_name
  name-numbers (numbered i) e q = let r = held_number w d ns g n i e in (omega (arith, r.1, g.count), r.0)
  name-numbers missing e q =
      let m = more-held w d ns g n e (new-facts w n d q) (turn-begun w b) in
      let l : length ns < length (ns ++ (n ∷ [])) = omega (arith, length-append ns (n ∷ [])) in (
        omega arith,
        ap (name_of (appended w d n)) g.count ∙ each-held (with_name w (length n)) (appended w d n) (ns ++ (n ∷ [])) m (length ns) l
            ∙ get_or-append_seam ns n [] [],
      )

-- a name that is held is found by its number
old-number : (w : Writer) (d : List ℕ) (ns : List (List ℕ)) (g : Holding w d ns) (i : ℕ) → i < length ns → (f : Found) → held_as w d (get_or ns i []) ≡ f
    → numbered i ≡ f
old-number w d ns g i l (numbered j) e =
    let r = held_number w d ns g (get_or ns i []) j e in
    ap numbered (number-one d (drop w.dictionary d) ns g.right (here w d ns g) i j l r.1 (each-held w d ns g i l ∙ sym r.0))
old-number w d ns g i l missing e = absurd (not-held w d ns g (get_or ns i []) e i l refl)

-- ---- one call

-- a state with the same names in the same dictionary, and no newer turn
kept : (w v : Writer) (d : List ℕ) (ns : List (List ℕ)) → v.names ≡ w.names → v.dictionary ≡ w.dictionary
    → (is_new v.turn ≡ true → is_new w.turn ≡ true) → Holding w d ns → Holding v d ns
kept w v d ns a b t g =
    record { count = a ∙ g.count; size = b ∙ g.size; whole = λ s. rw b (g.whole s); right = g.right; new = λ e. g.new (t e) }

begun-holds : (w : Writer) (d : List ℕ) (ns : List (List ℕ)) → is_new w.turn ≡ true → Holding w d ns → Holding begun_writer d ns
unfolding names_bytes
begun-holds w d ns e g =
    let n = g.new e in
    rw n (record { count = refl; size = refl; whole = λ s. absurd (omega (arith, s)); right = right-none; new = λ t. refl })

pub begin-new : (w : Writer) (room : ℕ) → first_broken (begin_rules w room) ≡ sound → is_new w.turn ≡ true
unfolding begin_rules holds
begin-new w room e = (sound-held (begin_rules w room) e).0

closed-not-new : (w : Writer) → is_new (closed w).turn ≡ true → is_new w.turn ≡ true
unfolding closed is_new
closed-not-new w e = let z : ◌≡◌ {A = ℕ} 0 1 = cc in absurd (omega arith)

name-parts : (w : Writer) (d n : List ℕ) → first_broken (name_rules w d n) ≡ sound
    → (first_broken (begun_rules w) ≡ sound) × (first_broken (unless_held (held_as w d n) (new_rules w n (length d))) ≡ sound)
unfolding name_rules
name-parts w d n e = parts-sound (begun_rules w) _ e

module _ (h : Writing) (ns : List (List ℕ)) (g : Holding h.writer h.dictionary ns) where
  abbrev w : Writer
  w = h.writer

  abbrev After : Call → Type 0
  After c = Holding (next w c) (dictionary_after h c) (held_after ns w c)

  begin-after : (out : List ℕ) (v : Verdict) → first_broken (begin_rules w (length out)) ≡ v → After (begin out)
  unfolding next dictionary_after held_after begin_of
  begin-after out sound e = rw e (begun-holds w h.dictionary ns (begin-new w (length out) e) g)
  begin-after out (broken n p) e = rw e g

  name-after : (d n : List ℕ) → (verdict_for w (name d n) ≡ sound → Agrees h (name d n)) → (v : Verdict) → first_broken (name_rules w d n) ≡ v
      → After (name d n)
  unfolding verdict_for next dictionary_after held_after writer.name_of name_out
  name-after d n a sound e =
      let p = name-parts w d n e in
      rw e (name-holds w d ns (holding-lent w h.dictionary d ns (a (rw e)) g) n p.0 (held_as w d n) refl p.1)
  name-after d n a (broken m p) e = rw e g

  pub holding-next : (c : Call) → (verdict_for w c ≡ sound → Agrees h c) → After c
  unfolding next dictionary_after held_after entry_of with_entry block_of with_block close_of closed
  holding-next (begin out) a = begin-after out (first_broken (begin_rules w (length out))) refl
  holding-next (name d n) a = name-after d n a (first_broken (name_rules w d n)) refl
  holding-next (entry p t text fields) a = go (first_broken (entry_rules w t text (records_in fields) (fields_of fields) (length p))) refl
    where
      go : (v : Verdict) → first_broken (entry_rules w t text (records_in fields) (fields_of fields) (length p)) ≡ v → After (entry p t text fields)
      go sound e = rw e (kept w (with_entry w t (fields_of fields)) h.dictionary ns refl refl (λ x. x) g)
      go (broken n q) e = rw e g
  holding-next (block t b out) a = go (first_broken (block_rules w b (length t) (length out))) refl
    where
      go : (v : Verdict) → first_broken (block_rules w b (length t) (length out)) ≡ v → After (block t b out)
      go sound e = rw e (kept w (with_block w b) h.dictionary ns refl refl (λ x. x) g)
      go (broken n p) e = rw e g
  holding-next (close t plain stored out) a = go (first_broken (close_rules w t plain stored (length out))) refl
    where
      go : (v : Verdict) → first_broken (close_rules w t plain stored (length out)) ≡ v → After (close t plain stored out)
      go sound e = rw e (kept w (closed w) h.dictionary ns refl refl (closed-not-new w) g)
      go (broken n p) e = rw e g

-- ---- every list of calls

pub holding-behind : (cs : List Call) (h : Writing) (ns : List (List ℕ)) → Fair h cs → Holding h.writer h.dictionary ns
    → Holding (behind h cs).writer (behind h cs).dictionary (held_behind ns h.writer cs)
unfolding behind held_behind Fair
holding-behind [] h ns f g = g
holding-behind (c ∷ cs) h ns f g = holding-behind cs (after h c) (held_after ns h.writer c) f.1 (holding-next h ns g c f.0.1)

pub holding-new : Holding new_writer [] []
unfolding names_bytes
holding-new = record { count = refl; size = refl; whole = λ s. absurd (omega (arith, s)); right = right-none; new = λ t. refl }

pub behind-writer : (cs : List Call) (h : Writing) → (behind h cs).writer ≡ last h.writer cs
unfolding behind last
behind-writer [] h = refl
behind-writer (c ∷ cs) h = behind-writer cs (after h c)

pub bounds-behind : (cs : List Call) → Bounds (behind new_writing cs).writer
bounds-behind cs = rw (behind-writer cs new_writing) (bounds-last cs new_writer bounds-new)

module _ (k : Writing) (ns : List (List ℕ)) (g : Holding k.writer k.dictionary ns) (b : Bounds k.writer) where
  abbrev v : Writer
  v = k.writer

  number-told : (d n : List ℕ) (s : Naming) → Agrees k (name d n) → writer.name_of v d n ≡ given s
      → (s.number < s.next.names) × (name_of (name_out v d n) s.number ≡ n)
  unfolding writer.name_of name_out
  number-told d n s a e =
      let f = held_as v d n in
      let q = settle-given (first_broken (name_rules v d n)) (naming_of f v n) s (sym e) in
      let p = name-parts v d n q.0 in
      rw (q.0, q.1) (name-numbers v d ns (holding-lent v k.dictionary d ns a g) n p.0 f refl p.1)

  old-told : is_begun v.turn ≡ true → (d : List ℕ) (i : ℕ) → i < length ns → Agrees k (name d (get_or ns i []))
      → (writer.name_of v d (get_or ns i []) ≡ given (record { next = v; number = i })) × (name_out v d (get_or ns i []) ≡ d)
  old-told t d i l a =
      let n = get_or ns i [] in
      let r = name-held v d n (b t) i (old-number v d ns (holding-lent v k.dictionary d ns a g) i l (held_as v d n) refl) in
      (sym r.0, sym r.1)

  closing-sound : 1 ≤ length ns → (t stored out : List ℕ) → Closable v t stored out → verdict_for v (close t (built_names k) stored out) ≡ sound
  unfolding verdict_for close_of close_rules end_rules last_rules
  closing-sound s t stored out c =
      let n = le_at 4 (plain_names ns) 0 in
      let size = length (last_bytes v t stored) in
      let ends : first_broken (end_rules v (length t) stored) ≡ sound =
      flag-holds _ _ _ _ (ap not c.shut) ∙ least-holds _ _ _ _ _ c.rows ∙ most-holds _ _ _ _ _ c.fits ∙ least-holds _ _ _ _ _ c.some ∙ first-none in
      let lasts : first_broken (last_rules v n size (length out)) ≡ sound =
      least-holds _ _ _ _ _ (omega (arith, plain-count ns g.right, g.count, c.given)) ∙ least-holds _ _ _ _ _ c.room ∙ first-none in
      let all : first_broken (close_rules v t (plain_names ns) stored (length out)) ≡ sound =
      then-sound (begun_rules v) _ (b c.turn) ∙ then-sound (end_rules v (length t) stored) _ ends
      ∙ then-sound (dictionary_rules (plain_names ns)) _ (plain-sound ns g.right) ∙ lasts in
      rw (g.whole s, all)

  holds-names : HoldsNames k ns
  holds-names =
      record {
        count = g.count;
        bytes = g.whole;
        accepted = λ s. ap dictionary_of (g.whole s) ∙ plain-accepted ns g.right ∙ ap given (sym g.count);
        closes = closing-sound;
        each = each-held v k.dictionary ns g;
        number = number-told;
        old = old-told;
      }

pub names-built : NamesBuilt
unfolding NamesBuilt
names-built cs f = holds-names (behind new_writing cs) (names_held cs) (holding-behind cs new_writing [] f holding-new) (bounds-behind cs)
