-- The plain dictionary of a list of names: what is read of it, and that it is accepted. Assumes nothing.
use mathlib.Core.Path.{◌≡◌, refl, sym, ap, ◌∙◌}
use mathlib.Core.Bool.{true, false, not}
use mathlib.Core.List.{List, [], ◌∷◌, ◌++◌, append_assoc, append-nil}
use Prim.Native.Nat.{ℕ, zero, suc, ◌+◌, ◌-◌, ◌≤◌, ◌<◌}
use native.Mathlib.Nat.{add-zero}
use native.Mathlib.Numerals.{add-one}
use native.Mathlib.Omega.{arith}
use native.Mathlib.Decide.{dec_lt}
use lib.ListN.{length, get_or, drop, length-append, length-drop, get_or-append}
use lib.Seq.{take_at, drop_at, drop-drop, drop-cons, drop-length, get_or-append_seam}
use Rattle.verdict.specs.Rules.{sound, first_broken, given}
use Rattle.verdict.proofs.Laws.{first-none, flag-holds, equal-holds, least-holds, most-holds, then-sound}
use Rattle.wire.specs.Wire.{le, le_at}
use Rattle.wire.proofs.Numbers.{length-le, le_at-drop, le_at-le}
use Rattle.utf8.specs.Utf8.{utf8_of}
use Rattle.names.specs.Dictionary.{name_at, next_at, place_of, name_of, held, shape_rules, new_rule, names_rules, dictionary_rules, dictionary_of}
use Rattle.names.proofs.Places.{next-is, place-first, name-is, name-part, held-not}
use Rattle.names.proofs.Shapes.{text}
use Rattle.writer_names.specs.Name.{name_bytes}
use Rattle.claims.specs.Built.{names_bytes, plain_names}

-- ---- one name, where it stands

module _ (s x rest : List ℕ) (i q : ℕ) (here : drop q s ≡ name_bytes i x ++ rest) (fits : i < 65536) (short : length x < 65536) where
  there : drop q s ≡ le 2 i ++ (le 2 (length x) ++ (x ++ rest))
  unfolding name_bytes
  there =
      here ∙ append_assoc (le 2 i) (le 2 (length x) ++ x) rest ∙ ap (λ (l : List ℕ). le 2 i ++ l) (append_assoc (le 2 (length x)) x rest)

  id-here : le_at 2 s q ≡ i
  id-here =
      ap (le_at 2 s) (sym (add-zero q)) ∙ sym (le_at-drop 2 q s 0) ∙ ap (λ (l : List ℕ). le_at 2 l 0) there
      ∙ le_at-le 2 i [] (le 2 (length x) ++ (x ++ rest)) fits

  size-here : le_at 2 s (q + 2) ≡ length x
  size-here =
      sym (le_at-drop 2 q s 2) ∙ ap (λ (l : List ℕ). le_at 2 l 2) there
      ∙ (rw (length-le 2 i) at (le_at-le 2 (length x) (le 2 i) (x ++ rest) short))

  behind-sizes : drop (q + 4) s ≡ x ++ rest
  behind-sizes =
      sym (drop-drop 4 q s) ∙ ap (drop 4) there ∙ sym (drop-drop 2 2 (le 2 i ++ (le 2 (length x) ++ (x ++ rest))))
      ∙ ap (drop 2) (drop_at (le 2 i) (le 2 (length x) ++ (x ++ rest)) 2 (length-le 2 i))
      ∙ drop_at (le 2 (length x)) (x ++ rest) 2 (length-le 2 (length x))

  pub name-here : name_at s q ≡ x
  name-here = name-part s q ∙ rw (size-here, behind-sizes) (take_at x rest (length x) refl)

  pub next_here : next_at s q ≡ q + 4 + length x
  next_here = next-is s q ∙ rw size-here

  pub rest-here : drop (q + 4 + length x) s ≡ rest
  rest-here = sym (drop-drop (length x) (q + 4) s) ∙ ap (drop (length x)) behind-sizes ∙ drop_at x rest (length x) refl

  pub length-here : length s ≡ q + 4 + length x + length rest
  length-here =
      let a : length s - q ≡ length (le 2 i ++ (le 2 (length x) ++ (x ++ rest))) = sym (length-drop q s) ∙ ap length there in
      omega (
        arith,
        length-append (le 2 i) (le 2 (length x) ++ (x ++ rest)),
        length-append (le 2 (length x)) (x ++ rest),
        length-append x rest,
        length-le 2 i,
        length-le 2 (length x),
      )

  pub shape-here : utf8_of x ≡ true → first_broken (shape_rules s i q) ≡ sound
  shape-here e =
      let l = length-here in
      let n = next_here in
      text s i q (omega arith) id-here (omega arith) (omega arith) (ap utf8_of name-here ∙ e)

pub length-name : (i : ℕ) (x : List ℕ) → length (name_bytes i x) ≡ 4 + length x
unfolding name_bytes
length-name i x = omega (arith, length-append (le 2 i) (le 2 (length x) ++ x), length-append (le 2 (length x)) x, length-le 2 i, length-le 2 (length x))

length_none : (i : ℕ) → length (names_bytes i []) ≡ 0
unfolding names_bytes
length_none i = refl

length-cons : (i : ℕ) (n : List ℕ) (ns : List (List ℕ)) → length (names_bytes i (n ∷ ns)) ≡ length (name_bytes i n ++ names_bytes (suc i) ns)
unfolding names_bytes
length-cons i n ns = refl

-- ---- names that make a dictionary: at most 65,535, each of at most 65,535 bytes of UTF-8, no two equal

pub record Right (ns : List (List ℕ)) : Type 0 where
  pub few : length ns ≤ 65535
  pub short : (i : ℕ) → i < length ns → length (get_or ns i []) ≤ 65535
  pub utf8 : (i : ℕ) → i < length ns → utf8_of (get_or ns i []) ≡ true
  pub new : (j : ℕ) → j < length ns → (i : ℕ) → i < j → get_or ns i [] ≡ get_or ns j [] → ⊥

pub right-none : Right []
right-none =
    record {
      few = omega arith;
      short = λ i h. absurd (omega arith);
      utf8 = λ i h. absurd (omega arith);
      new = λ j h. absurd (omega arith);
    }

-- what holds of each and of one more behind them
each_more : (P : ℕ → List ℕ → Type 0) (ns : List (List ℕ)) (x : List ℕ) → ((i : ℕ) → i < length ns → P i (get_or ns i [])) → P (length ns) x
    → (i : ℕ) → i < length (ns ++ (x ∷ [])) → P i (get_or (ns ++ (x ∷ [])) i [])
each_more P ns x f g i h = go (dec_lt i (length ns))
  where
    go : Dec (i < length ns) → P i (get_or (ns ++ (x ∷ [])) i [])
    go (yes l) = rw (get_or-append ns (x ∷ []) [] i l) (f i l)
    go (no l) = let e : i ≡ length ns = omega (arith, length-append ns (x ∷ [])) in rw (e, get_or-append_seam ns x [] []) g

pub right-more : (ns : List (List ℕ)) (x : List ℕ) → Right ns → length ns < 65535 → length x ≤ 65535 → utf8_of x ≡ true
    → ((i : ℕ) → i < length ns → get_or ns i [] ≡ x → ⊥) → Right (ns ++ (x ∷ []))
right-more ns x r m l u d =
    record {
      few = omega (arith, length-append ns (x ∷ []));
      short = each_more (λ i n. length n ≤ 65535) ns x r.short l;
      utf8 = each_more (λ i n. utf8_of n ≡ true) ns x r.utf8 u;
      new =
          each_more (λ j n. (i : ℕ) → i < j → get_or (ns ++ (x ∷ [])) i [] ≡ n → ⊥) ns x
          (λ j h i k e. r.new j h i k (sym (get_or-append ns (x ∷ []) [] i (omega arith)) ∙ e))
          (λ i k e. d i k (sym (get_or-append ns (x ∷ []) [] i k) ∙ e));
    }

-- their bytes, with one more
pub names_more : (i : ℕ) (ns : List (List ℕ)) (x : List ℕ) → names_bytes i (ns ++ (x ∷ [])) ≡ names_bytes i ns ++ name_bytes (i + length ns) x
unfolding names_bytes
names_more i [] x = rw (add-zero, append-nil)
names_more i (n ∷ ns) x =
    let e : i + suc (length ns) ≡ suc i + length ns = omega arith in
    rw e (ap (λ (l : List ℕ). name_bytes i n ++ l) (names_more (suc i) ns x)
    ∙ sym (append_assoc (name_bytes i n) (names_bytes (suc i) ns) (name_bytes (suc i + length ns) x)))

-- ---- bytes that have them behind a count

module _ (s t : List ℕ) (ns : List (List ℕ)) (right : Right ns) (here : drop 4 s ≡ names_bytes 0 ns ++ t) where
  abbrev Behind : ℕ → List ℕ
  Behind i = names_bytes (suc i) (drop (suc i) ns) ++ t

  name-first : (i : ℕ) → i < length ns → drop (place_of s i) s ≡ names_bytes i (drop i ns) ++ t → drop (place_of s i) s ≡ name_bytes i (get_or ns i [])
      ++ Behind i
  unfolding names_bytes
  name-first i l e =
      e ∙ ap (λ (m : List (List ℕ)). names_bytes i m ++ t) (drop-cons ns i [] l)
      ∙ append_assoc (name_bytes i (get_or ns i [])) (names_bytes (suc i) (drop (suc i) ns)) t

  -- name i stands at its place, and the others behind it
  stands : (i : ℕ) → i ≤ length ns → drop (place_of s i) s ≡ names_bytes i (drop i ns) ++ t
  unfolding place_of
  stands zero l = here
  stands (suc i) l =
      let h = name-first i l (stands i (omega arith)) in
      let f : i < 65536 = omega (arith, right.few) in
      let g : length (get_or ns i []) < 65536 = omega (arith, right.short i l) in
      ap (λ (q : ℕ). drop q s) (next_here s (get_or ns i []) (Behind i) i (place_of s i) h f g) ∙ rest-here s (get_or ns i []) (Behind i) i (place_of s i) h f g

  module _ (i : ℕ) (l : i < length ns) where
    h : drop (place_of s i) s ≡ name_bytes i (get_or ns i []) ++ Behind i
    h = name-first i l (stands i (omega arith))

    f : i < 65536
    f = omega (arith, right.few)

    g : length (get_or ns i []) < 65536
    g = omega (arith, right.short i l)

    pub name-there : name_of s i ≡ get_or ns i []
    name-there = name-is s i ∙ name-here s (get_or ns i []) (Behind i) i (place_of s i) h f g

    shape-there : first_broken (shape_rules s i (place_of s i)) ≡ sound
    shape-there = shape-here s (get_or ns i []) (Behind i) i (place_of s i) h f g (right.utf8 i l)

    place_after : place_of s (suc i) ≡ place_of s i + 4 + length (get_or ns i [])
    unfolding place_of
    place_after = next_here s (get_or ns i []) (Behind i) i (place_of s i) h f g

    -- up to its last byte
    pub within-there : place_of s (i + 1) ≤ length s
    within-there = rw add-one (omega (arith, place_after, length-here s (get_or ns i []) (Behind i) i (place_of s i) h f g))

  new-there : (i : ℕ) → i < length ns → held s i (name_of s i) ≡ false
  new-there i l = held-not s (name_of s i) i (λ j k e. right.new i l j k (sym (name-there j (omega arith)) ∙ e ∙ name-there i l))

  -- no two numbers have the same name
  pub number-one : (i j : ℕ) → i < length ns → j < length ns → name_of s i ≡ name_of s j → i ≡ j
  number-one i j l m e = go (dec_lt i j) (dec_lt j i)
    where
      n : get_or ns i [] ≡ get_or ns j []
      n = sym (name-there i l) ∙ e ∙ name-there j m

      go : Dec (i < j) → Dec (j < i) → i ≡ j
      go (yes a) b = absurd (right.new j m i a n)
      go (no a) (yes b) = absurd (right.new i l j b (sym n))
      go (no a) (no b) = omega arith

  -- where the last ends
  sizes : (i : ℕ) → i ≤ length ns → place_of s i + length (names_bytes i (drop i ns)) ≡ 4 + length (names_bytes 0 ns)
  sizes zero l = rw place-first
  sizes (suc i) l =
      let n = get_or ns i [] in
      let m = names_bytes (suc i) (drop (suc i) ns) in
      let a : length (names_bytes i (drop i ns)) ≡ length (name_bytes i n ++ m) = ap (λ (k : List (List ℕ)). length (names_bytes i k)) (drop-cons ns i [] l)
      ∙ length-cons i n (drop (suc i) ns) in
      omega (arith, sizes i (omega arith), place_after i l, length-append (name_bytes i n) m, length-name i n)

  pub end-there : place_of s (length ns) ≡ 4 + length (names_bytes 0 ns)
  end-there =
      let e : length (names_bytes (length ns) (drop (length ns) ns)) ≡ 0 = ap (λ (k : List (List ℕ)). length (names_bytes (length ns) k)) (drop-length ns)
      ∙ length_none (length ns) in
      omega (arith, sizes (length ns) (omega arith))

-- ---- the plain dictionary alone

module _ (ns : List (List ℕ)) (right : Right ns) where
  pub length-plain : length (plain_names ns) ≡ 4 + length (names_bytes 0 ns)
  unfolding plain_names
  length-plain = omega (arith, length-append (le 4 (length ns)) (names_bytes 0 ns), length-le 4 (length ns))

  plain-there : drop 4 (plain_names ns) ≡ names_bytes 0 ns ++ []
  unfolding plain_names
  plain-there = drop_at (le 4 (length ns)) (names_bytes 0 ns) 4 (length-le 4 (length ns)) ∙ sym (append-nil (names_bytes 0 ns))

  pub plain-count : le_at 4 (plain_names ns) 0 ≡ length ns
  unfolding plain_names
  plain-count = le_at-le 4 (length ns) [] (names_bytes 0 ns) (omega (arith, right.few))

  -- the names from name i on break no rule
  names-sound : (left i : ℕ) → i + left ≡ length ns → first_broken (names_rules left (plain_names ns) i) ≡ sound
  unfolding names_rules new_rule
  names-sound zero i e =
      let s = plain_names ns in
      let a : i ≡ length ns = omega arith in
      let b : place_of s i ≡ length s = ap (place_of s) a ∙ end-there s [] ns right plain-there ∙ sym length-plain in
      equal-holds 10 (place_of s i) [] (place_of s i) (length s) b ∙ first-none
  names-sound (suc left) i e =
      let s = plain_names ns in
      let l : i < length ns = omega arith in
      then-sound (shape_rules s i (place_of s i)) _ (shape-there s [] ns right plain-there i l)
      ∙ flag-holds 10 (place_of s i + 4) (names_rules left s (i + 1)) (not (held s i (name_of s i))) (ap not (new-there s [] ns right plain-there i l))
      ∙ names-sound left (i + 1) (omega arith)

  pub plain-sound : first_broken (dictionary_rules (plain_names ns)) ≡ sound
  unfolding dictionary_rules
  plain-sound =
      let s = plain_names ns in
      let l = length-plain in
      least-holds 10 0 _ (length s) 4 (omega arith) ∙ most-holds 10 0 _ (le_at 4 s 0) 65535 (omega (arith, plain-count, right.few))
      ∙ rw plain-count (names-sound (length ns) 0 (omega arith))

  pub plain-accepted : dictionary_of (plain_names ns) ≡ given (length ns)
  unfolding dictionary_of
  plain-accepted = rw (plain-sound, plain-count)
