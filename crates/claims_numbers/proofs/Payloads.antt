-- Lists of rules whose numbers are all in the table, and the rules of plain bytes: entries, steps, names, packing. Assumes nothing.
use mathlib.Core.Path.{◌≡◌, refl}
use mathlib.Core.Bool.{Bool, true, false, cond, ◌&&◌}
use mathlib.Core.List.{List, [], ◌∷◌, ◌++◌}
use Prim.Native.Nat.{ℕ, zero, suc, ◌+◌, ◌≤◌}
use lib.Dec.{leb, ltb}
use borrow.Author.Tests.{leb-true}
use lib.ListN.{length, drop}
use Rattle.verdict.specs.Rules.{Rule, holds, number_of, place_of, Verdict, sound, broken, first_broken, Outcome, given, refused, settle, on_given, verdict_in}
use Rattle.verdict.specs.Rules.{ruled}
use Rattle.parts.specs.declared.BlockHeader.{BlockHeader}
use Rattle.cursor.specs.Step.{Step, step, refuse, keep, and_then, outcome, mapped}
use Rattle.cursor.specs.Reading.{read_delta, read_count, read_field, delta_rules, count_rules, field_rules}
use Rattle.cursor.specs.declared.Field.{Field}
use Rattle.cursor.specs.declared.Cursor.{Cursor}
use Rattle.cursor.specs.Answers.{delta_at, as_delta, count_at, as_count, field_at, as_field}
use Rattle.entries.specs.Model.{Entry}
use Rattle.entries.specs.Reading.{read_fields, order_rules, read_entry, entries_from, entries_of}
use Rattle.entries.specs.Answers.{as_entry, rest_at}
use Rattle.entries.specs.Block as block
use Rattle.packing.specs.Entry.{field_size}
use Rattle.packing.specs.Rules as packing
use Rattle.packing.proofs.Answers.{and_both}
use Rattle.names.specs.Dictionary as names
use Rattle.lookup.specs.Lookup.{span_of, lookup_of}
use Rattle.name_search.specs.Search.{seek_of}
use Rattle.label.specs.Label as label
use Rattle.claims_numbers.specs.Numbers.{in_table, Listed, delta_verdict, count_verdict, field_verdict, entry_verdict}

-- ---- a refusal's number isn't 0, which says at the C edge that the call was accepted

pub listed-positive : (n p : ℕ) → Listed (broken n p) → 1 ≤ n
listed-positive n p h = leb-true 1 n (and_both (leb 1 n) _ h).0

-- ---- lists of rules

unfoldable pub all_listed : List Rule → Bool
all_listed [] = true
all_listed (r ∷ rs) = in_table (number_of r) && all_listed rs

and-true : (a b : Bool) → a ≡ true → b ≡ true → (a && b) ≡ true
and-true true b h g = g
and-true false b h g = h

pub cond-listed : (t : Bool) (v u : Verdict) → Listed v → Listed u → Listed (cond t v u)
cond-listed true v u h g = h
cond-listed false v u h g = g

pub first-listed : (rs : List Rule) → all_listed rs ≡ true → Listed (first_broken rs)
unfolding all_listed first_broken
first-listed [] h = tt
first-listed (r ∷ rs) h =
    let b = and_both (in_table (number_of r)) (all_listed rs) h in
    cond-listed (holds r) (first_broken rs) (broken (number_of r) (place_of r)) (first-listed rs b.1) b.0

pub both : (rs qs : List Rule) → all_listed rs ≡ true → all_listed qs ≡ true → all_listed (rs ++ qs) ≡ true
unfolding all_listed
both [] qs h g = g
both (r ∷ rs) qs h g =
    let b = and_both (in_table (number_of r)) (all_listed rs) h in
    and-true (in_table (number_of r)) (all_listed (rs ++ qs)) b.0 (both rs qs b.1 g)

pub ruled-numbered : (v : Verdict) → Listed v → all_listed (ruled v) ≡ true
unfolding all_listed ruled number_of
ruled-numbered sound h = refl
ruled-numbered (broken n p) h = and-true (in_table n) true h refl

pub settle-listed : {A : Type 0} (v : Verdict) (a : A) → Listed v → Listed (verdict_in (settle v a))
settle-listed sound a h = tt
settle-listed (broken n p) a h = h

pub settled : {A : Type 0} (rs : List Rule) (a : A) → all_listed rs ≡ true → Listed (verdict_in (settle (first_broken rs) a))
settled rs a h = settle-listed (first_broken rs) a (first-listed rs h)

-- ---- reading steps

abbrev Sure : {A : Type 0} → Step A → Type 0
Sure (step a u) = Unit {0}
Sure (refuse n p) = in_table n ≡ true

keep-sure : {A : Type 0} (v : Verdict) (s : Step A) → Listed v → Sure s → Sure (keep v s)
keep-sure sound s h g = g
keep-sure (broken n p) s h g = h

then-sure : {A B : Type 0} (s : Step A) (f : A → ℕ → Step B) → Sure s → ((a : A) (u : ℕ) → Sure (f a u)) → Sure (and_then s f)
then-sure (step a u) f h g = g a u
then-sure (refuse n p) f h g = h

delta-sure : (w at : ℕ) (r : List ℕ) → Sure (read_delta w at r)
unfolding read_delta delta_rules all_listed number_of
delta-sure w at r = keep-sure (first_broken (delta_rules w at r)) _ (first-listed (delta_rules w at r) refl) tt

count-sure : (w : ℕ) (r : List ℕ) → Sure (read_count w r)
unfolding read_count count_rules all_listed number_of
count-sure w r = keep-sure (first_broken (count_rules w r)) _ (first-listed (count_rules w r) refl) tt

field-listed : (w n at : ℕ) (r : List ℕ) → Listed (first_broken (field_rules w n at r))
unfolding field_rules all_listed number_of
field-listed w n at r = first-listed (field_rules w n at r) refl

field-sure : (w n at : ℕ) (r : List ℕ) → Sure (read_field w n at r)
unfolding read_field
field-sure w n at r = keep-sure (first_broken (field_rules w n at r)) _ (field-listed w n at r) tt

pub delta-at : (s : List ℕ) (at : ℕ) → Listed (delta_verdict (delta_at s at))
unfolding delta_at as_delta
delta-at s at = go (read_delta (length s) at (drop at s)) (delta-sure (length s) at (drop at s))
  where
    go : (k : Step ℕ) → Sure k → Listed (delta_verdict (as_delta at k))
    go (step d u) h = tt
    go (refuse n p) h = h

pub count_at_lem : (s : List ℕ) (at : ℕ) → Listed (count_verdict (count_at s at))
unfolding count_at as_count
count_at_lem s at = go (read_count (length s) (drop at s)) (count-sure (length s) (drop at s))
  where
    go : (k : Step ℕ) → Sure k → Listed (count_verdict (as_count at k))
    go (step d u) h = tt
    go (refuse n p) h = h

as-field : (v : Verdict) (f : Field) (c : Cursor) → Listed v → Listed (field_verdict (as_field v f c))
unfolding as_field
as-field sound f c h = tt
as-field (broken n p) f c h = h

pub field-at : (s : List ℕ) (n at : ℕ) → Listed (field_verdict (field_at s n at))
unfolding field_at
field-at s n at = as-field (first_broken (field_rules (length s) n at (drop at s))) _ _ (field-listed (length s) n at (drop at s))

-- ---- entries

fields-sure : (k w n at : ℕ) (r : List ℕ) → Sure (read_fields k w n at r)
unfolding read_fields
fields-sure zero w n at r = tt
fields-sure (suc k) w n at r =
    then-sure (read_field w n at r) _ (field-sure w n at r)
    (λ f u. then-sure (read_fields k w n (at + u) (drop u r)) _ (fields-sure k w n (at + u) (drop u r)) (λ fs z. tt))

order-listed : (start n prev at d : ℕ) → Listed (first_broken (order_rules start n prev at d))
unfolding order_rules all_listed number_of
order-listed start n prev at d = first-listed (order_rules start n prev at d) refl

entry-sure : (w names start n prev at : ℕ) (r : List ℕ) → Sure (read_entry w names start n prev at r)
unfolding read_entry
entry-sure w names start n prev at r =
    then-sure (read_delta w at r) _ (delta-sure w at r)
    (λ d u. keep-sure (first_broken (order_rules start n prev at d)) _ (order-listed start n prev at d)
    (then-sure (read_count w (drop u r)) _ (count-sure w (drop u r))
    (λ k m. then-sure (read_fields k w names (at + u + m) (drop (u + m) r)) _ (fields-sure k w names (at + u + m) (drop (u + m) r)) (λ fs z. tt))))

as-entry : (at : ℕ) (k : Step Entry) → Sure k → Listed (entry_verdict (as_entry at k))
unfolding as_entry
as-entry at (step e u) h = tt
as-entry at (refuse n p) h = h

pub rest-listed : (s : List ℕ) (names time at : ℕ) → Listed (entry_verdict (rest_at s names time at))
unfolding rest_at
rest-listed s names time at =
    let behind : ℕ → ℕ → Step Entry =
    λ k m. and_then (read_fields k (length s) names (at + m) (drop (at + m) s)) (λ fs z. step (record { time = time; fields = fs }) (m + z)) in
    as-entry at (and_then (read_count (length s) (drop at s)) behind)
    (then-sure (read_count (length s) (drop at s)) behind (count-sure (length s) (drop at s))
    (λ k m. then-sure (read_fields k (length s) names (at + m) (drop (at + m) s)) _ (fields-sure k (length s) names (at + m) (drop (at + m) s)) (λ fs z. tt)))

outcome-listed : {A B : Type 0} (s : Step A) (f : A → ℕ → Outcome B) → Sure s
    → ((a : A) (u : ℕ) → Listed (verdict_in (f a u)))
    → Listed (verdict_in (outcome s f))
outcome-listed (step a u) f h g = g a u
outcome-listed (refuse n p) f h g = h

mapped-listed : {A B : Type 0} (f : A → B) (o : Outcome A) → Listed (verdict_in o) → Listed (verdict_in (mapped f o))
mapped-listed f (given a) h = tt
mapped-listed f (refused n p) h = h

either_listed : {A : Type 0} (t : Bool) (o q : Outcome A) → Listed (verdict_in o) → Listed (verdict_in q) → Listed (verdict_in (cond t o q))
either_listed true o q h g = h
either_listed false o q h g = g

from-listed : (f w names start n prev at : ℕ) (r : List ℕ) → Listed (verdict_in (entries_from f w names start n prev at r))
unfolding entries_from
from-listed zero w names start n prev at r = either_listed (ltb 0 (length r)) (refused 11 at) (given []) refl tt
from-listed (suc f) w names start n prev at r =
    either_listed (ltb 0 (length r)) _ _
    (outcome-listed (read_entry w names start n prev at r) _ (entry-sure w names start n prev at r)
    (λ e u. mapped-listed _ (entries_from f w names start (suc n) e.time (at + u) (drop u r))
    (from-listed f w names start (suc n) e.time (at + u) (drop u r))))
    tt

pub entries-listed : (s : List ℕ) (start names : ℕ) → Listed (verdict_in (entries_of s start names))
unfolding entries_of
entries-listed s start names = either_listed (ltb 0 (length s)) _ _ (from-listed (length s) (length s) names start 0 start 0 s) refl

against-listed : (s : List ℕ) (h : BlockHeader) (o : Outcome (List Entry)) → Listed (verdict_in o) → Listed (block.held_against s h o)
unfolding block.held_against block.block_rules all_listed number_of
against-listed s h (given es) g = first-listed (block.block_rules s h es) refl
against-listed s h (refused n p) g = g

pub block_listed : (s : List ℕ) (h : BlockHeader) (names : ℕ) → Listed (block.block_verdict s h names)
unfolding block.block_verdict
block_listed s h names = against-listed s h (entries_of s h.start.0 names) (entries-listed s h.start.0 names)

-- ---- packing

text-numbered : (fs : List Field) → all_listed (packing.text_rules fs) ≡ true
unfolding packing.text_rules all_listed number_of
text-numbered [] = refl
text-numbered (f ∷ fs) = text-numbered fs

fields-numbered : (n : ℕ) (t : List ℕ) (at : ℕ) (fs : List Field) → all_listed (packing.field_rules n t at fs) ≡ true
unfolding packing.field_rules all_listed number_of
fields-numbered n t at [] = refl
fields-numbered n t at (f ∷ fs) = fields-numbered n t (at + field_size f) fs

pub pack-numbered : (room at d n : ℕ) (t : List ℕ) (count : ℕ) (fs : List Field) → all_listed (packing.pack_rules room at d n t count fs) ≡ true
unfolding packing.pack_rules packing.sized_rules packing.room_rules all_listed number_of
pack-numbered room at d n t count fs =
    both (packing.text_rules fs) _ (text-numbered fs) (both (packing.field_rules n t _ fs) _ (fields-numbered n t _ fs) refl)

-- ---- names

names-numbered : (left : ℕ) (s : List ℕ) (i : ℕ) → all_listed (names.names_rules left s i) ≡ true
unfolding names.names_rules names.shape_rules names.new_rule all_listed number_of
names-numbered zero s i = refl
names-numbered (suc left) s i = names-numbered left s (i + 1)

pub dictionary-numbered : (s : List ℕ) → all_listed (names.dictionary_rules s) ≡ true
unfolding names.dictionary_rules all_listed number_of
dictionary-numbered s = names-numbered _ s 0

pub dictionary-listed : (s : List ℕ) → Listed (verdict_in (names.dictionary_of s))
unfolding names.dictionary_of
dictionary-listed s = settled (names.dictionary_rules s) _ (dictionary-numbered s)

on-listed : {A B : Type 0} (o : Outcome A) (f : A → Outcome B) → Listed (verdict_in o) → ((a : A) → Listed (verdict_in (f a)))
    → Listed (verdict_in (on_given o f))
on-listed (given a) f h g = g a
on-listed (refused n p) f h g = h

pub lookup-listed : (s : List ℕ) (i : ℕ) → Listed (verdict_in (lookup_of s i))
unfolding lookup_of
lookup-listed s i =
    on-listed (names.dictionary_of s) _ (dictionary-listed s) (λ n. either_listed (ltb i n) (given (span_of s i)) (refused 14 i) tt refl)

pub seek-listed : (s n : List ℕ) → Listed (verdict_in (seek_of s n))
unfolding seek_of
seek-listed s n = on-listed (names.dictionary_of s) _ (dictionary-listed s) (λ m. tt)

print-numbered : (i : ℕ) (s : List ℕ) → all_listed (label.print_rules i s) ≡ true
unfolding label.print_rules all_listed number_of
print-numbered i [] = refl
print-numbered i (b ∷ s) = print-numbered (suc i) s

pub label-listed : (name : List ℕ) (room : ℕ) → Listed (verdict_in (label.label_of name room))
unfolding label.label_of label.label_rules all_listed number_of
label-listed name room = settled (label.label_rules name room) _ (both (label.print_rules 0 name) _ (print-numbered 0 name) refl)
