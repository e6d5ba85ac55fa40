-- Where a listing stands, as a struct for programs in C. Assumes nothing.
use Rattle.std.specs.Prelude.{ℕ, zero, suc}
use Rattle.listing_places.specs.declared.Place.{Place}
use Rattle.listing_places.specs.declared.State.{State}
use Rattle.listing_places.specs.declared.State.TheVariants.{Blocks, Entries, Entry, Fields, Name, Value, Text}
use Rattle.listing_places.specs.declared.State.TheVariants.{Refused, End}
use Rattle.listing_numbers.specs.declared.Listing.{Listing}

abbrev pub place_in : Listing → Place
place_in l =
    record {
      blocks = l.blocks;
      at = l.at;
      plain = l.plain;
      dictionary = l.dictionary;
      length = l.length;
      names = l.names;
      range = record { from = record { 0 = l.t1 }; to = record { 0 = l.t2 } };
      entries = l.entries;
      pos = l.pos;
      fields = l.fields;
    }

-- the state of a kind; any other kind is the end
unfoldable pub state_for : (kind : ℕ) → Listing → State
state_for zero l = End
state_for (suc zero) l = Blocks (place_in l) l.from
state_for (suc (suc zero)) l = Entries (place_in l) l.from
state_for (suc (suc (suc zero))) l = Entry (place_in l)
state_for (suc (suc (suc (suc zero)))) l = Fields (place_in l)
state_for (suc (suc (suc (suc (suc zero))))) l = Name (place_in l) l.from l.left
state_for (suc (suc (suc (suc (suc (suc zero)))))) l = Value (place_in l)
state_for (suc (suc (suc (suc (suc (suc (suc zero))))))) l = Text (place_in l) l.from l.left
state_for (suc (suc (suc (suc (suc (suc (suc (suc zero)))))))) l =
    Refused (record { number = l.fields; place = l.from })
state_for (suc (suc (suc (suc (suc (suc (suc (suc (suc k))))))))) l = End

unfoldable pub state_in : Listing → State
state_in l = state_for l.kind l

-- a state at a place, and one without
abbrev pub listing_at : (kind : ℕ) → Place → (from left : ℕ) → Listing
listing_at kind p from left =
    record {
      at = p.at;
      plain = p.plain;
      dictionary = p.dictionary;
      length = p.length;
      pos = p.pos;
      from = from;
      left = left;
      t1 = p.range.from.0;
      t2 = p.range.to.0;
      blocks = p.blocks;
      names = p.names;
      entries = p.entries;
      fields = p.fields;
      kind = kind;
    }

abbrev pub listing_off : (kind number place : ℕ) → Listing
listing_off kind number place =
    record {
      at = 0;
      plain = 0;
      dictionary = 0;
      length = 0;
      pos = 0;
      from = place;
      left = 0;
      t1 = 0;
      t2 = 0;
      blocks = 0;
      names = 0;
      entries = 0;
      fields = number;
      kind = kind;
    }
