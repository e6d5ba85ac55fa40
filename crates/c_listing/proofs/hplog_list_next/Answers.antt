-- `c_listing::hplog_list_next` meets its contract. Assumes nothing.
use Rattle.c_listing.proofs.hplog_list_next.Goals as goal

pub returns : goal.returns
returns c =
    record {
      says = rw c.accepted.ensures;
      piece = rw (c.listing_of.ensures, c.accepted.ensures, ← c.state_of.ensures) c.render-piece.ensures;
    }
