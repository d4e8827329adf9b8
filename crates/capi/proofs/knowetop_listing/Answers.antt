-- `knowetop_listing` meets its contract. Assumes nothing.
use Rattle.capi.proofs.Numbers.{written_is, short_is}
use Rattle.capi.proofs.Listing.{short}
use Rattle.capi.proofs.Told.{listing_told}
use Rattle.capi.proofs.knowetop_listing.Goals as goal

pub written_number-requires : goal.written_number-requires
written_number-requires c = short_is _ (short _ _ _ c.listing.ensures)

pub returns : goal.returns
returns c = listing_told _ _ _ c.listing.ensures (written_is _ c.written_number.ensures)
