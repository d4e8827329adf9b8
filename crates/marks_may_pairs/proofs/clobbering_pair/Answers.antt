-- `clobbering_pair` meets its contract: no pair passed so far clobbers a wanted literal. Assumes nothing.
use Rattle.tables.proofs.Turns.{position, last_turn}
use Rattle.marks_may_pairs.proofs.Search.{goes_on, partner_passed, child_passed, pair_found, nothing_found}
use Rattle.marks_may_pairs.proofs.clobbering_pair.Goals as goal

pub loop-j-init : goal.loop-j-init
loop-j-init c =
    let at = position c.search.invariant.1.child c.search-test.true in
    (c.search.invariant.0, goes_on c.search.invariant.1 at c.from-c.ensures c.next_partner-j.ensures)

pub loop-j-preserved : goal.loop-j-preserved
loop-j-preserved c =
    let stands = c.loop-j.invariant.1 in
    let at = position stands.child c.search-test.true in
    let to = position stands.partner c.loop-j-test.true in (
      c.loop-j.invariant.0,
      partner_passed stands at to c.from-c.ensures
          c.pair_words-pair.ensures c.if-pair-ne0.false,
    )

pub search-preserved : goal.search-preserved
search-preserved c =
    let stands = c.loop-j.invariant.1 in
    let at = position stands.child c.search-test.true in
    (c.loop-j.invariant.0, child_passed stands at (last_turn stands.partner c.loop-j-test.false))

pub returns-after-search : goal.returns-after-search
returns-after-search c = let stands = c.search.invariant.1 in
    rw c.search.invariant.0 (nothing_found stands (last_turn stands.child c.search-test.false))

pub returns-then-pair-ne0 : goal.returns-then-pair-ne0
returns-then-pair-ne0 c =
    let stands = c.loop-j.invariant.1 in
    let at = position stands.child c.search-test.true in
    let to = position stands.partner c.loop-j-test.true in
    pair_found stands at to c.from-c.ensures c.pair_words-pair.ensures
    c.if-pair-ne0.true
