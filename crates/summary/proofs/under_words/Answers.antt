-- `under_words` meets its contract. Assumes nothing.
use Prim.Native.Nat.{ℕ}
use lib.ListN.{get_or-replicate}
use native.Mathlib.Omega.{arith}
use Rattle.plan_check.proofs.Accepted.{clean}
use Rattle.summary.proofs.Bytes.{stand_words, no_words}
use Rattle.summary.proofs.under_words.Goals as goal

pub bounds-standing-node : goal.bounds-standing-node
bounds-standing-node c = omega (arith, c.requires.1, (clean _ c.requires.0).fits.limits.nodes)

pub node_marks-requires : goal.node_marks-requires
node_marks-requires c = c.requires

pub returns-then-standing-node-eq1 : goal.returns-then-standing-node-eq1
returns-then-standing-node-eq1 c = let p = c.requires in
    stand_words _ _ p.0 _ p.1 c.if-standing-node-eq1.true c.node_marks.ensures

pub returns-else-standing-node-eq1 : goal.returns-else-standing-node-eq1
returns-else-standing-node-eq1 c = let p = c.requires in
    no_words _ _ p.0 _ p.1 c.if-standing-node-eq1.false (λ i l. get_or-replicate {A = ℕ} 16 i 0 0 l)
